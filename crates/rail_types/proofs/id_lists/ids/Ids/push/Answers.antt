use Rattle.std.proofs.Common.{ℕ, List, ap, ◌∙◌, ◌++◌, ◌∷◌, [], map, string_bytes}
use Rattle.std.specs.Str.{bytes_eq}
use Rattle.rail_types.proofs.Keys.{pushed_seen}
use Rattle.rail_types.specs.IdLists.{is_known}
use Rattle.rail_types.proofs.id_lists.ids.Ids.push.Goals as goal

pub returns-clause-ok : goal.returns-clause-ok
returns-clause-ok c =
    pushed_seen (λ key. string_bytes key) (bytes_eq (string_bytes c.in_ok-key.key)) c.self.inside.set.keys c.insert.new.self.keys c.in_ok-key.key c.in_ok-insert.ensures.keys (ap (λ (n : List ℕ). is_known n (map (λ key. string_bytes key) c.self.inside.set.keys)) c.in_ok-key.ensures.ok ∙ ap (is_known c.args.id.now) c.self.view_is ∙ c.requires.fresh)
    ∙ ap (λ (ids : List (List ℕ)). ids ++ string_bytes c.in_ok-key.key ∷ []) c.self.view_is
    ∙ ap (λ (n : List ℕ). c.args.self.now ++ n ∷ []) c.in_ok-key.ensures.ok

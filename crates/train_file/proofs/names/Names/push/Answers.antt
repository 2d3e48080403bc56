use Rattle.std.proofs.Common.{◌≡◌, ℕ, List, ap, ◌∙◌, ◌++◌, ◌∷◌, [], sym, subst, map, Bool, false}
use Rattle.std.specs.List.{list_any}
use Rattle.std.specs.Str.{bytes_eq}
use Rattle.train_file.proofs.Keys.{pushed_seen}
use Rattle.train_file.proofs.names.Names.push.Goals as goal

pub returns-clause-ok : goal.returns-clause-ok
returns-clause-ok c =
    pushed_seen (λ key. key.items) (bytes_eq c.in_ok-key.key.items) c.self.inside.set.keys c.insert.new.self.keys c.in_ok-key.key c.in_ok-insert.ensures.keys (ap (λ (n : List ℕ). list_any (bytes_eq n) (map (λ key. key.items) c.self.inside.set.keys)) c.in_ok-key.ensures.items ∙ ap (list_any (bytes_eq c.args.name.now)) c.self.view_is ∙ c.requires.fresh)
    ∙ ap (λ (ns : List (List ℕ)). ns ++ c.in_ok-key.key.items ∷ []) c.self.view_is
    ∙ ap (λ (n : List ℕ). c.args.self.now ++ n ∷ []) c.in_ok-key.ensures.items

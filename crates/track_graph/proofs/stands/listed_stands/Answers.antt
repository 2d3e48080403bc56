use Rattle.std.proofs.Common.{refl, rules}
use Rattle.std.proofs.lemmas.List.Sorted.{IsNonDecreasingBy-from_sort_by_key, answers_always, ties_still_rise}
use Rattle.track_graph.proofs.Sorting.{front_rises, sorted_are}
use Rattle.track_graph.proofs.stands.listed_stands.Goals as goal

pub returns : goal.returns
returns c =
    sorted_are _ _ c.in_ok-listed.listed.items c.sort_by_key.new.self.items c.in_ok-listed.ensures refl c.sort_by_key.ensures.permutation
    (IsNonDecreasingBy-from_sort_by_key (λ stand. stand.position) _ c.in_ok-sort_by_key.ensures.sorted (λ a r q k. search rules))
    (ties_still_rise (λ stand. stand.number) (λ stand. stand.position) c.in_ok-listed.listed.items c.sort_by_key.new.self.items (front_rises _ _ _ c.in_ok-listed.ensures)
    (c.sort_by_key.ensures.stable (λ stand. stand.position) (answers_always _ _ _ (λ f a r g h. search rules))))

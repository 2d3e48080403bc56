use Rattle.std.proofs.Common.{◌≡◌, ℕ, ℤ, Bool, ◌∙◌, ◌≤ℤ◌, sym, subst, ap, All}
use Rattle.std.proofs.lemmas.Result.{IfOk-weaker}
use Rattle.std.proofs.lemmas.List.Sorted.{All-permutation, IsPermutation-sym}
use Rattle.label_search.specs.Labels.{HasAllFrom, IsIn, IsReached}
use Rattle.label_search.proofs.Fronts.{in_permutation, fronts_through}
use Rattle.label_search.proofs.labels.Labels.fronts.Goals as goal

pub merged-requires : goal.merged-requires
merged-requires c = record { some = subst (All (λ front. front.ticks.from ≤ℤ front.ticks.to)) (sym c.as_slice-2.ensures.value) (All-permutation (λ front. front.ticks.from ≤ℤ front.ticks.to) _ _ c.sort_unstable.ensures.permutation c.in_ok-parts.ensures.some) }

pub returns-clause-sound : goal.returns-clause-sound
returns-clause-sound c =
    let same : c.as_slice.result.now ≡ c.args.self.now.labels = c.as_slice.ensures.value ∙ ap (λ known. known.labels) c.self.view_is in
    IfOk-weaker c.merged.result
    (λ fronts. (place : ℕ) (ready : Bool) (tick : ℤ) → IsIn fronts.items place ready tick → IsIn c.as_slice-2.result.now place ready tick)
    (λ fronts. (place : ℕ) (ready : Bool) (tick : ℤ) → IsIn fronts.items place ready tick → IsReached c.args.self.now.labels place ready tick)
    (λ fronts sound place ready tick is. subst (λ labels. IsReached labels place ready tick) same (c.in_ok-parts.ensures.sound place ready tick
    (in_permutation _ _ (IsPermutation-sym _ _ c.sort_unstable.ensures.permutation) place ready tick (subst (λ parts. IsIn parts place ready tick) c.as_slice-2.ensures.value (sound place ready tick is)))))
    c.merged.ensures.sound

pub returns-clause-complete : goal.returns-clause-complete
returns-clause-complete c =
    let same : c.as_slice.result.now ≡ c.args.self.now.labels = c.as_slice.ensures.value ∙ ap (λ known. known.labels) c.self.view_is in
    IfOk-weaker c.merged.result
    (λ fronts. (place : ℕ) (ready : Bool) (tick : ℤ) → IsIn c.as_slice-2.result.now place ready tick → IsIn fronts.items place ready tick)
    (λ fronts. HasAllFrom c.args.from c.args.self.now.labels fronts.items)
    (λ fronts complete. subst (λ labels. HasAllFrom c.args.from labels fronts.items) same (fronts_through _ c.args.from _ _ c.in_ok-parts.ensures (λ place ready tick is.
    complete place ready tick (subst (λ parts. IsIn parts place ready tick) (sym c.as_slice-2.ensures.value)
    (in_permutation _ _ c.sort_unstable.ensures.permutation place ready tick is)))))
    c.merged.ensures.complete

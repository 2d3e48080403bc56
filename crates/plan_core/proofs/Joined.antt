-- The claims that are live when an entry comes, or goes again.
use Rattle.std.proofs.Common.{◌≡◌, ◌++◌, ◌∷◌, ℕ, List, [], length, take, Option, Some, None, IfSome, IsNone, sym, subst, ap, refl, ◌∙◌, arith, length-append}
use Rattle.std.proofs.lemmas.List.{take_at}
use Rattle.rail_types.specs.declared.entries.Entry.{Entry}
use Rattle.rail_types.specs.Occupation.{HeldClaim}
use Rattle.rail_types.specs.Timetables.{Timetable}
use Rattle.grant_log.specs.Following.{AreLive}
use Rattle.grant_log.specs.Legal.{Register}

pub live_before : (one other : Timetable) (entries longer : List Entry) (entry : Entry) (front : ℕ) (held : List HeldClaim) → other ≡ one → longer ≡ entries ++ entry ∷ [] → front ≡ length entries → AreLive one held entries → AreLive other held (take front longer)
live_before one other entries longer entry front held same parts count live =
    let cut : take front longer ≡ entries = ap (take front) parts ∙ take_at entries (entry ∷ []) front (sym count) in
    subst (λ all. AreLive other held all) (sym cut) (subst (λ timetable. AreLive timetable held entries) (sym same) live)

-- the last entry is taken out again
same_front : (one other : List Entry) (a b : Entry) → one ++ a ∷ [] ≡ other ++ b ∷ [] → one ≡ other
same_front one other a b same =
    let count : length one ≡ length other = let long = ap length same in omega (arith, long, length-append one (a ∷ []), length-append other (b ∷ [])) in
    sym (take_at one (a ∷ []) (length one) refl) ∙ (ap (take (length one)) same ∙ take_at other (b ∷ []) (length one) (sym count))

pub popped : (old new : Register) (result : Option Entry) (entries : List Entry) (entry : Entry) → old.entries ≡ entries ++ entry ∷ [] → IfSome result (λ last. old ≡ record new { entries = new.entries ++ last ∷ [] }) → (IsNone result → old.entries ≡ []) → new.entries ≡ entries
popped old new None entries entry parts some none = absurd (let long = ap length (sym parts ∙ none refl) in omega (arith, long, length-append entries (entry ∷ [])))
popped old new (Some last) entries entry parts some none = same_front new.entries entries last entry (sym (ap (λ (r : Register). r.entries) some) ∙ parts)

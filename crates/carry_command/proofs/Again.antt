-- What is told again of an entry that was carried.
use Rattle.std.proofs.Common.{◌≡◌, ◌∙◌, ℕ, true, false, List, take, Some, None, slice_get, All, sym}
use Rattle.std.proofs.Common.{ap, subst}
use Rattle.rail_types.specs.declared.entries.Deed.{Deed}
use Rattle.rail_types.specs.declared.entries.Deed.TheVariants.{Free}
use Rattle.rail_types.specs.declared.entries.Entry.{Entry}
use Rattle.rail_types.specs.Timetables.{Timetable}
use Rattle.path_recover.specs.history.declared.verdicts.Verdict.TheVariants.{Kept}
use Rattle.path_recover.specs.history.Content.{HaveSameContent}
use Rattle.path_recover.specs.history.Live.{freed_by}
use Rattle.path_recover.specs.history.Meanings.{IsNumbered, Says}
use Rattle.path_recover.specs.history.Verdict.{takes, verdict_on}
use Rattle.path_recover.proofs.history_lemmas.Bringing.{unfreed_by}
use Rattle.carry_command.specs.Carried.{AreKept, IsCarriedTo}
use Rattle.carry_command.specs.declared.carried_history.reasons.LeftOut.{LeftOut}

not_free : (deed : Deed) (at : ℕ) → takes deed ≡ true → deed ≡ Free at → ⊥
not_free deed at takes_zones is = let wrong : false ≡ true = sym (ap takes is) ∙ takes_zones in cc

-- nothing that was carried frees anything
kept_unfreed : (old entries : List Entry) (kept : List ℕ) → AreKept old entries kept → (at : ℕ) → freed_by entries at ≡ None
kept_unfreed old entries kept are at = unfreed_by entries at (λ place other later here. not_free other.deed at (are.each place other here).2.takes_zones)

pub carried_is_told : ((timetable : Timetable) (entries : List Entry) (entry : Entry) → Says timetable entries entry (verdict_on timetable entries entry))
    → (timetable : Timetable) (old : List Entry) (front : ℕ) (entries : List Entry) (kept : List ℕ) (left : List LeftOut) (place : ℕ) (entry again : Entry) → IsCarriedTo timetable old front entries kept left → slice_get entries place ≡ Some entry
    → IsNumbered again.owner again.number entry → HaveSameContent entry.deed again.deed → Says timetable entries again (Kept place)
carried_is_told law timetable old front entries kept left place entry again carried here numbered same =
    let joins = carried.legal place entry here in
    let says = subst (Says timetable (take place entries) entry) joins.fresh (law timetable (take place entries) entry) in
    let first = subst (λ (p : List ℕ × ℕ). All (λ (other : Entry). ¬ IsNumbered p.0 p.1 other) (take place entries)) (λ i. (numbered.0 i, numbered.1 i)) says.0 in
    ((entry, record { here = here; numbered = numbered; first = first }, same), kept_unfreed old entries kept carried.are_kept place)

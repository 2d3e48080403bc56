-- What a hold or a grant with a new number is told.
use Rattle.std.proofs.Common.{◌≡◌, ◌↔◌, ◌∙◌, ℕ, true, false, List, length, slice_get, Contains}
use Rattle.std.proofs.Common.{Some, None, refl, sym, ap, arith}
use Rattle.std.proofs.lemmas.List.Elements.{All-contains}
use Rattle.std.proofs.lemmas.Option.{slice_get_within}
use Rattle.path_recover.specs.history.declared.verdicts.Verdict.{Verdict}
use Rattle.path_recover.specs.history.declared.verdicts.Verdict.TheVariants.{Kept, Gone, Other}
use Rattle.path_recover.specs.history.declared.verdicts.Verdict.TheVariants.{BreaksRequest, Taken}
use Rattle.path_recover.specs.history.declared.verdicts.Verdict.TheVariants.{Unknown, NotYours}
use Rattle.path_recover.specs.history.declared.verdicts.Verdict.TheVariants.{AlreadyFreed, Fresh}
use Rattle.path_recover.specs.history.Live.{claims_of, freed_by, live_claims}
use Rattle.path_recover.specs.history.Meanings.{IsNew, IsNumbered, Says, StandsAt}
use Rattle.path_recover.specs.history.Verdict.{breaks, freed_position, taken_or_fresh, takes}
use Rattle.path_recover.specs.history.Verdict.{verdict_by_place, verdict_on}
use Rattle.path_recover.proofs.history_lemmas.Places.{is_new}
use Rattle.path_recover.proofs.history_lemmas.Repeats.{told_of_claims}
use Rattle.path_recover.proofs.history_lemmas.Slices.{is_contained}
use Rattle.rail_types.specs.declared.entries.Deed.{Deed}
use Rattle.rail_types.specs.declared.entries.Deed.TheVariants.{Hold, Grant, Free}
use Rattle.rail_types.specs.declared.entries.Entry.{Entry}
use Rattle.rail_types.specs.declared.entries.Owner.TheVariants.{Base as of_train, Entry as of_entry}
use Rattle.rail_types.specs.declared.paths.Claim.{Claim}
use Rattle.rail_types.specs.FirstClash.{first_clash}
use Rattle.rail_types.specs.Occupation.{HeldClaim}
use Rattle.rail_types.specs.Timetables.{Timetable}
use Rattle.carry_command.specs.CarriedInside.{IsToldNew}

-- each claim that is live with an entry as its owner is one of an entry that stands there
abbrev pub Unfreed : Timetable → List Entry → Type 0
Unfreed timetable entries =
    (claim : Claim) (at : ℕ) → Contains (live_claims timetable entries) (claim, of_entry at) ↔
    ((entry : Entry) × (slice_get entries at ≡ Some entry)
    × Contains (claims_of timetable entry.deed) claim × (freed_by entries at ≡ None))

not_stands : (entries : List Entry) (entry : Entry) (at : ℕ) (stands : Entry) → IsNew entries entry → StandsAt entries entry at stands → ⊥
not_stands entries entry at stands new is =
    All-contains (λ other. ¬ IsNumbered entry.owner entry.number other) entries stands new (is_contained entries at stands is.here) is.numbered

not_free : (deed : Deed) (at : ℕ) → takes deed ≡ true → deed ≡ Free at → ⊥
not_free deed at takes_zones is = let wrong : false ≡ true = sym (ap takes is) ∙ takes_zones in absurd cc

pub told_new : (timetable : Timetable) (entries : List Entry) (entry : Entry) (verdict : Verdict) (count : ℕ) → takes entry.deed ≡ true → IsNew entries entry → count ≡ length entries → Unfreed timetable entries → Says timetable entries entry verdict → IsToldNew count verdict
told_new timetable entries entry (Kept at) count takes_zones new same law says = absurd (not_stands entries entry at says.0.0 new says.0.1)
told_new timetable entries entry (Gone at freer) count takes_zones new same law says = absurd (not_stands entries entry at says.0.0 new says.0.1)
told_new timetable entries entry (Other at) count takes_zones new same law says = absurd (not_stands entries entry at says.0 new says.1)
told_new timetable entries entry (BreaksRequest rule) count takes_zones new same law says = tt
told_new timetable entries entry (Taken claim (of_train train)) count takes_zones new same law says = tt
told_new timetable entries entry (Taken claim (of_entry place)) count takes_zones new same law says =
    let stands = (law claim place).0 says.1.first.is_held in
    let within = slice_get_within entries place stands.0 stands.1 in
    omega (arith, within, same)
told_new timetable entries entry Unknown count takes_zones new same law says = absurd (not_free entry.deed says.1.0 takes_zones says.1.1)
told_new timetable entries entry (NotYours owner) count takes_zones new same law says = absurd (not_free entry.deed says.1.0 takes_zones says.1.2.frees)
told_new timetable entries entry (AlreadyFreed freer) count takes_zones new same law says = absurd (not_free entry.deed says.1.0 takes_zones says.1.2.frees)
told_new timetable entries entry Fresh count takes_zones new same law says = tt

no_free : (deed : Deed) → takes deed ≡ true → freed_position deed ≡ None
no_free (Hold claims reason) takes_zones = refl
no_free (Grant wanted path) takes_zones = refl
no_free (Free at) takes_zones = let wrong : false ≡ true = takes_zones in absurd cc

-- a hold or a grant with a new number, which breaks no rule, is told by the claims that are held
pub told_by_held : (timetable : Timetable) (entries : List Entry) (entry : Entry) (held : List HeldClaim) (claims : List Claim) → takes entry.deed ≡ true → IsNew entries entry → breaks timetable entry.deed ≡ None → claims ≡ claims_of timetable entry.deed
    → first_clash (live_claims timetable entries) claims ≡ first_clash held claims → verdict_on timetable entries entry ≡ taken_or_fresh (first_clash held claims)
told_by_held timetable entries entry held claims takes_zones new keeps own alike =
    ap (verdict_by_place timetable entries entry) (is_new entries entry new)
    ∙ (told_of_claims timetable entries entry.owner entry.deed (no_free entry.deed takes_zones) keeps
    ∙ ap taken_or_fresh (ap (first_clash (live_claims timetable entries)) (sym own) ∙ alike))

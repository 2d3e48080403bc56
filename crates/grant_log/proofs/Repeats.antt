-- What is told of a number that stands.
use Rattle.std.proofs.Common.{◌≡◌, ℕ, cond, List, Option, Some, None, refl, slice_get, sym, ap, ◌∙◌}
use Rattle.rail_types.specs.declared.entries.Entry.{Entry}
use Rattle.rail_types.specs.declared.entries.Deed.{Deed}
use Rattle.rail_types.specs.declared.entries.Deed.TheVariants.{Hold, Grant, Free}
use Rattle.rail_types.specs.Timetables.{Timetable}
use Rattle.grant_log.specs.declared.verdicts.Verdict.{Verdict}
use Rattle.grant_log.specs.declared.verdicts.Verdict.TheVariants.{Other}
use Rattle.grant_log.specs.Content.{has_same_content}
use Rattle.grant_log.specs.Live.{freed_by}
use Rattle.grant_log.specs.Verdict.{breaks, broken_or_else, first_taken, freed_position, taken_or_fresh, verdict_on_deed, kept_or_gone, place_of, repeat_at, verdict_by_place, verdict_on, verdict_on_repeat}

pub repeat_told : (entries : List Entry) (deed : Deed) (at : ℕ) (stands : Entry) (freer : Option ℕ) (verdict : Verdict) → slice_get entries at ≡ Some stands → freer ≡ freed_by entries at → verdict ≡ cond (has_same_content stands.deed deed) (kept_or_gone at freer) (Other at) → verdict ≡ repeat_at entries deed at
repeat_told entries deed at stands freer verdict here freed told =
    told ∙ (ap (λ f. cond (has_same_content stands.deed deed) (kept_or_gone at f) (Other at)) freed ∙ sym (ap (verdict_on_repeat entries deed at) here))

pub told_at_place : (timetable : Timetable) (entries : List Entry) (entry : Entry) (at : ℕ) → place_of entries entry.owner entry.number ≡ Some at → verdict_on timetable entries entry ≡ repeat_at entries entry.deed at
told_at_place timetable entries entry at place = ap (verdict_by_place timetable entries entry) place

pub same_told : (a b : Option ℕ) → Some a ≡ Some b → a ≡ b
same_told a b same = cc

pub told_of_claims : (timetable : Timetable) (entries : List Entry) (owner : List ℕ) (deed : Deed) → freed_position deed ≡ None → breaks timetable deed ≡ None → verdict_on_deed timetable entries owner deed ≡ taken_or_fresh (first_taken timetable entries deed)
told_of_claims timetable entries owner (Hold claims reason) other keeps = refl
told_of_claims timetable entries owner (Grant wanted path) other keeps = ap (λ rule. broken_or_else rule (taken_or_fresh (first_taken timetable entries (Grant wanted path)))) keeps
told_of_claims timetable entries owner (Free at) other keeps = let wrong : Some at ≡ None = other in cc

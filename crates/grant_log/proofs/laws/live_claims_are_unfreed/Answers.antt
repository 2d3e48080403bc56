use Rattle.std.proofs.Common.{◌≡◌, Some, None, Contains, slice_get, sym, subst, inl, inr, ◌∙◌}
use Rattle.rail_types.specs.declared.entries.Owner.TheVariants.{Base as of_train, Entry as of_entry}
use Rattle.grant_log.specs.Live.{freed_by}
use Rattle.grant_log.proofs.Lives.{live_cases, planned_is_live, planned_owner, unfreed_is_live}
use Rattle.grant_log.proofs.laws.live_claims_are_unfreed.Goals as goal

pub returns-clause-unfreed : goal.returns-clause-unfreed
returns-clause-unfreed c timetable entries claim at = (
  λ contains. elim (live_cases timetable entries (claim, of_entry at) contains) [
    | inl planned ↦
        let train = planned_owner timetable (claim, of_entry at) planned in
        let wrong : of_entry at ≡ of_train train.0 = train.1 in
        cc
    | inr found ↦
        let is = found.2 in
        let owner : of_entry at ≡ of_entry found.0 = is.owner in
        let same : found.0 ≡ at = cc in
        (found.1, subst (λ k. slice_get entries k ≡ Some found.1) same is.stands, is.claim, subst (λ k. freed_by entries k ≡ None) same is.unfreed)
  ],
  λ found. unfreed_is_live timetable entries at found.0 claim found.1 found.2 found.3,
)

pub returns-clause-planned : goal.returns-clause-planned
returns-clause-planned c timetable entries claim train = (
  λ contains. elim (live_cases timetable entries (claim, of_train train) contains) [
    | inl planned ↦ planned
    | inr found ↦
        let is = found.2 in
        let wrong : of_train train ≡ of_entry found.0 = is.owner in
        cc
  ],
  planned_is_live timetable entries (claim, of_train train),
)

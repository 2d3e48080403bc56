-- *inside*: what is known once the passes of clients are one.
use Rattle.std.specs.Prelude.{ℕ, ◌≤◌, All, List, flat_map, length, sum_by, IsPermutation}
use Rattle.line_answers.specs.gate.Views.{StartsWith, own, rises}
use Rattle.line_answers.specs.turns.Turns.{Sight, timetable_at}
use Rattle.line_answers.specs.Calls.{IsToldIn}
use Rattle.line_answers.specs.turns.declared.shared.Shared.{Shared}
use Rattle.rail_types.specs.declared.entries.Entry.{Entry}
use Rattle.served_clients.specs.Seats.{callers_at, found_at}
use Rattle.served_clients.specs.Talks.{AreBelowEnd, AreProved, AreSettledWithin, faults, IsTalk}
use Rattle.served_clients.specs.Talks.{IsWithinSettled, printed, Talk, unsettled}

-- what a history gives to one of the clients, by no fewer entries than were found
abbrev pub IsTalkOf : {D : Type 0} → Shared D → List Entry → Talk → Type 0
IsTalkOf shared history talk =
    IsTalk history (callers_at shared talk.name) (length (found_at shared.gate)) talk.rules
    talk.traffic.told

-- the proofs that go along with the replies to one of the clients are what a history gives, by no
-- fewer entries than were found
abbrev pub AreProofsOf : {D : Type 0} → Shared D → List Entry → Talk → Type 0
AreProofsOf shared history talk =
    AreProved history shared.known (timetable_at shared.gate) talk.proves
    (length (found_at shared.gate)) talk.traffic.told

-- the passes of these sessions were joined into the one that knows v
pub record AreJoined {D : Type 0} (shared : Shared D) (v : Sight) (talks : List Talk)
    : Type 0 where
  pub replies : (history : List Entry) → All (λ list. StartsWith history list) v.joined
      → All (IsTalkOf shared history) talks
  pub proved : (history : List Entry) → All (λ list. StartsWith history list) v.joined
      → All (AreProofsOf shared history) talks
  pub entries : IsPermutation (flat_map (λ talk. printed talk.traffic.told) talks) (own v.turns)
  pub counts : AreBelowEnd v.turns
      → sum_by (λ talk. faults talk.traffic.told) talks ≤ rises v.turns
  pub told_so : All (IsToldIn (flat_map (λ talk. unsettled talk.traffic.told) talks)) v.turns
  pub settled : (most : ℕ) → AreSettledWithin v.turns most
      → All (λ talk. All (IsWithinSettled most) talk.traffic.told) talks

-- Replies by what a turn told. *inside*
use Rattle.std.specs.Prelude.{◌≡◌, ℕ}
use Rattle.client_lines.specs.declared.faults.LineFault.{LineFault}
use Rattle.client_lines.specs.declared.faults.LineFault.TheVariants as fault
use Rattle.ask_turns.specs.history.declared.verdicts.Verdict.{Verdict}
use Rattle.ask_turns.specs.history.declared.verdicts.Verdict.TheVariants as verdict
use Rattle.client_lines.specs.declared.reply_texts.replies.Reply.{Reply}
use Rattle.client_lines.specs.declared.reply_texts.replies.Reply.TheVariants as reply
use Rattle.ask_turns.specs.declared.client_turns.halts.Halt.{Halt}
use Rattle.ask_turns.specs.declared.client_turns.halts.Halt.TheVariants as halt
use Rattle.ask_turns.specs.declared.client_turns.told.Refusal.{Refusal}
use Rattle.ask_turns.specs.declared.client_turns.told.Refusal.TheVariants.{Kept, Other}

-- the reply to a line that was not read
abbrev pub fault_reply : LineFault → Reply
fault_reply (fault.Bad field) = reply.Bad field
fault_reply fault.Memory = reply.NoMemory

-- the reply where a turn was halted
abbrev pub halt_reply : Halt → Reply
halt_reply halt.DiskFault = reply.DiskFault
halt_reply halt.NoMemory = reply.NoMemory
halt_reply (halt.Ahead after front) = reply.Ahead after front

-- verdicts that a hold, a path of a client's own, and a Free may be told,
-- but that they are kept or fresh
abbrev pub IsOfHold : Verdict → Type 0
IsOfHold (verdict.Gone at freer) = Unit {0}
IsOfHold (verdict.Other at) = Unit {0}
IsOfHold (verdict.Taken claim owner) = Unit {0}
IsOfHold other = ⊥

abbrev pub IsOfPin : Verdict → Type 0
IsOfPin (verdict.BreaksRequest rule) = Unit {0}
IsOfPin other = IsOfHold other

abbrev pub IsOfFree : Verdict → Type 0
IsOfFree (verdict.Gone at freer) = Unit {0}
IsOfFree (verdict.Other at) = Unit {0}
IsOfFree verdict.Unknown = Unit {0}
IsOfFree (verdict.NotYours owner) = Unit {0}
IsOfFree (verdict.AlreadyFreed freer) = Unit {0}
IsOfFree other = ⊥

-- refusals that they may be told
abbrev pub IsHoldTold : Refusal → Type 0
IsHoldTold (Kept at deed) = Unit {0}
IsHoldTold (Other verdict) = IsOfHold verdict

abbrev pub IsPinTold : Refusal → Type 0
IsPinTold (Kept at deed) = Unit {0}
IsPinTold (Other verdict) = IsOfPin verdict

abbrev pub IsFreeTold : Refusal → Type 0
IsFreeTold (Kept at deed) = Unit {0}
IsFreeTold (Other verdict) = IsOfFree verdict

-- the reply to a line whose number stands already
abbrev pub TellsAgain : ℕ → ℕ → Refusal → Reply → Type 0
TellsAgain number front (Kept at deed) told = told ≡ reply.Kept number at front deed
TellsAgain number front (Other (verdict.Gone at freer)) told =
    told ≡ reply.Gone number at freer front
TellsAgain number front (Other (verdict.Other at)) told = told ≡ reply.Other number at front
TellsAgain number front (Other other) told = ⊥

-- the reply to a hold
abbrev pub TellsHold : ℕ → ℕ → Refusal → Reply → Type 0
TellsHold number front (Other (verdict.Taken claim owner)) told =
    told ≡ reply.Taken number claim.zone owner front
TellsHold number front other told = TellsAgain number front other told

-- the reply to a path of the client's own
abbrev pub TellsPin : ℕ → ℕ → Refusal → Reply → Type 0
TellsPin number front (Other (verdict.BreaksRequest broken)) told =
    told ≡ reply.Breaks number broken.run broken.rule front
TellsPin number front other told = TellsHold number front other told

-- the reply to a Free of the entry at this position
abbrev pub TellsFree : ℕ → ℕ → ℕ → Refusal → Reply → Type 0
TellsFree number freed front (Other verdict.Unknown) told = told ≡ reply.Unknown freed front
TellsFree number freed front (Other (verdict.NotYours owner)) told =
    told ≡ reply.NotYours number freed owner front
TellsFree number freed front (Other (verdict.AlreadyFreed freer)) told =
    told ≡ reply.AlreadyFreed number freed freer front
TellsFree number freed front other told = TellsAgain number front other told

-- a reply to a line that added nothing, in a call whose turns all settled
abbrev pub AddsNothing : Reply → Type 0
AddsNothing (reply.Held number at front) = ⊥
AddsNothing (reply.Pinned number at front) = ⊥
AddsNothing (reply.Granted number at front runs) = ⊥
AddsNothing (reply.Freed number at freed front) = ⊥
AddsNothing (reply.Unsettled number at front) = ⊥
AddsNothing reply.DiskFault = ⊥
AddsNothing other = Unit {0}

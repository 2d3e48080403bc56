use Rattle.entry_codec.proofs.Examples.{hold_has, reasoned_has, free_has, pinned_has, asked_has, no_ticks_at, last_at, kind_at, no_reason_at, touches_at, sign_at}
use Rattle.entry_codec.proofs.reading.examples_have_their_bodies.Goals as goal

pub returns : goal.returns
returns c = record { hold = hold_has; reasoned = reasoned_has; free = free_has; pinned = pinned_has; asked = asked_has; no_ticks = no_ticks_at; last = last_at; kind = kind_at; no_reason = no_reason_at; touches = touches_at; sign = sign_at }

-- What a client's pass keeps, once lines were answered at its seat.
use Rattle.std.proofs.Common.{◌≡◌, ℕ, ◌++◌, List, length, ap, sym, ◌∙◌, subst, arith}
use Rattle.admission_rules.specs.declared.rules.Rule.{Ghosts as Rules}
use Rattle.line_answers.specs.gate.Passes.{view}
use Rattle.line_answers.specs.gate.Views.{own, rises}
use Rattle.admission_rules.specs.Ruled.{stand}
use Rattle.line_answers.specs.turns.Turns.{IsReady, timetable_at}
use Rattle.line_answers.specs.Callers.{caller_of}
use Rattle.line_answers.specs.turns.declared.shared.Shared.{Shared}
use Rattle.line_sessions.specs.Ends.{Traffic}
use Rattle.line_sessions.specs.Told.{AreAnswered, Told}
use Rattle.served_clients.specs.declared.client_seats.seats.Seat.{Seat}
use Rattle.served_clients.specs.Seats.{AnswersAt, callers_at, IsDone, IsSeated, IsTaken}
use Rattle.served_clients.specs.Talks.{AreProved, Callers, IsTalk, printed, Talk}
use Rattle.served_clients.proofs.Replies.{seat_callers, Seated, seated_all, talk_of}

module _ {D Btw L : Type 0} (kind : Rules L) (shared : Shared D) where
  -- this passed at a seat that was taken so
  abbrev pub talk_at : Seat D Btw L → Traffic → Talk
  talk_at seat traffic = record { name = seat.guest.client.name; rules = stand kind seat.rules.items; proves = seat.guest.proves; traffic = traffic }

  pub seat_done : (old new : Seat D Btw L) (traffic : Traffic) → IsTaken shared old → IsSeated new
      → AreAnswered (AnswersAt kind) 1 traffic.told old new → IsDone kind shared new (talk_at old traffic)
  seat_done old new traffic taken sound answered =
      let told : List Told = traffic.told in
      let rules = stand kind old.rules.items in
      let seated : Seated kind old new (seat_callers kind old) told = seated_all kind old new told answered in
      let serves = seated.serving.serves in
      let gate : new.shared.now ≡ shared = ap (λ s. s.now) seated.shared ∙ taken.shared_is in
      let callers : seat_callers kind old ≡ callers_at shared old.guest.client.name =
      ap {A = Shared D} {B = Callers} (λ s number its. caller_of s its old.guest.client.name number) taken.shared_is in record {
        back = record {
          ready = subst (λ (s : Shared D). IsReady s.gate new.guest.pass) gate sound.ready;
          share = serves.share ∙ taken.share;
        };
        proves = sym seated.proves;
        told = seated.serving.ruled;
        replies = subst (λ (n : ℕ). IsTalk (view new.guest.pass).seen (callers_at shared old.guest.client.name) n rules told) (ap length taken.seen)
            (subst (λ (c : Callers). IsTalk (view new.guest.pass).seen c (length (view old.guest.pass).seen) rules told) callers
            (talk_of (view old.guest.pass) (view new.guest.pass) (seat_callers kind old) rules (stand kind new.rules.items) told seated.serving));
        proved = subst (λ (n : ℕ). AreProved (view new.guest.pass).seen shared.known (timetable_at shared.gate) old.guest.proves n told) (ap length taken.seen)
            (subst (λ (s : Shared D). AreProved (view new.guest.pass).seen s.known (timetable_at s.gate) old.guest.proves (length (view old.guest.pass).seen) told) taken.shared_is seated.proved);
        own_entries = serves.own_entries ∙ ap (λ ts. own ts ++ printed told) taken.turns;
        counts = λ below. let all = serves.counts below in let none = ap rises taken.turns in omega arith;
        told_so = serves.told_so taken.turns;
        settled = serves.settled;
      }

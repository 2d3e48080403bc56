-- *inside*: workers at their seats, and what an answer there says.
use Rattle.std.specs.Prelude.{◌≡◌, ℕ, ◌+◌, ◌-◌, ◌/◌, ◌<◌, ◌≤◌, false, List, [], filter, get_or}
use Rattle.std.specs.Prelude.{is_none, is_some, length, map, min, Option, None, set}
use Rattle.std.specs.List.{range_with_len}
use Rattle.served_clients.specs.admission.declared.rules.Rule.{Ghosts as Rules}
use Rattle.batch_command.specs.Batches.{is_of, line_at}
use Rattle.batch_command.specs.declared.batch_server.clerks.Clerk.{Clerk}
use Rattle.served_clients.specs.gate.Passes.{turns_left}
use Rattle.served_clients.specs.Seats.{AnswersAt, IsSeated, IsTaken}
use Rattle.served_clients.specs.turns.declared.shared.Shared.{Shared}
use Rattle.served_clients.specs.sessions.Told.{AreAnswered, Told}
use Rattle.served_clients.specs.lines.declared.reply_texts.replies.Reply.{Reply}

-- the greatest number of a line
abbrev pub max_number : ℕ
max_number = 4294967295

-- how many lines a worker may still be asked at least: each takes four
-- turns and a number of its own
abbrev pub lines_left : {D Btw L : Type 0} → Clerk D Btw L → ℕ
lines_left clerk = min (turns_left clerk.seat.guest.pass / 4) (max_number - clerk.asked)

-- a worker that wants no proofs, at its seat
pub record IsSound {D Btw L : Type 0} (clerk : Clerk D Btw L) : Type 0 where
  pub seated : IsSeated clerk.seat
  pub unproved : clerk.seat.guest.proves ≡ false

-- a line was told this reply as the worker's next one
pub record Answers {D Btw L : Type 0} (kind : Rules L) (old : Clerk D Btw L) (text : List ℕ)
    (told : Reply) (new : Clerk D Btw L) : Type 0 where
  pub name : new.name ≡ old.name
  pub asked : new.asked ≡ old.asked + 1
  pub at_seat : AnswersAt kind old.seat (old.asked + 1) text told [] new.seat

-- a worker that was not asked yet
pub record IsFresh {D Btw L : Type 0} (shared : Shared D) (clerk : Clerk D Btw L) : Type 0 where
  pub taken : IsTaken shared clerk.seat
  pub unproved : clerk.seat.guest.proves ≡ false
  pub asked : clerk.asked ≡ 0

-- what was told to lines of a list, by their places
abbrev pub told_of : List (List ℕ) → List (ℕ × Reply) → List Told
told_of lines answers =
    map (λ a. record { line = line_at lines a.0; reply = a.1; proof = [] }) answers

-- the worker went from its first line to its last one of these
pub record Went {D Btw L : Type 0} (kind : Rules L) (told : List Told) (old new : Clerk D Btw L)
    : Type 0 where
  pub name : new.name ≡ old.name
  pub asked : new.asked ≡ length told
  pub sound : IsSound new
  pub answered : AreAnswered (AnswersAt kind) 1 told old.seat new.seat

-- those of the answers that are to lines of that worker
abbrev pub answers_by : List (Option ℕ) → ℕ → List (ℕ × Reply) → List (ℕ × Reply)
answers_by owners worker answers =
    filter (λ a. is_of worker (get_or owners a.0 None)) answers

-- each worker answered its own of these lines
abbrev pub EachWent : {D Btw L : Type 0} → Rules L → List (List ℕ) → List (Option ℕ)
    → List (ℕ × Reply) → List (Clerk D Btw L) → List (Clerk D Btw L) → Type 0
EachWent {D} {Btw} {L} kind lines owners answers olds news =
    (k : ℕ) (d : Clerk D Btw L) → k < length olds
    → Went kind (told_of lines (answers_by owners k answers)) (get_or olds k d) (get_or news k d)

-- the places of the lines that are some worker's, and those of the others, in order
abbrev pub owned_places : List (Option ℕ) → List ℕ
owned_places owners =
    filter (λ at. is_some (get_or owners at None)) (range_with_len 0 (length owners))

abbrev pub free_places : List (Option ℕ) → List ℕ
free_places owners =
    filter (λ at. is_none (get_or owners at None)) (range_with_len 0 (length owners))

-- ---- a worker among others

-- the worker at a place was asked a line of a list, which was told this reply,
-- and no other worker was asked
pub record WasAsked {W R : Type 0} (gives : W → ℕ → List ℕ → R → W → Type 0) (left : W → ℕ)
    (is_sound : W → Type 0) (worker at : ℕ) (text : List ℕ) (olds : List W) (told : R)
    (news : List W) : Type 0 where
  pub old : W
  pub new : W
  pub old_is : (d : W) → get_or olds worker d ≡ old
  pub news_are : news ≡ set olds worker new
  pub sound : is_sound new
  pub fewer : left old ≤ left new + 1
  pub told_so : gives old at text told new

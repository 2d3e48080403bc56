-- The proofs that go along with replies, by a history and by a longer one.
use Rattle.std.proofs.Common.{ℕ, ◌≤◌, Bool, true, false, List, [], ◌∷◌, ◌++◌, length}
use Rattle.line_answers.specs.gate.Views.{StartsWith}
use Rattle.client_lines.specs.Names.{Names}
use Rattle.line_answers.specs.turns.Turns.{Sight}
use Rattle.line_answers.specs.Points.{point}
use Rattle.line_answers.specs.Proved.{IsProvedBetween}
use Rattle.line_answers.proofs.Proved.{is_proved, proved_longer}
use Rattle.line_sessions.specs.Told.{Told}
use Rattle.rail_types.specs.declared.entries.Entry.{Entry}
use Rattle.rail_types.specs.Timetables.{Timetable}
use Rattle.served_clients.specs.Talks.{AreProved, IsProvedIn, next_least}
use Rattle.served_clients.proofs.Histories.{least_behind}

module _ (known : Names) (timetable : Timetable) where
  one_longer : (long short : List Entry) (proves : Bool) (least : ℕ) (one : Told) → StartsWith long short
      → IsProvedIn short known timetable proves least one → IsProvedIn long known timetable proves least one
  one_longer long short false least one more x = x
  one_longer long short true least one more x = proved_longer known timetable one.line one.reply one.proof least long short more x

  pub all_longer : (long short : List Entry) (proves : Bool) (least : ℕ) (told : List Told) → StartsWith long short
      → AreProved short known timetable proves least told → AreProved long known timetable proves least told
  all_longer long short proves least [] more all = tt
  all_longer long short proves least (one ∷ told) more all =
      (one_longer long short proves least one more all.0, all_longer long short proves (next_least least (point one.reply)) told more all.1)

  -- what goes along with a reply is proved by what the pass has seen behind the call, and is no older than what it had seen
  -- before
  pub proved_now : (proves : Bool) (least : ℕ) (one : Told) (v w : Sight) → least ≤ length v.seen
      → IsProvedBetween known timetable proves one.line one.reply one.proof v w → IsProvedIn w.seen known timetable proves least one
  proved_now false least one v w fresh x = x
  proved_now true least one v w fresh x = is_proved known timetable one.line one.reply one.proof least v w fresh x

  -- one reply more
  pub proved_more : (history : List Entry) (proves : Bool) (least : ℕ) (told : List Told) (one : Told)
      → AreProved history known timetable proves least told
      → IsProvedIn history known timetable proves (least_behind least told) one
      → AreProved history known timetable proves least (told ++ one ∷ [])
  proved_more history proves least [] one all last = (last, tt)
  proved_more history proves least (first ∷ told) one all last =
      (all.0, proved_more history proves (next_least least (point first.reply)) told one all.1 last)

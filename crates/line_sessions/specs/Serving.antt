-- What answering one line says.
use Rattle.std.specs.Prelude.{◌≡◌, ◌⊎◌, ℕ, ◌+◌, ◌<◌, List, [], length, take, Option}
use Rattle.std.specs.Io.KnownBytes.{Appends, Keeps}
use Rattle.outside_io.specs.Stops.{StopsAt}
use Rattle.client_lines.specs.Replies.{reply_text}
use Rattle.client_lines.specs.declared.reply_texts.replies.Reply.{Reply}
use Rattle.client_lines.specs.declared.reply_texts.replies.Reply.TheVariants as reply
use Rattle.line_sessions.specs.Proofs.{faults_by, held_by}
use Rattle.line_sessions.specs.declared.proofs.Proofs.{Proofs}
use Rattle.line_sessions.specs.declared.sessions.Answered.{Answered}
use Rattle.line_sessions.specs.declared.sessions.Answered.TheVariants.{Whole}
use Rattle.line_sessions.specs.declared.sessions.Answered.TheVariants.{WriteFault as part_written}
use Rattle.line_sessions.specs.declared.sessions.Answered.TheVariants.{Memory as no_memory}
use Rattle.line_sessions.specs.declared.sessions.Ended.{Ended}
use Rattle.line_sessions.specs.declared.sessions.Why.TheVariants.{Input, WriteFault, Memory}

module _ {Desk Snk : Type 0} (answers : Desk → ℕ → List ℕ → Reply → List ℕ → Desk → Type 0)
    (held : Snk → Option (List ℕ)) (faults : Snk → ℕ) where
  -- the sinks took the whole proof and the whole reply
  pub record TellsWhole (old : Desk) (number : ℕ) (line : List ℕ) (new : Desk)
      (sink sink' : Snk) (proofs proofs' : Proofs Snk) : Type 0 where
    pub reply : Reply
    pub proof : List ℕ
    pub told : answers old number line reply proof new
    pub proved : Appends (held_by held proofs) (held_by held proofs') proof
    pub wrote : Appends (held sink) (held sink') (reply_text reply)

  -- the proof was taken whole, and then the sink of the reply failed
  -- before it took the whole of that
  pub record TellsPart (old : Desk) (number : ℕ) (line : List ℕ) (new : Desk)
      (sink sink' : Snk) (proofs proofs' : Proofs Snk) : Type 0 where
    pub reply : Reply
    pub proof : List ℕ
    pub part : ℕ
    pub told : answers old number line reply proof new
    pub proved : Appends (held_by held proofs) (held_by held proofs') proof
    pub quiet : faults_by faults proofs' ≡ faults_by faults proofs
    pub stops : StopsAt held faults sink sink' (take part (reply_text reply))
    pub proper : part < length (reply_text reply)

  -- the sink of the proof failed before it took the whole of that, and
  -- nothing of the reply was written
  pub record ProvesPart (old : Desk) (number : ℕ) (line : List ℕ) (new : Desk)
      (sink sink' : Snk) (proofs proofs' : Proofs Snk) : Type 0 where
    pub reply : Reply
    pub proof : List ℕ
    pub part : ℕ
    pub told : answers old number line reply proof new
    pub stops : StopsAt (held_by held) (faults_by faults) proofs proofs' (take part proof)
    pub proper : part < length proof
    pub kept : Keeps (held sink) (held sink')
    pub quiet : faults sink' ≡ faults sink

  -- memory was wanted, and nothing was written
  pub record TellsNothing (old : Desk) (number : ℕ) (line : List ℕ) (new : Desk)
      (sink sink' : Snk) (proofs proofs' : Proofs Snk) : Type 0 where
    pub told : answers old number line reply.NoMemory [] new
    pub proofs_kept : Keeps (held_by held proofs) (held_by held proofs')
    pub kept : Keeps (held sink) (held sink')

  -- what answering a line says
  abbrev pub SaysAnswered : Answered → Desk → ℕ → List ℕ → Desk → Snk → Snk
      → Proofs Snk → Proofs Snk → Type 0
  SaysAnswered Whole old number line new sink sink' proofs proofs' =
      TellsWhole old number line new sink sink' proofs proofs'
  SaysAnswered part_written old number line new sink sink' proofs proofs' =
      TellsPart old number line new sink sink' proofs proofs'
      ⊎ ProvesPart old number line new sink sink' proofs proofs'
  SaysAnswered no_memory old number line new sink sink' proofs proofs' =
      TellsNothing old number line new sink sink' proofs proofs'

-- how a session ends with its last line, behind so many others
abbrev pub last_end : ℕ → Answered → Ended
last_end before Whole = record { lines = before + 1; why = Input }
last_end before part_written = record { lines = before; why = WriteFault }
last_end before no_memory = record { lines = before; why = Memory }

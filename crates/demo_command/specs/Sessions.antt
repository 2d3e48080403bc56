-- The session of the demo, and what is counted over its replies.
use Rattle.std.specs.Prelude.{◌≡◌, ◌||◌, ℕ, All, Bool, true, false, IsTrue, List, [], ◌∷◌, ◌++◌}
use Rattle.std.specs.Prelude.{codes, decimal, filter, length}
use Rattle.client_lines.specs.Names.{Names}
use Rattle.served_clients.specs.sessions.Told.{lines_told, Told}
use Rattle.outside_io.specs.StoredDisks.{DiskInMemory}
use Rattle.served_clients.specs.book.Ledgers.{Ledger}
use Rattle.client_lines.specs.declared.reply_texts.replies.Reply.{Reply}
use Rattle.client_lines.specs.declared.reply_texts.replies.Reply.TheVariants as reply
use Rattle.served_clients.specs.ClientRuns.{IsRun}
use Rattle.served_clients.specs.Talks.{Talk}
use Rattle.demo_command.specs.Lines.{demo_lines}
use Rattle.demo_command.specs.Railways.{demo_railway, demo_timetable, demo_train}

-- the name of the one client
abbrev pub client_name : List ℕ
client_name = codes "A"

-- what its lines may name
abbrev pub demo_names : Names
demo_names = record { railway = demo_railway; trains = demo_train ∷ [] }

-- The lines of the demo were told this, as one history gives it, which began without an entry; the
-- client wants no proofs, and has no rules. These are the entries that were left.
pub record IsSession (number : ℕ) (told : List Told) (left : Ledger DiskInMemory) : Type 0 where
  pub found : Ledger DiskInMemory
  pub timetable : found.timetable ≡ demo_timetable
  pub empty : found.entries ≡ []
  pub talk : Talk
  pub name : talk.name ≡ client_name
  pub proves : talk.proves ≡ false
  pub rules : talk.rules ≡ []
  pub told_is : talk.traffic.told ≡ told
  pub lines : lines_told told ≡ demo_lines number
  pub run : IsRun (λ disk. disk.faults) demo_names found left (talk ∷ [])

-- ---- counts

-- the replies of these kinds
abbrev pub is_granted : Reply → Bool
is_granted (reply.Granted number entry front runs) = true
is_granted other = false

abbrev pub is_no_path : Reply → Bool
is_no_path (reply.NoPath number front) = true
is_no_path other = false

-- a path was granted to the line, or it was told that there is none
abbrev pub IsDecided : Told → Type 0
IsDecided one = IsTrue (is_granted one.reply || is_no_path one.reply)

-- how many of the replies are of a kind
abbrev pub count_told : (Reply → Bool) → List Told → ℕ
count_told kind told = length (filter (λ one. kind one.reply) told)

-- ---- the line

-- `demo N asked 1000 granted G refused R front F`
abbrev pub summary : ℕ → ℕ → ℕ → ℕ → List ℕ
summary number granted refused front =
    codes "demo " ++ decimal number ++ codes " asked 1000 granted " ++ decimal granted
    ++ codes " refused " ++ decimal refused ++ codes " front " ++ decimal front ++ 10 ∷ []

-- The line of the demo: it is counted over the replies of its session, and over the entries that
-- were left. Each reply grants a path or tells that there is none, so none of them wanted memory;
-- and there is one entry for each grant.
pub record IsDemo (number : ℕ) (line : List ℕ) : Type 0 where
  pub told : List Told
  pub left : Ledger DiskInMemory
  pub session : IsSession number told left
  pub decided : All IsDecided told
  pub entries : length left.entries ≡ count_told is_granted told
  pub line_is : line ≡ summary number (count_told is_granted told) (count_told is_no_path told)
      (length left.entries)

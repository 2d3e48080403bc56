-- Lines of a text, counted by how they begin. *inside*
use Rattle.std.specs.Prelude.{◌≡◌, ℕ, ◌+◌, All, Bool, false, List, [], ◌∷◌, codes, filter, length}
use Rattle.std.specs.Prelude.{nat_eq}
use Rattle.std.specs.List.{slice_split, starts_with}
use Rattle.admission_rules.specs.declared.quotas.Quota.{Quota}
use Rattle.served_clients.specs.sessions.Told.{Told}
use Rattle.served_clients.specs.sessions.declared.sessions.Why.TheVariants.{Input}
use Rattle.served_clients.specs.sessions.Lines.{ended}
use Rattle.served_clients.specs.sessions.Proofs.{is_wanted}
use Rattle.outside_io.specs.Memory.{InputInMemory, OutputInMemory}
use Rattle.outside_io.specs.StoredDisks.{DiskInMemory}
use Rattle.outside_io.specs.declared.betweens.NoBetween.{NoBetween}
use Rattle.served_clients.specs.book.Ledgers.{Ledger}
use Rattle.served_clients.specs.declared.plans.Plan.{Plan}
use Rattle.served_clients.specs.declared.plans.Session.{Session}
use Rattle.demo_command.specs.declared.summaries.Counts.{Counts}
use Rattle.demo_command.specs.Lines.{demo_lines}
use Rattle.demo_command.specs.Sessions.{client_name, count_told, IsDecided, IsSession, is_granted}
use Rattle.demo_command.specs.Sessions.{is_no_path}

-- the line begins so
abbrev pub begins : List ℕ → List ℕ → Bool
begins head line = starts_with nat_eq line head

-- how many lines of a text begin so
abbrev pub count_lines : List ℕ → List ℕ → ℕ
count_lines head text = length (filter (begins head) (slice_split (λ byte. nat_eq byte 10) text))

-- these lines of a text are counted, and they are as many as those of the demo
pub record IsCount (text : List ℕ) (front : ℕ) (counts : Counts) : Type 0 where
  pub granted : counts.granted ≡ count_lines (codes "granted ") text
  pub refused : counts.refused ≡ count_lines (codes "no-path ") text
  pub all : counts.granted + counts.refused ≡ 1000
  pub front_is : counts.front ≡ front

-- a client of the demo, before its session and behind it; of rules it has none, whatever their kind
abbrev pub DemoPlan : Type 0
DemoPlan = Plan InputInMemory OutputInMemory NoBetween Quota

abbrev pub DemoSession : Type 0
DemoSession = Session InputInMemory OutputInMemory Quota

-- there is one session, whose input was read to its end, and the lines of its sink are counted
pub record IsCounted (sessions : List DemoSession) (front : ℕ) (counts : Counts) : Type 0 where
  pub session : DemoSession
  pub one : sessions ≡ session ∷ []
  pub why : session.ended.why ≡ Input
  pub count : IsCount session.sink.held front counts

-- the plan of the client whose lines are those of the demo, who was told nothing yet,
-- wants no proofs, and has no rules
pub record IsDemoPlan (number : ℕ) (plan : DemoPlan) : Type 0 where
  pub name : plan.name ≡ client_name
  pub lines : plan.source.left ≡ ended (demo_lines number)
  pub empty : plan.sink.held ≡ []
  pub unwanted : is_wanted plan.proofs ≡ false
  pub rules : plan.rules.items ≡ []

-- there is this one plan
pub record IsOnePlan (number : ℕ) (plans : List DemoPlan) : Type 0 where
  pub plan : DemoPlan
  pub one : plans ≡ plan ∷ []
  pub is : IsDemoPlan number plan

-- the session of the demo was held, and this is counted over its replies and
-- over the entries that were left
pub record AreHeld (number : ℕ) (counts : Counts) : Type 0 where
  pub told : List Told
  pub left : Ledger DiskInMemory
  pub session : IsSession number told left
  pub decided : All IsDecided told
  pub entries : length left.entries ≡ count_told is_granted told
  pub granted : counts.granted ≡ count_told is_granted told
  pub refused : counts.refused ≡ count_told is_no_path told
  pub front_is : counts.front ≡ length left.entries

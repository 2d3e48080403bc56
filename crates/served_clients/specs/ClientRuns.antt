-- What many clients at once are told.
use Rattle.std.specs.Prelude.{◌≡◌, ◌⊎◌, ℕ, ◌+◌, ◌-◌, ◌^◌, ◌≤◌, Bool, false, bytes_eq, All, Any}
use Rattle.std.specs.Prelude.{Contains, Option, Some, None, List, [], ◌∷◌, filter, flat_map, drop}
use Rattle.std.specs.Prelude.{length, slice_get, sum_by}
use Rattle.line_answers.specs.gate.Views.{StartsWith, positions}
use Rattle.client_lines.specs.Names.{Names}
use Rattle.admission_rules.specs.Ruled.{Ruled}
use Rattle.admission_rules.specs.Told.{told_at}
use Rattle.line_answers.specs.history.Legal.{IsLegal}
use Rattle.line_answers.specs.Callers.{are_some}
use Rattle.line_answers.specs.Rules.{denial}
use Rattle.line_answers.specs.book.Ledgers.{Ledger, settled_of}
use Rattle.rail_types.specs.declared.entries.Entry.{Entry}
use Rattle.rail_types.specs.Timetables.{Timetable}
use Rattle.served_clients.specs.Talks.{AreProved, Callers, faults, IsTalk, IsWithinSettled, printed}
use Rattle.served_clients.specs.Talks.{Talk, unsettled}

-- the callers of the lines of a client of this name: its rules, as they stand then, may deny a line
abbrev pub callers_of : Names → Timetable → List ℕ → Callers
callers_of known timetable name = λ line_number rules. record {
  known = known;
  timetable = timetable;
  name = name;
  line_number = line_number;
  denied = λ history line. denial rules line;
  ruled = are_some rules;
}

-- ---- positions and owners

-- the owner's entry stands at that position
abbrev pub is_owned : List ℕ → Option Entry → Bool
is_owned name None = false
is_owned name (Some e) = bytes_eq e.owner name

-- the positions from n on at which that owner's entries stand
abbrev pub owned : List Entry → List ℕ → ℕ → List ℕ
owned history name n =
    filter (λ p. is_owned name (slice_get history p)) (positions n (length history - n))

-- rules, once they were told of that owner's entries of a history, each once and in order
abbrev pub told_own : List Entry → List ℕ → List Ruled → List Ruled
told_own history name rules = told_at history (owned history name 0) rules

-- ---- one history

-- Clients were told this over one history, which began with the entries found.
pub record IsRun {D : Type 0} (disk_faults : D → ℕ) (known : Names) (found left : Ledger D)
    (talks : List Talk) : Type 0 where
  pub begins : StartsWith left.entries found.entries
  pub legal : IsLegal found.timetable left.entries
  -- each reply is what a beginning of the history gives, with no fewer entries than were found or
  -- this client had been printed, at fronts that do not fall along a session
  pub replies : All (λ talk. IsTalk left.entries (callers_of known found.timetable talk.name)
      (length found.entries) talk.rules talk.traffic.told) talks
  -- the proof that goes along with a reply is what a beginning of the history gives, with no fewer
  -- entries than were found or this client had been printed
  pub proved : All (λ talk. AreProved left.entries known found.timetable talk.proves
      (length found.entries) talk.traffic.told) talks
  -- the entries behind those found are those of the replies, each once, owner by owner
  pub entries : All (λ talk. owned left.entries talk.name (length found.entries)
      ≡ printed talk.traffic.told) talks
  pub owners : All (λ e. Any (λ talk. e.owner ≡ talk.name) talks)
      (drop (length found.entries) left.entries)
  -- the faults that replies tell are within the rise of the disk's count,
  -- unless that stands at its end
  pub count : (2 ^ 64 - 1 ≤ disk_faults left.disk)
      ⊎ (disk_faults found.disk + sum_by (λ talk. faults talk.traffic.told) talks
      ≤ disk_faults left.disk)
  -- all is settled at the end, but for a last entry that a reply told as unsettled
  pub settled_left : (settled_of left ≡ length left.entries)
      ⊎ ((settled_of left + 1 ≡ length left.entries)
      × Contains (flat_map (λ talk. unsettled talk.traffic.told) talks) (settled_of left))
  -- all before a front that is printed is settled, but for the entry that
  -- this reply told as unsettled
  pub settled_replies : All (λ talk. All (IsWithinSettled (settled_of left)) talk.traffic.told)
      talks

-- ---- lists side by side

-- three lists are as long, and stand so to one another place by place
abbrev pub AreMatched : {X Y Z : Type 0} → (X → Y → Z → Type 0) → List X → List Y → List Z → Type 0
AreMatched R [] [] [] = Unit {0}
AreMatched R [] [] (z ∷ zs) = ⊥
AreMatched R [] (y ∷ ys) [] = ⊥
AreMatched R [] (y ∷ ys) (z ∷ zs) = ⊥
AreMatched R (x ∷ xs) [] [] = ⊥
AreMatched R (x ∷ xs) [] (z ∷ zs) = ⊥
AreMatched R (x ∷ xs) (y ∷ ys) [] = ⊥
AreMatched R (x ∷ xs) (y ∷ ys) (z ∷ zs) = R x y z × AreMatched R xs ys zs

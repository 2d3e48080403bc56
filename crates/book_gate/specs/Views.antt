-- What a book stands for, and what a pass knows of it.
use Rattle.std.specs.Prelude.{◌≡◌, ℕ, zero, suc, ◌-◌, ◌≤◌, ◌<◌, nat_lt, if◌then◌else◌, false, All}
use Rattle.std.specs.Prelude.{AllPairs, List, [], ◌∷◌, ◌++◌, length, sum_by, Some}
use Rattle.book_gate.specs.declared.views.Mark.{Mark}
use Rattle.book_gate.specs.declared.views.Origin.{Origin}
use Rattle.book_gate.specs.declared.views.Statement.{Statement}
use Rattle.book_gate.specs.declared.views.Turn.{Turn}
use Rattle.book_gate.specs.declared.views.View.{View}

-- the list begins with that part
abbrev pub StartsWith : {E : Type 0} → List E → List E → Type 0
StartsWith {E} whole part = (rest : List E) × (whole ≡ part ++ rest)

-- what a book stands for
abbrev pub statement_of : {S E : Type 0} → (S → List E) → (S → ℕ) → (S → ℕ) → S → Statement E
statement_of list settled count book = record {
  list = list book;
  settled = settled book;
  count = count book;
}

abbrev pub mark_of : {E : Type 0} → Statement E → Mark
mark_of b = record { entries = length b.list; settled = b.settled; count = b.count }

abbrev pub origin : {F : Type 0} → F → ℕ → Origin F
origin footing turns = record { footing = footing; turns = turns }

-- no turn leaves fewer entries or a lower count than it found
abbrev pub Rises : Turn → Type 0
Rises t = (t.found.entries ≤ t.left.entries) × (t.found.count ≤ t.left.count)

-- turns numbered from n on: the first found that mark, each later one what the turn before it
-- left, and the last left that mark
abbrev pub IsChain : ℕ → Mark → List Turn → Mark → Type 0
IsChain n first [] last = first ≡ last
IsChain n first (t ∷ ts) last =
    (t.number ≡ n) × (t.found ≡ first) × Rises t × IsChain (suc n) t.left ts last

-- so many positions, from n on
abbrev pub positions : ℕ → ℕ → List ℕ
positions n zero = []
positions n (suc count) = n ∷ positions (suc n) count

-- the positions of the entries that these turns added
abbrev pub own : List Turn → List ℕ
own [] = []
own (t ∷ ts) = positions t.found.entries (t.left.entries - t.found.entries) ++ own ts

-- by how much the count rose in these turns
abbrev pub rises : List Turn → ℕ
rises ts = sum_by (λ t. t.left.count - t.found.count) ts

-- a turn put among others by its number
abbrev pub put : Turn → List Turn → List Turn
put t [] = t ∷ []
put t (u ∷ us) = if nat_lt t.number u.number then t ∷ u ∷ us else u ∷ put t us

-- the turns of both, by their numbers where both ascend
abbrev pub merged : List Turn → List Turn → List Turn
merged ts [] = ts
merged ts (u ∷ us) = put u (merged ts us)

abbrev pub longer : {E : Type 0} → List E → List E → List E
longer a b = if nat_lt (length a) (length b) then b else a

-- the pass that comes with a new gate
abbrev pub newcomer : {E F : Type 0} → Origin F → Statement E → View E F
newcomer o b = record {
  origin = Some o;
  seen = b.list;
  count = b.count;
  joined = [];
  turns = [];
  share = o.turns;
  has_ticket = false;
  ticket = 0;
  has_book = false;
  found = b;
}

-- a turn of that number
abbrev pub turn : {E : Type 0} → ℕ → Statement E → Statement E → Turn
turn number found left = record { number = number; found = mark_of found; left = mark_of left }

-- no turn of these left a count above that one
abbrev pub AreCountedWithin : List Turn → ℕ → Type 0
AreCountedWithin turns count = All (λ t. t.left.count ≤ count) turns

-- no turn of these left more entries than that
abbrev pub AreListedWithin : List Turn → ℕ → Type 0
AreListedWithin turns entries = All (λ t. t.left.entries ≤ entries) turns

-- each of these turns has a number below that one
abbrev pub AreNumberedBelow : List Turn → ℕ → Type 0
AreNumberedBelow turns number = All (λ t. t.number < number) turns

-- the turns ascend by number, and each left at most as many entries as a later one found
abbrev pub AreAscending : List Turn → Type 0
AreAscending turns =
    AllPairs (λ t u. (t.number < u.number) × (t.left.entries ≤ u.found.entries)) turns

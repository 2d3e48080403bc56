-- The rule of the gate, `IsKept`, which holds between any two atomic steps. `Fits` is what it says
-- of each pass, and `IsInPlace` of the book.
use Rattle.std.specs.Prelude.{◌≡◌, ℕ, ◌+◌, ◌-◌, ◌^◌, ◌==◌, ◌<◌, ◌≤◌, Bool, true, false}
use Rattle.std.specs.Prelude.{if◌then◌else◌, List, [], ◌∷◌, All, map, length, sum_by, Option, Some}
use mathlib.Core.Option as slot
use lib.ListN.{get_elem?}
use Rattle.atomic_table.specs.Table.{State}
use Rattle.book_gate.specs.declared.views.Origin.{Origin}
use Rattle.book_gate.specs.declared.views.Statement.{Statement}
use Rattle.book_gate.specs.declared.views.Turn.{Turn}
use Rattle.book_gate.specs.declared.views.View.{View}
use Rattle.book_gate.specs.Views.{StartsWith, mark_of, origin, IsChain}

-- the turns that the log has under the number of one pass
abbrev pub turns_of : ℕ → List (ℕ × Turn) → List Turn
turns_of i [] = []
turns_of i (e ∷ log) = if e.0 == i then e.1 ∷ turns_of i log else turns_of i log

abbrev pub one_if : Bool → ℕ
one_if true = 1
one_if false = 0

abbrev pub tickets : {E F : Type 0} → View E F → ℕ
tickets v = one_if v.has_ticket

-- the turns that a pass may still take: its share less its turns, an open one among them
abbrev pub budget : {E F : Type 0} → View E F → ℕ
budget v = v.share - (length v.turns + tickets v)

-- its turns, an open one among them, are within its share
abbrev pub IsWithinShare : {E F : Type 0} → View E F → Type 0
IsWithinShare v = length v.turns + tickets v ≤ v.share

-- What holds of each pass, of which i is the number: `taken` and `serving` are the two words, and
-- `last` is what the book stood for as the last turn left it.
pub record Fits {E F : Type 0} (here : Origin F) (taken serving : ℕ) (is_out : Bool)
    (last : Statement E) (log : List (ℕ × Turn)) (i : ℕ) (v : View E F) : Type 0 where
  -- it knows the footing that `new` found, and how many turns there are
  pub knows_origin : (o : Origin F) → v.origin ≡ Some o → o ≡ here
  -- the book's list begins with what it has seen, and the count has not fallen
  pub has_seen : StartsWith last.list v.seen
  pub has_counted : v.count ≤ last.count
  -- what it has seen begins with each list that was joined into it
  pub has_joined : All (λ l. StartsWith v.seen l) v.joined
  -- its ticket is one of those that wait
  pub waits_in_line : v.has_ticket ≡ true → (serving ≤ v.ticket) × (v.ticket < taken)
  -- it is called only when its ticket is served, and then it has found what the last turn left
  pub is_called_in_turn : v.has_book ≡ true
      → (is_out ≡ true) × (v.has_ticket ≡ true) × (v.ticket ≡ serving) × (v.found ≡ last)
  -- it has a share, unless it is spent, and its turns and its ticket are within it
  pub has_a_share : (o : Origin F) → v.origin ≡ Some o → 1 ≤ v.share
  pub keeps_to_its_share : IsWithinShare v
  -- its turns are those that the log has under its number
  pub has_its_turns : v.turns ≡ turns_of i log

-- Where the book is. At home it is as the last turn left it, on the footing that `new` found, and
-- before any turn it is the one that `new` was given. Else it is out with the pass that is called.
abbrev pub IsInPlace : {S E F : Type 0} → (S → Statement E) → (S → F) → S → Statement E
    → List (ℕ × Turn) → Bool → List (slot.Option (Option S)) → Type 0
IsInPlace {S} stands footing opened last log false homes =
    (b : S) × (homes ≡ slot.some (Some b) ∷ []) × (stands b ≡ last) × (footing b ≡ footing opened)
    × (log ≡ [] → b ≡ opened)
IsInPlace stands footing opened last log true homes = homes ≡ slot.none ∷ []

-- The rule. `taken` and `serving` are the two words, and `is_out` tells whether the book is with a
-- pass. `last` is what the book stood for as the last turn left it, or as `new` found it. The log
-- has all turns that were served, each with the number of the pass whose it is.
pub record IsKept {S E F : Type 0} (stands : S → Statement E) (footing : S → F) (given : ℕ)
    (opened : S) (s : State (Option S) (View E F)) : Type 0 where
  pub taken : ℕ
  pub serving : ℕ
  pub is_out : Bool
  pub last : Statement E
  pub log : List (ℕ × Turn)
  pub words : s.words ≡ taken ∷ serving ∷ []
  pub in_place : IsInPlace stands footing opened last log is_out s.homes
  pub each_pass : (i : ℕ) (v : View E F) → get_elem? s.views i ≡ slot.some v
      → Fits (origin (footing opened) given) taken serving is_out last log i v
  -- a book that is out is with a pass
  pub out_with_a_pass : is_out ≡ true
      → (i : ℕ) × (v : View E F) × (get_elem? s.views i ≡ slot.some v) × (v.has_book ≡ true)
  -- no two passes have one ticket, and so no two are called
  pub tickets_apart : (i j : ℕ) (v w : View E F) → get_elem? s.views i ≡ slot.some v
      → get_elem? s.views j ≡ slot.some w → v.has_ticket ≡ true → w.has_ticket ≡ true
      → v.ticket ≡ w.ticket → i ≡ j
  -- as many tickets wait as were taken and not served
  pub all_wait : serving + sum_by tickets s.views ≡ taken
  -- what was taken and what may still be taken are the turns that `new` was given
  pub all_budgets : taken + sum_by budget s.views ≡ given
  pub all_shares : sum_by (λ v. v.share) s.views ≡ given
  pub no_wrap : given ≤ 2 ^ 62
  -- the log has the turns up to the one that is served, each going on from the one before, from
  -- what `new` found to what the last left
  pub all_served : length log ≡ serving
  pub one_chain : IsChain 0 (mark_of (stands opened)) (map (λ e. e.1) log) (mark_of last)
  pub all_goes_on : StartsWith last.list (stands opened).list
  -- no turn is of a pass that is not there
  pub of_known_passes : (i : ℕ) → length s.views ≤ i → turns_of i log ≡ []

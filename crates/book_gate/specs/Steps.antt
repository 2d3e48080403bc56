-- What each atomic step tells the pass that makes it.
use Rattle.std.specs.Prelude.{◌≡◌, ◌≢◌, ℕ, ◌+◌, ◌-◌, ◌≤◌, max, true, false, [], ◌∷◌, ◌++◌, All}
use Rattle.std.specs.Prelude.{length, Option, Some, None, IfSome}
use Rattle.atomic_table.specs.Table.{Me, Step}
use Rattle.book_gate.specs.declared.views.Origin.{Origin}
use Rattle.book_gate.specs.declared.views.Statement.{Statement}
use Rattle.book_gate.specs.declared.views.View.{View}
use Rattle.book_gate.specs.Rule.{budget}
use Rattle.book_gate.specs.Views.{StartsWith, AreListedWithin, AreCountedWithin, AreNumberedBelow}
use Rattle.book_gate.specs.Views.{AreAscending, turn, longer, merged}

module _ {E F : Type 0} where
  abbrev pub with_ticket : View E F → ℕ → View E F
  with_ticket v n = record v { has_ticket = true; ticket = n }

  abbrev pub called : View E F → Statement E → View E F
  called v b = record v { has_book = true; found = b }

  -- the pass after a turn that left this
  abbrev pub served : View E F → Statement E → View E F
  served v b = record v {
    seen = b.list;
    count = b.count;
    turns = v.turns ++ turn v.ticket v.found b ∷ [];
    has_ticket = false;
    has_book = false;
  }

module _ {E F : Type 0} where
  -- the pass after it gave n of its turns away
  abbrev pub giving : View E F → ℕ → View E F
  giving v n = record v { share = v.share - n }

  -- the new pass that has them: it has seen as much
  abbrev pub given : View E F → ℕ → View E F
  given v n = record v { share = n; turns = []; joined = [] }

  -- the pass after another was joined into it
  abbrev pub joining : View E F → View E F → View E F
  joining v w = record v {
    seen = longer v.seen w.seen;
    count = max v.count w.count;
    joined = (v.joined ++ w.joined) ++ v.seen ∷ w.seen ∷ [];
    turns = merged v.turns w.turns;
    share = v.share + w.share;
  }

  -- what is left of the other
  abbrev pub spent : View E F
  spent = record {
    origin = None;
    seen = [];
    count = 0;
    joined = [];
    turns = [];
    share = 0;
    has_ticket = false;
    ticket = 0;
    has_book = false;
    found = record { list = []; settled = 0; count = 0 };
  }

module _ {S E F : Type 0} where
  -- a ticket is taken, and the pass has its number
  abbrev pub Takes : Step (Option S) → Me (Option S) (View E F) → ℕ → Me (Option S) (View E F)
      → Type 0
  Takes st m n w = w ≡ (with_ticket m.0 n, m.1)

module _ {S E F : Type 0} (stands : S → Statement E) (footing : S → F) where
  -- the pass is called and has the book, which goes on from all that it knew
  abbrev pub IsCalled : Me (Option S) (View E F) → Me (Option S) (View E F) → Type 0
  IsCalled m w =
      (b : S)
      × (w ≡ (called m.0 (stands b), (0, Some b) ∷ m.1)) × StartsWith (stands b).list m.0.seen
      × (m.0.count ≤ (stands b).count) × AreListedWithin m.0.turns (length (stands b).list)
      × AreCountedWithin m.0.turns (stands b).count × AreNumberedBelow m.0.turns m.0.ticket
      × IfSome m.0.origin (λ o. o.footing ≡ footing b)

  -- called where its ticket is the one that is served, and otherwise as before
  abbrev pub Looks : Step (Option S) → Me (Option S) (View E F) → ℕ → Me (Option S) (View E F)
      → Type 0
  Looks st m n w = (n ≡ m.0.ticket → IsCalled m w) × (n ≢ m.0.ticket → w ≡ m)

module _ {S E F : Type 0} (stands : S → Statement E) where
  -- the turn ends with the book b put back, and is recorded
  abbrev pub Advances : Step (Option S) → Me (Option S) (View E F) → ℕ → Me (Option S) (View E F)
      → Type 0
  Advances st m n w = (b : S) → m.1 ≡ (0, Some b) ∷ [] → w ≡ (served m.0 (stands b), [])

module _ {S E F : Type 0} where
  -- The lists that were joined are beginnings of one, and the turns of the pass ascend. So many
  -- turns were served: at least those of the pass, at most all but those that it may still take,
  -- and its own alone where its share is the whole.
  abbrev pub Meets : Step (Option S) → Me (Option S) (View E F) → ℕ → Me (Option S) (View E F)
      → Type 0
  Meets st m n w =
      (w ≡ m) × All (λ l. StartsWith m.0.seen l) m.0.joined
      × (length m.0.turns ≤ n) × (length m.0.turns ≤ m.0.share) × AreNumberedBelow m.0.turns n
      × AreAscending m.0.turns × ((o : Origin F) → m.0.origin ≡ Some o → n + budget m.0 ≤ o.turns)
      × ((o : Origin F) → m.0.origin ≡ Some o → m.0.share ≡ o.turns → n ≡ length m.0.turns)

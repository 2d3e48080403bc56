-- The first kind of flaw that a test finds.
use Rattle.std.proofs.Common.{◌≡◌, Bool, true, false, find, Some, None, refl}
use Rattle.rail_types.specs.declared.tracks.NetFlaw.{NetFlaw}
use Rattle.rail_types.specs.declared.tracks.NetFlaw.TheVariants.{Range, CellOrder, EmptyBlock, Point, Serves, Limit}
use Rattle.rail_types.specs.Flaws.{kinds}

module _ (test : NetFlaw → Bool) where
  pub first_range : test Range ≡ true → find test kinds ≡ Some Range
  first_range r = rw r refl

  pub first_order : test Range ≡ false → test CellOrder ≡ true → find test kinds ≡ Some CellOrder
  first_order r c = rw (r, c) refl

  pub first_empty : test Range ≡ false → test CellOrder ≡ false → test EmptyBlock ≡ true → find test kinds ≡ Some EmptyBlock
  first_empty r c e = rw (r, c, e) refl

  pub first_point : test Range ≡ false → test CellOrder ≡ false → test EmptyBlock ≡ false → test Point ≡ true → find test kinds ≡ Some Point
  first_point r c e p = rw (r, c, e, p) refl

  pub first_serves : test Range ≡ false → test CellOrder ≡ false → test EmptyBlock ≡ false → test Point ≡ false → test Serves ≡ true → find test kinds ≡ Some Serves
  first_serves r c e p s = rw (r, c, e, p, s) refl

  pub first_limit : test Range ≡ false → test CellOrder ≡ false → test EmptyBlock ≡ false → test Point ≡ false → test Serves ≡ false → test Limit ≡ true → find test kinds ≡ Some Limit
  first_limit r c e p s l = rw (r, c, e, p, s, l) refl

  pub first_none : test Range ≡ false → test CellOrder ≡ false → test EmptyBlock ≡ false → test Point ≡ false → test Serves ≡ false → test Limit ≡ false → find test kinds ≡ None
  first_none r c e p s l = rw (r, c, e, p, s, l) refl

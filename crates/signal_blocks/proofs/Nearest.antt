-- The nearest signal at each point, as signals come one behind the other.
use Rattle.std.proofs.Common.{◌≡◌, ℕ, zero, suc, ◌+◌, ◌<◌, ◌≤◌, Bool, true, false, List, [], ◌∷◌, ◌++◌, length, take, get_or, set, nat_eq, nat_le, if◌then◌else◌, Option, Some, None, map, option_map, IfSome, refl, ap, ◌∙◌, arith, append_assoc, leb-true}
use native.Mathlib.Decide.{ℕ_discrete}
use Rattle.std.specs.List.{All}
use Rattle.std.proofs.lemmas.Bool.{leb-false}
use Rattle.std.proofs.lemmas.List.{get_or-set_same, get_or-set_other, append-nil}
use Rattle.std.proofs.lemmas.List.Elements.{filter_more, All-nil, All-cons, All-append, All-set}
use Rattle.signal_blocks.specs.Inside.{AreNearest, IsPost, nearer, nearest_at}
use Rattle.signal_blocks.specs.Cuts.{sight_at}
use Rattle.rail_types.specs.declared.infra_types.signals.Signal.{Signal}
use Rattle.rail_types.specs.declared.limits.TheConstants.{MAX_SIGHT_M}
use Rattle.track_graph.specs.Layouts.{Layout}
use Rattle.signal_blocks.specs.Posts.{AreSights, IsNearest, IsNearestOf, posts_at, posts_of}
use Rattle.signal_blocks.specs.declared.posts.Post.{Post}

-- what is nearer than a nearest one is nearer than all
all_nearer : (posts : List Post) (kept post : Post) → IsNearest posts kept → post.gap_m < kept.gap_m → All (λ other. post.gap_m < other.gap_m) posts
all_nearer posts kept post is lt =
    let front : All (λ other. post.gap_m < other.gap_m) is.before = λ k d below. (let h = is.nearer k d below in omega (arith, h, lt)) in
    let back : All (λ other. post.gap_m < other.gap_m) is.behind = λ k d below. (let h = is.as_near k d below in omega (arith, h, lt)) in
    rw is.whole (All-append (λ other. post.gap_m < other.gap_m) is.before (kept ∷ is.behind) front (All-cons (λ other. post.gap_m < other.gap_m) kept is.behind lt back))

nearer_if : (posts : List Post) (kept post : Post) (b : Bool) → nat_le kept.gap_m post.gap_m ≡ b → IsNearest posts kept → IsNearest (posts ++ post ∷ []) (if b then kept else post)
nearer_if posts kept post true e is =
    let le : kept.gap_m ≤ post.gap_m = leb-true _ _ e in
    record {
      before = is.before;
      behind = is.behind ++ post ∷ [];
      whole = ap (λ xs. xs ++ post ∷ []) is.whole ∙ append_assoc is.before (kept ∷ is.behind) (post ∷ []);
      nearer = is.nearer;
      as_near = All-append (λ other. kept.gap_m ≤ other.gap_m) is.behind (post ∷ []) is.as_near (All-cons (λ other. kept.gap_m ≤ other.gap_m) post [] le (All-nil (λ other. kept.gap_m ≤ other.gap_m)));
    }
nearer_if posts kept post false e is =
    let lt : post.gap_m < kept.gap_m = leb-false _ _ e in
    record {
      before = posts;
      behind = [];
      whole = refl;
      nearer = all_nearer posts kept post is lt;
      as_near = All-nil (λ other. post.gap_m ≤ other.gap_m);
    }

one_more : (posts : List Post) (kept : Option Post) (post : Post) → IsNearestOf posts kept → IsNearest (posts ++ post ∷ []) (nearer kept post)
one_more posts None post none = rw none record {
  before = [];
  behind = [];
  whole = refl;
  nearer = All-nil (λ other. post.gap_m < other.gap_m);
  as_near = All-nil (λ other. post.gap_m ≤ other.gap_m);
}
one_more posts (Some kept) post is = nearer_if posts kept post (nat_le kept.gap_m post.gap_m) refl is

module _ (posts : List Post) (table : List (Option Post)) (i point : ℕ) (post : Post) (lt : i < length posts) (here : get_or posts i post ≡ post) (within : post.point < length table) where
  here_kept : point ≡ post.point → IsNearestOf (posts_at point (take i posts)) (nearest_at table point)
      → IsNearestOf (posts_at point (take (i + 1) posts)) (nearest_at (set table post.point (Some (nearer (nearest_at table post.point) post))) point)
  here_kept hit is =
      let yes : nat_eq post.point post.point ≡ true = grind arith in
      let old = rw hit at is in
      rw (hit, filter_more (λ (p : Post). nat_eq p.point post.point) posts i post lt, here, yes, get_or-set_same table post.point (Some (nearer (nearest_at table post.point) post)) None within)
      (one_more (posts_at post.point (take i posts)) (nearest_at table post.point) post old)

  elsewhere_kept : (point ≡ post.point → ⊥) → IsNearestOf (posts_at point (take i posts)) (nearest_at table point)
      → IsNearestOf (posts_at point (take (i + 1) posts)) (nearest_at (set table post.point (Some (nearer (nearest_at table post.point) post))) point)
  elsewhere_kept miss is =
      let no_match : nat_eq post.point point ≡ false = grind (arith, miss) in
      rw (filter_more (λ (p : Post). nat_eq p.point point) posts i post lt, here, no_match, append-nil (posts_at point (take i posts)), get_or-set_other table post.point point (Some (nearer (nearest_at table post.point) post)) None miss) is

pub post_kept : (posts : List Post) (table : List (Option Post)) (i : ℕ) (post : Post) → i < length posts → get_or posts i post ≡ post → post.point < length table
    → AreNearest (take i posts) table → AreNearest (take (i + 1) posts) (set table post.point (Some (nearer (nearest_at table post.point) post)))
post_kept posts table i post lt here within is = record {
  each = λ point. elim (ℕ_discrete point post.point) [
    | yes hit ↦ here_kept posts table i point post lt here within hit (is.each point)
    | no miss ↦ elsewhere_kept posts table i point post lt here within miss (is.each point)
  ];
}

pub none_at : (table : List (Option Post)) (point : ℕ) → All (λ o. o ≡ None) table → nearest_at table point ≡ None
none_at [] point all = refl
none_at (o ∷ table) zero all = all 0 None (omega arith)
none_at (o ∷ table) (suc point) all = none_at table point (λ k d lt. all (suc k) d (omega (arith, lt)))

pub none_nearest : (table : List (Option Post)) → All (λ o. o ≡ None) table → AreNearest [] table
none_nearest table all = record { each = λ point. rw (none_at table point all) refl }

pub none_limited : (points : ℕ) (table : List (Option Post)) → All (λ o. o ≡ None) table → All (λ o. IfSome o (IsPost points)) table
none_limited points table all k d lt = rw (all k d lt) tt

limited_if : (points : ℕ) (kept post : Post) (b : Bool) → IsPost points kept → IsPost points post → IsPost points (if b then kept else post)
limited_if points kept post true one other = one
limited_if points kept post false one other = other

nearer_limited : (points : ℕ) (kept : Option Post) (post : Post) → IfSome kept (IsPost points) → IsPost points post → IsPost points (nearer kept post)
nearer_limited points None post one other = other
nearer_limited points (Some kept) post one other = limited_if points kept post (nat_le kept.gap_m post.gap_m) one other

pub post_limited : (points : ℕ) (table : List (Option Post)) (post : Post) → post.point < length table → IsPost points post → All (λ o. IfSome o (IsPost points)) table
    → All (λ o. IfSome o (IsPost points)) (set table post.point (Some (nearer (nearest_at table post.point) post)))
post_limited points table post lt is all =
    All-set (λ o. IfSome o (IsPost points)) table post.point (Some (nearer (nearest_at table post.point) post)) (nearer_limited points (nearest_at table post.point) post (all post.point None lt) is) all

pub sight_mapped : (table : List (Option Post)) (point : ℕ) → sight_at (map (option_map (λ (p : Post). p.sight_m)) table) point ≡ option_map (λ (p : Post). p.sight_m) (nearest_at table point)
sight_mapped [] point = refl
sight_mapped (o ∷ table) zero = refl
sight_mapped (o ∷ table) (suc point) = sight_mapped table point

seen_within : (points : ℕ) (o : Option Post) (sight : ℕ) → IfSome o (IsPost points) → option_map (λ (p : Post). p.sight_m) o ≡ Some sight → sight ≤ MAX_SIGHT_M
seen_within points None sight is e = absurd (cc e)
seen_within points (Some post) sight is e = let same : post.sight_m ≡ sight = cc e in omega (arith, same, is.1)

pub sights_within : (points : ℕ) (table : List (Option Post)) → All (λ o. IfSome o (IsPost points)) table → (point sight : ℕ) → sight_at (map (option_map (λ (p : Post). p.sight_m)) table) point ≡ Some sight → sight ≤ MAX_SIGHT_M
sights_within points [] all point sight e = absurd (cc e)
sights_within points (o ∷ table) all zero sight e = seen_within points o sight (all 0 None (omega arith)) e
sights_within points (o ∷ table) all (suc point) sight e = sights_within points table (λ k d lt. all (suc k) d (omega (arith, lt))) point sight e

pub sights_are : (layout : Layout) (signals : List Signal) (posts : List Post) (table : List (Option Post)) → posts ≡ posts_of layout signals → AreNearest posts table
    → AreSights layout signals (map (option_map (λ (p : Post). p.sight_m)) table)
sights_are layout signals posts table same is point = (nearest_at table point, rw (← same) (is.each point), sight_mapped table point)

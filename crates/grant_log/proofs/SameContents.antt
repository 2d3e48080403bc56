-- What the tests of contents mean.
use Rattle.std.proofs.Common.{◌≡◌, Bool, true, false, Decides, List, bytes_eq, nat_eq, rules, refl, sym, ap}
use lib.Pointwise.{pointwise, pointwise_decides}
use Rattle.std.specs.Cmp.Lexicographic.{bytes_decides}
use Rattle.std.proofs.lemmas.Bool.Decides.{Decides-and, Decides-like, Decides-eqb}
use Rattle.rail_types.specs.declared.paths.Claim.{Claim}
use Rattle.rail_types.specs.declared.paths.Window.{Window}
use Rattle.rail_types.specs.declared.paths.Run.{Run}
use Rattle.rail_types.specs.declared.paths.Path.{Path}
use Rattle.rail_types.specs.declared.trains.Train.{Train}
use Rattle.rail_types.specs.declared.trains.Stop.{Stop}
use Rattle.rail_types.specs.declared.trains.Request.{Request}
use Rattle.rail_types.specs.declared.entries.Deed.{Deed}
use Rattle.rail_types.specs.declared.entries.Deed.TheVariants.{Hold, Grant, Free}
use Rattle.rail_types.specs.declared.entries.Wanted.TheVariants.{Asked, Pinned}
use Rattle.grant_log.specs.Content.{HaveSameContent, has_same_content, is_same_claim, is_same_path, is_same_request, is_same_run, is_same_stop, is_same_train, is_same_window}

same_claim : (a b : Claim) → Decides (is_same_claim a b) (a ≡ b)
same_claim a b = (search rules, search rules)

same_window : (a b : Window) → Decides (is_same_window a b) (a ≡ b)
same_window a b = (search rules, search rules)

same_run : (a b : Run) → Decides (is_same_run a b) (a ≡ b)
same_run a b = (search rules, search rules)

same_stop : (a b : Stop) → Decides (is_same_stop a b) (a ≡ b)
same_stop a b = (search rules, search rules)

same_train : (a b : Train) → Decides (is_same_train a b) (a ≡ b)
same_train a b = (search rules, search rules)

same_stops : (xs ys : List Stop) → Decides (pointwise is_same_stop xs ys) (xs ≡ ys)
same_stops = pointwise_decides same_stop

same_request : (a b : Request) → Decides (is_same_request a b) (a ≡ b)
same_request a b =
    let parts = Decides-and (is_same_train a.train b.train) _ (same_train a.train b.train) (Decides-and (nat_eq a.origin b.origin) _ (Decides-eqb a.origin b.origin) (Decides-and (nat_eq a.destination b.destination) _ (Decides-eqb a.destination b.destination) (Decides-and (is_same_window a.depart b.depart) _ (same_window a.depart b.depart) (Decides-and (is_same_window a.arrive b.arrive) (pointwise is_same_stop a.stops b.stops) (same_window a.arrive b.arrive) (same_stops a.stops b.stops))))) in
    Decides-like (is_same_request a b)
    (λ same. whole a b same.0 same.1.0 same.1.1.0 same.1.1.1.0 same.1.1.1.1.0 same.1.1.1.1.1)
    (λ same. (ap (λ (r : Request). r.train) same, (ap (λ (r : Request). r.origin) same, (ap (λ (r : Request). r.destination) same, (ap (λ (r : Request). r.depart) same, (ap (λ (r : Request). r.arrive) same, ap (λ (r : Request). r.stops) same))))))
    parts
  where
    whole : (a b : Request) → a.train ≡ b.train → a.origin ≡ b.origin → a.destination ≡ b.destination → a.depart ≡ b.depart → a.arrive ≡ b.arrive → a.stops ≡ b.stops → a ≡ b
    whole a b train origin destination depart arrive stops = search rules

same_path : (a b : Path) → Decides (is_same_path a b) (a ≡ b)
same_path a b =
    Decides-like (is_same_path a b)
    (λ same. whole a b same.0 same.1)
    (λ same. (ap (λ (p : Path). p.train) same, ap (λ (p : Path). p.runs) same))
    (Decides-and (is_same_train a.train b.train) (pointwise is_same_run a.runs b.runs) (same_train a.train b.train) (pointwise_decides same_run a.runs b.runs))
  where
    whole : (a b : Path) → a.train ≡ b.train → a.runs ≡ b.runs → a ≡ b
    whole a b train runs = search rules

never : Decides false ⊥
never = (λ wrong. let apart : false ≡ true = wrong in cc, λ absurdity. absurd absurdity)

pub same_content : (a b : Deed) → Decides (has_same_content a b) (HaveSameContent a b)
same_content (Hold claims reason) (Hold others other) = Decides-and (pointwise is_same_claim claims others) (bytes_eq reason other) (pointwise_decides same_claim claims others) (bytes_decides reason other)
same_content (Hold claims reason) (Grant wanted path) = never
same_content (Hold claims reason) (Free at) = never
same_content (Grant (Asked asked) path) (Grant (Asked other) granted) = same_request asked other
same_content (Grant (Asked asked) path) (Grant Pinned granted) = never
same_content (Grant (Asked asked) path) (Hold claims reason) = never
same_content (Grant (Asked asked) path) (Free at) = never
same_content (Grant Pinned path) (Grant Pinned other) = same_path path other
same_content (Grant Pinned path) (Grant (Asked other) granted) = never
same_content (Grant Pinned path) (Hold claims reason) = never
same_content (Grant Pinned path) (Free at) = never
same_content (Free at) (Free other) = Decides-eqb at other
same_content (Free at) (Hold claims reason) = never
same_content (Free at) (Grant wanted path) = never

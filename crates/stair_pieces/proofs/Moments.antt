-- The moments of a path's legs, one behind the other, and those of a step from a place.
use Rattle.std.proofs.Common.{◌≡◌, ap, refl, ℕ, ◌-◌, ◌≤◌, ℤ, pos, ◌+ℤ◌, ◌≤ℤ◌, Bool, true, false, List, [], ◌∷◌, map, Some, None, nat_le, if◌then◌else◌, arith}
use Rattle.std.proofs.lemmas.Int.{ints}
use Rattle.rail_types.specs.declared.tracks.Network.{Network}
use Rattle.rail_types.specs.declared.trains.Train.{Train}
use Rattle.rail_types.specs.declared.entries.Settings.{Settings}
use Rattle.rail_types.specs.declared.paths.Run.{Run}
use Rattle.running_time.specs.declared.edges.Enter.{Enter}
use Rattle.running_time.specs.declared.edges.Enter.TheVariants.{Still, From}
use Rattle.running_time.specs.Times.{part_ticks}
use Rattle.blocking_time.specs.Runs.{block_at, exit_of, entry_behind}
use Rattle.blocking_time.specs.Legs.{Leg, reached, EntersFrom, KeepAll, gone, begin_of, approach}
use Rattle.blocking_time.specs.declared.passages.Passage.{Passage}
use Rattle.stair_pieces.specs.declared.places.Place.{Place}
use Rattle.stair_pieces.specs.Places.{start_place, step_of, head_block, entry_of, stands_after, place_after}
use Rattle.stair_pieces.specs.Pieces.{step_end, step_begin, piece, later_by}
use Rattle.stair_pieces.proofs.Covering.{first}
use Rattle.stair_pieces.proofs.Tails.{head_is}

pub enters_late : (left enter : ℤ) (stops : Bool) → EntersFrom left enter stops → left ≤ℤ enter
enters_late left enter true later = later
enters_late left enter false same = omega (arith, ints)

-- a leg is left when it has been entered
pub leaves_late : (train : Train) (settings : Settings) (leg : Leg) → leg.run.leave ≡ reached train settings leg leg.block.length_m → leg.run.enter ≤ℤ leg.run.leave
leaves_late train settings leg timed = rw timed (grows leg.run.enter _)
  where
    grows : (a : ℤ) (n : ℕ) → a ≤ℤ (a +ℤ pos n)
    grows a n = omega (arith, ints)

-- the head goes on from where it is
pub gone_late : (train : Train) (settings : Settings) (before : Leg) (legs : List Leg) → KeepAll train settings (Some before) legs → (metres : ℕ) → before.run.leave ≤ℤ gone train settings before.run.leave legs metres
gone_late train settings before [] keep metres = omega (arith, ints)
gone_late train settings before (leg ∷ legs) (kept, keep) metres =
    let enters : before.run.leave ≤ℤ leg.run.enter = enters_late before.run.leave leg.run.enter before.run.stops kept.enters in
    let leaves : leg.run.enter ≤ℤ leg.run.leave = leaves_late train settings leg kept.timed in
    let again = gone_late train settings leg legs keep (metres - leg.block.length_m) in
    go (nat_le metres leg.block.length_m) _ enters leaves again
  where
    go : (here : Bool) (m : ℕ) → before.run.leave ≤ℤ leg.run.enter → leg.run.enter ≤ℤ leg.run.leave → leg.run.leave ≤ℤ gone train settings leg.run.leave legs (metres - leg.block.length_m)
        → before.run.leave ≤ℤ (if here then leg.run.enter +ℤ pos m else gone train settings leg.run.leave legs (metres - leg.block.length_m))
    go true m enters leaves again = omega (arith, ints)
    go false m enters leaves again = omega (arith, ints)

-- and a release follows
pub released_late : (a b : ℤ) (n : ℕ) → a ≤ℤ b → a ≤ℤ (b +ℤ pos n)
released_late a b n before = omega (arith, ints)

-- a run that begins at a place, as a leg
abbrev pub leg_of : Network → Enter → Run → Leg
leg_of net entry run = record { block = block_at net run.block; entry = entry; run = run }

-- how the place after a run is left
pub stands_as_it_stops : (stops : Bool) → stands_after (exit_of stops) ≡ stops
stands_as_it_stops true = refl
stands_as_it_stops false = refl

pub entry_after : (net : Network) (train : Train) (place : Place) (run : Run) → 1 ≤ train.length_m → entry_of net train (place_after net train place (step_of run)) ≡ entry_behind train (block_at net run.block) run.stops
entry_after net train place run long = rw (head_is net train long place.tail run.block, stands_as_it_stops run.stops) refl

-- the pieces of a step are the claims of its run up to its end
module _ (net : Network) (settings : Settings) (train : Train) (place : Place) (entry : Enter) (same : entry_of net train place ≡ entry) (run : Run) (timed : run.leave ≡ reached train settings (leg_of net entry run) (block_at net run.block).length_m) where
  end_is : (metres : ℕ) → step_end net settings train place (step_of run) metres +ℤ run.enter ≡ (if nat_le metres (block_at net run.block).length_m then reached train settings (leg_of net entry run) metres +ℤ pos settings.release else run.leave)
  end_is metres = rw (same, timed) (go (nat_le metres (block_at net run.block).length_m) _ _)
    where
      go : (here : Bool) (m n : ℕ) → (if here then pos m +ℤ pos settings.release else pos n) +ℤ run.enter ≡ (if here then (run.enter +ℤ pos m) +ℤ pos settings.release else run.enter +ℤ pos n)
      go true m n = omega (arith, ints)
      go false m n = omega (arith, ints)

  pub pieces_at : (from at : ℤ) → from +ℤ run.enter ≡ at → (passages : List Passage) → later_by run.enter (map (piece net settings train place (step_of run) from) passages) ≡ map (first (block_at net run.block).length_m at run.leave (pos settings.release) (reached train settings (leg_of net entry run))) passages
  pieces_at from at moved [] = refl
  pieces_at from at moved (p ∷ passages) = rw (moved, end_is p.metres) (ap (λ others. first (block_at net run.block).length_m at run.leave (pos settings.release) (reached train settings (leg_of net entry run)) p ∷ others) (pieces_at from at moved passages))

-- the begin of a new block
pub begin_first : (net : Network) (settings : Settings) (train : Train) (leg : Leg) → step_begin settings train (block_at net (head_block start_place.tail)) start_place.entered start_place.standing +ℤ leg.run.enter ≡ begin_of train settings None leg Still
begin_first net settings train leg = omega (arith, ints)

pub begin_next : (net : Network) (settings : Settings) (train : Train) (place : Place) (entry : Enter) (before run : Run) → entry_of net train place ≡ entry → 1 ≤ train.length_m
    → before.leave ≡ reached train settings (leg_of net entry before) (block_at net before.block).length_m
    → EntersFrom before.leave run.enter before.stops
    → step_begin settings train (block_at net (head_block (place_after net train place (step_of before)).tail)) (place_after net train place (step_of before)).entered (place_after net train place (step_of before)).standing +ℤ run.enter
    ≡ begin_of train settings (Some (leg_of net entry before)) (leg_of net (entry_behind train (block_at net before.block) before.stops) run) (entry_behind train (block_at net before.block) before.stops)
begin_next net settings train place entry before run same long timed enters =
    rw (head_is net train long place.tail before.block, stands_as_it_stops before.stops, same) (go before.stops entry timed enters)
  where
    go : (stops : Bool) (entry : Enter) → before.leave ≡ before.enter +ℤ pos (part_ticks (block_at net before.block) train settings entry (exit_of stops) (block_at net before.block).length_m)
        → EntersFrom before.leave run.enter stops
        → step_begin settings train (block_at net before.block) entry stops +ℤ run.enter ≡ begin_of train settings (Some (leg_of net entry before)) (leg_of net (entry_behind train (block_at net before.block) stops) run) (entry_behind train (block_at net before.block) stops)
    go true entry timed enters = omega (arith, ints)
    go false Still timed enters = omega (arith, ints)
    go false (From speed) timed enters = omega (arith, ints)

-- the zones of a leg are blocked before it is entered
pub begin_early : (train : Train) (settings : Settings) (before leg : Leg) (entry : Enter) → before.run.enter ≤ℤ leg.run.enter → begin_of train settings (Some before) leg entry ≤ℤ leg.run.enter
begin_early train settings before leg Still later = omega (arith, ints)
begin_early train settings before leg (From speed) later = go before.entry
  where
    go : (entry : Enter) → approach train settings before entry ≤ℤ leg.run.enter
    go Still = omega (arith, ints)
    go (From speed) = omega (arith, ints)

-- the head is nowhere before it enters
pub gone_enters : (train : Train) (settings : Settings) (leave : ℤ) (leg : Leg) (legs : List Leg) → leg.run.leave ≡ reached train settings leg leg.block.length_m → KeepAll train settings (Some leg) legs → (metres : ℕ) → leg.run.enter ≤ℤ gone train settings leave (leg ∷ legs) metres
gone_enters train settings leave leg legs timed keep metres = go (nat_le metres leg.block.length_m) _ (leaves_late train settings leg timed) (gone_late train settings leg legs keep (metres - leg.block.length_m))
  where
    go : (here : Bool) (m : ℕ) → leg.run.enter ≤ℤ leg.run.leave → leg.run.leave ≤ℤ gone train settings leg.run.leave legs (metres - leg.block.length_m)
        → leg.run.enter ≤ℤ (if here then leg.run.enter +ℤ pos m else gone train settings leg.run.leave legs (metres - leg.block.length_m))
    go true m leaves again = omega (arith, ints)
    go false m leaves again = omega (arith, ints)

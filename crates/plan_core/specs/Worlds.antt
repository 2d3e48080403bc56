-- A world: one history and the clients that write it; and which entries may come to it.
use Rattle.std.specs.Prelude.{◌≡◌, ◌≢◌, ℕ, ◌<◌, Bool, true, false, List, [], length, replicate}
use Rattle.std.specs.Prelude.{Some, None, slice_get, Contains}
use Rattle.rail_types.specs.declared.entries.Deed.{Deed}
use Rattle.rail_types.specs.declared.entries.Deed.TheVariants.{Hold, Grant, Free}
use Rattle.rail_types.specs.declared.entries.Entry.{Entry}
use Rattle.rail_types.specs.declared.entries.Wanted.TheVariants.{Asked, Pinned}
use Rattle.rail_types.specs.Timetables.{Timetable}
use Rattle.grant_log.specs.Legal.{Joins}
use Rattle.grant_log.specs.Verdict.{takes}
use Rattle.plan_core.specs.Parties.{Party, positions}

-- a world: the timetable, the history, how many of its entries are settled,
-- whether it runs, and its clients
pub record Plan : Type 0 where
  pub timetable : Timetable
  pub entries : List Entry
  pub settled : ℕ
  pub up : Bool
  pub clients : List Party

-- the world at its beginning: it runs, with an empty history and clients that know nothing
abbrev pub first_world : Timetable → ℕ → Plan
first_world timetable clients =
    record {
      timetable = timetable;
      entries = [];
      settled = 0;
      up = true;
      clients = replicate clients (record { front = 0; searched = None; log = [] });
    }

-- all entries are settled
abbrev pub IsSettled : Plan → Type 0
IsSettled world = world.settled ≡ length world.entries

-- the world runs and has this client
pub record IsServed (world : Plan) (client : ℕ) : Type 0 where
  pub up : world.up ≡ true
  pub has : client < length world.clients

-- a note of the client that is not lost names this position
abbrev pub Names : Plan → ℕ → ℕ → Type 0
Names world client at =
    (party : Party) × (slice_get world.clients client ≡ Some party)
    × Contains (positions party.log) at

-- an entry is of a client where its owner is that of all entries in the client's notes that are not
-- lost, and of none in another client's notes that are not lost
pub record IsOf (world : Plan) (client : ℕ) (entry : Entry) : Type 0 where
  pub own : (at : ℕ) (other : Entry) → Names world client at
      → slice_get world.entries at ≡ Some other → other.owner ≡ entry.owner
  pub others : (another at : ℕ) (other : Entry) → another ≢ client → Names world another at
      → slice_get world.entries at ≡ Some other → other.owner ≢ entry.owner

-- all is settled, and the entry is the client's and joins the history
pub record MayWrite (world : Plan) (client : ℕ) (entry : Entry) : Type 0 where
  pub served : IsServed world client
  pub settled : IsSettled world
  pub is_of : IsOf world client entry
  pub joins : Joins world.timetable world.entries entry

-- a grant of a path that was asked for
abbrev pub IsAsked : Deed → Type 0
IsAsked (Grant (Asked request) path) = Unit {0}
IsAsked (Grant Pinned path) = ⊥
IsAsked (Hold claims reason) = ⊥
IsAsked (Free at) = ⊥

-- the client has a searched front
abbrev pub HasSearched : Plan → ℕ → Type 0
HasSearched world client =
    (party : Party) × (front : ℕ) × (slice_get world.clients client ≡ Some party)
    × (party.searched ≡ Some front)

-- the client may write a hold or a grant; an asked one needs a searched front
pub record MayCommit (world : Plan) (client : ℕ) (entry : Entry) : Type 0 where
  pub write : MayWrite world client entry
  pub takes : takes entry.deed ≡ true
  pub searched : IsAsked entry.deed → HasSearched world client

-- the client may write a Free
pub record MayFree (world : Plan) (client : ℕ) (entry : Entry) : Type 0 where
  pub write : MayWrite world client entry
  pub frees : takes entry.deed ≡ false

-- Where an event may come in a world, and what it does there.
use Rattle.std.specs.Prelude.{◌≡◌, ◌⊎◌, ℕ, ◌+◌, ◌-◌, ◌<◌, Bool, true, false, nat_lt, if◌then◌else◌}
use Rattle.std.specs.Prelude.{[], ◌∷◌, ◌++◌, length, map, take, Some, None}
use Rattle.rail_types.specs.declared.entries.Entry.{Entry}
use Rattle.grant_journal.specs.declared.journals.Stage.TheVariants.{Record, Gate}
use Rattle.plan_core.specs.declared.events.Event.{Event}
use Rattle.plan_core.specs.declared.events.Event.TheVariants.{Turn, Seek, Commit, Free, Fault}
use Rattle.plan_core.specs.declared.events.Event.TheVariants.{Settle, Crash, Open}
use Rattle.plan_core.specs.Parties.{changed_at, losing, noting, restarting, seeking, writing}
use Rattle.plan_core.specs.Worlds.{IsServed, IsSettled, MayCommit, MayFree, Plan}

-- A turn may come where all is settled, a search at any time; an entry where all is settled, and it
-- is the client's and joins the history; a fault where the entry could have come; a settling where
-- an entry is not settled; a crash while the world runs, and an opening while it does not.
abbrev pub IsEnabled : Plan → Event → Type 0
IsEnabled world (Turn client) = IsServed world client × IsSettled world
IsEnabled world (Seek client) = IsServed world client
IsEnabled world (Commit client entry) = MayCommit world client entry
IsEnabled world (Free client entry) = MayFree world client entry
IsEnabled world (Fault client entry stage) =
    MayCommit world client entry ⊎ MayFree world client entry
IsEnabled world (Settle done) = (world.up ≡ true) × (world.settled < length world.entries)
IsEnabled world (Crash keeps_last) = world.up ≡ true
IsEnabled world Open = world.up ≡ false

-- the client has noted the front that it found
abbrev pub read : Plan → ℕ → Plan
read world client =
    record world { clients = changed_at client (noting (length world.entries) None) world.clients }

-- the history has one entry more, all is settled, and the client has noted it
abbrev pub written : Plan → ℕ → Entry → Plan
written world client entry =
    record world {
      entries = world.entries ++ entry ∷ [];
      settled = length world.entries + 1;
      clients = changed_at client (writing (length world.entries)) world.clients;
    }

-- the history has one entry more, which is not settled, and the client has noted it
abbrev pub begun : Plan → ℕ → Entry → Plan
begun world client entry =
    record world {
      entries = world.entries ++ entry ∷ [];
      clients = changed_at client
          (noting (length world.entries + 1) (Some (length world.entries))) world.clients;
    }

-- the history without its last entry, the note of which is marked as lost
abbrev pub without_last : Plan → Plan
without_last world =
    record world {
      entries = take (length world.entries - 1) world.entries;
      clients = map (losing (length world.entries - 1)) world.clients;
    }

-- the world does not run: no client knows more than the history, and none has a searched front
abbrev pub stopped : Plan → Plan
stopped world =
    record world { up = false; clients = map (restarting (length world.entries)) world.clients }

-- what an event does where it may come
abbrev pub after : Plan → Event → Plan
after world (Turn client) = read world client
after world (Seek client) = record world { clients = changed_at client seeking world.clients }
after world (Commit client entry) = written world client entry
after world (Free client entry) = written world client entry
after world (Fault client entry Record) = read world client
after world (Fault client entry Gate) = begun world client entry
after world (Settle true) = record world { settled = length world.entries }
after world (Settle false) = world
after world (Crash true) = stopped world
after world (Crash false) =
    stopped (if nat_lt world.settled (length world.entries) then without_last world else world)
after world Open = record world { up = true; settled = length world.entries }

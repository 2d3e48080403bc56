-- *inside*: workers as they take their seats, and leave them.
use Rattle.std.specs.Prelude.{◌≡◌, All, List, []}
use Rattle.served_clients.specs.admission.declared.rules.Rule.{Ghosts as Rules}
use Rattle.batch_pool.specs.Batches.{AreMatched}
use Rattle.batch_command.specs.Clerks.{IsFresh}
use Rattle.batch_command.specs.declared.batch_server.clerks.Clerk.{Clerk}
use Rattle.batch_command.specs.declared.batch_server.members.Member.{Member}
use Rattle.batch_command.specs.declared.batch_server.members.Worked.{Worked}
use Rattle.served_clients.specs.gate.Passes.{view}
use Rattle.served_clients.specs.gate.Views.{StartsWith}
use Rattle.served_clients.specs.admission.Ruled.{stand}
use Rattle.served_clients.specs.Joins.{AreJoined}
use Rattle.served_clients.specs.ClientRuns.{told_own}
use Rattle.served_clients.specs.Seats.{found_at, IsDone}
use Rattle.served_clients.specs.Talks.{Talk}
use Rattle.served_clients.specs.turns.Turns.{Sight}
use Rattle.served_clients.specs.turns.declared.shared.Shared.{Shared}
use Rattle.rail_types.specs.declared.entries.Entry.{Entry}

-- this worker sits at its seat, and its rules were told its entries of the history found
pub record IsClerkOf {D Btw L : Type 0} (kind : Rules L) (shared : Shared D) (member : Member Btw L)
    (clerk : Clerk D Btw L) : Type 0 where
  pub fresh : IsFresh shared clerk
  pub name : clerk.name ≡ member.name
  pub client : clerk.seat.guest.client.name ≡ member.name
  pub rules : stand kind clerk.seat.rules.items
      ≡ told_own (found_at shared.gate) member.name (stand kind member.rules.items)

-- how many lines a worker answered, and its rules as they are left
abbrev pub worked_of : {D Btw L : Type 0} → Clerk D Btw L → Worked L
worked_of clerk =
    record { name = clerk.name; lines = clerk.asked; rules = clerk.seat.rules }

-- the passes of these workers were taken in by the one that knows v
pub record HaveLeft {D Btw L : Type 0} (kind : Rules L) (shared : Shared D)
    (clerks : List (Clerk D Btw L)) (v : Sight) : Type 0 where
  pub seen : (history : List Entry) → All (λ list. StartsWith history list) v.joined
      → All (λ clerk. StartsWith history (view clerk.seat.guest.pass).seen) clerks
  pub joined : (talks : List Talk)
      → AreMatched (λ clerk talk. IsDone kind shared clerk.seat talk) clerks talks
      → AreJoined shared v talks
  pub still : All (λ clerk. (view clerk.seat.guest.pass).turns ≡ []) clerks → v.turns ≡ []

-- *inside*: what came of a list, once all workers have left their seats.
use Rattle.std.specs.Prelude.{◌≡◌, ℕ, All, List, [], Option, length, map}
use Rattle.served_clients.specs.admission.declared.rules.Rule.{Ghosts as Rules}
use Rattle.batch_command.specs.Batches.{AreShared, AreTexts, HasWorked}
use Rattle.batch_command.specs.declared.batch_server.members.Member.{Member}
use Rattle.batch_command.specs.declared.batch_server.members.Worked.{Worked}
use Rattle.served_clients.specs.gate.Views.{StartsWith}
use Rattle.served_clients.specs.Joins.{AreJoined}
use Rattle.served_clients.specs.ClientRuns.{AreMatched, owned}
use Rattle.served_clients.specs.Seats.{found_at}
use Rattle.served_clients.specs.Talks.{printed, Talk}
use Rattle.served_clients.specs.turns.Turns.{Sight}
use Rattle.served_clients.specs.turns.declared.shared.Shared.{Shared}
use Rattle.rail_types.specs.declared.entries.Entry.{Entry}

-- The workers shared the lines of a list, and their passes were taken in by the one that knows v.
-- By a history in which the entries behind those found are those of the replies, each worker's
-- rules were told its own entries. Without lines no turn was taken.
pub record HaveAnswered {D Btw L : Type 0} (kind : Rules L) (shared : Shared D)
    (lines : List (List ℕ)) (owners : List (Option ℕ)) (members : List (Member Btw L))
    (worked : List (Worked L)) (texts : Option (List (List ℕ))) (v : Sight) : Type 0 where
  pub talks : List Talk
  pub shares : List (List ℕ)
  pub names : map (λ talk. talk.name) talks ≡ map (λ member. member.name) members
  pub workers : (history : List Entry) → StartsWith history (found_at shared.gate)
      → All (λ list. StartsWith history list) v.joined
      → All (λ talk. owned history talk.name (length (found_at shared.gate))
      ≡ printed talk.traffic.told) talks
      → AreMatched (HasWorked kind (found_at shared.gate) history) members worked talks
  pub joined : AreJoined shared v talks
  pub shared_so : AreShared lines owners talks shares
  pub texts_are : AreTexts lines talks shares texts
  pub still : lines ≡ [] → v.turns ≡ []

-- A gate for clients, and those who come to it.
use Rattle.std.specs.Prelude.{◌≡◌, ℕ, ◌+◌, ◌*◌, List, []}
use Rattle.line_answers.specs.gate.declared.gates.Pass.{Pass}
use Rattle.line_answers.specs.gate.Passes.{opened, turns_given, turns_left, view}
use Rattle.client_lines.specs.Names.{Names}
use Rattle.line_answers.specs.turns.Clients.{IsCopyOf}
use Rattle.line_answers.specs.turns.Turns.{IsReady}
use Rattle.line_answers.specs.turns.declared.shared.Shared.{Shared}
use Rattle.line_answers.specs.turns.Sharing.{IsShared}
use Rattle.line_answers.specs.book.declared.stands.Footing.{Footing}
use Rattle.line_answers.specs.book.Ledgers.{Ledger}
use Rattle.rail_types.specs.declared.entries.Entry.{Entry}
use Rattle.rail_types.specs.Limits.{IsClientName}
use Rattle.rail_types.specs.Timetables.{Timetable}
use Rattle.served_clients.specs.declared.client_seats.gates.TheConstants.{TURNS_OF_A_CLIENT}
use Rattle.served_clients.specs.declared.client_seats.newcomers.Newcomer.{Newcomer}
use Rattle.served_clients.specs.Seats.{found_at}
use Rattle.served_clients.specs.Tellings.{own_tellings}

-- the pass from which clients get theirs: it has taken no turn
pub record IsHost {D : Type 0} (shared : Shared D) (pass : Pass (Ledger D) Entry Footing)
    : Type 0 where
  pub ready : IsReady shared.gate pass
  pub budget : turns_left pass ≡ (view pass).share
  pub turns : (view pass).turns ≡ []
  pub seen : (view pass).seen ≡ found_at shared.gate

-- the book was given to a gate, at which there are seats for so many clients
pub record IsOpened {D : Type 0} (book : Ledger D) (known : Names) (clients : ℕ)
    (shared : Shared D) (pass : Pass (Ledger D) Entry Footing) : Type 0 where
  pub is_shared : IsShared shared
  pub book_is : opened shared.gate ≡ book
  pub given : turns_given shared.gate ≡ clients * TURNS_OF_A_CLIENT + 1
  pub known_is : shared.known ≡ known
  pub host : IsHost shared pass
  pub share : (view pass).share ≡ clients * TURNS_OF_A_CLIENT + 1

-- a client of this name that knows the entries of a book, and what its rules
-- are told of its own ones there
pub record IsNewcomer (timetable : Timetable) (entries : List Entry) (name : List ℕ)
    (newcomer : Newcomer) : Type 0 where
  pub name_is : newcomer.client.name ≡ name
  pub named : IsClientName name
  pub copy : IsCopyOf timetable newcomer.client entries
  pub tellings : newcomer.tellings.items ≡ own_tellings entries name

-- *Inside*: the parts of a client's word.
use Rattle.std.specs.Prelude.{◌≢◌, ℕ, List}
use Rattle.rail_types.specs.Limits.{IsClientName}
use Rattle.command_line.specs.Clients.{IsStreamName}

-- a client's name and two streams
pub record AreClientParts (name input output : List ℕ) : Type 0 where
  pub named : IsClientName name
  pub input_is : IsStreamName input
  pub output_is : IsStreamName output
  pub streams : input ≢ output

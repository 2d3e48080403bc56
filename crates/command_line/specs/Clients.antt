-- The clients of a command line, and the words that name them.
use Rattle.std.specs.Prelude.{◌≢◌, ◌≤◌, ℕ, List, [], ◌∷◌, ◌++◌, length}
use Rattle.std.specs.List.{All, AllPairs}
use Rattle.command_line.specs.Spelling.{equals_sign, Lacks, Word}
use Rattle.rail_types.specs.Limits.{IsClientName}
use Rattle.command_line.specs.declared.client_words.clients.ClientWord.{ClientWord}

-- the byte `:`
abbrev pub colon : ℕ
colon = 58

-- NAME=IN:OUT
abbrev pub joined_client : (name input output : List ℕ) → Word
joined_client name input output = name ++ equals_sign ∷ (input ++ colon ∷ output)

-- the word of a client
abbrev pub client_text : ClientWord → Word
client_text word = joined_client word.client word.input word.output

-- the name of a file, a pipe or a standard stream: not empty, and without a colon
pub record IsStreamName (name : List ℕ) : Type 0 where
  pub some : name ≢ []
  pub no_colon : Lacks colon name

-- a client that a word may name
pub record IsClientWord (word : ClientWord) : Type 0 where
  pub client : IsClientName word.client
  pub input : IsStreamName word.input
  pub output : IsStreamName word.output
  pub streams : word.input ≢ word.output

-- two clients that share neither a name nor a stream
pub record AreApart (one other : ClientWord) : Type 0 where
  pub names : one.client ≢ other.client
  pub inputs : one.input ≢ other.input
  pub outputs : one.output ≢ other.output
  pub crossed : (one.input ≢ other.output) × (one.output ≢ other.input)

-- clients that may be served together: 1 to 16, each of its form, no two of
-- which share a name or a stream
pub record AreClients (clients : List ClientWord) : Type 0 where
  pub some : 1 ≤ length clients
  pub few : length clients ≤ 16
  pub each : All IsClientWord clients
  pub apart : AllPairs AreApart clients

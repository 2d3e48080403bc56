-- A list that is read as a whole, or why it is not.
use Rattle.std.specs.Prelude.{◌≡◌, ◌≢◌, ℕ, ◌<◌, ◌≤◌, List, [], ◌++◌, length}
use Rattle.std.specs.Io.KnownBytes.{Consumes, IsAtEnd}
use Rattle.served_clients.specs.lines.declared.lines.TheConstants.{MAX_LINE_BYTES}
use Rattle.served_clients.specs.sessions.Ends.{AreAll, Begins}
use Rattle.served_clients.specs.sessions.Lines.{HasNoEnd}
use Rattle.served_clients.specs.sessions.declared.sessions.TheConstants.{MAX_LINES}
use Rattle.batch_command.specs.declared.list_lines.lists.ListFault.{ListFault}
use Rattle.batch_command.specs.declared.list_lines.lists.ListFault.TheVariants.{ReadFault, LongLine}
use Rattle.batch_command.specs.declared.list_lines.lists.ListFault.TheVariants.{LineCount}
use Rattle.batch_command.specs.declared.list_lines.lists.ListFault.TheVariants.{Memory}
use Rattle.outside_io.specs.Stops.{ReadStopsAt}
use Rattle.outside_io.specs.declared.sources.Source.{Ghosts as Sources}

-- the source was read to its end without a fault, and these are its lines, none of which is
-- too long, nor are they too many
pub record IsWhole {Src : Type 0} (source : Sources Src) (before after : Src)
    (lines : List (List ℕ)) : Type 0 where
  pub taken : List ℕ
  pub consumed : Consumes (source.left before) (source.left after) taken
  pub at_end : IsAtEnd (source.left after)
  pub lines_are : AreAll taken lines
  pub quiet : source.faults after ≡ source.faults before

-- the source failed behind these lines, within the next one, where one more was allowed
pub record IsBroken {Src : Type 0} (source : Sources Src) (before after : Src) : Type 0 where
  pub taken : List ℕ
  pub lines : List (List ℕ)
  pub rest : List ℕ
  pub begins : Begins taken lines rest
  pub partial : HasNoEnd rest
  pub short : length rest ≤ MAX_LINE_BYTES
  pub few : length lines ≡ MAX_LINES → rest ≡ []
  pub stops : ReadStopsAt source.left source.faults before after taken

-- the line behind these is too long, and one more line was allowed
pub record IsTooLong {Src : Type 0} (source : Sources Src) (before after : Src) : Type 0 where
  pub taken : List ℕ
  pub lines : List (List ℕ)
  pub line : List ℕ
  pub rest : List ℕ
  pub consumed : Consumes (source.left before) (source.left after) taken
  pub begins : Begins taken lines (line ++ rest)
  pub one : HasNoEnd line
  pub long : MAX_LINE_BYTES < length line
  pub allowed : length lines < MAX_LINES
  pub quiet : source.faults after ≡ source.faults before

-- there are as many lines as are allowed, and another one begins
pub record AreTooMany {Src : Type 0} (source : Sources Src) (before after : Src) : Type 0 where
  pub taken : List ℕ
  pub lines : List (List ℕ)
  pub rest : List ℕ
  pub consumed : Consumes (source.left before) (source.left after) taken
  pub begins : Begins taken lines rest
  pub full : length lines ≡ MAX_LINES
  pub more : rest ≢ []
  pub quiet : source.faults after ≡ source.faults before

-- memory was wanted, and the source had no fault
pub record IsWanted {Src : Type 0} (source : Sources Src) (before after : Src) : Type 0 where
  pub taken : List ℕ
  pub consumed : Consumes (source.left before) (source.left after) taken
  pub quiet : source.faults after ≡ source.faults before

-- what a fault says of the source
abbrev pub Refuses : {Src : Type 0} → Sources Src → Src → Src → ListFault → Type 0
Refuses source before after ReadFault = IsBroken source before after
Refuses source before after LongLine = IsTooLong source before after
Refuses source before after LineCount = AreTooMany source before after
Refuses source before after Memory = IsWanted source before after

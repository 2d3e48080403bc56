-- Lines as they come out of a source.
use Rattle.std.specs.Prelude.{◌≡◌, ◌≢◌, ℕ, ◌<◌, ◌≤◌, List, [], ◌∷◌, ◌++◌, length, Option}
use Rattle.std.specs.Io.KnownBytes.{Consumes, IsAtEnd, Keeps}
use Rattle.outside_io.specs.Faults.{Rose}
use Rattle.client_lines.specs.declared.lines.TheConstants.{MAX_LINE_BYTES}
use Rattle.line_sessions.specs.declared.streams.Step.{Step}
use Rattle.line_sessions.specs.declared.streams.Step.TheVariants.{Line, Last, End, LongLine}
use Rattle.line_sessions.specs.declared.streams.Step.TheVariants.{ReadFault, Memory as step_memory}
use Rattle.line_sessions.specs.declared.streams.Found.{Found}
use Rattle.line_sessions.specs.declared.streams.Found.TheVariants.{Ending, Part, TooMany, Memory}
use Rattle.line_sessions.specs.declared.streams.More.{More}
use Rattle.line_sessions.specs.declared.streams.More.TheVariants.{Bytes, Nothing, Failed}
use Rattle.line_sessions.specs.Lines.{line_end, HasNoEnd, IsLine}

-- a line, and the bytes behind it that were taken out of the source already
pub record Lines : Type 0 where
  pub line : List ℕ
  pub pending : List ℕ

-- the bytes that were pending, and behind them those taken since, are these
pub record Came (left left' : Option (List ℕ)) (pending bytes : List ℕ) : Type 0 where
  pub taken : List ℕ
  pub consumed : Consumes left left' taken
  pub bytes_are : pending ++ taken ≡ bytes

-- nothing came behind these bytes, and the source is at its end
pub record CameLast (left left' : Option (List ℕ)) (pending bytes pending' : List ℕ) : Type 0 where
  pub came : Came left left' pending bytes
  pub at_end : IsAtEnd left'
  pub all : pending' ≡ []

-- a line came, and its end
pub record CameLine (left left' : Option (List ℕ)) (pending line pending' : List ℕ) : Type 0 where
  pub came : Came left left' pending (line ++ line_end ∷ pending')
  pub line_is : IsLine line

-- a last line came, without an end
pub record CameLastLine (left left' : Option (List ℕ)) (pending line pending' : List ℕ)
    : Type 0 where
  pub last : CameLast left left' pending line pending'
  pub line_is : IsLine line
  pub some : line ≢ []

-- a line came that is too long, or its front
pub record CameLong (left left' : Option (List ℕ)) (pending : List ℕ) : Type 0 where
  pub line : List ℕ
  pub rest : List ℕ
  pub came : Came left left' pending (line ++ rest)
  pub one : HasNoEnd line
  pub long : MAX_LINE_BYTES < length line

-- a part of a line came that is not too long
pub record CamePart (left left' : Option (List ℕ)) (pending : List ℕ) : Type 0 where
  pub rest : List ℕ
  pub came : Came left left' pending rest
  pub partial : HasNoEnd rest
  pub short : length rest ≤ MAX_LINE_BYTES

-- a part of a line came up to some state without a fault, and then the source
-- failed, and gave nothing more
pub record PartThenFault {Src : Type 0} (left : Src → Option (List ℕ)) (faults : Src → ℕ)
    (src src' : Src) (pending : List ℕ) : Type 0 where
  pub at_fault : Src
  pub part : CamePart (left src) (left at_fault) pending
  pub quiet : faults at_fault ≡ faults src
  pub later : faults at_fault ≤ faults src'
  pub kept : Keeps (left at_fault) (left src')
  pub rose : Rose (faults at_fault) (faults src')

-- something came
pub record CameSome (left left' : Option (List ℕ)) (pending : List ℕ) : Type 0 where
  pub rest : List ℕ
  pub came : Came left left' pending rest

-- more than nothing came
pub record CameMore (left left' : Option (List ℕ)) (pending : List ℕ) : Type 0 where
  pub rest : List ℕ
  pub came : Came left left' pending rest
  pub some : rest ≢ []

-- what a step says of the bytes
abbrev pub Says : Step → Option (List ℕ) → Option (List ℕ) → List ℕ → Lines → Type 0
Says Line left left' pending lines = CameLine left left' pending lines.line lines.pending
Says Last left left' pending lines = CameLastLine left left' pending lines.line lines.pending
Says End left left' pending lines = CameLast left left' pending [] lines.pending
Says LongLine left left' pending lines = CameLong left left' pending
Says ReadFault left left' pending lines = CamePart left left' pending
Says step_memory left left' pending lines = CameSome left left' pending

-- what is said of whether more comes
abbrev pub SaysMore : More → Option (List ℕ) → Option (List ℕ) → List ℕ → Type 0
SaysMore Bytes left left' pending = CameMore left left' pending
SaysMore Nothing left left' pending = CameLast left left' pending [] []
SaysMore Failed left left' pending = Keeps left left' × (pending ≡ [])

-- what asking for bytes says, where none were pending
abbrev pub SaysRefilled : More → Option (List ℕ) → Option (List ℕ) → List ℕ → Type 0
SaysRefilled Bytes left left' pending' = Consumes left left' pending' × (pending' ≢ [])
SaysRefilled Nothing left left' pending' = Consumes left left' [] × IsAtEnd left' × (pending' ≡ [])
SaysRefilled Failed left left' pending' = Keeps left left'

-- the line ended within the pending bytes
pub record FoundEnding (old new : Lines) : Type 0 where
  pub front : List ℕ
  pub pending_was : old.pending ≡ front ++ line_end ∷ new.pending
  pub one : HasNoEnd front
  pub line_is : new.line ≡ old.line ++ front
  pub short : length new.line ≤ MAX_LINE_BYTES

-- the pending bytes are a part of the line
pub record FoundPart (old new : Lines) : Type 0 where
  pub one : HasNoEnd old.pending
  pub line_is : new.line ≡ old.line ++ old.pending
  pub short : length new.line ≤ MAX_LINE_BYTES
  pub nothing : new.pending ≡ []

-- with bytes that are pending the line is too long
pub record FoundTooMany (old : Lines) : Type 0 where
  pub front : List ℕ
  pub rest : List ℕ
  pub pending_was : old.pending ≡ front ++ rest
  pub one : HasNoEnd front
  pub long : MAX_LINE_BYTES < length (old.line ++ front)

-- what was found among the pending bytes
abbrev pub SaysFound : Found → Lines → Lines → Type 0
SaysFound Ending old new = FoundEnding old new
SaysFound Part old new = FoundPart old new
SaysFound TooMany old new = FoundTooMany old
SaysFound Memory old new = Unit {0}

-- the step at the end of a source, where the line so far is this
abbrev pub IsLastStep : Step → List ℕ → Type 0
IsLastStep Line line = ⊥
IsLastStep Last line = line ≢ []
IsLastStep End line = line ≡ []
IsLastStep LongLine line = ⊥
IsLastStep ReadFault line = ⊥
IsLastStep step_memory line = ⊥

-- What is written of a proof.
use Rattle.std.specs.Prelude.{◌≡◌, ◌<◌, List, ℕ, ◌∷◌, ◌++◌, All, decimal, Result, OnOk}
use Rattle.std.specs.Io.{StartsWith}
use Rattle.byte_fields.specs.Buffered.{Buffered}
use Rattle.rail_types.specs.declared.trains.Request.{Request}
use Rattle.rail_types.specs.declared.trains.Stop.{Stop}
use Rattle.client_lines.specs.Fields.{spaced}
use Rattle.proof_texts.specs.Texts.{stop_fields}

-- the operational points of a request are some of so many
pub record HasPointsOf (count : ℕ) (request : Request) : Type 0 where
  pub origin : request.origin < count
  pub destination : request.destination < count
  pub stops : All (λ stop. stop.stop < count) request.stops

-- *inside*: a text stands behind what was written already, or a part of it where memory was wanted
pub record Prints {E : Type 0} (text : List ℕ) (old new : Buffered) (result : Result (Unit {0}) E)
    : Type 0 where
  pub ok : OnOk result (new.held ≡ old.held ++ text)
  pub kept : StartsWith new.held old.held

-- *inside*: a block, and a stop, behind a space
abbrev pub block_text : ℕ → List ℕ
block_text block = 32 ∷ decimal block

abbrev pub stop_text : List (List ℕ) → Stop → List ℕ
stop_text stops stop = spaced (stop_fields stops stop)

-- What the sink of proofs holds, where there is one.
use Rattle.std.specs.Prelude.{ℕ, List, Bool, true, false, Option, None}
use Rattle.line_sessions.specs.declared.proofs.Proofs.{Proofs}
use Rattle.line_sessions.specs.declared.proofs.Proofs.TheVariants.{Unwanted, To}

module _ {Snk : Type 0} where
  -- whether there is a sink for proofs
  abbrev pub is_wanted : Proofs Snk → Bool
  is_wanted Unwanted = false
  is_wanted (To sink) = true

  -- the bytes that it holds, where it tells them
  abbrev pub held_by : (Snk → Option (List ℕ)) → Proofs Snk → Option (List ℕ)
  held_by held Unwanted = None
  held_by held (To sink) = held sink

  -- how often it has failed
  abbrev pub faults_by : (Snk → ℕ) → Proofs Snk → ℕ
  faults_by faults Unwanted = 0
  faults_by faults (To sink) = faults sink

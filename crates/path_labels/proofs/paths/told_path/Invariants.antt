use Rattle.path_labels.proofs.Steps.{AreTold}
use Rattle.path_labels.proofs.paths.told_path.Given as goal

abbrev pub invariant-loop-step : goal.invariant-loop-step
invariant-loop-step l = AreTold l.places l.plan l.steps l.step-index l.target l.runs

use Rattle.std.proofs.Common.{◌≡◌, find, drop}
use Rattle.std.specs.List.{filter_map}
use Rattle.track_graph.specs.Faults.{is_off, kept_at}
use Rattle.track_graph.proofs.positions.off_signal.Given as goal

abbrev pub invariant-signals : goal.invariant-signals
invariant-signals l = find (is_off l.tracks) (filter_map (λ signal. kept_at signal.id signal.bal) (drop l.signal-index l.signals)) ≡ find (is_off l.tracks) (filter_map (λ signal. kept_at signal.id signal.bal) l.signals)

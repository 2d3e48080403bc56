use Rattle.std.proofs.Common.{rules, refl}
use Rattle.railjson_read.specs.Objects.{all_placed_in}
use Rattle.railjson_read.proofs.wholes.landmarks_on.Goals as goal

pub returns-in_err-buffer_stops-clause-read : goal.returns-in_err-buffer_stops-clause-read
unfolding all_placed_in
returns-in_err-buffer_stops-clause-read c = rw c.in_ok-detectors.ensures.read (search (rules, c.from_residual-in_err-buffer_stops.ensures, c.in_err-buffer_stops.ensures.read))

pub returns-clause-read : goal.returns-clause-read
returns-clause-read c = rw (c.in_ok-detectors.ensures.read, c.in_ok-buffer_stops.ensures.read) refl

pub returns-clause-sound : goal.returns-clause-sound
returns-clause-sound c = record {
  few_tracks = c.requires.few_tracks;
  few_switches = c.requires.few_switches;
  few_detectors = c.in_ok-detectors.ensures.few;
  few_stops = c.in_ok-buffer_stops.ensures.few;
  tracks = c.requires.tracks;
  names = c.requires.names;
  switches = c.requires.switches;
  detectors = c.in_ok-detectors.ensures.within;
  stops = c.in_ok-buffer_stops.ensures.within;
}

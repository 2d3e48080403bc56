use Rattle.railjson_read.proofs.wholes.infra_of.Goals as goal

pub returns-clause-sound : goal.returns-clause-sound
returns-clause-sound c = let others = rw c.in_ok-others.was at c.requires.others in rw c.joined.ensures (record {
  counts = record {
    tracks = c.requires.first.landmarks.few_tracks;
    switches = c.requires.first.landmarks.few_switches;
    detectors = c.requires.first.landmarks.few_detectors;
    buffer_stops = c.requires.first.landmarks.few_stops;
    signals = c.requires.first.few;
    routes = others.few_routes;
    points = others.few_points;
    speeds = others.few_speeds;
  };
  tracks = c.requires.first.landmarks.tracks;
  switches = c.requires.first.landmarks.switches;
  detectors = c.requires.first.landmarks.detectors;
  buffer_stops = c.requires.first.landmarks.stops;
  signals = c.requires.first.signals;
  routes = others.routes;
  points = others.points;
  speeds = others.speeds;
  ids = record {
    tracks = c.requires.first.landmarks.names;
    routes = others.route_ids;
    points = others.point_ids;
  };
})

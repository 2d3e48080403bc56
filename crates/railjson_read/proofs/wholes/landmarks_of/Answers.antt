use Rattle.railjson_read.specs.Files.{landmarks_in}
use Rattle.railjson_read.proofs.wholes.landmarks_of.Goals as goal

pub returns-clause-read : goal.returns-clause-read
unfolding landmarks_in
returns-clause-read c = rw (c.in_ok-tracks.ensures.read, c.in_ok-switches.ensures.read) c.landmarks_on.ensures.read

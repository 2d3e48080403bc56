use Rattle.std.proofs.Common.{refl, drop}
use Rattle.path_recover.proofs.Seen.{front_split, piece-seen, pieces-seen, told-once}
use Rattle.path_recover.proofs.history_reading.laws.readers_see_one_moment.Goals as goal

pub returns : goal.returns
returns c = record {
  piece = λ file at moment piece begins. piece-seen file at moment piece _ (front_split piece (drop at (file moment)) begins);
  pieces = λ file at from between to front piece first second. pieces-seen file at _ from between to front piece refl first second;
  once = λ timetable version network base from to file entries seen served whole. told-once timetable version network base from to file entries seen served whole;
  whole = λ timetable version network base from to file entries seen fault fits sizes others served whole refused.
      let once = told-once timetable version network base from to file entries seen served whole in
      c.one_reading.ensures.whole timetable version network base seen (entries once.moment) fault fits sizes others once.tells refused;
}

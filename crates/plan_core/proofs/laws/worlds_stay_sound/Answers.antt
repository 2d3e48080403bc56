use Rattle.plan_core.proofs.Running.{same_timetable, sound_runs}
use Rattle.plan_core.proofs.laws.worlds_stay_sound.Goals as goal

pub returns-clause-sound : goal.returns-clause-sound
returns-clause-sound c = sound_runs

pub returns-clause-timetable : goal.returns-clause-timetable
returns-clause-timetable c = same_timetable

pub returns-clause-clash : goal.returns-clause-clash
returns-clause-clash c world front known = c.legal_histories_never_clash.ensures.none world.timetable world.entries front known.timetable known.legal

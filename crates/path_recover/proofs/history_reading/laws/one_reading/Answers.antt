use Rattle.path_recover.proofs.Unrefused.{found-tells, not-refused, tells-once}
use Rattle.path_recover.proofs.history_reading.laws.one_reading.Goals as goal

pub returns : goal.returns
returns c = record {
  found = λ timetable version network base file entries gate found. found-tells c.one_entry.ensures.apart timetable version network base file entries gate found;
  once = λ timetable version network base file a b one other. tells-once c.one_entry.ensures.apart timetable version network base file a b one other;
  whole = λ timetable version network base file entries fault fits network_size base_size tells refused. not-refused c.one_entry.ensures.apart timetable version network base file c.one_form.ensures.u32 fits network_size base_size entries fault tells refused;
}

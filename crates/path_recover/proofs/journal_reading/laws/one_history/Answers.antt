use Rattle.path_recover.proofs.Once.{reads-once}
use Rattle.path_recover.proofs.journal_reading.laws.one_history.Goals as goal

pub returns : goal.returns
returns c = record {
  once = λ header file a b short_a short_b one other. reads-once c.one_form.ensures.u32 header file a b short_a short_b one other;
}

use Rattle.std.proofs.Common.{rules, ap}
use Rattle.std.specs.Prelude.{is_some}
use Rattle.entry_codec.specs.Body.{body_of}
use Rattle.path_recover.specs.Walks.{BeginsWhole}
use Rattle.path_recover.proofs.Once.{not_shut, same_bodies}
use Rattle.path_recover.proofs.journal_reading.records.next_record.Goals as goal

pub returns-in_default : goal.returns-in_default
returns-in_default c = (
  c.in_default.ensures.cut.no_gate,
  λ entry behind spelled. c.in_default.ensures.cut.no_record (body_of entry) behind,
)

pub returns-in-None : goal.returns-in-None
returns-in-None c =
    let left = c.args.fields.now.left in
    let rest = c.next_body.new.fields.left in
    let whole : BeginsWhole left c.in-Some.body.now rest = search rules in (
      not_shut left c.in-Some.body.now rest whole,
      λ entry behind spelled other. c.in_ok-entry.ensures.none (ap is_some c.in-None.is) entry spelled (same_bodies c.one_form.ensures.u32 left c.in-Some.body.now rest (body_of entry) behind whole other),
    )

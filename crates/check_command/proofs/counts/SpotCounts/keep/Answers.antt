use Rattle.std.specs.Prelude.{is_ok}
use Rattle.check_command.proofs.TrainCounts.{added_alone, few_still}
use Rattle.check_command.proofs.counts.SpotCounts.keep.Goals as goal

pub returns-clause-alone : goal.returns-clause-alone
returns-clause-alone c = added_alone c.args.self.now.kept.items c.make_room.new.counts.items c.push-kept.new.self.items c.args.one (is_ok c.push-kept.result) c.make_room.ensures.among c.push-kept.ensures.items

pub returns-clause-few : goal.returns-clause-few
returns-clause-few c = few_still c.make_room.new.counts.items c.push-kept.new.self.items c.args.one (is_ok c.push-kept.result) (c.make_room.ensures.room c.requires.few) c.push-kept.ensures.items

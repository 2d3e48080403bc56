use Rattle.std.proofs.Common.{refl}
use Rattle.label_search.proofs.Fronts.{joined_on, joined_apart}
use Rattle.label_search.proofs.labels.join.Goals as goal

pub returns-then-goes_on : goal.returns-then-goes_on
returns-then-goes_on c parts old = joined_on parts _ c.args.fronts.now.items c.args.current.now c.args.part.now c.joined.result old refl c.requires.some (c.goes_on.ensures c.if-goes_on.true) c.joined.ensures.place c.joined.ensures.ready c.joined.ensures.from c.joined.ensures.to

pub returns : goal.returns
returns c parts old = joined_apart parts _ c.args.fronts.now.items c.push.new.self.items c.args.current.now c.args.part.now old refl c.requires.some c.in_ok-push.ensures.items

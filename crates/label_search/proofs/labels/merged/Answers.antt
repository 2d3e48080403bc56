use Rattle.std.proofs.Common.{arith, sym, subst, take}
use Rattle.std.proofs.lemmas.List.{take_more, take_all}
use Rattle.label_search.specs.Labels.{AreJoined, IsIn}
use Rattle.label_search.proofs.Fronts.{all_some, all_sound, all_complete}
use Rattle.label_search.proofs.labels.merged.Goals as goal

pub loop-number-preserved : goal.loop-number-preserved
loop-number-preserved c = subst (λ parts. AreJoined parts c.join.new.fronts.items c.join.new.current) (sym (take_more c.args.parts.now c.loop-number.number _ c.loop-number-test.true)) (c.in_ok-join.ensures (take c.loop-number.number c.args.parts.now) c.loop-number.invariant)

pub returns-clause-sound : goal.returns-clause-sound
returns-clause-sound c place ready tick is = subst (λ parts. IsIn parts place ready tick) (take_all c.loop-number.number c.args.parts.now (omega arith)) (all_sound _ _ _ c.loop-number.invariant _ c.in_ok-push.ensures.items place ready tick is)

pub returns-clause-complete : goal.returns-clause-complete
returns-clause-complete c place ready tick is = all_complete _ _ _ c.loop-number.invariant _ c.in_ok-push.ensures.items place ready tick (subst (λ parts. IsIn parts place ready tick) (sym (take_all c.loop-number.number c.args.parts.now (omega arith))) is)

pub join-requires : goal.join-requires
join-requires c = record { some = c.requires.some c.loop-number.number _ c.loop-number-test.true }

pub returns-clause-some : goal.returns-clause-some
returns-clause-some c = all_some _ _ _ c.loop-number.invariant _ c.in_ok-push.ensures.items

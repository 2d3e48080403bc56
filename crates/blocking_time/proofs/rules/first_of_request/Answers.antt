use Rattle.std.proofs.Common.{rules, sym, ◌∙◌}
use Rattle.blocking_time.proofs.Searching.{tell_10, tell_11, tell_12, tell_7, tell_8, tell_9, tell_none}
use Rattle.blocking_time.proofs.rules.first_of_request.Goals as goal

pub returns-then-not-serves : goal.returns-then-not-serves
returns-then-not-serves c = tell_7 c.args.net.now c.args.request.now c.args.path.now c.len-last.result c.len-last.ensures c.requires.some (sym c.serves.ensures ∙ c.if-not-serves.true)

pub returns-then-not-serves-2 : goal.returns-then-not-serves-2
returns-then-not-serves-2 c = tell_8 c.args.net.now c.args.request.now c.args.path.now c.len-last.result c.len-last.ensures c.requires.some (sym c.serves.ensures ∙ c.if-not-serves.false) (sym c.serves-2.ensures ∙ c.if-not-serves-2.true)

pub returns-then-departs_outside : goal.returns-then-departs_outside
returns-then-departs_outside c = tell_9 c.args.net.now c.args.request.now c.args.path.now c.len-last.result c.len-last.ensures c.requires.some (sym c.serves.ensures ∙ c.if-not-serves.false) (sym c.serves-2.ensures ∙ c.if-not-serves-2.false) (sym c.departs_outside.ensures ∙ c.if-departs_outside.true)

pub returns-then-arrives_outside : goal.returns-then-arrives_outside
returns-then-arrives_outside c = tell_10 c.args.net.now c.args.request.now c.args.path.now c.len-last.result c.len-last.ensures c.requires.some (sym c.serves.ensures ∙ c.if-not-serves.false) (sym c.serves-2.ensures ∙ c.if-not-serves-2.false) (sym c.departs_outside.ensures ∙ c.if-departs_outside.false) (sym c.arrives_outside.ensures ∙ c.if-arrives_outside.true)

pub returns-in-Some : goal.returns-in-Some
returns-in-Some c = tell_11 c.args.net.now c.args.request.now c.args.path.now c.len-last.result c.len-last.ensures c.requires.some (sym c.serves.ensures ∙ c.if-not-serves.false) (sym c.serves-2.ensures ∙ c.if-not-serves-2.false) (sym c.departs_outside.ensures ∙ c.if-departs_outside.false) (sym c.arrives_outside.ensures ∙ c.if-arrives_outside.false) c.in-Some.run' (sym c.first_other_stop.ensures ∙ c.in-Some.is)

pub returns-then-not-is_same : goal.returns-then-not-is_same
returns-then-not-is_same c = tell_12 c.args.net.now c.args.request.now c.args.path.now c.len-last.result c.len-last.ensures c.requires.some (sym c.serves.ensures ∙ c.if-not-serves.false) (sym c.serves-2.ensures ∙ c.if-not-serves-2.false) (sym c.departs_outside.ensures ∙ c.if-departs_outside.false) (sym c.arrives_outside.ensures ∙ c.if-arrives_outside.false) (sym c.first_other_stop.ensures ∙ c.in_default.is) (λ same. let told = c.is_same.ensures.1 same in let not_so = c.if-not-is_same.true in cc)

pub returns : goal.returns
returns c = tell_none c.args.net.now c.args.request.now c.args.path.now c.len-last.result c.len-last.ensures c.requires.some (sym c.serves.ensures ∙ c.if-not-serves.false) (sym c.serves-2.ensures ∙ c.if-not-serves-2.false) (sym c.departs_outside.ensures ∙ c.if-departs_outside.false) (sym c.arrives_outside.ensures ∙ c.if-arrives_outside.false) (sym c.first_other_stop.ensures ∙ c.in_default.is) (c.is_same.ensures.0 (search rules))

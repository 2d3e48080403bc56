use Rattle.std.proofs.Common.{rules, ◌≡◌, ◌∙◌, ◌%◌, ◌+◌, ap, arith, sym}
use Rattle.demo_command.specs.Lines.{departure, next}
use Rattle.demo_command.proofs.Drawing.{drawn_first, drawn_next, lines_none, text_more}
use Rattle.demo_command.proofs.lines.lines_of.Goals as goal

pub loop-before-init : goal.loop-before-init
loop-before-init c = record {
  text = rw (lines_none c.args.number) (search rules);
  drawn_is = rw (drawn_first c.args.number) (search rules);
  small = search rules;
}

pub loop-before-preserved : goal.loop-before-preserved
loop-before-preserved c =
    let drawn_is = c.behind-drawn.ensures.next ∙ ap next c.loop-before.invariant.drawn_is ∙ sym (drawn_next c.args.number c.loop-before.before) in
    let tick : c.behind-drawn.result % 16000 ≡ departure c.args.number (c.loop-before.before + 1) = ap (λ x. x % 16000) drawn_is in
    record {
      text = text_more c.args.number c.loop-before.before (c.behind-drawn.result % 16000) c.loop-before.text.items c.put_ask.new.text.items c.loop-before.invariant.text tick c.in_ok-put_ask.ensures;
      drawn_is = drawn_is;
      small = let s = c.behind-drawn.ensures.small in omega arith;
    }

use Rattle.std.proofs.Common.{rules, sym, ◌∙◌, ◌+◌, ap}
use Rattle.blocking_time.proofs.Searching.{no_stop_more, one_stop_more, stop_found, stop_kept}
use Rattle.blocking_time.proofs.rules.first_other_stop.Goals.{then-as_slice-index, else-as_slice-index}
use Rattle.blocking_time.proofs.rules.first_other_stop.Goals as goal

pub returns-then-differs : goal.returns-then-differs
returns-then-differs c = stop_found c.args.net.now c.args.request.now c.args.path.now c.loop-index.index (search rules) (search rules) c.loop-index.invariant.rest

pub loop-index-preserved : goal.loop-index-preserved
loop-index-preserved c = record {
  made = elim c.if-as_slice-index.branch [
    | then-as_slice-index w ↦ w.made-is ∙ (ap (λ n. n + 1) c.loop-index.invariant.made ∙ sym (one_stop_more c.args.net.now c.args.request.now c.args.path.now c.loop-index.index (search rules) (search rules)))
    | else-as_slice-index w ↦ w.made-is ∙ (c.loop-index.invariant.made ∙ sym (no_stop_more c.args.net.now c.args.request.now c.args.path.now c.loop-index.index (search rules) (search rules)))
  ];
  rest = stop_kept c.args.net.now c.args.request.now c.args.path.now c.loop-index.index (search rules) (search rules) c.loop-index.invariant.rest;
}

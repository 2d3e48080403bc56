use Rattle.std.proofs.Common.{◌≡◌, ◌∙◌, ◌+◌, ◌≤◌, ◌++◌, List, All, ap, drop, length, subst, sym, take}
use Rattle.batch_command.specs.Clerks.{EachWent, lines_left}
use Rattle.batch_command.specs.declared.batch_server.clerks.Clerk.{Clerk}
use Rattle.batch_command.proofs.Workers.{slice_back}
use Rattle.batch_command.proofs.batch_server.kept.keep.Goals as goal

pub returns : goal.returns
returns g c =
    let D = g.row.D.Denot in let B = g.row.B.Denot in let L = g.row.L.Denot in
    let all : List (Clerk D B L) = c.args.clerks.items in
    let new : List (Clerk D B L) = c.answer_kept-kept.new.clerks in
    let was : c.as_mut_slice.result.now ≡ all = c.as_mut_slice.ensures.value in
    let kept : length new ≡ length all = c.answer_kept-kept.auto.clerks ∙ ap length was in
    let back : take c.args.clerks.len (new ++ drop (length new) all) ≡ new = slice_back new all c.args.clerks.len kept c.args.clerks.ok.0 in
    record {
      places = c.answer_kept-kept.ensures.places;
      count = ap length back ∙ kept;
      went = subst (λ (l : List (Clerk D B L)). EachWent g.L.Rule c.args.lines.now c.args.owners.now c.answer_kept-kept.result.items all l) (sym back)
          (subst (λ (l : List (Clerk D B L)). EachWent g.L.Rule c.args.lines.now c.args.owners.now c.answer_kept-kept.result.items l new) was c.answer_kept-kept.ensures.went);
      left = subst (λ (l : List (Clerk D B L)). All (λ (clerk : Clerk D B L). length c.args.lines.now ≤ lines_left clerk + length c.answer_kept-kept.result.items) l) (sym back) c.answer_kept-kept.ensures.left;
    }

use Rattle.std.proofs.Common.{◌≡◌, ◌∙◌, ◌<◌, ◌∷◌, ◌++◌, [], ap, sym, subst, arith, length, take, get_or}
use Rattle.std.specs.Prelude.{slice_set}
use Rattle.std.proofs.lemmas.List.{take_more}
use Rattle.tail_states.specs.Following.{AreServedBy}
use Rattle.tail_states.proofs.Firsts.{served_none, served_more}
use Rattle.tail_states.proofs.adjacency.add_served.Goals as goal

pub loop-stop-init : goal.loop-stop-init
loop-stop-init c = served_none c.args.number c.args.serving.now

pub loop-stop-preserved : goal.loop-stop-preserved
loop-stop-preserved c =
    let serves = c.args.block.now.serves in
    let same : c.as_slice-stop-items.result.now ≡ c.args.block.now.serves = c.as_slice-stop-items.ensures in
    let inside : c.loop-stop.stop-index < length c.args.block.now.serves = subst (λ l. c.loop-stop.stop-index < length l) same c.loop-stop-test.true in
    let stop = get_or c.args.block.now.serves c.loop-stop.stop-index 0 in
    let known : get_or c.args.block.now.serves c.loop-stop.stop-index 0 < length c.args.serving.now = c.requires c.loop-stop.stop-index 0 inside in
    let counted = c.loop-stop.invariant.count in
    let more = served_more c.args.number c.args.serving.now c.loop-stop.serving (take c.loop-stop.stop-index c.args.block.now.serves) stop (omega (arith, known, counted)) c.loop-stop.invariant in
    subst (λ done. AreServedBy done c.args.number c.args.serving.now c.add.new.self) (sym (take_more c.args.block.now.serves c.loop-stop.stop-index 0 inside))
    (subst (AreServedBy (take c.loop-stop.stop-index c.args.block.now.serves ++ stop ∷ []) c.args.number c.args.serving.now)
    (sym (c.in_ok-add.ensures ∙ ap (λ l. slice_set c.loop-stop.serving (get_or l c.loop-stop.stop-index 0) (get_or c.loop-stop.serving (get_or l c.loop-stop.stop-index 0) [] ++ c.args.number ∷ [])) same)) more)

use Rattle.std.proofs.Common.{◌≡◌, ◌∙◌, arith, ap, length, subst, sym, take, ◌++◌, drop}
use Rattle.std.proofs.Math.Seq.{take-append_seam}
use Rattle.batch_command.specs.InOrder.{all_answers, AreInOrder}
use Rattle.batch_command.specs.Tables.{filled, texts_by}
use Rattle.batch_command.proofs.Tables.{texts_by-AreInOrder, whole_below}
use Rattle.batch_command.proofs.list_replies.texts.texts_in_order.Goals as goal

pub put_all-requires : goal.put_all-requires
put_all-requires c =
    rw c.as_mut_slice.ensures.value
    (whole_below (length c.args.texts.items) (all_answers c.args.first.now c.args.parts.now) c.requires.whole)

pub returns : goal.returns
returns c =
    let texts = c.args.texts.items in
    let all = all_answers c.args.first.now c.args.parts.now in
    let new = c.put_all.new.texts in
    let was = c.as_mut_slice.ensures.value in
    let size : c.args.texts.len ≡ length new = omega (arith, c.put_all.auto.texts, ap length was) in
    let is : take c.args.texts.len (new ++ drop (length new) texts) ≡ filled texts (texts_by all) =
    ap (λ n. take n (new ++ drop (length new) texts)) size
    ∙ take-append_seam new (drop (length new) texts)
    ∙ c.in-Ok.ensures
    ∙ ap (λ table. filled table (texts_by all)) was in
    subst (AreInOrder (length texts) all) (sym is) (texts_by-AreInOrder texts all c.requires.whole)

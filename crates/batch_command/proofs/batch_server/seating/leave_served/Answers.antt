use Rattle.std.proofs.Common.{◌≡◌, ℕ, ◌∷◌, ◌++◌, [], List, All, length, map, ap, refl, sym, ◌∙◌}
use Rattle.std.proofs.Common.{subst, arith}
use Rattle.std.proofs.lemmas.List.{append_assoc, length_push, map-append}
use Rattle.std.proofs.lemmas.List.Elements.{All-head, All-tail}
use Rattle.batch_pool.specs.declared.workers.Served.{Served}
use Rattle.batch_command.specs.Seating.{HaveLeft, worked_of}
use Rattle.batch_command.specs.declared.batch_server.clerks.Clerk.{Clerk}
use Rattle.batch_command.specs.declared.batch_server.members.Worked.{Worked}
use Rattle.served_clients.specs.gate.Passes.{view}
use Rattle.served_clients.specs.Seats.{IsBack}
use Rattle.served_clients.specs.lines.declared.reply_texts.replies.Reply.{Reply}
use Rattle.batch_command.proofs.Leaving.{left_more, left_none}
use Rattle.batch_command.proofs.batch_server.seating.leave_served.Goals as goal

pub loop-back-init : goal.loop-back-init
loop-back-init g c =
    let none = ap length c.requires.none in let empty = ap length c.requires.empty in record {
      ready = c.requires.ready;
      share = refl;
      back = c.requires.back;
      room = let room = c.requires.room in omega arith;
      space = let space = c.requires.space in omega arith;
      left = ([], refl, c.requires.none, c.requires.empty, left_none g.L.Rule c.args.shared.now (view c.args.pass.now) c.requires.fresh);
    }

pub leave-one-requires-clause-back : goal.leave-one-requires-clause-back
leave-one-requires-clause-back g c =
    let D = g.row.D.Denot in let B = g.row.B.Denot in let L = g.row.L.Denot in
    let P : Served (Clerk D B L) Reply → Type 0 = λ one. IsBack c.args.shared.now one.worker.seat in
    All-head P c.in-Some.back c.first_out.new.items.items (subst (All P) c.in-Some.ensures.some c.loop-back.invariant.back)

pub loop-back-preserved : goal.loop-back-preserved
loop-back-preserved g c =
    let D = g.row.D.Denot in let B = g.row.B.Denot in let L = g.row.L.Denot in
    let inv = c.loop-back.invariant in
    let S : Type 0 = Served (Clerk D B L) Reply in
    let P : Served (Clerk D B L) Reply → Type 0 = λ one. IsBack c.args.shared.now one.worker.seat in
    let of : Served (Clerk D B L) Reply → Worked L = λ one. worked_of one.worker in
    let one : Served (Clerk D B L) Reply = c.in-Some.back in let rest : List (Served (Clerk D B L) Reply) = c.first_out.new.items.items in
    let first = c.in-Some.ensures.some in
    let front : List (Served (Clerk D B L) Reply) = inv.left.0 in
    let before : List (Worked L) = c.loop-back.worked.items in
    let pushed : c.push_reserved.new.self.items ≡ before ++ of one ∷ [] =
    c.push_reserved.ensures.items ∙ ap (λ w. before ++ w ∷ []) c.leave-one.ensures.worked in
    let parts : List (List (ℕ × Reply)) = c.loop-back.parts.items in
    let parted : c.push_reserved-in-Some.new.self.items ≡ parts ++ one.answers ∷ [] = c.push_reserved-in-Some.ensures.items in
    let fewer = ap length first in
    let longer = ap length pushed ∙ length_push before (of one) in
    let more = ap length parted ∙ length_push parts one.answers in
    let workers : map (λ (s : Served (Clerk D B L) Reply). s.worker) (front ++ one ∷ []) ≡ map (λ s. s.worker) front ++ one.worker ∷ [] =
    map-append (λ s. s.worker) front (one ∷ []) in record {
      ready = c.leave-one.ensures.ready;
      share = let share = c.leave-one.ensures.share in let was = inv.share in omega arith;
      back = All-tail P one rest (subst (All P) first inv.back);
      room = let kept = c.push_reserved.ensures.capacity in let was = inv.room in omega arith;
      space = let kept = c.push_reserved-in-Some.ensures.capacity in let was = inv.space in omega arith;
      left = (
        front ++ one ∷ [],
        inv.left.1 ∙ ap (λ l. front ++ l) first ∙ sym (append_assoc front (one ∷ []) rest),
        pushed ∙ ap (λ l. l ++ of one ∷ []) inv.left.2 ∙ sym (map-append of front (one ∷ [])),
        parted ∙ ap (λ l. l ++ one.answers ∷ []) inv.left.3 ∙ sym (map-append (λ s. s.answers) front (one ∷ [])),
        subst (λ l. HaveLeft g.L.Rule c.args.shared.now l (view c.leave-one.new.pass)) (sym workers)
            (left_more g.L.Rule c.args.shared.now (map (λ s. s.worker) front) one.worker (view c.loop-back.pass) (view c.leave-one.new.pass) inv.left.4 c.leave-one.ensures.seen c.leave-one.ensures.joined c.leave-one.ensures.turns),
      );
    }

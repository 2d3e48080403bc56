use Rattle.std.proofs.Common.{◌≡◌, ◌∷◌, ◌++◌, [], List, length, ap, refl, sym, ◌∙◌, subst, arith}
use Rattle.std.proofs.lemmas.List.{append_assoc, length_push}
use Rattle.batch_pool.specs.Batches.{AreMatched}
use Rattle.batch_command.specs.Seating.{IsClerkOf}
use Rattle.batch_command.specs.declared.batch_server.clerks.Clerk.{Clerk}
use Rattle.batch_command.specs.declared.batch_server.members.Member.{Member}
use Rattle.served_clients.specs.Gates.{IsNewcomer}
use Rattle.served_clients.specs.Seats.{found_at}
use Rattle.served_clients.specs.declared.client_seats.newcomers.Newcomer.{Newcomer}
use Rattle.served_clients.specs.turns.Turns.{timetable_at}
use Rattle.batch_command.proofs.Matched.{matched_push}
use Rattle.batch_command.proofs.batch_server.seating.seat_all.Goals as goal

pub loop-member-init : goal.loop-member-init
loop-member-init g c =
    let none = ap length c.requires.none in record {
      host = c.requires.host;
      share = c.requires.share;
      newcomers = c.requires.newcomers;
      room = let room = c.requires.room in omega arith;
      seated = ([], refl, subst (AreMatched (IsClerkOf g.L.Rule c.args.shared.now) []) (sym c.requires.none) tt);
    }

pub loop-member-preserved : goal.loop-member-preserved
loop-member-preserved g c =
    let D = g.row.D.Denot in let B = g.row.B.Denot in let L = g.row.L.Denot in
    let inv = c.loop-member.invariant in
    let R : Member B L → Newcomer → Type 0 = λ member newcomer.
    IsNewcomer (timetable_at c.args.shared.now.gate) (found_at c.args.shared.now.gate) member.name newcomer in
    let member : Member B L = c.in-Some.member in let rest : List (Member B L) = c.first_out.new.items.items in
    let newcomer : Newcomer = c.in-Some-first_out.newcomer in let others : List Newcomer = c.first_out-in-Some.new.items.items in
    let first = c.in-Some.ensures.some in
    let came : AreMatched R (member ∷ rest) (newcomer ∷ others) =
    subst (λ l. AreMatched R l (newcomer ∷ others)) first (subst (AreMatched R c.loop-member.members.items) c.in-Some-first_out.ensures.some inv.newcomers) in
    let front : List (Member B L) = inv.seated.0 in
    let before : List (Clerk D B L) = c.loop-member.clerks.items in
    let clerk : Clerk D B L = c.seat-clerk.result in
    let pushed : c.push_reserved.new.self.items ≡ before ++ clerk ∷ [] = c.push_reserved.ensures.items in
    let fewer = ap length first in
    let longer = ap length pushed ∙ length_push before clerk in
    let K : Member B L → Clerk D B L → Type 0 = IsClerkOf g.L.Rule c.args.shared.now in record {
      host = c.seat-clerk.ensures.host;
      share = let share = c.seat-clerk.ensures.share in let was = inv.share in omega arith;
      newcomers = came.1;
      room = let kept = c.push_reserved.ensures.capacity in let was = inv.room in omega arith;
      seated = (
        front ++ member ∷ [],
        inv.seated.1 ∙ ap (λ l. front ++ l) first ∙ sym (append_assoc front (member ∷ []) rest),
        subst (AreMatched K (front ++ member ∷ [])) (sym pushed) (matched_push K front before member clerk inv.seated.2 c.seat-clerk.ensures.clerk),
      );
    }

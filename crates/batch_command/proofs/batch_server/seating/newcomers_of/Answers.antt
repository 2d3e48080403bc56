use Rattle.std.proofs.Common.{rules, ℕ, ◌≡◌, ◌+◌, ◌++◌, ◌∷◌, [], List, get_or, take, ap, sym, ◌∙◌, subst}
use Rattle.std.proofs.lemmas.List.{take_more}
use Rattle.batch_pool.specs.Batches.{AreMatched}
use Rattle.batch_command.specs.declared.batch_server.members.Member.{Member}
use Rattle.served_clients.specs.Gates.{IsNewcomer}
use Rattle.served_clients.specs.declared.client_seats.newcomers.Newcomer.{Newcomer}
use Rattle.batch_command.proofs.Matched.{matched_push}
use Rattle.batch_command.proofs.batch_server.seating.newcomers_of.Goals as goal

pub loop-member-preserved : goal.loop-member-preserved
loop-member-preserved g c =
    let B = g.row.B.Denot in let L = g.row.L.Denot in
    let R : Member B L → Newcomer → Type 0 = λ member newcomer. IsNewcomer c.args.book.now.timetable c.args.book.now.entries member.name newcomer in
    let i : ℕ = c.loop-member.member-index in
    let members : List (Member B L) = c.args.members.now in
    let member : Member B L = c.member-item.result in
    let before : List Newcomer = c.loop-member.newcomers.items in
    let new : Newcomer = c.in_ok-newcomer.newcomer in
    let here : get_or members i member ≡ member = search rules in
    let pushed : c.push.new.self.items ≡ before ++ new ∷ [] = c.in_ok-push.ensures.items in
    let taken : take i members ++ member ∷ [] ≡ take (i + 1) members =
    ap (λ x. take i members ++ x ∷ []) (sym here) ∙ sym (take_more members i member c.loop-member-test.true) in
    subst (λ l. AreMatched R l c.push.new.self.items) taken
    (subst (AreMatched R (take i members ++ member ∷ [])) (sym pushed)
    (matched_push R (take i members) before member new c.loop-member.invariant c.in_ok-newcomer.ensures))

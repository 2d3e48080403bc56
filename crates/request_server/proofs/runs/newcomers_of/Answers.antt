use Rattle.std.proofs.Common.{rules, ℕ, ◌≡◌, ◌++◌, ◌∷◌, [], List, All, get_or, map, take, ap, sym, ◌∙◌, subst}
use Rattle.std.proofs.lemmas.List.{map-append, take_more}
use Rattle.std.proofs.lemmas.List.Elements.{All-push}
use Rattle.served_clients.specs.Gates.{IsNewcomer}
use Rattle.served_clients.specs.declared.client_seats.newcomers.Newcomer.{Newcomer}
use Rattle.served_clients.specs.declared.plans.Plan.{Plan}
use Rattle.request_server.proofs.runs.newcomers_of.Goals as goal

pub loop-plan-preserved : goal.loop-plan-preserved
loop-plan-preserved g c =
    let S = g.row.S.Denot in let T = g.row.T.Denot in let B = g.row.B.Denot in let L = g.row.L.Denot in
    let nc : Newcomer → List ℕ = λ x. x.client.name in let np : Plan S T B L → List ℕ = λ x. x.name in
    let now = c.loop-plan.invariant in let i : ℕ = c.loop-plan.plan-index in
    let before : List Newcomer = c.loop-plan.newcomers.items in
    let new : Newcomer = c.in_ok-newcomer.newcomer in
    let plan : Plan S T B L = c.plan-item.result in
    let plans : List (Plan S T B L) = c.args.plans.now in
    let P : Newcomer → Type 0 = λ x. IsNewcomer c.args.book.now.timetable c.args.book.now.entries x.client.name x in
    let here : get_or plans i plan ≡ plan = search rules in
    let pushed : c.push.new.self.items ≡ before ++ new ∷ [] = c.in_ok-push.ensures.items in
    let named : new.client.name ≡ plan.name = c.in_ok-newcomer.ensures.name_is in record {
      names = ap (map nc) pushed ∙ map-append nc before (new ∷ []) ∙ ap (λ l. l ++ new.client.name ∷ []) now.names
          ∙ ap (λ n. map np (take i plans) ++ n ∷ []) named ∙ sym (map-append np (take i plans) (plan ∷ []))
          ∙ ap (λ x. map np (take i plans ++ x ∷ [])) (sym here)
          ∙ ap (map np) (sym (take_more plans i plan c.loop-plan-test.true));
      newcomers = subst (All P) (sym pushed) (All-push P before new now.newcomers
          (subst (λ name. IsNewcomer c.args.book.now.timetable c.args.book.now.entries name new) (sym named) c.in_ok-newcomer.ensures));
    }

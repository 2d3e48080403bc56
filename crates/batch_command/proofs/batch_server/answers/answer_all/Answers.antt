use Rattle.std.proofs.Common.{◌≡◌, ℕ, ◌<◌, [], List, All, IfSome, IsPermutation, length, map}
use Rattle.std.proofs.Common.{option_map, ap, sym, ◌∙◌, subst, arith}
use Rattle.std.proofs.lemmas.List.{length-replicate}
use Rattle.batch_pool.specs.Batches.{all_places}
use Rattle.batch_pool.specs.declared.workers.Served.{Served}
use Rattle.batch_command.specs.Clerks.{free_places}
use Rattle.batch_command.specs.Outcomes.{HaveAnswered}
use Rattle.batch_command.specs.declared.batch_server.clerks.Clerk.{Clerk}
use Rattle.batch_command.specs.declared.batch_server.members.Worked.{Worked}
use Rattle.served_clients.specs.gate.Passes.{view}
use Rattle.served_clients.specs.turns.Turns.{Sight}
use Rattle.batch_command.specs.InOrder.{all_answers, AreInOrder, AreWhole}
use Rattle.served_clients.specs.lines.declared.reply_texts.replies.Reply.{Reply}
use Rattle.batch_command.proofs.Matched.{matched_length}
use Rattle.batch_command.proofs.Outcome.{come_back, parts_free, served_answered, whole, worked_all}
use Rattle.batch_command.proofs.Places.{free_below, free_count}
use Rattle.batch_command.proofs.Shares.{IsServedOne}
use Rattle.batch_command.proofs.batch_server.answers.answer_all.Goals as goal

pub keep-clerks-requires-clause-sound : goal.keep-clerks-requires-clause-sound
keep-clerks-requires-clause-sound g c _ _ =
    λ k d less. let fresh = c.requires.clerks k d less in record { seated = fresh.taken.seated; unproved = fresh.unproved }

pub keep-clerks-requires-clause-fresh : goal.keep-clerks-requires-clause-fresh
keep-clerks-requires-clause-fresh g c _ _ = λ k d less. (c.requires.clerks k d less).asked

-- a worker takes 400,000 turns, four for each line
pub keep-clerks-requires-clause-left : goal.keep-clerks-requires-clause-left
keep-clerks-requires-clause-left g c _ _ =
    λ k d less. let fresh = c.requires.clerks k d less in let budget = fresh.taken.budget in let asked = fresh.asked in let count = c.requires.count in omega arith

pub answer_batch-served-requires-clause-sound : goal.answer_batch-served-requires-clause-sound
answer_batch-served-requires-clause-sound g c _ _ =
    let count = c.keep-clerks.ensures.count in
    λ k d less. (c.keep-clerks.ensures.went k d (omega arith)).sound

pub answer_batch-served-requires-clause-left : goal.answer_batch-served-requires-clause-left
answer_batch-served-requires-clause-left g c _ _ =
    let kept : List (ℕ × Reply) = c.keep-clerks.result.1.items in
    let free = free_count c.args.owners.now kept c.keep-clerks.ensures.places in
    let todo : length c.deref.result.now ≡ length (free_places c.args.owners.now) = ap length (c.deref.ensures.value ∙ c.requires.room.todo_is) in
    let same = c.requires.owners in
    λ k d less. let left = c.keep-clerks.ensures.left k d less in omega arith

pub answer_batch-served-requires-clause-below : goal.answer_batch-served-requires-clause-below
answer_batch-served-requires-clause-below g c _ _ =
    subst (All (λ at. at < length c.args.lines.now)) (sym (c.deref.ensures.value ∙ c.requires.room.todo_is))
    (subst (λ n. All (λ at. at < n) (free_places c.args.owners.now)) c.requires.owners (free_below c.args.owners.now))

pub leave_served-worked-requires-clause-back : goal.leave_served-worked-requires-clause-back
leave_served-worked-requires-clause-back g c _ _ =
    come_back g.L.Rule c.args.shared.now c.args.lines.now c.args.owners.now c.keep-clerks.result.1.items c.keep-clerks.ensures.places c.requires.owners
    c.args.clerks.items c.keep-clerks.result.0.items c.requires.clerks c.keep-clerks.ensures.went c.keep-clerks.ensures.count
    c.answer_batch-served.result.items c.answer_batch-served.ensures.served c.answer_batch-served.ensures.sound

pub leave_served-worked-requires-clause-room : goal.leave_served-worked-requires-clause-room
leave_served-worked-requires-clause-room g c _ _ =
    let long = matched_length (IsServedOne g.L.Rule c.args.shared.now c.args.lines.now c.args.owners.now c.keep-clerks.result.1.items) c.keep-clerks.result.0.items c.answer_batch-served.result.items c.answer_batch-served.ensures.served in
    let count = c.keep-clerks.ensures.count in let room = c.requires.room.each_worker in omega arith

pub leave_served-worked-requires-clause-space : goal.leave_served-worked-requires-clause-space
leave_served-worked-requires-clause-space g c _ _ =
    let long = matched_length (IsServedOne g.L.Rule c.args.shared.now c.args.lines.now c.args.owners.now c.keep-clerks.result.1.items) c.keep-clerks.result.0.items c.answer_batch-served.result.items c.answer_batch-served.ensures.served in
    let count = c.keep-clerks.ensures.count in let room = c.requires.room.each_part in omega arith

pub texts_in_order-texts-requires : goal.texts_in_order-texts-requires
texts_in_order-texts-requires g c =
    let owners = c.args.owners.now in let kept : List (ℕ × Reply) = c.keep-clerks.result.1.items in
    let served = c.answer_batch-served.result.items in
    let todo : c.deref.result.now ≡ free_places owners = c.deref.ensures.value ∙ c.requires.room.todo_is in
    let once : IsPermutation (all_places served) (free_places owners) = subst (IsPermutation (all_places served)) todo c.answer_batch-served.ensures.once in
    let parts : c.deref-3.result.now ≡ map (λ s. s.answers) served = c.deref-3.ensures.value ∙ c.leave_served-worked.ensures.parts in
    let count : length c.args.room.texts.items ≡ length owners = ap length c.requires.room.texts_are ∙ length-replicate (length owners) [] in record {
      whole = subst (λ n. AreWhole n (all_answers c.deref-2.result.now c.deref-3.result.now)) (sym count)
          (subst (λ l. AreWhole (length owners) (all_answers l c.deref-3.result.now)) (sym c.deref-2.ensures.value)
          (subst (λ l. AreWhole (length owners) (all_answers kept l)) (sym parts)
          (whole owners kept c.keep-clerks.ensures.places (map (λ s. s.answers) served) (parts_free owners served once))));
    }

pub returns-clause-share : goal.returns-clause-share
returns-clause-share g c =
    let long = matched_length (IsServedOne g.L.Rule c.args.shared.now c.args.lines.now c.args.owners.now c.keep-clerks.result.1.items) c.keep-clerks.result.0.items c.answer_batch-served.result.items c.answer_batch-served.ensures.served in
    let count = c.keep-clerks.ensures.count in let share = c.leave_served-worked.ensures.share in omega arith

pub returns-clause-answered : goal.returns-clause-answered
returns-clause-answered g c members sit =
    let D = g.row.D.Denot in let B = g.row.B.Denot in let L = g.row.L.Denot in
    let kind = g.L.Rule in let shared = c.args.shared.now in
    let lines : List (List ℕ) = c.args.lines.now in let owners = c.args.owners.now in let kept : List (ℕ × Reply) = c.keep-clerks.result.1.items in
    let v : Sight = view c.leave_served-worked.new.pass in
    let served : List (Served (Clerk D B L) Reply) = c.answer_batch-served.result.items in
    let todo : c.deref.result.now ≡ free_places owners = c.deref.ensures.value ∙ c.requires.room.todo_is in
    let once : IsPermutation (all_places served) (free_places owners) = subst (IsPermutation (all_places served)) todo c.answer_batch-served.ensures.once in
    let parts : c.deref-3.result.now ≡ map (λ s. s.answers) served = c.deref-3.ensures.value ∙ c.leave_served-worked.ensures.parts in
    let count : length c.args.room.texts.items ≡ length owners = ap length c.requires.room.texts_are ∙ length-replicate (length owners) [] in
    let made = c.texts_in_order-texts.result in
    let placed = subst (λ n. IfSome made (λ all. AreInOrder n (all_answers kept (map (λ s. s.answers) served)) all.items)) count
    (subst (λ l. IfSome made (λ all. AreInOrder (length c.args.room.texts.items) (all_answers l (map (λ s. s.answers) served)) all.items)) c.deref-2.ensures.value
    (subst (λ l. IfSome made (λ all. AreInOrder (length c.args.room.texts.items) (all_answers c.deref-2.result.now l) all.items)) parts c.texts_in_order-texts.ensures)) in
    subst (λ (l : List (Worked L)). HaveAnswered kind shared lines owners members l (option_map (λ texts. texts.items) made) v) (sym (c.leave_served-worked.ensures.worked ∙ worked_all served))
    (served_answered kind shared lines owners kept c.keep-clerks.ensures.places c.requires.owners
    c.args.clerks.items c.keep-clerks.result.0.items c.requires.clerks c.keep-clerks.ensures.went c.keep-clerks.ensures.count
    members sit c.requires.theirs (λ texts. texts.items) made served v c.answer_batch-served.ensures.served c.answer_batch-served.ensures.sound c.leave_served-worked.ensures.left once placed)

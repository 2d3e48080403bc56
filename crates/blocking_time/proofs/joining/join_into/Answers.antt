use Rattle.std.proofs.Common.{rules, ◌∙◌, sym, ap, ◌∷◌, ◌++◌, []}
use Rattle.blocking_time.specs.Joined.{Meets}
use Rattle.blocking_time.proofs.Unions.{joined_to_last, put_behind}
use Rattle.blocking_time.proofs.joining.join_into.Goals as goal

pub returns-then-meets : goal.returns-then-meets
returns-then-meets c = joined_to_last c.args.made.now.items c.pop.new.self.items _ c.in-Some.last c.args.claim.now c.in-Some.ensures.items c.requires.made c.requires.behind c.requires.ticks c.united.result c.united.ensures (c.if-meets.ensures.0 (search rules)) c.in_ok-push-2.ensures.items

pub returns : goal.returns
returns c =
    let alone : ¬ Meets c.in-Some.last c.args.claim.now = λ met. let told = c.if-meets.ensures.1 met in cc in
    put_behind c.args.made.now.items c.pop.new.self.items _ c.in-Some.last c.args.claim.now c.in-Some.ensures.items c.requires.made c.requires.behind c.requires.ticks alone
    (c.in_ok-push-4.ensures.items ∙ ap (λ items. items ++ c.args.claim.now ∷ []) (c.in_ok-push-3.ensures.items ∙ sym c.in-Some.ensures.items))

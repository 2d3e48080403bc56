use Rattle.std.proofs.Common.{◌≡◌, ◌∙◌, ◌++◌, ℕ, List, length, ap, subst, rules}
use Rattle.path_recover.specs.claims.Held.{held}
use Rattle.path_recover.specs.history.Following.{AreLive}
use Rattle.path_recover.specs.journal.Headers.{header_of}
use Rattle.rail_types.specs.declared.entries.Entry.{Entry}
use Rattle.carry_command.specs.CarriedInside.{carried_of}
use Rattle.carry_command.specs.Carried.{IsCarriedTo}
use Rattle.carry_command.specs.declared.carried_history.joining.Carrying.{Carrying}
use Rattle.carry_command.proofs.Going.{begins, begins_spelled}
use Rattle.carry_command.proofs.carried_history.carrying.carry.Goals as goal

pub loop-at-init : goal.loop-at-init
loop-at-init c =
    let t = c.args.empty.now.timetable in
    let old = c.args.old.now.entries in
    let header = header_of c.args.network.now c.args.base.now in
    let first : Carrying = record { book = c.in_ok-book.book; file = c.extend.new.self; kept = c.reserve-2.new.self; left = c.new.result } in
    let kept = c.reserve-2.ensures.items ∙ c.new-kept.ensures.items in
    let roomy = c.reserve.ensures.held ∙ c.new-file.ensures in
    let file : first.file.held ≡ header = c.in_ok-extend.ensures.ok ∙ (ap (λ (l : List ℕ). l ++ c.header.result) roomy ∙ c.header.ensures) in
    record {
      carried = begins t old first kept c.new.ensures.items (subst (λ (entries : List Entry). AreLive t (held first.book) entries) c.requires.empty c.in_ok-book.ensures.live) c.in_ok-book.ensures.zones;
      spelled = begins_spelled header old first kept file;
    }

pub loop-at-preserved : goal.loop-at-preserved
loop-at-preserved c = record {
  carried = c.in_ok-carry_at.ensures.carried;
  spelled = c.in_ok-carry_at.ensures.spelled (header_of c.args.network.now c.args.base.now) c.loop-at.invariant.spelled;
}

pub returns-clause-carried : goal.returns-clause-carried
returns-clause-carried c =
    let carrying = c.loop-at.carrying in
    let old = c.args.old.now.entries in
    let end : c.loop-at.at ≡ length old = search rules in
    subst (λ (n : ℕ). IsCarriedTo c.args.empty.now.timetable old n (carried_of old carrying) carrying.kept.items carrying.left.items) end c.loop-at.invariant.carried.carried

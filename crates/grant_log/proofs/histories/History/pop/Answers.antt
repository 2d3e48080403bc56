use Rattle.std.proofs.Common.{◌≡◌, arith, ◌<◌, ◌++◌, ◌∷◌, [], None, Some, IfSome, length, take, sym, subst, ap, ◌∙◌, append-nil, length-append, length-take}
use Rattle.rail_types.specs.Timetables.{timetable_of}
use Rattle.grant_log.specs.Inside.{TellFreed, marked}
use Rattle.grant_log.specs.Verdict.{freed_position}
use Rattle.grant_log.proofs.Indexed.{keys_front}
use Rattle.grant_log.proofs.Legals.{fresh_joins, joined_last, legal_front}
use Rattle.grant_log.proofs.Marks.{names_below, tell_pop}
use Rattle.grant_log.proofs.histories.History.pop.Goals as goal

pub invariant_of-self : goal.invariant_of-self
invariant_of-self c =
    let same : c.pop.new.self.items ≡ c.self.inside.entries.items = sym (c.in_err-last.ensures.items ∙ append-nil c.pop.new.self.items) in
    rw same (record {
      planned = c.self.invariant.planned;
      legal = c.self.invariant.legal;
      indexed = c.self.invariant.indexed;
      freed = c.self.invariant.freed;
      listed = omega (arith, ap length same);
      told = c.self.invariant.told;
      room = c.self.invariant.room;
    })

pub mark-requires : goal.mark-requires
mark-requires c =
    let timetable = timetable_of c.self.inside.net c.self.inside.base in
    let front = c.pop.new.self.items in
    let last = c.in_ok-last.last in
    let whole = c.in_ok-last.ensures.items in
    let laws = c.first_clashes_are_first.ensures in
    let joins = joined_last timetable c.self.inside.entries.items front last c.self.invariant.legal whole in
    let may = (fresh_joins laws.none laws.some timetable front last joins.fresh).1 in
    let told = subst (TellFreed c.self.inside.freed.items) whole c.self.invariant.freed in
    let long : c.len-front.result ≡ length front = omega (arith, c.len-front.ensures, c.pop.new.self.ok.0) in
    let cut : c.truncate-2.new.self.items ≡ take (length front) c.self.inside.freed.items = c.truncate-2.ensures.items ∙ ap (λ n. take n c.self.inside.freed.items) long in
    rw (c.freed_position.ensures, cut) (names_below timetable front last c.self.inside.freed.items may told)

pub invariant_of-self-2 : goal.invariant_of-self-2
invariant_of-self-2 c =
    let timetable = timetable_of c.self.inside.net c.self.inside.base in
    let front = c.pop.new.self.items in
    let last = c.in_ok-last.last in
    let whole = c.in_ok-last.ensures.items in
    let laws = c.first_clashes_are_first.ensures in
    let joins = joined_last timetable c.self.inside.entries.items front last c.self.invariant.legal whole in
    let may = (fresh_joins laws.none laws.some timetable front last joins.fresh).1 in
    let told = subst (TellFreed c.self.inside.freed.items) whole c.self.invariant.freed in
    let long : c.len-front.result ≡ length front = omega (arith, c.len-front.ensures, c.pop.new.self.ok.0) in
    let cut : c.truncate-2.new.self.items ≡ take (length front) c.self.inside.freed.items = c.truncate-2.ensures.items ∙ ap (λ n. take n c.self.inside.freed.items) long in
    let names : c.mark.new.freed.items ≡ marked (take (length front) c.self.inside.freed.items) (freed_position last.deed) None =
    c.mark.ensures.items
    ∙ (ap (λ place. marked c.truncate-2.new.self.items place None) c.freed_position.ensures
    ∙ ap (λ freed. marked freed (freed_position last.deed) None) cut) in
    let tell = tell_pop timetable front last c.self.inside.freed.items may told in
    record {
      planned = c.self.invariant.planned;
      legal = legal_front timetable c.self.inside.entries.items front last c.self.invariant.legal whole;
      indexed = c.truncate.ensures.keys ∙ (ap (λ n. take n c.self.inside.index.keys) long ∙ (ap (take (length front)) c.self.invariant.indexed ∙ keys_front c.self.inside.entries.items front last whole));
      freed = rw names tell;
      listed = omega (arith, ap length whole, length-append front (last ∷ []));
      told = omega (arith, c.mark.ensures.room, tell.count, ap length names);
      room = omega (arith, c.truncate.ensures.room.0);
    }

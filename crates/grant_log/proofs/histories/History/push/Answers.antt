use Rattle.std.proofs.Common.{◌≡◌, arith, ◌≤◌, ◌++◌, ◌∷◌, [], IfOk, None, Some, length, map, sym, subst, ap, ◌∙◌}
use Rattle.std.proofs.lemmas.List.{map-append}
use Rattle.indexmap.specs.IndexSet.{insert_key}
use Rattle.rail_types.specs.Timetables.{timetable_of}
use Rattle.grant_log.specs.Legal.{Joins, Register}
use Rattle.grant_log.specs.Inside.{TellFreed, key_of, marked}
use Rattle.grant_log.specs.Verdict.{freed_position}
use Rattle.grant_log.proofs.Indexed.{same_key, key_is_new}
use Rattle.grant_log.proofs.Legals.{fresh_joins, legal_push}
use Rattle.grant_log.proofs.Marks.{length_marked, tell_push}
use Rattle.grant_log.proofs.Places.{is_new}
use Rattle.grant_log.proofs.histories.History.push.Goals as goal

pub invariant_of-self : goal.invariant_of-self
invariant_of-self c =
    let all = c.self.inside.entries.items in
    let timetable = timetable_of c.self.inside.net c.self.inside.base in
    let joins : Joins timetable all c.args.entry = rw (← c.self.view_is) at c.requires.joins in
    let laws = c.first_clashes_are_first.ensures in
    let facts = fresh_joins laws.none laws.some timetable all c.args.entry joins.fresh in
    let added = subst (λ r. IfOk r (λ _. c.insert-indexed.new.self.keys ≡ insert_key same_key c.self.inside.index.keys c.entry_key-key.result)) c.in-Ok.is c.insert-indexed.ensures.keys in
    let keys : c.insert-indexed.new.self.keys ≡ map key_of all ++ key_of c.args.entry ∷ [] = rw (c.entry_key-key.ensures, c.self.invariant.indexed) at added ∙ key_is_new all c.args.entry.owner c.args.entry.number (is_new all c.args.entry facts.0) in
    let room : 1 ≤ c.self.inside.room = subst (λ (register : Register). 1 ≤ register.spare) (sym c.self.view_is) c.requires.room in
    let tell = tell_push timetable all c.args.entry c.self.inside.freed.items facts.1 c.self.invariant.freed in
    let long : c.len-front.result ≡ length all = omega (arith, c.len-front.ensures, c.self.inside.entries.ok.0) in
    let names : c.mark.new.freed.items ≡ marked c.self.inside.freed.items (freed_position c.args.entry.deed) (Some (length all)) =
    c.mark.ensures.items
    ∙ (ap (λ place. marked c.self.inside.freed.items place (Some c.len-front.result)) c.freed_position.ensures
    ∙ ap (λ n. marked c.self.inside.freed.items (freed_position c.args.entry.deed) (Some n)) long) in
    record {
      planned = c.self.invariant.planned;
      legal = rw c.push_reserved-2.ensures.items (legal_push timetable all c.args.entry c.self.invariant.legal joins);
      indexed = keys ∙ sym (ap (map key_of) c.push_reserved-2.ensures.items ∙ map-append key_of all (c.args.entry ∷ []));
      freed = rw (c.push_reserved.ensures.items, c.push_reserved-2.ensures.items, names) tell;
      listed = omega arith;
      told = omega (arith, c.mark.ensures.room, c.mark.new.freed.ok.0, ap length names, length_marked c.self.inside.freed.items (freed_position c.args.entry.deed) (Some (length all)), c.self.inside.freed.ok.0);
      room = omega arith;
    }

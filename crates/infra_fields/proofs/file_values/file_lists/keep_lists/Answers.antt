use Rattle.std.proofs.Common.{◌≡◌, Some, arith}
use Rattle.json.specs.Json.{read_key}
use Rattle.json.proofs.Grammar.{read_key-shorter}
use Rattle.serde_json.specs.Data.{no_members, put}
use Rattle.infra_fields.specs.Kept.{is_in, Keeps, list_levels}
use Rattle.infra_fields.proofs.Turns.{members_first, members_next, members_no_key, members_refused, members_done}
use Rattle.infra_fields.proofs.KeptMembers.{none_kept}
use Rattle.infra_fields.proofs.file_values.file_lists.keep_lists.Goals as goal

pub members-init : goal.members-init
members-init c = (no_members, members_first c.args.depth c.args.reader.now, rw c.new-kept.ensures.empty (none_kept (is_in c.args.half) (is_in c.args.half) (Keeps list_levels)), omega arith)

pub returns-in_err-name-clause-err : goal.returns-in_err-name-clause-err
returns-in_err-name-clause-err c refused =
    let l = c.members in
    members_no_key c.args.depth c.args.reader.now l.reader l.invariant.0 l.invariant.1 (grind arith)

pub returns-in_err-take_list-clause-err : goal.returns-in_err-take_list-clause-err
returns-in_err-take_list-clause-err c refused =
    let l = c.members in
    let key = c.in-Some.name.now in
    let named : read_key l.reader ≡ Some (Some key, c.next_key.new.reader) = grind arith in
    members_refused c.args.depth c.args.reader.now l.reader l.invariant.0 l.invariant.1 key c.next_key.new.reader named (c.take_list.ensures.err (grind arith))

pub members-preserved : goal.members-preserved
members-preserved c =
    let l = c.members in
    let key = c.in-Some.name.now in
    let rest = c.next_key.new.reader in
    let named : read_key l.reader ≡ Some (Some key, rest) = grind arith in
    let took = c.in_ok-take_list.ensures in
    let less = read_key-shorter l.reader (Some key) rest named in
    let lesser = took.shorter in (
      put key took.ok.0 l.invariant.0,
      members_next c.args.depth c.args.reader.now l.reader l.invariant.0 l.invariant.1 key rest c.take_list.new.reader took.ok.0 named took.ok.1 lesser,
      took.ok.2 l.invariant.0 l.invariant.2,
      omega (arith, less, lesser, l.invariant.3),
    )

pub returns-clause-ok : goal.returns-clause-ok
returns-clause-ok c =
    let l = c.members in
    (l.invariant.0, members_done c.args.depth c.args.reader.now l.reader l.invariant.0 l.invariant.1 c.next_key.new.reader (grind arith), l.invariant.2)

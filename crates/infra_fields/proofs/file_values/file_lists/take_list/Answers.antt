use Rattle.std.proofs.Common.{◌≡◌, true, false, arith}
use Rattle.serde_json.specs.View.{view, members_view}
use Rattle.infra_fields.specs.Kept.{is_in, Keeps, list_levels}
use Rattle.infra_fields.proofs.KeptMembers.{by_items, kept_put, passed_put}
use Rattle.infra_fields.proofs.file_values.file_lists.take_list.Goals as goal

pub returns-then-not-is_in-clause-ok : goal.returns-then-not-is_in-clause-ok
returns-then-not-is_in-clause-ok c =
    let other : is_in c.args.half c.args.name.now ≡ false = grind arith in
    let passed = c.in_ok-pass.ensures.ok in
    (passed.0, passed.1, λ all h. passed_put (is_in c.args.half) (is_in c.args.half) (Keeps list_levels) c.args.name.now passed.0 all (members_view c.args.kept.now.entries) other h)

pub returns-clause-ok : goal.returns-clause-ok
returns-clause-ok c =
    let listed : is_in c.args.half c.args.name.now ≡ true = grind arith in
    let it = c.in_ok-list.ensures.ok in
    let list = view c.in_ok-list.list in
    let one = by_items (Keeps list_levels) (is_in c.args.half c.args.name.now) it.0 list listed it.2 in
    (it.0, it.1, λ all h. rw c.in-Ok.ensures.ok (kept_put (is_in c.args.half) (is_in c.args.half) (Keeps list_levels) c.args.name.now it.0 list all (members_view c.args.kept.now.entries) one h))

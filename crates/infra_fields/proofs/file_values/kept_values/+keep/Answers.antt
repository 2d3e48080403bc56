use Rattle.std.proofs.Common.{◌≡◌, ◌<◌, [], ◌∷◌, ◌++◌, length, map, true, false, Some, None, refl, ap, ◌∙◌, arith}
use Rattle.std.proofs.lemmas.List.{map-append}
use Rattle.json.specs.Json.{after_end_array, read_key, value}
use Rattle.json.specs.Reads.{token_of}
use Rattle.json.proofs.Grammar.{read_key-shorter}
use Rattle.serde_json.specs.Data.{no_members, put}
use Rattle.serde_json.specs.Read.{of_json, converted}
use Rattle.serde_json.specs.View.{view, members_view}
use Rattle.infra_fields.specs.Kept.{is_list, is_read, Keeps, KeepsItems}
use Rattle.infra_fields.specs.Tokens.{opens_array, opens_object}
use Rattle.infra_fields.proofs.Turns.{no_token, array_refused, object_refused, items_first, items_next, items_refused, members_first, members_next, members_no_key, members_refused, members_done}
use Rattle.infra_fields.proofs.KeptMembers.{by_items, by_whole, each_push, items_same, keeps_same, kept_put, none_kept, passed_put}
use Rattle.infra_fields.proofs.KeptValues.{list_kept, object_kept, objects_done, whole_kept}
use Rattle.infra_fields.proofs.file_values.kept_values.+keep.Goals as goal

-- ---- a value

pub keep-returns-in_err-token-clause-err : goal.keep-returns-in_err-token-clause-err
keep-returns-in_err-token-clause-err t c refused = no_token c.args.depth c.args.reader.now (grind arith)

pub keep-returns-in_err-members-clause-err : goal.keep-returns-in_err-members-clause-err
keep-returns-in_err-members-clause-err t c refused =
    let first : c.args.reader.now ≡ token_of c.in_ok-token.token ∷ c.next.new.self = grind arith in
    let opens : opens_object (token_of c.in_ok-token.token) ≡ true = grind arith in
    object_refused c.args.depth c.args.reader.now (token_of c.in_ok-token.token) c.next.new.self first opens (omega (arith, c.requires)) (c.keep_members.ensures.err (grind arith))

pub keep-returns-then-opens_object-clause-ok : goal.keep-returns-then-opens_object-clause-ok
keep-returns-then-opens_object-clause-ok t c =
    let first : c.args.reader.now ≡ token_of c.in_ok-token.token ∷ c.next.new.self = grind arith in
    let opens : opens_object (token_of c.in_ok-token.token) ≡ true = grind arith in
    object_kept c.args.levels c.args.depth c.args.reader.now (token_of c.in_ok-token.token) c.next.new.self c.keep_members.new.reader first (omega (arith, c.requires))
    (members_view c.in_ok-members.members.entries) (view c.from.result) (omega arith) opens c.in_ok-members.ensures.ok c.from.ensures

pub keep-returns-in_err-other-clause-err : goal.keep-returns-in_err-other-clause-err
keep-returns-in_err-other-clause-err t c refused =
    let first : c.args.reader.now ≡ token_of c.in_ok-token.token ∷ c.next.new.self = grind arith in
    ap (λ ts. converted of_json (value c.args.depth ts)) first ∙ c.read_from.ensures.err (grind arith)

pub keep-returns-clause-ok : goal.keep-returns-clause-ok
keep-returns-clause-ok t c =
    let first : c.args.reader.now ≡ token_of c.in_ok-token.token ∷ c.next.new.self = grind arith in
    let d = view c.in_ok-other.other in
    whole_kept (Keeps c.args.levels) c.args.depth c.args.reader.now (token_of c.in_ok-token.token) c.next.new.self c.read_from.new.reader d first (keeps_same c.args.levels d) c.in_ok-other.ensures.ok

-- ---- members

pub keep_members-members-init : goal.keep_members-members-init
keep_members-members-init t c = (no_members, members_first c.args.depth c.args.reader.now, rw c.new-kept.ensures.empty (none_kept is_read is_list (Keeps c.args.levels)), omega arith)

pub keep_members-returns-in_err-name-clause-err : goal.keep_members-returns-in_err-name-clause-err
keep_members-returns-in_err-name-clause-err t c refused =
    let l = c.members in
    members_no_key c.args.depth c.args.reader.now l.reader l.invariant.0 l.invariant.1 (grind arith)

pub keep_members-returns-in_err-take_member-clause-err : goal.keep_members-returns-in_err-take_member-clause-err
keep_members-returns-in_err-take_member-clause-err t c refused =
    let l = c.members in
    let key = c.in-Some.name.now in
    let named : read_key l.reader ≡ Some (Some key, c.next_key.new.reader) = grind arith in
    members_refused c.args.depth c.args.reader.now l.reader l.invariant.0 l.invariant.1 key c.next_key.new.reader named (c.take_member.ensures.err (grind arith))

pub keep_members-members-preserved : goal.keep_members-members-preserved
keep_members-members-preserved t c =
    let l = c.members in
    let key = c.in-Some.name.now in
    let rest = c.next_key.new.reader in
    let named : read_key l.reader ≡ Some (Some key, rest) = grind arith in
    let took = c.in_ok-take_member.ensures in
    let less = read_key-shorter l.reader (Some key) rest named in
    let lesser = took.shorter in (
      put key took.ok.0 l.invariant.0,
      members_next c.args.depth c.args.reader.now l.reader l.invariant.0 l.invariant.1 key rest c.take_member.new.reader took.ok.0 named took.ok.1 lesser,
      took.ok.2 l.invariant.0 l.invariant.2,
      omega (arith, less, lesser, l.invariant.3),
    )

pub keep_members-returns-clause-ok : goal.keep_members-returns-clause-ok
keep_members-returns-clause-ok t c =
    let l = c.members in
    (l.invariant.0, members_done c.args.depth c.args.reader.now l.reader l.invariant.0 l.invariant.1 c.next_key.new.reader (grind arith), l.invariant.2)

-- ---- one member

pub take_member-returns-then-not-is_read-clause-ok : goal.take_member-returns-then-not-is_read-clause-ok
take_member-returns-then-not-is_read-clause-ok t c =
    let unread : is_read c.args.name.now ≡ false = grind arith in
    let passed = c.in_ok-pass.ensures.ok in
    (passed.0, passed.1, λ all h. passed_put is_read is_list (Keeps c.args.levels) c.args.name.now passed.0 all (members_view c.args.kept.now.entries) unread h)

pub take_member-returns-clause-ok : goal.take_member-returns-clause-ok
take_member-returns-clause-ok t c =
    let it = c.in_ok-member.ensures.ok in
    (it.0, it.1, λ all h. rw c.in-Ok.ensures.ok (kept_put is_read is_list (Keeps c.args.levels) c.args.name.now it.0 (view c.in_ok-member.member) all (members_view c.args.kept.now.entries) it.2 h))

pub member_value-returns-then-is_list-clause-ok : goal.member_value-returns-then-is_list-clause-ok
member_value-returns-then-is_list-clause-ok t c =
    let listed : is_list c.args.name.now ≡ true = grind arith in
    let it = c.in_ok-list.ensures.ok in
    (it.0, it.1, by_items (Keeps c.args.levels) (is_list c.args.name.now) it.0 (view c.in_ok-list.list) listed it.2)

pub member_value-returns-clause-ok : goal.member_value-returns-clause-ok
member_value-returns-clause-ok t c =
    let other : is_list c.args.name.now ≡ false = grind arith in
    let d = view c.in_ok-whole.whole in
    (d, c.in_ok-whole.ensures.ok, by_whole (Keeps c.args.levels) (is_list c.args.name.now) d d other refl)

-- ---- a list

pub keep_list-returns-in_err-token-clause-err : goal.keep_list-returns-in_err-token-clause-err
keep_list-returns-in_err-token-clause-err t c refused = no_token c.args.depth c.args.reader.now (grind arith)

pub keep_list-returns-in_err-objects-clause-err : goal.keep_list-returns-in_err-objects-clause-err
keep_list-returns-in_err-objects-clause-err t c refused =
    let first : c.args.reader.now ≡ token_of c.in_ok-token.token ∷ c.next.new.self = grind arith in
    let opens : opens_array (token_of c.in_ok-token.token) ≡ true = grind arith in
    array_refused c.args.depth c.args.reader.now (token_of c.in_ok-token.token) c.next.new.self first opens (omega (arith, c.requires)) (c.keep_items.ensures.err (grind arith))

pub keep_list-returns-then-opens_array-clause-ok : goal.keep_list-returns-then-opens_array-clause-ok
keep_list-returns-then-opens_array-clause-ok t c =
    let first : c.args.reader.now ≡ token_of c.in_ok-token.token ∷ c.next.new.self = grind arith in
    let opens : opens_array (token_of c.in_ok-token.token) ≡ true = grind arith in
    list_kept c.args.levels c.args.depth c.args.reader.now (token_of c.in_ok-token.token) c.next.new.self c.keep_items.new.reader first (omega (arith, c.requires))
    (map view c.in_ok-objects.objects.items) (view c.from.result) opens c.in_ok-objects.ensures.ok c.from.ensures

pub keep_list-returns-in_err-other-clause-err : goal.keep_list-returns-in_err-other-clause-err
keep_list-returns-in_err-other-clause-err t c refused =
    let first : c.args.reader.now ≡ token_of c.in_ok-token.token ∷ c.next.new.self = grind arith in
    ap (λ ts. converted of_json (value c.args.depth ts)) first ∙ c.read_from.ensures.err (grind arith)

pub keep_list-returns-clause-ok : goal.keep_list-returns-clause-ok
keep_list-returns-clause-ok t c =
    let first : c.args.reader.now ≡ token_of c.in_ok-token.token ∷ c.next.new.self = grind arith in
    let d = view c.in_ok-other.other in
    whole_kept (KeepsItems (Keeps c.args.levels)) c.args.depth c.args.reader.now (token_of c.in_ok-token.token) c.next.new.self c.read_from.new.reader d first (items_same (Keeps c.args.levels) (keeps_same c.args.levels) d) c.in_ok-other.ensures.ok

-- ---- items

pub keep_items-items-init : goal.keep_items-items-init
keep_items-items-init t c = ([], items_first c.args.depth c.args.reader.now, rw c.new-kept.ensures.items tt, omega arith)

pub keep_items-returns-in_err-object-clause-err : goal.keep_items-returns-in_err-object-clause-err
keep_items-returns-in_err-object-clause-err t c refused =
    let l = c.items in
    let going : (after_end_array l.reader ≡ None) × (c.take_end_array.new.self ≡ l.reader) = grind arith in
    items_refused c.args.depth c.args.reader.now l.reader l.invariant.0 l.invariant.1 going.0 (rw (← going.1) (c.keep.ensures.err (grind arith)))

pub keep_items-items-preserved : goal.keep_items-items-preserved
keep_items-items-preserved t c =
    let l = c.items in
    let going : (after_end_array l.reader ≡ None) × (c.take_end_array.new.self ≡ l.reader) = grind arith in
    let done = c.in_ok-object.ensures in
    let object = c.in_ok-object.object in
    let less : length c.keep.new.reader < length l.reader = rw (← going.1) done.shorter in (
      l.invariant.0 ++ done.ok.0 ∷ [],
      items_next c.args.depth c.args.reader.now l.reader l.invariant.0 l.invariant.1 c.keep.new.reader done.ok.0 going.0 (rw (← going.1) done.ok.1) less,
      rw (c.in-Ok.ensures.ok, map-append view l.kept.items (object ∷ [])) (each_push (Keeps c.args.levels) l.invariant.0 (map view l.kept.items) done.ok.0 (view object) l.invariant.2 done.ok.2),
      omega (arith, less, l.invariant.3),
    )

pub keep_items-returns-clause-ok : goal.keep_items-returns-clause-ok
keep_items-returns-clause-ok t c =
    let l = c.items in
    let closed : after_end_array l.reader ≡ Some c.take_end_array.new.self = grind arith in
    objects_done c.args.levels c.args.depth c.args.reader.now l.reader c.take_end_array.new.self l.invariant.0 (map view l.kept.items) l.invariant.1 closed l.invariant.2

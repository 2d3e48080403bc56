use Rattle.std.proofs.Common.{◌≡◌, ◌<◌, [], ◌∷◌, length, map, true, false, Some, None, refl, ap, ◌∙◌, arith}
use Rattle.std.proofs.lemmas.List.{map-append}
use Rattle.json.specs.Json.{after_end_array, read_key, value}
use Rattle.json.specs.Reads.{token_of}
use Rattle.json.proofs.Grammar.{read_key-shorter}
use Rattle.serde_json.specs.Read.{of_json, converted}
use Rattle.serde_json.specs.View.{view, items_view, members_view}
use Rattle.infra_fields.specs.Tokens.{opens_array, opens_object}
use Rattle.infra_fields.proofs.Turns.{no_token, no_array, no_object, array_read, array_refused, object_read, object_refused, lone_read, lone_refused, items_first, items_next, items_refused, items_done, members_first, members_next, members_no_key, members_refused, members_done, onto_end}
use Rattle.infra_fields.proofs.file_values.whole_values.+read.Goals as goal

-- ---- a value

pub read-returns-in_err-token-clause-err : goal.read-returns-in_err-token-clause-err
read-returns-in_err-token-clause-err t c refused = no_token c.args.depth c.args.reader.now (grind arith)

pub read-returns-in_err-found-clause-err : goal.read-returns-in_err-found-clause-err
read-returns-in_err-found-clause-err t c refused =
    let first : c.args.reader.now ≡ token_of c.in_ok-token.token ∷ c.next.new.self = grind arith in
    ap (λ ts. converted of_json (value c.args.depth ts)) first ∙ c.read_from.ensures.err (grind arith)

pub read-returns-clause-ok : goal.read-returns-clause-ok
read-returns-clause-ok t c =
    let first : c.args.reader.now ≡ token_of c.in_ok-token.token ∷ c.next.new.self = grind arith in
    ap (λ ts. converted of_json (value c.args.depth ts)) first ∙ c.in_ok-found.ensures.ok

-- ---- a value behind its first token

pub read_from-returns-then-depth-eq0-clause-err : goal.read_from-returns-then-depth-eq0-clause-err
read_from-returns-then-depth-eq0-clause-err t c never =
    let opens : opens_array (token_of c.args.token) ≡ true = grind arith in
    no_array c.args.depth (token_of c.args.token) c.args.reader.now opens (omega arith)

pub read_from-returns-in_err-list-clause-err : goal.read_from-returns-in_err-list-clause-err
read_from-returns-in_err-list-clause-err t c refused =
    let opens : opens_array (token_of c.args.token) ≡ true = grind arith in
    array_refused c.args.depth _ (token_of c.args.token) c.args.reader.now refl opens (omega arith) (c.read_items.ensures.err (grind arith))

pub read_from-returns-then-opens_array-clause-ok : goal.read_from-returns-then-opens_array-clause-ok
read_from-returns-then-opens_array-clause-ok t c =
    let opens : opens_array (token_of c.args.token) ≡ true = grind arith in
    rw c.from.ensures (array_read c.args.depth _ (token_of c.args.token) c.args.reader.now refl (items_view c.in_ok-list.list.items) c.read_items.new.reader opens (omega arith) c.in_ok-list.ensures.ok)

pub read_from-returns-then-depth-eq0-2-clause-err : goal.read_from-returns-then-depth-eq0-2-clause-err
read_from-returns-then-depth-eq0-2-clause-err t c never =
    let opens : opens_object (token_of c.args.token) ≡ true = grind arith in
    no_object c.args.depth (token_of c.args.token) c.args.reader.now opens (omega arith)

pub read_from-returns-in_err-map-clause-err : goal.read_from-returns-in_err-map-clause-err
read_from-returns-in_err-map-clause-err t c refused =
    let opens : opens_object (token_of c.args.token) ≡ true = grind arith in
    object_refused c.args.depth _ (token_of c.args.token) c.args.reader.now refl opens (omega arith) (c.read_members.ensures.err (grind arith))

pub read_from-returns-then-opens_object-clause-ok : goal.read_from-returns-then-opens_object-clause-ok
read_from-returns-then-opens_object-clause-ok t c =
    let opens : opens_object (token_of c.args.token) ≡ true = grind arith in
    rw c.from-then-opens_object.ensures (object_read c.args.depth _ (token_of c.args.token) c.args.reader.now refl (members_view c.in_ok-map.map.entries) c.read_members.new.reader opens (omega arith) c.in_ok-map.ensures.ok)

pub read_from-returns-in_err-found-clause-err : goal.read_from-returns-in_err-found-clause-err
read_from-returns-in_err-found-clause-err t c refused =
    let array : opens_array (token_of c.args.token) ≡ false = grind arith in
    let object : opens_object (token_of c.args.token) ≡ false = grind arith in
    lone_refused c.args.depth _ (token_of c.args.token) c.args.reader.now refl array object (c.lone_value.ensures.err (grind arith))

pub read_from-returns-clause-ok : goal.read_from-returns-clause-ok
read_from-returns-clause-ok t c =
    let array : opens_array (token_of c.args.token) ≡ false = grind arith in
    let object : opens_object (token_of c.args.token) ≡ false = grind arith in
    lone_read c.args.depth _ (token_of c.args.token) c.args.reader.now refl (view c.in_ok-found.found) array object c.in_ok-found.ensures.ok

-- ---- items

pub read_items-items-init : goal.read_items-items-init
read_items-items-init t c = record {
  read = rw c.new-found.ensures.items (items_first c.args.depth c.args.reader.now);
  later = omega arith;
}

pub read_items-returns-in_err-item-clause-err : goal.read_items-returns-in_err-item-clause-err
read_items-returns-in_err-item-clause-err t c refused =
    let l = c.items in
    let going : (after_end_array l.reader ≡ None) × (c.take_end_array.new.self ≡ l.reader) = grind arith in
    items_refused c.args.depth c.args.reader.now l.reader (map view l.found.items) l.invariant.read going.0 (rw (← going.1) (c.read.ensures.err (grind arith)))

pub read_items-items-preserved : goal.read_items-items-preserved
read_items-items-preserved t c =
    let l = c.items in
    let going : (after_end_array l.reader ≡ None) × (c.take_end_array.new.self ≡ l.reader) = grind arith in
    let done = c.in_ok-item.ensures in
    let item = c.in_ok-item.item in
    let less : length c.read.new.reader < length l.reader = rw (← going.1) done.shorter in
    let next = items_next c.args.depth c.args.reader.now l.reader (map view l.found.items) l.invariant.read c.read.new.reader (view item) going.0 (rw (← going.1) done.ok) less in
    record {
      read = rw (c.in-Ok.ensures.ok, map-append view l.found.items (item ∷ [])) next;
      later = omega (arith, less, l.invariant.later);
    }

pub read_items-returns-clause-ok : goal.read_items-returns-clause-ok
read_items-returns-clause-ok t c =
    let l = c.items in
    let closed : after_end_array l.reader ≡ Some c.take_end_array.new.self = grind arith in
    items_done c.args.depth c.args.reader.now l.reader (map view l.found.items) l.invariant.read c.take_end_array.new.self closed
    ∙ ap (λ all. Some (all, c.take_end_array.new.self)) (onto_end (map view l.found.items))

-- ---- members

pub read_members-members-init : goal.read_members-members-init
read_members-members-init t c = record {
  read = rw c.new-found.ensures.empty (members_first c.args.depth c.args.reader.now);
  later = omega arith;
}

pub read_members-returns-in_err-name-clause-err : goal.read_members-returns-in_err-name-clause-err
read_members-returns-in_err-name-clause-err t c refused =
    let l = c.members in
    members_no_key c.args.depth c.args.reader.now l.reader (members_view l.found.entries) l.invariant.read (grind arith)

pub read_members-returns-in_err-member-clause-err : goal.read_members-returns-in_err-member-clause-err
read_members-returns-in_err-member-clause-err t c refused =
    let l = c.members in
    let key = c.in-Some.name.now in
    let named : read_key l.reader ≡ Some (Some key, c.next_key.new.reader) = grind arith in
    members_refused c.args.depth c.args.reader.now l.reader (members_view l.found.entries) l.invariant.read key c.next_key.new.reader named (c.read.ensures.err (grind arith))

pub read_members-members-preserved : goal.read_members-members-preserved
read_members-members-preserved t c =
    let l = c.members in
    let key = c.in-Some.name.now in
    let rest = c.next_key.new.reader in
    let named : read_key l.reader ≡ Some (Some key, rest) = grind arith in
    let done = c.in_ok-member.ensures in
    let less = read_key-shorter l.reader (Some key) rest named in
    let lesser = done.shorter in
    record {
      read = rw c.in-Ok.ensures.ok (members_next c.args.depth c.args.reader.now l.reader (members_view l.found.entries) l.invariant.read key rest c.read.new.reader (view c.in_ok-member.member) named done.ok lesser);
      later = omega (arith, less, lesser, l.invariant.later);
    }

pub read_members-returns-clause-ok : goal.read_members-returns-clause-ok
read_members-returns-clause-ok t c =
    let l = c.members in
    members_done c.args.depth c.args.reader.now l.reader (members_view l.found.entries) l.invariant.read c.next_key.new.reader (grind arith)

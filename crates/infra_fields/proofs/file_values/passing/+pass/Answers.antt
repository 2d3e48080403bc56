use Rattle.std.proofs.Common.{◌≡◌, ◌<◌, [], ◌∷◌, ◌++◌, length, true, false, is_some, Option, Some, None, refl, sym, true≢false, arith}
use Rattle.json.specs.Json.{after_end_array, read_key}
use Rattle.json.specs.Reads.{token_of}
use Rattle.json.proofs.Grammar.{read_key-shorter}
use Rattle.serde_json.specs.Data.{array, object, no_items, no_members, put}
use Rattle.infra_fields.specs.Tokens.{opens_array, opens_object, lone_value}
use Rattle.infra_fields.proofs.Turns.{no_token, no_array, no_object, array_read, array_refused, object_read, object_refused, lone_read, lone_refused, items_first, items_next, items_refused, items_done, members_first, members_next, members_no_key, members_refused, members_done, onto}
use Rattle.infra_fields.proofs.file_values.passing.+pass.Goals as goal

there : {A : Type 0} (o : Option A) → is_some o ≡ true → (a : A) × (o ≡ Some a)
there None e = absurd (true≢false (sym e))
there (Some a) e = (a, refl)

absent : {A : Type 0} (o : Option A) → is_some o ≡ false → o ≡ None
absent None e = refl
absent (Some a) e = absurd (true≢false e)

-- ---- a value

pub pass-returns-in_err-token-clause-err : goal.pass-returns-in_err-token-clause-err
pass-returns-in_err-token-clause-err t c refused = no_token c.args.depth c.args.reader.now (grind arith)

pub pass-returns-then-depth-eq0-clause-err : goal.pass-returns-then-depth-eq0-clause-err
pass-returns-then-depth-eq0-clause-err t c never =
    let first : c.args.reader.now ≡ token_of c.in_ok-token.token ∷ c.next.new.self = grind arith in
    let opens : opens_array (token_of c.in_ok-token.token) ≡ true = grind arith in
    rw first (no_array c.args.depth (token_of c.in_ok-token.token) c.next.new.self opens (omega arith))

pub pass-returns-in_err-pass_items-clause-err : goal.pass-returns-in_err-pass_items-clause-err
pass-returns-in_err-pass_items-clause-err t c refused =
    let first : c.args.reader.now ≡ token_of c.in_ok-token.token ∷ c.next.new.self = grind arith in
    let opens : opens_array (token_of c.in_ok-token.token) ≡ true = grind arith in
    array_refused c.args.depth c.args.reader.now (token_of c.in_ok-token.token) c.next.new.self first opens (omega arith) (c.pass_items.ensures.err (grind arith))

pub pass-returns-then-opens_array-clause-ok : goal.pass-returns-then-opens_array-clause-ok
pass-returns-then-opens_array-clause-ok t c =
    let first : c.args.reader.now ≡ token_of c.in_ok-token.token ∷ c.next.new.self = grind arith in
    let opens : opens_array (token_of c.in_ok-token.token) ≡ true = grind arith in
    let passed = c.in_ok-pass_items.ensures.ok in
    (array passed.0, array_read c.args.depth c.args.reader.now (token_of c.in_ok-token.token) c.next.new.self first passed.0 c.pass_items.new.reader opens (omega arith) passed.1)

pub pass-returns-then-depth-eq0-2-clause-err : goal.pass-returns-then-depth-eq0-2-clause-err
pass-returns-then-depth-eq0-2-clause-err t c never =
    let first : c.args.reader.now ≡ token_of c.in_ok-token.token ∷ c.next.new.self = grind arith in
    let opens : opens_object (token_of c.in_ok-token.token) ≡ true = grind arith in
    rw first (no_object c.args.depth (token_of c.in_ok-token.token) c.next.new.self opens (omega arith))

pub pass-returns-in_err-pass_members-clause-err : goal.pass-returns-in_err-pass_members-clause-err
pass-returns-in_err-pass_members-clause-err t c refused =
    let first : c.args.reader.now ≡ token_of c.in_ok-token.token ∷ c.next.new.self = grind arith in
    let opens : opens_object (token_of c.in_ok-token.token) ≡ true = grind arith in
    object_refused c.args.depth c.args.reader.now (token_of c.in_ok-token.token) c.next.new.self first opens (omega arith) (c.pass_members.ensures.err (grind arith))

pub pass-returns-then-opens_object-clause-ok : goal.pass-returns-then-opens_object-clause-ok
pass-returns-then-opens_object-clause-ok t c =
    let first : c.args.reader.now ≡ token_of c.in_ok-token.token ∷ c.next.new.self = grind arith in
    let opens : opens_object (token_of c.in_ok-token.token) ≡ true = grind arith in
    let passed = c.in_ok-pass_members.ensures.ok in
    (object passed.0, object_read c.args.depth c.args.reader.now (token_of c.in_ok-token.token) c.next.new.self first passed.0 c.pass_members.new.reader opens (omega arith) passed.1)

pub pass-returns-then-not-is_lone_value-clause-err : goal.pass-returns-then-not-is_lone_value-clause-err
pass-returns-then-not-is_lone_value-clause-err t c refused =
    let first : c.args.reader.now ≡ token_of c.in_ok-token.token ∷ c.next.new.self = grind arith in
    let no_list : opens_array (token_of c.in_ok-token.token) ≡ false = grind arith in
    let no_map : opens_object (token_of c.in_ok-token.token) ≡ false = grind arith in
    let none : is_some (lone_value (token_of c.in_ok-token.token)) ≡ false = grind arith in
    lone_refused c.args.depth c.args.reader.now (token_of c.in_ok-token.token) c.next.new.self first no_list no_map (absent _ none)

pub pass-returns-clause-ok : goal.pass-returns-clause-ok
pass-returns-clause-ok t c =
    let first : c.args.reader.now ≡ token_of c.in_ok-token.token ∷ c.next.new.self = grind arith in
    let no_list : opens_array (token_of c.in_ok-token.token) ≡ false = grind arith in
    let no_map : opens_object (token_of c.in_ok-token.token) ≡ false = grind arith in
    let some : is_some (lone_value (token_of c.in_ok-token.token)) ≡ true = grind arith in
    let it = there _ some in
    (it.0, lone_read c.args.depth c.args.reader.now (token_of c.in_ok-token.token) c.next.new.self first it.0 no_list no_map it.1)

-- ---- items

pub pass_items-items-init : goal.pass_items-items-init
pass_items-items-init t c = ([], items_first c.args.depth c.args.reader.now, omega arith)

pub pass_items-returns-in_err-pass-clause-err : goal.pass_items-returns-in_err-pass-clause-err
pass_items-returns-in_err-pass-clause-err t c refused =
    let l = c.items in
    let going : (after_end_array l.reader ≡ None) × (c.take_end_array.new.self ≡ l.reader) = grind arith in
    items_refused c.args.depth c.args.reader.now l.reader l.invariant.0 l.invariant.1 going.0 (rw (← going.1) (c.pass.ensures.err (grind arith)))

pub pass_items-items-preserved : goal.pass_items-items-preserved
pass_items-items-preserved t c =
    let l = c.items in
    let going : (after_end_array l.reader ≡ None) × (c.take_end_array.new.self ≡ l.reader) = grind arith in
    let done = c.in_ok-pass.ensures in
    let less : length c.pass.new.reader < length l.reader = rw (← going.1) done.shorter in (
      l.invariant.0 ++ done.ok.0 ∷ [],
      items_next c.args.depth c.args.reader.now l.reader l.invariant.0 l.invariant.1 c.pass.new.reader done.ok.0 going.0 (rw (← going.1) done.ok.1) less,
      omega (arith, less, l.invariant.2),
    )

pub pass_items-returns-clause-ok : goal.pass_items-returns-clause-ok
pass_items-returns-clause-ok t c =
    let l = c.items in
    let closed : after_end_array l.reader ≡ Some c.take_end_array.new.self = grind arith in
    (onto l.invariant.0 no_items, items_done c.args.depth c.args.reader.now l.reader l.invariant.0 l.invariant.1 c.take_end_array.new.self closed)

-- ---- members

pub pass_members-members-init : goal.pass_members-members-init
pass_members-members-init t c = (no_members, members_first c.args.depth c.args.reader.now, omega arith)

pub pass_members-returns-in_err-next_key-clause-err : goal.pass_members-returns-in_err-next_key-clause-err
pass_members-returns-in_err-next_key-clause-err t c refused =
    let l = c.members in
    members_no_key c.args.depth c.args.reader.now l.reader l.invariant.0 l.invariant.1 (grind arith)

pub pass_members-returns-in_err-pass-clause-err : goal.pass_members-returns-in_err-pass-clause-err
pass_members-returns-in_err-pass-clause-err t c refused =
    let l = c.members in
    let key = c.in-Some.field-0.now in
    let named : read_key l.reader ≡ Some (Some key, c.next_key.new.reader) = grind arith in
    members_refused c.args.depth c.args.reader.now l.reader l.invariant.0 l.invariant.1 key c.next_key.new.reader named (c.pass.ensures.err (grind arith))

pub pass_members-members-preserved : goal.pass_members-members-preserved
pass_members-members-preserved t c =
    let l = c.members in
    let key = c.in-Some.field-0.now in
    let rest = c.next_key.new.reader in
    let named : read_key l.reader ≡ Some (Some key, rest) = grind arith in
    let done = c.in_ok-pass.ensures in
    let less = read_key-shorter l.reader (Some key) rest named in
    let lesser = done.shorter in (
      put key done.ok.0 l.invariant.0,
      members_next c.args.depth c.args.reader.now l.reader l.invariant.0 l.invariant.1 key rest c.pass.new.reader done.ok.0 named done.ok.1 lesser,
      omega (arith, less, lesser, l.invariant.2),
    )

pub pass_members-returns-clause-ok : goal.pass_members-returns-clause-ok
pass_members-returns-clause-ok t c =
    let l = c.members in
    (l.invariant.0, members_done c.args.depth c.args.reader.now l.reader l.invariant.0 l.invariant.1 c.next_key.new.reader (grind arith))

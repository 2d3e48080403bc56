-- What the line of a member says, as it is written.
use Rattle.std.proofs.Common.{◌≡◌, ◌∙◌, ap, sym, refl, subst, ℕ, zero, suc, ◌≤◌, ◌<◌, ◌+◌, ◌^◌, ℤ, pos, ◌-ℤ◌, ◌<ℤ◌, ◌≤ℤ◌, List, [], ◌∷◌, ◌++◌, length, map, Bool, true, false, Some, None, nat_eq, if◌then◌else◌, decimal, arith}
use Rattle.std.specs.Prelude.{codes}
use Rattle.std.specs.List.{All}
use Rattle.std.specs.Fmt.{signed_decimal}
use Rattle.std.proofs.lemmas.Fmt.{decimal_digit}
use Rattle.std.proofs.lemmas.Int.{ints}
use Rattle.std.proofs.lemmas.Bool.Decides.{nat_tests}
use Rattle.std.proofs.lemmas.List.{append-nil}
use Rattle.std.proofs.lemmas.List.Elements.{All-cons, All-head, All-nil, All-tail}
use Rattle.rail_types.specs.declared.limits.TheConstants.{MAX_NUMBER}
use Rattle.rail_types.specs.declared.paths.Window.{Window}
use Rattle.rail_types.specs.Limits.{IsWindowWithinLimits}
use Rattle.client_lines.specs.Fields.{flag_field}
use Rattle.running_time.specs.declared.edges.Enter.{Enter}
use Rattle.running_time.specs.declared.edges.Enter.TheVariants.{Still, From}
use Rattle.tail_states.specs.declared.certificates.Member.{Member}
use Rattle.client_lines.specs.Forms.{Form, Spells, a_number, a_tick, a_word, chain, done, one}
use Rattle.client_lines.specs.Lines.{a_flag, a_position}
use Rattle.client_lines.specs.Names.{Names}
use Rattle.proof_texts.specs.Forms.{a_block, a_member, a_span, a_state, entered_of, is_word, many, small_number}
use Rattle.proof_texts.specs.Texts.{entered_number, member_fields, place_fields, state_fields}
use Rattle.proof_texts.specs.Told.{IsEntered, IsMemberOn}
use Rattle.proof_texts.proofs.Spelled.{IsSpelled, window_text}
use Rattle.proof_texts.proofs.Words.{first_of, is_word-same, tell_number, then_one, word_is}

-- ---- blocks

module _ (blocks : ℕ) where
  abbrev pub IsBlock : ℕ → Type 0
  IsBlock block = (block < blocks) × (block < 2 ^ 64)

  pub blocks_told : (count : ℕ) (fields : List (List ℕ)) (tail : List ℕ) → Spells (many (one (a_number 0 blocks)) count) fields tail → (fields ≡ map decimal tail) × (All IsBlock tail × (length tail ≡ count))
  unfolding many
  blocks_told zero fields tail s = subst (λ (xs : List ℕ). (fields ≡ map decimal xs) × (All IsBlock xs × (length xs ≡ 0))) (sym s.1) (s.0, (All-nil IsBlock, refl))
  blocks_told (suc count) fields tail s =
      let block = first_of (a_number 0 blocks) (λ first. chain (many (one (a_number 0 blocks)) count) (λ others. done (first ∷ others))) fields tail s in
      let more = block.spelled in
      let on = blocks_told count more.1 more.0 more.4 in
      let behind : block.rest ≡ map decimal more.0 = more.3 ∙ (ap (λ (back : List (List ℕ)). more.1 ++ back) more.5.0 ∙ append-nil more.1) ∙ on.0 in
      let all : fields ≡ map decimal (block.first ∷ more.0) = block.parts ∙ (ap (λ (field : List ℕ). field ∷ block.rest) block.says.0 ∙ ap (λ (rest : List (List ℕ)). decimal block.first ∷ rest) behind) in
      subst (λ (xs : List ℕ). (fields ≡ map decimal xs) × (All IsBlock xs × (length xs ≡ suc count))) (sym more.5.1)
      (all, (All-cons IsBlock block.first more.0 (block.says.3, block.says.1) on.1.0, ap suc on.1.1))

  pub tell_blocks : (tail : List ℕ) → All IsBlock tail → Spells (many (one (a_number 0 blocks)) (length tail)) (map decimal tail) tail
  unfolding many
  tell_blocks [] all = (refl, refl)
  tell_blocks (block ∷ tail) all =
      let within : IsBlock block = All-head IsBlock block tail all in
      then_one (a_number 0 blocks) (λ first. chain (many (one (a_number 0 blocks)) (length tail)) (λ others. done (first ∷ others))) (decimal block) (map decimal tail) block (block ∷ tail) (tell_number blocks block within.1 within.0)
      (tail, map decimal tail, [], sym (append-nil (map decimal tail)), tell_blocks tail (All-tail IsBlock block tail all), (refl, refl))

-- ---- flags and entries

flag_by : (n : ℕ) (flag : Bool) → n < 2 → nat_eq n 1 ≡ flag → decimal n ≡ flag_field flag
flag_by zero flag low is = decimal_digit 0 (omega arith) ∙ ap flag_field is
flag_by (suc zero) flag low is = decimal_digit 1 (omega arith) ∙ ap flag_field is
flag_by (suc (suc n)) flag low is = absurd (omega arith)

flag_told : (fields : List (List ℕ)) (flag : Bool) → Spells a_flag fields flag → fields ≡ flag_field flag ∷ []
flag_told fields flag s =
    let number = first_of (a_number 0 2) (λ number. done (nat_eq number 1)) fields flag s in
    let text : number.field ≡ flag_field flag = number.says.0 ∙ flag_by number.first flag number.says.3 (sym number.spelled.1) in
    number.parts ∙ (ap (λ (rest : List (List ℕ)). number.field ∷ rest) number.spelled.0 ∙ ap (λ (field : List ℕ). field ∷ []) text)

flag_number : (n : ℕ) (flag : Bool) → n < 2 → nat_eq n 1 ≡ flag → Spells a_flag (flag_field flag ∷ []) flag
flag_number n flag low is =
    subst (λ (field : List ℕ). Spells a_flag (field ∷ []) flag) (flag_by n flag low is)
    (then_one (a_number 0 2) (λ number. done (nat_eq number 1)) (decimal n) [] n flag (tell_number 2 n (omega (arith, low)) low) (refl, sym is))

tell_flag : (flag : Bool) → Spells a_flag (flag_field flag ∷ []) flag
tell_flag true = flag_number 1 true (omega arith) refl
tell_flag false = flag_number 0 false (omega arith) refl

entered_by : (number : ℕ) (is_none : Bool) → nat_eq number 0 ≡ is_none → number < 2 ^ 32
    → (number ≡ entered_number (if is_none then Still else From number)) × IsEntered (if is_none then Still else From number)
entered_by number true is low = (grind (arith, nat_tests, is), tt)
entered_by number false is low = (refl, (grind (arith, nat_tests, is), low))

entered_told : (number : ℕ) → number < 2 ^ 32 → (number ≡ entered_number (entered_of number)) × IsEntered (entered_of number)
entered_told number low = entered_by number (nat_eq number 0) refl low

some_speed : (speed : ℕ) → 1 ≤ speed → nat_eq speed 0 ≡ false
some_speed speed some = grind (arith, nat_tests)

entered_same : (entered : Enter) → IsEntered entered → (entered_of (entered_number entered) ≡ entered) × (entered_number entered < 2 ^ 32)
entered_same Still is = (refl, omega arith)
entered_same (From speed) is = (rw (some_speed speed is.0) refl, is.1)

-- ---- spans

pub record IsSpan (window : Window) : Type 0 where
  pub within : IsWindowWithinLimits window
  pub some : window.from ≤ℤ window.to

at_most : (from to : ℤ) → (from -ℤ pos 1) <ℤ to → from ≤ℤ to
at_most from to behind = omega (arith, ints, behind)

at_least : (from to : ℤ) → from ≤ℤ to → (from -ℤ pos 1) <ℤ to
at_least from to less = omega (arith, ints, less)

ended_span : ℤ → Form Window
ended_span from = chain (one (a_tick (Some (from -ℤ pos 1)))) (λ to. done (record { from = from; to = to }))

pub span_is : IsSpelled a_span window_text IsSpan
unfolding a_span ended_span
span_is = record {
  told = λ fields window s.
      let from = first_of (a_tick None) ended_span fields window s in
      let to = first_of (a_tick (Some (from.first -ℤ pos 1))) (λ to. done (record { from = from.first; to = to })) from.rest window from.spelled in
      let from_is : from.field ≡ signed_decimal from.first = from.says.0 in
      let to_is : to.field ≡ signed_decimal to.first = to.says.0 in
      let none : to.rest ≡ [] = to.spelled.0 in
      let all : fields ≡ from.field ∷ (to.field ∷ to.rest) = from.parts ∙ ap (λ (rest : List (List ℕ)). from.field ∷ rest) to.parts in
      let texts : from.field ∷ (to.field ∷ to.rest) ≡ signed_decimal from.first ∷ (signed_decimal to.first ∷ []) = rw (from_is, to_is, none) refl in
      subst (λ (w : Window). (fields ≡ window_text w) × IsSpan w) (sym to.spelled.1)
      (all ∙ texts, record { within = record { from = from.says.1; to = to.says.1 }; some = at_most from.first to.first to.says.2 });
  tells = λ window is.
      then_one (a_tick None) ended_span (signed_decimal window.from) (signed_decimal window.to ∷ []) window.from window (refl, is.within.from, tt)
      (then_one (a_tick (Some (window.from -ℤ pos 1))) (λ to. done (record { from = window.from; to = to })) (signed_decimal window.to) [] window.to window (refl, is.within.to, at_least window.from window.to is.some) (refl, refl));
}

-- ---- states

module _ (net_blocks : ℕ) (tail : List ℕ) where
  abbrev member_of : ℕ → Bool → ℕ → Window → Member
  member_of entered standing made window = record {
    place = record {
      tail = tail;
      entered = entered_of entered;
      standing = standing;
      made = made;
    };
    window = window;
  }

  abbrev spanned : ℕ → Bool → ℕ → Form Member
  spanned entered standing made = chain a_span (λ window. done (member_of entered standing made window))

  abbrev made_by : ℕ → Bool → Form Member
  made_by entered standing = chain small_number (λ made. spanned entered standing made)

  abbrev stood : ℕ → Form Member
  stood entered = chain a_flag (λ standing. made_by entered standing)

  pub record IsState (member : Member) : Type 0 where
    pub tail_is : member.place.tail ≡ tail
    pub entered : IsEntered member.place.entered
    pub made : member.place.made < 2 ^ 32
    pub within : IsWindowWithinLimits member.window
    pub some : member.window.from ≤ℤ member.window.to

  pub state_told : (fields : List (List ℕ)) (member : Member) → Spells (a_state tail) fields member → (fields ≡ state_fields member) × IsState member
  unfolding a_state
  state_told fields member s =
      let entered = first_of (a_number 0 (2 ^ 32)) stood fields member s in
      let flag = entered.spelled in
      let flag_is : flag.1 ≡ flag_field flag.0 ∷ [] = flag_told flag.1 flag.0 flag.4 in
      let made = first_of (a_number 0 (2 ^ 32)) (λ made. spanned entered.first flag.0 made) flag.2 member flag.5 in
      let span = made.spelled in
      let window = span_is.told span.1 span.0 span.4 in
      let by = entered_told entered.first entered.says.3 in
      let entered_is : entered.field ≡ decimal (entered_number (entered_of entered.first)) = entered.says.0 ∙ ap decimal by.0 in
      let made_is : made.field ≡ decimal made.first = made.says.0 in
      let behind : made.rest ≡ window_text span.0 = span.3 ∙ (ap (λ (back : List (List ℕ)). span.1 ++ back) span.5.0 ∙ append-nil span.1) ∙ window.0 in
      let all : fields ≡ entered.field ∷ (flag.1 ++ (made.field ∷ made.rest)) = entered.parts ∙ ap (λ (rest : List (List ℕ)). entered.field ∷ rest) (flag.3 ∙ ap (λ (back : List (List ℕ)). flag.1 ++ back) made.parts) in
      let texts : entered.field ∷ (flag.1 ++ (made.field ∷ made.rest)) ≡ state_fields (member_of entered.first flag.0 made.first span.0) = rw (entered_is, flag_is, made_is, behind) refl in
      subst (λ (m : Member). (fields ≡ state_fields m) × IsState m) (sym span.5.1)
      (all ∙ texts, record { tail_is = refl; entered = by.1; made = made.says.3; within = window.1.within; some = window.1.some })

  tell_by : (entered : Enter) (standing : Bool) (made : ℕ) (window : Window) (number : ℕ) → entered_of number ≡ entered → number < 2 ^ 32 → made < 2 ^ 32 → IsSpan window
      → Spells (a_state tail) (decimal number ∷ (flag_field standing ∷ (decimal made ∷ window_text window))) (record { place = record { tail = tail; entered = entered; standing = standing; made = made }; window = window })
  unfolding a_state
  tell_by entered standing made window number is low few span =
      subst (λ (e : Enter). Spells (chain small_number stood) (decimal number ∷ (flag_field standing ∷ (decimal made ∷ window_text window))) (record { place = record { tail = tail; entered = e; standing = standing; made = made }; window = window })) is
      (then_one (a_number 0 (2 ^ 32)) stood (decimal number) (flag_field standing ∷ (decimal made ∷ window_text window)) number (member_of number standing made window) (tell_number (2 ^ 32) number (omega (arith, low)) low) (
        standing,
        flag_field standing ∷ [],
        decimal made ∷ window_text window,
        refl,
        tell_flag standing,
        then_one (a_number 0 (2 ^ 32)) (λ made. spanned number standing made) (decimal made) (window_text window) made (member_of number standing made window) (tell_number (2 ^ 32) made (omega (arith, few)) few)
            (window, window_text window, [], refl, span_is.tells window span, (refl, refl)),
      ))

-- ---- members

module _ (known : Names) where
  abbrev blocks : ℕ
  blocks = length known.railway.network.blocks

  abbrev counted : ℕ → Form Member
  counted count = chain (many (a_block known) count) a_state

  abbrev begun : Form Member
  begun = chain a_position counted

  member_told : (fields : List (List ℕ)) (member : Member) → Spells (a_member known) fields member → (fields ≡ member_fields member) × IsMemberOn known.railway.network member
  unfolding a_member
  member_told fields member s =
      let begin = first_of (a_word (is_word (codes "member"))) (λ begin. begun) fields member s in
      let count = first_of (a_number 0 (MAX_NUMBER + 1)) counted begin.rest member begin.spelled in
      let more = count.spelled in
      let tail = blocks_told blocks count.first more.1 more.0 more.4 in
      let state = state_told blocks more.0 more.2 member more.5 in
      let begin_is : begin.field ≡ codes "member" = word_is (codes "member") begin.field begin.first begin.says in
      let tail_is : more.0 ≡ member.place.tail = sym state.1.tail_is in
      let count_is : count.field ≡ decimal (length member.place.tail) = count.says.0 ∙ ap decimal (sym tail.1.1 ∙ ap length tail_is) in
      let rest : count.rest ≡ place_fields member = more.3 ∙ (ap (λ (front : List (List ℕ)). front ++ more.2) (tail.0 ∙ ap (map decimal) tail_is) ∙ ap (λ (back : List (List ℕ)). map decimal member.place.tail ++ back) state.0) in
      let all : fields ≡ begin.field ∷ (count.field ∷ count.rest) = begin.parts ∙ ap (λ (others : List (List ℕ)). begin.field ∷ others) count.parts in
      let texts : begin.field ∷ (count.field ∷ count.rest) ≡ member_fields member = rw (begin_is, count_is, rest) refl in (
        all ∙ texts,
        record {
          blocks = subst (λ (xs : List ℕ). All (IsBlock blocks) xs) tail_is tail.1.0;
          count = omega (arith, count.says.3, tail.1.1, ap length tail_is);
          entered = state.1.entered;
          made = state.1.made;
          within = state.1.within;
          some = state.1.some;
        },
      )

  tell_member : (member : Member) → IsMemberOn known.railway.network member → Spells (a_member known) (member_fields member) member
  unfolding a_member
  tell_member member is =
      let same = entered_same member.place.entered is.entered in
      let tail = member.place.tail in
      then_one (a_word (is_word (codes "member"))) (λ begin. begun) (codes "member") (decimal (length tail) ∷ place_fields member) tt member (is_word-same (codes "member"))
      (then_one (a_number 0 (MAX_NUMBER + 1)) counted (decimal (length tail)) (place_fields member) (length tail) member (tell_number (MAX_NUMBER + 1) (length tail) (omega (arith, is.count)) (omega (arith, is.count))) (
        tail,
        map decimal tail,
        state_fields member,
        refl,
        tell_blocks blocks tail is.blocks,
        tell_by blocks tail member.place.entered member.place.standing member.place.made member.window (entered_number member.place.entered) same.0 same.1 is.made (record { within = is.within; some = is.some }),
      ))

  pub member_is : IsSpelled (a_member known) member_fields (IsMemberOn known.railway.network)
  member_is = record { told = member_told; tells = tell_member }

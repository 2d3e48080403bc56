-- What is read by a form is what the form spells, and what is refused is refused at its first wrong field: laws of all
-- forms at once.
use Rattle.std.proofs.Common.{◌≡◌, ◌∙◌, ap, sym, refl, subst, ℕ, zero, suc, ◌+◌, ◌-◌, ◌<◌, ◌≤◌, ◌⊎◌, inl, inr, List, [], ◌∷◌, ◌++◌, length, take, drop, Option, Some, None, Result, Ok, Err, arith, length-append, append_assoc, option_and_then, slice_get, nat_eq, true, false, Bool, IfOk, IfErr, if◌then◌else◌}
use Rattle.std.proofs.lemmas.Bool.{cases_lt}
use Rattle.std.proofs.lemmas.Bool.Decides.{nat_tests}
use Rattle.std.proofs.lemmas.List.{append-nil, length-take-le, take-take, take-append-le, take-append-drop}
use Rattle.std.proofs.Math.Seq.{take-append-add, take-append_seam, take-nil}
use Rattle.client_lines.specs.Forms.{Kind, Form, done, one, chain, Spells, Begins, IsFirstWrong}
use Rattle.client_lines.specs.Reading.{Left, meaning, or_bad, next_field, Fails, GivesAll, go_on, line_reading, read, RefusesFirst, whole}
use Rattle.client_lines.specs.declared.faults.LineFault.{LineFault}
use Rattle.client_lines.specs.declared.faults.LineFault.TheVariants.{Bad, Memory}
use Rattle.client_lines.proofs.Meanings.{NameLaws, meaning_says, says_meaning}

-- the front of the fields spells this, and the others are left
pub record Takes {A : Type 0} (form : Form A) (said : A) (old new : Left) : Type 0 where
  pub front : List (List ℕ)
  pub parts : old.fields ≡ front ++ new.fields
  pub counted : new.at ≡ old.at + length front
  pub spelled : Spells form front said

abbrev pub left_at : ℕ → List (List ℕ) → Left
left_at at fields = record { at = at; fields = fields }

-- a reading comes at least so far
abbrev pub Reaches : {A : Type 0} → ℕ → Result (A × Left) ℕ → Type 0
Reaches at (Ok p) = at ≤ p.1.at
Reaches at (Err n) = at ≤ n

pub record Refuses {A : Type 0} (form : Form A) (old : Left) (n : ℕ) : Type 0 where
  pub before : ℕ
  pub counted : n ≡ old.at + before
  pub there : before ≤ length old.fields
  pub right : Begins form (take before old.fields)

module _ (laws : NameLaws) where
  -- ---- what is read is spelled

  abbrev pub found : {A : Type 0} → A × Left → Result (A × Left) ℕ
  found p = Ok p

  found_is : {A : Type 0} (p q : A × Left) → found p ≡ found q → p ≡ q
  found_is p q e = cc

  go_on_ok : {A B : Type 0} (reading : Result (A × Left) ℕ) (next : A → Left → Result (B × Left) ℕ) (y : B × Left) → go_on reading next ≡ Ok y → (x : A) × (mid : Left) × (reading ≡ Ok (x, mid)) × (next x mid ≡ Ok y)
  go_on_ok (Ok p) next y e = (p.0, p.1, refl, e)
  go_on_ok (Err at) next y e = absurd cc

  one_takes : {A : Type 0} (kind : Kind A) (at : ℕ) (field : List ℕ) (others : List (List ℕ)) (meant : Option A) (said : A) (new : Left) → meaning kind field ≡ meant → or_bad at others meant ≡ Ok (said, new)
      → Takes (one kind) said (record { at = at; fields = field ∷ others }) new
  one_takes kind at field others None said new meant e = absurd cc
  one_takes {A} kind at field others (Some value) said new meant e =
      subst (λ (p : A × Left). Takes (one kind) p.0 (record { at = at; fields = field ∷ others }) p.1) (found_is (value, record { at = at + 1; fields = others }) (said, new) e)
      (record { front = field ∷ []; parts = refl; counted = refl; spelled = (field, refl, meaning_says laws kind field value meant) })

  field_takes : {A : Type 0} (kind : Kind A) (at : ℕ) (fields : List (List ℕ)) (said : A) (new : Left) → next_field (meaning kind) (record { at = at; fields = fields }) ≡ Ok (said, new)
      → Takes (one kind) said (record { at = at; fields = fields }) new
  field_takes kind at [] said new e = absurd cc
  field_takes kind at (field ∷ others) said new e = one_takes kind at field others (meaning kind field) said new refl e

  pub read_takes : {A : Type 0} (form : Form A) (old new : Left) (said : A) → read form old ≡ Ok (said, new) → Takes form said old new
  read_takes {A} (done value) old new said e =
      subst (λ (p : A × Left). Takes (done value) p.0 old p.1) (found_is (value, old) (said, new) e) (record { front = []; parts = refl; counted = omega arith; spelled = (refl, refl) })
  read_takes (one kind) old new said e = field_takes kind old.at old.fields said new e
  read_takes (chain form next) old new said e =
      let a = go_on_ok (read form old) (λ first. read (next first)) (said, new) e in
      let p = read_takes form old a.1 a.0 a.2 in
      let q = read_takes (next a.0) a.1 new said a.3 in
      record {
        front = p.front ++ q.front;
        parts = p.parts ∙ ap (λ (fields : List (List ℕ)). p.front ++ fields) q.parts ∙ sym (append_assoc p.front q.front new.fields);
        counted = omega (arith, p.counted, q.counted, length-append p.front q.front);
        spelled = (a.0, p.front, q.front, refl, p.spelled, q.spelled);
      }

  -- ---- what is spelled is read

  pub spelled_reads : {A : Type 0} (form : Form A) (fields : List (List ℕ)) (said : A) → Spells form fields said → (at : ℕ) (rest : List (List ℕ)) → read form (left_at at (fields ++ rest)) ≡ Ok (said, left_at (at + length fields) rest)
  spelled_reads (done value) fields said s at rest = rw (s.0, s.1) (ap (λ n. Ok (value, left_at n rest)) (omega arith))
  spelled_reads (one kind) fields said s at rest = rw (s.1, says_meaning laws kind s.0 said s.2) refl
  spelled_reads (chain form next) fields said s at rest =
      ap (λ (all : List (List ℕ)). read (chain form next) (left_at at all)) (ap (λ (all : List (List ℕ)). all ++ rest) s.3 ∙ append_assoc s.1 s.2 rest)
      ∙ ap (λ reading. go_on reading (λ first. read (next first))) (spelled_reads form s.1 s.0 s.4 at (s.2 ++ rest))
      ∙ spelled_reads (next s.0) s.2 said s.5 (at + length s.1) rest
      ∙ ap (λ n. Ok (said, left_at n rest)) (omega (arith, length-append s.1 s.2, ap length s.3))

  -- ---- beginnings

  pub begins_nothing : {A : Type 0} (form : Form A) → Begins form []
  begins_nothing (done value) = refl
  begins_nothing (one kind) = inl refl
  begins_nothing (chain form next) = inl (begins_nothing form)

  pub spelled_begins : {A : Type 0} (form : Form A) (fields : List (List ℕ)) (said : A) → Spells form fields said → Begins form fields
  spelled_begins (done value) fields said s = s.0
  spelled_begins (one kind) fields said s = inr (said, s)
  spelled_begins (chain form next) fields said s = inr (s.0, s.1, s.2, s.3, s.4, spelled_begins (next s.0) s.2 said s.5)

  begins_front : {A : Type 0} (kind : Kind A) (k : ℕ) (fields : List (List ℕ)) → Begins (one kind) fields → Begins (one kind) (take k fields)
  begins_front kind k fields (inl none) = inl (ap (take k) none ∙ take-nil k)
  begins_front {A} kind zero fields (inr some) = inl refl
  begins_front {A} kind (suc k) fields (inr some) =
      let whole_field : take (suc k) fields ≡ fields = ap (take (suc k)) some.1.1 ∙ ap (λ others. some.1.0 ∷ others) (take-nil k) ∙ sym some.1.1 in
      subst (λ (part : List (List ℕ)). Begins (one kind) part) (sym whole_field) (inr some)

  pub begins_take : {A : Type 0} (form : Form A) (fields : List (List ℕ)) (k : ℕ) → Begins form fields → Begins form (take k fields)
  begins_take (done value) fields k b = ap (take k) b ∙ take-nil k
  begins_take (one kind) fields k b = begins_front kind k fields b
  begins_take (chain form next) fields k (inl b) = inl (begins_take form fields k b)
  begins_take (chain form next) fields k (inr b) =
      elim (cases_lt k (length b.1)) [
        | inl within ↦
            inl (subst (λ (part : List (List ℕ)). Begins form part) (sym (ap (take k) b.3 ∙ take-append-le k b.1 b.2 (omega arith))) (begins_take form b.1 k (spelled_begins form b.1 b.0 b.4)))
        | inr past ↦
            let rest : k ≡ length b.1 + (k - length b.1) = omega arith in
            inr (b.0, b.1, take (k - length b.1) b.2, ap (take k) b.3 ∙ ap (λ n. take n (b.1 ++ b.2)) rest ∙ take-append-add b.1 b.2 (k - length b.1), b.4, begins_take (next b.0) b.2 (k - length b.1) b.5)
      ]

  reaches_on : {A : Type 0} (at before : ℕ) (reading : Result (A × Left) ℕ) → at ≤ before → Reaches before reading → Reaches at reading
  reaches_on at before (Ok p) le r = omega (arith, le, r)
  reaches_on at before (Err n) le r = omega (arith, le, r)

  reaches_chain : {A B : Type 0} (at : ℕ) (reading : Result (A × Left) ℕ) (next : A → Form B) → Reaches at reading → ((x : A) (mid : Left) → Reaches mid.at (read (next x) mid)) → Reaches at (go_on reading (λ first. read (next first)))
  reaches_chain at (Ok p) next r on = reaches_on at p.1.at (read (next p.0) p.1) r (on p.0 p.1)
  reaches_chain at (Err n) next r on = r

  reaches_field : {A : Type 0} (at : ℕ) (others : List (List ℕ)) (meant : Option A) → Reaches at (or_bad at others meant)
  reaches_field at others None = omega arith
  reaches_field at others (Some said) = omega arith

  reaches_as : {A : Type 0} (at m : ℕ) (reading : Result (A × Left) ℕ) (p : A × Left) → reading ≡ Ok p → at ≤ p.1.at → Reaches at reading
  reaches_as at m reading p e le = rw e le

  -- what begins as the form wants it is read to its end at least
  pub begins_reaches : {A : Type 0} (form : Form A) (fields : List (List ℕ)) → Begins form fields → (at : ℕ) (rest : List (List ℕ)) → Reaches (at + length fields) (read form (left_at at (fields ++ rest)))
  begins_reaches (done value) fields b at rest = omega (arith, ap length b)
  begins_reaches (one kind) fields (inl none) at rest =
      subst (λ (part : List (List ℕ)). Reaches (at + length part) (read (one kind) (left_at at (part ++ rest)))) (sym none)
      (reaches_on (at + 0) at (read (one kind) (left_at at rest)) (omega arith) (reaches_field at (drop 1 rest) (option_and_then (meaning kind) (slice_get rest 0))))
  begins_reaches {A} (one kind) fields (inr some) at rest = reaches_as (at + length fields) 0 (read (one kind) (left_at at (fields ++ rest))) (some.0, left_at (at + length fields) rest) (spelled_reads (one kind) fields some.0 some.1 at rest) (omega arith)
  begins_reaches (chain form next) fields (inl b) at rest =
      reaches_chain (at + length fields) (read form (left_at at (fields ++ rest))) next (begins_reaches form fields b at rest)
      (λ x mid. reaches_on mid.at (mid.at + 0) (read (next x) mid) (omega arith) (begins_reaches (next x) [] (begins_nothing (next x)) mid.at mid.fields))
  begins_reaches (chain form next) fields (inr b) at rest =
      let parts : fields ++ rest ≡ b.1 ++ (b.2 ++ rest) = ap (λ (all : List (List ℕ)). all ++ rest) b.3 ∙ append_assoc b.1 b.2 rest in
      let first : read form (left_at at (b.1 ++ (b.2 ++ rest))) ≡ Ok (b.0, left_at (at + length b.1) (b.2 ++ rest)) = spelled_reads form b.1 b.0 b.4 at (b.2 ++ rest) in
      let behind = begins_reaches (next b.0) b.2 b.5 (at + length b.1) rest in
      rw (parts, first) (reaches_on (at + length fields) (at + length b.1 + length b.2) (read (next b.0) (left_at (at + length b.1) (b.2 ++ rest))) (omega (arith, ap length b.3, length-append b.1 b.2)) behind)

  -- ---- what is refused

  err_is : {A : Type 0} (m n : ℕ) → ◌≡◌ {A = Result (A × Left) ℕ} (Err m) (Err n) → m ≡ n
  err_is m n e = cc

  field_refuses : {A : Type 0} (at n : ℕ) (others : List (List ℕ)) (meant : Option A) → or_bad at others meant ≡ Err n → n ≡ at
  field_refuses at n others None e = sym (err_is at n e)
  field_refuses at n others (Some said) e = absurd cc

  go_on_err : {A B : Type 0} (reading : Result (A × Left) ℕ) (next : A → Left → Result (B × Left) ℕ) (n : ℕ) → go_on reading next ≡ Err n
      → (reading ≡ Err n) ⊎ ((x : A) × (mid : Left) × (reading ≡ Ok (x, mid)) × (next x mid ≡ Err n))
  go_on_err (Ok p) next n e = inr (p.0, p.1, refl, e)
  go_on_err (Err m) next n e = inl (ap Err (err_is m n e))

  pub read_refuses : {A : Type 0} (form : Form A) (old : Left) (n : ℕ) → read form old ≡ Err n → Refuses form old n
  read_refuses (done value) old n e = absurd cc
  read_refuses (one kind) old n e = record {
    before = 0;
    counted = omega (arith, field_refuses old.at n (drop 1 old.fields) (option_and_then (meaning kind) (slice_get old.fields 0)) e);
    there = omega arith;
    right = inl refl;
  }
  read_refuses (chain form next) old n e =
      elim (go_on_err (read form old) (λ first. read (next first)) n e) [
        | inl first ↦ let p = read_refuses form old n first in record { before = p.before; counted = p.counted; there = p.there; right = inl p.right }
        | inr second ↦
            let p = read_takes form old second.1 second.0 second.2 in
            let q = read_refuses (next second.0) second.1 n second.3 in
            record {
              before = length p.front + q.before;
              counted = omega (arith, p.counted, q.counted);
              there = omega (arith, q.there, ap length p.parts, length-append p.front second.1.fields);
              right = inr (second.0, p.front, take q.before second.1.fields, ap (take (length p.front + q.before)) p.parts ∙ take-append-add p.front second.1.fields q.before, p.spelled, q.right);
            }
      ]

  -- ---- whole lines

  abbrev pub ended_by : {A : Type 0} → Bool → A × Left → Result A ℕ
  ended_by is_end p = if is_end then Ok p.0 else Err p.1.at

  no_more : (fields : List (List ℕ)) → nat_eq (length fields) 0 ≡ true → fields ≡ []
  no_more [] e = refl
  no_more (field ∷ fields) e = absurd (grind (arith, nat_tests))

  some_more : (fields : List (List ℕ)) → nat_eq (length fields) 0 ≡ false → 0 < length fields
  some_more [] e = absurd cc
  some_more (field ∷ fields) e = omega arith

  value_is : {A : Type 0} (x y : A) → ◌≡◌ {A = Result A ℕ} (Ok x) (Ok y) → x ≡ y
  value_is x y e = cc

  end_spells : {A : Type 0} (form : Form A) (fields : List (List ℕ)) (said : A) (p : A × Left) (is_end : Bool) → read form (left_at 1 fields) ≡ Ok p → nat_eq (length p.1.fields) 0 ≡ is_end → ended_by is_end p ≡ Ok said
      → Spells form fields said
  end_spells form fields said p false e more is = absurd cc
  end_spells {A} form fields said p true e none is =
      let t = read_takes form (left_at 1 fields) p.1 p.0 e in
      let all : fields ≡ t.front = t.parts ∙ ap (λ (rest : List (List ℕ)). t.front ++ rest) (no_more p.1.fields none) ∙ append-nil t.front in
      rw (all, ← value_is p.0 said is) t.spelled

  spells_by : {A : Type 0} (form : Form A) (fields : List (List ℕ)) (said : A) (reading : Result (A × Left) ℕ) → read form (left_at 1 fields) ≡ reading → whole reading ≡ Ok said → Spells form fields said
  spells_by form fields said (Ok p) e is = end_spells form fields said p (nat_eq (length p.1.fields) 0) e refl is
  spells_by form fields said (Err n) e is = absurd cc

  pub line_spells : {A : Type 0} (form : Form A) (fields : List (List ℕ)) (said : A) → line_reading form fields ≡ Ok said → Spells form fields said
  line_spells form fields said is = spells_by form fields said (read form (left_at 1 fields)) refl is

  pub spelled_line : {A : Type 0} (form : Form A) (fields : List (List ℕ)) (said : A) → Spells form fields said → line_reading form fields ≡ Ok said
  spelled_line form fields said s =
      let e : read form (left_at 1 fields) ≡ Ok (said, left_at (1 + length fields) []) = ap (λ (all : List (List ℕ)). read form (left_at 1 all)) (sym (append-nil fields)) ∙ spelled_reads form fields said s 1 [] in
      rw e refl

  err_at : {A : Type 0} (m n : ℕ) → ◌≡◌ {A = Result A ℕ} (Err m) (Err n) → m ≡ n
  err_at m n e = cc

  err_not_ok : {A : Type 0} (n : ℕ) (said : A) → ◌≡◌ {A = Result A ℕ} (Err n) (Ok said) → ⊥
  err_not_ok n said e = cc

  -- the fields up to one behind the reading's end do not begin as the form wants it
  not_begun : {A : Type 0} (form : Form A) (fields : List (List ℕ)) (n : ℕ) (reading : Result (A × Left) ℕ) → n ≤ length fields → read form (left_at 1 fields) ≡ reading → (Reaches (1 + n) reading → ⊥) → ¬ Begins form (take n fields)
  not_begun form fields n reading le e short b =
      let reaches = begins_reaches form (take n fields) b 1 (drop n fields) in
      let len : length (take n fields) ≡ n = length-take-le n fields le in
      short (rw (take-append-drop n fields, len, e) at reaches)

  refused_first : {A : Type 0} (form : Form A) (fields : List (List ℕ)) (n : ℕ) → read form (left_at 1 fields) ≡ Err n → IsFirstWrong form fields n
  refused_first {A} form fields n e =
      let r = read_refuses form (left_at 1 fields) n e in
      record {
        before = r.before;
        next = omega (arith, r.counted);
        there = r.there;
        right = r.right;
        wrong = λ within. not_begun form fields n (Err n) (omega (arith, r.counted)) e (λ reaches. omega (arith, reaches));
        short = λ all said s. let found : line_reading form fields ≡ Ok said = spelled_line form fields said s in absurd (err_not_ok n said (sym (ap whole e) ∙ found));
      }

  end_first : {A : Type 0} (form : Form A) (fields : List (List ℕ)) (n : ℕ) (p : A × Left) (is_end : Bool) → read form (left_at 1 fields) ≡ Ok p → nat_eq (length p.1.fields) 0 ≡ is_end → ended_by is_end p ≡ Err n
      → IsFirstWrong form fields n
  end_first form fields n p true e none is = absurd cc
  end_first {A} form fields n p false e more is =
      let t = read_takes form (left_at 1 fields) p.1 p.0 e in
      let at : p.1.at ≡ n = err_at p.1.at n is in
      let some : 0 < length p.1.fields = some_more p.1.fields more in
      let all : length fields ≡ length t.front + length p.1.fields = ap length t.parts ∙ length-append t.front p.1.fields in
      record {
        before = length t.front;
        next = omega (arith, at, t.counted);
        there = omega (arith, all);
        right = subst (λ (part : List (List ℕ)). Begins form part) (sym (ap (take (length t.front)) t.parts ∙ take-append_seam t.front p.1.fields)) (spelled_begins form t.front p.0 t.spelled);
        wrong = λ within. not_begun form fields n (Ok p) (omega (arith, at, t.counted, all, some)) e (λ reaches. omega (arith, reaches, at));
        short = λ whole_line said s. absurd (omega (arith, whole_line, all, some));
      }

  first_by : {A : Type 0} (form : Form A) (fields : List (List ℕ)) (n : ℕ) (reading : Result (A × Left) ℕ) → read form (left_at 1 fields) ≡ reading → whole reading ≡ Err n → IsFirstWrong form fields n
  first_by form fields n (Ok p) e is = end_first form fields n p (nat_eq (length p.1.fields) 0) e refl is
  first_by {A} form fields n (Err m) e is = refused_first form fields n (e ∙ ap Err (err_at m n is))

  pub line_refused : {A : Type 0} (form : Form A) (fields : List (List ℕ)) (n : ℕ) → line_reading form fields ≡ Err n → IsFirstWrong form fields n
  line_refused form fields n is = first_by form fields n (read form (left_at 1 fields)) refl is

  -- there is one first wrong field
  not_before : {A : Type 0} (form : Form A) (fields : List (List ℕ)) (m n : ℕ) → IsFirstWrong form fields m → IsFirstWrong form fields n → m < n → ⊥
  not_before form fields m n wm wn lt =
      let within : wm.before < length fields = omega (arith, wm.next, wn.next, wn.there) in
      let shorter : take m (take wn.before fields) ≡ take m fields = take-take m wn.before fields (omega (arith, wn.next)) in
      wm.wrong within (subst (λ (part : List (List ℕ)). Begins form part) shorter (begins_take form (take wn.before fields) m wn.right))

  one_first : {A : Type 0} (form : Form A) (fields : List (List ℕ)) (m n : ℕ) → IsFirstWrong form fields m → IsFirstWrong form fields n → m ≡ n
  one_first form fields m n wm wn =
      elim (cases_lt m n) [
        | inl before ↦ absurd (not_before form fields m n wm wn before)
        | inr not_less ↦ elim (cases_lt n m) [
          | inl after ↦ absurd (not_before form fields n m wn wm after)
          | inr not_more ↦ omega arith
        ]
      ]

  not_both : {A : Type 0} (form : Form A) (fields : List (List ℕ)) (n : ℕ) (said : A) → IsFirstWrong form fields n → Spells form fields said → ⊥
  not_both form fields n said w s =
      elim (cases_lt w.before (length fields)) [
        | inl within ↦ w.wrong within (begins_take form fields n (spelled_begins form fields said s))
        | inr past ↦ w.short (omega (arith, w.there)) said s
      ]

  wrong_by : {A : Type 0} (form : Form A) (fields : List (List ℕ)) (n : ℕ) (reading : Result A ℕ) → IsFirstWrong form fields n → line_reading form fields ≡ reading → reading ≡ Err n
  wrong_by form fields n (Ok said) w e = absurd (not_both form fields n said w (line_spells form fields said e))
  wrong_by form fields n (Err m) w e = ap Err (one_first form fields m n (line_refused form fields m e) w)

  pub wrong_line : {A : Type 0} (form : Form A) (fields : List (List ℕ)) (n : ℕ) → IsFirstWrong form fields n → line_reading form fields ≡ Err n
  wrong_line form fields n w = wrong_by form fields n (line_reading form fields) w refl

  -- ---- what a call answers

  pub ok_spells : {A : Type 0} (form : Form A) (fields : List (List ℕ)) (result : Result A LineFault) → GivesAll result (line_reading form fields) → IfOk result (Spells form fields)
  ok_spells form fields (Ok said) gives = line_spells form fields said gives
  ok_spells form fields (Err fault) gives = tt

  refuses_by : {A : Type 0} (form : Form A) (fields : List (List ℕ)) (fault : LineFault) → Fails fault (line_reading form fields) → RefusesFirst form fields fault
  refuses_by form fields Memory fails = tt
  refuses_by form fields (Bad n) fails = line_refused form fields n fails

  pub err_refuses : {A : Type 0} (form : Form A) (fields : List (List ℕ)) (result : Result A LineFault) → GivesAll result (line_reading form fields) → IfErr result (RefusesFirst form fields)
  err_refuses form fields (Ok said) gives = tt
  err_refuses form fields (Err fault) gives = refuses_by form fields fault gives

  pub gives_ok : {A : Type 0} (form : Form A) (fields : List (List ℕ)) (result : Result A LineFault) (said : A) → Spells form fields said → GivesAll result (line_reading form fields) → GivesAll result (Ok said)
  gives_ok {A} form fields result said s gives = subst (λ (reading : Result A ℕ). GivesAll result reading) (spelled_line form fields said s) gives

  pub gives_err : {A : Type 0} (form : Form A) (fields : List (List ℕ)) (result : Result A LineFault) (n : ℕ) → IsFirstWrong form fields n → GivesAll result (line_reading form fields) → GivesAll result (Err n)
  gives_err {A} form fields result n w gives = subst (λ (reading : Result A ℕ). GivesAll result reading) (wrong_line form fields n w) gives

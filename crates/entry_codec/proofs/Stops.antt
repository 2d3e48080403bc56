-- A field that reading refuses is the first one that is wrong.
use Rattle.std.proofs.Common.{◌≡◌, ℕ, ◌+◌, ◌<◌, ◌≤◌, ◌⊎◌, inl, inr, Bool, true, List, [], ◌∷◌, ◌++◌, length, take, drop, Option, Some, None, Result, Ok, Err, refl, sym, ap, subst, ◌∙◌, append_assoc, arith, length-append}
use Rattle.std.specs.List.{AllByRecursion}
use Rattle.std.proofs.lemmas.List.Concat.{flat_map-cons}
use Rattle.std.proofs.lemmas.List.{append-nil, take-append-drop, length-take-le}
use Rattle.std.proofs.lemmas.Bool.{cases_lt}
use Rattle.byte_fields.specs.Unread.{Unread, end_of}
use Rattle.entry_codec.specs.Reading.{Reading, go_on, ◌>>=◌, done, meaning_at, meant, bytes_field}
use Rattle.entry_codec.specs.Places.{Field, bytes_of}
use Rattle.entry_codec.proofs.Fields.{bytes_give, bytes_end}
use Rattle.entry_codec.proofs.Readers.{IsBytes, Reads, Spells, ok_is}

-- some value's fields begin with these
abbrev pub Begins : {B : Type 0} → (B → List Field) → List Field → Type 0
Begins {B} g fields = (b : B) × (tail : List Field) × (g b ≡ fields ++ tail)

abbrev pub AreRight : List Field → Type 0
AreRight fields = AllByRecursion (λ field. field.right ≡ true) fields

pub right_both : (a b : List Field) → AreRight a → AreRight b → AreRight (a ++ b)
right_both [] b p q = q
right_both (x ∷ a) b p q = (p.0, right_both a b p.1 q)

pub bytes_both : (a b : List Field) → bytes_of (a ++ b) ≡ bytes_of a ++ bytes_of b
bytes_both [] b = refl
bytes_both (x ∷ a) b =
    flat_map-cons (λ (field : Field). field.bytes) x (a ++ b)
    ∙ ap (λ (t : List ℕ). x.bytes ++ t) (bytes_both a b)
    ∙ sym (append_assoc x.bytes (bytes_of a) (bytes_of b))
    ∙ ap (λ (t : List ℕ). t ++ bytes_of b) (sym (flat_map-cons (λ (field : Field). field.bytes) x a))

-- its bytes are missing, or they are there and what follows them changes nothing
abbrev pub Cause : {A : Type 0} → Reading A → Unread → List ℕ → ℕ → List ℕ → ℕ → Type 0
Cause field old front width rest at =
    ((length rest < width) × (at ≡ end_of old))
    ⊎ ((width ≤ length rest) × (at ≡ old.at + length front) × ((more : List ℕ) → field (record { at = old.at; left = (front ++ take width rest) ++ more }) ≡ Err at) × (1 ≤ width))

-- where a part of a value stops: behind right fields, at the one that is wrong
pub record Halt {A B : Type 0} (g : B → List Field) (before : List Field) (field : Reading A) (old : Unread) (at : ℕ) : Type 0 where
  pub front : List Field
  pub next : Field
  pub begun : Begins g (before ++ (front ++ next ∷ []))
  pub right : AreRight front
  pub rest : List ℕ
  pub parts : old.left ≡ bytes_of front ++ rest
  pub cause : Cause field old (bytes_of front) (length next.bytes) rest at

abbrev pub Places : {A B : Type 0} → (B → List Field) → List Field → Reading A → Type 0
Places g before field = (old : Unread) (at : ℕ) → IsBytes old.left → field old ≡ Err at → Halt g before field old at

-- where a reading has come to
abbrev pub reach : {A : Type 0} → Result (A × Unread) ℕ → ℕ
reach (Ok found) = found.1.at
reach (Err at) = at

-- a field is told nowhere before its begin
pub record Later {A : Type 0} (field : Reading A) : Type 0 where
  pub holds : (old : Unread) → old.at ≤ reach (field old)

-- right fields are passed, whatever is behind them
pub record Onward {A : Type 0} (field : Reading A) (fields : List Field) : Type 0 where
  pub passes : (front tail : List Field) → fields ≡ front ++ tail → AreRight front → (old : Unread) (more : List ℕ) → old.left ≡ bytes_of front ++ more → old.at + length (bytes_of front) ≤ reach (field old)

-- values of a form, and their fields
abbrev pub Formed : {A : Type 0} → (A → Type 0) → Type 0
Formed {A} Form = (a : A) × Form a

abbrev pub of_form : {A : Type 0} → (Form : A → Type 0) → (A → List Field) → Formed Form → List Field
of_form Form fields one = fields one.0

abbrev pub AnyForm : {A : Type 0} → A → Type 0
AnyForm a = Unit {0}

-- a part of an entry: what it reads, where it stops, and that it passes what is right
pub record Part {A : Type 0} (field : Reading A) (fields : A → List Field) (text : A → List ℕ) (Limits Form : A → Type 0) : Type 0 where
  pub reads : Reads field text Limits
  pub right : (a : A) → Limits a → AreRight (fields a)
  pub bytes : (a : A) → bytes_of (fields a) ≡ text a
  pub form : (a : A) → Limits a → Form a
  pub full : (a : A) → Form a → AreRight (fields a) → Limits a
  pub places : Places (of_form Form fields) [] field
  pub later : Later field
  pub onward : (a : A) → Form a → Onward field (fields a)

-- a value that is done stops nowhere
pub done_places : {A B : Type 0} (g : B → List Field) (before : List Field) (value : A) → Places g before (done value)
done_places g before value old at fits e = absurd cc

abbrev wrong_at : {A : Type 0} → ℕ → Result (A × Unread) ℕ
wrong_at at = Err at

same_wrong : {A : Type 0} (a b : ℕ) → wrong_at {A = A} a ≡ wrong_at b → a ≡ b
same_wrong a b e = cc

go_on_err : {A B : Type 0} (read : Result (A × Unread) ℕ) (next : A → Reading B) (at : ℕ) → go_on read next ≡ Err at → (read ≡ Err at) ⊎ ((a : A) × (mid : Unread) × (read ≡ Ok (a, mid)) × (next a mid ≡ Err at))
go_on_err (Ok found) next at e = inr (found.0, found.1, refl, e)
go_on_err {A} {B} (Err other) next at e = inl (ap (λ (n : ℕ). Err n) (same_wrong {A = B} other at e))

lifted : {A B : Type 0} (fields : A → List Field) (g : B → List Field) (before part : List Field) → ((a : A) → Begins g (before ++ fields a)) → Begins fields part → Begins g (before ++ part)
lifted fields g before part opens begun =
    let outer = opens begun.0 in
    (outer.0, begun.1 ++ outer.1, outer.2 ∙ ap (λ (t : List Field). (before ++ t) ++ outer.1) begun.2 ∙ ap (λ (t : List Field). t ++ outer.1) (sym (append_assoc before part begun.1)) ∙ append_assoc (before ++ part) begun.1 outer.1)

first_cause : {A B : Type 0} (field : Reading A) (next : A → Reading B) (old : Unread) (front : List ℕ) (width : ℕ) (rest : List ℕ) (at : ℕ) → Cause field old front width rest at → Cause (field >>= next) old front width rest at
first_cause field next old front width rest at (inl short) = inl short
first_cause field next old front width rest at (inr wrong) = inr (wrong.0, wrong.1, λ more. ap (λ r. go_on r next) (wrong.2 more), wrong.3)

second_cause : {A B : Type 0} (field : Reading A) (next : A → Reading B) (a : A) (old mid : Unread) (text front : List ℕ) (width : ℕ) (rest : List ℕ) (at : ℕ)
    → mid.at ≡ old.at + length text → end_of mid ≡ end_of old → ((more : List ℕ) → field (record { at = old.at; left = text ++ more }) ≡ Ok (a, record { at = mid.at; left = more }))
    → Cause (next a) mid front width rest at → Cause (field >>= next) old (text ++ front) width rest at
second_cause field next a old mid text front width rest at moved ends found (inl short) = inl (short.0, short.1 ∙ ends)
second_cause field next a old mid text front width rest at moved ends found (inr wrong) = inr (
  wrong.0,
  wrong.1 ∙ omega (arith, moved, length-append text front),
  λ more.
      ap (λ (left : List ℕ). go_on (field (record { at = old.at; left = left })) next) (ap (λ (t : List ℕ). t ++ more) (append_assoc text front (take width rest)) ∙ append_assoc text (front ++ take width rest) more)
      ∙ ap (λ r. go_on r next) (found ((front ++ take width rest) ++ more))
      ∙ wrong.2 more,
  wrong.3,
)

behind_stop : {A B C : Type 0} {field : Reading A} {fields : A → List Field} {text : A → List ℕ} {Limits Form : A → Type 0} → Part field fields text Limits Form → (g : C → List Field) (before : List Field) → (next : A → Reading B)
    → ((a : A) → Limits a → Places g (before ++ fields a) (next a)) → (old : Unread) (at : ℕ) → IsBytes old.left → (a : A) (mid : Unread) → field old ≡ Ok (a, mid) → next a mid ≡ Err at → Halt g before (field >>= next) old at
behind_stop {A} {B} {C} {field} {fields} {text} {Limits} {Form} part g before next second old at fits a mid found e =
    let taken = part.reads.takes old mid a fits found in
    let stop = second a taken.1 mid at taken.0.fits e in
    let again = (part.reads.again a taken.1).found in
    let same = ok_is (a, mid) (a, record { at = old.at + length (text a); left = mid.left }) (sym found ∙ ap (λ (left : List ℕ). field (record { at = old.at; left = left })) taken.0.parts ∙ again old.at mid.left) in
    let moved : mid.at ≡ old.at + length (text a) = ap (λ (p : A × Unread). p.1.at) same in
    let ends : end_of mid ≡ end_of old = omega (arith, moved, ap length taken.0.parts, length-append (text a) mid.left) in
    let bytes = part.bytes a in
    let joined : bytes_of (fields a ++ stop.front) ≡ text a ++ bytes_of stop.front = bytes_both (fields a) stop.front ∙ ap (λ (t : List ℕ). t ++ bytes_of stop.front) bytes in
    record {
      front = fields a ++ stop.front;
      next = stop.next;
      begun = subst (λ (t : List Field). Begins g t) (append_assoc before (fields a) (stop.front ++ stop.next ∷ []) ∙ ap (λ (t : List Field). before ++ t) (sym (append_assoc (fields a) stop.front (stop.next ∷ [])))) stop.begun;
      right = right_both (fields a) stop.front (part.right a taken.1) stop.right;
      rest = stop.rest;
      parts = taken.0.parts ∙ ap (λ (t : List ℕ). text a ++ t) stop.parts ∙ sym (append_assoc (text a) (bytes_of stop.front) stop.rest) ∙ ap (λ (t : List ℕ). t ++ stop.rest) (sym joined);
      cause = subst (λ (t : List ℕ). Cause (field >>= next) old t (length stop.next.bytes) stop.rest at) (sym joined) (second_cause field next a old mid (text a) (bytes_of stop.front) (length stop.next.bytes) stop.rest at moved ends
          (λ more. again old.at more ∙ ap (λ (n : ℕ). Ok (a, record { at = n; left = more })) (sym moved)) stop.cause);
    }

-- a reading of parts stops where its first part does, and behind it where the others do
pub then_stops : {A B C : Type 0} {field : Reading A} {fields : A → List Field} {text : A → List ℕ} {Limits Form : A → Type 0} → Part field fields text Limits Form → (g : C → List Field) (before : List Field) → Places g before field → (next : A → Reading B)
    → ((a : A) → Limits a → Places g (before ++ fields a) (next a)) → Places g before (field >>= next)
then_stops {field = field} part g before places next second old at fits e =
    elim (go_on_err (field old) next at e) [
      | inl first ↦ let stop = places old at fits first in record {
        front = stop.front;
        next = stop.next;
        begun = stop.begun;
        right = stop.right;
        rest = stop.rest;
        parts = stop.parts;
        cause = first_cause field next old (bytes_of stop.front) (length stop.next.bytes) stop.rest at stop.cause;
      }
      | inr behind ↦ behind_stop part g before next second old at fits behind.0 behind.1 behind.2 behind.3
    ]

pub lift_places : {A B C : Type 0} {field : Reading A} (fields : B → List Field) (g : C → List Field) (before : List Field) → ((b : B) → Begins g (before ++ fields b)) → Places fields [] field → Places g before field
lift_places fields g before opens places old at fits e =
    let stop = places old at fits e in record {
      front = stop.front;
      next = stop.next;
      begun = lifted fields g before (stop.front ++ stop.next ∷ []) opens stop.begun;
      right = stop.right;
      rest = stop.rest;
      parts = stop.parts;
      cause = stop.cause;
    }

pub then_places : {A B C : Type 0} {field : Reading A} {fields : A → List Field} {text : A → List ℕ} {Limits Form : A → Type 0} → Part field fields text Limits Form → (g : C → List Field) (before : List Field) → ((a : A) → Form a → Begins g (before ++ fields a)) → (next : A → Reading B)
    → ((a : A) → Limits a → Places g (before ++ fields a) (next a)) → Places g before (field >>= next)
then_places {fields = fields} {Form = Form} part g before opens next second = then_stops part g before (lift_places (of_form Form fields) g before (λ one. opens one.0 one.1) part.places) next second

-- ---- right fields are passed

pub done_later : {A : Type 0} (value : A) → Later (done value)
done_later value = record { holds = λ old. omega arith }

reach_on : {A B : Type 0} (read : Result (A × Unread) ℕ) (next : A → Reading B) → ((a : A) → Later (next a)) → reach read ≤ reach (go_on read next)
reach_on (Ok found) next later = (later found.0).holds found.1
reach_on (Err at) next later = omega arith

le-trans : (a b c : ℕ) → a ≤ b → b ≤ c → a ≤ c
le-trans a b c p q = omega (arith, p, q)

pub then_later : {A B : Type 0} {field : Reading A} → Later field → (next : A → Reading B) → ((a : A) → Later (next a)) → Later (field >>= next)
then_later {field = field} first next second = record { holds = λ old. le-trans old.at (reach (field old)) (reach (go_on (field old) next)) (first.holds old) (reach_on (field old) next second) }

same_head : (x y : Field) (xs ys : List Field) → ◌≡◌ {A = List Field} (x ∷ xs) (y ∷ ys) → x ≡ y
same_head x y xs ys e = cc

same_tail : (x y : Field) (xs ys : List Field) → ◌≡◌ {A = List Field} (x ∷ xs) (y ∷ ys) → xs ≡ ys
same_tail x y xs ys e = cc

split_front : (xs ys front tail : List Field) → xs ++ ys ≡ front ++ tail → ((t : List Field) × (xs ≡ front ++ t)) ⊎ ((f : List Field) × (front ≡ xs ++ f) × (ys ≡ f ++ tail))
split_front [] ys front tail e = inr (front, refl, e)
split_front (x ∷ xs) ys [] tail e = inl (x ∷ xs, refl)
split_front (x ∷ xs) ys (y ∷ front) tail e =
    let same = same_head x y (xs ++ ys) (front ++ tail) e in
    elim (split_front xs ys front tail (same_tail x y (xs ++ ys) (front ++ tail) e)) [
      | inl within ↦ inl (within.0, ap (λ (f : Field). f ∷ xs) same ∙ ap (λ (t : List Field). y ∷ t) within.1)
      | inr past ↦ inr (past.0, ap (λ (f : Field). f ∷ front) (sym same) ∙ ap (λ (t : List Field). x ∷ t) past.1, past.2)
    ]

pub right_parts : (a b : List Field) → AreRight (a ++ b) → AreRight a × AreRight b
right_parts [] b h = (tt, h)
right_parts (x ∷ a) b h = let others = right_parts a b h.1 in ((h.0, others.0), others.1)

none_onward : {A : Type 0} (value : A) (front tail : List Field) → [] ≡ front ++ tail → (old : Unread) → old.at + length (bytes_of front) ≤ reach (done value old)
none_onward value [] tail e old = omega arith
none_onward value (x ∷ front) tail e old = absurd cc

pub done_onward : {A : Type 0} (value : A) → Onward (done value) []
done_onward value = record { passes = λ front tail e right old more parts. none_onward value front tail e old }

past_part : {A B : Type 0} {field : Reading A} (next : A → Reading B) (a : A) (text : List ℕ) → Spells text field a → (ys f tail : List Field) → ys ≡ f ++ tail → AreRight f → Onward (next a) ys → (old : Unread) (more : List ℕ) → old.left ≡ text ++ (bytes_of f ++ more)
    → old.at + (length text + length (bytes_of f)) ≤ reach (go_on (field old) next)
past_part {field = field} next a text spells ys f tail e right onward old more parts =
    let found = ap (λ (left : List ℕ). field (record { at = old.at; left = left })) parts ∙ spells.found old.at (bytes_of f ++ more) in
    let second = onward.passes f tail e right (record { at = old.at + length text; left = bytes_of f ++ more }) more refl in
    rw found (omega (arith, second))

pub then_onward : {A B : Type 0} {field : Reading A} {fields : A → List Field} {text : A → List ℕ} {Limits Form : A → Type 0} → Part field fields text Limits Form → (next : A → Reading B) → ((a : A) → Later (next a))
    → (a : A) → Form a → (ys : List Field) → (Limits a → Onward (next a) ys) → Onward (field >>= next) (fields a ++ ys)
then_onward {field = field} {fields} {text} part next later a form ys onward = record {
  passes = λ front tail e right old more parts.
      elim (split_front (fields a) ys front tail e) [
        | inl within ↦ le-trans (old.at + length (bytes_of front)) (reach (field old)) (reach (go_on (field old) next)) ((part.onward a form).passes front within.0 within.1 right old more parts) (reach_on (field old) next later)
        | inr past ↦
            let each = right_parts (fields a) past.0 (subst AreRight past.1 right) in
            let limits = part.full a form each.0 in
            let bytes : bytes_of front ≡ text a ++ bytes_of past.0 = ap bytes_of past.1 ∙ bytes_both (fields a) past.0 ∙ ap (λ (t : List ℕ). t ++ bytes_of past.0) (part.bytes a) in
            let reached = past_part next a (text a) (part.reads.again a limits) ys past.0 tail past.2 each.1 (onward limits) old more (parts ∙ ap (λ (t : List ℕ). t ++ more) bytes ∙ append_assoc (text a) (bytes_of past.0) more) in
            omega (arith, ap length bytes, length-append (text a) (bytes_of past.0), reached)
      ];
}

-- the last part of a value passes what is right
pub last_onward : {A B : Type 0} {field : Reading A} {fields : List Field} → Onward field fields → (make : A → B) → Onward (field >>= λ value. done (make value)) fields
last_onward {field = field} onward make = record {
  passes = λ front tail e right old more parts.
      le-trans (old.at + length (bytes_of front)) (reach (field old)) (reach (go_on (field old) (λ value. done (make value)))) (onward.passes front tail e right old more parts) (reach_on (field old) (λ value. done (make value)) (λ value. done_later (make value)));
}

-- ---- single fields

-- the field is the meaning of so many bytes
pub record MeansBytes {A : Type 0} (field : Reading A) (width : ℕ) : Type 0 where
  pub some : 1 ≤ width
  pub meaning : List ℕ → Option A
  pub is : (u : Unread) → field u ≡ go_on (bytes_field width u) (λ bytes. meaning_at u.at (meaning bytes))

abbrev both_mean : {A B : Type 0} → (A → Option B) → Option A → Option B
both_mean outer None = None
both_mean outer (Some a) = outer a

fused_option : {A B : Type 0} (at : ℕ) (outer : A → Option B) (o : Option A) (mid : Unread) → go_on (meaning_at at o mid) (λ value. meaning_at at (outer value)) ≡ meaning_at at (both_mean outer o) mid
fused_option at outer None mid = refl
fused_option at outer (Some a) mid = refl

fused : {A B : Type 0} (at : ℕ) (outer : A → Option B) (inner : List ℕ → Option A) (read : Result (List ℕ × Unread) ℕ)
    → go_on (go_on read (λ bytes. meaning_at at (inner bytes))) (λ value. meaning_at at (outer value)) ≡ go_on read (λ bytes. meaning_at at (both_mean outer (inner bytes)))
fused at outer inner (Ok found) = fused_option at outer (inner found.0) found.1
fused at outer inner (Err other) = refl

pub meant_means : {A B : Type 0} (field : Reading A) (width : ℕ) → MeansBytes field width → (outer : A → Option B) → MeansBytes (meant outer field) width
meant_means field width h outer = record {
  some = h.some;
  meaning = λ bytes. both_mean outer (h.meaning bytes);
  is = λ u. ap (λ r. go_on r (λ value. meaning_at u.at (outer value))) (h.is u) ∙ fused u.at outer h.meaning (bytes_field width u);
}

means_nothing : {A : Type 0} (here at : ℕ) (o : Option A) (mid : Unread) → meaning_at here o mid ≡ Err at → (at ≡ here) × (o ≡ None)
means_nothing here at None mid e = (sym (same_wrong here at e), refl)
means_nothing here at (Some a) mid e = absurd cc

there : (width : ℕ) (old : Unread) (bytes rest : List ℕ) → old.left ≡ bytes ++ rest → length bytes ≡ width → bytes_field width old ≡ Ok (bytes, record { at = old.at + width; left = rest })
there width old bytes rest parts len = bytes_give old (record { at = old.at + width; left = rest }) bytes width parts len refl

means_at : {A : Type 0} (field : Reading A) (width : ℕ) (h : MeansBytes field width) → (old : Unread) (bytes rest : List ℕ) → old.left ≡ bytes ++ rest → length bytes ≡ width
    → field old ≡ meaning_at old.at (h.meaning bytes) (record { at = old.at + width; left = rest })
means_at field width h old bytes rest parts len = h.is old ∙ ap (λ r. go_on r (λ bytes. meaning_at old.at (h.meaning bytes))) (there width old bytes rest parts len)

atom_cause : {A : Type 0} (field : Reading A) (width : ℕ) → MeansBytes field width → (old : Unread) (at : ℕ) → field old ≡ Err at → (length old.left < width) ⊎ (width ≤ length old.left) → Cause field old [] width old.left at
atom_cause {A} field width h old at e (inl lt) =
    inl (lt, same_wrong {A = A} at (end_of old) (sym e ∙ h.is old ∙ ap (λ r. go_on r (λ bytes. meaning_at old.at (h.meaning bytes))) (bytes_end old width lt)))
atom_cause {A} field width h old at e (inr le) =
    let len : length (take width old.left) ≡ width = length-take-le width old.left le in
    let nothing = means_nothing old.at at (h.meaning (take width old.left)) (record { at = old.at + width; left = drop width old.left }) (sym (means_at field width h old (take width old.left) (drop width old.left) (sym (take-append-drop width old.left)) len) ∙ e) in
    inr (
      le,
      nothing.0 ∙ omega arith,
      λ more.
          means_at field width h (record { at = old.at; left = take width old.left ++ more }) (take width old.left) more refl len
          ∙ ap (λ o. meaning_at old.at o (record { at = old.at + width; left = more })) nothing.1
          ∙ ap (λ (n : ℕ). Err n) (sym nothing.0),
      h.some,
    )

pub atom_places : {A B : Type 0} {field : Reading A} {width : ℕ} → MeansBytes field width → (g : B → List Field) (before : List Field) (next : Field) → length next.bytes ≡ width → Begins g (before ++ next ∷ []) → Places g before field
atom_places {field = field} {width} h g before next len begun old at fits e = record {
  front = [];
  next = next;
  begun = begun;
  right = tt;
  rest = old.left;
  parts = refl;
  cause = subst (λ (n : ℕ). Cause field old [] n old.left at) (sym len) (atom_cause field width h old at e (cases_lt (length old.left) width));
}

meaning_later : {A : Type 0} (o : Option A) (at here : ℕ) (mid : Unread) → at ≤ here → at ≤ mid.at → at ≤ reach (meaning_at here o mid)
meaning_later None at here mid p q = p
meaning_later (Some a) at here mid p q = q

pub bytes_later : (width : ℕ) → Later (bytes_field width)
bytes_later width = record {
  holds = λ old.
      elim (cases_lt (length old.left) width) [
        | inl lt ↦ rw (bytes_end old width lt) (omega arith)
        | inr le ↦ rw (there width old (take width old.left) (drop width old.left) (sym (take-append-drop width old.left)) (length-take-le width old.left le)) (omega arith)
      ];
}

meant_on : {A B : Type 0} (meaning : A → Option B) (at : ℕ) (read : Result (A × Unread) ℕ) → at ≤ reach read → at ≤ reach (go_on read (λ value. meaning_at at (meaning value)))
meant_on meaning at (Ok found) le = meaning_later (meaning found.0) at at found.1 (omega arith) le
meant_on meaning at (Err here) le = le

pub meant_later : {A B : Type 0} {field : Reading A} → Later field → (meaning : A → Option B) → Later (meant meaning field)
meant_later {field = field} later meaning = record { holds = λ old. meant_on meaning old.at (field old) (later.holds old) }

pub atom_later : {A : Type 0} {field : Reading A} {width : ℕ} → MeansBytes field width → Later field
atom_later {field = field} {width} h = record { holds = λ old. rw (h.is old) (meant_on h.meaning old.at (bytes_field width old) ((bytes_later width).holds old)) }

atom_passes : {A : Type 0} {field : Reading A} (one : Field) (a : A) (text : List ℕ) → one.bytes ≡ text → Later field → (one.right ≡ true → Spells text field a)
    → (front tail : List Field) → one ∷ [] ≡ front ++ tail → AreRight front → (old : Unread) (more : List ℕ) → old.left ≡ bytes_of front ++ more → old.at + length (bytes_of front) ≤ reach (field old)
atom_passes one a text bytes later spells [] tail e right old more parts = omega (arith, later.holds old)
atom_passes {field = field} one a text bytes later spells (x ∷ []) tail e right old more parts =
    let same = same_head one x [] tail e in
    let all : bytes_of (x ∷ []) ≡ text = flat_map-cons (λ (field : Field). field.bytes) x [] ∙ append-nil x.bytes ∙ ap (λ (f : Field). f.bytes) (sym same) ∙ bytes in
    let found = ap (λ (left : List ℕ). field (record { at = old.at; left = left })) (parts ∙ ap (λ (t : List ℕ). t ++ more) all) ∙ (spells (ap (λ (f : Field). f.right) same ∙ right.0)).found old.at more in
    rw found (omega (arith, ap length all))
atom_passes one a text bytes later spells (x ∷ y ∷ front) tail e right old more parts = absurd cc

pub atom_onward : {A : Type 0} {field : Reading A} (one : Field) (a : A) (text : List ℕ) → one.bytes ≡ text → Later field → (one.right ≡ true → Spells text field a) → Onward field (one ∷ [])
atom_onward one a text bytes later spells = record { passes = atom_passes one a text bytes later spells }

-- a part of one field
pub atom_part : {A : Type 0} {field : Reading A} {width : ℕ} {text : A → List ℕ} {Limits Form : A → Type 0} → Reads field text Limits → MeansBytes field width → (test : A → Bool) → ((a : A) → Limits a → test a ≡ true) → ((a : A) → Limits a → Form a)
    → ((a : A) → Form a → test a ≡ true → Limits a) → (some : A) → Form some → length (text some) ≡ width → Part field (λ a. record { bytes = text a; right = test a } ∷ []) text Limits Form
atom_part {A} {field} {width} {text} {Limits} {Form} reads h test passes form full some formed len = record {
  reads = reads;
  right = λ a l. (passes a l, tt);
  bytes = λ a. flat_map-cons (λ (field : Field). field.bytes) (record { bytes = text a; right = test a }) [] ∙ append-nil (text a);
  form = form;
  full = λ a f r. full a f r.0;
  places = atom_places h (of_form Form (λ (a : A). record { bytes = text a; right = test a } ∷ [])) [] (record { bytes = text some; right = test some }) len ((some, formed), [], refl);
  later = atom_later h;
  onward = λ a f. atom_onward (record { bytes = text a; right = test a }) a (text a) refl (atom_later h) (λ r. reads.again a (full a f r));
}

nothing_wrong : {B : Type 0} (value : B) (mid : Unread) (at : ℕ) → done value mid ≡ Err at → ⊥
nothing_wrong value mid at e = absurd cc

-- what is made of a value changes nothing of where its reading stops
pub last_places : {A B C : Type 0} {field : Reading A} (g : C → List Field) (before : List Field) → Places g before field → (make : A → B) → Places g before (field >>= λ value. done (make value))
last_places {field = field} g before places make old at fits e =
    elim (go_on_err (field old) (λ value. done (make value)) at e) [
      | inl first ↦ let stop = places old at fits first in record {
        front = stop.front;
        next = stop.next;
        begun = stop.begun;
        right = stop.right;
        rest = stop.rest;
        parts = stop.parts;
        cause = first_cause field (λ value. done (make value)) old (bytes_of stop.front) (length stop.next.bytes) stop.rest at stop.cause;
      }
      | inr behind ↦ absurd (nothing_wrong (make behind.0) behind.1 at behind.3)
    ]

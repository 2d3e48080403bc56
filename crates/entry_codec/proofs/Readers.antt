-- Fields that read a text: what they read is spelled at the front, and what is spelled there they read.
use Rattle.std.proofs.Common.{◌≡◌, ℕ, ◌+◌, ◌-◌, ◌<◌, ◌≤◌, Bool, true, false, cond, List, ◌++◌, length, get_or, take, drop, Option, Some, None, Result, Ok, Err, refl, sym, ap, subst, ◌∙◌, append_assoc, arith, inl, inr, length-append}
use Rattle.std.proofs.lemmas.Bool.{cases_lt}
use Rattle.std.proofs.lemmas.List.{get_or-drop, get_or-take, get_or_past, length-take, take-append-le}
use Rattle.std.proofs.Math.Seq.{take-append-add}
use Rattle.byte_fields.specs.Unread.{Unread}
use Rattle.entry_codec.specs.Reading.{Reading, go_on, ◌>>=◌, done, meaning_at, meant, if_so}

abbrev pub IsBytes : List ℕ → Type 0
IsBytes bytes = (i : ℕ) → get_or bytes i 0 < 256

pub IsBytes-drop : (n : ℕ) (bytes : List ℕ) → IsBytes bytes → IsBytes (drop n bytes)
IsBytes-drop n bytes h i = rw get_or-drop (h (n + i))

pub IsBytes-take : (n : ℕ) (bytes : List ℕ) → IsBytes bytes → IsBytes (take n bytes)
IsBytes-take n bytes h i =
    elim (cases_lt i n) [
      | inl lt ↦ rw (get_or-take n bytes i 0 lt) (h i)
      | inr le ↦ rw (get_or_past (take n bytes) i 0 (omega (arith, length-take n bytes))) (omega arith)
    ]

-- the text stood at the front, and the new bytes are left
pub record Taken (old text new : List ℕ) : Type 0 where
  pub parts : old ≡ text ++ new
  pub fits : IsBytes new

pub joined : {a x b y c : List ℕ} → Taken a x b → Taken b y c → Taken a (x ++ y) c
joined {a} {x} {b} {y} {c} p q = record { parts = p.parts ∙ ap (λ (t : List ℕ). x ++ t) q.parts ∙ sym (append_assoc x y c); fits = q.fits }

-- The text spells the value: the field gives it where the text stands, whatever is behind it, and where the text breaks
-- off, the field is wrong at the end.
pub record Spells {A : Type 0} (text : List ℕ) (field : Reading A) (value : A) : Type 0 where
  pub found : (at : ℕ) (rest : List ℕ) → field (record { at = at; left = text ++ rest }) ≡ Ok (value, record { at = at + length text; left = rest })
  pub short : (at count : ℕ) → count < length text → field (record { at = at; left = take count text }) ≡ Err (at + count)

pub with_text : {A : Type 0} {text text' : List ℕ} {field : Reading A} {value : A} → text ≡ text' → Spells text field value → Spells text' field value
with_text {field = field} {value = value} e h = subst (λ (w : List ℕ). Spells w field value) e h

-- the field reads the texts of the values that are within the limits
pub record Reads {A : Type 0} (field : Reading A) (text : A → List ℕ) (Limits : A → Type 0) : Type 0 where
  pub takes : (old new : Unread) (x : A) → IsBytes old.left → field old ≡ Ok (x, new) → Taken old.left (text x) new.left × Limits x
  pub again : (x : A) → Limits x → Spells (text x) field x

-- ---- one field after another

go_on_ok : {A B : Type 0} (read : Result (A × Unread) ℕ) (next : A → Reading B) (y : B × Unread) → go_on read next ≡ Ok y → (x : A) × (mid : Unread) × (read ≡ Ok (x, mid)) × (next x mid ≡ Ok y)
go_on_ok (Ok found) next y e = (found.0, found.1, refl, e)
go_on_ok (Err at) next y e = absurd cc

pub then_takes : {A B : Type 0} {field : Reading A} {text : A → List ℕ} {Limits : A → Type 0} → Reads field text Limits → (next : A → Reading B) (P : Type 0) (old : Unread) (y : B × Unread) → IsBytes old.left → go_on (field old) next ≡ Ok y
    → ((x : A) (mid : Unread) → Taken old.left (text x) mid.left → Limits x → next x mid ≡ Ok y → P) → P
then_takes {field = field} reads next P old y fits e others =
    let a = go_on_ok (field old) next y e in
    let b = reads.takes old a.1 a.0 fits a.2 in
    others a.0 a.1 b.0 b.1 a.3

take-append-ge : {A : Type 0} (n : ℕ) (xs ys : List A) → length xs ≤ n → take n (xs ++ ys) ≡ xs ++ take (n - length xs) ys
take-append-ge {A} n xs ys le =
    let e : n ≡ length xs + (n - length xs) = omega arith in
    ap (λ (k : ℕ). take k (xs ++ ys)) e ∙ take-append-add xs ys (n - length xs)

pub then_spells : {A B : Type 0} {a b : List ℕ} {field : Reading A} {x : A} {y : B} → Spells a field x → (next : A → Reading B) → Spells b (next x) y → Spells (a ++ b) (field >>= next) y
then_spells {a = a} {b} {field} {x} {y} first next second =
    let read = λ (at : ℕ) (left : List ℕ). go_on (field (record { at = at; left = left })) next in
    record {
      found = λ at rest.
          ap (read at) (append_assoc a b rest)
          ∙ ap (λ r. go_on r next) (first.found at (b ++ rest))
          ∙ second.found (at + length a) rest
          ∙ ap (λ (n : ℕ). Ok (y, record { at = n; left = rest })) (omega (arith, length-append a b));
      short = λ at count lt.
          elim (cases_lt count (length a)) [
            | inl within ↦ ap (read at) (take-append-le count a b (omega arith)) ∙ ap (λ r. go_on r next) (first.short at count within)
            | inr past ↦
                ap (read at) (take-append-ge count a b past)
                ∙ ap (λ r. go_on r next) (first.found at (take (count - length a) b))
                ∙ second.short (at + length a) (count - length a) (omega (arith, length-append a b))
                ∙ ap (λ (n : ℕ). Err n) (omega arith)
          ];
    }

pub meant_spells : {A B : Type 0} {text : List ℕ} {field : Reading A} {x : A} → Spells text field x → (meaning : A → Option B) (y : B) → meaning x ≡ Some y → Spells text (meant meaning field) y
meant_spells {text = text} {x = x} h meaning y e = record {
  found = λ at rest. ap (λ r. go_on r (λ value. meaning_at at (meaning value))) (h.found at rest) ∙ ap (λ o. meaning_at at o (record { at = at + length text; left = rest })) e;
  short = λ at count lt. ap (λ r. go_on r (λ value. meaning_at at (meaning value))) (h.short at count lt);
}

pub made_spells : {A B : Type 0} {text : List ℕ} {field : Reading A} {x : A} → Spells text field x → (make : A → B) (y : B) → make x ≡ y → Spells text (field >>= λ value. done (make value)) y
made_spells {x = x} h make y e = meant_spells h (λ value. Some (make value)) y (ap (λ v. Some v) e)

abbrev pub gives_value : {A : Type 0} → A × Unread → Result (A × Unread) ℕ
gives_value p = Ok p

pub ok_is : {A : Type 0} (p q : A × Unread) → gives_value p ≡ gives_value q → p ≡ q
ok_is p q e = cc

-- the value that was made of the parts is the one that was found
pub made_takes : {A : Type 0} (old mid new : Unread) (made x : A) (text : A → List ℕ) (Limits : A → Type 0) → done made mid ≡ Ok (x, new) → Taken old.left (text made) mid.left → Limits made → Taken old.left (text x) new.left × Limits x
made_takes {A} old mid new made x text Limits e taken limits = subst (λ (p : A × Unread). Taken old.left (text p.0) p.1.left × Limits p.0) (ok_is (made, mid) (x, new) e) (taken, limits)

-- ---- the same texts under other limits, and fields that mean something else

pub under_limits : {A : Type 0} {field : Reading A} {text : A → List ℕ} {Limits : A → Type 0} → Reads field text Limits → (Others : A → Type 0) → ((x : A) → Limits x → Others x) → ((x : A) → Others x → Limits x) → Reads field text Others
under_limits reads Others there back = record {
  takes = λ old new x fits e. let a = reads.takes old new x fits e in (a.0, there x a.1);
  again = λ x limits. reads.again x (back x limits);
}

meaning_ok : {B : Type 0} (at : ℕ) (o : Option B) (mid : Unread) (y : B × Unread) → meaning_at at o mid ≡ Ok y → (b : B) × (o ≡ Some b) × (done b mid ≡ Ok y)
meaning_ok at None mid y e = absurd cc
meaning_ok at (Some b) mid y e = (b, refl, e)

pub meant_reads : {A B : Type 0} {field : Reading A} {text : A → List ℕ} {Limits : A → Type 0} → Reads field text Limits → (meaning : A → Option B) (text' : B → List ℕ) (Limits' : B → Type 0)
    → ((a : A) (b : B) → Limits a → meaning a ≡ Some b → (text a ≡ text' b) × Limits' b) → ((b : B) → Limits' b → (a : A) × Limits a × (text a ≡ text' b) × (meaning a ≡ Some b)) → Reads (meant meaning field) text' Limits'
meant_reads {A} {B} {field} {text} {Limits} reads meaning text' Limits' sound complete = record {
  takes = λ old new y fits e.
      then_takes reads (λ value. meaning_at old.at (meaning value)) (Taken old.left (text' y) new.left × Limits' y) old (y, new) fits e (λ a mid t l e1.
      let m = meaning_ok old.at (meaning a) mid (y, new) e1 in
      let right = sound a m.0 l m.1 in
      made_takes old mid new m.0 y text' Limits' m.2 (subst (λ (w : List ℕ). Taken old.left w mid.left) right.0 t) right.1);
  again = λ y limits. let right = complete y limits in with_text right.2 (meant_spells (reads.again right.0 right.1) meaning y right.3);
}

if_so_ok : {A : Type 0} (test : Bool) (a b : A) → cond test (Some a) None ≡ Some b → (test ≡ true) × (a ≡ b)
if_so_ok true a b e = (refl, cc)
if_so_ok false a b e = absurd cc

pub passing_reads : {A : Type 0} {field : Reading A} {text : A → List ℕ} {Limits : A → Type 0} → Reads field text Limits → (test : A → Bool) → Reads (meant (if_so test) field) text (λ x. Limits x × (test x ≡ true))
passing_reads {A} {field} {text} {Limits} reads test =
    meant_reads reads (if_so test) text (λ x. Limits x × (test x ≡ true))
    (λ a b l e. let ok = if_so_ok (test a) a b e in (ap text ok.1, subst (λ (x : A). Limits x × (test x ≡ true)) ok.1 (l, ok.0)))
    (λ b l. (b, l.0, refl, ap (λ (t : Bool). cond t (Some b) None) l.1))

-- One more piece is marked.
use Rattle.std.proofs.Common.{◌≡◌, ℕ, ◌<◌, List, [], ◌∷◌, ◌++◌, length, get_or, Option, Some, None, refl, sym, ap, subst, ◌∙◌, inl, inr, arith, length-append, ◌⊎◌}
use Rattle.std.proofs.lemmas.List.{length-set, get_or-set_same, get_or-set_other}
use Rattle.std.proofs.lemmas.List.Elements.{Contains-push, Contains-push_cases, Contains-append_left}
use Rattle.std.proofs.lemmas.List.Sums.{sum_by-set}
use Rattle.std.proofs.lemmas.Bool.{cases_eq}
use Rattle.std.proofs.Math.ListN.{set}
use Rattle.std.specs.Prelude.{cond, is_none, is_some, true, false}
use Rattle.std.specs.List.{Contains}
use Rattle.track_graph.specs.Marks.{HasMark, AreMarked}

pub one_mark : (marks : List (Option ℕ)) (a y z : ℕ) → HasMark marks a y → HasMark marks a z → y ≡ z
one_mark marks a y z h k = cc

pub set_there : (marks : List (Option ℕ)) (b zone : ℕ) → b < length marks → HasMark (set marks b (Some zone)) b zone
set_there marks b zone h = get_or-set_same marks b (Some zone) None h

-- a piece without a mark gets one, and the others keep theirs
pub set_keeps : (marks : List (Option ℕ)) (a b y zone : ℕ) → get_or marks b None ≡ None → HasMark marks a y → HasMark (set marks b (Some zone)) a y
set_keeps marks a b y zone none h = elim (cases_eq a b) [
  | inl e ↦ absurd (let here = subst (λ (x : ℕ). HasMark marks x y) e h in cc)
  | inr n ↦ get_or-set_other marks b a (Some zone) None n ∙ h
]

-- a mark is an old one, or the one that was set
pub set_cases : (marks : List (Option ℕ)) (a b y zone : ℕ) → b < length marks → HasMark (set marks b (Some zone)) a y → HasMark marks a y ⊎ ((b ≡ a) × (y ≡ zone))
set_cases marks a b y zone within h = elim (cases_eq a b) [
  | inl e ↦ inr (sym e, (let there = set_there marks b zone within in let here = subst (λ (x : ℕ). HasMark (set marks b (Some zone)) x y) e h in cc))
  | inr n ↦ inl (sym (get_or-set_other marks b a (Some zone) None n) ∙ h)
]

pub marks_none : (zone : ℕ) (old : List (Option ℕ)) (waiting : List ℕ) → AreMarked [] zone old old waiting waiting
marks_none zone old waiting = record {
  long = refl;
  kept = λ a y h. h;
  all = λ a h. absurd (omega (arith, h.1));
  fresh = λ a y h. inl h;
  grown = λ a h. h;
  waits = λ a h. inl h;
  room = refl;
}

module _ (pieces : List ℕ) (zone : ℕ) (old new : List (Option ℕ)) (waiting waiting' : List ℕ) (b : ℕ) (m : AreMarked pieces zone old new waiting waiting') where
  pub marks_same : (y : ℕ) → HasMark new b y → AreMarked (pieces ++ b ∷ []) zone old new waiting waiting'
  marks_same y marked = record {
    long = m.long;
    kept = m.kept;
    all = λ a h. elim (Contains-push_cases pieces b a h) [
      | inl i ↦ m.all a i
      | inr e ↦ (y, subst (λ (x : ℕ). HasMark new x y) e marked)
    ];
    fresh = λ a z h. elim (m.fresh a z h) [
      | inl i ↦ inl i
      | inr t ↦ inr (t.0, Contains-append_left pieces (b ∷ []) a t.1, t.2)
    ];
    grown = m.grown;
    waits = λ a h. elim (m.waits a h) [
      | inl i ↦ inl i
      | inr t ↦ inr (Contains-append_left pieces (b ∷ []) a t.0, t.1)
    ];
    room = m.room;
  }

  pub marks_more : b < length new → get_or new b None ≡ None → AreMarked (pieces ++ b ∷ []) zone old (set new b (Some zone)) waiting (waiting' ++ b ∷ [])
  marks_more within none = record {
    long = length-set new b (Some zone) ∙ m.long;
    kept = λ a y h. set_keeps new a b y zone none (m.kept a y h);
    all = λ a h. elim (Contains-push_cases pieces b a h) [
      | inl i ↦ let it = m.all a i in (it.0, set_keeps new a b it.0 zone none it.1)
      | inr e ↦ (zone, subst (λ (x : ℕ). HasMark (set new b (Some zone)) x zone) e (set_there new b zone within))
    ];
    fresh = λ a y h. elim (set_cases new a b y zone within h) [
      | inl i ↦ elim (m.fresh a y i) [
        | inl j ↦ inl j
        | inr t ↦ inr (t.0, Contains-append_left pieces (b ∷ []) a t.1, Contains-append_left waiting' (b ∷ []) a t.2)
      ]
      | inr t ↦ inr (t.1, subst (Contains (pieces ++ b ∷ [])) t.0 (Contains-push pieces b), subst (Contains (waiting' ++ b ∷ [])) t.0 (Contains-push waiting' b))
    ];
    grown = λ a h. Contains-append_left waiting' (b ∷ []) a (m.grown a h);
    waits = λ a h. elim (Contains-push_cases waiting' b a h) [
      | inl i ↦ elim (m.waits a i) [
        | inl j ↦ inl j
        | inr t ↦ inr (Contains-append_left pieces (b ∷ []) a t.0, set_keeps new a b zone zone none t.1)
      ]
      | inr e ↦ inr (subst (Contains (pieces ++ b ∷ [])) e (Contains-push pieces b), subst (λ (x : ℕ). HasMark (set new b (Some zone)) x zone) e (set_there new b zone within))
    ];
    room =
        let free : Option ℕ → ℕ = λ mark. cond (is_none mark) 1 0 in
        let before : free (get_or new b None) ≡ 1 = ap free none in
        omega (arith, m.room, sum_by-set free new b (Some zone) None within, before, length-append waiting' (b ∷ []));
  }

pub none_from : (mark : Option ℕ) → is_some mark ≡ false → mark ≡ None
none_from None e = refl
none_from (Some y) e = absurd (cc)

pub some_from : (mark : Option ℕ) → is_some mark ≡ true → (y : ℕ) × (mark ≡ Some y)
some_from None e = absurd (cc)
some_from (Some y) e = (y, refl)

-- One more zone is numbered, and what all numbers say in the end.
use Rattle.std.proofs.Common.{◌≡◌, ℕ, ◌+◌, ◌<◌, ◌≤◌, List, ◌++◌, take, length, IsSome, get_or, map, Option, Some, None, refl, sym, ap, subst, ◌∙◌, inl, inr, arith}
use Rattle.std.proofs.lemmas.Bool.{cases_eq, cases_lt}
use Rattle.std.proofs.lemmas.List.{get_or-map, get_or_past, get_or_default, length-map}
use Rattle.std.proofs.Math.Seq.{take-append_seam}
use Rattle.std.specs.List.{All}
use Rattle.track_graph.specs.declared.neighbours.Join.{Join}
use Rattle.track_graph.specs.Zones.{AreZones}
use Rattle.track_graph.specs.Neighbours.{AreNamed, AreMutual, ShowJoins}
use Rattle.track_graph.specs.Marks.{HasMark, IsFlooded, AreNumbered}
use Rattle.track_graph.proofs.Links.{link_there, link_back, link_as, kept_along}
use Rattle.track_graph.proofs.Marking.{one_mark}

no_mark : (marks : List (Option ℕ)) (a y : ℕ) → All (λ mark. mark ≡ None) marks → HasMark marks a y → ⊥
no_mark marks a y none h = elim (cases_lt a (length marks)) [
  | inl within ↦ (let it = none a None within in cc)
  | inr past ↦ (let it = get_or_past marks a None past in cc)
]

pub numbers_first : (rows : List (List ℕ)) (marks : List (Option ℕ)) → length rows ≡ length marks → All (λ mark. mark ≡ None) marks → AreNumbered rows 0 0 marks
numbers_first rows marks long none = record {
  long = sym long;
  few = omega arith;
  marked = λ a h. absurd (omega arith);
  closed = record { same = λ a b y h n. absurd (no_mark marks a y none h) };
  linked = λ a b y h k. absurd (no_mark marks a y none h);
  below = λ a y h. absurd (no_mark marks a y none h);
  each = λ y h. absurd (omega arith);
  order = λ b y z h k. absurd (no_mark marks b z none h);
}

-- the next piece has a mark
pub numbers_skip : (rows : List (List ℕ)) (done count y : ℕ) (marks : List (Option ℕ)) → AreNumbered rows done count marks → HasMark marks done y → AreNumbered rows (done + 1) count marks
numbers_skip rows done count y marks n h = record {
  long = n.long;
  few = (let few = n.few in omega arith);
  marked = λ a k. elim (cases_eq a done) [
    | inl e ↦ (y, subst (λ (x : ℕ). HasMark marks x y) (sym e) h)
    | inr e ↦ n.marked a (omega arith)
  ];
  closed = n.closed;
  linked = n.linked;
  below = n.below;
  each = λ z k. let it = n.each z k in (it.0, (let early = it.1 in omega arith), it.2);
  order = n.order;
}

-- the next piece begins a zone
pub numbers_more : (rows : List (List ℕ)) (done count : ℕ) (marks marks' : List (Option ℕ)) → AreMutual rows → AreNumbered rows done count marks → IsFlooded rows done count marks marks' → AreNumbered rows (done + 1) (count + 1) marks'
numbers_more rows done count marks marks' both n f = record {
  long = f.long ∙ n.long;
  few = (let few = n.few in omega arith);
  marked = λ a k. elim (cases_eq a done) [
    | inl e ↦ (count, subst (λ (x : ℕ). HasMark marks' x count) (sym e) f.begun)
    | inr e ↦ let it = n.marked a (omega arith) in (it.0, f.kept a it.0 it.1)
  ];
  closed = f.closed;
  linked = λ a b y h k. elim (f.fresh a y h) [
    | inl i ↦ elim (f.fresh b y k) [
      | inl j ↦ n.linked a b y i j
      | inr t ↦ absurd (let low = n.below a y i in let e = t.0 in omega arith)
    ]
    | inr s ↦ elim (f.fresh b y k) [
      | inl j ↦ absurd (let low = n.below b y j in let e = s.0 in omega arith)
      | inr t ↦ link_there a done b (link_back both.back done a s.1) t.1
    ]
  ];
  below = λ a y h. elim (f.fresh a y h) [
    | inl i ↦ (let low = n.below a y i in omega arith)
    | inr t ↦ (let e = t.0 in omega arith)
  ];
  each = λ y h. elim (cases_eq y count) [
    | inl e ↦ (done, omega arith, subst (HasMark marks' done) (sym e) f.begun)
    | inr e ↦ let it = n.each y (omega arith) in (it.0, (let early = it.1 in omega arith), f.kept it.0 y it.2)
  ];
  order = λ b y z h less. elim (f.fresh b z h) [
    | inl i ↦ let it = n.order b y z i less in (it.0, it.1, f.kept it.0 y it.2)
    | inr t ↦
        let it = n.each y (let e = t.0 in omega arith) in
        let behind : done ≤ b = elim (cases_lt b done) [
          | inl early ↦ absurd (let had = n.marked b early in let same = one_mark marks' b had.0 z (f.kept b had.0 had.1) h in let low = n.below b had.0 had.1 in let e = t.0 in omega arith)
          | inr late ↦ late
        ] in
        (it.0, (let early = it.1 in omega arith), f.kept it.0 y it.2)
  ];
}

pub zones_are : (joins : List Join) (rows : List (List ℕ)) (pieces count : ℕ) (marks : List (Option ℕ)) (zones : List ℕ) → length rows ≡ pieces → ShowJoins rows joins → AreNumbered rows pieces count marks → map Some zones ≡ marks → AreZones (AreNamed joins) pieces count zones
zones_are joins rows pieces count marks zones all joined n same =
    let long : length zones ≡ pieces = sym (length-map zones (λ (z : ℕ). Some z)) ∙ ap length same ∙ n.long ∙ all in
    let mark : (a : ℕ) → a < pieces → HasMark marks a (get_or zones a 0) = λ a h. sym (ap (λ (ms : List (Option ℕ)). get_or ms a None) same) ∙ get_or-map Some zones a 0 None (omega arith) in
    record {
      long = long;
      same = λ a b h k. (
        (λ e. link_as (λ x y. (joined.each x y).0) a b (n.linked a b (get_or zones a 0) (mark a h) (subst (HasMark marks b) (sym e) (mark b k)))),
        (λ linked. one_mark marks b (get_or zones a 0) (get_or zones b 0)
            (kept_along (λ (x : ℕ). HasMark marks x (get_or zones a 0)) (λ x y m next. elim (n.closed.same x y (get_or zones a 0) m next) [ inl i ↦ i | inr i ↦ absurd (omega (arith, i.1)) ]) a b (link_as (λ x y. (joined.each x y).1) a b linked) (mark a h))
            (mark b k)),
      );
      below = λ a h. n.below a (get_or zones a 0) (mark a h);
      each = λ z h. let it = n.each z h in (it.0, it.1, one_mark marks it.0 (get_or zones it.0 0) z (mark it.0 it.1) it.2);
      order = λ b z h less. let it = n.order b z (get_or zones b 0) (mark b h) less in
          (it.0, it.1, one_mark marks it.0 (get_or zones it.0 0) z (mark it.0 (let early = it.1 in omega arith)) it.2);
    }

pub front_all : {X : Type 0} (n : ℕ) (front rest : List X) → n ≡ length front → take n (front ++ rest) ≡ front
front_all n front rest e = ap (λ (k : ℕ). take k (front ++ rest)) e ∙ take-append_seam front rest

pub all_marked : (rows : List (List ℕ)) (count : ℕ) (marks : List (Option ℕ)) → AreNumbered rows (length rows) count marks → All IsSome marks
all_marked rows count marks n k d h =
    let it = n.marked k (let long = n.long in omega arith) in
    subst IsSome (sym it.1 ∙ get_or_default marks k None d h) refl

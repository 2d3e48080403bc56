-- A piece that waits hands its mark on.
use Rattle.std.proofs.Common.{◌≡◌, ℕ, ◌<◌, List, [], ◌∷◌, ◌++◌, length, get_or, Option, Some, None, refl, sym, subst, ◌∙◌, inl, inr, arith, ◌⊎◌}
use Rattle.std.proofs.lemmas.List.{length-set, get_or_past, get_or_default}
use Rattle.std.proofs.lemmas.Bool.{cases_lt}
use Rattle.std.proofs.lemmas.List.Elements.{Contains-push, Contains-push_cases, Contains-append_left, Contains-get_or}
use Rattle.std.proofs.Math.ListN.{set}
use Rattle.std.specs.List.{Contains}
use Rattle.track_graph.specs.Zones.{AreLinked}
use Rattle.track_graph.specs.Neighbours.{IsNextTo, AreMutual, AreInside, row_at}
use Rattle.track_graph.specs.Marks.{HasMark, AreMarked, IsClosed, IsFlooded}
use Rattle.track_graph.proofs.Links.{link_on}
use Rattle.track_graph.proofs.Marking.{one_mark, set_there, set_keeps, set_cases}

-- the start and what it leads to are being marked; the marks of waiting pieces are still to be handed on
pub record IsFlooding (rows : List (List ℕ)) (start zone : ℕ) (old marks : List (Option ℕ)) (waiting : List ℕ) : Type 0 where
  pub long : length marks ≡ length old
  pub kept : (a y : ℕ) → HasMark old a y → HasMark marks a y
  pub begun : HasMark marks start zone
  pub fresh : (a y : ℕ) → HasMark marks a y → HasMark old a y ⊎ ((y ≡ zone) × AreLinked (IsNextTo rows) start a)
  pub waits : (a : ℕ) → Contains waiting a → HasMark marks a zone × AreLinked (IsNextTo rows) start a
  pub closed : IsClosed rows marks waiting

pub floods_first : (rows : List (List ℕ)) (start zone : ℕ) (old : List (Option ℕ)) → IsClosed rows old [] → start < length old → get_or old start None ≡ None → IsFlooding rows start zone old (set old start (Some zone)) (start ∷ [])
floods_first rows start zone old closed within none =
    let here : AreLinked (IsNextTo rows) start start = ([], refl) in
    let there = set_there old start zone within in
    record {
      long = length-set old start (Some zone);
      kept = λ a y h. set_keeps old a start y zone none h;
      begun = there;
      fresh = λ a y h. elim (set_cases old a start y zone within h) [
        | inl i ↦ inl i
        | inr t ↦ inr (t.1, subst (AreLinked (IsNextTo rows) start) t.0 here)
      ];
      waits = λ a h. elim (Contains-push_cases [] start a h) [
        | inl i ↦ absurd (omega (arith, i.1))
        | inr e ↦ (subst (λ (x : ℕ). HasMark (set old start (Some zone)) x zone) e there, subst (AreLinked (IsNextTo rows) start) e here)
      ];
      closed = record {
        same = λ a b y h n. elim (set_cases old a start y zone within h) [
          | inl i ↦ elim (closed.same a b y i n) [
            | inl j ↦ inl (set_keeps old b start y zone none j)
            | inr j ↦ absurd (omega (arith, j.1))
          ]
          | inr t ↦ inr (subst (Contains (start ∷ [])) t.0 (Contains-push [] start))
        ];
      };
    }

module _ (rows : List (List ℕ)) (start zone : ℕ) (old marks marks' : List (Option ℕ)) (p : ℕ) (waiting waiting' : List ℕ)
    (both : AreMutual rows) (f : IsFlooding rows start zone old marks (waiting ++ p ∷ [])) (m : AreMarked (row_at rows p) zone marks marks' waiting waiting') where
  -- a neighbour of the piece that waited last has the zone
  marked_now : (b : ℕ) → IsNextTo rows p b → HasMark marks' b zone
  marked_now b n =
      let it = m.all b n in
      let p_mark = (f.waits p (Contains-push waiting p)).0 in
      let same : it.0 ≡ zone = elim (m.fresh b it.0 it.1) [
        | inl i ↦ elim (f.closed.same b p it.0 i (both.back p b n)) [
          | inl j ↦ one_mark marks p it.0 zone j p_mark
          | inr j ↦ one_mark marks b it.0 zone i (f.waits b j).0
        ]
        | inr t ↦ t.0
      ] in
      subst (HasMark marks' b) same it.1

  pub floods_on : IsFlooding rows start zone old marks' waiting'
  floods_on =
      let last = f.waits p (Contains-push waiting p) in
      record {
        long = m.long ∙ f.long;
        kept = λ a y h. m.kept a y (f.kept a y h);
        begun = m.kept start zone f.begun;
        fresh = λ a y h. elim (m.fresh a y h) [
          | inl i ↦ f.fresh a y i
          | inr t ↦ inr (t.0, link_on start p a last.1 t.1)
        ];
        waits = λ a h. elim (m.waits a h) [
          | inl i ↦ let it = f.waits a (Contains-append_left waiting (p ∷ []) a i) in (m.kept a zone it.0, it.1)
          | inr t ↦ (t.1, link_on start p a last.1 t.0)
        ];
        closed = record {
          same = λ a b y h n. elim (m.fresh a y h) [
            | inl i ↦ elim (f.closed.same a b y i n) [
              | inl j ↦ inl (m.kept b y j)
              | inr j ↦ elim (Contains-push_cases waiting p a j) [
                | inl k ↦ inr (m.grown a k)
                | inr e ↦
                    let as_p = subst (λ (x : ℕ). IsNextTo rows x b) (sym e) n in
                    let zone_is : zone ≡ y = one_mark marks a zone y (f.waits a j).0 i in
                    inl (subst (HasMark marks' b) zone_is (marked_now b as_p))
              ]
            ]
            | inr t ↦ inr t.2
          ];
        };
      }

pub floods_end : (rows : List (List ℕ)) (start zone : ℕ) (old marks : List (Option ℕ)) → IsFlooding rows start zone old marks [] → IsFlooded rows start zone old marks
floods_end rows start zone old marks f = record { long = f.long; kept = f.kept; begun = f.begun; fresh = f.fresh; closed = f.closed }

pub mark_within : (marks : List (Option ℕ)) (a y : ℕ) → HasMark marks a y → a < length marks
mark_within marks a y h = elim (cases_lt a (length marks)) [
  | inl within ↦ within
  | inr past ↦ absurd (let it = get_or_past marks a None past in cc)
]

-- the piece that waited last has a mark, so it is a piece
pub last_within : (rows : List (List ℕ)) (start zone : ℕ) (old marks : List (Option ℕ)) (waiting : List ℕ) (p : ℕ) → IsFlooding rows start zone old marks (waiting ++ p ∷ []) → p < length old
last_within rows start zone old marks waiting p f =
    let it = mark_within marks p zone (f.waits p (Contains-push waiting p)).0 in omega (arith, f.long)

pub row_is : (rows : List (List ℕ)) (p : ℕ) (row got : List ℕ) → p < length rows → got ≡ get_or rows p got → row ≡ got → row ≡ row_at rows p
row_is rows p row got within is e = e ∙ is ∙ get_or_default rows p got [] within

pub row_below : (rows : List (List ℕ)) (p : ℕ) (row : List ℕ) (n : ℕ) → AreInside rows → row ≡ row_at rows p → length rows ≡ n → (k d : ℕ) → k < length row → get_or row k d < n
row_below rows p row n inside e long k d h =
    let it = inside.below p (get_or row k d) (subst (λ (r : List ℕ). Contains r (get_or row k d)) e (Contains-get_or row k d h)) in omega arith

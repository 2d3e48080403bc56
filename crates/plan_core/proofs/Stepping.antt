-- How the notes of a client keep in step with the settled entries.
use Rattle.std.proofs.Common.{◌≡◌, ◌≢◌, ◌⊎◌, ℕ, zero, suc, ◌+◌, ◌<◌, ◌≤◌, Bool, true, false, ◌||◌, if◌then◌else◌, List, [], ◌∷◌, ◌++◌, length, map, get_or, slice_get, Option, Some, None, All, AllPairs, Contains, inl, inr, refl, ap, sym, subst, ◌∙◌, arith, length-append}
use Rattle.std.proofs.lemmas.List.Elements.{All-push}
use Rattle.std.proofs.lemmas.List.Quantifiers.{all_pairs_push}
use Rattle.std.proofs.lemmas.Option.{same_Some, slice_get-get_or, get_or_from_slice_get}
use Rattle.std.proofs.lemmas.List.{get_or-map, length-map}
use Rattle.grant_log.proofs.Slices.{slice_get_push}
use Rattle.plan_core.specs.declared.notes.Note.{Note}
use Rattle.plan_core.specs.Inside.{IsInStep, IsOnlyLast, IsPending}
use Rattle.plan_core.specs.Parties.{is_at, marked, positions}
use Rattle.plan_core.specs.Sound.{back_by, GoBackByLoss}
use Rattle.plan_core.proofs.Lists.{all_mapped, mapped, of_all, to_all}
use Rattle.plan_core.proofs.Noted.{there_named}

abbrev back : Bool → ℕ
back lost = if lost then 1 else 0

back_found : (lost : Bool) → lost ≡ false → back lost ≡ 0
back_found true found = let wrong : ◌≡◌ {A = Bool} true false = found in cc
back_found false found = refl

-- a log in step, where no note names the entry behind the settled ones: each point is a settled one, or was lost
pub each_low : (settled : ℕ) (log : List Note) → IsInStep settled log → (Contains (positions log) settled → ⊥) → (k : ℕ) (note : Note) → slice_get log k ≡ Some note → note.point ≤ settled + back_by note
each_low settled log known none k note here = elim (known.each k note here) [
  | inl low ↦ low
  | inr pending ↦ absurd (none (there_named log settled k note here pending.found pending.entry))
]

-- more entries are settled: where the one behind the settled ones was named, it is now
pub raised : (settled more : ℕ) (log : List Note) → IsInStep settled log → settled ≤ more → (Contains (positions log) settled → settled < more) → IsInStep more log
raised settled more log known least named = record {
  each = λ k note here. elim (known.each k note here) [
    | inl low ↦ inl (omega (arith, low, least))
    | inr pending ↦
        let less = named (there_named log settled k note here pending.found pending.entry) in
        let point = of_all (λ it. (at : ℕ) → it.entry ≡ Some at → it.point ≡ at + 1) log k note known.behind here settled pending.entry in
        inl (omega (arith, less, point))
  ];
  behind = known.behind;
  points = known.points;
}

abbrev noted : ℕ → Option ℕ → Note
noted point entry = record { point = point; entry = entry; lost = false }

points_more : (settled point : ℕ) (entry : Option ℕ) (log : List Note) → GoBackByLoss log → settled ≤ point → ((k : ℕ) (note : Note) → slice_get log k ≡ Some note → note.point ≤ settled + back_by note) → GoBackByLoss (log ++ noted point entry ∷ [])
points_more settled point entry log known least low = all_pairs_push (λ note later. note.point ≤ later.point + back_by note) log (noted point entry) known (λ k d within. let one = low k (get_or log k d) (slice_get-get_or log k d within) in omega (arith, one, least))

-- one note more, of no entry or of one that is settled now
pub noted_low : (settled more point : ℕ) (entry : Option ℕ) (log : List Note) → IsInStep settled log → (Contains (positions log) settled → ⊥) → settled ≤ more → settled ≤ point → point ≤ more → ((at : ℕ) → entry ≡ Some at → point ≡ at + 1) → IsInStep more (log ++ noted point entry ∷ [])
noted_low settled more point entry log known none least lower upper behind = record {
  each = λ k note here. elim (slice_get_push log (noted point entry) k note here) [
    | inl old ↦ let one = each_low settled log known none k note old.1 in inl (omega (arith, one, least))
    | inr new ↦ inl (subst (λ (it : Note). it.point ≤ more + back_by it) new.1 (omega (arith, upper)))
  ];
  behind = All-push (λ it. (at : ℕ) → it.entry ≡ Some at → it.point ≡ at + 1) log (noted point entry) known.behind behind;
  points = points_more settled point entry log known.points lower (each_low settled log known none);
}

-- one note more, of the entry that is not settled
pub noted_pending : (settled : ℕ) (log : List Note) → IsInStep settled log → (Contains (positions log) settled → ⊥) → IsInStep settled (log ++ noted (settled + 1) (Some settled) ∷ [])
noted_pending settled log known none = record {
  each = λ k note here. elim (slice_get_push log (noted (settled + 1) (Some settled)) k note here) [
    | inl old ↦ inl (each_low settled log known none k note old.1)
    | inr new ↦ inr (subst (IsPending settled (length (log ++ noted (settled + 1) (Some settled) ∷ [])) k) new.1 (record {
      last = omega (arith, new.0, length-append log (noted (settled + 1) (Some settled) ∷ []));
      entry = refl;
      found = refl;
    }))
  ];
  behind = All-push (λ it. (at : ℕ) → it.entry ≡ Some at → it.point ≡ at + 1) log (noted (settled + 1) (Some settled)) known.behind (λ at same. ap (λ n. n + 1) (same_Some settled at same));
  points = points_more settled (settled + 1) (Some settled) log known.points (omega arith) (each_low settled log known none);
}

-- the note of the entry that is not settled is the last
pub only_last : (settled : ℕ) (log : List Note) → IsInStep settled log → IsOnlyLast settled log
only_last settled log known k note here found entry = elim (known.each k note here) [
  | inl low ↦
      let point = of_all (λ it. (at : ℕ) → it.entry ≡ Some at → it.point ≡ at + 1) log k note known.behind here settled entry in
      absurd (omega (arith, low, point, back_found note.lost found))
  | inr pending ↦ pending.last
]

back_more : (at : ℕ) (lost : Bool) (entry : Option ℕ) → back lost ≤ back (lost || is_at at entry)
back_more at true entry = omega arith
back_more at false entry = omega arith

at_itself : (at : ℕ) (lost : Bool) (entry : Option ℕ) → entry ≡ Some at → back (lost || is_at at entry) ≡ 1
at_itself at true entry same = refl
at_itself at false None same = let wrong : ◌≡◌ {A = Option ℕ} None (Some at) = same in cc
at_itself at false (Some p) same = let one : p ≡ at = same_Some p at same in grind (arith, one)

marked_points : (at : ℕ) (log : List Note) → GoBackByLoss log → GoBackByLoss (map (marked at) log)
marked_points at log known i j d less within =
    let upper : j < length log = omega (arith, within, length-map log (marked at)) in
    let lower : i < length log = omega (arith, less, upper) in
    let was = known i j d less upper in
    let one = get_or log i d in
    let other = get_or log j d in
    let goal : (marked at one).point ≤ (marked at other).point + back_by (marked at one) = omega (arith, was, back_more at one.lost one.entry) in
    subst (λ (it : Note). it.point ≤ (get_or (map (marked at) log) j d).point + back_by it) (sym (get_or-map (marked at) log i d d lower)) (subst (λ (it : Note). (marked at one).point ≤ it.point + back_by (marked at one)) (sym (get_or-map (marked at) log j d d upper)) goal)

-- the entry that is not settled is lost
pub marked_step : (settled : ℕ) (log : List Note) → IsInStep settled log → IsInStep settled (map (marked settled) log)
marked_step settled log known = record {
  each = λ k note here.
      let was = mapped (marked settled) log k note here in
      inl (subst (λ (it : Note). it.point ≤ settled + back_by it) (sym was.2) (elim (known.each k was.0 was.1) [
        | inl low ↦ omega (arith, low, back_more settled was.0.lost was.0.entry)
        | inr pending ↦
            let point = of_all (λ it. (at : ℕ) → it.entry ≡ Some at → it.point ≡ at + 1) log k was.0 known.behind was.1 settled pending.entry in
            omega (arith, point, at_itself settled was.0.lost was.0.entry pending.entry)
      ]));
  behind = all_mapped (λ it. (at : ℕ) → it.entry ≡ Some at → it.point ≡ at + 1) (marked settled) log (λ k note here. of_all (λ it. (at : ℕ) → it.entry ≡ Some at → it.point ≡ at + 1) log k note known.behind here);
  points = marked_points settled log known.points;
}

-- How near a train is to its calls, as it is kept with its chart.
use Rattle.std.proofs.Common.{◌≡◌, ◌∙◌, Bor, refl, inl, inr, sym, ap, subst, arith, ℕ, ◌+◌, ◌-◌, ◌<◌, ◌≤◌, List, [], ◌∷◌, ◌++◌, length, map, get_or, drop, All, append-nil, append_assoc, length-append}
use Rattle.std.proofs.lemmas.Bool.{cases_lt}
use Rattle.std.proofs.lemmas.List.{get_or_append_left, get_or_default, get_or_push, length-map, get_or-map}
use Rattle.std.proofs.lemmas.List.Elements.{All-get_or}
use Rattle.label_search.specs.declared.charts.ChartCall.{ChartCall}
use Rattle.label_search.specs.declared.charts.ChartSpot.{ChartSpot}
use Rattle.label_search.specs.declared.nearing.Near.{Near}
use Rattle.label_search.specs.Charts.{call_at}
use Rattle.label_search.specs.Endings.{last_call, spots_before}
use Rattle.label_search.specs.Nearing.{AreNears, IsNearTo, near_at}
use Rattle.path_labels.specs.declared.kept_nears.KeptNear.{KeptNear}
use Rattle.path_labels.specs.declared.kept_nears.TheConstants.{MAX_NEARS}
use Rattle.path_labels.specs.KeptNears.{AreNearAt, GoOn, IsLonger, IsNearAt, IsNearKept, PutsNear, kept_at, near_kept}

abbrev none_kept : KeptNear
none_kept = record { blocks = []; near = record { ticks = []; behind = [] }; lasts = [] }

-- what is kept at the number of a call
kept_there : (spots : List ChartSpot) (kept : List KeptNear) (blocks : List ℕ) (number : ℕ) → All (IsNearKept spots) kept → IsNearAt kept blocks number → IsNearKept spots (kept_at kept number)
kept_there spots kept blocks number all at = All-get_or (IsNearKept spots) kept number none_kept at.within all

-- ---- one is put behind the others

pub puts_none : (kept : List KeptNear) (blocks : List ℕ) → PutsNear kept kept blocks
puts_none kept blocks = record { kept = λ number at. refl; more = []; longer = sym (append-nil kept); one = omega arith }

-- where none is kept for the blocks
pub puts_one : (before after : List KeptNear) (blocks : List ℕ) (one : KeptNear) → All (λ kept. ¬ (kept.blocks ≡ blocks)) before → after ≡ before ++ one ∷ [] → PutsNear before after blocks
puts_one before after blocks one none put = record {
  kept = λ number at. absurd (none number _ at.within at.blocks_are);
  more = one ∷ [];
  longer = put;
  one = omega arith;
}

pub stands_on : (before after : List KeptNear) (blocks : List ℕ) (number : ℕ) → IsLonger before after → IsNearAt before blocks number → IsNearAt after blocks number
stands_on before after blocks number (more, put) at = subst (λ (kept : List KeptNear). IsNearAt kept blocks number) (sym put) (record {
  within = let less = at.within in omega (arith, less, length-append before more);
  blocks_are = ap (λ (one : KeptNear). one.blocks) (get_or_append_left before more _ number at.within) ∙ at.blocks_are;
})

pub longer_by : (before after : List KeptNear) (blocks : List ℕ) → PutsNear before after blocks → IsLonger before after
longer_by before after blocks puts = (puts.more, puts.longer)

pub one_longer : (before after : List KeptNear) (blocks : List ℕ) → PutsNear before after blocks → length after ≤ length before + 1
one_longer before after blocks puts = let long = ap length puts.longer in let few = puts.one in omega (arith, few, long, length-append before puts.more)

pub longer_still : (first second third : List KeptNear) → IsLonger first second → IsLonger second third → IsLonger first third
longer_still first second third (more, put) (rest, on) =
    (more ++ rest, on ∙ ap (λ (kept : List KeptNear). kept ++ rest) put ∙ append_assoc first more rest)

-- ---- the calls of a request, of which so many were looked up

pub record AreFirstNear (kept : List KeptNear) (calls : List ChartCall) (count : ℕ) (numbers : List ℕ) : Type 0 where
  pub counted : length numbers ≡ count
  pub each : (made : ℕ) → made < count → IsNearAt kept (call_at calls made).blocks (get_or numbers made 0)

module _ (calls : List ChartCall) where
  pub near_none : (kept : List KeptNear) (numbers : List ℕ) → numbers ≡ [] → AreFirstNear kept calls 0 numbers
  near_none kept numbers none = record {
    counted = ap length none;
    each = λ made less. absurd (omega (arith, less));
  }

  pub near_next : (before after : List KeptNear) (count : ℕ) (old new : List ℕ) (number : ℕ) → IsLonger before after → AreFirstNear before calls count old
      → IsNearAt after (call_at calls count).blocks number → new ≡ old ++ number ∷ [] → AreFirstNear after calls (count + 1) new
  near_next before after count old new number longer are at added = subst (AreFirstNear after calls (count + 1)) (sym added) (record {
    counted = let long = are.counted in omega (arith, long, length-append old (number ∷ []));
    each = λ made less. elim (cases_lt made count) [
      | inl sooner ↦
          let there : get_or (old ++ number ∷ []) made 0 ≡ get_or old made 0 = get_or_append_left old (number ∷ []) 0 made (let long = are.counted in omega (arith, long, sooner)) in
          subst (IsNearAt after (call_at calls made).blocks) (sym there) (stands_on before after (call_at calls made).blocks (get_or old made 0) longer (are.each made sooner))
      | inr last ↦
          let now : made ≡ count = omega (arith, less, last) in
          let long : length old ≡ made = (let counted = are.counted in omega (arith, now, counted)) in
          let there : get_or (old ++ number ∷ []) made 0 ≡ number = get_or_push old number 0 made long in
          subst (IsNearAt after (call_at calls made).blocks) (sym there) (subst (λ n. IsNearAt after (call_at calls n).blocks number) (sym now) at)
    ];
  })

  pub near_all : (kept : List KeptNear) (count : ℕ) (numbers : List ℕ) → AreFirstNear kept calls count numbers → count ≡ length calls → AreNearAt kept calls numbers
  near_all kept count numbers are all = record {
    count = are.counted ∙ all;
    each = λ made less. are.each made (omega (arith, all, less));
  }

-- ---- the first ones are let go

pub goes_on_as_it_is : (kept : List KeptNear) (count : ℕ) → GoOn kept count kept
goes_on_as_it_is kept count = record { gone = 0; more = []; few = omega arith; on = sym (append-nil kept) }

pub goes_on : (before between after : List KeptNear) (count : ℕ) → between ≡ drop (length before + count - MAX_NEARS) before → IsLonger between after → GoOn before count after
goes_on before between after count let_go (more, put) = record {
  gone = length before + count - MAX_NEARS;
  more = more;
  few = omega arith;
  on = put ∙ ap (λ (kept : List KeptNear). kept ++ more) let_go;
}

-- ---- what stands at the numbers

pub numbers_within : (kept : List KeptNear) (calls : List ChartCall) (numbers : List ℕ) → AreNearAt kept calls numbers → All (λ number. number < length kept) numbers
numbers_within kept calls numbers at k d within =
    subst (λ number. number < length kept) (get_or_default numbers k 0 d within)
    (at.each k (let same = at.count in omega (arith, same, within))).within

-- what was read at numbers that were read
pub nears_read : (kept : List KeptNear) (numbers all : List ℕ) (nears found : List (Bor Near)) → numbers ≡ all → map (λ near. near.now) found ≡ map (near_kept kept) numbers → nears ≡ found
    → map (λ near. near.now) nears ≡ map (near_kept kept) all
nears_read kept numbers all nears found same is read =
    ap (λ (list : List (Bor Near)). map (λ near. near.now) list) read ∙ (is ∙ ap (λ (list : List ℕ). map (near_kept kept) list) same)

pub near_calls : (spots : List ChartSpot) (kept : List KeptNear) (calls : List ChartCall) (numbers : List ℕ) (nears : List Near) → nears ≡ map (near_kept kept) numbers
    → All (IsNearKept spots) kept → AreNearAt kept calls numbers → AreNears spots calls nears
near_calls spots kept calls numbers nears same all at = subst (AreNears spots calls) (sym same) (record {
  count = length-map numbers (near_kept kept) ∙ at.count;
  each = λ made within. each made within;
})
  where
    each : (made : ℕ) → made < length calls → IsNearTo spots (call_at calls made).blocks (near_at (map (near_kept kept) numbers) made)
    each made within =
        let there = at.each made within in
        let number = get_or numbers made 0 in
        let is : IsNearTo spots (kept_at kept number).blocks (near_kept kept number) = (kept_there spots kept (call_at calls made).blocks number all there).near_is in
        let inside : made < length numbers = let count = at.count in omega (arith, count, within) in
        let here : near_at (map (near_kept kept) numbers) made ≡ near_kept kept number = get_or-map (near_kept kept) numbers made _ _ inside in
        subst (IsNearTo spots (call_at calls made).blocks) (sym here)
        (subst (λ (blocks : List ℕ). IsNearTo spots blocks (near_kept kept number)) there.blocks_are is)

-- the spots from which a way leads to a call that stands there
pub lasts_there : (spots : List ChartSpot) (kept : List KeptNear) (blocks : List ℕ) (number : ℕ) → All (IsNearKept spots) kept → IsNearAt kept blocks number
    → (kept_at kept number).lasts ≡ spots_before blocks spots
lasts_there spots kept blocks number all at =
    (kept_there spots kept blocks number all at).lasts_are ∙ ap (λ (ends : List ℕ). spots_before ends spots) at.blocks_are

-- the last call stands at the last number
pub last_there : (kept : List KeptNear) (calls : List ChartCall) (numbers read : List ℕ) (number : ℕ) → AreNearAt kept calls numbers → 0 < length calls → read ≡ numbers
    → number ≡ get_or read (length read - 1) 0 → IsNearAt kept (last_call calls).blocks number
last_there kept calls numbers read number are called same is =
    let long : length calls - 1 ≡ length read - 1 = ap (λ (n : ℕ). n - 1) (sym (ap length same ∙ are.count)) in
    let there : get_or numbers (length calls - 1) 0 ≡ number = ap (λ (n : ℕ). get_or numbers n 0) long ∙ (ap (λ (all : List ℕ). get_or all (length read - 1) 0) (sym same) ∙ sym is) in
    subst (IsNearAt kept (last_call calls).blocks) there (are.each (length calls - 1) (omega (arith, called)))

-- The steps of a path cover what its stairway covers.
use Rattle.std.proofs.Common.{◌≡◌, ◌↔◌, ◌⊎◌, sym, ap, refl, subst, ℕ, ◌≤◌, ℤ, pos, ◌+ℤ◌, ◌≤ℤ◌, List, [], ◌∷◌, ◌++◌, map, Option, Some, None, inl, inr, arith}
use Rattle.std.proofs.lemmas.Int.{ints}
use Rattle.std.proofs.lemmas.List.{map-append}
use Rattle.rail_types.specs.declared.tracks.Network.{Network}
use Rattle.rail_types.specs.declared.trains.Train.{Train}
use Rattle.rail_types.specs.declared.entries.Settings.{Settings}
use Rattle.rail_types.specs.declared.paths.Claim.{Claim}
use Rattle.rail_types.specs.declared.paths.Run.{Run}
use Rattle.rail_types.specs.declared.paths.Path.{Path}
use Rattle.running_time.specs.declared.edges.Enter.{Enter}
use Rattle.running_time.specs.declared.edges.Enter.TheVariants.{Still}
use Rattle.blocking_time.specs.Runs.{block_at, entry_behind}
use Rattle.blocking_time.specs.Passages.{passages_of}
use Rattle.blocking_time.specs.Legs.{Leg, legs_from, reached, KeepAll, KeepsByLegs, gone, begin_of, claims_behind, claims_by_legs}
use Rattle.blocking_time.specs.Ticks.{Covers}
use Rattle.blocking_time.specs.Joined.{CoverTheSame}
use Rattle.blocking_time.specs.declared.passages.Passage.{Passage}
use Rattle.stair_pieces.specs.declared.places.Place.{Place}
use Rattle.stair_pieces.specs.Places.{start_place, step_of, head_block, entry_of, place_after, uncleared, left_after, standing_zones}
use Rattle.stair_pieces.specs.Pieces.{step_begin, pieces_of, later_by, kept, wait_end, steps_from, steps_of_path}
use Rattle.stair_pieces.proofs.Sound.{ReleaseWithin}
use Rattle.stair_pieces.proofs.Covering.{over, kept_covers, whole, first, rest, covers_left, covers_right, covers_cases, cut, with_first, with_rest, wait_and_on, with_wait, with_on}
use Rattle.stair_pieces.proofs.Tails.{left_after-append, uncleared_end, uncleared_under}
use Rattle.stair_pieces.proofs.Moments.{leg_of, leaves_late, enters_late, gone_late, released_late, entry_after, pieces_at, begin_first, begin_next, begin_early, gone_enters}

-- the place behind a run
abbrev after : Network → Train → Place → Run → Place
after net train place run = place_after net train place (step_of run)

-- the wait behind a run, and the steps that follow
abbrev waits : Network → Settings → Train → Place → Run → List Run → List Claim
waits net settings train place run runs = kept (standing_zones net train (after net train place run)) run.leave (wait_end settings run runs) ++ steps_from net settings train (after net train place run) runs

-- what is not cleared in a run, until it is
abbrev unfinished : Network → Settings → Train → Place → Run → List Leg → List Claim
unfinished net settings train place run legs = map (rest run.leave (pos settings.release) (gone train settings run.leave legs)) (uncleared net train (after net train place run).tail)

module _ (net : Network) (settings : Settings) (train : Train) (sound : ReleaseWithin net) (long : 1 ≤ train.length_m) (zone : ℕ) (tick : ℤ) where
  -- one run from a place, as a leg behind another
  module _ (place : Place) (entry : Enter) (same : entry_of net train place ≡ entry) (run : Run) (runs : List Run) (legs : List Leg) (before : Option Leg)
      (timed : run.leave ≡ reached train settings (leg_of net entry run) (block_at net run.block).length_m)
      (begun : step_begin settings train (block_at net (head_block place.tail)) place.entered place.standing +ℤ run.enter ≡ begin_of train settings before (leg_of net entry run) entry)
      (early : begin_of train settings before (leg_of net entry run) entry ≤ℤ run.leave)
      (late : (metres : ℕ) → run.leave ≤ℤ (gone train settings run.leave legs metres +ℤ pos settings.release))
      (again : Covers (waits net settings train place run runs) zone tick ↔ (Covers (unfinished net settings train place run legs) zone tick ⊎ Covers (claims_behind train settings (Some (leg_of net entry run)) legs) zone tick)) where
    abbrev leg : Leg
    leg = leg_of net entry run

    abbrev begin : ℤ
    begin = begin_of train settings before (leg_of net entry run) entry

    abbrev fresh : List Passage
    fresh = passages_of train (block_at net run.block).cells

    abbrev old : List Passage
    old = uncleared net train place.tail

    abbrev wholes : ℤ → List Passage → List Claim
    wholes from passages = map (whole (block_at net run.block).length_m from (pos settings.release) (reached train settings (leg_of net entry run)) (gone train settings run.leave legs)) passages

    abbrev firsts : ℤ → List Passage → List Claim
    firsts from passages = map (first (block_at net run.block).length_m from run.leave (pos settings.release) (reached train settings (leg_of net entry run))) passages

    abbrev rests : List Passage → List Claim
    rests passages = map (rest run.leave (pos settings.release) (gone train settings run.leave legs)) (left_after (block_at net run.block).length_m passages)

    entered : pos 0 +ℤ run.enter ≡ run.enter
    entered = omega (arith, ints)

    entered_early : run.enter ≤ℤ run.leave
    entered_early = leaves_late train settings (leg_of net entry run) timed

    pieces_are : later_by run.enter (pieces_of net settings train place (step_of run)) ≡ firsts begin fresh ++ firsts run.enter old
    pieces_are = rw (map-append, pieces_at net settings train place entry same run timed _ begin begun fresh, pieces_at net settings train place entry same run timed (pos 0) run.enter entered old) refl

    unfinished_are : unfinished net settings train place run legs ≡ rests fresh ++ rests old
    unfinished_are = rw (uncleared_under net train sound (place.tail ++ run.block ∷ []), uncleared_end net train place.tail run.block, left_after-append (block_at net run.block).length_m fresh old, map-append) refl

    abbrev Whole : ℤ → List Passage → Type 0
    Whole from passages = Covers (wholes from passages) zone tick

    cut_at : (from : ℤ) → from ≤ℤ run.leave → (passages : List Passage) → Whole from passages → Covers (firsts from passages) zone tick ⊎ Covers (rests passages) zone tick
    cut_at from earlier passages = cut zone tick (block_at net run.block).length_m from run.leave (pos settings.release) (reached train settings (leg_of net entry run)) (gone train settings run.leave legs) earlier late passages

    first_of_whole : (from : ℤ) → from ≤ℤ run.leave → (passages : List Passage) → Covers (firsts from passages) zone tick → Whole from passages
    first_of_whole from earlier passages = with_first zone tick (block_at net run.block).length_m from run.leave (pos settings.release) (reached train settings (leg_of net entry run)) (gone train settings run.leave legs) earlier late passages

    rest_of_whole : (from : ℤ) → from ≤ℤ run.leave → (passages : List Passage) → Covers (rests passages) zone tick → Whole from passages
    rest_of_whole from earlier passages = with_rest zone tick (block_at net run.block).length_m from run.leave (pos settings.release) (reached train settings (leg_of net entry run)) (gone train settings run.leave legs) earlier late passages

    -- the stairway of the legs from here on, and the passages begun before
    abbrev Stairs : Type 0
    Stairs = Covers (wholes run.enter old) zone tick ⊎ Covers (claims_behind train settings before (leg_of net entry run ∷ legs)) zone tick

    abbrev later_claims : List Claim
    later_claims = claims_behind train settings (Some (leg_of net entry run)) legs

    abbrev pieces : List Claim
    pieces = later_by run.enter (pieces_of net settings train place (step_of run))

    abbrev waiting : List Claim
    waiting = waits net settings train place run runs

    from_pieces : Covers pieces zone tick → Stairs
    from_pieces covered = elim (covers_cases zone tick (firsts begin fresh) (firsts run.enter old) (subst (λ claims. Covers claims zone tick) pieces_are covered)) [
      | inl new ↦ inr (covers_left zone tick (wholes begin fresh) later_claims (first_of_whole begin early fresh new))
      | inr kept ↦ inl (first_of_whole run.enter entered_early old kept)
    ]

    from_waiting : Covers waiting zone tick → Stairs
    from_waiting covered = elim (again.0 covered) [
      | inl left ↦ elim (covers_cases zone tick (rests fresh) (rests old) (subst (λ claims. Covers claims zone tick) unfinished_are left)) [
        | inl new ↦ inr (covers_left zone tick (wholes begin fresh) later_claims (rest_of_whole begin early fresh new))
        | inr kept ↦ inl (rest_of_whole run.enter entered_early old kept)
      ]
      | inr others ↦ inr (covers_right zone tick (wholes begin fresh) later_claims others)
    ]

    to_steps : Covers (firsts begin fresh ++ firsts run.enter old) zone tick ⊎ (Covers (rests fresh ++ rests old) zone tick ⊎ Covers later_claims zone tick) → Covers (pieces ++ waiting) zone tick
    to_steps (inl part) = covers_left zone tick pieces waiting (subst (λ claims. Covers claims zone tick) (sym pieces_are) part)
    to_steps (inr (inl part)) = covers_right zone tick pieces waiting (again.1 (inl (subst (λ claims. Covers claims zone tick) (sym unfinished_are) part)))
    to_steps (inr (inr others)) = covers_right zone tick pieces waiting (again.1 (inr others))

    from_stairs : Stairs → Covers (pieces ++ waiting) zone tick
    from_stairs (inl kept) = elim (cut_at run.enter entered_early old kept) [
      | inl part ↦ to_steps (inl (covers_right zone tick (firsts begin fresh) (firsts run.enter old) part))
      | inr part ↦ to_steps (inr (inl (covers_right zone tick (rests fresh) (rests old) part)))
    ]
    from_stairs (inr covered) = elim (covers_cases zone tick (wholes begin fresh) later_claims covered) [
      | inl new ↦ elim (cut_at begin early fresh new) [
        | inl part ↦ to_steps (inl (covers_left zone tick (firsts begin fresh) (firsts run.enter old) part))
        | inr part ↦ to_steps (inr (inl (covers_left zone tick (rests fresh) (rests old) part)))
      ]
      | inr others ↦ to_steps (inr (inr others))
    ]

    one_run : Covers (steps_from net settings train place (run ∷ runs)) zone tick ↔ Stairs
    one_run = (λ covered. elim (covers_cases zone tick pieces waiting covered) [ inl now ↦ from_pieces now | inr then ↦ from_waiting then ], from_stairs)

  over_is : (from to : ℤ) (passages : List Passage) → over (map (λ passage. passage.zone) passages) from to ≡ map (λ passage. record { zone = passage.zone; span = record { from = from; to = to } }) passages
  over_is from to [] = refl
  over_is from to (p ∷ passages) = ap (λ others. record { zone = p.zone; span = record { from = from; to = to } } ∷ others) (over_is from to passages)

  all_runs : (place : Place) (entry : Enter) (run : Run) (runs : List Run) → entry_of net train place ≡ entry
      → run.leave ≡ reached train settings (leg_of net entry run) (block_at net run.block).length_m
      → KeepAll train settings (Some (leg_of net entry run)) (legs_from net train (entry_behind train (block_at net run.block) run.stops) runs)
      → Covers (waits net settings train place run runs) zone tick
      ↔ (Covers (unfinished net settings train place run (legs_from net train (entry_behind train (block_at net run.block) run.stops) runs)) zone tick
      ⊎ Covers (claims_behind train settings (Some (leg_of net entry run)) (legs_from net train (entry_behind train (block_at net run.block) run.stops) runs)) zone tick)
  all_runs place entry run [] same timed keep =
      let passages = uncleared net train (after net train place run).tail in
      let zones = standing_zones net train (after net train place run) in
      let end = run.leave +ℤ pos settings.release in (
        λ covered. elim (covers_cases zone tick (kept zones run.leave end) [] covered) [
          | inl now ↦ inl (subst (λ claims. Covers claims zone tick) (over_is run.leave end passages) ((kept_covers zone tick run.leave end zones).0 now))
          | inr none ↦ absurd none
        ],
        elim [
          | inl left ↦ covers_left zone tick (kept zones run.leave end) [] ((kept_covers zone tick run.leave end zones).1 (subst (λ claims. Covers claims zone tick) (sym (over_is run.leave end passages)) left))
          | inr none ↦ absurd none
        ],
      )
  all_runs place entry run (next ∷ runs) same timed (rules, keep) =
      let there = after net train place run in
      let entry_there = entry_behind train (block_at net run.block) run.stops in
      let one = leg_of net entry run in
      let two = leg_of net entry_there next in
      let legs = legs_from net train (entry_behind train (block_at net next.block) next.stops) runs in
      let same_there : entry_of net train there ≡ entry_there = entry_after net train place run long in
      let late : run.leave ≤ℤ next.enter = enters_late run.leave next.enter run.stops rules.enters in
      let goes_on : run.enter ≤ℤ run.leave = leaves_late train settings one timed in
      let goes_on_next : next.enter ≤ℤ next.leave = leaves_late train settings two rules.timed in
      let begun = begin_next net settings train place entry run next same long timed rules.enters in
      let before_enter : begin_of train settings (Some one) two entry_there ≤ℤ next.enter = begin_early train settings one two entry_there (omega (arith, ints)) in
      let before_leave : begin_of train settings (Some one) two entry_there ≤ℤ next.leave = omega (arith, ints) in
      let step = one_run there entry_there same_there next runs legs (Some one) rules.timed begun before_leave (λ metres. released_late next.leave _ settings.release (gone_late train settings two legs keep metres)) (all_runs there entry_there next runs same_there rules.timed keep) in
      let passages = uncleared net train there.tail in
      let later : ℕ → ℤ = λ metres. gone train settings run.leave (two ∷ legs) metres in
      let released : (metres : ℕ) → next.enter ≤ℤ (gone train settings run.leave (two ∷ legs) metres +ℤ pos settings.release) = λ metres. released_late next.enter _ settings.release (gone_enters train settings run.leave two legs rules.timed keep metres) in
      let waited = kept (standing_zones net train there) run.leave next.enter in
      let steps = steps_from net settings train there (next ∷ runs) in (
        λ covered. elim (covers_cases zone tick waited steps covered) [
          | inl now ↦ inl (with_wait zone tick run.leave next.enter (pos settings.release) later late released passages ((kept_covers zone tick run.leave next.enter (standing_zones net train there)).0 now))
          | inr then ↦ elim (step.0 then) [
            | inl left ↦ inl (with_on zone tick run.leave next.enter (pos settings.release) later late released passages left)
            | inr others ↦ inr others
          ]
        ],
        elim [
          | inl left ↦ elim (wait_and_on zone tick run.leave next.enter (pos settings.release) later late released passages left) [
            | inl now ↦ covers_left zone tick waited steps ((kept_covers zone tick run.leave next.enter (standing_zones net train there)).1 now)
            | inr then ↦ covers_right zone tick waited steps (step.1 (inl then))
          ]
          | inr others ↦ covers_right zone tick waited steps (step.1 (inr others))
        ],
      )

  first_run : (runs : List Run) → KeepAll train settings None (legs_from net train Still runs) → Covers (claims_behind train settings None (legs_from net train Still runs)) zone tick ↔ Covers (steps_from net settings train start_place runs) zone tick
  first_run [] keep = (λ none. none, λ none. none)
  first_run (run ∷ runs) (rules, keep) =
      let one = leg_of net Still run in
      let legs = legs_from net train (entry_behind train (block_at net run.block) run.stops) runs in
      let begun = begin_first net settings train one in
      let goes_on : run.enter ≤ℤ run.leave = leaves_late train settings one rules.timed in
      let before_leave : begin_of train settings None one Still ≤ℤ run.leave = omega (arith, ints) in
      let step = one_run start_place Still refl run runs legs None rules.timed begun before_leave (λ metres. released_late run.leave _ settings.release (gone_late train settings one legs keep metres)) (all_runs start_place Still run runs refl rules.timed keep) in
      (λ covered. step.1 (inr covered), λ covered. elim (step.0 covered) [ inl none ↦ absurd none | inr stairs ↦ stairs ])

pub steps_cover_legs : (net : Network) (settings : Settings) (path : Path) → ReleaseWithin net → 1 ≤ path.train.length_m → KeepsByLegs net settings path → CoverTheSame (claims_by_legs net settings path) (steps_of_path net settings path)
steps_cover_legs net settings path sound long keep zone tick = first_run net settings path.train sound long zone tick path.runs keep

-- What is spelled is within its limits.
use Rattle.std.proofs.Common.{◌≡◌, ap, sym, refl, subst, ℕ, zero, suc, ◌<◌, ◌≤◌, List, [], ◌∷◌, length, Option, Some, None, arith}
use Rattle.std.specs.List.{All}
use Rattle.std.specs.Str.{bytes_eq}
use Rattle.std.proofs.lemmas.List.Elements.{All-cons, All-nil}
use Rattle.std.proofs.lemmas.List.Kept.{AllPairs-cons}
use Rattle.rail_types.specs.declared.limits.TheConstants.{MAX_DWELL}
use Rattle.rail_types.specs.declared.paths.Claim.{Claim}
use Rattle.rail_types.specs.declared.paths.Run.{Run}
use Rattle.rail_types.specs.declared.paths.Window.{Window}
use Rattle.rail_types.specs.declared.tracks.Network.{Network}
use Rattle.rail_types.specs.declared.trains.Request.{Request}
use Rattle.rail_types.specs.declared.trains.Stop.{Stop}
use Rattle.rail_types.specs.declared.trains.Train.{Train}
use Rattle.rail_types.specs.Limits.{IsClaimWithinLimits, IsRequestWithinLimits, IsRunWithinLimits, IsTrainWithinLimits, IsWindowWithinLimits}
use Rattle.rail_types.specs.Occupation.{EndsBefore, HasTicks}
use Rattle.client_lines.specs.declared.asks.Line.{Line}
use Rattle.client_lines.specs.declared.asks.Ask.{Ask}
use Rattle.client_lines.specs.declared.asks.Word.{Word}
use Rattle.client_lines.specs.declared.asks.Word.TheVariants as word
use Rattle.client_lines.specs.Forms.{Form, Spells}
use Rattle.client_lines.specs.Lines.{a_claim, a_free, a_hold, a_holds, a_line, a_pin, a_point, a_request, a_run, a_show, a_stop, a_train, a_window, an_ask, behind, behind_first, groups}
use Rattle.client_lines.specs.Names.{Names}
use Rattle.client_lines.specs.Within.{AreSound, HasPoints, IsAskWithin, IsLineWithin}
use Rattle.client_lines.proofs.Claims.{groups_apart, none_apart}
use Rattle.client_lines.proofs.Found.{found_one, place_within, reason_short}

pub groups_all : {A : Type 0} (Q : A → Type 0) (group : Option A → Form A) → ((before : Option A) (fields : List (List ℕ)) (x : A) → Spells (group before) fields x → Q x)
    → (count : ℕ) (before : Option A) (fields : List (List ℕ)) (items : List A) → Spells (groups group before count) fields items → All Q items × (length items ≡ count)
unfolding groups
groups_all {A} Q group each zero before fields items s = subst (λ (xs : List A). All Q xs × (length xs ≡ 0)) (sym s.1) (All-nil Q, refl)
groups_all {A} Q group each (suc count) before fields items s =
    let on = groups_all Q group each count (Some s.0) s.5.1 s.5.0 s.5.4 in
    subst (λ (xs : List A). All Q xs × (length xs ≡ suc count)) (sym s.5.5.1) (All-cons Q s.0 s.5.0 (each before s.1 s.0 s.4) on.0, omega (arith, on.1))

module _ (known : Names) where
  abbrev net : Network
  net = known.railway.network

  abbrev IsClaimOf : Claim → Type 0
  IsClaimOf claim = IsClaimWithinLimits claim × (claim.zone < net.zones)

  abbrev IsRunOf : Run → Type 0
  IsRunOf run = IsRunWithinLimits run × (run.block < length net.blocks)

  abbrev IsStopOf : Stop → Type 0
  IsStopOf stop = (stop.dwell ≤ MAX_DWELL) × (stop.stop < net.stops)

  claim_within : (before : Option Claim) (fields : List (List ℕ)) (claim : Claim) → Spells (a_claim known before) fields claim → IsClaimOf claim
  unfolding a_claim
  claim_within before fields claim s = subst IsClaimOf (sym s.5.5.5.1) (record { from = s.5.4.2.1; to = s.5.5.4.2.1; ordered = s.5.5.4.2.2 }, s.4.2.3)

  run_within : (before : Option Run) (fields : List (List ℕ)) (run : Run) → Spells (a_run known before) fields run → IsRunOf run
  unfolding a_run
  run_within before fields run s = subst IsRunOf (sym s.5.5.5.5.1) (record { enter = s.5.4.2.1; leave = s.5.5.4.2.1 }, s.4.2.3)

  window_within : (fields : List (List ℕ)) (window : Window) → Spells a_window fields window → IsWindowWithinLimits window
  unfolding a_window
  window_within fields window s = subst IsWindowWithinLimits (sym s.5.5.1) (record { from = s.4.2.1; to = s.5.4.2.1 })

  -- the parts of what all of a list have
  firsts : {A : Type 0} (P Q : A → Type 0) (items : List A) → All (λ item. P item × Q item) items → All P items
  firsts P Q items all k d within = (all k d within).0

  seconds : {A : Type 0} (P Q : A → Type 0) (items : List A) → All (λ item. P item × Q item) items → All Q items
  seconds P Q items all k d within = (all k d within).1

  module _ (sound : AreSound known) where
    train_within : (fields : List (List ℕ)) (train : Train) → Spells (a_train known) fields train → IsTrainWithinLimits train
    train_within fields train s = found_one IsTrainWithinLimits (λ one. bytes_eq s.2.0 one.name) known.trains train sound.trains s.2.3

    point_within : (fields : List (List ℕ)) (point : ℕ) → Spells (a_point known) fields point → point < net.stops
    point_within fields point s = omega (arith, place_within s.2.0 known.railway.stops point s.2.3, sound.named.stops)

    stop_within : (before : Option Stop) (fields : List (List ℕ)) (stop : Stop) → Spells (a_stop known before) fields stop → IsStopOf stop
    unfolding a_stop
    stop_within before fields stop s = subst IsStopOf (sym s.5.5.1) (omega (arith, s.5.4.2.3), point_within s.1 s.0 s.4)

    hold_within : (fields : List (List ℕ)) (ask : Ask) → Spells (a_hold known) fields ask → IsAskWithin net ask
    unfolding a_hold
    hold_within fields ask s =
        let claim = claim_within None s.5.1 s.5.0 s.5.4 in
        let all = All-cons IsClaimOf s.5.0 [] claim (All-nil IsClaimOf) in
        subst (IsAskWithin net) (sym s.5.5.1) (
          omega (arith, s.4.2.3),
          record {
            within = firsts IsClaimWithinLimits (λ one. one.zone < net.zones) (s.5.0 ∷ []) all;
            some = omega arith;
            count = omega arith;
            joined = record {
              ticks = All-cons (λ (one : Claim). HasTicks one.span) s.5.0 [] claim.0.ordered (All-nil (λ (one : Claim). HasTicks one.span));
              apart = AllPairs-cons EndsBefore s.5.0 [] (All-nil (EndsBefore s.5.0)) none_apart;
            };
            short = omega arith;
            plain = λ none. refl;
          },
          seconds IsClaimWithinLimits (λ one. one.zone < net.zones) (s.5.0 ∷ []) all,
        )

    holds_within : (fields : List (List ℕ)) (ask : Ask) → Spells (a_holds known) fields ask → IsAskWithin net ask
    unfolding a_holds
    holds_within fields ask s =
        let claims = groups_all IsClaimOf (a_claim known) claim_within s.5.5.0 None s.5.5.5.1 s.5.5.5.0 s.5.5.5.4 in
        let apart = groups_apart known s.5.5.0 None s.5.5.5.1 s.5.5.5.0 s.5.5.5.4 in
        let within = firsts IsClaimWithinLimits (λ one. one.zone < net.zones) s.5.5.5.0 claims.0 in
        let reason = reason_short s.5.4.2.0 s.5.0 s.5.4.2.3 in
        let some : 1 ≤ length s.5.0 = subst (λ (one : List ℕ). 1 ≤ length one) reason.0 s.5.4.2.2.some in
        subst (IsAskWithin net) (sym s.5.5.5.5.1) (
          omega (arith, s.4.2.3),
          record {
            within = within;
            some = omega (arith, claims.1, s.5.5.4.2.2);
            count = omega (arith, claims.1, s.5.5.4.2.3);
            joined = record { ticks = λ k d less. (within k d less).ordered; apart = apart.1 };
            short = reason.1;
            plain = λ none. absurd (omega (arith, some, ap length none));
          },
          seconds IsClaimWithinLimits (λ one. one.zone < net.zones) s.5.5.5.0 claims.0,
        )

    pin_within : (fields : List (List ℕ)) (ask : Ask) → Spells (a_pin known) fields ask → IsAskWithin net ask
    unfolding a_pin
    pin_within fields ask s =
        let runs = groups_all IsRunOf (a_run known) run_within s.5.5.0 None s.5.5.5.1 s.5.5.5.0 s.5.5.5.4 in
        subst (IsAskWithin net) (sym s.5.5.5.5.1) (
          omega (arith, s.4.2.3),
          record {
            train = train_within s.5.1 s.5.0 s.5.4;
            some = omega (arith, runs.1, s.5.5.4.2.2);
            count = omega (arith, runs.1, s.5.5.4.2.3);
            runs = firsts IsRunWithinLimits (λ run. run.block < length net.blocks) s.5.5.5.0 runs.0;
          },
          seconds IsRunWithinLimits (λ run. run.block < length net.blocks) s.5.5.5.0 runs.0,
        )

    request_within : (fields : List (List ℕ)) (request : Request) → Spells (a_request known) fields request → IsRequestWithinLimits request × HasPoints net request
    unfolding a_request
    request_within fields request s =
        let train = s in
        let origin = train.5 in
        let destination = origin.5 in
        let depart = destination.5 in
        let arrive = depart.5 in
        let count = arrive.5 in
        let listed = count.5 in
        let stops = groups_all IsStopOf (a_stop known) stop_within count.0 None listed.1 listed.0 listed.4 in
        subst (λ (one : Request). IsRequestWithinLimits one × HasPoints net one) (sym listed.5.1) (
          record {
            train = train_within train.1 train.0 train.4;
            depart = window_within depart.1 depart.0 depart.4;
            arrive = window_within arrive.1 arrive.0 arrive.4;
            count = omega (arith, stops.1, count.4.2.3);
            dwells = firsts (λ stop. stop.dwell ≤ MAX_DWELL) (λ stop. stop.stop < net.stops) listed.0 stops.0;
          },
          record {
            origin = point_within origin.1 origin.0 origin.4;
            destination = point_within destination.1 destination.0 destination.4;
            stops = seconds (λ stop. stop.dwell ≤ MAX_DWELL) (λ stop. stop.stop < net.stops) listed.0 stops.0;
          },
        )

    ask_within : (fields : List (List ℕ)) (ask : Ask) → Spells (an_ask known) fields ask → IsAskWithin net ask
    unfolding an_ask
    ask_within fields ask s =
        let request = request_within s.5.1 s.5.0 s.5.4 in
        subst (IsAskWithin net) (sym s.5.5.1) (omega (arith, s.4.2.3), request.0, request.1)

    free_within : (fields : List (List ℕ)) (ask : Ask) → Spells a_free fields ask → IsAskWithin net ask
    unfolding a_free
    free_within fields ask s = subst (IsAskWithin net) (sym s.5.5.1) (omega (arith, s.4.2.3), omega (arith, s.5.4.2.3))

    show_within : (fields : List (List ℕ)) (ask : Ask) → Spells a_show fields ask → IsAskWithin net ask
    unfolding a_show
    show_within fields ask s = subst (IsAskWithin net) (sym s.5.1) (omega (arith, s.4.2.3))

    behind_within : (what : Word) (fields : List (List ℕ)) (ask : Ask) → Spells (behind known what) fields ask → IsAskWithin net ask
    unfolding behind
    behind_within word.Hold fields ask s = hold_within fields ask s
    behind_within word.Holds fields ask s = holds_within fields ask s
    behind_within word.Pin fields ask s = pin_within fields ask s
    behind_within word.Ask fields ask s = ask_within fields ask s
    behind_within word.Free fields ask s = free_within fields ask s
    behind_within word.Show fields ask s = show_within fields ask s
    behind_within word.Front fields ask s = subst (IsAskWithin net) (sym s.1) tt

    first_within : (first : Option Word) (fields : List (List ℕ)) (line : Line) → Spells (behind_first known first) fields line → IsLineWithin net line
    unfolding behind_first
    first_within (Some what) fields line s = subst (IsLineWithin net) (sym s.5.1) (record { after = tt; ask = behind_within what s.1 s.0 s.4 })
    first_within None fields line s =
        let t = s.5.5 in
        subst (IsLineWithin net) (sym t.5.1) (record { after = omega (arith, s.4.2.3); ask = behind_within s.5.0 t.1 t.0 t.4 })

    pub line_within : (fields : List (List ℕ)) (line : Line) → Spells (a_line known) fields line → IsLineWithin net line
    unfolding a_line
    line_within fields line s = first_within s.0 s.2 line s.5

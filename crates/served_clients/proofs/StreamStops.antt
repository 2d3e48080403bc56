-- A name that could not be opened, behind others that were.
use Rattle.std.proofs.Common.{◌≡◌, ◌≢◌, ◌∙◌, ◌++◌, ℕ, suc, List, [], ◌∷◌, All, Option, codes, inl, inr, map, refl, sym, ap, subst, take}
use Rattle.std.proofs.lemmas.List.{append_assoc}
use Rattle.std.proofs.lemmas.List.Elements.{All-cons, All-head, All-nil, All-tail}
use Rattle.outside_io.specs.Faults.{Rose}
use Rattle.outside_io.specs.Openings.{Opening, Opens as CallsOf, Standing}
use Rattle.command_reports.specs.declared.exit_status.Status.TheVariants.{Opening as not_opened}
use Rattle.command_reports.specs.Scenes.{IsReady, IsShut, Scene}
use Rattle.command_reports.proofs.Steps.{silent}
use Rattle.command_reports.specs.Refusals.{IsTold, line_with}
use Rattle.command_reports.specs.declared.refusals.Refusal.{Refusal}
use Rattle.command_reports.specs.declared.refusals.Refusal.TheVariants.{Memory}
use Rattle.command_reports.specs.Works.{Misses}
use Rattle.served_clients.specs.Lending.{AreIn, AreOut, call_of, IsAsBefore, IsIn, IsOut, Loan}
use Rattle.served_clients.specs.Refusing.{AreMade, IsOpen, IsStopped, name_at, WhyStopped}
use Rattle.command_reports.proofs.Steps.{opens_both as calls_both, take_front}
use Rattle.served_clients.proofs.StreamLoans.{as_before, in_call, in_quiet_one, out_call, out_open, out_others, out_quiet_one, round_same}
use Rattle.command_reports.proofs.Steps.{misses_both}
use Rattle.served_clients.proofs.Uses.{Apart}

-- ---- calls that stand as they stood

open_moved : (t t' : Opening → Standing) (call : Opening) → t' call ≡ t call → IsOpen t' call → IsOpen t call
open_moved t t' call same opens = subst (λ (x : Standing). IsShut x → ⊥) same opens

opens_moved : (t t' : Opening → Standing) (own : Opening) → ((call : Opening) → call ≢ own → t' call ≡ t call) → (calls : List Opening) → Misses own calls → All (IsOpen t') calls → All (IsOpen t) calls
opens_moved t t' own same [] misses opens = All-nil (IsOpen t)
opens_moved t t' own same (call ∷ calls) misses opens =
    All-cons (IsOpen t) call calls (open_moved t t' call (same call misses.0) (All-head (IsOpen t') call calls opens))
    (opens_moved t t' own same calls misses.1 (All-tail (IsOpen t') call calls opens))

-- the calls that succeeded were not told to fail
pub outs_open : {Src Snk Dsk : Type 0} (loans : List (Loan Src Snk)) (s0 s1 : Scene Src Snk Dsk) → Apart (map call_of loans) → AreOut loans s0 s1 → All (IsOpen s0.standing) (map call_of loans)
outs_open [] s0 s1 apart outs = All-nil (IsOpen s0.standing)
outs_open (loan ∷ loans) s0 s1 apart outs =
    let m = outs.0 in
    All-cons (IsOpen s0.standing) (call_of loan) (map call_of loans) (out_open loan s0 m outs.1)
    (opens_moved s0.standing m.standing (call_of loan) (out_others loan s0 m outs.1) (map call_of loans) apart.0 (outs_open loans m s1 apart.1 outs.2))

-- ---- one that failed

-- nothing was opened, since memory was wanted
pub stops_first : {Src Snk Dsk : Type 0} (calls : List Opening) (s : Scene Src Snk Dsk) → IsStopped calls s s Memory
stops_first calls s = record { count = 0; opened = silent s.opened; as_before = as_before s; why = inr refl }

-- the one call failed
pub stops_alone : {Src Snk Dsk : Type 0} (call : Opening) (s0 s1 : Scene Src Snk Dsk) (refusal : Refusal) → CallsOf (call ∷ []) s0.opened s1.opened → IsAsBefore s0 s1 → (IsReady (s0.standing call) → ⊥) → Rose s0.faults s1.faults
    → IsTold not_opened (line_with (codes "open: ") (name_at call)) refusal → IsStopped (call ∷ []) s0 s1 refusal
stops_alone call s0 s1 refusal opened same unready rose told = record {
  count = 1;
  opened = opened;
  as_before = same;
  why = inl (record {
    before = [];
    call = call;
    behind = [];
    calls_are = refl;
    opened = All-nil (IsOpen s0.standing);
    no_more = opened;
    unready = unready;
    rose = rose;
    told = told;
  });
}

-- ---- behind one that succeeded

module _ {Src Snk Dsk : Type 0} (loan : Loan Src Snk) (calls : List Opening) (s0 s1 s2 s3 : Scene Src Snk Dsk) (refusal : Refusal) (misses : Misses (call_of loan) calls) (out : IsOut loan s0 s1) (back : IsIn loan s2 s3) where
  made_more : (made : List Opening) → AreMade s1 s2 made → AreMade s0 s3 (call_of loan ∷ made)
  made_more made opened = subst (λ (o : Option (List Opening)). CallsOf (call_of loan ∷ made) s0.opened o) (sym (in_call loan s2 s3 back))
      (calls_both (call_of loan ∷ []) made s0.opened s1.opened s2.opened (out_call loan s0 s1 out) opened)

  why_more : WhyStopped calls (AreMade s1 s2) s1.standing s1.faults s2.faults refusal → WhyStopped (call_of loan ∷ calls) (AreMade s0 s3) s0.standing s0.faults s3.faults refusal
  why_more (inr memory) = inr memory
  why_more (inl cannot) =
      let own = call_of loan in
      let same : (call : Opening) → call ≢ own → s1.standing call ≡ s0.standing call = out_others loan s0 s1 out in
      let parts = misses_both own cannot.before (cannot.call ∷ cannot.behind) (subst (Misses own) cannot.calls_are misses) in
      inl (record {
        before = own ∷ cannot.before;
        call = cannot.call;
        behind = cannot.behind;
        calls_are = ap (λ (l : List Opening). own ∷ l) cannot.calls_are;
        opened = All-cons (IsOpen s0.standing) own cannot.before (out_open loan s0 s1 out) (opens_moved s0.standing s1.standing own same cannot.before parts.0 cannot.opened);
        no_more = made_more (cannot.before ++ cannot.call ∷ []) cannot.no_more;
        unready = subst (λ (x : Standing). IsReady x → ⊥) (same cannot.call parts.1.0) cannot.unready;
        rose = subst (λ (n : ℕ). Rose s0.faults n) (sym (in_quiet_one loan s2 s3 back)) (subst (λ (n : ℕ). Rose n s2.faults) (out_quiet_one loan s0 s1 out) cannot.rose);
        told = cannot.told;
      })

  pub stops_behind : IsStopped calls s1 s2 refusal → IsStopped (call_of loan ∷ calls) s0 s3 refusal
  stops_behind stops = record {
    count = suc stops.count;
    opened = made_more (take stops.count calls) stops.opened;
    as_before = round_same loan s0 s1 s2 s3 out stops.as_before back;
    why = why_more stops.why;
  }

-- behind all that succeeded
pub stops_behind_all : {Src Snk Dsk : Type 0} (loans : List (Loan Src Snk)) (calls : List Opening) (s0 s1 s2 s3 : Scene Src Snk Dsk) (refusal : Refusal) → Apart (map call_of loans ++ calls) → AreOut loans s0 s1 → IsStopped calls s1 s2 refusal → AreIn loans s2 s3
    → IsStopped (map call_of loans ++ calls) s0 s3 refusal
stops_behind_all {Src} {Snk} {Dsk} [] calls s0 s1 s2 s3 refusal apart outs stops ins =
    subst (λ (s : Scene Src Snk Dsk). IsStopped calls s0 s refusal) (sym ins) (subst (λ (s : Scene Src Snk Dsk). IsStopped calls s s2 refusal) outs stops)
stops_behind_all (loan ∷ loans) calls s0 s1 s2 s3 refusal apart outs stops ins =
    stops_behind loan (map call_of loans ++ calls) s0 outs.0 ins.0 s3 refusal apart.0 outs.1 ins.2
    (stops_behind_all loans calls outs.0 s1 s2 ins.0 refusal apart.1 outs.2 stops ins.1)

-- ---- and calls that were not made

pub stops_before : {Src Snk Dsk : Type 0} (calls behind : List Opening) (s0 s1 : Scene Src Snk Dsk) (refusal : Refusal) → IsStopped calls s0 s1 refusal → IsStopped (calls ++ behind) s0 s1 refusal
stops_before calls behind s0 s1 refusal stops =
    let more = take_front stops.count calls behind in
    record {
      count = more.0;
      opened = subst (λ (made : List Opening). CallsOf made s0.opened s1.opened) (sym more.1) stops.opened;
      as_before = stops.as_before;
      why = why_longer stops.why;
    }
  where
    why_longer : WhyStopped calls (AreMade s0 s1) s0.standing s0.faults s1.faults refusal → WhyStopped (calls ++ behind) (AreMade s0 s1) s0.standing s0.faults s1.faults refusal
    why_longer (inr memory) = inr memory
    why_longer (inl cannot) = inl (record {
      before = cannot.before;
      call = cannot.call;
      behind = cannot.behind ++ behind;
      calls_are = ap (λ (l : List Opening). l ++ behind) cannot.calls_are ∙ append_assoc cannot.before (cannot.call ∷ cannot.behind) behind;
      opened = cannot.opened;
      no_more = cannot.no_more;
      unready = cannot.unready;
      rose = cannot.rose;
      told = cannot.told;
    })

-- ---- why calls were not all made, where they stand alike and the counts are the same

module _ (own : Opening) (t t' : Opening → Standing) (same : (call : Opening) → call ≢ own → t call ≡ t' call) where
  pub opens_moved_all : (calls : List Opening) → Misses own calls → All (IsOpen t) calls → All (IsOpen t') calls
  opens_moved_all calls misses opens = opens_moved t' t own same calls misses opens

  pub stopped_moved : (made made' : List Opening → Type 0) → ((calls : List Opening) → made calls → made' calls) → (calls : List Opening) → Misses own calls → (f1 f0 f2 f3 : ℕ) (refusal : Refusal) → f0 ≡ f1 → f3 ≡ f2
      → WhyStopped calls made t f1 f2 refusal → WhyStopped calls made' t' f0 f3 refusal
  stopped_moved made made' more calls misses f1 f0 f2 f3 refusal first last (inr memory) = inr memory
  stopped_moved made made' more calls misses f1 f0 f2 f3 refusal first last (inl cannot) =
      let parts = misses_both own cannot.before (cannot.call ∷ cannot.behind) (subst (Misses own) cannot.calls_are misses) in
      inl (record {
        before = cannot.before;
        call = cannot.call;
        behind = cannot.behind;
        calls_are = cannot.calls_are;
        opened = opens_moved t' t own same cannot.before parts.0 cannot.opened;
        no_more = more (cannot.before ++ cannot.call ∷ []) cannot.no_more;
        unready = subst (λ (x : Standing). IsReady x → ⊥) (same cannot.call parts.1.0) cannot.unready;
        rose = subst (λ (n : ℕ). Rose n f3) (sym first) (subst (λ (n : ℕ). Rose f1 n) (sym last) cannot.rose);
        told = cannot.told;
      })

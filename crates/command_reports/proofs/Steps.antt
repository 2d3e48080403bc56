-- Steps that keep to their opening calls, one after another.
use Rattle.std.proofs.Common.{◌≡◌, ◌≢◌, ◌∙◌, ◌++◌, ℕ, List, [], ◌∷◌, Option, Some, None, Result, Ok, Err, inl, inr, refl, sym, subst, ap, zero, suc, ◌+◌, length, take}
use Rattle.std.specs.Prelude.{⊤}
use Rattle.std.proofs.lemmas.List.{append_assoc, append-nil}
use Rattle.outside_io.specs.Openings.{Opening, Opens as CallsOf, source_at, sink_at, disk_at}
use Rattle.outside_io.specs.Places.{Untouched}
use Rattle.command_reports.specs.Scenes.{Scene}
use Rattle.command_reports.specs.Works.{Follows, Keeps, KeepsTo, Makes, Misses, OpensInTurn}
use Rattle.command_reports.specs.declared.refusals.Refusal.{Refusal}

pub misses_both : (call : Opening) (first next : List Opening) → Misses call (first ++ next) → Misses call first × Misses call next
misses_both call [] next misses = (tt, misses)
misses_both call (made ∷ first) next misses =
    let rest = misses_both call first next misses.1 in
    ((misses.0, rest.0), rest.1)

pub keeps_more : {Src Snk Dsk : Type 0} (first next : List Opening) (old new : Scene Src Snk Dsk) → Keeps first old new → Keeps (first ++ next) old new
keeps_more first next old new keeps = record {
  standing = keeps.standing;
  sources = λ name misses. keeps.sources name (misses_both (source_at name) first next misses).0;
  sinks = λ name misses. keeps.sinks name (misses_both (sink_at name) first next misses).0;
  disks = λ name misses. keeps.disks name (misses_both (disk_at name) first next misses).0;
  report = keeps.report;
}

keeps_both : {Src Snk Dsk : Type 0} (first next : List Opening) (old between new : Scene Src Snk Dsk) → Keeps first old between → Keeps next between new → Keeps (first ++ next) old new
keeps_both first next old between new before after = record {
  standing = λ call. after.standing call ∙ before.standing call;
  sources = λ name misses.
      let both = misses_both (source_at name) first next misses in
      after.sources name both.1 ∙ before.sources name both.0;
  sinks = λ name misses.
      let both = misses_both (sink_at name) first next misses in
      after.sinks name both.1 ∙ before.sinks name both.0;
  disks = λ name misses.
      let both = misses_both (disk_at name) first next misses in
      after.disks name both.1 ∙ before.disks name both.0;
  report = after.report ∙ before.report;
}

-- some calls, and then others
pub opens_both : (first next : List Opening) (old between new : Option (List Opening)) → CallsOf first old between → CallsOf next between new → CallsOf (first ++ next) old new
opens_both first next old between None opens more = tt
opens_both first next old between (Some now) opens more =
    let here : CallsOf first old (Some more.0) = subst (CallsOf first old) more.1 opens in
    (here.0, here.1, more.2 ∙ (ap (λ (front : List Opening). front ++ next) here.2 ∙ append_assoc here.0 first next))

-- the first so many calls of a list are those of a longer one
pub take_front : (count : ℕ) (first next : List Opening) → (more : ℕ) × (take more (first ++ next) ≡ take count first)
take_front zero first next = (zero, refl)
take_front (suc count) [] next = (zero, refl)
take_front (suc count) (call ∷ first) next =
    let rest = take_front count first next in
    (suc rest.0, ap (λ (calls : List Opening). call ∷ calls) rest.1)

-- all of a list, and the first so many calls of another
take_behind : (first : List Opening) (count : ℕ) (next : List Opening) → (more : ℕ) × (take more (first ++ next) ≡ first ++ take count next)
take_behind [] count next = (count, refl)
take_behind (call ∷ first) count next =
    let rest = take_behind first count next in
    (suc rest.0, ap (λ (calls : List Opening). call ∷ calls) rest.1)

pub alone : {Src Snk Dsk : Type 0} (old : Scene Src Snk Dsk) → Keeps [] old old
alone old = record {
  standing = λ call. refl;
  sources = λ name misses. refl;
  sinks = λ name misses. refl;
  disks = λ name misses. refl;
  report = refl;
}

pub silent : (opened : Option (List Opening)) → CallsOf [] opened opened
silent None = tt
silent (Some before) = (before, refl, sym (append-nil before))

pub makes_keep : {Src Snk Dsk A : Type 0} (Is : A → Type 0) (old new : Scene Src Snk Dsk) (result : Result A Refusal) → Makes Is old new result → KeepsTo [] old new result
makes_keep {Src = Src} {Snk = Snk} {Dsk = Dsk} {A = A} Is old new (Ok made) makes =
    subst (λ (s : Scene Src Snk Dsk). KeepsTo {A = A} [] old s (Ok made)) (sym makes.0) (record { keeps = alone old; opens = silent old.opened })
makes_keep {Src = Src} {Snk = Snk} {Dsk = Dsk} {A = A} Is old new (Err refusal) makes =
    subst (λ (s : Scene Src Snk Dsk). KeepsTo {A = A} [] old s (Err refusal)) (sym makes.0) (record { keeps = alone old; opens = (zero, silent old.opened) })

follows_on : {Src Snk Dsk B : Type 0} (first next : List Opening) (old between new : Scene Src Snk Dsk) (result : Result B Refusal) → CallsOf first old.opened between.opened → OpensInTurn next between new result
    → OpensInTurn (first ++ next) old new result
follows_on first next old between new (Ok done) before after = opens_both first next old.opened between.opened new.opened before after
follows_on first next old between new (Err refusal) before after =
    let front = take_behind first after.0 next in
    (front.0, subst (λ (calls : List Opening). CallsOf calls old.opened new.opened) (sym front.1) (opens_both first (take after.0 next) old.opened between.opened new.opened before after.1))

stops : {Src Snk Dsk A B : Type 0} (first next : List Opening) (old new : Scene Src Snk Dsk) (refusal : Refusal) → KeepsTo {A = A} first old new (Err refusal) → KeepsTo {A = B} (first ++ next) old new (Err refusal)
stops first next old new refusal kept =
    let front = take_front kept.opens.0 first next in
    record {
      keeps = keeps_more first next old new kept.keeps;
      opens = (front.0, subst (λ (calls : List Opening). CallsOf calls old.opened new.opened) (sym front.1) kept.opens.1);
    }

goes_on : {Src Snk Dsk A B : Type 0} (first next : List Opening) (old between new : Scene Src Snk Dsk) (given : A) (result : Result B Refusal) → KeepsTo {A = A} first old between (Ok given) → KeepsTo next between new result
    → KeepsTo (first ++ next) old new result
goes_on first next old between new given result before after = record {
  keeps = keeps_both first next old between new before.keeps after.keeps;
  opens = follows_on first next old between new result before.opens after.opens;
}

-- two steps keep to the calls of both
pub follows_keep : {Src Snk Dsk A B : Type 0} (first next : List Opening)
    (First : Scene Src Snk Dsk → Scene Src Snk Dsk → Result A Refusal → Type 0) (Next : A → Scene Src Snk Dsk → Scene Src Snk Dsk → Result B Refusal → Type 0)
    → ((old new : Scene Src Snk Dsk) (result : Result A Refusal) → First old new result → KeepsTo first old new result)
    → ((given : A) (old new : Scene Src Snk Dsk) (result : Result B Refusal) → Next given old new result → KeepsTo next old new result)
    → (old new : Scene Src Snk Dsk) (result : Result B Refusal) → Follows First Next old new result → KeepsTo (first ++ next) old new result
follows_keep first next First Next before after old new (Ok done) (inl stopped) = absurd stopped
follows_keep {A = A} {B = B} first next First Next before after old new (Err refusal) (inl stopped) =
    stops {A = A} {B = B} first next old new refusal (before old new (Err refusal) stopped)
follows_keep first next First Next before after old new result (inr goes) =
    goes_on first next old goes.between new goes.given result (before old goes.between (Ok goes.given) goes.first) (after goes.given goes.between new result goes.next)

-- two steps change no sink, where the first never does and the second does not at a refusal
pub follows_clean : {Src Snk Dsk A B : Type 0}
    (First : Scene Src Snk Dsk → Scene Src Snk Dsk → Result A Refusal → Type 0) (Next : A → Scene Src Snk Dsk → Scene Src Snk Dsk → Result B Refusal → Type 0)
    → ((old new : Scene Src Snk Dsk) (result : Result A Refusal) → First old new result → Untouched old.sinks new.sinks)
    → ((given : A) (old new : Scene Src Snk Dsk) (refusal : Refusal) → Next given old new (Err refusal) → Untouched old.sinks new.sinks)
    → (old new : Scene Src Snk Dsk) (refusal : Refusal) → Follows First Next old new (Err refusal) → Untouched old.sinks new.sinks
follows_clean First Next before after old new refusal (inl stopped) = before old new (Err refusal) stopped
follows_clean First Next before after old new refusal (inr goes) =
    λ name. after goes.given goes.between new refusal goes.next name ∙ before old goes.between (Ok goes.given) goes.first name

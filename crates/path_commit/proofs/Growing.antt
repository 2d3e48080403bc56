-- Histories that go on from turn to turn.
use Rattle.std.proofs.Common.{◌≡◌, inl, inr, ℕ, zero, suc, ◌+◌, ◌<◌, ◌≤◌, List, [], ◌∷◌, ◌++◌, length, Some, refl, sym, ◌∙◌, ap, subst, arith, append_assoc, length-append, append-nil, get_or, slice_get, take, add-one}
use Rattle.std.proofs.Math.Seq.{take-suc}
use Rattle.std.proofs.lemmas.Option.{slice_get_within}
use Rattle.rail_types.specs.declared.entries.Entry.{Entry}
use Rattle.outside_io.specs.declared.disks.Disk.{Ghosts}
use Rattle.grant_journal.specs.declared.journals.Settled.{Settled}
use Rattle.grant_journal.specs.declared.journals.Settled.TheVariants.{Done as Put, Fault as Failed}
use Rattle.grant_log.proofs.Slices.{slice_get_push}
use Rattle.path_commit.specs.declared.answers.Committed.{Committed}
use Rattle.path_commit.specs.declared.answers.Committed.TheVariants.{Done, Refused, Clash, Full, DiskFault, Unsettled, Memory}
use Rattle.path_commit.specs.declared.turns.Sent.{Sent}
use Rattle.path_commit.specs.Answers.{Commits, Settles}
use Rattle.path_commit.specs.Footings.{footing_of}
use Rattle.path_commit.specs.Ledgers.{Ledger, settled_of}
use Rattle.path_commit.specs.Runs.{AreAnswered, AreTurns, Grows, IsAnswered, IsTurn}
use Rattle.path_commit.specs.declared.stands.Footing.{Footing}

slice_get-front : {X : Type 0} (xs ys : List X) (k : ℕ) (x : X) → slice_get xs k ≡ Some x → slice_get (xs ++ ys) k ≡ Some x
slice_get-front [] ys k x e = absurd (cc)
slice_get-front (y ∷ xs) ys zero x e = e
slice_get-front (y ∷ xs) ys (suc k) x e = slice_get-front xs ys k x e

slice_get-seam : {X : Type 0} (xs ys : List X) (x : X) → slice_get (xs ++ (x ∷ ys)) (length xs) ≡ Some x
slice_get-seam [] ys x = refl
slice_get-seam (y ∷ xs) ys x = slice_get-seam xs ys x

module _ {D : Type 0} where
  pub grows-not : (ledger : Ledger D) → Grows ledger ledger
  grows-not ledger = record { footing = refl; more = []; entries = sym (append-nil ledger.entries); later = []; moments = sym (append-nil ledger.moments) }

  pub grows-then : (old mid new : Ledger D) → Grows old mid → Grows mid new → Grows old new
  grows-then old mid new first second = record {
    footing = second.footing ∙ first.footing;
    more = first.more ++ second.more;
    entries = second.entries ∙ ap (λ (l : List Entry). l ++ second.more) first.entries ∙ append_assoc old.entries first.more second.more;
    later = first.later ++ second.later;
    moments = second.moments ∙ ap (λ (l : List ℕ). l ++ second.later) first.moments ∙ append_assoc old.moments first.later second.later;
  }

  same_found : (old new : Ledger D) → footing_of new ≡ footing_of old → new.found ≡ old.found
  same_found old new footing = ap (λ (f : Footing). f.found) footing

  grows-settled : (old new : Ledger D) → Grows old new → settled_of old ≤ settled_of new
  grows-settled old new grows = omega (arith, same_found old new grows.footing, ap length grows.moments, length-append old.moments grows.later)

  -- an answer stays right
  pub answered-grows : (old new : Ledger D) (entry : Entry) (answer : Committed) → Grows old new → IsAnswered old entry answer → IsAnswered new entry answer
  answered-grows old new entry (Done at) grows told =
      let later = grows-settled old new grows in
      (let less = told.0 in omega (arith, less, later), ap (λ (l : List Entry). slice_get l at) grows.entries ∙ slice_get-front old.entries grows.more at entry told.1)
  answered-grows old new entry (Unsettled at) grows told = ap (λ (l : List Entry). slice_get l at) grows.entries ∙ slice_get-front old.entries grows.more at entry told
  answered-grows old new entry (Refused verdict) grows told = tt
  answered-grows old new entry (Clash at) grows told = tt
  answered-grows old new entry Full grows told = tt
  answered-grows old new entry DiskFault grows told = tt
  answered-grows old new entry Memory grows told = tt

module _ {D : Type 0} (disk : Ghosts D) (old new : Ledger D) (footing : footing_of new ≡ footing_of old) where
  grows-by : (more : List Entry) (later : List ℕ) → new.entries ≡ old.entries ++ more → new.moments ≡ old.moments ++ later → Grows old new
  grows-by more later entries moments = record { footing = footing; more = more; entries = entries; later = later; moments = moments }

  same-list : {X : Type 0} (now before : List X) → now ≡ before → now ≡ before ++ []
  same-list now before same = same ∙ sym (append-nil before)

  grows-same : new ≡ old → Grows old new
  grows-same same = grows-by [] [] (same-list new.entries old.entries (ap (λ (l : Ledger D). l.entries) same)) (same-list new.moments old.moments (ap (λ (l : Ledger D). l.moments) same))

  pub grows-settle : (answer : Settled) → new.entries ≡ old.entries → Settles disk old new answer → Grows old new
  grows-settle Put same told = elim told.1 [
    | inl idle ↦ grows-same idle.1
    | inr more ↦ grows-by [] (disk.clock new.disk ∷ []) (same-list new.entries old.entries same) more.1
  ]
  grows-settle Failed same told = grows-by [] [] (same-list new.entries old.entries same) (same-list new.moments old.moments told.1)

  pub grows-commit : (entry : Entry) (answer : Committed) → Commits disk old new entry answer → Grows old new
  grows-commit entry (Done at) told = grows-by (entry ∷ []) (disk.clock new.disk ∷ []) told.1 told.2
  grows-commit entry (Unsettled at) told = grows-by (entry ∷ []) [] told.1 (same-list new.moments old.moments told.2)
  grows-commit entry DiskFault told = grows-by [] [] (same-list new.entries old.entries told.0) (same-list new.moments old.moments told.1)
  grows-commit entry (Refused verdict) told = grows-same told
  grows-commit entry (Clash at) told = grows-same told
  grows-commit entry Full told = grows-same told
  grows-commit entry Memory told = grows-same told

  at_seam : (entry : Entry) (at : ℕ) → at ≡ length old.entries → new.entries ≡ old.entries ++ (entry ∷ []) → slice_get new.entries at ≡ Some entry
  at_seam entry at place entries = (λ i. slice_get (entries i) (place i)) ∙ slice_get-seam old.entries [] entry

  pub answered-commit : (entry : Entry) (answer : Committed) → settled_of old ≡ length old.entries → Commits disk old new entry answer → IsAnswered new entry answer
  answered-commit entry (Done at) idle told = (let place = told.0 in omega (arith, place, idle, same_found old new footing, ap length told.2, length-append old.moments (disk.clock new.disk ∷ [])), at_seam entry at told.0 told.1)
  answered-commit entry (Unsettled at) idle told = at_seam entry at told.0 told.1
  answered-commit entry (Refused verdict) idle told = tt
  answered-commit entry (Clash at) idle told = tt
  answered-commit entry Full idle told = tt
  answered-commit entry DiskFault idle told = tt
  answered-commit entry Memory idle told = tt

same_sent : (a b : Sent) → Some a ≡ Some b → a ≡ b
same_sent a b same = cc

-- one answer more
pub answered-more : {D : Type 0} (old new : Ledger D) (sent : List Sent) (answers : List Committed) (one : Sent) (answer : Committed) → Grows old new → AreAnswered old sent answers → slice_get sent (length answers) ≡ Some one → IsAnswered new one.entry answer → AreAnswered new sent (answers ++ (answer ∷ []))
answered-more old new sent answers one answer grows before here now k it its sent_is answer_is = elim (slice_get_push answers answer k its answer_is) [
  | inl earlier ↦ answered-grows old new it.entry its grows (before k it its sent_is earlier.1)
  | inr last ↦
      let same : one ≡ it = same_sent one it (sym here ∙ ap (slice_get sent) (sym last.0) ∙ sent_is) in
      subst (λ (s : Sent). IsAnswered new s.entry its) same (subst (IsAnswered new one.entry) last.1 now)
]

pub item_at : {X : Type 0} (xs : List X) (k : ℕ) (x : X) → k < length xs → x ≡ get_or xs k x → slice_get xs k ≡ Some x
item_at [] k x within is = absurd (omega arith)
item_at (y ∷ xs) zero x within is = ap Some (sym is)
item_at (y ∷ xs) (suc k) x within is = item_at xs k x (omega arith) is

pub none_answered : {D : Type 0} (ledger : Ledger D) (sent : List Sent) (answers : List Committed) → answers ≡ [] → AreAnswered ledger sent answers
none_answered ledger sent answers none k one answer sent_is answer_is = absurd (let within = slice_get_within answers k answer answer_is in omega (arith, within, ap length none))

-- one turn more
pub turns-more : {D : Type 0} (disk : Ghosts D) (old mid new : Ledger D) (sent : List Sent) (answers : List Committed) (one : Sent) (answer : Committed) → AreTurns disk old sent answers mid → IsTurn disk mid new one answer → AreTurns disk old (sent ++ (one ∷ [])) (answers ++ (answer ∷ [])) new
turns-more disk old mid new [] [] one answer before now = (new, subst (λ l. IsTurn disk l new one answer) before now, refl)
turns-more disk old mid new (first ∷ sent) [] one answer before now = absurd before
turns-more disk old mid new [] (told ∷ answers) one answer before now = absurd before
turns-more disk old mid new (first ∷ sent) (told ∷ answers) one answer before now = (before.0, before.1, turns-more disk before.0 mid new sent answers one answer before.2 now)

-- the items so far, with the next one
pub take-next : {X : Type 0} (xs : List X) (k : ℕ) (x : X) → k < length xs → x ≡ get_or xs k x → take (k + 1) xs ≡ take k xs ++ (x ∷ [])
take-next {X = X} xs k x within is = rw add-one (take-suc xs k x within ∙ ap (λ (y : X). take k xs ++ (y ∷ [])) (sym is))

-- What a journal with its moments keeps after each answer.
use Rattle.std.proofs.Common.{◌≡◌, inl, inr, ◌⊎◌, ℕ, ◌+◌, ◌<◌, ◌^◌, List, [], ◌∷◌, ◌++◌, length, All, sym, refl, ◌∙◌, ap, subst, arith, length-append}
use Rattle.outside_io.specs.Disks.{Spans}
use Rattle.outside_io.specs.declared.disks.Disk.{Ghosts}
use Rattle.grant_journal.specs.Gates.{Gated}
use Rattle.grant_journal.specs.Front.{IsBeforeOrAfter}
use Rattle.grant_journal.specs.Journals.{Appends, IsAtRest, IsPending, Settles as Writes}
use Rattle.grant_journal.specs.declared.journals.Written.{Written}
use Rattle.grant_journal.specs.declared.journals.Written.TheVariants.{Done, Fault}
use Rattle.grant_journal.specs.declared.journals.Stage.TheVariants.{Record, Gate}
use Rattle.grant_journal.specs.declared.journals.Settled.{Settled}
use Rattle.grant_journal.specs.declared.journals.Settled.TheVariants.{Done as Put, Fault as Failed}
use Rattle.grant_journal.proofs.Spanning.{spans-weaker}
use Rattle.grant_journal.specs.Histories.{counted, front_of, ReadsAs, ReadsAsPrefix}
use Rattle.grant_journal.proofs.Prefixes.{reads-either, reads-whole}
use Rattle.grant_journal.specs.Timed.{Timed, settled_of}
use Rattle.grant_journal.specs.Keeping.{AllAreSettled, IsKept, Keeps, LastIsPending, Left}
use Rattle.grant_journal.specs.Answers.{Enters, Leaves, Settles}
use Rattle.grant_journal.proofs.Keepings.{pending-at, rest-at, since-began, stands-for}
use Rattle.grant_journal.proofs.Commits.{kept-done, kept-faulty, kept-faulty-again, kept-pending, kept-settled, spans-again}

-- nothing is pending: all entries are settled
pub settled-at : {D : Type 0} (images : D → List ℕ → Type 0) (journal : Gated D) (header : List ℕ) (bodies : List (List ℕ)) (settled : ℕ) → ¬ (journal.gate < journal.next) → AllAreSettled images journal header bodies settled ⊎ LastIsPending images journal header bodies settled → settled ≡ length bodies
settled-at images journal header bodies settled idle (inl all) = all.count
settled-at images journal header bodies settled idle (inr last) = absurd (idle (omega (arith, last.pending.gate, last.pending.next, more (front_of header last.before) (counted last.body))))
  where
    more : (front entry : List ℕ) → length front < length (front ++ (1 ∷ entry))
    more front entry = omega (arith, length-append front (1 ∷ entry))

-- the moment is noted where an entry is settled
abbrev pub Notes : {D : Type 0} → Ghosts D → Timed D → Timed D → Written → Type 0
Notes disk old new Done = new.moments ≡ old.moments ++ disk.clock new.journal.disk ∷ []
Notes disk old new (Fault stage) = new.moments ≡ old.moments

module _ {D : Type 0} (disk : Ghosts D) (only : (d : D) (image : List ℕ) → disk.since d (disk.clock d) image → disk.images d image) (old new : Timed D) (header : List ℕ) (bodies : List (List ℕ)) (kept : Keeps disk old header bodies) (made : new.made ≡ old.made) (found : new.found ≡ old.found) where
  -- the numbers that stay
  keeps-by : (bodies' : List (List ℕ)) (moments : List ℕ) → new.moments ≡ moments → IsKept disk.images disk.clock disk.since new.journal header bodies' old.made old.found moments → Keeps disk new header bodies'
  keeps-by bodies' moments is new_kept = rw (made, found, is) new_kept

  left-by : (P Q : List ℕ → Type 0) → Spans disk.clock disk.since old.journal.disk new.journal.disk P → ((image : List ℕ) → disk.images old.journal.disk image → Q image) → ((image : List ℕ) → P image → Q image) → Left disk old.journal.disk new.journal.disk Q
  left-by P Q span now weaker = record {
    spans = spans-weaker disk.clock disk.since old.journal.disk new.journal.disk P Q span weaker;
    began = since-began disk.images disk.clock disk.since only old.journal.disk new.journal.disk P Q now span weaker;
  }

  module _ (idle : old.journal.next ≡ old.journal.gate) (body : List ℕ) (fits : length body < 2 ^ 32) where
    all_settled : old.found + length old.moments ≡ length bodies
    all_settled = settled-at disk.images old.journal header bodies (old.found + length old.moments) (λ less. absurd (omega (arith, idle))) kept.now

    rest : IsAtRest disk.images old.journal (front_of header bodies)
    rest = rest-at disk.images disk.clock disk.since old.journal header bodies (old.found + length old.moments) all_settled kept.now

    enters-by : (written : Written) → Notes disk old new written → Appends disk.images disk.clock disk.since old.journal new.journal (front_of header bodies) (counted body) written → Enters disk old new header bodies body written
    enters-by Done noted told = record {
      keeps = keeps-by (bodies ++ body ∷ []) _ noted (kept-done disk.images disk.clock disk.since old.journal new.journal header bodies old.made old.found old.moments only body fits kept all_settled told);
      moments = noted;
      left = left-by _ _ told.1 (λ image now. inl (rest.now image now)) (reads-either header bodies body);
    }
    enters-by (Fault Record) noted told = record {
      keeps = keeps-by bodies _ noted (kept-faulty disk.images disk.clock disk.since old.journal new.journal header bodies old.made old.found old.moments kept all_settled told);
      moments = noted;
      left = left-by _ _ told.1 rest.now (λ image reads. reads);
    }
    enters-by (Fault Gate) noted told = record {
      keeps = keeps-by (bodies ++ body ∷ []) _ noted (kept-pending disk.images disk.clock disk.since old.journal new.journal header bodies old.made old.found old.moments body fits kept all_settled told);
      moments = noted;
      left = left-by _ _ told.1 (λ image now. inl (rest.now image now)) (reads-either header bodies body);
    }

    pub enters : (written told : Written) → told ≡ written → Notes disk old new written → (IsAtRest disk.images old.journal (front_of header bodies) → Appends disk.images disk.clock disk.since old.journal new.journal (front_of header bodies) (counted body) written) → Enters disk old new header bodies body told
    enters written told is noted gives = subst (Enters disk old new header bodies body) (sym is) (enters-by written noted (gives rest))

  now-reads : (image : List ℕ) → disk.images old.journal.disk image → ReadsAsPrefix header bodies (settled_of old) image
  now-reads = stands-for disk.images disk.clock disk.since old.journal header bodies (old.found + length old.moments) kept.now

  -- nothing was pending
  pub settles-idle : ¬ (old.journal.gate < old.journal.next) → new ≡ old → Settles disk old new header bodies Put
  settles-idle idle same =
      let all = settled-at disk.images old.journal header bodies (old.found + length old.moments) idle kept.now in
      let stays : Left disk old.journal.disk old.journal.disk (ReadsAsPrefix header bodies (settled_of old)) = record {
        spans = record { later = omega arith; images = λ moment image le was. inl was; kept = λ moment image le was. was };
        began = λ image was. now-reads image (only old.journal.disk image was);
      } in
      let keeps-old : Leaves disk old old header bodies old.moments (ReadsAsPrefix header bodies (settled_of old)) = record { keeps = kept; moments = refl; left = stays } in
      rw same (keeps-old, (all, inl (all, refl)))

  module _ (open_gate : old.journal.gate < old.journal.next) where
    last : LastIsPending disk.images old.journal header bodies (old.found + length old.moments)
    last = pending-at disk.images disk.clock disk.since old.journal header bodies (old.found + length old.moments) open_gate kept.now

    fewer : settled_of old < length bodies
    fewer = omega (arith, last.count, ap length last.last, length-append last.before (last.body ∷ []))

    again : Spans disk.clock disk.since old.journal.disk new.journal.disk (IsBeforeOrAfter (front_of header last.before) (counted last.body)) → Left disk old.journal.disk new.journal.disk (ReadsAsPrefix header bodies (settled_of old))
    again span = left-by _ _ (spans-again disk.images disk.clock disk.since old.journal new.journal header bodies old.made old.found old.moments kept last span) now-reads (λ image reads. reads)

    pub settles-failed : (told : Settled) → told ≡ Failed → new.moments ≡ old.moments → ((front entry : List ℕ) → IsPending disk.images old.journal front entry → Writes disk.images disk.clock disk.since old.journal new.journal front entry Failed) → Settles disk old new header bodies told
    settles-failed told is noted gives =
        let left = gives (front_of header last.before) (counted last.body) last.pending in
        subst (Settles disk old new header bodies) (sym is) (record { keeps = keeps-by bodies _ noted (kept-faulty-again disk.images disk.clock disk.since old.journal new.journal header bodies old.made old.found old.moments kept last left); moments = noted; left = again left.1 }, fewer)

    pub settles-put : (told : Settled) → told ≡ Put → new.moments ≡ old.moments ++ disk.clock new.journal.disk ∷ [] → ((front entry : List ℕ) → IsPending disk.images old.journal front entry → Writes disk.images disk.clock disk.since old.journal new.journal front entry Put) → Settles disk old new header bodies told
    settles-put told is noted gives =
        let left = gives (front_of header last.before) (counted last.body) last.pending in
        let more : settled_of new ≡ length bodies = omega (arith, found, ap length noted, length-append old.moments (disk.clock new.journal.disk ∷ []), last.count, ap length last.last, length-append last.before (last.body ∷ [])) in
        subst (Settles disk old new header bodies) (sym is) (
          record { keeps = keeps-by bodies _ noted (kept-settled disk.images disk.clock disk.since old.journal new.journal header bodies old.made old.found old.moments kept last only left); moments = refl; left = again left.1 },
          (more, inr (fewer, noted)),
        )

-- a journal at its making
pub begins : {D : Type 0} (disk : Ghosts D) (only : (d : D) (image : List ℕ) → disk.since d (disk.clock d) image → disk.images d image) (journal : Gated D) (header : List ℕ) (bodies : List (List ℕ)) (found : ℕ) → found ≡ length bodies → journal.next ≡ journal.gate → journal.gate ≡ length (front_of header bodies) → All (λ body. length body < 2 ^ 32) bodies → ((image : List ℕ) → disk.images journal.disk image → ReadsAs header bodies image) → IsKept disk.images disk.clock disk.since journal header bodies (disk.clock journal.disk) found []
begins disk only journal header bodies found count idle gate short reads = record {
  now = inl (record { count = omega (arith, count); rest = record { gate = gate; next = idle ∙ gate; now = reads } });
  short = short;
  remembers = record {
    made_before = omega arith;
    since_made = λ image was. subst (λ n. ReadsAsPrefix header bodies n image) (sym count) (reads-whole header bodies image (reads image (only journal.disk image was)));
    settled_before = λ k less. absurd (omega arith);
    since_settled = λ k less. absurd (omega arith);
  };
}

-- What a book keeps goes on from call to call.
use Rattle.std.proofs.Common.{◌≡◌, inl, inr, ◌⊎◌, ⊎_elim, ℕ, ◌+◌, ◌≤◌, ◌<◌, List, [], ◌∷◌, ◌++◌, length, sym, ◌∙◌, ap, subst, arith, length-append}
use Rattle.std.specs.Prelude.{slice_index}
use Rattle.std.proofs.Math.Seq.{get_or-append_seam}
use Rattle.std.proofs.Math.ListN.{get_or-append}
use Rattle.std.proofs.lemmas.Bool.{cases_eq}
use Rattle.std.proofs.lemmas.List.{append-nil}
use Rattle.outside_io.specs.Disks.{Spans}
use Rattle.grant_journal.specs.Gates.{Gated}
use Rattle.grant_journal.specs.Journals.{IsAtRest}
use Rattle.grant_journal.specs.Histories.{counted, front_of, ReadsAs, ReadsAsPrefix}
use Rattle.grant_journal.specs.Keeping.{AllAreSettled, LastIsPending, HasSince, Remembers}
use Rattle.grant_journal.proofs.Torn.{staged-either}
use Rattle.grant_journal.proofs.Prefixes.{front-more, reads-either, reads-whole, reads-further, reads-least, either-prefix}

module _ {D : Type 0} (images : D → List ℕ → Type 0) (clock : D → ℕ) (since : D → ℕ → List ℕ → Type 0) where
  -- images since an older moment
  pub since-goes_on : (old new : D) (P : List ℕ → Type 0) (header : List ℕ) (bodies more : List (List ℕ)) (moment least : ℕ) → Spans clock since old new P → ((image : List ℕ) → P image → ReadsAsPrefix header (bodies ++ more) least image) → moment ≤ clock old → HasSince since old moment header bodies least → HasSince since new moment header (bodies ++ more) least
  since-goes_on old new P header bodies more moment least span now le before image left = ⊎_elim (λ was. reads-further header bodies more least image (before image was)) (λ p. now image p) (span.images moment image le left)

  -- images since a call began
  pub since-began : ((disk : D) (image : List ℕ) → since disk (clock disk) image → images disk image) → (old new : D) (P Q : List ℕ → Type 0) → ((image : List ℕ) → images old image → Q image) → Spans clock since old new P → ((image : List ℕ) → P image → Q image) → (image : List ℕ) → since new (clock old) image → Q image
  since-began only old new P Q before span weaker image left = ⊎_elim (λ was. before image (only old image was)) (λ p. weaker image p) (span.images (clock old) image (omega arith) left)

  -- all that the moments tell
  pub remembers-goes_on : (old new : D) (P : List ℕ → Type 0) (header : List ℕ) (bodies more : List (List ℕ)) (made found : ℕ) (moments : List ℕ) → Spans clock since old new P → ((image : List ℕ) → P image → ReadsAsPrefix header (bodies ++ more) (found + length moments) image) → Remembers clock since old header bodies made found moments → Remembers clock since new header (bodies ++ more) made found moments
  remembers-goes_on old new P header bodies more made found moments span now before = record {
    made_before = omega (arith, before.made_before, span.later);
    since_made = since-goes_on old new P header bodies more made found span (λ image p. reads-least header (bodies ++ more) found (found + length moments) image (omega arith) (now image p)) before.made_before before.since_made;
    settled_before = λ k less. omega (arith, before.settled_before k less, span.later);
    since_settled = λ k less. since-goes_on old new P header bodies more (slice_index moments k) (found + k + 1) span (λ image p. reads-least header (bodies ++ more) (found + k + 1) (found + length moments) image (omega arith) (now image p)) (before.settled_before k less) (before.since_settled k less);
  }

  -- and where the history stays
  pub remembers-stays : (old new : D) (P : List ℕ → Type 0) (header : List ℕ) (bodies : List (List ℕ)) (made found : ℕ) (moments : List ℕ) → Spans clock since old new P → ((image : List ℕ) → P image → ReadsAsPrefix header bodies (found + length moments) image) → Remembers clock since old header bodies made found moments → Remembers clock since new header bodies made found moments
  remembers-stays old new P header bodies made found moments span now before =
      subst (λ (b : List (List ℕ)). Remembers clock since new header b made found moments) (append-nil bodies)
      (remembers-goes_on old new P header bodies [] made found moments span (λ image p. subst (λ (b : List (List ℕ)). ReadsAsPrefix header b (found + length moments) image) (sym (append-nil bodies)) (now image p)) before)

  -- a moment at which each image reads as the whole history joins them
  pub remembers-more : ((disk : D) (image : List ℕ) → since disk (clock disk) image → images disk image) → (disk : D) (header : List ℕ) (bodies : List (List ℕ)) (made found : ℕ) (moments : List ℕ) → found + length moments + 1 ≡ length bodies → ((image : List ℕ) → images disk image → ReadsAs header bodies image) → Remembers clock since disk header bodies made found moments → Remembers clock since disk header bodies made found (moments ++ (clock disk ∷ []))
  remembers-more only disk header bodies made found moments count now before = record {
    made_before = before.made_before;
    since_made = before.since_made;
    settled_before = λ k less. elim (cases_eq k (length moments)) [
      | inl last ↦ let here = at_last k last in omega arith
      | inr earlier ↦ let inside : k < length moments = omega (arith, length-append moments (clock disk ∷ [])) in let here = get_or-append moments (clock disk ∷ []) 0 k inside in omega (arith, before.settled_before k inside)
    ];
    since_settled = λ k less. elim (cases_eq k (length moments)) [
      | inl last ↦
          subst (λ (t : ℕ). HasSince since disk t header bodies (found + k + 1)) (sym (at_last k last))
          (λ image left. reads-least header bodies (found + k + 1) (length bodies) image (omega arith) (reads-whole header bodies image (now image (only disk image left))))
      | inr earlier ↦
          let inside : k < length moments = omega (arith, length-append moments (clock disk ∷ [])) in
          subst (λ (t : ℕ). HasSince since disk t header bodies (found + k + 1)) (sym (get_or-append moments (clock disk ∷ []) 0 k inside)) (before.since_settled k inside)
    ];
  }
    where
      at_last : (k : ℕ) → k ≡ length moments → slice_index (moments ++ (clock disk ∷ [])) k ≡ clock disk
      at_last k last = ap (λ (n : ℕ). slice_index (moments ++ (clock disk ∷ [])) n) last ∙ get_or-append_seam moments (clock disk) [] 0

  -- nothing is pending where all entries are settled
  pub rest-at : (journal : Gated D) (header : List ℕ) (bodies : List (List ℕ)) (settled : ℕ) → settled ≡ length bodies → AllAreSettled images journal header bodies settled ⊎ LastIsPending images journal header bodies settled → IsAtRest images journal (front_of header bodies)
  rest-at journal header bodies settled idle (inl all) = all.rest
  rest-at journal header bodies settled idle (inr last) = absurd (omega (arith, last.count, ap length last.last, length-append last.before (last.body ∷ [])))

  -- and where something is pending, the last entry is
  pub pending-at : (journal : Gated D) (header : List ℕ) (bodies : List (List ℕ)) (settled : ℕ) → journal.gate < journal.next → AllAreSettled images journal header bodies settled ⊎ LastIsPending images journal header bodies settled → LastIsPending images journal header bodies settled
  pending-at journal header bodies settled open_gate (inl all) = absurd (omega (arith, all.rest.gate, all.rest.next))
  pending-at journal header bodies settled open_gate (inr last) = last

  -- what each image of now reads as
  pub stands-for : (journal : Gated D) (header : List ℕ) (bodies : List (List ℕ)) (settled : ℕ) → AllAreSettled images journal header bodies settled ⊎ LastIsPending images journal header bodies settled → (image : List ℕ) → images journal.disk image → ReadsAsPrefix header bodies settled image
  stands-for journal header bodies settled (inl all) image left = subst (λ (n : ℕ). ReadsAsPrefix header bodies n image) (sym all.count) (reads-whole header bodies image (all.rest.now image left))
  stands-for journal header bodies settled (inr last) image left =
      let either = either-prefix header last.before last.body image (reads-either header last.before last.body image (staged-either (front_of header last.before) (counted last.body) image (last.pending.now image left))) in
      subst (λ (n : ℕ). ReadsAsPrefix header bodies n image) (sym last.count) (subst (λ (b : List (List ℕ)). ReadsAsPrefix header b (length last.before) image) (sym last.last) either)

  -- where the gate behind the last entry stands
  pub next-at : (journal : Gated D) (header : List ℕ) (bodies : List (List ℕ)) (settled : ℕ) → AllAreSettled images journal header bodies settled ⊎ LastIsPending images journal header bodies settled → journal.next ≡ length (front_of header bodies)
  next-at journal header bodies settled (inl all) = all.rest.next
  next-at journal header bodies settled (inr last) = last.pending.next ∙ ap length (sym (front-more header last.before last.body)) ∙ ap (λ (b : List (List ℕ)). length (front_of header b)) (sym last.last)

-- What is read at the beginning of a text.
use Rattle.std.proofs.Common.{◌≡◌, ◌∙◌, ap, sym, ℕ, ◌-◌, ◌+◌, List, ◌++◌, length, drop, Some, None, Err, arith, length-append}
use Rattle.std.proofs.Math.Seq.{drop-append_seam}
use Rattle.client_lines.specs.Names.{Names}
use Rattle.client_lines.proofs.Meanings.{NameLaws}
use Rattle.proof_texts.specs.declared.refusals.Proof.{Proof}
use Rattle.proof_texts.specs.declared.faults.ProofFault.{ProofFault}
use Rattle.proof_texts.specs.declared.faults.ProofFault.TheVariants.{NotUnderstood, Memory}
use Rattle.proof_texts.specs.Lines.{Beginning, Gives, proof_at}
use Rattle.proof_texts.specs.Read.{BeginsWith, BeginsWithNone, Reads}
use Rattle.proof_texts.specs.Texts.{proof_text}
use Rattle.proof_texts.specs.Told.{IsProofOf}
use Rattle.proof_texts.proofs.Beginnings.{proof_is}

pair_is : {A : Type 0} (p q : A × List ℕ) → ◌≡◌ {A = Beginning A} (Some p) (Some q) → p ≡ q
pair_is p q e = cc

module _ (laws : NameLaws) (known : Names) where
  abbrev stops : List (List ℕ)
  stops = known.railway.stops

  -- what is left behind a proof tells how long its text is
  pub begins_with : (text rest : List ℕ) (proof : Proof) (count : ℕ) → proof_at known text ≡ Some (proof, rest) → count ≡ length text - length rest → BeginsWith known text proof count
  begins_with text rest proof count is counted =
      let it = (proof_is laws known).takes text rest proof is in
      let size : length text ≡ length (proof_text stops proof) + length rest = ap length it.0 ∙ length-append (proof_text stops proof) rest in
      let same : count ≡ length (proof_text stops proof) = omega (arith, counted, size) in
      let behind : drop count text ≡ rest = rw same (ap (drop (length (proof_text stops proof))) it.0 ∙ drop-append_seam (proof_text stops proof) rest) in
      record { told = it.1; parts = it.0 ∙ ap (λ (bytes : List ℕ). proof_text stops proof ++ bytes) (sym behind); counted = same }

  none_by : (text : List ℕ) (proof : Proof) (rest : List ℕ) → proof_at known text ≡ None → proof_at known text ≡ Some (proof, rest) → ⊥
  none_by text proof rest none is = absurd cc

  pub begins_with_none : (text : List ℕ) → proof_at known text ≡ None → BeginsWithNone known text
  begins_with_none text none proof rest told same = none_by text proof rest none (ap (proof_at known) same ∙ (proof_is laws known).gives proof rest told)

  pub refused : (text : List ℕ) (fault : ProofFault) (rest : List ℕ) → Gives {A = Proof} rest (Err fault) (proof_at known text) → Reads known text (Err fault)
  refused text NotUnderstood rest none = begins_with_none text none
  refused text Memory rest none = tt

  pub read_once : (one other : Proof) (rest more : List ℕ) → IsProofOf known one → IsProofOf known other → proof_text stops one ++ rest ≡ proof_text stops other ++ more → (one ≡ other) × (rest ≡ more)
  read_once one other rest more is told same =
      let both : ◌≡◌ {A = Beginning Proof} (Some (one, rest)) (Some (other, more)) = sym ((proof_is laws known).gives one rest is) ∙ (ap (proof_at known) same ∙ (proof_is laws known).gives other more told) in
      let pairs = pair_is (one, rest) (other, more) both in
      (ap (λ (p : Proof × List ℕ). p.0) pairs, ap (λ (p : Proof × List ℕ). p.1) pairs)

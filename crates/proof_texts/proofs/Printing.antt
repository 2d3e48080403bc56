-- Parts of a proof written one behind the other.
use Rattle.std.proofs.Common.{◌≡◌, ◌∙◌, ap, refl, ℕ, List, [], ◌∷◌, ◌++◌, Result, Ok, Err, map, decimal, append_assoc}
use Rattle.std.specs.Io.{StartsWith}
use Rattle.std.specs.List.{flat_map}
use Rattle.std.specs.Prelude.{OnOk}
use Rattle.std.proofs.Transfers.{starts_with_trans}
use Rattle.byte_fields.specs.Buffered.{Buffered}
use Rattle.client_lines.specs.Fields.{spaced}
use Rattle.client_lines.proofs.Printing.{spaced-append, spaced-flat_map}
use Rattle.proof_texts.specs.Prints.{Prints, block_text}

pub spaced-numbers : (blocks : List ℕ) → spaced (map decimal blocks) ≡ flat_map block_text blocks
unfolding spaced
spaced-numbers [] = refl
spaced-numbers (block ∷ blocks) = ap (λ (rest : List ℕ). 32 ∷ (decimal block ++ rest)) (spaced-numbers blocks)

pub ruleset grouped = (spaced-numbers, spaced-flat_map, spaced-append)

behind : {E : Type 0} (a b : List ℕ) (old mid new : List ℕ) (result : Result (Unit {0}) E) → mid ≡ old ++ a → OnOk result (new ≡ mid ++ b) → OnOk result (new ≡ old ++ (a ++ b))
behind a b old mid new (Ok done) first next = next ∙ (ap (λ (front : List ℕ). front ++ b) first ∙ append_assoc old a b)
behind a b old mid new (Err e) first next = tt

-- one part, and then another
pub prints_both : {E : Type 0} (a b : List ℕ) (old mid new : Buffered) (result : Result (Unit {0}) E) → mid.held ≡ old.held ++ a → StartsWith mid.held old.held → Prints b mid new result → Prints (a ++ b) old new result
prints_both a b old mid new result first kept next = record {
  ok = behind a b old.held mid.held new.held result first next.ok;
  kept = starts_with_trans _ _ _ next.kept kept;
}

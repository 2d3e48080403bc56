-- Words name one list of proofs at most, and name them one by one.
use Rattle.std.proofs.Common.{◌≡◌, ℕ, zero, suc, ◌<◌, List, [], ◌∷◌, length, get_or, map, Bor, refl, ap₂, arith}
use Rattle.std.specs.List.{All}
use Rattle.std.proofs.lemmas.List.Elements.{All-head, All-tail}
use Rattle.command_line.proofs.Spellings.{unique_cut}
use Rattle.command_line.proofs.NamingClients.{name_lacks}
use Rattle.command_line.specs.declared.client_words.clients.ClientWord.{ClientWord}
use Rattle.command_line.specs.Proofs.{IsProofOf, IsProofWord, proof_text}
use Rattle.command_line.specs.declared.proof_words.proofs.ProofWord.{ProofWord}

abbrev proof_in : List ℕ → List ℕ → ProofWord
proof_in name file = record { client = name; file = file }

same_proof : (a b : ProofWord) → a.client ≡ b.client → a.file ≡ b.file → a ≡ b
same_proof a b names files = ap₂ proof_in names files

-- a word names one proof at most
pub proof_once : (a b : ProofWord) → IsProofWord a → IsProofWord b → proof_text a ≡ proof_text b → a ≡ b
proof_once a b is is' same =
    let cut = unique_cut 61 a.client b.client a.file b.file (name_lacks a.client is.client) (name_lacks b.client is'.client) same in
    same_proof a b cut.0 cut.1

-- words name one list of proofs at most
pub proofs_once : (clients : List ClientWord) (some others : List ProofWord) → All (IsProofOf clients) some → All (IsProofOf clients) others → map proof_text some ≡ map proof_text others → some ≡ others
proofs_once clients [] [] are are' same = refl
proofs_once clients [] (b ∷ others) are are' same = cc
proofs_once clients (a ∷ some) [] are are' same = cc
proofs_once clients (a ∷ some) (b ∷ others) are are' same =
    let heads : proof_text a ≡ proof_text b = cc in
    let tails : map proof_text some ≡ map proof_text others = cc in
    let first = proof_once a b (All-head (IsProofOf clients) a some are).formed (All-head (IsProofOf clients) b others are').formed heads in
    ap₂ (λ (x : ProofWord) (xs : List ProofWord). x ∷ xs) first (proofs_once clients some others (All-tail (IsProofOf clients) a some are) (All-tail (IsProofOf clients) b others are') tails)

abbrev pub text_of : Bor (List ℕ) → List ℕ
text_of word = word.now

-- a proof of the clients that a word names
pub record Names (clients : List ClientWord) (text : List ℕ) : Type 0 where
  pub proof : ProofWord
  pub is : IsProofOf clients proof
  pub spelled : proof_text proof ≡ text

-- where words name proofs of the clients, each word names one
pub names_each : (clients : List ClientWord) (proofs : List ProofWord) (words : List (Bor (List ℕ))) (i : ℕ) (d : Bor (List ℕ)) → All (IsProofOf clients) proofs → map proof_text proofs ≡ map text_of words → i < length words → Names clients (get_or words i d).now
names_each clients [] [] i d are same within = absurd (omega (arith, within))
names_each clients [] (word ∷ words) i d are same within = cc
names_each clients (proof ∷ proofs) [] i d are same within = absurd (omega (arith, within))
names_each clients (proof ∷ proofs) (word ∷ words) zero d are same within = record {
  proof = proof;
  is = All-head (IsProofOf clients) proof proofs are;
  spelled = cc;
}
names_each clients (proof ∷ proofs) (word ∷ words) (suc i) d are same within =
    let tails : map proof_text proofs ≡ map text_of words = cc in
    names_each clients proofs words i d (All-tail (IsProofOf clients) proof proofs are) tails (omega (arith, within))

-- Words name one list of clients at most.
use Rattle.std.proofs.Common.{◌≡◌, inl, inr, ℕ, zero, suc, ◌<◌, List, [], ◌∷◌, ◌++◌, length, get_or, map, Bor, refl, ap₂, arith}
use Rattle.std.specs.List.{All}
use Rattle.std.proofs.lemmas.List.Elements.{All-head, All-tail}
use Rattle.rail_types.specs.Limits.{IsClientName, IsNameByte}
use Rattle.command_line.specs.Spelling.{Lacks}
use Rattle.command_line.proofs.Spellings.{unique_cut}
use Rattle.command_line.specs.Clients.{client_text, IsClientWord}
use Rattle.command_line.specs.declared.client_words.clients.ClientWord.{ClientWord}

-- no byte of a name is `=`
no_name_byte : (byte : ℕ) → IsNameByte byte → byte ≡ 61 → ⊥
no_name_byte byte (inl upper) is = omega (arith, upper.0, upper.1, is)
no_name_byte byte (inr (inl lower)) is = omega (arith, lower.0, lower.1, is)
no_name_byte byte (inr (inr (inl digit))) is = omega (arith, digit.0, digit.1, is)
no_name_byte byte (inr (inr (inr (inl low)))) is = omega (arith, low, is)
no_name_byte byte (inr (inr (inr (inr dash)))) is = omega (arith, dash, is)

pub name_lacks : (name : List ℕ) → IsClientName name → Lacks 61 name
name_lacks name is i within same = no_name_byte (get_or name i 0) (is.bytes i 0 within) same

abbrev client_with : List ℕ → List ℕ → List ℕ → ClientWord
client_with name input output = record { client = name; input = input; output = output }

same_client : (a b : ClientWord) → a.client ≡ b.client → a.input ≡ b.input → a.output ≡ b.output → a ≡ b
same_client a b names inputs outputs = ap₂ (λ (f : List ℕ → ClientWord) (output : List ℕ). f output) (ap₂ client_with names inputs) outputs

-- a word names one client at most
pub names_once : (a b : ClientWord) → IsClientWord a → IsClientWord b → client_text a ≡ client_text b → a ≡ b
names_once a b is is' same =
    let first = unique_cut 61 a.client b.client (a.input ++ 58 ∷ a.output) (b.input ++ 58 ∷ b.output) (name_lacks a.client is.client) (name_lacks b.client is'.client) same in
    let second = unique_cut 58 a.input b.input a.output b.output is.input.no_colon is'.input.no_colon first.1 in
    same_client a b first.0 second.0 second.1

-- words name one list of clients at most
pub clients_once : (some others : List ClientWord) → All IsClientWord some → All IsClientWord others → map client_text some ≡ map client_text others → some ≡ others
clients_once [] [] are are' same = refl
clients_once [] (b ∷ others) are are' same = cc
clients_once (a ∷ some) [] are are' same = cc
clients_once (a ∷ some) (b ∷ others) are are' same =
    let heads : client_text a ≡ client_text b = cc in
    let tails : map client_text some ≡ map client_text others = cc in
    let first = names_once a b (All-head IsClientWord a some are) (All-head IsClientWord b others are') heads in
    ap₂ (λ (x : ClientWord) (xs : List ClientWord). x ∷ xs) first (clients_once some others (All-tail IsClientWord a some are) (All-tail IsClientWord b others are') tails)

abbrev pub text_of : Bor (List ℕ) → List ℕ
text_of word = word.now

-- a client that a word names
pub record Names (text : List ℕ) : Type 0 where
  pub client : ClientWord
  pub formed : IsClientWord client
  pub spelled : client_text client ≡ text

-- where words name clients, each word names one
pub names_each : (clients : List ClientWord) (words : List (Bor (List ℕ))) (i : ℕ) (d : Bor (List ℕ)) → All IsClientWord clients → map client_text clients ≡ map text_of words → i < length words → Names (get_or words i d).now
names_each [] [] i d are same within = absurd (omega (arith, within))
names_each [] (word ∷ words) i d are same within = cc
names_each (client ∷ clients) [] i d are same within = absurd (omega (arith, within))
names_each (client ∷ clients) (word ∷ words) zero d are same within = record {
  client = client;
  formed = All-head IsClientWord client clients are;
  spelled = cc;
}
names_each (client ∷ clients) (word ∷ words) (suc i) d are same within =
    let tails : map client_text clients ≡ map text_of words = cc in
    names_each clients words i d (All-tail IsClientWord client clients are) tails (omega (arith, within))

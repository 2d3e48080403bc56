-- What single fields of a proof say.
use Rattle.std.proofs.Common.{◌≡◌, ◌∙◌, ap, sym, refl, subst, ℕ, ◌<◌, ◌^◌, List, [], ◌∷◌, ◌++◌, Bool, true, false, cond, Option, Some, None, if◌then◌else◌, decimal, arith}
use Rattle.std.specs.Str.{bytes_eq}
use Rattle.std.proofs.lemmas.Slice.Eq.{bytes_eq-Decides}
use Rattle.std.proofs.lemmas.List.Quantifiers.{position-Some}
use Rattle.json_fields.specs.Escapes.{escaped}
use Rattle.rail_types.specs.IdLists.{number_of}
use Rattle.rail_types.specs.declared.trains.Train.{Train}
use Rattle.train_file.specs.Trains.{train_named}
use Rattle.client_lines.specs.Forms.{Form, IsName, Kind, Says, Spells, a_name, a_number, chain, one}
use Rattle.client_lines.specs.Names.{Names}
use Rattle.proof_texts.specs.Forms.{is_word}
use Rattle.proof_texts.specs.Texts.{name_at}
use Rattle.proof_texts.specs.Told.{IsPointOf, IsTrainOf}

-- ---- one field, and then others

pub record IsFirst {A B : Type 0} (kind : Kind A) (next : A → Form B) (fields : List (List ℕ)) (said : B) : Type 0 where
  pub first : A
  pub field : List ℕ
  pub rest : List (List ℕ)
  pub parts : fields ≡ field ∷ rest
  pub says : Says kind field first
  pub spelled : Spells (next first) rest said

pub first_of : {A B : Type 0} (kind : Kind A) (next : A → Form B) (fields : List (List ℕ)) (said : B) → Spells (chain (one kind) next) fields said → IsFirst kind next fields said
first_of kind next fields said s = record {
  first = s.0;
  field = s.4.0;
  rest = s.2;
  parts = s.3 ∙ ap (λ (front : List (List ℕ)). front ++ s.2) s.4.1;
  says = s.4.2;
  spelled = s.5;
}

pub then_one : {A B : Type 0} (kind : Kind A) (next : A → Form B) (field : List ℕ) (rest : List (List ℕ)) (first : A) (said : B) → Says kind field first → Spells (next first) rest said
    → Spells (chain (one kind) next) (field ∷ rest) said
then_one kind next field rest first said says spelled = (first, field ∷ [], rest, refl, (field, refl, says), spelled)

-- ---- words

word_by : (word field : List ℕ) (same : Bool) (said : Unit {0}) → bytes_eq field word ≡ same → (if same then Some tt else None) ≡ Some said → field ≡ word
word_by word field true said is found = (bytes_eq-Decides field word).0 is
word_by word field false said is found = absurd cc

pub word_is : (word field : List ℕ) (said : Unit {0}) → is_word word field ≡ Some said → field ≡ word
word_is word field said found = word_by word field (bytes_eq field word) said refl found

pub is_word-same : (word : List ℕ) → is_word word word ≡ Some tt
is_word-same word = rw ((bytes_eq-Decides word word).1 refl) refl

-- ---- names

named_at : (name : List ℕ) (names : List (List ℕ)) (n : ℕ) → number_of name names ≡ Some n → name_at names n ≡ name
named_at name names n found = sym ((bytes_eq-Decides name (name_at names n)).0 (position-Some (bytes_eq name) names n [] found).1)

pub point_told : (known : Names) (field : List ℕ) (point : ℕ) → Says (a_name (λ name. number_of name known.railway.stops)) field point
    → (field ≡ escaped (name_at known.railway.stops point)) × IsPointOf known point
point_told known field point s =
    let same : name_at known.railway.stops point ≡ s.0 = named_at s.0 known.railway.stops point s.3 in
    (s.1 ∙ ap escaped (sym same), record { named = subst IsName (sym same) s.2; found = ap (λ (name : List ℕ). number_of name known.railway.stops) same ∙ s.3 })

pub tell_point : (known : Names) (point : ℕ) → IsPointOf known point → Says (a_name (λ name. number_of name known.railway.stops)) (escaped (name_at known.railway.stops point)) point
tell_point known point is = (name_at known.railway.stops point, refl, is.named, is.found)

found_by : (name : List ℕ) (item train : Train) (rest : Option Train) (is : Bool) → bytes_eq name item.name ≡ is → (rest ≡ Some train → name ≡ train.name) → cond is (Some item) rest ≡ Some train → name ≡ train.name
found_by name item train rest true is there e = let same : item ≡ train = cc in (bytes_eq-Decides name item.name).0 is ∙ ap (λ (t : Train). t.name) same
found_by name item train rest false is there e = there e

found_name : (name : List ℕ) (trains : List Train) (train : Train) → train_named name trains ≡ Some train → name ≡ train.name
found_name name [] train found = absurd cc
found_name name (item ∷ trains) train found = found_by name item train (train_named name trains) (bytes_eq name item.name) refl (found_name name trains train) found

pub train_told : (known : Names) (field : List ℕ) (train : Train) → Says (a_name (λ name. train_named name known.trains)) field train → (field ≡ escaped train.name) × IsTrainOf known train
train_told known field train s =
    let same : s.0 ≡ train.name = found_name s.0 known.trains train s.3 in
    (s.1 ∙ ap escaped same, record { named = subst IsName same s.2; found = ap (λ (name : List ℕ). train_named name known.trains) (sym same) ∙ s.3 })

pub tell_train : (known : Names) (train : Train) → IsTrainOf known train → Says (a_name (λ name. train_named name known.trains)) (escaped train.name) train
tell_train known train is = (train.name, refl, is.named, is.found)

-- ---- numbers

pub tell_number : (end n : ℕ) → n < 2 ^ 64 → n < end → Says (a_number 0 end) (decimal n) n
tell_number end n fits within = (refl, fits, omega arith, within)

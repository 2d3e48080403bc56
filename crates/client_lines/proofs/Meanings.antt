-- What reading a field gives is what the field says, for each kind of field.
use Rattle.std.proofs.Common.{◌≡◌, ◌∙◌, ap, ℕ, ◌/◌, ◌%◌, ◌≤◌, Bool, true, false, if◌then◌else◌, subst, List, [], ◌∷◌, ◌++◌, length, Option, Some, None, option_and_then, refl, arith}
use Rattle.std.proofs.lemmas.Option.{option_and_then_some}
use Rattle.json_fields.specs.Escapes.{escaped, hex_digit, is_plain}
use Rattle.json_fields.specs.NameReading.{name_in}
use Rattle.json_fields.specs.Spellings.{AreBytes, Spells}
use Rattle.client_lines.specs.Forms.{IsName, Kind, a_number, a_tick, a_word, a_name, Says}
use Rattle.client_lines.specs.Reading.{field_name, meaning}
use Rattle.client_lines.proofs.Decimals.{number_in-decimal, number_in-spells}
use Rattle.client_lines.proofs.Ticks.{tick_in-signed, tick_in-spells}

-- a byte of a name has a text of at least one byte
written_by : (byte : ℕ) (plain : Bool) (rest : List ℕ) → [] ≡ (if plain then byte ∷ [] else 37 ∷ hex_digit (byte / 16) ∷ hex_digit (byte % 16) ∷ []) ++ rest → ⊥
written_by byte true rest same = cc
written_by byte false rest same = cc

escaped_some : (bytes : List ℕ) → 1 ≤ length bytes → [] ≡ escaped bytes → ⊥
escaped_some [] some same = omega (arith, some)
escaped_some (byte ∷ bytes) some same = written_by byte (is_plain byte) (escaped bytes) same

-- names are spelled once, and read as they are spelled
pub record NameLaws : Type 0 where
  pub spelled : (text : List ℕ) → Spells text (name_in text)
  pub read : (name : List ℕ) → AreBytes name → name_in (escaped name) ≡ Some name

module _ (laws : NameLaws) where
  named : (text bytes : List ℕ) (name : Option (List ℕ)) → name_in text ≡ name → name ≡ Some bytes → Spells text name → (text ≡ escaped bytes) × AreBytes bytes
  named text bytes None is same spells = absurd cc
  named text bytes (Some other) is same spells = let one : other ≡ bytes = cc in (spells.0 ∙ ap escaped one, subst AreBytes one spells.1)

  -- a name without a byte has a text without one
  some_byte : (byte : ℕ) (rest bytes : List ℕ) → byte ∷ rest ≡ escaped bytes → 1 ≤ length bytes
  some_byte byte rest [] same = absurd (let none = same in cc)
  some_byte byte rest (first ∷ others) same = omega arith

  field_name-spells : (field bytes : List ℕ) → field_name field ≡ Some bytes → (field ≡ escaped bytes) × IsName bytes
  field_name-spells [] bytes is = absurd cc
  field_name-spells (byte ∷ rest) bytes is =
      let spells = named (byte ∷ rest) bytes (name_in (byte ∷ rest)) refl is (laws.spelled (byte ∷ rest)) in
      (spells.0, record { some = some_byte byte rest bytes spells.0; fit = spells.1 })

  some_text : (bytes text : List ℕ) → 1 ≤ length bytes → AreBytes bytes → text ≡ escaped bytes → name_in text ≡ Some bytes → field_name text ≡ Some bytes
  some_text bytes [] some fit same read = absurd (escaped_some bytes some same)
  some_text bytes (byte ∷ rest) some fit same read = read

  field_name-escaped : (bytes : List ℕ) → IsName bytes → field_name (escaped bytes) ≡ Some bytes
  field_name-escaped bytes is = some_text bytes (escaped bytes) is.some is.fit refl (laws.read bytes is.fit)

  pub meaning_says : {A : Type 0} (kind : Kind A) (field : List ℕ) (said : A) → meaning kind field ≡ Some said → Says kind field said
  meaning_says (a_number least end) field said is = number_in-spells least end said field is
  meaning_says (a_tick before) field said is = tick_in-spells before said field is
  meaning_says (a_word find) field said is = is
  meaning_says (a_name find) field said is = option_and_then_some find (field_name field) said is (λ bytes read stands. let spelled = field_name-spells field bytes read in (bytes, spelled.0, spelled.1, stands))

  pub says_meaning : {A : Type 0} (kind : Kind A) (field : List ℕ) (said : A) → Says kind field said → meaning kind field ≡ Some said
  says_meaning (a_number least end) field said says = ap (meaning (a_number least end)) says.0 ∙ number_in-decimal least end said says.1 says.2 says.3
  says_meaning (a_tick before) field said says = ap (meaning (a_tick before)) says.0 ∙ tick_in-signed before said says.1 says.2
  says_meaning (a_word find) field said says = says
  says_meaning (a_name find) field said says = ap (λ (text : List ℕ). option_and_then find (field_name text)) says.1 ∙ ap (option_and_then find) (field_name-escaped says.0 says.2) ∙ says.3

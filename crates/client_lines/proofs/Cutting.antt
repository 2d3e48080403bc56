-- The fields of a line, one after another.
use Rattle.std.proofs.Common.{◌≡◌, ℕ, Bool, false, if◌then◌else◌, List, [], ◌∷◌, nat_eq, refl, sym, ◌∙◌, ap}
use Rattle.std.proofs.lemmas.List.Splits.{slice_split_at, slice_split_none}
use Rattle.client_lines.specs.Cuts.{fields_of, IsCutAt, Lacks}

-- a line that is cut at its first space has the front as its first field
pub fields_of_cut : (line front back : List ℕ) → IsCutAt 32 line front back → fields_of line ≡ front ∷ fields_of back
fields_of_cut line front back cut = ap fields_of cut.parts ∙ slice_split_at (λ byte. nat_eq byte 32) front 32 back cut.first refl

-- a line without a space is its one field
pub fields_of_whole : (line : List ℕ) → Lacks 32 line → fields_of line ≡ line ∷ []
fields_of_whole line lacks = slice_split_none (λ byte. nat_eq byte 32) line lacks

-- the fields of what is left, where there is something left
abbrev pub left_fields : Bool → List ℕ → List (List ℕ)
left_fields is_done rest = if is_done then [] else fields_of rest

pub left_fields-cut : (is_done : Bool) (rest front back : List ℕ) (now : List (List ℕ)) → left_fields is_done rest ≡ now → is_done ≡ false → IsCutAt 32 rest front back
    → now ≡ front ∷ left_fields is_done back
left_fields-cut is_done rest front back now view more cut = rw more (sym (rw more at view) ∙ fields_of_cut rest front back cut)

pub left_fields-whole : (is_done : Bool) (rest : List ℕ) (now : List (List ℕ)) → left_fields is_done rest ≡ now → is_done ≡ false → Lacks 32 rest → now ≡ rest ∷ []
left_fields-whole is_done rest now view more lacks = sym (rw more at view) ∙ fields_of_whole rest lacks

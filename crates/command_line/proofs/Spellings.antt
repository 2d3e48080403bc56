-- Words spell one list of options at most.
use Rattle.std.proofs.Common.{◌≡◌, ◌≢◌, ◌∙◌, inl, inr, ℕ, ◌<◌, suc, List, [], ◌∷◌, ◌++◌, length, get_or, map, refl, sym, ap, ap₂, subst, arith, append_assoc, length-append}
use Rattle.std.proofs.Math.Seq.{get_or-append_seam}
use Rattle.std.proofs.lemmas.List.{append-nil}
use Rattle.command_line.specs.Spelling.{AreReadAs, Begins, dashed, IsSetting, joined, Lacks, Setting, Spell, Word}

front_lacks : (byte first : ℕ) (bytes : List ℕ) → Lacks byte (first ∷ bytes) → (first ≢ byte) × Lacks byte bytes
front_lacks byte first bytes lacks = (λ same. lacks 0 (omega arith) same, λ i within. lacks (suc i) (omega arith))

-- a text is cut at the first byte of a kind in one way
pub unique_cut : (byte : ℕ) (front other back behind : List ℕ) → Lacks byte front → Lacks byte other → front ++ byte ∷ back ≡ other ++ byte ∷ behind → (front ≡ other) × (back ≡ behind)
unique_cut byte [] [] back behind lacks lacks' same = (refl, cc)
unique_cut byte [] (x ∷ xs) back behind lacks lacks' same = absurd ((front_lacks byte x xs lacks').0 (let e : byte ≡ x = cc in sym e))
unique_cut byte (x ∷ xs) [] back behind lacks lacks' same = absurd ((front_lacks byte x xs lacks).0 (let e : x ≡ byte = cc in e))
unique_cut byte (x ∷ xs) (y ∷ ys) back behind lacks lacks' same =
    let tails : xs ++ byte ∷ back ≡ ys ++ byte ∷ behind = cc in
    let heads : x ≡ y = cc in
    let rest = unique_cut byte xs ys back behind (front_lacks byte x xs lacks).1 (front_lacks byte y ys lacks').1 tails in
    (ap₂ (λ (a : ℕ) (b : List ℕ). a ∷ b) heads rest.0, rest.1)

-- bytes that lack a byte are not cut at it
pub lacks_cut : (byte : ℕ) (whole front back : List ℕ) → Lacks byte whole → whole ≡ front ++ byte ∷ back → ⊥
lacks_cut byte whole front back lacks cut =
    let here : get_or whole (length front) 0 ≡ byte = rw cut (get_or-append_seam front byte back 0) in
    let at : length front < length whole = rw (cut, length-append) (omega arith) in
    lacks (length front) at here

abbrev setting_of : List ℕ → List ℕ → Setting
setting_of option value = record { option = option; value = value }

same_setting : (s t : Setting) → s.option ≡ t.option → s.value ≡ t.value → s ≡ t
same_setting s t options values = ap₂ setting_of options values

-- words begin with one option at most
pub begins_once : (s t : Setting) (words rest behind : List Word) → Lacks 61 s.option → Lacks 61 t.option → Begins s words rest → Begins t words behind → (s ≡ t) × (rest ≡ behind)
begins_once s t words rest behind lacks lacks' (inl one) (inl other) =
    let same : dashed s.option ∷ s.value ∷ rest ≡ dashed t.option ∷ t.value ∷ behind = sym one ∙ other in
    let options : s.option ≡ t.option = cc in
    let values : s.value ≡ t.value = cc in
    (same_setting s t options values, cc)
begins_once s t words rest behind lacks lacks' (inl one) (inr other) =
    let same : dashed s.option ∷ s.value ∷ rest ≡ joined t ∷ behind = sym one ∙ other in
    let options : s.option ≡ t.option ++ 61 ∷ t.value = cc in
    absurd (lacks_cut 61 s.option t.option t.value lacks options)
begins_once s t words rest behind lacks lacks' (inr one) (inl other) =
    let same : joined s ∷ rest ≡ dashed t.option ∷ t.value ∷ behind = sym one ∙ other in
    let options : t.option ≡ s.option ++ 61 ∷ s.value = cc in
    absurd (lacks_cut 61 t.option s.option s.value lacks' options)
begins_once s t words rest behind lacks lacks' (inr one) (inr other) =
    let same : joined s ∷ rest ≡ joined t ∷ behind = sym one ∙ other in
    let texts : s.option ++ 61 ∷ s.value ≡ t.option ++ 61 ∷ t.value = cc in
    let parts = unique_cut 61 s.option t.option s.value t.value lacks lacks' texts in
    (same_setting s t parts.0 parts.1, cc)

begins_none : (s : Setting) (rest : List Word) → Begins s [] rest → ⊥
begins_none s rest (inl one) = cc
begins_none s rest (inr one) = cc

-- a word alone whose text lacks `=` begins no option
pub begins_alone : (s : Setting) (text : List ℕ) (words rest : List Word) → words ≡ dashed text ∷ [] → Lacks 61 text → Begins s words rest → ⊥
begins_alone s text words rest is lacks (inl one) = cc
begins_alone s text words rest is lacks (inr one) =
    let same : dashed text ∷ [] ≡ joined s ∷ rest = sym is ∙ one in
    let texts : text ≡ s.option ++ 61 ∷ s.value = cc in
    lacks_cut 61 text s.option s.value lacks texts

-- no words spell no option
pub spells_nothing : (settings : List Setting) → Spell settings [] → settings ≡ []
spells_nothing [] spelled = refl
spells_nothing (s ∷ settings) spelled = absurd (begins_none s spelled.0 spelled.2)

-- what spells the rest spells the whole
abbrev pub Completes : List Setting → List Word → List Word → Type 0
Completes done rest words = (settings : List Setting) → Spell settings rest → Spell (done ++ settings) words

-- what spells the whole spells the rest
abbrev pub Continues : List Setting → List Word → List Word → Type 0
Continues done rest words = (settings : List Setting) → Spell settings words → (tail : List Setting) × (settings ≡ done ++ tail) × Spell tail rest

pub completes_more : (done : List Setting) (s : Setting) (rest behind words : List Word) → IsSetting s → Begins s rest behind → Completes done rest words → Completes (done ++ s ∷ []) behind words
completes_more done s rest behind words formed begins completes settings spelled =
    rw (append_assoc done (s ∷ []) settings) (completes (s ∷ settings) (behind, formed, begins, spelled))

continues_by : (done : List Setting) (s : Setting) (rest behind : List Word) (settings tail : List Setting) → IsSetting s → Begins s rest behind → settings ≡ done ++ tail → Spell tail rest
    → (others : List Setting) × (settings ≡ (done ++ s ∷ []) ++ others) × Spell others behind
continues_by done s rest behind settings [] formed begins is spelled = absurd (begins_none s behind (subst (λ (ws : List Word). Begins s ws behind) spelled begins))
continues_by done s rest behind settings (t ∷ tail) formed begins is spelled =
    let once = begins_once t s rest spelled.0 behind spelled.1.option formed.option spelled.2 begins in
    (tail, is ∙ (ap (λ (x : Setting). done ++ x ∷ tail) once.0 ∙ sym (append_assoc done (s ∷ []) tail)), subst (λ (ws : List Word). Spell tail ws) once.1 spelled.3)

pub continues_more : (done : List Setting) (s : Setting) (rest behind words : List Word) → IsSetting s → Begins s rest behind → Continues done rest words → Continues (done ++ s ∷ []) behind words
continues_more done s rest behind words formed begins continues settings spelled =
    let at = continues settings spelled in
    continues_by done s rest behind settings at.0 formed begins at.1 at.2

pub read_whole : (done : List Setting) (words : List Word) → Completes done [] words → Continues done [] words → AreReadAs done words
read_whole done words completes continues = record {
  spelled = subst (λ (settings : List Setting). Spell settings words) (append-nil done) (completes [] refl);
  only = λ others spelled. let at = continues others spelled in at.1 ∙ (ap (λ (tail : List Setting). done ++ tail) (spells_nothing at.0 at.2) ∙ append-nil done);
}

stuck_at : (rest : List Word) (tail : List Setting) → rest ≢ [] → ((s : Setting) (behind : List Word) → IsSetting s → Begins s rest behind → ⊥) → Spell tail rest → ⊥
stuck_at rest [] some none spelled = some spelled
stuck_at rest (s ∷ tail) some none spelled = none s spelled.0 spelled.1 spelled.2

pub map_none : {X Y : Type 0} (f : X → Y) (xs : List X) → length xs ≡ 0 → map f xs ≡ []
map_none f [] none = refl
map_none f (x ∷ xs) none = absurd (omega (arith, none))

pub map_some : {X Y : Type 0} (f : X → Y) (xs : List X) → 0 < length xs → map f xs ≢ []
map_some f [] some = absurd (omega (arith, some))
map_some f (x ∷ xs) some = λ same. cc

-- where the rest begins no option the words spell none
pub stuck : (done : List Setting) (rest words : List Word) → rest ≢ [] → ((s : Setting) (behind : List Word) → IsSetting s → Begins s rest behind → ⊥) → Continues done rest words
    → (settings : List Setting) → Spell settings words → ⊥
stuck done rest words some none continues settings spelled = let at = continues settings spelled in stuck_at rest at.0 some none at.2

-- What a crash leaves of a file that is written in parts, its first byte last.
use Rattle.std.proofs.Common.{◌≡◌, ◌≢◌, ◌⊎◌, ◌∙◌, ℕ, ◌+◌, ◌≤◌, List, [], ◌∷◌, ◌++◌, length, take, drop, get_or, Option, Some, None, option_map, IfSome, inl, inr, ⊎_elim, refl, sym, ap, subst, arith}
use Rattle.std.proofs.lemmas.Bool.{cases_eq}
use Rattle.std.proofs.lemmas.List.{append-nil, drop_all}
use Rattle.std.proofs.lemmas.Option.{same_Some}
use Rattle.outside_io.specs.Disks.{Passes, Spans, Torn, write_over}
use Rattle.outside_io.specs.declared.disks.Disk.{Ghosts as Disks}
use Rattle.carry_command.specs.Unfinished.{IsMarked, IsTornFrom, IsUnfinished, IsWholeOrUnfinished}

-- ---- torn images

torn_first : (first : ℕ) (rest image : List ℕ) → Torn 0 1 (0 ∷ rest) image → IsWholeOrUnfinished (first ∷ rest) image
torn_first first rest [] torn = absurd (let less = torn.no_shorter in omega (arith, less))
torn_first first rest (x ∷ others) torn = elim (cases_eq x first) [
  | inl same ↦ inl (λ i. same i ∷ torn.behind i)
  | inr other ↦ inr (inr (λ e. absurd (let same : x ≡ first = ap (λ (l : List ℕ). get_or l 0 0) e in omega (arith, other, same))))
]

torn_rest : (count first : ℕ) (rest image : List ℕ) → first ≢ 0 → Torn 1 count (0 ∷ []) image → IsUnfinished (first ∷ rest) image
torn_rest count first rest image mark torn = inr (λ e. mark (sym (ap (λ (l : List ℕ). get_or l 0 0) (sym torn.before ∙ e))))

torn_empty : (file image : List ℕ) → Torn 0 1 [] image → IsUnfinished file image
torn_empty file image torn = inl torn.no_longer

-- ---- contents once they are written over

mapped : (f : List ℕ → List ℕ) (contents : Option (List ℕ)) (image : List ℕ) → option_map f contents ≡ Some image → (bytes : List ℕ) × (contents ≡ Some bytes) × (image ≡ f bytes)
mapped f None image is = absurd (let wrong : ◌≡◌ {A = Option (List ℕ)} None (Some image) = is in cc)
mapped f (Some bytes) image is = (bytes, refl, sym (same_Some (f bytes) image is))

over : (f : List ℕ → List ℕ) (contents : Option (List ℕ)) (before after : List ℕ) → ((bytes : List ℕ) → contents ≡ Some bytes → bytes ≡ before) → f before ≡ after → (image : List ℕ) → option_map f contents ≡ Some image → image ≡ after
over f contents before after tells is image written =
    let was = mapped f contents image written in
    was.2 ∙ (ap f (tells was.0 was.1) ∙ is)

over_rest : (rest : List ℕ) → write_over 1 rest (0 ∷ []) ≡ 0 ∷ rest
over_rest rest = ap (λ (l : List ℕ). 0 ∷ (rest ++ l)) (drop_all (1 + length rest) (0 ∷ []) (omega arith)) ∙ ap (λ (l : List ℕ). 0 ∷ l) (append-nil rest)

-- a disk without bytes is synced; a byte of 0 is written and synced, then all but the first byte of a file, and then its first byte
module _ {D : Type 0} (disk : Disks D) (d0 d1 d2 d3 d4 : D) (file first rest : List ℕ) (marked : IsMarked file) (first_is : first ≡ take 1 file) (rest_is : rest ≡ drop 1 file) (empty : IfSome (disk.contents d0) (λ bytes. bytes ≡ []))
    (durable : (image : List ℕ) → disk.images d1 image → disk.contents d0 ≡ Some image) (same : disk.contents d1 ≡ disk.contents d0) (crash : (image : List ℕ) → disk.images d1 image → disk.images d0 image)
    (written2 : (image : List ℕ) → disk.images d2 image → option_map (write_over 0 (0 ∷ [])) (disk.contents d1) ≡ Some image) (contents2 : disk.contents d2 ≡ option_map (write_over 0 (0 ∷ [])) (disk.contents d1))
    (written3 : (image : List ℕ) → disk.images d3 image → option_map (write_over 1 rest) (disk.contents d2) ≡ Some image) (contents3 : disk.contents d3 ≡ option_map (write_over 1 rest) (disk.contents d2))
    (written4 : (image : List ℕ) → disk.images d4 image → option_map (write_over 0 first) (disk.contents d3) ≡ Some image) where
  first_byte : first ≡ marked.first ∷ []
  first_byte = first_is ∙ ap (take 1) marked.split

  whole : marked.first ∷ rest ≡ file
  whole = ap (λ (l : List ℕ). marked.first ∷ l) (rest_is ∙ ap (drop 1) marked.split) ∙ sym marked.split

  had0 : (bytes : List ℕ) → disk.contents d0 ≡ Some bytes → bytes ≡ []
  had0 bytes is = subst (λ (c : Option (List ℕ)). IfSome c (λ l. l ≡ [])) is empty

  left1 : (image : List ℕ) → disk.images d1 image → image ≡ []
  left1 image left = had0 image (durable image left)

  over2 : (image : List ℕ) → option_map (write_over 0 (0 ∷ [])) (disk.contents d1) ≡ Some image → image ≡ 0 ∷ []
  over2 = over (write_over 0 (0 ∷ [])) (disk.contents d1) [] (0 ∷ []) (λ bytes is. had0 bytes (sym same ∙ is)) refl

  left2 : (image : List ℕ) → disk.images d2 image → image ≡ 0 ∷ []
  left2 image left = over2 image (written2 image left)

  over3 : (image : List ℕ) → option_map (write_over 1 rest) (disk.contents d2) ≡ Some image → image ≡ 0 ∷ rest
  over3 = over (write_over 1 rest) (disk.contents d2) (0 ∷ []) (0 ∷ rest) (λ bytes is. over2 bytes (sym contents2 ∙ is)) (over_rest rest)

  left3 : (image : List ℕ) → disk.images d3 image → image ≡ 0 ∷ rest
  left3 image left = over3 image (written3 image left)

  over4 : (image : List ℕ) → option_map (write_over 0 first) (disk.contents d3) ≡ Some image → image ≡ file
  over4 = over (write_over 0 first) (disk.contents d3) (0 ∷ rest) file (λ bytes is. over3 bytes (sym contents3 ∙ is)) (ap (λ (piece : List ℕ). write_over 0 piece (0 ∷ rest)) first_byte ∙ whole)

  -- once all is done a crash leaves the whole file
  pub parts_whole : (image : List ℕ) → disk.images d4 image → image ≡ file
  parts_whole image left = over4 image (written4 image left)

  torn2 : (image : List ℕ) → IsTornFrom 0 1 (disk.images d1) image → IsUnfinished file image
  torn2 image torn = torn_empty file image (subst (λ (before : List ℕ). Torn 0 1 before image) (left1 torn.0 torn.1) torn.2)

  torn3 : (image : List ℕ) → IsTornFrom 1 (length rest) (disk.images d2) image → IsUnfinished file image
  torn3 image torn =
      subst (λ (l : List ℕ). IsUnfinished l image) whole (torn_rest (length rest) marked.first rest image marked.mark (subst (λ (before : List ℕ). Torn 1 (length rest) before image) (left2 torn.0 torn.1) torn.2))

  torn4 : (image : List ℕ) → IsTornFrom 0 (length first) (disk.images d3) image → IsWholeOrUnfinished file image
  torn4 image torn =
      let size : length first ≡ 1 = ap length first_byte in
      subst (λ (l : List ℕ). IsWholeOrUnfinished l image) whole (torn_first marked.first rest image (subst (λ (p : ℕ × List ℕ). Torn 0 p.0 p.1 image) (λ i. (size i, left3 torn.0 torn.1 i)) torn.2))

  module _ (time1 : Passes (disk.clock d0) (disk.clock d1) (disk.since d0) (disk.since d1) (disk.images d0) (disk.images d1)) (time2 : Spans disk.clock disk.since d1 d2 (IsTornFrom 0 1 (disk.images d1)))
      (time3 : Spans disk.clock disk.since d2 d3 (IsTornFrom 1 (length rest) (disk.images d2))) (time4 : Spans disk.clock disk.since d3 d4 (IsTornFrom 0 (length first) (disk.images d3))) where
    abbrev Leaves : List ℕ → Type 0
    Leaves image = disk.images d0 image ⊎ IsWholeOrUnfinished file image

    clock1 : disk.clock d0 ≤ disk.clock d1
    clock1 = time1.later

    clock2 : disk.clock d0 ≤ disk.clock d2
    clock2 = let later = time2.later in omega (arith, clock1, later)

    clock3 : disk.clock d0 ≤ disk.clock d3
    clock3 = let later = time3.later in omega (arith, clock2, later)

    past1 : (moment : ℕ) (image : List ℕ) → moment ≤ disk.clock d0 → disk.since d1 moment image → disk.since d0 moment image ⊎ Leaves image
    past1 moment image within left = ⊎_elim (λ past. inl past) (λ now. inr (inl (crash image now))) (time1.images moment image within left)

    past2 : (moment : ℕ) (image : List ℕ) → moment ≤ disk.clock d0 → disk.since d2 moment image → disk.since d0 moment image ⊎ Leaves image
    past2 moment image within left = ⊎_elim (λ past. past1 moment image within past) (λ torn. inr (inr (inr (torn2 image torn)))) (time2.images moment image (omega (arith, within, clock1)) left)

    past3 : (moment : ℕ) (image : List ℕ) → moment ≤ disk.clock d0 → disk.since d3 moment image → disk.since d0 moment image ⊎ Leaves image
    past3 moment image within left = ⊎_elim (λ past. past2 moment image within past) (λ torn. inr (inr (inr (torn3 image torn)))) (time3.images moment image (omega (arith, within, clock2)) left)

    -- and at each moment before it a crash left what it would have left at first, or the whole file, or bytes that are told from it
    pub parts_moments : Spans disk.clock disk.since d0 d4 Leaves
    parts_moments = record {
      later = let later = time4.later in omega (arith, clock3, later);
      images = λ moment image within left. ⊎_elim (λ past. past3 moment image within past) (λ torn. inr (inr (torn4 image torn))) (time4.images moment image (omega (arith, within, clock3)) left);
      kept = λ moment image within past.
          time4.kept moment image (omega (arith, within, clock3)) (time3.kept moment image (omega (arith, within, clock2)) (time2.kept moment image (omega (arith, within, clock1)) (time1.kept moment image within past)));
    }

-- The first position beyond its track.
use Rattle.std.proofs.Common.{◌≡◌, ℕ, ◌+◌, ◌<◌, Bool, true, false, cond, List, [], ◌∷◌, ◌++◌, length, drop, get_or, map, find, nat_lt, Option, Some, None, option_map, refl, sym, ap, ◌∙◌, ◌||◌}
use Rattle.std.proofs.lemmas.List.{at_drop_more}
use Rattle.std.proofs.lemmas.List.Folds.{find-append}
use Rattle.std.specs.List.{flat_map, list_any}
use Rattle.std.specs.Option.{option_or}
use Rattle.std.specs.Prelude.{is_some}
use Rattle.rail_types.specs.declared.infra_types.tracks.OperationalPoint.{OperationalPoint}
use Rattle.rail_types.specs.declared.infra_types.tracks.Part.{Part}
use Rattle.rail_types.specs.declared.infra_types.tracks.Track.{Track}
use Rattle.track_graph.specs.Faults.{Located, is_off, is_part_off, parts_at}
use Rattle.track_graph.specs.Pieces.{length_of}

abbrev name_of : Option Located → Option (List ℕ)
name_of found = option_map (λ located. located.id) found

abbrev at : List ℕ → Part → Located
at id part = record { id = id; track = part.track; position = part.position }

found_at : (b : Bool) (any : Bool) (here : Located) (rest : Option Located) (id : List ℕ) → here.id ≡ id → (b || any) ≡ true → (any ≡ true → name_of rest ≡ Some id) → name_of (cond b (Some here) rest) ≡ Some id
found_at true any here rest id same e more = ap (λ (n : List ℕ). Some n) same
found_at false any here rest id same e more = more e

missed_at : (b : Bool) (any : Bool) (here : Located) (rest : Option Located) → (b || any) ≡ false → (any ≡ false → rest ≡ None) → ◌≡◌ {A = Option Located} (cond b (Some here) rest) None
missed_at true any here rest e more = absurd (cc)
missed_at false any here rest e more = more e

part_found : (tracks : List Track) (id : List ℕ) (parts : List Part) → list_any (is_part_off tracks) parts ≡ true → name_of (find (is_off tracks) (map (at id) parts)) ≡ Some id
part_found tracks id [] e = absurd (cc)
part_found tracks id (part ∷ parts) e = found_at (nat_lt (length_of tracks part.track) part.position) (list_any (is_part_off tracks) parts) (at id part) (find (is_off tracks) (map (at id) parts)) id refl e (part_found tracks id parts)

part_missed : (tracks : List Track) (id : List ℕ) (parts : List Part) → list_any (is_part_off tracks) parts ≡ false → find (is_off tracks) (map (at id) parts) ≡ None
part_missed tracks id [] e = refl
part_missed tracks id (part ∷ parts) e = missed_at (nat_lt (length_of tracks part.track) part.position) (list_any (is_part_off tracks) parts) (at id part) (find (is_off tracks) (map (at id) parts)) e (part_missed tracks id parts)

named_first : (a b : Option Located) (id : List ℕ) → name_of a ≡ Some id → name_of (option_or a b) ≡ Some id
named_first None b id e = absurd (cc)
named_first (Some x) b id e = e

named_second : (a b : Option Located) → a ≡ None → option_or a b ≡ b
named_second None b e = refl
named_second (Some x) b e = absurd (cc)

module _ (tracks : List Track) (points : List OperationalPoint) (i : ℕ) (point : OperationalPoint) (within : i < length points) (read : point ≡ get_or points i point) where
  next : find (is_off tracks) (flat_map parts_at (drop i points)) ≡ option_or (find (is_off tracks) (parts_at point)) (find (is_off tracks) (flat_map parts_at (drop (i + 1) points)))
  next = at_drop_more (λ (ps : List OperationalPoint). find (is_off tracks) (flat_map parts_at ps)) points i point within
      ∙ (ap (λ (p : OperationalPoint). find (is_off tracks) (flat_map parts_at (p ∷ drop (i + 1) points))) (sym read)
      ∙ find-append (is_off tracks) (parts_at point) (flat_map parts_at (drop (i + 1) points)))

  pub point_found : (id : List ℕ) → id ≡ point.id → (any : Bool) → any ≡ list_any (is_part_off tracks) point.parts → any ≡ true → find (is_off tracks) (flat_map parts_at (drop i points)) ≡ find (is_off tracks) (flat_map parts_at points) → ◌≡◌ {A = Option (List ℕ)} (Some id) (name_of (find (is_off tracks) (flat_map parts_at points)))
  point_found id same any is hit far =
      let here = part_found tracks point.id point.parts (sym is ∙ hit) in
      let told = named_first (find (is_off tracks) (parts_at point)) (find (is_off tracks) (flat_map parts_at (drop (i + 1) points))) point.id here in
      ap (λ (n : List ℕ). Some n) same ∙ (sym told ∙ (ap name_of (sym next) ∙ ap name_of far))

  pub point_missed : (any : Bool) → any ≡ list_any (is_part_off tracks) point.parts → any ≡ false → find (is_off tracks) (flat_map parts_at (drop i points)) ≡ find (is_off tracks) (flat_map parts_at points) → find (is_off tracks) (flat_map parts_at (drop (i + 1) points)) ≡ find (is_off tracks) (flat_map parts_at points)
  point_missed any is miss far =
      let here = part_missed tracks point.id point.parts (sym is ∙ miss) in
      sym (named_second (find (is_off tracks) (parts_at point)) (find (is_off tracks) (flat_map parts_at (drop (i + 1) points))) here) ∙ (sym next ∙ far)

-- one of four searches finds the name
four_1 : (a b c d : Option Located) → is_some (name_of a) ≡ true → name_of a ≡ name_of (option_or (option_or a b) (option_or c d))
four_1 None b c d h = absurd (cc)
four_1 (Some x) b c d h = refl

four_2 : (a b c d : Option Located) → is_some (name_of a) ≡ false → is_some (name_of b) ≡ true → name_of b ≡ name_of (option_or (option_or a b) (option_or c d))
four_2 (Some x) b c d h k = absurd (cc)
four_2 None None c d h k = absurd (cc)
four_2 None (Some x) c d h k = refl

four_3 : (a b c d : Option Located) → is_some (name_of a) ≡ false → is_some (name_of b) ≡ false → is_some (name_of c) ≡ true → name_of c ≡ name_of (option_or (option_or a b) (option_or c d))
four_3 (Some x) b c d h k l = absurd (cc)
four_3 None (Some x) c d h k l = absurd (cc)
four_3 None None None d h k l = absurd (cc)
four_3 None None (Some x) d h k l = refl

four_4 : (a b c d : Option Located) → is_some (name_of a) ≡ false → is_some (name_of b) ≡ false → is_some (name_of c) ≡ false → name_of d ≡ name_of (option_or (option_or a b) (option_or c d))
four_4 (Some x) b c d h k l = absurd (cc)
four_4 None (Some x) c d h k l = absurd (cc)
four_4 None None (Some x) d h k l = absurd (cc)
four_4 None None None d h k l = refl

some_on : {X Y : Type 0} (f : X → Y) (o : Option X) (b : Bool) → is_some o ≡ b → is_some (option_map f o) ≡ b
some_on {X} {Y} f None b e = e
some_on {X} {Y} f (Some x) b e = e

module _ (p : Located → Bool) (xs ys zs ws : List Located) where
  all_four : option_or (option_or (find p xs) (find p ys)) (option_or (find p zs) (find p ws)) ≡ find p ((xs ++ ys) ++ (zs ++ ws))
  all_four = sym (find-append p (xs ++ ys) (zs ++ ws) ∙ (ap (λ (o : Option Located). option_or o (find p (zs ++ ws))) (find-append p xs ys) ∙ ap (λ (o : Option Located). option_or (option_or (find p xs) (find p ys)) o) (find-append p zs ws)))

  -- what a search told, xs an optional name, and whether it told one
  is_told : {X : Type 0} (f : X → List ℕ) (told : Option X) (b : Bool) (o : Option Located) → option_map f told ≡ name_of o → is_some told ≡ b → is_some (name_of o) ≡ b
  is_told {X} f told b o same is = ap is_some (sym same) ∙ some_on f told b is

  pub off_first : {X : Type 0} (f : X → List ℕ) (a : Option X) → option_map f a ≡ name_of (find p xs) → is_some a ≡ true → option_map f a ≡ name_of (find p ((xs ++ ys) ++ (zs ++ ws)))
  off_first {X} f a e h = e ∙ (four_1 (find p xs) (find p ys) (find p zs) (find p ws) (is_told f a true (find p xs) e h) ∙ ap name_of all_four)

  pub off_second : {X : Type 0} (f : X → List ℕ) (a b : Option X) → option_map f a ≡ name_of (find p xs) → is_some a ≡ false → option_map f b ≡ name_of (find p ys) → is_some b ≡ true → option_map f b ≡ name_of (find p ((xs ++ ys) ++ (zs ++ ws)))
  off_second {X} f a b e h d k = d ∙ (four_2 (find p xs) (find p ys) (find p zs) (find p ws) (is_told f a false (find p xs) e h) (is_told f b true (find p ys) d k) ∙ ap name_of all_four)

  pub off_third : {X : Type 0} (f : X → List ℕ) (a b c : Option X) → option_map f a ≡ name_of (find p xs) → is_some a ≡ false → option_map f b ≡ name_of (find p ys) → is_some b ≡ false → option_map f c ≡ name_of (find p zs) → is_some c ≡ true → option_map f c ≡ name_of (find p ((xs ++ ys) ++ (zs ++ ws)))
  off_third {X} f a b c e h d k g l = g ∙ (four_3 (find p xs) (find p ys) (find p zs) (find p ws) (is_told f a false (find p xs) e h) (is_told f b false (find p ys) d k) (is_told f c true (find p zs) g l) ∙ ap name_of all_four)

  pub off_fourth : {X : Type 0} (f : X → List ℕ) (a b c d : Option X) → option_map f a ≡ name_of (find p xs) → is_some a ≡ false → option_map f b ≡ name_of (find p ys) → is_some b ≡ false → option_map f c ≡ name_of (find p zs) → is_some c ≡ false → option_map f d ≡ name_of (find p ws) → option_map f d ≡ name_of (find p ((xs ++ ys) ++ (zs ++ ws)))
  off_fourth {X} f a b c d e h i k g l m = m ∙ (four_4 (find p xs) (find p ys) (find p zs) (find p ws) (is_told f a false (find p xs) e h) (is_told f b false (find p ys) i k) (is_told f c false (find p zs) g l) ∙ ap name_of all_four)

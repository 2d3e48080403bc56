-- Entries that are moved from one list to another.
use Rattle.std.proofs.Common.{◌≡◌, ◌∙◌, ap, sym, refl, subst, ℕ, ◌+◌, ◌≤◌, List, [], ◌∷◌, ◌++◌}
use Rattle.std.proofs.Common.{length, take, Some, append_assoc, length-append}
use Rattle.std.specs.Prelude.{reverse, slice_get}
use Rattle.std.proofs.lemmas.List.{length-reverse, reverse-append, take-append-le}
use Rattle.std.proofs.Math.Seq.{take-append_seam}
use Rattle.rail_types.specs.declared.entries.Entry.{Entry}
use Rattle.rail_types.specs.Timetables.{Timetable}
use Rattle.rail_types.specs.Occupation.{HeldClaim}
use Rattle.path_recover.specs.history.Following.{AreLive}
use Rattle.path_recover.specs.history.Legal.{IsLegal, Joins}

-- the last one of the entries behind others stands next
next_of : {A : Type 0} (entries ahead : List A) (x : A) → entries ++ reverse (ahead ++ x ∷ []) ≡ entries ++ x ∷ reverse ahead
next_of entries ahead x = ap (λ rest. entries ++ rest) (reverse-append ahead (x ∷ []))

pub moved : {A : Type 0} (entries ahead : List A) (x : A) → entries ++ reverse (ahead ++ x ∷ []) ≡ (entries ++ x ∷ []) ++ reverse ahead
moved entries ahead x = next_of entries ahead x ∙ sym (append_assoc entries (x ∷ []) (reverse ahead))

next_at : {A : Type 0} (entries rest : List A) (x : A) → slice_get (entries ++ x ∷ rest) (length entries) ≡ Some x
next_at [] rest x = refl
next_at (entry ∷ entries) rest x = next_at entries rest x

-- it joins the entries before it, where all are legal
pub next_joins : (timetable : Timetable) (entries ahead : List Entry) (entry : Entry) → IsLegal timetable (entries ++ reverse (ahead ++ entry ∷ [])) → Joins timetable entries entry
next_joins timetable entries ahead entry legal =
    let all : IsLegal timetable (entries ++ entry ∷ reverse ahead) = subst (IsLegal timetable) (next_of entries ahead entry) legal in
    subst (λ (front : List Entry). Joins timetable front entry) (take-append_seam entries (entry ∷ reverse ahead)) (all (length entries) entry (next_at entries (reverse ahead) entry))

pub length_all : {A : Type 0} (entries ahead : List A) → length (entries ++ reverse ahead) ≡ length entries + length ahead
length_all entries ahead = length-append entries (reverse ahead) ∙ ap (λ (n : ℕ). length entries + n) (length-reverse ahead)

-- of two fronts of one list the shorter is a front of the longer
pub front_of : {A : Type 0} (one other behind more : List A) → one ++ behind ≡ other ++ more → length one ≤ length other → take (length one) other ≡ one
front_of one other behind more same short =
    sym (take-append-le (length one) other more short) ∙ (ap (take (length one)) (sym same) ∙ take-append_seam one behind)

-- so many first ones are the front of that length
pub front_is : {A : Type 0} (entries ahead all : List A) (front : ℕ) → entries ++ reverse ahead ≡ all → length entries ≡ front → take front all ≡ entries
front_is entries ahead all front same long = rw (sym long) (ap (take (length entries)) (sym same) ∙ take-append_seam entries (reverse ahead))

-- ---- histories

pub joins_next : (timetable now : Timetable) (all entries items rest : List Entry) (entry : Entry) → IsLegal timetable all → now ≡ timetable → entries ++ reverse items ≡ all → items ≡ rest ++ entry ∷ [] → Joins now entries entry
joins_next timetable now all entries items rest entry legal same is last =
    let here : entries ++ reverse (rest ++ entry ∷ []) ≡ all = ap (λ (xs : List Entry). entries ++ reverse xs) (sym last) ∙ is in
    next_joins now entries rest entry (subst (λ (t : Timetable). IsLegal t (entries ++ reverse (rest ++ entry ∷ []))) (sym same) (subst (IsLegal timetable) (sym here) legal))

pub legal_same : (timetable now : Timetable) (entries others : List Entry) → now ≡ timetable → others ≡ entries → IsLegal timetable entries → IsLegal now others
legal_same timetable now entries others same is legal = subst (λ (t : Timetable). IsLegal t others) (sym same) (subst (IsLegal timetable) (sym is) legal)

-- what is live where a history stood is live at its first entries
pub live_on : (timetable now : Timetable) (held : List HeldClaim) (one other behind more : List Entry) (stood : ℕ) → now ≡ timetable → stood ≡ length one → AreLive timetable held one → other ++ more ≡ one ++ behind → length one ≤ length other
    → AreLive now held (take stood other)
live_on timetable now held one other behind more stood same long live all short =
    let front : take stood other ≡ one = ap (λ (n : ℕ). take n other) long ∙ front_of one other behind more (sym all) short in
    subst (λ (t : Timetable). AreLive t held (take stood other)) (sym same) (subst (λ (xs : List Entry). AreLive timetable held xs) (sym front) live)

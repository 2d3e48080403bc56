-- A file tells one history at most, and one that tells a history is not refused.
use Rattle.std.proofs.Common.{◌≡◌, ◌≢◌, ◌⊎◌, inl, inr, ℕ, zero, suc, ◌<◌, ◌≤◌, ◌^◌, List, [], ◌∷◌, ◌++◌, length, take, drop, Some, refl, sym, ap, ◌∙◌, subst, arith, rules, append_assoc, length-append}
use Rattle.std.specs.Prelude.{All, slice_get}
use Rattle.std.specs.Int.{w32, to_be_bytes}
use Rattle.std.proofs.lemmas.List.{take_at, drop_at}
use Rattle.std.proofs.lemmas.List.Elements.{All-head, All-tail}
use Rattle.rail_types.specs.declared.entries.Entry.{Entry}
use Rattle.rail_types.specs.Timetables.{Timetable}
use Rattle.entry_codec.specs.Body.{body_of}
use Rattle.entry_codec.specs.Within.{HasBody}
use Rattle.grant_log.specs.Legal.{Joins}
use Rattle.grant_journal.specs.Headers.{header_of_version}
use Rattle.grant_journal.specs.Histories.{bodies_of, counted, opened}
use Rattle.path_recover.specs.declared.journal_reading.faults.OpenFault.{OpenFault}
use Rattle.path_recover.specs.declared.journal_reading.faults.OpenFault.TheVariants.{ReadFault, Empty, OldVersion, NotAJournal, OtherNetwork, OtherBase, Damaged, Illegal, Memory}
use Rattle.path_recover.specs.Starts.{DiffersAt, start_of}
use Rattle.path_recover.specs.Walks.{BeginsWhole, IsDamagedAt, IsIllegalAt, IsSpelledIn}
use Rattle.path_recover.specs.Failing.{IsUnread}
use Rattle.path_recover.specs.Files.{IsFound, IsRefused, TellsHistory}

abbrev pub IsShort : List ℕ → Type 0
IsShort body = length body < 2 ^ 32

heads : (x y : ℕ) (xs ys : List ℕ) → x ∷ xs ≡ y ∷ ys → x ≡ y
heads x y xs ys e = cc

tails : (x y : ℕ) (xs ys : List ℕ) → x ∷ xs ≡ y ∷ ys → xs ≡ ys
tails x y xs ys e = cc

-- some entry stands behind these, and this is what is left there
record Follows (front full : List Entry) (rest end : List ℕ) : Type 0 where
  pub entry : Entry
  pub later : List Entry
  pub split : full ≡ front ++ entry ∷ later
  pub left : rest ≡ 1 ∷ (counted (body_of entry) ++ (opened (bodies_of later) ++ end))

-- the element behind the first ones
at-end : (front later : List Entry) (entry : Entry) → slice_get (front ++ entry ∷ later) (length front) ≡ Some entry
at-end [] later entry = refl
at-end (a ∷ front) later entry = at-end front later entry

in-front : (start rest : List ℕ) (at : ℕ) → at < length start → slice_get (start ++ rest) at ≡ slice_get start at
in-front [] rest at inside = absurd (omega (arith, inside))
in-front (x ∷ start) rest zero inside = refl
in-front (x ∷ start) rest (suc at) inside = in-front start rest at (omega (arith, inside))

all-behind : {X : Type 0} (P : X → Type 0) (front later : List X) (x : X) → All P (front ++ x ∷ later) → P x
all-behind P [] later x all = All-head P x later all
all-behind P (a ∷ front) later x all = all-behind P front later x (All-tail P a (front ++ x ∷ later) all)

bodies-behind : (front later : List Entry) (entry : Entry) → bodies_of (front ++ entry ∷ later) ≡ bodies_of front ++ body_of entry ∷ bodies_of later
bodies-behind [] later entry = refl
bodies-behind (a ∷ front) later entry = ap (λ (l : List (List ℕ)). body_of a ∷ l) (bodies-behind front later entry)

not_empty : (xs ys : List ℕ) (y : ℕ) → xs ++ (y ∷ ys) ≢ []
not_empty [] ys y e = absurd (cc)
not_empty (x ∷ xs) ys y e = absurd (cc)

-- behind a header
left-same : (header left right : List ℕ) → header ++ left ≡ header ++ right → left ≡ right
left-same header left right e = sym (drop_at header left (length header) refl) ∙ ap (drop (length header)) e ∙ drop_at header right (length header) refl

pub spelled-has : (version : ℕ) (entries : List Entry) → All (IsSpelledIn version) entries → All HasBody entries
spelled-has version entries all = search (all, rules)

module _ (apart : (a b : Entry) (x y : List ℕ) → HasBody a → HasBody b → body_of a ++ x ≡ body_of b ++ y → (a ≡ b) × (x ≡ y)) where
  same_record : (a b : Entry) (x y : List ℕ) → HasBody a → HasBody b → counted (body_of a) ++ x ≡ counted (body_of b) ++ y → (a ≡ b) × (x ≡ y)
  same_record a b x y has other e = apart a b x y has other (ap (drop 4) e)

  walk : (front full : List Entry) (rest more : List ℕ) (gate : ℕ) → All HasBody front → All HasBody full → gate ≢ 1 → opened (bodies_of front) ++ rest ≡ opened (bodies_of full) ++ gate ∷ more → ((front ≡ full) × (rest ≡ gate ∷ more)) ⊎ Follows front full rest (gate ∷ more)
  walk [] [] rest more gate has other shut e = inl (refl, e)
  walk [] (b ∷ full) rest more gate has other shut e = inr (record {
    entry = b;
    later = full;
    split = refl;
    left = e ∙ ap (λ (l : List ℕ). 1 ∷ l) (append_assoc (counted (body_of b)) (opened (bodies_of full)) (gate ∷ more));
  })
  walk (a ∷ front) [] rest more gate has other shut e = absurd (shut (sym (heads 1 gate ((counted (body_of a) ++ opened (bodies_of front)) ++ rest) more e)))
  walk (a ∷ front) (b ∷ full) rest more gate has other shut e =
      let behind = tails 1 1 ((counted (body_of a) ++ opened (bodies_of front)) ++ rest) ((counted (body_of b) ++ opened (bodies_of full)) ++ (gate ∷ more)) e in
      let parts = same_record a b (opened (bodies_of front) ++ rest) (opened (bodies_of full) ++ (gate ∷ more)) (All-head HasBody a front has) (All-head HasBody b full other) (sym (append_assoc (counted (body_of a)) (opened (bodies_of front)) rest) ∙ behind ∙ append_assoc (counted (body_of b)) (opened (bodies_of full)) (gate ∷ more)) in
      elim (walk front full rest more gate (All-tail HasBody a front has) (All-tail HasBody b full other) shut parts.1) [
        | inl same ↦ inl ((λ i. parts.0 i ∷ same.0 i), same.1)
        | inr follows ↦ inr (record {
          entry = follows.entry;
          later = follows.later;
          split = (λ i. sym parts.0 i ∷ follows.split i);
          left = follows.left;
        })
      ]

  module _ (timetable : Timetable) (version : ℕ) (network base file : List ℕ) where
    abbrev header : List ℕ
    header = header_of_version version network base

    -- what stands behind the header of a file that tells a history
    told-left : (entries : List Entry) (left : List ℕ) (tells : TellsHistory timetable version network base file entries) → file ≡ header ++ left → left ≡ opened (bodies_of entries) ++ tells.reads.gate ∷ tells.reads.rest
    told-left entries left tells split = left-same header left (opened (bodies_of entries) ++ tells.reads.gate ∷ tells.reads.rest) (sym split ∙ tells.reads.split ∙ append_assoc header (opened (bodies_of entries)) (tells.reads.gate ∷ tells.reads.rest))

    pub tells-once : (a b : List Entry) → TellsHistory timetable version network base file a → TellsHistory timetable version network base file b → a ≡ b
    tells-once a b one other =
        let left = opened (bodies_of a) ++ one.reads.gate ∷ one.reads.rest in
        let e = told-left b left other (one.reads.split ∙ append_assoc header (opened (bodies_of a)) (one.reads.gate ∷ one.reads.rest)) in
        elim (walk a b (one.reads.gate ∷ one.reads.rest) other.reads.rest other.reads.gate (spelled-has version a one.spelled) (spelled-has version b other.spelled) other.reads.closed e) [
          | inl same ↦ same.0
          | inr follows ↦ absurd (one.reads.closed (heads one.reads.gate 1 one.reads.rest (counted (body_of follows.entry) ++ (opened (bodies_of follows.later) ++ (other.reads.gate ∷ other.reads.rest))) follows.left))
        ]

    pub found-tells : (entries : List Entry) (gate : ℕ) → IsFound timetable version network base file entries gate → TellsHistory timetable version network base file entries
    found-tells entries gate found =
        let left = found.0 in
        let read = found.2 in record {
          legal = read.passes.legal;
          spelled = read.passes.spelled;
          short = read.passes.short;
          reads = record {
            gate = read.shut.gate;
            rest = read.shut.rest;
            split = found.1 ∙ ap (λ (l : List ℕ). header ++ l) (read.passes.split ∙ ap (λ (l : List ℕ). opened (bodies_of entries) ++ l) read.shut.split) ∙ sym (append_assoc header (opened (bodies_of entries)) (read.shut.gate ∷ read.shut.rest));
            closed = read.shut.closed;
          };
        }

    -- the entry that follows stands whole
    follows-whole : (front full : List Entry) (rest more : List ℕ) (gate : ℕ) (follows : Follows front full rest (gate ∷ more)) → All IsShort (bodies_of full) → BeginsWhole rest (body_of follows.entry) (opened (bodies_of follows.later) ++ gate ∷ more)
    follows-whole front full rest more gate follows short = record {
      split = follows.left;
      short = all-behind IsShort (bodies_of front) (bodies_of follows.later) (body_of follows.entry) (subst (All IsShort) (ap bodies_of follows.split ∙ bodies-behind front follows.later follows.entry) short);
      next = not_empty (opened (bodies_of follows.later)) more gate;
    }

    not-damaged : (entries : List Entry) (left : List ℕ) (at : ℕ) → TellsHistory timetable version network base file entries → file ≡ header ++ left → IsDamagedAt timetable version left 76 at → ⊥
    not-damaged entries left at tells split damaged =
        let reads = tells.reads in
        let e = sym damaged.passes.split ∙ told-left entries left tells split in
        elim (walk damaged.entries entries damaged.rest reads.rest reads.gate (spelled-has version damaged.entries damaged.passes.spelled) (spelled-has version entries tells.spelled) reads.closed e) [
          | inl same ↦ damaged.no_gate (record { gate = reads.gate; rest = reads.rest; split = same.1; closed = reads.closed })
          | inr follows ↦ damaged.no_entry follows.entry (opened (bodies_of follows.later) ++ reads.gate ∷ reads.rest) (all-behind (IsSpelledIn version) damaged.entries follows.later follows.entry (subst (All (IsSpelledIn version)) follows.split tells.spelled)) (follows-whole damaged.entries entries damaged.rest reads.rest reads.gate follows tells.short)
        ]

    not-illegal : (entries : List Entry) (left : List ℕ) (position : ℕ) → TellsHistory timetable version network base file entries → file ≡ header ++ left → IsIllegalAt timetable version left position → ⊥
    not-illegal entries left position tells split wrong =
        let reads = tells.reads in
        let e = sym wrong.passes.split ∙ told-left entries left tells split in
        elim (walk wrong.entries entries wrong.rest reads.rest reads.gate (spelled-has version wrong.entries wrong.passes.spelled) (spelled-has version entries tells.spelled) reads.closed e) [
          | inl same ↦ reads.closed (heads reads.gate 1 reads.rest (counted (body_of wrong.entry) ++ wrong.behind) (sym same.1 ∙ wrong.whole.split))
          | inr follows ↦
              let end = opened (bodies_of follows.later) ++ reads.gate ∷ reads.rest in
              let next = tails 1 1 (counted (body_of follows.entry) ++ end) (counted (body_of wrong.entry) ++ wrong.behind) (sym follows.left ∙ wrong.whole.split) in
              let spelled = all-behind (IsSpelledIn version) wrong.entries follows.later follows.entry (subst (All (IsSpelledIn version)) follows.split tells.spelled) in
              let same = same_record follows.entry wrong.entry end wrong.behind spelled.0 wrong.spelled.0 next in
              let here : slice_get entries (length wrong.entries) ≡ Some follows.entry = ap (λ (l : List Entry). slice_get l (length wrong.entries)) follows.split ∙ at-end wrong.entries follows.later follows.entry in
              let before : take (length wrong.entries) entries ≡ wrong.entries = ap (take (length wrong.entries)) follows.split ∙ take_at wrong.entries (follows.entry ∷ follows.later) (length wrong.entries) refl in
              wrong.stale (subst (λ (l : List Entry). Joins timetable l wrong.entry) before (subst (λ (entry : Entry). Joins timetable (take (length wrong.entries) entries) entry) same.0 (tells.legal (length wrong.entries) follows.entry here)))
        ]

    module _ (one_form : (v w : ℕ) (x y : List ℕ) → v < 2 ^ 32 → w < 2 ^ 32 → to_be_bytes w32 v ++ x ≡ to_be_bytes w32 w ++ y → (v ≡ w) × (x ≡ y)) (fits : version < 2 ^ 32) (network_size : length network ≡ 32) (base_size : length base ≡ 32) where
      -- a file that begins with the header, with all that stands behind it
      not-old : (rest behind : List ℕ) → file ≡ header ++ behind → file ≡ start_of 1 ++ rest → version ≡ 1
      not-old rest behind split old = (one_form version 1 ((network ++ base) ++ behind) rest fits (omega arith) (ap (drop 8) (sym split ∙ old))).0

      same-network : (other another left behind : List ℕ) → length other ≡ 32 → file ≡ header ++ behind → file ≡ header_of_version version other another ++ left → other ≡ network
      same-network other another left behind size split had =
          let e : (other ++ another) ++ left ≡ (network ++ base) ++ behind = ap (drop 12) (sym had ∙ split) in
          sym (take_at other (another ++ left) 32 size) ∙ ap (take 32) (sym (append_assoc other another left) ∙ e ∙ append_assoc network base behind) ∙ take_at network (base ++ behind) 32 network_size

      same-base : (another left behind : List ℕ) → length another ≡ 32 → file ≡ header ++ behind → file ≡ header_of_version version network another ++ left → another ≡ base
      same-base another left behind size split had =
          let e : (network ++ another) ++ left ≡ (network ++ base) ++ behind = ap (drop 12) (sym had ∙ split) in
          let more = left-same network (another ++ left) (base ++ behind) (sym (append_assoc network another left) ∙ e ∙ append_assoc network base behind) in
          sym (take_at another left 32 size) ∙ ap (take 32) more ∙ take_at base behind 32 base_size

      header_size : length header ≡ 76
      header_size = omega (arith, length-append network base, network_size, base_size)

      whole-header : (behind : List ℕ) → file ≡ header ++ behind → 76 ≤ length file
      whole-header behind split = omega (arith, ap length split, length-append header behind, header_size)

      no-difference : (at : ℕ) (behind : List ℕ) → file ≡ header ++ behind → DiffersAt (start_of version) file at → ⊥
      no-difference at behind split differs = differs.other (sym (in-front (start_of version) ((network ++ base) ++ behind) at differs.within) ∙ ap (λ (l : List ℕ). slice_get l at) (sym split) ∙ differs.here)

      some-file : (behind : List ℕ) → file ≡ header ++ behind → file ≡ [] → ⊥
      some-file behind split none = omega (arith, whole-header behind split, ap length none)

      by-cause : (entries : List Entry) (behind : List ℕ) (fault : OpenFault) → TellsHistory timetable version network base file entries → file ≡ header ++ behind → IsRefused timetable version network base file fault → IsUnread fault
      by-cause entries behind ReadFault tells split refused = tt
      by-cause entries behind Empty tells split refused = absurd (some-file behind split refused)
      by-cause entries behind OldVersion tells split refused = absurd (refused.other (not-old refused.rest behind split refused.split))
      by-cause entries behind (NotAJournal at) tells split refused = elim refused.place [
        | inl differs ↦ absurd (no-difference at behind split differs)
        | inr early ↦ absurd (omega (arith, whole-header behind split, early.short))
      ]
      by-cause entries behind (OtherNetwork had found) tells split refused =
          let digests = refused.3 in absurd (refused.1 (same-network had refused.2 digests.left behind digests.network_size split digests.split))
      by-cause entries behind (OtherBase had found) tells split refused =
          let digests = refused.2 in absurd (refused.1 (same-base had digests.left behind digests.base_size split digests.split))
      by-cause entries behind (Damaged at) tells split refused = absurd (not-damaged entries refused.0 at tells refused.1 refused.2)
      by-cause entries behind (Illegal entry) tells split refused = absurd (not-illegal entries refused.0 entry tells refused.1 refused.2)
      by-cause entries behind Memory tells split refused = tt

      pub not-refused : (entries : List Entry) (fault : OpenFault) → TellsHistory timetable version network base file entries → IsRefused timetable version network base file fault → IsUnread fault
      not-refused entries fault tells refused = by-cause entries (opened (bodies_of entries) ++ tells.reads.gate ∷ tells.reads.rest) fault tells (tells.reads.split ∙ append_assoc header (opened (bodies_of entries)) (tells.reads.gate ∷ tells.reads.rest)) refused

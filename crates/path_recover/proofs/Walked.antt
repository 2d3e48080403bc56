-- What has been read so far, and how one record more follows.
use Rattle.std.proofs.Common.{◌≡◌, ◌≢◌, ◌⊎◌, inl, inr, ℕ, ◌+◌, ◌<◌, ◌^◌, List, [], ◌∷◌, ◌++◌, length, refl, sym, ap, ◌∙◌, subst, arith, rules, append_assoc, length-append}
use Rattle.std.specs.Prelude.{All}
use Rattle.std.specs.Int.{w32, to_be_bytes}
use Rattle.std.proofs.lemmas.Grind.{flat_map-append}
use Rattle.std.proofs.lemmas.List.{append-nil}
use Rattle.std.proofs.lemmas.List.Elements.{All-append}
use Rattle.rail_types.specs.declared.entries.Entry.{Entry}
use Rattle.rail_types.specs.Timetables.{Timetable}
use Rattle.entry_codec.specs.Body.{body_of}
use Rattle.occupation_book.specs.Zones.{Zone}
use Rattle.occupation_book.specs.Held.{held}
use Rattle.byte_fields.specs.Unread.{Unread}
use Rattle.grant_log.specs.Following.{AreLive}
use Rattle.grant_log.specs.Legal.{IsLegal, Joins, Register}
use Rattle.grant_journal.specs.Histories.{bodies_of, counted, opened}
use Rattle.path_recover.specs.declared.journal_reading.faults.OpenFault.{OpenFault}
use Rattle.path_recover.specs.declared.journal_reading.faults.OpenFault.TheVariants.{Damaged, Illegal, Memory}
use Rattle.path_recover.specs.declared.journal_reading.records.Next.TheVariants.{Broken, Record}
use Rattle.path_recover.specs.Files.{WalkIsRefused}
use Rattle.path_recover.specs.Walks.{BeginsShut, BeginsWhole, IsDamagedAt, IsIllegalAt, IsReadTo, IsSpelledIn, NextIs, Passes}

-- the entries so far stand here, and the live claims are held
pub record Walked (timetable : Timetable) (version : ℕ) (left : List ℕ) (history : Register)
    (book : List Zone) (place : Unread) : Type 0 where
  pub same : history.timetable ≡ timetable
  pub split : left ≡ opened (bodies_of history.entries) ++ place.left
  pub short : All (λ body. length body < 2 ^ 32) (bodies_of history.entries)
  pub next : (history.entries ≡ []) ⊎ (place.left ≢ [])
  pub spelled : All (IsSpelledIn version) history.entries
  pub at : place.at ≡ length (opened (bodies_of history.entries))
  pub live : AreLive timetable (held book) history.entries
  pub zones : length book ≡ timetable.net.zones

All-one : {X : Type 0} (P : X → Type 0) (x : X) → P x → All P (x ∷ [])
All-one P x holds = search (holds, rules)

one_body : (entry : Entry) → opened (bodies_of (entry ∷ [])) ≡ 1 ∷ counted (body_of entry)
one_body entry = append-nil (1 ∷ counted (body_of entry))

bodies-more : (entries : List Entry) (entry : Entry) → bodies_of (entries ++ entry ∷ []) ≡ bodies_of entries ++ body_of entry ∷ []
bodies-more [] entry = refl
bodies-more (one ∷ entries) entry = ap (λ bodies. body_of one ∷ bodies) (bodies-more entries entry)

opened-more : (entries : List Entry) (entry : Entry) → opened (bodies_of (entries ++ entry ∷ [])) ≡ opened (bodies_of entries) ++ 1 ∷ counted (body_of entry)
opened-more entries entry =
    ap opened (bodies-more entries entry)
    ∙ flat_map-append (λ (body : List ℕ). 1 ∷ counted body) (bodies_of entries) (body_of entry ∷ [])
    ∙ ap (λ (l : List ℕ). opened (bodies_of entries) ++ l) (one_body entry)

split-more : (left rest behind : List ℕ) (entries : List Entry) (entry : Entry) → left ≡ opened (bodies_of entries) ++ rest → BeginsWhole rest (body_of entry) behind → left ≡ opened (bodies_of (entries ++ entry ∷ [])) ++ behind
split-more left rest behind entries entry split whole =
    split ∙ ap (λ (l : List ℕ). opened (bodies_of entries) ++ l) whole.split
    ∙ sym (append_assoc (opened (bodies_of entries)) (1 ∷ counted (body_of entry)) behind)
    ∙ ap (λ (l : List ℕ). l ++ behind) (sym (opened-more entries entry))

record_size : (body : List ℕ) → length (1 ∷ counted body) ≡ length body + 5
record_size body = omega (arith, length-append (to_be_bytes w32 (length body)) body, four (length body))
  where
    four : (n : ℕ) → length (to_be_bytes w32 n) ≡ 4
    four n = refl

module _ (timetable : Timetable) (version : ℕ) (left : List ℕ) (history : Register) (book : List Zone) (place : Unread) (walked : Walked timetable version left history book place) where
  pub walked-more : (entry : Entry) (next : Register) (after : List Zone) (behind : Unread) → BeginsWhole place.left (body_of entry) behind.left → IsSpelledIn version entry → behind.at ≡ place.at + (length (body_of entry) + 5) → next.timetable ≡ history.timetable → next.entries ≡ history.entries ++ entry ∷ [] → AreLive next.timetable (held after) next.entries → length after ≡ history.timetable.net.zones → Walked timetable version left next after behind
  walked-more entry next after behind whole spelled at same entries live zones = record {
    same = same ∙ walked.same;
    split = split-more left place.left behind.left history.entries entry walked.split whole ∙ ap (λ all. opened (bodies_of all) ++ behind.left) (sym entries);
    short = subst (λ all. All (λ body. length body < 2 ^ 32) (bodies_of all)) (sym entries) (subst (All (λ body. length body < 2 ^ 32)) (sym (bodies-more history.entries entry)) (All-append (λ body. length body < 2 ^ 32) (bodies_of history.entries) (body_of entry ∷ []) walked.short (All-one (λ body. length body < 2 ^ 32) (body_of entry) whole.short)));
    next = inr whole.next;
    spelled = subst (All (IsSpelledIn version)) (sym entries) (All-append (IsSpelledIn version) history.entries (entry ∷ []) walked.spelled (All-one (IsSpelledIn version) entry spelled));
    at = omega (arith, at, walked.at, ap (λ all. length (opened (bodies_of all))) entries, ap length (opened-more history.entries entry), length-append (opened (bodies_of history.entries)) (1 ∷ counted (body_of entry)), record_size (body_of entry));
    live = subst (λ t. AreLive t (held after) next.entries) (same ∙ walked.same) live;
    zones = zones ∙ ap (λ t. t.net.zones) walked.same;
  }

  passes : IsLegal history.timetable history.entries → Passes timetable version left history.entries place.left
  passes legal = record {
    split = walked.split;
    short = walked.short;
    next = walked.next;
    spelled = walked.spelled;
    legal = subst (λ t. IsLegal t history.entries) walked.same legal;
  }

  pub read-to : (gate : ℕ) → gate ≡ 76 + place.at → IsLegal history.timetable history.entries → BeginsShut place.left → IsReadTo timetable version left 76 history.entries gate
  read-to gate is legal shut = record {
    rest = place.left;
    passes = passes legal;
    shut = shut;
    place = omega (arith, is, walked.at);
  }

  pub damaged-at : (gate : ℕ) → gate ≡ 76 + place.at → IsLegal history.timetable history.entries → (BeginsShut place.left → ⊥) → ((entry : Entry) (behind : List ℕ) → IsSpelledIn version entry → BeginsWhole place.left (body_of entry) behind → ⊥) → IsDamagedAt timetable version left 76 gate
  damaged-at gate is legal no_gate no_entry = record {
    entries = history.entries;
    rest = place.left;
    passes = passes legal;
    no_gate = no_gate;
    no_entry = no_entry;
    place = omega (arith, is, walked.at);
  }

  pub illegal-at : (entry : Entry) (behind : List ℕ) (position : ℕ) → position ≡ length history.entries → IsLegal history.timetable history.entries → BeginsWhole place.left (body_of entry) behind → IsSpelledIn version entry → (Joins history.timetable history.entries entry → ⊥) → IsIllegalAt timetable version left position
  illegal-at entry behind position is legal whole spelled stale = record {
    entries = history.entries;
    rest = place.left;
    passes = passes legal;
    entry = entry;
    behind = behind;
    whole = whole;
    spelled = spelled;
    stale = λ joins. stale (subst (λ t. Joins t history.entries entry) (sym walked.same) joins);
    place = is;
  }

  -- why the walk is refused where no entry stands next, and where the next one does not join
  pub refused-next : (gate : ℕ) (behind : Unread) (fault : OpenFault) → gate ≡ 76 + place.at → IsLegal history.timetable history.entries → (fault ≡ Memory) ⊎ ((fault ≡ Damaged gate) × NextIs version place behind Broken) → WalkIsRefused timetable version left fault
  refused-next gate behind fault is legal why = elim why [
    | inl memory ↦ subst (WalkIsRefused timetable version left) (sym memory) tt
    | inr damaged ↦ subst (WalkIsRefused timetable version left) (sym damaged.0) (damaged-at gate is legal damaged.1.0 damaged.1.1)
  ]

  pub refused-join : (entry : Entry) (behind : Unread) (position : ℕ) (fault : OpenFault) → position ≡ length history.entries → IsLegal history.timetable history.entries → NextIs version place behind (Record entry) → (fault ≡ Memory) ⊎ ((fault ≡ Illegal position) × (Joins history.timetable history.entries entry → ⊥)) → WalkIsRefused timetable version left fault
  refused-join entry behind position fault is legal stands why = elim why [
    | inl memory ↦ subst (WalkIsRefused timetable version left) (sym memory) tt
    | inr stale ↦ subst (WalkIsRefused timetable version left) (sym stale.0) (illegal-at entry behind.left position is legal stands.0 stands.1 stale.1)
  ]

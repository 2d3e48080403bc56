-- Bytes that were read of a file while it grew are those of one moment.
use Rattle.std.proofs.Common.{◌≡◌, ℕ, ◌+◌, ◌<◌, ◌≤◌, zero, suc, List, [], ◌∷◌, ◌++◌, length, drop, get_or, refl, sym, ap, ◌∙◌, append_assoc, arith, Some, subst}
use Rattle.std.specs.List.{slice_get}
use Rattle.std.proofs.lemmas.List.{drop_at, drop-drop, get_or-drop, length-drop, length-append, map-append, take-append-drop}
use Rattle.std.proofs.lemmas.Option.{get_or_from_slice_get, slice_get-get_or}
use Rattle.rail_types.specs.declared.entries.Entry.{Entry}
use Rattle.rail_types.specs.Timetables.{Timetable}
use Rattle.entry_codec.specs.Body.{body_of}
use Rattle.grant_journal.specs.Front.{EndsBehind}
use Rattle.grant_journal.specs.Headers.{header_of_version}
use Rattle.grant_journal.specs.Histories.{bodies_of, counted, opened, ReadsAs}
use Rattle.path_recover.specs.Pieces.{IsFrontOf}
use Rattle.path_recover.specs.Served.{GoesOn, IsSeen, IsSeenWhole, IsServed, ToldOnce}

-- the last moment is not before the first
span : (file : ℕ → List ℕ) (at from to : ℕ) (seen : List ℕ) → IsSeen file at from to seen → from ≤ to
span file at from to [] seen = seen
span file at from to (byte ∷ more) seen =
    omega (arith, span file (at + 1) seen.0 to more seen.3, seen.1)

-- the byte that stands at a place, and what stands behind it
byte_at : (xs ys : List ℕ) (at x byte : ℕ) → drop at xs ≡ x ∷ ys → slice_get xs at ≡ Some byte → byte ≡ x
byte_at xs ys at x byte here got =
    sym (get_or_from_slice_get xs at byte 0 got) ∙ ap (λ n. get_or xs n 0) (omega (arith)) ∙ sym (get_or-drop at xs 0 0) ∙ ap (λ l. get_or l 0 0) here

behind_it : (xs ys : List ℕ) (at x : ℕ) → drop at xs ≡ x ∷ ys → drop (at + 1) xs ≡ ys
behind_it xs ys at x here = sym (drop-drop 1 at xs) ∙ ap (drop 1) here

length_of : (x : ℕ) (ys : List ℕ) → length (x ∷ ys) ≡ 1 + length ys
length_of x ys = omega (arith)

-- a place with a byte is in front of the end
within : (xs ys : List ℕ) (at x : ℕ) → drop at xs ≡ x ∷ ys → at < length xs
within xs ys at x here = omega (arith, length-drop at xs, ap length here, length_of x ys)

-- bytes that stand at a place from one moment on are what is read there
record Passed (file : ℕ → List ℕ) (known : List ℕ) (behind from to : ℕ) (seen : List ℕ) : Type 0 where
  moment : ℕ
  begun : from ≤ moment
  rest : List ℕ
  split : seen ≡ known ++ rest
  bytes : IsSeen file behind moment to rest

passed : (file : ℕ → List ℕ) (known : List ℕ) (at behind from to : ℕ) (seen : List ℕ) → at + length known ≡ behind
    → ((u : ℕ) → from ≤ u → u ≤ to → drop at (file u) ≡ known ++ drop behind (file u))
    → IsSeen file at from to seen → length (file to) ≤ at + length seen → Passed file known behind from to seen
passed file [] at behind from to seen place stands bytes end = record {
  moment = from;
  begun = omega (arith);
  rest = seen;
  split = refl;
  bytes = subst (λ n. IsSeen file n from to seen) (omega (arith, place)) bytes;
}
passed file (x ∷ known) at behind from to [] place stands bytes end =
    absurd (omega (arith, end, within (file to) (known ++ drop behind (file to)) at x (stands to bytes (omega (arith)))))
passed file (x ∷ known) at behind from to (byte ∷ more) place stands bytes end =
    let moment = bytes.0 in
    let last : moment ≤ to = span file (at + 1) moment to more bytes.3 in
    let same : byte ≡ x = byte_at (file moment) (known ++ drop behind (file moment)) at x byte (stands moment bytes.1 last) bytes.2 in
    let next = passed file known (at + 1) behind moment to more (omega (arith, place, length_of x known))
    (λ u later sooner. behind_it (file u) (known ++ drop behind (file u)) at x (stands u (omega (arith, bytes.1, later)) sooner))
    bytes.3 (omega (arith, end, length_of byte more)) in
    record {
      moment = next.moment;
      begun = omega (arith, bytes.1, next.begun);
      rest = next.rest;
      split = λ i. same i ∷ next.split i;
      bytes = next.bytes;
    }

-- what was read behind a place reads as at one moment
record WasHere (from to : ℕ) (bodies : ℕ → List (List ℕ)) (seen : List ℕ) : Type 0 where
  moment : ℕ
  begun : from ≤ moment
  ended : moment ≤ to
  reads : EndsBehind (opened (bodies moment)) seen

abbrev Stands : (ℕ → List ℕ) → (ℕ → List (List ℕ)) → ℕ → ℕ → ℕ → Type 0
Stands file bodies at from to = (u : ℕ) → from ≤ u → u ≤ to → EndsBehind (opened (bodies u)) (drop at (file u))

abbrev Grows : (ℕ → List (List ℕ)) → ℕ → ℕ → Type 0
Grows bodies from to = (u v : ℕ) → from ≤ u → u ≤ v → v ≤ to → GoesOn (bodies u) (bodies v)

-- the gate that was read was not open
shut : (file : ℕ → List ℕ) (bodies : ℕ → List (List ℕ)) (at from to byte : ℕ) (more : List ℕ) → Stands file bodies at from to
    → (bytes : IsSeen file at from to (byte ∷ more)) → bodies bytes.0 ≡ [] → bytes.0 ≤ to → WasHere from to bodies (byte ∷ more)
shut file bodies at from to byte more stands bytes none last =
    let moment = bytes.0 in
    let here = stands moment bytes.1 last in
    let front : opened (bodies moment) ≡ [] = ap opened none in
    let same : byte ≡ here.gate = byte_at (file moment) here.rest at here.gate byte (here.split ∙ ap (λ l. l ++ (here.gate ∷ here.rest)) front) bytes.2 in
    record {
      moment = moment;
      begun = bytes.1;
      ended = last;
      reads = record {
        gate = byte;
        rest = more;
        split = ap (λ l. l ++ (byte ∷ more)) (sym front);
        closed = λ one. here.closed (sym same ∙ one);
      };
    }

-- a body that is there stays there
first_stays : (x : List ℕ) (before rest now : List (List ℕ)) → before ≡ x ∷ rest → GoesOn before now → now ≡ x ∷ drop 1 now
first_stays x before rest now begins more =
    let all : now ≡ x ∷ (rest ++ more.more) = more.split ∙ ap (λ l. l ++ more.more) begins in
    all ∙ ap (λ l. x ∷ drop 1 l) (sym all)

-- what is behind a first body grows too
rest_grows : (before now : List (List ℕ)) (x : List ℕ) → before ≡ x ∷ drop 1 before → GoesOn before now → GoesOn (drop 1 before) (drop 1 now)
rest_grows before now x begins more = record {
  more = more.more;
  split = ap (drop 1) (more.split ∙ ap (λ l. l ++ more.more) begins);
}

-- the front of a body that comes first, and what stands behind it
first_behind : (x : List ℕ) (bodies : List (List ℕ)) (file : List ℕ) (at : ℕ) → bodies ≡ x ∷ drop 1 bodies
    → (here : EndsBehind (opened bodies) (drop at file))
    → drop (at + length (1 ∷ counted x)) file ≡ opened (drop 1 bodies) ++ (here.gate ∷ here.rest)
first_behind x bodies file at begins here =
    let all : drop at file ≡ (1 ∷ counted x) ++ (opened (drop 1 bodies) ++ (here.gate ∷ here.rest)) =
    here.split ∙ ap (λ l. opened l ++ (here.gate ∷ here.rest)) begins ∙ append_assoc (1 ∷ counted x) (opened (drop 1 bodies)) (here.gate ∷ here.rest) in
    sym (drop-drop (length (1 ∷ counted x)) at file) ∙ ap (drop (length (1 ∷ counted x))) all ∙ drop_at (1 ∷ counted x) (opened (drop 1 bodies) ++ (here.gate ∷ here.rest)) (length (1 ∷ counted x)) refl

first_here : (x : List ℕ) (bodies : List (List ℕ)) (file : List ℕ) (at : ℕ) → bodies ≡ x ∷ drop 1 bodies
    → EndsBehind (opened bodies) (drop at file)
    → drop at file ≡ (1 ∷ counted x) ++ drop (at + length (1 ∷ counted x)) file
first_here x bodies file at begins here =
    here.split ∙ ap (λ l. opened l ++ (here.gate ∷ here.rest)) begins ∙ append_assoc (1 ∷ counted x) (opened (drop 1 bodies)) (here.gate ∷ here.rest) ∙ ap (λ l. (1 ∷ counted x) ++ l) (sym (first_behind x bodies file at begins here))

cases_of : {R : Type 0} (bodies : List (List ℕ)) → (bodies ≡ [] → R) → ((x : List ℕ) (rest : List (List ℕ)) → bodies ≡ x ∷ rest → R) → R
cases_of [] none some = none refl
cases_of (x ∷ rest) none some = some x rest refl

count_of : (x : List ℕ) (rest : List (List ℕ)) → length (x ∷ rest) ≡ 1 + length rest
count_of x rest = omega (arith)

-- what was read of one body and behind it
joined : (x : List ℕ) (bodies : List (List ℕ)) (seen rest : List ℕ) → bodies ≡ x ∷ drop 1 bodies → seen ≡ (1 ∷ counted x) ++ rest
    → EndsBehind (opened (drop 1 bodies)) rest → EndsBehind (opened bodies) seen
joined x bodies seen rest begins split behind = record {
  gate = behind.gate;
  rest = behind.rest;
  split = split ∙ ap (λ l. (1 ∷ counted x) ++ l) behind.split ∙ sym (append_assoc (1 ∷ counted x) (opened (drop 1 bodies)) (behind.gate ∷ behind.rest)) ∙ ap (λ l. opened l ++ (behind.gate ∷ behind.rest)) (sym begins);
  closed = behind.closed;
}

walked : (n : ℕ) (file : ℕ → List ℕ) (bodies : ℕ → List (List ℕ)) (at from to : ℕ) (seen : List ℕ) → length (bodies to) ≤ n
    → Stands file bodies at from to → Grows bodies from to → IsSeen file at from to seen → length (file to) ≤ at + length seen
    → WasHere from to bodies seen
walked n file bodies at from to [] few stands grows bytes end =
    let here = stands to bytes (omega (arith)) in
    absurd (omega (arith, end, length-drop at (file to), ap length here.split, length-append (opened (bodies to)) (here.gate ∷ here.rest), length_of here.gate here.rest))
walked zero file bodies at from to (byte ∷ more) few stands grows bytes end =
    let moment = bytes.0 in
    let last : moment ≤ to = span file (at + 1) moment to more bytes.3 in
    cases_of (bodies moment) (λ none. shut file bodies at from to byte more stands bytes none last)
    (λ x rest begins. let now = first_stays x (bodies moment) rest (bodies to) begins (grows moment to bytes.1 last (omega (arith))) in
    absurd (omega (arith, few, ap length now, count_of x (drop 1 (bodies to)))))
walked (suc n) file bodies at from to (byte ∷ more) few stands grows bytes end =
    let moment = bytes.0 in
    let last : moment ≤ to = span file (at + 1) moment to more bytes.3 in
    cases_of (bodies moment) (λ none. shut file bodies at from to byte more stands bytes none last)
    (λ x rest begins.
    let first : (u : ℕ) → moment ≤ u → u ≤ to → bodies u ≡ x ∷ drop 1 (bodies u) = λ u later sooner.
    first_stays x (bodies moment) rest (bodies u) begins (grows moment u bytes.1 later sooner) in
    let through = passed file (1 ∷ counted x) at (at + length (1 ∷ counted x)) moment to (byte ∷ more) refl
    (λ u later sooner. first_here x (bodies u) (file u) at (first u later sooner) (stands u (omega (arith, bytes.1, later)) sooner))
    (moment, omega (arith), bytes.2, bytes.3) end in
    let size : length (byte ∷ more) ≡ length (1 ∷ counted x) + length through.rest = ap length through.split ∙ length-append (1 ∷ counted x) through.rest in
    let counts : length (bodies to) ≡ 1 + length (drop 1 (bodies to)) = ap length (first to last (omega (arith))) ∙ count_of x (drop 1 (bodies to)) in
    let behind = walked n file (λ u. drop 1 (bodies u)) (at + length (1 ∷ counted x)) through.moment to through.rest
    (omega (arith, few, counts))
    (λ u later sooner.
    let here = stands u (omega (arith, bytes.1, through.begun, later)) sooner in
    record {
      gate = here.gate;
      rest = here.rest;
      split = first_behind x (bodies u) (file u) at (first u (omega (arith, through.begun, later)) sooner) here;
      closed = here.closed;
    })
    (λ u v later order sooner. rest_grows (bodies u) (bodies v) x (first u (omega (arith, through.begun, later)) (omega (arith, order, sooner))) (grows u v (omega (arith, bytes.1, through.begun, later)) order sooner))
    through.bytes (omega (arith, end, size)) in
    record {
      moment = behind.moment;
      begun = omega (arith, bytes.1, through.begun, behind.begun);
      ended = behind.ended;
      reads = joined x (bodies behind.moment) (byte ∷ more) through.rest (first behind.moment (omega (arith, through.begun, behind.begun)) behind.ended) through.split behind.reads;
    })

-- from one moment to another a file reads as bodies behind a header, and later as the same, with
-- none or more behind them
record IsWritten (header : List ℕ) (from to : ℕ) (file : ℕ → List ℕ) (bodies : ℕ → List (List ℕ)) : Type 0 where
  reads : (moment : ℕ) → from ≤ moment → moment ≤ to → ReadsAs header (bodies moment) (file moment)
  grows : Grows bodies from to

-- bytes read as at one moment
record WasOnce (header : List ℕ) (from to : ℕ) (bodies : ℕ → List (List ℕ)) (seen : List ℕ) : Type 0 where
  moment : ℕ
  begun : from ≤ moment
  ended : moment ≤ to
  reads : ReadsAs header (bodies moment) seen

-- a file behind its header
behind_header : (header file : List ℕ) (bodies : List (List ℕ)) → (here : ReadsAs header bodies file)
    → drop (length header) file ≡ opened bodies ++ (here.gate ∷ here.rest)
behind_header header file bodies here =
    ap (drop (length header)) (here.split ∙ append_assoc header (opened bodies) (here.gate ∷ here.rest)) ∙ drop_at header (opened bodies ++ (here.gate ∷ here.rest)) (length header) refl

seen-once : (header : List ℕ) (from to : ℕ) (file : ℕ → List ℕ) (bodies : ℕ → List (List ℕ)) (seen : List ℕ)
    → IsWritten header from to file bodies → IsSeenWhole file from to seen → WasOnce header from to bodies seen
seen-once header from to file bodies seen written whole =
    let through = passed file header 0 (length header) from to seen (omega (arith))
    (λ u later sooner.
    let here = written.reads u later sooner in
    here.split ∙ append_assoc header (opened (bodies u)) (here.gate ∷ here.rest) ∙ ap (λ l. header ++ l) (sym (behind_header header (file u) (bodies u) here)))
    whole.bytes (omega (arith, whole.end)) in
    let size : length seen ≡ length header + length through.rest = ap length through.split ∙ length-append header through.rest in
    let behind = walked (length (bodies to)) file bodies (length header) through.moment to through.rest (omega (arith))
    (λ u later sooner.
    let here = written.reads u (omega (arith, through.begun, later)) sooner in
    record {
      gate = here.gate;
      rest = here.rest;
      split = behind_header header (file u) (bodies u) here;
      closed = here.closed;
    })
    (λ u v later order sooner. written.grows u v (omega (arith, through.begun, later)) order sooner)
    through.bytes (omega (arith, whole.end, size)) in
    record {
      moment = behind.moment;
      begun = omega (arith, through.begun, behind.begun);
      ended = behind.ended;
      reads = record {
        gate = behind.reads.gate;
        rest = behind.reads.rest;
        split = through.split ∙ ap (λ l. header ++ l) behind.reads.split ∙ sym (append_assoc header (opened (bodies behind.moment)) (behind.reads.gate ∷ behind.reads.rest));
        closed = behind.reads.closed;
      };
    }

-- the bodies of a history that grows grow
bodies_grow : (before now : List Entry) → GoesOn before now → GoesOn (bodies_of before) (bodies_of now)
bodies_grow before now more = record {
  more = bodies_of more.more;
  split = ap bodies_of more.split ∙ map-append body_of before more.more;
}

-- what is seen of a journal that is served tells the history of one moment
pub told-once : (timetable : Timetable) (version : ℕ) (network base : List ℕ) (from to : ℕ) (file : ℕ → List ℕ)
    (entries : ℕ → List Entry) (seen : List ℕ) → IsServed timetable version network base from to file entries
    → IsSeenWhole file from to seen → ToldOnce timetable version network base from to entries seen
told-once timetable version network base from to file entries seen served whole =
    let once = seen-once (header_of_version version network base) from to file (λ moment. bodies_of (entries moment)) seen
    (record {
      reads = λ moment later sooner. (served.tells moment later sooner).reads;
      grows = λ u v later order sooner. bodies_grow (entries u) (entries v) (served.grows u v later order sooner);
    }) whole in
    let tells = served.tells once.moment once.begun once.ended in
    record {
      moment = once.moment;
      begun = once.begun;
      ended = once.ended;
      tells = record {
        legal = tells.legal;
        spelled = tells.spelled;
        short = tells.short;
        reads = once.reads;
      };
    }

-- a piece that was read at one moment
head_stands : (xs more : List ℕ) (at x : ℕ) → drop at xs ≡ x ∷ more → slice_get xs at ≡ Some x
head_stands xs more at x here = slice_get-get_or xs at 0 (within xs more at x here) ∙ ap Some (byte_at xs more at x (get_or xs at 0) here (slice_get-get_or xs at 0 (within xs more at x here)))

pub piece-seen : (file : ℕ → List ℕ) (at moment : ℕ) (piece rest : List ℕ) → drop at (file moment) ≡ piece ++ rest → IsSeen file at moment moment piece
piece-seen file at moment [] rest stands = omega (arith)
piece-seen file at moment (x ∷ piece) rest stands =
    (moment, omega (arith), head_stands (file moment) (piece ++ rest) at x stands, piece-seen file (at + 1) moment piece rest (behind_it (file moment) (piece ++ rest) at x stands))

-- the bytes in front are those of a longer list
pub front_split : (front file : List ℕ) → IsFrontOf front file → file ≡ front ++ drop (length front) file
front_split front file begins = sym (take-append-drop (length front) file) ∙ ap (λ l. l ++ drop (length front) file) (sym begins)

-- pieces that are read one behind the other
seen_later : (file : ℕ → List ℕ) (at before from to : ℕ) (seen : List ℕ) → before ≤ from → IsSeen file at from to seen → IsSeen file at before to seen
seen_later file at before from to [] order seen = omega (arith, order, seen)
seen_later file at before from to (byte ∷ more) order seen = (seen.0, omega (arith, order, seen.1), seen.2, seen.3)

pub pieces-seen : (file : ℕ → List ℕ) (at behind from between to : ℕ) (front piece : List ℕ) → at + length front ≡ behind
    → IsSeen file at from between front → IsSeen file behind between to piece → IsSeen file at from to (front ++ piece)
pieces-seen file at behind from between to [] piece place first second =
    seen_later file at from between to piece first (subst (λ n. IsSeen file n between to piece) (omega (arith, place)) second)
pieces-seen file at behind from between to (byte ∷ front) piece place first second =
    (first.0, first.1, first.2, pieces-seen file (at + 1) behind first.0 between to front piece (omega (arith, place, length_of byte front)) first.3 second)

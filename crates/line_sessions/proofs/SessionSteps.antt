-- How a session goes on line by line, and how it ends.
use Rattle.std.proofs.Common.{◌≡◌, ◌≢◌, ◌∙◌, ℕ, ◌+◌, ◌<◌, ◌≤◌, nat_eq, false, List, [], ◌∷◌, ◌++◌, length, take, All, refl, sym, ap, inl, inr, arith, append_assoc, append-nil, length-append, length-take, subst, take_all, take_at}
use Rattle.std.proofs.lemmas.List.{length_push}
use Rattle.std.proofs.lemmas.List.Elements.{All-append, All-cons, All-head, All-nil, All-tail}
use Rattle.std.proofs.lemmas.List.Splits.{length-slice_split, slice_split_at, slice_split_none}
use Rattle.std.specs.List.{slice_split}
use Rattle.std.specs.Io.KnownBytes.{Appends, Consumes, IsAtEnd, Keeps}
use Rattle.std.proofs.KnownBytes.{Appends-kept, Appends-nil, Appends-trans, Consumes-kept, Consumes-nil, Consumes-trans}
use Rattle.outside_io.specs.Faults.{Rose}
use Rattle.client_lines.specs.Fields.{line_of}
use Rattle.client_lines.specs.Replies.{reply_fields, reply_text}
use Rattle.client_lines.specs.declared.reply_texts.replies.Reply.{Reply}
use Rattle.line_sessions.specs.declared.sessions.Answered.{Answered}
use Rattle.line_sessions.specs.declared.sessions.Answered.TheVariants.{Whole, WriteFault as part_written, Memory as no_memory}
use Rattle.line_sessions.specs.declared.sessions.TheConstants.{MAX_LINES}
use Rattle.line_sessions.specs.declared.sessions.Why.{Why}
use Rattle.line_sessions.specs.declared.sessions.Why.TheVariants.{Input, ReadFault, WriteFault, LongLine, LineCount, Memory}
use Rattle.line_sessions.specs.Ends.{AreAll, AreCounted, AreLinesOf, Begins, Ends, EndsBy, Scene, scene, Streams, told_wanting, Traffic}
use Rattle.line_sessions.specs.Proofs.{faults_by, held_by, is_wanted}
use Rattle.line_sessions.specs.declared.proofs.Proofs.{Proofs}
use Rattle.line_sessions.specs.Lines.{ended, HasNoEnd, IsLine, line_end, lines_of, unless_empty, without_empty_last}
use Rattle.line_sessions.specs.Serving.{last_end, ProvesPart, SaysAnswered, TellsNothing, TellsPart, TellsWhole}
use Rattle.line_sessions.specs.Streams.{Came, CameLast, CameLastLine, CameLine, CameLong, CameMore, PartThenFault}
use Rattle.line_sessions.specs.Told.{AreAnswered, lines_told, proofs_told, text_told, Told}

-- ---- lines

first_part : {X : Type 0} (xs : List X) → 0 < length xs → (x : X) × ((others : List X) × (xs ≡ x ∷ others))
first_part [] some = absurd (omega arith)
first_part (x ∷ others) some = (x, (others, refl))

slice_split-parts : (input : List ℕ)
    → (part : List ℕ) × ((parts : List (List ℕ)) × (slice_split (λ byte. nat_eq byte line_end) input ≡ part ∷ parts))
slice_split-parts input =
    first_part (slice_split (λ byte. nat_eq byte line_end) input)
    (omega (arith, length-slice_split (λ byte. nat_eq byte line_end) input))

pub ended-append : (lines : List (List ℕ)) (line : List ℕ)
    → ended (lines ++ line ∷ []) ≡ ended lines ++ (line ++ line_end ∷ [])
ended-append [] line = refl
ended-append (first ∷ lines) line =
    ap (λ rest. first ++ line_end ∷ rest) (ended-append lines line)
    ∙ sym (append_assoc first (line_end ∷ ended lines) (line ++ line_end ∷ []))

-- the lines of a text that begins with lines
pub lines_of-ended : (lines : List (List ℕ)) (rest : List ℕ) → All HasNoEnd lines
    → lines_of (ended lines ++ rest) ≡ lines ++ lines_of rest
lines_of-ended [] rest are = refl
lines_of-ended (line ∷ lines) rest are =
    let text : (line ++ line_end ∷ ended lines) ++ rest ≡ line ++ line_end ∷ (ended lines ++ rest) =
    append_assoc line (line_end ∷ ended lines) rest in
    let split =
    slice_split_at (λ byte. nat_eq byte line_end) line line_end (ended lines ++ rest)
    (All-head HasNoEnd line lines are) refl in
    let parts = slice_split-parts (ended lines ++ rest) in
    ap lines_of text ∙ ap without_empty_last split
    ∙ ap (λ others. without_empty_last (line ∷ others)) parts.1.1
    ∙ ap (λ others. line ∷ without_empty_last others) (sym parts.1.1)
    ∙ ap (λ others. line ∷ others) (lines_of-ended lines rest (All-tail HasNoEnd line lines are))

-- a text without a line end is its one line, unless it is empty
pub lines_of-last : (line : List ℕ) → HasNoEnd line → lines_of line ≡ unless_empty line
lines_of-last [] one = refl
lines_of-last (byte ∷ bytes) one =
    ap without_empty_last (slice_split_none (λ byte'. nat_eq byte' line_end) (byte ∷ bytes) one)

pub unless_empty-some : (line : List ℕ) → line ≢ [] → unless_empty line ≡ line ∷ []
unless_empty-some [] some = absurd (some refl)
unless_empty-some (byte ∷ bytes) some = refl

pub have_no_end : (lines : List (List ℕ)) → All IsLine lines → All HasNoEnd lines
have_no_end lines are k other within = (are k other within).one

pub line_text : (front line pending : List ℕ)
    → front ++ (line ++ line_end ∷ pending) ≡ (front ++ (line ++ line_end ∷ [])) ++ pending
line_text front line pending =
    sym (append_assoc front (line ++ line_end ∷ []) pending
    ∙ ap (λ rest. front ++ rest) (append_assoc line (line_end ∷ []) pending))

-- ---- what was told

abbrev pub told_so : List ℕ → Reply → List ℕ → Told
told_so line told proof = record { line = line; reply = told; proof = proof }

text_told-append : (told : List Told) (one : Told)
    → text_told (told ++ one ∷ []) ≡ text_told told ++ reply_text one.reply
text_told-append [] one = append-nil (reply_text one.reply)
text_told-append (first ∷ told) one =
    ap (λ rest. reply_text first.reply ++ rest) (text_told-append told one)
    ∙ sym (append_assoc (reply_text first.reply) (text_told told) (reply_text one.reply))

proofs_told-append : (told : List Told) (one : Told)
    → proofs_told (told ++ one ∷ []) ≡ proofs_told told ++ one.proof
proofs_told-append [] one = append-nil one.proof
proofs_told-append (first ∷ told) one =
    ap (λ rest. first.proof ++ rest) (proofs_told-append told one)
    ∙ sym (append_assoc first.proof (proofs_told told) one.proof)

lines_told-append : (told : List Told) (one : Told)
    → lines_told (told ++ one ∷ []) ≡ lines_told told ++ one.line ∷ []
lines_told-append [] one = refl
lines_told-append (first ∷ told) one = ap (λ rest. first.line ∷ rest) (lines_told-append told one)

length_lines : (told : List Told) → length (lines_told told) ≡ length told
length_lines [] = refl
length_lines (first ∷ told) = omega (arith, length_lines told)

-- more lines, each as long as a line may be
lines_with : (told : List Told) (one : Told) → All IsLine (lines_told told) → IsLine one.line
    → All IsLine (lines_told (told ++ one ∷ []))
lines_with told one are is =
    rw (lines_told-append told one)
    (All-append IsLine (lines_told told) (one.line ∷ []) are (All-cons IsLine one.line [] is (All-nil IsLine)))

answered_more : {Desk : Type 0} (answers : Desk → ℕ → List ℕ → Reply → List ℕ → Desk → Type 0)
    (number : ℕ) (told : List Told) (one : Told) (old mid new : Desk) (at : ℕ)
    → AreAnswered answers number told old mid → at ≡ number + length told
    → answers mid at one.line one.reply one.proof new
    → AreAnswered answers number (told ++ one ∷ []) old new
answered_more answers number [] one old mid new at same is last =
    let here : at ≡ number = omega (arith, is) in
    (new, rw (sym same, sym here) last, refl)
answered_more answers number (first ∷ told) one old mid new at all is last =
    (all.0, all.1, answered_more answers (number + 1) told one all.0 mid new at all.2 (omega (arith, is)) last)

-- a reply is a line, which has an end at least
reply_text-some : (told : Reply) → 0 < length (reply_text told)
reply_text-some told = omega (arith, length_push (line_of (reply_fields told)) 10)

-- a proper part of a text behind others is shorter than the whole
part_shorter : (front text : List ℕ) (part : ℕ) → part < length text
    → length (front ++ take part text) < length (front ++ text)
part_shorter front text part proper =
    omega (arith, length-append front (take part text), length-append front text, length-take part text)

-- ---- a session under way

module _ {Desk Src Snk : Type 0} (answers : Desk → ℕ → List ℕ → Reply → List ℕ → Desk → Type 0) (streams : Streams Src Snk) where
  -- so many lines were answered: what came is these lines and what is pending, the replies and their proofs are all that
  -- went out, and nothing failed
  pub record Serving (old now : Scene Desk Src Snk) (pending : List ℕ) (number : ℕ) : Type 0 where
    pub traffic : Traffic
    pub consumed : Consumes (streams.left old.source) (streams.left now.source) traffic.taken
    pub appended : Appends (streams.held old.sink) (streams.held now.sink) traffic.gained
    pub proved : Appends (held_by streams.held old.proofs) (held_by streams.held now.proofs) traffic.proved
    pub text : traffic.taken ≡ ended (lines_told traffic.told) ++ pending
    pub lines_are : All IsLine (lines_told traffic.told)
    pub answered : AreAnswered answers 1 traffic.told old.desk now.desk
    pub counted : AreCounted traffic.gained traffic.proved traffic.told number
    pub wanted : is_wanted now.proofs ≡ is_wanted old.proofs
    pub read : streams.read_faults now.source ≡ streams.read_faults old.source
    pub written : streams.write_faults now.sink ≡ streams.write_faults old.sink
    pub proofs_written : faults_by streams.write_faults now.proofs ≡ faults_by streams.write_faults old.proofs

  -- the sinks did not fail
  pub record AreQuiet (now new : Scene Desk Src Snk) : Type 0 where
    pub written : streams.write_faults new.sink ≡ streams.write_faults now.sink
    pub proofs_written : faults_by streams.write_faults new.proofs ≡ faults_by streams.write_faults now.proofs

module _ {Desk Src Snk : Type 0} (answers : Desk → ℕ → List ℕ → Reply → List ℕ → Desk → Type 0) (streams : Streams Src Snk) where
  pub serving_none : (old : Scene Desk Src Snk) (pending : List ℕ) → pending ≡ [] → Serving answers streams old old pending 0
  serving_none old pending nothing = record {
    traffic = record { taken = []; gained = []; proved = []; told = [] };
    consumed = Consumes-nil (streams.left old.source);
    appended = Appends-nil (streams.held old.sink);
    proved = Appends-nil (held_by streams.held old.proofs);
    text = sym nothing;
    lines_are = All-nil IsLine;
    answered = refl;
    counted = record { replies = refl; proofs = refl; number = refl };
    wanted = refl;
    read = refl;
    written = refl;
    proofs_written = refl;
  }

module _ {Desk Src Snk : Type 0} (answers : Desk → ℕ → List ℕ → Reply → List ℕ → Desk → Type 0) (streams : Streams Src Snk) {old now : Scene Desk Src Snk}
    {pending : List ℕ} {number : ℕ} (serving : Serving answers streams old now pending number) where
  -- what was told so far, and one line more
  abbrev pub told_with : Told → List Told
  told_with one = serving.traffic.told ++ one ∷ []

  -- the bytes taken so far, and those that came since
  abbrev pub taken_with : List ℕ → List ℕ
  taken_with more = serving.traffic.taken ++ more

  took : (source : Src) (bytes : List ℕ)
      → (came : Came (streams.left now.source) (streams.left source) pending bytes)
      → Consumes (streams.left old.source) (streams.left source) (taken_with came.taken)
  took source bytes came =
      Consumes-trans (streams.left old.source) (streams.left now.source) (streams.left source)
      serving.traffic.taken came.taken serving.consumed came.consumed

  took_text : (source : Src) (bytes : List ℕ)
      → (came : Came (streams.left now.source) (streams.left source) pending bytes)
      → taken_with came.taken ≡ ended (lines_told serving.traffic.told) ++ bytes
  took_text source bytes came =
      ap (λ front. front ++ came.taken) serving.text
      ∙ append_assoc (ended (lines_told serving.traffic.told)) pending came.taken
      ∙ ap (λ rest. ended (lines_told serving.traffic.told) ++ rest) came.bytes_are

  number_is : length (lines_told serving.traffic.told) ≡ number
  number_is = length_lines serving.traffic.told ∙ sym serving.counted.number

  -- the lines so far are those that the bytes begin with
  begun : (source : Src) (bytes : List ℕ)
      → (came : Came (streams.left now.source) (streams.left source) pending bytes) → number ≤ MAX_LINES
      → Begins (taken_with came.taken) (lines_told serving.traffic.told) bytes
  begun source bytes came most = record {
    text = took_text source bytes came;
    lines_are = serving.lines_are;
    count = omega (arith, number_is);
  }

  more_are : (one : Told) → number < MAX_LINES → length (lines_told (told_with one)) ≤ MAX_LINES
  more_are one most =
      let longer = length_lines (told_with one) in
      let pushed = length_push serving.traffic.told one in
      omega (arith, longer, pushed, serving.counted.number)

  line_more : (source : Src) (pending' : List ℕ) (one : Told)
      → (came : CameLine (streams.left now.source) (streams.left source) pending one.line pending')
      → taken_with came.came.taken ≡ ended (lines_told (told_with one)) ++ pending'
  line_more source pending' one came =
      took_text source (one.line ++ line_end ∷ pending') came.came
      ∙ line_text (ended (lines_told serving.traffic.told)) one.line pending'
      ∙ ap (λ front. front ++ pending') (sym (ended-append (lines_told serving.traffic.told) one.line))
      ∙ ap (λ lines. ended lines ++ pending') (sym (lines_told-append serving.traffic.told one))

  -- a line with its end is one more of those that the bytes begin with
  lines_with_line : (source : Src) (pending' : List ℕ) (one : Told)
      → (came : CameLine (streams.left now.source) (streams.left source) pending one.line pending')
      → number < MAX_LINES
      → AreLinesOf (IsAtEnd (streams.left source)) (taken_with came.came.taken) (lines_told (told_with one))
  lines_with_line source pending' one came most = inr (
    pending',
    record {
      text = line_more source pending' one came;
      lines_are = lines_with serving.traffic.told one serving.lines_are came.line_is;
      count = more_are one most;
    },
  )

  -- a last line makes them those of the whole input
  all_with_last : (source : Src) (pending' : List ℕ) (one : Told)
      → (last : CameLastLine (streams.left now.source) (streams.left source) pending one.line pending')
      → number < MAX_LINES
      → AreAll (taken_with last.last.came.taken) (lines_told (told_with one))
  all_with_last source pending' one last most = record {
    text = sym (ap lines_of (took_text source one.line last.last.came)
        ∙ lines_of-ended (lines_told serving.traffic.told) one.line (have_no_end (lines_told serving.traffic.told) serving.lines_are)
        ∙ ap (λ others. lines_told serving.traffic.told ++ others) (lines_of-last one.line last.line_is.one ∙ unless_empty-some one.line last.some)
        ∙ sym (lines_told-append serving.traffic.told one));
    lines_are = lines_with serving.traffic.told one serving.lines_are last.line_is;
    count = more_are one most;
  }

  answered_with : (one : Told) (desk : Desk) → answers now.desk (number + 1) one.line one.reply one.proof desk
      → AreAnswered answers 1 (told_with one) old.desk desk
  answered_with one desk is =
      answered_more answers 1 serving.traffic.told one old.desk now.desk desk (number + 1)
      serving.answered (omega (arith, serving.counted.number)) is

  -- the proofs of the lines so far, and of one more
  proved_with : (one : Told) → serving.traffic.proved ++ one.proof ≡ proofs_told (told_with one)
  proved_with one =
      ap (λ front. front ++ one.proof) serving.counted.proofs ∙ sym (proofs_told-append serving.traffic.told one)

  -- the replies to the lines so far and to one more are counted
  counted_with : (one : Told)
      → AreCounted (serving.traffic.gained ++ reply_text one.reply) (serving.traffic.proved ++ one.proof) (told_with one) (number + 1)
  counted_with one = record {
    replies = ap (λ front. front ++ reply_text one.reply) serving.counted.replies
        ∙ sym (text_told-append serving.traffic.told one);
    proofs = proved_with one;
    number = ap (λ n. n + 1) serving.counted.number ∙ sym (length_push serving.traffic.told one);
  }

  gave : (sink : Snk) (more : List ℕ) → Appends (streams.held now.sink) (streams.held sink) more
      → Appends (streams.held old.sink) (streams.held sink) (serving.traffic.gained ++ more)
  gave sink more wrote =
      Appends-trans (streams.held old.sink) (streams.held now.sink) (streams.held sink)
      serving.traffic.gained more serving.appended wrote

  proved_so : (proofs : Proofs Snk) (more : List ℕ)
      → Appends (held_by streams.held now.proofs) (held_by streams.held proofs) more
      → Appends (held_by streams.held old.proofs) (held_by streams.held proofs) (serving.traffic.proved ++ more)
  proved_so proofs more wrote =
      Appends-trans (held_by streams.held old.proofs) (held_by streams.held now.proofs) (held_by streams.held proofs)
      serving.traffic.proved more serving.proved wrote

  pub serving_line : (new : Scene Desk Src Snk) (line pending' : List ℕ)
      → CameLine (streams.left now.source) (streams.left new.source) pending line pending'
      → TellsWhole answers streams.held streams.write_faults now.desk (number + 1) line new.desk now.sink new.sink now.proofs new.proofs
      → streams.read_faults new.source ≡ streams.read_faults now.source
      → is_wanted new.proofs ≡ is_wanted now.proofs → AreQuiet answers streams now new
      → Serving answers streams old new pending' (number + 1)
  serving_line new line pending' came told read wanted quiet =
      let one = told_so line told.reply told.proof in record {
        traffic = record {
          taken = taken_with came.came.taken;
          gained = serving.traffic.gained ++ reply_text told.reply;
          proved = serving.traffic.proved ++ told.proof;
          told = told_with one;
        };
        consumed = took new.source (line ++ line_end ∷ pending') came.came;
        appended = gave new.sink (reply_text told.reply) told.wrote;
        proved = proved_so new.proofs told.proof told.proved;
        text = line_more new.source pending' one came;
        lines_are = lines_with serving.traffic.told one serving.lines_are came.line_is;
        answered = answered_with one new.desk told.told;
        counted = counted_with one;
        wanted = wanted ∙ serving.wanted;
        read = read ∙ serving.read;
        written = quiet.written ∙ serving.written;
        proofs_written = quiet.proofs_written ∙ serving.proofs_written;
      }

-- ---- ends

module _ {Desk Src Snk : Type 0} (answers : Desk → ℕ → List ℕ → Reply → List ℕ → Desk → Type 0) (streams : Streams Src Snk) where
  pub ends_unserved : (old : Scene Desk Src Snk) → Ends answers streams (record { lines = 0; why = Memory }) old old
  ends_unserved old = record {
    traffic = record { taken = []; gained = []; proved = []; told = [] };
    passes = record {
      consumed = Consumes-nil (streams.left old.source);
      appended = Appends-nil (streams.held old.sink);
      proved = Appends-nil (held_by streams.held old.proofs);
      wanted = refl;
      ends = record {
        before = [];
        lines_are = inr ([], record { text = refl; lines_are = All-nil IsLine; count = omega arith });
        wanted = inl refl;
        counted = record { replies = refl; proofs = refl; number = refl };
      };
      read_fault = λ is. cc;
      write_fault = λ is. cc;
      read_quiet = λ isnt. refl;
      write_quiet = λ isnt. refl;
      proof_quiet = λ isnt. refl;
    };
    answered = refl;
  }

module _ {Desk Src Snk : Type 0} (answers : Desk → ℕ → List ℕ → Reply → List ℕ → Desk → Type 0) (streams : Streams Src Snk) {old now : Scene Desk Src Snk}
    {pending : List ℕ} {number : ℕ} (serving : Serving answers streams old now pending number) where
  -- bytes were taken since, and nothing was answered
  abbrev pub traffic_with : List ℕ → Traffic
  traffic_with more = record {
    taken = taken_with answers streams serving more;
    gained = serving.traffic.gained;
    proved = serving.traffic.proved;
    told = serving.traffic.told;
  }

module _ {Desk Src Snk : Type 0} (answers : Desk → ℕ → List ℕ → Reply → List ℕ → Desk → Type 0) (streams : Streams Src Snk) {old now : Scene Desk Src Snk}
    {pending : List ℕ} {number : ℕ} (serving : Serving answers streams old now pending number) (source : Src)
    (read : streams.read_faults source ≡ streams.read_faults now.source) where
  -- an end before anything was answered since
  ends_here : (why : Why) (bytes : List ℕ)
      → (came : Came (streams.left now.source) (streams.left source) pending bytes)
      → EndsBy why (traffic_with answers streams serving came.taken) number (IsAtEnd (streams.left source))
      → why ≢ ReadFault → why ≢ WriteFault
      → Ends answers streams (record { lines = number; why = why }) old (scene now.desk source now.sink now.proofs)
  ends_here why bytes came ends no_read no_write = record {
    traffic = traffic_with answers streams serving came.taken;
    passes = record {
      consumed = took answers streams serving source bytes came;
      appended = serving.appended;
      proved = serving.proved;
      wanted = serving.wanted;
      ends = ends;
      read_fault = λ is. absurd (no_read is);
      write_fault = λ is. absurd (no_write is);
      read_quiet = λ isnt. read ∙ serving.read;
      write_quiet = λ isnt. serving.written;
      proof_quiet = λ isnt. serving.proofs_written;
    };
    answered = serving.answered;
  }

  pub ends_at_end : (pending' : List ℕ) → CameLast (streams.left now.source) (streams.left source) pending [] pending'
      → number ≤ MAX_LINES
      → Ends answers streams (record { lines = number; why = Input }) old (scene now.desk source now.sink now.proofs)
  ends_at_end pending' last most =
      ends_here Input [] last.came (record {
        at_end = last.at_end;
        lines_are = record {
          text = sym (ap lines_of (took_text answers streams serving source [] last.came)
              ∙ lines_of-ended (lines_told serving.traffic.told) [] (have_no_end (lines_told serving.traffic.told) serving.lines_are)
              ∙ append-nil (lines_told serving.traffic.told));
          lines_are = serving.lines_are;
          count = omega (arith, number_is answers streams serving);
        };
        counted = serving.counted;
      }) (λ is. cc) (λ is. cc)

  pub ends_at_memory : (bytes : List ℕ) → Came (streams.left now.source) (streams.left source) pending bytes
      → number ≤ MAX_LINES
      → Ends answers streams (record { lines = number; why = Memory }) old (scene now.desk source now.sink now.proofs)
  ends_at_memory bytes came most =
      ends_here Memory bytes came (record {
        before = serving.traffic.told;
        lines_are = inr (bytes, begun answers streams serving source bytes came most);
        wanted = inl refl;
        counted = serving.counted;
      }) (λ is. cc) (λ is. cc)

  pub ends_at_long_line : CameLong (streams.left now.source) (streams.left source) pending → number < MAX_LINES
      → Ends answers streams (record { lines = number; why = LongLine }) old (scene now.desk source now.sink now.proofs)
  ends_at_long_line long most =
      ends_here LongLine (long.line ++ long.rest) long.came (record {
        line = long.line;
        rest = long.rest;
        begins = begun answers streams serving source (long.line ++ long.rest) long.came (omega arith);
        one = long.one;
        long = long.long;
        allowed = omega (arith, serving.counted.number);
        counted = serving.counted;
      }) (λ is. cc) (λ is. cc)

  pub ends_at_line_count : CameMore (streams.left now.source) (streams.left source) pending → number ≡ MAX_LINES
      → Ends answers streams (record { lines = MAX_LINES; why = LineCount }) old (scene now.desk source now.sink now.proofs)
  ends_at_line_count more full =
      subst (λ n. Ends answers streams (record { lines = n; why = LineCount }) old (scene now.desk source now.sink now.proofs)) full
      (ends_here LineCount more.rest more.came (record {
        rest = more.rest;
        begins = begun answers streams serving source more.rest more.came (omega (arith, full));
        full = sym serving.counted.number ∙ full;
        more = more.some;
        counted = serving.counted;
      }) (λ is. cc) (λ is. cc))

  pub ends_at_full_end : (pending' : List ℕ) → CameLast (streams.left now.source) (streams.left source) pending [] pending'
      → number ≡ MAX_LINES
      → Ends answers streams (record { lines = MAX_LINES; why = Input }) old (scene now.desk source now.sink now.proofs)
  ends_at_full_end pending' last full =
      subst (λ n. Ends answers streams (record { lines = n; why = Input }) old (scene now.desk source now.sink now.proofs)) full
      (ends_at_end pending' last (omega (arith, full)))

module _ {Desk Src Snk : Type 0} (answers : Desk → ℕ → List ℕ → Reply → List ℕ → Desk → Type 0) (streams : Streams Src Snk) {old now : Scene Desk Src Snk}
    {pending : List ℕ} {number : ℕ} (serving : Serving answers streams old now pending number) (source : Src) where
  -- the source failed at some state, and gave nothing more
  pub ends_in_read_fault : (fault : PartThenFault streams.left streams.read_faults now.source source pending)
      → number ≤ MAX_LINES → (number ≡ MAX_LINES → fault.part.rest ≡ [])
      → Ends answers streams (record { lines = number; why = ReadFault }) old (scene now.desk source now.sink now.proofs)
  ends_in_read_fault fault most few =
      let got = took answers streams serving fault.at_fault fault.part.rest fault.part.came in record {
        traffic = traffic_with answers streams serving fault.part.came.taken;
        passes = record {
          consumed = Consumes-kept (streams.left old.source) (streams.left fault.at_fault) (streams.left source)
              (taken_with answers streams serving fault.part.came.taken) got fault.kept;
          appended = serving.appended;
          proved = serving.proved;
          wanted = serving.wanted;
          ends = record {
            rest = fault.part.rest;
            begins = begun answers streams serving fault.at_fault fault.part.rest fault.part.came most;
            partial = fault.part.partial;
            short = fault.part.short;
            few = λ full. few (serving.counted.number ∙ full);
            counted = serving.counted;
          };
          read_fault = λ is. record { mid = fault.at_fault; taken_so = got; quiet = fault.quiet ∙ serving.read; kept = fault.kept; later = fault.later; rose = fault.rose };
          write_fault = λ is. cc;
          read_quiet = λ isnt. absurd (isnt refl);
          write_quiet = λ isnt. serving.written;
          proof_quiet = λ isnt. serving.proofs_written;
        };
        answered = serving.answered;
      }

  -- the source failed behind as many lines as are allowed
  pub ends_in_full_fault : Keeps (streams.left now.source) (streams.left source) → pending ≡ []
      → streams.read_faults now.source ≤ streams.read_faults source
      → Rose (streams.read_faults now.source) (streams.read_faults source) → number ≡ MAX_LINES
      → Ends answers streams (record { lines = MAX_LINES; why = ReadFault }) old (scene now.desk source now.sink now.proofs)
  ends_in_full_fault kept none later rose full =
      subst (λ n. Ends answers streams (record { lines = n; why = ReadFault }) old (scene now.desk source now.sink now.proofs)) full
      (ends_in_read_fault (record {
        at_fault = now.source;
        part = record {
          rest = [];
          came = record { taken = []; consumed = Consumes-nil (streams.left now.source); bytes_are = append-nil pending ∙ none };
          partial = All-nil (λ byte. nat_eq byte line_end ≡ false);
          short = omega arith;
        };
        quiet = refl;
        later = later;
        kept = kept;
        rose = rose;
      }) (omega (arith, full)) (λ _. refl))

module _ {Desk Src Snk : Type 0} (answers : Desk → ℕ → List ℕ → Reply → List ℕ → Desk → Type 0) (streams : Streams Src Snk) {old now : Scene Desk Src Snk}
    {pending : List ℕ} {number : ℕ} (serving : Serving answers streams old now pending number) (new : Scene Desk Src Snk)
    (line bytes : List ℕ) (came : Came (streams.left now.source) (streams.left new.source) pending bytes)
    (read : streams.read_faults new.source ≡ streams.read_faults now.source)
    (wanted : is_wanted new.proofs ≡ is_wanted now.proofs) where
  -- memory was wanted for the reply to this line
  ends_wanting : AreLinesOf (IsAtEnd (streams.left new.source)) (taken_with answers streams serving came.taken) (lines_told (told_with answers streams serving (told_wanting line)))
      → TellsNothing answers streams.held streams.write_faults now.desk (number + 1) line new.desk now.sink new.sink now.proofs new.proofs
      → AreQuiet answers streams now new
      → Ends answers streams (record { lines = number; why = Memory }) old new
  ends_wanting lines_are told quiet = record {
    traffic = record {
      taken = taken_with answers streams serving came.taken;
      gained = serving.traffic.gained;
      proved = serving.traffic.proved;
      told = told_with answers streams serving (told_wanting line);
    };
    passes = record {
      consumed = took answers streams serving new.source bytes came;
      appended = Appends-kept (streams.held old.sink) (streams.held now.sink) (streams.held new.sink) serving.traffic.gained serving.appended told.kept;
      proved = Appends-kept (held_by streams.held old.proofs) (held_by streams.held now.proofs) (held_by streams.held new.proofs) serving.traffic.proved serving.proved told.proofs_kept;
      wanted = wanted ∙ serving.wanted;
      ends = record {
        before = serving.traffic.told;
        lines_are = lines_are;
        wanted = inr (line, refl);
        counted = serving.counted;
      };
      read_fault = λ is. cc;
      write_fault = λ is. cc;
      read_quiet = λ isnt. read ∙ serving.read;
      write_quiet = λ isnt. quiet.written ∙ serving.written;
      proof_quiet = λ isnt. quiet.proofs_written ∙ serving.proofs_written;
    };
    answered = answered_with answers streams serving (told_wanting line) new.desk told.told;
  }

  -- the sink of the replies failed before it took the whole reply to this line, whose proof was written
  ends_in_reply : (told : TellsPart answers streams.held streams.write_faults now.desk (number + 1) line new.desk now.sink new.sink now.proofs new.proofs)
      → AreLinesOf (IsAtEnd (streams.left new.source)) (taken_with answers streams serving came.taken) (lines_told (told_with answers streams serving (told_so line told.reply told.proof)))
      → Ends answers streams (record { lines = number; why = WriteFault }) old new
  ends_in_reply told lines_are =
      let one = told_so line told.reply told.proof in
      let part = take told.part (reply_text told.reply) in
      let gained = gave answers streams serving told.stops.mid part told.stops.gained_so in record {
        traffic = record {
          taken = taken_with answers streams serving came.taken;
          gained = serving.traffic.gained ++ part;
          proved = serving.traffic.proved ++ told.proof;
          told = told_with answers streams serving one;
        };
        passes = record {
          consumed = took answers streams serving new.source bytes came;
          appended = Appends-kept (streams.held old.sink) (streams.held told.stops.mid) (streams.held new.sink) (serving.traffic.gained ++ part) gained told.stops.kept;
          proved = proved_so answers streams serving new.proofs told.proof told.proved;
          wanted = wanted ∙ serving.wanted;
          ends = record {
            before = serving.traffic.told;
            last = one;
            proof_part = length told.proof;
            part = told.part;
            lines_are = lines_are;
            told_are = refl;
            proved = ap (λ front. front ++ told.proof) serving.counted.proofs
                ∙ ap (λ rest. proofs_told serving.traffic.told ++ rest) (sym (take_all (length told.proof) told.proof (omega arith)));
            proof_first = λ some. omega arith;
            proper = told.proper;
            gained = ap (λ front. front ++ part) serving.counted.replies;
            number = serving.counted.number;
          };
          read_fault = λ is. cc;
          write_fault = λ is. inl (record {
            stops = record { mid = told.stops.mid; gained_so = gained; quiet = told.stops.quiet ∙ serving.written; kept = told.stops.kept; later = told.stops.later; rose = told.stops.rose };
            whole = proved_with answers streams serving one;
            quiet = told.quiet ∙ serving.proofs_written;
          });
          read_quiet = λ isnt. read ∙ serving.read;
          write_quiet = λ isnt. absurd (isnt refl);
          proof_quiet = λ isnt. absurd (isnt refl);
        };
        answered = answered_with answers streams serving one new.desk told.told;
      }

  -- the sink of the proofs failed before it took the whole proof of this line's reply
  ends_in_proof : (told : ProvesPart answers streams.held streams.write_faults now.desk (number + 1) line new.desk now.sink new.sink now.proofs new.proofs)
      → AreLinesOf (IsAtEnd (streams.left new.source)) (taken_with answers streams serving came.taken) (lines_told (told_with answers streams serving (told_so line told.reply told.proof)))
      → Ends answers streams (record { lines = number; why = WriteFault }) old new
  ends_in_proof told lines_are =
      let one = told_so line told.reply told.proof in
      let part = take told.part told.proof in
      let proved = proved_so answers streams serving told.stops.mid part told.stops.gained_so in record {
        traffic = record {
          taken = taken_with answers streams serving came.taken;
          gained = serving.traffic.gained;
          proved = serving.traffic.proved ++ part;
          told = told_with answers streams serving one;
        };
        passes = record {
          consumed = took answers streams serving new.source bytes came;
          appended = Appends-kept (streams.held old.sink) (streams.held now.sink) (streams.held new.sink) serving.traffic.gained serving.appended told.kept;
          proved = Appends-kept (held_by streams.held old.proofs) (held_by streams.held told.stops.mid) (held_by streams.held new.proofs) (serving.traffic.proved ++ part) proved told.stops.kept;
          wanted = wanted ∙ serving.wanted;
          ends = record {
            before = serving.traffic.told;
            last = one;
            proof_part = told.part;
            part = 0;
            lines_are = lines_are;
            told_are = refl;
            proved = ap (λ front. front ++ part) serving.counted.proofs;
            proof_first = λ some. absurd (omega arith);
            proper = reply_text-some told.reply;
            gained = serving.counted.replies ∙ sym (append-nil (text_told serving.traffic.told));
            number = serving.counted.number;
          };
          read_fault = λ is. cc;
          write_fault = λ is. inr (record {
            stops = record { mid = told.stops.mid; gained_so = proved; quiet = told.stops.quiet ∙ serving.proofs_written; kept = told.stops.kept; later = told.stops.later; rose = told.stops.rose };
            short = subst (λ all. length (serving.traffic.proved ++ part) < length all) (proved_with answers streams serving one)
                (part_shorter serving.traffic.proved told.proof told.part told.proper);
            nothing = serving.counted.replies
                ∙ ap text_told (sym (take_at serving.traffic.told (one ∷ []) number (sym serving.counted.number)));
            quiet = told.quiet ∙ serving.written;
          });
          read_quiet = λ isnt. read ∙ serving.read;
          write_quiet = λ isnt. absurd (isnt refl);
          proof_quiet = λ isnt. absurd (isnt refl);
        };
        answered = answered_with answers streams serving one new.desk told.told;
      }

module _ {Desk Src Snk : Type 0} (answers : Desk → ℕ → List ℕ → Reply → List ℕ → Desk → Type 0) (streams : Streams Src Snk) {old now : Scene Desk Src Snk}
    {pending : List ℕ} {number : ℕ} (serving : Serving answers streams old now pending number) (new : Scene Desk Src Snk)
    (line pending' : List ℕ) (most : number < MAX_LINES)
    (read : streams.read_faults new.source ≡ streams.read_faults now.source)
    (wanted : is_wanted new.proofs ≡ is_wanted now.proofs) where
  pub ends_at_wanted : CameLine (streams.left now.source) (streams.left new.source) pending line pending'
      → TellsNothing answers streams.held streams.write_faults now.desk (number + 1) line new.desk now.sink new.sink now.proofs new.proofs
      → AreQuiet answers streams now new
      → Ends answers streams (record { lines = number; why = Memory }) old new
  ends_at_wanted came told quiet =
      ends_wanting answers streams serving new line (line ++ line_end ∷ pending') came.came read wanted
      (lines_with_line answers streams serving new.source pending' (told_wanting line) came most) told quiet

  pub ends_at_write_fault : CameLine (streams.left now.source) (streams.left new.source) pending line pending'
      → SaysAnswered answers streams.held streams.write_faults part_written now.desk (number + 1) line new.desk now.sink new.sink now.proofs new.proofs
      → Ends answers streams (record { lines = number; why = WriteFault }) old new
  ends_at_write_fault came (inl told) =
      ends_in_reply answers streams serving new line (line ++ line_end ∷ pending') came.came read wanted told
      (lines_with_line answers streams serving new.source pending' (told_so line told.reply told.proof) came most)
  ends_at_write_fault came (inr told) =
      ends_in_proof answers streams serving new line (line ++ line_end ∷ pending') came.came read wanted told
      (lines_with_line answers streams serving new.source pending' (told_so line told.reply told.proof) came most)

  ends_at_last : CameLastLine (streams.left now.source) (streams.left new.source) pending line pending'
      → TellsWhole answers streams.held streams.write_faults now.desk (number + 1) line new.desk now.sink new.sink now.proofs new.proofs
      → AreQuiet answers streams now new
      → Ends answers streams (record { lines = number + 1; why = Input }) old new
  ends_at_last last told quiet =
      let one = told_so line told.reply told.proof in record {
        traffic = record {
          taken = taken_with answers streams serving last.last.came.taken;
          gained = serving.traffic.gained ++ reply_text told.reply;
          proved = serving.traffic.proved ++ told.proof;
          told = told_with answers streams serving one;
        };
        passes = record {
          consumed = took answers streams serving new.source line last.last.came;
          appended = gave answers streams serving new.sink (reply_text told.reply) told.wrote;
          proved = proved_so answers streams serving new.proofs told.proof told.proved;
          wanted = wanted ∙ serving.wanted;
          ends = record {
            at_end = last.last.at_end;
            lines_are = all_with_last answers streams serving new.source pending' one last most;
            counted = counted_with answers streams serving one;
          };
          read_fault = λ is. cc;
          write_fault = λ is. cc;
          read_quiet = λ isnt. read ∙ serving.read;
          write_quiet = λ isnt. quiet.written ∙ serving.written;
          proof_quiet = λ isnt. quiet.proofs_written ∙ serving.proofs_written;
        };
        answered = answered_with answers streams serving one new.desk told.told;
      }

  last_lines : (one : Told) → (last : CameLastLine (streams.left now.source) (streams.left new.source) pending one.line pending')
      → AreLinesOf (IsAtEnd (streams.left new.source)) (taken_with answers streams serving last.last.came.taken) (lines_told (told_with answers streams serving one))
  last_lines one last = inl (last.last.at_end, all_with_last answers streams serving new.source pending' one last most)

  -- the end with a last line, by how it was answered
  pub ends_with_last : (answered : Answered)
      → CameLastLine (streams.left now.source) (streams.left new.source) pending line pending'
      → SaysAnswered answers streams.held streams.write_faults answered now.desk (number + 1) line new.desk now.sink new.sink now.proofs new.proofs
      → (answered ≢ part_written → AreQuiet answers streams now new)
      → Ends answers streams (last_end number answered) old new
  ends_with_last Whole last told quiet = ends_at_last last told (quiet (λ is. cc))
  ends_with_last part_written last (inl told) quiet =
      ends_in_reply answers streams serving new line line last.last.came read wanted told
      (last_lines (told_so line told.reply told.proof) last)
  ends_with_last part_written last (inr told) quiet =
      ends_in_proof answers streams serving new line line last.last.came read wanted told
      (last_lines (told_so line told.reply told.proof) last)
  ends_with_last no_memory last told quiet =
      ends_wanting answers streams serving new line line last.last.came read wanted
      (last_lines (told_wanting line) last) told (quiet (λ is. cc))

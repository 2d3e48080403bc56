-- How a line grows piece by piece.
use Rattle.std.proofs.Math.Seq.{drop-append-add}
use Rattle.std.proofs.lemmas.List.{length-take-le, length-take, drop-take}
use Rattle.std.specs.Prelude.{slice_range}
use Rattle.std.proofs.Common.{nat_eq, false, take, drop, drop-drop, length-drop, ◌-◌, ◌≡◌, ◌≢◌, ◌∙◌, ℕ, ◌+◌, ◌<◌, ◌≤◌, List, [], ◌∷◌, ◌++◌, length, Option, refl, sym, ap, arith, append_assoc, append-nil, length-append}
use Rattle.std.specs.Io.KnownBytes.{Consumes, IsAtEnd, Keeps}
use Rattle.std.proofs.KnownBytes.{Consumes-kept, Consumes-nil, Consumes-trans}
use Rattle.client_lines.specs.declared.lines.TheConstants.{MAX_LINE_BYTES}
use Rattle.line_sessions.specs.declared.streams.More.{More}
use Rattle.line_sessions.specs.declared.streams.More.TheVariants.{Bytes, Nothing, Failed}
use Rattle.client_lines.specs.Cuts.{IsCutAt, Lacks}
use Rattle.line_sessions.specs.Lines.{HasNoEnd}
use Rattle.std.proofs.lemmas.List.Elements.{All-append}
use Rattle.line_sessions.specs.declared.streams.Step.{Step}
use Rattle.line_sessions.specs.declared.streams.Step.TheVariants.{Line, Last, End, LongLine, ReadFault, Memory}
use Rattle.line_sessions.specs.Streams.{Came, CameLast, CamePart, FoundEnding, FoundPart, FoundTooMany, IsLastStep, Lines, Says, SaysMore, SaysRefilled}

-- while a line is read: what was pending and came since is the front of the line and what is pending
pub record IsReading (left left' : Option (List ℕ)) (pending : List ℕ) (lines : Lines) (faults faults' : ℕ) : Type 0 where
  pub came : Came left left' pending (lines.line ++ lines.pending)
  pub one : HasNoEnd lines.line
  pub short : length lines.line ≤ MAX_LINE_BYTES
  pub quiet : faults' ≡ faults

length-some : (bytes : List ℕ) → bytes ≢ [] → 0 < length bytes
length-some [] some = absurd (some refl)
length-some (byte ∷ bytes) some = omega arith

pub more_from_refilled : (more : More) (left left' : Option (List ℕ)) (pending pending' : List ℕ) → pending ≡ [] → SaysRefilled more left left' pending' → SaysMore more left left' pending
more_from_refilled Bytes left left' pending pending' none says = record { rest = pending'; came = record { taken = pending'; consumed = says.0; bytes_are = rw none refl }; some = says.1 }
more_from_refilled Nothing left left' pending pending' none says = record { came = record { taken = []; consumed = says.0; bytes_are = rw none refl }; at_end = says.1; all = refl }
more_from_refilled Failed left left' pending pending' none says = (says, none)

-- a part of a list that begins before it ends has an element, and one that doesn't has none
pub slice_range-some : {X : Type 0} (items : List X) (begin end_ : ℕ) → begin < end_ → end_ ≤ length items → slice_range items begin end_ ≢ []
slice_range-some items begin end_ above within none =
    let size : length (slice_range items begin end_) ≡ 0 = ap length none in
    let full : length (take (end_ - begin) (drop begin items)) ≡ end_ - begin = length-take-le (end_ - begin) (drop begin items) (simp length-drop (omega arith)) in
    omega arith

pub slice_range-none : {X : Type 0} (items : List X) (begin end_ : ℕ) → end_ ≤ begin → slice_range items begin end_ ≡ []
slice_range-none items begin end_ above = let gap : end_ - begin ≡ 0 = omega arith in rw gap refl

-- what stands behind the element at which a part of a list is cut
pub slice_range-behind : {X : Type 0} (items front back : List X) (y : X) (begin end_ : ℕ) → slice_range items begin end_ ≡ front ++ y ∷ back
    → back ≡ slice_range items (begin + (length front + 1)) end_
slice_range-behind items front back y begin end_ cut =
    let skip = length front + 1 in
    let size : length (slice_range items begin end_) ≡ length front + (length back + 1) = ap length cut ∙ simp length-append (omega arith) in
    let bound : length (slice_range items begin end_) ≤ end_ - begin = rw length-take (omega arith) in
    let split : end_ - begin ≡ skip + (end_ - begin - skip) = omega arith in
    let behind : drop skip (front ++ y ∷ back) ≡ back = drop-append-add front (y ∷ back) 1 in
    let moved : drop skip (take (skip + (end_ - begin - skip)) (drop begin items)) ≡ take (end_ - begin - skip) (drop skip (drop begin items)) = drop-take skip (end_ - begin - skip) (drop begin items) in
    let gap : end_ - (begin + skip) ≡ end_ - begin - skip = omega arith in
    sym behind ∙ ap (drop skip) (sym cut) ∙ ap (λ n. drop skip (take n (drop begin items))) split ∙ moved
    ∙ ap (take (end_ - begin - skip)) (drop-drop skip begin items) ∙ ap (λ n. take n (drop (begin + skip) items)) (sym gap)

pub Lacks-append : (byte : ℕ) (xs ys : List ℕ) → Lacks byte xs → Lacks byte ys → Lacks byte (xs ++ ys)
Lacks-append byte xs ys front back = All-append (λ other. nat_eq other byte ≡ false) xs ys front back

-- the same bytes, by another name
pub came_as : (left left' : Option (List ℕ)) (pending bytes others : List ℕ) → bytes ≡ others → Came left left' pending bytes → Came left left' pending others
came_as left left' pending bytes others same came = record { taken = came.taken; consumed = came.consumed; bytes_are = came.bytes_are ∙ same }

-- more bytes came behind these
pub came_more : (left left' left'' : Option (List ℕ)) (pending bytes more : List ℕ) → Came left left' pending bytes → Consumes left' left'' more → Came left left'' pending (bytes ++ more)
came_more left left' left'' pending bytes more came consumed = record {
  taken = came.taken ++ more;
  consumed = Consumes-trans left left' left'' came.taken more came.consumed consumed;
  bytes_are = sym (append_assoc pending came.taken more) ∙ ap (λ front. front ++ more) came.bytes_are;
}

pub reading_at_first : (left : Option (List ℕ)) (lines : Lines) (pending : List ℕ) (faults : ℕ) → lines.line ≡ [] → lines.pending ≡ pending → IsReading left left pending lines faults faults
reading_at_first left lines pending faults empty same = record {
  came = record { taken = []; consumed = Consumes-nil left; bytes_are = append-nil pending ∙ sym same ∙ ap (λ front. front ++ lines.pending) (sym empty) };
  one = λ k d below. absurd (omega (arith, ap length empty));
  short = omega (arith, ap length empty);
  quiet = refl;
}

pub says_line : (left left' : Option (List ℕ)) (pending : List ℕ) (old new : Lines) (faults faults' : ℕ) → IsReading left left' pending old faults faults' → FoundEnding old new → Says Line left left' pending new
says_line left left' pending old new faults faults' reading found = record {
  came = came_as left left' pending _ _ (ap (λ bytes. old.line ++ bytes) found.pending_was ∙ sym (append_assoc old.line found.front (10 ∷ new.pending)) ∙ ap (λ front. front ++ 10 ∷ new.pending) (sym found.line_is)) reading.came;
  line_is = record { one = rw found.line_is (Lacks-append 10 old.line found.front reading.one found.one); short = found.short };
}

pub says_long : (left left' : Option (List ℕ)) (pending : List ℕ) (old new : Lines) (faults faults' : ℕ) → IsReading left left' pending old faults faults' → FoundTooMany old → Says LongLine left left' pending new
says_long left left' pending old new faults faults' reading found = record {
  line = old.line ++ found.front;
  rest = found.rest;
  came = came_as left left' pending _ _ (ap (λ bytes. old.line ++ bytes) found.pending_was ∙ sym (append_assoc old.line found.front found.rest)) reading.came;
  one = Lacks-append 10 old.line found.front reading.one found.one;
  long = found.long;
}

pub says_memory : (left left' : Option (List ℕ)) (pending : List ℕ) (old new : Lines) (faults faults' : ℕ) → IsReading left left' pending old faults faults' → Says Memory left left' pending new
says_memory left left' pending old new faults faults' reading = record { rest = old.line ++ old.pending; came = reading.came }

-- a part of a line was taken, and then this came
pub came_part : (left left' left'' : Option (List ℕ)) (pending more : List ℕ) (old new : Lines) (faults faults' : ℕ) → IsReading left left' pending old faults faults' → FoundPart old new → Consumes left' left'' more
    → Came left left'' pending (new.line ++ more)
came_part left left' left'' pending more old new faults faults' reading found consumed =
    came_as left left'' pending _ _ (ap (λ front. front ++ more) (sym found.line_is)) (came_more left left' left'' pending (old.line ++ old.pending) more reading.came consumed)

pub part_lacks : (left left' : Option (List ℕ)) (pending : List ℕ) (old new : Lines) (faults faults' : ℕ) → IsReading left left' pending old faults faults' → FoundPart old new → HasNoEnd new.line
part_lacks left left' pending old new faults faults' reading found = rw found.line_is (Lacks-append 10 old.line old.pending reading.one found.one)

-- a part of a line came before the call that failed
pub part_before : (left left' : Option (List ℕ)) (pending : List ℕ) (old new : Lines) (faults faults' : ℕ) → IsReading left left' pending old faults faults' → FoundPart old new → CamePart left left' pending
part_before left left' pending old new faults faults' reading found = record {
  rest = new.line;
  came = came_as left left' pending _ _ (sym found.line_is) reading.came;
  partial = part_lacks left left' pending old new faults faults' reading found;
  short = found.short;
}

pub part_kept : (left left' left'' : Option (List ℕ)) (pending : List ℕ) → CamePart left left' pending → Keeps left' left'' → CamePart left left'' pending
part_kept left left' left'' pending part kept = record {
  rest = part.rest;
  came = record { taken = part.came.taken; consumed = Consumes-kept left left' left'' part.came.taken part.came.consumed kept; bytes_are = part.came.bytes_are };
  partial = part.partial;
  short = part.short;
}

last_says : (step : Step) (left left' : Option (List ℕ)) (pending : List ℕ) (last : Lines) → IsLastStep step last.line → CameLast left left' pending last.line last.pending → HasNoEnd last.line → length last.line ≤ MAX_LINE_BYTES
    → Says step left left' pending last
last_says Line left left' pending last is came one short = absurd is
last_says Last left left' pending last is came one short = record { last = came; line_is = record { one = one; short = short }; some = is }
last_says End left left' pending last is came one short = record { came = came_as left left' pending _ _ is came.came; at_end = came.at_end; all = came.all }
last_says LongLine left left' pending last is came one short = absurd is
last_says ReadFault left left' pending last is came one short = absurd is
last_says Memory left left' pending last is came one short = absurd is

pub says_last : (step : Step) (left left' left'' : Option (List ℕ)) (pending : List ℕ) (old new last : Lines) (faults faults' : ℕ) → IsReading left left' pending old faults faults' → FoundPart old new
    → Consumes left' left'' [] × IsAtEnd left'' × (last.pending ≡ []) → last.line ≡ new.line → IsLastStep step last.line → Says step left left'' pending last
says_last step left left' left'' pending old new last faults faults' reading found refilled same is =
    let came = came_as left left'' pending _ _ (append-nil new.line ∙ sym same) (came_part left left' left'' pending [] old new faults faults' reading found refilled.0) in
    last_says step left left'' pending last is (record { came = came; at_end = refilled.1; all = refilled.2 }) (rw same (part_lacks left left' pending old new faults faults' reading found)) (rw same found.short)

pub reading_more : (left left' left'' : Option (List ℕ)) (pending : List ℕ) (old new more : Lines) (faults faults' faults'' : ℕ) → IsReading left left' pending old faults faults' → FoundPart old new
    → Consumes left' left'' more.pending × (more.pending ≢ []) → more.line ≡ new.line → faults'' ≡ faults' → IsReading left left'' pending more faults faults''
reading_more left left' left'' pending old new more faults faults' faults'' reading found refilled same quiet = record {
  came = came_as left left'' pending _ _ (ap (λ front. front ++ more.pending) (sym same)) (came_part left left' left'' pending more.pending old new faults faults' reading found refilled.0);
  one = rw same (part_lacks left left' pending old new faults faults' reading found);
  short = rw same found.short;
  quiet = quiet ∙ reading.quiet;
}

-- with more bytes behind a part, less is left of the longest line
pub reading_less : (old new more : Lines) → FoundPart old new → more.line ≡ new.line → more.pending ≢ []
    → MAX_LINE_BYTES + 1 - length (more.line ++ more.pending) < MAX_LINE_BYTES + 1 - length (old.line ++ old.pending)
reading_less old new more found same some =
    let front : length new.line ≡ length (old.line ++ old.pending) = ap length found.line_is in
    let size : length (more.line ++ more.pending) ≡ length new.line + length more.pending = length-append more.line more.pending ∙ ap (λ n. n + length more.pending) (ap length same) in
    let bytes : 0 < length more.pending = length-some more.pending some in
    omega (arith, found.short)

-- the pending bytes stand in a list of bytes, and there are too many of them
pub found_too_many : (items line : List ℕ) (begin end_ : ℕ) (old : Lines) → slice_range items begin end_ ≡ old.pending → line ≡ old.line → Lacks 10 (slice_range items begin end_) → length old.line ≤ MAX_LINE_BYTES
    → MAX_LINE_BYTES - length line < length (slice_range items begin end_) → FoundTooMany old
found_too_many items line begin end_ old here line_is lacks short many = record {
  front = slice_range items begin end_;
  rest = [];
  pending_was = sym here ∙ sym (append-nil (slice_range items begin end_));
  one = lacks;
  long = simp length-append (omega (arith, ap length line_is));
}

-- the pending bytes are cut at a line end, and what stands before it joins the line
pub found_ending : (items line grown front back : List ℕ) (begin end_ : ℕ) (old : Lines) → slice_range items begin end_ ≡ old.pending → line ≡ old.line → IsCutAt 10 (slice_range items begin end_) front back
    → grown ≡ line ++ front → length old.line ≤ MAX_LINE_BYTES → length front ≤ MAX_LINE_BYTES - length line
    → FoundEnding old (record { line = grown; pending = slice_range items (begin + (length front + 1)) end_ })
found_ending items line grown front back begin end_ old here line_is cut grown_is short room = record {
  front = front;
  pending_was = sym here ∙ cut.parts ∙ ap (λ rest. front ++ 10 ∷ rest) (slice_range-behind items front back 10 begin end_ cut.parts);
  one = cut.first;
  line_is = grown_is ∙ ap (λ bytes. bytes ++ front) line_is;
  short = rw grown_is (simp length-append (omega (arith, ap length line_is)));
}

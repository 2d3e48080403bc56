-- How a session ends, and what its source gave and its sink got.
use Rattle.std.specs.Prelude.{◌≡◌, ◌≢◌, ◌⊎◌, ℕ, ◌<◌, ◌≤◌, List, [], ◌∷◌, ◌++◌, length, take, All}
use Rattle.std.specs.Prelude.{Option}
use Rattle.std.specs.Io.KnownBytes.{Appends, Consumes, IsAtEnd}
use Rattle.outside_io.specs.Stops.{ReadStopsAt, StopsAt}
use Rattle.client_lines.specs.declared.lines.TheConstants.{MAX_LINE_BYTES}
use Rattle.client_lines.specs.Replies.{reply_text}
use Rattle.client_lines.specs.declared.reply_texts.replies.Reply.{Reply}
use Rattle.client_lines.specs.declared.reply_texts.replies.Reply.TheVariants as reply
use Rattle.line_sessions.specs.declared.sessions.TheConstants.{MAX_LINES}
use Rattle.line_sessions.specs.declared.sessions.Ended.{Ended}
use Rattle.line_sessions.specs.declared.sessions.Why.{Why}
use Rattle.line_sessions.specs.declared.sessions.Why.TheVariants.{Input, ReadFault, WriteFault}
use Rattle.line_sessions.specs.declared.sessions.Why.TheVariants.{LongLine, LineCount, Memory}
use Rattle.line_sessions.specs.Lines.{lines_of, ended, IsLine, HasNoEnd}
use Rattle.line_sessions.specs.Proofs.{faults_by, held_by, is_wanted}
use Rattle.line_sessions.specs.declared.proofs.Proofs.{Proofs}
use Rattle.line_sessions.specs.Told.{Told, lines_told, proofs_told, text_told, AreAnswered}

-- what a session took out of its source, what it put into the sink of the replies and into that of
-- their proofs, and the lines that were answered; where no proofs are wanted their text still
-- counts as proved, and no sink gets it
pub record Traffic : Type 0 where
  pub taken : List ℕ
  pub gained : List ℕ
  pub proved : List ℕ
  pub told : List Told

-- ---- the lines

-- the bytes taken are these lines, each with its end, and then a rest; none of the lines is
-- too long, nor are they too many
pub record Begins (taken : List ℕ) (lines : List (List ℕ)) (rest : List ℕ) : Type 0 where
  pub text : taken ≡ ended lines ++ rest
  pub lines_are : All IsLine lines
  pub count : length lines ≤ MAX_LINES

-- the bytes taken are the whole of these lines; none of the lines is
-- too long, nor are they too many
pub record AreAll (taken : List ℕ) (lines : List (List ℕ)) : Type 0 where
  pub text : lines ≡ lines_of taken
  pub lines_are : All IsLine lines
  pub count : length lines ≤ MAX_LINES

-- the source is at its end and the lines are those of the whole input, or
-- they are those of its beginning
abbrev pub AreLinesOf : Type 0 → List ℕ → List (List ℕ) → Type 0
AreLinesOf AtEnd taken lines =
    (AtEnd × AreAll taken lines) ⊎ ((rest : List ℕ) × Begins taken lines rest)

-- ---- the replies

-- the replies to these lines and their proofs are all that the sinks gained,
-- and so many lines are counted
pub record AreCounted (gained proved : List ℕ) (told : List Told) (lines : ℕ) : Type 0 where
  pub replies : gained ≡ text_told told
  pub proofs : proved ≡ proofs_told told
  pub number : lines ≡ length told

-- ---- the ends

-- the source is at its end, and each line of the whole input was answered
pub record EndsAtInput (traffic : Traffic) (lines : ℕ) (AtEnd : Type 0) : Type 0 where
  pub at_end : AtEnd
  pub lines_are : AreAll traffic.taken (lines_told traffic.told)
  pub counted : AreCounted traffic.gained traffic.proved traffic.told lines

-- the source failed behind the answered lines, within the next one, where one more was allowed
pub record EndsAtReadFault (traffic : Traffic) (lines : ℕ) : Type 0 where
  pub rest : List ℕ
  pub begins : Begins traffic.taken (lines_told traffic.told) rest
  pub partial : HasNoEnd rest
  pub short : length rest ≤ MAX_LINE_BYTES
  pub few : length traffic.told ≡ MAX_LINES → rest ≡ []
  pub counted : AreCounted traffic.gained traffic.proved traffic.told lines

-- the line behind the answered ones is too long, and one more line was allowed
pub record EndsAtLongLine (traffic : Traffic) (lines : ℕ) : Type 0 where
  pub line : List ℕ
  pub rest : List ℕ
  pub begins : Begins traffic.taken (lines_told traffic.told) (line ++ rest)
  pub one : HasNoEnd line
  pub long : MAX_LINE_BYTES < length line
  pub allowed : length traffic.told < MAX_LINES
  pub counted : AreCounted traffic.gained traffic.proved traffic.told lines

-- as many lines as are allowed were answered, and another one begins
pub record EndsAtLineCount (traffic : Traffic) (lines : ℕ) : Type 0 where
  pub rest : List ℕ
  pub begins : Begins traffic.taken (lines_told traffic.told) rest
  pub full : length traffic.told ≡ MAX_LINES
  pub more : rest ≢ []
  pub counted : AreCounted traffic.gained traffic.proved traffic.told lines

-- the line is told that memory was wanted, and there is no proof of that
abbrev pub told_wanting : List ℕ → Told
told_wanting line = record { line = line; reply = reply.NoMemory; proof = [] }

-- nothing was answered behind these lines, or memory was wanted for the reply to one more,
-- of which the sinks got nothing
abbrev pub IsWantedBehind : List Told → List Told → Type 0
IsWantedBehind told counted =
    (told ≡ counted) ⊎ ((line : List ℕ) × (told ≡ counted ++ told_wanting line ∷ []))

-- memory was wanted, for a session, for more of the input, or for the reply to the last line
pub record EndsAtMemory (traffic : Traffic) (lines : ℕ) (AtEnd : Type 0) : Type 0 where
  pub before : List Told
  pub lines_are : AreLinesOf AtEnd traffic.taken (lines_told traffic.told)
  pub wanted : IsWantedBehind traffic.told before
  pub counted : AreCounted traffic.gained traffic.proved before lines

-- The sinks took the replies to some lines and their proofs whole, and of the last line's proof and
-- reply a part: of the reply never all, and nothing where the proof is not whole.
pub record EndsAtWriteFault (traffic : Traffic) (lines : ℕ) (AtEnd : Type 0) : Type 0 where
  pub before : List Told
  pub last : Told
  pub proof_part : ℕ
  pub part : ℕ
  pub lines_are : AreLinesOf AtEnd traffic.taken (lines_told traffic.told)
  pub told_are : traffic.told ≡ before ++ last ∷ []
  pub proved : traffic.proved ≡ proofs_told before ++ take proof_part last.proof
  pub proof_first : 0 < part → length last.proof ≤ proof_part
  pub proper : part < length (reply_text last.reply)
  pub gained : traffic.gained ≡ text_told before ++ take part (reply_text last.reply)
  pub number : lines ≡ length before

-- what an end says of what passed, where so many lines are counted and AtEnd is
-- that the source is at its end
abbrev pub EndsBy : Why → Traffic → ℕ → Type 0 → Type 0
EndsBy Input traffic lines AtEnd = EndsAtInput traffic lines AtEnd
EndsBy ReadFault traffic lines AtEnd = EndsAtReadFault traffic lines
EndsBy WriteFault traffic lines AtEnd = EndsAtWriteFault traffic lines AtEnd
EndsBy LongLine traffic lines AtEnd = EndsAtLongLine traffic lines
EndsBy LineCount traffic lines AtEnd = EndsAtLineCount traffic lines
EndsBy Memory traffic lines AtEnd = EndsAtMemory traffic lines AtEnd

-- ---- the whole

-- what is told of sources and sinks: their bytes and their counts of faults
pub record Streams (Src Snk : Type 0) : Type 0 where
  pub left : Src → Option (List ℕ)
  pub read_faults : Src → ℕ
  pub held : Snk → Option (List ℕ)
  pub write_faults : Snk → ℕ

-- these, named
abbrev pub streams : {Src Snk : Type 0} → (Src → Option (List ℕ)) → (Src → ℕ)
    → (Snk → Option (List ℕ)) → (Snk → ℕ) → Streams Src Snk
streams left read_faults held write_faults = record {
  left = left;
  read_faults = read_faults;
  held = held;
  write_faults = write_faults;
}

-- the sink of the replies failed within the last reply, whose proof was written whole
pub record StopsInReply {Src Snk : Type 0} (streams : Streams Src Snk) (traffic : Traffic)
    (sink sink' : Snk) (proofs proofs' : Proofs Snk) : Type 0 where
  pub stops : StopsAt streams.held streams.write_faults sink sink' traffic.gained
  pub whole : traffic.proved ≡ proofs_told traffic.told
  pub quiet : faults_by streams.write_faults proofs' ≡ faults_by streams.write_faults proofs

-- the sink of the proofs failed within the last proof, and of its reply, behind so
-- many others, nothing was written
pub record StopsInProof {Src Snk : Type 0} (streams : Streams Src Snk) (lines : ℕ)
    (traffic : Traffic) (sink sink' : Snk) (proofs proofs' : Proofs Snk) : Type 0 where
  pub stops : StopsAt (held_by streams.held) (faults_by streams.write_faults)
      proofs proofs' traffic.proved
  pub short : length traffic.proved < length (proofs_told traffic.told)
  pub nothing : traffic.gained ≡ text_told (take lines traffic.told)
  pub quiet : streams.write_faults sink' ≡ streams.write_faults sink

-- A session ended so, and this passed between the states of its source and its sinks before and
-- after. A fault of any of them ends a session at once.
pub record Passes {Src Snk : Type 0} (streams : Streams Src Snk) (ended : Ended)
    (traffic : Traffic) (source source' : Src) (sink sink' : Snk)
    (proofs proofs' : Proofs Snk) : Type 0 where
  pub consumed : Consumes (streams.left source) (streams.left source') traffic.taken
  pub appended : Appends (streams.held sink) (streams.held sink') traffic.gained
  pub proved : Appends (held_by streams.held proofs) (held_by streams.held proofs') traffic.proved
  pub wanted : is_wanted proofs' ≡ is_wanted proofs
  pub ends : EndsBy ended.why traffic ended.lines (IsAtEnd (streams.left source'))
  pub read_fault : ended.why ≡ ReadFault
      → ReadStopsAt streams.left streams.read_faults source source' traffic.taken
  pub write_fault : ended.why ≡ WriteFault
      → StopsInReply streams traffic sink sink' proofs proofs'
      ⊎ StopsInProof streams ended.lines traffic sink sink' proofs proofs'
  pub read_quiet : ended.why ≢ ReadFault
      → streams.read_faults source' ≡ streams.read_faults source
  pub write_quiet : ended.why ≢ WriteFault
      → streams.write_faults sink' ≡ streams.write_faults sink
  pub proof_quiet : ended.why ≢ WriteFault
      → faults_by streams.write_faults proofs' ≡ faults_by streams.write_faults proofs

-- a desk, a source, a sink and what becomes of proofs at one time
pub record Scene (Desk Src Snk : Type 0) : Type 0 where
  pub desk : Desk
  pub source : Src
  pub sink : Snk
  pub proofs : Proofs Snk

-- these, named
abbrev pub scene : {Desk Src Snk : Type 0} → Desk → Src → Snk → Proofs Snk → Scene Desk Src Snk
scene desk source sink proofs = record {
  desk = desk;
  source = source;
  sink = sink;
  proofs = proofs;
}

-- a session ended so, and the desk answered its lines one after another
pub record Ends {Desk Src Snk : Type 0}
    (answers : Desk → ℕ → List ℕ → Reply → List ℕ → Desk → Type 0)
    (streams : Streams Src Snk) (ended : Ended) (old new : Scene Desk Src Snk) : Type 0 where
  pub traffic : Traffic
  pub passes : Passes streams ended traffic old.source new.source old.sink new.sink
      old.proofs new.proofs
  pub answered : AreAnswered answers 1 traffic.told old.desk new.desk

-- The bytes of a file of proofs come to one line.
use Rattle.std.proofs.Common.{◌≡◌, ◌∙◌, ap, sym, refl, subst, inl, inr, ℕ, suc, ◌+◌, ◌≤◌, List, []}
use Rattle.std.proofs.Common.{◌∷◌, ◌++◌, length, arith, append_assoc, length-append}
use Rattle.std.specs.List.{flat_map}
use Rattle.std.proofs.lemmas.List.{append-nil}
use Rattle.std.proofs.lemmas.List.Elements.{All-head, All-tail}
use Rattle.proof_texts.specs.lines.Names.{Names}
use Rattle.rail_types.specs.declared.entries.Entry.{Entry}
use Rattle.rail_types.specs.Timetables.{Timetable}
use Rattle.proof_texts.specs.lines.Fields.{line_of}
use Rattle.proof_texts.specs.declared.refusals.Proof.{Proof}
use Rattle.proof_texts.specs.Read.{ProofsAreReadOnce}
use Rattle.proof_texts.specs.Texts.{count_fields, ended, head_fields, member_text, proof_text}
use Rattle.proof_texts.specs.Told.{IsProofOf}
use Rattle.check_command.specs.Checks.{AreGood, BeginsWith, HasDoubt, Holds, IsDone, IsDoubted}
use Rattle.check_command.specs.Checks.{IsWide, ProofsAreJudgedOnce, Proves, done_line, texts_of}

-- the text of a proof has a byte
some_line : (line : List ℕ) → 1 ≤ length (line ++ 10 ∷ [])
some_line line = let all = length-append line (10 ∷ []) in omega (arith, all)

pub some_text : (stops : List (List ℕ)) (proof : Proof) → 1 ≤ length (proof_text stops proof)
some_text stops proof =
    let first = some_line (line_of (head_fields stops proof)) in
    let all = length-append (ended (head_fields stops proof)) (ended (count_fields (length proof.closed.members)) ++ flat_map member_text proof.closed.members) in
    omega (arith, first, all)

module _ (once : ProofsAreReadOnce) (known : Names) (timetable : Timetable) (entries : List Entry) where
  abbrev stops : List (List ℕ)
  stops = known.railway.stops

  abbrev text : Proof → List ℕ
  text proof = proof_text stops proof

  no_text : (proof : Proof) (rest : List ℕ) → [] ≡ text proof ++ rest → ⊥
  no_text proof rest same =
      let some = some_text stops proof in
      let all : length (text proof ++ rest) ≡ length (text proof) + length rest = length-append (text proof) rest in
      let none : 0 ≡ length (text proof ++ rest) = ap length same in
      omega (arith, some, all, none)

  -- a text begins with one proof
  one_proof : (bytes : List ℕ) (one other : Proof) → BeginsWith known bytes one → BeginsWith known bytes other → one ≡ other
  one_proof bytes one other first second = (once known one other first.rest second.rest first.told second.told (sym first.parts ∙ second.parts)).0

  -- where a proof holds there is no doubt
  no_doubt : (bytes : List ℕ) (proof : Proof) (position : ℕ) (line : List ℕ) → BeginsWith known bytes proof → Holds timetable entries proof → IsDoubted known timetable entries bytes position line → ⊥
  no_doubt bytes proof position line begins holds (inl doubt) = doubt.0.none proof begins holds.past
  no_doubt bytes proof position line begins holds (inr (inl doubt)) = holds.listed (subst (IsWide timetable) (one_proof bytes doubt.0.proof proof doubt.0.begins begins) doubt.0.wide)
  no_doubt bytes proof position line begins holds (inr (inr doubt)) = doubt.0.fails (subst (Proves timetable entries) (sym (one_proof bytes doubt.0.proof proof doubt.0.begins begins)) holds.proves)

  -- nor where nothing stands
  none_doubted : (position : ℕ) (line : List ℕ) → IsDoubted known timetable entries [] position line → ⊥
  none_doubted position line (inl doubt) = doubt.0.some refl
  none_doubted position line (inr (inl doubt)) = no_text doubt.0.proof doubt.0.begins.rest doubt.0.begins.parts
  none_doubted position line (inr (inr doubt)) = no_text doubt.0.proof doubt.0.begins.rest doubt.0.begins.parts

  one_line : (bytes : List ℕ) (position : ℕ) (line other : List ℕ) → IsDoubted known timetable entries bytes position line → IsDoubted known timetable entries bytes position other → line ≡ other
  one_line bytes position line other (inl one) (inl two) = one.1 ∙ sym two.1
  one_line bytes position line other (inl one) (inr (inl two)) = absurd (one.0.none two.0.proof two.0.begins two.0.past)
  one_line bytes position line other (inl one) (inr (inr two)) = absurd (one.0.none two.0.proof two.0.begins two.0.past)
  one_line bytes position line other (inr (inl one)) (inl two) = absurd (two.0.none one.0.proof one.0.begins one.0.past)
  one_line bytes position line other (inr (inl one)) (inr (inl two)) = one.1 ∙ sym two.1
  one_line bytes position line other (inr (inl one)) (inr (inr two)) = absurd (two.0.listed (subst (IsWide timetable) (one_proof bytes one.0.proof two.0.proof one.0.begins two.0.begins) one.0.wide))
  one_line bytes position line other (inr (inr one)) (inl two) = absurd (two.0.none one.0.proof one.0.begins one.0.past)
  one_line bytes position line other (inr (inr one)) (inr (inl two)) = absurd (one.0.listed (subst (IsWide timetable) (one_proof bytes two.0.proof one.0.proof two.0.begins one.0.begins) two.0.wide))
  one_line bytes position line other (inr (inr one)) (inr (inr two)) = one.1 ∙ sym two.1

  begins_with : (proof : Proof) (proofs : List Proof) (rest : List ℕ) → IsProofOf known proof → BeginsWith known (texts_of known (proof ∷ proofs) ++ rest) proof
  begins_with proof proofs rest told = record { told = told; rest = texts_of known proofs ++ rest; parts = append_assoc (text proof) (texts_of known proofs) rest }

  head_of : (proof : Proof) (proofs : List Proof) → AreGood known timetable entries (proof ∷ proofs) → IsProofOf known proof × Holds timetable entries proof
  head_of proof proofs good = (All-head (IsProofOf known) proof proofs good.told, All-head (Holds timetable entries) proof proofs good.hold)

  tail_of : (proof : Proof) (proofs : List Proof) → AreGood known timetable entries (proof ∷ proofs) → AreGood known timetable entries proofs
  tail_of proof proofs good = record { told = All-tail (IsProofOf known) proof proofs good.told; hold = All-tail (Holds timetable entries) proof proofs good.hold }

  -- two readings of one text have the same first proof, and the same behind it
  same_rest : (one other : Proof) (ones others : List Proof) (rest behind : List ℕ) → IsProofOf known one → IsProofOf known other → texts_of known (one ∷ ones) ++ rest ≡ texts_of known (other ∷ others) ++ behind
      → texts_of known ones ++ rest ≡ texts_of known others ++ behind
  same_rest one other ones others rest behind first second same =
      (once known one other (texts_of known ones ++ rest) (texts_of known others ++ behind) first second
      (sym (append_assoc (text one) (texts_of known ones) rest) ∙ (same ∙ append_assoc (text other) (texts_of known others) behind))).1

  abbrev Doubted : List ℕ → Type 0
  Doubted bytes = (position : ℕ) × (line : List ℕ) × IsDoubted known timetable entries bytes position line

  -- behind proofs that hold the first doubt stands at one place
  one_place : (ones others : List Proof) (rest behind : List ℕ) → AreGood known timetable entries ones → AreGood known timetable entries others → Doubted rest → Doubted behind
      → texts_of known ones ++ rest ≡ texts_of known others ++ behind → (length ones ≡ length others) × (rest ≡ behind)
  one_place [] [] rest behind good fine first second same = (refl, same)
  one_place [] (other ∷ others) rest behind good fine first second same =
      let head = head_of other others fine in
      absurd (no_doubt rest other first.0 first.1 (subst (λ (bytes : List ℕ). BeginsWith known bytes other) (sym same) (begins_with other others behind head.0)) head.1 first.2)
  one_place (one ∷ ones) [] rest behind good fine first second same =
      let head = head_of one ones good in
      absurd (no_doubt behind one second.0 second.1 (subst (λ (bytes : List ℕ). BeginsWith known bytes one) same (begins_with one ones rest head.0)) head.1 second.2)
  one_place (one ∷ ones) (other ∷ others) rest behind good fine first second same =
      let more = one_place ones others rest behind (tail_of one ones good) (tail_of other others fine) first second (same_rest one other ones others rest behind (head_of one ones good).0 (head_of other others fine).0 same) in
      (ap suc more.0, more.1)

  doubt_once : (bytes line other : List ℕ) → HasDoubt known timetable entries bytes line → HasDoubt known timetable entries bytes other → line ≡ other
  doubt_once bytes line other one two =
      let place = one_place one.proofs two.proofs one.rest two.rest one.good two.good (length one.proofs, line, one.doubt) (length two.proofs, other, two.doubt) (sym one.parts ∙ two.parts) in
      one_line two.rest (length two.proofs) line other
      (subst (λ (n : ℕ). IsDoubted known timetable entries two.rest n line) place.0 (subst (λ (rest : List ℕ). IsDoubted known timetable entries rest (length one.proofs) line) place.1 one.doubt)) two.doubt

  -- proofs that are all of a text leave no room for a doubt
  never_both : (ones others : List Proof) (rest : List ℕ) → AreGood known timetable entries ones → AreGood known timetable entries others → Doubted rest → texts_of known ones ++ [] ≡ texts_of known others ++ rest → ⊥
  never_both [] [] rest good fine doubt same = none_doubted doubt.0 doubt.1 (subst (λ (bytes : List ℕ). IsDoubted known timetable entries bytes doubt.0 doubt.1) (sym same) doubt.2)
  never_both [] (other ∷ others) rest good fine doubt same = no_text other (texts_of known others ++ rest) (same ∙ append_assoc (text other) (texts_of known others) rest)
  never_both (one ∷ ones) [] rest good fine doubt same =
      let head = head_of one ones good in
      no_doubt rest one doubt.0 doubt.1 (subst (λ (bytes : List ℕ). BeginsWith known bytes one) same (begins_with one ones [] head.0)) head.1 doubt.2
  never_both (one ∷ ones) (other ∷ others) rest good fine doubt same =
      never_both ones others rest (tail_of one ones good) (tail_of other others fine) doubt (same_rest one other ones others [] rest (head_of one ones good).0 (head_of other others fine).0 same)

  as_many : (ones others : List Proof) → AreGood known timetable entries ones → AreGood known timetable entries others → texts_of known ones ++ [] ≡ texts_of known others ++ [] → length ones ≡ length others
  as_many [] [] good fine same = refl
  as_many [] (other ∷ others) good fine same = absurd (no_text other (texts_of known others ++ []) (same ∙ append_assoc (text other) (texts_of known others) []))
  as_many (one ∷ ones) [] good fine same = absurd (no_text one (texts_of known ones ++ []) (sym same ∙ append_assoc (text one) (texts_of known ones) []))
  as_many (one ∷ ones) (other ∷ others) good fine same =
      ap suc (as_many ones others (tail_of one ones good) (tail_of other others fine) (same_rest one other ones others [] [] (head_of one ones good).0 (head_of other others fine).0 same))

  done_once : (bytes line other : List ℕ) → IsDone known timetable entries bytes line → IsDone known timetable entries bytes other → line ≡ other
  done_once bytes line other one two =
      let count = as_many one.proofs two.proofs one.are.good two.are.good (ap (λ (all : List ℕ). all ++ []) (sym one.are.text_is ∙ two.are.text_is)) in
      one.line_is ∙ (ap done_line count ∙ sym two.line_is)

  either_one : (bytes line other : List ℕ) → IsDone known timetable entries bytes line → ¬ HasDoubt known timetable entries bytes other
  either_one bytes line other done doubt =
      never_both done.proofs doubt.proofs doubt.rest done.are.good doubt.good (length doubt.proofs, other, doubt.doubt)
      (append-nil (texts_of known done.proofs) ∙ (sym done.are.text_is ∙ doubt.parts))

pub judged_once : ProofsAreReadOnce → ProofsAreJudgedOnce
judged_once once = record {
  done = λ known timetable entries bytes line other. done_once once known timetable entries bytes line other;
  doubt = λ known timetable entries bytes line other. doubt_once once known timetable entries bytes line other;
  either = λ known timetable entries bytes line other. either_one once known timetable entries bytes line other;
}

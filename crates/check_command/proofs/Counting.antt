-- Proofs counted one behind the other.
use Rattle.std.proofs.Common.{◌≡◌, ◌≢◌, ◌∙◌, ap, sym, refl, ℕ, ◌+◌, ◌-◌, ◌≤◌, ◌<◌, List, [], ◌∷◌}
use Rattle.std.proofs.Common.{◌++◌, length, take, drop, arith, append_assoc, length-append}
use Rattle.std.proofs.Common.{length-drop}
use Rattle.std.proofs.lemmas.List.{append-nil, length-take-le, take-append-drop}
use Rattle.std.proofs.lemmas.List.Elements.{All-nil, All-push}
use Rattle.std.proofs.Math.Seq.{take-append-add, take-append_seam}
use Rattle.proof_texts.specs.lines.Names.{Names}
use Rattle.rail_types.specs.declared.entries.Entry.{Entry}
use Rattle.rail_types.specs.Timetables.{Timetable}
use Rattle.proof_texts.specs.declared.refusals.Proof.{Proof}
use Rattle.proof_texts.specs.Texts.{proof_text}
use Rattle.proof_texts.specs.Told.{IsProofOf}
use Rattle.check_command.specs.Checks.{Holds, texts_of}
use Rattle.check_command.specs.Doubts.{BeginsWell, HasGood, IsDoubtIn, Refutes}
use Rattle.check_command.specs.declared.doubts.Why.{Why}
use Rattle.check_command.proofs.Once.{some_text}

module _ (known : Names) (timetable : Timetable) (entries : List Entry) where
  abbrev text : Proof → List ℕ
  text proof = proof_text known.railway.stops proof

  texts_more : (proofs : List Proof) (proof : Proof) → texts_of known (proofs ++ proof ∷ []) ≡ texts_of known proofs ++ text proof
  texts_more [] proof = append-nil (text proof)
  texts_more (first ∷ proofs) proof = ap (λ (rest : List ℕ). text first ++ rest) (texts_more proofs proof) ∙ sym (append_assoc (text first) (texts_of known proofs) (text proof))

  pub good_none : (bytes : List ℕ) → HasGood known timetable entries bytes 0 0
  good_none bytes = record { proofs = []; good = record { told = All-nil (IsProofOf known); hold = All-nil (Holds timetable entries) }; text_is = refl; counted = refl }

  -- how much of the bytes a proof takes
  pub proof_within : (bytes : List ℕ) (at count : ℕ) → at ≤ length bytes → BeginsWell known timetable entries (drop at bytes) count → (1 ≤ count) × (at + count ≤ length bytes)
  proof_within bytes at count within begins =
      let some = some_text known.railway.stops begins.proof in
      let all : length (drop at bytes) ≡ length (text begins.proof) + length (drop count (drop at bytes)) = ap length begins.parts ∙ length-append (text begins.proof) (drop count (drop at bytes)) in
      let left : length (drop at bytes) ≡ length bytes - at = length-drop at bytes in
      (omega (arith, some, begins.counted), omega (arith, all, left, begins.counted, within))

  pub good_more : (bytes : List ℕ) (at count n : ℕ) → at ≤ length bytes → HasGood known timetable entries bytes at n → BeginsWell known timetable entries (drop at bytes) count → HasGood known timetable entries bytes (at + count) (n + 1)
  good_more bytes at count n within so_far begins =
      let front : length (take at bytes) ≡ at = length-take-le at bytes within in
      let here : take count (drop at bytes) ≡ text begins.proof =
      ap (take count) begins.parts ∙ (ap (λ (m : ℕ). take m (text begins.proof ++ drop count (drop at bytes))) begins.counted ∙ take-append_seam (text begins.proof) (drop count (drop at bytes))) in
      let split : take (at + count) bytes ≡ take at bytes ++ take count (drop at bytes) =
      ap (take (at + count)) (sym (take-append-drop at bytes))
      ∙ (ap (λ (m : ℕ). take (m + count) (take at bytes ++ drop at bytes)) (sym front) ∙ take-append-add (take at bytes) (drop at bytes) count) in
      record {
        proofs = so_far.proofs ++ begins.proof ∷ [];
        good = record {
          told = All-push (IsProofOf known) so_far.proofs begins.proof so_far.good.told begins.told;
          hold = All-push (Holds timetable entries) so_far.proofs begins.proof so_far.good.hold begins.holds;
        };
        text_is = split ∙ (ap (λ (rest : List ℕ). take at bytes ++ rest) here ∙ (ap (λ (first : List ℕ). first ++ text begins.proof) so_far.text_is ∙ sym (texts_more so_far.proofs begins.proof)));
        counted = ap (λ (m : ℕ). m + 1) so_far.counted ∙ sym (length-append so_far.proofs (begins.proof ∷ []));
      }

  pub doubt_at : (bytes : List ℕ) (at n : ℕ) (why : Why) → HasGood known timetable entries bytes at n → Refutes known timetable entries (drop at bytes) why → IsDoubtIn known timetable entries bytes (record { position = n; why = why })
  doubt_at bytes at n why so_far refutes = record {
    proofs = so_far.proofs;
    rest = drop at bytes;
    good = so_far.good;
    parts = sym (take-append-drop at bytes) ∙ ap (λ (first : List ℕ). first ++ drop at bytes) so_far.text_is;
    counted = so_far.counted;
    refutes = refutes;
  }

pub some_left : (bytes : List ℕ) (at : ℕ) → at < length bytes → drop at bytes ≢ []
some_left bytes at within none =
    let left : length (drop at bytes) ≡ length bytes - at = length-drop at bytes in
    let zero_long : length (drop at bytes) ≡ 0 = ap length none in
    omega (arith, left, zero_long, within)

-- What a text tells line by line, as it is written.
use Rattle.std.proofs.Common.{◌≡◌, ◌∙◌, ap, sym, refl, subst, ℕ, zero, suc, ◌≤◌, List, [], ◌∷◌, ◌++◌, length, map, Some, None, Result, Ok, Err, decimal, arith, append_assoc}
use Rattle.std.specs.Prelude.{codes}
use Rattle.std.specs.List.{All, flat_map}
use Rattle.std.proofs.lemmas.List.Elements.{All-cons, All-head, All-nil, All-tail}
use Rattle.rail_types.specs.declared.limits.TheConstants.{MAX_NUMBER}
use Rattle.rail_types.specs.declared.trains.Stop.{Stop}
use Rattle.tail_states.specs.declared.certificates.Member.{Member}
use Rattle.client_lines.specs.Fields.{line_of, spaced}
use Rattle.client_lines.specs.Cuts.{fields_of}
use Rattle.client_lines.specs.Forms.{Form, Spells}
use Rattle.client_lines.specs.Names.{Names}
use Rattle.client_lines.specs.Reading.{line_reading}
use Rattle.client_lines.proofs.FormLaws.{line_spells, spelled_line}
use Rattle.client_lines.proofs.Meanings.{NameLaws}
use Rattle.proof_texts.specs.declared.refusals.Proof.{Proof}
use Rattle.proof_texts.specs.declared.heads.Head.{Head}
use Rattle.proof_texts.specs.Forms.{a_count, a_head, a_member}
use Rattle.proof_texts.specs.Lines.{Beginning, counted_at, go_on, line_at, lined, members_at, proof_at, proof_of, with_front, with_rest}
use Rattle.proof_texts.specs.Texts.{count_fields, ended, member_fields, member_text, name_at, proof_text, stop_fields}
use Rattle.proof_texts.specs.Told.{IsMemberOn, IsProofOf}
use Rattle.proof_texts.proofs.Cutting.{fields_of-spaced, line_at-ended, line_at-parts, line_of-fields_of, line_whole}
use Rattle.proof_texts.proofs.FirstLines.{count_is, head_is, head_text, IsCount, IsHead}
use Rattle.proof_texts.proofs.MemberLines.{member_is}
use Rattle.proof_texts.proofs.Spelled.{IsSpelled}
use Rattle.proof_texts.proofs.Visible.{AllVisible, AreVisible, decimal_visible, escaped_visible, flag_visible, signed_visible, visible_both, visible_groups, visible_numbers, word_visible}

-- what a reading tells is written so, and what is written so is told
pub record IsReading {A : Type 0} (at : List ℕ → Beginning A) (text : A → List ℕ) (Is : A → Type 0) : Type 0 where
  pub takes : (bytes rest : List ℕ) (said : A) → at bytes ≡ Some (said, rest) → (bytes ≡ text said ++ rest) × Is said
  pub gives : (said : A) (rest : List ℕ) → Is said → at (text said ++ rest) ≡ Some (said, rest)

-- at least one field, and all of them visible
abbrev pub IsLine : List (List ℕ) → Type 0
IsLine [] = ⊥
IsLine (field ∷ fields) = AreVisible field × AllVisible fields

pair_is : {A : Type 0} (p q : A × List ℕ) → ◌≡◌ {A = Beginning A} (Some p) (Some q) → p ≡ q
pair_is p q e = cc

-- ---- one line

module _ (laws : NameLaws) where
  record IsLined {A : Type 0} (form : Form A) (text rest : List ℕ) (said : A) : Type 0 where
    line : List ℕ
    parts : text ≡ line ++ 10 ∷ rest
    spelled : Spells form (fields_of line) said

  lined_of : {A : Type 0} (form : Form A) (text line behind rest : List ℕ) (said : A) (reading : Result A ℕ) → line_at text ≡ Some (line, behind) → line_reading form (fields_of line) ≡ reading
      → with_rest behind reading ≡ Some (said, rest) → IsLined form text rest said
  lined_of form text line behind rest said (Err at) cut read is = absurd cc
  lined_of {A} form text line behind rest said (Ok value) cut read is =
      let all = (line_at-parts text line behind cut).parts in
      subst (λ (p : A × List ℕ). IsLined form text p.1 p.0) (pair_is (value, behind) (said, rest) is)
      (record { line = line; parts = all; spelled = line_spells laws form (fields_of line) value read })

  lined_by : {A : Type 0} (form : Form A) (text rest : List ℕ) (said : A) (cut : Beginning (List ℕ)) → line_at text ≡ cut → go_on cut (λ line behind. with_rest behind (line_reading form (fields_of line))) ≡ Some (said, rest) → IsLined form text rest said
  lined_by form text rest said None cut is = absurd cc
  lined_by form text rest said (Some p) cut is = lined_of form text p.0 p.1 rest said (line_reading form (fields_of p.0)) cut refl is

  ended_line : (line rest : List ℕ) → (line ++ 10 ∷ []) ++ rest ≡ line ++ 10 ∷ rest
  ended_line line rest = append_assoc line (10 ∷ []) rest

  lined_gives : {A : Type 0} (form : Form A) (fields : List (List ℕ)) (said : A) (rest : List ℕ) → IsLine fields → Spells form fields said → lined form (ended fields ++ rest) ≡ Some (said, rest)
  lined_gives form [] said rest is s = absurd is
  lined_gives form (field ∷ fields) said rest is s =
      let cut : line_at (ended (field ∷ fields) ++ rest) ≡ Some (field ++ spaced fields, rest) = ap line_at (ended_line (field ++ spaced fields) rest) ∙ line_at-ended (field ++ spaced fields) rest (line_whole field fields is.0 is.1) in
      let read : line_reading form (fields_of (field ++ spaced fields)) ≡ Ok said = ap (line_reading form) (fields_of-spaced field fields is.0 is.1) ∙ spelled_line laws form (field ∷ fields) said s in
      ap (λ (found : Beginning (List ℕ)). go_on found (λ line behind. with_rest behind (line_reading form (fields_of line)))) cut ∙ ap (with_rest rest) read

  -- lines of a form are written as its fields are
  pub lined_is : {A : Type 0} (form : Form A) (text : A → List (List ℕ)) (Is : A → Type 0) → IsSpelled form text Is → ((said : A) → IsLine (text said)) → IsReading (lined form) (λ said. ended (text said)) Is
  lined_is {A} form text Is spelled lines = record {
    takes = λ bytes rest said is.
        let it = lined_by form bytes rest said (line_at bytes) refl is in
        let by = spelled.told (fields_of it.line) said it.spelled in
        let line : it.line ≡ line_of (text said) = sym (line_of-fields_of it.line) ∙ ap line_of by.0 in
        (it.parts ∙ (ap (λ (front : List ℕ). front ++ 10 ∷ rest) line ∙ sym (ended_line (line_of (text said)) rest)), by.1);
    gives = λ said rest is. lined_gives form (text said) said rest (lines said) (spelled.tells said is);
  }

  -- ---- one reading, and then another

  record GoesOn {A B : Type 0} (at : List ℕ → Beginning A) (next : A → List ℕ → Beginning B) (bytes rest : List ℕ) (said : B) : Type 0 where
    first : A
    between : List ℕ
    here : at bytes ≡ Some (first, between)
    behind : next first between ≡ Some (said, rest)

  goes_by : {A B : Type 0} (at : List ℕ → Beginning A) (next : A → List ℕ → Beginning B) (bytes rest : List ℕ) (said : B) (found : Beginning A) → at bytes ≡ found → go_on found next ≡ Some (said, rest) → GoesOn at next bytes rest said
  goes_by at next bytes rest said None here is = absurd cc
  goes_by at next bytes rest said (Some p) here is = record { first = p.0; between = p.1; here = here; behind = is }

  -- ---- members

  module _ (known : Names) where
    abbrev stops : List (List ℕ)
    stops = known.railway.stops

    abbrev IsMember : Member → Type 0
    IsMember member = IsMemberOn known.railway.network member

    member_line : (member : Member) → IsLine (member_fields member)
    member_line member = (
      word_visible (codes "member") refl,
      (
        decimal_visible (length member.place.tail),
        visible_both (map decimal member.place.tail) _ (visible_numbers member.place.tail)
            (decimal_visible _, (flag_visible member.place.standing, (decimal_visible member.place.made, (signed_visible member.window.from, (signed_visible member.window.to, tt))))),
      ),
    )

    one_member : IsReading (lined (a_member known)) member_text IsMember
    one_member = lined_is (a_member known) member_fields IsMember (member_is known) member_line

    abbrev AreMembers : ℕ → List Member → Type 0
    AreMembers count members = All IsMember members × (length members ≡ count)

    fronted : (member : Member) (rest : List ℕ) (members : List Member) (found : Beginning (List Member)) (behind : List ℕ) → found ≡ Some (members, behind) → with_front (member ∷ []) found ≡ Some (member ∷ members, behind)
    fronted member rest members found behind is = rw is refl

    members_take : (count : ℕ) (bytes rest : List ℕ) (members : List Member) → members_at known count bytes ≡ Some (members, rest) → (bytes ≡ flat_map member_text members ++ rest) × AreMembers count members
    unfolding members_at
    members_take zero bytes rest members is =
        subst (λ (p : List Member × List ℕ). (bytes ≡ flat_map member_text p.0 ++ p.1) × AreMembers 0 p.0) (pair_is ([], bytes) (members, rest) is) (refl, (All-nil IsMember, refl))
    members_take (suc count) bytes rest members is =
        let one = goes_by (lined (a_member known)) (λ member behind. with_front (member ∷ []) (members_at known count behind)) bytes rest members (lined (a_member known) bytes) refl is in
        let more = goes_by (members_at known count) (λ others behind. Some (one.first ∷ others, behind)) one.between rest members (members_at known count one.between) refl one.behind in
        let here = one_member.takes bytes one.between one.first one.here in
        let on = members_take count one.between more.between more.first more.here in
        let all : bytes ≡ flat_map member_text (one.first ∷ more.first) ++ more.between =
        here.0 ∙ (ap (λ (behind : List ℕ). member_text one.first ++ behind) on.0 ∙ sym (append_assoc (member_text one.first) (flat_map member_text more.first) more.between)) in
        subst (λ (p : List Member × List ℕ). (bytes ≡ flat_map member_text p.0 ++ p.1) × AreMembers (suc count) p.0) (pair_is (one.first ∷ more.first, more.between) (members, rest) more.behind)
        (all, (All-cons IsMember one.first more.first here.1 on.1.0, ap suc on.1.1))

    members_give : (members : List Member) (rest : List ℕ) → All IsMember members → members_at known (length members) (flat_map member_text members ++ rest) ≡ Some (members, rest)
    unfolding members_at
    members_give [] rest all = refl
    members_give (member ∷ members) rest all =
        let behind : List ℕ = flat_map member_text members ++ rest in
        let parts : flat_map member_text (member ∷ members) ++ rest ≡ member_text member ++ behind = append_assoc (member_text member) (flat_map member_text members) rest in
        let here : lined (a_member known) (flat_map member_text (member ∷ members) ++ rest) ≡ Some (member, behind) = ap (lined (a_member known)) parts ∙ one_member.gives member behind (All-head IsMember member members all) in
        let on = members_give members rest (All-tail IsMember member members all) in
        ap (λ (found : Beginning Member). go_on found (λ one more. with_front (one ∷ []) (members_at known (length members) more))) here
        ∙ ap (with_front (member ∷ [])) on

    -- ---- their count, and they

    abbrev counted_text : List Member → List ℕ
    counted_text members = ended (count_fields (length members)) ++ flat_map member_text members

    abbrev pub AreCounted : List Member → Type 0
    AreCounted members = (length members ≤ MAX_NUMBER) × All IsMember members

    count_line : (count : ℕ) → IsLine (count_fields count)
    count_line count = (word_visible (codes "members") refl, (decimal_visible count, tt))

    one_count : IsReading (lined a_count) (λ count. ended (count_fields count)) IsCount
    one_count = lined_is a_count count_fields IsCount count_is count_line

    counted_is : IsReading (counted_at known) counted_text AreCounted
    counted_is = record {
      takes = λ bytes rest members is.
          let one = goes_by (lined a_count) (λ count behind. members_at known count behind) bytes rest members (lined a_count bytes) refl is in
          let here = one_count.takes bytes one.between one.first one.here in
          let on = members_take one.first one.between rest members one.behind in
          let text : ended (count_fields one.first) ≡ ended (count_fields (length members)) = ap (λ (count : ℕ). ended (count_fields count)) (sym on.1.1) in (
            here.0 ∙ (ap (λ (front : List ℕ). front ++ one.between) text ∙ (ap (λ (behind : List ℕ). ended (count_fields (length members)) ++ behind) on.0
                ∙ sym (append_assoc (ended (count_fields (length members))) (flat_map member_text members) rest))),
            (omega (arith, here.1, on.1.1), on.1.0),
          );
      gives = λ members rest is.
          let behind : List ℕ = flat_map member_text members ++ rest in
          let parts : counted_text members ++ rest ≡ ended (count_fields (length members)) ++ behind = append_assoc (ended (count_fields (length members))) (flat_map member_text members) rest in
          let here : lined a_count (counted_text members ++ rest) ≡ Some (length members, behind) = ap (lined a_count) parts ∙ one_count.gives (length members) behind is.0 in
          ap (λ (found : Beginning ℕ). go_on found (λ count more. members_at known count more)) here ∙ members_give members rest is.1;
    }

    -- ---- a proof

    stop_line : (stop : Stop) → AllVisible (stop_fields stops stop)
    stop_line stop = (escaped_visible (name_at stops stop.stop), (decimal_visible stop.dwell, tt))

    head_line : (head : Head) → IsLine (head_text stops head)
    head_line head = (
      word_visible (codes "proof") refl,
      (
        word_visible (codes "at") refl,
        (
          decimal_visible head.at,
          (
            word_visible (codes "ask") refl,
            (
              decimal_visible head.number,
              (
                escaped_visible head.request.train.name,
                (
                  escaped_visible (name_at stops head.request.origin),
                  (
                    escaped_visible (name_at stops head.request.destination),
                    (
                      signed_visible head.request.depart.from,
                      (
                        signed_visible head.request.depart.to,
                        (
                          signed_visible head.request.arrive.from,
                          (
                            signed_visible head.request.arrive.to,
                            (decimal_visible (length head.request.stops), visible_groups (stop_fields stops) stop_line head.request.stops),
                          ),
                        ),
                      ),
                    ),
                  ),
                ),
              ),
            ),
          ),
        ),
      ),
    )

    one_head : IsReading (lined (a_head known)) (λ head. ended (head_text stops head)) (IsHead known)
    one_head = lined_is (a_head known) (head_text stops) (IsHead known) (head_is known) head_line

    abbrev head_in : Proof → Head
    head_in proof = record { at = proof.at; number = proof.number; request = proof.request }

    abbrev with_head : Head → List ℕ → Beginning Proof
    with_head head rest = go_on (counted_at known rest) (λ members behind. Some (proof_of head members, behind))

    -- the text of a proof is read as the proof, and nothing else is
    pub proof_is : IsReading (proof_at known) (proof_text stops) (IsProofOf known)
    proof_is = record {
      takes = λ bytes rest proof is.
          let one = goes_by (lined (a_head known)) with_head bytes rest proof (lined (a_head known) bytes) refl is in
          let more = goes_by (counted_at known) (λ members behind. Some (proof_of one.first members, behind)) one.between rest proof (counted_at known one.between) refl one.behind in
          let here = one_head.takes bytes one.between one.first one.here in
          let on = counted_is.takes one.between more.between more.first more.here in
          let all : bytes ≡ proof_text stops (proof_of one.first more.first) ++ more.between =
          here.0 ∙ (ap (λ (behind : List ℕ). ended (head_text stops one.first) ++ behind) on.0 ∙ sym (append_assoc (ended (head_text stops one.first)) (counted_text more.first) more.between)) in
          let told : IsProofOf known (proof_of one.first more.first) = record { front = here.1.front; line = here.1.line; request = here.1.request; count = on.1.0; members = on.1.1 } in
          subst (λ (p : Proof × List ℕ). (bytes ≡ proof_text stops p.0 ++ p.1) × IsProofOf known p.0) (pair_is (proof_of one.first more.first, more.between) (proof, rest) more.behind) (all, told);
      gives = λ proof rest is.
          let members = proof.closed.members in
          let behind : List ℕ = counted_text members ++ rest in
          let parts : proof_text stops proof ++ rest ≡ ended (head_text stops (head_in proof)) ++ behind = append_assoc (ended (head_text stops (head_in proof))) (counted_text members) rest in
          let here : lined (a_head known) (proof_text stops proof ++ rest) ≡ Some (head_in proof, behind) = ap (lined (a_head known)) parts ∙ one_head.gives (head_in proof) behind (record { front = is.front; line = is.line; request = is.request }) in
          ap (λ (found : Beginning Head). go_on found with_head) here
          ∙ ap (λ (found : Beginning (List Member)). go_on found (λ members more. Some (proof_of (head_in proof) members, more))) (counted_is.gives members rest (is.count, is.members));
    }

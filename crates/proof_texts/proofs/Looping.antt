-- Loops over counts: what was read so far, before what is left to read.
use Rattle.std.proofs.Common.{◌≡◌, ◌∙◌, ap, sym, refl, ℕ, suc, ◌+◌, ◌-◌, ◌<◌, ◌≤◌, List, [], ◌∷◌, ◌++◌, Some, None, Result, Ok, Err, append_assoc, arith}
use Rattle.std.proofs.lemmas.List.{append-nil}
use Rattle.client_lines.specs.declared.faults.LineFault.{LineFault}
use Rattle.client_lines.specs.declared.faults.LineFault.TheVariants as of_line
use Rattle.client_lines.specs.Forms.{Form, done}
use Rattle.client_lines.specs.Names.{Names}
use Rattle.client_lines.specs.Reading.{Left, Fails, go_on as fields_go_on, read}
use Rattle.client_lines.proofs.Grouping.{with_items}
use Rattle.tail_states.specs.declared.certificates.Member.{Member}
use Rattle.proof_texts.specs.declared.faults.ProofFault.{ProofFault}
use Rattle.proof_texts.specs.declared.faults.ProofFault.TheVariants.{NotUnderstood, Memory}
use Rattle.proof_texts.specs.Forms.{a_member, many}
use Rattle.proof_texts.specs.Lines.{Beginning, Gives, lined, members_at, with_front}

-- ---- fields

regroup : {A : Type 0} (front : List A) (x : A) (reading : Result (List A × Left) ℕ) → with_items front (fields_go_on reading (λ others. read (done (x ∷ others)))) ≡ with_items (front ++ x ∷ []) reading
regroup front x (Ok found) = ap (λ items. Ok (items, found.1)) (sym (append_assoc front (x ∷ []) found.0))
regroup front x (Err at) = refl

pub goes_on : {A : Type 0} (form : Form A) (front : List A) (count i : ℕ) (old new : Left) (x : A) (all : Result (List A × Left) ℕ) → i < count → read form old ≡ Ok (x, new)
    → with_items front (read (many form (count - i)) old) ≡ all → with_items (front ++ x ∷ []) (read (many form (count - (i + 1))) new) ≡ all
unfolding many
goes_on form front count i old new x all lt h so_far =
    let k : count - i ≡ suc (count - (i + 1)) = omega arith in
    let one : with_items front (read (many form (count - i)) old) ≡ with_items (front ++ x ∷ []) (read (many form (count - (i + 1))) new) = rw (k, h) (regroup front x (read (many form (count - (i + 1))) new)) in
    sym one ∙ so_far

pub ends : {A : Type 0} (form : Form A) (fault : LineFault) (front : List A) (count i : ℕ) (old : Left) (all : Result (List A × Left) ℕ) → i < count → Fails fault (read form old)
    → with_items front (read (many form (count - i)) old) ≡ all → Fails fault all
unfolding many
ends form of_line.Memory front count i old all lt h so_far = tt
ends form (of_line.Bad at) front count i old all lt h so_far =
    let k : count - i ≡ suc (count - (i + 1)) = omega arith in
    let one : with_items front (read (many form (count - i)) old) ≡ Err at = rw (k, h) refl in
    sym so_far ∙ one

pub is_done : {A : Type 0} (form : Form A) (front : List A) (count i : ℕ) (old : Left) (all : Result (List A × Left) ℕ) → count ≤ i → with_items front (read (many form (count - i)) old) ≡ all → all ≡ Ok (front, old)
unfolding many
is_done form front count i old all le so_far =
    let k : count - i ≡ 0 = omega arith in
    let one : with_items front (read (many form (count - i)) old) ≡ Ok (front, old) = rw k (ap (λ items. Ok (items, old)) (append-nil front)) in
    sym so_far ∙ one

-- ---- lines

pub begins : (found : Beginning (List Member)) → with_front [] found ≡ found
begins (Some found) = refl
begins None = refl

regroup_members : (front : List Member) (member : Member) (found : Beginning (List Member)) → with_front front (with_front (member ∷ []) found) ≡ with_front (front ++ member ∷ []) found
regroup_members front member (Some found) = ap (λ members. Some (members, found.1)) (sym (append_assoc front (member ∷ []) found.0))
regroup_members front member None = refl

module _ (known : Names) where
  pub members_go_on : (front : List Member) (count i : ℕ) (old new : List ℕ) (member : Member) (all : Beginning (List Member)) → i < count → lined (a_member known) old ≡ Some (member, new)
      → with_front front (members_at known (count - i) old) ≡ all → with_front (front ++ member ∷ []) (members_at known (count - (i + 1)) new) ≡ all
  unfolding members_at
  members_go_on front count i old new member all lt h so_far =
      let k : count - i ≡ suc (count - (i + 1)) = omega arith in
      let one : with_front front (members_at known (count - i) old) ≡ with_front (front ++ member ∷ []) (members_at known (count - (i + 1)) new) = rw (k, h) (regroup_members front member (members_at known (count - (i + 1)) new)) in
      sym one ∙ so_far

  pub members_end : (fault : ProofFault) (front : List Member) (count i : ℕ) (old new rest : List ℕ) (all : Beginning (List Member)) → i < count → Gives {A = Member} new (Err fault) (lined (a_member known) old)
      → with_front front (members_at known (count - i) old) ≡ all → Gives {A = List Member} rest (Err fault) all
  unfolding members_at
  members_end Memory front count i old new rest all lt h so_far = tt
  members_end NotUnderstood front count i old new rest all lt h so_far =
      let k : count - i ≡ suc (count - (i + 1)) = omega arith in
      let one : with_front front (members_at known (count - i) old) ≡ None = rw (k, h) refl in
      sym so_far ∙ one

  pub members_done : (front : List Member) (count i : ℕ) (old : List ℕ) (all : Beginning (List Member)) → count ≤ i → with_front front (members_at known (count - i) old) ≡ all → all ≡ Some (front, old)
  unfolding members_at
  members_done front count i old all le so_far =
      let k : count - i ≡ 0 = omega arith in
      let one : with_front front (members_at known (count - i) old) ≡ Some (front, old) = rw k (ap (λ members. Some (members, old)) (append-nil front)) in
      sym so_far ∙ one

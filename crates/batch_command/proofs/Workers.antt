-- The workers of a batch, and the lines that are theirs.
use Rattle.std.proofs.Common.{◌≡◌, ◌≢◌, ◌∙◌, ℕ, zero, suc, ◌+◌, ◌<◌, ◌≤◌, Bool, true, false, List}
use Rattle.std.proofs.Common.{[], ◌∷◌, All, AllPairs, Option, None, Some, Vec, IfSome, drop, get_or}
use Rattle.std.proofs.Common.{length, map, take, ◌++◌, refl, sym, ap, subst, arith, add-one}
use native.Mathlib.Decide.{ℕ_discrete}
use Rattle.std.specs.Global.{Global}
use Rattle.std.specs.Prelude.{if◌then◌else◌, option_map}
use Rattle.std.proofs.lemmas.List.{append-nil, get_or-map, get_or_append_left, length-append}
use Rattle.std.proofs.lemmas.List.{length-map, map-append, take_all}
use Rattle.std.proofs.lemmas.List.Elements.{All-cons, All-nil}
use Rattle.std.proofs.Math.ListN.{drop_of_length-le}
use Rattle.std.proofs.Math.Seq.{get_or-append_seam}
use Rattle.served_clients.specs.admission.declared.rules.Rule.{Ghosts as Rules}
use Rattle.batch_command.specs.Batches.{WereAnswered}
use Rattle.batch_command.specs.declared.batch_server.members.Member.{Member}
use Rattle.batch_command.specs.declared.batch_server.members.Worked.{Worked}
use Rattle.command_line.specs.Workers.{two_digits, underscore, worker_name, worker_names}
use Rattle.command_line.specs.declared.batch_words.clients.TheConstants.{MAX_BATCH_NAME_BYTES}
use Rattle.command_line.specs.declared.batch_words.clients.TheConstants.{MAX_WORKERS}
use Rattle.served_clients.specs.lines.Names.{Names}
use Rattle.served_clients.specs.admission.Clients.{rules_named}
use Rattle.served_clients.specs.admission.declared.client_rules.clients.ClientRules.{ClientRules}
use Rattle.batch_command.specs.Numbers.{AreNumbered}
use Rattle.served_clients.specs.book.Ledgers.{Ledger}
use Rattle.rail_types.specs.Limits.{IsClientName}
use Rattle.rail_types.specs.declared.limits.TheConstants.{MAX_OWNER_BYTES}
use Rattle.rail_types.specs.declared.entries.Entry.{Entry}
use Rattle.served_clients.specs.lines.Replies.{reply_text}
use Rattle.batch_command.specs.Owners.{owner_from, owner_of, owners_of, stands}
use Rattle.batch_command.specs.Lists.{AreMembers}

-- ---- names

pub names_many : (batch : List ℕ) (workers : ℕ) → length (worker_names batch workers) ≡ workers
names_many batch zero = refl
names_many batch (suc workers) = omega (arith, names_many batch workers, length-append (worker_names batch workers) (worker_name batch (suc workers) ∷ []))

pub name_at : (batch : List ℕ) (workers k : ℕ) (d : List ℕ) → k < workers → get_or (worker_names batch workers) k d ≡ worker_name batch (suc k)
name_at batch zero k d below = absurd (omega (arith, below))
name_at batch (suc workers) k d below =
    let before = worker_names batch workers in
    let last = worker_name batch (suc workers) in
    let many = names_many batch workers in
    elim (ℕ_discrete k workers) [
      | yes hit ↦ ap (λ (i : ℕ). get_or (worker_names batch (suc workers)) i d) (hit ∙ sym many) ∙ (get_or-append_seam before last [] d ∙ ap (λ (i : ℕ). worker_name batch (suc i)) (sym hit))
      | no miss ↦ get_or_append_left before (last ∷ []) d k (omega (arith, below, miss, many)) ∙ name_at batch workers k d (omega (arith, below, miss))
    ]

-- they are no longer than an owner's
pub names_short : (batch : List ℕ) (workers : ℕ) → length batch ≤ MAX_BATCH_NAME_BYTES → All (λ name. length name ≤ MAX_OWNER_BYTES) (worker_names batch workers)
names_short batch workers short k d below =
    let many = names_many batch workers in
    rw (name_at batch workers k d (omega (arith, below, many))) (omega (arith, short, length-append batch (underscore ∷ two_digits (suc k))))

-- ---- members

module _ {Btw L : Type 0} (batch : List ℕ) (workers : ℕ) (rules : List (ClientRules L)) (members : List (Member Btw L)) (are : AreMembers batch workers rules members) where
  pub members_many : length members ≡ workers
  members_many = sym (length-map members (λ (m : Member Btw L). m.name)) ∙ (ap length are.names ∙ names_many batch workers)

  member_at : (k : ℕ) (d : Member Btw L) → k < length members → (get_or members k d).name ≡ worker_name batch (suc k)
  member_at k d below =
      let many = members_many in
      sym (get_or-map (λ (m : Member Btw L). m.name) members k d [] below) ∙ (ap (λ (l : List (List ℕ)). get_or l k []) are.names ∙ name_at batch workers k [] (omega (arith, below, many)))

  -- they have names of clients
  pub members_named : ((name : List ℕ) (worker : ℕ) → IsClientName name → length name ≤ MAX_BATCH_NAME_BYTES → worker ≤ MAX_WORKERS → IsClientName (worker_name name worker)) → IsClientName batch → length batch ≤ MAX_BATCH_NAME_BYTES → workers ≤ MAX_WORKERS
      → All (λ member. IsClientName member.name) members
  members_named law is short few k d below =
      let many = members_many in
      subst IsClientName (sym (member_at k d below)) (law batch (suc k) is short (omega (arith, below, many, few)))

  -- no two of them have one name
  pub members_differ : ((name : List ℕ) (one other : ℕ) → one ≤ MAX_WORKERS → other ≤ MAX_WORKERS → worker_name name one ≡ worker_name name other → one ≡ other) → workers ≤ MAX_WORKERS → AllPairs (λ a b. a.name ≢ b.name) members
  members_differ law few i j d lt within same =
      let many = members_many in
      let one = member_at i d (omega (arith, lt, within)) in
      let number : suc i ≡ suc j = law batch (suc i) (suc j) (omega (arith, lt, within, many, few)) (omega (arith, within, many, few)) (sym one ∙ (same ∙ member_at j d within)) in
      absurd (omega (arith, number, lt))

-- ---- one more member

module _ {Btw L : Type 0} (batch : List ℕ) (before : ℕ) (rules : List (ClientRules L)) (members pushed : List (Member Btw L)) (member : Member Btw L) (more : pushed ≡ members ++ member ∷ []) where
  pub names_more : map (λ (m : Member Btw L). m.name) members ≡ worker_names batch before → member.name ≡ worker_name batch (before + 1) → map (λ (m : Member Btw L). m.name) pushed ≡ worker_names batch (before + 1)
  names_more names name =
      let name_of : Member Btw L → List ℕ = λ m. m.name in
      let last : member.name ≡ worker_name batch (suc before) = rw add-one at name in
      rw add-one (ap (map name_of) more ∙ (map-append name_of members (member ∷ []) ∙ (ap (λ (l : List (List ℕ)). l ++ member.name ∷ []) names ∙ ap (λ (n : List ℕ). worker_names batch before ++ n ∷ []) last)))

  pub given_more : map (λ (m : Member Btw L). m.rules.items) members ≡ map (λ name. rules_named name rules) (worker_names batch before) → member.rules.items ≡ rules_named (worker_name batch (before + 1)) rules
      → map (λ (m : Member Btw L). m.rules.items) pushed ≡ map (λ name. rules_named name rules) (worker_names batch (before + 1))
  given_more given own =
      let rules_of : Member Btw L → List L = λ m. m.rules.items in
      let named : List ℕ → List L = λ name. rules_named name rules in
      let last : member.rules.items ≡ named (worker_name batch (suc before)) = rw add-one at own in
      rw add-one (ap (map rules_of) more ∙ (map-append rules_of members (member ∷ []) ∙ (ap (λ (l : List (List L)). l ++ member.rules.items ∷ []) given ∙ (ap (λ (n : List L). map named (worker_names batch before) ++ n ∷ []) last
      ∙ sym (map-append named (worker_names batch before) (worker_name batch (suc before) ∷ []))))))

-- a list that was changed as a slice
pub slice_back : {X : Type 0} (left rest : List X) (len : ℕ) → length left ≡ length rest → len ≡ length rest → take len (left ++ drop (length left) rest) ≡ left
slice_back {X} left rest len kept whole =
    let none : drop (length left) rest ≡ [] = drop_of_length-le rest (omega (arith, kept)) in
    ap (λ (l : List X). take len (left ++ l)) none ∙ (ap (take len) (append-nil left) ∙ take_all len left (omega (arith, kept, whole)))

-- rules that were handed out as a slice, of which some were left
module _ {L : Type 0} (rest slice all : List (ClientRules L)) (handed : slice ≡ rest) where
  -- those of the name for which they were taken
  pub rules_own : (own : List L) (name worker : List ℕ) → name ≡ worker → own ≡ rules_named name slice → rules_named worker rest ≡ rules_named worker all → own ≡ rules_named worker all
  rules_own own name worker named taken same = taken ∙ (ap (λ (n : List ℕ). rules_named n slice) named ∙ (ap (rules_named worker) handed ∙ same))

  -- those of another name
  pub rules_left : (left : List (ClientRules L)) (len : ℕ) (other : List ℕ) → length left ≡ length slice → len ≡ length rest → rules_named other left ≡ rules_named other slice → rules_named other rest ≡ rules_named other all
      → rules_named other (take len (left ++ drop (length left) rest)) ≡ rules_named other all
  rules_left left len other kept whole still same = ap (rules_named other) (slice_back left rest len (kept ∙ ap length handed) whole) ∙ (still ∙ (ap (rules_named other) handed ∙ same))

-- ---- owners

one_within : (here : Bool) (at count : ℕ) (rest : Option ℕ) → IfSome rest (λ worker. worker < (at + 1) + count) → IfSome (if here then Some at else rest) (λ worker. worker < at + suc count)
one_within true at count rest is = omega arith
one_within false at count None is = tt
one_within false at count (Some worker) is = omega (arith, is)

module _ (entries : List Entry) where
  first_within : (workers : List (List ℕ)) (at number : ℕ) → IfSome (owner_from entries at workers number) (λ worker. worker < at + length workers)
  first_within [] at number = tt
  first_within (worker ∷ workers) at number = one_within (stands entries worker number) at (length workers) (owner_from entries (at + 1) workers number) (first_within workers (at + 1) number)

  owner_within : (workers : List (List ℕ)) (number : Option ℕ) → IfSome (owner_of entries workers number) (λ worker. worker < length workers)
  owner_within workers None = tt
  owner_within workers (Some number) =
      let same : 0 + length workers ≡ length workers = omega arith in
      subst (λ (n : ℕ). IfSome (owner_from entries 0 workers number) (λ worker. worker < n)) same (first_within workers 0 number)

  -- the owner of a line is one of the workers
  pub owners_within : (workers : List (List ℕ)) (numbers : List (Option ℕ)) → All (λ owner. IfSome owner (λ worker. worker < length workers)) (owners_of entries workers numbers)
  owners_within workers [] = All-nil (λ owner. IfSome owner (λ worker. worker < length workers))
  owners_within workers (number ∷ numbers) = All-cons (λ owner. IfSome owner (λ worker. worker < length workers)) (owner_of entries workers number) (owners_of entries workers numbers) (owner_within workers number) (owners_within workers numbers)

-- the same of owners that are known by other means
pub theirs_by : (entries : List Entry) (batch : List ℕ) (workers : ℕ) (numbers owners : List (Option ℕ)) (count : ℕ) → owners ≡ owners_of entries (worker_names batch workers) numbers → count ≡ workers → All (λ owner. IfSome owner (λ worker. worker < count)) owners
theirs_by entries batch workers numbers owners count same many =
    subst (λ (all : List (Option ℕ)). All (λ owner. IfSome owner (λ worker. worker < count)) all) (sym same)
    (subst (λ (n : ℕ). All (λ owner. IfSome owner (λ worker. worker < n)) (owners_of entries (worker_names batch workers) numbers)) (names_many batch workers ∙ sym many) (owners_within entries (worker_names batch workers) numbers))

-- ---- lines

-- there is a number for each line
pub numbers_many : (known : Names) (lines : List (List ℕ)) (numbers : List (Option ℕ)) → AreNumbered known lines numbers → length numbers ≡ length lines
numbers_many known [] [] are = refl
numbers_many known [] (number ∷ numbers) are = absurd are
numbers_many known (line ∷ lines) [] are = absurd are
numbers_many known (line ∷ lines) (number ∷ numbers) are = ap suc (numbers_many known lines numbers are.1)

-- there is a text for each line, where there are texts
pub texts_few : {D Btw L : Type 0} (kind : Rules L) (disk_faults : D → ℕ) (known : Names) (lines : List (List ℕ)) (owners : List (Option ℕ)) (found left : Ledger D) (members : List (Member Btw L)) (worked : List (Worked L)) (texts : Option (Vec (List ℕ) Global)) (most : ℕ) → length lines ≤ most
    → WereAnswered kind disk_faults known lines owners found left members worked (option_map (λ all. all.items) texts) → IfSome texts (λ all. length all.items ≤ most)
texts_few kind disk_faults known lines owners found left members worked None most few answered = tt
texts_few kind disk_faults known lines owners found left members worked (Some texts) most few answered =
    let are = answered.texts_are in
    let long : length texts.items ≡ length lines = ap length are.texts_are ∙ (length-map are.replies reply_text ∙ are.number) in
    omega (arith, long, few)

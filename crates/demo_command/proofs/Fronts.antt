-- The entries of the demo are those of its grants.
use Rattle.std.proofs.Common.{◌≡◌, ◌∙◌, ℕ, ◌+◌, ◌-◌, ◌<◌, zero, suc, List, [], ◌∷◌, All, Any, Bool}
use Rattle.std.proofs.Common.{true, false, ap, arith, drop, length, length-append, refl, slice_get}
use Rattle.std.proofs.Common.{subst, sym}
use Rattle.std.specs.Prelude.{◌||◌, filter, if◌then◌else◌, IsTrue}
use Rattle.std.proofs.lemmas.List.Elements.{All-head, All-tail, All-weaker}
use Rattle.std.proofs.lemmas.Slice.Eq.{bytes_eq-Decides}
use Rattle.served_clients.specs.gate.Views.{positions}
use Rattle.served_clients.specs.answers.Points.{added}
use Rattle.served_clients.specs.sessions.Told.{Told}
use Rattle.outside_io.specs.StoredDisks.{DiskInMemory}
use Rattle.served_clients.specs.book.Ledgers.{Ledger}
use Rattle.rail_types.specs.declared.entries.Entry.{Entry}
use Rattle.client_lines.specs.declared.reply_texts.replies.Reply.{Reply}
use Rattle.client_lines.specs.declared.reply_texts.replies.Reply.TheVariants as reply
use Rattle.served_clients.specs.ClientRuns.{IsRun, is_owned, owned}
use Rattle.served_clients.specs.Talks.{printed, Talk}
use Rattle.demo_command.specs.Sessions.{count_told, demo_names, IsDecided, is_granted, is_no_path}
use Rattle.demo_command.proofs.Decided.{counted, flag}

-- ---- the positions that are printed

added_long : (told : Reply) → IsTrue (is_granted told || is_no_path told) → length (added told) ≡ flag (is_granted told)
unfolding flag
added_long (reply.Held number entry front) is = cc
added_long (reply.Pinned number entry front) is = cc
added_long (reply.Granted number entry front runs) is = refl
added_long (reply.Freed number entry freed front) is = cc
added_long (reply.Kept number entry front deed) is = cc
added_long (reply.Shown at front entry freed_by) is = cc
added_long (reply.Front front) is = cc
added_long (reply.Bad field) is = cc
added_long (reply.Denied number rule front) is = cc
added_long (reply.Ahead after front) is = cc
added_long (reply.Other number entry front) is = cc
added_long (reply.Gone number entry freed_by front) is = cc
added_long (reply.Taken number zone owner front) is = cc
added_long (reply.Breaks number run rule front) is = cc
added_long (reply.NoPath number front) is = refl
added_long (reply.Again number entry searched front) is = cc
added_long (reply.Unknown entry front) is = cc
added_long (reply.NotYours number entry owner front) is = cc
added_long (reply.AlreadyFreed number entry freed_by front) is = cc
added_long (reply.Wide number front) is = cc
added_long (reply.Full number front) is = cc
added_long (reply.Unsettled number entry front) is = cc
added_long reply.DiskFault is = cc
added_long reply.NoMemory is = cc

printed_long : (told : List Told) → All IsDecided told → length (printed told) ≡ count_told is_granted told
printed_long [] decided = refl
printed_long (one ∷ told) decided =
    let here = added_long one.reply (All-head IsDecided one told decided) in
    let rest = printed_long told (All-tail IsDecided one told decided) in
    let both = length-append (added one.reply) (printed told) in
    let count = counted (is_granted one.reply) one (filter (λ (other : Told). is_granted other.reply) told) in
    omega arith

-- ---- the positions of an owner

taken : {X : Type 0} (test : Bool) (x : X) (xs : List X) → test ≡ true → length (if test then x ∷ xs else xs) ≡ length xs + 1
taken true x xs is = omega arith
taken false x xs is = cc

all_pass : (p : ℕ → Bool) (n m : ℕ) → ((k : ℕ) → k < n + m → p k ≡ true) → length (filter p (positions n m)) ≡ m
all_pass p n zero each = refl
all_pass p n (suc m) each =
    let here = taken (p n) n (filter p (positions (suc n) m)) (each n (omega arith)) in
    let rest = all_pass p (suc n) m (λ k below. each k (omega arith)) in
    omega arith

is_own : (history : List Entry) (name : List ℕ) (k : ℕ) → All (λ e. e.owner ≡ name) history → k < length history → is_owned name (slice_get history k) ≡ true
is_own [] name k all within = absurd (omega arith)
is_own (e ∷ history) name zero all within = (bytes_eq-Decides e.owner name).1 (All-head (λ (other : Entry). other.owner ≡ name) e history all)
is_own (e ∷ history) name (suc k) all within = is_own history name k (All-tail (λ (other : Entry). other.owner ≡ name) e history all) (omega arith)

owned_long : (history : List Entry) (name : List ℕ) → All (λ e. e.owner ≡ name) history → length (owned history name 0) ≡ length history
owned_long history name all =
    let same : length history - 0 ≡ length history = omega arith in
    all_pass (λ p. is_owned name (slice_get history p)) 0 (length history - 0) (λ k below. is_own history name k all (omega arith)) ∙ same

-- what holds of one of one holds of this one
of_one : {X : Type 0} (P : X → Type 0) (x : X) → Any P (x ∷ []) → P x
of_one P x (zero, y, within, is, holds) = subst P (sym is) holds
of_one P x (suc k, y, within, is, holds) = absurd (omega arith)

-- ---- the whole

pub entries_are_grants : (found left : Ledger DiskInMemory) (talk : Talk) → found.entries ≡ [] → IsRun (λ (disk : DiskInMemory). disk.faults) demo_names found left (talk ∷ []) → All IsDecided talk.traffic.told
    → length left.entries ≡ count_told is_granted talk.traffic.told
entries_are_grants found left talk empty run decided =
    let mine : owned left.entries talk.name (length found.entries) ≡ printed talk.traffic.told = All-head (λ (one : Talk). owned left.entries one.name (length found.entries) ≡ printed one.traffic.told) talk [] run.entries in
    let all : owned left.entries talk.name 0 ≡ printed talk.traffic.told = ap (λ (entries : List Entry). owned left.entries talk.name (length entries)) (sym empty) ∙ mine in
    let owners : All (λ (e : Entry). Any (λ (one : Talk). e.owner ≡ one.name) (talk ∷ [])) left.entries =
    subst (λ (entries : List Entry). All (λ (e : Entry). Any (λ (one : Talk). e.owner ≡ one.name) (talk ∷ [])) (drop (length entries) left.entries)) empty run.owners in
    let own : All (λ (e : Entry). e.owner ≡ talk.name) left.entries =
    All-weaker (λ (e : Entry). Any (λ (one : Talk). e.owner ≡ one.name) (talk ∷ [])) (λ (e : Entry). e.owner ≡ talk.name) (λ (e : Entry). of_one (λ (one : Talk). e.owner ≡ one.name) talk) left.entries owners in
    sym (owned_long left.entries talk.name own) ∙ ap length all ∙ printed_long talk.traffic.told decided

-- All lines are decided where they are as many as the replies of both kinds.
use Rattle.std.proofs.Common.{◌≡◌, ℕ, ◌+◌, ◌≤◌, List, [], ◌∷◌, All, Bool, true, false, arith}
use Rattle.std.proofs.Common.{length, refl}
use Rattle.std.specs.Prelude.{◌||◌, filter, if◌then◌else◌}
use Rattle.std.proofs.lemmas.List.Elements.{All-cons, All-nil}
use Rattle.client_lines.specs.declared.reply_texts.replies.Reply.{Reply}
use Rattle.client_lines.specs.declared.reply_texts.replies.Reply.TheVariants as reply
use Rattle.served_clients.specs.sessions.Told.{Told}
use Rattle.demo_command.specs.Sessions.{count_told, IsDecided, is_granted, is_no_path}

-- no reply is of both kinds
apart : (told : Reply) → is_granted told ≡ true → is_no_path told ≡ false
apart (reply.Held number entry front) is = cc
apart (reply.Pinned number entry front) is = cc
apart (reply.Granted number entry front runs) is = refl
apart (reply.Freed number entry freed front) is = cc
apart (reply.Kept number entry front deed) is = cc
apart (reply.Shown at front entry freed_by) is = cc
apart (reply.Front front) is = cc
apart (reply.Bad field) is = cc
apart (reply.Denied number rule front) is = cc
apart (reply.Ahead after front) is = cc
apart (reply.Other number entry front) is = cc
apart (reply.Gone number entry freed_by front) is = cc
apart (reply.Taken number zone owner front) is = cc
apart (reply.Breaks number run rule front) is = cc
apart (reply.NoPath number front) is = cc
apart (reply.Again number entry searched front) is = cc
apart (reply.Unknown entry front) is = cc
apart (reply.NotYours number entry owner front) is = cc
apart (reply.AlreadyFreed number entry freed_by front) is = cc
apart (reply.Wide number front) is = cc
apart (reply.Full number front) is = cc
apart (reply.Unsettled number entry front) is = cc
apart reply.DiskFault is = cc
apart reply.NoMemory is = cc

-- a test as a number
unfoldable pub flag : Bool → ℕ
flag true = 1
flag false = 0

pub counted : {X : Type 0} (test : Bool) (x : X) (xs : List X) → length (if test then x ∷ xs else xs) ≡ flag test + length xs
unfolding flag
counted true x xs = omega arith
counted false x xs = omega arith

one_at_most : (a b : Bool) → (a ≡ true → b ≡ false) → flag a + flag b ≤ 1
unfolding flag
one_at_most true true differ = let e = differ refl in cc
one_at_most true false differ = omega arith
one_at_most false true differ = omega arith
one_at_most false false differ = omega arith

either : (a b : Bool) → 1 ≤ flag a + flag b → (a || b) ≡ true
unfolding flag
either true b one = refl
either false true one = refl
either false false one = absurd (omega arith)

both_kinds : (told : List Told) → count_told is_granted told + count_told is_no_path told ≤ length told
both_kinds [] = omega arith
both_kinds (one ∷ told) =
    let granted = counted (is_granted one.reply) one (filter (λ (other : Told). is_granted other.reply) told) in
    let refused = counted (is_no_path one.reply) one (filter (λ (other : Told). is_no_path other.reply) told) in
    let this = one_at_most (is_granted one.reply) (is_no_path one.reply) (apart one.reply) in
    let rest = both_kinds told in
    omega arith

pub all_decided : (told : List Told) → count_told is_granted told + count_told is_no_path told ≡ length told → All IsDecided told
all_decided [] all = All-nil IsDecided
all_decided (one ∷ told) all =
    let granted = counted (is_granted one.reply) one (filter (λ (other : Told). is_granted other.reply) told) in
    let refused = counted (is_no_path one.reply) one (filter (λ (other : Told). is_no_path other.reply) told) in
    let this = one_at_most (is_granted one.reply) (is_no_path one.reply) (apart one.reply) in
    let rest = both_kinds told in
    let others : count_told is_granted told + count_told is_no_path told ≡ length told = omega arith in
    All-cons IsDecided one told (either (is_granted one.reply) (is_no_path one.reply) (omega arith)) (all_decided told others)

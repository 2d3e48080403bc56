-- How long the texts of replies are at most.
use Rattle.std.proofs.Common.{ℕ, suc, ◌+◌, ◌*◌, ◌^◌, ◌<◌, ◌≤◌, ℤ, pos, negsuc, Bool, true, false, List, [], ◌∷◌, ◌++◌, length, codes, decimal, length-append, arith}
use Rattle.std.specs.List.{All, flat_map}
use Rattle.std.specs.Fmt.{signed_decimal}
use Rattle.std.proofs.lemmas.Fmt.{length-decimal-le}
use Rattle.std.proofs.lemmas.Int.{ints}
use Rattle.std.proofs.lemmas.List.Elements.{All-head, All-tail}
use Rattle.rail_types.specs.Limits.{IsTick}
use Rattle.rail_types.specs.declared.paths.Run.{Run}
use Rattle.client_lines.specs.declared.reply_texts.replies.Reply.{Reply}
use Rattle.client_lines.specs.declared.reply_texts.replies.Reply.TheVariants as reply
use Rattle.client_lines.specs.Fields.{flag_field, run_fields, run_text, spaced}
use Rattle.client_lines.specs.Replies.{reply_text}
use Rattle.client_lines.specs.Rooms.{IsBehindEntry, IsPrintable, room_for, TellsEntry}
use Rattle.client_lines.proofs.Printing.{spaced-flat_map}

number_le : (n : ℕ) → n < 2 ^ 64 → length (decimal n) ≤ 20
number_le n small = length-decimal-le 20 n (omega arith) (omega arith) small

small_le : (n : ℕ) → n < 2 ^ 32 → length (decimal n) ≤ 10
small_le n small = length-decimal-le 10 n (omega arith) (omega arith) (omega arith)

tick_le : (tick : ℤ) → IsTick tick → length (signed_decimal tick) ≤ 7
tick_le (pos n) is = omega (arith, length-decimal-le 6 n (omega arith) (omega (arith, ints, is)) (omega (arith, ints, is)))
tick_le (negsuc n) is = omega (arith, length-decimal-le 6 (suc n) (omega arith) (omega (arith, ints, is)) (omega (arith, ints, is)))

flag_le : (flag : Bool) → length (flag_field flag) ≤ 1
flag_le true = omega arith
flag_le false = omega arith

-- a field before others
field_le : (field : List ℕ) (fields : List (List ℕ)) (n m : ℕ) → length field ≤ n → length (spaced fields) ≤ m → length (spaced (field ∷ fields)) ≤ (n + m) + 1
unfolding spaced
field_le field fields n m one others = omega (arith, one, others, length-append field (spaced fields))

none_le : length (spaced []) ≤ 0
unfolding spaced
none_le = omega arith

line_le : (word : List ℕ) (fields : List (List ℕ)) (n m : ℕ) → length word ≤ n → length (spaced fields) ≤ m → length ((word ++ spaced fields) ++ 10 ∷ []) ≤ (n + m) + 1
line_le word fields n m one others = omega (arith, one, others, length-append word (spaced fields), length-append (word ++ spaced fields) (10 ∷ []))

run_le : (run : Run) → IsPrintable run → length (run_text run) ≤ 32
run_le run is =
    let stops = field_le (flag_field run.stops) [] 1 0 (flag_le run.stops) none_le in
    let leave = field_le (signed_decimal run.leave) (flag_field run.stops ∷ []) 7 2 (tick_le run.leave is.0.leave) stops in
    let enter = field_le (signed_decimal run.enter) (signed_decimal run.leave ∷ flag_field run.stops ∷ []) 7 10 (tick_le run.enter is.0.enter) leave in
    let block = field_le (decimal run.block) (signed_decimal run.enter ∷ signed_decimal run.leave ∷ flag_field run.stops ∷ []) 10 18 (small_le run.block is.1) enter in
    omega (arith, block)

texts_le : (runs : List Run) → All IsPrintable runs → length (flat_map run_text runs) ≤ 32 * length runs
texts_le [] are = omega arith
texts_le (run ∷ runs) are = omega (arith, run_le run (All-head IsPrintable run runs are), texts_le runs (All-tail IsPrintable run runs are), length-append (run_text run) (flat_map run_text runs))

runs_le : (runs : List Run) → All IsPrintable runs → length (spaced (flat_map run_fields runs)) ≤ 32 * length runs
runs_le runs are = rw (spaced-flat_map run_fields runs) (texts_le runs are)

-- at K, and what stands before it
at_le : (front : ℕ) → front < 2 ^ 64 → length (spaced (codes "at" ∷ decimal front ∷ [])) ≤ 24
at_le front small = omega (arith, field_le (codes "at") (decimal front ∷ []) 2 21 (omega arith) (field_le (decimal front) [] 20 0 (number_le front small) none_le))

numbered : (number entry n : ℕ) (fields : List (List ℕ)) → number < 2 ^ 64 → entry < 2 ^ 64 → length (spaced fields) ≤ n → length (spaced (decimal number ∷ codes "entry" ∷ decimal entry ∷ fields)) ≤ n + 48
numbered number entry n fields number_fits entry_fits others =
    let last = field_le (decimal entry) fields 20 n (number_le entry entry_fits) others in
    let word = field_le (codes "entry") (decimal entry ∷ fields) 5 (20 + n + 1) (omega arith) last in
    omega (arith, field_le (decimal number) (codes "entry" ∷ decimal entry ∷ fields) 20 (5 + (20 + n + 1) + 1) (number_le number number_fits) word)

-- WORD N entry I at K
told_le : (word : List ℕ) (number entry front : ℕ) → length word ≤ 9 → TellsEntry number entry front
    → length ((word ++ spaced (decimal number ∷ codes "entry" ∷ decimal entry ∷ codes "at" ∷ decimal front ∷ [])) ++ 10 ∷ []) ≤ room_for 0
told_le word number entry front short told =
    let all = numbered number entry 24 (codes "at" ∷ decimal front ∷ []) told.number_fits told.entry_fits (at_le front told.front_fits) in
    omega (arith, line_le word (decimal number ∷ codes "entry" ∷ decimal entry ∷ codes "at" ∷ decimal front ∷ []) 9 72 short all)

freed_le : (number entry freed front : ℕ) → TellsEntry number entry front → freed < 2 ^ 64 → length (reply_text (reply.Freed number entry freed front)) ≤ room_for 0
freed_le number entry freed front told fits =
    let behind = field_le (codes "of") (decimal freed ∷ codes "at" ∷ decimal front ∷ []) 2 45 (omega arith) (field_le (decimal freed) (codes "at" ∷ decimal front ∷ []) 20 24 (number_le freed fits) (at_le front told.front_fits)) in
    omega (arith, line_le (codes "freed") (decimal number ∷ codes "entry" ∷ decimal entry ∷ codes "of" ∷ decimal freed ∷ codes "at" ∷ decimal front ∷ []) 5 96 (omega arith) (numbered number entry 48 (codes "of" ∷ decimal freed ∷ codes "at" ∷ decimal front ∷ []) told.number_fits told.entry_fits behind))

granted_le : (number entry front : ℕ) (runs : List Run) → TellsEntry number entry front → length runs < 2 ^ 32 → All IsPrintable runs → length (reply_text (reply.Granted number entry front runs)) ≤ room_for (length runs)
granted_le number entry front runs told few are =
    let each = runs_le runs are in
    let count = field_le (decimal (length runs)) (flat_map run_fields runs) 10 (32 * length runs) (small_le (length runs) few) each in
    let word = field_le (codes "runs") (decimal (length runs) ∷ flat_map run_fields runs) 4 (10 + 32 * length runs + 1) (omega arith) count in
    let at_k = field_le (decimal front) (codes "runs" ∷ decimal (length runs) ∷ flat_map run_fields runs) 20 (4 + (10 + 32 * length runs + 1) + 1) (number_le front told.front_fits) word in
    let at_word = field_le (codes "at") (decimal front ∷ codes "runs" ∷ decimal (length runs) ∷ flat_map run_fields runs) 2 (20 + (4 + (10 + 32 * length runs + 1) + 1) + 1) (omega arith) at_k in
    let all = numbered number entry (2 + (20 + (4 + (10 + 32 * length runs + 1) + 1) + 1) + 1) (codes "at" ∷ decimal front ∷ codes "runs" ∷ decimal (length runs) ∷ flat_map run_fields runs) told.number_fits told.entry_fits at_word in
    omega (arith, line_le (codes "granted") (decimal number ∷ codes "entry" ∷ decimal entry ∷ codes "at" ∷ decimal front ∷ codes "runs" ∷ decimal (length runs) ∷ flat_map run_fields runs) 7 ((2 + (20 + (4 + (10 + 32 * length runs + 1) + 1) + 1) + 1) + 48) (omega arith) all)

-- more runs leave more room
more_le : (n runs : ℕ) → n ≤ room_for 0 → n ≤ room_for runs
more_le n runs le = omega (arith, le)

pub fits_room : (runs : ℕ) (told : Reply) → IsBehindEntry runs told → length (reply_text told) ≤ room_for runs
fits_room runs (reply.Held number entry front) is = more_le _ runs (told_le (codes "held") number entry front (omega arith) is)
fits_room runs (reply.Pinned number entry front) is = more_le _ runs (told_le (codes "pinned") number entry front (omega arith) is)
fits_room runs (reply.Unsettled number entry front) is = more_le _ runs (told_le (codes "unsettled") number entry front (omega arith) is)
fits_room runs (reply.Freed number entry freed front) is = more_le _ runs (freed_le number entry freed front is.0 is.1)
fits_room runs (reply.Granted number entry front printed) is =
    let counted = is.1.counted in
    rw (← counted) (granted_le number entry front printed is.0 (omega (arith, counted, is.1.fit)) is.1.each)
fits_room runs reply.DiskFault is = more_le _ runs (omega (arith, line_le (codes "disk-fault") [] 10 0 (omega arith) none_le))
fits_room runs (reply.Kept number entry front deed) is = absurd is
fits_room runs (reply.Shown at front entry freed_by) is = absurd is
fits_room runs (reply.Front front) is = absurd is
fits_room runs (reply.Bad field) is = absurd is
fits_room runs (reply.Denied number rule front) is = absurd is
fits_room runs (reply.Ahead after front) is = absurd is
fits_room runs (reply.Other number entry front) is = absurd is
fits_room runs (reply.Gone number entry freed_by front) is = absurd is
fits_room runs (reply.Taken number zone owner front) is = absurd is
fits_room runs (reply.Breaks number run rule front) is = absurd is
fits_room runs (reply.NoPath number front) is = absurd is
fits_room runs (reply.Again number entry searched front) is = absurd is
fits_room runs (reply.Unknown entry front) is = absurd is
fits_room runs (reply.NotYours number entry owner front) is = absurd is
fits_room runs (reply.AlreadyFreed number entry freed_by front) is = absurd is
fits_room runs (reply.Wide number front) is = absurd is
fits_room runs (reply.Full number front) is = absurd is
fits_room runs reply.NoMemory is = absurd is

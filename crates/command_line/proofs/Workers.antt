-- The names of workers.
use Rattle.std.proofs.Common.{◌≡◌, inl, inr, refl, ℕ, ◌+◌, ◌/◌, ◌%◌, ◌<◌, ◌≤◌, List, [], ◌∷◌, length, arith, length-append}
use Rattle.std.specs.List.{All}
use Rattle.std.proofs.lemmas.List.{append_cancel_left}
use Rattle.std.proofs.lemmas.List.Elements.{All-append, All-cons, All-nil}
use Rattle.rail_types.specs.Limits.{IsClientName, IsNameByte}
use Rattle.command_line.specs.Workers.{worker_name}

digit_is_one : (digit : ℕ) → digit < 10 → IsNameByte (48 + digit)
digit_is_one digit small = inr (inr (inl (omega (arith), omega (arith, small))))

tens_small : (worker : ℕ) → worker ≤ 16 → worker / 10 < 10
tens_small worker few = omega (arith, few)

ones_small : (worker : ℕ) → worker % 10 < 10
ones_small worker = omega arith

-- the bytes behind a batch's name
ending : (worker : ℕ) → worker ≤ 16 → All IsNameByte (95 ∷ (48 + worker / 10) ∷ (48 + worker % 10) ∷ [])
ending worker few =
    let ones = All-cons IsNameByte (48 + worker % 10) [] (digit_is_one (worker % 10) (ones_small worker)) (All-nil IsNameByte) in
    let tens = All-cons IsNameByte (48 + worker / 10) ((48 + worker % 10) ∷ []) (digit_is_one (worker / 10) (tens_small worker few)) ones in
    All-cons IsNameByte 95 ((48 + worker / 10) ∷ (48 + worker % 10) ∷ []) (inr (inr (inr (inl refl)))) tens

-- the names of workers are those of clients
pub is_name : (name : List ℕ) (worker : ℕ) → IsClientName name → length name ≤ 29 → worker ≤ 16 → IsClientName (worker_name name worker)
is_name name worker is short few = record {
  some = rw length-append (omega (arith, is.some));
  short = rw length-append (omega (arith, short));
  bytes = All-append IsNameByte name (95 ∷ (48 + worker / 10) ∷ (48 + worker % 10) ∷ []) is.bytes (ending worker few);
}

same_number : (a b : ℕ) → a / 10 ≡ b / 10 → a % 10 ≡ b % 10 → a ≡ b
same_number a b tens ones = omega (arith, tens, ones)

-- and tell the workers apart
pub one_worker : (name : List ℕ) (a b : ℕ) → worker_name name a ≡ worker_name name b → a ≡ b
one_worker name a b same =
    let ends = append_cancel_left name _ _ same in
    let tens : 48 + a / 10 ≡ 48 + b / 10 = cc in
    let ones : 48 + a % 10 ≡ 48 + b % 10 = cc in
    same_number a b (omega (arith, tens)) (omega (arith, ones))

-- What a reader of fields has yet to give, and how a signed number is spelled.
use Rattle.std.specs.Prelude.{ℕ, ◌+◌, List, length, ℤ}
use Rattle.std.specs.Int.{w64, to_be_bytes, cast_unsigned}

-- the bytes that are left, and how many were taken before them
pub record Unread : Type 0 where
  pub at : ℕ
  pub left : List ℕ

-- the offset behind the last byte
abbrev pub end_of : Unread → ℕ
end_of u = u.at + length u.left

-- eight bytes in two's complement, most significant first
abbrev pub signed_bytes : ℤ → List ℕ
signed_bytes v = to_be_bytes w64 (cast_unsigned w64 v)

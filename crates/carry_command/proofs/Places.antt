-- Disks that were looked at, and then written to.
use Rattle.std.proofs.Common.{◌≡◌, List, ℕ, inl, inr, ⊎_elim, subst, arith}
use Rattle.outside_io.specs.Places.{Place, hidden, kept, lent, empty, Replaces}
use Rattle.outside_io.specs.declared.disks.Disk.{Ghosts as Disks}
use Rattle.path_recover.specs.Beginning.{IsAsItWas}
use Rattle.carry_command.specs.Disks.{LeavesWhole}
use Rattle.print_commands.proofs.Printed.{replaces_more}

pub replaces_then : {D : Type 0} (P Q R : D → D → Type 0) → ((a b c : D) → P a b → Q b c → R a c) → (old between new : Place D) → Replaces P old between → Replaces Q between new → Replaces R old new
replaces_then {D = D} P Q R more hidden between new first second = subst (λ (place : Place D). Replaces Q place new) first second
replaces_then {D = D} P Q R more (kept a) between new first second =
    let it = subst (λ (place : Place D). Replaces Q place new) first.1 second in
    (it.0, it.1, more a first.0 it.0 first.2 it.2)
replaces_then P Q R more lent between new first second = absurd first
replaces_then P Q R more empty between new first second = absurd first

module _ {D : Type 0} (disk : Disks D) where
  -- a disk that was only looked at, and then left something at each moment, left it from the first moment on
  pub looks_leave : (file : List ℕ) (a b c : D) → IsAsItWas disk a b → LeavesWhole disk file b c → LeavesWhole disk file a c
  looks_leave file a b c first second =
      let same : disk.clock b ≡ disk.clock a = first.time.clock in
      record {
        later = let later = second.later in omega (arith, same, later);
        images = λ moment image within left. ⊎_elim
            (λ past. inl (first.time.past_alone moment image past))
            (λ now. inr (⊎_elim (λ was. inl (first.time.images image was)) (λ whole. inr whole) now))
            (second.images moment image (omega (arith, same, within)) left);
        kept = λ moment image within left. second.kept moment image (omega (arith, same, within)) (first.time.kept moment image left);
      }

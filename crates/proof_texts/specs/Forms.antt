-- Inside: the forms of a proof's lines.
use Rattle.std.specs.Prelude.{ℕ, zero, suc, ◌^◌, pos, ◌-ℤ◌, List, [], ◌∷◌, length, codes, bytes_eq}
use Rattle.std.specs.Prelude.{nat_eq, Option, Some, None, if◌then◌else◌}
use Rattle.client_lines.specs.Forms.{Form, ◌>>=◌, a_number, a_tick, a_word, done, one}
use Rattle.client_lines.specs.Lines.{a_flag, a_position, a_request, some_tick}
use Rattle.client_lines.specs.Names.{Names}
use Rattle.rail_types.specs.declared.paths.Window.{Window}
use Rattle.running_time.specs.declared.edges.Enter.{Enter}
use Rattle.running_time.specs.declared.edges.Enter.TheVariants.{Still, From}
use Rattle.tail_states.specs.declared.certificates.Member.{Member}
use Rattle.proof_texts.specs.declared.heads.Head.{Head}

-- this word, which says nothing more
abbrev pub is_word : List ℕ → List ℕ → Option (Unit {0})
is_word word field = if bytes_eq field word then Some tt else None

abbrev pub the_word : List ℕ → Form (Unit {0})
the_word word = one (a_word (is_word word))

-- one form, so many times
unfoldable pub many : {A : Type 0} → Form A → ℕ → Form (List A)
many form zero = done []
many form (suc count) = do
  first ← form
  others ← many form count
  done (first ∷ others)

-- `proof at M ask N`, and then the request
unfoldable pub a_head : Names → Form Head
a_head known = do
  begin ← the_word (codes "proof")
  here ← the_word (codes "at")
  at ← a_position
  asks ← the_word (codes "ask")
  number ← a_position
  request ← a_request known
  done (record { at = at; number = number; request = request })

-- `members C`
unfoldable pub a_count : Form ℕ
a_count = do
  begin ← the_word (codes "members")
  count ← a_position
  done count

-- a number of 32 bits
abbrev pub small_number : Form ℕ
small_number = one (a_number 0 (2 ^ 32))

-- how a block was entered, by its number
abbrev pub entered_of : ℕ → Enter
entered_of number = if nat_eq number 0 then Still else From number

abbrev pub a_block : Names → Form ℕ
a_block known = one (a_number 0 (length known.railway.network.blocks))

-- FROM TO: FROM is at most TO, so that there is a tick
unfoldable pub a_span : Form Window
a_span = do
  from ← some_tick
  to ← one (a_tick (Some (from -ℤ pos 1)))
  done (record { from = from; to = to })

-- ENTERED STANDING MADE FROM TO, behind these blocks
unfoldable pub a_state : List ℕ → Form Member
a_state tail = do
  entered ← small_number
  standing ← a_flag
  made ← small_number
  window ← a_span
  done (record {
    place = record {
      tail = tail;
      entered = entered_of entered;
      standing = standing;
      made = made;
    };
    window = window;
  })

-- `member T`, then T blocks, and then ENTERED STANDING MADE FROM TO
unfoldable pub a_member : Names → Form Member
a_member known = do
  begin ← the_word (codes "member")
  count ← a_position
  tail ← many (a_block known) count
  a_state tail

-- The texts of replies have no line end within them.
use Rattle.std.proofs.Common.{◌≡◌, ℕ, ◌+◌, ◌<◌, zero, suc, ℤ, pos, negsuc, List, [], ◌∷◌, ◌++◌, All, Bool, true, false, Option, None, Some, refl, codes, length, arith}
use Rattle.std.specs.Prelude.{decimal, flat_map, nat_eq, nat_lt, if◌then◌else◌, ◌/◌, ◌%◌, ◌||◌, ◌==◌}
use Rattle.std.specs.Fmt.{digit_glyph, digits, digits_onto, signed_decimal}
use Rattle.std.proofs.lemmas.Grind.{common_steps}
use Rattle.std.proofs.lemmas.List.Elements.{All-append, All-cons, All-nil}
use Rattle.std.proofs.lemmas.Bool.Decides.{nat_tests}
use Rattle.rail_types.specs.declared.paths.Claim.{Claim}
use Rattle.rail_types.specs.declared.paths.Run.{Run}
use Rattle.rail_types.specs.declared.entries.Owner.{Owner}
use Rattle.rail_types.specs.declared.entries.Owner.TheVariants.{Base, Entry}
use Rattle.rail_types.specs.declared.entries.Deed.{Deed}
use Rattle.rail_types.specs.declared.entries.Deed.TheVariants.{Hold, Grant, Free}
use Rattle.json_fields.specs.Escapes.{escaped, escaped_byte, hex_digit, is_plain}
use Rattle.admission_rules.specs.Names.{name_text}
use Rattle.admission_rules.specs.declared.rule_names.RuleName.{RuleName}
use Rattle.admission_rules.specs.declared.rule_names.RuleName.TheVariants.{Quota, Curfew, Longest, Own}
use Rattle.client_lines.specs.declared.reply_texts.replies.Reply.{Reply}
use Rattle.client_lines.specs.declared.reply_texts.replies.Reply.TheVariants as reply
use Rattle.client_lines.specs.Fields.{claim_fields, flag_field, line_of, run_fields, spaced}
use Rattle.client_lines.specs.Replies.{at_front, deed_fields, freed_fields, hold_fields, holds_fields, owner_fields, reply_fields, runs_fields, state_fields}

-- a byte that ends no line
abbrev pub IsOther : ℕ → Type 0
IsOther byte = nat_eq byte 10 ≡ false

abbrev pub Plain : List ℕ → Type 0
Plain bytes = All IsOther bytes

-- either of two, by a test
pick : {A : Type 0} (P : A → Type 0) (test : Bool) (a b : A) → P a → P b → P (if test then a else b)
pick P true a b x y = x
pick P false a b x y = y

-- ---- numbers

above : (byte : ℕ) → 10 < byte → IsOther byte
above byte more = grind (arith, nat_tests)

glyph_plain : (n : ℕ) → IsOther (digit_glyph false n)
glyph_plain n = pick IsOther (nat_lt n 10) (48 + n) (87 + n) (above (48 + n) (omega arith)) (above (87 + n) (omega arith))

digits_plain : (k n : ℕ) (acc : List ℕ) → Plain acc → Plain (digits_onto k 10 false n acc)
digits_plain zero n acc are = are
digits_plain (suc k) n acc are =
    let front : Plain (digit_glyph false (n % 10) ∷ acc) = All-cons IsOther (digit_glyph false (n % 10)) acc (glyph_plain (n % 10)) are in
    pick Plain (n / 10 == 0) (digit_glyph false (n % 10) ∷ acc) (digits_onto k 10 false (n / 10) (digit_glyph false (n % 10) ∷ acc)) front (digits_plain k (n / 10) (digit_glyph false (n % 10) ∷ acc) front)

pub decimal_plain : (n : ℕ) → Plain (decimal n)
unfolding digits
decimal_plain n = digits_plain 64 n [] (All-nil IsOther)

signed_plain : (z : ℤ) → Plain (signed_decimal z)
signed_plain (pos n) = decimal_plain n
signed_plain (negsuc n) = All-cons IsOther 45 (decimal (suc n)) refl (decimal_plain (suc n))

-- ---- names and words

hex_plain : (n : ℕ) → IsOther (hex_digit n)
hex_plain n = pick IsOther (nat_lt n 10) (48 + n) (55 + n) (above (48 + n) (omega arith)) (above (55 + n) (omega arith))

kept_plain : (byte : ℕ) → is_plain byte ≡ true → IsOther byte
kept_plain byte is = grind (arith, nat_tests, common_steps)

byte_by : (byte : ℕ) (test : Bool) → is_plain byte ≡ test → Plain (if test then byte ∷ [] else 37 ∷ hex_digit (byte / 16) ∷ hex_digit (byte % 16) ∷ [])
byte_by byte true is = All-cons IsOther byte [] (kept_plain byte is) (All-nil IsOther)
byte_by byte false is =
    All-cons IsOther 37 (hex_digit (byte / 16) ∷ hex_digit (byte % 16) ∷ []) refl
    (All-cons IsOther (hex_digit (byte / 16)) (hex_digit (byte % 16) ∷ []) (hex_plain (byte / 16)) (All-cons IsOther (hex_digit (byte % 16)) [] (hex_plain (byte % 16)) (All-nil IsOther)))

escaped_plain : (name : List ℕ) → Plain (escaped name)
escaped_plain [] = All-nil IsOther
escaped_plain (byte ∷ bytes) = All-append IsOther (escaped_byte byte) (escaped bytes) (byte_by byte (is_plain byte) refl) (escaped_plain bytes)

abbrev pub has_end : List ℕ → Bool
has_end [] = false
has_end (byte ∷ bytes) = nat_eq byte 10 || has_end bytes

neither : (a b : Bool) → (a || b) ≡ false → (a ≡ false) × (b ≡ false)
neither true b is = cc
neither false b is = (refl, is)

pub word : (bytes : List ℕ) → has_end bytes ≡ false → Plain bytes
word [] is = All-nil IsOther
word (byte ∷ bytes) is = let both = neither (nat_eq byte 10) (has_end bytes) is in All-cons IsOther byte bytes both.0 (word bytes both.1)

-- ---- fields

abbrev PlainFields : List (List ℕ) → Type 0
PlainFields [] = Unit {0}
PlainFields (field ∷ fields) = Plain field × PlainFields fields

both : (a b : List (List ℕ)) → PlainFields a → PlainFields b → PlainFields (a ++ b)
both [] b first are = are
both (field ∷ a) b first are = (first.0, both a b first.1 are)

all_plain : {A : Type 0} (group : A → List (List ℕ)) → ((item : A) → PlainFields (group item)) → (items : List A) → PlainFields (flat_map group items)
all_plain group each [] = tt
all_plain group each (item ∷ items) = both (group item) (flat_map group items) (each item) (all_plain group each items)

flag_plain : (flag : Bool) → Plain (flag_field flag)
flag_plain true = word (codes "1") refl
flag_plain false = word (codes "0") refl

run_plain : (run : Run) → PlainFields (run_fields run)
run_plain run = (decimal_plain run.block, (signed_plain run.enter, (signed_plain run.leave, (flag_plain run.stops, tt))))

claim_plain : (claim : Claim) → PlainFields (claim_fields claim)
claim_plain claim = (decimal_plain claim.zone, (signed_plain claim.span.from, (signed_plain claim.span.to, tt)))

runs_plain : (runs : List Run) → PlainFields (runs_fields runs)
runs_plain runs = (word (codes "runs") refl, (decimal_plain (length runs), all_plain run_fields run_plain runs))

holds_plain : (claims : List Claim) (reason : List ℕ) → PlainFields (holds_fields claims reason)
holds_plain claims reason = (word (codes "holds") refl, (escaped_plain reason, (decimal_plain (length claims), all_plain claim_fields claim_plain claims)))

hold_plain : (claims : List Claim) (reason : List ℕ) → PlainFields (hold_fields claims reason)
hold_plain claims reason =
    pick PlainFields (nat_eq (length reason) 0) (codes "hold" ∷ flat_map claim_fields claims) (holds_fields claims reason) (word (codes "hold") refl, all_plain claim_fields claim_plain claims) (holds_plain claims reason)

deed_plain : (deed : Deed) → PlainFields (deed_fields deed)
deed_plain (Hold claims reason) = hold_plain claims reason
deed_plain (Grant wanted path) = runs_plain path.runs
deed_plain (Free entry) = (word (codes "free") refl, (decimal_plain entry, tt))

freed_plain : (by : Option ℕ) → PlainFields (freed_fields by)
freed_plain None = (word (codes "live") refl, tt)
freed_plain (Some at) = (word (codes "freed") refl, (decimal_plain at, tt))

state_plain : (deed : Deed) (by : Option ℕ) → PlainFields (state_fields deed by)
state_plain (Hold claims reason) by = freed_plain by
state_plain (Grant wanted path) by = freed_plain by
state_plain (Free entry) by = (word (codes "done") refl, tt)

owner_plain : (owner : Owner) → PlainFields (owner_fields owner)
owner_plain (Base train) = (word (codes "base") refl, (decimal_plain train, tt))
owner_plain (Entry at) = (word (codes "entry") refl, (decimal_plain at, tt))

rule_plain : (rule : RuleName) → Plain (name_text rule)
rule_plain Quota = word (codes "quota") refl
rule_plain Curfew = word (codes "curfew") refl
rule_plain Longest = word (codes "longest") refl
rule_plain (Own number) = All-append IsOther (codes "own-") (decimal number) (word (codes "own-") refl) (decimal_plain number)

fields_plain : (told : Reply) → PlainFields (reply_fields told)
fields_plain (reply.Held number entry front) = (word (codes "held") refl, (decimal_plain number, (word (codes "entry") refl, (decimal_plain entry, (word (codes "at") refl, (decimal_plain front, tt))))))
fields_plain (reply.Pinned number entry front) = (word (codes "pinned") refl, (decimal_plain number, (word (codes "entry") refl, (decimal_plain entry, (word (codes "at") refl, (decimal_plain front, tt))))))
fields_plain (reply.Granted number entry front runs) = (word (codes "granted") refl, (decimal_plain number, (word (codes "entry") refl, (decimal_plain entry, (word (codes "at") refl, (decimal_plain front, runs_plain runs))))))
fields_plain (reply.Freed number entry freed front) = (word (codes "freed") refl, (decimal_plain number, (word (codes "entry") refl, (decimal_plain entry, (word (codes "of") refl, (decimal_plain freed, (word (codes "at") refl, (decimal_plain front, tt))))))))
fields_plain (reply.Kept number entry front deed) = (word (codes "kept") refl, (decimal_plain number, (word (codes "entry") refl, (decimal_plain entry, (word (codes "at") refl, (decimal_plain front, deed_plain deed))))))
fields_plain (reply.Shown at front entry freed_by) = (word (codes "shown") refl, (decimal_plain at, (word (codes "at") refl, (decimal_plain front, (word (codes "owner") refl, (escaped_plain entry.owner, (word (codes "number") refl, (decimal_plain entry.number, both (deed_fields entry.deed) (state_fields entry.deed freed_by) (deed_plain entry.deed) (state_plain entry.deed freed_by)))))))))
fields_plain (reply.Front front) = (word (codes "front") refl, (word (codes "at") refl, (decimal_plain front, tt)))
fields_plain (reply.Bad field) = (word (codes "bad") refl, (decimal_plain field, tt))
fields_plain (reply.Denied number rule front) = (word (codes "denied") refl, (decimal_plain number, (rule_plain rule, (word (codes "at") refl, (decimal_plain front, tt)))))
fields_plain (reply.Ahead after front) = (word (codes "ahead") refl, (decimal_plain after, (word (codes "at") refl, (decimal_plain front, tt))))
fields_plain (reply.Other number entry front) = (word (codes "other") refl, (decimal_plain number, (word (codes "entry") refl, (decimal_plain entry, (word (codes "at") refl, (decimal_plain front, tt))))))
fields_plain (reply.Gone number entry freed_by front) = (word (codes "gone") refl, (decimal_plain number, (word (codes "entry") refl, (decimal_plain entry, (word (codes "by") refl, (decimal_plain freed_by, (word (codes "at") refl, (decimal_plain front, tt))))))))
fields_plain (reply.Taken number zone owner front) = (word (codes "taken") refl, (decimal_plain number, (word (codes "zone") refl, (decimal_plain zone, (word (codes "by") refl, both (owner_fields owner) (at_front front) (owner_plain owner) (word (codes "at") refl, (decimal_plain front, tt)))))))
fields_plain (reply.Breaks number run rule front) = (word (codes "breaks") refl, (decimal_plain number, (word (codes "run") refl, (decimal_plain run, (word (codes "rule") refl, (decimal_plain rule, (word (codes "at") refl, (decimal_plain front, tt))))))))
fields_plain (reply.NoPath number front) = (word (codes "no-path") refl, (decimal_plain number, (word (codes "at") refl, (decimal_plain front, tt))))
fields_plain (reply.Again number entry searched front) = (word (codes "again") refl, (decimal_plain number, (word (codes "entry") refl, (decimal_plain entry, (word (codes "searched") refl, (decimal_plain searched, (word (codes "at") refl, (decimal_plain front, tt))))))))
fields_plain (reply.Unknown entry front) = (word (codes "unknown") refl, (decimal_plain entry, (word (codes "at") refl, (decimal_plain front, tt))))
fields_plain (reply.NotYours number entry owner front) = (word (codes "not-yours") refl, (decimal_plain number, (word (codes "entry") refl, (decimal_plain entry, (word (codes "owner") refl, (escaped_plain owner, (word (codes "at") refl, (decimal_plain front, tt))))))))
fields_plain (reply.AlreadyFreed number entry freed_by front) = (word (codes "already-freed") refl, (decimal_plain number, (word (codes "entry") refl, (decimal_plain entry, (word (codes "by") refl, (decimal_plain freed_by, (word (codes "at") refl, (decimal_plain front, tt))))))))
fields_plain (reply.Wide number front) = (word (codes "wide") refl, (decimal_plain number, (word (codes "at") refl, (decimal_plain front, tt))))
fields_plain (reply.Full number front) = (word (codes "full") refl, (decimal_plain number, (word (codes "at") refl, (decimal_plain front, tt))))
fields_plain (reply.Unsettled number entry front) = (word (codes "unsettled") refl, (decimal_plain number, (word (codes "entry") refl, (decimal_plain entry, (word (codes "at") refl, (decimal_plain front, tt))))))
fields_plain reply.DiskFault = (word (codes "disk-fault") refl, tt)
fields_plain reply.NoMemory = (word (codes "no-memory") refl, tt)

-- ---- lines

spaced_plain : (fields : List (List ℕ)) → PlainFields fields → Plain (spaced fields)
unfolding spaced
spaced_plain [] are = All-nil IsOther
spaced_plain (field ∷ fields) are = All-cons IsOther 32 (field ++ spaced fields) refl (All-append IsOther field (spaced fields) are.0 (spaced_plain fields are.1))

line_plain : (fields : List (List ℕ)) → PlainFields fields → Plain (line_of fields)
line_plain [] are = All-nil IsOther
line_plain (field ∷ fields) are = All-append IsOther field (spaced fields) are.0 (spaced_plain fields are.1)

-- the line of a reply
pub reply_plain : (told : Reply) → Plain (line_of (reply_fields told))
reply_plain told = line_plain (reply_fields told) (fields_plain told)

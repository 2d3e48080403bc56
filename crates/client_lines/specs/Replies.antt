-- The texts of replies.
use Rattle.std.specs.Prelude.{ℕ, List, [], ◌∷◌, ◌++◌, length, Option, Some, None, codes, decimal}
use Rattle.std.specs.Prelude.{flat_map, nat_eq, if◌then◌else◌}
use Rattle.rail_types.specs.declared.paths.Claim.{Claim}
use Rattle.rail_types.specs.declared.paths.Run.{Run}
use Rattle.rail_types.specs.declared.entries.Owner.{Owner}
use Rattle.rail_types.specs.declared.entries.Owner.TheVariants.{Base, Entry}
use Rattle.rail_types.specs.declared.entries.Deed.{Deed}
use Rattle.rail_types.specs.declared.entries.Deed.TheVariants.{Hold, Grant, Free}
use Rattle.json_fields.specs.Escapes.{escaped}
use Rattle.admission_rules.specs.Names.{name_text}
use Rattle.client_lines.specs.declared.reply_texts.replies.Reply.{Reply}
use Rattle.client_lines.specs.declared.reply_texts.replies.Reply.TheVariants as reply
use Rattle.client_lines.specs.Fields.{claim_fields, line_of, run_fields, said}

-- ---- ENTRY

-- `runs C`, then C times BLOCK ENTER LEAVE STOPS
abbrev pub runs_fields : List Run → List (List ℕ)
runs_fields runs = said (codes "runs") (length runs) ++ flat_map run_fields runs

-- `holds REASON C`, then C times ZONE FROM TO
abbrev pub holds_fields : List Claim → List ℕ → List (List ℕ)
holds_fields claims reason =
    codes "holds" ∷ escaped reason ∷ decimal (length claims) ∷ flat_map claim_fields claims

-- a hold without a reason is `hold ZONE FROM TO`
abbrev pub hold_fields : List Claim → List ℕ → List (List ℕ)
hold_fields claims reason =
    if nat_eq (length reason) 0 then codes "hold" ∷ flat_map claim_fields claims
    else holds_fields claims reason

abbrev pub deed_fields : Deed → List (List ℕ)
deed_fields (Hold claims reason) = hold_fields claims reason
deed_fields (Grant wanted path) = runs_fields path.runs
deed_fields (Free entry) = said (codes "free") entry

-- ---- STATE

abbrev pub freed_fields : Option ℕ → List (List ℕ)
freed_fields None = codes "live" ∷ []
freed_fields (Some at) = said (codes "freed") at

-- an entry that only frees another one is done
abbrev pub state_fields : Deed → Option ℕ → List (List ℕ)
state_fields (Free entry) freed_by = codes "done" ∷ []
state_fields (Hold claims reason) freed_by = freed_fields freed_by
state_fields (Grant wanted path) freed_by = freed_fields freed_by

-- ---- the table of replies

-- `base T` or `entry I`
abbrev pub owner_fields : Owner → List (List ℕ)
owner_fields (Base train) = said (codes "base") train
owner_fields (Entry at) = said (codes "entry") at

-- the front that a reply prints
abbrev pub at_front : ℕ → List (List ℕ)
at_front front = said (codes "at") front

abbrev pub of_entry : ℕ → List (List ℕ)
of_entry entry = said (codes "entry") entry

abbrev pub reply_fields : Reply → List (List ℕ)
reply_fields (reply.Held number entry front) =
    said (codes "held") number ++ of_entry entry ++ at_front front
reply_fields (reply.Pinned number entry front) =
    said (codes "pinned") number ++ of_entry entry ++ at_front front
reply_fields (reply.Granted number entry front runs) =
    said (codes "granted") number ++ of_entry entry ++ at_front front ++ runs_fields runs
reply_fields (reply.Freed number entry freed front) =
    said (codes "freed") number ++ of_entry entry ++ said (codes "of") freed ++ at_front front
reply_fields (reply.Kept number entry front deed) =
    said (codes "kept") number ++ of_entry entry ++ at_front front ++ deed_fields deed
reply_fields (reply.Shown at front entry freed_by) =
    said (codes "shown") at ++ at_front front ++ codes "owner" ∷ escaped entry.owner
    ∷ said (codes "number") entry.number ++ deed_fields entry.deed
    ++ state_fields entry.deed freed_by
reply_fields (reply.Front front) = codes "front" ∷ at_front front
reply_fields (reply.Bad field) = said (codes "bad") field
reply_fields (reply.Denied number rule front) =
    said (codes "denied") number ++ name_text rule ∷ at_front front
reply_fields (reply.Ahead after front) = said (codes "ahead") after ++ at_front front
reply_fields (reply.Other number entry front) =
    said (codes "other") number ++ of_entry entry ++ at_front front
reply_fields (reply.Gone number entry freed_by front) =
    said (codes "gone") number ++ of_entry entry ++ said (codes "by") freed_by ++ at_front front
reply_fields (reply.Taken number zone owner front) =
    said (codes "taken") number ++ said (codes "zone") zone ++ codes "by" ∷ owner_fields owner
    ++ at_front front
reply_fields (reply.Breaks number run rule front) =
    said (codes "breaks") number ++ said (codes "run") run ++ said (codes "rule") rule
    ++ at_front front
reply_fields (reply.NoPath number front) = said (codes "no-path") number ++ at_front front
reply_fields (reply.Again number entry searched front) =
    said (codes "again") number ++ of_entry entry ++ said (codes "searched") searched
    ++ at_front front
reply_fields (reply.Unknown entry front) = said (codes "unknown") entry ++ at_front front
reply_fields (reply.NotYours number entry owner front) =
    said (codes "not-yours") number ++ of_entry entry ++ codes "owner" ∷ escaped owner
    ∷ at_front front
reply_fields (reply.AlreadyFreed number entry freed_by front) =
    said (codes "already-freed") number ++ of_entry entry ++ said (codes "by") freed_by
    ++ at_front front
reply_fields (reply.Wide number front) = said (codes "wide") number ++ at_front front
reply_fields (reply.Full number front) = said (codes "full") number ++ at_front front
reply_fields (reply.Unsettled number entry front) =
    said (codes "unsettled") number ++ of_entry entry ++ at_front front
reply_fields reply.DiskFault = codes "disk-fault" ∷ []
reply_fields reply.NoMemory = codes "no-memory" ∷ []

-- a reply as it is written, one line with its end
abbrev pub reply_text : Reply → List ℕ
reply_text told = line_of (reply_fields told) ++ 10 ∷ []

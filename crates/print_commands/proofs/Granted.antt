-- The path of a grant in a legal history.
use Rattle.std.proofs.Common.{◌≡◌, ℕ, List, Option, None, Some, sym, refl, subst}
use Rattle.std.specs.Prelude.{slice_get}
use Rattle.rail_types.specs.declared.entries.Deed.{Deed}
use Rattle.rail_types.specs.declared.entries.Deed.TheVariants.{Hold, Grant, Free}
use Rattle.rail_types.specs.declared.entries.Entry.{Entry}
use Rattle.rail_types.specs.declared.entries.Settings.{Settings}
use Rattle.rail_types.specs.declared.paths.Path.{Path}
use Rattle.rail_types.specs.declared.tracks.Network.{Network}
use Rattle.rail_types.specs.Timetables.{IsTimetable, Timetable}
use Rattle.blocking_time.specs.Paths.{IsPathIn, IsPathOf}
use Rattle.blocking_time.specs.Rules.{KeepsRunRules}
use Rattle.grant_log.specs.Inside.{HasStairway}
use Rattle.grant_log.specs.Legal.{IsInRange, IsLegal}
use Rattle.grant_log.specs.Verdict.{breaks}
use Rattle.print_commands.specs.Tables.{granted_at, granted_by, granted_in}

-- a deed that grants this path has a stairway where it can be worked out
by_deed : (timetable : Timetable) (deed : Deed) (path : Path) → granted_by deed ≡ Some path → HasStairway timetable deed → IsPathOf timetable.net timetable.settings path × KeepsRunRules timetable.net timetable.settings path
by_deed timetable (Hold claims reason) path is has = cc
by_deed timetable (Grant wanted path) other is has =
    let same : path ≡ other = cc in
    subst (λ (p : Path). IsPathOf timetable.net timetable.settings p × KeepsRunRules timetable.net timetable.settings p) same has
by_deed timetable (Free at) path is has = cc

by_entry : (timetable : Timetable) (found : Option Entry) (path : Path) → granted_in found ≡ Some path → ((entry : Entry) → found ≡ Some entry → HasStairway timetable entry.deed)
    → IsPathOf timetable.net timetable.settings path × KeepsRunRules timetable.net timetable.settings path
by_entry timetable None path is has = cc
by_entry timetable (Some entry) path is has = by_deed timetable entry.deed path is (has entry refl)

-- each grant of a legal history keeps its request
abbrev pub KeepRequests : Type 0
KeepRequests = (timetable : Timetable) (entries : List Entry) (at : ℕ) (entry : Entry) → IsLegal timetable entries → slice_get entries at ≡ Some entry → breaks timetable entry.deed ≡ None

-- the claims of a deed in range, whose path breaks no rule, can be worked out
abbrev pub HaveStairways : Type 0
HaveStairways = (timetable : Timetable) (entry : Entry) → IsTimetable timetable → IsInRange timetable entry → breaks timetable entry.deed ≡ None → HasStairway timetable entry.deed

granted_keeps : KeepRequests → HaveStairways → (timetable : Timetable) (entries : List Entry) (at : ℕ) (path : Path) → IsTimetable timetable → IsLegal timetable entries → granted_at entries at ≡ Some path
    → IsPathOf timetable.net timetable.settings path × KeepsRunRules timetable.net timetable.settings path
granted_keeps keep have timetable entries at path planned legal is =
    by_entry timetable (slice_get entries at) path is (λ entry here. have timetable entry planned (legal at entry here).in_range (keep timetable entries at entry legal here))

-- a path in blocks of a network, by the network and the settings that a history tells
path_in : (timetable : Timetable) (path : Path) → IsPathOf timetable.net timetable.settings path → IsPathIn timetable.net timetable.settings path
path_in timetable path of = record { blocks = of.blocks; runs = of.runs; train = of.train; timetable = of.timetable }

-- the same of the network and the settings that were told
pub granted_sound : KeepRequests → HaveStairways → (timetable : Timetable) (entries : List Entry) (at : ℕ) (path : Path) → IsTimetable timetable → IsLegal timetable entries → granted_at entries at ≡ Some path
    → (net : Network) (settings : Settings) → net ≡ timetable.net → settings ≡ timetable.settings → IsPathIn net settings path × KeepsRunRules net settings path
granted_sound keep have timetable entries at path planned legal is net settings net_is settings_is =
    let both = granted_keeps keep have timetable entries at path planned legal is in
    subst (λ (n : Network). IsPathIn n settings path × KeepsRunRules n settings path) (sym net_is)
    (subst (λ (s : Settings). IsPathIn timetable.net s path × KeepsRunRules timetable.net s path) (sym settings_is) (path_in timetable path both.0, both.1))

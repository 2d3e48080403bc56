-- Words that stand for one of a few things: directions, ends, types of switches,
-- their ports and their groups.
use Rattle.std.specs.Prelude.{ℕ, List, [], ◌∷◌, ◌++◌, codes, if◌then◌else◌, Option, Some, None}
use Rattle.std.specs.Prelude.{Result}
use Rattle.std.specs.Str.{bytes_eq}
use Rattle.serde_json.specs.Data.{Data}
use Rattle.json_fields.specs.Places.{FilePlace, spot_of}
use Rattle.json_fields.specs.Reading.{◌>>=◌, or_fault}
use Rattle.rail_types.specs.declared.infra_types.ends.Direction.{Direction}
use Rattle.rail_types.specs.declared.infra_types.ends.Direction.TheVariants as directions
use Rattle.rail_types.specs.declared.infra_types.ends.End.{End}
use Rattle.rail_types.specs.declared.infra_types.ends.End.TheVariants as ends
use Rattle.rail_types.specs.declared.infra_types.ends.Applies.{Applies}
use Rattle.rail_types.specs.declared.infra_types.ends.Applies.TheVariants as applying
use Rattle.rail_types.specs.declared.infra_types.switches.SwitchKind.{SwitchKind}
use Rattle.rail_types.specs.declared.infra_types.switches.SwitchKind.TheVariants.{Point, Link}
use Rattle.rail_types.specs.declared.infra_types.switches.SwitchKind.TheVariants.{Crossing}
use Rattle.rail_types.specs.declared.infra_types.switches.SwitchKind.TheVariants.{DoubleSlip}
use Rattle.rail_types.specs.declared.infra_types.switches.Group.{Group}
use Rattle.rail_types.specs.declared.infra_types.switches.Group.TheVariants.{AB1, AB2, A1B1, A1B2}
use Rattle.rail_types.specs.declared.infra_types.switches.Group.TheVariants.{A2B1, A2B2}
use Rattle.rail_types.specs.declared.infra_types.switches.Group.TheVariants.{Other}
use Rattle.infra_fields.specs.declared.words.Port.{Port}
use Rattle.infra_fields.specs.declared.words.Port.TheVariants as port
use Rattle.infra_fields.specs.declared.faults.InfraFault.{InfraFault}
use Rattle.infra_fields.specs.declared.faults.InfraFault.TheVariants.{Kind}
use Rattle.infra_fields.specs.Fields.{text_at}

-- the first of some words that the text is, and what it stands for
abbrev pub if_word : {A : Type 0} → List ℕ → List ℕ → A → A → A
if_word text word it other = if bytes_eq text word then it else other

abbrev pub direction_named : List ℕ → Option Direction
direction_named text =
    if_word text (codes "START_TO_STOP") (Some directions.StartToStop)
    (if_word text (codes "STOP_TO_START") (Some directions.StopToStart) None)

abbrev pub end_named : List ℕ → Option End
end_named text =
    if_word text (codes "BEGIN") (Some ends.Begin) (if_word text (codes "END") (Some ends.End) None)

abbrev pub applies_named : List ℕ → Option Applies
applies_named text =
    if_word text (codes "START_TO_STOP") (Some applying.StartToStop)
    (if_word text (codes "STOP_TO_START") (Some applying.StopToStart)
    (if_word text (codes "BOTH") (Some applying.Both) None))

abbrev pub kind_named : List ℕ → Option SwitchKind
kind_named text =
    if_word text (codes "point_switch") (Some Point)
    (if_word text (codes "link") (Some Link)
    (if_word text (codes "crossing") (Some Crossing)
    (if_word text (codes "double_slip_switch") (Some DoubleSlip) None)))

abbrev pub group_named : List ℕ → Group
group_named text =
    if_word text (codes "A_B1") AB1
    (if_word text (codes "A_B2") AB2
    (if_word text (codes "A1_B1") A1B1
    (if_word text (codes "A1_B2") A1B2
    (if_word text (codes "A2_B1") A2B1
    (if_word text (codes "A2_B2") A2B2 Other)))))

-- the ports of a kind of switch, in their order
abbrev pub ports_of : SwitchKind → List Port
ports_of Point = port.A ∷ port.B1 ∷ port.B2 ∷ []
ports_of Link = port.A ∷ port.B ∷ []
ports_of Crossing = port.A1 ∷ port.B1 ∷ port.A2 ∷ port.B2 ∷ []
ports_of DoubleSlip = port.A1 ∷ port.A2 ∷ port.B1 ∷ port.B2 ∷ []

-- the key of a port
abbrev pub port_name : Port → List ℕ
port_name port.A = codes "A"
port_name port.B = codes "B"
port_name port.A1 = codes "A1"
port_name port.A2 = codes "A2"
port_name port.B1 = codes "B1"
port_name port.B2 = codes "B2"

-- the fields that lead to a port
abbrev pub port_within : Port → List ℕ
port_within p = codes "ports." ++ port_name p

-- ---- words of fields

-- what a field's word stands for
abbrev pub word_at : {A : Type 0} → (List ℕ → Option A) → FilePlace → List ℕ → Data
    → Result A InfraFault
word_at named place field d = do
  word ← text_at place field d
  or_fault (Kind (spot_of place field)) (named word)

abbrev pub direction_at : FilePlace → List ℕ → Data → Result Direction InfraFault
direction_at place field d = word_at direction_named place field d

abbrev pub end_at : FilePlace → List ℕ → Data → Result End InfraFault
end_at place field d = word_at end_named place field d

abbrev pub applies_at : FilePlace → List ℕ → Data → Result Applies InfraFault
applies_at place field d = word_at applies_named place field d

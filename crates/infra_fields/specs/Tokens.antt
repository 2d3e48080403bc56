-- Values as the tokens of a text give them.
use Rattle.std.specs.Prelude.{◌≡◌, List, Bool, true, false, Option, Some, None, option_map}
use Rattle.json.specs.Token as json
use Rattle.serde_json.specs.Data.{Data, null, boolean, number, string}
use Rattle.serde_json.specs.Read.{number_of}

-- whether an array begins with this token
abbrev pub opens_array : json.Token → Bool
opens_array json.begin_object = false
opens_array json.end_object = false
opens_array json.begin_array = true
opens_array json.end_array = false
opens_array (json.key s) = false
opens_array (json.string s) = false
opens_array (json.number s) = false
opens_array (json.boolean b) = false
opens_array json.null = false
opens_array json.bad = false

-- whether an object begins with this token
abbrev pub opens_object : json.Token → Bool
opens_object json.begin_object = true
opens_object json.end_object = false
opens_object json.begin_array = false
opens_object json.end_array = false
opens_object (json.key s) = false
opens_object (json.string s) = false
opens_object (json.number s) = false
opens_object (json.boolean b) = false
opens_object json.null = false
opens_object json.bad = false

-- the value that this token alone is
abbrev pub lone_value : json.Token → Option Data
lone_value json.begin_object = None
lone_value json.end_object = None
lone_value json.begin_array = None
lone_value json.end_array = None
lone_value (json.key s) = None
lone_value (json.string s) = Some (string s)
lone_value (json.number s) = option_map number (number_of s)
lone_value (json.boolean b) = Some (boolean b)
lone_value json.null = Some null
lone_value json.bad = None

-- something was parsed, and these tokens are left
abbrev pub Passes : {A : Type 0} → Option (A × List json.Token) → List json.Token → Type 0
Passes {A} parsed left = (all : A) × (parsed ≡ Some (all, left))

-- Something was parsed, and these tokens are left. What was kept stands so to it.
abbrev pub ParsesTo : {A X : Type 0} → (A → X → Type 0) → Option (A × List json.Token) → X
    → List json.Token → Type 0
ParsesTo {A} Stands parsed kept left = (all : A) × (parsed ≡ Some (all, left)) × Stands all kept

-- Which orders a command word asks for.
use Rattle.std.proofs.Common.{◌≡◌, ◌∙◌, ℕ, true, List, [], ◌∷◌, Option, None, Some, refl, sym, codes}
use Rattle.command_line.specs.Spelling.{are_among, at_most_one, Setting, values_under}
use Rattle.command_line.specs.declared.client_words.clients.ClientWord.{ClientWord}
use Rattle.command_line.specs.declared.proof_words.proofs.ProofWord.{ProofWord}
use Rattle.command_line.specs.declared.rule_words.reading.RuleWord.{RuleWord}
use Rattle.command_words.specs.Orders.{Agree, Asks, IsWithinLimits, settings_of}
use Rattle.command_words.specs.declared.orders.Order.{Order}
use Rattle.command_words.specs.declared.orders.Order.TheVariants.{Tables, Init, Stairs, Capacity, Serve, Demo, Check, Batch, Carry}
use Rattle.command_words.proofs.Agreeing.{agree_by, differ}

pub list_order : (settings : List Setting) (order : Order) → Asks (codes "list") settings order → (network : List ℕ) × (out : List ℕ) × Agree settings (settings_of (Tables network out))
list_order settings (Tables network out) asks = (network, out, asks.agree)
list_order settings (Init network base journal from) asks = absurd (differ (codes "list") (codes "init") refl asks.command_is)
list_order settings (Stairs network base journal entry out) asks = absurd (differ (codes "list") (codes "stairs") refl asks.command_is)
list_order settings (Capacity network base journal first last from to out) asks = absurd (differ (codes "list") (codes "capacity") refl asks.command_is)
list_order settings (Serve network trains base journal clients proofs rules) asks = absurd (differ (codes "list") (codes "serve") refl asks.command_is)
list_order settings (Demo number out) asks = absurd (differ (codes "list") (codes "demo") refl asks.command_is)
list_order settings (Check network trains base journal proof) asks = absurd (differ (codes "list") (codes "check") refl asks.command_is)
list_order settings (Batch network trains base journal client workers rules) asks = absurd (differ (codes "list") (codes "batch") refl asks.command_is)
list_order settings (Carry network base journal from from_base left) asks = absurd (differ (codes "list") (codes "carry") refl asks.command_is)

-- the parts of an order to begin a journal
pub record IsInit (settings : List Setting) : Type 0 where
  pub network : List ℕ
  pub base : List ℕ
  pub journal : List ℕ
  pub from : Option (List ℕ)
  pub agree : Agree settings (settings_of (Init network base journal from))

pub init_order : (settings : List Setting) (order : Order) → Asks (codes "init") settings order → IsInit settings
init_order settings (Tables network out) asks = absurd (differ (codes "init") (codes "list") refl asks.command_is)
init_order settings (Init network base journal from) asks = record {
  network = network;
  base = base;
  journal = journal;
  from = from;
  agree = asks.agree;
}
init_order settings (Stairs network base journal entry out) asks = absurd (differ (codes "init") (codes "stairs") refl asks.command_is)
init_order settings (Capacity network base journal first last from to out) asks = absurd (differ (codes "init") (codes "capacity") refl asks.command_is)
init_order settings (Serve network trains base journal clients proofs rules) asks = absurd (differ (codes "init") (codes "serve") refl asks.command_is)
init_order settings (Demo number out) asks = absurd (differ (codes "init") (codes "demo") refl asks.command_is)
init_order settings (Check network trains base journal proof) asks = absurd (differ (codes "init") (codes "check") refl asks.command_is)
init_order settings (Batch network trains base journal client workers rules) asks = absurd (differ (codes "init") (codes "batch") refl asks.command_is)
init_order settings (Carry network base journal from from_base left) asks = absurd (differ (codes "init") (codes "carry") refl asks.command_is)

-- the parts of an order to write a stairway
pub record IsStairs (settings : List Setting) : Type 0 where
  pub network : List ℕ
  pub base : List ℕ
  pub journal : List ℕ
  pub entry : ℕ
  pub out : List ℕ
  pub agree : Agree settings (settings_of (Stairs network base journal entry out))
  pub limits : IsWithinLimits (Stairs network base journal entry out)

pub stairs_order : (settings : List Setting) (order : Order) → Asks (codes "stairs") settings order → IsStairs settings
stairs_order settings (Tables network out) asks = absurd (differ (codes "stairs") (codes "list") refl asks.command_is)
stairs_order settings (Init network base journal from) asks = absurd (differ (codes "stairs") (codes "init") refl asks.command_is)
stairs_order settings (Stairs network base journal entry out) asks = record {
  network = network;
  base = base;
  journal = journal;
  entry = entry;
  out = out;
  agree = asks.agree;
  limits = asks.limits;
}
stairs_order settings (Capacity network base journal first last from to out) asks = absurd (differ (codes "stairs") (codes "capacity") refl asks.command_is)
stairs_order settings (Serve network trains base journal clients proofs rules) asks = absurd (differ (codes "stairs") (codes "serve") refl asks.command_is)
stairs_order settings (Demo number out) asks = absurd (differ (codes "stairs") (codes "demo") refl asks.command_is)
stairs_order settings (Check network trains base journal proof) asks = absurd (differ (codes "stairs") (codes "check") refl asks.command_is)
stairs_order settings (Batch network trains base journal client workers rules) asks = absurd (differ (codes "stairs") (codes "batch") refl asks.command_is)
stairs_order settings (Carry network base journal from from_base left) asks = absurd (differ (codes "stairs") (codes "carry") refl asks.command_is)

-- the parts of an order to write a capacity
pub record IsCapacity (settings : List Setting) : Type 0 where
  pub network : List ℕ
  pub base : List ℕ
  pub journal : List ℕ
  pub first : ℕ
  pub last : ℕ
  pub from : ℕ
  pub to : ℕ
  pub out : List ℕ
  pub agree : Agree settings (settings_of (Capacity network base journal first last from to out))
  pub limits : IsWithinLimits (Capacity network base journal first last from to out)

pub capacity_order : (settings : List Setting) (order : Order) → Asks (codes "capacity") settings order → IsCapacity settings
capacity_order settings (Tables network out) asks = absurd (differ (codes "capacity") (codes "list") refl asks.command_is)
capacity_order settings (Init network base journal from) asks = absurd (differ (codes "capacity") (codes "init") refl asks.command_is)
capacity_order settings (Stairs network base journal entry out) asks = absurd (differ (codes "capacity") (codes "stairs") refl asks.command_is)
capacity_order settings (Capacity network base journal first last from to out) asks = record {
  network = network;
  base = base;
  journal = journal;
  first = first;
  last = last;
  from = from;
  to = to;
  out = out;
  agree = asks.agree;
  limits = asks.limits;
}
capacity_order settings (Serve network trains base journal clients proofs rules) asks = absurd (differ (codes "capacity") (codes "serve") refl asks.command_is)
capacity_order settings (Demo number out) asks = absurd (differ (codes "capacity") (codes "demo") refl asks.command_is)
capacity_order settings (Check network trains base journal proof) asks = absurd (differ (codes "capacity") (codes "check") refl asks.command_is)
capacity_order settings (Batch network trains base journal client workers rules) asks = absurd (differ (codes "capacity") (codes "batch") refl asks.command_is)
capacity_order settings (Carry network base journal from from_base left) asks = absurd (differ (codes "capacity") (codes "carry") refl asks.command_is)

-- the parts of an order to serve clients
pub record IsServe (settings : List Setting) : Type 0 where
  pub network : List ℕ
  pub trains : List ℕ
  pub base : List ℕ
  pub journal : List ℕ
  pub clients : List ClientWord
  pub proofs : List ProofWord
  pub rules : List RuleWord
  pub agree : Agree settings (settings_of (Serve network trains base journal clients proofs rules))
  pub limits : IsWithinLimits (Serve network trains base journal clients proofs rules)

pub serve_order : (settings : List Setting) (order : Order) → Asks (codes "serve") settings order → IsServe settings
serve_order settings (Tables network out) asks = absurd (differ (codes "serve") (codes "list") refl asks.command_is)
serve_order settings (Init network base journal from) asks = absurd (differ (codes "serve") (codes "init") refl asks.command_is)
serve_order settings (Stairs network base journal entry out) asks = absurd (differ (codes "serve") (codes "stairs") refl asks.command_is)
serve_order settings (Capacity network base journal first last from to out) asks = absurd (differ (codes "serve") (codes "capacity") refl asks.command_is)
serve_order settings (Serve network trains base journal clients proofs rules) asks = record {
  network = network;
  trains = trains;
  base = base;
  journal = journal;
  clients = clients;
  proofs = proofs;
  rules = rules;
  agree = asks.agree;
  limits = asks.limits;
}
serve_order settings (Demo number out) asks = absurd (differ (codes "serve") (codes "demo") refl asks.command_is)
serve_order settings (Check network trains base journal proof) asks = absurd (differ (codes "serve") (codes "check") refl asks.command_is)
serve_order settings (Batch network trains base journal client workers rules) asks = absurd (differ (codes "serve") (codes "batch") refl asks.command_is)
serve_order settings (Carry network base journal from from_base left) asks = absurd (differ (codes "serve") (codes "carry") refl asks.command_is)

-- the parts of an order to demonstrate
pub record IsDemo (settings : List Setting) : Type 0 where
  pub number : ℕ
  pub out : List ℕ
  pub agree : Agree settings (settings_of (Demo number out))
  pub limits : IsWithinLimits (Demo number out)

pub demo_order : (settings : List Setting) (order : Order) → Asks (codes "demo") settings order → IsDemo settings
demo_order settings (Tables network out) asks = absurd (differ (codes "demo") (codes "list") refl asks.command_is)
demo_order settings (Init network base journal from) asks = absurd (differ (codes "demo") (codes "init") refl asks.command_is)
demo_order settings (Stairs network base journal entry out) asks = absurd (differ (codes "demo") (codes "stairs") refl asks.command_is)
demo_order settings (Capacity network base journal first last from to out) asks = absurd (differ (codes "demo") (codes "capacity") refl asks.command_is)
demo_order settings (Serve network trains base journal clients proofs rules) asks = absurd (differ (codes "demo") (codes "serve") refl asks.command_is)
demo_order settings (Demo number out) asks = record {
  number = number;
  out = out;
  agree = asks.agree;
  limits = asks.limits;
}
demo_order settings (Check network trains base journal proof) asks = absurd (differ (codes "demo") (codes "check") refl asks.command_is)
demo_order settings (Batch network trains base journal client workers rules) asks = absurd (differ (codes "demo") (codes "batch") refl asks.command_is)
demo_order settings (Carry network base journal from from_base left) asks = absurd (differ (codes "demo") (codes "carry") refl asks.command_is)

-- the parts of an order to check proofs
pub record IsCheck (settings : List Setting) : Type 0 where
  pub network : List ℕ
  pub trains : List ℕ
  pub base : List ℕ
  pub journal : List ℕ
  pub proof : List ℕ
  pub agree : Agree settings (settings_of (Check network trains base journal proof))

pub check_order : (settings : List Setting) (order : Order) → Asks (codes "check") settings order → IsCheck settings
check_order settings (Tables network out) asks = absurd (differ (codes "check") (codes "list") refl asks.command_is)
check_order settings (Init network base journal from) asks = absurd (differ (codes "check") (codes "init") refl asks.command_is)
check_order settings (Stairs network base journal entry out) asks = absurd (differ (codes "check") (codes "stairs") refl asks.command_is)
check_order settings (Capacity network base journal first last from to out) asks = absurd (differ (codes "check") (codes "capacity") refl asks.command_is)
check_order settings (Serve network trains base journal clients proofs rules) asks = absurd (differ (codes "check") (codes "serve") refl asks.command_is)
check_order settings (Demo number out) asks = absurd (differ (codes "check") (codes "demo") refl asks.command_is)
check_order settings (Check network trains base journal proof) asks = record {
  network = network;
  trains = trains;
  base = base;
  journal = journal;
  proof = proof;
  agree = asks.agree;
}
check_order settings (Batch network trains base journal client workers rules) asks = absurd (differ (codes "check") (codes "batch") refl asks.command_is)
check_order settings (Carry network base journal from from_base left) asks = absurd (differ (codes "check") (codes "carry") refl asks.command_is)

-- the parts of an order to answer a list of asks
pub record IsBatchOrder (settings : List Setting) : Type 0 where
  pub network : List ℕ
  pub trains : List ℕ
  pub base : List ℕ
  pub journal : List ℕ
  pub client : ClientWord
  pub workers : ℕ
  pub rules : List RuleWord
  pub agree : Agree settings (settings_of (Batch network trains base journal client workers rules))
  pub limits : IsWithinLimits (Batch network trains base journal client workers rules)

pub batch_order : (settings : List Setting) (order : Order) → Asks (codes "batch") settings order → IsBatchOrder settings
batch_order settings (Tables network out) asks = absurd (differ (codes "batch") (codes "list") refl asks.command_is)
batch_order settings (Init network base journal from) asks = absurd (differ (codes "batch") (codes "init") refl asks.command_is)
batch_order settings (Stairs network base journal entry out) asks = absurd (differ (codes "batch") (codes "stairs") refl asks.command_is)
batch_order settings (Capacity network base journal first last from to out) asks = absurd (differ (codes "batch") (codes "capacity") refl asks.command_is)
batch_order settings (Serve network trains base journal clients proofs rules) asks = absurd (differ (codes "batch") (codes "serve") refl asks.command_is)
batch_order settings (Demo number out) asks = absurd (differ (codes "batch") (codes "demo") refl asks.command_is)
batch_order settings (Check network trains base journal proof) asks = absurd (differ (codes "batch") (codes "check") refl asks.command_is)
batch_order settings (Batch network trains base journal client workers rules) asks = record {
  network = network;
  trains = trains;
  base = base;
  journal = journal;
  client = client;
  workers = workers;
  rules = rules;
  agree = asks.agree;
  limits = asks.limits;
}
batch_order settings (Carry network base journal from from_base left) asks = absurd (differ (codes "batch") (codes "carry") refl asks.command_is)

-- the parts of an order to carry a journal
pub record IsCarry (settings : List Setting) : Type 0 where
  pub network : List ℕ
  pub base : List ℕ
  pub journal : List ℕ
  pub from : List ℕ
  pub from_base : List ℕ
  pub left : Option (List ℕ)
  pub agree : Agree settings (settings_of (Carry network base journal from from_base left))
  pub limits : IsWithinLimits (Carry network base journal from from_base left)

pub carry_order : (settings : List Setting) (order : Order) → Asks (codes "carry") settings order → IsCarry settings
carry_order settings (Tables network out) asks = absurd (differ (codes "carry") (codes "list") refl asks.command_is)
carry_order settings (Init network base journal from) asks = absurd (differ (codes "carry") (codes "init") refl asks.command_is)
carry_order settings (Stairs network base journal entry out) asks = absurd (differ (codes "carry") (codes "stairs") refl asks.command_is)
carry_order settings (Capacity network base journal first last from to out) asks = absurd (differ (codes "carry") (codes "capacity") refl asks.command_is)
carry_order settings (Serve network trains base journal clients proofs rules) asks = absurd (differ (codes "carry") (codes "serve") refl asks.command_is)
carry_order settings (Demo number out) asks = absurd (differ (codes "carry") (codes "demo") refl asks.command_is)
carry_order settings (Check network trains base journal proof) asks = absurd (differ (codes "carry") (codes "check") refl asks.command_is)
carry_order settings (Batch network trains base journal client workers rules) asks = absurd (differ (codes "carry") (codes "batch") refl asks.command_is)
carry_order settings (Carry network base journal from from_base left) asks = record {
  network = network;
  base = base;
  journal = journal;
  from = from;
  from_base = from_base;
  left = left;
  agree = asks.agree;
  limits = asks.limits;
}

-- the options of an order to begin a journal are of these kinds
pub init_among : (network base journal : List ℕ) (from : Option (List ℕ)) → are_among (codes "network" ∷ codes "base" ∷ codes "journal" ∷ codes "from" ∷ []) (settings_of (Init network base journal from)) ≡ true
init_among network base journal None = refl
init_among network base journal (Some from) = refl

pub init_network : (network base journal : List ℕ) (from : Option (List ℕ)) → values_under (codes "network") (settings_of (Init network base journal from)) ≡ network ∷ []
init_network network base journal None = refl
init_network network base journal (Some from) = refl

pub init_base : (network base journal : List ℕ) (from : Option (List ℕ)) → values_under (codes "base") (settings_of (Init network base journal from)) ≡ base ∷ []
init_base network base journal None = refl
init_base network base journal (Some from) = refl

pub init_journal : (network base journal : List ℕ) (from : Option (List ℕ)) → values_under (codes "journal") (settings_of (Init network base journal from)) ≡ journal ∷ []
init_journal network base journal None = refl
init_journal network base journal (Some from) = refl

pub init_from : (network base journal : List ℕ) (from : Option (List ℕ)) → values_under (codes "from") (settings_of (Init network base journal from)) ≡ at_most_one from
init_from network base journal None = refl
init_from network base journal (Some from) = refl

-- options with these values are those of this order
pub init_agrees : (settings : List Setting) (network base journal : List ℕ) (from : Option (List ℕ)) → are_among (codes "network" ∷ codes "base" ∷ codes "journal" ∷ codes "from" ∷ []) settings ≡ true
    → values_under (codes "network") settings ≡ network ∷ [] → values_under (codes "base") settings ≡ base ∷ [] → values_under (codes "journal") settings ≡ journal ∷ [] → values_under (codes "from") settings ≡ at_most_one from
    → Agree settings (settings_of (Init network base journal from))
init_agrees settings network base journal from among of_network of_base of_journal of_from =
    agree_by (codes "network" ∷ codes "base" ∷ codes "journal" ∷ codes "from" ∷ []) settings (settings_of (Init network base journal from)) among (init_among network base journal from) (
      of_network ∙ sym (init_network network base journal from),
      (
        of_base ∙ sym (init_base network base journal from),
        (of_journal ∙ sym (init_journal network base journal from), (of_from ∙ sym (init_from network base journal from), tt)),
      ),
    )

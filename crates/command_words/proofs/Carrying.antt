-- The options of an order to carry a journal.
use Rattle.std.proofs.Common.{◌≡◌, ◌∙◌, ℕ, true, List, [], ◌∷◌, Option, None, Some, refl, sym, codes}
use Rattle.command_line.specs.Spelling.{are_among, at_most_one, Setting, values_under}
use Rattle.command_words.specs.Orders.{Agree, AreApart, Asks, settings_of}
use Rattle.command_words.specs.declared.orders.Order.{Order}
use Rattle.command_words.specs.declared.orders.Order.TheVariants.{Carry}
use Rattle.command_words.proofs.Agreeing.{agree_by}
use Rattle.command_words.proofs.Commands.{carry_order}

abbrev pub carry_options : List (List ℕ)
carry_options = codes "network" ∷ codes "base" ∷ codes "journal" ∷ codes "from" ∷ codes "from-base" ∷ codes "left" ∷ []

-- they are of these kinds
pub carry_among : (network base journal from from_base : List ℕ) (left : Option (List ℕ)) → are_among carry_options (settings_of (Carry network base journal from from_base left)) ≡ true
carry_among network base journal from from_base None = refl
carry_among network base journal from from_base (Some left) = refl

pub carry_network : (network base journal from from_base : List ℕ) (left : Option (List ℕ)) → values_under (codes "network") (settings_of (Carry network base journal from from_base left)) ≡ network ∷ []
carry_network network base journal from from_base None = refl
carry_network network base journal from from_base (Some left) = refl

pub carry_base : (network base journal from from_base : List ℕ) (left : Option (List ℕ)) → values_under (codes "base") (settings_of (Carry network base journal from from_base left)) ≡ base ∷ []
carry_base network base journal from from_base None = refl
carry_base network base journal from from_base (Some left) = refl

pub carry_journal : (network base journal from from_base : List ℕ) (left : Option (List ℕ)) → values_under (codes "journal") (settings_of (Carry network base journal from from_base left)) ≡ journal ∷ []
carry_journal network base journal from from_base None = refl
carry_journal network base journal from from_base (Some left) = refl

pub carry_from : (network base journal from from_base : List ℕ) (left : Option (List ℕ)) → values_under (codes "from") (settings_of (Carry network base journal from from_base left)) ≡ from ∷ []
carry_from network base journal from from_base None = refl
carry_from network base journal from from_base (Some left) = refl

pub carry_from_base : (network base journal from from_base : List ℕ) (left : Option (List ℕ)) → values_under (codes "from-base") (settings_of (Carry network base journal from from_base left)) ≡ from_base ∷ []
carry_from_base network base journal from from_base None = refl
carry_from_base network base journal from from_base (Some left) = refl

pub carry_left : (network base journal from from_base : List ℕ) (left : Option (List ℕ)) → values_under (codes "left") (settings_of (Carry network base journal from from_base left)) ≡ at_most_one left
carry_left network base journal from from_base None = refl
carry_left network base journal from from_base (Some left) = refl

-- options with these values are those of this order
pub carry_agrees : (settings : List Setting) (network base journal from from_base : List ℕ) (left : Option (List ℕ)) → are_among carry_options settings ≡ true
    → values_under (codes "network") settings ≡ network ∷ [] → values_under (codes "base") settings ≡ base ∷ [] → values_under (codes "journal") settings ≡ journal ∷ [] → values_under (codes "from") settings ≡ from ∷ []
    → values_under (codes "from-base") settings ≡ from_base ∷ [] → values_under (codes "left") settings ≡ at_most_one left
    → Agree settings (settings_of (Carry network base journal from from_base left))
carry_agrees settings network base journal from from_base left among of_network of_base of_journal of_from of_from_base of_left =
    agree_by carry_options settings (settings_of (Carry network base journal from from_base left)) among (carry_among network base journal from from_base left)
    (of_network ∙ sym (carry_network network base journal from from_base left), (of_base ∙ sym (carry_base network base journal from from_base left), (of_journal ∙ sym (carry_journal network base journal from from_base left), (of_from ∙ sym (carry_from network base journal from from_base left), (of_from_base ∙ sym (carry_from_base network base journal from from_base left), (of_left ∙ sym (carry_left network base journal from from_base left), tt))))))

one_is : (a b : List ℕ) → a ∷ [] ≡ b ∷ [] → a ≡ b
one_is a b same = cc

same_left : (a b : Option (List ℕ)) → at_most_one a ≡ at_most_one b → a ≡ b
same_left None None same = refl
same_left None (Some b) same = cc
same_left (Some a) None same = cc
same_left (Some a) (Some b) same = cc

-- names that the options give are apart where those of an order that they ask for are
pub carry_apart : (settings : List Setting) (order : Order) → Asks (codes "carry") settings order → (network base journal from from_base : List ℕ) (left : Option (List ℕ))
    → values_under (codes "network") settings ≡ network ∷ [] → values_under (codes "base") settings ≡ base ∷ [] → values_under (codes "journal") settings ≡ journal ∷ [] → values_under (codes "from") settings ≡ from ∷ []
    → values_under (codes "from-base") settings ≡ from_base ∷ [] → values_under (codes "left") settings ≡ at_most_one left
    → AreApart network base journal from from_base left
carry_apart settings order asks network base journal from from_base left of_network of_base of_journal of_from of_from_base of_left =
    let got = carry_order settings order asks in
    let network_is : network ≡ got.network = one_is _ _ (sym of_network ∙ (got.agree (codes "network") ∙ carry_network got.network got.base got.journal got.from got.from_base got.left)) in
    let base_is : base ≡ got.base = one_is _ _ (sym of_base ∙ (got.agree (codes "base") ∙ carry_base got.network got.base got.journal got.from got.from_base got.left)) in
    let journal_is : journal ≡ got.journal = one_is _ _ (sym of_journal ∙ (got.agree (codes "journal") ∙ carry_journal got.network got.base got.journal got.from got.from_base got.left)) in
    let from_is : from ≡ got.from = one_is _ _ (sym of_from ∙ (got.agree (codes "from") ∙ carry_from got.network got.base got.journal got.from got.from_base got.left)) in
    let from_base_is : from_base ≡ got.from_base = one_is _ _ (sym of_from_base ∙ (got.agree (codes "from-base") ∙ carry_from_base got.network got.base got.journal got.from got.from_base got.left)) in
    let left_is : left ≡ got.left = same_left _ _ (sym of_left ∙ (got.agree (codes "left") ∙ carry_left got.network got.base got.journal got.from got.from_base got.left)) in
    rw (network_is, base_is, journal_is, from_is, from_base_is, left_is) got.limits

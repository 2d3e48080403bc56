-- What stands in stacks whose items are nodes of one list.
use Rattle.std.specs.Prelude.{◌≡◌, ℕ, zero, suc, ◌<◌, ◌≤◌, List, [], ◌∷◌, ◌++◌, length, map, All}
use Rattle.std.specs.List.{slice_index_or, slice_set}
use Rattle.many_stacks.specs.declared.stacks.Node.{Node}

-- one of some stacks by one more than its number; 0 is an empty one
unfoldable pub stack_at : {T : Type 0} → List (List T) → ℕ → List T
stack_at known zero = []
stack_at known (suc number) = slice_index_or known number []

-- the stack that ends with a node, by those that end with the nodes before it
abbrev pub stack_to : {T : Type 0} → List (List T) → Node T → List T
stack_to known node = stack_at known node.below ++ node.item ∷ []

-- the stacks that end with each of some nodes, behind those that end with the nodes before them
unfoldable pub stacks_behind : {T : Type 0} → List (List T) → List (Node T) → List (List T)
stacks_behind known [] = known
stacks_behind known (node ∷ nodes) = stacks_behind (known ++ stack_to known node ∷ []) nodes

-- the stacks that end with each of all nodes
abbrev pub stacks_to : {T : Type 0} → List (Node T) → List (List T)
stacks_to nodes = stacks_behind [] nodes

-- the stacks with these topmost nodes
abbrev pub stacks_of : {T : Type 0} → List ℕ → List (Node T) → List (List T)
stacks_of tops nodes = map (stack_at (stacks_to nodes)) tops

-- each node stands behind the one below it
abbrev pub StandBehind : {T : Type 0} → List (Node T) → Type 0
StandBehind nodes = (at : ℕ) (d : Node _) → at < length nodes
    → (slice_index_or nodes at d).below ≤ at

pub record AreLinked {T : Type 0} (tops : List ℕ) (nodes : List (Node T)) : Type 0 where
  pub within : All (λ top. top ≤ length nodes) tops
  pub behind : StandBehind nodes

-- the topmost item of a stack is taken
pub record IsTaken {T : Type 0} (number : ℕ) (old new : List (List T)) (item : T) : Type 0 where
  pub left : List T
  pub was : slice_index_or old number [] ≡ left ++ item ∷ []
  pub is : new ≡ slice_set old number left

-- What the stacks are that end with nodes, and that another node behind all leaves them as they are.
use Rattle.std.proofs.Common.{◌≡◌, ◌∙◌, ℕ, inl, inr, zero, suc, ◌+◌, ◌<◌, ◌≤◌, List, [], ◌∷◌, ◌++◌, ◌-◌, length, get_or, set, map, take, replicate, refl, sym, subst, ap, arith, All}
use Rattle.std.proofs.lemmas.Bool.{cases_lt}
use Rattle.std.proofs.lemmas.List.{length-append, get_or_append_left, get_or_push, get_or_default, map-set, take_all, get_or-replicate, length-replicate}
use Rattle.std.proofs.lemmas.List.Elements.{All-set}
use Rattle.std.proofs.Math.ListN.{get_or-map, get_or-eq_default}
use Rattle.std.proofs.Math.Seq.{get_or-append_right}
use Rattle.many_stacks.specs.declared.stacks.Node.{Node}
use Rattle.many_stacks.specs.Stacks.{stack_at, stack_to, stacks_behind, stacks_to, stacks_of, StandBehind}

module _ {T : Type 0} where
  pub length_behind : (known : List (List T)) (nodes : List (Node T)) → length (stacks_behind known nodes) ≡ length known + length nodes
  unfolding stack_at stacks_behind
  length_behind known [] = omega arith
  length_behind known (node ∷ nodes) =
      let more = length_behind (known ++ stack_to known node ∷ []) nodes in
      let one = length-append known (stack_to known node ∷ []) in
      omega (arith, more, one)

  -- the stacks before stay as they are
  pub kept_behind : (known : List (List T)) (nodes : List (Node T)) (at : ℕ) → at < length known → get_or (stacks_behind known nodes) at [] ≡ get_or known at []
  unfolding stack_at stacks_behind
  kept_behind known [] at within = refl
  kept_behind known (node ∷ nodes) at within =
      let one = length-append known (stack_to known node ∷ []) in
      kept_behind (known ++ stack_to known node ∷ []) nodes at (omega (arith, within, one)) ∙ get_or_append_left known (stack_to known node ∷ []) [] at within

  pub kept_at : (known : List (List T)) (nodes : List (Node T)) (top : ℕ) → top ≤ length known → stack_at (stacks_behind known nodes) top ≡ stack_at known top
  unfolding stack_at stacks_behind
  kept_at known nodes zero within = refl
  kept_at known nodes (suc at) within = kept_behind known nodes at (omega (arith, within))

  under_push : (known : List (List T)) (stack : List T) (top : ℕ) → top ≤ length known → stack_at (known ++ stack ∷ []) top ≡ stack_at known top
  unfolding stack_at stacks_behind
  under_push known stack zero within = refl
  under_push known stack (suc at) within = get_or_append_left known (stack ∷ []) [] at (omega (arith, within))

  -- the stack that ends with a node has that of the node below it under it
  pub ends_with : (known : List (List T)) (nodes : List (Node T)) (at : ℕ) (d : Node T) → at < length nodes → (get_or nodes at d).below ≤ length known + at → get_or (stacks_behind known nodes) (length known + at) [] ≡ stack_at (stacks_behind known nodes) (get_or nodes at d).below ++ (get_or nodes at d).item ∷ []
  unfolding stack_at stacks_behind
  ends_with known [] at d within low = absurd (omega (arith, within))
  ends_with known (node ∷ nodes) zero d within low =
      let longer = known ++ stack_to known node ∷ [] in
      let one = length-append known (stack_to known node ∷ []) in
      let below : node.below ≤ length known = omega (arith, low) in
      let here : get_or (stacks_behind longer nodes) (length known + 0) [] ≡ get_or longer (length known + 0) [] = kept_behind longer nodes (length known + 0) (omega (arith, one)) in
      let same : stack_at (stacks_behind longer nodes) node.below ≡ stack_at longer node.below = kept_at longer nodes node.below (omega (arith, one, below)) in
      let under : stack_at longer node.below ≡ stack_at known node.below = under_push known (stack_to known node) node.below below in
      here ∙ get_or_push known (stack_to known node) [] (length known + 0) (omega arith) ∙ sym (ap (λ stack. stack ++ node.item ∷ []) (same ∙ under))
  ends_with known (node ∷ nodes) (suc at) d within low =
      let longer = known ++ stack_to known node ∷ [] in
      let one = length-append known (stack_to known node ∷ []) in
      let deep : length longer + at ≡ length known + suc at = omega (arith, one) in
      subst (λ n. get_or (stacks_behind longer nodes) n [] ≡ stack_at (stacks_behind longer nodes) (get_or nodes at d).below ++ (get_or nodes at d).item ∷ []) deep
      (ends_with longer nodes at d (omega (arith, within)) (omega (arith, deep, low)))

  -- a node behind all has a stack of its own
  pub longer_behind : (known : List (List T)) (nodes : List (Node T)) (node : Node T) → stacks_behind known (nodes ++ node ∷ []) ≡ stacks_behind known nodes ++ stack_to (stacks_behind known nodes) node ∷ []
  unfolding stack_at stacks_behind
  longer_behind known [] node = refl
  longer_behind known (first ∷ nodes) node = longer_behind (known ++ stack_to known first ∷ []) nodes node

  map_same : (f g : ℕ → List T) (tops : List ℕ) → ((at : ℕ) (d : ℕ) → at < length tops → f (get_or tops at d) ≡ g (get_or tops at d)) → map f tops ≡ map g tops
  map_same f g [] same = refl
  map_same f g (top ∷ tops) same = ap (λ one. one ∷ map f tops) (same 0 0 (omega arith)) ∙ ap (λ others. g top ∷ others) (map_same f g tops (λ at d within. same (suc at) d (omega (arith, within))))

  module _ (tops : List ℕ) (nodes : List (Node T)) (within : All (λ top. top ≤ length nodes) tops) where
    stack_of : (number : ℕ) → get_or (stacks_of tops nodes) number [] ≡ stack_at (stacks_to nodes) (get_or tops number 0)
    unfolding stack_at stacks_behind
    stack_of number = get_or-map (stack_at (stacks_to nodes)) tops number 0

    -- a stack with another item
    pub pushed : (number d : ℕ) (item : T) (node : Node T) → number < length tops → node.item ≡ item → node.below ≡ get_or tops number d → stacks_of (set tops number (length nodes + 1)) (nodes ++ node ∷ []) ≡ set (stacks_of tops nodes) number (get_or (stacks_of tops nodes) number [] ++ item ∷ [])
    unfolding stack_at stacks_behind
    pushed number d item node inside item_is below_is =
        let all = stacks_to nodes in
        let long = stacks_to (nodes ++ node ∷ []) in
        let is_long : long ≡ all ++ stack_to all node ∷ [] = longer_behind [] nodes node in
        let count : length all ≡ length nodes = let n = length_behind [] nodes in omega (arith, n) in
        let same : map (stack_at long) tops ≡ map (stack_at all) tops = map_same (stack_at long) (stack_at all) tops (λ at e there. ap (λ known. stack_at known (get_or tops at e)) is_long ∙ under_push all (stack_to all node) (get_or tops at e) (subst (λ n. get_or tops at e ≤ n) (sym count) (within at e there))) in
        let next : length nodes + 1 ≡ suc (length nodes) = omega arith in
        let top : stack_at long (length nodes + 1) ≡ stack_to all node = ap (λ known. stack_at known (length nodes + 1)) is_long ∙ ap (stack_at (all ++ stack_to all node ∷ [])) next ∙ get_or_push all (stack_to all node) [] (length nodes) count in
        let below : stack_at all node.below ≡ get_or (stacks_of tops nodes) number [] = ap (stack_at all) (below_is ∙ get_or_default tops number d 0 inside) ∙ sym (stack_of number) in
        let item_there : stack_to all node ≡ get_or (stacks_of tops nodes) number [] ++ item ∷ [] = ap (λ stack. stack ++ node.item ∷ []) below ∙ ap (λ one. get_or (stacks_of tops nodes) number [] ++ one ∷ []) item_is in
        map-set (stack_at long) tops number (length nodes + 1) ∙ ap (λ all. set all number (stack_at long (length nodes + 1))) same ∙ ap (λ stack. set (stacks_of tops nodes) number stack) (top ∙ item_there)

    pub pushed_within : (number : ℕ) (node : Node T) → All (λ top. top ≤ length (nodes ++ node ∷ [])) (set tops number (length nodes + 1))
    pushed_within number node =
        let count = length-append nodes (node ∷ []) in
        All-set (λ top. top ≤ length (nodes ++ node ∷ [])) tops number (length nodes + 1) (omega (arith, count)) (λ at d there. let low = within at d there in omega (arith, count, low))

    pub pushed_behind : (number d : ℕ) (node : Node T) → number < length tops → node.below ≡ get_or tops number d → StandBehind nodes → StandBehind (nodes ++ node ∷ [])
    pushed_behind number d node inside below_is behind at e there = elim (cases_lt at (length nodes)) [
      | inl before ↦ subst (λ one. one.below ≤ at) (sym (get_or_append_left nodes (node ∷ []) e at before)) (behind at e before)
      | inr after ↦
          let count = length-append nodes (node ∷ []) in
          let last : length nodes ≡ at = omega (arith, count, there, after) in
          let low = within number d inside in
          subst (λ one. one.below ≤ at) (sym (get_or_push nodes node e at last)) (omega (arith, low, below_is, last))
    ]

    module _ (behind : StandBehind nodes) (number top : ℕ) (inside : number < length tops) (top_is : top ≡ get_or tops number 0) where
      pub empty : top ≡ 0 → get_or (stacks_of tops nodes) number [] ≡ []
      unfolding stack_at stacks_behind
      empty none = stack_of number ∙ ap (stack_at (stacks_to nodes)) (sym top_is ∙ none)

      -- a stack without its topmost item
      module _ (at : ℕ) (d : Node T) (some : top ≡ at + 1) where
        pub there : at < length nodes
        there = let low = within number 0 inside in omega (arith, some, top_is, low)

        pub popped : get_or (stacks_of tops nodes) number [] ≡ stack_at (stacks_to nodes) (get_or nodes at d).below ++ (get_or nodes at d).item ∷ []
        unfolding stack_at stacks_behind
        popped =
            let low = behind at d there in
            let next : top ≡ suc at = omega (arith, some) in
            stack_of number ∙ ap (stack_at (stacks_to nodes)) (sym top_is ∙ next) ∙ subst (λ n. get_or (stacks_to nodes) n [] ≡ stack_at (stacks_to nodes) (get_or nodes at d).below ++ (get_or nodes at d).item ∷ []) (omega arith) (ends_with [] nodes at d there (omega (arith, low)))

        pub left : stacks_of (set tops number (get_or nodes at d).below) nodes ≡ set (stacks_of tops nodes) number (stack_at (stacks_to nodes) (get_or nodes at d).below)
        unfolding stack_at stacks_behind
        left = map-set (stack_at (stacks_to nodes)) tops number (get_or nodes at d).below

        pub left_within : All (λ top. top ≤ length nodes) (set tops number (get_or nodes at d).below)
        left_within = let low = behind at d there in let inside = there in All-set (λ top. top ≤ length nodes) tops number (get_or nodes at d).below (omega (arith, low, inside)) within

  -- stacks that are empty stand behind the others
  pub reached : (tops more : List ℕ) (nodes : List (Node T)) (one : ℕ) → get_or more one 0 ≡ get_or tops one 0 → get_or (stacks_of more nodes) one [] ≡ get_or (stacks_of tops nodes) one []
  unfolding stack_at stacks_behind
  reached tops more nodes one same = get_or-map (stack_at (stacks_to nodes)) more one 0 ∙ ap (stack_at (stacks_to nodes)) same ∙ sym (get_or-map (stack_at (stacks_to nodes)) tops one 0)

-- zeros that stand behind numbers read as what stands behind them
zeros : (count at : ℕ) → get_or (replicate {A = ℕ} count 0) at 0 ≡ 0
zeros count at = elim (cases_lt at count) [
  | inl within ↦ get_or-replicate count at 0 0 within
  | inr beyond ↦ get_or-eq_default (replicate count 0) 0 (let long = length-replicate {A = ℕ} count 0 in omega (arith, beyond, long))
]

pub zeros_behind : (tops : List ℕ) (count more one : ℕ) → length tops ≤ count → get_or (take count tops ++ replicate {A = ℕ} more 0) one 0 ≡ get_or tops one 0
zeros_behind tops count more one low =
    ap (λ all. get_or (all ++ replicate more 0) one 0) (take_all count tops low) ∙ elim (cases_lt one (length tops)) [
      | inl within ↦ get_or_append_left tops (replicate more 0) 0 one within
      | inr beyond ↦ get_or-append_right tops (replicate more 0) one 0 (omega (arith, beyond)) ∙ zeros more (one - length tops) ∙ sym (get_or-eq_default tops 0 (omega (arith, beyond)))
    ]

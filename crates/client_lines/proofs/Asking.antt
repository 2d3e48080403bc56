-- Lines that ask for a path spell what is requested.
use Rattle.std.proofs.Common.{◌≡◌, ◌∙◌, ap, sym, refl, subst, ℕ, List, Option, Some, None}
use Rattle.rail_types.specs.declared.trains.Request.{Request}
use Rattle.client_lines.specs.declared.asks.Ask.{Ask}
use Rattle.client_lines.specs.declared.asks.Ask.TheVariants as asks
use Rattle.client_lines.specs.declared.asks.Line.{Line}
use Rattle.client_lines.specs.declared.asks.Word.{Word}
use Rattle.client_lines.specs.declared.asks.Word.TheVariants as word
use Rattle.client_lines.specs.Forms.{Spells}
use Rattle.client_lines.specs.Lines.{a_free, a_hold, a_holds, a_line, a_pin, a_request, a_show, an_ask, behind, behind_first}
use Rattle.client_lines.specs.Names.{Names}

module _ (known : Names) (number : ℕ) (request : Request) where
  -- some fields spell the request
  abbrev Requests : Type 0
  Requests = (part : List (List ℕ)) × Spells (a_request known) part request

  abbrev AsksFor : Ask → Type 0
  AsksFor ask = ask ≡ asks.Path number request

  hold_other : (fields : List (List ℕ)) (ask : Ask) → Spells (a_hold known) fields ask → AsksFor ask → Requests
  unfolding a_hold
  hold_other fields ask s is = let other = sym s.5.5.1 ∙ is in absurd cc

  holds_other : (fields : List (List ℕ)) (ask : Ask) → Spells (a_holds known) fields ask → AsksFor ask → Requests
  unfolding a_holds
  holds_other fields ask s is = let other = sym s.5.5.5.5.1 ∙ is in absurd cc

  pin_other : (fields : List (List ℕ)) (ask : Ask) → Spells (a_pin known) fields ask → AsksFor ask → Requests
  unfolding a_pin
  pin_other fields ask s is = let other = sym s.5.5.5.5.1 ∙ is in absurd cc

  free_other : (fields : List (List ℕ)) (ask : Ask) → Spells a_free fields ask → AsksFor ask → Requests
  unfolding a_free
  free_other fields ask s is = let other = sym s.5.5.1 ∙ is in absurd cc

  show_other : (fields : List (List ℕ)) (ask : Ask) → Spells a_show fields ask → AsksFor ask → Requests
  unfolding a_show
  show_other fields ask s is = let other = sym s.5.1 ∙ is in absurd cc

  asked : (fields : List (List ℕ)) (ask : Ask) → Spells (an_ask known) fields ask → AsksFor ask → Requests
  unfolding an_ask
  asked fields ask s is =
      let both : asks.Path s.0 s.5.0 ≡ asks.Path number request = sym s.5.5.1 ∙ is in
      let same : s.5.0 ≡ request = cc in
      (s.5.1, subst (λ (one : Request). Spells (a_request known) s.5.1 one) same s.5.4)

  behind_asked : (what : Word) (fields : List (List ℕ)) (ask : Ask) → Spells (behind known what) fields ask → AsksFor ask → Requests
  unfolding behind
  behind_asked word.Hold fields ask s is = hold_other fields ask s is
  behind_asked word.Holds fields ask s is = holds_other fields ask s is
  behind_asked word.Pin fields ask s is = pin_other fields ask s is
  behind_asked word.Ask fields ask s is = asked fields ask s is
  behind_asked word.Free fields ask s is = free_other fields ask s is
  behind_asked word.Show fields ask s is = show_other fields ask s is
  behind_asked word.Front fields ask s is = let other = sym s.1 ∙ is in absurd cc

  first_asked : (first : Option Word) (fields : List (List ℕ)) (line : Line) → Spells (behind_first known first) fields line → AsksFor line.ask → Requests
  unfolding behind_first
  first_asked (Some what) fields line s is = behind_asked what s.1 s.0 s.4 (sym (ap (λ (l : Line). l.ask) s.5.1) ∙ is)
  first_asked None fields line s is =
      let t = s.5.5 in
      behind_asked s.5.0 t.1 t.0 t.4 (sym (ap (λ (l : Line). l.ask) t.5.1) ∙ is)

  pub line_asked : (fields : List (List ℕ)) (line : Line) → Spells (a_line known) fields line → AsksFor line.ask → Requests
  unfolding a_line
  line_asked fields line s is = first_asked s.0 s.2 line s.5 is

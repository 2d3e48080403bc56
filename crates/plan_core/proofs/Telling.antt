-- The first entries that clients' notes name tell whose an entry is.
use Rattle.std.proofs.Common.{◌≡◌, ◌≢◌, ◌↔◌, ℕ, zero, suc, ◌<◌, List, [], ◌∷◌, length, get_or, slice_get, Option, Some, None, Contains, inl, inr, refl, ap, sym, subst, ◌∙◌, arith}
use Rattle.std.proofs.lemmas.Bool.{cases_eq}
use Rattle.std.proofs.lemmas.Option.{same_Some}
use Rattle.rail_types.specs.declared.entries.Entry.{Entry}
use Rattle.grant_log.proofs.Slices.{is_contained}
use Rattle.plan_core.specs.Inside.{Agrees, IsOwner}
use Rattle.plan_core.specs.Parties.{Party, positions}
use Rattle.plan_core.specs.Worlds.{IsOf, Names, Plan}
use Rattle.plan_core.proofs.Owned.{AreOwned, is_client, named_entry}

-- a list with an element has a first
has_first : (all : List ℕ) (at : ℕ) → Contains all at → (first : ℕ) × (slice_get all 0 ≡ Some first)
has_first [] at (k, within, here) = absurd (omega (arith, within))
has_first (first ∷ others) at inside = (first, refl)

one_entry : (entries : List Entry) (at : ℕ) (one other : Entry) → slice_get entries at ≡ Some one → slice_get entries at ≡ Some other → one ≡ other
one_entry entries at one other here there = same_Some one other (sym here ∙ there)

module _ (world : Plan) (known : AreOwned world) (client : ℕ) (owner : List ℕ) (entry : Entry) (mine : entry.owner ≡ owner) where
  -- where all agree, the entry is the client's
  pub all_agree : ((another : ℕ) → another < length world.clients → Agrees world client owner another) → IsOf world client entry
  all_agree agree = record {
    own = λ at other named here.
        let first = has_first (positions named.0.log) at named.2 in
        let first_named : Names world client first.0 = (named.0, named.1, is_contained (positions named.0.log) 0 first.0 first.1) in
        let one = named_entry world known client first.0 first_named in
        let bears = (agree client (is_client world client at named) named.0 first.0 named.1 first.1).1 refl in
        let same : one.0 ≡ bears.0 = one_entry world.entries first.0 one.0 bears.0 one.1 bears.1 in
        one.2.own at other named here ∙ (ap (λ (it : Entry). it.owner) same ∙ (bears.2 ∙ sym mine));
    others = λ another at other differ named here same.
        let first = has_first (positions named.0.log) at named.2 in
        let first_named : Names world another first.0 = (named.0, named.1, is_contained (positions named.0.log) 0 first.0 first.1) in
        let one = named_entry world known another first.0 first_named in
        let bears : IsOwner world.entries first.0 owner = (one.0, one.1, sym (one.2.own at other named here) ∙ (same ∙ mine)) in
        differ ((agree another (is_client world another at named) named.0 first.0 named.1 first.1).0 bears);
  }

  -- where the entry is the client's, each agrees
  pub each_agrees : IsOf world client entry → (another : ℕ) → Agrees world client owner another
  each_agrees is another party at here first =
      let named : Names world another at = (party, here, is_contained (positions party.log) 0 at first) in
      let one = named_entry world known another at named in (
        (λ bears. elim (cases_eq another client) [
          | inl same ↦ same
          | inr differ ↦
              let equal : one.0 ≡ bears.0 = one_entry world.entries at one.0 bears.0 one.1 bears.1 in
              absurd (is.others another at one.0 differ named one.1 (ap (λ (it : Entry). it.owner) equal ∙ (bears.2 ∙ sym mine)))
        ]),
        (λ same. (one.0, one.1, is.own at one.0 (subst (λ k. Names world k at) same named) one.1 ∙ mine)),
      )

-- what a client whose notes these are tells
module _ (world : Plan) (client another : ℕ) (owner : List ℕ) (party : Party) (here : slice_get world.clients another ≡ Some party) where
  pub agrees_none : slice_get (positions party.log) 0 ≡ None → Agrees world client owner another
  agrees_none none other at there first =
      let same = same_Some party other (sym here ∙ there) in
      let wrong : ◌≡◌ {A = Option ℕ} None (Some at) = sym none ∙ (ap (λ (it : Party). slice_get (positions it.log) 0) same ∙ first) in
      cc

  pub agrees_some : (at : ℕ) → slice_get (positions party.log) 0 ≡ Some at → (IsOwner world.entries at owner ↔ (another ≡ client)) → Agrees world client owner another
  agrees_some at is told other place there first =
      let same = same_Some party other (sym here ∙ there) in
      let equal : at ≡ place = same_Some at place (sym is ∙ (ap (λ (it : Party). slice_get (positions it.log) 0) same ∙ first)) in
      subst (λ n. IsOwner world.entries n owner ↔ (another ≡ client)) equal told

  pub some_agrees : (at : ℕ) → slice_get (positions party.log) 0 ≡ Some at → Agrees world client owner another → IsOwner world.entries at owner ↔ (another ≡ client)
  some_agrees at is agrees = agrees party at here is

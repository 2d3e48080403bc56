-- Whose the entries are, before and after.
use Rattle.std.proofs.Common.{◌≡◌, ◌≢◌, ◌↔◌, ◌⊎◌, ℕ, zero, ◌+◌, ◌<◌, List, [], ◌∷◌, ◌++◌, length, slice_get, Some, Contains, inl, inr, refl, ap, sym, subst, ◌∙◌, arith, length-append}
use Rattle.std.proofs.lemmas.Bool.{cases_eq}
use Rattle.std.proofs.lemmas.Option.{same_Some, slice_get_within}
use Rattle.rail_types.specs.declared.entries.Entry.{Entry}
use Rattle.grant_log.proofs.Slices.{slice_get_push, slice_get_kept, slice_get_last}
use Rattle.plan_core.specs.Sound.{IsEntryOf}
use Rattle.plan_core.specs.Worlds.{IsOf, Names, Plan}

-- the notes of each client name its entries, and each entry is some client's
pub record AreOwned (world : Plan) : Type 0 where
  pub notes : (client at : ℕ) → client < length world.clients → Names world client at ↔ IsEntryOf world client at
  pub owned : (at : ℕ) → at < length world.entries → (client : ℕ) × Names world client at

pub is_client : (world : Plan) (client at : ℕ) → Names world client at → client < length world.clients
is_client world client at named = slice_get_within world.clients client named.0 named.1

-- an entry that a client's notes name is the client's
pub named_entry : (world : Plan) → AreOwned world → (client at : ℕ) → Names world client at → IsEntryOf world client at
named_entry world known client at named = (known.notes client at (is_client world client at named)).0 named

pub named_below : (world : Plan) → AreOwned world → (client at : ℕ) → Names world client at → at < length world.entries
named_below world known client at named = let one = named_entry world known client at named in slice_get_within world.entries at one.0 one.1

-- a world with the same entries and the same names
module _ (w v : Plan) (entries : v.entries ≡ w.entries) (count : length v.clients ≡ length w.clients) (to : (client at : ℕ) → Names w client at → Names v client at) (from : (client at : ℕ) → Names v client at → Names w client at) where
  there : (at : ℕ) (entry : Entry) → slice_get w.entries at ≡ Some entry → slice_get v.entries at ≡ Some entry
  there at entry here = subst (λ all. slice_get all at ≡ Some entry) (sym entries) here

  back : (at : ℕ) (entry : Entry) → slice_get v.entries at ≡ Some entry → slice_get w.entries at ≡ Some entry
  back at entry here = subst (λ all. slice_get all at ≡ Some entry) entries here

  of_to : (client : ℕ) (entry : Entry) → IsOf w client entry → IsOf v client entry
  of_to client entry is = record {
    own = λ at other named here. is.own at other (from client at named) (back at other here);
    others = λ another at other differ named here. is.others another at other differ (from another at named) (back at other here);
  }

  of_from : (client : ℕ) (entry : Entry) → IsOf v client entry → IsOf w client entry
  of_from client entry is = record {
    own = λ at other named here. is.own at other (to client at named) (there at other here);
    others = λ another at other differ named here. is.others another at other differ (to another at named) (there at other here);
  }

  pub owned_alike : AreOwned w → AreOwned v
  owned_alike known = record {
    notes = λ client at less. (
      (λ named. let one = named_entry w known client at (from client at named) in (one.0, there at one.0 one.1, of_to client one.0 one.2)),
      (λ one. to client at ((known.notes client at (omega (arith, less, count))).1 (one.0, back at one.0 one.1, of_from client one.0 one.2))),
    );
    owned = λ at less. let one = known.owned at (subst (λ all. at < length all) entries less) in (one.0, to one.0 at one.1);
  }

-- a world with one entry more, of this client
module _ (w v : Plan) (mine : ℕ) (entry : Entry) (is : IsOf w mine entry) (entries : v.entries ≡ w.entries ++ entry ∷ []) (count : length v.clients ≡ length w.clients) (known : AreOwned w) (to : (client at : ℕ) → Names w client at → Names v client at) (new : Names v mine (length w.entries)) (from : (client at : ℕ) → Names v client at → Names w client at ⊎ ((client ≡ mine) × (at ≡ length w.entries))) where
  kept : (at : ℕ) (other : Entry) → slice_get w.entries at ≡ Some other → slice_get v.entries at ≡ Some other
  kept at other here = subst (λ all. slice_get all at ≡ Some other) (sym entries) (slice_get_kept w.entries entry at other here)

  last : slice_get v.entries (length w.entries) ≡ Some entry
  last = subst (λ all. slice_get all (length w.entries) ≡ Some entry) (sym entries) (slice_get_last w.entries entry)

  which : (at : ℕ) (other : Entry) → slice_get v.entries at ≡ Some other → ((at < length w.entries) × (slice_get w.entries at ≡ Some other)) ⊎ ((at ≡ length w.entries) × (entry ≡ other))
  which at other here = slice_get_push w.entries entry at other (subst (λ all. slice_get all at ≡ Some other) entries here)

  old_entry : (client at : ℕ) (other : Entry) → Names w client at → slice_get v.entries at ≡ Some other → slice_get w.entries at ≡ Some other
  old_entry client at other named here = elim (which at other here) [
    | inl before ↦ before.1
    | inr behind ↦ absurd (omega (arith, named_below w known client at named, behind.0))
  ]

  new_entry : (at : ℕ) (other : Entry) → at ≡ length w.entries → slice_get v.entries at ≡ Some other → entry ≡ other
  new_entry at other same here = elim (which at other here) [
    | inl before ↦ absurd (omega (arith, before.0, same))
    | inr behind ↦ behind.1
  ]

  of_old : (client at : ℕ) (one : Entry) → Names w client at → slice_get w.entries at ≡ Some one → IsOf w client one → IsOf v client one
  of_old client at one named here known_one = record {
    own = λ place other noted there. elim (from client place noted) [
      | inl old ↦ known_one.own place other old (old_entry client place other old there)
      | inr late ↦
          let mine_at : Names w mine at = subst (λ k. Names w k at) late.0 named in
          ap (λ (it : Entry). it.owner) (sym (new_entry place other late.1 there)) ∙ sym (is.own at one mine_at here)
    ];
    others = λ another place other differ noted there same. elim (from another place noted) [
      | inl old ↦ known_one.others another place other differ old (old_entry another place other old there) same
      | inr late ↦
          let apart : client ≢ mine = λ equal. differ (late.0 ∙ sym equal) in
          is.others client at one apart named here (sym (ap (λ (it : Entry). it.owner) (new_entry place other late.1 there) ∙ same))
    ];
  }

  of_new : IsOf v mine entry
  of_new = record {
    own = λ place other noted there. elim (from mine place noted) [
      | inl old ↦ is.own place other old (old_entry mine place other old there)
      | inr late ↦ ap (λ (it : Entry). it.owner) (sym (new_entry place other late.1 there))
    ];
    others = λ another place other differ noted there. elim (from another place noted) [
      | inl old ↦ is.others another place other differ old (old_entry another place other old there)
      | inr late ↦ absurd (differ late.0)
    ];
  }

  of_back : (client : ℕ) (one : Entry) → IsOf v client one → IsOf w client one
  of_back client one known_one = record {
    own = λ place other named here. known_one.own place other (to client place named) (kept place other here);
    others = λ another place other differ named here. known_one.others another place other differ (to another place named) (kept place other here);
  }

  new_is_mine : (client : ℕ) → IsOf v client entry → client ≡ mine
  new_is_mine client known_one = elim (cases_eq client mine) [
    | inl same ↦ same
    | inr differ ↦ absurd (known_one.others mine (length w.entries) entry (λ same. differ (sym same)) new last refl)
  ]

  pub owned_more : AreOwned v
  owned_more = record {
    notes = λ client at less. (
      (λ named. elim (from client at named) [
        | inl old ↦ let one = named_entry w known client at old in (one.0, kept at one.0 one.1, of_old client at one.0 old one.1 one.2)
        | inr late ↦ (entry, subst (λ k. slice_get v.entries k ≡ Some entry) (sym late.1) last, subst (λ k. IsOf v k entry) (sym late.0) of_new)
      ]),
      (λ one. elim (which at one.0 one.1) [
        | inl before ↦ to client at ((known.notes client at (omega (arith, less, count))).1 (one.0, before.1, of_back client one.0 one.2))
        | inr behind ↦
            let same = new_is_mine client (subst (IsOf v client) (sym behind.1) one.2) in
            subst (λ k. Names v k at) (sym same) (subst (λ k. Names v mine k) (sym behind.0) new)
      ]),
    );
    owned = λ at less. elim (cases_eq at (length w.entries)) [
      | inl same ↦ (mine, subst (λ k. Names v mine k) (sym same) new)
      | inr other ↦
          let long : length v.entries ≡ length w.entries + 1 = ap length entries ∙ length-append w.entries (entry ∷ []) in
          let one = known.owned at (omega (arith, less, other, long)) in
          (one.0, to one.0 at one.1)
    ];
  }

-- a world without the last entry
module _ (w v : Plan) (entry : Entry) (entries : w.entries ≡ v.entries ++ entry ∷ []) (count : length v.clients ≡ length w.clients) (known : AreOwned w) (to : (client at : ℕ) → Names w client at → at ≢ length v.entries → Names v client at) (from : (client at : ℕ) → Names v client at → Names w client at × (at ≢ length v.entries)) where
  before : (at : ℕ) (other : Entry) → slice_get v.entries at ≡ Some other → slice_get w.entries at ≡ Some other
  before at other here = subst (λ all. slice_get all at ≡ Some other) (sym entries) (slice_get_kept v.entries entry at other here)

  after_cut : (at : ℕ) (other : Entry) → at ≢ length v.entries → slice_get w.entries at ≡ Some other → slice_get v.entries at ≡ Some other
  after_cut at other differ here = elim (slice_get_push v.entries entry at other (subst (λ all. slice_get all at ≡ Some other) entries here)) [
    | inl old ↦ old.1
    | inr late ↦ absurd (differ late.0)
  ]

  of_less : (client : ℕ) (one : Entry) → IsOf w client one → IsOf v client one
  of_less client one is = record {
    own = λ place other named here. is.own place other (from client place named).0 (before place other here);
    others = λ another place other differ named here. is.others another place other differ (from another place named).0 (before place other here);
  }

  owned_before : (at : ℕ) → at < length v.entries → (client : ℕ) × Names v client at
  owned_before at less =
      let long : length w.entries ≡ length v.entries + 1 = ap length entries ∙ length-append v.entries (entry ∷ []) in
      let one = known.owned at (omega (arith, less, long)) in
      (one.0, to one.0 at one.1 (λ same. omega (arith, same, less)))

  pub owned_less : AreOwned v
  owned_less = record {
    notes = λ client at less. (
      (λ named.
          let was = from client at named in
          let one = named_entry w known client at was.0 in
          (one.0, after_cut at one.0 was.1 one.1, of_less client one.0 one.2)),
      (λ one.
          let holder = owned_before at (slice_get_within v.entries at one.0 one.1) in
          elim (cases_eq holder.0 client) [
            | inl same ↦ subst (λ k. Names v k at) same holder.1
            | inr differ ↦ absurd (one.2.others holder.0 at one.0 differ holder.1 one.1 refl)
          ]),
    );
    owned = owned_before;
  }

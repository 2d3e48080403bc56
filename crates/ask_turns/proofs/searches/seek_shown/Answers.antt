use Rattle.std.proofs.Common.{◌++◌, ℕ, List, ap, sym, ◌∙◌, subst}
use Rattle.ask_turns.specs.Certified.{IsCertified}
use Rattle.rail_types.specs.declared.named_network.Named.{Named}
use Rattle.path_commit.specs.claims.Zones.{Zone}
use Rattle.path_labels.specs.Answers.{claims_held}
use Rattle.path_labels.specs.Guides.{IsGuide}
use Rattle.proof_texts.specs.declared.refusals.Proof.{Proof}
use Rattle.proof_texts.specs.Texts.{proof_text}
use Rattle.ask_turns.specs.Shown.{IsShown}
use Rattle.ask_turns.proofs.Showing.{is_shown}
use Rattle.ask_turns.proofs.searches.seek_shown.Goals as goal

pub seek_certified-requires-clause-guide : goal.seek_certified-requires-clause-guide
seek_certified-requires-clause-guide c =
    subst (λ (railway : Named). IsGuide railway.network c.args.settings.now c.args.ask.now.request c.args.ask.now.guide)
    (sym c.railway-railway.ensures) c.requires.may.guide

pub returns-clause-shown : goal.returns-clause-shown
returns-clause-shown c =
    let known = c.args.known.now in let settings = c.args.settings.now in let ask = c.args.ask.now in
    let copy : List Zone = c.args.client.now.copy in let found = c.in_ok-found.found in
    let front : ℕ = c.front-at.result in let text : List ℕ = c.append_proof.new.proof.held in
    let written : Proof = record { at = front; number = ask.number; request = found.excluded; closed = found.closed } in
    let certified = subst (λ (railway : Named). IsCertified railway.network settings (claims_held copy) ask.request found)
    c.railway-railway.ensures
    (subst (λ (book : List Zone). IsCertified c.railway-railway.result.now.network settings (claims_held book) ask.request found)
    c.copy.ensures c.in_ok-found.ensures) in
    subst (λ n. IsShown known known.railway.network settings (claims_held copy) n ask found.path text) c.front-at.ensures
    (is_shown c.certificates_can_be_told.ensures known settings (claims_held copy) ask c.requires.may found certified front
    c.in_ok-append_proof.ensures.early c.in_ok-append_proof.ensures.few text
    (c.in_ok-append_proof.ensures.text ∙ ap (λ (held : List ℕ). held ++ proof_text c.railway-railway.result.now.stops written) c.requires.empty
    ∙ ap (λ (railway : Named). proof_text railway.stops written) c.railway-railway.ensures))

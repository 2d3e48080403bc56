-- The text of what shows an answer.
use Rattle.std.proofs.Common.{◌≡◌, ℕ, ◌≤◌, List, Option, None, Some, length, sym, ◌∙◌, subst, refl}
use Rattle.ask_turns.specs.declared.certificates.searches.Certified.{Certified}
use Rattle.ask_turns.specs.Certified.{IsCertified, Passes, excluded}
use Rattle.ask_turns.specs.CertificateLaws.{CertificatesCanBeTold}
use Rattle.client_lines.specs.Names.{Names}
use Rattle.path_commit.specs.history.Live.{live_claims}
use Rattle.path_commit.specs.claims.Held.{held}
use Rattle.path_labels.specs.Answers.{claims_held}
use Rattle.proof_texts.specs.declared.refusals.Proof.{Proof}
use Rattle.proof_texts.specs.Texts.{proof_text}
use Rattle.proof_texts.specs.Told.{IsProofOf, IsRequestOf}
use Rattle.rail_types.specs.declared.entries.Entry.{Entry}
use Rattle.rail_types.specs.declared.entries.Settings.{Settings}
use Rattle.rail_types.specs.declared.limits.TheConstants.{MAX_NUMBER}
use Rattle.rail_types.specs.declared.paths.Claim.{Claim}
use Rattle.rail_types.specs.declared.paths.Path.{Path}
use Rattle.rail_types.specs.declared.trains.Request.{Request}
use Rattle.rail_types.specs.Limits.{IsRequestWithinLimits}
use Rattle.rail_types.specs.Timetables.{Timetable}
use Rattle.ask_turns.specs.declared.client_turns.clients.Client.{Client}
use Rattle.ask_turns.specs.Clients.{IsCopyOf}
use Rattle.ask_turns.specs.declared.asks.Ask.{Ask}
use Rattle.ask_turns.specs.declared.asks.Found.{Found}
use Rattle.ask_turns.specs.Finds.{MayBeSearched}
use Rattle.ask_turns.specs.Shown.{IsShown, IsShownAt, ShowsBeside}
use Rattle.ask_turns.proofs.Alike.{passes_alike}
use Rattle.ask_turns.proofs.Searching.{moved}

-- ---- what is excluded beside an answer

of_excluded : (known : Names) (request : Request) (path : Option Path) → IsRequestOf known request
    → IsRequestWithinLimits (excluded request path) → IsRequestOf known (excluded request path)
of_excluded known request None of within = of
of_excluded known request (Some path) of within = record {
  train = of.train;
  origin = of.origin;
  destination = of.destination;
  depart = of.depart;
  arrive = within.arrive;
  count = of.count;
  stops = of.stops;
}

-- ---- the proof that is written

module _ (law : CertificatesCanBeTold) (known : Names) (settings : Settings) (live : List Claim) (ask : Ask)
    (may : MayBeSearched known.railway.network settings ask) (found : Certified)
    (is : IsCertified known.railway.network settings live ask.request found) (front : ℕ)
    (early : front ≤ MAX_NUMBER) (few : length found.closed.members ≤ MAX_NUMBER) where
  abbrev pub its_proof : Proof
  its_proof = record { at = front; number = ask.number; request = found.excluded; closed = found.closed }

  told : IsRequestOf known ask.request
      → IsProofOf known (record { at = front; number = ask.number; request = found.excluded; closed = found.closed })
  told of =
      let within : IsRequestWithinLimits (excluded ask.request found.path) = subst IsRequestWithinLimits is.excludes is.passes.within in
      law known settings live its_proof may.sound may.timetable is.passes.within
      (subst (IsRequestOf known) (sym is.excludes) (of_excluded known ask.request found.path of within))
      is.certificate early may.number few

  pub is_shown : (text : List ℕ)
      → text ≡ proof_text known.railway.stops (record { at = front; number = ask.number; request = found.excluded; closed = found.closed })
      → IsShown known known.railway.network settings live front ask found.path text
  is_shown text text_is = record {
    proof = its_proof;
    at = refl;
    number = refl;
    request = is.excludes;
    places = is.places;
    passes = is.passes;
    text_is = text_is;
    told = told;
  }

-- ---- beside a client's copy

pub shown_none : (known : Names) (settings : Settings) (client : Client) (ask : Ask) (text : List ℕ)
    (told : Option Found) → ((found : Found) → told ≡ Some found → ⊥)
    → ShowsBeside known settings client ask text told → ShowsBeside known settings client ask text None
shown_none known settings client ask text None absent told = told
shown_none known settings client ask text (Some found) absent told = absurd (absent found refl)

pub shown_at : (known : Names) (timetable : Timetable) (settings : Settings)
    → known.railway.network ≡ timetable.net → settings ≡ timetable.settings → (client : Client)
    (entries : List Entry) → IsCopyOf timetable client entries → (ask : Ask) (path : Option Path)
    (text : List ℕ)
    → IsShown known known.railway.network settings (claims_held client.copy) client.front ask path text
    → IsShownAt known timetable ask path text entries
shown_at known timetable settings net_is settings_is client entries copy ask path text is = record {
  proof = is.proof;
  at = is.at ∙ copy.front;
  number = is.number;
  request = is.request;
  places = is.places;
  passes = passes_alike timetable.net timetable.settings is.proof.request (held client.copy)
      (live_claims timetable entries) copy.live is.places is.proof.closed
      (moved timetable known.railway.network settings net_is settings_is
      (λ n s. Passes n s (claims_held client.copy) is.proof.request is.places is.proof.closed) is.passes);
  text_is = is.text_is;
  told = is.told;
}

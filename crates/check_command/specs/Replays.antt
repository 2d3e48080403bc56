-- Inside: a history that is gone through, with the claims that are live in it.
use Rattle.std.specs.Prelude.{◌≡◌, List, ◌++◌, length, reverse}
use Rattle.path_recover.specs.history.Following.{AreLive}
use Rattle.path_recover.specs.history.Legal.{Register}
use Rattle.path_recover.specs.claims.Held.{held}
use Rattle.rail_types.specs.declared.entries.Entry.{Entry}
use Rattle.rail_types.specs.declared.entries.Settings.{Settings}
use Rattle.rail_types.specs.declared.paths.Claim.{Claim}
use Rattle.rail_types.specs.declared.tracks.Network.{Network}
use Rattle.rail_types.specs.declared.limits.TheConstants.{MAX_PLACES}
use Rattle.refusal_proof.specs.Proofs.{IsProof}
use Rattle.refusal_proof.specs.tails.Listed.{HasMoreThan}
use Rattle.proof_texts.specs.declared.refusals.Proof.{Proof}
use Rattle.check_command.specs.declared.judging.Judged.{Judged}
use Rattle.check_command.specs.declared.judging.Judged.TheVariants.{Good, Wide, Fails}
use Rattle.check_command.specs.declared.replays.Replay.{Replay}

-- the entries of a history, and behind them those that were taken out, the last first
abbrev pub all_of : Register → List Entry → List Entry
all_of history ahead = history.entries ++ reverse ahead

-- the entries of a replay, those that are taken out among them
abbrev pub entries_of : Replay → List Entry
entries_of replay = all_of replay.history replay.ahead.items

-- the book has the claims that are live where the replay stands
pub record IsUp (replay : Replay) : Type 0 where
  pub live : AreLive replay.history.timetable (held replay.book) replay.history.entries
  pub zones : length replay.book ≡ replay.history.timetable.net.zones

-- what a proof comes to, beside these claims
abbrev pub IsJudged : Network → Settings → List Claim → Proof → Judged → Type 0
IsJudged net settings live proof Good =
    (¬ HasMoreThan MAX_PLACES net proof.request)
    × IsProof net settings live proof.request proof.closed
IsJudged net settings live proof Wide = HasMoreThan MAX_PLACES net proof.request
IsJudged net settings live proof Fails =
    (¬ HasMoreThan MAX_PLACES net proof.request)
    × (¬ IsProof net settings live proof.request proof.closed)

use Rattle.std.proofs.Common.{ℕ, List, Option, subst}
use Rattle.path_labels.specs.Answers.{IsFinding, claims_held}
use Rattle.rail_types.specs.declared.paths.Path.{Path}
use Rattle.ask_turns.specs.Shown.{IsShown}
use Rattle.ask_turns.proofs.searches.find_entry.Goals as goal

pub taken-requires : goal.taken-requires
taken-requires c =
    let net = c.args.known.now.railway.network in let settings = c.args.settings.now in let ask = c.args.ask.now in
    let live = claims_held c.args.client.now.copy in
    let found = subst (IsFinding net settings live ask.request) c.in-Some.is c.in_ok-sought.ensures.found in record {
      prints = c.found_paths_are_short.ensures.prints net settings live ask c.in-Some.path c.requires.may found.granted;
    }

pub returns-clause-found : goal.returns-clause-found
returns-clause-found c =
    let net = c.args.known.now.railway.network in let settings = c.args.settings.now in let ask = c.args.ask.now in
    let live = claims_held c.args.client.now.copy in
    let found = subst (IsFinding net settings live ask.request) c.in-Some.is c.in_ok-sought.ensures.found in (
      c.in-Some.path,
      record { entry_is = c.in_ok-found.ensures.entry; runs_are = c.in_ok-found.ensures.runs; earliest = found },
    )

pub returns-clause-shown : goal.returns-clause-shown
returns-clause-shown c proved =
    let known = c.args.known.now in let net = known.railway.network in let settings = c.args.settings.now in
    let ask = c.args.ask.now in let live = claims_held c.args.client.now.copy in
    let front : ℕ = c.args.client.now.front in let text : List ℕ = c.seek_path.new.proof.held in
    let found = subst (IsFinding net settings live ask.request) c.in-Some.is c.in_ok-sought.ensures.found in (
      c.in-Some.path,
      record { entry_is = c.in_ok-found.ensures.entry; runs_are = c.in_ok-found.ensures.runs; earliest = found },
      subst (λ (path : Option Path). IsShown known net settings live front ask path text) c.in-Some.is
          (c.in_ok-sought.ensures.shown proved),
    )

pub returns-clause-bare : goal.returns-clause-bare
returns-clause-bare c = c.seek_path.ensures.bare

pub returns-clause-room : goal.returns-clause-room
returns-clause-room c = c.in_ok-found.ensures.room

pub returns-clause-held : goal.returns-clause-held
returns-clause-held c = c.taken.ensures.held

pub returns-clause-spare : goal.returns-clause-spare
returns-clause-spare c = c.taken.ensures.spare

pub returns-in_err-sought-clause-bare : goal.returns-in_err-sought-clause-bare
returns-in_err-sought-clause-bare c = c.seek_path.ensures.bare

pub returns-in_err-found-clause-bare : goal.returns-in_err-found-clause-bare
returns-in_err-found-clause-bare c = c.seek_path.ensures.bare

pub returns-in_err-found-clause-held : goal.returns-in_err-found-clause-held
returns-in_err-found-clause-held c = c.taken.ensures.held

pub returns-in_err-found-clause-spare : goal.returns-in_err-found-clause-spare
returns-in_err-found-clause-spare c = c.taken.ensures.spare

pub returns-in_default-clause-bare : goal.returns-in_default-clause-bare
returns-in_default-clause-bare c = c.seek_path.ensures.bare

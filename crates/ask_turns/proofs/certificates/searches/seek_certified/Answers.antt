use Rattle.std.proofs.Common.{subst, sym}
use Rattle.rail_types.specs.declared.trains.Request.{Request}
use Rattle.refusal_proof.specs.Proofs.{claims_held}
use Rattle.path_labels.specs.Answers.{IsAnswer, IsCertificate}
use Rattle.path_labels.specs.declared.answers.Sought.{Sought}
use Rattle.path_labels.specs.declared.answers.Sought.TheVariants.{Found, NoPath}
use Rattle.ask_turns.specs.Certified.{Passes}
use Rattle.ask_turns.proofs.Passing.{leaves_within}
use Rattle.ask_turns.proofs.certificates.searches.seek_certified.Goals as goal

pub earlier-requires-clause-late : goal.earlier-requires-clause-late
earlier-requires-clause-late c =
    let live = claims_held c.args.book.now in
    let found : IsAnswer c.args.net.now c.args.settings.now live c.args.request.now (Found c.in-Found.path c.in-Found.closed) =
    subst (λ (sought : Sought). IsAnswer c.args.net.now c.args.settings.now live c.args.request.now sought) c.in-Found.is c.in_ok-sought.ensures in
    (leaves_within c.a_path_is_a_list_of_moves.ensures c.args.net.now c.args.settings.now live c.args.request.now c.in-Found.path c.requires.request found.0.granted).0

pub returns-in_ok-excluded-in-Found : goal.returns-in_ok-excluded-in-Found
returns-in_ok-excluded-in-Found c =
    let net = c.args.net.now in
    let settings = c.args.settings.now in
    let live = claims_held c.args.book.now in
    let request = c.args.request.now in
    let closed = c.in-Found.closed in
    let listed = c.guides_have_the_places.ensures net settings request c.args.guide.now c.requires.request c.requires.guide in
    let places = listed.0 in let has = listed.1 in
    let cut = c.in_ok-excluded-in-Found.ensures in
    let found : IsAnswer net settings live request (Found c.in-Found.path closed) = subst (λ (sought : Sought). IsAnswer net settings live request sought) c.in-Found.is c.in_ok-sought.ensures in
    record {
      answer = found.0;
      excludes = cut;
      certificate = subst (λ (r : Request). IsCertificate net settings live r closed) (sym cut) found.1;
      places = places;
      passes = subst (λ (r : Request). Passes net settings live r places closed) (sym cut)
          (c.certificates_pass.ensures.earlier net settings live request places c.in-Found.path closed has.flawless has.timetable c.requires.request has.places has.moves has.few found);
    }

pub returns-in_ok-excluded-in-NoPath : goal.returns-in_ok-excluded-in-NoPath
returns-in_ok-excluded-in-NoPath c =
    let net = c.args.net.now in
    let settings = c.args.settings.now in
    let live = claims_held c.args.book.now in
    let request = c.args.request.now in
    let closed = c.in-NoPath.closed in
    let listed = c.guides_have_the_places.ensures net settings request c.args.guide.now c.requires.request c.requires.guide in
    let places = listed.0 in let has = listed.1 in
    let same = c.in_ok-excluded-in-NoPath.ensures in
    let none : IsAnswer net settings live request (NoPath closed) = subst (λ (sought : Sought). IsAnswer net settings live request sought) c.in-NoPath.is c.in_ok-sought.ensures in
    record {
      answer = none.0;
      excludes = same;
      certificate = subst (λ (r : Request). IsCertificate net settings live r closed) (sym same) none.1;
      places = places;
      passes = subst (λ (r : Request). Passes net settings live r places closed) (sym same)
          (c.certificates_pass.ensures.refused net settings live request places closed has.flawless has.timetable c.requires.request has.places has.moves has.few none);
    }

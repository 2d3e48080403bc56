use Rattle.std.proofs.Common.{[], replicate}
use Rattle.std.proofs.lemmas.List.{length-replicate}
use Rattle.occupation_book.specs.Zones.{Zone}
use Rattle.rail_types.specs.declared.tracks.Network.{Network}
use Rattle.rail_types.specs.declared.trains.Request.{Request}
use Rattle.rail_types.specs.declared.entries.Settings.{Settings}
use Rattle.tail_states.specs.Listed.{Listed}
use Rattle.label_search.specs.declared.plans.Plan.{Plan}
use Rattle.label_search.specs.Free.{Book}
use Rattle.label_search.specs.Plans.{IsPlan}
use Rattle.path_labels.specs.Searched.{IsPlannedWithinLimits, PlansMayBeSearched}
use Rattle.path_labels.proofs.plan_searches.planned.Goals as goal

-- a plan may be searched beside a book without claims
beside_no_claims : PlansMayBeSearched → (net : Network) (settings : Settings) (request : Request) (listed : Listed) (plan : Plan) → IsPlannedWithinLimits net settings request listed plan → (book : Book) × IsPlan plan book
beside_no_claims law net settings request listed plan all =
    let zone : Zone = record { claims = []; spare = 0 } in
    (replicate net.zones zone, law net settings request listed plan (replicate net.zones zone) all (length-replicate net.zones zone))

pub returns-clause-searched : goal.returns-clause-searched
returns-clause-searched c =
    beside_no_claims c.plans_may_be_searched.ensures c.args.net.now c.args.settings.now c.args.request.now c.args.places.now c.in_ok-plan.plan (record {
      flawless = c.requires.flawless;
      asked = c.requires.request;
      timetable = c.requires.settings;
      places = c.requires.places;
      moves = c.requires.moves;
      few = c.requires.few;
      planned = c.in_ok-plan.ensures;
    })

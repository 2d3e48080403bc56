use Rattle.std.proofs.Common.{subst, sym}
use Rattle.rail_types.specs.declared.named_network.Named.{Named}
use Rattle.path_labels.specs.Guides.{IsGuide}
use Rattle.ask_turns.proofs.searches.seek_path.Goals as goal

pub find_by-requires-clause-guide : goal.find_by-requires-clause-guide
find_by-requires-clause-guide c =
    subst (λ (railway : Named). IsGuide railway.network c.args.settings.now c.args.ask.now.request c.args.ask.now.guide)
    (sym c.railway.ensures) c.requires.may.guide

use Rattle.std.proofs.Common.{◌∙◌, ◌+◌, ◌*◌, sym, subst, length, List, ℕ, Option}
use Rattle.route_walk.specs.Sound.{AreSound}
use Rattle.route_walk.proofs.Wholes.{whole_sound, released_are}
use Rattle.route_walk.proofs.routes.walk_along.Goals as goal

pub returns-clause-sound : goal.returns-clause-sound
returns-clause-sound c = whole_sound c.args.graph.now.count _ (length c.args.infra.now.detectors) c.args.route.now c.args.places.now c.in_ok-legs.legs.passed.items c.in_ok-legs.ensures.passed _ c.from_vec.ensures
    (subst (λ (zs : List (Option ℕ)). AreSound c.args.graph.now.count (2 * (length c.args.infra.now.detectors + length c.args.infra.now.buffer_stops)) c.in_ok-legs.legs.passed.items zs) (sym c.from_vec-2.ensures) c.in_ok-legs.ensures.sound)
    (c.from_vec-3.ensures ∙ c.in_ok-stretches.ensures)
    (c.from_vec-4.ensures ∙ (c.in_ok-metres.ensures ∙ released_are _ _ _ _ _ _ c.len-detectors.ensures c.as_slice-releases.ensures c.as_slice.ensures.value))

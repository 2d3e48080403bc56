use Rattle.railjson_read.proofs.wholes.others_of.Goals as goal

pub returns-clause-sound : goal.returns-clause-sound
returns-clause-sound c = rw (c.alone-routes.ensures, c.alone-points.ensures, c.alone-speeds.ensures) (record {
  few_routes = c.in_ok-routes_of.ensures.few;
  few_points = c.in_ok-points_of.ensures.few;
  few_speeds = c.in_ok-speeds_of.ensures.few;
  routes = c.in_ok-routes_of.ensures.within;
  route_ids = c.in_ok-routes_of.ensures.named;
  points = c.in_ok-points_of.ensures.within;
  point_ids = c.in_ok-points_of.ensures.named;
  speeds = c.in_ok-speeds_of.ensures.within;
})

use Rattle.grant_log.proofs.OnNetwork.{joined_of, near_of, stairway_of, zones_of}
use Rattle.grant_log.proofs.laws.claims_are_on_the_network.Goals as goal

pub returns-clause-stairway : goal.returns-clause-stairway
returns-clause-stairway c timetable entry planned range none = stairway_of c.networks_without_flaws.ensures.limits c.the_first_broken_rule_is_told.ensures timetable entry.deed planned range.within.deed range.on_net none

pub returns-clause-zones : goal.returns-clause-zones
returns-clause-zones c timetable entry planned range = zones_of c.networks_without_flaws.ensures.blocks c.joined_claims_are_one.ensures timetable entry.deed planned range.on_net

pub returns-clause-joined : goal.returns-clause-joined
returns-clause-joined c timetable entry range = joined_of c.joined_claims_are_one.ensures timetable entry.deed range.within.deed

pub returns-clause-near : goal.returns-clause-near
returns-clause-near c timetable entry planned range none = near_of c.networks_without_flaws.ensures.limits c.the_first_broken_rule_is_told.ensures c.stairways_are_near.ensures timetable entry.deed planned range.within.deed range.on_net none

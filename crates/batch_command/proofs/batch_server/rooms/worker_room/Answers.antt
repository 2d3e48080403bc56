use Rattle.batch_command.proofs.batch_server.rooms.worker_room.Goals as goal

pub returns-clause-worked : goal.returns-clause-worked
returns-clause-worked g c = c.in_ok-worked.ensures.items

pub returns-clause-each : goal.returns-clause-each
returns-clause-each g c = c.in_ok-worked.ensures.capacity

pub returns-clause-parts : goal.returns-clause-parts
returns-clause-parts g c = c.in_ok-parts.ensures.items

pub returns-clause-space : goal.returns-clause-space
returns-clause-space g c = c.in_ok-parts.ensures.capacity

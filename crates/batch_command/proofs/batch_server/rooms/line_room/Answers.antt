use Rattle.batch_command.proofs.batch_server.rooms.line_room.Goals as goal

pub returns-clause-todo : goal.returns-clause-todo
returns-clause-todo c = c.in_ok-todo.ensures

pub returns-clause-kept : goal.returns-clause-kept
returns-clause-kept c = c.in_ok-kept.ensures.items

pub returns-clause-space : goal.returns-clause-space
returns-clause-space c = c.in_ok-kept.ensures.capacity

pub returns-clause-texts : goal.returns-clause-texts
returns-clause-texts c = c.in_ok-texts.ensures

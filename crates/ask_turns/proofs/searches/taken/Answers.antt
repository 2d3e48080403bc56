use Rattle.std.proofs.Common.{sym, subst, arith}
use Rattle.ask_turns.specs.Finds.{HasRoomOf}
use Rattle.ask_turns.proofs.searches.taken.Goals as goal

pub overflow_cast-len : goal.overflow_cast-len
overflow_cast-len c = let few = c.requires.prints.fit in let long = c.len.ensures in omega arith

pub returns-clause-entry : goal.returns-clause-entry
returns-clause-entry c = c.in_ok-entry.ensures

pub returns-clause-runs : goal.returns-clause-runs
returns-clause-runs c = c.in_ok-runs.ensures

pub returns-clause-room : goal.returns-clause-room
returns-clause-room c =
    subst (HasRoomOf c.reserve.new.self) (sym c.in_ok-runs.ensures) (record {
      spare = let room = c.in_ok-reserve.ensures.ok in let sized = c.reply_room.ensures in
          let long = c.len.ensures in omega arith;
      prints = c.requires.prints;
    })

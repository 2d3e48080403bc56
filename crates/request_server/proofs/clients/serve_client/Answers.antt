use Rattle.std.proofs.Common.{refl}
use Rattle.served_clients.proofs.Done.{seat_done, talk_at}
use Rattle.request_server.proofs.clients.serve_client.Goals as goal

pub returns-clause-session : goal.returns-clause-session
returns-clause-session g c =
    let ends = c.serve_lines.ensures.ended in record {
      talk = talk_at g.L.Rule c.args.shared.now c.args.seat.now ends.traffic;
      name = refl;
      rules = refl;
      proves = c.requires.proves;
      passes = ends.passes;
      done = seat_done g.L.Rule c.args.shared.now c.args.seat.now c.serve_lines.new.desk ends.traffic
          c.requires.taken c.serve_lines.ensures.sound ends.answered;
    }

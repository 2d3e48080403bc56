use Rattle.std.proofs.Common.{◌∙◌, sym, inl, rules}
use Rattle.command_reports.specs.Scenes.{scene}
use Rattle.carry_command.specs.Olds.{IsOldShut}
use Rattle.carry_command.specs.Works.{CarriesOver}
use Rattle.carry_command.proofs.Holding.{held_says}
use Rattle.carry_command.proofs.olds.carry_from.Goals as goal

pub returns : goal.returns
returns g c =
    let names = c.args.names.now in
    let network = c.args.network.now in
    record {
      works = held_says g.O.Dsk.Disk network c.args.before names.from (CarriesOver g.O.Snk.Sink g.O.Dsk.Disk names network c.args.base) (scene g.O.Outside c.args.outside.now) (scene g.O.Outside c.put_back_disk.new.self) c.carry_lent-done.result (record {
        before = c.in-Ok.disk;
        after = c.carry_lent-done.new.disk;
        out = scene g.O.Outside c.disk.new.self;
        done = scene g.O.Outside c.carry_lent-done.new.outside;
        lent = record {
          object = rw c.from.ensures at c.in-Ok.ensures.object;
          ready = rw c.from.ensures at c.in-Ok.ensures.ready;
          opened = rw c.from.ensures at c.in-Ok.ensures.opened;
          sources = c.in-Ok.ensures.sources;
          sinks = c.in-Ok.ensures.sinks;
          report = c.in-Ok.ensures.report;
          quiet = c.in-Ok.ensures.cause.quiet;
        };
        says = c.carry_lent-done.ensures.says;
        returned = record {
          object = rw c.from-2.ensures at c.put_back_disk.ensures.object;
          ready = rw c.from-2.ensures at c.put_back_disk.ensures.ready;
          opened = c.put_back_disk.ensures.opened;
          sources = c.put_back_disk.ensures.sources;
          sinks = c.put_back_disk.ensures.sinks;
          report = c.put_back_disk.ensures.report;
          quiet = c.put_back_disk.ensures.quiet;
        };
      });
    }

pub returns-in_default : goal.returns-in_default
returns-in_default g c =
    let shut : IsOldShut c.from.result.now (scene g.O.Outside c.args.outside.now) (scene g.O.Outside c.disk.new.self) c.not_opened.result = record {
      told = record {
        unready = search rules;
        same = search rules;
        rose = search rules;
        told = rw (c.from-in_default.ensures ∙ sym c.from.ensures) at c.not_opened.ensures;
      };
      only = record {
        standing = search rules;
        opened = search rules;
        others = search rules;
        sources = search rules;
        sinks = search rules;
        report = search rules;
      };
    } in
    record { works = inl (rw c.from.ensures at shut) }

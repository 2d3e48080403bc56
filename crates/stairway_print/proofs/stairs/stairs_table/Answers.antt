use Rattle.std.proofs.Common.{◌≡◌, ◌∙◌, ◌++◌, refl, rules}
use Rattle.blocking_time.specs.Stairway.{claims_of_path}
use Rattle.stairway_print.specs.Stairs.{counts_of, cut_lines, stairs_header}
use Rattle.stairway_print.proofs.Cuts.{cut_whole}
use Rattle.stairway_print.proofs.stairs.stairs_table.Goals as goal

pub returns : goal.returns
returns c =
    let header : c.push_line.new.to.items ≡ stairs_header = (search rules) in
    let lines : c.push_runs.new.to.items ≡ c.push_line.new.to.items ++ cut_lines 0 (counts_of c.args.net.now c.args.path.now) (claims_of_path c.args.net.now c.args.settings.now c.args.path.now) = (search rules) in
    lines ∙ (rw (header, cut_whole c.args.net.now c.args.settings.now c.args.path.now) refl)

use Rattle.std.proofs.Common.{◌≡◌, map, take}
use Rattle.command_line.specs.Spelling.{values_under}
use Rattle.command_line.proofs.values.values_of.Given as goal

abbrev pub invariant-loop-setting : goal.invariant-loop-setting
invariant-loop-setting l = map (λ value. value.now) l.values.items ≡ values_under l.option (take l.setting-index l.settings)

use Rattle.std.proofs.Common.{◌≡◌, fold, take}
use Rattle.clap.specs.Words.{app_of}
use Rattle.canonical_words.specs.Canonical.{bare_app, with_option}
use Rattle.canonical_words.proofs.parsing.command_with.Given as goal

abbrev pub invariant-loop-option : goal.invariant-loop-option
invariant-loop-option l = app_of l.command ≡ fold with_option (bare_app l.name) (take l.option-index l.options)

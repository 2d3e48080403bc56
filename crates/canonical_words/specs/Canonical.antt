-- *Inside*: the commands as `clap` is given them.
use Rattle.std.specs.Prelude.{◌≡◌, List, ◌∷◌, ℕ, fold, map, true, Some}
use Rattle.clap.specs.Words.{App, Rule, first_of, matches_of, new_app, new_rule, takes, with_rule}
use Rattle.command_line.specs.Spelling.{Setting, Word, joined}
use Rattle.clap.specs.declared.builder.action.ArgAction.TheVariants.{Set}

-- an option that must stand once, with a value
abbrev pub required_rule : List ℕ → Rule
required_rule option =
    record (new_rule option) { long = Some option; action = Some Set; required = true }

-- the command without `--help`
abbrev pub without_help : App → App
without_help app = record app { top = record app.top { disable_help_flag = true } }

-- a command of this name, without `--help`
abbrev pub bare_app : List ℕ → App
bare_app command = without_help (new_app command)

-- the command with one more option
abbrev pub with_option : App → Setting → App
with_option app setting = with_rule app (required_rule setting.option)

-- a command of this name, with these options in turn, each of which must stand once
abbrev pub app_with : List ℕ → List Setting → App
app_with command settings = fold with_option (bare_app command) settings

-- its canonical words: each option in one word, in the same order
abbrev pub canonical : List ℕ → List Setting → List Word
canonical command settings = command ∷ map joined settings

-- `clap` takes the canonical words of a command, and gives each option its value
pub record ComesBack (command : List ℕ) (settings : List Setting) : Type 0 where
  pub taken : takes (app_with command settings) (canonical command settings) ≡ true
  pub values : map (λ s. first_of s.option
      (matches_of (app_with command settings) (canonical command settings))) settings
      ≡ map (λ s. Some s.value) settings

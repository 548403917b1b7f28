-- The command line of the program, as `clap` sees it.
use Rattle.std.specs.Prelude.{true, if◌then◌else◌, List, Option, Some, None}
use Rattle.std.specs.Str.{bytes_eq}
use lib.Chars.{codes}
use Rattle.clap.specs.Walk.{Row, Rule, Text, first_of}
use Rattle.clap.specs.Simple.{App, new_app, new_rule, on_top, with_rule, with_subcommand}
use Rattle.clap.specs.declared.builder.value_parser.ValueParser.TheVariants as parser

-- the directory, which isn't empty
abbrev pub dir_rule : Rule
dir_rule = record (new_rule (codes "DIR")) { required = true; parser = Some parser.NonEmptyString }

abbrev pub play_app : App
play_app = with_rule (new_app (codes "play")) dir_rule

-- the words are those of a subcommand, and there is no help
abbrev pub bare_app : App
bare_app =
    on_top (λ s. record s {
      no_binary_name = true;
      disable_help_flag = true;
      disable_help_subcommand = true;
      subcommand_required = true;
    }) (new_app (codes "td_vnode"))

abbrev pub program_app : App
program_app = with_subcommand bare_app play_app.top

-- the directory that the subcommand `play` was given
abbrev pub dir_in : Option (Text × List Row) → Option Text
dir_in None = None
dir_in (Some found) = if bytes_eq found.0 (codes "play") then first_of (codes "DIR") found.1 else None

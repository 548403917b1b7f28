-- What the matches of a parse say of the subcommand.
use Rattle.std.proofs.Common.{◌≡◌, List, Option, Some, None, Box, option_map, ap, ap₂, codes}
use Rattle.std.specs.Box.{box_value}
use Rattle.clap.specs.Walk.{Row, Text, first_of}
use Rattle.clap.specs.Matches.{subcommand_name_of}
use Rattle.clap.specs.Simple.{subcommand_rows, subcommand_rows_of}
use Rattle.clap.specs.declared.parser.matches.ArgMatches.{ArgMatches}
use Rattle.clap.specs.declared.parser.matches.ArgMatches.TheViews.{out-ArgMatches, out-SubCommand}
use Rattle.clap.specs.declared.parser.matches.SubCommand.{SubCommand}
use Rattle.td_words.specs.Program.{dir_in}

the : {A : Type 0} → A → Option A → A
the a None = a
the a (Some b) = b

named_rows : {Z : Type 0} (name : Text) (rows : List Row) (o : Option (Box SubCommand Z)) → option_map (λ b. (out-SubCommand (box_value b)).name.now) o ≡ Some name
    → option_map (λ p. p.1) (subcommand_rows o) ≡ Some rows → subcommand_rows o ≡ Some (name, rows)
unfolding out-SubCommand out-ArgMatches the
named_rows name rows None e f = absurd (let bad : None ≡ Some name = e in cc)
named_rows name rows (Some b) e f = ap₂ (λ (n : Text) (r : List Row). Some (n, r)) (ap (the name) e) (ap (the rows) f)

-- the directory that the subcommand `play` was given
pub dir_of_play : (m : ArgMatches) (rows : List Row) → subcommand_name_of m ≡ Some (codes "play")
    → option_map (λ p. p.1) (subcommand_rows_of m) ≡ Some rows → dir_in (subcommand_rows_of m) ≡ first_of (codes "DIR") rows
dir_of_play m rows e f = ap dir_in (named_rows (codes "play") rows (out-ArgMatches m).subcommand e f)

use Rattle.std.proofs.Common.{◌≡◌, option_map, ap, refl, sym, ◌∙◌, codes}
use Rattle.clap.specs.Walk.{first_of, rows_of}
use Rattle.clap.specs.Matches.{found_of}
use Rattle.clap.specs.Simple.{subcommand_rows_of}
use Rattle.clap.proofs.WalkLemmas.{first_value-rows}
use Rattle.td_words.specs.Words.{dir_named}
use Rattle.td_words.specs.Program.{dir_in}
use Rattle.td_words.proofs.Matched.{dir_of_play}
use Rattle.td_words.proofs.command_in.Goals as goal

pub returns-in_err-dir : goal.returns-in_err-dir
returns-in_err-dir c =
    let found = found_of c.in_ok-play.play.now in
    let is : dir_in (subcommand_rows_of c.args.matches.now) ≡ first_of (codes "DIR") (rows_of found) = dir_of_play c.args.matches.now _ (c.in_ok-play.ensures.found.0 refl) c.in_ok-play.ensures.rows in
    ap (option_map dir_named) c.from_residual-in_err-dir.ensures ∙ c.in_err-dir.ensures ∙ first_value-rows found (codes "DIR") ∙ sym is

pub returns : goal.returns
returns c =
    let found = found_of c.in_ok-play.play.now in
    let is : dir_in (subcommand_rows_of c.args.matches.now) ≡ first_of (codes "DIR") (rows_of found) = dir_of_play c.args.matches.now _ (c.in_ok-play.ensures.found.0 refl) c.in_ok-play.ensures.rows in
    c.in_ok-dir.ensures ∙ first_value-rows found (codes "DIR") ∙ sym is

-- Names in what is answered of a text.
use Rattle.std.proofs.Common.{Bool, true, false, cond, ◌||◌, ℕ, List, [], inl, inr, sym, subst}
use Rattle.std.specs.List.{list_any}
use Rattle.td_model.specs.declared.language.Stmt.{Stmt}
use Rattle.td_model.specs.declared.language.Stmt.TheVariants as stmt
use Rattle.td_model.specs.declared.report.Cause.{Cause}
use Rattle.td_model.specs.declared.report.Cause.TheVariants.{NameTooLong, TypeNotBuilt, OptionNotBuilt}
use Rattle.td_model.specs.Printable.{IsPrintableCause}
use Rattle.td_grammar.specs.declared.lexemes.Lexeme.{Lexeme}
use Rattle.td_parse.specs.Statements.{lexemes, has_long_name, has_type_not_built, is_duration_not_built, has_option_not_built, judged, IsAnswer}
use Rattle.td_printed.specs.Names.{HasWords}
use Rattle.td_printed.proofs.Places.{reads_real, failure_printable}
use Rattle.td_printed.proofs.Statements.{statement_says}

wrong_or : (b : Bool) (cause : Cause) (rest : Stmt) → IsPrintableCause cause → HasWords rest
    → HasWords (cond b (stmt.Wrong cause) rest)
wrong_or true cause rest h i = h
wrong_or false cause rest h i = i

judged_has : (ls : List Lexeme) (tree : Stmt) → HasWords tree → HasWords (judged ls tree)
judged_has ls tree h =
    let option : Bool = list_any (λ l. is_duration_not_built l.token) ls || has_option_not_built tree in
    let last : Stmt = cond option (stmt.Wrong OptionNotBuilt) tree in
    let other : Stmt = cond (has_type_not_built tree) (stmt.Wrong TypeNotBuilt) last in
    wrong_or (has_long_name ls) NameTooLong other tt
    (wrong_or (has_type_not_built tree) TypeNotBuilt last tt (wrong_or option OptionNotBuilt tree tt h))

pub answer_has_words : (text : List ℕ) (answer : Stmt) → IsAnswer text answer → HasWords answer
answer_has_words text answer (inl (long, value)) = subst HasWords (sym value) tt
answer_has_words text answer (inr (few, inl (ts, tree, tokens, d, value))) =
    subst HasWords (sym value)
    (judged_has (lexemes ts) tree (statement_says.says tt (lexemes ts) tree (reads_real 0 text ts [] tokens) d))
answer_has_words text answer (inr (few, inr (cause, fails, value))) = subst HasWords (sym value)
    (failure_printable text cause few fails)

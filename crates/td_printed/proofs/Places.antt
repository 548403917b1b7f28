-- The place of the first failure of a text lies within it.
use Rattle.std.proofs.Common.{◌≡◌, ℕ, ◌+◌, ◌≤◌, ◌==◌, Bool, true, false, cond, List, [], ◌∷◌, ◌++◌, length, inl, inr, refl, sym, ap, subst, ◌∙◌, arith}
use Rattle.std.proofs.lemmas.List.{length-append}
use Rattle.std.specs.List.{AllByRecursion}
use Rattle.td_limits.specs.declared.limits.TheConstants.{STATEMENT_BYTES}
use Rattle.td_lex.specs.declared.kinds.Spanned.{Spanned}
use Rattle.td_lex.specs.Tokens.{Reads}
use Rattle.td_model.specs.declared.report.Cause.{Cause}
use Rattle.td_model.specs.declared.report.Cause.TheVariants.{Syntax, OptionNotBuilt}
use Rattle.td_model.specs.Printable.{IsPrintableCause}
use Rattle.td_grammar.specs.declared.kinds.TheConstants.{NOT_BUILT}
use Rattle.td_grammar.specs.Kinds.{kind_of}
use Rattle.td_grammar.specs.Grammar.{real}
use Rattle.td_parse.specs.Statements.{lexemes, Fails}

-- tokens that are read are each spelled by some text
pub reads_real : (at : ℕ) (text : List ℕ) (ts : List Spanned) (rest : List ℕ) → Reads at text ts rest
    → AllByRecursion real (lexemes ts)
reads_real at text [] rest h = tt
reads_real at text (t ∷ ts) rest (gap, word, after, blank, parts, stands, place, end, more) =
    ((refl, word, stands.1), reads_real t.end after ts rest more)

parts_length : (text gap word after : List ℕ) → text ≡ gap ++ (word ++ after)
    → length text ≡ length gap + (length word + length after)
parts_length text gap word after h = ap length h
    ∙ omega (arith, length-append gap (word ++ after), length-append word after)

token_within : (at : ℕ) (text : List ℕ) (ts : List Spanned) (t : Spanned) (rest : List ℕ)
    → Reads at text (ts ++ t ∷ []) rest → t.at ≤ at + length text
token_within at text [] t rest (gap, word, after, blank, parts, stands, place, end, more) =
    omega (arith, parts_length text gap word after parts, place)
token_within at text (u ∷ ts) t rest (gap, word, after, blank, parts, stands, place, end, more) =
    omega (arith, parts_length text gap word after parts, place, end, token_within u.end after ts t rest more)

cause_at : (at : ℕ) (b : Bool) → at ≤ STATEMENT_BYTES → IsPrintableCause (cond b OptionNotBuilt (Syntax at))
cause_at at true l = tt
cause_at at false l = omega arith

pub failure_printable : (text : List ℕ) (cause : Cause) → length text ≤ STATEMENT_BYTES → Fails text cause
    → IsPrintableCause cause
failure_printable text cause few (ts, rest, reads, begins, inl (none, fails, value)) = subst IsPrintableCause
    (sym value) (cause_at (length text) false few)
failure_printable text cause few (ts, rest, reads, begins, inr (inl (t, after, more, fails, value))) =
    let within : t.at ≤ length text = omega (arith, token_within 0 text ts t after more) in
    subst IsPrintableCause (sym value) (cause_at t.at (kind_of t.token == NOT_BUILT) (omega arith))
failure_printable text cause few (ts, rest, reads, begins, inr (inr (bad, at, count, value))) = subst IsPrintableCause
    (sym value) (cause_at at false (omega arith))

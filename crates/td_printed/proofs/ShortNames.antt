-- Short names in statements.
use Rattle.std.proofs.Common.{◌≡◌, ℕ, Bool, true, false, cond, ◌||◌, List, [], ◌∷◌, Option, Some, None, inl, inr, refl, sym, subst, arith}
use Rattle.std.specs.Prelude.{IfSome}
use Rattle.std.specs.List.{list_any, AllByRecursion}
use Rattle.td_model.specs.declared.catalog.Column.{Column}
use Rattle.td_model.specs.declared.language.Stmt.{Stmt}
use Rattle.td_model.specs.declared.language.Stmt.TheVariants as stmt
use Rattle.td_model.specs.declared.report.Cause.TheVariants.{NameTooLong, TypeNotBuilt, OptionNotBuilt}
use Rattle.td_grammar.specs.declared.lexemes.Lexeme.{Lexeme}
use Rattle.td_grammar.specs.Grammar.{G}
use Rattle.td_grammar.specs.Words.{name, quoted_text}
use Rattle.td_clauses.specs.Productions.{truth, word_lit, a_lit, lits}
use Rattle.td_parse.specs.Productions.{column, column_list, columns, tag, tag_list, tags, stable, body_of, own_columns, of_stable, table_of, table_body, table, insert, delete, stream, create, drop_stream, open_cursor, fetch, close_cursor, step, plain_command, maintenance_command, cursor_command, query_or_command, a_statement, statement_text}
use Rattle.td_parse.specs.Statements.{lexemes, has_long_name, has_type_not_built, is_duration_not_built, has_option_not_built, judged, IsAnswer}
use Rattle.td_printed.specs.Heads.{IsShortName, AreShortNamed, AreTags, is_printable, IsPrintableLit, HasShortNames}
use Rattle.td_printed.proofs.Places.{reads_real}
use Rattle.td_printed.proofs.Says.{SaysOf, unsaid, of_token, of_valued, of_both, of_pair, of_second, of_first, of_option, of_either, of_loop, of_comma_list, of_inside, all_append}
use Rattle.td_printed.proofs.ShortTokens.{IsShort, name_short, text_printable, all_short}

-- what a grammar says of a text whose words aren't longer than a name may be
abbrev Short : {E A : Type 0} → G E A → (A → Type 0) → Type 0
Short g P = SaysOf IsShort g P

name_says : {E : Type 0} → Short (name {E = E}) IsShortName
name_says = of_token (λ e t short fit. name_short t short fit)

-- ---- columns and tags

column_says : {E : Type 0} → Short (column {E = E}) (λ (c : Column). IsShortName c.name)
unfolding column
column_says = of_both name_says (unsaid _) (λ n k m u. m)

columns_say : {E : Type 0} → Short (columns {E = E}) AreShortNamed
unfolding columns column_list
columns_say = of_inside (of_comma_list column_says)

tag_says : {E : Type 0} → Short (tag {E = E}) (λ (c : Column). IsShortName c.name)
unfolding tag
tag_says = of_both name_says (unsaid _) (λ n k m u. m)

tag_list_says : {E : Type 0} → Short (tag_list {E = E}) AreTags
unfolding tag_list
tag_list_says =
    of_both {Q = AreShortNamed} tag_says
    (of_loop {I = AreShortNamed} (of_second tag_says) tt (λ all c m one. all_append _ all (c ∷ []) m (one, tt)))
    (λ c rest m all. record { some = omega arith; names = (m, all) })

tags_say : {E : Type 0} → Short (tags {E = E}) AreTags
unfolding tags
tags_say = of_second (of_inside tag_list_says)

-- ---- literals

quoted_says : {E : Type 0} → Short (quoted_text {E = E}) (λ text. is_printable text ≡ true)
quoted_says = of_token (λ e t short fit. text_printable t short)

truth_says : {E : Type 0} → Short (truth {E = E}) IsPrintableLit
unfolding truth
truth_says = of_either (of_valued (unsaid _) (λ _ _. tt)) (of_valued (unsaid _) (λ _ _. tt))

word_says : {E : Type 0} → Short (word_lit {E = E}) IsPrintableLit
unfolding word_lit
word_says = of_either (of_valued (unsaid _) (λ _ _. tt)) (of_either (of_valued (unsaid _) (λ _ _. tt)) truth_says)

lit_says : {E : Type 0} → Short (a_lit {E = E}) IsPrintableLit
unfolding a_lit
lit_says = of_either (of_valued (unsaid _) (λ _ _. tt)) (of_either (of_valued quoted_says (λ t m. m)) word_says)

lits_say : {E : Type 0} → Short (lits {E = E}) (AllByRecursion IsPrintableLit)
unfolding lits
lits_say = of_comma_list lit_says

-- ---- CREATE

stable_says : {E : Type 0} → Short (stable {E = E}) HasShortNames
unfolding stable
stable_says = of_second (of_both name_says (of_pair columns_say (of_option tags_say)) (λ n r m k. (m, k.0, k.1)))

owned : (own : List Column) (given : Option (List Column)) → AreShortNamed own → IfSome given AreTags → (n : List ℕ)
    → IsShortName n → HasShortNames (table_of n (body_of own given))
owned own None m k n is = (is, m)
owned own (Some given) m k n is = (is, m, k)

own_columns_say : {E : Type 0}
    → Short (own_columns {E = E}) (λ b. (n : List ℕ) → IsShortName n → HasShortNames (table_of n b))
unfolding own_columns
own_columns_say = of_both columns_say (of_option tags_say) owned

of_stable_says : {E : Type 0}
    → Short (of_stable {E = E}) (λ b. (n : List ℕ) → IsShortName n → HasShortNames (table_of n b))
unfolding of_stable
of_stable_says = of_second (of_both (unsaid _) (of_second (of_inside lits_say)) (λ s l u m n is. (is, m)))

table_says : {E : Type 0} → Short (table {E = E}) HasShortNames
unfolding table table_body
table_says = of_second (of_both name_says (of_either of_stable_says own_columns_say) (λ n b m f. f n m))

stream_says : {E : Type 0} → Short (stream {E = E}) HasShortNames
unfolding stream
stream_says = of_second (of_both (unsaid _) (unsaid _) (λ n r u v. tt))

create_says : {E : Type 0} → Short (create {E = E}) HasShortNames
unfolding create
create_says = of_second (of_either stable_says (of_either table_says stream_says))

-- ---- what makes nothing of a name

insert_says : {E : Type 0} → Short (insert {E = E}) HasShortNames
unfolding insert
insert_says = of_second (of_second (of_both (unsaid _) (unsaid _) (λ t r u v. tt)))

delete_says : {E : Type 0} → Short (delete {E = E}) HasShortNames
unfolding delete
delete_says = of_second (of_second (of_both (unsaid _) (unsaid _) (λ t r u v. tt)))

plain_says : {E : Type 0} → Short (plain_command {E = E}) HasShortNames
unfolding plain_command
plain_says = of_either (of_valued (unsaid _) (λ _ _. tt))
    (of_either (of_valued (unsaid _) (λ _ _. tt))
    (of_either (of_valued (unsaid _) (λ _ _. tt)) (of_valued (unsaid _) (λ _ _. tt))))

maintenance_says : {E : Type 0} → Short (maintenance_command {E = E}) HasShortNames
unfolding maintenance_command step
maintenance_says = of_either (of_second (of_valued (unsaid _) (λ _ _. tt))) plain_says

cursor_says : {E : Type 0} → Short (cursor_command {E = E}) HasShortNames
unfolding cursor_command open_cursor fetch close_cursor
cursor_says =
    of_either (of_second (of_both (unsaid _) (unsaid _) (λ n q u v. tt)))
    (of_either (of_second (of_both (unsaid _) (unsaid _) (λ n k u v. tt)))
    (of_either (of_second (of_valued (unsaid _) (λ _ _. tt))) maintenance_says))

command_says : {E : Type 0} → Short (query_or_command {E = E}) HasShortNames
unfolding query_or_command drop_stream
command_says =
    of_either (of_second (of_second (of_valued (unsaid _) (λ _ _. tt))))
    (of_either (of_valued (unsaid _) (λ _ _. tt)) cursor_says)

statement_says : Short statement_text HasShortNames
unfolding statement_text a_statement
statement_says = of_first (of_either create_says (of_either insert_says (of_either delete_says command_says)))

-- ---- what is answered of a text

wrong_or : (b : Bool) (wrong rest : Stmt) → HasShortNames wrong → (b ≡ false → HasShortNames rest)
    → HasShortNames (cond b wrong rest)
wrong_or true wrong rest h f = h
wrong_or false wrong rest h f = f refl

judged_short : (ls : List Lexeme) (tree : Stmt) → (has_long_name ls ≡ false → HasShortNames tree)
    → HasShortNames (judged ls tree)
judged_short ls tree f =
    let option : Bool = list_any (λ l. is_duration_not_built l.token) ls || has_option_not_built tree in
    let last : Stmt = cond option (stmt.Wrong OptionNotBuilt) tree in
    let other : Stmt = cond (has_type_not_built tree) (stmt.Wrong TypeNotBuilt) last in
    wrong_or (has_long_name ls) (stmt.Wrong NameTooLong) other tt (λ few.
    wrong_or (has_type_not_built tree) (stmt.Wrong TypeNotBuilt) last tt (λ _.
    wrong_or option (stmt.Wrong OptionNotBuilt) tree tt (λ _. f few)))

pub answer_short : (text : List ℕ) (answer : Stmt) → IsAnswer text answer → HasShortNames answer
answer_short text answer (inl (long, value)) = subst HasShortNames (sym value) tt
answer_short text answer (inr (few, inl (ts, tree, tokens, d, value))) =
    subst HasShortNames (sym value)
    (judged_short (lexemes ts) tree (λ short.
    statement_says.says tt (lexemes ts) tree (all_short (lexemes ts) (reads_real 0 text ts [] tokens) short) d))
answer_short text answer (inr (few, inr (cause, fails, value))) = subst HasShortNames (sym value) tt

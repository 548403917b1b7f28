-- Names in queries.
use Rattle.std.proofs.Common.{ℕ, Bool, true, false, List, ◌++◌, Option, Some, None, refl, arith}
use Rattle.std.specs.Prelude.{IfSome}
use Rattle.std.specs.List.{AllByRecursion}
use lib.Chars.{codes}
use Rattle.td_layer.specs.declared.values.Func.{Func}
use Rattle.td_model.specs.declared.language.ItemKind.{ItemKind}
use Rattle.td_model.specs.declared.language.Cond.{Cond}
use Rattle.td_model.specs.declared.language.PartBy.{PartBy}
use Rattle.td_grammar.specs.declared.kinds.TheConstants as kinds
use Rattle.td_grammar.specs.Grammar.{only, within}
use Rattle.td_grammar.specs.Words.{word_of}
use Rattle.td_clauses.specs.Productions.{names, count_word, count_argument, count_or_name, count_item, func_of, function_word, applied, function_item, plain_name, named_item, selected, select_item, select_items, items, part, part_list, compares, between, null_test, a_test, clause, further_clause, conds_of, cond_list, where_part, partition_part, interval, session, state_window, window, window_part, order_name, order_of, order_part, clauses, query}
use Rattle.td_printed.specs.Names.{IsName, AreNames, IsNamedKind, IsNamedItem, IsNamedPart, IsNamedWindow, IsNamedOrder, QueryHasWords}
use Rattle.td_printed.proofs.Says.{Says, unsaid, of_word, of_valued, of_both, of_pair, of_second, of_maybe, of_option, of_either, of_loop, all_append, of_comma_list, of_inside, name_says}

pub names_say : {E : Type 0} → Says (names {E = E}) AreNames
unfolding names
names_say = of_comma_list name_says

-- ---- the select list

count_word_says : {E : Type 0} → Says (count_word {E = E}) IsName
count_word_says = of_word (only kinds.COUNT) (λ t. word_of t.token) kinds.COUNT refl refl IsName refl (λ t m. m)

count_argument_says : {E : Type 0} → Says (count_argument {E = E}) IsNamedKind
unfolding count_argument
count_argument_says = of_inside (of_either (of_valued (unsaid _) (λ _ _. tt)) (of_valued name_says (λ n m. m)))

counted : (name : List ℕ) (what : Option ItemKind) → IsName name → IfSome what IsNamedKind
    → IsNamedKind (count_or_name name what)
counted name None m n = m
counted name (Some what) m n = n

count_item_says : {E : Type 0} → Says (count_item {E = E}) IsNamedKind
unfolding count_item
count_item_says = of_both count_word_says (of_option count_argument_says) counted

function_word_says : {E : Type 0} → Says (function_word {E = E}) (λ f. IsName f.1)
function_word_says = of_word (within kinds.COLUMN_FUNCTIONS) (λ t. (func_of t.kind, word_of t.token)) kinds.SUM refl
    refl (λ f. IsName f.1) refl (λ t m. m)

apply_named : (f : Func × List ℕ) (column : Option (List ℕ)) → IsName f.1 → IfSome column IsName
    → IsNamedKind (applied f column)
apply_named f None m n = m
apply_named f (Some column) m n = n

function_item_says : {E : Type 0} → Says (function_item {E = E}) IsNamedKind
unfolding function_item
function_item_says = of_both function_word_says (of_option (of_inside name_says)) apply_named

plain_name_says : {E : Type 0} → Says (plain_name {E = E}) IsName
plain_name_says = of_word (within kinds.NAMES_BELOW_FUNCTIONS ++ within kinds.NAMES_ABOVE_FUNCTIONS)
    (λ t. word_of t.token) kinds.PLAIN_WORD refl refl IsName refl (λ t m. m)

named_item_says : {E : Type 0} → Says (named_item {E = E}) IsNamedKind
unfolding named_item
named_item_says = of_either (of_valued (unsaid _) (λ _ _. tt))
    (of_either (of_valued (unsaid _) (λ _ _. tt))
    (of_either (of_valued (unsaid _) (λ _ _. tt)) (of_valued plain_name_says (λ n m. m))))

selected_says : {E : Type 0} → Says (selected {E = E}) IsNamedKind
unfolding selected
selected_says = of_either count_item_says (of_either function_item_says named_item_says)

select_item_says : {E : Type 0} → Says (select_item {E = E}) IsNamedItem
unfolding select_item
select_item_says = of_both selected_says (of_option (of_second name_says)) (λ w a m n. record { what = m; alias = n })

items_say : {E : Type 0} → Says (items {E = E}) (λ i. AllByRecursion IsNamedItem i.1)
unfolding items select_items
items_say = of_either (of_valued (unsaid _) (λ _ _. tt)) (of_valued (of_comma_list select_item_says) (λ all m. m))

-- ---- conditions and partitions

part_says : {E : Type 0} → Says (part {E = E}) IsNamedPart
unfolding part
part_says = of_either (of_valued (unsaid _) (λ _ _. tt)) (of_valued name_says (λ n m. m))

abbrev AreNamedConds : List Cond → Type 0
AreNamedConds conds = AllByRecursion (λ (c : Cond). IsNamedPart c.of) conds

-- a test says what its conditions are of
test_says : {E : Type 0}
    → Says (a_test {E = E}) (λ t. (p : PartBy) → IsNamedPart p
    → AreNamedConds (conds_of (record { of = p; test = t })))
unfolding a_test between null_test compares
test_says = of_either (of_second (of_both (unsaid _) (unsaid _) (λ lo hi u v p m. (m, (m, tt)))))
    (of_either (of_second (of_both (unsaid _) (unsaid _) (λ o n u v p m. (m, tt))))
    (of_both (unsaid _) (unsaid _) (λ o l u v p m. (m, tt))))

clause_says : {E : Type 0} → Says (clause {E = E}) (λ c. AreNamedConds (conds_of c))
unfolding clause
clause_says = of_both part_says test_says (λ p t m n. n p m)

further_says : {E : Type 0} → Says (further_clause {E = E}) (λ c. AreNamedConds (conds_of c))
unfolding further_clause
further_says = of_second clause_says

cond_list_says : {E : Type 0} → Says (cond_list {E = E}) AreNamedConds
unfolding cond_list
cond_list_says = of_both {Q = AreNamedConds} clause_says
    (of_loop {I = AreNamedConds} further_says tt (λ all c m n. all_append _ all (conds_of c) m n))
    (λ c rest m n. all_append _ (conds_of c) rest m n)

where_says : {E : Type 0} → Says (where_part {E = E}) AreNamedConds
unfolding where_part
where_says = of_maybe (of_second cond_list_says) tt (λ c m. m)

partition_says : {E : Type 0} → Says (partition_part {E = E}) (AllByRecursion IsNamedPart)
unfolding partition_part part_list
partition_says = of_maybe (of_second (of_second (of_comma_list part_says))) tt (λ p m. m)

-- ---- windows and order

interval_says : {E : Type 0} → Says (interval {E = E}) IsNamedWindow
unfolding interval
interval_says = of_second (of_both (unsaid _) (unsaid _) (λ l s m n. tt))

session_says : {E : Type 0} → Says (session {E = E}) IsNamedWindow
unfolding session
session_says = of_second (of_inside (of_both name_says (unsaid _) (λ column tol m n. m)))

state_says : {E : Type 0} → Says (state_window {E = E}) IsNamedWindow
unfolding state_window
state_says = of_second (of_inside (of_valued name_says (λ n m. m)))

window_says : {E : Type 0} → Says (window_part {E = E}) IsNamedWindow
unfolding window_part window
window_says = of_maybe (of_either interval_says (of_either session_says state_says)) tt (λ w m. m)

start_name : IsName (codes "_wstart")
start_name = record { some = omega arith; word = refl }

order_name_says : {E : Type 0} → Says (order_name {E = E}) IsName
unfolding order_name
order_name_says = of_either (of_valued (unsaid _) (λ _ _. start_name)) name_says

ordered : (name : List ℕ) (falls : Bool) → IsName name → Unit {0} → IsNamedOrder (order_of name falls)
ordered name true m n = m
ordered name false m n = m

order_says : {E : Type 0} → Says (order_part {E = E}) IsNamedOrder
unfolding order_part
order_says = of_maybe (of_second (of_second (of_both order_name_says (unsaid _) ordered))) tt (λ o m. m)

-- ---- a query

clauses_say : {E : Type 0}
    → Says (clauses {E = E}) (λ c. AreNamedConds c.conds × AllByRecursion IsNamedPart c.parts × IsNamedWindow c.window
    × IsNamedOrder c.order)
unfolding clauses
clauses_say = of_both where_says (of_pair partition_says (of_pair window_says (of_pair order_says (unsaid _))))
    (λ c r m n. (m, n.0, n.1.0, n.1.1.0))

pub query_says : {E : Type 0} → Says (query {E = E}) QueryHasWords
unfolding query
query_says =
    of_second
    (of_both items_say (of_second (of_pair name_says clauses_say))
    (λ i r m n. record { items = m; source = n.0; conds = n.1.0; parts = n.1.1; window = n.1.2; order = n.1.3 }))

-- The productions of clauses, in the order of the language's description. A word in capitals is that word in any case.
use Rattle.std.specs.Prelude.{◌≡◌, ◌==◌, if◌then◌else◌, ℕ, pos, Bool, true, false, List, [], ◌∷◌, ◌++◌, Option, Some, None, refl}
use lib.Chars.{codes}
use Rattle.td_lex.specs.declared.kinds.Token.TheVariants.{Sym}
use Rattle.td_layer.specs.declared.values.Func.{Func}
use Rattle.td_layer.specs.declared.values.Func.TheVariants as func
use Rattle.td_model.specs.declared.language.Lit.{Lit}
use Rattle.td_model.specs.declared.language.Lit.TheVariants as lit
use Rattle.td_model.specs.declared.language.ItemKind.{ItemKind}
use Rattle.td_model.specs.declared.language.ItemKind.TheVariants as item_kind
use Rattle.td_model.specs.declared.language.Item.{Item}
use Rattle.td_model.specs.declared.language.Op.{Op}
use Rattle.td_model.specs.declared.language.Op.TheVariants as op
use Rattle.td_model.specs.declared.language.PartBy.{PartBy}
use Rattle.td_model.specs.declared.language.PartBy.TheVariants as part_by
use Rattle.td_model.specs.declared.language.Cond.{Cond}
use Rattle.td_model.specs.declared.language.WindowDef.{WindowDef}
use Rattle.td_model.specs.declared.language.WindowDef.TheVariants as window_def
use Rattle.td_model.specs.declared.language.OrderBy.{OrderBy}
use Rattle.td_model.specs.declared.language.OrderBy.TheVariants as order_by
use Rattle.td_model.specs.declared.language.Query.{Query}
use Rattle.td_grammar.specs.declared.kinds.TheConstants as kinds
use Rattle.td_grammar.specs.Kinds.{first_byte}
use Rattle.td_grammar.specs.Grammar.{G, good, only, within, token, valued, both, maybe, either, loop}
use Rattle.td_grammar.specs.Words.{name, number, quoted_text, duration, word_of, word_in, word, sign, ◌▷◌, ◌◁◌, comma_list, anything}
use Rattle.td_clauses.specs.declared.drafts.Test.{Test}
use Rattle.td_clauses.specs.declared.drafts.Test.TheVariants as test
use Rattle.td_clauses.specs.declared.drafts.Clause.{Clause}
use Rattle.td_clauses.specs.declared.drafts.Cut.{Cut}
use Rattle.td_clauses.specs.declared.drafts.Clauses.{Clauses}

-- in parentheses
abbrev pub inside : {E A : Type 0} → G E A → G E A
inside g = sign kinds.OPEN_PAREN refl ▷ g ◁ sign kinds.CLOSE_PAREN refl

-- lit := Num | Str | NULL | TRUE | FALSE | NOW
unfoldable pub truth : {E : Type 0} → G E Lit
truth = either (valued (λ _. lit.True) (word kinds.TRUE refl)) (valued (λ _. lit.False) (word kinds.FALSE refl))

unfoldable pub word_lit : {E : Type 0} → G E Lit
word_lit = either (valued (λ _. lit.Null) (word kinds.NULL refl))
    (either (valued (λ _. lit.Now) (word kinds.NOW refl)) truth)

unfoldable pub a_lit : {E : Type 0} → G E Lit
a_lit = either (valued lit.Num number) (either (valued lit.Str quoted_text) word_lit)

-- one token of lookahead decides
pub literal_good : good (a_lit {E = Unit {0}}) ≡ true
unfolding a_lit word_lit truth
literal_good = refl

-- lits := lit { , lit }
unfoldable pub lits : {E : Type 0} → G E (List Lit)
lits = comma_list a_lit

-- tlit := Num | Str
abbrev pub a_bound : {E : Type 0} → G E Lit
a_bound = either (valued lit.Num number) (valued lit.Str quoted_text)

-- lit2 := Num | Str | TRUE | FALSE
unfoldable pub compared : {E : Type 0} → G E Lit
compared = either (valued lit.Num number) (either (valued lit.Str quoted_text) truth)

-- name { , name }
unfoldable pub names : {E : Type 0} → G E (List (List ℕ))
names = comma_list name

-- selected := name | TBNAME | _WSTART | _WEND | COUNT ( * ) | func ( name ), where a function's word without ( is a
-- name
abbrev pub count_word : {E : Type 0} → G E (List ℕ)
count_word = word_in (only kinds.COUNT) (λ t. word_of t.token) kinds.COUNT refl refl

-- COUNT ( * ) and COUNT ( name )
unfoldable pub count_argument : {E : Type 0} → G E ItemKind
count_argument = inside
    (either (valued (λ _. item_kind.CountAll) (sign kinds.STAR refl)) (valued (λ n. item_kind.Fun func.Count n) name))

abbrev pub count_or_name : List ℕ → Option ItemKind → ItemKind
count_or_name name None = item_kind.Col name
count_or_name name (Some what) = what

unfoldable pub count_item : {E : Type 0} → G E ItemKind
count_item = both count_or_name count_word (maybe None Some count_argument)

abbrev pub func_of : ℕ → Func
func_of k = if k == kinds.SUM then func.Sum else if k == kinds.MIN then func.Min else if k == kinds.MAX then func.Max
    else if k == kinds.AVG then func.Avg else if k == kinds.FIRST then func.First
    else if k == kinds.LAST then func.Last else func.Spread

abbrev pub function_word : {E : Type 0} → G E (Func × List ℕ)
function_word = word_in (within kinds.COLUMN_FUNCTIONS) (λ t. (func_of t.kind, word_of t.token)) kinds.SUM refl refl

abbrev pub applied : Func × List ℕ → Option (List ℕ) → ItemKind
applied f None = item_kind.Col f.1
applied f (Some n) = item_kind.Fun f.0 n

unfoldable pub function_item : {E : Type 0} → G E ItemKind
function_item = both applied function_word (maybe None Some (inside name))

abbrev pub plain_name : {E : Type 0} → G E (List ℕ)
plain_name = word_in (within kinds.NAMES_BELOW_FUNCTIONS ++ within kinds.NAMES_ABOVE_FUNCTIONS)
    (λ t. word_of t.token) kinds.PLAIN_WORD refl refl

unfoldable pub named_item : {E : Type 0} → G E ItemKind
named_item = either (valued (λ _. item_kind.TbName) (word kinds.TBNAME refl))
    (either (valued (λ _. item_kind.WStart) (word kinds.WSTART refl))
    (either (valued (λ _. item_kind.WEnd) (word kinds.WEND refl)) (valued item_kind.Col plain_name)))

unfoldable pub selected : {E : Type 0} → G E ItemKind
selected = either count_item (either function_item named_item)

-- item := selected [ AS name ]
unfoldable pub select_item : {E : Type 0} → G E Item
select_item = both (λ w a. record { what = w; alias = a }) selected (maybe None Some (word kinds.AS refl ▷ name))

pub select_item_good : good (select_item {E = Unit {0}}) ≡ true
unfolding select_item selected named_item function_item count_item count_argument
select_item_good = refl

unfoldable pub select_items : {E : Type 0} → G E (List Item)
select_items = comma_list select_item

-- items := * | item { , item }
unfoldable pub items : {E : Type 0} → G E (Bool × List Item)
items = either (valued (λ _. (true, [])) (sign kinds.STAR refl)) (valued (λ all. (false, all)) select_items)

-- part := name | TBNAME
unfoldable pub part : {E : Type 0} → G E PartBy
part = either (valued (λ _. part_by.TbName) (word kinds.TBNAME refl)) (valued part_by.Tag name)

pub part_good : good (part {E = Unit {0}}) ≡ true
unfolding part
part_good = refl

unfoldable pub part_list : {E : Type 0} → G E (List PartBy)
part_list = comma_list part

-- op := < | <= | > | >= | = | <> | !=
abbrev pub op_of : ℕ → Op
op_of k = if k == kinds.LESS then op.Lt else if k == kinds.MORE then op.Gt else if k == kinds.EQUAL then op.Eq
    else if k == kinds.AT_MOST then op.Le else if k == kinds.AT_LEAST then op.Ge else op.Ne

abbrev pub comparison : {E : Type 0} → G E Op
comparison = token (within kinds.COMPARISONS) (λ _ _. true) (λ t. op_of t.kind)
    (λ _. record { kind = kinds.LESS; token = Sym (first_byte (codes "<")) }) (λ _. refl)
    (λ _. (refl, codes "<", (refl, refl)))

-- cond := part op lit2 | part BETWEEN lit2 AND lit2 | part IS [ NOT ] NULL
unfoldable pub compares : {E : Type 0} → G E Test
compares = both test.Is comparison compared

unfoldable pub between : {E : Type 0} → G E Test
between = word kinds.BETWEEN refl ▷ both test.Between compared (word kinds.AND refl ▷ compared)

unfoldable pub null_test : {E : Type 0} → G E Test
null_test = word kinds.IS refl ▷ both (λ o _. test.Is o lit.Null)
    (maybe op.IsNull (λ _. op.NotNull) (word kinds.NOT refl)) (word kinds.NULL refl)

unfoldable pub a_test : {E : Type 0} → G E Test
a_test = either between (either null_test compares)

unfoldable pub clause : {E : Type 0} → G E Clause
clause = both (λ p t. record { of = p; test = t }) part a_test

unfoldable pub further_clause : {E : Type 0} → G E Clause
further_clause = word kinds.AND refl ▷ clause

-- BETWEEN is two conditions, the lower bound's first
abbrev pub conds_of : Clause → List Cond
conds_of c = elim (c.test) as (λ _. List Cond) [
  | test.Is o l ↦ record { of = c.of; op = o; lit = l } ∷ []
  | test.Between lo hi ↦ record { of = c.of; op = op.Ge; lit = lo } ∷ record { of = c.of; op = op.Le; lit = hi } ∷ []
]

abbrev pub with_clause : List Cond → Clause → List Cond
with_clause all c = all ++ conds_of c

unfoldable pub cond_list : {E : Type 0} → G E (List Cond)
cond_list = both (λ c more. conds_of c ++ more) clause (loop [] anything with_clause further_clause)

unfoldable pub where_part : {E : Type 0} → G E (List Cond)
where_part = maybe [] (λ c. c) (word kinds.WHERE refl ▷ cond_list)

unfoldable pub partition_part : {E : Type 0} → G E (List PartBy)
partition_part = maybe [] (λ p. p) (word kinds.PARTITION refl ▷ word kinds.BY refl ▷ part_list)

-- window := INTERVAL ( Dur [ , Dur ] ) [ SLIDING ( Dur ) ] | SESSION ( name , Dur ) | STATE_WINDOW ( name )
abbrev pub slide_or : ℕ → Option ℕ → ℕ
slide_or len None = len
slide_or len (Some slide) = slide

unfoldable pub lengths : {E : Type 0} → G E (ℕ × ℕ)
lengths = inside (both (λ len offset. (len, offset)) duration (maybe 0 (λ d. d) (sign kinds.COMMA refl ▷ duration)))

unfoldable pub interval : {E : Type 0} → G E WindowDef
interval = word kinds.INTERVAL refl ▷ both (λ (l : ℕ × ℕ) s. window_def.Interval l.0 l.1 (slide_or l.0 s)) lengths
    (maybe None Some (word kinds.SLIDING refl ▷ inside duration))

unfoldable pub session : {E : Type 0} → G E WindowDef
session = word kinds.SESSION refl ▷ inside (both window_def.Session name (sign kinds.COMMA refl ▷ duration))

unfoldable pub state_window : {E : Type 0} → G E WindowDef
state_window = word kinds.STATE_WINDOW refl ▷ inside (valued window_def.State name)

unfoldable pub window : {E : Type 0} → G E WindowDef
window = either interval (either session state_window)

unfoldable pub window_part : {E : Type 0} → G E WindowDef
window_part = maybe window_def.Whole (λ w. w) window

-- ORDER BY ( name | _WSTART ) [ ASC | DESC ]
unfoldable pub order_name : {E : Type 0} → G E (List ℕ)
order_name = either (valued (λ _. codes "_wstart") (word kinds.WSTART refl)) name

unfoldable pub direction : {E : Type 0} → G E Bool
direction = maybe false (λ d. d)
    (either (valued (λ _. false) (word kinds.ASC refl)) (valued (λ _. true) (word kinds.DESC refl)))

abbrev pub order_of : List ℕ → Bool → OrderBy
order_of n true = order_by.Desc n
order_of n false = order_by.Asc n

unfoldable pub order_part : {E : Type 0} → G E OrderBy
order_part = maybe order_by.Plain (λ o. o)
    (word kinds.ORDER refl ▷ word kinds.BY refl ▷ both order_of order_name direction)

-- LIMIT Num [ OFFSET Num ]
unfoldable pub cut_part : {E : Type 0} → G E Cut
cut_part = maybe (record { limit = None; skip = pos 0 }) (λ c. c)
    (word kinds.LIMIT refl ▷ both (λ n s. record { limit = Some n; skip = s }) number
    (maybe (pos 0) (λ s. s) (word kinds.OFFSET refl ▷ number)))

-- query := SELECT items FROM name [ WHERE .. ] [ PARTITION BY .. ] [ window ] [ ORDER BY .. ] [ LIMIT .. ]
unfoldable pub clauses : {E : Type 0} → G E Clauses
clauses = both (λ c (r : List PartBy × (WindowDef × (OrderBy × Cut))).
    record { conds = c; parts = r.0; window = r.1.0; order = r.1.1.0; cut = r.1.1.1 })
    where_part (both (λ p r. (p, r)) partition_part
    (both (λ w r. (w, r)) window_part (both (λ o c. (o, c)) order_part cut_part)))

abbrev pub query_of : Bool × List Item → List ℕ → Clauses → Query
query_of i source c =
    record {
      star = i.0;
      items = i.1;
      source = source;
      conds = c.conds;
      parts = c.parts;
      window = c.window;
      order = c.order;
      skip = c.cut.skip;
      limit = c.cut.limit;
    }

unfoldable pub query : {E : Type 0} → G E Query
query = word kinds.SELECT refl ▷ both (λ i (r : List ℕ × Clauses). query_of i r.0 r.1) items
    (word kinds.FROM refl ▷ both (λ s c. (s, c)) name clauses)

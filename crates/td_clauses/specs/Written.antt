-- The grammar of queries and literals as the language's description writes it: each condition and item whole, and
-- alternatives in its order, whatever lookahead they take. Productions that are read as they are written are those of
-- `Productions`.
use Rattle.std.specs.Prelude.{◌==◌, if◌then◌else◌, ℕ, Bool, true, false, List, [], ◌++◌, Some, None, refl}
use Rattle.td_layer.specs.declared.values.Func.{Func}
use Rattle.td_layer.specs.declared.values.Func.TheVariants as func
use Rattle.td_model.specs.declared.language.Lit.{Lit}
use Rattle.td_model.specs.declared.language.Lit.TheVariants as lit
use Rattle.td_model.specs.declared.language.ItemKind.{ItemKind}
use Rattle.td_model.specs.declared.language.ItemKind.TheVariants as item_kind
use Rattle.td_model.specs.declared.language.Item.{Item}
use Rattle.td_model.specs.declared.language.Op.TheVariants as op
use Rattle.td_model.specs.declared.language.PartBy.{PartBy}
use Rattle.td_model.specs.declared.language.PartBy.TheVariants as part_by
use Rattle.td_model.specs.declared.language.Cond.{Cond}
use Rattle.td_model.specs.declared.language.WindowDef.{WindowDef}
use Rattle.td_model.specs.declared.language.OrderBy.{OrderBy}
use Rattle.td_model.specs.declared.language.Query.{Query}
use Rattle.td_grammar.specs.declared.kinds.TheConstants as kinds
use Rattle.td_grammar.specs.Grammar.{G, within, valued, both, maybe, either, loop}
use Rattle.td_grammar.specs.Words.{name, number, quoted_text, word_in, word, sign, ◌▷◌, comma_list, anything}
use Rattle.td_clauses.specs.declared.drafts.Test.TheVariants as test
use Rattle.td_clauses.specs.declared.drafts.Clause.{Clause}
use Rattle.td_clauses.specs.declared.drafts.Clauses.{Clauses}
use Rattle.td_clauses.specs.declared.drafts.Cut.{Cut}
use Rattle.td_clauses.specs.Productions.{inside, compared, comparison, count_word, func_of, with_clause, conds_of, query_of, window_part, order_part, cut_part}

-- lit := Num | Str | NULL | TRUE | FALSE | NOW
unfoldable pub written_lit : {E : Type 0} → G E Lit
written_lit = either (valued lit.Num number)
    (either (valued lit.Str quoted_text)
    (either (valued (λ _. lit.Null) (word kinds.NULL refl))
    (either (valued (λ _. lit.True) (word kinds.TRUE refl))
    (either (valued (λ _. lit.False) (word kinds.FALSE refl)) (valued (λ _. lit.Now) (word kinds.NOW refl))))))

-- lits := lit { , lit }
unfoldable pub written_lits : {E : Type 0} → G E (List Lit)
written_lits = comma_list written_lit

-- func := COUNT | SUM | MIN | MAX | AVG | FIRST | LAST | SPREAD
abbrev pub written_func : {E : Type 0} → G E Func
written_func = word_in (within kinds.FUNCTIONS)
    (λ t. if t.kind == kinds.COUNT then func.Count else func_of t.kind) kinds.COUNT refl refl

-- selected := name | TBNAME | _WSTART | _WEND | COUNT ( * ) | func ( name )
unfoldable pub written_selected : {E : Type 0} → G E ItemKind
written_selected = either (valued item_kind.Col name)
    (either (valued (λ _. item_kind.TbName) (word kinds.TBNAME refl))
    (either (valued (λ _. item_kind.WStart) (word kinds.WSTART refl))
    (either (valued (λ _. item_kind.WEnd) (word kinds.WEND refl))
    (either (count_word ▷ inside (valued (λ _. item_kind.CountAll) (sign kinds.STAR refl)))
    (both item_kind.Fun written_func (inside name))))))

-- item := selected [ AS name ]
unfoldable pub written_item : {E : Type 0} → G E Item
written_item = both (λ w a. record { what = w; alias = a }) written_selected
    (maybe None Some (word kinds.AS refl ▷ name))

-- items := * | item { , item }
unfoldable pub written_items : {E : Type 0} → G E (Bool × List Item)
written_items = either (valued (λ _. (true, [])) (sign kinds.STAR refl))
    (valued (λ all. (false, all)) (comma_list written_item))

-- part := name | TBNAME
unfoldable pub written_part : {E : Type 0} → G E PartBy
written_part = either (valued part_by.Tag name) (valued (λ _. part_by.TbName) (word kinds.TBNAME refl))

-- cond := ( name | TBNAME ) op lit2 | ( name | TBNAME ) BETWEEN lit2 AND lit2 | ( name | TBNAME ) IS [ NOT ] NULL
unfoldable pub written_cond : {E : Type 0} → G E Clause
written_cond = either (both (λ p t. record { of = p; test = t }) written_part (both test.Is comparison compared))
    (either (both (λ p t. record { of = p; test = t }) written_part
    (word kinds.BETWEEN refl ▷ both test.Between compared (word kinds.AND refl ▷ compared)))
    (both (λ p t. record { of = p; test = t }) written_part
    (word kinds.IS refl ▷ both (λ o _. test.Is o lit.Null)
    (maybe op.IsNull (λ _. op.NotNull) (word kinds.NOT refl)) (word kinds.NULL refl))))

-- cond { AND cond }
unfoldable pub written_conds : {E : Type 0} → G E (List Cond)
written_conds = both (λ c more. conds_of c ++ more) written_cond
    (loop [] anything with_clause (word kinds.AND refl ▷ written_cond))

-- query := SELECT items FROM name [ WHERE cond { AND cond } ] [ PARTITION BY part { , part } ] [ window ] [ ORDER BY
-- .. ] [ LIMIT .. ]
unfoldable pub written_clauses : {E : Type 0} → G E Clauses
written_clauses = both
    (λ c (r : List PartBy × (WindowDef × (OrderBy × Cut))).
    record { conds = c; parts = r.0; window = r.1.0; order = r.1.1.0; cut = r.1.1.1 })
    (maybe [] (λ c. c) (word kinds.WHERE refl ▷ written_conds))
    (both (λ p r. (p, r))
    (maybe [] (λ p. p) (word kinds.PARTITION refl ▷ word kinds.BY refl ▷ comma_list written_part))
    (both (λ w r. (w, r)) window_part (both (λ o c. (o, c)) order_part cut_part)))

unfoldable pub written_query : {E : Type 0} → G E Query
written_query = word kinds.SELECT refl ▷ both (λ i (r : List ℕ × Clauses). query_of i r.0 r.1) written_items
    (word kinds.FROM refl ▷ both (λ s c. (s, c)) name written_clauses)

-- Statements of texts make catalogs with names and texts as a head asks.
use Rattle.std.proofs.Common.{◌≡◌, ℕ, ◌+◌, ℤ, pos, true, false, cond, List, [], ◌∷◌, Option, Some, None, sym, subst}
use Rattle.std.specs.Prelude.{IfSome}
use Rattle.std.specs.Ordering.{int_eq}
use Rattle.std.specs.List.{AllByRecursion}
use Rattle.td_cols.specs.declared.kinds.Kind.{Kind}
use Rattle.td_layer.specs.declared.values.Cell.TheVariants as cell
use Rattle.td_model.specs.declared.catalog.Column.{Column}
use Rattle.td_model.specs.declared.history.What.{What}
use Rattle.td_model.specs.declared.history.What.TheVariants as what
use Rattle.td_model.specs.declared.history.Verdict.{Verdict}
use Rattle.td_model.specs.declared.history.Verdict.TheVariants.{Accept}
use Rattle.td_model.specs.declared.language.Lit.{Lit}
use Rattle.td_model.specs.declared.language.Lit.TheVariants as lit
use Rattle.td_model.specs.declared.language.Stmt.{Stmt}
use Rattle.td_model.specs.declared.language.Stmt.TheVariants as stmt
use Rattle.td_model.specs.Catalog.{Catalog, table_named, stable_named}
use Rattle.td_model.specs.State.{State, effect, step}
use Rattle.td_parse.specs.Statements.{IsAnswer}
use Rattle.td_verdict.specs.Names.{number_or_none, table_schema, stable_schema}
use Rattle.td_verdict.specs.Values.{is_truth, is_text, number_at, text_at, number_cell, tag_from}
use Rattle.td_verdict.specs.Writes as writes
use Rattle.td_verdict.specs.Writes.{refused_or, cut_between, time_from, write_verdict}
use Rattle.td_told.specs.Verdict.{verdict}
use Rattle.td_told.specs.Turn.{entry_at}
use Rattle.td_printed.specs.Heads.{IsShortName, AreShortNamed, AreTags, is_printable, IsPrintableLit, HasShortNames, IsPrintableTag, FitsHead}
use Rattle.td_printed.proofs.Accepted.{Accepts, accepted, insert_accepted, delete_accepted}
use Rattle.td_printed.proofs.Says.{all_append}
use Rattle.td_printed.proofs.Kept.{puts_catalog}
use Rattle.td_printed.proofs.Histories.{write_of}
use Rattle.td_printed.proofs.ShortNames.{answer_short}

-- ---- the tags of a subtable

number_prints : (k : Kind) (n : ℤ) → IsPrintableTag (number_cell k n)
number_prints k n = elim (is_truth k) as (λ b. IsPrintableTag (cond b (cell.Truth (int_eq n (pos 1))) (cell.Num n))) [
  | true ↦ tt
  | false ↦ tt
]

cell_prints : (k : Kind) (number : Option ℤ) (text : Option (List ℕ)) → IfSome text (λ t. is_printable t ≡ true)
    → IsPrintableTag (tag_from k number text)
cell_prints k (Some n) text h = number_prints k n
cell_prints k None (Some text) h = h
cell_prints k None None h = tt

text_prints : (k : Kind) (l : Lit) → IsPrintableLit l → IfSome (text_at k l) (λ t. is_printable t ≡ true)
text_prints k (lit.Str text) h = elim (is_text k) as
    (λ b. IfSome (cond b (Some text) None) (λ t. is_printable t ≡ true)) [
      | true ↦ h
      | false ↦ tt
    ]
text_prints k _ h = tt

tags_print : (moment : ℕ) (tags : List Column) (lits : List Lit) → AllByRecursion IsPrintableLit lits
    → AllByRecursion IsPrintableTag (writes.tag_cells moment tags lits)
tags_print moment [] lits h = tt
tags_print moment (t ∷ tags) [] h = tt
tags_print moment (t ∷ tags) (l ∷ lits) h = (
  cell_prints t.kind (number_at t.kind moment l) (text_at t.kind l) (text_prints t.kind l h.0),
  tags_print moment tags lits h.1,
)

-- ---- what an entry makes

abbrev WhatFitsHead : What → Type 0
WhatFitsHead (what.MakeStable name schema) = IsShortName name × AreShortNamed schema.columns × AreTags schema.tags
WhatFitsHead (what.MakeTable name columns) = IsShortName name × AreShortNamed columns
WhatFitsHead (what.MakeSub name stable tags) = IsShortName name × AllByRecursion IsPrintableTag tags
WhatFitsHead _ = Unit {0}

abbrev AcceptsFit : Verdict → Type 0
AcceptsFit v = Accepts WhatFitsHead v

stable_accepted : (name : List ℕ) (columns : List Column) (tags : Option (List Column)) (c : Catalog)
    → IsShortName name → AreShortNamed columns → IfSome tags AreTags
    → AcceptsFit (writes.make_stable_verdict name columns tags c)
stable_accepted name columns None c n m k = tt
stable_accepted name columns (Some tags) c n m k =
    accepted WhatFitsHead (writes.definition_cause name columns tags c) _ 0 (n, m, k)

write_fits : (q : Stmt) (c : Catalog) (edge moment : ℕ) → HasShortNames q → AcceptsFit (write_verdict q c edge moment)
write_fits (stmt.MakeStable name columns tags) c edge moment h = stable_accepted name columns tags c h.0 h.1 h.2
write_fits (stmt.MakeTable name columns) c edge moment h =
    accepted WhatFitsHead (writes.definition_cause name columns [] c) (what.MakeTable name columns) 0 h
write_fits (stmt.MakeSub name stable lits) c edge moment h =
    let tags : List Column = (stable_schema (stable_named stable c) c).tags in
    accepted WhatFitsHead (writes.make_sub_cause name stable tags lits moment c)
    (what.MakeSub name (number_or_none (stable_named stable c)) (writes.tag_cells moment tags lits)) 0
    (h.0, tags_print moment tags lits h.1)
write_fits (stmt.Insert table columns rows) c edge moment h = insert_accepted WhatFitsHead (λ _. tt) table
    (table_schema (table_named table c) c).columns columns rows edge moment c
write_fits (stmt.Delete table column lo hi) c edge moment h = delete_accepted WhatFitsHead (λ _ _ _. tt) table
    (table_schema (table_named table c) c).columns column lo hi moment c
write_fits (stmt.DropStream name) c edge moment h = accepted WhatFitsHead _ _ 0 tt
write_fits _ c edge moment h = tt

-- ---- what an entry makes of a catalog

effect_fits : (past : List State) (w : What) (s : State) → WhatFitsHead w → FitsHead s.catalog
    → FitsHead (effect past w s).catalog
effect_fits past (what.MakeStable name schema) s h c =
    record {
      stables = all_append _ s.catalog.stables _ c.stables (record { name = h.0; columns = h.1; tags = h.2 }, tt);
      tables = c.tables;
    }
effect_fits past (what.MakeTable name columns) s h c =
    record {
      stables = c.stables;
      tables = all_append _ s.catalog.tables _ c.tables (record { name = h.0; columns = h.1; tags = tt }, tt);
    }
effect_fits past (what.MakeSub name stable tags) s h c =
    record {
      stables = c.stables;
      tables = all_append _ s.catalog.tables _ c.tables (record { name = h.0; columns = tt; tags = h.1 }, tt);
    }
effect_fits past (what.Put puts) s h c = subst FitsHead (sym (puts_catalog puts s)) c
effect_fits past (what.MakeStream def) s h c = record { stables = c.stables; tables = c.tables }
effect_fits past (what.DropStream n) s h c = record { stables = c.stables; tables = c.tables }
effect_fits past _ s h c = c

pub entry_fits : (text : List ℕ) (q : Stmt) (s : State) (session ordinal moment : ℕ) (w : What) (rows : ℕ)
    → IsAnswer text q → verdict q s [] moment ≡ Accept w rows → FitsHead s.catalog
    → FitsHead (step (s ∷ []) (entry_at session ordinal moment w)).catalog
entry_fits text q s session ordinal moment w rows parsed judged c =
    effect_fits (s ∷ []) w (record s { version = s.version + 1; moment = moment })
    (subst AcceptsFit (write_of q s moment w rows judged)
    (write_fits q s.catalog s.edge moment (answer_short text q parsed))) c

-- What a plan picks is what its query picks.
use Rattle.std.proofs.Common.{◌≡◌, ℕ, ◌≤◌, ◌⊎◌, inl, inr, Bool, true, false, cond, ◌&&◌, ◌==◌, nat_le, List, [], ◌∷◌, ◌++◌, map, filter, length, Option, refl, sym, ap, subst, ◌∙◌, true≢false}
use Rattle.std.specs.List.{AllByRecursion, flat_map}
use Rattle.std.proofs.lemmas.Bool.{and_left, and_from, eqb-true}
use Rattle.td_layer.specs.declared.values.Key.{Key}
use Rattle.td_layer.specs.declared.values.Row.{Row}
use Rattle.td_layer.specs.declared.values.Cell.{Cell}
use Rattle.td_limits.specs.declared.limits.TheConstants.{LAST_TIMESTAMP}
use Rattle.td_model.specs.declared.catalog.Column.{Column}
use Rattle.td_model.specs.declared.catalog.Schema.{Schema}
use Rattle.td_model.specs.declared.language.Query.{Query}
use Rattle.td_model.specs.declared.plan.Plan.{Plan}
use Rattle.td_model.specs.Catalog.{Catalog, target_named}
use Rattle.td_model.specs.State.{Rows, is_cut}
use Rattle.td_verdict.specs.declared.comparison.Comparison.{Comparison}
use Rattle.td_verdict.specs.declared.source.Source.{Source}
use Rattle.td_verdict.specs.declared.source.Source.TheVariants.{Table, Stable, Other}
use Rattle.td_verdict.specs.Names.{lacks_time}
use Rattle.td_verdict.specs.Fields.{all_hold, comparisons_of}
use Rattle.td_verdict.specs.Queries.{source_of, source_schema}
use Rattle.td_verdict.specs.Plans.{Numbered, all_tables, is_under, is_in_source, is_read, planned, all_hold_of_table, lowest, highest, plan_over, plan_of, source_tables}
use Rattle.td_verdict.specs.Answers.{Found, rows_of, found_row, found_in, put_in_time, picked_of}
use Rattle.td_answer.specs.Picks.{Listed, tables_from, row_found, found_of, table_found, plan_found}
use Rattle.td_answer.proofs.Kept.{IsSame, kept_same, none_kept}
use Rattle.td_answer.proofs.Times.{inside}
use Rattle.td_answer.proofs.Places.{fails}

-- ---- the tables of a plan
abbrev entry : Numbered → Listed
entry t = record { number = t.0; name = t.1.name; tags = t.1.tags }

entries : (ts : List Numbered) → tables_from (map (λ (t : Numbered). t.0) ts) (map (λ (t : Numbered). t.1.name) ts) (map (λ (t : Numbered). t.1.tags) ts) ≡ map entry ts
entries [] = refl
entries (t ∷ ts) = ap (λ xs. entry t ∷ xs) (entries ts)

-- ---- the rows of one table
module _ (columns : List Column) (ps : List Comparison) (lo hi : ℕ) (t : Numbered) where
  -- a row of which all comparisons are true lies in the range of timestamps
  pub Has : Key × Row → Type 0
  Has e = all_hold ps (found_row columns t e).1 ≡ true → (nat_le lo e.0.ts && nat_le e.0.ts hi) ≡ true

  abbrev inner : Key × Row → Bool
  inner e = is_cut t.0 lo hi e.0

  abbrev outer : Key × Row → Bool
  outer e = e.0.table == t.0

  abbrev keep : Key × List Cell → Bool
  keep e = all_hold ps e.1

  abbrev read : Key × Row → Key × List Cell
  read e = row_found columns (entry t) e

  left_by : (e : Key × Row) (held : Bool) → Has e → all_hold ps (found_row columns t e).1 ≡ held → outer e ≡ true → inner e ≡ false → held ≡ false
  unfolding Has
  left_by e true has is o i = sym (and_from (outer e) (nat_le lo e.0.ts && nat_le e.0.ts hi) o (has is)) ∙ i
  left_by e false has is o i = refl

  same : (e : Key × Row) → Has e → IsSame read (found_row columns t) keep inner outer e
  same e has = record {
    same = λ o i. ap (λ n. (record { table = n; ts = e.0.ts }, (found_row columns t e).1)) (sym (eqb-true e.0.table t.0 o));
    left_out = λ o i. left_by e (all_hold ps (found_row columns t e).1) has refl o i;
    outside = λ o. and_left (outer e) (nat_le lo e.0.ts && nat_le e.0.ts hi) o;
  }

  same_table : (rows : Rows) → AllByRecursion Has rows → found_of columns ps (entry t) (filter inner rows) ≡ found_in columns ps rows t
  same_table rows has = kept_same read (found_row columns t) keep inner outer rows (all_same rows has)
    where
      all_same : (es : Rows) → AllByRecursion Has es → AllByRecursion (IsSame read (found_row columns t) keep inner outer) es
      all_same [] h = tt
      all_same (e ∷ es) h = (same e h.0, all_same es h.1)

-- ---- the tables that the plan leaves out
module _ (columns : List Column) (ps : List Comparison) (rows : Rows) where
  no_row : (t : Numbered) → all_hold_of_table (length columns) ps t.1.name t.1.tags ≡ false → found_in columns ps rows t ≡ []
  no_row t h = none_kept (found_row columns t) (λ (e : Key × List Cell). all_hold ps e.1) (λ e. fails columns t.1.name t.1.tags e.0.ts e.1.values ps h) (rows_of t.0 rows)

  -- a table of the source that isn't read has no row that is picked
  left_empty : (source : Source) (t : Numbered) → is_in_source source t ≡ true → is_read source (length columns) ps t ≡ false → found_in columns ps rows t ≡ []
  left_empty (Table n) t in' out = absurd (true≢false (sym in' ∙ out))
  left_empty (Stable n) t in' out = no_row t (rest (is_under n t.1) (all_hold_of_table (length columns) ps t.1.name t.1.tags) in' out)
    where
      rest : (a b : Bool) → a ≡ true → (a && b) ≡ false → b ≡ false
      rest true b h k = k
      rest false b h k = absurd (true≢false (sym h))
  left_empty Other t in' out = absurd (true≢false (sym in'))

  -- a table that is read is one of the source
  read_within : (source : Source) (t : Numbered) → is_in_source source t ≡ false → is_read source (length columns) ps t ≡ false
  read_within (Table n) t out = out
  read_within (Stable n) t out = and_left (is_under n t.1) (all_hold_of_table (length columns) ps t.1.name t.1.tags) out
  read_within Other t out = refl

  module _ (source : Source) (f : Listed → Found) (each : (t : Numbered) → f (entry t) ≡ found_in columns ps rows t) where
    abbrev is_left : Numbered → Bool
    is_left t = is_read source (length columns) ps t

    all_by : (t : Numbered) (ts : List Numbered) (i r : Bool) → is_in_source source t ≡ i → is_left t ≡ r → flat_map f (map entry (filter is_left ts)) ≡ flat_map (found_in columns ps rows) (filter (is_in_source source) ts)
        → flat_map f (map entry (cond r (t ∷ filter is_left ts) (filter is_left ts))) ≡ flat_map (found_in columns ps rows) (cond i (t ∷ filter (is_in_source source) ts) (filter (is_in_source source) ts))
    all_by t ts true true in' is rest = ap (λ es. es ++ flat_map f (map entry (filter is_left ts))) (each t) ∙ ap (λ es. found_in columns ps rows t ++ es) rest
    all_by t ts true false in' is rest = rest ∙ sym (ap (λ es. es ++ flat_map (found_in columns ps rows) (filter (is_in_source source) ts)) (left_empty source t in' is))
    all_by t ts false true in' is rest = absurd (true≢false (sym is ∙ read_within source t in'))
    all_by t ts false false in' is rest = rest

    all_tables_in : (ts : List Numbered) → flat_map f (map entry (filter is_left ts)) ≡ flat_map (found_in columns ps rows) (filter (is_in_source source) ts)
    all_tables_in [] = refl
    all_tables_in (t ∷ ts) = all_by t ts (is_in_source source t) (is_left t) refl refl (all_tables_in ts)

-- ---- the timestamps of a plan
module _ (c : Column) (cs : List Column) (ps : List Comparison) (t : Numbered) where
  held_inside : (rows : Rows) → AllByRecursion (λ (e : Key × Row). e.0.ts ≤ LAST_TIMESTAMP) rows → AllByRecursion (Has (c ∷ cs) ps (lowest ps) (highest ps) t) rows
  unfolding Has
  held_inside [] h = tt
  held_inside (e ∷ es) h = (λ held. inside c cs t.1.name t.1.tags e.0.ts e.1.values ps h.0 held, held_inside es h.1)

-- ---- the plan
none_read : (columns : ℕ) (ps : List Comparison) (ts : List Numbered) → filter (is_read Other columns ps) ts ≡ []
none_read columns ps [] = refl
none_read columns ps (t ∷ ts) = none_read columns ps ts

none_in : (ts : List Numbered) → filter (is_in_source Other) ts ≡ []
none_in [] = refl
none_in (t ∷ ts) = none_in ts

picks_over : (q : Query) (s : Schema) (source : Source) (target : Option ℕ) (c : Catalog) (ps : List Comparison) (rows : Rows) → AllByRecursion (λ (e : Key × Row). e.0.ts ≤ LAST_TIMESTAMP) rows → (source ≡ Other) ⊎ (lacks_time s.columns ≡ false)
    → plan_found (plan_over q s (planned source (length s.columns) ps c) ps target) ps rows ≡ picked_of s.columns ps (filter (is_in_source source) (all_tables c)) rows
picks_over q s source target c ps rows late (inl other) =
    let p : List Numbered → Plan = λ ts. plan_over q s ts ps target in
    ap (λ ts. plan_found (p ts) ps rows) (ap (λ o. filter (is_read o (length s.columns) ps) (all_tables c)) other ∙ none_read (length s.columns) ps (all_tables c))
    ∙ sym (ap (λ ts. picked_of s.columns ps ts rows) (ap (λ o. filter (is_in_source o) (all_tables c)) other ∙ none_in (all_tables c)))
picks_over q s source target c ps rows late (inr time) = by s.columns refl time
  where
    by : (columns : List Column) → s.columns ≡ columns → lacks_time columns ≡ false → plan_found (plan_over q s (planned source (length s.columns) ps c) ps target) ps rows ≡ picked_of s.columns ps (filter (is_in_source source) (all_tables c)) rows
    by [] is no_time = absurd (true≢false no_time)
    by (d ∷ ds) is no_time =
        let p : Plan = plan_over q s (planned source (length s.columns) ps c) ps target in
        let each : (t : Numbered) → table_found p ps rows (entry t) ≡ found_in s.columns ps rows t =
        λ t. subst (λ (columns : List Column). found_of columns ps (entry t) (filter (λ (e : Key × Row). is_cut t.0 (lowest ps) (highest ps) e.0) rows) ≡ found_in columns ps rows t) (sym is)
        (same_table (d ∷ ds) ps (lowest ps) (highest ps) t rows (held_inside d ds ps t rows late)) in
        ap (λ xs. put_in_time [] (flat_map (table_found p ps rows) xs)) (entries (planned source (length s.columns) ps c))
        ∙ ap (put_in_time []) (all_tables_in s.columns ps rows source (table_found p ps rows) each (all_tables c))

pub plan_picks : (q : Query) (c : Catalog) (p : Plan) (rows : Rows) → p ≡ plan_of q c → AllByRecursion (λ (e : Key × Row). e.0.ts ≤ LAST_TIMESTAMP) rows → (source_of q.source c ≡ Other) ⊎ (lacks_time (source_schema q.source c).columns ≡ false)
    → plan_found p (comparisons_of p.schema p.query.conds) rows ≡ picked_of (source_schema q.source c).columns (comparisons_of (source_schema q.source c) q.conds) (source_tables q.source c) rows
plan_picks q c p rows plan late time =
    ap (λ (x : Plan). plan_found x (comparisons_of x.schema x.query.conds) rows) plan
    ∙ picks_over q (source_schema q.source c) (source_of q.source c) (target_named q.source c) c (comparisons_of (source_schema q.source c) q.conds) rows late time

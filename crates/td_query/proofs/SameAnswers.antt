-- What a plan answers is what its query answers: the tables and the timestamps that the plan leaves out have no picked row.
use Rattle.std.proofs.Common.{◌≡◌, ℕ, ◌≤◌, ◌⊎◌, inl, inr, Bool, true, false, cond, ◌&&◌, ◌==◌, nat_le, List, [], ◌∷◌, ◌++◌, map, filter, length, Option, Some, refl, sym, ap, subst, ◌∙◌, true≢false, arith}
use Rattle.std.specs.Prelude.{IfSome}
use Rattle.std.specs.List.{AllByRecursion, flat_map}
use Rattle.std.proofs.lemmas.Bool.Decides.{nat_tests}
use Rattle.std.proofs.lemmas.Bool.{and_left, and_from, and_parts, eqb-true}
use Rattle.td_layer.specs.Scans.{rows_in}
use Rattle.td_layer.specs.declared.values.Key.{Key}
use Rattle.td_layer.specs.declared.values.Row.{Row}
use Rattle.td_layer.specs.declared.values.Cell.{Cell}
use Rattle.td_limits.specs.declared.limits.TheConstants.{LAST_TIMESTAMP}
use Rattle.td_fields.proofs.OneTable.{one_is}
use Rattle.td_model.specs.Built.{is_whole, is_row_query}
use Rattle.td_model.specs.declared.catalog.Column.{Column}
use Rattle.td_model.specs.declared.catalog.Schema.{Schema}
use Rattle.td_model.specs.declared.language.PartBy.{PartBy}
use Rattle.td_model.specs.declared.language.Query.{Query}
use Rattle.td_model.specs.declared.plan.Plan.{Plan}
use Rattle.td_model.specs.Catalog.{Catalog, target_named}
use Rattle.td_model.specs.State.{State, Rows}
use Rattle.td_verdict.specs.declared.comparison.Comparison.{Comparison}
use Rattle.td_verdict.specs.declared.source.Source.{Source}
use Rattle.td_verdict.specs.declared.source.Source.TheVariants.{Table, Stable, Other}
use Rattle.td_verdict.specs.Names.{lacks_time}
use Rattle.td_verdict.specs.Fields.{all_hold, comparisons_of}
use Rattle.td_verdict.specs.Parts.{part_of}
use Rattle.td_verdict.specs.Queries.{source_of, source_schema}
use Rattle.td_verdict.specs.Plans.{Numbered, all_tables, is_under, is_in_source, is_read, planned, all_hold_of_table, lowest, highest, plan_over, plan_of, reads_one}
use Rattle.td_verdict.specs.Answers.{Found, rows_of, found_row, put_in_time, picked_of, picked, answer_of, shown_places}
use Rattle.td_verdict.specs.Answers as rowwise
use Rattle.td_verdict.specs.Answered.{answer_of_groups, groups_answer, answer}
use Rattle.td_verdict.specs.Groups.{Listed, listed_table, cells_of, is_picked, picked_rows, has_one_group, groups_from}
use Rattle.td_verdict.specs.Sound.{IsSound}
use Rattle.td_query.specs.Planned.{tables_from, tables_of, keyed, picked_from, picked_in, found_of, groups_of, row_answer, plan_answer}
use Rattle.td_query.proofs.Places.{fails}
use Rattle.td_query.proofs.ShownGroups.{some, is_some, groups_by_some}
use Rattle.td_query.proofs.Sound.{rows_late, source_time}
use Rattle.td_query.proofs.Times.{inside}

-- ---- the tables of a plan
module _ (q : Query) (s : Schema) where
  abbrev listed : Numbered → Listed
  listed t = listed_table s q t

  listed_all : (ts : List Numbered) → tables_from (map (λ (t : Numbered). t.0) ts) (map (λ (t : Numbered). part_of s q.parts t.1.name t.1.tags) ts) (map (λ (t : Numbered). t.1.name) ts) (map (λ (t : Numbered). t.1.tags) ts) ≡ map listed ts
  listed_all [] = refl
  listed_all (t ∷ ts) = ap (λ xs. listed t ∷ xs) (listed_all ts)

  no_parts : (parts : List PartBy) → (length parts == 0) ≡ true → parts ≡ []
  no_parts [] e = refl
  no_parts (p ∷ ps) e = absurd (grind (arith, nat_tests))

  whole_parts : has_one_group q ≡ true → (ts : List Numbered) → AllByRecursion (λ (t : Listed). t.part ≡ []) (map listed ts)
  whole_parts one [] = tt
  whole_parts one (t ∷ ts) =
      let none : q.parts ≡ [] = no_parts q.parts (and_parts (is_whole q.window) (length q.parts == 0) one).1 in
      (ap (λ (parts : List PartBy). part_of s parts t.1.name t.1.tags) none, whole_parts one ts)

-- ---- the rows of one table
module _ (columns : List Column) (ps : List Comparison) (lo hi : ℕ) (t : Listed) where
  -- a row of which all comparisons are true lies in the range of timestamps
  Has : Key × Row → Type 0
  Has e = is_picked columns ps t e ≡ true → (nat_le lo e.0.ts && nat_le e.0.ts hi) ≡ true

  abbrev inner : Key × Row → Bool
  inner e = (e.0.table == t.number) && (nat_le lo e.0.ts && nat_le e.0.ts hi)

  abbrev outer : Key × Row → Bool
  outer e = e.0.table == t.number

  abbrev read : Rows → Rows
  read es = filter (is_picked columns ps t) (map (keyed t.number) (map (λ (e : Key × Row). (e.0.ts, e.1)) es))

  abbrev kept : Rows → Rows
  kept es = filter (is_picked columns ps t) es

  missed : (e : Key × Row) (held : Bool) → is_picked columns ps t e ≡ held → Has e → outer e ≡ true → inner e ≡ false → held ≡ false
  unfolding Has
  missed e true is has o i = sym (and_from (outer e) (nat_le lo e.0.ts && nat_le e.0.ts hi) o (has is)) ∙ i
  missed e false is has o i = refl

  rows_by : (e : Key × Row) (es : Rows) (i o : Bool) → inner e ≡ i → outer e ≡ o → Has e → read (filter inner es) ≡ kept (filter outer es)
      → read (cond i (e ∷ filter inner es) (filter inner es)) ≡ kept (cond o (e ∷ filter outer es) (filter outer es))
  rows_by e es true true i o has rest =
      let same : keyed t.number (e.0.ts, e.1) ≡ e = ap (λ n. (record { table = n; ts = e.0.ts }, e.1)) (sym (eqb-true e.0.table t.number o)) in
      ap (λ (x : Key × Row). cond (is_picked columns ps t x) (x ∷ read (filter inner es)) (read (filter inner es))) same
      ∙ ap (λ r. cond (is_picked columns ps t e) (e ∷ r) r) rest
  rows_by e es true false i o has rest = absurd (true≢false (sym i ∙ and_left (outer e) (nat_le lo e.0.ts && nat_le e.0.ts hi) o))
  rows_by e es false true i o has rest =
      rest ∙ sym (ap (λ b. cond b (e ∷ kept (filter outer es)) (kept (filter outer es))) (missed e (is_picked columns ps t e) refl has o i))
  rows_by e es false false i o has rest = rest

  same_rows : (rows : Rows) → AllByRecursion Has rows → picked_from columns ps t (rows_in t.number lo hi rows) ≡ picked_rows columns ps rows t
  same_rows [] has = refl
  same_rows (e ∷ es) has = rows_by e es (inner e) (outer e) refl refl has.0 (same_rows es has.1)

module _ (c : Column) (cs : List Column) (ps : List Comparison) (t : Listed) where
  all_inside : (rows : Rows) → AllByRecursion (λ (e : Key × Row). e.0.ts ≤ LAST_TIMESTAMP) rows → AllByRecursion (Has (c ∷ cs) ps (lowest ps) (highest ps) t) rows
  unfolding Has
  all_inside [] late = tt
  all_inside (e ∷ es) late = (λ held. inside c cs t.name t.tags e.0.ts e.1.values ps late.0 held, all_inside es late.1)

pub same_picked : (columns : List Column) (ps : List Comparison) (t : Listed) (rows : Rows) → AllByRecursion (λ (e : Key × Row). e.0.ts ≤ LAST_TIMESTAMP) rows → lacks_time columns ≡ false
    → picked_from columns ps t (rows_in t.number (lowest ps) (highest ps) rows) ≡ picked_rows columns ps rows t
same_picked [] ps t rows late time = absurd (true≢false time)
same_picked (c ∷ cs) ps t rows late time = same_rows (c ∷ cs) ps (lowest ps) (highest ps) t rows (all_inside c cs ps t rows late)

-- ---- the tables that the plan leaves out
module _ (columns : List Column) (ps : List Comparison) (rows : Rows) where
  abbrev picks : Listed → Rows
  picks t = picked_rows columns ps rows t

  none_kept : (t : Listed) → ((e : Key × Row) → is_picked columns ps t e ≡ false) → (es : Rows) → filter (is_picked columns ps t) es ≡ []
  none_kept t none [] = refl
  none_kept t none (e ∷ es) = ap (λ b. cond b (e ∷ filter (is_picked columns ps t) es) (filter (is_picked columns ps t) es)) (none e) ∙ none_kept t none es

  no_row : (t : Listed) → all_hold_of_table (length columns) ps t.name t.tags ≡ false → picks t ≡ []
  no_row t h = none_kept t (λ e. fails columns t.name t.tags e.0.ts e.1.values ps h) (rows_of t.number rows)

  module _ (q : Query) (s : Schema) where
    -- a table of the source that isn't read has no picked row
    left_empty : (source : Source) (t : Numbered) → is_in_source source t ≡ true → is_read source (length columns) ps t ≡ false → picks (listed_table s q t) ≡ []
    left_empty (Table n) t in' out = absurd (true≢false (sym in' ∙ out))
    left_empty (Stable n) t in' out = no_row (listed_table s q t) (rest (is_under n t.1) (all_hold_of_table (length columns) ps t.1.name t.1.tags) in' out)
      where
        rest : (a b : Bool) → a ≡ true → (a && b) ≡ false → b ≡ false
        rest true b h k = k
        rest false b h k = absurd (true≢false (sym h))
    left_empty Other t in' out = absurd (true≢false (sym in'))

    -- a table that is read is one of the source
    read_within : (source : Source) (t : Numbered) → is_in_source source t ≡ false → is_read source (length columns) ps t ≡ false
    read_within (Table n) t out = out
    read_within (Stable n) t out = and_left (is_under n t.1) (all_hold_of_table (length columns) ps t.1.name t.1.tags) out
    read_within Other t out = refl

    module _ (source : Source) where
      abbrev reads : Numbered → Bool
      reads t = is_read source (length columns) ps t

      abbrev holds : Numbered → Bool
      holds t = is_in_source source t

      abbrev those : List Numbered → List Listed
      those ts = filter (is_some picks) (map (listed_table s q) ts)

      those_by : (t : Numbered) (ts : List Numbered) (i r : Bool) → holds t ≡ i → reads t ≡ r → those (filter reads ts) ≡ those (filter holds ts)
          → those (cond r (t ∷ filter reads ts) (filter reads ts)) ≡ those (cond i (t ∷ filter holds ts) (filter holds ts))
      those_by t ts true true in' is rest = ap (λ xs. cond (some (picks (listed_table s q t))) (listed_table s q t ∷ xs) xs) rest
      those_by t ts true false in' is rest = rest ∙ sym (ap (λ (es : Rows). cond (some es) (listed_table s q t ∷ those (filter holds ts)) (those (filter holds ts))) (left_empty source t in' is))
      those_by t ts false true in' is rest = absurd (true≢false (sym is ∙ read_within source t in'))
      those_by t ts false false in' is rest = rest

      -- the tables that are read and those of the source are the same where they have picked rows
      same_those : (ts : List Numbered) → those (filter reads ts) ≡ those (filter holds ts)
      same_those [] = refl
      same_those (t ∷ ts) = those_by t ts (holds t) (reads t) refl refl (same_those ts)

-- ---- what is picked for a row query
module _ (columns : List Column) (ps : List Comparison) (rows : Rows) where
  abbrev found : Listed → Found
  found t = map (λ (e : Key × Row). (e.0, cells_of columns t e)) (picked_rows columns ps rows t)

  module _ (q : Query) (s : Schema) where
    kept_by : (t : Numbered) (e : Key × Row) (es : Rows) (held : Bool) → filter (λ (e : Key × List Cell). all_hold ps e.1) (map (found_row columns t) es) ≡ map (λ (e : Key × Row). (e.0, cells_of columns (listed_table s q t) e)) (filter (is_picked columns ps (listed_table s q t)) es)
        → cond held (found_row columns t e ∷ filter (λ (e : Key × List Cell). all_hold ps e.1) (map (found_row columns t) es)) (filter (λ (e : Key × List Cell). all_hold ps e.1) (map (found_row columns t) es))
        ≡ map (λ (e : Key × Row). (e.0, cells_of columns (listed_table s q t) e)) (cond held (e ∷ filter (is_picked columns ps (listed_table s q t)) es) (filter (is_picked columns ps (listed_table s q t)) es))
    kept_by t e es true rest = ap (λ xs. found_row columns t e ∷ xs) rest
    kept_by t e es false rest = rest

    kept_found : (t : Numbered) (es : Rows) → filter (λ (e : Key × List Cell). all_hold ps e.1) (map (found_row columns t) es) ≡ map (λ (e : Key × Row). (e.0, cells_of columns (listed_table s q t) e)) (filter (is_picked columns ps (listed_table s q t)) es)
    kept_found t [] = refl
    kept_found t (e ∷ es) = kept_by t e es (is_picked columns ps (listed_table s q t) e) (kept_found t es)

    all_found : (ts : List Numbered) → flat_map (rowwise.found_in columns ps rows) ts ≡ flat_map found (map (listed_table s q) ts)
    all_found [] = refl
    all_found (t ∷ ts) = ap (λ xs. xs ++ flat_map (rowwise.found_in columns ps rows) ts) (kept_found t (rows_of t.0 rows)) ∙ ap (λ xs. found (listed_table s q t) ++ xs) (all_found ts)

  some_by : (t : Listed) (ts : List Listed) (picked : Rows) → picked_rows columns ps rows t ≡ picked → flat_map found ts ≡ flat_map found (filter (is_some (picked_rows columns ps rows)) ts)
      → map (λ (e : Key × Row). (e.0, cells_of columns t e)) picked ++ flat_map found ts ≡ flat_map found (cond (some picked) (t ∷ filter (is_some (picked_rows columns ps rows)) ts) (filter (is_some (picked_rows columns ps rows)) ts))
  some_by t ts [] is rest = rest
  some_by t ts (e ∷ es) is rest =
      ap (λ xs. map (λ (e : Key × Row). (e.0, cells_of columns t e)) (e ∷ es) ++ xs) rest
      ∙ ap (λ (es : Rows). map (λ (e : Key × Row). (e.0, cells_of columns t e)) es ++ flat_map found (filter (is_some (picked_rows columns ps rows)) ts)) (sym is)

  by_some : (ts : List Listed) → flat_map found ts ≡ flat_map found (filter (is_some (picked_rows columns ps rows)) ts)
  by_some [] = refl
  by_some (t ∷ ts) = some_by t ts (picked_rows columns ps rows t) refl (by_some ts)

-- ---- a source that is there, or none
none_read : (columns : ℕ) (ps : List Comparison) (ts : List Numbered) → filter (is_read Other columns ps) ts ≡ []
none_read columns ps [] = refl
none_read columns ps (t ∷ ts) = none_read columns ps ts

none_in : (ts : List Numbered) → filter (is_in_source Other) ts ≡ []
none_in [] = refl
none_in (t ∷ ts) = none_in ts

module _ (q : Query) (s : Schema) (target : Option ℕ) (c : Catalog) (ps : List Comparison) (rows : Rows) (late : AllByRecursion (λ (e : Key × Row). e.0.ts ≤ LAST_TIMESTAMP) rows) where
  abbrev plan : Source → Plan
  plan source = plan_over q s (planned source (length s.columns) ps c) ps target

  abbrev of_source : Source → List Numbered
  of_source source = filter (is_in_source source) (all_tables c)

  abbrev none_planned : Plan
  none_planned = plan_over q s [] ps target

  tables_are : (source : Source) → tables_of (plan source) ≡ map (listed_table s q) (planned source (length s.columns) ps c)
  tables_are source = listed_all q s (planned source (length s.columns) ps c)

  each : (source : Source) → lacks_time s.columns ≡ false → picked_in (plan source) ps rows ≡ picked_rows s.columns ps rows
  each source time = λ i t. same_picked s.columns ps t rows late time i

  picks_over : (source : Source) → (source ≡ Other) ⊎ (lacks_time s.columns ≡ false) → found_of (plan source) ps rows ≡ picked_of s.columns ps (of_source source) rows
  picks_over source (inl other) =
      ap (λ o. found_of (plan o) ps rows) other
      ∙ ap (λ ts. found_of (plan_over q s ts ps target) ps rows) (none_read (length s.columns) ps (all_tables c))
      ∙ sym (ap (λ o. picked_of s.columns ps (of_source o) rows) other ∙ ap (λ ts. picked_of s.columns ps ts rows) (none_in (all_tables c)))
  picks_over source (inr time) =
      ap (λ (picks : Listed → Rows). put_in_time [] (flat_map (λ (t : Listed). map (λ (e : Key × Row). (e.0, cells_of s.columns t e)) (picks t)) (tables_of (plan source)))) (each source time)
      ∙ ap (put_in_time []) (
      ap (flat_map (found s.columns ps rows)) (tables_are source)
      ∙ by_some s.columns ps rows (map (listed_table s q) (planned source (length s.columns) ps c))
      ∙ ap (flat_map (found s.columns ps rows)) (same_those s.columns ps rows q s source (all_tables c))
      ∙ sym (by_some s.columns ps rows (map (listed_table s q) (of_source source)))
      ∙ sym (all_found s.columns ps rows q s (of_source source)))

  groups_over : (source : Source) → (source ≡ Other) ⊎ (lacks_time s.columns ≡ false)
      → groups_of (plan source) ps rows ≡ groups_from (has_one_group q) (picked_rows s.columns ps rows) (map (listed_table s q) (of_source source))
  groups_over source (inl other) =
      ap (λ o. groups_of (plan o) ps rows) other
      ∙ ap (λ ts. groups_of (plan_over q s ts ps target) ps rows) (none_read (length s.columns) ps (all_tables c))
      ∙ sym (ap (λ o. groups_from (has_one_group q) (picked_rows s.columns ps rows) (map (listed_table s q) (of_source o))) other ∙ ap (λ ts. groups_from (has_one_group q) (picked_rows s.columns ps rows) (map (listed_table s q) ts)) (none_in (all_tables c)))
  groups_over source (inr time) =
      ap (λ (picks : Listed → Rows). groups_from (has_one_group q) picks (tables_of (plan source))) (each source time)
      ∙ ap (groups_from (has_one_group q) (picked_rows s.columns ps rows)) (tables_are source)
      ∙ groups_by_some (picked_rows s.columns ps rows) (has_one_group q) (map (listed_table s q) (planned source (length s.columns) ps c)) (map (listed_table s q) (of_source source))
      (λ one. whole_parts q s one (planned source (length s.columns) ps c))
      (λ one. whole_parts q s one (of_source source))
      (same_those s.columns ps rows q s source (all_tables c))

-- ---- the answers
module _ (q : Query) (s : State) (sound : IsSound s) where
  abbrev schema : Schema
  schema = source_schema q.source s.catalog

  abbrev comparisons : List Comparison
  comparisons = comparisons_of (source_schema q.source s.catalog) q.conds

  row_answers : row_answer (plan_of q s.catalog) comparisons s.rows ≡ rowwise.row_answer q s
  row_answers =
      ap (answer_of q (shown_places (reads_one (plan_of q s.catalog)) schema q)) (picks_over q schema (target_named q.source s.catalog) s.catalog comparisons s.rows (rows_late s sound) (source_of q.source s.catalog) (source_time q s.catalog sound.catalog))
      ∙ ap (λ b. answer_of q (shown_places b schema q) (picked q s)) (one_is q s.catalog)

  groups_answers : answer_of_groups schema.columns q (groups_of (plan_of q s.catalog) comparisons s.rows) ≡ groups_answer q s
  groups_answers =
      ap (answer_of_groups schema.columns q) (groups_over q schema (target_named q.source s.catalog) s.catalog comparisons s.rows (rows_late s sound) (source_of q.source s.catalog) (source_time q s.catalog sound.catalog))

  pub same_answers : plan_answer (plan_of q s.catalog) s.rows ≡ answer q s
  same_answers =
      ap (λ rows. cond (is_row_query q) rows (answer_of_groups schema.columns q (groups_of (plan_of q s.catalog) comparisons s.rows))) row_answers
      ∙ ap (λ rows. cond (is_row_query q) (rowwise.row_answer q s) rows) groups_answers

-- ---- what is true of the rows that are read of a snapshot is true of the answer
module _ (P : List (List Cell) → Type 0) (q : Query) (s : State) (sound : IsSound s) (p : Plan) (rows : Option Rows) (told : p ≡ plan_of q s.catalog) (are : rows ≡ Some s.rows) where
  planned_is : (by_kind : Bool) → is_row_query p.query ≡ by_kind → cond by_kind (row_answer p (comparisons_of p.schema p.query.conds) s.rows) (answer_of_groups p.schema.columns p.query (groups_of p (comparisons_of p.schema p.query.conds) s.rows)) ≡ answer q s
  planned_is by_kind is =
      sym (ap (λ b. cond b (row_answer p (comparisons_of p.schema p.query.conds) s.rows) (answer_of_groups p.schema.columns p.query (groups_of p (comparisons_of p.schema p.query.conds) s.rows))) is)
      ∙ ap (λ (x : Plan). plan_answer x s.rows) told
      ∙ same_answers q s sound

  pub of_rows : is_row_query p.query ≡ true → IfSome rows (λ all. P (row_answer p (comparisons_of p.schema p.query.conds) all)) → P (answer q s)
  of_rows is so = subst P (planned_is true is) (subst (λ (o : Option Rows). IfSome o (λ all. P (row_answer p (comparisons_of p.schema p.query.conds) all))) are so)

  pub of_groups : is_row_query p.query ≡ false → IfSome rows (λ all. P (answer_of_groups p.schema.columns p.query (groups_of p (comparisons_of p.schema p.query.conds) all))) → P (answer q s)
  of_groups is so = subst P (planned_is false is) (subst (λ (o : Option Rows). IfSome o (λ all. P (answer_of_groups p.schema.columns p.query (groups_of p (comparisons_of p.schema p.query.conds) all)))) are so)

-- The rows of a row query's answer can be printed.
use Rattle.std.proofs.Common.{ℕ, zero, suc, ◌+◌, ℤ, Bool, true, false, cond, ◌==◌, List, [], ◌∷◌, map, take, drop, Option, Some, None, sym, subst}
use Rattle.std.specs.Prelude.{reverse, slice_get}
use Rattle.std.specs.declared.cmp.Ordering.TheVariants.{Less, Equal, Greater}
use Rattle.std.specs.Ordering.{match_ordering}
use Rattle.std.specs.BTreeMap.{insert_entry}
use Rattle.std.specs.List.{AllByRecursion, flat_map}
use Rattle.std.proofs.lemmas.List.{reverse-append}
use Rattle.td_layer.specs.declared.values.Key.{Key}
use Rattle.td_layer.specs.declared.values.Row.{Row}
use Rattle.td_layer.specs.declared.values.Cell.{Cell}
use Rattle.td_layer.specs.declared.values.Cell.TheVariants as cell
use Rattle.td_model.specs.declared.catalog.Column.{Column}
use Rattle.td_model.specs.declared.catalog.TableDef.{TableDef}
use Rattle.td_model.specs.declared.language.Query.{Query}
use Rattle.td_model.specs.Printable.{IsPrintableCell, IsPrintableRow}
use Rattle.td_model.specs.State.{State, Rows}
use Rattle.td_verdict.specs.declared.comparison.Comparison.{Comparison}
use Rattle.td_verdict.specs.Answers.{Found, rows_of, found_row, found_in, time_cmp, put_in_time, picked, shown_places, shown, is_desc, ordered, count_from, limited, cut, row_answer}
use Rattle.td_verdict.specs.Fields.{comparisons_of, all_hold}
use Rattle.td_verdict.specs.Plans.{Numbered, numbered, all_tables, is_in_source, source_tables}
use Rattle.td_verdict.specs.Queries.{reads_table, source_of, source_schema}
use Rattle.td_verdict.specs.Sound.{IsSound}
use Rattle.td_printed.proofs.Says.{all_append}
use Rattle.td_printed.proofs.Kept.{all_filtered}
use Rattle.td_printed.proofs.Lists.{all_mapped, either_value, if_at}
use Rattle.td_printed.proofs.Cells.{IsGood, row_prints, rows_good, tables_print}

-- ---- lists

pub all_flat : {X Y : Type 0} (P : X → Type 0) (Q : Y → Type 0) (f : X → List Y) (xs : List X)
    → ((x : X) → P x → AllByRecursion Q (f x)) → AllByRecursion P xs → AllByRecursion Q (flat_map f xs)
all_flat P Q f [] k h = tt
all_flat P Q f (x ∷ xs) k h = all_append Q (f x) (flat_map f xs) (k x h.0) (all_flat P Q f xs k h.1)

all_taken : {X : Type 0} (P : X → Type 0) (n : ℕ) (xs : List X) → AllByRecursion P xs → AllByRecursion P (take n xs)
all_taken P zero xs h = tt
all_taken P (suc n) [] h = tt
all_taken P (suc n) (x ∷ xs) h = (h.0, all_taken P n xs h.1)

all_dropped : {X : Type 0} (P : X → Type 0) (n : ℕ) (xs : List X) → AllByRecursion P xs → AllByRecursion P (drop n xs)
all_dropped P zero xs h = h
all_dropped P (suc n) [] h = tt
all_dropped P (suc n) (x ∷ xs) h = all_dropped P n xs h.1

pub all_reversed : {X : Type 0} (P : X → Type 0) (xs : List X) → AllByRecursion P xs → AllByRecursion P (reverse xs)
all_reversed P [] h = tt
all_reversed P (x ∷ xs) h = subst (AllByRecursion P) (sym (reverse-append (x ∷ []) xs))
    (all_append P (reverse xs) (x ∷ []) (all_reversed P xs h.1) (h.0, tt))

all_limited : {X : Type 0} (P : X → Type 0) (limit : Option ℤ) (xs : List X) → AllByRecursion P xs
    → AllByRecursion P (limited limit xs)
all_limited P None xs h = h
all_limited P (Some n) xs h = all_taken P (count_from n) xs h

pub all_cut : {X : Type 0} (P : X → Type 0) (q : Query) (xs : List X) → AllByRecursion P xs
    → AllByRecursion P (cut q xs)
all_cut P q xs h = all_limited P q.limit (drop (count_from q.skip) xs) (all_dropped P (count_from q.skip) xs h)

-- ---- rows that are found

abbrev FoundPrints : (Key × List Cell) → Type 0
FoundPrints e = IsPrintableRow e.1

abbrev pub TagsPrint : Numbered → Type 0
TagsPrint t = IsPrintableRow t.1.tags

put_prints : (found : Found) (k : Key) (cells : List Cell) → AllByRecursion FoundPrints found → IsPrintableRow cells
    → AllByRecursion FoundPrints (insert_entry time_cmp found k cells)
put_prints [] k cells h c = (c, tt)
put_prints (e ∷ es) k cells h c =
    elim (time_cmp k e.0) as
    (λ o. AllByRecursion FoundPrints
    (match_ordering o ((k, cells) ∷ e ∷ es) ((e.0, cells) ∷ es) (e ∷ insert_entry time_cmp es k cells))) [
      | Less ↦ (c, h)
      | Equal ↦ (c, h.1)
      | Greater ↦ (h.0, put_prints es k cells h.1 c)
    ]

in_time_print : (found es : Found) → AllByRecursion FoundPrints found → AllByRecursion FoundPrints es
    → AllByRecursion FoundPrints (put_in_time found es)
in_time_print found [] h i = h
in_time_print found (e ∷ es) h i = in_time_print (insert_entry time_cmp found e.0 e.1) es
    (put_prints found e.0 e.1 h i.0) i.1

found_print : (columns : List Column) (ps : List Comparison) (rows : Rows) (t : Numbered)
    → AllByRecursion IsGood rows → TagsPrint t → AllByRecursion FoundPrints (found_in columns ps rows t)
found_print columns ps rows t h tags =
    all_filtered FoundPrints (λ (e : Key × List Cell). all_hold ps e.1) (map (found_row columns t) (rows_of t.0 rows))
    (all_mapped IsGood FoundPrints (found_row columns t) (rows_of t.0 rows)
    (λ e r. row_prints columns t.1.name t.1.tags e.0.ts e.1.values r.time r.values tags)
    (all_filtered IsGood (λ (e : Key × Row). e.0.table == t.0) rows h))

numbered_print : (n : ℕ) (ts : List TableDef) → AllByRecursion (λ (t : TableDef). IsPrintableRow t.tags) ts
    → AllByRecursion TagsPrint (numbered n ts)
numbered_print n [] h = tt
numbered_print n (t ∷ ts) h = (h.0, numbered_print (n + 1) ts h.1)

pub source_print : (q : Query) (s : State) → IsSound s → AllByRecursion TagsPrint (source_tables q.source s.catalog)
source_print q s sound = all_filtered TagsPrint (is_in_source (source_of q.source s.catalog)) (all_tables s.catalog)
    (numbered_print 1 s.catalog.tables (tables_print s.catalog sound.catalog))

picked_print : (q : Query) (s : State) → IsSound s → AllByRecursion FoundPrints (picked q s)
picked_print q s sound =
    let columns : List Column = (source_schema q.source s.catalog).columns in
    let ps : List Comparison = comparisons_of (source_schema q.source s.catalog) q.conds in
    let tables : List Numbered = source_tables q.source s.catalog in
    in_time_print [] (flat_map (found_in columns ps s.rows) tables) tt
    (all_flat TagsPrint FoundPrints (found_in columns ps s.rows) tables
    (λ t h. found_print columns ps s.rows t (rows_good s sound) h) (source_print q s sound))

-- ---- what is shown of them

shown_print : (places : List ℕ) (cells : List Cell) → IsPrintableRow cells → IsPrintableRow (shown places cells)
shown_print [] cells h = tt
shown_print (place ∷ places) cells h = (
  either_value IsPrintableCell (slice_get cells place) cell.Null (if_at IsPrintableCell cells place h) tt,
  shown_print places cells h,
)

ordered_print : (falls : Bool) (found : Found) → AllByRecursion FoundPrints found
    → AllByRecursion FoundPrints (cond falls (reverse found) found)
ordered_print true found h = all_reversed FoundPrints found h
ordered_print false found h = h

pub row_answer_prints : (q : Query) (s : State) → IsSound s → AllByRecursion IsPrintableRow (row_answer q s)
row_answer_prints q s sound =
    let places : List ℕ = shown_places (reads_table q s.catalog) (source_schema q.source s.catalog) q in
    let rows : Found = ordered q.order (picked q s) in
    all_mapped FoundPrints IsPrintableRow (λ (e : Key × List Cell). shown places e.1) (cut q rows)
    (λ e h. shown_print places e.1 h)
    (all_cut FoundPrints q rows
    (ordered_print (is_desc q.order) (picked q s) (picked_print q s sound)))

-- The rows of a query's groups are such as the state has, and all groups together have no more of them than it has.
use Rattle.std.proofs.Common.{◌≡◌, ℕ, ◌+◌, ◌≤◌, Bool, true, false, cond, ◌==◌, List, [], ◌∷◌, length, map, Option, Some, None, refl, arith}
use Rattle.std.specs.Prelude.{filter, nat_le, slice_get}
use Rattle.std.specs.declared.cmp.Ordering.TheVariants.{Less, Equal, Greater}
use Rattle.std.specs.BTreeMap.{insert_entry}
use Rattle.std.specs.List.{AllByRecursion}
use Rattle.std.specs.Option.{option_and_then, unwrap_or}
use Rattle.std.specs.Ordering.{match_ordering}
use Rattle.std.proofs.lemmas.Bool.Decides.{nat_tests}
use Rattle.td_layer.specs.declared.values.Cell.{Cell}
use Rattle.td_layer.specs.declared.values.Cell.TheVariants as cell
use Rattle.td_layer.specs.declared.values.Key.{Key}
use Rattle.td_layer.specs.declared.values.Row.{Row}
use Rattle.td_model.specs.declared.catalog.Schema.{Schema}
use Rattle.td_model.specs.declared.catalog.TableDef.{TableDef}
use Rattle.td_model.specs.declared.language.PartBy.{PartBy}
use Rattle.td_model.specs.declared.language.PartBy.TheVariants as part
use Rattle.td_model.specs.declared.language.Query.{Query}
use Rattle.td_model.specs.Printable.{IsPrintableCell, IsPrintableRow}
use Rattle.td_model.specs.State.{State, Rows}
use Rattle.td_verdict.specs.declared.comparison.Comparison.{Comparison}
use Rattle.td_verdict.specs.Answers.{time_cmp, rows_of}
use Rattle.td_verdict.specs.Fields.{comparisons_of}
use Rattle.td_verdict.specs.Groups.{Listed, listed_table, is_picked, picked_rows, put_rows, Grouped, with_rows, empty_group, put_group, put_tables, has_one_group, first_groups, is_shown, groups}
use Rattle.td_verdict.specs.Parts.{part_cmp, part_of}
use Rattle.td_verdict.specs.Plans.{Numbered, numbered, is_in_source, source_tables}
use Rattle.td_verdict.specs.Queries.{source_of, source_schema}
use Rattle.td_verdict.specs.Sound.{IsSound}
use Rattle.td_verdict.specs.Writes.{place_of}
use Rattle.td_printed.proofs.Cells.{IsGood, rows_good}
use Rattle.td_printed.proofs.Kept.{all_filtered}
use Rattle.td_printed.proofs.Lists.{either_value, if_at, all_mapped, length_filtered, length_inserted}
use Rattle.td_printed.proofs.Rows.{TagsPrint, source_print}

-- ---- the parts of tables

pub placed_prints : (cells : List Cell) (place : Option ℕ) → IsPrintableRow cells
    → IsPrintableCell (unwrap_or (option_and_then (slice_get cells) place) cell.Null)
placed_prints cells None h = tt
placed_prints cells (Some place) h =
    either_value IsPrintableCell (slice_get cells place) cell.Null (if_at IsPrintableCell cells place h) tt

parts_print : (s : Schema) (parts : List PartBy) (name : List ℕ) (tags : List Cell) → IsPrintableRow tags
    → IsPrintableRow (part_of s parts name tags)
parts_print s [] name tags h = tt
parts_print s (part.TbName ∷ parts) name tags h = (tt, parts_print s parts name tags h)
parts_print s (part.Tag tag ∷ parts) name tags h =
    (placed_prints tags (place_of s.tags tag) h, parts_print s parts name tags h)

abbrev PartPrints : Listed → Type 0
PartPrints t = IsPrintableRow t.part

listed_print : (s : Schema) (q : Query) (tables : List Numbered) → AllByRecursion TagsPrint tables
    → AllByRecursion PartPrints (map (listed_table s q) tables)
listed_print s q tables h = all_mapped TagsPrint PartPrints (listed_table s q) tables
    (λ t k. parts_print s q.parts t.1.name t.1.tags k) h

-- ---- how many rows

length_put : (rows es : Rows) → length (put_rows rows es) ≤ length rows + length es
length_put rows [] = omega arith
length_put rows (e ∷ es) =
    let more = length_inserted time_cmp (put_rows rows es) e.0 e.1 in
    let rest = length_put rows es in
    omega (arith, more, rest)

-- the rows of groups together
abbrev size : List Grouped → ℕ
size [] = 0
size (g ∷ gs) = length g.rows + size gs

size_put : (part : List Cell) (rows : Rows) (gs : List Grouped)
    → size (put_group part rows gs) ≤ size gs + length rows
size_put part rows [] = let own = length_put [] rows in omega (arith, own)
size_put part rows (g ∷ gs) =
    let own = length_put [] rows in
    let more = length_put g.rows rows in
    let rest = size_put part rows gs in
    elim (part_cmp part g.part) as
    (λ o. size
    (match_ordering o (with_rows (empty_group part) rows ∷ g ∷ gs) (with_rows g rows ∷ gs)
    (g ∷ put_group part rows gs)) ≤ size (g ∷ gs) + length rows) [
      | Less ↦ omega (arith, own)
      | Equal ↦ omega (arith, more)
      | Greater ↦ omega (arith, rest)
    ]

-- the rows that are picked of tables together
abbrev sizes : (Listed → Rows) → List Listed → ℕ
sizes picked [] = 0
sizes picked (t ∷ ts) = length (picked t) + sizes picked ts

size_tables : (picked : Listed → Rows) (gs : List Grouped) (ts : List Listed)
    → size (put_tables picked gs ts) ≤ size gs + sizes picked ts
size_tables picked gs [] = omega arith
size_tables picked gs (t ∷ ts) =
    let one = size_put t.part (picked t) gs in
    let rest = size_tables picked (put_group t.part (picked t) gs) ts in
    omega (arith, one, rest)

-- ---- tables have different numbers

abbrev rows_from : ℕ → Rows → Rows
rows_from n rows = filter (λ (e : Key × Row). nat_le n e.0.table) rows

abbrev weight : Bool → ℕ
weight true = 1
weight false = 0

weights : (n table : ℕ) (is after from : Bool) → (table == n) ≡ is → nat_le (n + 1) table ≡ after
    → nat_le n table ≡ from → weight is + weight after ≤ weight from
weights n table true true from p q r = absurd (grind (arith, nat_tests))
weights n table true false true p q r = omega arith
weights n table true false false p q r = absurd (grind (arith, nat_tests))
weights n table false true true p q r = omega arith
weights n table false true false p q r = absurd (grind (arith, nat_tests))
weights n table false false from p q r = omega arith

one_more : {X : Type 0} (keep : X → Bool) (x : X) (xs : List X)
    → length (filter keep (x ∷ xs)) ≡ weight (keep x) + length (filter keep xs)
one_more keep x xs =
    elim (keep x) as
    (λ b. length (cond b (x ∷ filter keep xs) (filter keep xs)) ≡ weight b + length (filter keep xs))
    [ true ↦ omega arith | false ↦ omega arith ]

parted : (n : ℕ) (rows : Rows)
    → length (rows_of n rows) + length (rows_from (n + 1) rows) ≤ length (rows_from n rows)
parted n [] = omega arith
parted n (e ∷ es) =
    let own = one_more (λ (x : Key × Row). x.0.table == n) e es in
    let after = one_more (λ (x : Key × Row). nat_le (n + 1) x.0.table) e es in
    let from = one_more (λ (x : Key × Row). nat_le n x.0.table) e es in
    let here = weights n e.0.table (e.0.table == n) (nat_le (n + 1) e.0.table) (nat_le n e.0.table) refl refl refl in
    let rest = parted n es in
    omega (arith, own, after, from, here, rest)

module _ (s : Schema) (q : Query) (keep : Numbered → Bool) (picked : Listed → Rows) (rows : Rows)
    (own : (t : Listed) → length (picked t) ≤ length (rows_of t.number rows)) where
  sizes_from : (n : ℕ) (ts : List TableDef)
      → sizes picked (map (listed_table s q) (filter keep (numbered n ts))) ≤ length (rows_from n rows)
  sizes_from n [] = omega arith
  sizes_from n (t ∷ ts) =
      let others : List Numbered = filter keep (numbered (n + 1) ts) in
      let one = own (listed_table s q (n, t)) in
      let both = parted n rows in
      let rest = sizes_from (n + 1) ts in
      elim (keep (n, t)) as
      (λ b. sizes picked (map (listed_table s q) (cond b ((n, t) ∷ others) others)) ≤ length (rows_from n rows))
      [ true ↦ omega (arith, one, both, rest) | false ↦ omega (arith, both, rest) ]

-- ---- which rows

put_good : (rows : Rows) (k : Key) (row : Row) → AllByRecursion IsGood rows → IsGood (k, row)
    → AllByRecursion IsGood (insert_entry time_cmp rows k row)
put_good [] k row h good = (good, tt)
put_good (e ∷ es) k row h good =
    elim (time_cmp k e.0) as
    (λ o. AllByRecursion IsGood
    (match_ordering o ((k, row) ∷ e ∷ es) ((e.0, row) ∷ es) (e ∷ insert_entry time_cmp es k row))) [
      | Less ↦ (good, h)
      | Equal ↦ (record { time = h.0.time; values = good.values }, h.1)
      | Greater ↦ (h.0, put_good es k row h.1 good)
    ]

all_put_good : (rows es : Rows) → AllByRecursion IsGood rows → AllByRecursion IsGood es
    → AllByRecursion IsGood (put_rows rows es)
all_put_good rows [] h i = h
all_put_good rows (e ∷ es) h i = put_good (put_rows rows es) e.0 e.1 (all_put_good rows es h i.1) i.0

record IsGoodGroup (g : Grouped) : Type 0 where
  part : IsPrintableRow g.part
  rows : AllByRecursion IsGood g.rows

group_good : (part : List Cell) (rows : Rows) (gs : List Grouped) → IsPrintableRow part → AllByRecursion IsGood rows
    → AllByRecursion IsGoodGroup gs → AllByRecursion IsGoodGroup (put_group part rows gs)
group_good part rows [] p r h = (record { part = p; rows = all_put_good [] rows tt r }, tt)
group_good part rows (g ∷ gs) p r h =
    elim (part_cmp part g.part) as
    (λ o. AllByRecursion IsGoodGroup
    (match_ordering o (with_rows (empty_group part) rows ∷ g ∷ gs) (with_rows g rows ∷ gs)
    (g ∷ put_group part rows gs))) [
      | Less ↦ (record { part = p; rows = all_put_good [] rows tt r }, h)
      | Equal ↦ (record { part = h.0.part; rows = all_put_good g.rows rows h.0.rows r }, h.1)
      | Greater ↦ (h.0, group_good part rows gs p r h.1)
    ]

tables_good : (picked : Listed → Rows) (gs : List Grouped) (ts : List Listed)
    → ((t : Listed) → AllByRecursion IsGood (picked t)) → AllByRecursion PartPrints ts
    → AllByRecursion IsGoodGroup gs → AllByRecursion IsGoodGroup (put_tables picked gs ts)
tables_good picked gs [] good parts h = h
tables_good picked gs (t ∷ ts) good parts h = tables_good picked (put_group t.part (picked t) gs) ts good parts.1
    (group_good t.part (picked t) gs parts.0 (good t) h)

first_good : (one : Bool) → AllByRecursion IsGoodGroup (first_groups one)
first_good true = (record { part = tt; rows = tt }, tt)
first_good false = tt

first_size : (one : Bool) → size (first_groups one) ≡ 0
first_size true = refl
first_size false = refl

-- ---- the groups

-- the cells of its part can be printed, and its rows are good and at most so many
pub record HasGoodRows (n : ℕ) (g : Grouped) : Type 0 where
  pub part : IsPrintableRow g.part
  pub rows : AllByRecursion IsGood g.rows
  pub few : length g.rows ≤ n

each_few : (n : ℕ) (gs : List Grouped) → size gs ≤ n → AllByRecursion IsGoodGroup gs
    → AllByRecursion (HasGoodRows n) gs
each_few n [] few h = tt
each_few n (g ∷ gs) few h = (
  record { part = h.0.part; rows = h.0.rows; few = omega (arith, few) },
  each_few n gs (omega (arith, few)) h.1,
)

pub groups_good : (q : Query) (s : State) → IsSound s → AllByRecursion (HasGoodRows (length s.rows)) (groups q s)
groups_good q s sound =
    let schema : Schema = source_schema q.source s.catalog in
    let ps : List Comparison = comparisons_of schema q.conds in
    let picked : Listed → Rows = picked_rows schema.columns ps s.rows in
    let one : Bool = has_one_group q in
    let keep : Numbered → Bool = is_in_source (source_of q.source s.catalog) in
    let tables : List Listed = map (listed_table schema q) (source_tables q.source s.catalog) in
    let all = tables_good picked (first_groups one) tables
    (λ t. all_filtered IsGood (is_picked schema.columns ps t) (rows_of t.number s.rows)
    (all_filtered IsGood (λ (e : Key × Row). e.0.table == t.number) s.rows (rows_good s sound)))
    (listed_print schema q (source_tables q.source s.catalog) (source_print q s sound)) (first_good one) in
    let own = sizes_from schema q keep picked s.rows
    (λ t. length_filtered (is_picked schema.columns ps t) (rows_of t.number s.rows)) 1 s.catalog.tables in
    let within = length_filtered (λ (e : Key × Row). nat_le 1 e.0.table) s.rows in
    let whole = size_tables picked (first_groups one) tables in
    let none = first_size one in
    let few : size (put_tables picked (first_groups one) tables) ≤ length s.rows =
    omega (arith, own, within, whole, none) in
    all_filtered (HasGoodRows (length s.rows)) (is_shown one) (put_tables picked (first_groups one) tables)
    (each_few (length s.rows) (put_tables picked (first_groups one) tables) few all)

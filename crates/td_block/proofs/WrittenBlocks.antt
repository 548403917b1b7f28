-- The bytes of a block, as they are written one part after another.
use Rattle.std.proofs.Common.{◌≡◌, ℕ, ◌+◌, ◌<◌, List, [], ◌∷◌, ◌++◌, length, get_or, drop, Option, None, refl, sym, ap, subst, ◌∙◌, append_assoc, arith}
use Rattle.std.specs.List.{flat_map, AllByRecursion}
use Rattle.std.specs.Int.{w16, w32, w64, to_le_bytes}
use Rattle.std.proofs.lemmas.List.{append-nil, drop_more, drop_all}
use Rattle.td_cols.specs.declared.kinds.Kind.{Kind}
use Rattle.td_cols.specs.declared.kinds.Kind.TheVariants.{Bool as Truth}
use Rattle.td_layer.specs.declared.values.Value.{Value}
use Rattle.td_block.specs.declared.header.TheConstants.{BLOCK_MAGIC}
use Rattle.td_block.specs.Columns.{column}
use Rattle.td_block.specs.Rows.{Rows, times_of, births_of, column_at, columns_of, IsCellOf, IsRowOf}
use Rattle.td_block.specs.Blocks.{head, columns, block_bytes}
use Rattle.td_block.proofs.RowLaws.{no_row, length-column_at, column_at-cell, length-columns_of, columns_of-column}
use Rattle.td_block.proofs.BlockLaws.{Cells}
use Rattle.td_block.proofs.HoldLaws.{by_recursion, at_place, zip_at}
use Rattle.td_block.proofs.HeaderLaws.{head_bytes, bytes_are}

regroup : (a b c d e : List ℕ) → (((a ++ b) ++ c) ++ d) ++ e ≡ a ++ (b ++ (c ++ (d ++ e)))
regroup a b c d e = append_assoc ((a ++ b) ++ c) d e ∙ append_assoc (a ++ b) c (d ++ e) ∙ append_assoc a b (c ++ (d ++ e))

after_four : (base a b c d x y z w : List ℕ) → a ≡ base ++ x → b ≡ a ++ y → c ≡ b ++ z → d ≡ c ++ w → d ≡ base ++ (x ++ (y ++ (z ++ w)))
after_four base a b c d x y z w a_is b_is c_is d_is =
    d_is ∙ ap (λ (l : List ℕ). l ++ w) (c_is ∙ ap (λ (l : List ℕ). l ++ z) (b_is ∙ ap (λ (l : List ℕ). l ++ y) a_is)) ∙ regroup base x y z w

pub head_written : (table rows count : ℕ) (base a b c d x y z w : List ℕ) → x ≡ to_le_bytes w32 BLOCK_MAGIC → y ≡ to_le_bytes w32 table → z ≡ to_le_bytes w32 rows → w ≡ to_le_bytes w16 count
    → a ≡ base ++ x → b ≡ a ++ y → c ≡ b ++ z → d ≡ c ++ w → d ≡ base ++ (head None).spelled (BLOCK_MAGIC, (table, (rows, count)))
unfolding head
head_written table rows count base a b c d x y z w x_is y_is z_is w_is a_is b_is c_is d_is =
    after_four base a b c d x y z w a_is b_is c_is d_is
    ∙ ap (λ (l : List ℕ). base ++ (l ++ (y ++ (z ++ w)))) x_is
    ∙ ap (λ (l : List ℕ). base ++ (to_le_bytes w32 BLOCK_MAGIC ++ (l ++ (z ++ w)))) y_is
    ∙ ap (λ (l : List ℕ). base ++ (to_le_bytes w32 BLOCK_MAGIC ++ (to_le_bytes w32 table ++ (l ++ w)))) z_is
    ∙ ap (λ (l : List ℕ). base ++ (to_le_bytes w32 BLOCK_MAGIC ++ (to_le_bytes w32 table ++ (to_le_bytes w32 rows ++ l)))) w_is

-- the cells of a column are of its kind
pub column_ready : (kinds : List Kind) (rows : Rows) (c : ℕ) (items cells : Cells) → cells ≡ items → items ≡ column_at rows c → c < length kinds → AllByRecursion (IsRowOf kinds) rows → AllByRecursion (IsCellOf (get_or kinds c Truth)) cells
column_ready kinds rows c items cells same are lt all =
    subst (λ (l : Cells). AllByRecursion (IsCellOf (get_or kinds c Truth)) l) (sym (same ∙ are))
    (by_recursion (IsCellOf (get_or kinds c Truth)) (column_at rows c) None (λ r in_column.
    let in_rows : r < length rows = omega (arith, in_column, length-column_at rows c) in
    let row = at_place (IsRowOf kinds) rows r no_row all in_rows in
    subst (λ (cell : Option Value). IsCellOf (get_or kinds c Truth) cell) (sym (column_at-cell rows c r in_rows)) (zip_at IsCellOf kinds (get_or rows r no_row).1.cells c Truth None row.cells lt)))

columns_cons : (n : ℕ) (kind : Kind) (kinds : List Kind) (cells : Cells) (all : List Cells) → (columns n (kind ∷ kinds)).spelled (cells ∷ all) ≡ (column n kind).spelled cells ++ (columns n kinds).spelled all
unfolding columns
columns_cons n kind kinds cells all = refl

columns_nil : (n : ℕ) → (columns n []).spelled [] ≡ []
unfolding columns
columns_nil n = refl

pub columns_written : (kinds : List Kind) (rows : Rows) (c : ℕ) (items cells : Cells) (out new total : List ℕ) → cells ≡ items → items ≡ column_at rows c → c < length kinds → new ≡ out ++ (column (length cells) (get_or kinds c Truth)).spelled cells
    → out ++ (columns (length rows) (drop c kinds)).spelled (drop c (columns_of (length kinds) rows)) ≡ total → new ++ (columns (length rows) (drop (c + 1) kinds)).spelled (drop (c + 1) (columns_of (length kinds) rows)) ≡ total
columns_written kinds rows c items cells out new total same are lt new_is so_far =
    let n : ℕ = length rows in
    let kind : Kind = get_or kinds c Truth in
    let all : List Cells = columns_of (length kinds) rows in
    let others : List Kind = drop (c + 1) kinds in
    let rest : List Cells = drop (c + 1) all in
    let cells_are : cells ≡ column_at rows c = same ∙ are in
    let wide : length cells ≡ n = ap length cells_are ∙ length-column_at rows c in
    let kinds_left : drop c kinds ≡ kind ∷ others = drop_more kinds c Truth lt in
    let columns_left : drop c all ≡ cells ∷ rest = drop_more all c [] (omega (arith, lt, length-columns_of (length kinds) rows)) ∙ ap (λ (l : Cells). l ∷ rest) (columns_of-column (length kinds) rows c lt ∙ sym cells_are) in
    ap (λ (l : List ℕ). l ++ (columns n others).spelled rest) (new_is ∙ ap (λ (m : ℕ). out ++ (column m kind).spelled cells) wide)
    ∙ append_assoc out ((column n kind).spelled cells) ((columns n others).spelled rest)
    ∙ ap (λ (l : List ℕ). out ++ l) (sym (columns_cons n kind others cells rest)
    ∙ ap (λ (l : List Cells). (columns n (kind ∷ others)).spelled l) (sym columns_left)
    ∙ ap (λ (l : List Kind). (columns n l).spelled (drop c all)) (sym kinds_left))
    ∙ so_far

pub columns_done : (kinds : List Kind) (rows : Rows) (c : ℕ) (out total : List ℕ) → length kinds ≡ c → out ++ (columns (length rows) (drop c kinds)).spelled (drop c (columns_of (length kinds) rows)) ≡ total → out ≡ total
columns_done kinds rows c out total end so_far =
    let n : ℕ = length rows in
    let all : List Cells = columns_of (length kinds) rows in
    let no_kinds : drop c kinds ≡ [] = drop_all c kinds (omega (arith, end)) in
    let no_columns : drop c all ≡ [] = drop_all c all (omega (arith, end, length-columns_of (length kinds) rows)) in
    sym (append-nil out) ∙ ap (λ (l : List ℕ). out ++ l) (sym (ap (λ (l : List Kind). (columns n l).spelled (drop c all)) no_kinds ∙ ap (λ (l : List Cells). (columns n []).spelled l) no_columns ∙ columns_nil n)) ∙ so_far

head_is : (table rows count : ℕ) → (head None).spelled (BLOCK_MAGIC, (table, (rows, count))) ≡ head_bytes table rows count
unfolding head
head_is table rows count = refl

pub block_written : (kinds : List Kind) (table : ℕ) (rows : Rows) (o a b c d : List ℕ) → AllByRecursion (IsRowOf kinds) rows → o ≡ [] → a ≡ o ++ (head None).spelled (BLOCK_MAGIC, (table, (length rows, length kinds)))
    → b ≡ a ++ flat_map (to_le_bytes w64) (times_of rows) → c ≡ b ++ flat_map (to_le_bytes w64) (births_of rows) → d ≡ c ++ (columns (length rows) kinds).spelled (columns_of (length kinds) rows) → d ≡ block_bytes kinds table rows
block_written kinds table rows o a b c d all o_is a_is b_is c_is d_is =
    let t : List ℕ = flat_map (to_le_bytes w64) (times_of rows) in
    let s : List ℕ = flat_map (to_le_bytes w64) (births_of rows) in
    let k : List ℕ = (columns (length rows) kinds).spelled (columns_of (length kinds) rows) in
    let h : List ℕ = (head None).spelled (BLOCK_MAGIC, (table, (length rows, length kinds))) in
    after_four o a b c d h t s k a_is b_is c_is d_is
    ∙ ap (λ (l : List ℕ). l ++ (h ++ (t ++ (s ++ k)))) o_is
    ∙ ap (λ (l : List ℕ). l ++ (t ++ (s ++ k))) (head_is table (length rows) (length kinds))
    ∙ sym (bytes_are kinds table rows all)

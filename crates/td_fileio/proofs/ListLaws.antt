-- Rows in blocks.
use Rattle.std.proofs.Common.{◌≡◌, ℕ, zero, suc, ◌+◌, ◌-◌, ◌≤◌, List, [], ◌∷◌, length, take, drop, refl, ap, ◌∙◌, arith}
use Rattle.std.specs.List.{AllByRecursion}
use Rattle.std.specs.Ordering.{nat_cmp}
use Rattle.std.proofs.lemmas.List.{length-drop, length-append, length-map}
use Rattle.td_limits.specs.declared.limits.TheConstants.{BLOCK_ROWS}
use Rattle.td_layer.specs.Keys.{AllAfter, RisesBy}
use Rattle.td_block.specs.Rows.{Rows}
use Rattle.td_fileio.specs.declared.lists.TableRows.{TableRows}
use Rattle.td_fileio.specs.Lists.{pieces_of, in_blocks, table_blocks, all_blocks}

enough : {A : Type 0} (size n m : ℕ) (xs : List A) → 1 ≤ size → length xs ≤ n → length xs ≤ m → pieces_of size n xs ≡ pieces_of size m xs
enough size zero zero xs some a b = refl
enough size zero (suc m) [] some a b = refl
enough size zero (suc m) (x ∷ xs) some a b = absurd (omega arith)
enough size (suc n) zero [] some a b = refl
enough size (suc n) zero (x ∷ xs) some a b = absurd (omega arith)
enough size (suc n) (suc m) [] some a b = refl
enough size (suc n) (suc m) (x ∷ xs) some a b =
    let len : length (drop size (x ∷ xs)) ≡ suc (length xs) - size = length-drop size (x ∷ xs) in
    let an : length (drop size (x ∷ xs)) ≤ n = omega arith in
    let bm : length (drop size (x ∷ xs)) ≤ m = omega arith in
    ap (λ l. take size (x ∷ xs) ∷ l) (enough size n m (drop size (x ∷ xs)) some an bm)

first_piece : {A : Type 0} (size : ℕ) (xs : List A) → 1 ≤ size → 1 ≤ length xs → pieces_of size (length xs) xs ≡ take size xs ∷ pieces_of size (length (drop size xs)) (drop size xs)
first_piece size [] some le = absurd (omega arith)
first_piece size (x ∷ xs) some le =
    let len : length (drop size (x ∷ xs)) ≡ suc (length xs) - size = length-drop size (x ∷ xs) in
    let few : length (drop size (x ∷ xs)) ≤ length xs = omega arith in
    ap (λ l. take size (x ∷ xs) ∷ l) (enough size (length xs) (length (drop size (x ∷ xs))) (drop size (x ∷ xs)) some few (omega arith))

-- the first block and the others
pub blocks_begin : (rows : Rows) → 1 ≤ length rows → in_blocks rows ≡ take BLOCK_ROWS rows ∷ in_blocks (drop BLOCK_ROWS rows)
unfolding in_blocks
blocks_begin rows le = first_piece BLOCK_ROWS rows (omega arith) le

pub blocks_end : (rows : Rows) → length rows ≡ 0 → in_blocks rows ≡ []
unfolding in_blocks
blocks_end [] e = refl
blocks_end (row ∷ rows) e = absurd (omega arith)

pub after_take : (n ts : ℕ) (rows : Rows) → AllAfter nat_cmp ts rows → AllAfter nat_cmp ts (take n rows)
after_take zero ts rows all = tt
after_take (suc n) ts [] all = tt
after_take (suc n) ts (row ∷ rows) all = (all.0, after_take n ts rows all.1)

pub rises_take : (n : ℕ) (rows : Rows) → RisesBy nat_cmp rows → RisesBy nat_cmp (take n rows)
rises_take zero rows rises = tt
rises_take (suc n) [] rises = tt
rises_take (suc n) (row ∷ rows) rises = (after_take n row.0 rows rises.0, rises_take n rows rises.1)

pub rises_drop : (n : ℕ) (rows : Rows) → RisesBy nat_cmp rows → RisesBy nat_cmp (drop n rows)
rises_drop zero rows rises = rises
rises_drop (suc n) [] rises = tt
rises_drop (suc n) (row ∷ rows) rises = rises_drop n rows rises.1

pub all_take : {A : Type 0} (P : A → Type 0) (n : ℕ) (xs : List A) → AllByRecursion P xs → AllByRecursion P (take n xs)
all_take P zero xs all = tt
all_take P (suc n) [] all = tt
all_take P (suc n) (x ∷ xs) all = (all.0, all_take P n xs all.1)

pub all_drop : {A : Type 0} (P : A → Type 0) (n : ℕ) (xs : List A) → AllByRecursion P xs → AllByRecursion P (drop n xs)
all_drop P zero xs all = all
all_drop P (suc n) [] all = tt
all_drop P (suc n) (x ∷ xs) all = all_drop P n xs all.1

-- how many blocks the first table and the others have
pub blocks_of_first : (t : TableRows) (ts tables : List TableRows) → tables ≡ t ∷ ts → length (all_blocks tables) ≡ length (in_blocks t.rows) + length (all_blocks ts)
blocks_of_first t ts tables is = ap (λ (l : List TableRows). length (all_blocks l)) is ∙ length-append (table_blocks t) (all_blocks ts) ∙ ap (λ (k : ℕ). k + length (all_blocks ts)) (length-map (in_blocks t.rows) (λ (rows : Rows). record { table = t.table; kinds = t.kinds; rows = rows }))

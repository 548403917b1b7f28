-- An index that is made block by block.
use Rattle.std.proofs.Common.{◌≡◌, ℕ, ◌+◌, ◌*◌, ◌/◌, ◌^◌, ◌<◌, ◌≤◌, true, List, [], ◌∷◌, ◌++◌, length, refl, sym, ap, subst, ◌∙◌, arith}
use Rattle.std.specs.Prelude.{IsTrue, sum_by}
use Rattle.std.specs.List.{flat_map, AllByRecursion}
use Rattle.std.proofs.lemmas.List.{append_assoc, append-nil, length-append}
use Rattle.std.proofs.lemmas.List.Sums.{sum_by-cons}
use Rattle.std.proofs.lemmas.List.Concat.{flat_map-append}
use Rattle.td_limits.specs.declared.limits.TheConstants.{BLOCK_ROWS}
use Rattle.td_cols.specs.declared.kinds.Kind.{Kind}
use Rattle.td_cols.specs.declared.kinds.Kind.TheVariants.{Bool as Truth, I8, I16, I32, I64, U8, U16, U32, U64, Time, Wide, Text}
use Rattle.td_cols.specs.Kinds.{kind_code, kind_width}
use Rattle.td_block.specs.Columns.{is_fixed}
use Rattle.td_block.specs.Rows.{Rows, CanHold}
use Rattle.td_block.specs.Blocks.{block_bytes}
use Rattle.td_block.specs.Headers.{column_length}
use Rattle.td_block.proofs.HeaderLaws.{block_size}
use Rattle.td_fileio.specs.Lists.{FileBlock}
use Rattle.td_datafile.specs.declared.format.Entry.{Entry}
use Rattle.td_datafile.specs.Index.{bytes_of_block, entry_of, index_of, entry_bytes}

-- ---- how long a block is

width_few : (rows : ℕ) (kind : Kind) → is_fixed kind ≡ true → rows ≤ BLOCK_ROWS → rows * kind_width kind ≤ 8192
unfolding kind_code kind_width
width_few rows Truth fixed few = omega arith
width_few rows I8 fixed few = omega arith
width_few rows I16 fixed few = omega arith
width_few rows I32 fixed few = omega arith
width_few rows I64 fixed few = omega arith
width_few rows U8 fixed few = omega arith
width_few rows U16 fixed few = omega arith
width_few rows U32 fixed few = omega arith
width_few rows U64 fixed few = omega arith
width_few rows Time fixed few = omega arith
width_few rows Wide fixed few = absurd cc
width_few rows (Text n) fixed few = absurd cc

columns_few : (rows : ℕ) (kinds : List Kind) → AllByRecursion (λ (kind : Kind). IsTrue (is_fixed kind)) kinds → rows ≤ BLOCK_ROWS → sum_by (column_length rows) kinds ≤ 10300 * length kinds
columns_few rows [] fixed few = omega arith
columns_few rows (kind ∷ kinds) fixed few =
    let one = width_few rows kind fixed.0 few in
    let others = columns_few rows kinds fixed.1 few in
    let bits : (rows + 7) / 8 ≤ 200 = omega arith in
    let step : sum_by (column_length rows) (kind ∷ kinds) ≡ column_length rows kind + sum_by (column_length rows) kinds = sum_by-cons (column_length rows) kind kinds in
    omega (arith, step, one, others, bits)

pub block_few : (kinds : List Kind) (table : ℕ) (rows : Rows) → CanHold kinds table rows → length (block_bytes kinds table rows) < 2 ^ 30
block_few kinds table rows can =
    let size = block_size kinds table rows can in
    let columns = columns_few (length rows) kinds can.fixed can.few in
    omega (arith, size, columns, can.few, can.columns)

-- ---- blocks one behind the other

index-append : (at : ℕ) (xs ys : List FileBlock) → index_of at (xs ++ ys) ≡ index_of at xs ++ index_of (at + length (flat_map bytes_of_block xs)) ys
index-append at [] ys = ap (λ (k : ℕ). index_of k ys) (omega arith)
index-append at (b ∷ xs) ys =
    let size = length (bytes_of_block b) in
    let long = length-append (bytes_of_block b) (flat_map bytes_of_block xs) in
    let place : (at + size) + length (flat_map bytes_of_block xs) ≡ at + length (bytes_of_block b ++ flat_map bytes_of_block xs) = omega (arith, long) in
    ap (λ (l : List Entry). entry_of at b ∷ l) (index-append (at + size) xs ys ∙ ap (λ (k : ℕ). index_of (at + size) xs ++ index_of k ys) place)

-- The entries that were added with those of the blocks that are left make all; so do the places; and no block is longer
-- than 2^30.
pub record IndexSoFar (start now : List ℕ) (place next : ℕ) (left all : List FileBlock) : Type 0 where
  pub index_is : now ++ flat_map entry_bytes (index_of next left) ≡ start ++ flat_map entry_bytes (index_of place all)
  pub place_is : next + length (flat_map bytes_of_block left) ≡ place + length (flat_map bytes_of_block all)
  pub few : next + 2 ^ 30 * length left ≤ place + 2 ^ 30 * length all

pub index_begins : (start : List ℕ) (place : ℕ) (all : List FileBlock) → IndexSoFar start start place place all all
index_begins start place all = record { index_is = refl; place_is = refl; few = omega arith }

pub index_goes_on : (start now now' : List ℕ) (place next next' : ℕ) (left xs ys all : List FileBlock) → IndexSoFar start now place next left all → left ≡ xs ++ ys → now' ≡ now ++ flat_map entry_bytes (index_of next xs)
    → next' ≡ next + length (flat_map bytes_of_block xs) → next' ≤ next + 2 ^ 30 * length xs → IndexSoFar start now' place next' ys all
index_goes_on start now now' place next next' left xs ys all so parts is goes few =
    let e : List FileBlock → List ℕ = λ l. flat_map entry_bytes (index_of next l) in
    let behind : index_of next left ≡ index_of next xs ++ index_of next' ys = ap (index_of next) parts ∙ index-append next xs ys ∙ ap (λ (k : ℕ). index_of next xs ++ index_of k ys) (sym goes) in
    let both = ap (flat_map entry_bytes) behind ∙ flat_map-append entry_bytes (index_of next xs) (index_of next' ys) in
    let bytes = ap (λ (l : List FileBlock). length (flat_map bytes_of_block l)) parts ∙ ap length (flat_map-append bytes_of_block xs ys) ∙ length-append (flat_map bytes_of_block xs) (flat_map bytes_of_block ys) in
    let count = ap length parts ∙ length-append xs ys in
    record {
      index_is = ap (λ (l : List ℕ). l ++ flat_map entry_bytes (index_of next' ys)) is ∙ append_assoc now (e xs) (flat_map entry_bytes (index_of next' ys)) ∙ sym (ap (λ (l : List ℕ). now ++ l) both) ∙ so.index_is;
      place_is = omega (arith, bytes, goes, so.place_is);
      few = omega (arith, count, few, so.few);
    }

-- a single block
pub block_goes_on : (start now now' : List ℕ) (place next size : ℕ) (left ys all : List FileBlock) (b : FileBlock) → IndexSoFar start now place next left all → left ≡ b ∷ ys → now' ≡ now ++ entry_bytes (entry_of next b) → size ≡ length (bytes_of_block b) → size < 2 ^ 30
    → IndexSoFar start now' place (next + size) ys all
block_goes_on start now now' place next size left ys all b so parts is long few =
    let one = sym (append-nil (bytes_of_block b)) in
    let goes : next + size ≡ next + length (flat_map bytes_of_block (b ∷ [])) = ap (λ (k : ℕ). next + k) (long ∙ ap length one) in
    let added : now' ≡ now ++ flat_map entry_bytes (index_of next (b ∷ [])) = is ∙ ap (λ (l : List ℕ). now ++ l) (sym (append-nil (entry_bytes (entry_of next b)))) in
    let at_most : next + size ≤ next + 2 ^ 30 * length (b ∷ []) = omega (arith, few) in
    index_goes_on start now now' place next (next + size) left (b ∷ []) ys all so parts added goes at_most

pub record IndexIs (start now : List ℕ) (place next : ℕ) (all : List FileBlock) : Type 0 where
  pub index_is : now ≡ start ++ flat_map entry_bytes (index_of place all)
  pub place_is : next ≡ place + length (flat_map bytes_of_block all)
  pub few : next ≤ place + 2 ^ 30 * length all

pub index_ends : (start now : List ℕ) (place next : ℕ) (left all : List FileBlock) → IndexSoFar start now place next left all → left ≡ [] → IndexIs start now place next all
index_ends start now place next left all so none =
    let s : IndexSoFar start now place next [] all = subst (λ (l : List FileBlock). IndexSoFar start now place next l all) none so in
    let few = s.few in
    record {
      index_is = sym (append-nil now) ∙ s.index_is;
      place_is = omega (arith, s.place_is);
      few = omega (arith, few);
    }

-- What a block that was read says of its bytes, and the other way round.
use Rattle.std.proofs.Common.{◌≡◌, ℕ, ◌-◌, ◌^◌, ◌≤◌, true, ◌⊎◌, inl, inr, ℤ, pos, neg_ℤ, List, [], ◌∷◌, ◌++◌, length, Option, Some, None, Result, Ok, Err, refl, sym, ap, subst, ◌∙◌, arith}
use Rattle.std.specs.Prelude.{◌&&◌, ◌≤ℤ◌, ◌<ℤ◌, int_le, IsTrue, IfSome}
use Rattle.std.specs.List.{AllZip, AllByRecursion}
use Rattle.std.proofs.lemmas.Bool.{and_parts}
use Rattle.std.proofs.lemmas.Int.{ints}
use Rattle.std.proofs.lemmas.List.{length-append}
use Rattle.td_cols.specs.declared.kinds.Kind.{Kind}
use Rattle.td_cols.specs.declared.kinds.Kind.TheVariants.{Bool as Truth, I8, I16, I32, I64, U8, U16, U32, U64, Time, Wide, Text}
use Rattle.td_cols.specs.Kinds.{kind_code, kind_least, kind_most, is_in_range}
use Rattle.td_cols.specs.Spelling.{AreBytes}
use Rattle.td_layer.specs.declared.values.Value.{Value}
use Rattle.td_layer.specs.declared.values.Value.TheVariants as value
use Rattle.td_layer.specs.declared.parts.Partial.{Partial}
use Rattle.td_layer.specs.Columns.{IsColumnNumber, IsColumnValue, AreColumnCells}
use Rattle.td_codec.specs.Fields.{◌>>=◌, Read, Fails}
use Rattle.td_codec.specs.declared.fault.ReadFault.{ReadFault}
use Rattle.td_codec.specs.declared.fault.ReadFault.TheVariants as read_faults
use Rattle.td_codec.proofs.FieldLaws.{bind_ok, ok_is}
use Rattle.td_block.specs.declared.block.Block.{Block}
use Rattle.td_block.specs.declared.block.BlockFault.{BlockFault}
use Rattle.td_block.specs.declared.block.BlockFault.TheVariants as faults
use Rattle.td_block.specs.Columns.{is_fixed}
use Rattle.td_block.specs.Rows.{Rows, IsCellOf, IsRowOf, CanHold, HasNumbers}
use Rattle.td_block.specs.Blocks.{Held, block, block_bytes, placed, Answers, IsPlaced, block_read, decoded, Begins}
use Rattle.td_block.proofs.BlockLaws.{block_spells}
use Rattle.td_block.proofs.HoldLaws.{fits, holds}

-- ---- values

in_64_bits : (least most n : ℤ) → neg_ℤ (pos (2 ^ 63)) ≤ℤ least → most <ℤ pos (2 ^ 64) → (int_le least n && int_le n most) ≡ true → IsColumnNumber n
in_64_bits least most n low high within =
    let f = and_parts (int_le least n) (int_le n most) within in
    let a : neg_ℤ (pos (2 ^ 63)) ≤ℤ n = grind (arith, ints, f.0) in
    let b : n <ℤ pos (2 ^ 64) = grind (arith, ints, f.1) in
    (a, b)

column_number : (kind : Kind) (n : ℤ) → is_fixed kind ≡ true → is_in_range kind n ≡ true → IsColumnNumber n
unfolding kind_code is_in_range kind_least kind_most
column_number Truth n fixed within = in_64_bits (pos 0) (pos 1) n (grind (arith, ints)) (grind (arith, ints)) within
column_number I8 n fixed within = in_64_bits (kind_least I8) (kind_most I8) n (grind (arith, ints)) (grind (arith, ints)) within
column_number I16 n fixed within = in_64_bits (kind_least I16) (kind_most I16) n (grind (arith, ints)) (grind (arith, ints)) within
column_number I32 n fixed within = in_64_bits (kind_least I32) (kind_most I32) n (grind (arith, ints)) (grind (arith, ints)) within
column_number I64 n fixed within = in_64_bits (kind_least I64) (kind_most I64) n (grind (arith, ints)) (grind (arith, ints)) within
column_number U8 n fixed within = in_64_bits (kind_least U8) (kind_most U8) n (grind (arith, ints)) (grind (arith, ints)) within
column_number U16 n fixed within = in_64_bits (kind_least U16) (kind_most U16) n (grind (arith, ints)) (grind (arith, ints)) within
column_number U32 n fixed within = in_64_bits (kind_least U32) (kind_most U32) n (grind (arith, ints)) (grind (arith, ints)) within
column_number U64 n fixed within = in_64_bits (kind_least U64) (kind_most U64) n (grind (arith, ints)) (grind (arith, ints)) within
column_number Time n fixed within = in_64_bits (kind_least Time) (kind_most Time) n (grind (arith, ints)) (grind (arith, ints)) within
column_number Wide n fixed within = absurd cc
column_number (Text m) n fixed within = absurd cc

column_cell : (kind : Kind) (cell : Option Value) → is_fixed kind ≡ true → IsCellOf kind cell → IfSome cell IsColumnValue
column_cell kind None fixed is = tt
column_cell kind (Some value.Null) fixed is = tt
column_cell kind (Some (value.Num n)) fixed is = column_number kind n fixed is

column_cells : (kinds : List Kind) (cells : List (Option Value)) → AllByRecursion (λ (kind : Kind). IsTrue (is_fixed kind)) kinds → AllZip IsCellOf kinds cells → AreColumnCells cells
column_cells [] [] fixed all = tt
column_cells [] (cell ∷ cells) fixed all = absurd all
column_cells (kind ∷ kinds) [] fixed all = absurd all
column_cells (kind ∷ kinds) (cell ∷ cells) fixed all = (column_cell kind cell fixed.0 all.0, column_cells kinds cells fixed.1 all.1)

pub row_values : (kinds : List Kind) (rows : Rows) → AllByRecursion (λ (kind : Kind). IsTrue (is_fixed kind)) kinds → AllByRecursion (IsRowOf kinds) rows → AllByRecursion (λ (row : ℕ × Partial). AreColumnCells row.1.cells) rows
row_values kinds [] fixed all = tt
row_values kinds (row ∷ rows) fixed all = (column_cells kinds row.1.cells fixed all.0.cells, row_values kinds rows fixed all.1)

-- ---- what was read

pub rest_within : (kinds : List Kind) (bytes : List ℕ) (held : Held) (rest : List ℕ) → AreBytes bytes → (block kinds).read bytes ≡ Ok (held, rest) → length rest ≤ length bytes
rest_within kinds bytes held rest are e =
    let t = (block_spells kinds).takes bytes (held, rest) are e in
    omega (arith, ap length t.0.parts, length-append ((block kinds).spelled held) rest)

used_is : (front rest bytes : List ℕ) → bytes ≡ front ++ rest → length bytes - length rest ≡ length front
used_is front rest bytes e = omega (arith, ap length e, length-append front rest)

pub read_begins : (kinds : List Kind) (bytes : List ℕ) (table : ℕ) (rows : Rows) (rest : List ℕ) (used : ℕ) → AreBytes bytes → (block kinds).read bytes ≡ Ok ((table, rows), rest) → used ≡ length bytes - length rest → Begins kinds bytes (record { table = table; rows = rows; used = used })
read_begins kinds bytes table rows rest used are e is =
    let t = (block_spells kinds).takes bytes ((table, rows), rest) are e in
    record { rest = rest; bytes_are = t.0.parts; used_is = is ∙ used_is (block_bytes kinds table rows) rest bytes t.0.parts }

pub read_holds : (kinds : List Kind) (bytes : List ℕ) (table : ℕ) (rows : Rows) (rest : List ℕ) → AreBytes bytes → (block kinds).read bytes ≡ Ok ((table, rows), rest) → CanHold kinds table rows
read_holds kinds bytes table rows rest are e = (holds kinds table rows ((block_spells kinds).takes bytes ((table, rows), rest) are e).1).0

pub read_values : (kinds : List Kind) (bytes : List ℕ) (table : ℕ) (rows : Rows) (rest : List ℕ) → AreBytes bytes → (block kinds).read bytes ≡ Ok ((table, rows), rest) → AllByRecursion (λ (row : ℕ × Partial). AreColumnCells row.1.cells) rows
read_values kinds bytes table rows rest are e = let can = read_holds kinds bytes table rows rest are e in row_values kinds rows can.fixed can.rows_are

pub decoded-read : (kinds : List Kind) (bytes : List ℕ) (table : ℕ) (rows : Rows) (rest : List ℕ) → (block kinds).read bytes ≡ Ok ((table, rows), rest) → decoded kinds bytes ≡ Ok (record { table = table; rows = rows; used = length bytes - length rest })
unfolding decoded
decoded-read kinds bytes table rows rest e = ap (λ (r : Read Held). placed bytes (λ (held : Held) used. record { table = held.0; rows = held.1; used = used }) r) e

pub decoded-fault : (kinds : List Kind) (bytes : List ℕ) (left : ℕ) → (block kinds).read bytes ≡ Err left → decoded kinds bytes ≡ Err (length bytes - left)
unfolding decoded
decoded-fault kinds bytes left e = ap (λ (r : Read Held). placed bytes (λ (held : Held) used. record { table = held.0; rows = held.1; used = used }) r) e

-- what is written is read
pub decoded_again : (kinds : List Kind) (table : ℕ) (rows : Rows) (rest : List ℕ) → CanHold kinds table rows → HasNumbers table rows → decoded kinds (block_bytes kinds table rows ++ rest) ≡ Ok (record { table = table; rows = rows; used = length (block_bytes kinds table rows) })
decoded_again kinds table rows rest can has =
    let front : List ℕ = block_bytes kinds table rows in
    decoded-read kinds (front ++ rest) table rows rest ((block_spells kinds).again (table, rows) rest (fits kinds table rows can has))
    ∙ ap (λ (used : ℕ). Ok (record { table = table; rows = rows; used = used })) (used_is front rest (front ++ rest) refl)

begun : (kinds : List Kind) (bytes : List ℕ) (found : Block) → CanHold kinds found.table found.rows → HasNumbers found.table found.rows → Begins kinds bytes found → decoded kinds bytes ≡ Ok found
begun kinds bytes found can has b =
    ap (decoded kinds) b.bytes_are ∙ decoded_again kinds found.table found.rows b.rest can has
    ∙ ap (λ (used : ℕ). Ok (record { table = found.table; rows = found.rows; used = used })) (sym b.used_is)

ok_ok : (answer : Result Block ℕ) (a b : Block) → answer ≡ Ok a → answer ≡ Ok b → a ≡ b
ok_ok answer a b e f = ok_is a b (sym e ∙ f)

ok_or_err : (answer : Result Block ℕ) (a : Block) (at : ℕ) → answer ≡ Ok a → answer ≡ Err at → ⊥
ok_or_err answer a at e f = absurd cc

pub answers_only : (kinds : List Kind) (bytes : List ℕ) (r : Result Block BlockFault) (found : Block) → Answers r (decoded kinds bytes) → CanHold kinds found.table found.rows → HasNumbers found.table found.rows → Begins kinds bytes found → (r ≡ Ok found) ⊎ (r ≡ Err faults.NoMemory)
answers_only kinds bytes (Ok x) found answer can has b = inl (ap (λ (y : Block). Ok y) (ok_ok (decoded kinds bytes) x found answer (begun kinds bytes found can has b)))
answers_only kinds bytes (Err (faults.Bad at)) found answer can has b = absurd (ok_or_err (decoded kinds bytes) found at (begun kinds bytes found can has b) answer)
answers_only kinds bytes (Err faults.NoMemory) found answer can has b = inr refl

-- ---- a block that was found

abbrev as_block : List ℕ → Held × List ℕ → Result Block ℕ
as_block bytes x = Ok (record { table = x.0.0; rows = x.0.1; used = length bytes - length x.1 })

-- the bytes behind the block, and what was read
pub record WasRead (kinds : List Kind) (bytes : List ℕ) (found : Block) : Type 0 where
  pub rest : List ℕ
  pub read_is : (block kinds).read bytes ≡ Ok ((found.table, found.rows), rest)
  pub used_are : found.used ≡ length bytes - length rest

pub was_read : (kinds : List Kind) (bytes : List ℕ) (found : Block) → block_read kinds bytes ≡ Ok found → WasRead kinds bytes found
was_read kinds bytes found e =
    let p = bind_ok ((block kinds).read bytes) (as_block bytes) found e in
    let same : record { table = p.0.0.0; rows = p.0.0.1; used = length bytes - length p.0.1 } ≡ found = ok_is (record { table = p.0.0.0; rows = p.0.0.1; used = length bytes - length p.0.1 }) found p.2 in
    record {
      rest = p.0.1;
      read_is = p.1 ∙ ap (λ (b : Block). Ok ((b.table, b.rows), p.0.1)) same;
      used_are = sym (ap (λ (b : Block). b.used) same);
    }

pub found_exact : (kinds : List Kind) (bytes : List ℕ) (found : Block) → block_read kinds bytes ≡ Ok found → decoded kinds bytes ≡ Ok found
found_exact kinds bytes found e =
    let w = was_read kinds bytes found e in
    decoded-read kinds bytes found.table found.rows w.rest w.read_is ∙ ap (λ (used : ℕ). Ok (record { table = found.table; rows = found.rows; used = used })) (sym w.used_are)

pub found_begins : (kinds : List Kind) (bytes : List ℕ) (found : Block) → AreBytes bytes → block_read kinds bytes ≡ Ok found → Begins kinds bytes found
found_begins kinds bytes found are e = let w = was_read kinds bytes found e in read_begins kinds bytes found.table found.rows w.rest found.used are w.read_is w.used_are

pub found_holds : (kinds : List Kind) (bytes : List ℕ) (found : Block) → AreBytes bytes → block_read kinds bytes ≡ Ok found → CanHold kinds found.table found.rows
found_holds kinds bytes found are e = let w = was_read kinds bytes found e in read_holds kinds bytes found.table found.rows w.rest are w.read_is

pub found_values : (kinds : List Kind) (bytes : List ℕ) (found : Block) → AreBytes bytes → block_read kinds bytes ≡ Ok found → AllByRecursion (λ (row : ℕ × Partial). AreColumnCells row.1.cells) found.rows
found_values kinds bytes found are e = let w = was_read kinds bytes found e in read_values kinds bytes found.table found.rows w.rest are w.read_is

err_read : (bytes : List ℕ) (r : Read Held) (left : ℕ) → (r >>= as_block bytes) ≡ Err left → r ≡ Err left
err_read bytes (Ok x) left e = absurd cc
err_read bytes (Err f) left e = cc

pub fault_answers : (kinds : List Kind) (bytes : List ℕ) (fault : ReadFault) (answer : BlockFault) → Fails fault (block_read kinds bytes) → IsPlaced (length bytes) fault answer → Answers (Err answer) (decoded kinds bytes)
fault_answers kinds bytes read_faults.NoMemory answer e is = subst (λ (f : BlockFault). Answers (Err f) (decoded kinds bytes)) (sym is) tt
fault_answers kinds bytes (read_faults.Broken left) answer e is =
    subst (λ (f : BlockFault). Answers (Err f) (decoded kinds bytes)) (sym is) (decoded-fault kinds bytes left (err_read bytes ((block kinds).read bytes) left e))

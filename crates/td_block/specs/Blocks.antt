-- Blocks: the rows of one table, column by column.
use Rattle.std.specs.Prelude.{◌≡◌, ℕ, ◌-◌, ◌==◌, ◌&&◌, nat_le, Bool, true, if◌then◌else◌, List, [], ◌∷◌, ◌++◌, length, Option, Some, None, Result, Ok, Err}
use Rattle.std.specs.List.{list_all}
use Rattle.std.specs.Int.{w16, w32}
use Rattle.td_limits.specs.declared.limits.TheConstants.{BLOCK_ROWS}
use Rattle.td_cols.specs.declared.kinds.Kind.{Kind}
use Rattle.td_layer.specs.declared.values.Value.{Value}
use Rattle.td_layer.specs.declared.parts.Partial.{Partial}
use Rattle.td_codec.specs.declared.fault.ReadFault.{ReadFault}
use Rattle.td_codec.specs.declared.fault.ReadFault.TheVariants as read_faults
use Rattle.td_codec.specs.Fields.{Read, ◌>>=◌, Field, number, nothing, checked, followed, pair, made}
use Rattle.td_block.specs.declared.block.Block.{Block}
use Rattle.td_block.specs.declared.block.BlockFault.{BlockFault}
use Rattle.td_block.specs.declared.block.BlockFault.TheVariants as faults
use Rattle.td_block.specs.declared.header.TheConstants.{BLOCK_MAGIC}
use Rattle.td_block.specs.Columns.{column}
use Rattle.td_block.specs.Rows.{Rows, times, births, rows_from, times_of, births_of, columns_of}

-- ---- the head

-- whether a count of columns is the given one, where one is given
abbrev pub is_count : Option ℕ → ℕ → Bool
is_count None count = true
is_count (Some given) count = count == given

-- The head: the four bytes that begin a block, the table, the count of rows and that of columns.
unfoldable pub head : Option ℕ → Field (ℕ × (ℕ × (ℕ × ℕ)))
head columns =
    pair (checked (number w32) (λ n. n == BLOCK_MAGIC))
    (pair (checked (number w32) (λ table. nat_le 1 table))
    (pair (checked (number w32) (λ rows. nat_le 1 rows && nat_le rows BLOCK_ROWS))
    (checked (number w16) (is_count columns))))

-- ---- columns

-- the first of some items and the others
abbrev pub first_and_others : {A : Type 0} → List A → Option (A × List A)
first_and_others [] = None
first_and_others (x ∷ xs) = Some (x, xs)

-- nothing, where there are no items
abbrev pub no_items : {A : Type 0} → List A → Option (Unit {0})
no_items [] = Some tt
no_items (x ∷ xs) = None

-- the columns of these kinds, one behind the other
unfoldable pub columns : ℕ → List Kind → Field (List (List (Option Value)))
columns rows [] = made nothing (λ _. []) no_items
columns rows (kind ∷ kinds) = made (pair (column rows kind) (columns rows kinds)) (λ x. x.0 ∷ x.1) first_and_others

-- ---- blocks

-- what a block holds: its table and its rows
abbrev pub Held : Type 0
Held = ℕ × Rows

-- what a block consists of: its head, its timestamps, its births and its columns
abbrev pub Parts : Type 0
Parts = (ℕ × (ℕ × (ℕ × ℕ))) × (List ℕ × (List ℕ × List (List (Option Value))))

unfoldable pub block_parts : List Kind → Field Parts
block_parts kinds =
    followed (head (Some (length kinds))) (λ h. pair (times h.1.1.0) (pair (births h.1.1.0) (columns h.1.1.0 kinds)))

-- what the parts of a block hold, and the parts of a block that holds this, where each row has as many cells as there
-- are columns
abbrev pub held_by : Parts → Held
held_by parts = (parts.0.1.0, rows_from parts.1.0 parts.1.1.0 parts.1.1.1)

abbrev pub has_width : ℕ → ℕ × Partial → Bool
has_width count row = length row.1.cells == count

abbrev pub parts_of : List Kind → Held → Option Parts
parts_of kinds held =
    (if list_all (has_width (length kinds)) held.1
    then Some (
      (BLOCK_MAGIC, (held.0, (length held.1, length kinds))),
      (times_of held.1, (births_of held.1, columns_of (length kinds) held.1)),
    )
    else None)

-- A block of a table with columns of these kinds.
unfoldable pub block : List Kind → Field Held
block kinds = made (block_parts kinds) held_by (parts_of kinds)

-- the bytes of the block of these rows of a table
abbrev pub block_bytes : List Kind → ℕ → Rows → List ℕ
block_bytes kinds table rows = (block kinds).spelled (table, rows)

-- ---- answers

-- what was read, with how many bytes it took, or the place of the fault
abbrev pub placed : {A B : Type 0} → List ℕ → (A → ℕ → B) → Read A → Result B ℕ
placed bytes view (Ok x) = Ok (view x.0 (length bytes - length x.1))
placed bytes view (Err left) = Err (length bytes - left)

-- a function answered so, unless memory ran out
abbrev pub Answers : {A : Type 0} → Result A BlockFault → Result A ℕ → Type 0
Answers (Ok x) answer = answer ≡ Ok x
Answers (Err (faults.Bad at)) answer = answer ≡ Err at
Answers (Err faults.NoMemory) answer = Unit {0}

-- What a function answered that takes no memory, seen by view, is what reading gives.
abbrev pub GivesFor : {X Y : Type 0} → (X → Y) → Result X ℕ → Result Y ℕ → Type 0
GivesFor view (Ok x) read = read ≡ Ok (view x)
GivesFor view (Err left) read = read ≡ Err left

-- a function that takes no memory answered so
abbrev pub IsAnswer : {A : Type 0} → Result A BlockFault → Result A ℕ → Type 0
IsAnswer (Ok x) answer = answer ≡ Ok x
IsAnswer (Err (faults.Bad at)) answer = answer ≡ Err at
IsAnswer (Err faults.NoMemory) answer = ⊥

-- what a fault of reading is in so many bytes
abbrev pub IsPlaced : ℕ → ReadFault → BlockFault → Type 0
IsPlaced bytes read_faults.NoMemory fault = fault ≡ faults.NoMemory
IsPlaced bytes (read_faults.Broken left) fault = fault ≡ faults.Bad (bytes - left)

-- the block that begins bytes, with its length
abbrev pub block_read : List Kind → List ℕ → Result Block ℕ
block_read kinds bytes =
    (block kinds).read bytes >>= λ x. Ok (record { table = x.0.0; rows = x.0.1; used = length bytes - length x.1 })

-- the block that begins bytes, with its length, or the place of the first field that is cut short or breaks its rule
unfoldable pub decoded : List Kind → List ℕ → Result Block ℕ
decoded kinds bytes =
    placed bytes (λ (held : Held) used. record { table = held.0; rows = held.1; used = used })
    ((block kinds).read bytes)

-- the block of these rows of a table begins these bytes, and has so many
pub record Begins (kinds : List Kind) (bytes : List ℕ) (found : Block) : Type 0 where
  pub rest : List ℕ
  pub bytes_are : bytes ≡ block_bytes kinds found.table found.rows ++ rest
  pub used_is : found.used ≡ length (block_bytes kinds found.table found.rows)

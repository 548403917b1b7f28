-- The tally of a column over the rows of a table in a file, from the sums of its index and from those blocks that must
-- be read.
use Rattle.std.specs.Prelude.{◌≡◌, ℕ, ◌+◌, ◌^◌, ◌<◌, ◌≤◌, ◌==◌, ◌&&◌, not, nat_le, Bool, IfSome, if◌then◌else◌, ℤ, List, [], ◌∷◌, map, filter, sum_by, length, slice_get, slice_index_or, Option, Some, None, Result, Ok, Err}
use Rattle.td_limits.specs.declared.limits.TheConstants.{BLOCK_ROWS}
use Rattle.td_layer.specs.declared.values.Key.{Key}
use Rattle.td_layer.specs.declared.values.Value.{Value}
use Rattle.td_layer.specs.declared.values.Value.TheVariants as value
use Rattle.td_layer.specs.declared.parts.Partial.{Partial}
use Rattle.td_codec.specs.Fields.{◌>>=◌}
use Rattle.td_aggr.specs.declared.tally.Tally.{Tally}
use Rattle.td_aggr.specs.Tallies.{empty_tally, tally_of, merged, IsSound}
use Rattle.td_block.specs.Rows.{Rows}
use Rattle.td_datafile.specs.declared.format.Summary.{Summary}
use Rattle.td_datafile.specs.declared.format.Entry.{Entry}
use Rattle.td_datafile.specs.declared.opening.Opening.{Opening}
use Rattle.td_datafile.specs.declared.blocks.Spot.{Spot}
use Rattle.td_datafile.specs.declared.folding.BlockPart.{BlockPart}
use Rattle.td_datafile.specs.declared.folding.Gathering.{Gathering}
use Rattle.td_datafile.specs.Sums.{no_numbers}
use Rattle.td_datafile.specs.Blocks.{entry_length, own_block}
use Rattle.td_datafile.specs.Opening.{opening_at}
use Rattle.td_datafile.specs.Scanned.{Want, wanted_of, keyed, is_needed, last_key, before_all}

-- ---- a column of rows

-- the value of a cell: NULL where it names none
abbrev pub value_of : Option Value → Value
value_of None = value.Null
value_of (Some v) = v

-- a column of partials: their keys and their values there
abbrev pub column_of : ℕ → List (Key × Partial) → List (Key × Value)
column_of column pairs = map (λ (p : Key × Partial). (p.0, value_of (slice_index_or p.1.cells column None))) pairs

-- the tally of a column over the wanted rows of some
abbrev pub tally_of_rows : Want → ℕ → Rows → Tally
tally_of_rows want column rows = tally_of (column_of column (keyed want.table (wanted_of want.lo want.hi rows)))

-- ---- what a block adds

-- whether all rows of the block of an entry are wanted
abbrev pub is_covered : Want → Entry → Bool
is_covered want e = nat_le want.lo e.first && nat_le e.last want.hi

-- a bound of so many values: NULL where there is none
abbrev pub bound_of : ℕ → ℤ → Value
bound_of count n = (if count == 0 then value.Null else value.Num n)

-- what a summary says of so many rows: their tally, but for the first and the last value
abbrev pub tally_of_summary : ℕ → Summary → Tally
tally_of_summary rows s = record {
  rows = rows;
  count = s.count;
  sum = s.sum;
  min = bound_of s.count s.least;
  max = bound_of s.count s.greatest;
  first = None;
  last = None;
}

-- What the index says of a column of the block of an entry, which stands at a spot; an entry with another count of
-- columns than is wanted is a fault at it.
abbrev pub summed_part : Want → ℕ → Spot → Entry → Result Tally ℕ
summed_part want column spot e =
    (if length e.columns == length want.kinds
    then Ok (tally_of_summary e.rows (slice_index_or e.columns column no_numbers))
    else Err (spot.place + 36))

-- what the rows of the block say of it
abbrev pub read_part : Want → ℕ → Spot → Entry → List ℕ → Result Tally ℕ
read_part want column spot e all =
    own_block want.kinds spot.range spot.last spot.place e all >>= λ rows. Ok (tally_of_rows want column rows)

-- What a block adds: by the index where all its rows are wanted, and else by its rows.
abbrev pub part_of : Want → ℕ → Spot → Entry → List ℕ → Result Tally ℕ
part_of want column spot e all =
    (if is_covered want e then summed_part want column spot e else read_part want column spot e all)

-- ---- what blocks add together

abbrev pub nothing_gathered : Gathering
nothing_gathered = record { tally = empty_tally; first = None; last = None }

-- the block of an entry at a spot with what it adds, where that has values
abbrev pub counted : Spot → Tally → Option BlockPart
counted spot part = (if part.count == 0 then None else Some (record { spot = spot; part = part }))

abbrev pub one_gathered : Spot → Tally → Gathering
one_gathered spot part = record { tally = part; first = counted spot part; last = counted spot part }

-- the former, or else the latter
abbrev pub either : Option BlockPart → Option BlockPart → Option BlockPart
either None b = b
either (Some a) b = Some a

-- What blocks add, and others behind them: their tallies together, and the first and the last block that has values.
abbrev pub both : Gathering → Gathering → Gathering
both a b =
    record { tally = merged a.tally b.tally; first = either a.first b.first; last = either b.last a.last }

-- what the block of an entry, which stands at a spot, adds, where it can have wanted rows
abbrev pub gathered_of : Want → ℕ → Spot → Entry → List ℕ → Result Gathering ℕ
gathered_of want column spot e all =
    (if is_needed want e then (part_of want column spot e all >>= λ part. Ok (one_gathered spot part))
    else Ok nothing_gathered)

-- the spot behind an entry
abbrev pub spot_behind : Spot → Entry → Spot
spot_behind spot e =
    record { range = spot.range; next = spot.next + 1; place = spot.place + entry_length e; last = last_key e }

-- What the blocks of entries add, the first of which stands at a spot; or the place of the first fault.
unfoldable pub gathered : Want → ℕ → List ℕ → Spot → List Entry → Result Gathering ℕ
gathered want column all spot [] = Ok nothing_gathered
gathered want column all spot (e ∷ es) =
    gathered_of want column spot e all
    >>= λ one. gathered want column all (spot_behind spot e) es >>= λ others. Ok (both one others)

-- ---- the first and the last value

-- What a block says of its first and its last value, by its entry: a block that wasn't read is read for them.
abbrev pub block_marks : Want → ℕ → List ℕ → BlockPart → Option Entry → Result Tally ℕ
block_marks want column all b None = Ok empty_tally
block_marks want column all b (Some e) =
    (if is_covered want e then read_part want column b.spot e all else Ok b.part)

-- the same of a block of an index, where there is such a block
abbrev pub marks_of : Want → ℕ → List Entry → List ℕ → Option BlockPart → Result Tally ℕ
marks_of want column entries all None = Ok empty_tally
marks_of want column entries all (Some b) = block_marks want column all b (slice_get entries b.spot.next)

-- What was gathered, with the first value of the first block that has values, and the last value of the last.
abbrev pub with_marks : Want → ℕ → List Entry → List ℕ → Gathering → Result Tally ℕ
with_marks want column entries all g =
    marks_of want column entries all g.first
    >>= λ front. marks_of want column entries all g.last
    >>= λ back. Ok (record g.tally { first = front.first; last = back.last })

-- the spot before all entries of an index
abbrev pub first_spot : Opening → Spot
first_spot o = record { range = o.range; next = 0; place = o.index; last = before_all }

-- the tally of a column over what is wanted of a file with this opening
abbrev pub folded_behind : Want → ℕ → Opening → List ℕ → Result Tally ℕ
folded_behind want column o all =
    gathered want column all (first_spot o) o.entries >>= λ g. with_marks want column o.entries all g

-- The tally of a column over what is wanted of a file, or the place of the first fault that is met: of the opening, of
-- what blocks add, of the first and of the last value.
unfoldable pub folded : Want → ℕ → List ℕ → Result Tally ℕ
folded want column all = opening_at all >>= λ o. folded_behind want column o all

-- ---- steps

-- whether some rows of the block of an entry can be wanted, and others not
abbrev pub is_partial : Want → Entry → Bool
is_partial want e = is_needed want e && not (is_covered want e)

-- how many rows such blocks have
abbrev pub partial_rows : Want → List Entry → ℕ
partial_rows want entries = sum_by (λ (e : Entry). e.rows) (filter (is_partial want) entries)

abbrev pub steps_of_opening : Want → Result Opening ℕ → ℕ
steps_of_opening want (Ok o) = partial_rows want o.entries
steps_of_opening want (Err place) = 0

-- How many steps a fold of a file takes: one for each row of a block that the range covers in part.
abbrev pub steps_of : Want → List ℕ → ℕ
steps_of want all = steps_of_opening want (opening_at all)

-- ---- what a call has

-- What a block adds is sound, and of at most as many rows as a block may have.
pub record IsPart (t : Tally) : Type 0 where
  pub sound : IsSound t
  pub rows : t.rows ≤ BLOCK_ROWS
  pub count : t.count ≤ BLOCK_ROWS

-- what a block at a spot adds, which is the first and the last that has values, or there is none
pub record IsGathered (spot : Spot) (g : Gathering) : Type 0 where
  pub tally : IsPart g.tally
  pub first : IfSome g.first (λ b. (b.spot ≡ spot) × IsPart b.part)
  pub last : IfSome g.last (λ b. (b.spot ≡ spot) × IsPart b.part)

-- a block of an index, with what it adds
pub record IsFound (entries : List Entry) (b : BlockPart) : Type 0 where
  pub next : b.spot.next < length entries
  pub place : b.spot.place + 38 < 2 ^ 64
  pub part : IsPart b.part

-- what blocks of an index add together
pub record AreFound (entries : List Entry) (g : Gathering) : Type 0 where
  pub sound : IsSound g.tally
  pub first : IfSome g.first (IsFound entries)
  pub last : IfSome g.last (IsFound entries)

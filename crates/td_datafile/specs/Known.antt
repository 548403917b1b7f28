-- What is known of the entries of an index that was read.
use Rattle.std.specs.Prelude.{◌≡◌, ℕ, ◌≤◌, ◌^◌, ◌<◌, nat_le, true, List, [], ◌∷◌, length}
use Rattle.std.specs.List.{AllByRecursion}
use Rattle.td_limits.specs.declared.limits.TheConstants.{BLOCK_ROWS}
use Rattle.td_datafile.specs.declared.format.Summary.{Summary}
use Rattle.td_datafile.specs.declared.format.Entry.{Entry}
use Rattle.td_datafile.specs.declared.entries.Behind.{Behind}
use Rattle.td_datafile.specs.Entries.{is_sum, is_bound, comes_later, can_end, behind, behind_entry}

-- a summary of a column of so many rows
pub record IsSummaryOf (rows : ℕ) (s : Summary) : Type 0 where
  pub count : s.count ≤ rows
  pub sum : is_sum s.count s.sum ≡ true
  pub least : is_bound s.count s.least ≡ true
  pub greatest : is_bound s.count s.greatest ≡ true

-- an entry of 1 to 1024 rows, which comes behind others and can end where it says, with summaries of its columns
pub record Follows (b : Behind) (e : Entry) : Type 0 where
  pub table : nat_le b.table e.table ≡ true
  pub first : comes_later b e.table e.first ≡ true
  pub last : can_end e.rows e.first e.last ≡ true
  pub some : 1 ≤ e.rows
  pub few : e.rows ≤ BLOCK_ROWS
  pub sums : AllByRecursion (IsSummaryOf e.rows) e.columns

-- each entry comes behind those before it
abbrev pub AllFollow : Behind → List Entry → Type 0
AllFollow b [] = Unit {0}
AllFollow b (e ∷ es) = Follows b e × AllFollow (behind_entry e) es

-- the entries of an index
pub record AreEntries (entries : List Entry) : Type 0 where
  pub follow : AllFollow (behind []) entries
  pub few : length entries < 2 ^ 32

-- The state of a store, and what a history of entries makes of it.
use Rattle.std.specs.Prelude.{ℕ, ◌+◌, ◌-◌, ◌*◌, max, Bool, not, ◌&&◌, ◌==◌, nat_le, List, [], ◌∷◌, ◌++◌, take, filter, Option, Some, None, slice_set, slice_index_or}
use Rattle.std.specs.Map.{lookup}
use Rattle.std.specs.BTreeMap.{insert_entry, is_at}
use Rattle.td_layer.specs.declared.values.Value.{Value}
use Rattle.td_layer.specs.declared.values.Key.{Key}
use Rattle.td_layer.specs.declared.values.Row.{Row}
use Rattle.td_model.specs.declared.catalog.TableDef.{TableDef}
use Rattle.td_model.specs.declared.history.Put.{Put}
use Rattle.td_model.specs.declared.history.What.{What}
use Rattle.td_model.specs.declared.history.What.TheVariants as what
use Rattle.td_model.specs.declared.history.Entry.{Entry}
pub use Rattle.td_layer.specs.Keys.{key_cmp}
pub use Rattle.td_layer.specs.Parts.{over}
use Rattle.td_layer.specs.Parts as parts
use Rattle.td_limits.specs.declared.limits.TheConstants.{DAY_RANGE}
use Rattle.td_model.specs.Catalog.{Catalog, empty_catalog, table_at, with_what}

-- rows by key, in the order of the keys, each key once
abbrev pub Rows : Type 0
Rows = List (Key × Row)

-- the row of a key, if there is one
abbrev pub row_at : Key → Rows → Option Row
row_at key rows = lookup (is_at (key_cmp key)) rows

-- the rows with this row at the key
abbrev pub with_row : Key → Row → Rows → Rows
with_row key row rows = insert_entry key_cmp rows key row

pub record State : Type 0 where
  pub version : ℕ
  -- the moment of the last entry, in milliseconds since 1970
  pub moment : ℕ
  pub catalog : Catalog
  -- of each supertable, and of each plain table, the greatest timestamp that was ever put there
  pub stable_latest : List (Option ℕ)
  pub table_latest : List (Option ℕ)
  pub rows : Rows
  -- the retention edge, a number of day ranges; rows before it are gone, and none may be put there
  pub edge : ℕ
  -- the version of the halt, from which on nothing is written
  pub halt : Option ℕ

abbrev pub empty_state : State
empty_state =
    record {
      version = 0;
      moment = 0;
      catalog = empty_catalog;
      stable_latest = [];
      table_latest = [];
      rows = [];
      edge = 0;
      halt = None;
    }

-- Cells laid over the row that is there. A new row is born at the moment, and a row that is there keeps its birth.
abbrev pub lay : List (Option Value) → ℕ → Option Row → Row
lay cells moment row = parts.lay (record { birth = record { born = moment }; cells = cells }) row

abbrev pub later : Option ℕ → ℕ → Option ℕ
later None ts = Some ts
later (Some l) ts = Some (max l ts)

-- the greatest timestamps, with that of a number, from 1, raised
abbrev pub raised : List (Option ℕ) → ℕ → ℕ → List (Option ℕ)
raised latest n ts = slice_set latest (n - 1) (later (slice_index_or latest (n - 1) None) ts)

-- the supertable that a table, which may be missing, is a subtable of
abbrev pub parent_of : Option TableDef → Option ℕ
parent_of None = None
parent_of (Some t) = t.parent

-- a subtable's greatest timestamp is its supertable's
abbrev pub latest_raised : Option ℕ → Key → State → State
latest_raised None key s = record s { table_latest = raised s.table_latest key.table key.ts }
latest_raised (Some stable) key s = record s { stable_latest = raised s.stable_latest stable key.ts }

abbrev pub row_put : Put → State → State
row_put p s = record s { rows = with_row p.key (lay p.cells s.moment (row_at p.key s.rows)) s.rows }

abbrev pub put_one : Put → State → State
put_one p s = latest_raised (parent_of (table_at p.key.table s.catalog)) p.key (row_put p s)

abbrev pub put_all : List Put → State → State
put_all [] s = s
put_all (p ∷ ps) s = put_all ps (put_one p s)

-- whether a key lies in a table's range of timestamps, whose ends belong to it
abbrev pub is_cut : ℕ → ℕ → ℕ → Key → Bool
is_cut table lo hi key = (key.table == table) && (nat_le lo key.ts && nat_le key.ts hi)

-- What an entry does to a state that has its version and moment already. The states before the entry are given too, the
-- newest first: a step of a stream will look at one of them.
abbrev pub effect : List State → What → State → State
effect past (what.MakeStable name schema) s =
    record s {
      catalog = with_what (what.MakeStable name schema) s.catalog;
      stable_latest = s.stable_latest ++ None ∷ [];
    }
effect past (what.MakeTable name columns) s =
    record s { catalog = with_what (what.MakeTable name columns) s.catalog; table_latest = s.table_latest ++ None ∷ [] }
effect past (what.MakeSub name stable tags) s =
    record s {
      catalog = with_what (what.MakeSub name stable tags) s.catalog;
      table_latest = s.table_latest ++ None ∷ [];
    }
effect past (what.Put puts) s = put_all puts s
effect past (what.Cut table lo hi) s = record s { rows = filter (λ e. not (is_cut table lo hi e.0)) s.rows }
effect past (what.Edge edge) s = record s { edge = edge; rows = filter (λ e. nat_le (edge * DAY_RANGE) e.0.ts) s.rows }
effect past (what.MakeStream def) s = record s { catalog = with_what (what.MakeStream def) s.catalog }
effect past (what.DropStream n) s = record s { catalog = with_what (what.DropStream n) s.catalog }
effect past (what.Step stream upto moment) s = s
effect past what.Halt s = record s { halt = Some s.version }

-- ---- histories

-- the newest of the states so far, which stand with the newest first
abbrev pub newest : List State → State
newest [] = empty_state
newest (s ∷ past) = s

-- the state after one more entry, which may look at all states so far
abbrev pub step : List State → Entry → State
step past e = effect past e.what (record (newest past) { version = (newest past).version + 1; moment = e.moment })

-- the states of a history, the newest first, after those that were before it
abbrev pub trail : List State → List Entry → List State
trail past [] = past
trail past (e ∷ h) = trail (step past e ∷ past) h

-- the state after a history
abbrev pub after : State → List Entry → State
after b h = newest (trail (b ∷ []) h)

-- the state at a version, of those from b's on
abbrev pub at : State → List Entry → ℕ → State
at b h p = after b (take (p - b.version) h)

-- What reading a snapshot gives and leaves.
use Rattle.std.specs.Prelude.{◌≡◌, ◌⊎◌, ◌≤◌, ◌<◌, ◌+◌, ℕ, zero, suc, Bool, ◌&&◌, nat_le, List, [], ◌∷◌, map, filter, length, insert, Option, Some, None}
use Rattle.std.specs.BTreeMap.{BTreeMap}
use Rattle.std.specs.List.{AllByRecursion}
use Rattle.td_layer.specs.Columns.{AreColumnValues}
use Rattle.td_layer.specs.declared.values.Cell.{Cell}
use Rattle.td_layer.specs.declared.values.Key.{Key}
use Rattle.td_layer.specs.declared.values.Row.{Row}
use Rattle.td_model.specs.State.{Rows}
use Rattle.td_model.specs.declared.catalog.Column.{Column}
use Rattle.td_verdict.specs.declared.comparison.Comparison.{Comparison}
use Rattle.td_verdict.specs.Groups.{Listed, is_picked, Grouped, with_rows, empty_group, put_group}
use Rattle.td_query.specs.Planned.{keyed}
use Rattle.td_query.specs.declared.groups.Gathered.{Gathered}
use Rattle.td_query.specs.declared.tables.Table.{Table}
use Rattle.td_query.specs.declared.rows.TimeKey.{TimeKey}

abbrev pub listed : Table → Listed
listed t = record { number = t.number; part = t.part.now; name = t.name.now; tags = t.tags.now }

-- one by what may be missing
abbrev pub listed_by : Option ℕ → Option (List Cell) → Option (List ℕ) → Option (List Cell) → Option Listed
listed_by None part name tags = None
listed_by (Some n) None name tags = None
listed_by (Some n) (Some part) None tags = None
listed_by (Some n) (Some part) (Some name) None = None
listed_by (Some n) (Some part) (Some name) (Some cells) =
    Some (record { number = n; part = part; name = name; tags = cells })

-- rows by timestamp and table, as the definitions have them by key
abbrev pub key_of : TimeKey → Key
key_of k = record { table = k.table; ts = k.ts }

abbrev pub keyed_rows : List (TimeKey × Row) → Rows
keyed_rows es = map (λ (e : TimeKey × Row). (key_of e.0, e.1)) es

-- of rows of a table those in a range of timestamps of which all conditions are true
abbrev pub is_within : ℕ → ℕ → Key × Row → Bool
is_within lo hi e = nat_le lo e.0.ts && nat_le e.0.ts hi

abbrev pub is_wanted : List Column → List Comparison → ℕ → ℕ → Listed → Key × Row → Bool
is_wanted columns ps lo hi t e = is_within lo hi e && is_picked columns ps t e

abbrev pub wanted_from : List Column → List Comparison → ℕ → ℕ → Listed → List (ℕ × Row) → Rows
wanted_from columns ps lo hi t found = filter (is_wanted columns ps lo hi t) (map (keyed t.number) found)

abbrev pub time_of : Key × Row → ℕ
time_of e = e.0.ts

-- how many partials the layers of a snapshot hold of tables, where all are told
abbrev pub told_sum : Option ℕ → Option ℕ → Option ℕ
told_sum None n = None
told_sum (Some m) None = None
told_sum (Some m) (Some n) = Some (m + n)

abbrev pub held_by : (ℕ → ℕ → ℕ → Option ℕ) → ℕ → ℕ → List Listed → Option ℕ
held_by held lo hi [] = Some 0
held_by held lo hi (t ∷ ts) = told_sum (held t.number lo hi) (held_by held lo hi ts)

-- ---- groups

-- a group of rows by timestamp and table
abbrev pub WithRows : Type 0
WithRows = Gathered (BTreeMap TimeKey Row)

abbrev pub grouped : WithRows → Grouped
grouped g = record { part = g.part; rows = keyed_rows g.kept.entries }

abbrev pub all_grouped : List WithRows → List Grouped
all_grouped gs = map grouped gs

-- the parts of groups
abbrev pub parts_of : {W : Type 0} → List (Gathered W) → List (List Cell)
parts_of {W} gs = map (λ (g : Gathered W). g.part) gs

abbrev pub parts_in : List Grouped → List (List Cell)
parts_in gs = map (λ (g : Grouped). g.part) gs

-- rows put into the group at a place
abbrev pub put_at : ℕ → Rows → List Grouped → List Grouped
put_at place rows [] = []
put_at zero rows (g ∷ gs) = with_rows g rows ∷ gs
put_at (suc place) rows (g ∷ gs) = g ∷ put_at place rows gs

-- among groups of these parts that of a part stands at a place
abbrev pub StandsAt : List Cell → List (List Cell) → ℕ → Type 0
StandsAt part parts place =
    (place < length parts)
    × ((gs : List Grouped) (rows : Rows) → parts_in gs ≡ parts → put_group part rows gs ≡ put_at place rows gs)

-- there is none, and it would stand at a place
abbrev pub GoesTo : List Cell → List (List Cell) → ℕ → Type 0
GoesTo part parts place =
    (place ≤ length parts)
    × ((gs : List Grouped) (rows : Rows) → parts_in gs ≡ parts
    → put_group part rows gs ≡ put_at place rows (insert gs place (empty_group part)))

-- groups among which that of a part now stands at a place: it did, or it was made, with what is kept of no row
abbrev pub made_group : {W : Type 0} → List Cell → W → Gathered W
made_group part fresh = record { part = part; kept = fresh }

abbrev pub IsOpened : {W : Type 0} → List Cell → W → List (Gathered W) → List (Gathered W) → ℕ → Type 0
IsOpened part fresh old new place =
    (place < length new)
    × (((new ≡ old) × StandsAt part (parts_of old) place)
    ⊎ ((new ≡ insert old place (made_group part fresh)) × GoesTo part (parts_of old) place))

-- groups among which that of a part now stands at a place
abbrev pub Opens : List Cell → List Grouped → List Grouped → ℕ → Type 0
Opens part old new place = (place < length new) × ((rows : Rows) → put_group part rows old ≡ put_at place rows new)

-- each row of each group lies at or before a timestamp, with values such as columns hold
abbrev pub IsGood : ℕ → Key × Row → Type 0
IsGood hi e = (e.0.ts ≤ hi) × AreColumnValues e.1.values

abbrev pub AreGood : ℕ → List Grouped → Type 0
AreGood hi gs = AllByRecursion (λ (g : Grouped). AllByRecursion (IsGood hi) g.rows) gs

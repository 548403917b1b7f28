-- The sums of the rows of a group, by the ends of the windows that they lie in.
use Rattle.std.specs.Prelude.{◌≡◌, ℕ, Bool, ◌==◌, if◌then◌else◌, List, [], filter, min, true, Option, Some, None, IsSome}
use Rattle.std.specs.List.{AllByRecursion}
use Rattle.std.specs.Option.{unwrap_or}
use Rattle.std.specs.BTreeMap.{BTreeMap, get}
use Rattle.std.specs.Ordering.{nat_cmp}
use Rattle.td_layer.specs.declared.values.Key.{Key}
use Rattle.td_layer.specs.declared.values.Row.{Row}
use Rattle.td_limits.specs.declared.limits.TheConstants.{LAST_TIMESTAMP}
use Rattle.td_model.specs.State.{Rows}
use Rattle.td_query.specs.Frames.{IsEnd, is_before_end, is_in_pane}
use Rattle.td_query.specs.Read.{listed, wanted_from}
use Rattle.td_query.specs.Sums.{Sum, sum_of, joined}
use Rattle.td_query.specs.declared.frames.Frame.{Frame}
use Rattle.td_query.specs.declared.frames.Pane.{Pane}
use Rattle.td_query.specs.declared.summing.Asked.{Asked}
use Rattle.td_query.specs.declared.tables.Table.{Table}
use Rattle.td_verdict.specs.Groups.{Grouped}
use Rattle.td_verdict.specs.Windowed.{Keyed}

-- of rows of a table those that are wanted
abbrev pub wanted_by : Asked → Table → List (ℕ × Row) → Rows
wanted_by a t found =
    wanted_from a.plan.now.schema.columns a.comparisons.now a.plan.now.lo a.plan.now.hi (listed t) found

-- whether a row lies in the window of a length that ends there
abbrev pub takes : ℕ → ℕ → Keyed → Bool
takes len end e = is_before_end len end e.0.ts

-- a row of a table whose timestamp, or the last of all, lies in just the windows of a pane
abbrev pub LiesIn : Frame → Pane → ℕ × Row → Type 0
LiesIn f p row = is_in_pane f.len f.slide p.first p.last (min row.0 LAST_TIMESTAMP) ≡ true

-- rows of which each lies in just the windows of a pane
abbrev pub LieIn : Frame → Pane → List Keyed → Type 0
LieIn f p rows = AllByRecursion (λ (e : Keyed). is_in_pane f.len f.slide p.first p.last e.0.ts ≡ true) rows

-- what stands in the place of a sum before which rows were put
abbrev pub laid : Sum → Option Sum → Sum
laid front None = front
laid front (Some s) = joined front s

abbrev pub laid_at : Sum → BTreeMap ℕ Sum → ℕ → ℕ → Option Sum
laid_at front m end q = if q == end then Some (laid front (get nat_cmp m q)) else get nat_cmp m q

-- the sum at an end: where there is none, that of no row
abbrev pub sum_at : List (Option ℕ) → BTreeMap ℕ Sum → ℕ → Sum
sum_at places m end = unwrap_or (get nat_cmp m end) (sum_of places [])

-- these are the sums of rows, over the windows of a frame
pub record AreSums (f : Frame) (places : List (Option ℕ)) (m : BTreeMap ℕ Sum) (rows : List Keyed) : Type 0 where
  pub sums : (end : ℕ) → IsEnd f.phase f.slide end → sum_at places m end ≡ sum_of places (filter (takes f.len end) rows)
  pub ends : (end : ℕ) → IsSome (get nat_cmp m end) → IsEnd f.phase f.slide end

-- what is true of the keys of all rows of groups
abbrev pub AllKeys : (Key → Type 0) → Rows → Type 0
AllKeys K rows = AllByRecursion (λ (e : Keyed). K e.0) rows

abbrev pub AllGroups : (Key → Type 0) → List Grouped → Type 0
AllGroups K gs = AllByRecursion (λ (g : Grouped). AllKeys K g.rows) gs

-- The numbers of the subtables of each supertable of a catalog, by the supertable's number.
use Rattle.std.specs.Prelude.{◌≡◌, ◌<◌, ◌+◌, ◌-◌, ◌++◌, ℕ, List, [], ◌∷◌, map, filter, length, slice_set, Option, Some, None}
use Rattle.std.specs.List.{slice_index_or}
use Rattle.td_model.specs.declared.catalog.TableDef.{TableDef}
use Rattle.td_verdict.specs.Plans.{Numbered, numbered, is_under}

-- the numbers; how many more supertables they take without further memory; and whether each takes one more subtable, by
-- 1 or 0
pub record Grouped : Type 0 where
  pub lists : List (List ℕ)
  pub stable_room : ℕ
  pub child_room : ℕ

-- the numbers of those of some tables, numbered from 1, that are subtables of a supertable
abbrev pub children_of : ℕ → List TableDef → List ℕ
children_of stable tables =
    map (λ (e : Numbered). e.0) (filter (λ (e : Numbered). is_under stable e.1) (numbered 1 tables))

abbrev pub group_at : ℕ → List (List ℕ) → List ℕ
group_at stable lists = slice_index_or lists (stable - 1) []

-- with one more subtable of a supertable, or of none
abbrev pub with_child : Option ℕ → ℕ → List (List ℕ) → List (List ℕ)
with_child None table lists = lists
with_child (Some stable) table lists = slice_set lists (stable - 1) (group_at stable lists ++ table ∷ [])

-- the numbers of the subtables of so many supertables, among some tables
pub record AreGroups (stables : ℕ) (tables : List TableDef) (lists : List (List ℕ)) : Type 0 where
  pub count : length lists ≡ stables
  pub each : (i : ℕ) → i < stables → slice_index_or lists i [] ≡ children_of (i + 1) tables

-- What is true of each entry that a write is accepted as, of each row of a state, and of the plan of a query.
use Rattle.std.specs.Prelude.{◌≡◌, ◌≤◌, ◌*◌, ℕ, Bool, true, false, List, [], ◌∷◌, drop, length, All, Option, Some, None, ⊤}
use Rattle.std.specs.List.{AllZip, list_any}
use Rattle.std.specs.List.Sorted.{IsStrictlySortedBy}
use Rattle.std.specs.Ordering.{nat_cmp}
use Rattle.td_cols.specs.declared.kinds.Kind.{Kind}
use Rattle.td_cols.specs.Kinds.{is_in_range}
use Rattle.td_layer.specs.declared.values.Cell.{Cell}
use Rattle.td_layer.specs.declared.values.Key.{Key}
use Rattle.td_layer.specs.declared.values.Row.{Row}
use Rattle.td_layer.specs.declared.values.Value.{Value}
use Rattle.td_layer.specs.declared.values.Value.TheVariants as value
use Rattle.td_limits.specs.declared.limits.TheConstants.{DAY_RANGE, LAST_TIMESTAMP}
use Rattle.td_model.specs.declared.catalog.Column.{Column}
use Rattle.td_model.specs.declared.catalog.Schema.{Schema}
use Rattle.td_model.specs.declared.history.Put.{Put}
use Rattle.td_model.specs.declared.history.What.{What}
use Rattle.td_model.specs.declared.history.What.TheVariants as what
use Rattle.td_model.specs.declared.language.Cond.{Cond}
use Rattle.td_model.specs.declared.language.Lit.{Lit}
use Rattle.td_model.specs.declared.language.Lit.TheVariants as lit
use Rattle.td_model.specs.declared.language.PartBy.{PartBy}
use Rattle.td_model.specs.declared.language.Query.{Query}
use Rattle.td_model.specs.declared.plan.Plan.{Plan}
use Rattle.td_model.specs.Catalog.{Catalog}
use Rattle.td_model.specs.State.{State}
use Rattle.td_verdict.specs.Names.{table_schema, stands_twice}
use Rattle.td_verdict.specs.Fields.{comparisons_of}
use Rattle.td_verdict.specs.Queries.{body_cause}
use Rattle.td_verdict.specs.Parts.{part_of}
use Rattle.td_verdict.specs.Plans.{lowest, highest, reads_one}
use Rattle.td_verdict.specs.Refusals.{has_bad_bounds}
use Rattle.td_verdict.specs.Valid.{AreTags, IsValid}

-- ---- rows

-- a value is NULL, or a number in the range of a kind
abbrev pub is_value_of : Kind → Value → Bool
is_value_of k value.Null = true
is_value_of k (value.Num n) = is_in_range k n

-- the columns of a table behind the first, which is the timestamp
abbrev pub value_columns : ℕ → Catalog → List Column
value_columns table c = drop 1 (table_schema (Some table) c).columns

-- there is the table of a key, and the timestamp is in range
pub record IsKey (c : Catalog) (key : Key) : Type 0 where
  pub from_one : 1 ≤ key.table
  pub there : key.table ≤ length c.tables
  pub time : key.ts ≤ LAST_TIMESTAMP

-- one value a column, each in its kind's range
pub record IsRow (c : Catalog) (e : Key × Row) : Type 0 where
  pub key : IsKey c e.0
  pub values : AllZip (λ (k : Column) (v : Value). is_value_of k.kind v ≡ true) (value_columns e.0.table c) e.1.values

-- ---- entries

-- a value that is named is one of its kind
abbrev pub is_named_of : Kind → Option Value → Bool
is_named_of k None = true
is_named_of k (Some v) = is_value_of k v

-- a put into a table that is there: one cell a column, each not named or in its kind's range
pub record IsPut (c : Catalog) (p : Put) : Type 0 where
  pub key : IsKey c p.key
  pub cells : AllZip (λ (k : Column) (v : Option Value). is_named_of k.kind v ≡ true)
      (value_columns p.key.table c) p.cells

-- timestamps to remove from a table that is there
pub record IsCut (c : Catalog) (table lo hi : ℕ) : Type 0 where
  pub from_one : 1 ≤ table
  pub there : table ≤ length c.tables
  pub first : lo ≤ LAST_TIMESTAMP
  pub last : hi ≤ LAST_TIMESTAMP

-- no row of an entry lies before a retention edge, and the edge doesn't fall
abbrev pub IsFromEdge : ℕ → What → Type 0
IsFromEdge edge (what.Put puts) = All (λ (p : Put). edge * DAY_RANGE ≤ p.key.ts) puts
IsFromEdge edge (what.Edge next) = edge ≤ next
IsFromEdge edge w = ⊤

-- ---- states

-- the catalog is valid, and each row is one of a table that is there, with a value for each column, and not before the
-- edge
pub record IsSound (s : State) : Type 0 where
  pub catalog : IsValid s.catalog
  pub rows : All (IsRow s.catalog) s.rows
  pub edge : All (λ (e : Key × Row). s.edge * DAY_RANGE ≤ e.0.ts) s.rows

-- ---- plans

abbrev pub is_now : Lit → Bool
is_now lit.Now = true
is_now _ = false

-- a condition's literal is NOW
abbrev pub has_now : Query → Bool
has_now q = list_any (λ (c : Cond). is_now c.lit) q.conds

-- the cells that the PARTITION BY items give for tables of these names and tags
abbrev pub parts_of : Schema → List PartBy → List (List ℕ) → List (List Cell) → List (List Cell)
parts_of s parts [] tags = []
parts_of s parts (name ∷ names) [] = []
parts_of s parts (name ∷ names) (cells ∷ tags) = part_of s parts name cells ∷ parts_of s parts names tags

-- what a plan reads is told by its query, its schema and its tables, whose lists go together
pub record IsSoundPlan (p : Plan) : Type 0 where
  pub names_length : length p.names ≡ length p.tables
  pub tags_length : length p.tags ≡ length p.tables
  pub parts_length : length p.parts ≡ length p.tables
  pub tables : IsStrictlySortedBy nat_cmp p.tables
  pub names : stands_twice p.names ≡ false
  pub lo : p.lo ≡ lowest (comparisons_of p.schema p.query.conds)
  pub hi : p.hi ≡ highest (comparisons_of p.schema p.query.conds)
  pub no_now : has_now p.query ≡ false
  pub cause : body_cause (reads_one p) p.schema p.query ≡ None
  pub tags : All (AreTags p.schema.tags) p.tags
  pub parts : p.parts ≡ parts_of p.schema p.query.parts p.names p.tags

-- a plan's timestamps end in the range of time, and an interval of it has durations in their bounds
pub record IsBounded (p : Plan) : Type 0 where
  pub time : p.hi ≤ LAST_TIMESTAMP
  pub window : has_bad_bounds p.query.window ≡ false

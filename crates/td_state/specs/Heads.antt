-- What a head says of a state and what it asks of a catalog, and the state that supertables and tables of a head make.
use Rattle.std.specs.Prelude.{◌≡◌, ℕ, ◌+◌, ◌<◌, ◌≤◌, nat_le, Bool, true, List, [], ◌∷◌, ◌++◌, length, Option, Some, None}
use Rattle.std.specs.List.{list_all, AllByRecursion}
use Rattle.td_limits.specs.declared.limits.TheConstants.{NAME_BYTES, TABLES}
use Rattle.td_layer.specs.declared.values.Cell.{Cell}
use Rattle.td_layer.specs.declared.values.Cell.TheVariants as cell
use Rattle.td_model.specs.declared.catalog.Column.{Column}
use Rattle.td_model.specs.declared.catalog.StableDef.{StableDef}
use Rattle.td_model.specs.declared.catalog.TableDef.{TableDef}
use Rattle.td_model.specs.declared.history.What.{What}
use Rattle.td_model.specs.declared.history.What.TheVariants as what
use Rattle.td_model.specs.declared.history.Entry.{Entry}
use Rattle.td_model.specs.Catalog.{Catalog}
use Rattle.td_model.specs.State.{State}
use Rattle.td_grammar.specs.Names.{is_name}
use Rattle.td_codec.specs.Lists.{all_fit}
use Rattle.td_manifest.specs.declared.head.Head.{Head}
use Rattle.td_manifest.specs.declared.head.HeadStable.{HeadStable}
use Rattle.td_manifest.specs.declared.head.HeadTable.{HeadTable}
use Rattle.td_manifest.specs.declared.head.HeadTable.TheVariants as tables
use Rattle.td_manifest.specs.Tables.{stable_items, table_items}
use Rattle.td_manifest.specs.States.{empty_head, stable_def, state_of_head, table_def, table_latest}

-- ---- the supertables and tables of a state, as a head has them

-- a supertable with the greatest timestamp that was ever put there
abbrev pub stable_head : StableDef → Option ℕ → HeadStable
stable_head s latest = record { name = s.name; schema = s.schema; latest = latest }

-- a table with this; that of a subtable is its supertable's
abbrev pub table_head_by : Option ℕ → TableDef → Option ℕ → HeadTable
table_head_by None t latest = tables.Plain t.name t.columns latest
table_head_by (Some stable) t latest = tables.Sub t.name stable t.tags

abbrev pub table_head : TableDef → Option ℕ → HeadTable
table_head t latest = table_head_by t.parent t latest

-- of each of some that go together with their greatest timestamps
abbrev pub beside : {A B : Type 0} → (A → Option ℕ → B) → List A → List (Option ℕ) → List B
beside f [] latest = []
beside f (x ∷ xs) [] = []
beside f (x ∷ xs) (o ∷ os) = f x o ∷ beside f xs os

abbrev pub stable_heads : List StableDef → List (Option ℕ) → List HeadStable
stable_heads stables latest = beside stable_head stables latest

abbrev pub table_heads : List TableDef → List (Option ℕ) → List HeadTable
table_heads tables latest = beside table_head tables latest

-- ---- the state that supertables and tables make

-- what makes a table
abbrev pub making : HeadTable → What
making (tables.Plain name columns latest) = what.MakeTable name columns
making (tables.Sub name stable tags) = what.MakeSub name stable tags

-- the entry that makes one, of no session
abbrev pub entry_making : What → Entry
entry_making w = record { session = 0; ordinal = 0; moment = 0; what = w }

-- each is made by an entry
abbrev pub made_of : List HeadStable → List HeadTable → State
made_of stables tables =
    record (state_of_head (record empty_head { stables = stables; tables = tables }) []) {
      version = length stables + length tables;
    }

-- the state with a supertable more, and with a table more
abbrev pub with_stable : HeadStable → State → State
with_stable s t =
    record t {
      version = t.version + 1;
      moment = 0;
      catalog = record t.catalog { stables = t.catalog.stables ++ stable_def s ∷ [] };
      stable_latest = t.stable_latest ++ s.latest ∷ [];
      rows = [];
    }

abbrev pub with_table : HeadTable → State → State
with_table u t =
    record t {
      version = t.version + 1;
      moment = 0;
      catalog = record t.catalog { tables = t.catalog.tables ++ table_def u ∷ [] };
      table_latest = t.table_latest ++ table_latest u ∷ [];
      rows = [];
    }

-- the state with the numbers of a head
abbrev pub with_numbers : Head → State → State
with_numbers h s =
    record s {
      version = h.version;
      moment = h.moment;
      catalog = record s.catalog { next_stream = h.next_stream };
      edge = h.edge;
    }

-- the supertables, and the tables over them, of a head that fits
pub record FitStables (stables : List HeadStable) : Type 0 where
  pub each : all_fit stable_items [] stables ≡ true
  pub few : length stables ≤ TABLES

pub record FitTables (stables : List HeadStable) (tables : List HeadTable) : Type 0 where
  pub each : all_fit (table_items stables) [] tables ≡ true
  pub few : length stables + length tables ≤ TABLES

-- ---- what a head asks of a catalog

-- a word in lower case that is neither reserved nor one that is not built, and isn't longer than a name may be
pub record IsShortName (name : List ℕ) : Type 0 where
  pub few : length name ≤ NAME_BYTES
  pub named : is_name name ≡ true

-- the names of columns and tags are short
abbrev pub AreShortNamed : List Column → Type 0
AreShortNamed columns = AllByRecursion (λ (c : Column). IsShortName c.name) columns

-- one tag or more, with short names
pub record AreTags (tags : List Column) : Type 0 where
  pub some : 0 < length tags
  pub names : AreShortNamed tags

-- no byte of a text is below 32
abbrev pub is_printable : List ℕ → Bool
is_printable text = list_all (λ b. nat_le 32 b) text

abbrev pub IsPrintableTag : Cell → Type 0
IsPrintableTag (cell.Str text) = is_printable text ≡ true
IsPrintableTag _ = Unit {0}

pub record StableFitsHead (s : StableDef) : Type 0 where
  pub name : IsShortName s.name
  pub columns : AreShortNamed s.schema.columns
  pub tags : AreTags s.schema.tags

pub record TableFitsHead (t : TableDef) : Type 0 where
  pub name : IsShortName t.name
  pub columns : AreShortNamed t.columns
  pub tags : AllByRecursion IsPrintableTag t.tags

-- A catalog that a head can say: the names of supertables and tables, and of their columns and tags, are short, each
-- supertable has a tag, and no text among the tags of a subtable has a byte below 32.
pub record FitsHead (c : Catalog) : Type 0 where
  pub stables : AllByRecursion StableFitsHead c.stables
  pub tables : AllByRecursion TableFitsHead c.tables

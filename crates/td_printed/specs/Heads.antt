-- What a head asks of the names and the texts in a catalog, and what statements of texts give: short names, one tag or
-- more, and texts that can be printed.
use Rattle.std.specs.Prelude.{◌≡◌, ℕ, ◌<◌, ◌≤◌, nat_le, Bool, true, List, length, IfSome}
use Rattle.std.specs.List.{list_all, AllByRecursion}
use Rattle.td_limits.specs.declared.limits.TheConstants.{NAME_BYTES}
use Rattle.td_layer.specs.declared.values.Cell.{Cell}
use Rattle.td_layer.specs.declared.values.Cell.TheVariants as cell
use Rattle.td_model.specs.declared.catalog.Column.{Column}
use Rattle.td_model.specs.declared.catalog.StableDef.{StableDef}
use Rattle.td_model.specs.declared.catalog.TableDef.{TableDef}
use Rattle.td_model.specs.declared.language.Lit.{Lit}
use Rattle.td_model.specs.declared.language.Lit.TheVariants as lit
use Rattle.td_model.specs.declared.language.Stmt.{Stmt}
use Rattle.td_model.specs.declared.language.Stmt.TheVariants as stmt
use Rattle.td_model.specs.Catalog.{Catalog}
use Rattle.td_grammar.specs.Names.{is_name}

-- a word in lower case that is neither reserved nor one that is not built, and isn't longer than a name may be
pub record IsShortName (name : List ℕ) : Type 0 where
  pub few : length name ≤ NAME_BYTES
  pub named : is_name name ≡ true

-- the names of columns and tags are short
abbrev pub AreShortNamed : List Column → Type 0
AreShortNamed columns = AllByRecursion (λ (c : Column). IsShortName c.name) columns

-- one tag or more, with short names
pub record AreTags (tags : List Column) : Type 0 where
  pub some : 0 < length tags
  pub names : AreShortNamed tags

-- no byte of a text is below 32
abbrev pub is_printable : List ℕ → Bool
is_printable text = list_all (λ b. nat_le 32 b) text

-- ---- statements

-- a literal of text has no byte below 32
abbrev pub IsPrintableLit : Lit → Type 0
IsPrintableLit (lit.Str text) = is_printable text ≡ true
IsPrintableLit _ = Unit {0}

-- The names that a statement gives what it makes are short, and a supertable that it makes has a tag, where it says
-- tags. A subtable's tags can be printed.
abbrev pub HasShortNames : Stmt → Type 0
HasShortNames (stmt.MakeStable name columns tags) = IsShortName name × AreShortNamed columns × IfSome tags AreTags
HasShortNames (stmt.MakeTable name columns) = IsShortName name × AreShortNamed columns
HasShortNames (stmt.MakeSub name stable tags) = IsShortName name × AllByRecursion IsPrintableLit tags
HasShortNames _ = Unit {0}

-- ---- catalogs

-- a cell of text has no byte below 32
abbrev pub IsPrintableTag : Cell → Type 0
IsPrintableTag (cell.Str text) = is_printable text ≡ true
IsPrintableTag _ = Unit {0}

-- a supertable has short names, and one tag or more
pub record StableFitsHead (s : StableDef) : Type 0 where
  pub name : IsShortName s.name
  pub columns : AreShortNamed s.schema.columns
  pub tags : AreTags s.schema.tags

-- a table has short names, and the tags of a subtable can be printed
pub record TableFitsHead (t : TableDef) : Type 0 where
  pub name : IsShortName t.name
  pub columns : AreShortNamed t.columns
  pub tags : AllByRecursion IsPrintableTag t.tags

-- The names and the texts in a catalog are as a head asks: the names of supertables and tables, and of their columns
-- and tags, are short, each supertable has a tag, and no text among the tags of a subtable has a byte below 32.
pub record FitsHead (c : Catalog) : Type 0 where
  pub stables : AllByRecursion StableFitsHead c.stables
  pub tables : AllByRecursion TableFitsHead c.tables

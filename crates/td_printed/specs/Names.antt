-- Names that are words: those of a statement, and those that a catalog keeps; and numbers that a report can have.
use Rattle.std.specs.Prelude.{ℕ, ◌<◌, ◌≤◌, ◌*◌, min, List, length, IfSome}
use Rattle.std.specs.List.{AllByRecursion}
use Rattle.td_limits.specs.declared.limits.TheConstants.{INSERT_ROWS, LAST_VERSION}
use Rattle.td_model.specs.declared.catalog.Column.{Column}
use Rattle.td_model.specs.declared.catalog.StableDef.{StableDef}
use Rattle.td_model.specs.declared.catalog.StreamEntry.{StreamEntry}
use Rattle.td_model.specs.declared.catalog.TableDef.{TableDef}
use Rattle.td_model.specs.declared.language.Cond.{Cond}
use Rattle.td_model.specs.declared.language.Item.{Item}
use Rattle.td_model.specs.declared.language.ItemKind.{ItemKind}
use Rattle.td_model.specs.declared.language.ItemKind.TheVariants as item
use Rattle.td_model.specs.declared.language.OrderBy.{OrderBy}
use Rattle.td_model.specs.declared.language.OrderBy.TheVariants as order
use Rattle.td_model.specs.declared.language.PartBy.{PartBy}
use Rattle.td_model.specs.declared.language.PartBy.TheVariants as part
use Rattle.td_model.specs.declared.language.Query.{Query}
use Rattle.td_model.specs.declared.language.Stmt.{Stmt}
use Rattle.td_model.specs.declared.language.Stmt.TheVariants as stmt
use Rattle.td_model.specs.declared.language.StreamDef.{StreamDef}
use Rattle.td_model.specs.declared.language.WindowDef.{WindowDef}
use Rattle.td_model.specs.declared.language.WindowDef.TheVariants as window
use Rattle.td_model.specs.declared.report.JournalLine.{JournalLine}
use Rattle.td_model.specs.declared.report.Reply.{Reply}
use Rattle.td_model.specs.declared.report.Reply.TheVariants as reply
use Rattle.td_model.specs.declared.report.Report.{Report}
use Rattle.td_model.specs.Catalog.{Catalog}
use Rattle.td_model.specs.Printable.{IsWord, IsCount, IsPrintableCause}
use Rattle.td_model.specs.State.{State}
use Rattle.td_verdict.specs.Sound.{IsSound}

-- a word with one byte or more
pub record IsName (name : List ℕ) : Type 0 where
  pub some : 0 < length name
  pub word : IsWord name

abbrev pub AreNames : List (List ℕ) → Type 0
AreNames names = AllByRecursion IsName names

-- the names of columns and tags
abbrev pub AreNamed : List Column → Type 0
AreNamed columns = AllByRecursion (λ (c : Column). IsName c.name) columns

-- ---- queries

abbrev pub IsNamedKind : ItemKind → Type 0
IsNamedKind (item.Col name) = IsName name
IsNamedKind (item.Fun func name) = IsName name
IsNamedKind _ = Unit {0}

-- what an item of a select list names, and its alias
pub record IsNamedItem (i : Item) : Type 0 where
  pub what : IsNamedKind i.what
  pub alias : IfSome i.alias IsName

abbrev pub IsNamedPart : PartBy → Type 0
IsNamedPart (part.Tag name) = IsName name
IsNamedPart part.TbName = Unit {0}

abbrev pub IsNamedWindow : WindowDef → Type 0
IsNamedWindow (window.Session column tol) = IsName column
IsNamedWindow (window.State column) = IsName column
IsNamedWindow _ = Unit {0}

abbrev pub IsNamedOrder : OrderBy → Type 0
IsNamedOrder order.Plain = Unit {0}
IsNamedOrder (order.Asc name) = IsName name
IsNamedOrder (order.Desc name) = IsName name

pub record QueryHasWords (q : Query) : Type 0 where
  pub items : AllByRecursion IsNamedItem q.items
  pub source : IsName q.source
  pub conds : AllByRecursion (λ (c : Cond). IsNamedPart c.of) q.conds
  pub parts : AllByRecursion IsNamedPart q.parts
  pub window : IsNamedWindow q.window
  pub order : IsNamedOrder q.order

-- ---- statements

pub record StreamHasWords (def : StreamDef) : Type 0 where
  pub name : IsName def.name
  pub target : IsName def.target
  pub query : QueryHasWords def.query

-- Each name in a statement is a word. Of a text that is no statement, the cause can be printed.
abbrev pub HasWords : Stmt → Type 0
HasWords (stmt.Wrong cause) = IsPrintableCause cause
HasWords (stmt.MakeStable name columns tags) = IsName name × AreNamed columns × IfSome tags AreNamed
HasWords (stmt.MakeTable name columns) = IsName name × AreNamed columns
HasWords (stmt.MakeSub name stable tags) = IsName name × IsName stable
HasWords (stmt.Insert table columns rows) = IsName table × IfSome columns AreNames
HasWords (stmt.Delete table column lo hi) = IsName table × IsName column
HasWords (stmt.MakeStream def) = StreamHasWords def
HasWords (stmt.DropStream name) = IsName name
HasWords stmt.Trim = Unit {0}
HasWords (stmt.Select query) = QueryHasWords query
HasWords (stmt.OpenCursor cursor query) = IsName cursor × QueryHasWords query
HasWords (stmt.Fetch cursor rows) = IsName cursor
HasWords (stmt.CloseCursor cursor) = IsName cursor
HasWords stmt.Commit = Unit {0}
HasWords stmt.Merge = Unit {0}
HasWords stmt.Sweep = Unit {0}
HasWords (stmt.Step stream) = IsName stream

-- ---- catalogs

pub record StableHasWords (s : StableDef) : Type 0 where
  pub name : IsName s.name
  pub columns : AreNamed s.schema.columns
  pub tags : AreNamed s.schema.tags

pub record TableHasWords (t : TableDef) : Type 0 where
  pub name : IsName t.name
  pub columns : AreNamed t.columns

-- The names of supertables, tables and streams, and of their columns and tags, are words.
pub record AreWords (c : Catalog) : Type 0 where
  pub stables : AllByRecursion StableHasWords c.stables
  pub tables : AllByRecursion TableHasWords c.tables
  pub streams : AllByRecursion (λ (e : StreamEntry). StreamHasWords e.def) c.streams

-- ---- numbers

-- The numbers of a state that replies and causes have are below 2^64: its version, its retention edge and its halt. It
-- has no more rows than its versions can have put: each up to the last that a write can have puts as many as an INSERT
-- may.
pub record IsCounted (s : State) : Type 0 where
  pub version : IsCount s.version
  pub edge : IsCount s.edge
  pub halt : IfSome s.halt IsCount
  pub rows : length s.rows ≤ INSERT_ROWS * min s.version LAST_VERSION

-- A state whose replies can be printed: it is sound, the names in its catalog are words, and its numbers are below
-- 2^64.
pub record IsPrintableState (s : State) : Type 0 where
  pub sound : IsSound s
  pub words : AreWords s.catalog
  pub counted : IsCounted s

-- an answer has fewer than 2^64 rows
abbrev pub HasFewRows : Reply → Type 0
HasFewRows (reply.Answer prefix header rows) = IsCount (length rows)
HasFewRows _ = Unit {0}

-- session, ordinal and reply
abbrev pub IsCountedLine : (ℕ × ℕ × Reply) → Type 0
IsCountedLine l = IsCount l.0 × IsCount l.1 × HasFewRows l.2

pub record IsCountedEntry (j : JournalLine) : Type 0 where
  pub version : IsCount j.version
  pub session : IsCount j.session
  pub ordinal : IsCount j.ordinal
  pub moment : IsCount j.moment

-- The numbers of a report that fit their types, and its counts.
pub record HasCounts (r : Report) : Type 0 where
  pub replies : AllByRecursion IsCountedLine r.replies
  pub journal : AllByRecursion IsCountedEntry r.journal
  pub few : IsCount (length r.journal)

-- No statement that is accepted makes a stream.
use Rattle.std.proofs.Common.{◌≡◌, ℕ, ◌+◌, List, [], ◌∷◌, Option, Some, None, ap, subst, ◌∙◌}
use Rattle.td_model.specs.declared.catalog.Column.{Column}
use Rattle.td_model.specs.declared.catalog.StreamEntry.{StreamEntry}
use Rattle.td_model.specs.declared.history.What.{What}
use Rattle.td_model.specs.declared.history.What.TheVariants as what
use Rattle.td_model.specs.declared.history.Verdict.TheVariants.{Accept}
use Rattle.td_model.specs.declared.language.Stmt.{Stmt}
use Rattle.td_model.specs.declared.language.Stmt.TheVariants as stmt
use Rattle.td_model.specs.declared.report.Cause.{Cause}
use Rattle.td_model.specs.Catalog.{Catalog, table_named, with_what}
use Rattle.td_model.specs.State.{State, step}
use Rattle.td_catalog.proofs.After.{effect-catalog}
use Rattle.td_verdict.specs.Names.{table_schema}
use Rattle.td_verdict.specs.Queries.{passes_or, query_cause}
use Rattle.td_verdict.specs.Writes as writes
use Rattle.td_verdict.specs.Writes.{write_verdict}
use Rattle.td_told.specs.Verdict.{verdict, closed_cause}
use Rattle.td_told.specs.Turn.{entry_at}
use Rattle.td_printed.proofs.Accepted.{Accepts, accepted, refused, insert_accepted, delete_accepted}

abbrev IsNoStream : What → Type 0
IsNoStream (what.MakeStream def) = ⊥
IsNoStream w = Unit {0}

passed : (why : Option Cause) → Accepts IsNoStream (passes_or why)
passed None = tt
passed (Some cause) = tt

stable_accepted : (name : List ℕ) (columns : List Column) (tags : Option (List Column)) (c : Catalog) → Accepts IsNoStream (writes.make_stable_verdict name columns tags c)
stable_accepted name columns None c = tt
stable_accepted name columns (Some tags) c = accepted IsNoStream (writes.definition_cause name columns tags c) _ 0 tt

accepts_none : (q : Stmt) (s : State) (cursors : List (List ℕ)) (moment : ℕ) → Accepts IsNoStream (verdict q s cursors moment)
accepts_none (stmt.Wrong cause) s cursors moment = tt
accepts_none (stmt.MakeStable name columns tags) s cursors moment = refused IsNoStream (closed_cause s) _ (stable_accepted name columns tags s.catalog)
accepts_none (stmt.MakeTable name columns) s cursors moment = refused IsNoStream (closed_cause s) _ (accepted IsNoStream (writes.definition_cause name columns [] s.catalog) (what.MakeTable name columns) 0 tt)
accepts_none (stmt.MakeSub name stable tags) s cursors moment = refused IsNoStream (closed_cause s) (write_verdict (stmt.MakeSub name stable tags) s.catalog s.edge moment) (accepted IsNoStream _ _ 0 tt)
accepts_none (stmt.Insert table columns rows) s cursors moment =
    refused IsNoStream (closed_cause s) _ (insert_accepted IsNoStream (λ _. tt) table (table_schema (table_named table s.catalog) s.catalog).columns columns rows s.edge moment s.catalog)
accepts_none (stmt.Delete table column lo hi) s cursors moment =
    refused IsNoStream (closed_cause s) _ (delete_accepted IsNoStream (λ _ _ _. tt) table (table_schema (table_named table s.catalog) s.catalog).columns column lo hi moment s.catalog)
accepts_none (stmt.MakeStream def) s cursors moment = tt
accepts_none (stmt.DropStream name) s cursors moment = refused IsNoStream (closed_cause s) (writes.drop_stream_verdict name s.catalog) (accepted IsNoStream _ _ 0 tt)
accepts_none stmt.Trim s cursors moment = refused IsNoStream (closed_cause s) (writes.trim_verdict s.edge moment) tt
accepts_none (stmt.Select query) s cursors moment = passed (query_cause query s.catalog)
accepts_none (stmt.OpenCursor cursor query) s cursors moment = tt
accepts_none (stmt.Fetch cursor rows) s cursors moment = tt
accepts_none (stmt.CloseCursor cursor) s cursors moment = tt
accepts_none stmt.Commit s cursors moment = tt
accepts_none stmt.Merge s cursors moment = tt
accepts_none stmt.Sweep s cursors moment = tt
accepts_none (stmt.Step stream) s cursors moment = tt

no_streams : (w : What) (c : Catalog) → IsNoStream w → c.streams ≡ [] → (with_what w c).streams ≡ []
no_streams (what.MakeStable name schema) c is none = none
no_streams (what.MakeTable name columns) c is none = none
no_streams (what.MakeSub name stable tags) c is none = none
no_streams (what.MakeStream def) c is none = absurd is
no_streams (what.Put puts) c is none = none
no_streams (what.Cut table lo hi) c is none = none
no_streams (what.DropStream n) c is none = ap (λ (l : List StreamEntry). (with_what (what.DropStream n) (record c { streams = l })).streams) none
no_streams (what.Edge edge) c is none = none
no_streams (what.Step stream upto moment) c is none = none
no_streams what.Halt c is none = none

-- where there is no stream, there is none after an entry of a statement
pub entry_makes_none : (q : Stmt) (s : State) (session ordinal moment : ℕ) (w : What) (rows : ℕ) → verdict q s [] moment ≡ Accept w rows → s.catalog.streams ≡ [] → (step (s ∷ []) (entry_at session ordinal moment w)).catalog.streams ≡ []
entry_makes_none q s session ordinal moment w rows accepted none =
    let same = effect-catalog (s ∷ []) w (record s { version = s.version + 1; moment = moment }) in
    ap (λ (c : Catalog). c.streams) same ∙ no_streams w s.catalog (subst (Accepts IsNoStream) accepted (accepts_none q s [] moment)) none

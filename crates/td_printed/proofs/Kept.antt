-- Entries keep a catalog's names words.
use Rattle.std.proofs.Common.{◌≡◌, ℕ, ◌+◌, Bool, true, false, cond, List, [], ◌∷◌, Option, Some, None, refl, sym, ◌∙◌, subst}
use Rattle.std.specs.Prelude.{IfSome, not, ◌==◌, filter}
use Rattle.std.specs.List.{AllByRecursion}
use Rattle.td_model.specs.declared.catalog.Column.{Column}
use Rattle.td_model.specs.declared.catalog.StreamEntry.{StreamEntry}
use Rattle.td_model.specs.declared.history.Put.{Put}
use Rattle.td_model.specs.declared.history.What.{What}
use Rattle.td_model.specs.declared.history.What.TheVariants as what
use Rattle.td_model.specs.declared.history.Verdict.{Verdict}
use Rattle.td_model.specs.declared.history.Verdict.TheVariants.{Accept, Pass, Refuse}
use Rattle.td_model.specs.declared.language.Stmt.{Stmt}
use Rattle.td_model.specs.declared.language.Stmt.TheVariants as stmt
use Rattle.td_model.specs.declared.report.Cause.{Cause}
use Rattle.td_model.specs.Catalog.{Catalog, table_at, table_named}
use Rattle.td_model.specs.State.{State, parent_of, latest_raised, row_put, put_one, put_all, effect}
use Rattle.td_verdict.specs.Names.{table_schema}
use Rattle.td_verdict.specs.Queries.{passes_or, query_cause}
use Rattle.td_verdict.specs.Writes as writes
use Rattle.td_verdict.specs.Writes.{refused_or, cut_between, time_from, write_verdict}
use Rattle.td_told.specs.Verdict.{verdict, closed_cause}
use Rattle.td_told.specs.Turn.{End, by_verdict, starved, halted, Judged, state_then}
use Rattle.td_printed.specs.Names.{IsName, AreNamed, StreamHasWords, HasWords, AreWords}
use Rattle.td_printed.proofs.Accepted.{Accepts, accepted, refused, insert_accepted, delete_accepted}
use Rattle.td_printed.proofs.Says.{all_append}

-- ---- what an entry names

abbrev pub WhatHasWords : What → Type 0
WhatHasWords (what.MakeStable name schema) = IsName name × AreNamed schema.columns × AreNamed schema.tags
WhatHasWords (what.MakeTable name columns) = IsName name × AreNamed columns
WhatHasWords (what.MakeSub name stable tags) = IsName name
WhatHasWords (what.MakeStream def) = StreamHasWords def
WhatHasWords _ = Unit {0}

abbrev pub AcceptsWords : Verdict → Type 0
AcceptsWords v = Accepts WhatHasWords v

passed : (why : Option Cause) → AcceptsWords (passes_or why)
passed None = tt
passed (Some cause) = tt

stable_accepted : (name : List ℕ) (columns : List Column) (tags : Option (List Column)) (c : Catalog) → IsName name
    → AreNamed columns → IfSome tags AreNamed → AcceptsWords (writes.make_stable_verdict name columns tags c)
stable_accepted name columns None c n m k = tt
stable_accepted name columns (Some tags) c n m k =
    accepted WhatHasWords (writes.definition_cause name columns tags c) _ 0 (n, m, k)

pub accepts_words : (q : Stmt) (s : State) (cursors : List (List ℕ)) (moment : ℕ) → HasWords q
    → AcceptsWords (verdict q s cursors moment)
accepts_words (stmt.Wrong cause) s cursors moment h = tt
accepts_words (stmt.MakeStable name columns tags) s cursors moment h = refused WhatHasWords (closed_cause s) _
    (stable_accepted name columns tags s.catalog h.0 h.1 h.2)
accepts_words (stmt.MakeTable name columns) s cursors moment h = refused WhatHasWords (closed_cause s) _
    (accepted WhatHasWords (writes.definition_cause name columns [] s.catalog) (what.MakeTable name columns) 0 h)
accepts_words (stmt.MakeSub name stable tags) s cursors moment h = refused WhatHasWords (closed_cause s)
    (write_verdict (stmt.MakeSub name stable tags) s.catalog s.edge moment) (accepted WhatHasWords _ _ 0 h.0)
accepts_words (stmt.Insert table columns rows) s cursors moment h = refused WhatHasWords (closed_cause s) _
    (insert_accepted WhatHasWords (λ _. tt) table (table_schema (table_named table s.catalog) s.catalog).columns columns
    rows s.edge moment s.catalog)
accepts_words (stmt.Delete table column lo hi) s cursors moment h = refused WhatHasWords (closed_cause s) _
    (delete_accepted WhatHasWords (λ _ _ _. tt) table (table_schema (table_named table s.catalog) s.catalog).columns
    column lo hi moment s.catalog)
accepts_words (stmt.MakeStream def) s cursors moment h = tt
accepts_words (stmt.DropStream name) s cursors moment h = refused WhatHasWords (closed_cause s)
    (writes.drop_stream_verdict name s.catalog) (accepted WhatHasWords _ _ 0 tt)
accepts_words stmt.Trim s cursors moment h = refused WhatHasWords (closed_cause s)
    (writes.trim_verdict s.edge moment) tt
accepts_words (stmt.Select query) s cursors moment h = passed (query_cause query s.catalog)
accepts_words (stmt.OpenCursor cursor query) s cursors moment h = tt
accepts_words (stmt.Fetch cursor rows) s cursors moment h = tt
accepts_words (stmt.CloseCursor cursor) s cursors moment h = tt
accepts_words stmt.Commit s cursors moment h = tt
accepts_words stmt.Merge s cursors moment h = tt
accepts_words stmt.Sweep s cursors moment h = tt
accepts_words (stmt.Step stream) s cursors moment h = tt

-- ---- what an entry makes of a catalog

raised_catalog : (parent : Option ℕ) (p : Put) (s : State) → (latest_raised parent p.key s).catalog ≡ s.catalog
raised_catalog None p s = refl
raised_catalog (Some stable) p s = refl

pub puts_catalog : (ps : List Put) (s : State) → (put_all ps s).catalog ≡ s.catalog
puts_catalog [] s = refl
puts_catalog (p ∷ ps) s = puts_catalog ps (put_one p s) ∙ raised_catalog (parent_of (table_at p.key.table s.catalog))
    p (row_put p s)

pub all_filtered : {X : Type 0} (P : X → Type 0) (keep : X → Bool) (xs : List X) → AllByRecursion P xs
    → AllByRecursion P (filter keep xs)
all_filtered P keep [] h = tt
all_filtered P keep (x ∷ xs) h =
    elim (keep x) as (λ b. AllByRecursion P (cond b (x ∷ filter keep xs) (filter keep xs))) [
      | true ↦ (h.0, all_filtered P keep xs h.1)
      | false ↦ all_filtered P keep xs h.1
    ]

effect_keeps : (past : List State) (w : What) (s : State) → WhatHasWords w → AreWords s.catalog
    → AreWords (effect past w s).catalog
effect_keeps past (what.MakeStable name schema) s h c =
    record {
      stables = all_append _ s.catalog.stables _ c.stables (record { name = h.0; columns = h.1; tags = h.2 }, tt);
      tables = c.tables;
      streams = c.streams;
    }
effect_keeps past (what.MakeTable name columns) s h c =
    record {
      stables = c.stables;
      tables = all_append _ s.catalog.tables _ c.tables
          (record { name = h.0; columns = h.1 }, tt);
      streams = c.streams;
    }
effect_keeps past (what.MakeSub name stable tags) s h c =
    record {
      stables = c.stables;
      tables = all_append _ s.catalog.tables _ c.tables (record { name = h; columns = tt }, tt);
      streams = c.streams;
    }
effect_keeps past (what.Put puts) s h c = subst AreWords (sym (puts_catalog puts s)) c
effect_keeps past (what.Cut table lo hi) s h c = c
effect_keeps past (what.Edge edge) s h c = c
effect_keeps past (what.MakeStream def) s h c =
    record { stables = c.stables; tables = c.tables; streams = all_append _ s.catalog.streams _ c.streams (h, tt) }
effect_keeps past (what.DropStream n) s h c =
    record {
      stables = c.stables;
      tables = c.tables;
      streams = all_filtered _ (λ (e : StreamEntry). not (e.number == n)) s.catalog.streams c.streams;
    }
effect_keeps past (what.Step stream upto moment) s h c = c
effect_keeps past what.Halt s h c = c

pub entry_keeps : (q : Stmt) (s : State) (cursors : List (List ℕ)) (moment : ℕ) (w : What) (rows : ℕ)
    (past : List State) (t : State) → HasWords q → AreWords s.catalog → t.catalog ≡ s.catalog
    → verdict q s cursors moment ≡ Accept w rows → AreWords (effect past w t).catalog
entry_keeps q s cursors moment w rows past t h c same is = effect_keeps past w t
    (subst AcceptsWords is (accepts_words q s cursors moment h)) (subst AreWords (sym same) c)

pub turn_keeps : (q : Stmt) (s : State) (end : End) (session ordinal moment : ℕ) → HasWords q → AreWords s.catalog
    → Judged end (verdict q s [] moment) → AreWords (state_then end s session ordinal moment).catalog
turn_keeps q s (by_verdict (Accept w rows)) session ordinal moment h c judged = entry_keeps q s [] moment w rows
    (s ∷ []) (record s { version = s.version + 1; moment = moment }) h c refl (sym judged)
turn_keeps q s (by_verdict Pass) session ordinal moment h c judged = c
turn_keeps q s (by_verdict (Refuse cause)) session ordinal moment h c judged = c
turn_keeps q s starved session ordinal moment h c judged = c
turn_keeps q s halted session ordinal moment h c judged = c

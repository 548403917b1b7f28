-- Which verdicts a statement may have.
use Rattle.std.proofs.Common.{◌≡◌, ℕ, ◌+◌, ℤ, pos, Bool, true, false, cond, List, [], ◌∷◌, length, map, Option, Some, None, refl, ap}
use Rattle.std.specs.Prelude.{int_lt, nat_le}
use Rattle.std.specs.Int.{int_min, int_max}
use Rattle.td_limits.specs.declared.limits.TheConstants.{LAST_TIMESTAMP, LAST_VERSION}
use Rattle.td_model.specs.declared.catalog.Column.{Column}
use Rattle.td_model.specs.declared.language.Lit.{Lit}
use Rattle.td_model.specs.declared.language.Stmt.{Stmt}
use Rattle.td_model.specs.declared.language.Stmt.TheVariants as stmt
use Rattle.td_model.specs.declared.history.What.{What}
use Rattle.td_model.specs.declared.history.What.TheVariants as what
use Rattle.td_model.specs.declared.history.Verdict.{Verdict}
use Rattle.td_model.specs.declared.history.Verdict.TheVariants.{Accept, Pass, Refuse}
use Rattle.td_model.specs.declared.report.Cause.{Cause}
use Rattle.td_model.specs.declared.report.Cause.TheVariants.{OptionNotBuilt, TooManyVersions}
use Rattle.td_model.specs.Built.{is_built, is_write}
use Rattle.td_model.specs.Catalog.{Catalog, table_named}
use Rattle.td_model.specs.declared.history.Entry.{Entry}
use Rattle.td_model.specs.State.{State, effect, step}
use Rattle.td_verdict.specs.Causes.{when, first_cause, accepted_or}
use Rattle.td_verdict.specs.Names.{number_or_none, table_schema}
use Rattle.td_verdict.specs.Queries.{query_cause, passes_or, query_verdict}
use Rattle.td_verdict.specs.Writes as writes
use Rattle.td_verdict.specs.Writes.{refused_or, cut_between, time_from, write_verdict}
use Rattle.td_told.specs.Verdict.{verdict, reads_clock, halt_cause, closed_cause, entry_verdict}
use Rattle.td_told.specs.Replies.{is_other_write, is_insert, is_trim, is_query}
use Rattle.td_told.specs.Numbers.{answer_number, of_state}
use Rattle.td_told.specs.Times.{is_halt}
use Rattle.td_told.specs.Turn.{clock_reads, Accepts}

-- what a statement of its kind may do
abbrev pub Suits : Stmt → What → Type 0
Suits q (what.Put puts) = is_insert q ≡ true
Suits q (what.Edge edge) = is_trim q ≡ true
Suits q (what.Step stream upto moment) = ⊥
Suits q what.Halt = ⊥
Suits q w = is_other_write q ≡ true

abbrev pub Fits : Stmt → Verdict → Type 0
Fits q (Accept w rows) = Suits q w × (reads_clock q ≡ true)
Fits q Pass = is_query q ≡ true
Fits q (Refuse cause) = Unit {0}

-- what is accepted where no cause applies
accepted_fits : (q : Stmt) (why : Option Cause) (w : What) (rows : ℕ) → Suits q w → reads_clock q ≡ true → Fits q (accepted_or why w rows)
accepted_fits q None w rows suits reads = (suits, reads)
accepted_fits q (Some cause) w rows suits reads = tt

refused_fits : (q : Stmt) (why : Option Cause) (v : Verdict) → Fits q v → Fits q (refused_or why v)
refused_fits q None v fits = fits
refused_fits q (Some cause) v fits = tt

passes_fit : (q : Stmt) (why : Option Cause) → is_query q ≡ true → Fits q (passes_or why)
passes_fit q None is = is
passes_fit q (Some cause) is = tt

cut_suits : (q : Stmt) (table : ℕ) (lo hi : ℤ) → is_other_write q ≡ true → Suits q (cut_between table lo hi)
cut_suits q table lo hi is = elim (int_lt hi lo) as (λ b. Suits q (cond b (what.Cut table 1 0) (what.Cut table (time_from lo) (time_from hi)))) [ true ↦ is | false ↦ is ]

stable_fits : (q : Stmt) (name : List ℕ) (columns : List Column) (tags : Option (List Column)) (s : State) → is_other_write q ≡ true → reads_clock q ≡ true → Fits q (writes.make_stable_verdict name columns tags s.catalog)
stable_fits q name columns None s is reads = tt
stable_fits q name columns (Some tags) s is reads = accepted_fits q _ _ 0 is reads

groups_fit : (q : Stmt) (table : ℕ) (columns places : List Column) (groups : List (List Lit)) (edge m : ℕ) → is_insert q ≡ true → reads_clock q ≡ true → Fits q (writes.groups_verdict table columns places groups edge m)
groups_fit q table columns places groups edge m is reads = accepted_fits q (writes.groups_cause columns places groups edge m) (what.Put (map (writes.put_of table columns places m) groups)) (length groups) is reads

insert_fits : (q : Stmt) (table : List ℕ) (columns : List Column) (names : Option (List (List ℕ))) (groups : List (List Lit)) (edge m : ℕ) (c : Catalog) → is_insert q ≡ true → reads_clock q ≡ true → Fits q (writes.insert_in table columns names groups edge m c)
insert_fits q table columns names groups edge m c is reads =
    let n = number_or_none (table_named table c) in
    refused_fits q (first_cause (writes.written_cause table c ∷ writes.list_cause columns names ∷ [])) (writes.groups_verdict n columns (writes.chosen columns names) groups edge m) (groups_fit q n columns (writes.chosen columns names) groups edge m is reads)

delete_fits : (q : Stmt) (table : List ℕ) (columns : List Column) (column : List ℕ) (lo hi : Lit) (m : ℕ) (c : Catalog) → is_other_write q ≡ true → reads_clock q ≡ true → Fits q (writes.delete_in table columns column lo hi m c)
delete_fits q table columns column lo hi m c is reads =
    let n = number_or_none (table_named table c) in
    accepted_fits q (writes.delete_cause table columns column lo hi m c) (writes.cut_of n (writes.bound_of m lo) (writes.bound_of m hi)) 0 (cut_suits q n (int_max (writes.bound_of m lo) (pos 0)) (int_min (writes.bound_of m hi) (pos LAST_TIMESTAMP)) is) reads

-- a form that is built or not
built_fits : (q : Stmt) (built : Bool) (v : Verdict) → Fits q v → Fits q (cond built v (Refuse OptionNotBuilt))
built_fits q true v fits = fits
built_fits q false v fits = tt

-- a write that is built, in a state that may be closed to writes
open_fits : (q : Stmt) (s : State) (m : ℕ) → Fits q (write_verdict q s.catalog s.edge m) → Fits q (entry_verdict q s m)
open_fits q s m fits = refused_fits q (closed_cause s) (write_verdict q s.catalog s.edge m) fits

pub fits : (q : Stmt) (s : State) (cursors : List (List ℕ)) (m : ℕ) → Fits q (verdict q s cursors m)
fits (stmt.Wrong cause) s cursors m = tt
fits (stmt.MakeStable name columns tags) s cursors m = open_fits (stmt.MakeStable name columns tags) s m (stable_fits (stmt.MakeStable name columns tags) name columns tags s refl refl)
fits (stmt.MakeTable name columns) s cursors m = open_fits (stmt.MakeTable name columns) s m (accepted_fits (stmt.MakeTable name columns) _ _ 0 refl refl)
fits (stmt.MakeSub name stable tags) s cursors m = open_fits (stmt.MakeSub name stable tags) s m (accepted_fits (stmt.MakeSub name stable tags) _ _ 0 refl refl)
fits (stmt.Insert table columns rows) s cursors m = open_fits (stmt.Insert table columns rows) s m (insert_fits (stmt.Insert table columns rows) table (table_schema (table_named table s.catalog) s.catalog).columns columns rows s.edge m s.catalog refl refl)
fits (stmt.Delete table column lo hi) s cursors m = open_fits (stmt.Delete table column lo hi) s m (delete_fits (stmt.Delete table column lo hi) table (table_schema (table_named table s.catalog) s.catalog).columns column lo hi m s.catalog refl refl)
fits (stmt.MakeStream def) s cursors m = tt
fits (stmt.DropStream name) s cursors m = open_fits (stmt.DropStream name) s m (accepted_fits (stmt.DropStream name) _ _ 0 refl refl)
fits stmt.Trim s cursors m = open_fits stmt.Trim s m (refl, refl)
fits (stmt.Select q) s cursors m = built_fits (stmt.Select q) (is_built (stmt.Select q)) (query_verdict q s.catalog) (passes_fit (stmt.Select q) (query_cause q s.catalog) refl)
fits (stmt.OpenCursor cursor query) s cursors m = tt
fits (stmt.Fetch cursor rows) s cursors m = tt
fits (stmt.CloseCursor cursor) s cursors m = tt
fits stmt.Commit s cursors m = tt
fits stmt.Merge s cursors m = tt
fits stmt.Sweep s cursors m = tt
fits (stmt.Step stream) s cursors m = tt

-- no query is accepted
select_none : (b : Bool) (why : Option Cause) → Accepts (cond b (passes_or why) (Refuse OptionNotBuilt)) → ⊥
select_none true None h = h
select_none true (Some cause) h = h
select_none false why h = h

-- what is accepted is a write
pub accepted_writes : (q : Stmt) (s : State) (cursors : List (List ℕ)) (m : ℕ) → Accepts (verdict q s cursors m) → is_write q ≡ true
accepted_writes (stmt.Wrong cause) s cursors m h = absurd h
accepted_writes (stmt.MakeStable name columns tags) s cursors m h = refl
accepted_writes (stmt.MakeTable name columns) s cursors m h = refl
accepted_writes (stmt.MakeSub name stable tags) s cursors m h = refl
accepted_writes (stmt.Insert table columns rows) s cursors m h = refl
accepted_writes (stmt.Delete table column lo hi) s cursors m h = refl
accepted_writes (stmt.MakeStream def) s cursors m h = refl
accepted_writes (stmt.DropStream name) s cursors m h = refl
accepted_writes stmt.Trim s cursors m h = refl
accepted_writes (stmt.Select q) s cursors m h = absurd (select_none (is_built (stmt.Select q)) (query_cause q s.catalog) h)
accepted_writes (stmt.OpenCursor cursor query) s cursors m h = absurd h
accepted_writes (stmt.Fetch cursor rows) s cursors m h = absurd h
accepted_writes (stmt.CloseCursor cursor) s cursors m h = absurd h
accepted_writes stmt.Commit s cursors m h = absurd h
accepted_writes stmt.Merge s cursors m h = absurd h
accepted_writes stmt.Sweep s cursors m h = absurd h
accepted_writes (stmt.Step stream) s cursors m h = absurd h

-- after a halt no write is accepted
closed_none : (halt : Option ℕ) (late : Option Cause) (v : Verdict) (n : ℕ) → halt ≡ Some n → Accepts (refused_or (first_cause (halt_cause halt ∷ late ∷ [])) v) → ⊥
closed_none None late v n e h = cc
closed_none (Some version) late v n e h = h

closed_write : (q : Stmt) (s : State) (n m : ℕ) → s.halt ≡ Some n → Accepts (entry_verdict q s m) → ⊥
closed_write q s n m e h = closed_none s.halt (when (nat_le LAST_VERSION s.version) TooManyVersions) (write_verdict q s.catalog s.edge m) n e h

pub accepts_none : (q : Stmt) (s : State) (n m : ℕ) → s.halt ≡ Some n → Accepts (verdict q s [] m) → ⊥
accepts_none (stmt.Wrong cause) s n m e h = h
accepts_none (stmt.MakeStable name columns tags) s n m e h = closed_write (stmt.MakeStable name columns tags) s n m e h
accepts_none (stmt.MakeTable name columns) s n m e h = closed_write (stmt.MakeTable name columns) s n m e h
accepts_none (stmt.MakeSub name stable tags) s n m e h = closed_write (stmt.MakeSub name stable tags) s n m e h
accepts_none (stmt.Insert table columns rows) s n m e h = closed_write (stmt.Insert table columns rows) s n m e h
accepts_none (stmt.Delete table column lo hi) s n m e h = closed_write (stmt.Delete table column lo hi) s n m e h
accepts_none (stmt.MakeStream def) s n m e h = h
accepts_none (stmt.DropStream name) s n m e h = closed_write (stmt.DropStream name) s n m e h
accepts_none stmt.Trim s n m e h = closed_write stmt.Trim s n m e h
accepts_none (stmt.Select q) s n m e h = select_none (is_built (stmt.Select q)) (query_cause q s.catalog) h
accepts_none (stmt.OpenCursor cursor query) s n m e h = h
accepts_none (stmt.Fetch cursor rows) s n m e h = h
accepts_none (stmt.CloseCursor cursor) s n m e h = h
accepts_none stmt.Commit s n m e h = h
accepts_none stmt.Merge s n m e h = h
accepts_none stmt.Sweep s n m e h = h
accepts_none (stmt.Step stream) s n m e h = h

-- what a verdict that accepts accepts
pub accepts_what : (v : Verdict) → Accepts v → (w : What) × (rows : ℕ) × (v ≡ Accept w rows)
accepts_what (Accept w rows) h = (w, rows, refl)
accepts_what Pass h = absurd h
accepts_what (Refuse cause) h = absurd h

-- a statement that is accepted reads the clock
pub reads_one : (q : Stmt) (w : What) (rows : ℕ) → Fits q (Accept w rows) → clock_reads q ≡ 1
reads_one q w rows f = ap (λ b. cond b 1 0) f.1

pub accepts_reads : (q : Stmt) (v : Verdict) → Fits q v → Accepts v → clock_reads q ≡ 1
accepts_reads q (Accept w rows) f h = reads_one q w rows f
accepts_reads q Pass f h = absurd h
accepts_reads q (Refuse cause) f h = absurd h

-- what a statement does looks at no state but the one that it is given
looks_at_none : (q : Stmt) (w : What) (s : State) (past past' : List State) → Suits q w → effect past w s ≡ effect past' w s
looks_at_none q (what.Put puts) s past past' suits = refl
looks_at_none q (what.MakeTable name columns) s past past' suits = refl
looks_at_none q (what.MakeStable name schema) s past past' suits = refl
looks_at_none q (what.MakeSub name stable tags) s past past' suits = refl
looks_at_none q (what.Cut table lo hi) s past past' suits = refl
looks_at_none q (what.MakeStream def) s past past' suits = refl
looks_at_none q (what.DropStream n) s past past' suits = refl
looks_at_none q (what.Edge edge) s past past' suits = refl
looks_at_none q (what.Step stream upto moment) s past past' suits = absurd suits
looks_at_none q what.Halt s past past' suits = absurd suits

-- no statement makes a halt
pub no_halt : (q : Stmt) (w : What) → Suits q w → is_halt w ≡ false
no_halt q (what.Put puts) suits = refl
no_halt q (what.MakeTable name columns) suits = refl
no_halt q (what.MakeStable name schema) suits = refl
no_halt q (what.MakeSub name stable tags) suits = refl
no_halt q (what.Cut table lo hi) suits = refl
no_halt q (what.MakeStream def) suits = refl
no_halt q (what.DropStream n) suits = refl
no_halt q (what.Edge edge) suits = refl
no_halt q (what.Step stream upto moment) suits = absurd suits
no_halt q what.Halt suits = absurd suits

-- the entry of a statement looks at no state before the newest
pub step_alone : (q : Stmt) (s : State) (older : List State) (e : Entry) → Suits q e.what → step (s ∷ []) e ≡ step (s ∷ older) e
step_alone q s older e suits = looks_at_none q e.what (record s { version = s.version + 1; moment = e.moment }) (s ∷ []) (s ∷ older) suits

-- the number of the answer to a query
pub answer_numbered : (q : Stmt) (p : ℕ) → is_query q ≡ true → answer_number q p ≡ of_state p
answer_numbered (stmt.Fetch cursor rows) p is = cc
answer_numbered q p is = refl

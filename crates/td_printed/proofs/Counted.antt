-- The numbers of a state stay below 2^64, and no version adds more rows than an INSERT may.
use Rattle.std.proofs.Common.{◌≡◌, ℕ, suc, ◌+◌, ◌*◌, ◌≤◌, min, ℤ, pos, true, false, cond, List, [], ◌∷◌, length, map, Option, Some, None, refl, sym, subst, arith}
use Rattle.std.proofs.lemmas.List.{length-map}
use Rattle.std.specs.Prelude.{IfSome, int_lt, not, nat_le}
use Rattle.std.specs.Int.{int_min, int_max}
use Rattle.td_layer.specs.declared.values.Key.{Key}
use Rattle.td_layer.specs.declared.values.Row.{Row}
use Rattle.td_limits.specs.declared.limits.TheConstants.{DAY_RANGE, INSERT_ROWS, LAST_TIMESTAMP, LAST_VERSION}
use Rattle.td_model.specs.declared.catalog.Column.{Column}
use Rattle.td_model.specs.declared.history.Put.{Put}
use Rattle.td_model.specs.declared.history.Verdict.{Verdict}
use Rattle.td_model.specs.declared.history.Verdict.TheVariants.{Accept, Pass, Refuse}
use Rattle.td_model.specs.declared.history.What.{What}
use Rattle.td_model.specs.declared.history.What.TheVariants as what
use Rattle.td_model.specs.declared.language.Lit.{Lit}
use Rattle.td_model.specs.declared.language.Stmt.{Stmt}
use Rattle.td_model.specs.declared.language.Stmt.TheVariants as stmt
use Rattle.td_model.specs.declared.report.Cause.{Cause}
use Rattle.td_model.specs.declared.report.Cause.TheVariants as cause
use Rattle.td_model.specs.Catalog.{Catalog, table_at, table_named, stable_named}
use Rattle.td_model.specs.Printable.{IsCount}
use Rattle.td_model.specs.State.{State, key_cmp, lay, row_at, is_cut, parent_of, latest_raised, row_put, put_one, put_all, effect}
use Rattle.td_verdict.specs.Causes.{when, first_cause, accepted_or}
use Rattle.td_verdict.specs.Names.{number_or_none, is_stream, table_schema, stable_schema}
use Rattle.td_verdict.specs.Queries.{passes_or, query_cause}
use Rattle.td_verdict.specs.Writes as writes
use Rattle.td_verdict.specs.Writes.{refused_or, cut_between, time_from, write_verdict}
use Rattle.td_told.specs.Verdict.{verdict, closed_cause}
use Rattle.td_told.specs.Turn.{End, by_verdict, starved, halted, Accepts, Judged, state_then}
use Rattle.td_printed.specs.Names.{IsCounted}
use Rattle.td_printed.proofs.Lists.{length_filtered, length_inserted}
use Rattle.td_printed.proofs.Replies.{next_within, few_groups, risen_edge}

abbrev pub WhatCounts : What → Type 0
WhatCounts (what.Edge edge) = IsCount edge
WhatCounts (what.Put puts) = length puts ≤ INSERT_ROWS
WhatCounts _ = Unit {0}

abbrev pub VerdictCounts : ℕ → Verdict → Type 0
VerdictCounts version (Accept w rows) = (version ≤ LAST_VERSION) × WhatCounts w
VerdictCounts version Pass = Unit {0}
VerdictCounts version (Refuse cause) = Unit {0}

accepted_counts : (version : ℕ) (why : Option Cause) (w : What) (rows : ℕ) → version ≤ LAST_VERSION
    → (why ≡ None → WhatCounts w) → VerdictCounts version (accepted_or why w rows)
accepted_counts version None w rows count h = (count, h refl)
accepted_counts version (Some cause) w rows count h = tt

refused_counts : (version : ℕ) (why : Option Cause) (v : Verdict) → (why ≡ None → VerdictCounts version v)
    → VerdictCounts version (refused_or why v)
refused_counts version None v k = k refl
refused_counts version (Some cause) v k = tt

passed_counts : (version : ℕ) (why : Option Cause) → VerdictCounts version (passes_or why)
passed_counts version None = tt
passed_counts version (Some why) = tt

stable_counts : (version : ℕ) (name : List ℕ) (columns : List Column) (tags : Option (List Column)) (c : Catalog)
    → version ≤ LAST_VERSION → VerdictCounts version (writes.make_stable_verdict name columns tags c)
stable_counts version name columns None c count = tt
stable_counts version name columns (Some tags) c count = accepted_counts version
    (writes.definition_cause name columns tags c) _ 0 count (λ none. tt)

insert_counts : (version : ℕ) (table : List ℕ) (columns : List Column) (names : Option (List (List ℕ)))
    (groups : List (List Lit)) (edge moment : ℕ) (c : Catalog) → version ≤ LAST_VERSION
    → VerdictCounts version (writes.insert_in table columns names groups edge moment c)
insert_counts version table columns names groups edge moment c count =
    let n = number_or_none (table_named table c) in
    let places = writes.chosen columns names in
    refused_counts version (first_cause (writes.written_cause table c ∷ writes.list_cause columns names ∷ []))
    (writes.groups_verdict n columns places groups edge moment)
    (λ fine. accepted_counts version (writes.groups_cause columns places groups edge moment)
    (what.Put (map (writes.put_of n columns places moment) groups)) (length groups) count
    (λ none. let long = length-map groups (writes.put_of n columns places moment) in
    let few = few_groups columns places groups edge moment none in omega (arith, long, few)))

cut_counts : (table : ℕ) (lo hi : ℤ) → WhatCounts (cut_between table lo hi)
cut_counts table lo hi = elim (int_lt hi lo) as
    (λ b. WhatCounts (cond b (what.Cut table 1 0) (what.Cut table (time_from lo) (time_from hi))))
    [ true ↦ tt | false ↦ tt ]

write_counts : (version : ℕ) (q : Stmt) (c : Catalog) (edge moment : ℕ) → IsCount edge → IsCount moment
    → version ≤ LAST_VERSION → VerdictCounts version (write_verdict q c edge moment)
write_counts version (stmt.MakeStable name columns tags) c edge moment e m count = stable_counts version name columns
    tags c count
write_counts version (stmt.MakeTable name columns) c edge moment e m count = accepted_counts version
    (writes.definition_cause name columns [] c) (what.MakeTable name columns) 0 count
    (λ none. tt)
write_counts version (stmt.MakeSub name stable lits) c edge moment e m count =
    let tags = (stable_schema (stable_named stable c) c).tags in
    accepted_counts version (writes.make_sub_cause name stable tags lits moment c)
    (what.MakeSub name (number_or_none (stable_named stable c)) (writes.tag_cells moment tags lits)) 0 count
    (λ none. tt)
write_counts version (stmt.Insert table names groups) c edge moment e m count = insert_counts version table
    (table_schema (table_named table c) c).columns names groups edge moment c count
write_counts version (stmt.Delete table column lo hi) c edge moment e m count =
    let n = number_or_none (table_named table c) in
    accepted_counts version (writes.delete_cause table (table_schema (table_named table c) c).columns column lo hi
    moment c) (writes.cut_of n (writes.bound_of moment lo) (writes.bound_of moment hi)) 0 count
    (λ none. cut_counts n (int_max (writes.bound_of moment lo) (pos 0))
    (int_min (writes.bound_of moment hi) (pos LAST_TIMESTAMP)))
write_counts version (stmt.DropStream name) c edge moment e m count = accepted_counts version
    (when (not (is_stream name c)) cause.UnknownStream) _ 0 count (λ none. tt)
write_counts version stmt.Trim c edge moment e m count = (count, risen_edge edge moment e m)
write_counts version _ c edge moment e m count = tt

entry_counts : (q : Stmt) (s : State) (moment : ℕ) → IsCounted s → IsCount moment
    → VerdictCounts (s.version + 1) (refused_or (closed_cause s) (write_verdict q s.catalog s.edge moment))
entry_counts q s moment counted m = refused_counts (s.version + 1) (closed_cause s)
    (write_verdict q s.catalog s.edge moment)
    (λ takes. write_counts (s.version + 1) q s.catalog s.edge moment counted.edge m (next_within s takes))

pub verdict_counts : (q : Stmt) (s : State) (moment : ℕ) → IsCounted s → IsCount moment
    → VerdictCounts (s.version + 1) (verdict q s [] moment)
verdict_counts (stmt.MakeStable name columns tags) s moment counted m =
    entry_counts (stmt.MakeStable name columns tags) s moment counted m
verdict_counts (stmt.MakeTable name columns) s moment counted m = entry_counts (stmt.MakeTable name columns) s moment
    counted m
verdict_counts (stmt.MakeSub name stable tags) s moment counted m = entry_counts (stmt.MakeSub name stable tags) s
    moment counted m
verdict_counts (stmt.Insert table columns rows) s moment counted m = entry_counts (stmt.Insert table columns rows) s
    moment counted m
verdict_counts (stmt.Delete table column lo hi) s moment counted m = entry_counts (stmt.Delete table column lo hi) s
    moment counted m
verdict_counts (stmt.DropStream name) s moment counted m = entry_counts (stmt.DropStream name) s moment counted m
verdict_counts stmt.Trim s moment counted m = entry_counts stmt.Trim s moment counted m
verdict_counts (stmt.Select query) s moment counted m = passed_counts (s.version + 1)
    (query_cause query s.catalog)
verdict_counts _ s moment counted m = tt

-- ---- what an entry makes of a state

-- the rows that an entry may add
abbrev added : What → ℕ
added (what.Put puts) = length puts
added _ = 0

few_added : (w : What) → WhatCounts w → added w ≤ INSERT_ROWS
few_added (what.Put puts) h = h
few_added _ h = omega arith

-- the numbers of a state, which has room for so many more rows
record HasRoom (more : ℕ) (s : State) : Type 0 where
  version : IsCount s.version
  edge : IsCount s.edge
  halt : IfSome s.halt IsCount
  rows : length s.rows + more ≤ INSERT_ROWS * min s.version LAST_VERSION

raised_room : (parent : Option ℕ) (p : Put) (more : ℕ) (s : State) → HasRoom more s
    → HasRoom more (latest_raised parent p.key s)
raised_room None p more s h = record { version = h.version; edge = h.edge; halt = h.halt; rows = h.rows }
raised_room (Some stable) p more s h = record { version = h.version; edge = h.edge; halt = h.halt; rows = h.rows }

row_room : (p : Put) (more : ℕ) (s : State) → HasRoom (suc more) s → HasRoom more (row_put p s)
row_room p more s h =
    let longer = length_inserted key_cmp s.rows p.key (lay p.cells s.moment (row_at p.key s.rows)) in
    record { version = h.version; edge = h.edge; halt = h.halt; rows = omega (arith, longer, h.rows) }

puts_counted : (ps : List Put) (s : State) → HasRoom (length ps) s → IsCounted (put_all ps s)
puts_counted [] s h = record { version = h.version; edge = h.edge; halt = h.halt; rows = omega (arith, h.rows) }
puts_counted (p ∷ ps) s h = puts_counted ps (put_one p s)
    (raised_room (parent_of (table_at p.key.table s.catalog)) p (length ps) (row_put p s)
    (row_room p (length ps) s h))

effect_counted : (past : List State) (w : What) (s : State) → WhatCounts w → HasRoom (added w) s
    → IsCounted (effect past w s)
effect_counted past (what.Put puts) s w h = puts_counted puts s h
effect_counted past (what.Cut table lo hi) s w h =
    let less = length_filtered (λ (e : Key × Row). not (is_cut table lo hi e.0)) s.rows in
    record { version = h.version; edge = h.edge; halt = h.halt; rows = omega (arith, less, h.rows) }
effect_counted past (what.Edge edge) s w h =
    let less = length_filtered (λ (e : Key × Row). nat_le (edge * DAY_RANGE) e.0.ts) s.rows in
    record { version = h.version; edge = w; halt = h.halt; rows = omega (arith, less, h.rows) }
effect_counted past what.Halt s w h = record {
  version = h.version;
  edge = h.edge;
  halt = h.version;
  rows = omega (arith, h.rows);
}
effect_counted past _ s w h = record {
  version = h.version;
  edge = h.edge;
  halt = h.halt;
  rows = omega (arith, h.rows);
}

-- the state that an entry begins with has the next version
abbrev begins : State → ℕ → State
begins s moment = record s { version = s.version + 1; moment = moment }

room_for : (more : ℕ) (s : State) (moment : ℕ) → IsCounted s → s.version + 1 ≤ LAST_VERSION → more ≤ INSERT_ROWS
    → HasRoom more (begins s moment)
room_for more s moment h within few =
    record {
      version = omega (arith, within);
      edge = h.edge;
      halt = h.halt;
      rows = omega (arith, h.rows, within, few);
    }

pub accepted_counted : (past : List State) (w : What) (rows : ℕ) (s : State) (moment : ℕ) → IsCounted s
    → VerdictCounts (s.version + 1) (Accept w rows) → IsCounted (effect past w (begins s moment))
accepted_counted past w rows s moment h counts = effect_counted past w (begins s moment) counts.1
    (room_for (added w) s moment h counts.0 (few_added w counts.1))

pub halted_counted : (past : List State) (s : State) (moment : ℕ) → IsCounted s → IsCount (s.version + 1)
    → IsCounted (effect past what.Halt (begins s moment))
halted_counted past s moment h count = effect_counted past what.Halt (begins s moment) tt
    (record { version = count; edge = h.edge; halt = h.halt; rows = omega (arith, h.rows) })

halt_within : (version : ℕ) (v : Verdict) → Accepts v → VerdictCounts version v → version ≤ LAST_VERSION
halt_within version (Accept w rows) accepts h = h.0
halt_within version Pass accepts h = absurd accepts
halt_within version (Refuse cause) accepts h = absurd accepts

pub turn_counted : (q : Stmt) (s : State) (end : End) (session ordinal moment : ℕ) → IsCounted s → IsCount moment
    → Judged end (verdict q s [] moment) → IsCounted (state_then end s session ordinal moment)
turn_counted q s (by_verdict (Accept w rows)) session ordinal moment h m judged = accepted_counted (s ∷ []) w rows s
    moment h (subst (VerdictCounts (s.version + 1)) (sym judged) (verdict_counts q s moment h m))
turn_counted q s (by_verdict Pass) session ordinal moment h m judged = h
turn_counted q s (by_verdict (Refuse cause)) session ordinal moment h m judged = h
turn_counted q s starved session ordinal moment h m judged = h
turn_counted q s halted session ordinal moment h m judged =
    let within = halt_within (s.version + 1) (verdict q s [] moment) judged (verdict_counts q s moment h m) in
    halted_counted (s ∷ []) s moment h (omega (arith, within))

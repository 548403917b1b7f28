-- Replies can be printed.
use Rattle.std.proofs.Common.{◌≡◌, ℕ, ◌+◌, ◌-◌, ◌/◌, ◌<◌, ◌≤◌, max, ℤ, pos, Bool, true, false, cond, List, [], ◌∷◌, length, map, Option, Some, None, refl, sym, subst, arith}
use Rattle.std.specs.Prelude.{IfSome, int_lt, not, nat_le, nat_lt, ◌==◌}
use Rattle.std.specs.Int.{int_min, int_max}
use Rattle.std.specs.List.{AllByRecursion, list_any}
use Rattle.std.proofs.lemmas.Bool.Decides.{nat_tests}
use Rattle.td_limits.specs.declared.limits.TheConstants.{DAY_RANGE, INSERT_ROWS, KEEP, LAST_TIMESTAMP, LAST_VERSION}
use Rattle.td_model.specs.declared.catalog.Column.{Column}
use Rattle.td_model.specs.declared.history.Verdict.{Verdict}
use Rattle.td_model.specs.declared.history.Verdict.TheVariants.{Accept, Pass, Refuse}
use Rattle.td_model.specs.declared.history.What.{What}
use Rattle.td_model.specs.declared.history.What.TheVariants as what
use Rattle.td_model.specs.declared.language.Lit.{Lit}
use Rattle.td_model.specs.declared.language.Stmt.{Stmt}
use Rattle.td_model.specs.declared.language.Stmt.TheVariants as stmt
use Rattle.td_model.specs.declared.report.Cause.{Cause}
use Rattle.td_model.specs.declared.report.Cause.TheVariants as cause
use Rattle.td_model.specs.declared.report.Many.TheVariants as many
use Rattle.td_model.specs.Catalog.{table_named, stable_named}
use Rattle.td_model.specs.Printable.{IsCount, IsItem, IsPrintableRow, IsPrintableCause, IsPrintableReply}
use Rattle.td_model.specs.State.{State}
use Rattle.td_verdict.specs.Causes.{when, first_cause, accepted_or}
use Rattle.td_verdict.specs.Names.{number_or_none, is_stream, table_schema, stable_schema}
use Rattle.td_verdict.specs.Queries.{passes_or, query_cause}
use Rattle.td_verdict.specs.Sound.{IsSound}
use Rattle.td_verdict.specs.Writes as writes
use Rattle.td_verdict.specs.Writes.{refused_or, cut_between, time_from, write_verdict}
use Rattle.td_told.specs.Verdict.{verdict, halt_cause, closed_cause, header, answer}
use Rattle.td_told.specs.Turn.{End, by_verdict, starved, halted, Accepts, Judged, accepted_reply, reply_of}
use Rattle.td_printed.specs.Names.{AreNamed, HasWords, AreWords, IsCounted}
use Rattle.td_printed.proofs.Lists.{if_when, none_of_first, none_of_others, none_when}
use Rattle.td_printed.proofs.Schemas.{table_named_schema, stable_named_schema, source_named_schema}
use Rattle.td_printed.proofs.Causes.{Prints, definition_prints, make_sub_prints, target_prints, chosen_named, groups_print, delete_prints, query_prints}
use Rattle.td_printed.proofs.Headers.{header_prints}
use Rattle.td_printed.proofs.Answered.{answer_prints}

-- ---- what a verdict is answered with, where the next version is below 2^64

no_rows : IsCount 0
no_rows = omega arith

abbrev pub AcceptPrints : ℕ → What → ℕ → Type 0
AcceptPrints version w rows = IsCount version × IsCount rows × IsPrintableReply (accepted_reply w version rows)

abbrev pub VerdictPrints : ℕ → Verdict → Type 0
VerdictPrints version (Accept w rows) = AcceptPrints version w rows
VerdictPrints version Pass = Unit {0}
VerdictPrints version (Refuse cause) = IsPrintableCause cause

accepted_prints : (version : ℕ) (why : Option Cause) (w : What) (rows : ℕ) → Prints why
    → (why ≡ None → AcceptPrints version w rows) → VerdictPrints version (accepted_or why w rows)
accepted_prints version None w rows h k = k refl
accepted_prints version (Some cause) w rows h k = h

refused_prints : (version : ℕ) (why : Option Cause) (v : Verdict) → Prints why
    → (why ≡ None → VerdictPrints version v) → VerdictPrints version (refused_or why v)
refused_prints version None v h k = k refl
refused_prints version (Some cause) v h k = h

passed_prints : (version : ℕ) (why : Option Cause) → Prints why → VerdictPrints version (passes_or why)
passed_prints version None h = tt
passed_prints version (Some why) h = h

-- ---- a state that takes writes

halt_prints : (halt : Option ℕ) → IfSome halt IsCount → Prints (halt_cause halt)
halt_prints None h = tt
halt_prints (Some version) h = h

closed_prints : (s : State) → IsCounted s → Prints (closed_cause s)
closed_prints s counted = by (halt_cause s.halt) (halt_prints s.halt counted.halt) (nat_le LAST_VERSION s.version)
  where
    by : (why : Option Cause) → Prints why → (b : Bool)
        → Prints (first_cause (why ∷ when b cause.TooManyVersions ∷ []))
    by None h true = tt
    by None h false = tt
    by (Some why) h b = h

pub next_within : (s : State) → closed_cause s ≡ None → s.version + 1 ≤ LAST_VERSION
next_within s takes =
    let last : Option Cause = when (nat_le LAST_VERSION s.version) cause.TooManyVersions in
    let below : nat_le LAST_VERSION s.version ≡ false = none_when (nat_le LAST_VERSION s.version)
    cause.TooManyVersions (none_of_first last [] (none_of_others (halt_cause s.halt) (last ∷ []) takes)) in
    let less : s.version < LAST_VERSION = grind (arith, nat_tests) in
    omega arith

next_count : (s : State) → closed_cause s ≡ None → IsCount (s.version + 1)
next_count s takes = let within = next_within s takes in omega (arith, within)

-- ---- each form of a write

stable_prints : (version : ℕ) (name : List ℕ) (columns : List Column) (tags : Option (List Column)) (s : State)
    → IsCount version → AreNamed columns → IfSome tags AreNamed
    → VerdictPrints version (writes.make_stable_verdict name columns tags s.catalog)
stable_prints version name columns None s count h t = tt
stable_prints version name columns (Some tags) s count h t = accepted_prints version
    (writes.definition_cause name columns tags s.catalog) _ 0 (definition_prints name columns tags s.catalog h t)
    (λ none. (count, no_rows, count))

pub few_groups : (columns places : List Column) (groups : List (List Lit)) (edge moment : ℕ)
    → writes.groups_cause columns places groups edge moment ≡ None → length groups ≤ INSERT_ROWS
few_groups columns places groups edge moment none =
    let arity : Option Cause = when (list_any (λ group. not (length group == length places)) groups) cause.Arity in
    let wrong : Option Cause =
    writes.mismatch_of (writes.first_given (writes.first_column (writes.is_mismatch moment) places) groups) in
    let far : Option Cause =
    writes.outside_of
    (writes.first_given (writes.first_column (writes.is_outside columns moment) places) groups) in
    let rows : Option Cause = writes.rows_cause columns places groups edge moment in
    let excess : Option Cause = when (nat_lt INSERT_ROWS (length groups)) (cause.TooMany many.Rows INSERT_ROWS) in
    let early : Option Cause =
    when
    (list_any (λ group. writes.is_before edge (writes.time_at moment group (writes.first_place columns places)))
    groups) (cause.BeforeEdge edge) in
    let last : rows ≡ None = none_of_first rows []
    (none_of_others far (rows ∷ [])
    (none_of_others wrong (far ∷ rows ∷ []) (none_of_others arity (wrong ∷ far ∷ rows ∷ []) none))) in
    let few : nat_lt INSERT_ROWS (length groups) ≡ false = none_when (nat_lt INSERT_ROWS (length groups))
    (cause.TooMany many.Rows INSERT_ROWS) (none_of_first excess (early ∷ []) last) in
    grind (arith, nat_tests)

insert_prints : (version : ℕ) (table : List ℕ) (columns : List Column) (names : Option (List (List ℕ)))
    (groups : List (List Lit)) (moment : ℕ) (s : State) → IsCount version → AreNamed columns → IsCount s.edge
    → VerdictPrints version (writes.insert_in table columns names groups s.edge moment s.catalog)
insert_prints version table columns names groups moment s count h e =
    let n = number_or_none (table_named table s.catalog) in
    let places = writes.chosen columns names in
    refused_prints version (first_cause (writes.written_cause table s.catalog ∷ writes.list_cause columns names ∷ []))
    (writes.groups_verdict n columns places groups s.edge moment) (target_prints table columns names s.catalog)
    (λ fine. accepted_prints version (writes.groups_cause columns places groups s.edge moment)
    (what.Put (map (writes.put_of n columns places moment) groups)) (length groups)
    (groups_print columns places groups s.edge moment (chosen_named columns names h) e)
    (λ none. let within = few_groups columns places groups s.edge moment none in
    let few : IsCount (length groups) = omega (arith, within) in (count, few, (count, few))))

cut_prints : (version table : ℕ) (lo hi : ℤ) → IsCount version → AcceptPrints version (cut_between table lo hi) 0
cut_prints version table lo hi count = elim (int_lt hi lo) as
    (λ b. AcceptPrints version (cond b (what.Cut table 1 0) (what.Cut table (time_from lo) (time_from hi))) 0)
    [ true ↦ (count, no_rows, count) | false ↦ (count, no_rows, count) ]

pub risen_edge : (edge moment : ℕ) → IsCount edge → IsCount moment → IsCount (max edge ((moment - KEEP) / DAY_RANGE))
risen_edge edge moment e m = omega arith

-- ---- the verdict

write_prints : (version : ℕ) (q : Stmt) (s : State) (moment : ℕ) → HasWords q → AreWords s.catalog → IsCounted s
    → IsCount moment → IsCount version → VerdictPrints version (write_verdict q s.catalog s.edge moment)
write_prints version (stmt.MakeStable name columns tags) s moment h words counted m count = stable_prints version name
    columns tags s count h.1 h.2
write_prints version (stmt.MakeTable name columns) s moment h words counted m count = accepted_prints version
    (writes.definition_cause name columns [] s.catalog) (what.MakeTable name columns) 0
    (definition_prints name columns [] s.catalog h.1 tt) (λ none. (count, no_rows, count))
write_prints version (stmt.MakeSub name stable lits) s moment h words counted m count =
    let tags = (stable_schema (stable_named stable s.catalog) s.catalog).tags in
    accepted_prints version (writes.make_sub_cause name stable tags lits moment s.catalog) _ 0
    (make_sub_prints name stable tags lits moment s.catalog
    (stable_named_schema s.catalog (stable_named stable s.catalog) words).tags) (λ none. (count, no_rows, count))
write_prints version (stmt.Insert table names groups) s moment h words counted m count =
    insert_prints version table (table_schema (table_named table s.catalog) s.catalog).columns names groups moment s
    count (table_named_schema s.catalog (table_named table s.catalog) words).columns counted.edge
write_prints version (stmt.Delete table column lo hi) s moment h words counted m count =
    let n = number_or_none (table_named table s.catalog) in
    let columns = (table_schema (table_named table s.catalog) s.catalog).columns in
    accepted_prints version (writes.delete_cause table columns column lo hi moment s.catalog)
    (writes.cut_of n (writes.bound_of moment lo) (writes.bound_of moment hi)) 0
    (delete_prints table columns column lo hi moment s.catalog h.1)
    (λ none. cut_prints version n (int_max (writes.bound_of moment lo) (pos 0))
    (int_min (writes.bound_of moment hi) (pos LAST_TIMESTAMP)) count)
write_prints version (stmt.DropStream name) s moment h words counted m count = accepted_prints version
    (when (not (is_stream name s.catalog)) cause.UnknownStream) _ 0
    (if_when IsPrintableCause (not (is_stream name s.catalog)) cause.UnknownStream tt) (λ none. (count, no_rows, count))
write_prints version stmt.Trim s moment h words counted m count =
    (count, no_rows, (count, risen_edge s.edge moment counted.edge m))
write_prints version _ s moment h words counted m count = tt

entry_prints : (q : Stmt) (s : State) (moment : ℕ) → HasWords q → AreWords s.catalog → IsCounted s → IsCount moment
    → VerdictPrints (s.version + 1) (refused_or (closed_cause s) (write_verdict q s.catalog s.edge moment))
entry_prints q s moment h words counted m = refused_prints (s.version + 1) (closed_cause s)
    (write_verdict q s.catalog s.edge moment) (closed_prints s counted)
    (λ takes. write_prints (s.version + 1) q s moment h words counted m (next_count s takes))

pub verdict_prints : (q : Stmt) (s : State) (moment : ℕ) → HasWords q → AreWords s.catalog → IsCounted s
    → IsCount moment → VerdictPrints (s.version + 1) (verdict q s [] moment)
verdict_prints (stmt.Wrong cause) s moment h words counted m = h
verdict_prints (stmt.MakeStable name columns tags) s moment h words counted m =
    entry_prints (stmt.MakeStable name columns tags) s moment h words counted m
verdict_prints (stmt.MakeTable name columns) s moment h words counted m = entry_prints (stmt.MakeTable name columns) s
    moment h words counted m
verdict_prints (stmt.MakeSub name stable tags) s moment h words counted m =
    entry_prints (stmt.MakeSub name stable tags) s moment h words counted m
verdict_prints (stmt.Insert table columns rows) s moment h words counted m =
    entry_prints (stmt.Insert table columns rows) s moment h words counted m
verdict_prints (stmt.Delete table column lo hi) s moment h words counted m =
    entry_prints (stmt.Delete table column lo hi) s moment h words counted m
verdict_prints (stmt.DropStream name) s moment h words counted m = entry_prints (stmt.DropStream name) s moment h
    words counted m
verdict_prints stmt.Trim s moment h words counted m = entry_prints stmt.Trim s moment h words counted m
verdict_prints (stmt.Select query) s moment h words counted m = passed_prints (s.version + 1)
    (query_cause query s.catalog)
    (query_prints query s.catalog (source_named_schema s.catalog query.source words))
verdict_prints _ s moment h words counted m = tt

-- ---- the reply

pub items_print : (q : Stmt) (s : State) → HasWords q → AreWords s.catalog → AllByRecursion IsItem (header q s)
items_print (stmt.Select query) s h words = header_prints query s.catalog h words
items_print _ s h words = tt

pub rows_print : (q : Stmt) (s : State) (moment : ℕ) → IsSound s → IsCounted s
    → (let v : Verdict = Pass in v ≡ verdict q s [] moment) → AllByRecursion IsPrintableRow (answer q s)
rows_print (stmt.Select query) s moment sound counted pass = answer_prints query s sound counted pass
rows_print _ s moment sound counted pass = tt

halt_count : (version : ℕ) (v : Verdict) → Accepts v → VerdictPrints version v → IsCount version
halt_count version (Accept w rows) accepts h = h.0
halt_count version Pass accepts h = absurd accepts
halt_count version (Refuse cause) accepts h = absurd accepts

pub reply_prints : (q : Stmt) (s : State) (end : End) (moment : ℕ) → HasWords q → AreWords s.catalog → IsSound s
    → IsCounted s → IsCount moment → IsCount (length (answer q s)) → Judged end (verdict q s [] moment)
    → IsPrintableReply (reply_of q end s)
reply_prints q s (by_verdict (Accept w rows)) moment h words sound counted m few judged =
    let prints : VerdictPrints (s.version + 1) (Accept w rows) = subst (VerdictPrints (s.version + 1)) (sym judged)
    (verdict_prints q s moment h words counted m) in prints.2
reply_prints q s (by_verdict Pass) moment h words sound counted m few judged =
    record {
      prefix = counted.version;
      header = items_print q s h words;
      rows = rows_print q s moment sound counted judged;
      few = few;
    }
reply_prints q s (by_verdict (Refuse cause)) moment h words sound counted m few judged = (
  counted.version,
  subst (VerdictPrints (s.version + 1)) (sym judged)
      (verdict_prints q s moment h words counted m),
)
reply_prints q s starved moment h words sound counted m few judged = tt
reply_prints q s halted moment h words sound counted m few judged = halt_count (s.version + 1) (verdict q s [] moment)
    judged (verdict_prints q s moment h words counted m)

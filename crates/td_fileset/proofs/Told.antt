-- What the rows of a span say of a snapshot.
use Rattle.std.proofs.Common.{◌≡◌, ℕ, ◌+◌, ◌≤◌, eqb, List, [], ◌++◌, length, map, take, drop, Some, sym, ap, ◌∙◌, subst}
use Rattle.std.specs.Prelude.{IfSome, max, sum, Option, Result, Ok}
use Rattle.std.specs.List.Sorted.{IsStrictlySortedBy}
use Rattle.std.specs.Map.{lookup, keys_of}
use Rattle.std.specs.Ordering.{nat_cmp}
use Rattle.std.proofs.Math.Seq.{take-append_seam}
use Rattle.td_cols.specs.declared.kinds.Kind.{Kind}
use Rattle.td_layer.specs.declared.values.Row.{Row}
use Rattle.td_layer.specs.declared.scans.ScanFault.{ScanFault}
use Rattle.td_layer.specs.Scans.{Places, HasScanCause, rows_in}
use Rattle.td_memtable.specs.Contents.{Contents}
use Rattle.td_fileio.specs.Days.{day_start}
use Rattle.td_fileset.specs.Merged.{told_places}
use Rattle.td_fileset.specs.Layered.{OpenSet, Span, Stored, table_places, rows_told, held_told, damaged_told}
use Rattle.td_fileset.specs.Opened.{Readers, AddsRows, TakesSteps, shown_count}
use Rattle.td_fileset.proofs.Indexed.{files_of}
use Rattle.td_fileset.proofs.Answered.{answer_found, answer_most}
use Rattle.td_fileset.proofs.Placed.{table_cause}

-- a span of a snapshot's table, over the snapshot's memtables and sets
module _ (st : Stored) (table lo hi : ℕ) (kinds : List Kind) (ms : List Contents) (now : List OpenSet) (span : Span)
    (is : lookup (λ (t : ℕ). eqb t table) st.kinds ≡ Some kinds) (memtables : ms ≡ st.memtables) (sets : now ≡ st.sets)
    (part : span ≡ record { table = table; kinds = kinds; lo = max lo (day_start st.edge); hi = hi }) where
  abbrev own : Span
  own = record { table = table; kinds = kinds; lo = max lo (day_start st.edge); hi = hi }

  pub span_found : (found : List (ℕ × Row)) → IsStrictlySortedBy nat_cmp (keys_of st.kinds) → AddsRows ms now span [] found → IfSome (rows_told st) (λ all. found ≡ rows_in table lo hi all)
  span_found found order adds = answer_found st table lo hi kinds found order is
      (subst (λ (m : List Contents). AddsRows m st.sets own [] found) memtables
      (subst (λ (s : List OpenSet). AddsRows ms s own [] found) sets
      (subst (λ (p : Span). AddsRows ms now p [] found) part adds)))

  pub span_most : (before after : ℕ) → TakesSteps ms now span before after → IfSome (held_told st table lo hi) (λ n. after ≤ before + n)
  span_most before after takes = answer_most st table lo hi kinds before after is
      (subst (λ (m : List Contents). TakesSteps m st.sets own before after) memtables
      (subst (λ (s : List OpenSet). TakesSteps ms s own before after) sets
      (subst (λ (p : Span). TakesSteps ms now p before after) part takes)))

  pub span_cause : {X : Type 0} (a b : ℕ) (r : Result X ScanFault) → HasScanCause (told_places (table_places now (span.table, span.kinds))) a b r → HasScanCause (damaged_told st) a b r
  span_cause {X} a b r h = table_cause st table kinds a b r is
      (subst (λ (s : List OpenSet). HasScanCause {X = X} (told_places (table_places s (table, kinds))) a b r) sets
      (subst (λ (p : Span). HasScanCause {X = X} (told_places (table_places now (p.table, p.kinds))) a b r) part h))

-- ---- lists that were lent whole

pub written : {X : Type 0} (long : ℕ) (new old : List X) → long ≡ length new → take long (new ++ drop (length new) old) ≡ new
written long new old e = ap (λ n. take n (new ++ drop (length new) old)) e ∙ take-append_seam new (drop (length new) old)

-- the files stay
pub files_written : (long : ℕ) (new lent old : List Readers) → long ≡ length new → files_of new ≡ files_of lent → lent ≡ old → files_of (take long (new ++ drop (length new) old)) ≡ files_of old
files_written long new lent old e same is = ap files_of (written long new old e) ∙ same ∙ ap files_of is

-- a fault is that of the readers that were lent
pub fault_written : {X : Type 0} (places : Option Places) (a : ℕ) (long : ℕ) (new lent old : List Readers) (r : Result X ScanFault) → long ≡ length new → lent ≡ old → shown_count (sum (map (λ (r : Readers). r.failed) old)) ≡ a
    → HasScanCause places (shown_count (sum (map (λ (r : Readers). r.failed) lent))) (shown_count (sum (map (λ (r : Readers). r.failed) new))) r
    → HasScanCause places a (shown_count (sum (map (λ (r : Readers). r.failed) (take long (new ++ drop (length new) old))))) r
fault_written {X} places a long new lent old r e is before h =
    subst (λ (n : ℕ). HasScanCause {X = X} places n (shown_count (sum (map (λ (r : Readers). r.failed) (take long (new ++ drop (length new) old))))) r) (ap (λ (l : List Readers). shown_count (sum (map (λ (r : Readers). r.failed) l))) is ∙ before)
    (subst (λ (l : List Readers). HasScanCause {X = X} places (shown_count (sum (map (λ (r : Readers). r.failed) lent))) (shown_count (sum (map (λ (r : Readers). r.failed) l))) r) (sym (written long new old e)) h)

pub cause_ok : {X Y : Type 0} (places : Option Places) (a b : ℕ) (x : X) (y : Y) → HasScanCause {X = X} places a b (Ok x) → HasScanCause {X = Y} places a b (Ok y)
cause_ok places a b x y h = record { later = h.later; kept = h.kept; fault = tt }

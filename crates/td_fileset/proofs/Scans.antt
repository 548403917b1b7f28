-- What scans of files give of a part of the timestamps.
use Rattle.std.proofs.Common.{◌≡◌, ℕ, zero, suc, ◌+◌, ◌≤◌, Bool, true, ◌&&◌, eqb, leb, List, [], ◌∷◌, Option, Some, None, Result, Ok, Err, refl, sym, ap, ◌∙◌, arith}
use Rattle.std.specs.Prelude.{is_none}
use Rattle.std.specs.List.{filter, AllByRecursion}
use Rattle.std.proofs.lemmas.Bool.Decides.{nat_tests}
use Rattle.td_cols.specs.declared.kinds.Kind.{Kind}
use Rattle.td_layer.specs.declared.values.Key.{Key}
use Rattle.td_layer.specs.declared.parts.Partial.{Partial}
use Rattle.td_memtree.specs.Within.{is_within, pairs_within}
use Rattle.td_memtable.specs.Contents.{Contents, key_at}
use Rattle.td_sttfile.specs.Opening.{opening_at as stt_opening}
use Rattle.td_sttfile.specs.Blocks.{block_at}
use Rattle.td_sttfile.specs.Scanned.{Want as SttWant, Walked as SttWalked, keyed as stt_keyed, wanted_of as stt_wanted, walk as stt_walk, then_walk as stt_then, behind_opening as stt_behind, before_all as stt_before, scanned as stt_scanned}
use Rattle.td_sttfile.proofs.Narrow.{scan_narrowed as stt_part}
use Rattle.td_datafile.specs.Opening.{opening_at as data_opening}
use Rattle.td_datafile.specs.Blocks.{entry_length}
use Rattle.td_datafile.specs.Scanned.{Want as DataWant, Walked as DataWalked, keyed as data_keyed, wanted_block, last_key, walk as data_walk, then_walk as data_then, behind_opening as data_behind, before_all as data_before, scanned as data_scanned}
use Rattle.td_datafile.proofs.Narrow.{scan_narrowed as data_part}
use Rattle.td_fileset.specs.Ranges.{only, narrowed}
use Rattle.td_fileset.specs.Sources.{Kept, InMemory, InSttFile, InDataFile}
use Rattle.td_fileset.specs.Layered.{Span, whole, stt_want, data_want, last_ts, memtable_layer, bytes_layer, fault_of}
use Rattle.td_fileset.proofs.Filters.{in_span, filter_same, all_through, all_append, only_same, only_both, span_of_keys, span_near}

-- ---- scans give partials of their table

abbrev Rows : Type 0
Rows = List (ℕ × Partial)

abbrev IsOf : ℕ → Key × Partial → Type 0
IsOf table e = e.0.table ≡ table

keyed_of : (table : ℕ) (rows : Rows) → AllByRecursion (IsOf table) (stt_keyed table rows)
keyed_of table [] = tt
keyed_of table (row ∷ rows) = (refl, keyed_of table rows)

module _ (want : SttWant) where
  stt_then_of : (others : ℕ → Key → SttWalked) (r : _) → ((at : ℕ) (last : Key) → AllByRecursion (IsOf want.table) (others at last).partials) → AllByRecursion (IsOf want.table) (stt_then want others r).partials
  stt_then_of others (Err place) h = tt
  stt_then_of others (Ok None) h = tt
  stt_then_of others (Ok (Some f)) h = all_append (IsOf want.table) (stt_keyed want.table (stt_wanted want.lo want.hi f.rows)) (others f.next f.last).partials (keyed_of want.table (stt_wanted want.lo want.hi f.rows)) (h f.next f.last)

  stt_walk_of : (range : ℕ) (all : List ℕ) (blocks at : ℕ) (last : Key) → AllByRecursion (IsOf want.table) (stt_walk want range all blocks at last).partials
  unfolding stt_walk
  stt_walk_of range all zero at last = tt
  stt_walk_of range all (suc blocks) at last = stt_then_of (stt_walk want range all blocks) (block_at want.kinds want.table want.lo want.hi range last at all) (stt_walk_of range all blocks)

  pub stt_of : (all : List ℕ) → AllByRecursion (IsOf want.table) (stt_scanned want all).partials
  unfolding stt_scanned
  stt_of all = by (stt_opening all)
    where
      by : (o : _) → AllByRecursion (IsOf want.table) (stt_behind want all o).partials
      by (Err place) = tt
      by (Ok o) = stt_walk_of o.0.1.0 all o.0.1.1.1 o.1 stt_before

module _ (want : DataWant) where
  data_then_of : (others : DataWalked) (r : Result Rows ℕ) → AllByRecursion (IsOf want.table) others.partials → AllByRecursion (IsOf want.table) (data_then want others r).partials
  data_then_of others (Err place) h = tt
  data_then_of others (Ok rows) h = all_append (IsOf want.table) (data_keyed want.table rows) others.partials (keyed_of want.table rows) h

  data_walk_of : (range : ℕ) (all : List ℕ) (last : Key) (place : ℕ) (es : _) → AllByRecursion (IsOf want.table) (data_walk want range all last place es).partials
  unfolding data_walk
  data_walk_of range all last place [] = tt
  data_walk_of range all last place (e ∷ es) = data_then_of (data_walk want range all (last_key e) (place + entry_length e) es) (wanted_block want range last place e all) (data_walk_of range all (last_key e) (place + entry_length e) es)

  pub data_of : (all : List ℕ) → AllByRecursion (IsOf want.table) (data_scanned want all).partials
  unfolding data_scanned
  data_of all = by (data_opening all)
    where
      by : (o : _) → AllByRecursion (IsOf want.table) (data_behind want all o).partials
      by (Err place) = tt
      by (Ok o) = data_walk_of o.range all data_before o.index o.entries

-- ---- parts of layers

is_nothing : (o : Option ℕ) → is_none o ≡ true → o ≡ None
is_nothing None h = refl
is_nothing (Some x) h = absurd (cc)

-- the timestamps of partials of one table say whether these are in a span
times_tell : (table lo hi : ℕ) (es : List (Key × Partial)) → AllByRecursion (IsOf table) es → filter (λ (e : Key × Partial). leb lo e.0.ts && leb e.0.ts hi) es ≡ only (in_span table lo hi) es
times_tell table lo hi es h =
    filter_same (λ (e : Key × Partial). leb lo e.0.ts && leb e.0.ts hi) (λ (e : Key × Partial). in_span table lo hi e.0) es
    (all_through (IsOf table) (λ (e : Key × Partial). (leb lo e.0.ts && leb e.0.ts hi) ≡ in_span table lo hi e.0) es (λ e is. tells e.0.table (leb lo e.0.ts && leb e.0.ts hi) is) h)
  where
    tells : (t : ℕ) (b : Bool) → t ≡ table → b ≡ (eqb t table && b)
    tells t b is = sym (ap (λ x. x && b) (same t is))
      where
        same : (t : ℕ) → t ≡ table → eqb t table ≡ true
        same t is = grind (arith, nat_tests)

module _ (table : ℕ) (kinds : List Kind) (lo hi : ℕ) (g : hi ≤ last_ts) where
  abbrev near : Span
  near = record { table = table; kinds = kinds; lo = lo; hi = hi }

  pub memtable_part : (m : Contents) → memtable_layer near m ≡ narrowed (in_span table lo hi) (memtable_layer (whole table kinds) m)
  memtable_part m =
      let all = only_same (is_within (key_at table 0) (key_at table last_ts)) (in_span table 0 last_ts) m.puts (span_of_keys table 0 last_ts) in
      let part = only_same (is_within (key_at table lo) (key_at table hi)) (in_span table lo hi) m.puts (span_of_keys table lo hi) in
      let both = only_both (in_span table lo hi) (in_span table 0 last_ts) (in_span table lo hi) m.puts (λ key. span_near table 0 lo hi last_ts key (omega arith) g) in
      let partials : pairs_within (key_at table lo) (key_at table hi) m.puts ≡ only (in_span table lo hi) (pairs_within (key_at table 0) (key_at table last_ts) m.puts) = part ∙ sym both ∙ sym (ap (only (in_span table lo hi)) all) in
      λ i. record { cuts = (memtable_layer near m).cuts; partials = partials i }

  pub bytes_part : (kept : Kept) (all : List ℕ) → is_none (fault_of (whole table kinds) kept all) ≡ true → bytes_layer near kept all ≡ narrowed (in_span table lo hi) (bytes_layer (whole table kinds) kept all)
  bytes_part InMemory all none = refl
  bytes_part InSttFile all none =
      let part = stt_part table kinds 0 lo hi last_ts (omega arith) g all (is_nothing (stt_scanned (stt_want (whole table kinds)) all).fault none) in
      let partials = ap (λ (w : SttWalked). w.partials) part ∙ times_tell table lo hi (stt_scanned (stt_want (whole table kinds)) all).partials (stt_of (stt_want (whole table kinds)) all) in
      λ i. record { cuts = (bytes_layer near InSttFile all).cuts; partials = partials i }
  bytes_part InDataFile all none =
      let part = data_part table kinds 0 lo hi last_ts (omega arith) g all (is_nothing (data_scanned (data_want (whole table kinds)) all).fault none) in
      let partials = ap (λ (w : DataWalked). w.partials) part ∙ times_tell table lo hi (data_scanned (data_want (whole table kinds)) all).partials (data_of (data_want (whole table kinds)) all) in
      λ i. record { cuts = []; partials = partials i }

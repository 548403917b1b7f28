-- Levels whose frozen memtable has gone into files hold the rows that they held.
use Rattle.std.proofs.Common.{◌≡◌, ℕ, zero, suc, ◌/◌, ◌^◌, ◌<◌, ◌≤◌, ◌==◌, leb, Bool, true, false, cond, ◌&&◌, ◌||◌, List, [], ◌∷◌, ◌++◌, length, map, Option, Some, None, All, inl, inr, refl, sym, ap, subst, ◌∙◌, arith}
use Rattle.std.specs.Prelude.{slice_index_or, is_some}
use Rattle.std.specs.List.{flat_map, list_any, AllByRecursion}
use Rattle.std.specs.FinMap.Entries.{find}
use Rattle.std.specs.Ordering.{eq_by_cmp}
use Rattle.std.proofs.lemmas.Bool.{and_parts, and_from, or_parts, eqb-false, leb-true, leb-false, le-leb, both_ways, false_from_ne_true}
use Rattle.std.proofs.lemmas.List.Elements.{recursion_from_All, All-from_recursion, All-head, All-tail, All-cons, All-nil}
use Rattle.td_limits.specs.declared.limits.TheConstants.{DAY_RANGE, LAST_DAY_RANGE}
use Rattle.td_cols.specs.declared.kinds.Kind.{Kind}
use Rattle.td_layer.specs.declared.values.Key.{Key}
use Rattle.td_layer.specs.declared.values.Row.{Row}
use Rattle.td_layer.specs.declared.parts.Partial.{Partial}
use Rattle.td_layer.specs.Keys.{key_cmp}
use Rattle.td_layer.specs.Parts.{act}
use Rattle.td_layer.specs.Scans.{is_cut}
use Rattle.td_model.specs.Catalog.{Catalog}
use Rattle.td_model.specs.State.{State}
use Rattle.td_memtable.specs.Contents.{Contents, table_cuts, part_at}
use Rattle.td_fileio.specs.Days.{day_start, day_end, is_in_day}
use Rattle.td_commit.specs.declared.frozen.Frozen.{Frozen}
use Rattle.td_commit.specs.Given.{HasBirths, is_in_any}
use Rattle.td_fileset.specs.Stack.{Layer, row_at}
use Rattle.td_fileset.specs.Layered.{OpenSet, listed, whole, last_ts, memtable_layer, set_layers, are_sound}
use Rattle.td_fileset.proofs.Filters.{in_span}
use Rattle.td_fileset.proofs.Rows.{equal_keys}
use Rattle.td_levels.specs.Levels.{SetFiles, Levels, Files, open_set, open_sets, table_kinds}
use Rattle.td_levels.specs.Fits.{FitsPut, FitsMemtable, HaveNone}
use Rattle.td_levels.specs.Ranges.{has_put_in, has_files, GetsFile, AreRangesOf, with_files, sets_from, AreByRange, installed}
use Rattle.td_levels.specs.Laws.{HasKindsOf, KeepFiles, AreWritten, HoldRows}
use Rattle.td_levels.proofs.Found.{looked_up}
use Rattle.td_levels.proofs.Days.{sets_row, idle_first, kept_row, kept_sound, in_day_ends, below_edge}
use Rattle.td_levels.proofs.Held.{is_there, level_row, Make, makes, made}
use Rattle.td_levels.proofs.Memory.{mem_row, acted, put_in_layer, in_own_span, hits, cuts_hit}
use Rattle.td_levels.proofs.Installed.{same_sets, other_day, AreEmpty}
use Rattle.td_levels.proofs.Written.{IsNamed, AllGive, all_give, day_in_last}
use Rattle.td_levels.proofs.Several.{files_sound, files_row, files_none, some_none}
use Rattle.td_levels.proofs.ByRange.{files_by_range, some_by_range, own_ranges}

-- ---- the day of a timestamp

abbrev day_of : ℕ → ℕ
day_of ts = ts / DAY_RANGE

in_own_day : (ts : ℕ) → is_in_day (day_of ts) ts ≡ true
in_own_day ts = and_from (leb (day_start (day_of ts)) ts) (leb ts (day_end (day_of ts))) (le-leb (day_start (day_of ts)) ts (omega arith)) (le-leb ts (day_end (day_of ts)) (omega arith))

from_edge : (edge ts : ℕ) → day_start edge ≤ ts → edge ≤ day_of ts
from_edge edge ts h = omega (arith, h)

-- one of some day ranges has a timestamp of it
or_second : (a b : Bool) → b ≡ true → (a || b) ≡ true
or_second true b e = refl
or_second false b e = e

any_at : (ranges : List ℕ) (range ts k : ℕ) → k < length ranges → slice_index_or ranges k range ≡ range → is_in_day range ts ≡ true → is_in_any ranges ts ≡ true
any_at [] range ts k lt is day = absurd (omega (arith, lt))
any_at (r ∷ rs) range ts zero lt is day = ap (λ (b : Bool). b || is_in_any rs ts) (ap (λ (n : ℕ). is_in_day n ts) is ∙ day)
any_at (r ∷ rs) range ts (suc k) lt is day = or_second (is_in_day r ts) (is_in_any rs ts) (any_at rs range ts k (omega (arith, lt)) is day)

-- a timestamp in one of the day ranges is one of 64 bits
any_in_last : (ranges : List ℕ) (ts : ℕ) → AllByRecursion (λ (range : ℕ). range ≤ LAST_DAY_RANGE) ranges → is_in_any ranges ts ≡ true → ts ≤ last_ts
any_in_last [] ts last h = absurd (cc)
any_in_last (r ∷ rs) ts last h = by (is_in_day r ts) refl h (any_in_last rs ts last.1)
  where
    by : (b : Bool) → is_in_day r ts ≡ b → (b || is_in_any rs ts) ≡ true → (is_in_any rs ts ≡ true → ts ≤ last_ts) → ts ≤ last_ts
    by true e k rest = day_in_last r ts last.0 e
    by false e k rest = rest k

-- ---- a day range that gets no file

module _ (day : ℕ) (q : Key) (own : is_in_day day q.ts ≡ true) where
  -- a memtable without a put in the day has none of the key
  no_item : (es : List (Key × Partial)) → list_any (λ (e : Key × Partial). is_in_day day e.0.ts) es ≡ false → find key_cmp q es ≡ None
  no_item [] h = refl
  no_item (e ∷ es) h =
      let parts = or_parts (is_in_day day e.0.ts) (list_any (λ (e : Key × Partial). is_in_day day e.0.ts) es) h in
      ap (λ (b : Bool). cond b (Some e.1) (find key_cmp q es)) (false_from_ne_true (eq_by_cmp key_cmp q e.0) (λ same. both_ways (is_in_day day e.0.ts) parts.0 (ap (λ (k : Key). is_in_day day k.ts) (sym (equal_keys q e.0 same)) ∙ own)))
      ∙ no_item es parts.1

  -- a cut over the key meets the day
  meets_day : (cuts : List (Key × ℕ)) → list_any (hits q.table q) cuts ≡ true → list_any (λ (c : Key × ℕ). leb c.0.ts (day_end day) && leb (day_start day) c.1) cuts ≡ true
  meets_day [] h = h
  meets_day (c ∷ cs) h = by (hits q.table q c) refl h (meets_day cs)
    where
      this : hits q.table q c ≡ true → (leb c.0.ts (day_end day) && leb (day_start day) c.1) ≡ true
      this e =
          let ends = in_day_ends day q.ts own in
          let over = (and_parts _ (leb c.0.ts q.ts && leb q.ts c.1) e).1 in
          let at = and_parts (leb c.0.ts q.ts) (leb q.ts c.1) over in
          let low = leb-true c.0.ts q.ts at.0 in
          let high = leb-true q.ts c.1 at.1 in
          and_from (leb c.0.ts (day_end day)) (leb (day_start day) c.1) (le-leb c.0.ts (day_end day) (omega (arith, low, ends.1))) (le-leb (day_start day) c.1 (omega (arith, high, ends.0)))

      by : (b : Bool) → hits q.table q c ≡ b → (b || list_any (hits q.table q) cs) ≡ true → (list_any (hits q.table q) cs ≡ true → list_any (λ (c : Key × ℕ). leb c.0.ts (day_end day) && leb (day_start day) c.1) cs ≡ true)
          → ((leb c.0.ts (day_end day) && leb (day_start day) c.1) || list_any (λ (c : Key × ℕ). leb c.0.ts (day_end day) && leb (day_start day) c.1) cs) ≡ true
      by true e k rest = ap (λ (b : Bool). b || list_any (λ (c : Key × ℕ). leb c.0.ts (day_end day) && leb (day_start day) c.1) cs) (this e)
      by false e k rest = or_second _ _ (rest k)

  -- sets without files of the day have no row of the key
  no_files : (files : Files) (t : ℕ × List Kind) (sets : List SetFiles) → has_files day sets ≡ false → sets_row t q (open_sets files sets) ≡ None
  no_files files t [] h = refl
  no_files files t (s ∷ ss) h =
      let parts = or_parts (s.range == day) (has_files day ss) h in
      idle_first t q (open_set files s) (open_sets files ss) (other_day day s.range q.ts own (eqb-false s.range day parts.0)) ∙ no_files files t ss parts.1

  -- there the memtable does nothing over the files
  nothing_there : (files : Files) (t : ℕ × List Kind) (m : Contents) (sets : List SetFiles) (edge : ℕ) → (GetsFile m sets edge day → ⊥) → edge ≤ day → mem_row q.table q m (sets_row t q (open_sets files sets)) ≡ sets_row t q (open_sets files sets)
  nothing_there files t m sets edge none from =
      ap (λ (o : Option Partial). acted (is_cut q (table_cuts q.table m.cuts)) o row) (put_in_layer q.table q m.puts ∙ ap (λ (o : Option Partial). cond (in_span q.table 0 last_ts q) o None) no_put ∙ nothing (in_span q.table 0 last_ts q))
      ∙ by (is_cut q (table_cuts q.table m.cuts)) refl
    where
      row : Option Row
      row = sets_row t q (open_sets files sets)

      no_put : find key_cmp q m.puts ≡ None
      no_put = no_item m.puts (false_from_ne_true (has_put_in day m) (λ some. none (from, inl some)))

      nothing : (b : Bool) → ◌≡◌ {A = Option Partial} (cond b None None) None
      nothing true = refl
      nothing false = refl

      by : (b : Bool) → is_cut q (table_cuts q.table m.cuts) ≡ b → acted b None row ≡ row
      by true e =
          let meets = meets_day m.cuts (sym (cuts_hit q m.cuts) ∙ e) in
          sym (no_files files t sets (false_from_ne_true (has_files day sets) (λ has. none (from, inr (has, meets)))))
      by false e = refl

-- ---- a commit

births_of : (c : Catalog) (puts : List (Key × Partial)) → AllByRecursion (FitsPut c) puts → AllByRecursion (λ (e : Key × Partial). e.1.birth.born < 2 ^ 64) puts
births_of c [] h = tt
births_of c (e ∷ es) h = (h.0.born, births_of c es h.1)

cond_same : (b : Bool) (x y : Option Row) → (b ≡ true → x ≡ y) → cond b x None ≡ cond b y None
cond_same true x y h = h refl
cond_same false x y h = refl

module _ (files files' : Files) (s : State) (l : Levels) (f : Frozen) (edge : ℕ) (numbers : List ℕ) (frozen : l.frozen ≡ Some f.memtable) (kinds : HasKindsOf s.catalog f) (ranges : AreRangesOf f.memtable l.sets edge f.ranges)
    (le : edge ≤ s.edge) (by_range : AreByRange l.sets) (written : AreWritten files files' f numbers l.sets) (holds : HoldRows files s l) where
  abbrev c : Catalog
  c = s.catalog

  fits_active : FitsMemtable c l.active
  fits_active = All-head (FitsMemtable c) l.active (listed l.frozen) holds.fits.memtables

  fits_frozen : FitsMemtable c f.memtable
  fits_frozen = All-head (FitsMemtable c) f.memtable [] (subst (λ (o : Option Contents). All (FitsMemtable c) (listed o)) frozen (All-tail (FitsMemtable c) l.active (listed l.frozen) holds.fits.memtables))

  births : HasBirths f
  births = births_of c f.memtable.puts (recursion_from_All (FitsPut c) f.memtable.puts fits_frozen.puts)

  give : AllGive files' f f.ranges numbers
  give = all_give files' f f.ranges numbers written.befores written.sound fits_frozen.sound births written.sound.last (recursion_from_All (λ (n : ℕ). is_some (files' n) ≡ true) numbers written.told) written.files_are

  same : open_sets files l.sets ≡ open_sets files' l.sets
  same = same_sets files files' l.sets (recursion_from_All (KeepFiles files files') l.sets written.kept)

  small : (table : ℕ) → table ≤ length c.tables → table < 2 ^ 32
  small table there = let count = holds.valid.count in omega (arith, there, count)

  named : (table : ℕ) → 1 ≤ table → table ≤ length c.tables → IsNamed f (table, table_kinds c table)
  named table one there = by (leb table (length f.kinds)) refl
    where
      by : (b : Bool) → leb table (length f.kinds) ≡ b → IsNamed f (table, table_kinds c table)
      by true e = inl (record { number = one; fits = small table there; kinds = kinds.kinds table one (leb-true table (length f.kinds) e) })
      by false e = inr (leb-false table (length f.kinds) e)

  abbrev more_sets : List SetFiles
  more_sets = with_files f.ranges numbers l.sets

  abbrev keep : SetFiles → Bool
  keep o = leb edge o.range

  -- ---- rows

  same_row : (q : Key) → 1 ≤ q.table → q.table ≤ length c.tables → day_start s.edge ≤ q.ts
      → mem_row q.table q f.memtable (sets_row (q.table, table_kinds c q.table) q (open_sets files l.sets)) ≡ sets_row (q.table, table_kinds c q.table) q (open_sets files' (sets_from edge more_sets))
  same_row q one there at =
      ap (λ (sets : List OpenSet). mem_row q.table q f.memtable (sets_row (q.table, table_kinds c q.table) q sets)) same
      ∙ by (is_in_any f.ranges q.ts) refl
      ∙ sym (files_row files' f (q.table, table_kinds c q.table) (named q.table one there) q refl one (small q.table there) f.ranges numbers l.sets written.sound.rise give)
      ∙ sym (kept_row files' keep (q.table, table_kinds c q.table) q more_sets (λ o out. below_edge edge o.range q.ts from out))
    where
      from : day_start edge ≤ q.ts
      from = omega (arith, at, le)

      by : (b : Bool) → is_in_any f.ranges q.ts ≡ b
          → mem_row q.table q f.memtable (sets_row (q.table, table_kinds c q.table) q (open_sets files' l.sets))
          ≡ cond b (act (part_at q f.memtable) (sets_row (q.table, table_kinds c q.table) q (open_sets files' l.sets))) (sets_row (q.table, table_kinds c q.table) q (open_sets files' l.sets))
      by true e =
          ap (λ (o : Option Partial). acted (is_cut q (table_cuts q.table f.memtable.cuts)) o (sets_row (q.table, table_kinds c q.table) q (open_sets files' l.sets)))
          (put_in_layer q.table q f.memtable.puts ∙ ap (λ (b : Bool). cond b (find key_cmp q f.memtable.puts) None) (in_own_span q (any_in_last f.ranges q.ts written.sound.last e)) ∙ sym (looked_up q f.memtable.puts))
      by false e =
          nothing_there (day_of q.ts) q (in_own_day q.ts) files' (q.table, table_kinds c q.table) f.memtable l.sets edge
          (λ gets. let has = (ranges.each (day_of q.ts)).1 gets in both_ways (is_in_any f.ranges q.ts) e (any_at f.ranges (day_of q.ts) q.ts has.0 has.1 has.2 (in_own_day q.ts)))
          (from_edge edge q.ts from)

  there_parts : (q : Key) → is_there (length c.tables) s.edge q ≡ true → (1 ≤ q.table) × (q.table ≤ length c.tables) × (day_start s.edge ≤ q.ts)
  there_parts q h =
      let both = and_parts (leb 1 q.table && leb q.table (length c.tables)) (leb (day_start s.edge) q.ts) h in
      let table = and_parts (leb 1 q.table) (leb q.table (length c.tables)) both.0 in
      (leb-true 1 q.table table.0, leb-true q.table (length c.tables) table.1, leb-true (day_start s.edge) q.ts both.1)

  level_same : (q : Key) → is_there (length c.tables) s.edge q ≡ true → level_row files c l q ≡ level_row files' c (installed f.ranges numbers edge l) q
  level_same q h =
      let parts = there_parts q h in
      ap (λ (o : Option Contents). row_at q (map (memtable_layer (whole q.table (table_kinds c q.table))) (l.active ∷ listed o) ++ flat_map (set_layers (q.table, table_kinds c q.table)) (open_sets files l.sets))) frozen
      ∙ ap (mem_row q.table q l.active) (same_row q parts.0 parts.1 parts.2)

  held : Make files c s.edge l s.rows
  held = makes files c s.edge l s.rows holds.rows

  stay_sound : (t : ℕ × List Kind) → IsNamed f t → are_sound t (open_sets files l.sets) ≡ true → are_sound t (open_sets files' (sets_from edge more_sets)) ≡ true
  stay_sound t is h = kept_sound files' keep t more_sets (files_sound files' f t is f.ranges numbers l.sets give (subst (λ (sets : List OpenSet). are_sound t sets ≡ true) same h))

  now_held : Make files' c s.edge (installed f.ranges numbers edge l) s.rows
  now_held = record {
    sound = λ table one there. stay_sound (table, table_kinds c table) (named table one there) (held.sound table one there);
    order = held.order;
    found = λ q. held.found q ∙ cond_same (is_there (length c.tables) s.edge q) (level_row files c l q) (level_row files' c (installed f.ranges numbers edge l) q) (level_same q);
  }

  none_further : (table : ℕ) → length c.tables < table → HaveNone files' (sets_from edge more_sets) table
  none_further table lt =
      let few = kinds.few in
      let past : length f.kinds < table = omega (arith, few, lt) in
      record {
        sound = λ own. stay_sound (table, own) (inr past) ((holds.further table lt).sound own);
        none = λ own. All-from_recursion (λ (l : Layer). l.partials ≡ []) (flat_map (set_layers (table, own)) (open_sets files' (sets_from edge more_sets)))
            (some_none files' f (table, own) past keep more_sets (files_none files' f (table, own) past f.ranges numbers l.sets give
            (subst (λ (sets : List OpenSet). AreEmpty (flat_map (set_layers (table, own)) sets)) same
            (recursion_from_All (λ (l : Layer). l.partials ≡ []) (flat_map (set_layers (table, own)) (open_sets files l.sets)) ((holds.further table lt).none own)))));
      }

  stand : AreByRange (sets_from edge more_sets)
  stand = some_by_range keep more_sets (files_by_range f.ranges numbers l.sets by_range)

  pub commit_keeps : HoldRows files' s (installed f.ranges numbers edge l) × AreByRange (installed f.ranges numbers edge l).sets
  commit_keeps = (
    record {
      valid = holds.valid;
      fits = record {
        memtables = All-cons (FitsMemtable c) l.active [] fits_active (All-nil (FitsMemtable c));
        ranges = λ files. own_ranges files (sets_from edge more_sets) stand;
      };
      further = none_further;
      rows = made files' c s.edge (installed f.ranges numbers edge l) s.rows now_held;
    },
    stand,
  )

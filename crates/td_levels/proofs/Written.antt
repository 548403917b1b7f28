-- What a file of a frozen memtable gives: the memtable's parts of its day range, and nothing of a further table.
use Rattle.std.proofs.Common.{◌≡◌, ℕ, ◌+◌, ◌-◌, ◌^◌, ◌<◌, ◌≤◌, ◌==◌, max, min, leb, Bool, true, false, cond, ◌&&◌, List, [], ◌∷◌, ◌++◌, map, length, slice_get, Option, Some, None, ◌⊎◌, inl, inr, refl, sym, ap, subst, ◌∙◌, arith}
use Rattle.std.specs.Prelude.{IfSome, is_some, MatchOption, if◌then◌else◌}
use Rattle.std.specs.List.{AllByRecursion}
use Rattle.std.specs.Option.{option_map}
use Rattle.std.specs.FinMap.Entries.{find}
use Rattle.std.proofs.lemmas.Bool.{ne_eqb}
use Rattle.std.proofs.lemmas.Bool.Decides.{nat_tests}
use Rattle.std.proofs.lemmas.Option.{slice_get_within}
use Rattle.td_limits.specs.declared.limits.TheConstants.{LAST_DAY_RANGE}
use Rattle.td_cols.specs.declared.kinds.Kind.{Kind}
use Rattle.td_layer.specs.declared.values.Key.{Key}
use Rattle.td_layer.specs.declared.parts.Partial.{Partial}
use Rattle.td_layer.specs.declared.parts.Part.{Part}
use Rattle.td_layer.specs.Keys.{key_cmp}
use Rattle.td_layer.specs.Scans.{is_cut}
use Rattle.td_memtree.specs.Keys.{item_at}
use Rattle.td_memtree.specs.Within.{is_within, pairs_within}
use Rattle.td_memtable.specs.Contents.{key_at, table_cuts, part_at, IsSound as IsMemtable}
use Rattle.td_block.specs.Rows.{Rows}
use Rattle.td_fileio.specs.declared.lists.TableRows.{TableRows}
use Rattle.td_fileio.specs.Days.{day_start, day_end, is_in_day}
use Rattle.td_sttfile.specs.Written.{bytes_of_list}
use Rattle.td_sttfile.specs.Scanned.{Want, Walked, scanned, wanted_of, keyed}
use Rattle.td_sttfile.specs.Contents.{partials_of, IsWantedTable}
use Rattle.td_sttfile.proofs.Tables.{scanned_back}
use Rattle.td_commit.specs.declared.frozen.Frozen.{Frozen}
use Rattle.td_commit.specs.Clipped.{rows_of, AreTablesFrom}
use Rattle.td_commit.specs.Sound.{IsPutOf, IsSound}
use Rattle.td_commit.specs.Files.{IsFileOf, AreFilesOf}
use Rattle.td_commit.specs.Given.{IsWanted, GivesPartsOf, HasBirths}
use Rattle.td_commit.proofs.Parts.{gives_parts}
use Rattle.td_commit.proofs.Writes.{can_write}
use Rattle.td_fileset.specs.Stack.{part_of}
use Rattle.td_fileset.specs.Sources.{InSttFile}
use Rattle.td_fileset.specs.Layered.{whole, last_ts, stt_want, bytes_layer}
use Rattle.td_fileset.proofs.Filters.{span_of_keys}
use Rattle.td_fileset.proofs.Ranged.{only_found}
use Rattle.td_levels.proofs.Found.{looked_up}
use Rattle.td_levels.proofs.Fitting.{found_item}
use Rattle.td_levels.proofs.Days.{in_day_ends}

-- the kinds of a table are those that a frozen memtable has of it, or the table came after the memtable was frozen
abbrev pub IsNamed : Frozen → ℕ × List Kind → Type 0
IsNamed f t = IsWanted f (stt_want (whole t.0 t.1)) ⊎ (length f.kinds < t.0)

-- A file of a day range that tells its bytes: no scan of a table finds a fault there, a key of the day has the part that
-- the memtable has of it, and a further table has nothing.
pub record GivesParts (f : Frozen) (range : ℕ) (told : Option (List ℕ)) : Type 0 where
  pub bytes : List ℕ
  pub is : told ≡ Some bytes
  pub sound : (t : ℕ × List Kind) → IsNamed f t → (scanned (stt_want (whole t.0 t.1)) bytes).fault ≡ None
  pub part : (t : ℕ × List Kind) (q : Key) → IsNamed f t → q.table ≡ t.0 → 1 ≤ q.table → q.table < 2 ^ 32 → is_in_day range q.ts ≡ true
      → part_of q (bytes_layer (whole t.0 t.1) InSttFile bytes) ≡ part_at q f.memtable
  pub none : (t : ℕ × List Kind) → length f.kinds < t.0 → (scanned (stt_want (whole t.0 t.1)) bytes).partials ≡ []

-- ---- further tables

births_in : (lo hi : Key) (puts : List (Key × Partial)) → AllByRecursion (λ (e : Key × Partial). e.1.birth.born < 2 ^ 64) puts → AllByRecursion (λ (row : ℕ × Partial). row.1.birth.born < 2 ^ 64) (rows_of (pairs_within lo hi puts))
births_in lo hi [] all = tt
births_in lo hi (e ∷ es) all = by (is_within lo hi e.0) (births_in lo hi es all.1)
  where
    by : (b : Bool) → AllByRecursion (λ (row : ℕ × Partial). row.1.birth.born < 2 ^ 64) (rows_of (pairs_within lo hi es)) → AllByRecursion (λ (row : ℕ × Partial). row.1.birth.born < 2 ^ 64) (rows_of (cond b (e ∷ pairs_within lo hi es) (pairs_within lo hi es)))
    by true i = (all.0, i)
    by false i = i

module _ (f : Frozen) (range : ℕ) (births : HasBirths f) (want : Want) (past : length f.kinds < want.table) where
  -- each table of the file has kinds, and so is none that is wanted
  further_tables : (from : ℕ) (ts : List TableRows) → AreTablesFrom f range from ts → AllByRecursion (IsWantedTable want) ts × (partials_of want ts ≡ [])
  further_tables from [] are = (tt, refl)
  further_tables from (t ∷ ts) are =
      let own = are.1.1.0 in
      let one : 1 ≤ t.table = own.number in
      let within = slice_get_within f.kinds (t.table - 1) t.kinds own.kinds in
      let rest = further_tables (t.table + 1) ts are.1.1.1 in
      let first : IsWantedTable want t = record {
        numbers = record {
          table_is = own.fits;
          births_are = subst (λ (l : Rows). AllByRecursion (λ (row : ℕ × Partial). row.1.birth.born < 2 ^ 64) l) (sym own.rows) (births_in (key_at t.table (day_start range)) (key_at t.table (day_end range)) f.memtable.puts births);
        };
        kinds = λ same. absurd (omega (arith, same, past, within, one));
      } in
      let other : (t.table == want.table) ≡ false = ne_eqb t.table want.table (λ same. omega (arith, same, past, within, one)) in (
        (first, rest.0),
        ap (λ (b : Bool). (if b then keyed want.table (wanted_of want.lo want.hi t.rows) else []) ++ partials_of want ts) other ∙ rest.1,
      )

-- the memtable has no put of a further table
no_put : (f : Frozen) (q : Key) → IsSound f → length f.kinds < q.table → item_at q f.memtable.puts ≡ None
no_put f q sound past = by (item_at q f.memtable.puts) refl (found_item (IsPutOf f.kinds) q f.memtable.puts sound.puts)
  where
    out : (o : Option (List Kind)) (P : List Kind → Type 0) → slice_get f.kinds (q.table - 1) ≡ o → 1 ≤ q.table → MatchOption o ⊥ P → ⊥
    out None P at one h = h
    out (Some kinds) P at one h = let within = slice_get_within f.kinds (q.table - 1) kinds at in omega (arith, within, past, one)

    by : (o : Option Partial) → item_at q f.memtable.puts ≡ o → IfSome o (λ (p : Partial). IsPutOf f.kinds (q, p)) → item_at q f.memtable.puts ≡ None
    by None is h = is
    by (Some p) is h = absurd (out (slice_get f.kinds (q.table - 1)) _ refl h.0 h.1)

-- ---- a file

pub day_in_last : (range ts : ℕ) → range ≤ LAST_DAY_RANGE → is_in_day range ts ≡ true → ts ≤ last_ts
day_in_last range ts last h = let ends = in_day_ends range ts h in omega (arith, ends.1, last)

abbrev part_made : Bool → Option Partial → Part
part_made cut put = record { cut = cut; put = put }

abbrev all_of : List (Key × Partial) → Walked
all_of partials = record { partials = partials; fault = None }

-- a key of a day range is among those that a scan of all its timestamps wants there
in_both : (q : Key) (range : ℕ) → range ≤ LAST_DAY_RANGE → is_in_day range q.ts ≡ true → is_within (key_at q.table (max 0 (day_start range))) (key_at q.table (min last_ts (day_end range))) q ≡ true
in_both q range last h =
    let ends = in_day_ends range q.ts h in
    span_of_keys q.table (max 0 (day_start range)) (min last_ts (day_end range)) q
    ∙ inside q.table (max 0 (day_start range)) (min last_ts (day_end range)) q.ts (omega (arith, ends.0)) (omega (arith, ends.1, last))
  where
    inside : (table lo hi ts : ℕ) → lo ≤ ts → ts ≤ hi → ((table == table) && (leb lo ts && leb ts hi)) ≡ true
    inside table lo hi ts a b = grind (arith, nat_tests)

module _ (f : Frozen) (sound : IsSound f) (m : IsMemtable f.memtable) (births : HasBirths f) where
  further_scan : (range : ℕ) (tables : List TableRows) (t : ℕ × List Kind) → range < 2 ^ 32 → AreTablesFrom f range 1 tables → length f.kinds < t.0 → scanned (stt_want (whole t.0 t.1)) (bytes_of_list range tables) ≡ all_of []
  further_scan range tables t small are past =
      let few = m.few in
      let puts = m.puts in
      let cuts = m.cuts in
      let can = can_write f range tables sound (omega (arith, few, puts)) (omega (arith, few, cuts)) small are in
      let others = further_tables f range births (stt_want (whole t.0 t.1)) past 1 tables are in
      scanned_back (stt_want (whole t.0 t.1)) range tables small can others.0 ∙ ap all_of others.1

  -- what it gives of a key, by its cut and its put
  one_part : (range : ℕ) (bytes : List ℕ) (t : ℕ × List Kind) (q : Key) → GivesPartsOf f range bytes → q.table ≡ t.0 → 1 ≤ q.table → q.table < 2 ^ 32 → is_in_day range q.ts ≡ true
      → find key_cmp q (scanned (stt_want (whole t.0 t.1)) bytes).partials ≡ item_at q f.memtable.puts
      → part_of q (bytes_layer (whole t.0 t.1) InSttFile bytes) ≡ part_at q f.memtable
  one_part range bytes t q given of one small day put =
      ap (λ (c : Bool). part_made c (find key_cmp q (scanned (stt_want (whole t.0 t.1)) bytes).partials)) (given.cuts q one small ∙ ap (λ (b : Bool). b && is_cut q (table_cuts q.table f.memtable.cuts)) day)
      ∙ ap (part_made (is_cut q (table_cuts q.table f.memtable.cuts))) put

  known_put : (range : ℕ) (bytes : List ℕ) (t : ℕ × List Kind) (q : Key) → range ≤ LAST_DAY_RANGE → GivesPartsOf f range bytes → IsWanted f (stt_want (whole t.0 t.1)) → q.table ≡ t.0 → is_in_day range q.ts ≡ true
      → find key_cmp q (scanned (stt_want (whole t.0 t.1)) bytes).partials ≡ item_at q f.memtable.puts
  known_put range bytes t q last given is of day =
      ap (λ (w : Walked). find key_cmp q w.partials) (given.puts (stt_want (whole t.0 t.1)) is)
      ∙ ap (λ (n : ℕ). find key_cmp q (pairs_within (key_at n (max 0 (day_start range))) (key_at n (min last_ts (day_end range))) f.memtable.puts)) (sym of)
      ∙ only_found (is_within (key_at q.table (max 0 (day_start range))) (key_at q.table (min last_ts (day_end range)))) f.memtable.puts q
      ∙ ap (λ (b : Bool). cond b (find key_cmp q f.memtable.puts) None) (in_both q range last day)
      ∙ sym (looked_up q f.memtable.puts)

  -- the file of a day range with these tables
  of_tables : (range : ℕ) (tables : List TableRows) → range ≤ LAST_DAY_RANGE → AreTablesFrom f range 1 tables → GivesParts f range (Some (bytes_of_list range tables))
  of_tables range tables last are = record {
    bytes = bytes_of_list range tables;
    is = refl;
    sound = λ t named. sound_of t named;
    part = λ t q named of one fits day. one_part range (bytes_of_list range tables) t q given of one fits day (put_of t q named of day);
    none = λ t past. ap (λ (w : Walked). w.partials) (further_scan range tables t small are past);
  }
    where
      small : range < 2 ^ 32
      small = omega (arith, last)

      given : GivesPartsOf f range (bytes_of_list range tables)
      given = gives_parts f range tables sound m births small are

      sound_of : (t : ℕ × List Kind) → IsNamed f t → (scanned (stt_want (whole t.0 t.1)) (bytes_of_list range tables)).fault ≡ None
      sound_of t (inl is) = ap (λ (w : Walked). w.fault) (given.puts (stt_want (whole t.0 t.1)) is)
      sound_of t (inr past) = ap (λ (w : Walked). w.fault) (further_scan range tables t small are past)

      put_of : (t : ℕ × List Kind) (q : Key) → IsNamed f t → q.table ≡ t.0 → is_in_day range q.ts ≡ true → find key_cmp q (scanned (stt_want (whole t.0 t.1)) (bytes_of_list range tables)).partials ≡ item_at q f.memtable.puts
      put_of t q (inl is) of day = known_put range (bytes_of_list range tables) t q last given is of day
      put_of t q (inr past) of day = ap (λ (w : Walked). find key_cmp q w.partials) (further_scan range tables t small are past) ∙ sym (no_put f q sound (subst (λ (n : ℕ). length f.kinds < n) (sym of) past))

  one_file : (range : ℕ) (before told : Option (List ℕ)) → range ≤ LAST_DAY_RANGE → is_some told ≡ true → IsFileOf f range before told → GivesParts f range told
  one_file range before told last some file = subst (GivesParts f range) (sym (told_is before told some file.written)) (of_tables range file.tables last file.are)
    where
      told_is : (before told : Option (List ℕ)) → is_some told ≡ true → told ≡ option_map (λ _. bytes_of_list range file.tables) before → told ≡ Some (bytes_of_list range file.tables)
      told_is None None some is = absurd (let clash : ⊥ = cc in clash)
      told_is None (Some bytes) some is = absurd (let clash : ⊥ = cc in clash)
      told_is (Some old) told some is = is

-- each of some files gives the parts of its day range
abbrev pub AllGive : (ℕ → Option (List ℕ)) → Frozen → List ℕ → List ℕ → Type 0
AllGive files f [] [] = Unit {0}
AllGive files f (range ∷ ranges) (n ∷ numbers) = GivesParts f range (files n) × AllGive files f ranges numbers
AllGive files f [] (n ∷ numbers) = ⊥
AllGive files f (range ∷ ranges) [] = ⊥

pub all_give : (files : ℕ → Option (List ℕ)) (f : Frozen) (ranges numbers : List ℕ) (befores : List (Option (List ℕ))) → IsSound f → IsMemtable f.memtable → HasBirths f
    → AllByRecursion (λ (range : ℕ). range ≤ LAST_DAY_RANGE) ranges → AllByRecursion (λ (n : ℕ). is_some (files n) ≡ true) numbers → AreFilesOf f ranges befores (map files numbers) → AllGive files f ranges numbers
all_give files f [] [] befores sound m births last some are = tt
all_give files f [] (n ∷ numbers) [] sound m births last some are = absurd are
all_give files f [] (n ∷ numbers) (before ∷ befores) sound m births last some are = absurd are
all_give files f (range ∷ ranges) [] [] sound m births last some are = absurd are
all_give files f (range ∷ ranges) [] (before ∷ befores) sound m births last some are = absurd are
all_give files f (range ∷ ranges) (n ∷ numbers) [] sound m births last some are = absurd are
all_give files f (range ∷ ranges) (n ∷ numbers) (before ∷ befores) sound m births last some are =
    (one_file f sound m births range before (files n) last.0 some.0 are.0, all_give files f ranges numbers befores sound m births last.1 some.1 are.1)

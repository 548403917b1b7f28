-- A memtable whose parts are of the first tables of a catalog can be written with the kinds of these tables.
use Rattle.std.proofs.Common.{◌≡◌, ℕ, zero, suc, ◌+◌, ◌-◌, ◌^◌, ◌<◌, ◌≤◌, ◌==◌, ◌⊎◌, inl, inr, Bool, true, false, List, [], ◌∷◌, map, length, take, drop, slice_get, Option, Some, None, All, refl, sym, ap, subst, ◌∙◌, arith}
use Rattle.std.specs.Prelude.{IsTrue, Contains, MatchOption, ◌||◌, nat_le}
use Rattle.std.specs.List.{AllByRecursion, AllZip, list_any, list_all}
use Rattle.std.proofs.lemmas.Bool.{and_parts, eqb-true, leb-true}
use Rattle.std.proofs.lemmas.List.Elements.{All-weaker, All-head, All-tail, recursion_from_All}
use Rattle.td_limits.specs.declared.limits.TheConstants.{LAST_TIMESTAMP, LAST_DAY_RANGE}
use Rattle.td_cols.specs.declared.kinds.Kind.{Kind}
use Rattle.td_cols.specs.declared.kinds.Kind.TheVariants.{Bool as Truth, I8, I16, I32, I64, U8, U16, U32, U64, Time, Wide, Text}
use Rattle.td_cols.specs.Kinds.{kind_code}
use Rattle.td_layer.specs.declared.values.Key.{Key}
use Rattle.td_layer.specs.declared.values.Value.{Value}
use Rattle.td_layer.specs.declared.values.Value.TheVariants as value
use Rattle.td_layer.specs.declared.parts.Partial.{Partial}
use Rattle.td_model.specs.declared.catalog.Column.{Column}
use Rattle.td_model.specs.declared.catalog.TableDef.{TableDef}
use Rattle.td_model.specs.Catalog.{Catalog}
use Rattle.td_verdict.specs.Names.{table_schema}
use Rattle.td_verdict.specs.Plans.{Numbered, numbered}
use Rattle.td_verdict.specs.Sound.{is_named_of, value_columns}
use Rattle.td_verdict.specs.Valid.{IsValid}
use Rattle.td_verdict.specs.Values.{is_column_kind}
use Rattle.td_verdict.proofs.Schemas.{schema_at}
use Rattle.td_memtable.specs.Contents.{Contents}
use Rattle.td_block.specs.Columns.{is_fixed}
use Rattle.td_block.specs.Rows.{IsCellOf, IsRowOf}
use Rattle.td_fileio.specs.Days.{day_start, day_end, is_in_day}
use Rattle.td_commit.specs.declared.frozen.Frozen.{Frozen}
use Rattle.td_commit.specs.Sound.{AreFileKinds, IsPutOf, IsCutOf, IsSound}
use Rattle.td_commit.specs.Given.{HasBirths}
use Rattle.td_levels.specs.Levels.{SetFiles, table_kinds}
use Rattle.td_levels.specs.Fits.{FitsPut, FitsCut, FitsMemtable}
use Rattle.td_levels.specs.Laws.{HasKindsOf}
use Rattle.td_levels.specs.Ranges.{AreRangesOf, GetsFile}
use Rattle.td_levels.specs.Days.{IsTimely, TimesFit, RangesFit}
use Rattle.td_state.specs.Kinds.{all_kinds}

-- ---- the kinds of the first tables

get_take : {A : Type 0} (n k : ℕ) (xs : List A) → k < n → slice_get (take n xs) k ≡ slice_get xs k
get_take zero k xs lt = absurd (omega (arith, lt))
get_take (suc n) k [] lt = refl
get_take (suc n) zero (x ∷ xs) lt = refl
get_take (suc n) (suc k) (x ∷ xs) lt = get_take n k xs (omega (arith, lt))

take_few : {A : Type 0} (n : ℕ) (xs : List A) → (length (take n xs) ≤ n) × (length (take n xs) ≤ length xs)
take_few zero xs = (omega arith, omega arith)
take_few (suc n) [] = (omega arith, omega arith)
take_few (suc n) (x ∷ xs) = let rest = take_few n xs in (omega (arith, rest.0), omega (arith, rest.1))

take_has : {A : Type 0} (n m : ℕ) (xs : List A) → m ≤ n → m ≤ length xs → m ≤ length (take n xs)
take_has n zero xs le few = omega arith
take_has zero (suc m) xs le few = absurd (omega (arith, le))
take_has (suc n) (suc m) [] le few = absurd (omega (arith, few))
take_has (suc n) (suc m) (x ∷ xs) le few = let rest = take_has n m xs (omega (arith, le)) (omega (arith, few)) in omega (arith, rest)

kinds_count : (c : Catalog) (n : ℕ) (ts : List TableDef) → length (map (λ (e : Numbered). table_kinds c e.0) (numbered n ts)) ≡ length ts
kinds_count c n [] = refl
kinds_count c n (t ∷ ts) = ap suc (kinds_count c (n + 1) ts)

kinds_from_are : (c : Catalog) (n : ℕ) (ts : List TableDef) (k : ℕ) → k < length ts → slice_get (map (λ (e : Numbered). table_kinds c e.0) (numbered n ts)) k ≡ Some (table_kinds c (n + k))
kinds_from_are c n [] k lt = absurd (omega (arith, lt))
kinds_from_are c n (t ∷ ts) zero lt = let same : n ≡ n + 0 = omega arith in ap (λ (m : ℕ). Some (table_kinds c m)) same
kinds_from_are c n (t ∷ ts) (suc k) lt =
    let same : (n + 1) + k ≡ n + suc k = omega arith in
    kinds_from_are c (n + 1) ts k (omega (arith, lt)) ∙ ap (λ (m : ℕ). Some (table_kinds c m)) same

kinds_are : (c : Catalog) (n table : ℕ) → 1 ≤ table → table ≤ length (take n (all_kinds c)) → slice_get (take n (all_kinds c)) (table - 1) ≡ Some (table_kinds c table)
kinds_are c n table one le =
    let few = take_few n (all_kinds c) in
    let count = kinds_count c 1 c.tables in
    let same : 1 + (table - 1) ≡ table = omega (arith, one) in
    get_take n (table - 1) (all_kinds c) (omega (arith, one, le, few.0))
    ∙ kinds_from_are c 1 c.tables (table - 1) (omega (arith, one, le, few.1, count)) ∙ ap (λ (m : ℕ). Some (table_kinds c m)) same

pub has_kinds : (c : Catalog) (n : ℕ) (f : Frozen) → f.kinds ≡ take n (all_kinds c) → HasKindsOf c f
has_kinds c n f is =
    let few = (take_few n (all_kinds c)).1 in
    let count = kinds_count c 1 c.tables in
    let all : length (take n (all_kinds c)) ≤ length c.tables = omega (arith, few, count) in
    record {
      few = subst (λ (ks : List (List Kind)). length ks ≤ length c.tables) (sym is) all;
      kinds = λ table one le. ap (λ (ks : List (List Kind)). slice_get ks (table - 1)) is ∙ kinds_are c n table one (subst (λ (ks : List (List Kind)). table ≤ length ks) is le);
    }

pub kinds_few : (c : Catalog) (n : ℕ) (kinds : List (List Kind)) → kinds ≡ take n (all_kinds c) → length kinds ≤ n
kinds_few c n kinds is = subst (λ (ks : List (List Kind)). length ks ≤ n) (sym is) (take_few n (all_kinds c)).0

-- all tables
pub take_all_kinds : (c : Catalog) → all_kinds c ≡ take (length c.tables) (all_kinds c)
take_all_kinds c = sym (whole (length c.tables) (all_kinds c) (kinds_count c 1 c.tables))
  where
    whole : (n : ℕ) (xs : List (List Kind)) → length xs ≡ n → take n xs ≡ xs
    whole zero [] is = refl
    whole zero (x ∷ xs) is = absurd (omega (arith, is))
    whole (suc n) [] is = refl
    whole (suc n) (x ∷ xs) is = ap (λ (rest : List (List Kind)). x ∷ rest) (whole n xs (omega (arith, is)))

-- ---- kinds that files can have

fixed : (k : Kind) → is_column_kind k ≡ true → IsTrue (is_fixed k)
unfolding kind_code
fixed Truth is = refl
fixed I8 is = refl
fixed I16 is = refl
fixed I32 is = refl
fixed I64 is = refl
fixed U8 is = refl
fixed U16 is = refl
fixed U32 is = refl
fixed U64 is = refl
fixed Time is = refl
fixed Wide is = absurd (cc)
fixed (Text n) is = absurd (cc)

all_fixed : (columns : List Column) → list_all (λ (c : Column). is_column_kind c.kind) columns ≡ true → AllByRecursion (λ (kind : Kind). IsTrue (is_fixed kind)) (map (λ (k : Column). k.kind) columns)
all_fixed [] is = tt
all_fixed (c ∷ columns) is =
    let p = and_parts (is_column_kind c.kind) (list_all (λ (c : Column). is_column_kind c.kind) columns) is in
    (fixed c.kind p.0, all_fixed columns p.1)

behind_first : (columns : List Column) → list_all (λ (c : Column). is_column_kind c.kind) columns ≡ true → list_all (λ (c : Column). is_column_kind c.kind) (drop 1 columns) ≡ true
behind_first [] is = is
behind_first (c ∷ columns) is = (and_parts (is_column_kind c.kind) (list_all (λ (c : Column). is_column_kind c.kind) columns) is).1

behind_few : (columns : List Column) → length (map (λ (k : Column). k.kind) (drop 1 columns)) ≤ length columns
behind_few [] = omega arith
behind_few (c ∷ columns) = let all = count columns in omega (arith, all)
  where
    count : (cs : List Column) → length (map (λ (k : Column). k.kind) cs) ≡ length cs
    count [] = refl
    count (x ∷ xs) = ap suc (count xs)

file_kinds : (c : Catalog) → IsValid c → (table : ℕ) → 1 ≤ table → table ≤ length c.tables → AreFileKinds (table_kinds c table)
file_kinds c valid table one le =
    let schema = schema_at c valid table one le in
    let few = schema.few_columns in
    let less = behind_few (table_schema (Some table) c).columns in
    record {
      few = omega (arith, few, less);
      fixed = all_fixed (value_columns table c) (behind_first (table_schema (Some table) c).columns schema.column_kinds);
    }

-- ---- puts and cuts

cells_of : (columns : List Column) (cells : List (Option Value)) → AllZip (λ (k : Column) (v : Option Value). is_named_of k.kind v ≡ true) columns cells → AllZip IsCellOf (map (λ (k : Column). k.kind) columns) cells
cells_of [] [] h = tt
cells_of [] (v ∷ cells) h = absurd h
cells_of (k ∷ columns) [] h = absurd h
cells_of (k ∷ columns) (None ∷ cells) h = (tt, cells_of columns cells h.1)
cells_of (k ∷ columns) (Some value.Null ∷ cells) h = (tt, cells_of columns cells h.1)
cells_of (k ∷ columns) (Some (value.Num n) ∷ cells) h = (h.0, cells_of columns cells h.1)

module _ (c : Catalog) (valid : IsValid c) (n : ℕ) where
  within : (table : ℕ) → table ≤ n → table ≤ length c.tables → table ≤ length (take n (all_kinds c))
  within table le there = let count = kinds_count c 1 c.tables in take_has n table (all_kinds c) le (omega (arith, there, count))

  has : (table : ℕ) (P : List Kind → Type 0) → 1 ≤ table → table ≤ length (take n (all_kinds c)) → P (table_kinds c table) → MatchOption (slice_get (take n (all_kinds c)) (table - 1)) ⊥ P
  has table P one le p = subst (λ (o : Option (List Kind)). MatchOption o ⊥ P) (sym (kinds_are c n table one le)) p

  put_of : (e : Key × Partial) → FitsPut c e → e.0.table ≤ n → IsPutOf (take n (all_kinds c)) e
  put_of e fits le =
      let key = fits.put.key in (
        key.from_one,
        has e.0.table (λ own. AreFileKinds own × IsRowOf own (e.0.ts, e.1)) key.from_one (within e.0.table le key.there)
            (file_kinds c valid e.0.table key.from_one key.there, record { in_time = key.time; cells = cells_of (value_columns e.0.table c) e.1.cells fits.put.cells }),
      )

  cut_of : (e : Key × ℕ) → FitsCut c e → e.0.table ≤ n → IsCutOf (take n (all_kinds c)) e
  cut_of e fits le = (
    fits.from_one,
    has e.0.table AreFileKinds fits.from_one (within e.0.table le fits.there) (file_kinds c valid e.0.table fits.from_one fits.there),
  )

  puts_of : (es : List (Key × Partial)) → All (FitsPut c) es → All (λ (e : Key × Partial). e.0.table ≤ n) es → AllByRecursion (IsPutOf (take n (all_kinds c))) es
  puts_of [] fits le = tt
  puts_of (e ∷ es) fits le =
      (put_of e (All-head (FitsPut c) e es fits) (All-head (λ (e : Key × Partial). e.0.table ≤ n) e es le), puts_of es (All-tail (FitsPut c) e es fits) (All-tail (λ (e : Key × Partial). e.0.table ≤ n) e es le))

  cuts_of : (es : List (Key × ℕ)) → All (FitsCut c) es → All (λ (e : Key × ℕ). e.0.table ≤ n) es → AllByRecursion (IsCutOf (take n (all_kinds c))) es
  cuts_of [] fits le = tt
  cuts_of (e ∷ es) fits le =
      (cut_of e (All-head (FitsCut c) e es fits) (All-head (λ (e : Key × ℕ). e.0.table ≤ n) e es le), cuts_of es (All-tail (FitsCut c) e es fits) (All-tail (λ (e : Key × ℕ). e.0.table ≤ n) e es le))

-- ---- day ranges

either_true : (a b : Bool) → (a || b) ≡ true → (a ≡ true) ⊎ (b ≡ true)
either_true true b h = inl refl
either_true false b h = inr h

in_last : (range ts : ℕ) → is_in_day range ts ≡ true → ts ≤ LAST_TIMESTAMP → range ≤ LAST_DAY_RANGE
in_last range ts h last =
    let begins = leb-true (day_start range) ts (and_parts (nat_le (day_start range) ts) (nat_le ts (day_end range)) h).0 in
    omega (arith, begins, last)

put_in_last : (c : Catalog) (range : ℕ) (es : List (Key × Partial)) → AllByRecursion (FitsPut c) es → list_any (λ (e : Key × Partial). is_in_day range e.0.ts) es ≡ true → range ≤ LAST_DAY_RANGE
put_in_last c range [] fits h = absurd cc
put_in_last c range (e ∷ es) fits h = elim (either_true (is_in_day range e.0.ts) (list_any (λ (e : Key × Partial). is_in_day range e.0.ts) es) h) [
  | inl here ↦ in_last range e.0.ts here fits.0.put.key.time
  | inr later ↦ put_in_last c range es fits.1 later
]

set_in_last : (range : ℕ) (ss : List SetFiles) → AllByRecursion (λ (s : SetFiles). s.range ≤ LAST_DAY_RANGE) ss → list_any (λ (s : SetFiles). s.range == range) ss ≡ true → range ≤ LAST_DAY_RANGE
set_in_last range [] fits h = absurd cc
set_in_last range (s ∷ ss) fits h = elim (either_true (s.range == range) (list_any (λ (s : SetFiles). s.range == range) ss) h) [
  | inl here ↦ subst (λ (n : ℕ). n ≤ LAST_DAY_RANGE) (eqb-true s.range range here) fits.0
  | inr later ↦ set_in_last range ss fits.1 later
]

gets_in_last : (c : Catalog) (m : Contents) (sets : List SetFiles) (edge range : ℕ) → FitsMemtable c m → RangesFit sets → GetsFile m sets edge range → range ≤ LAST_DAY_RANGE
gets_in_last c m sets edge range fits ranges gets = elim gets.1 [
  | inl put ↦ put_in_last c range m.puts (recursion_from_All (FitsPut c) m.puts fits.puts) put
  | inr cut ↦ set_in_last range sets (recursion_from_All (λ (s : SetFiles). s.range ≤ LAST_DAY_RANGE) sets ranges) cut.0
]

each_of : (P : ℕ → Type 0) (xs : List ℕ) → ((x : ℕ) → Contains xs x → P x) → AllByRecursion P xs
each_of P [] h = tt
each_of P (x ∷ xs) h = (h x (0, omega arith, refl), each_of P xs (λ y at. h y (suc at.0, omega (arith, at.1), at.2)))

pub times_fit : (c : Catalog) (m : Contents) → IsValid c → FitsMemtable c m → TimesFit m
times_fit c m valid fits = All-weaker (FitsPut c) IsTimely (λ e put. timely e put) m.puts fits.puts
  where
    timely : (e : Key × Partial) → FitsPut c e → IsTimely e
    timely e put = let there = put.put.key.there in let count = valid.count in (put.put.key.time, omega (arith, there, count))

-- ---- what is written

pub can_be_written : (c : Catalog) (m : Contents) (sets : List SetFiles) (edge n : ℕ) (f : Frozen) → IsValid c → FitsMemtable c m → RangesFit sets → All (λ (e : Key × Partial). e.0.table ≤ n) m.puts → All (λ (e : Key × ℕ). e.0.table ≤ n) m.cuts
    → f.memtable ≡ m → f.kinds ≡ take n (all_kinds c) → AreRangesOf m sets edge f.ranges → IsSound f
can_be_written c m sets edge n f valid fits ranges puts cuts memtable kinds are = record {
  rise = are.rise;
  last = each_of (λ (range : ℕ). range ≤ LAST_DAY_RANGE) f.ranges (λ range at. gets_in_last c m sets edge range fits ranges ((are.each range).0 at));
  puts = subst (λ (x : Contents). AllByRecursion (IsPutOf f.kinds) x.puts) (sym memtable) (subst (λ (ks : List (List Kind)). AllByRecursion (IsPutOf ks) m.puts) (sym kinds) (puts_of c valid n m.puts fits.puts puts));
  cuts = subst (λ (x : Contents). AllByRecursion (IsCutOf f.kinds) x.cuts) (sym memtable) (subst (λ (ks : List (List Kind)). AllByRecursion (IsCutOf ks) m.cuts) (sym kinds) (cuts_of c valid n m.cuts fits.cuts cuts));
}

pub has_births : (c : Catalog) (m : Contents) (f : Frozen) → FitsMemtable c m → f.memtable ≡ m → HasBirths f
has_births c m f fits memtable =
    subst (λ (x : Contents). AllByRecursion (λ (e : Key × Partial). e.1.birth.born < 2 ^ 64) x.puts) (sym memtable)
    (recursion_from_All (λ (e : Key × Partial). e.1.birth.born < 2 ^ 64) m.puts (All-weaker (FitsPut c) (λ (e : Key × Partial). e.1.birth.born < 2 ^ 64) (λ e put. put.born) m.puts fits.puts))

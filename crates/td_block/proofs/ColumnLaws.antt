-- Columns have one spelling, and hold cells of their kind.
use Rattle.std.proofs.Common.{◌≡◌, ℕ, zero, suc, ◌+◌, ◌-◌, ◌*◌, ◌/◌, ◌%◌, ◌^◌, ◌<◌, ◌≤◌, min, Bool, true, false, eqb, ltb, ℤ, pos, List, [], ◌∷◌, ◌++◌, map, length, get_or, take, Option, Some, None, inl, inr, refl, sym, ap, subst, ◌∙◌, arith}
use Rattle.std.specs.Prelude.{◌&&◌, ◌||◌, bit_and}
use Rattle.std.specs.List.{flat_map}
use Rattle.std.specs.Ordering.{int_eq}
use Rattle.std.specs.Int.{w8, bit_at}
use Rattle.std.proofs.lemmas.Bool.{cases_lt, and_parts, and_from, eqb-true, eq-eqb, ltb-true, lt-ltb}
use Rattle.std.proofs.lemmas.Bool.Decides.{Decides-int_eq}
use Rattle.std.proofs.lemmas.List.{length-append, length-map, length-take-le, get_or-map, get_or_past}
use Rattle.std.proofs.lemmas.Nat.Bits.{bit_at-zero, bit_at-lt, bit_at_and}
use Rattle.td_cols.specs.declared.kinds.Kind.{Kind}
use Rattle.td_cols.specs.declared.kinds.Kind.TheVariants.{Bool as Truth, I8, I16, I32, I64, U8, U16, U32, U64, Time, Wide, Text}
use Rattle.td_cols.specs.Kinds.{kind_code, kind_width, kind_least, kind_most, is_in_range}
use Rattle.td_cols.specs.Spelling.{AreBytes, spelling}
use Rattle.td_cols.proofs.OneSpelling.{kind_spelling}
use Rattle.td_layer.specs.declared.values.Value.{Value}
use Rattle.td_layer.specs.declared.values.Value.TheVariants as value
use Rattle.td_codec.specs.Fields.{SpellsOnce, number, kind_number, checked, followed, spelled_part}
use Rattle.td_codec.specs.Lists.{all_fit}
use Rattle.td_codec.proofs.FieldLaws.{wide8, number_spells, kind_number_spells, checked_spells, followed_spells, made_spells}
use Rattle.td_codec.proofs.ValueLaws.{some_is}
use Rattle.td_block.specs.Bits.{bitmap_length, is_set, bitmap}
use Rattle.td_block.specs.Columns.{is_fixed, code, named_bytes, valued_bytes, named, valued, is_named, is_valued, lane, cell_from, lane_from, cell_of_bits, cell_items, cells, column_parts, parts_of_column, column}
use Rattle.td_block.specs.Rows.{IsCellOf}
use Rattle.td_block.specs.Headers.{column_length}
use Rattle.td_block.proofs.Many.{so_many_spells, respelled, fit_at, all_fit_from}
use Rattle.td_block.proofs.Bitmaps.{length-bitmap, bitmap-small, byte-below, bitmap-is_set, is_bitmap, spare_bits, bits_within, bitmaps_within}

-- ---- the parts of a column have one spelling

pub code_spells : (kind : Kind) → SpellsOnce (code kind)
code_spells kind = checked_spells (number w8) (λ c. eqb c (kind_code kind) && is_fixed kind) (number_spells w8 wide8)

named_spells : (rows : ℕ) → SpellsOnce (named rows)
named_spells rows = so_many_spells (bitmap_length rows) (named_bytes rows) (λ before. checked_spells (number w8) (λ byte. ltb byte (2 ^ min 8 (rows - 8 * length before))) (number_spells w8 wide8))

valued_spells : (rows : ℕ) (names : List ℕ) → SpellsOnce (valued rows names)
valued_spells rows names = so_many_spells (bitmap_length rows) (valued_bytes names) (λ before. checked_spells (number w8) (λ byte. eqb (bit_and byte (get_or names (length before) 0)) byte) (number_spells w8 wide8))

-- a lane passes where the cell has a value or the lane is 0
abbrev lane_passes : Bool → ℤ → Bool
lane_passes has_value n = has_value || int_eq n (pos 0)

lane_back : (range name has_value : Bool) (n : ℤ) → (range && lane_passes has_value n) ≡ true → lane_from name has_value (cell_from name has_value n) ≡ Some n
lane_back range name true n fits = refl
lane_back range true false n fits = ap (λ (m : ℤ). Some m) (sym ((Decides-int_eq n (pos 0)).0 (and_parts range (int_eq n (pos 0)) fits).1))
lane_back range false false n fits = ap (λ (m : ℤ). Some m) (sym ((Decides-int_eq n (pos 0)).0 (and_parts range (int_eq n (pos 0)) fits).1))

lane_only : (name has_value : Bool) (n : ℤ) (cell : Option Value) → lane_from name has_value cell ≡ Some n → cell_from name has_value n ≡ cell
lane_only true true n None e = absurd cc
lane_only true false n None e = absurd cc
lane_only false true n None e = absurd cc
lane_only false false n None e = refl
lane_only true true n (Some value.Null) e = absurd cc
lane_only true false n (Some value.Null) e = refl
lane_only false true n (Some value.Null) e = absurd cc
lane_only false false n (Some value.Null) e = absurd cc
lane_only name true n (Some (value.Num m)) e = ap (λ (k : ℤ). Some (value.Num k)) (some_is n m (sym e))
lane_only name false n (Some (value.Num m)) e = absurd cc

-- what a cell has that fits behind two bits
record FitsBits (kind : Kind) (name has_value : Bool) (cell : Option Value) : Type 0 where
  names : is_named cell ≡ (name || has_value)
  values : is_valued cell ≡ has_value
  lane_is : lane_from name has_value cell ≡ Some (lane cell)
  in_range : is_in_range kind (lane cell) ≡ true

abbrev fits_bits : Kind → Bool → Bool → Option Value → Bool
fits_bits kind name has_value cell = (cell_of_bits kind name has_value).fits cell

fitting : (kind : Kind) (name has_value : Bool) (cell : Option Value) → fits_bits kind name has_value cell ≡ true → FitsBits kind name has_value cell
fitting kind true true None e = absurd cc
fitting kind true false None e = absurd cc
fitting kind false true None e = absurd cc
fitting kind false false None e = record { names = refl; values = refl; lane_is = refl; in_range = (and_parts (is_in_range kind (pos 0)) true e).0 }
fitting kind true true (Some value.Null) e = absurd cc
fitting kind true false (Some value.Null) e = record { names = refl; values = refl; lane_is = refl; in_range = (and_parts (is_in_range kind (pos 0)) true e).0 }
fitting kind false true (Some value.Null) e = absurd cc
fitting kind false false (Some value.Null) e = absurd cc
fitting kind true true (Some (value.Num m)) e = record { names = refl; values = refl; lane_is = refl; in_range = (and_parts (is_in_range kind m) true e).0 }
fitting kind false true (Some (value.Num m)) e = record { names = refl; values = refl; lane_is = refl; in_range = (and_parts (is_in_range kind m) true e).0 }
fitting kind true false (Some (value.Num m)) e = absurd cc
fitting kind false false (Some (value.Num m)) e = absurd cc

cell_bytes_are : (kind : Kind) (name has_value : Bool) (cell : Option Value) → fits_bits kind name has_value cell ≡ true → (cell_of_bits kind name has_value).spelled cell ≡ spelling kind (lane cell)
cell_bytes_are kind name has_value cell e =
    let f = fitting kind name has_value cell e in
    ap (λ (o : Option ℤ). spelled_part (checked (kind_number kind) (lane_passes has_value)) o) f.lane_is

cell_spells : (kind : Kind) (name has_value : Bool) → SpellsOnce (record { read = (cell_of_bits kind name has_value).read; spelled = λ cell. spelling kind (lane cell); fits = (cell_of_bits kind name has_value).fits })
cell_spells kind name has_value =
    respelled (cell_of_bits kind name has_value) (λ cell. spelling kind (lane cell)) (cell_bytes_are kind name has_value)
    (made_spells (checked (kind_number kind) (lane_passes has_value)) (cell_from name has_value) (lane_from name has_value)
    (λ n fits. lane_back (is_in_range kind n) name has_value n fits) (λ n cell e. lane_only name has_value n cell e)
    (checked_spells (kind_number kind) (lane_passes has_value) (kind_number_spells kind (kind_spelling kind))))

cells_spell : (kind : Kind) (rows : ℕ) (names values : List ℕ) → SpellsOnce (cells kind rows names values)
cells_spell kind rows names values = so_many_spells rows (cell_items kind names values) (λ before. cell_spells kind (is_set names (length before)) (is_set values (length before)))

-- ---- the bitmaps of a column are those of its cells

-- what fits of the parts of a column
record PartsFit (rows : ℕ) (kind : Kind) (names values : List ℕ) (all : List (Option Value)) : Type 0 where
  wide : length all ≡ rows
  names_long : length names ≡ bitmap_length rows
  values_long : length values ≡ bitmap_length rows
  names_fit : all_fit (named_bytes rows) [] names ≡ true
  values_fit : all_fit (valued_bytes names) [] values ≡ true
  cells_fit : all_fit (cell_items kind names values) [] all ≡ true

parts_fit : (rows : ℕ) (kind : Kind) (c : ℕ) (names values : List ℕ) (all : List (Option Value)) → (column_parts rows kind).fits (c, (names, (values, all))) ≡ true → (c ≡ kind_code kind) × (is_fixed kind ≡ true) × PartsFit rows kind names values all
parts_fit rows kind c names values all e =
    let a = and_parts ((code kind).fits c) ((named rows).fits names && ((valued rows names).fits values && (cells kind rows names values).fits all)) e in
    let b = and_parts ((named rows).fits names) ((valued rows names).fits values && (cells kind rows names values).fits all) a.1 in
    let d = and_parts ((valued rows names).fits values) ((cells kind rows names values).fits all) b.1 in
    let own = and_parts (ltb c (2 ^ 8)) (eqb c (kind_code kind) && is_fixed kind) a.0 in
    let own2 = and_parts (eqb c (kind_code kind)) (is_fixed kind) own.1 in
    let n = and_parts (eqb (length names) (bitmap_length rows)) (all_fit (named_bytes rows) [] names) b.0 in
    let v = and_parts (eqb (length values) (bitmap_length rows)) (all_fit (valued_bytes names) [] values) d.0 in
    let w = and_parts (eqb (length all) rows) (all_fit (cell_items kind names values) [] all) d.1 in (
      eqb-true c (kind_code kind) own2.0,
      own2.1,
      record {
        wide = eqb-true (length all) rows w.0;
        names_long = eqb-true (length names) (bitmap_length rows) n.0;
        values_long = eqb-true (length values) (bitmap_length rows) v.0;
        names_fit = n.1;
        values_fit = v.1;
        cells_fit = w.1;
      },
    )

name_byte : (rows : ℕ) (names : List ℕ) (k : ℕ) → all_fit (named_bytes rows) [] names ≡ true → k < length names → get_or names k 0 < 2 ^ min 8 (rows - 8 * k)
name_byte rows names k fits lt =
    let f = fit_at (named_bytes rows) names k 0 fits lt in
    let g = and_parts (ltb (get_or names k 0) (2 ^ 8)) (ltb (get_or names k 0) (2 ^ min 8 (rows - 8 * length (take k names)))) f in
    subst (λ (j : ℕ). get_or names k 0 < 2 ^ min 8 (rows - 8 * j)) (length-take-le k names (omega (arith, lt))) (ltb-true _ _ g.1)

value_byte : (names values : List ℕ) (k : ℕ) → all_fit (valued_bytes names) [] values ≡ true → k < length values → (get_or values k 0 < 256) × (bit_and (get_or values k 0) (get_or names k 0) ≡ get_or values k 0)
value_byte names values k fits lt =
    let v : ℕ = get_or values k 0 in
    let f = fit_at (valued_bytes names) values k 0 fits lt in
    let g = and_parts (ltb v (2 ^ 8)) (eqb (bit_and v (get_or names (length (take k values)) 0)) v) f in
    let within : bit_and v (get_or names k 0) ≡ v = subst (λ (j : ℕ). bit_and v (get_or names j 0) ≡ v) (length-take-le k values (omega (arith, lt))) (eqb-true _ _ g.1) in
    (ltb-true v (2 ^ 8) g.0, within)

cell_fits : (kind : Kind) (names values : List ℕ) (all : List (Option Value)) (r : ℕ) → all_fit (cell_items kind names values) [] all ≡ true → r < length all → FitsBits kind (is_set names r) (is_set values r) (get_or all r None)
cell_fits kind names values all r fits lt =
    let f = fit_at (cell_items kind names values) all r None fits lt in
    let at : length (take r all) ≡ r = length-take-le r all (omega (arith, lt)) in
    fitting kind (is_set names r) (is_set values r) (get_or all r None) (subst (λ (j : ℕ). fits_bits kind (is_set names j) (is_set values j) (get_or all r None) ≡ true) at f)

-- a byte of a bitmap, or 0 beyond its end
names_are_bytes : (rows : ℕ) (names : List ℕ) → all_fit (named_bytes rows) [] names ≡ true → AreBytes names
names_are_bytes rows names fits k =
    elim (cases_lt k (length names)) [
      | inl lt ↦ byte-below (rows - 8 * k) (get_or names k 0) (name_byte rows names k fits lt)
      | inr past ↦ subst (λ (n : ℕ). n < 256) (sym (get_or_past names k 0 past)) (omega arith)
    ]

values_are_bytes : (names values : List ℕ) → all_fit (valued_bytes names) [] values ≡ true → AreBytes values
values_are_bytes names values fits k =
    elim (cases_lt k (length values)) [
      | inl lt ↦ (value_byte names values k fits lt).0
      | inr past ↦ subst (λ (n : ℕ). n < 256) (sym (get_or_past values k 0 past)) (omega arith)
    ]

name_spare : (rows : ℕ) (names : List ℕ) (k i : ℕ) → all_fit (named_bytes rows) [] names ≡ true → i < 8 → rows ≤ 8 * k + i → bit_at (get_or names k 0) i ≡ 0
name_spare rows names k i fits small beyond =
    elim (cases_lt k (length names)) [
      | inl lt ↦ spare_bits rows k i (get_or names k 0) (name_byte rows names k fits lt) beyond small
      | inr past ↦ ap (λ (n : ℕ). bit_at n i) (get_or_past names k 0 past) ∙ bit_at-zero i
    ]

value_spare : (rows : ℕ) (names values : List ℕ) (k i : ℕ) → all_fit (named_bytes rows) [] names ≡ true → all_fit (valued_bytes names) [] values ≡ true → i < 8 → rows ≤ 8 * k + i → bit_at (get_or values k 0) i ≡ 0
value_spare rows names values k i names_fit fits small beyond =
    elim (cases_lt k (length values)) [
      | inl lt ↦ bits_within (get_or values k 0) (get_or names k 0) i (value_byte names values k fits lt).1 (name_spare rows names k i names_fit small beyond)
      | inr past ↦ ap (λ (n : ℕ). bit_at n i) (get_or_past values k 0 past) ∙ bit_at-zero i
    ]

both_bits : (a b : ℕ) → min a b ≡ a → a ≡ 1 → b < 2 → b ≡ 1
both_bits a b less one small = omega (arith, less, one, small)

-- a value stands only where it is named
valued_is_named : (names values : List ℕ) (r : ℕ) → all_fit (valued_bytes names) [] values ≡ true → is_set values r ≡ true → is_set names r ≡ true
valued_is_named names values r fits set =
    let k : ℕ = r / 8 in
    let i : ℕ = r % 8 in
    let one : bit_at (get_or values k 0) i ≡ 1 = eqb-true (bit_at (get_or values k 0) i) 1 set in
    elim (cases_lt k (length values)) [
      | inl lt ↦
          let within = (value_byte names values k fits lt).1 in
          let less : min (bit_at (get_or values k 0) i) (bit_at (get_or names k 0) i) ≡ bit_at (get_or values k 0) i = sym (bit_at_and (get_or values k 0) (get_or names k 0) i) ∙ ap (λ (n : ℕ). bit_at n i) within in
          eq-eqb (bit_at (get_or names k 0) i) 1 (both_bits (bit_at (get_or values k 0) i) (bit_at (get_or names k 0) i) less one (bit_at-lt (get_or names k 0) i))
      | inr past ↦
          let none : bit_at (get_or values k 0) i ≡ 0 = ap (λ (n : ℕ). bit_at n i) (get_or_past values k 0 past) ∙ bit_at-zero i in
          absurd (omega (arith, one, none))
    ]

either_is : (name has_value : Bool) → (has_value ≡ true → name ≡ true) → (name || has_value) ≡ name
either_is true has_value within = refl
either_is false true within = absurd (let e = within refl in cc)
either_is false false within = refl

names_are : (rows : ℕ) (kind : Kind) (names values : List ℕ) (all : List (Option Value)) → PartsFit rows kind names values all → names ≡ bitmap (map is_named all)
names_are rows kind names values all p =
    is_bitmap names (map is_named all) rows (length-map all is_named ∙ p.wide) p.names_long (names_are_bytes rows names p.names_fit)
    (λ k i small beyond. name_spare rows names k i p.names_fit small beyond)
    (λ r lt.
    let within : r < length all = omega (arith, lt, p.wide) in
    get_or-map is_named all r None false within ∙ (cell_fits kind names values all r p.cells_fit within).names
    ∙ either_is (is_set names r) (is_set values r) (valued_is_named names values r p.values_fit))

values_are : (rows : ℕ) (kind : Kind) (names values : List ℕ) (all : List (Option Value)) → PartsFit rows kind names values all → values ≡ bitmap (map is_valued all)
values_are rows kind names values all p =
    is_bitmap values (map is_valued all) rows (length-map all is_valued ∙ p.wide) p.values_long (values_are_bytes names values p.values_fit)
    (λ k i small beyond. value_spare rows names values k i p.names_fit p.values_fit small beyond)
    (λ r lt.
    let within : r < length all = omega (arith, lt, p.wide) in
    get_or-map is_valued all r None false within ∙ (cell_fits kind names values all r p.cells_fit within).values)

-- ---- columns have one spelling

abbrev ColumnParts : Type 0
ColumnParts = ℕ × (List ℕ × (List ℕ × List (Option Value)))

column_back : (rows : ℕ) (kind : Kind) (a : ColumnParts) → (column_parts rows kind).fits a ≡ true → Some (parts_of_column kind a.1.1.1) ≡ Some a
column_back rows kind a fits =
    let p = parts_fit rows kind a.0 a.1.0 a.1.1.0 a.1.1.1 fits in
    let names = names_are rows kind a.1.0 a.1.1.0 a.1.1.1 p.2 in
    let values = values_are rows kind a.1.0 a.1.1.0 a.1.1.1 p.2 in
    let all : List (Option Value) = a.1.1.1 in
    sym (ap (λ (c : ℕ). Some (c, (a.1.0, (a.1.1.0, all)))) p.0
    ∙ ap (λ (bytes : List ℕ). Some (kind_code kind, (bytes, (a.1.1.0, all)))) names
    ∙ ap (λ (bytes : List ℕ). Some (kind_code kind, (bitmap (map is_named all), (bytes, all)))) values)

pub column_spells : (rows : ℕ) (kind : Kind) → SpellsOnce (column rows kind)
unfolding column
column_spells rows kind =
    made_spells (column_parts rows kind) (λ parts. parts.1.1.1) (λ all. Some (parts_of_column kind all)) (column_back rows kind)
    (λ a all e. ap (λ (parts : ColumnParts). parts.1.1.1) (sym (some_is (parts_of_column kind all) a e)))
    (followed_spells (code kind) (λ _. followed (named rows) (λ names. followed (valued rows names) (λ values. cells kind rows names values))) (code_spells kind) (λ _.
    followed_spells (named rows) (λ names. followed (valued rows names) (λ values. cells kind rows names values)) (named_spells rows) (λ names.
    followed_spells (valued rows names) (λ values. cells kind rows names values) (valued_spells rows names) (λ values. cells_spell kind rows names values))))

-- ---- which cells a column holds

is_cell : (kind : Kind) (name has_value : Bool) (cell : Option Value) → FitsBits kind name has_value cell → IsCellOf kind cell
is_cell kind name has_value None f = tt
is_cell kind name has_value (Some value.Null) f = tt
is_cell kind name has_value (Some (value.Num n)) f = f.in_range

-- what fits as a column
pub record FitsColumn (rows : ℕ) (kind : Kind) (all : List (Option Value)) : Type 0 where
  pub fixed : is_fixed kind ≡ true
  pub wide : length all ≡ rows
  pub each : (r : ℕ) → r < rows → IsCellOf kind (get_or all r None)

pub column_holds : (rows : ℕ) (kind : Kind) (all : List (Option Value)) → (column rows kind).fits all ≡ true → FitsColumn rows kind all
unfolding column
column_holds rows kind all fits =
    let p = parts_fit rows kind (kind_code kind) (bitmap (map is_named all)) (bitmap (map is_valued all)) all fits in
    record {
      fixed = p.1;
      wide = p.2.wide;
      each = λ r lt.
          let f = cell_fits kind (bitmap (map is_named all)) (bitmap (map is_valued all)) all r p.2.cells_fit (omega (arith, lt, p.2.wide)) in
          is_cell kind (is_set (bitmap (map is_named all)) r) (is_set (bitmap (map is_valued all)) r) (get_or all r None) f;
    }

zero_in_range : (kind : Kind) → is_fixed kind ≡ true → is_in_range kind (pos 0) ≡ true
unfolding kind_code is_in_range kind_least kind_most
zero_in_range Truth fixed = refl
zero_in_range I8 fixed = refl
zero_in_range I16 fixed = refl
zero_in_range I32 fixed = refl
zero_in_range I64 fixed = refl
zero_in_range U8 fixed = refl
zero_in_range U16 fixed = refl
zero_in_range U32 fixed = refl
zero_in_range U64 fixed = refl
zero_in_range Time fixed = refl
zero_in_range Wide fixed = absurd cc
zero_in_range (Text n) fixed = absurd cc

-- the numbers of such a kind take bytes
pub fixed_width : (kind : Kind) → is_fixed kind ≡ true → 0 < kind_width kind
unfolding kind_code kind_width
fixed_width Truth fixed = omega arith
fixed_width I8 fixed = omega arith
fixed_width I16 fixed = omega arith
fixed_width I32 fixed = omega arith
fixed_width I64 fixed = omega arith
fixed_width U8 fixed = omega arith
fixed_width U16 fixed = omega arith
fixed_width U32 fixed = omega arith
fixed_width U64 fixed = omega arith
fixed_width Time fixed = omega arith
fixed_width Wide fixed = absurd cc
fixed_width (Text n) fixed = absurd cc

cell_fits_bits : (kind : Kind) (cell : Option Value) → is_fixed kind ≡ true → IsCellOf kind cell → fits_bits kind (is_named cell) (is_valued cell) cell ≡ true
cell_fits_bits kind None fixed is = and_from (is_in_range kind (pos 0)) true (zero_in_range kind fixed) refl
cell_fits_bits kind (Some value.Null) fixed is = and_from (is_in_range kind (pos 0)) true (zero_in_range kind fixed) refl
cell_fits_bits kind (Some (value.Num n)) fixed is = and_from (is_in_range kind n) true is refl

named_if_valued : (cell : Option Value) → is_valued cell ≡ true → is_named cell ≡ true
named_if_valued None e = absurd cc
named_if_valued (Some v) e = refl

-- the number in the lane of a cell is one of the kind
pub lane_in_range : (kind : Kind) (cell : Option Value) → is_fixed kind ≡ true → IsCellOf kind cell → is_in_range kind (lane cell) ≡ true
lane_in_range kind None fixed is = zero_in_range kind fixed
lane_in_range kind (Some value.Null) fixed is = zero_in_range kind fixed
lane_in_range kind (Some (value.Num n)) fixed is = is

bitmap_fits : (rows : ℕ) (bits : List Bool) → length bits ≡ rows → (named rows).fits (bitmap bits) ≡ true
bitmap_fits rows bits wide =
    let bytes : List ℕ = bitmap bits in
    let long : length bytes ≡ bitmap_length rows = length-bitmap bits ∙ ap bitmap_length wide in
    and_from (eqb (length bytes) (bitmap_length rows)) (all_fit (named_bytes rows) [] bytes) (eq-eqb _ _ long)
    (all_fit_from (named_bytes rows) bytes 0 (λ k lt.
    let there : k < bitmap_length (length bits) = omega (arith, lt, length-bitmap bits) in
    let small : get_or bytes k 0 < 2 ^ min 8 (rows - 8 * k) = subst (λ (n : ℕ). get_or bytes k 0 < 2 ^ min 8 (n - 8 * k)) wide (bitmap-small bits k there) in
    let at : k ≡ length (take k bytes) = sym (length-take-le k bytes (omega (arith, lt))) in
    let byte : get_or bytes k 0 < 2 ^ 8 = byte-below (rows - 8 * k) (get_or bytes k 0) small in
    and_from (ltb (get_or bytes k 0) (2 ^ 8)) (ltb (get_or bytes k 0) (2 ^ min 8 (rows - 8 * length (take k bytes)))) (lt-ltb _ _ byte)
    (lt-ltb _ _ (subst (λ (n : ℕ). get_or bytes k 0 < 2 ^ min 8 (rows - 8 * n)) at small))))

bits_among : (all : List (Option Value)) (r : ℕ) → get_or (map is_valued all) r false ≡ true → get_or (map is_named all) r false ≡ true
bits_among [] r e = absurd cc
bits_among (cell ∷ all) zero e = named_if_valued cell e
bits_among (cell ∷ all) (suc r) e = bits_among all r e

values_fit : (rows : ℕ) (all : List (Option Value)) → length all ≡ rows → (valued rows (bitmap (map is_named all))).fits (bitmap (map is_valued all)) ≡ true
values_fit rows all wide =
    let bits : List Bool = map is_valued all in
    let among : List Bool = map is_named all in
    let bytes : List ℕ = bitmap bits in
    let names : List ℕ = bitmap among in
    let bits_wide : length bits ≡ rows = length-map all is_valued ∙ wide in
    let same : length bits ≡ length among = length-map all is_valued ∙ sym (length-map all is_named) in
    let long : length bytes ≡ bitmap_length rows = length-bitmap bits ∙ ap bitmap_length bits_wide in
    and_from (eqb (length bytes) (bitmap_length rows)) (all_fit (valued_bytes names) [] bytes) (eq-eqb _ _ long)
    (all_fit_from (valued_bytes names) bytes 0 (λ k lt.
    let there : k < bitmap_length (length bits) = omega (arith, lt, length-bitmap bits) in
    let small : get_or bytes k 0 < 2 ^ 8 = byte-below (length bits - 8 * k) (get_or bytes k 0) (bitmap-small bits k there) in
    let at : k ≡ length (take k bytes) = sym (length-take-le k bytes (omega (arith, lt))) in
    let within : bit_and (get_or bytes k 0) (get_or names k 0) ≡ get_or bytes k 0 = bitmaps_within bits among k same there (bits_among all) in
    and_from (ltb (get_or bytes k 0) (2 ^ 8)) (eqb (bit_and (get_or bytes k 0) (get_or names (length (take k bytes)) 0)) (get_or bytes k 0)) (lt-ltb _ _ small)
    (eq-eqb _ _ (subst (λ (n : ℕ). bit_and (get_or bytes k 0) (get_or names n 0) ≡ get_or bytes k 0) at within))))

all_cells_fit : (rows : ℕ) (kind : Kind) (all : List (Option Value)) → FitsColumn rows kind all → (cells kind rows (bitmap (map is_named all)) (bitmap (map is_valued all))).fits all ≡ true
all_cells_fit rows kind all f =
    let names : List ℕ = bitmap (map is_named all) in
    let values : List ℕ = bitmap (map is_valued all) in
    and_from (eqb (length all) rows) (all_fit (cell_items kind names values) [] all) (eq-eqb _ _ f.wide)
    (all_fit_from (cell_items kind names values) all None (λ r lt.
    let cell : Option Value = get_or all r None in
    let at : r ≡ length (take r all) = sym (length-take-le r all (omega (arith, lt))) in
    let name : is_set names r ≡ is_named cell = bitmap-is_set (map is_named all) r (omega (arith, lt, length-map all is_named)) ∙ get_or-map is_named all r None false lt in
    let has : is_set values r ≡ is_valued cell = bitmap-is_set (map is_valued all) r (omega (arith, lt, length-map all is_valued)) ∙ get_or-map is_valued all r None false lt in
    let here : fits_bits kind (is_named cell) (is_valued cell) cell ≡ true = cell_fits_bits kind cell f.fixed (f.each r (omega (arith, lt, f.wide))) in
    let there : fits_bits kind (is_set names r) (is_set values r) cell ≡ true = ap (λ (b : Bool). fits_bits kind b (is_set values r) cell) name ∙ ap (λ (b : Bool). fits_bits kind (is_named cell) b cell) has ∙ here in
    subst (λ (n : ℕ). fits_bits kind (is_set names n) (is_set values n) cell ≡ true) at there))

code_fits : (kind : Kind) → is_fixed kind ≡ true → (code kind).fits (kind_code kind) ≡ true
code_fits kind fixed =
    let small : kind_code kind < 2 ^ 8 = (let lt : kind_code kind < 11 = ltb-true (kind_code kind) 11 fixed in omega (arith, lt)) in
    and_from (ltb (kind_code kind) (2 ^ 8)) (eqb (kind_code kind) (kind_code kind) && is_fixed kind) (lt-ltb _ _ small)
    (and_from (eqb (kind_code kind) (kind_code kind)) (is_fixed kind) (eq-eqb (kind_code kind) (kind_code kind) refl) fixed)

pub column_fits : (rows : ℕ) (kind : Kind) (all : List (Option Value)) → FitsColumn rows kind all → (column rows kind).fits all ≡ true
unfolding column
column_fits rows kind all f =
    let names : List ℕ = bitmap (map is_named all) in
    let values : List ℕ = bitmap (map is_valued all) in
    and_from ((code kind).fits (kind_code kind)) ((named rows).fits names && ((valued rows names).fits values && (cells kind rows names values).fits all)) (code_fits kind f.fixed)
    (and_from ((named rows).fits names) ((valued rows names).fits values && (cells kind rows names values).fits all) (bitmap_fits rows (map is_named all) (length-map all is_named ∙ f.wide))
    (and_from ((valued rows names).fits values) ((cells kind rows names values).fits all) (values_fit rows all f.wide) (all_cells_fit rows kind all f)))

-- ---- how long a column is

pub length_of_bytes : (bytes : List ℕ) → length (flat_map (number w8).spelled bytes) ≡ length bytes
length_of_bytes [] = refl
length_of_bytes (b ∷ bytes) =
    let one : length ((number w8).spelled b) ≡ 1 = refl in
    let others = length_of_bytes bytes in
    length-append ((number w8).spelled b) (flat_map (number w8).spelled bytes) ∙ (omega (arith, one, others))

pub length_of_lanes : (kind : Kind) (all : List (Option Value)) → length (flat_map (λ cell. spelling kind (lane cell)) all) ≡ length all * kind_width kind
length_of_lanes kind [] = omega arith
length_of_lanes kind (cell ∷ all) =
    let first : length (spelling kind (lane cell)) ≡ kind_width kind = (kind_spelling kind).as_wide (lane cell) in
    let others = length_of_lanes kind all in
    length-append (spelling kind (lane cell)) (flat_map (λ cell. spelling kind (lane cell)) all) ∙ (omega (arith, first, others))

pub length-column : (rows : ℕ) (kind : Kind) (all : List (Option Value)) → length all ≡ rows → length ((column rows kind).spelled all) ≡ column_length rows kind
unfolding column
length-column rows kind all wide =
    let names : List ℕ = bitmap (map is_named all) in
    let values : List ℕ = bitmap (map is_valued all) in
    let lanes : List ℕ = flat_map (λ cell. spelling kind (lane cell)) all in
    let name_bytes : List ℕ = flat_map (number w8).spelled names in
    let value_bytes : List ℕ = flat_map (number w8).spelled values in
    let own : List ℕ = (number w8).spelled (kind_code kind) in
    let a = length-append own (name_bytes ++ (value_bytes ++ lanes)) in
    let b = length-append name_bytes (value_bytes ++ lanes) in
    let c = length-append value_bytes lanes in
    let n : length name_bytes ≡ bitmap_length rows = length_of_bytes names ∙ length-bitmap (map is_named all) ∙ ap bitmap_length (length-map all is_named ∙ wide) in
    let v : length value_bytes ≡ bitmap_length rows = length_of_bytes values ∙ length-bitmap (map is_valued all) ∙ ap bitmap_length (length-map all is_valued ∙ wide) in
    let l : length lanes ≡ rows * kind_width kind = length_of_lanes kind all ∙ ap (λ (m : ℕ). m * kind_width kind) wide in
    let one : length own ≡ 1 = refl in
    omega (arith, a, b, c, n, v, l, one)

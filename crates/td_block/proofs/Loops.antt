-- Reading items one after the other, as a loop does, with the items before known by an equation.
use Rattle.std.proofs.Common.{◌≡◌, ℕ, ◌+◌, ◌-◌, ◌<◌, ◌≤◌, Bool, ltb, List, [], ◌∷◌, ◌++◌, length, get_or, take, drop, Ok, Err, refl, sym, ap, subst, ◌∙◌, append_assoc, arith}
use Rattle.std.specs.Int.{w8}
use Rattle.std.proofs.Math.Nat.{mod-eq_of_lt}
use Rattle.std.proofs.lemmas.Bool.{and_parts, ltb-true}
use Rattle.std.proofs.lemmas.List.{append-nil, length-drop, drop_more, take_more}
use Rattle.td_cols.specs.declared.kinds.Kind.{Kind}
use Rattle.td_cols.specs.Spelling.{AreBytes}
use Rattle.td_codec.specs.declared.fault.ReadFault.{ReadFault}
use Rattle.td_codec.specs.declared.fault.ReadFault.TheVariants as faults
use Rattle.td_codec.specs.Fields.{◌>>=◌, Read, Fails, number, checked}
use Rattle.td_codec.specs.Lists.{Items, items_read}
use Rattle.td_codec.proofs.FieldLaws.{wide8, number_spells, checked_spells, AreBytes-drop}
use Rattle.td_block.specs.Bits.{is_set}
use Rattle.td_block.specs.Columns.{cell_of_bits, cell_items, column}
use Rattle.td_block.specs.Blocks.{columns}
use Rattle.td_block.proofs.BlockLaws.{Cells}
use Rattle.td_codec.proofs.Loop.{with_front, starts_at, goes_on_at, ends_at, is_done}

abbrev Known : {A : Type 0} → List A → Type 0
Known front = Unit {0}

pub begins : {A : Type 0} (items : Items A) (new : List A) (count : ℕ) (bytes : List ℕ) → new ≡ [] → with_front new (items_read items new (count - 0) bytes) ≡ items_read items [] count bytes
begins {A} items new count bytes e = (starts_at items (λ (l : List A). Known l) new count bytes e tt).0

pub goes_on_with : {A : Type 0} (items : Items A) (front before new : List A) (count i : ℕ) (bytes : List ℕ) (n : A) (after : List ℕ) (total : Read (List A)) → before ≡ front → new ≡ front ++ n ∷ []
    → i < count → items.read before bytes ≡ Ok (n, after) → with_front front (items_read items front (count - i) bytes) ≡ total → with_front new (items_read items new (count - (i + 1)) after) ≡ total
goes_on_with {A} items front before new count i bytes n after total eb en lt read so_far = (goes_on_at items (λ (l : List A). Known l) front before new count i bytes n after total eb en lt read tt so_far).0

-- ---- cells

-- the cell that is read behind others, by its own bits
pub cell_reading : (kind : Kind) (names values : List ℕ) (front : Cells) (row : ℕ) (name has_value : Bool) (rest : List ℕ) → length front ≡ row → name ≡ is_set names row → has_value ≡ is_set values row
    → (cell_of_bits kind name has_value).read rest ≡ (cell_items kind names values).read front rest
cell_reading kind names values front row name has_value rest at en ev =
    ap (λ (b : Bool). (cell_of_bits kind b has_value).read rest) en ∙ ap (λ (b : Bool). (cell_of_bits kind (is_set names row) b).read rest) ev
    ∙ ap (λ (n : ℕ). (cell_of_bits kind (is_set names n) (is_set values n)).read rest) (sym at)

-- ---- columns

abbrev as_pair : Cells → List Cells × List ℕ → Read (Cells × List Cells)
as_pair cells b = Ok ((cells, b.0), b.1)

abbrev as_list : (Cells × List Cells) × List ℕ → Read (List Cells)
as_list x = Ok (x.0.0 ∷ x.0.1, x.1)

column_then : (front : List Cells) (cells : Cells) (r : Read (List Cells)) → with_front front ((r >>= as_pair cells) >>= as_list) ≡ with_front (front ++ cells ∷ []) r
column_then front cells (Ok y) = ap (λ (l : List Cells). Ok (l, y.1)) (sym (append_assoc front (cells ∷ []) y.0))
column_then front cells (Err left) = refl

abbrev ThenColumns : ℕ → List Kind → List Cells → Read Cells → Read (List Cells)
ThenColumns rows kinds front s = with_front front ((s >>= λ a. (columns rows kinds).read a.1 >>= as_pair a.0) >>= as_list)

columns_are : (rows : ℕ) (kind : Kind) (kinds : List Kind) (front : List Cells) (bytes : List ℕ) → with_front front ((columns rows (kind ∷ kinds)).read bytes) ≡ ThenColumns rows kinds front ((column rows kind).read bytes)
unfolding columns
columns_are rows kind kinds front bytes = refl

-- one more column of those that are left
pub columns_go_on : (rows : ℕ) (kind : Kind) (left others : List Kind) (front new : List Cells) (bytes : List ℕ) (cells : Cells) (after : List ℕ) (total : Read (List Cells)) → left ≡ kind ∷ others → new ≡ front ++ cells ∷ [] → (column rows kind).read bytes ≡ Ok (cells, after)
    → with_front front ((columns rows left).read bytes) ≡ total → with_front new ((columns rows others).read after) ≡ total
columns_go_on rows kind left others front new bytes cells after total el en e so_far =
    ap (λ (l : List Cells). with_front l ((columns rows others).read after)) en
    ∙ sym (column_then front cells ((columns rows others).read after))
    ∙ sym (ap (ThenColumns rows others front) e)
    ∙ sym (columns_are rows kind others front bytes)
    ∙ ap (λ (l : List Kind). with_front front ((columns rows l).read bytes)) (sym el) ∙ so_far

pub columns_fail : (rows : ℕ) (kind : Kind) (left others : List Kind) (front : List Cells) (bytes : List ℕ) (fault : ReadFault) (total : Read (List Cells)) → left ≡ kind ∷ others → Fails fault ((column rows kind).read bytes)
    → with_front front ((columns rows left).read bytes) ≡ total → Fails fault total
columns_fail rows kind left others front bytes faults.NoMemory total el e so_far = tt
columns_fail rows kind left others front bytes (faults.Broken f) total el e so_far =
    sym so_far ∙ ap (λ (l : List Kind). with_front front ((columns rows l).read bytes)) el ∙ columns_are rows kind others front bytes ∙ ap (ThenColumns rows others front) e

pub columns_end : (rows : ℕ) (left : List Kind) (front : List Cells) (bytes : List ℕ) (total : Read (List Cells)) → left ≡ [] → with_front front ((columns rows left).read bytes) ≡ total → total ≡ Ok (front, bytes)
unfolding columns
columns_end rows left front bytes total el so_far =
    sym so_far ∙ ap (λ (l : List Kind). with_front front ((columns rows l).read bytes)) el ∙ ap (λ (l : List Cells). Ok (l, bytes)) (append-nil front)

-- ---- bytes that are items themselves

-- what was read of the bytes of a bitmap: a front of the bytes
pub record ReadFront (items : Items ℕ) (count : ℕ) (bytes rest : List ℕ) (at : ℕ) : Type 0 where
  pub within : at ≤ length bytes
  pub rest_is : rest ≡ drop at bytes
  pub so_far : with_front (take at bytes) (items_read items (take at bytes) (count - at) rest) ≡ items_read items [] count bytes

pub front_begins : (items : Items ℕ) (count : ℕ) (bytes : List ℕ) → ReadFront items count bytes bytes 0
front_begins items count bytes = record { within = omega arith; rest_is = refl; so_far = begins items [] count bytes refl }

-- a byte that was read is the first
byte_read : (test : ℕ → Bool) (rest : List ℕ) (byte : ℕ) (after : List ℕ) → AreBytes rest → (checked (number w8) test).read rest ≡ Ok (byte, after) → rest ≡ byte ∷ after
byte_read test rest byte after are e =
    let t = (checked_spells (number w8) test (number_spells w8 wide8)).takes rest (byte, after) are e in
    let small : byte < 256 = ltb-true byte 256 (and_parts (ltb byte 256) (test byte) t.1).0 in
    t.0.parts ∙ ap (λ (b : ℕ). b ∷ after) (mod-eq_of_lt small)

first_of : (bytes rest : List ℕ) (at byte : ℕ) (after : List ℕ) → at ≤ length bytes → rest ≡ drop at bytes → rest ≡ byte ∷ after → (at < length bytes) × ((get_or bytes at 0 ≡ byte) × (after ≡ drop (at + 1) bytes))
first_of bytes rest at byte after within rest_is e =
    let lt : at < length bytes = omega (arith, length-drop at bytes, ap length rest_is, ap length e) in
    let both : byte ∷ after ≡ get_or bytes at 0 ∷ drop (at + 1) bytes = sym e ∙ rest_is ∙ drop_more bytes at 0 lt in
    (lt, (ap (λ (l : List ℕ). get_or l 0 0) (sym both), ap (λ (l : List ℕ). drop 1 l) both))

pub front_goes_on : (items : Items ℕ) (test : List ℕ → ℕ → Bool) (count : ℕ) (bytes rest before : List ℕ) (at byte : ℕ) (after : List ℕ) → AreBytes bytes → ((l : List ℕ) → items.read l ≡ (checked (number w8) (test l)).read) → before ≡ take at bytes
    → at < count → items.read before rest ≡ Ok (byte, after) → ReadFront items count bytes rest at → ReadFront items count bytes after (at + 1)
front_goes_on items test count bytes rest before at byte after are same eb lt read r =
    let rest_are : AreBytes rest = subst AreBytes (sym r.rest_is) (AreBytes-drop at bytes are) in
    let e : rest ≡ byte ∷ after = byte_read (test before) rest byte after rest_are (sym (ap (λ (f : List ℕ → Read ℕ). f rest) (same before)) ∙ read) in
    let f = first_of bytes rest at byte after r.within r.rest_is e in
    let new : take (at + 1) bytes ≡ take at bytes ++ byte ∷ [] = take_more bytes at 0 f.0 ∙ ap (λ (b : ℕ). take at bytes ++ b ∷ []) f.1.0 in
    record {
      within = omega (arith, f.0);
      rest_is = f.1.1;
      so_far = goes_on_with items (take at bytes) before (take (at + 1) bytes) count at rest byte after (items_read items [] count bytes) eb new lt read r.so_far;
    }

pub front_ends : (items : Items ℕ) (e : ReadFault) (count : ℕ) (bytes rest before : List ℕ) (at : ℕ) → before ≡ take at bytes → at < count → Fails e (items.read before rest) → ReadFront items count bytes rest at → Fails e (items_read items [] count bytes)
front_ends items e count bytes rest before at eb lt fails r = ends_at items e (take at bytes) before count at rest (items_read items [] count bytes) eb lt fails r.so_far

pub front_is_done : (items : Items ℕ) (count : ℕ) (bytes rest front : List ℕ) (at : ℕ) → at ≡ count → front ≡ take count bytes → ReadFront items count bytes rest at → items_read items [] count bytes ≡ Ok (front, rest)
front_is_done items count bytes rest front at end is r =
    is_done items (take at bytes) count at rest (items_read items [] count bytes) (omega (arith, end)) r.so_far
    ∙ ap (λ (l : List ℕ). Ok (l, rest)) (ap (λ (k : ℕ). take k bytes) end ∙ sym is)

-- A block that was decoded can be passed over, with the same end.
use Rattle.std.proofs.Common.{◌≡◌, ℕ, suc, ◌+◌, ◌-◌, ◌*◌, ◌^◌, ◌≤◌, Bool, true, ltb, leb, eqb, cond, List, [], ◌∷◌, ◌++◌, length, get_or, take, drop, Option, Some, None, Result, Ok, Err, refl, sym, ap, subst, ◌∙◌, arith}
use Rattle.std.specs.Prelude.{◌&&◌, ◌||◌, min, bit_and, slice_index, ℤ, pos}
use Rattle.std.specs.Ordering.{int_eq}
use Rattle.std.specs.Int.{w8, w16, w32, w64}
use Rattle.std.proofs.lemmas.Bool.{and_parts, and_from, eqb-true, leb-true, cond-true}
use Rattle.std.proofs.lemmas.List.{length-append, length-map, take-append-drop, drop-append-le}
use Rattle.td_limits.specs.declared.limits.TheConstants.{BLOCK_ROWS}
use Rattle.td_cols.specs.declared.kinds.Kind.{Kind}
use Rattle.td_cols.specs.declared.kinds.Kind.TheVariants.{Bool as Truth, I8, I16, I32, I64, U8, U16, U32, U64, Time, Wide, Text}
use Rattle.td_cols.specs.Kinds.{kind_code, kind_width}
use Rattle.td_layer.specs.declared.values.Value.{Value}
use Rattle.td_layer.specs.declared.values.Key.{Key}
use Rattle.td_codec.specs.Fields.{◌>>=◌, Read, Field, number, kind_number, checked, followed, pair}
use Rattle.td_codec.specs.Lists.{each}
use Rattle.td_codec.proofs.FieldLaws.{bind_is, ok_is, passed as test_passed}
use Rattle.td_block.specs.declared.block.Block.{Block}
use Rattle.td_block.specs.declared.header.Head.{Head}
use Rattle.td_block.specs.declared.header.TheConstants.{BLOCK_MAGIC}
use Rattle.td_block.specs.Bits.{bitmap_length, is_set}
use Rattle.td_block.specs.Columns.{is_fixed, code, named_bytes, valued_bytes, named, valued, cell_from, lane_from, cell_of_bits, cell_items, cells, column_parts, parts_of_column, column}
use Rattle.td_block.specs.Rows.{Rows, times, births, rows_from, times_of}
use Rattle.td_block.specs.Blocks.{Held, Parts, is_count, head, first_and_others, columns, block_parts, held_by, parts_of, block, placed, decoded}
use Rattle.td_block.specs.Headers.{kind_of_code, passed, last_time, head_found}
use Rattle.td_block.proofs.RowLaws.{length-rows_from, times_of-rows_from}
use Rattle.td_fileio.specs.Days.{is_in_day}
use Rattle.td_sttfile.specs.Blocks.{is_behind, key_of, rows_checked, Ends, ends_read, kind_said, column_read, next_kind, columns_read, rest_read, passed_found, passed_at}
use Rattle.td_sttfile.proofs.Headers.{column_reads, columns_next, columns_none, others_then}
use Rattle.td_sttfile.proofs.Taking.{Takes, takes_then, takes_more, takes_less, passes, number_takes, number_more, kind_number_takes, checked_is, checked_reads, followed_is, followed_reads, made_is, items_take, times_take, births_take, ends_of_times}

-- ---- columns

code_of_kind : (kind : Kind) → is_fixed kind ≡ true → kind_of_code (kind_code kind) ≡ Some kind
unfolding kind_code
code_of_kind Truth fixed = refl
code_of_kind I8 fixed = refl
code_of_kind I16 fixed = refl
code_of_kind I32 fixed = refl
code_of_kind I64 fixed = refl
code_of_kind U8 fixed = refl
code_of_kind U16 fixed = refl
code_of_kind U32 fixed = refl
code_of_kind U64 fixed = refl
code_of_kind Time fixed = refl
code_of_kind Wide fixed = absurd cc
code_of_kind (Text n) fixed = absurd cc

-- no kind is given, or this one
abbrev Allows : Option Kind → Kind → Type 0
Allows None kind = Unit {0}
Allows (Some given) kind = given ≡ kind

said : (given : Option Kind) (kind : Kind) (n : ℕ) → Allows given kind → n ≡ kind_code kind → is_fixed kind ≡ true → kind_said given n ≡ Some kind
said None kind n is at fixed = ap kind_of_code at ∙ code_of_kind kind fixed
said (Some given) kind n is at fixed =
    let same : eqb n (kind_code given) ≡ true = ap (λ (k : Kind). eqb n (kind_code k)) is ∙ ap (λ (m : ℕ). eqb m (kind_code kind)) at ∙ Rattle.std.proofs.lemmas.Bool.eq-eqb (kind_code kind) (kind_code kind) refl in
    cond-true (eqb n (kind_code given)) (kind_of_code n) None same ∙ ap kind_of_code at ∙ code_of_kind kind fixed

byte_takes : (test : ℕ → Bool) (bytes : List ℕ) (x : ℕ × List ℕ) → (checked (number w8) test).read bytes ≡ Ok x → Takes 1 bytes x.1
byte_takes test bytes x e = number_takes w8 bytes x (checked_is (number w8) test bytes x e).read

cell_takes : (kind : Kind) (name has_value : Bool) (bytes : List ℕ) (x : Option Value × List ℕ) → (cell_of_bits kind name has_value).read bytes ≡ Ok x → Takes (kind_width kind) bytes x.1
cell_takes kind name has_value bytes x e =
    let test : ℤ → Bool = λ n. has_value || int_eq n (pos 0) in
    let m = made_is (checked (kind_number kind) test) (cell_from name has_value) (lane_from name has_value) bytes x e in
    kind_number_takes kind bytes (m.part, x.1) (checked_is (kind_number kind) test bytes (m.part, x.1) m.read).read

-- a column that was read is passed over
pub column_passes : (rows : ℕ) (kind : Kind) (given : Option Kind) (more bytes : List ℕ) (x : List (Option Value) × List ℕ) → Allows given kind → (column rows kind).read bytes ≡ Ok x
    → (column_read given rows (bytes ++ more) ≡ Ok (tt, x.1 ++ more)) × (length x.1 ≤ length bytes)
unfolding column
column_passes rows kind given more bytes x allows e =
    let bl = bitmap_length rows in
    let m = made_is (column_parts rows kind) (λ parts. parts.1.1.1) (λ all. Some (parts_of_column kind all)) bytes x e in
    let lanes_of : List ℕ → List ℕ → Field (List (Option Value)) = λ names values. cells kind rows names values in
    let values_of : List ℕ → Field (List ℕ × List (Option Value)) = λ names. followed (valued rows names) (lanes_of names) in
    let c = followed_is (code kind) (λ _. followed (named rows) values_of) bytes (m.part, x.1) m.read in
    let n = followed_is (named rows) values_of c.rest (m.part.1, x.1) c.then in
    let v = followed_is (valued rows m.part.1.0) (lanes_of m.part.1.0) n.rest (m.part.1.1, x.1) n.then in
    let number_is = checked_is (number w8) (λ (k : ℕ). eqb k (kind_code kind) && is_fixed kind) bytes (m.part.0, c.rest) c.read in
    let tests = and_parts (eqb m.part.0 (kind_code kind)) (is_fixed kind) number_is.holds in
    let code_is = eqb-true m.part.0 (kind_code kind) tests.0 in
    let named_take = (items_take (named_bytes rows) 1 (λ before b y q. byte_takes (λ byte. ltb byte (2 ^ (min 8 (rows - 8 * length before)))) b y q) bl [] c.rest (m.part.1.0, n.rest) n.read).0 in
    let valued_take = (items_take (valued_bytes m.part.1.0) 1 (λ before b y q. byte_takes (λ byte. eqb (bit_and byte (slice_index m.part.1.0 (length before))) byte) b y q) bl [] n.rest (m.part.1.1.0, v.rest) v.read).0 in
    let lanes_take = (items_take (cell_items kind m.part.1.0 m.part.1.1.0) (kind_width kind) (λ before b y q. cell_takes kind (is_set m.part.1.0 (length before)) (is_set m.part.1.1.0 (length before)) b y q) rows [] v.rest (m.part.1.1.1, x.1) v.then).0 in
    let two : 1 * bl + 1 * bl ≡ 1 * (2 * bl) = omega arith in
    let maps = subst (λ (k : ℕ). Takes k c.rest v.rest) two (takes_then (1 * bl) (1 * bl) c.rest n.rest v.rest named_take valued_take) in
    let code_takes = number_takes w8 bytes (m.part.0, c.rest) number_is.read in (
      column_reads given rows (bytes ++ more) (c.rest ++ more) (v.rest ++ more) (x.1 ++ more) m.part.0 kind (number_more w8 bytes more (m.part.0, c.rest) number_is.read) (said given kind m.part.0 allows code_is tests.1)
          (passes 1 (2 * bl) (c.rest ++ more) (v.rest ++ more) (takes_more (1 * (2 * bl)) c.rest v.rest more maps))
          (passes (kind_width kind) rows (v.rest ++ more) (x.1 ++ more) (takes_more (kind_width kind * rows) v.rest x.1 more lanes_take)),
      omega (arith, takes_less 1 bytes c.rest code_takes, takes_less (1 * (2 * bl)) c.rest v.rest maps, takes_less (kind_width kind * rows) v.rest x.1 lanes_take),
    )

-- the given kinds are the first of some, as far as they go
abbrev pub Suit : List Kind → List Kind → Type 0
Suit [] kinds = Unit {0}
Suit (given ∷ others) [] = ⊥
Suit (given ∷ others) (kind ∷ kinds) = (given ≡ kind) × Suit others kinds

pub suit_self : (kinds : List Kind) → Suit kinds kinds
suit_self [] = tt
suit_self (kind ∷ kinds) = (refl, suit_self kinds)

next_suits : (given : List Kind) (kind : Kind) (kinds : List Kind) → Suit given (kind ∷ kinds) → Allows (next_kind given).0 kind × Suit (next_kind given).1 kinds
next_suits [] kind kinds s = (tt, tt)
next_suits (given ∷ others) kind kinds s = s

columns_pass : (rows : ℕ) (kinds given : List Kind) (more bytes : List ℕ) (x : List (List (Option Value)) × List ℕ) → Suit given kinds → (columns rows kinds).read bytes ≡ Ok x
    → (columns_read rows given (length kinds) (bytes ++ more) ≡ Ok (tt, x.1 ++ more)) × (length x.1 ≤ length bytes)
unfolding columns
columns_pass rows [] given more bytes x suits e =
    let same : bytes ≡ x.1 = ap (λ (y : List (List (Option Value)) × List ℕ). y.1) (ok_is ([], bytes) x e) in
    (columns_none rows given (bytes ++ more) ∙ ap (λ (l : List ℕ). Ok (tt, l ++ more)) same, omega (arith, ap length same))
columns_pass rows (kind ∷ kinds) given more bytes x suits e =
    let s = next_suits given kind kinds suits in
    let m = made_is (pair (column rows kind) (columns rows kinds)) (λ y. y.0 ∷ y.1) first_and_others bytes x e in
    let f = followed_is (column rows kind) (λ _. columns rows kinds) bytes (m.part, x.1) m.read in
    let first = column_passes rows kind (next_kind given).0 more bytes (m.part.0, f.rest) s.0 f.read in
    let others = columns_pass rows kinds (next_kind given).1 more f.rest (m.part.1, x.1) s.1 f.then in
    (columns_next rows given (length kinds) (bytes ++ more) ∙ bind_is (others_then rows given (length kinds)) first.0 ∙ others.0, omega (arith, first.1, others.1))

-- ---- heads

abbrev HeadParts : Type 0
HeadParts = ℕ × (ℕ × (ℕ × ℕ))

abbrev magic_part : Field ℕ
magic_part = checked (number w32) (λ n. eqb n BLOCK_MAGIC)

abbrev table_part : Field ℕ
table_part = checked (number w32) (λ table. leb 1 table)

abbrev rows_part : Field ℕ
rows_part = checked (number w32) (λ rows. leb 1 rows && leb rows BLOCK_ROWS)

abbrev columns_part : Option ℕ → Field ℕ
columns_part count = checked (number w16) (is_count count)

-- the numbers of a head, one behind the other
record HeadRead (count : Option ℕ) (bytes : List ℕ) (x : HeadParts × List ℕ) : Type 0 where
  rest_1 : List ℕ
  rest_2 : List ℕ
  rest_3 : List ℕ
  magic : magic_part.read bytes ≡ Ok (x.0.0, rest_1)
  table : table_part.read rest_1 ≡ Ok (x.0.1.0, rest_2)
  rows : rows_part.read rest_2 ≡ Ok (x.0.1.1.0, rest_3)
  columns : (columns_part count).read rest_3 ≡ Ok (x.0.1.1.1, x.1)

head_was : (count : Option ℕ) (bytes : List ℕ) (x : HeadParts × List ℕ) → (head count).read bytes ≡ Ok x → HeadRead count bytes x
unfolding head
head_was count bytes x e =
    let a = followed_is magic_part (λ _. pair table_part (pair rows_part (columns_part count))) bytes x e in
    let b = followed_is table_part (λ _. pair rows_part (columns_part count)) a.rest (x.0.1, x.1) a.then in
    let c = followed_is rows_part (λ _. columns_part count) b.rest (x.0.1.1, x.1) b.then in
    record { rest_1 = a.rest; rest_2 = b.rest; rest_3 = c.rest; magic = a.read; table = b.read; rows = c.read; columns = c.then }

more_32 : (test : ℕ → Bool) (bytes more : List ℕ) (x : ℕ × List ℕ) → (checked (number w32) test).read bytes ≡ Ok x → (checked (number w32) test).read (bytes ++ more) ≡ Ok (x.0, x.1 ++ more)
more_32 test bytes more x e =
    let c = checked_is (number w32) test bytes x e in
    checked_reads (number w32) test (bytes ++ more) (x.0, x.1 ++ more) (number_more w32 bytes more x c.read) c.holds

-- a head that was read is one whatever count is asked for, and whatever stands behind it
head_more : (count : Option ℕ) (bytes more : List ℕ) (x : HeadParts × List ℕ) → (head count).read bytes ≡ Ok x → (head None).read (bytes ++ more) ≡ Ok (x.0, x.1 ++ more)
unfolding head
head_more count bytes more x e =
    let h = head_was count bytes x e in
    let c = checked_is (number w16) (is_count count) h.rest_3 (x.0.1.1.1, x.1) h.columns in
    let columns = checked_reads (number w16) (is_count None) (h.rest_3 ++ more) (x.0.1.1.1, x.1 ++ more) (number_more w16 h.rest_3 more (x.0.1.1.1, x.1) c.read) refl in
    let rows = followed_reads rows_part (λ _. columns_part None) (h.rest_2 ++ more) (x.0.1.1.0, h.rest_3 ++ more) (x.0.1.1.1, x.1 ++ more) (more_32 (λ rows. leb 1 rows && leb rows BLOCK_ROWS) h.rest_2 more (x.0.1.1.0, h.rest_3) h.rows) columns in
    let table = followed_reads table_part (λ _. pair rows_part (columns_part None)) (h.rest_1 ++ more) (x.0.1.0, h.rest_2 ++ more) (x.0.1.1, x.1 ++ more) (more_32 (λ table. leb 1 table) h.rest_1 more (x.0.1.0, h.rest_2) h.table) rows in
    followed_reads magic_part (λ _. pair table_part (pair rows_part (columns_part None))) (bytes ++ more) (x.0.0, h.rest_1 ++ more) (x.0.1, x.1 ++ more) (more_32 (λ n. eqb n BLOCK_MAGIC) bytes more (x.0.0, h.rest_1) h.magic) table

head_takes : (count : Option ℕ) (bytes : List ℕ) (x : HeadParts × List ℕ) → (head count).read bytes ≡ Ok x → Takes 14 bytes x.1
head_takes count bytes x e =
    let h = head_was count bytes x e in
    let a = number_takes w32 bytes (x.0.0, h.rest_1) (checked_is (number w32) (λ n. eqb n BLOCK_MAGIC) bytes (x.0.0, h.rest_1) h.magic).read in
    let b = number_takes w32 h.rest_1 (x.0.1.0, h.rest_2) (checked_is (number w32) (λ table. leb 1 table) h.rest_1 (x.0.1.0, h.rest_2) h.table).read in
    let c = number_takes w32 h.rest_2 (x.0.1.1.0, h.rest_3) (checked_is (number w32) (λ rows. leb 1 rows && leb rows BLOCK_ROWS) h.rest_2 (x.0.1.1.0, h.rest_3) h.rows).read in
    let d = number_takes w16 h.rest_3 (x.0.1.1.1, x.1) (checked_is (number w16) (is_count count) h.rest_3 (x.0.1.1.1, x.1) h.columns).read in
    takes_then 4 10 bytes h.rest_1 x.1 a (takes_then 4 6 h.rest_1 h.rest_2 x.1 b (takes_then 4 2 h.rest_2 h.rest_3 x.1 c d))

abbrev head_view : HeadParts → Head
head_view h = record { table = h.1.0; rows = h.1.1.0; columns = h.1.1.1 }

-- what the head of bytes says, by the parts that were read
found_parts : (part : List ℕ) (h : Head) → head_found part ≡ Ok h → (x : HeadParts × List ℕ) × ((head None).read part ≡ Ok x) × (head_view x.0 ≡ h)
unfolding head_found
found_parts part h e = by_read ((head None).read part) refl e where
  as_found : Head → Result Head ℕ
  as_found k = Ok k

  inside : (a b : Head) → as_found a ≡ as_found b → a ≡ b
  inside a b q = cc

  by_read : (r : Read HeadParts) → (head None).read part ≡ r → placed part (λ (h : HeadParts) _. head_view h) r ≡ Ok h → (x : HeadParts × List ℕ) × ((head None).read part ≡ Ok x) × (head_view x.0 ≡ h)
  by_read (Err left) read p = absurd cc
  by_read (Ok x) read p = (x, read, inside (head_view x.0) h p)

-- ---- blocks

-- what passing over the block with this head tells, which is this one
pub record IsPassable (given kinds : List Kind) (head : Head) (b : Block) (bytes : List ℕ) : Type 0 where
  pub columns : length kinds ≡ head.columns
  pub some : 1 ≤ length b.rows
  pub rest : List ℕ
  pub ends : ends_read head (drop 14 bytes) ≡ Ok ((get_or (times_of b.rows) 0 0, get_or (times_of b.rows) (length b.rows - 1) 0), rest)
  pub behind : List ℕ
  pub passes : rest_read given head rest ≡ Ok (tt, behind)
  pub used : length bytes - length behind ≡ b.used
  pub within : length behind ≤ length bytes
  pub long : 14 ≤ length bytes

-- the parts of a block that was decoded
record WasDecoded (kinds : List Kind) (part : List ℕ) (b : Block) : Type 0 where
  parts : Parts
  rest : List ℕ
  read : (block_parts kinds).read part ≡ Ok (parts, rest)
  rows_are : rows_from parts.1.0 parts.1.1.0 parts.1.1.1 ≡ b.rows
  used_is : length part - length rest ≡ b.used

was_decoded : (kinds : List Kind) (part : List ℕ) (b : Block) → decoded kinds part ≡ Ok b → WasDecoded kinds part b
unfolding decoded block
was_decoded kinds part b e = by_read ((block kinds).read part) refl e where
  view : Held → ℕ → Block
  view held used = record { table = held.0; rows = held.1; used = used }

  as_found : Block → Result Block ℕ
  as_found k = Ok k

  inside : (a b : Block) → as_found a ≡ as_found b → a ≡ b
  inside a b q = cc

  by_read : (r : Read Held) → (block kinds).read part ≡ r → placed part view r ≡ Ok b → WasDecoded kinds part b
  by_read (Err left) read p = absurd cc
  by_read (Ok x) read p =
      let same = inside (view x.0 (length part - length x.1)) b p in
      let m = made_is (block_parts kinds) held_by (parts_of kinds) part x read in
      record {
        parts = m.part;
        rest = x.1;
        read = m.read;
        rows_are = ap (λ (h : Held). h.1) m.makes ∙ ap (λ (k : Block). k.rows) same;
        used_is = ap (λ (k : Block). k.used) same;
      }

pub decoded_passes : (kinds given : List Kind) (head : Head) (bytes part more : List ℕ) (b : Block) → Suit given kinds → bytes ≡ part ++ more → head_found (take 14 bytes) ≡ Ok head → decoded kinds part ≡ Ok b → IsPassable given kinds head b bytes
unfolding block_parts times births
decoded_passes kinds given h bytes part more b suits split found e =
    let d = was_decoded kinds part b e in
    let count = length kinds in
    let behind_head : HeadParts → Field (List ℕ × (List ℕ × List (List (Option Value)))) = λ x. pair (times x.1.1.0) (pair (births x.1.1.0) (columns x.1.1.0 kinds)) in
    let a = followed_is (head (Some count)) behind_head part (d.parts, d.rest) d.read in
    let n = d.parts.0.1.1.0 in
    let t = followed_is (times n) (λ _. pair (births n) (columns n kinds)) a.rest (d.parts.1, d.rest) a.then in
    let o = followed_is (births n) (λ _. columns n kinds) t.rest (d.parts.1.1, d.rest) t.then in
    let f = found_parts (take 14 bytes) h found in
    let takes = head_takes (Some count) part (d.parts.0, a.rest) a.read in
    let whole_1 : (head None).read bytes ≡ Ok (f.0.0, f.0.1 ++ drop 14 bytes) = ap (head None).read (sym (take-append-drop 14 bytes)) ∙ head_more None (take 14 bytes) (drop 14 bytes) f.0 f.1 in
    let whole_2 : (head None).read bytes ≡ Ok (d.parts.0, a.rest ++ more) = ap (head None).read split ∙ head_more (Some count) part more (d.parts.0, a.rest) a.read in
    let same : f.0.0 ≡ d.parts.0 = ap (λ (y : HeadParts × List ℕ). y.0) (ok_is (f.0.0, f.0.1 ++ drop 14 bytes) (d.parts.0, a.rest ++ more) (sym whole_1 ∙ whole_2)) in
    let is : head_view d.parts.0 ≡ h = sym (ap head_view same) ∙ f.2 in
    let rows_is : n ≡ h.rows = ap (λ (k : Head). k.rows) is in
    let columns_is : d.parts.0.1.1.1 ≡ h.columns = ap (λ (k : Head). k.columns) is in
    let was = head_was (Some count) part (d.parts.0, a.rest) a.read in
    let counted = eqb-true d.parts.0.1.1.1 count (checked_is (number w16) (is_count (Some count)) was.rest_3 (d.parts.0.1.1.1, a.rest) was.columns).holds in
    let has_rows = (and_parts (leb 1 n) (leb n BLOCK_ROWS) (checked_is (number w32) (λ rows. leb 1 rows && leb rows BLOCK_ROWS) was.rest_2 (n, was.rest_3) was.rows).holds).0 in
    let some : 1 ≤ n = leb-true 1 n has_rows in
    let times_is : times_of b.rows ≡ d.parts.1.0 = sym (ap times_of d.rows_are) ∙ times_of-rows_from d.parts.1.0 d.parts.1.1.0 d.parts.1.1.1 in
    let times_long = times_take n a.rest (d.parts.1.0, t.rest) t.read in
    let many : length b.rows ≡ n = sym (ap length d.rows_are) ∙ length-rows_from d.parts.1.0 d.parts.1.1.0 d.parts.1.1.1 ∙ times_long.1 in
    let r = ends_of_times n more a.rest (d.parts.1.0, t.rest) some t.read in
    let place : drop 14 bytes ≡ a.rest ++ more = ap (drop 14) split ∙ drop-append-le 14 part more takes.long ∙ ap (λ (l : List ℕ). l ++ more) (sym takes.rest_is) in
    let ends_here : ends_read h (drop 14 bytes) ≡ Ok ((get_or d.parts.1.0 0 0, get_or d.parts.1.0 (n - 1) 0), t.rest ++ more) =
    ap (ends_read h) place
    ∙ bind_is (λ (first : ℕ × List ℕ). last_time (h.rows - 1) first.0 first.1 >>= ends_and first) r.first
    ∙ ap (λ (k : ℕ). last_time (k - 1) (get_or d.parts.1.0 0 0) r.behind >>= ends_and (get_or d.parts.1.0 0 0, r.behind)) (sym rows_is)
    ∙ bind_is (ends_and (get_or d.parts.1.0 0 0, r.behind)) r.last in
    let births_are = births_take (each (number w64)) (λ before. refl) n t.rest (d.parts.1.1.0, o.rest) o.read in
    let c = columns_pass n kinds given more o.rest (d.parts.1.1.1, d.rest) suits o.then in
    let rest_here : rest_read given h (t.rest ++ more) ≡ Ok (tt, d.rest ++ more) =
    ap (λ (k : ℕ). passed 8 k (t.rest ++ more) >>= columns_read k given h.columns) (sym rows_is)
    ∙ ap (λ (k : ℕ). passed 8 n (t.rest ++ more) >>= columns_read n given k) (sym columns_is ∙ counted)
    ∙ bind_is (columns_read n given count) (passes 8 n (t.rest ++ more) (o.rest ++ more) (takes_more (8 * n) t.rest o.rest more births_are))
    ∙ c.0 in
    let less : length d.rest ≤ length part = omega (arith, c.1, takes_less 14 part a.rest takes, takes_less (8 * n) a.rest t.rest times_long.0, takes_less (8 * n) t.rest o.rest births_are) in
    let both = ap length split ∙ length-append part more in
    record {
      columns = sym counted ∙ columns_is;
      some = omega (arith, many, some);
      rest = t.rest ++ more;
      ends = ends_here
          ∙ ap (λ (l : List ℕ). Ok ((get_or l 0 0, get_or l (n - 1) 0), t.rest ++ more)) (sym times_is)
          ∙ ap (λ (k : ℕ). Ok ((get_or (times_of b.rows) 0 0, get_or (times_of b.rows) (k - 1) 0), t.rest ++ more)) (sym many);
      behind = d.rest ++ more;
      passes = rest_here;
      used = omega (arith, both, length-append d.rest more, less) ∙ d.used_is;
      within = omega (arith, both, length-append d.rest more, less);
      long = omega (arith, both, takes.long);
    } where
      ends_and : ℕ × List ℕ → ℕ × List ℕ → Read Ends
      ends_and first last = Ok ((first.0, last.0), last.1)

-- ---- the rows of a block

abbrev checked_to : Key → Result Key ℕ
checked_to k = Ok k

-- rows that were checked: the first comes behind the last key before, the first and the last lie in the day range, and
-- the last key is that of the last
pub record RowsEnd (range table : ℕ) (last key : Key) (rows : Rows) : Type 0 where
  pub first : (is_behind last (record { table = table; ts = get_or (times_of rows) 0 0 }) && is_in_day range (get_or (times_of rows) 0 0)) ≡ true
  pub end : is_in_day range (get_or (times_of rows) (length rows - 1) 0) ≡ true
  pub key_is : key ≡ record { table = table; ts = get_or (times_of rows) (length rows - 1) 0 }

pub rows_end : (range table place : ℕ) (last key : Key) (rows : Rows) → 1 ≤ length rows → rows_checked range table last place rows ≡ Ok key → RowsEnd range table last key rows
rows_end range table place last key [] some e = absurd (omega arith)
rows_end range table place last key (row ∷ []) some e =
    let p = test_passed (is_behind last (key_of table row) && is_in_day range row.0) place (checked_to (key_of table row)) key e in
    record { first = p.0; end = (and_parts (is_behind last (key_of table row)) (is_in_day range row.0) p.0).1; key_is = sym (ok_is (key_of table row) key p.1) }
rows_end range table place last key (row ∷ next ∷ rows) some e =
    let p = test_passed (is_behind last (key_of table row) && is_in_day range row.0) place (rows_checked range table (key_of table row) (place + 8) (next ∷ rows)) key e in
    let r = rows_end range table (place + 8) (key_of table row) key (next ∷ rows) (omega arith) p.1 in
    let at : suc (suc (length rows) - 1) ≡ suc (suc (length rows)) - 1 = omega arith in
    let same : get_or (times_of (next ∷ rows)) (suc (length rows) - 1) 0 ≡ get_or (times_of (row ∷ next ∷ rows)) (suc (suc (length rows)) - 1) 0 = ap (λ (i : ℕ). get_or (times_of (row ∷ next ∷ rows)) i 0) at in
    record { first = p.0; end = sym (ap (is_in_day range) same) ∙ r.end; key_is = r.key_is ∙ ap (λ (ts : ℕ). record { table = table; ts = ts }) same }

-- what is passed over of a block whose rows are in order
pub passed_is : (given kinds : List Kind) (range at : ℕ) (last key : Key) (head : Head) (b : Block) (all : List ℕ) → rows_checked range head.table last (at + 14) b.rows ≡ Ok key → (p : IsPassable given kinds head b (drop at all))
    → passed_at given range last head (get_or (times_of b.rows) 0 0, get_or (times_of b.rows) (length b.rows - 1) 0) p.rest at all ≡ Ok (record { rows = []; next = at + b.used; last = key })
unfolding passed_at
passed_is given kinds range at last key head b all e p =
    let first = get_or (times_of b.rows) 0 0 in
    let end = get_or (times_of b.rows) (length b.rows - 1) 0 in
    let r = rows_end range head.table (at + 14) last key b.rows p.some e in
    let long : length (drop at all) ≡ length all - at = Rattle.std.proofs.lemmas.List.length-drop at all in
    let place : length all - length p.behind ≡ at + b.used = omega (arith, long, p.used, p.within, p.long) in
    ap (λ (t : Bool). cond t (cond (is_in_day range end) (passed_found (length all) head (first, end) (rest_read given head p.rest)) (Err (at + 14 + 8 * (head.rows - 1)))) (Err (at + 14))) r.first
    ∙ ap (λ (t : Bool). cond t (passed_found (length all) head (first, end) (rest_read given head p.rest)) (Err (at + 14 + 8 * (head.rows - 1)))) r.end
    ∙ ap (passed_found (length all) head (first, end)) p.passes
    ∙ ap (λ (n : ℕ). Ok (record { rows = []; next = n; last = record { table = head.table; ts = end } })) place
    ∙ ap (λ (k : Key). Ok (record { rows = []; next = at + b.used; last = k })) (sym r.key_is)

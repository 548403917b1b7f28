-- A file that was written gives what was put into it.
use Rattle.std.proofs.Common.{◌≡◌, ℕ, suc, ◌+◌, ◌-◌, ◌^◌, ◌<◌, ◌≤◌, Bool, true, false, cond, ltb, leb, eqb, List, [], ◌∷◌, ◌++◌, length, get_or, take, drop, Option, Some, None, Result, Ok, Err, refl, sym, ap, subst, ◌∙◌, append_assoc, arith}
use Rattle.std.specs.Prelude.{◌&&◌}
use Rattle.std.specs.List.{flat_map}
use Rattle.std.specs.Int.{w64, to_le_bytes}
use Rattle.std.proofs.lemmas.Bool.{and_parts, and_from, lt-ltb}
use Rattle.std.proofs.lemmas.Bool.Decides.{nat_tests}
use Rattle.std.proofs.lemmas.List.{append-nil, length-append, take_at, drop_at, drop-drop}
use Rattle.std.proofs.lemmas.List.Concat.{flat_map-cons}
use Rattle.td_limits.specs.declared.limits.TheConstants.{BLOCK_ROWS}
use Rattle.td_cols.specs.declared.kinds.Kind.{Kind}
use Rattle.td_cols.specs.Spelling.{AreBytes}
use Rattle.td_layer.specs.declared.values.Key.{Key}
use Rattle.td_layer.specs.declared.parts.Partial.{Partial}
use Rattle.td_codec.specs.Fields.{◌>>=◌}
use Rattle.td_codec.proofs.FieldLaws.{AreBytes-drop}
use Rattle.td_block.specs.declared.block.Block.{Block}
use Rattle.td_block.specs.declared.header.Head.{Head}
use Rattle.td_block.specs.Rows.{Rows, CanHold, HasNumbers, times_of, births_of, columns_of}
use Rattle.td_block.specs.Blocks.{head, columns, placed, decoded}
use Rattle.td_block.specs.Headers.{block_length, head_parts, head_found}
use Rattle.td_block.proofs.BlockLaws.{head_spells}
use Rattle.td_block.proofs.HeaderLaws.{block_size, block_has_header, bytes_are}
use Rattle.td_block.proofs.ReadLaws.{decoded_again}
use Rattle.td_fileio.specs.Days.{is_in_day}
use Rattle.td_fileio.specs.Lists.{FileBlock}
use Rattle.td_sttfile.specs.declared.blocks.Found.{Found}
use Rattle.td_sttfile.specs.Written.{bytes_of_block}
use Rattle.td_sttfile.specs.Blocks.{is_behind, key_of, rows_checked, moved, own_length, own_found, own_at, Ends, ends_read, passed_at, other_found, is_outside, wanted_found, found_at, block_at}
use Rattle.td_sttfile.specs.Scanned.{Want, wanted_of, keyed, Walked, then_walk, walk}
use Rattle.td_sttfile.specs.Contents.{wanted_in}
use Rattle.td_sttfile.proofs.Passing.{Suit, suit_self, IsPassable, decoded_passes, passed_is}
use Rattle.td_sttfile.proofs.Narrow.{without_rows, own_passes}

-- ---- keys of blocks

-- the last key of rows of a table behind a key
abbrev pub last_key : ℕ → Key → Rows → Key
last_key table last [] = last
last_key table last (row ∷ rows) = last_key table (key_of table row) rows

-- rows whose keys rise behind a key, in a day range
abbrev pub Follow : ℕ → ℕ → Key → Rows → Type 0
Follow range table last [] = Unit {0}
Follow range table last (row ∷ rows) = ((is_behind last (key_of table row) && is_in_day range row.0) ≡ true) × Follow range table (key_of table row) rows

checks : (range table place : ℕ) (last : Key) (rows : Rows) → Follow range table last rows → rows_checked range table last place rows ≡ Ok (last_key table last rows)
checks range table place last [] f = refl
checks range table place last (row ∷ rows) f =
    ap (λ (b : Bool). cond b (rows_checked range table (key_of table row) (place + 8) rows) (Err place)) f.0 ∙ checks range table (place + 8) (key_of table row) rows f.1

-- what is known of a block that stands behind a key
pub record Stands (want : Want) (range : ℕ) (last : Key) (b : FileBlock) : Type 0 where
  pub holds : CanHold b.kinds b.table b.rows
  pub numbers : HasNumbers b.table b.rows
  pub kinds : b.table ≡ want.table → b.kinds ≡ want.kinds
  pub follow : Follow range b.table last b.rows

-- blocks that stand one behind the other
abbrev pub Chain : Want → ℕ → Key → List FileBlock → Type 0
Chain want range last [] = Unit {0}
Chain want range last (b ∷ bs) = Stands want range last b × Chain want range (last_key b.table last b.rows) bs

-- ---- one block

-- bytes that begin with a block
record Begins (b : FileBlock) (bytes rest : List ℕ) : Type 0 where
  is : bytes ≡ bytes_of_block b ++ rest
  are : AreBytes bytes

abbrev head_view : ℕ × (ℕ × (ℕ × ℕ)) → Head
head_view x = record { table = x.1.0; rows = x.1.1.0; columns = x.1.1.1 }

abbrev head_of_rows : FileBlock → Head
head_of_rows b = record { table = b.table; rows = length b.rows; columns = length b.kinds }

abbrev size_of : FileBlock → ℕ
size_of b = block_length (length b.rows) b.kinds

head_fits : (want : Want) (range : ℕ) (last : Key) (b : FileBlock) → Stands want range last b → (head None).fits (head_parts (head_of_rows b)) ≡ true
unfolding head
head_fits want range last b s =
    let t = lt-ltb b.table (2 ^ 32) s.numbers.table_is in
    let one : leb 1 b.table ≡ true = grind (arith, nat_tests, s.holds.table_is) in
    let small : ltb (length b.rows) (2 ^ 32) ≡ true = lt-ltb (length b.rows) (2 ^ 32) (omega (arith, s.holds.few)) in
    let some : leb 1 (length b.rows) ≡ true = grind (arith, nat_tests, s.holds.some) in
    let few : leb (length b.rows) BLOCK_ROWS ≡ true = grind (arith, nat_tests, s.holds.few) in
    let columns = lt-ltb (length b.kinds) (2 ^ 16) s.holds.columns in
    and_from _ _ refl (and_from _ _ (and_from _ _ t one) (and_from _ _ (and_from _ _ small (and_from _ _ some few)) (and_from _ _ columns refl)))

head_spelled : (b : FileBlock) → (head None).spelled (head_parts (head_of_rows b)) ≡ Rattle.td_block.proofs.HeaderLaws.head_bytes b.table (length b.rows) (length b.kinds)
unfolding head
head_spelled b = refl

head_read : (want : Want) (range : ℕ) (last : Key) (b : FileBlock) (bytes rest : List ℕ) → Stands want range last b → Begins b bytes rest → head_found (take 14 bytes) ≡ Ok (head_of_rows b)
unfolding head_found
head_read want range last b bytes rest s begins =
    let h = Rattle.td_block.proofs.HeaderLaws.head_bytes b.table (length b.rows) (length b.kinds) in
    let n = length b.rows in
    let others = flat_map (to_le_bytes w64) (times_of b.rows) ++ (flat_map (to_le_bytes w64) (births_of b.rows) ++ (columns n b.kinds).spelled (columns_of (length b.kinds) b.rows)) in
    let parts = bytes_are b.kinds b.table b.rows s.holds.rows_are in
    let front : take 14 bytes ≡ h = ap (take 14) (begins.is ∙ ap (λ (l : List ℕ). l ++ rest) parts ∙ append_assoc h others rest) ∙ take_at h (others ++ rest) 14 refl in
    let read : (head None).read h ≡ Ok (head_parts (head_of_rows b), []) = ap (head None).read (sym (append-nil h) ∙ ap (λ (l : List ℕ). l ++ []) (sym (head_spelled b))) ∙ (head_spells None).again (head_parts (head_of_rows b)) [] (head_fits want range last b s) in
    ap (λ (l : List ℕ). placed l (λ (x : ℕ × (ℕ × (ℕ × ℕ))) _. head_view x) ((head None).read l)) front ∙ ap (placed h (λ (x : ℕ × (ℕ × (ℕ × ℕ))) _. head_view x)) read

some_rows : (rows : Rows) → 1 ≤ length rows → (row : ℕ × Partial) × (others : Rows) × (rows ≡ row ∷ others)
some_rows [] le = absurd (omega arith)
some_rows (row ∷ rows) le = (row, rows, refl)

-- the first key of a block comes behind the last one before it
first_behind : (range table : ℕ) (last : Key) (rows : Rows) → 1 ≤ length rows → Follow range table last rows → is_behind last (record { table = table; ts = get_or (times_of rows) 0 0 }) ≡ true
first_behind range table last [] le f = absurd (omega arith)
first_behind range table last (row ∷ rows) le f = (and_parts (is_behind last (key_of table row)) (is_in_day range row.0) f.0).0

not_below : (last : Key) (table ts : ℕ) → is_behind last (record { table = table; ts = ts }) ≡ true → last.table ≤ table
not_below last table ts e = grind (arith, nat_tests)

-- the last key of a block is that of its header
last_is : (table : ℕ) (last : Key) (row : ℕ × Partial) (rows : Rows) → last_key table last (row ∷ rows) ≡ record { table = table; ts = get_or (times_of (row ∷ rows)) (length rows) 0 }
last_is table last row [] = refl
last_is table last row (x ∷ xs) = last_is table (key_of table row) x xs

header_last : (table : ℕ) (last : Key) (rows : Rows) → 1 ≤ length rows → last_key table last rows ≡ record { table = table; ts = get_or (times_of rows) (length rows - 1) 0 }
header_last table last [] le = absurd (omega arith)
header_last table last (row ∷ rows) le =
    let e : length rows ≡ suc (length rows) - 1 = omega arith in
    last_is table last row rows ∙ ap (λ (i : ℕ). record { table = table; ts = get_or (times_of (row ∷ rows)) i 0 }) e

-- bytes behind a place
record At (all : List ℕ) (at : ℕ) (b : FileBlock) (rest : List ℕ) : Type 0 where
  within : at ≤ length all
  behind : length all - length rest ≡ at + size_of b
  next : drop (at + size_of b) all ≡ rest

at_block : (want : Want) (range : ℕ) (last : Key) (all : List ℕ) (at : ℕ) (b : FileBlock) (rest : List ℕ) → Stands want range last b → Begins b (drop at all) rest → At all at b rest
at_block want range last all at b rest s begins =
    let size : length (bytes_of_block b) ≡ size_of b = block_size b.kinds b.table b.rows s.holds in
    let whole = ap length begins.is ∙ length-append (bytes_of_block b) rest in
    let long : length (drop at all) ≡ size_of b + length rest = omega (arith, whole, size) in
    let some : 1 ≤ size_of b = omega arith in
    record {
      within = omega (arith, long, some, Rattle.std.proofs.lemmas.List.length-drop at all);
      behind = omega (arith, long, some, Rattle.std.proofs.lemmas.List.length-drop at all);
      next = sym (drop-drop (size_of b) at all) ∙ ap (drop (size_of b)) begins.is ∙ drop_at (bytes_of_block b) rest (size_of b) size;
    }

-- the block as it is decoded, and what is taken of it then
decoded_block : (want : Want) (range : ℕ) (last : Key) (b : FileBlock) → Stands want range last b → decoded b.kinds (bytes_of_block b) ≡ Ok (record { table = b.table; rows = b.rows; used = length (bytes_of_block b) })
decoded_block want range last b s = ap (decoded b.kinds) (sym (append-nil (bytes_of_block b))) ∙ decoded_again b.kinds b.table b.rows [] s.holds s.numbers

abbrev whole_of : Key → ℕ → FileBlock → Found
whole_of last at b = record { rows = b.rows; next = at + size_of b; last = last_key b.table last b.rows }

-- a block of the table that is decoded
own_read : (want : Want) (range : ℕ) (last : Key) (all : List ℕ) (at : ℕ) (b : FileBlock) (rest : List ℕ) → Stands want range last b → Begins b (drop at all) rest → b.table ≡ want.table → own_at want.kinds want.table range last (head_of_rows b) at all ≡ Ok (whole_of last at b)
unfolding own_at
own_read want range last all at b rest s begins same =
    let kinds : b.kinds ≡ want.kinds = s.kinds same in
    let size : length (bytes_of_block b) ≡ size_of b = block_size b.kinds b.table b.rows s.holds in
    let equal : eqb (length want.kinds) (length b.kinds) ≡ true = Rattle.std.proofs.lemmas.Bool.eq-eqb (length want.kinds) (length b.kinds) (ap length (sym kinds)) in
    let long : own_length want.kinds (head_of_rows b) ≡ size_of b = ap (λ (t : Bool). cond t (block_length (length b.rows) want.kinds) 14) equal ∙ ap (block_length (length b.rows)) (sym kinds) in
    let part : take (own_length want.kinds (head_of_rows b)) (drop at all) ≡ bytes_of_block b = ap (λ (n : ℕ). take n (drop at all)) long ∙ ap (take (size_of b)) begins.is ∙ take_at (bytes_of_block b) rest (size_of b) size in
    let found : Block = record { table = b.table; rows = b.rows; used = length (bytes_of_block b) } in
    let read : decoded want.kinds (take (own_length want.kinds (head_of_rows b)) (drop at all)) ≡ Ok found = ap (decoded want.kinds) part ∙ ap (λ (k : List Kind). decoded k (bytes_of_block b)) (sym kinds) ∙ decoded_block want range last b s in
    let rows : rows_checked range want.table last (at + 14) b.rows ≡ Ok (last_key b.table last b.rows) = ap (λ (t : ℕ). rows_checked range t last (at + 14) b.rows) (sym same) ∙ checks range b.table (at + 14) last b.rows s.follow in
    ap (λ (r : Result Block ℕ). moved at r >>= own_found want.table range last at) read
    ∙ ap (λ (r : Result Key ℕ). r >>= (λ key. Ok (record { rows = b.rows; next = at + length (bytes_of_block b); last = key }))) rows
    ∙ ap (λ (n : ℕ). Ok (record { rows = b.rows; next = at + n; last = last_key b.table last b.rows })) size

abbrev pub wanted_block : Want → FileBlock → List (Key × Partial)
wanted_block want b = wanted_in want b.table b.rows

-- what is taken of a block at a place: what is wanted of its rows, its end and its last key
record Taken (want : Want) (last : Key) (at : ℕ) (b : FileBlock) (f : Found) : Type 0 where
  next_is : f.next ≡ at + size_of b
  last_is : f.last ≡ last_key b.table last b.rows
  rows_are : keyed want.table (wanted_of want.lo want.hi f.rows) ≡ wanted_block want b

abbrev Takes : Want → Key → ℕ → FileBlock → Result Found ℕ → Type 0
Takes want last at b r = (f : Found) × (r ≡ Ok f) × Taken want last at b f

same_take : (want : Want) (last : Key) (at : ℕ) (b : FileBlock) (r q : Result Found ℕ) → r ≡ q → Takes want last at b q → Takes want last at b r
same_take want last at b r q e t = (t.0, e ∙ t.1, t.2)

-- what can be passed over of a block
passable : (want : Want) (range : ℕ) (last : Key) (given : List Kind) (bytes : List ℕ) (b : FileBlock) (rest : List ℕ) → Stands want range last b → Suit given b.kinds → Begins b bytes rest
    → IsPassable given b.kinds (head_of_rows b) (record { table = b.table; rows = b.rows; used = length (bytes_of_block b) }) bytes
passable want range last given bytes b rest s suits begins =
    decoded_passes b.kinds given (head_of_rows b) bytes (bytes_of_block b) rest (record { table = b.table; rows = b.rows; used = length (bytes_of_block b) }) suits begins.is (head_read want range last b bytes rest s begins) (decoded_block want range last b s)

-- a block of another table
other_read : (want : Want) (range : ℕ) (last : Key) (all : List ℕ) (at : ℕ) (b : FileBlock) (rest : List ℕ) → Stands want range last b → Begins b (drop at all) rest → eqb b.table want.table ≡ false
    → Takes want last at b (other_found range last (head_of_rows b) at all (ends_read (head_of_rows b) (drop (at + 14) all)))
other_read want range last all at b rest s begins differs =
    let p = passable want range last [] (drop at all) b rest s tt begins in
    let size : length (bytes_of_block b) ≡ size_of b = block_size b.kinds b.table b.rows s.holds in
    let end = last_key b.table last b.rows in
    let found : Block = record { table = b.table; rows = b.rows; used = length (bytes_of_block b) } in
    let over = passed_is [] b.kinds range at last end (head_of_rows b) found all (checks range b.table (at + 14) last b.rows s.follow) p in
    let none : wanted_block want b ≡ [] = ap (λ (t : Bool). cond t (keyed want.table (wanted_of want.lo want.hi b.rows)) []) differs in (
      record { rows = []; next = at + length (bytes_of_block b); last = end },
      ap (λ (l : List ℕ). other_found range last (head_of_rows b) at all (ends_read (head_of_rows b) l)) (sym (drop-drop 14 at all)) ∙ ap (other_found range last (head_of_rows b) at all) p.ends ∙ over,
      record { next_is = ap (λ (n : ℕ). at + n) size; last_is = refl; rows_are = sym none },
    )

-- a block of the table
wanted_read : (want : Want) (range : ℕ) (last : Key) (all : List ℕ) (at : ℕ) (b : FileBlock) (rest : List ℕ) → Stands want range last b → Begins b (drop at all) rest → b.table ≡ want.table
    → Takes want last at b (wanted_found want.kinds want.table want.lo want.hi range last (head_of_rows b) at all (ends_read (head_of_rows b) (drop (at + 14) all)))
wanted_read want range last all at b rest s begins same =
    let head = head_of_rows b in
    let kinds : b.kinds ≡ want.kinds = s.kinds same in
    let own = own_read want range last all at b rest s begins same in
    let p = passable want range last want.kinds (drop at all) b rest s (subst (λ (k : List Kind). Suit k b.kinds) kinds (suit_self b.kinds)) begins in
    let ends : Ends = (get_or (times_of b.rows) 0 0, get_or (times_of b.rows) (length b.rows - 1) 0) in
    let read : ends_read head (drop (at + 14) all) ≡ Ok (ends, p.rest) = ap (ends_read head) (sym (drop-drop 14 at all)) ∙ p.ends in
    let over = own_passes want.kinds want.table range last head at all (ends, p.rest) (whole_of last at b) (head_read want range last b (drop at all) rest s begins) same read own in
    let equal : eqb b.table want.table ≡ true = Rattle.std.proofs.lemmas.Bool.eq-eqb b.table want.table same in
    let rows_are : keyed want.table (wanted_of want.lo want.hi b.rows) ≡ wanted_block want b = sym (ap (λ (t : Bool). cond t (keyed want.table (wanted_of want.lo want.hi b.rows)) []) equal) in
    let passed = passed_at want.kinds range last head ends p.rest at all in
    same_take want last at b (wanted_found want.kinds want.table want.lo want.hi range last head at all (ends_read head (drop (at + 14) all))) (cond (is_outside want.kinds want.lo want.hi head ends) passed (own_at want.kinds want.table range last head at all))
    (ap (wanted_found want.kinds want.table want.lo want.hi range last head at all) read)
    (by_range (is_outside want.kinds want.lo want.hi head ends) passed refl over.passes (λ out. over.none want.lo want.hi out) own rows_are) where
      by_range : (t : Bool) (passed : Result Found ℕ) → is_outside want.kinds want.lo want.hi (head_of_rows b) (get_or (times_of b.rows) 0 0, get_or (times_of b.rows) (length b.rows - 1) 0) ≡ t → passed ≡ Ok (without_rows (whole_of last at b))
          → (is_outside want.kinds want.lo want.hi (head_of_rows b) (get_or (times_of b.rows) 0 0, get_or (times_of b.rows) (length b.rows - 1) 0) ≡ true → wanted_of want.lo want.hi b.rows ≡ []) → own_at want.kinds want.table range last (head_of_rows b) at all ≡ Ok (whole_of last at b)
          → keyed want.table (wanted_of want.lo want.hi b.rows) ≡ wanted_block want b → Takes want last at b (cond t passed (own_at want.kinds want.table range last (head_of_rows b) at all))
      by_range true passed out over none own rows_are = (without_rows (whole_of last at b), over, record { next_is = refl; last_is = refl; rows_are = sym (ap (keyed want.table) (none out)) ∙ rows_are })
      by_range false passed out over none own rows_are = (whole_of last at b, own, record { next_is = refl; last_is = refl; rows_are = rows_are })

found_read : (want : Want) (range : ℕ) (last : Key) (all : List ℕ) (at : ℕ) (b : FileBlock) (rest : List ℕ) → Stands want range last b → Begins b (drop at all) rest → ltb want.table b.table ≡ false
    → Takes want last at b (found_at want.kinds want.table want.lo want.hi range last (head_of_rows b) at all)
unfolding found_at
found_read want range last all at b rest s begins above = by_tables (ltb b.table want.table) refl where
  by_tables : (below : Bool) → ltb b.table want.table ≡ below
      → Takes want last at b (cond below (other_found range last (head_of_rows b) at all (ends_read (head_of_rows b) (drop (at + 14) all))) (wanted_found want.kinds want.table want.lo want.hi range last (head_of_rows b) at all (ends_read (head_of_rows b) (drop (at + 14) all))))
  by_tables true eb =
      let differs : eqb b.table want.table ≡ false = grind (arith, nat_tests) in
      other_read want range last all at b rest s begins differs
  by_tables false eb =
      let same : b.table ≡ want.table = grind (arith, nat_tests) in
      wanted_read want range last all at b rest s begins same

abbrev some_found : Found → Result (Option Found) ℕ
some_found f = Ok (Some f)

-- which of the two a block is
abbrev Steps : Want → Key → ℕ → FileBlock → Bool → Result (Option Found) ℕ → Type 0
Steps want last at b true r = r ≡ Ok None
Steps want last at b false r = (f : Found) × (r ≡ some_found f) × Taken want last at b f

block_read : (want : Want) (range : ℕ) (last : Key) (all : List ℕ) (at : ℕ) (b : FileBlock) (rest : List ℕ) (above : Bool) → ltb want.table b.table ≡ above → Stands want range last b → Begins b (drop at all) rest
    → Steps want last at b above (block_at want.kinds want.table want.lo want.hi range last at all)
unfolding block_at
block_read want range last all at b rest above ea s begins =
    let read = head_read want range last b (drop at all) rest s begins in
    let le = not_below last b.table (get_or (times_of b.rows) 0 0) (first_behind range b.table last b.rows s.holds.some s.follow) in
    let falls : ltb b.table last.table ≡ false = grind (arith, nat_tests) in
    let here : (moved at (head_found (take 14 (drop at all))) >>= behind_head) ≡ cond above (Ok None) (found_at want.kinds want.table want.lo want.hi range last (head_of_rows b) at all >>= λ f. some_found f) =
    ap (λ (r : Result Head ℕ). moved at r >>= behind_head) read
    ∙ ap (λ (t : Bool). cond t (Err (at + 4)) (cond (ltb want.table b.table) (Ok None) (found_at want.kinds want.table want.lo want.hi range last (head_of_rows b) at all >>= λ f. some_found f))) falls
    ∙ ap (λ (t : Bool). cond t (Ok None) (found_at want.kinds want.table want.lo want.hi range last (head_of_rows b) at all >>= λ f. some_found f)) ea in
    by_tables above ea here where
      behind_head : Head → Result (Option Found) ℕ
      behind_head h = cond (ltb h.table last.table) (Err (at + 4)) (cond (ltb want.table h.table) (Ok None) (found_at want.kinds want.table want.lo want.hi range last h at all >>= λ f. some_found f))

      by_tables : (above : Bool) → ltb want.table b.table ≡ above → (moved at (head_found (take 14 (drop at all))) >>= behind_head) ≡ cond above (Ok None) (found_at want.kinds want.table want.lo want.hi range last (head_of_rows b) at all >>= λ f. some_found f)
          → Steps want last at b above (moved at (head_found (take 14 (drop at all))) >>= behind_head)
      by_tables true e here = here
      by_tables false e here =
          let t = found_read want range last all at b rest s begins e in
          (t.0, here ∙ ap (λ (r : Result Found ℕ). r >>= λ f. some_found f) t.1, t.2)

-- ---- all blocks

abbrev pub all_wanted : Want → List FileBlock → List (Key × Partial)
all_wanted want bs = flat_map (wanted_block want) bs

not_wanted : (want : Want) (b : FileBlock) → want.table < b.table → wanted_block want b ≡ []
not_wanted want b lt =
    let differs : eqb b.table want.table ≡ false = grind (arith, nat_tests) in
    ap (λ (t : Bool). cond t (keyed want.table (wanted_of want.lo want.hi b.rows)) []) differs

-- behind a table above the wanted one nothing is wanted
none_above : (want : Want) (range : ℕ) (bs : List FileBlock) (last : Key) → want.table < last.table → Chain want range last bs → all_wanted want bs ≡ []
none_above want range [] last lt chain = refl
none_above want range (b ∷ bs) last lt chain =
    let s = chain.0 in
    let le = not_below last b.table (get_or (times_of b.rows) 0 0) (first_behind range b.table last b.rows s.holds.some s.follow) in
    let table = ap (λ (k : Key). k.table) (header_last b.table last b.rows s.holds.some) in
    let first = not_wanted want b (omega arith) in
    let others = none_above want range bs (last_key b.table last b.rows) (omega (arith, table)) chain.1 in
    flat_map-cons (wanted_block want) b bs ∙ ap (λ (l : List (Key × Partial)). l ++ all_wanted want bs) first ∙ others

abbrev pub gives : List (Key × Partial) → Walked
gives pairs = record { partials = pairs; fault = None }

pub walk_blocks : (want : Want) (range : ℕ) (bs : List FileBlock) (all : List ℕ) (at : ℕ) (last : Key) (rest : List ℕ) → drop at all ≡ flat_map bytes_of_block bs ++ rest → AreBytes (drop at all) → Chain want range last bs
    → walk want range all (length bs) at last ≡ gives (all_wanted want bs)
unfolding walk
walk_blocks want range [] all at last rest e are chain = refl
walk_blocks want range (b ∷ bs) all at last rest e are chain =
    let more : List ℕ = flat_map bytes_of_block bs ++ rest in
    let begins : Begins b (drop at all) more = record { is = e ∙ ap (λ (l : List ℕ). l ++ rest) (flat_map-cons bytes_of_block b bs) ∙ append_assoc (bytes_of_block b) (flat_map bytes_of_block bs) rest; are = are } in
    let s = chain.0 in
    let place = at_block want range last all at b more s begins in
    let are_more : AreBytes (drop (at + size_of b) all) = subst AreBytes (drop-drop (size_of b) at all) (AreBytes-drop (size_of b) (drop at all) are) in
    by_table (ltb want.table b.table) refl (block_read want range last all at b more (ltb want.table b.table) refl s begins) (walk_blocks want range bs all (at + size_of b) (last_key b.table last b.rows) rest place.next are_more chain.1) where
      by_table : (t : Bool) → ltb want.table b.table ≡ t → Steps want last at b t (block_at want.kinds want.table want.lo want.hi range last at all) → walk want range all (length bs) (at + size_of b) (last_key b.table last b.rows) ≡ gives (all_wanted want bs)
          → then_walk want (walk want range all (length bs)) (block_at want.kinds want.table want.lo want.hi range last at all) ≡ gives (all_wanted want (b ∷ bs))
      by_table true q step others =
          let lt : want.table < b.table = grind (arith, nat_tests) in
          let table = ap (λ (k : Key). k.table) (header_last b.table last b.rows chain.0.holds.some) in
          let none = flat_map-cons (wanted_block want) b bs ∙ ap (λ (l : List (Key × Partial)). l ++ all_wanted want bs) (not_wanted want b lt) ∙ none_above want range bs (last_key b.table last b.rows) (omega (arith, table)) chain.1 in
          ap (then_walk want (walk want range all (length bs))) step ∙ ap gives (sym none)
      by_table false q step others =
          let f = step.0 in
          let t = step.2 in
          let behind : walk want range all (length bs) f.next f.last ≡ gives (all_wanted want bs) = ap (λ (n : ℕ). walk want range all (length bs) n f.last) t.next_is ∙ ap (walk want range all (length bs) (at + size_of b)) t.last_is ∙ others in
          ap (then_walk want (walk want range all (length bs))) step.1
          ∙ ap (λ (w : Walked). record { partials = keyed want.table (wanted_of want.lo want.hi f.rows) ++ w.partials; fault = w.fault }) behind
          ∙ ap (λ (l : List (Key × Partial)). gives (l ++ all_wanted want bs)) t.rows_are
          ∙ ap gives (sym (flat_map-cons (wanted_block want) b bs))

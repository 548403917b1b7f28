-- A file that was written consists of bytes.
use Rattle.std.proofs.Common.{ℕ, zero, suc, ◌/◌, ◌%◌, ◌^◌, ◌<◌, List, [], ◌∷◌, ◌++◌, length, map, Option, sym, subst, arith}
use Rattle.std.specs.List.{AllByRecursion, flat_map}
use Rattle.std.specs.Int.{w8, w16, w32, w64, to_le_bytes, byte_at, bytes_low_first}
use Rattle.std.proofs.lemmas.List.Concat.{flat_map-cons}
use Rattle.td_cols.specs.declared.kinds.Kind.{Kind}
use Rattle.td_cols.specs.Spelling.{AreBytes, spelling_in, spelling}
use Rattle.td_layer.specs.declared.values.Value.{Value}
use Rattle.td_layer.specs.declared.values.Key.{Key}
use Rattle.td_block.specs.declared.header.TheConstants.{BLOCK_MAGIC}
use Rattle.td_block.specs.Bits.{bitmap}
use Rattle.td_block.specs.Columns.{is_named, is_valued, lane, column}
use Rattle.td_block.specs.Rows.{times_of, births_of, columns_of}
use Rattle.td_block.specs.Blocks.{columns}
use Rattle.td_cols.specs.Kinds.{kind_code, kind_width}
use Rattle.td_block.proofs.HeaderLaws.{bytes_are}
use Rattle.td_fileio.specs.Lists.{FileBlock}
use Rattle.td_sttfile.specs.declared.format.FileCut.{FileCut}
use Rattle.td_sttfile.specs.declared.format.TheConstants.{FILE_MAGIC, FILE_END}
use Rattle.td_sttfile.specs.Written.{cut_bytes, bytes_of_block, file_bytes}
use Rattle.td_sttfile.specs.Scanned.{Want}
use Rattle.td_sttfile.proofs.Walks.{all_appended}
use Rattle.td_sttfile.proofs.Openings.{opening_bytes, file_parts}
use Rattle.td_sttfile.proofs.Contents.{last_key, Chain}

abbrev pub Small : List ℕ → Type 0
Small bytes = AllByRecursion (λ (b : ℕ). b < 256) bytes

pub are_bytes : (bytes : List ℕ) → Small bytes → AreBytes bytes
are_bytes [] s i = omega arith
are_bytes (b ∷ bytes) s zero = s.0
are_bytes (b ∷ bytes) s (suc i) = are_bytes bytes s.1 i

number_8 : (n : ℕ) → Small (to_le_bytes w8 n)
number_8 n = (omega arith, tt)

number_16 : (n : ℕ) → Small (to_le_bytes w16 n)
number_16 n = (omega arith, (omega arith, tt))

number_32 : (n : ℕ) → Small (to_le_bytes w32 n)
number_32 n = (omega arith, (omega arith, (omega arith, (omega arith, tt))))

number_64 : (n : ℕ) → Small (to_le_bytes w64 n)
number_64 n = (omega arith, (omega arith, (omega arith, (omega arith, (omega arith, (omega arith, (omega arith, (omega arith, tt))))))))

all_flat : {A : Type 0} (f : A → List ℕ) (xs : List A) → ((x : A) → Small (f x)) → Small (flat_map f xs)
all_flat f [] s = tt
all_flat {A} f (x ∷ xs) s = subst Small (sym (flat_map-cons f x xs)) (all_appended (λ (b : ℕ). b < 256) (f x) (flat_map f xs) (s x) (all_flat f xs s))

both : (xs ys : List ℕ) → Small xs → Small ys → Small (xs ++ ys)
both xs ys p q = all_appended (λ (b : ℕ). b < 256) xs ys p q

-- ---- blocks

byte_small : (i n : ℕ) → byte_at i n < 256
byte_small zero n = omega arith
byte_small (suc i) n = below (n / 256 ^ suc i) where
  below : (m : ℕ) → m % 256 < 256
  below m = omega arith

low_bytes_small : (i k n : ℕ) → Small (bytes_low_first i k n)
low_bytes_small i zero n = tt
low_bytes_small i (suc k) n = (byte_small i n, low_bytes_small (suc i) k n)

lane_small : (kind : Kind) (cell : Option Value) → Small (spelling kind (lane cell))
unfolding spelling_in
lane_small kind cell = low_bytes_small 0 (kind_width kind) _

column_small : (rows : ℕ) (kind : Kind) (all : List (Option Value)) → Small ((column rows kind).spelled all)
unfolding column
column_small rows kind all =
    let code = to_le_bytes w8 (kind_code kind) in
    let names = flat_map (to_le_bytes w8) (bitmap (map is_named all)) in
    let values = flat_map (to_le_bytes w8) (bitmap (map is_valued all)) in
    let lanes = flat_map (λ (cell : Option Value). spelling kind (lane cell)) all in
    both code (names ++ (values ++ lanes)) (number_8 (kind_code kind))
    (both names (values ++ lanes) (all_flat (to_le_bytes w8) (bitmap (map is_named all)) number_8)
    (both values lanes (all_flat (to_le_bytes w8) (bitmap (map is_valued all)) number_8) (all_flat (λ (cell : Option Value). spelling kind (lane cell)) all (lane_small kind))))

columns_small : (rows : ℕ) (kinds : List Kind) (all : List (List (Option Value))) → Small ((columns rows kinds).spelled all)
unfolding columns
columns_small rows [] [] = tt
columns_small rows [] (cells ∷ all) = tt
columns_small rows (kind ∷ kinds) [] = tt
columns_small rows (kind ∷ kinds) (cells ∷ all) = both ((column rows kind).spelled cells) ((columns rows kinds).spelled all) (column_small rows kind cells) (columns_small rows kinds all)

blocks_small : (want : Want) (range : ℕ) (last : Key) (bs : List FileBlock) → Chain want range last bs → Small (flat_map bytes_of_block bs)
blocks_small want range last [] chain = tt
blocks_small want range last (b ∷ bs) chain =
    let n = length b.rows in
    let h = Rattle.td_block.proofs.HeaderLaws.head_bytes b.table n (length b.kinds) in
    let t = flat_map (to_le_bytes w64) (times_of b.rows) in
    let born = flat_map (to_le_bytes w64) (births_of b.rows) in
    let c = (columns n b.kinds).spelled (columns_of (length b.kinds) b.rows) in
    let a = to_le_bytes w32 BLOCK_MAGIC in
    let x = to_le_bytes w32 b.table in
    let y = to_le_bytes w32 n in
    let z = to_le_bytes w16 (length b.kinds) in
    let heads : Small h = both a (x ++ (y ++ z)) (number_32 BLOCK_MAGIC) (both x (y ++ z) (number_32 b.table) (both y z (number_32 n) (number_16 (length b.kinds)))) in
    let whole : Small (h ++ (t ++ (born ++ c))) = both h (t ++ (born ++ c)) heads (both t (born ++ c) (all_flat (to_le_bytes w64) (times_of b.rows) number_64) (both born c (all_flat (to_le_bytes w64) (births_of b.rows) number_64) (columns_small n b.kinds (columns_of (length b.kinds) b.rows)))) in
    let own : Small (bytes_of_block b) = subst Small (sym (bytes_are b.kinds b.table b.rows chain.0.holds.rows_are)) whole in
    subst Small (sym (flat_map-cons bytes_of_block b bs)) (both (bytes_of_block b) (flat_map bytes_of_block bs) own (blocks_small want range (last_key b.table last b.rows) bs chain.1))

-- ---- the file

cut_small : (c : FileCut) → Small (cut_bytes c)
cut_small c = both (to_le_bytes w32 c.table) (to_le_bytes w64 c.lo ++ to_le_bytes w64 c.hi) (number_32 c.table) (both (to_le_bytes w64 c.lo) (to_le_bytes w64 c.hi) (number_64 c.lo) (number_64 c.hi))

opening_small : (range blocks : ℕ) (cuts : List FileCut) → Small (opening_bytes range cuts blocks)
opening_small range blocks cuts =
    let list = to_le_bytes w32 (length cuts) ++ flat_map cut_bytes cuts in
    let m = to_le_bytes w32 FILE_MAGIC in
    let r = to_le_bytes w32 range in
    let b = to_le_bytes w32 blocks in
    both m (r ++ (list ++ b)) (number_32 FILE_MAGIC) (both r (list ++ b) (number_32 range) (both list b (both (to_le_bytes w32 (length cuts)) (flat_map cut_bytes cuts) (number_32 (length cuts)) (all_flat cut_bytes cuts cut_small)) (number_32 blocks)))

pub file_small : (want : Want) (range : ℕ) (last : Key) (cuts : List FileCut) (bs : List FileBlock) → Chain want range last bs → AreBytes (file_bytes range cuts bs)
file_small want range last cuts bs chain =
    let o = opening_bytes range cuts (length bs) in
    let blocks = flat_map bytes_of_block bs in
    let end = to_le_bytes w32 FILE_END in
    let whole : Small (o ++ (blocks ++ end)) = both o (blocks ++ end) (opening_small range (length bs) cuts) (both blocks end (blocks_small want range last bs chain) (number_32 FILE_END)) in
    are_bytes (file_bytes range cuts bs) (subst Small (sym (file_parts range cuts bs)) whole)

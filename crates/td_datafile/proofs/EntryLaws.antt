-- Entries that are written field by field.
use Rattle.std.proofs.Common.{◌≡◌, ℕ, suc, ◌+◌, ◌-◌, ◌^◌, true, ℤ, pos, neg_ℤ, List, [], ◌∷◌, ◌++◌, map, length, Option, refl, sym, ap, ◌∙◌, arith}
use Rattle.std.specs.Prelude.{◌&&◌, ◌≤ℤ◌, ◌<ℤ◌, int_le, slice_index, slice_get, Some}
use Rattle.td_datafile.specs.Entries.{behind, behind_last, behind_entry}
use Rattle.std.specs.Int.{w16, w32, w64, to_le_bytes}
use Rattle.std.specs.List.{flat_map}
use Rattle.std.proofs.lemmas.Int.{ints}
use Rattle.std.proofs.lemmas.List.{append_assoc, append-nil, length-map}
use Rattle.std.proofs.lemmas.List.FromFn.{map-range_with_len_more, length-map-range_with_len}
use Rattle.std.proofs.lemmas.List.Concat.{flat_map-append}
use Rattle.td_cols.specs.declared.kinds.Kind.TheVariants.{Wide}
use Rattle.td_cols.specs.Kinds.{kind_least, kind_most, is_in_range}
use Rattle.td_layer.specs.declared.values.Value.{Value}
use Rattle.td_block.specs.Rows.{Rows, times_of, column_at, columns_of}
use Rattle.td_datafile.specs.declared.format.Summary.{Summary}
use Rattle.td_datafile.specs.declared.format.Entry.{Entry}
use Rattle.td_fileio.specs.Lists.{FileBlock}
use Rattle.td_datafile.specs.Sums.{numbers_of, summary_of, summaries}
use Rattle.td_datafile.specs.Index.{bytes_of_block, entry_of, summary_bytes, entry_bytes}

both_true : (n : ℤ) → neg_ℤ (pos (2 ^ 127)) ≤ℤ n → n <ℤ pos (2 ^ 127) → (int_le (neg_ℤ (pos (2 ^ 127))) n && int_le n (pos (2 ^ 127 - 1))) ≡ true
both_true n low high =
    let a : int_le (neg_ℤ (pos (2 ^ 127))) n ≡ true = grind (arith, ints, low) in
    let b : int_le n (pos (2 ^ 127 - 1)) ≡ true = grind (arith, ints, high) in
    cc

pub in_wide : (n : ℤ) → neg_ℤ (pos (2 ^ 127)) ≤ℤ n → n <ℤ pos (2 ^ 127) → is_in_range Wide n ≡ true
unfolding is_in_range kind_least kind_most
in_wide n low high = both_true n low high

-- one column more
summaries_more : (columns : ℕ) (rows : Rows) → summaries (columns + 1) rows ≡ summaries columns rows ++ summary_of (numbers_of (column_at rows columns)) ∷ []
summaries_more columns rows =
    let of = λ (cells : List (Option Value)). summary_of (numbers_of cells) in
    ap (map of) (map-range_with_len_more (column_at rows) 0 columns columns (omega arith)) ∙ map_end of (columns_of columns rows) (column_at rows columns) where
      map_end : {A B : Type 0} (f : A → B) (xs : List A) (x : A) → map f (xs ++ x ∷ []) ≡ map f xs ++ f x ∷ []
      map_end f [] x = refl
      map_end f (y ∷ ys) x = ap (λ l. f y ∷ l) (map_end f ys x)

pub count_is : (columns : ℕ) (rows : Rows) → length (summaries columns rows) ≡ columns
count_is columns rows = length-map (columns_of columns rows) (λ (cells : List (Option Value)). summary_of (numbers_of cells)) ∙ length-map-range_with_len (column_at rows) 0 columns

pub summaries_go_on : (columns : ℕ) (rows : Rows) (start : List ℕ) (s : Summary) → s ≡ summary_of (numbers_of (column_at rows columns))
    → (start ++ flat_map summary_bytes (summaries columns rows)) ++ summary_bytes s ≡ start ++ flat_map summary_bytes (summaries (columns + 1) rows)
summaries_go_on columns rows start s is =
    let one : flat_map summary_bytes (s ∷ []) ≡ summary_bytes s = append-nil (summary_bytes s) in
    let more = ap (flat_map summary_bytes) (summaries_more columns rows ∙ ap (λ (t : Summary). summaries columns rows ++ t ∷ []) (sym is)) ∙ flat_map-append summary_bytes (summaries columns rows) (s ∷ []) ∙ ap (λ (l : List ℕ). flat_map summary_bytes (summaries columns rows) ++ l) one in
    append_assoc start (flat_map summary_bytes (summaries columns rows)) (summary_bytes s) ∙ ap (λ (l : List ℕ). start ++ l) (sym more)

joined : (start a b c d e f g h : List ℕ) → (((((((start ++ a) ++ b) ++ c) ++ d) ++ e) ++ f) ++ g) ++ h ≡ start ++ (a ++ (b ++ (c ++ (d ++ (e ++ (f ++ (g ++ h)))))))
joined start a b c d e f g h = simp append_assoc

abbrev made : ℕ → ℕ → ℕ → ℕ → ℕ → ℕ → List Summary → Entry
made offset size table rows first last columns = record { offset = offset; size = size; table = table; rows = rows; first = first; last = last; columns = columns }

made_same : (offset size size' table rows first first' last last' : ℕ) (columns : List Summary) → size ≡ size' → first ≡ first' → last ≡ last' → made offset size table rows first last columns ≡ made offset size' table rows first' last' columns
made_same offset size size' table rows first first' last last' columns p q r = cc

-- the fields of an entry were added one after the other
pub entry_added : (start a b c d e f g h : List ℕ) (at size first last : ℕ) (blk : FileBlock) → a ≡ start ++ to_le_bytes w64 at → b ≡ a ++ to_le_bytes w32 size → c ≡ b ++ to_le_bytes w32 blk.table → d ≡ c ++ to_le_bytes w32 (length blk.rows) → e ≡ d ++ to_le_bytes w64 first → f ≡ e ++ to_le_bytes w64 last
    → g ≡ f ++ to_le_bytes w16 (length blk.kinds) → h ≡ g ++ flat_map summary_bytes (summaries (length blk.kinds) blk.rows) → size ≡ length (bytes_of_block blk) → first ≡ slice_index (times_of blk.rows) 0 → last ≡ slice_index (times_of blk.rows) (length blk.rows - 1)
    → h ≡ start ++ entry_bytes (entry_of at blk)
entry_added start a b c d e f g h at size first last blk ia ib ic id ie if_ ig ih is is_first is_last =
    let columns = summaries (length blk.kinds) blk.rows in
    let count : length columns ≡ length blk.kinds = count_is (length blk.kinds) blk.rows in
    let all : h ≡ start ++ (to_le_bytes w64 at ++ (to_le_bytes w32 size ++ (to_le_bytes w32 blk.table ++ (to_le_bytes w32 (length blk.rows) ++ (to_le_bytes w64 first ++ (to_le_bytes w64 last ++ (to_le_bytes w16 (length blk.kinds) ++ flat_map summary_bytes columns))))))) =
    chain a b c d e f g h _ _ _ _ _ _ _ _ ia ib ic id ie if_ ig ih ∙ joined start _ _ _ _ _ _ _ _ in
    let counted = ap (λ (n : ℕ). start ++ (to_le_bytes w64 at ++ (to_le_bytes w32 size ++ (to_le_bytes w32 blk.table ++ (to_le_bytes w32 (length blk.rows) ++ (to_le_bytes w64 first ++ (to_le_bytes w64 last ++ (to_le_bytes w16 n ++ flat_map summary_bytes columns)))))))) (sym count) in
    all ∙ counted ∙ ap (λ (x : Entry). start ++ entry_bytes x) (made_same at size _ blk.table (length blk.rows) first _ last _ columns is is_first is_last) where
      chain : (a b c d e f g h p q r s t u v w : List ℕ) → a ≡ start ++ p → b ≡ a ++ q → c ≡ b ++ r → d ≡ c ++ s → e ≡ d ++ t → f ≡ e ++ u → g ≡ f ++ v → h ≡ g ++ w → h ≡ (((((((start ++ p) ++ q) ++ r) ++ s) ++ t) ++ u) ++ v) ++ w
      chain a b c d e f g h p q r s t u v w ia ib ic id ie if_ ig ih = cc

last_of : (before : List Entry) (last : Entry) → slice_get (before ++ last ∷ []) (length (before ++ last ∷ []) - 1) ≡ Some last
last_of [] last = refl
last_of (b ∷ []) last = refl
last_of (b ∷ c ∷ before) last =
    let at : suc (length (c ∷ before ++ last ∷ [])) - 1 ≡ suc (length (c ∷ before ++ last ∷ []) - 1) = omega arith in
    ap (λ (n : ℕ). slice_get (b ∷ c ∷ before ++ last ∷ []) n) at ∙ last_of (c ∷ before) last

-- what stands behind entries is what stands behind the last of them
pub behind_more : (before : List Entry) (last : Entry) → behind (before ++ last ∷ []) ≡ behind_entry last
behind_more before last = ap behind_last (last_of before last)

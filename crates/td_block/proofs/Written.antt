-- What is added to bytes that are written.
use Rattle.std.proofs.Common.{◌≡◌, ℕ, suc, ◌+◌, ◌*◌, ◌%◌, ◌<◌, Bool, true, List, [], ◌∷◌, ◌++◌, map, length, get_or, take, drop, Option, inl, inr, refl, sym, ap, subst, ◌∙◌, append_assoc, arith}
use Rattle.std.specs.List.{range_with_len, flat_map}
use Rattle.std.specs.Int.{w8, to_le_bytes}
use Rattle.std.proofs.Math.Nat.{mod-eq_of_lt}
use Rattle.std.proofs.lemmas.Bool.{cases_lt, ltb-true}
use Rattle.std.proofs.lemmas.List.{take-map, drop-map, get_or_past}
use Rattle.std.proofs.lemmas.List.FromFn.{map-range_with_len_more}
use Rattle.td_cols.specs.declared.kinds.Kind.{Kind}
use Rattle.td_cols.specs.Kinds.{kind_code}
use Rattle.td_cols.specs.Spelling.{AreBytes, spelling}
use Rattle.td_layer.specs.declared.values.Value.{Value}
use Rattle.td_block.specs.Bits.{bitmap_length, packed, bitmap}
use Rattle.td_block.specs.Columns.{is_fixed, is_named, is_valued, lane, column}
use Rattle.td_block.specs.Rows.{Rows, row_cells, row_at}
use Rattle.td_block.proofs.Bitmaps.{length-bitmap, bitmap-small, byte-below}
use Rattle.td_block.proofs.BlockLaws.{Cells}

-- ---- rows

pub rows_go_on : (ts births : List ℕ) (columns : List Cells) (old new : Rows) (row born : ℕ) (cells : Cells) → new ≡ old ++ (get_or ts row 0, record { birth = record { born = born }; cells = cells }) ∷ [] → born ≡ get_or births row 0 → cells ≡ row_cells columns row
    → old ≡ map (row_at ts births columns) (range_with_len 0 row) → new ≡ map (row_at ts births columns) (range_with_len 0 (row + 1))
rows_go_on ts births columns old new row born cells new_is born_is cells_are old_is =
    new_is
    ∙ ap (λ (b : ℕ). old ++ (get_or ts row 0, record { birth = record { born = b }; cells = cells }) ∷ []) born_is
    ∙ ap (λ (cs : Cells). old ++ (get_or ts row 0, record { birth = record { born = get_or births row 0 }; cells = cs }) ∷ []) cells_are
    ∙ ap (λ (l : Rows). l ++ row_at ts births columns row ∷ []) old_is
    ∙ sym (map-range_with_len_more (row_at ts births columns) 0 row row (omega arith))

-- ---- bitmaps

abbrev byte_at : (Option Value → Bool) → Cells → ℕ → ℕ
byte_at bit cells k = packed (take 8 (drop (8 * k) (map bit cells)))

pub bitmap_goes_on : (bit : Option Value → Bool) (cells front : Cells) (base old new : List ℕ) (at byte : ℕ) → new ≡ old ++ byte ∷ [] → byte ≡ packed (map bit front) → front ≡ take 8 (drop (8 * at) cells)
    → old ≡ base ++ map (byte_at bit cells) (range_with_len 0 at) → new ≡ base ++ map (byte_at bit cells) (range_with_len 0 (at + 1))
bitmap_goes_on bit cells front base old new at byte new_is byte_is front_is old_is =
    let here : byte ≡ byte_at bit cells at = byte_is ∙ ap (λ (l : Cells). packed (map bit l)) front_is ∙ ap packed (sym (take-map bit 8 (drop (8 * at) cells)) ∙ ap (λ (l : List Bool). take 8 l) (sym (drop-map bit (8 * at) cells))) in
    new_is ∙ ap (λ (l : List ℕ). l ++ byte ∷ []) old_is ∙ ap (λ (b : ℕ). (base ++ map (byte_at bit cells) (range_with_len 0 at)) ++ b ∷ []) here
    ∙ append_assoc base (map (byte_at bit cells) (range_with_len 0 at)) (byte_at bit cells at ∷ [])
    ∙ ap (λ (l : List ℕ). base ++ l) (sym (map-range_with_len_more (byte_at bit cells) 0 at at (omega arith)))

-- ---- columns

bytes_again : (bytes : List ℕ) → AreBytes bytes → flat_map (to_le_bytes w8) bytes ≡ bytes
bytes_again [] are = refl
bytes_again (b ∷ bytes) are = ap (λ (n : ℕ). n ∷ flat_map (to_le_bytes w8) bytes) (mod-eq_of_lt (are 0)) ∙ ap (λ (l : List ℕ). b ∷ l) (bytes_again bytes (λ i. are (suc i)))

bitmap_bytes : (bits : List Bool) → AreBytes (bitmap bits)
bitmap_bytes bits k =
    elim (cases_lt k (bitmap_length (length bits))) [
      | inl lt ↦ byte-below _ (get_or (bitmap bits) k 0) (bitmap-small bits k lt)
      | inr past ↦ subst (λ (n : ℕ). n < 256) (sym (get_or_past (bitmap bits) k 0 (omega (arith, past, length-bitmap bits)))) (omega arith)
    ]

pub column_written : (kind : Kind) (cells : Cells) (base a b c d : List ℕ) (own : ℕ) → is_fixed kind ≡ true → own ≡ kind_code kind → a ≡ base ++ own ∷ [] → b ≡ a ++ bitmap (map is_named cells) → c ≡ b ++ bitmap (map is_valued cells)
    → d ≡ c ++ flat_map (λ cell. spelling kind (lane cell)) cells → d ≡ base ++ (column (length cells) kind).spelled cells
unfolding column
column_written kind cells base a b c d own fixed own_is a_is b_is c_is d_is =
    let names : List ℕ = bitmap (map is_named cells) in
    let values : List ℕ = bitmap (map is_valued cells) in
    let lanes : List ℕ = flat_map (λ cell. spelling kind (lane cell)) cells in
    let small : kind_code kind < 256 = (let lt : kind_code kind < 11 = ltb-true (kind_code kind) 11 fixed in omega (arith, lt)) in
    d_is ∙ ap (λ (l : List ℕ). l ++ lanes) (c_is ∙ ap (λ (l : List ℕ). l ++ values) (b_is ∙ ap (λ (l : List ℕ). l ++ names) (a_is ∙ ap (λ (n : ℕ). base ++ n ∷ []) own_is)))
    ∙ append_assoc ((base ++ kind_code kind ∷ []) ++ names) values lanes
    ∙ append_assoc (base ++ kind_code kind ∷ []) names (values ++ lanes)
    ∙ append_assoc base (kind_code kind ∷ []) (names ++ (values ++ lanes))
    ∙ ap (λ (n : ℕ). base ++ (n ∷ (names ++ (values ++ lanes)))) (sym (mod-eq_of_lt small))
    ∙ ap (λ (l : List ℕ). base ++ ((kind_code kind % 256) ∷ (l ++ (values ++ lanes)))) (sym (bytes_again names (bitmap_bytes (map is_named cells))))
    ∙ ap (λ (l : List ℕ). base ++ ((kind_code kind % 256) ∷ (flat_map (to_le_bytes w8) names ++ (l ++ lanes)))) (sym (bytes_again values (bitmap_bytes (map is_valued cells))))

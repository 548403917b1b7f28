-- Cells, rows and headers in front of a text.
use Rattle.std.proofs.Common.{◌≡◌, ◌≢◌, ℕ, suc, ◌<◌, ◌^◌, ℤ, pos, negsuc, Bool, true, false, ◌||◌, ◌==◌, ◌⊎◌, inl, inr, List, [], ◌∷◌, ◌++◌, length, decimal, FitsSigned, refl, sym, ap, ap₂, ◌∙◌, append_assoc, arith}
use Rattle.std.specs.Fmt.{signed_decimal}
use Rattle.std.specs.Int.{w128}
use Rattle.std.specs.List.{flat_map, AllByRecursion}
use Rattle.std.proofs.lemmas.List.{append_cancel_left}
use Rattle.std.proofs.lemmas.Bool.Decides.{nat_tests}
use borrow.Author.Tests.{eqb-true, eq-eqb}
use lib.Chars.{codes}
use Rattle.td_layer.specs.declared.values.Cell.{Cell}
use Rattle.td_layer.specs.declared.values.Cell.TheVariants.{Null, Truth, Num, Frac, Str}
use Rattle.td_model.specs.Text.{quoted_byte, cell_text, more_cell, row_line, more_name, names_text}
use Rattle.td_model.specs.Printable.{IsItem, is_item_byte, IsPrintableCell, IsPrintableRow}
use Rattle.td_report.proofs.Fronts.{EndsAt, is_digit_byte, IsShort, short, span, clash, heads, tails, regroup, in_3, in_4, distinct, number_front, not_number}

-- a comma or a line feed follows a cell
abbrev pub IsAfterCell : List ℕ → Type 0
IsAfterCell [] = ⊥
IsAfterCell (c ∷ cs) = (c ≡ 44) ⊎ (c ≡ 10)

no_digit : (x : List ℕ) → IsAfterCell x → EndsAt is_digit_byte x
no_digit [] h = absurd h
no_digit (c ∷ x) (inl e) = ap is_digit_byte e
no_digit (c ∷ x) (inr e) = ap is_digit_byte e

not_after : (c : ℕ) (y x : List ℕ) → c ≢ 44 → c ≢ 10 → IsAfterCell x → x ≡ c ∷ y → ⊥
not_after c y [] n m h e = absurd h
not_after c y (d ∷ x) n m (inl p) e = n (sym (heads d c x y e) ∙ p)
not_after c y (d ∷ x) n m (inr p) e = m (sym (heads d c x y e) ∙ p)

-- ---- signed numbers

short_pos : (n : ℕ) → FitsSigned w128 (pos n) → IsShort n
short_pos n h = let l : n < 2 ^ 127 = h.sfits in omega (arith, l)

short_neg : (n : ℕ) → FitsSigned w128 (negsuc n) → IsShort (suc n)
short_neg n h = let l : n < 2 ^ 127 = h.sfits in omega (arith, l)

pub signed_front : (v w : ℤ) (x y : List ℕ) → FitsSigned w128 v → FitsSigned w128 w → EndsAt is_digit_byte x → EndsAt is_digit_byte y → signed_decimal v ++ x ≡ signed_decimal w ++ y → (v ≡ w) × (x ≡ y)
signed_front (pos m) (pos n) x y p q ex ey e = let r = number_front m n x y (short_pos m p) (short_pos n q) ex ey e in (ap pos r.0, r.1)
signed_front (pos m) (negsuc n) x y p q ex ey e = absurd (not_number m 45 x _ (short_pos m p) refl e)
signed_front (negsuc m) (pos n) x y p q ex ey e = absurd (not_number n 45 y _ (short_pos n q) refl (sym e))
signed_front (negsuc m) (negsuc n) x y p q ex ey e =
    let r = number_front (suc m) (suc n) x y (short_neg m p) (short_neg n q) ex ey (tails 45 45 _ _ e) in
    (ap negsuc (omega (arith, r.0)), r.1)

-- a signed number begins with a digit or with `-`
abbrev is_signed_byte : ℕ → Bool
is_signed_byte c = is_digit_byte c || c == 45

neither : (a b : Bool) → (a || b) ≡ false → a ≡ false
neither true b e = e
neither false b e = refl

not_signed : (v : ℤ) (x : List ℕ) (c : ℕ) (y : List ℕ) → FitsSigned w128 v → signed_decimal v ++ x ≡ c ∷ y → is_signed_byte c ≡ false → ⊥
not_signed (pos n) x c y p e fails = not_number n c x y (short_pos n p) (neither (is_digit_byte c) _ fails) e
not_signed (negsuc n) x c y p e fails = let yes : true ≡ false = ap is_signed_byte (heads 45 c _ _ e) ∙ fails in cc

-- ---- quoted texts

quote_by : (b : ℕ) (z : List ℕ) (t : Bool) → (b == 39) ≡ t → ((b ≡ 39) × (quoted_byte b ++ z ≡ 39 ∷ 39 ∷ z)) ⊎ ((b ≢ 39) × (quoted_byte b ++ z ≡ b ∷ z))
quote_by b z true e = inl (eqb-true b 39 e, grind (arith, nat_tests))
quote_by b z false e = inr ((λ h. let yes : (b == 39) ≡ true = eq-eqb b 39 h in cc), grind (arith, nat_tests))

-- a quote is two bytes, any other byte is one
split_quote : (b : ℕ) (z : List ℕ) → ((b ≡ 39) × (quoted_byte b ++ z ≡ 39 ∷ 39 ∷ z)) ⊎ ((b ≢ 39) × (quoted_byte b ++ z ≡ b ∷ z))
split_quote b z = quote_by b z (b == 39) refl

byte_front : (b c : ℕ) (z w : List ℕ) → quoted_byte b ++ z ≡ quoted_byte c ++ w → (b ≡ c) × (z ≡ w)
byte_front b c z w e = elim (split_quote b z) [
  | inl h ↦ elim (split_quote c w) [
    | inl k ↦ (h.0 ∙ sym k.0, tails 39 39 _ _ (tails 39 39 _ _ (sym h.1 ∙ e ∙ k.1)))
    | inr k ↦ absurd (k.0 (sym (heads 39 c _ _ (sym h.1 ∙ e ∙ k.1))))
  ]
  | inr h ↦ elim (split_quote c w) [
    | inl k ↦ absurd (h.0 (heads b 39 _ _ (sym h.1 ∙ e ∙ k.1)))
    | inr k ↦ (heads b c _ _ (sym h.1 ∙ e ∙ k.1), tails b c _ _ (sym h.1 ∙ e ∙ k.1))
  ]
]

-- a quote that ends a text isn't doubled
not_quoted : (c : ℕ) (x z : List ℕ) → IsAfterCell x → 39 ∷ x ≡ quoted_byte c ++ z → ⊥
not_quoted c x z p e = elim (split_quote c z) [
  | inl h ↦ not_after 39 z x (λ n. omega (arith, n)) (λ n. omega (arith, n)) p (tails 39 39 _ _ (e ∙ h.1))
  | inr h ↦ h.0 (sym (heads 39 c _ _ (e ∙ h.1)))
]

quoted_front : (t s x y : List ℕ) → IsAfterCell x → IsAfterCell y → flat_map quoted_byte t ++ 39 ∷ x ≡ flat_map quoted_byte s ++ 39 ∷ y → (t ≡ s) × (x ≡ y)
quoted_front [] [] x y p q e = (refl, tails 39 39 x y e)
quoted_front [] (c ∷ s) x y p q e = absurd (not_quoted c x _ p (e ∙ append_assoc (quoted_byte c) (flat_map quoted_byte s) (39 ∷ y)))
quoted_front (b ∷ t) [] x y p q e = absurd (not_quoted b y _ q (sym e ∙ append_assoc (quoted_byte b) (flat_map quoted_byte t) (39 ∷ x)))
quoted_front (b ∷ t) (c ∷ s) x y p q e =
    let r = byte_front b c (flat_map quoted_byte t ++ 39 ∷ x) (flat_map quoted_byte s ++ 39 ∷ y) (sym (append_assoc (quoted_byte b) (flat_map quoted_byte t) (39 ∷ x)) ∙ e ∙ append_assoc (quoted_byte c) (flat_map quoted_byte s) (39 ∷ y)) in
    let s' = quoted_front t s x y p q r.1 in
    (ap₂ (λ (h : ℕ) (k : List ℕ). h ∷ k) r.0 s'.0, s'.1)

-- ---- cells

cell_front : (a b : Cell) (x y : List ℕ) → IsPrintableCell a → IsPrintableCell b → IsAfterCell x → IsAfterCell y → cell_text a ++ x ≡ cell_text b ++ y → (a ≡ b) × (x ≡ y)
cell_front Null Null x y pa pb ax ay e = (refl, append_cancel_left (codes "NULL") x y e)
cell_front (Truth true) (Truth true) x y pa pb ax ay e = (refl, append_cancel_left (codes "true") x y e)
cell_front (Truth false) (Truth false) x y pa pb ax ay e = (refl, append_cancel_left (codes "false") x y e)
cell_front (Num v) (Num w) x y pa pb ax ay e = let r = signed_front v w x y pa pb (no_digit x ax) (no_digit y ay) e in (ap Num r.0, r.1)
cell_front (Num v) (Frac s n) x y pa pb ax ay e =
    let r = signed_front v s x (47 ∷ (decimal n ++ y)) pa pb.0 (no_digit x ax) refl (regroup refl (in_4 (signed_decimal s) (47 ∷ []) (decimal n) y) e) in
    absurd (not_after 47 _ x (λ h. omega (arith, h)) (λ h. omega (arith, h)) ax r.1)
cell_front (Frac s n) (Num v) x y pa pb ax ay e =
    let r = signed_front v s y (47 ∷ (decimal n ++ x)) pb pa.0 (no_digit y ay) refl (regroup refl (in_4 (signed_decimal s) (47 ∷ []) (decimal n) x) (sym e)) in
    absurd (not_after 47 _ y (λ h. omega (arith, h)) (λ h. omega (arith, h)) ay r.1)
cell_front (Frac s n) (Frac t m) x y pa pb ax ay e =
    let r = signed_front s t (47 ∷ (decimal n ++ x)) (47 ∷ (decimal m ++ y)) pa.0 pb.0 refl refl (regroup (in_4 (signed_decimal s) (47 ∷ []) (decimal n) x) (in_4 (signed_decimal t) (47 ∷ []) (decimal m) y) e) in
    let q = number_front n m x y (short n pa.1) (short m pb.1) (no_digit x ax) (no_digit y ay) (tails 47 47 _ _ r.1) in
    (ap₂ Frac r.0 q.0, q.1)
cell_front (Str t) (Str s) x y pa pb ax ay e =
    let r = quoted_front t s x y ax ay (regroup (in_3 (flat_map quoted_byte t) (39 ∷ []) x) (in_3 (flat_map quoted_byte s) (39 ∷ []) y) (tails 39 39 _ _ e)) in
    (ap Str r.0, r.1)
cell_front (Num v) Null x y pa pb ax ay e = absurd (not_signed v x _ _ pa e refl)
cell_front Null (Num v) x y pa pb ax ay e = absurd (not_signed v y _ _ pb (sym e) refl)
cell_front (Frac s n) Null x y pa pb ax ay e = absurd (not_signed s _ _ _ pa.0 (regroup (in_4 (signed_decimal s) (47 ∷ []) (decimal n) x) refl e) refl)
cell_front Null (Frac s n) x y pa pb ax ay e = absurd (not_signed s _ _ _ pb.0 (regroup (in_4 (signed_decimal s) (47 ∷ []) (decimal n) y) refl (sym e)) refl)
cell_front (Num v) (Truth true) x y pa pb ax ay e = absurd (not_signed v x _ _ pa e refl)
cell_front (Truth true) (Num v) x y pa pb ax ay e = absurd (not_signed v y _ _ pb (sym e) refl)
cell_front (Frac s n) (Truth true) x y pa pb ax ay e = absurd (not_signed s _ _ _ pa.0 (regroup (in_4 (signed_decimal s) (47 ∷ []) (decimal n) x) refl e) refl)
cell_front (Truth true) (Frac s n) x y pa pb ax ay e = absurd (not_signed s _ _ _ pb.0 (regroup (in_4 (signed_decimal s) (47 ∷ []) (decimal n) y) refl (sym e)) refl)
cell_front (Num v) (Truth false) x y pa pb ax ay e = absurd (not_signed v x _ _ pa e refl)
cell_front (Truth false) (Num v) x y pa pb ax ay e = absurd (not_signed v y _ _ pb (sym e) refl)
cell_front (Frac s n) (Truth false) x y pa pb ax ay e = absurd (not_signed s _ _ _ pa.0 (regroup (in_4 (signed_decimal s) (47 ∷ []) (decimal n) x) refl e) refl)
cell_front (Truth false) (Frac s n) x y pa pb ax ay e = absurd (not_signed s _ _ _ pb.0 (regroup (in_4 (signed_decimal s) (47 ∷ []) (decimal n) y) refl (sym e)) refl)
cell_front (Num v) (Str t) x y pa pb ax ay e = absurd (not_signed v x _ _ pa e refl)
cell_front (Str t) (Num v) x y pa pb ax ay e = absurd (not_signed v y _ _ pb (sym e) refl)
cell_front (Frac s n) (Str t) x y pa pb ax ay e = absurd (not_signed s _ _ _ pa.0 (regroup (in_4 (signed_decimal s) (47 ∷ []) (decimal n) x) refl e) refl)
cell_front (Str t) (Frac s n) x y pa pb ax ay e = absurd (not_signed s _ _ _ pb.0 (regroup (in_4 (signed_decimal s) (47 ∷ []) (decimal n) y) refl (sym e)) refl)
cell_front (Truth true) b x y pa pb ax ay e = absurd (distinct _ _ e refl)
cell_front (Truth false) b x y pa pb ax ay e = absurd (distinct _ _ e refl)
cell_front a (Truth true) x y pa pb ax ay e = absurd (distinct _ _ e refl)
cell_front a (Truth false) x y pa pb ax ay e = absurd (distinct _ _ e refl)
cell_front a b x y pa pb ax ay e = absurd (distinct _ _ e refl)

-- no cell begins with a line feed
cell_not_end : (c : Cell) (x z : List ℕ) → IsPrintableCell c → cell_text c ++ z ≡ 10 ∷ x → ⊥
cell_not_end (Num v) x z p e = not_signed v z 10 x p e refl
cell_not_end (Frac s n) x z p e = not_signed s (47 ∷ (decimal n ++ z)) 10 x p.0 (regroup (in_4 (signed_decimal s) (47 ∷ []) (decimal n) z) refl e) refl
cell_not_end (Truth true) x z p e = distinct _ _ e refl
cell_not_end (Truth false) x z p e = distinct _ _ e refl
cell_not_end c x z p e = distinct _ _ e refl

-- ---- rows

after_cells : (a : List Cell) (x : List ℕ) → IsAfterCell (flat_map more_cell a ++ 10 ∷ x)
after_cells [] x = inr refl
after_cells (c ∷ a) x = inl refl

more_front : (a b : List Cell) (x y : List ℕ) → IsPrintableRow a → IsPrintableRow b → flat_map more_cell a ++ 10 ∷ x ≡ flat_map more_cell b ++ 10 ∷ y → (a ≡ b) × (x ≡ y)
more_front [] [] x y pa pb e = (refl, tails 10 10 x y e)
more_front [] (d ∷ b) x y pa pb e = let h = heads 10 44 _ _ e in absurd (omega (arith, h))
more_front (c ∷ a) [] x y pa pb e = let h = heads 44 10 _ _ e in absurd (omega (arith, h))
more_front (c ∷ a) (d ∷ b) x y pa pb e =
    let u = flat_map more_cell a in
    let v = flat_map more_cell b in
    let r = cell_front c d (u ++ 10 ∷ x) (v ++ 10 ∷ y) pa.0 pb.0 (after_cells a x) (after_cells b y) (sym (append_assoc (cell_text c) u (10 ∷ x)) ∙ tails 44 44 _ _ e ∙ append_assoc (cell_text d) v (10 ∷ y)) in
    let s = more_front a b x y pa.1 pb.1 r.1 in
    (ap₂ (λ (h : Cell) (k : List Cell). h ∷ k) r.0 s.0, s.1)

-- the parts of a row's line before what follows it
line_parts : (t u x : List ℕ) → ((t ++ u) ++ 10 ∷ []) ++ x ≡ t ++ (u ++ 10 ∷ x)
line_parts t u x = simp append_assoc refl

row_front : (a b : List Cell) (x y : List ℕ) → IsPrintableRow a → IsPrintableRow b → row_line a ++ x ≡ row_line b ++ y → (a ≡ b) × (x ≡ y)
row_front [] [] x y pa pb e = (refl, tails 10 10 x y e)
row_front [] (d ∷ b) x y pa pb e = absurd (cell_not_end d x _ pb.0 (sym (e ∙ line_parts (cell_text d) (flat_map more_cell b) y)))
row_front (c ∷ a) [] x y pa pb e = absurd (cell_not_end c y _ pa.0 (sym (line_parts (cell_text c) (flat_map more_cell a) x) ∙ e))
row_front (c ∷ a) (d ∷ b) x y pa pb e =
    let u = flat_map more_cell a in
    let v = flat_map more_cell b in
    let r = cell_front c d (u ++ 10 ∷ x) (v ++ 10 ∷ y) pa.0 pb.0 (after_cells a x) (after_cells b y) (sym (line_parts (cell_text c) u x) ∙ e ∙ line_parts (cell_text d) v y) in
    let s = more_front a b x y pa.1 pb.1 r.1 in
    (ap₂ (λ (h : Cell) (k : List Cell). h ∷ k) r.0 s.0, s.1)

-- as many rows on either side
pub rows_front : (a b : List (List Cell)) (x y : List ℕ) → length a ≡ length b → AllByRecursion IsPrintableRow a → AllByRecursion IsPrintableRow b → flat_map row_line a ++ x ≡ flat_map row_line b ++ y → (a ≡ b) × (x ≡ y)
rows_front [] [] x y l pa pb e = (refl, e)
rows_front [] (s ∷ b) x y l pa pb e = absurd (omega (arith, l))
rows_front (r ∷ a) [] x y l pa pb e = absurd (omega (arith, l))
rows_front (r ∷ a) (s ∷ b) x y l pa pb e =
    let u = flat_map row_line a in
    let v = flat_map row_line b in
    let f = row_front r s (u ++ x) (v ++ y) pa.0 pb.0 (sym (append_assoc (row_line r) u x) ∙ e ∙ append_assoc (row_line s) v y) in
    let g = rows_front a b x y (omega (arith, l)) pa.1 pb.1 f.1 in
    (ap₂ (λ (h : List Cell) (k : List (List Cell)). h ∷ k) f.0 g.0, g.1)

-- ---- headers

after_items : (a : List (List ℕ)) (x : List ℕ) → EndsAt is_item_byte (flat_map more_name a ++ 10 ∷ x)
after_items [] x = refl
after_items (n ∷ a) x = refl

more_items : (a b : List (List ℕ)) (x y : List ℕ) → AllByRecursion IsItem a → AllByRecursion IsItem b → flat_map more_name a ++ 10 ∷ x ≡ flat_map more_name b ++ 10 ∷ y → (a ≡ b) × (x ≡ y)
more_items [] [] x y pa pb e = (refl, tails 10 10 x y e)
more_items [] (m ∷ b) x y pa pb e = let h = heads 10 44 _ _ e in absurd (omega (arith, h))
more_items (n ∷ a) [] x y pa pb e = let h = heads 44 10 _ _ e in absurd (omega (arith, h))
more_items (n ∷ a) (m ∷ b) x y pa pb e =
    let u = flat_map more_name a in
    let v = flat_map more_name b in
    let r = span is_item_byte n m (u ++ 10 ∷ x) (v ++ 10 ∷ y) pa.0.bytes pb.0.bytes (after_items a x) (after_items b y) (sym (append_assoc n u (10 ∷ x)) ∙ tails 44 44 _ _ e ∙ append_assoc m v (10 ∷ y)) in
    let s = more_items a b x y pa.1 pb.1 r.1 in
    (ap₂ (λ (h : List ℕ) (k : List (List ℕ)). h ∷ k) r.0 s.0, s.1)

-- no item begins with a line feed
item_not_end : (n x z : List ℕ) → IsItem n → n ++ z ≡ 10 ∷ x → ⊥
item_not_end [] x z p e = let h = p.some in omega (arith, h)
item_not_end (c ∷ n) x z p e = clash is_item_byte c n p.bytes (ap is_item_byte (heads c 10 _ _ e))

pub header_front : (a b : List (List ℕ)) (x y : List ℕ) → AllByRecursion IsItem a → AllByRecursion IsItem b → names_text a ++ 10 ∷ x ≡ names_text b ++ 10 ∷ y → (a ≡ b) × (x ≡ y)
header_front [] [] x y pa pb e = (refl, tails 10 10 x y e)
header_front [] (m ∷ b) x y pa pb e = absurd (item_not_end m x _ pb.0 (regroup (in_3 m (flat_map more_name b) (10 ∷ y)) refl (sym e)))
header_front (n ∷ a) [] x y pa pb e = absurd (item_not_end n y _ pa.0 (regroup (in_3 n (flat_map more_name a) (10 ∷ x)) refl e))
header_front (n ∷ a) (m ∷ b) x y pa pb e =
    let u = flat_map more_name a in
    let v = flat_map more_name b in
    let r = span is_item_byte n m (u ++ 10 ∷ x) (v ++ 10 ∷ y) pa.0.bytes pb.0.bytes (after_items a x) (after_items b y) (regroup (in_3 n u (10 ∷ x)) (in_3 m v (10 ∷ y)) e) in
    let s = more_items a b x y pa.1 pb.1 r.1 in
    (ap₂ (λ (h : List ℕ) (k : List (List ℕ)). h ∷ k) r.0 s.0, s.1)

-- Blocks whose cells are all named.
use Rattle.std.proofs.Common.{◌≡◌, ℕ, zero, suc, ◌+◌, ◌-◌, ◌*◌, ◌<◌, ◌≤◌, min, Bool, true, false, eqb, cond, List, [], ◌∷◌, length, get_or, take, drop, Option, Some, None, Result, Ok, Err, refl, sym, ap, subst, ◌∙◌, arith}
use Rattle.std.specs.Prelude.{replicate}
use Rattle.std.proofs.lemmas.List.{length-drop, drop_more, nil_from_length}
use Rattle.td_cols.specs.declared.kinds.Kind.{Kind}
use Rattle.td_block.specs.declared.block.Block.{Block}
use Rattle.td_block.specs.Bits.{bitmap_length, packed}
use Rattle.td_block.specs.Blocks.{decoded}
use Rattle.td_block.specs.Headers.{column_length}
use Rattle.td_block.proofs.Bitmaps.{length-bitmap, bitmap-byte}
use Rattle.td_datafile.specs.Blocks.{full_bitmap, first_other, or_else, first_unnamed, unless_before, whole_decoded}
use Rattle.td_datafile.proofs.Heads.{block_place}

-- ---- the bitmap that names all

so_many : (m n : ℕ) → m ≡ n → replicate m true ≡ replicate n true
so_many m n e = ap (λ (k : ℕ). replicate k true) e

drop_same : (k n : ℕ) → drop k (replicate n true) ≡ replicate (n - k) true
drop_same zero n = so_many n (n - 0) (omega arith)
drop_same (suc k) zero = so_many 0 (0 - suc k) (omega arith)
drop_same (suc k) (suc n) = drop_same k n ∙ so_many (n - k) (suc n - suc k) (omega arith)

take_same : (k n : ℕ) → take k (replicate n true) ≡ replicate (min k n) true
take_same zero n = so_many 0 (min 0 n) (omega arith)
take_same (suc k) zero = so_many 0 (min (suc k) 0) (omega arith)
take_same (suc k) (suc n) = ap (λ (l : List Bool). true ∷ l) (take_same k n) ∙ so_many (suc (min k n)) (min (suc k) (suc n)) (omega arith)

length_same : (n : ℕ) → length (replicate n true) ≡ n
length_same zero = refl
length_same (suc n) = ap suc (length_same n)

pub full_length : (rows : ℕ) → length (full_bitmap rows) ≡ bitmap_length rows
full_length rows = length-bitmap (replicate rows true) ∙ ap bitmap_length (length_same rows)

pub full_at : (rows k : ℕ) → k < bitmap_length rows → get_or (full_bitmap rows) k 0 ≡ packed (replicate (min 8 (rows - 8 * k)) true)
full_at rows k lt =
    let there : k < bitmap_length (length (replicate rows true)) = subst (λ (n : ℕ). k < bitmap_length n) (sym (length_same rows)) lt in
    bitmap-byte (replicate rows true) k there ∙ ap (λ (l : List Bool). packed (take 8 l)) (drop_same (8 * k) rows) ∙ ap packed (take_same 8 (rows - 8 * k))

-- ---- byte by byte

none_left : (at : ℕ) (ws : List ℕ) → first_other at ws [] ≡ None
none_left at [] = refl
none_left at (w ∷ ws) = refl

pub other_next : (ws bs : List ℕ) (k place : ℕ) → k < length ws → place < length bs → first_other place (drop k ws) (drop place bs) ≡ cond (eqb (get_or ws k 0) (get_or bs place 0)) (first_other (place + 1) (drop (k + 1) ws) (drop (place + 1) bs)) (Some place)
other_next ws bs k place lw lb =
    ap (λ (l : List ℕ). first_other place l (drop place bs)) (drop_more ws k 0 lw) ∙ ap (first_other place (get_or ws k 0 ∷ drop (k + 1) ws)) (drop_more bs place 0 lb)

pub other_differs : (ws bs : List ℕ) (k place : ℕ) → k < length ws → place < length bs → eqb (get_or ws k 0) (get_or bs place 0) ≡ false → first_other place (drop k ws) (drop place bs) ≡ Some place
other_differs ws bs k place lw lb e = other_next ws bs k place lw lb ∙ ap (λ (t : Bool). cond t (first_other (place + 1) (drop (k + 1) ws) (drop (place + 1) bs)) (Some place)) e

pub other_cut : (ws bs : List ℕ) (place : ℕ) → length bs ≤ place → first_other place ws (drop place bs) ≡ None
other_cut ws bs place le = ap (first_other place ws) (nil_from_length (drop place bs) (omega (arith, le, length-drop place bs))) ∙ none_left place ws

pub other_done : (ws bs : List ℕ) (k place : ℕ) → length ws ≤ k → first_other place (drop k ws) bs ≡ None
other_done ws bs k place le = ap (λ (l : List ℕ). first_other place l bs) (nil_from_length (drop k ws) (omega (arith, le, length-drop k ws)))

-- where what is left begins behind the bytes, nothing is looked at
pub unnamed_cut : (at rows : ℕ) (kinds : List Kind) (bytes : List ℕ) → length bytes ≤ at → first_unnamed at rows kinds bytes ≡ None
unnamed_cut at rows [] bytes le = refl
unnamed_cut at rows (kind ∷ kinds) bytes le =
    ap (λ (o : Option ℕ). or_else o (first_unnamed (at + column_length rows kind) rows kinds bytes)) (other_cut (full_bitmap rows) bytes (at + 1) (omega (arith, le)))
    ∙ unnamed_cut (at + column_length rows kind) rows kinds bytes (omega (arith, le))

-- ---- places

abbrev some_place : ℕ → Option ℕ
some_place p = Some p

other_within : (at : ℕ) (ws bs : List ℕ) (p : ℕ) → first_other at ws bs ≡ Some p → p < at + length bs
other_within at [] bs p e = absurd (wrong e) where
  wrong : first_other at [] bs ≡ Some p → ⊥
  wrong q = cc
other_within at (w ∷ ws) [] p e = absurd (wrong e) where
  wrong : first_other at (w ∷ ws) [] ≡ Some p → ⊥
  wrong q = cc
other_within at (w ∷ ws) (b ∷ bs) p e = by_test (eqb w b) (λ q. other_within (at + 1) ws bs p q) e where
  by_test : (t : Bool) → (first_other (at + 1) ws bs ≡ Some p → p < (at + 1) + length bs) → cond t (first_other (at + 1) ws bs) (some_place at) ≡ Some p → p < at + length (b ∷ bs)
  by_test true others q = let i = others q in omega (arith, i)
  by_test false others q = let same : at ≡ p = inside q in omega (arith, same) where
    inside : some_place at ≡ Some p → at ≡ p
    inside r = cc

unnamed_within : (at rows : ℕ) (kinds : List Kind) (bytes : List ℕ) (p : ℕ) → first_unnamed at rows kinds bytes ≡ Some p → p < length bytes
unnamed_within at rows [] bytes p e = absurd (wrong e) where
  wrong : first_unnamed at rows [] bytes ≡ Some p → ⊥
  wrong q = cc
unnamed_within at rows (kind ∷ kinds) bytes p e = by_first (first_other (at + 1) (full_bitmap rows) (drop (at + 1) bytes)) refl (λ q. unnamed_within (at + column_length rows kind) rows kinds bytes p q) e where
  by_first : (o : Option ℕ) → first_other (at + 1) (full_bitmap rows) (drop (at + 1) bytes) ≡ o → (first_unnamed (at + column_length rows kind) rows kinds bytes ≡ Some p → p < length bytes)
      → or_else o (first_unnamed (at + column_length rows kind) rows kinds bytes) ≡ Some p → p < length bytes
  by_first None f others q = others q
  by_first (Some r) f others q =
      let same : r ≡ p = inside q in
      let within = other_within (at + 1) (full_bitmap rows) (drop (at + 1) bytes) r f in
      let some : 1 ≤ length (drop (at + 1) bytes) = some_left (drop (at + 1) bytes) f in
      omega (arith, same, within, some, length-drop (at + 1) bytes) where
        inside : some_place r ≡ Some p → r ≡ p
        inside s = cc

        some_left : (bs : List ℕ) → first_other (at + 1) (full_bitmap rows) bs ≡ Some r → 1 ≤ length bs
        some_left [] g = absurd (wrong (sym (none_left (at + 1) (full_bitmap rows)) ∙ g)) where
          wrong : None ≡ some_place r → ⊥
          wrong h = cc
        some_left (b ∷ bs) g = omega arith

pub whole_place : (kinds : List Kind) (rows : ℕ) (part : List ℕ) (place : ℕ) → whole_decoded kinds rows part ≡ Err place → place ≤ length part
unfolding whole_decoded
whole_place kinds rows part place e = by_both (first_unnamed (14 + 16 * rows) rows kinds part) (decoded kinds part) refl refl e where
  by_both : (o : Option ℕ) (r : Result Block ℕ) → first_unnamed (14 + 16 * rows) rows kinds part ≡ o → decoded kinds part ≡ r → unless_before o r ≡ Err place → place ≤ length part
  by_both None (Ok b) f d q = absurd (wrong q) where
    wrong : unless_before {A = Block} None (Ok b) ≡ Err place → ⊥
    wrong s = cc
  by_both None (Err at) f d q = block_place kinds part place (d ∙ q)
  by_both (Some p) (Ok b) f d q =
      let within = unnamed_within (14 + 16 * rows) rows kinds part p f in
      let same : p ≡ place = inside q in
      omega (arith, within, same) where
        inside : unless_before (Some p) (Ok b) ≡ Err place → p ≡ place
        inside s = cc
  by_both (Some p) (Err at) f d q =
      let within = unnamed_within (14 + 16 * rows) rows kinds part p f in
      let same : min p at ≡ place = inside q in
      omega (arith, within, same) where
        inside : unless_before {A = Block} (Some p) (Err at) ≡ Err place → min p at ≡ place
        inside s = cc

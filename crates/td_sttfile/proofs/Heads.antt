-- The head of a block in a part of a file, and places of faults in parts.
use Rattle.std.proofs.Common.{◌≡◌, ℕ, ◌+◌, ◌-◌, ◌*◌, ◌≤◌, ◌^◌, true, ltb, leb, eqb, List, ◌++◌, length, None, Result, Ok, Err, refl, sym, ap, subst, ◌∙◌, arith}
use Rattle.std.specs.Prelude.{◌&&◌, sum_by}
use Rattle.std.specs.Int.{w16, w32, to_le_bytes}
use Rattle.std.proofs.lemmas.Bool.{and_parts, eqb-true, leb-true}
use Rattle.std.proofs.lemmas.List.{length-append}
use Rattle.td_limits.specs.declared.limits.TheConstants.{BLOCK_ROWS}
use Rattle.td_cols.specs.declared.kinds.Kind.{Kind}
use Rattle.td_cols.specs.Spelling.{AreBytes}
use Rattle.td_codec.specs.Fields.{Read}
use Rattle.td_block.specs.declared.block.Block.{Block}
use Rattle.td_block.specs.declared.header.Head.{Head}
use Rattle.td_block.specs.declared.header.TheConstants.{BLOCK_MAGIC}
use Rattle.td_block.specs.Rows.{CanHold}
use Rattle.td_block.specs.Blocks.{Held, Begins, head, block, placed, decoded}
use Rattle.td_block.specs.Headers.{column_length, head_found}
use Rattle.td_block.proofs.BlockLaws.{head_spells}
use Rattle.td_block.proofs.HeaderLaws.{block_size}
use Rattle.td_sttfile.specs.Blocks.{moved}

abbrev HeadParts : Type 0
HeadParts = ℕ × (ℕ × (ℕ × ℕ))

abbrev head_view : HeadParts → Head
head_view h = record { table = h.1.0; rows = h.1.1.0; columns = h.1.1.1 }

head_is : (part : List ℕ) → head_found part ≡ placed part (λ (h : HeadParts) _. head_view h) ((head None).read part)
unfolding head_found
head_is part = refl

abbrev spelled_head : HeadParts → List ℕ
spelled_head h = to_le_bytes w32 h.0 ++ (to_le_bytes w32 h.1.0 ++ (to_le_bytes w32 h.1.1.0 ++ to_le_bytes w16 h.1.1.1))

head_spelled : (h : HeadParts) → (head None).spelled h ≡ spelled_head h
unfolding head
head_spelled h = refl

head_length : (h : HeadParts) → length ((head None).spelled h) ≡ 14
head_length h =
    let a : length (to_le_bytes w32 h.0) ≡ 4 = refl in
    let b : length (to_le_bytes w32 h.1.0) ≡ 4 = refl in
    let c : length (to_le_bytes w32 h.1.1.0) ≡ 4 = refl in
    let d : length (to_le_bytes w16 h.1.1.1) ≡ 2 = refl in
    ap length (head_spelled h)
    ∙ omega (arith, a, b, c, d, length-append (to_le_bytes w32 h.0) (to_le_bytes w32 h.1.0 ++ (to_le_bytes w32 h.1.1.0 ++ to_le_bytes w16 h.1.1.1)), length-append (to_le_bytes w32 h.1.0) (to_le_bytes w32 h.1.1.0 ++ to_le_bytes w16 h.1.1.1), length-append (to_le_bytes w32 h.1.1.0) (to_le_bytes w16 h.1.1.1))

head_fits : (h : HeadParts) → (head None).fits h ≡ true → (h.0 ≡ BLOCK_MAGIC) × (1 ≤ h.1.1.0)
unfolding head
head_fits h e =
    let magic = ltb h.0 (2 ^ 32) && eqb h.0 BLOCK_MAGIC in
    let table = ltb h.1.0 (2 ^ 32) && leb 1 h.1.0 in
    let rows = ltb h.1.1.0 (2 ^ 32) && (leb 1 h.1.1.0 && leb h.1.1.0 BLOCK_ROWS) in
    let columns = ltb h.1.1.1 (2 ^ 16) && true in
    let a = and_parts magic (table && (rows && columns)) e in
    let m = and_parts (ltb h.0 (2 ^ 32)) (eqb h.0 BLOCK_MAGIC) a.0 in
    let b = and_parts table (rows && columns) a.1 in
    let c = and_parts rows columns b.1 in
    let r = and_parts (ltb h.1.1.0 (2 ^ 32)) (leb 1 h.1.1.0 && leb h.1.1.0 BLOCK_ROWS) c.0 in
    let s = and_parts (leb 1 h.1.1.0) (leb h.1.1.0 BLOCK_ROWS) r.1 in
    (eqb-true h.0 BLOCK_MAGIC m.1, leb-true 1 h.1.1.0 s.0)

abbrev found : Head → Result Head ℕ
found h = Ok h

-- a head that was read has 14 bytes, and says that there is a row
pub head_says : (part : List ℕ) (h : Head) → AreBytes part → head_found part ≡ Ok h → (1 ≤ h.rows) × (14 ≤ length part)
head_says part h are e = of_read ((head None).read part) refl (sym (head_is part) ∙ e) where
  of_read : (r : Read HeadParts) → (head None).read part ≡ r → placed part (λ (h : HeadParts) _. head_view h) r ≡ Ok h → (1 ≤ h.rows) × (14 ≤ length part)
  of_read (Err left) read p = absurd (wrong p) where
    wrong : placed part (λ (h : HeadParts) _. head_view h) (Err left) ≡ Ok h → ⊥
    wrong q = cc
  of_read (Ok x) read p =
      let t = (head_spells None).takes part x are read in
      let f = head_fits x.0 t.1 in
      let seen : head_view x.0 ≡ h = inside p in
      (subst (λ (y : Head). 1 ≤ y.rows) seen f.1, omega (arith, ap length t.0.parts, length-append ((head None).spelled x.0) x.1, head_length x.0)) where
        inside : found (head_view x.0) ≡ found h → head_view x.0 ≡ h
        inside q = cc

-- ---- places of faults

placed_within : {A B : Type 0} (bytes : List ℕ) (view : A → ℕ → B) (r : Read A) (place : ℕ) → placed bytes view r ≡ Err place → place ≤ length bytes
placed_within {A} {B} bytes view (Ok x) place e = absurd (wrong e) where
  wrong : placed bytes view (Ok x) ≡ Err place → ⊥
  wrong q = cc
placed_within {A} {B} bytes view (Err left) place e =
    let same : length bytes - left ≡ place = inside e in
    omega (arith, same) where
      inside : placed bytes view (Err left) ≡ Err place → length bytes - left ≡ place
      inside q = cc

pub head_place : (part : List ℕ) (place : ℕ) → head_found part ≡ Err place → place ≤ length part
head_place part place e = placed_within part (λ (h : HeadParts) _. head_view h) ((head None).read part) place (sym (head_is part) ∙ e)

pub block_place : (kinds : List Kind) (part : List ℕ) (place : ℕ) → decoded kinds part ≡ Err place → place ≤ length part
unfolding decoded
block_place kinds part place e = placed_within part (λ (held : Held) used. block_of held used) ((block kinds).read part) place e where
  block_of : Held → ℕ → Block
  block_of held used = record { table = held.0; rows = held.1; used = used }

-- a block that was read takes at least its head and its timestamps
pub own_used : (kinds : List Kind) (part : List ℕ) (b : Block) → Begins kinds part b → CanHold kinds b.table b.rows → 14 + 8 * length b.rows ≤ b.used
own_used kinds part b begins holds =
    let size = block_size kinds b.table b.rows holds in
    let rows = length b.rows in
    let others = sum_by (column_length rows) kinds in
    let used : b.used ≡ 14 + 16 * rows + others = begins.used_is ∙ size in
    omega arith

-- ---- parts that begin at a place

pub moved_ok : {A : Type 0} (at : ℕ) (r : Result A ℕ) (x : A) → moved at r ≡ Ok x → r ≡ Ok x
moved_ok at (Ok y) x e = e
moved_ok {A} at (Err place) x e = absurd (wrong e) where
  wrong : moved {A = A} at (Err place) ≡ Ok x → ⊥
  wrong q = cc

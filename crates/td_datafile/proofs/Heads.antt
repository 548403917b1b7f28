-- Places of faults in parts of a file, and how long a block is at least.
use Rattle.std.proofs.Common.{◌≡◌, ℕ, ◌+◌, ◌-◌, ◌*◌, ◌≤◌, List, length, take, drop, Option, None, Ok, Err, refl, sym, ap, ◌∙◌, arith}
use Rattle.std.specs.Prelude.{IfSome, sum_by}
use Rattle.std.proofs.lemmas.List.{take-take}
use Rattle.td_cols.specs.declared.kinds.Kind.{Kind}
use Rattle.td_layer.specs.declared.scans.ScanFault.{ScanFault}
use Rattle.td_layer.specs.declared.scans.ScanFault.TheVariants as scans
use Rattle.td_codec.specs.Fields.{Read}
use Rattle.td_block.specs.declared.block.Block.{Block}
use Rattle.td_block.specs.declared.header.Head.{Head}
use Rattle.td_block.specs.Rows.{CanHold}
use Rattle.td_block.specs.Blocks.{Held, Begins, head, block, placed, decoded}
use Rattle.td_block.specs.Headers.{column_length, head_found}
use Rattle.td_block.proofs.HeaderLaws.{block_size}
use Rattle.td_fileio.specs.Places.{GivesPlaced}
use Rattle.td_fileio.proofs.ReadLaws.{told_1}
use Rattle.td_datafile.specs.Reading.{Answered}
use Rattle.td_datafile.specs.Blocks.{moved}

abbrev HeadParts : Type 0
HeadParts = ℕ × (ℕ × (ℕ × ℕ))

abbrev head_view : HeadParts → Head
head_view h = record { table = h.1.0; rows = h.1.1.0; columns = h.1.1.1 }

head_is : (part : List ℕ) → head_found part ≡ placed part (λ (h : HeadParts) _. head_view h) ((head None).read part)
unfolding head_found
head_is part = refl

-- ---- places of faults

placed_within : {A B : Type 0} (bytes : List ℕ) (view : A → ℕ → B) (r : Read A) (place : ℕ) → placed bytes view r ≡ Err place → place ≤ length bytes
placed_within {A} {B} bytes view (Ok x) place e = absurd (wrong e) where
  wrong : placed bytes view (Ok x) ≡ Err place → ⊥
  wrong q = cc
placed_within {A} {B} bytes view (Err left) place e =
    let same : length bytes - left ≡ place = inside e in
    omega (arith, same) where
      inside : placed bytes view (Err left) ≡ Err place → length bytes - left ≡ place
      inside q = cc

pub head_place : (part : List ℕ) (place : ℕ) → head_found part ≡ Err place → place ≤ length part
head_place part place e = placed_within part (λ (h : HeadParts) _. head_view h) ((head None).read part) place (sym (head_is part) ∙ e)

pub block_place : (kinds : List Kind) (part : List ℕ) (place : ℕ) → decoded kinds part ≡ Err place → place ≤ length part
unfolding decoded
block_place kinds part place e = placed_within part (λ (held : Held) used. block_of held used) ((block kinds).read part) place e where
  block_of : Held → ℕ → Block
  block_of held used = record { table = held.0; rows = held.1; used = used }

-- a block that was read takes at least its head and its timestamps
pub own_used : (kinds : List Kind) (part : List ℕ) (b : Block) → Begins kinds part b → CanHold kinds b.table b.rows → 14 + 8 * length b.rows ≤ b.used
own_used kinds part b begins holds =
    let size = block_size kinds b.table b.rows holds in
    let rows = length b.rows in
    let others = sum_by (column_length rows) kinds in
    let used : b.used ≡ 14 + 16 * rows + others = begins.used_is ∙ size in
    omega arith

-- ---- the head of a part

-- the first bytes of a part are those of the file
pub head_here : (size at : ℕ) (all items front : List ℕ) → 14 ≤ size → front ≡ take 14 items → items ≡ take size (drop at all) → front ≡ take 14 (drop at all)
head_here size at all items front le ef ei = ef ∙ ap (take 14) ei ∙ take-take 14 size (drop at all) le

pub head_read : (told : Option (List ℕ)) (size at : ℕ) (items front : List ℕ) (h : Head) → 14 ≤ size → front ≡ take 14 items → IfSome told (λ all. items ≡ take size (drop at all)) → moved at (head_found front) ≡ Ok h
    → IfSome told (λ all. moved at (head_found (take 14 (drop at all))) ≡ Ok h)
head_read told size at items front h le ef stands read =
    told_1 told (λ all. items ≡ take size (drop at all)) (λ all. moved at (head_found (take 14 (drop at all))) ≡ Ok h) (λ all p. ap (λ (l : List ℕ). moved at (head_found l)) (sym (head_here size at all items front le ef p)) ∙ read) stands

pub head_fails : {X : Type 0} (view : X → Head) (told : Option (List ℕ)) (file size at : ℕ) (items front : List ℕ) (e : ScanFault) → 14 ≤ size → front ≡ take 14 items → IfSome told (λ all. items ≡ take size (drop at all)) → Answered file (Err e) (moved at (head_found front))
    → GivesPlaced view told file (Err e) (λ all. moved at (head_found (take 14 (drop at all))))
head_fails view told file size at items front scans.ReadFault le ef stands a = tt
head_fails view told file size at items front (scans.Damaged n place) le ef stands a = (
  a.0,
  told_1 told (λ all. items ≡ take size (drop at all)) (λ all. moved at (head_found (take 14 (drop at all))) ≡ Err place) (λ all p. ap (λ (l : List ℕ). moved at (head_found l)) (sym (head_here size at all items front le ef p)) ∙ a.1) stands,
)
head_fails view told file size at items front scans.NoMemory le ef stands a = tt

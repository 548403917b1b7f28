-- What reading a part of a file says of the file.
use Rattle.std.proofs.Common.{◌≡◌, ℕ, ◌+◌, ◌-◌, List, length, take, drop, Option, Result, Ok, Err, refl, sym, ap, ◌∙◌}
use Rattle.std.specs.Prelude.{IfSome}
use Rattle.td_layer.specs.declared.scans.ScanFault.{ScanFault}
use Rattle.td_layer.specs.declared.scans.ScanFault.TheVariants as scans
use Rattle.td_codec.specs.declared.fault.ReadFault.{ReadFault}
use Rattle.td_codec.specs.declared.fault.ReadFault.TheVariants as faults
use Rattle.td_codec.specs.Fields.{Field, Fails, ◌>>=◌}
use Rattle.td_fileio.specs.Faults.{scan_fault_of}
use Rattle.td_fileio.specs.Places.{placed, field_at, GivesPlaced}
use Rattle.td_fileio.proofs.ReadLaws.{told_1, told_2}

-- a part of a file whose field was read
pub field_read : {A : Type 0} (field : Field A) (told : Option (List ℕ)) (size at : ℕ) (part : List ℕ) (x : A) (rest : List ℕ) → IfSome told (λ all. part ≡ take size (drop at all)) → field.read part ≡ Ok (x, rest)
    → IfSome told (λ all. field_at field size at all ≡ Ok (x, at + size))
field_read {A} field told size at part x rest stands read =
    told_1 told (λ all. part ≡ take size (drop at all)) (λ all. field_at field size at all ≡ Ok (x, at + size)) (λ all p.
    ap (λ (l : List ℕ). placed at size (length l) (field.read l)) (sym p) ∙ ap (placed at size (length part)) read) stands

-- a part of a file whose field is at fault
pub field_fails : {X A : Type 0} (view : X → A × ℕ) (field : Field A) (told : Option (List ℕ)) (file size at : ℕ) (part : List ℕ) (e : ReadFault) → IfSome told (λ all. part ≡ take size (drop at all)) → Fails e (field.read part)
    → GivesPlaced view told file (Err (scan_fault_of file at (length part) e)) (field_at field size at)
field_fails view field told file size at part faults.NoMemory stands read = tt
field_fails {X} {A} view field told file size at part (faults.Broken left) stands read = (
  refl,
  told_1 told (λ all. part ≡ take size (drop at all)) (λ all. field_at field size at all ≡ Err (at + (length part - left))) (λ all p.
      ap (λ (l : List ℕ). placed at size (length l) (field.read l)) (sym p) ∙ ap (placed at size (length part)) read) stands,
)

-- a fault of a step is the fault of the steps that begin with it
pub step_fails : {X Y Z W : Type 0} (view : X → Y) (view' : Z → W) (told : Option (List ℕ)) (file : ℕ) (e : ScanFault) (first : List ℕ → Result Y ℕ) (whole : List ℕ → Result W ℕ) → ((all : List ℕ) (at : ℕ) → first all ≡ Err at → whole all ≡ Err at)
    → GivesPlaced view told file (Err e) first → GivesPlaced view' told file (Err e) whole
step_fails view view' told file scans.ReadFault first whole f g = tt
step_fails view view' told file (scans.Damaged n at) first whole f g = (g.0, told_1 told (λ all. first all ≡ Err at) (λ all. whole all ≡ Err at) (λ all e. f all at e) g.1)
step_fails view view' told file scans.NoMemory first whole f g = tt

-- the same, where the steps before it are known
pub later_fails : {X Y Z W : Type 0} (view : X → Y) (view' : Z → W) (told : Option (List ℕ)) (file : ℕ) (e : ScanFault) (first : List ℕ → Result Y ℕ) (whole : List ℕ → Result W ℕ) (Known : List ℕ → Type 0) → ((all : List ℕ) (at : ℕ) → Known all → first all ≡ Err at → whole all ≡ Err at)
    → IfSome told Known → GivesPlaced view told file (Err e) first → GivesPlaced view' told file (Err e) whole
later_fails view view' told file scans.ReadFault first whole Known f k g = tt
later_fails view view' told file (scans.Damaged n at) first whole Known f k g = (g.0, told_2 told Known (λ all. first all ≡ Err at) (λ all. whole all ≡ Err at) (λ all p e. f all at p e) k g.1)
later_fails view view' told file scans.NoMemory first whole Known f k g = tt

pub err_then : {A B : Type 0} (r : Result A ℕ) (k : A → Result B ℕ) (at : ℕ) → r ≡ Err at → (r >>= k) ≡ Err at
err_then r k at e = ap (λ s. s >>= k) e

pub ok_then : {A B : Type 0} (r : Result A ℕ) (k : A → Result B ℕ) (x : A) → r ≡ Ok x → (r >>= k) ≡ k x
ok_then r k x e = ap (λ s. s >>= k) e

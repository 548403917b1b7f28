-- What reading a file of a known size says of the file.
use Rattle.std.proofs.Common.{◌≡◌, ℕ, List, length, Option, Result, Ok, Err, ap, ◌∙◌}
use Rattle.std.specs.Prelude.{IfSome}
use Rattle.td_layer.specs.declared.scans.ScanFault.{ScanFault}
use Rattle.td_layer.specs.declared.scans.ScanFault.TheVariants as scans
use Rattle.td_fileio.specs.Places.{GivesPlaced}
use Rattle.td_fileio.proofs.ReadLaws.{told_2}

-- reading by a size that is the file's
pub resized : {X Y : Type 0} (view : X → Y) (told : Option (List ℕ)) (file size : ℕ) (r : Result X ScanFault) (f : ℕ → List ℕ → Result Y ℕ) → IfSome told (λ all. length all ≡ size) → GivesPlaced view told file r (f size)
    → GivesPlaced view told file r (λ all. f (length all) all)
resized view told file size (Ok x) f sized g = told_2 told (λ all. length all ≡ size) (λ all. f size all ≡ Ok (view x)) (λ all. f (length all) all ≡ Ok (view x)) (λ all l e. ap (λ (k : ℕ). f k all) l ∙ e) sized g
resized view told file size (Err scans.ReadFault) f sized g = tt
resized view told file size (Err (scans.Damaged n at)) f sized g = (g.0, told_2 told (λ all. length all ≡ size) (λ all. f size all ≡ Err at) (λ all. f (length all) all ≡ Err at) (λ all l e. ap (λ (k : ℕ). f k all) l ∙ e) sized g.1)
resized view told file size (Err scans.NoMemory) f sized g = tt

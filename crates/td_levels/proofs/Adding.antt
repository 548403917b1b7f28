-- A file is added to sets, one set after another.
use Rattle.std.proofs.Common.{◌≡◌, ℕ, ◌+◌, suc, ◌<◌, Bool, true, false, List, [], ◌∷◌, length, drop, get_or, None, refl, sym, ap, ◌∙◌, add-one, arith}
use Rattle.std.specs.Prelude.{nat_lt, ◌==◌}
use Rattle.std.proofs.lemmas.Bool.{eqb-true}
use Rattle.std.proofs.lemmas.Bool.Decides.{nat_tests}
use Rattle.std.proofs.Math.Seq.{drop-cons}
use Rattle.td_levels.specs.Levels.{SetFiles}
use Rattle.td_levels.specs.Ranges.{with_file, with_files}

-- what becomes of the sets that are left, where the file waits or not
abbrev pub left : Bool → ℕ → ℕ → List SetFiles → List SetFiles
left true range file sets = with_file range file sets
left false range file sets = sets

abbrev pub alone : ℕ → ℕ → SetFiles
alone range file = record { range = range; stt = file ∷ []; main = None }

abbrev pub newest : ℕ → SetFiles → SetFiles
newest file s = record { range = s.range; stt = file ∷ s.stt; main = s.main }

module _ (range file : ℕ) (s : SetFiles) (ss : List SetFiles) where
  pub before : nat_lt range s.range ≡ true → with_file range file (s ∷ ss) ≡ alone range file ∷ s ∷ ss
  before lt = let ne : (s.range == range) ≡ false = grind (arith, nat_tests) in rw (ne, lt) refl

  pub same : (s.range == range) ≡ true → with_file range file (s ∷ ss) ≡ newest file s ∷ ss
  same eq = rw eq (ap (λ (r : ℕ). let it : SetFiles = record { range = r; stt = file ∷ s.stt; main = s.main } in it ∷ ss) (sym (eqb-true s.range range eq)))

  pub later : nat_lt range s.range ≡ false → (s.range == range) ≡ false → with_file range file (s ∷ ss) ≡ s ∷ with_file range file ss
  later lt eq = rw (eq, lt) refl

-- one more file is added
pub files_more : (ranges files : List ℕ) (i r f : ℕ) (sets new : List SetFiles) → i < length ranges → length files ≡ length ranges → r ≡ get_or ranges i r → f ≡ get_or files i f → new ≡ with_file r f sets
    → with_files (drop (i + 1) ranges) (drop (i + 1) files) new ≡ with_files (drop i ranges) (drop i files) sets
files_more ranges files i r f sets new l same ri fi made =
    let left : drop i ranges ≡ r ∷ drop (suc i) ranges = drop-cons ranges i r l ∙ ap (λ x. x ∷ drop (suc i) ranges) (sym ri) in
    let right : drop i files ≡ f ∷ drop (suc i) files = drop-cons files i f (omega (arith, l, same)) ∙ ap (λ x. x ∷ drop (suc i) files) (sym fi) in
    rw (add-one, left, right, made) refl

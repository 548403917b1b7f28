-- Bytes are cut into lines in one way.
use Rattle.std.proofs.Common.{◌≡◌, ◌≢◌, ℕ, ◌<◌, true, false, ◌==◌, List, [], ◌∷◌, ◌++◌, length, Option, Some, None, unwrap_or, refl, sym, ap, subst, ◌∙◌, arith}
use Rattle.std.proofs.lemmas.Bool.Decides.{nat_tests}
use Rattle.std.proofs.lemmas.List.{length-append}
use Rattle.td_script.specs.Script.{HasNoFeed, AreCut, none, last, more}
use Rattle.td_script.specs.Reading.{parted_at, parts_or, front_of}
use Rattle.td_script.proofs.Readings.{parted_here, parted_nowhere, parted_found, parted_lacks}

cut_at : (bytes bytes' : List ℕ) (lines : List (List ℕ)) → bytes ≡ bytes' → AreCut bytes' lines → AreCut bytes lines
cut_at bytes bytes' lines is h = subst (λ x. AreCut x lines) (sym is) h

-- a byte that is put in front of lines stands in the first
led_by : ℕ → List (List ℕ) → List (List ℕ)
led_by b [] = (b ∷ []) ∷ []
led_by b (line ∷ lines) = (b ∷ line) ∷ lines

led : (b : ℕ) (bytes : List ℕ) (lines : List (List ℕ)) → b ≢ 10 → AreCut bytes lines → AreCut (b ∷ bytes) (led_by b lines)
unfolding led_by
led b bytes lines other none = last (b ∷ []) (λ e. cc) (other, tt)
led b bytes lines other (last line some free) = last (b ∷ line) (λ e. cc) (other, free)
led b bytes lines other (more line rest lines' free h) = more (b ∷ line) rest lines' (other, free) h

-- all bytes can be cut
pub cut_of : (bytes : List ℕ) → (lines : List (List ℕ)) × AreCut bytes lines
cut_of [] = ([], none)
cut_of (b ∷ bs) = elim (b == 10) as (λ t. (b == 10) ≡ t → (lines : List (List ℕ)) × AreCut (b ∷ bs) lines) [
  | true ↦ λ same.
      let is : b ≡ 10 = grind (arith, nat_tests) in
      ([] ∷ (cut_of bs).0, cut_at (b ∷ bs) (10 ∷ bs) ([] ∷ (cut_of bs).0) (ap (λ x. x ∷ bs) is) (more [] bs (cut_of bs).0 tt (cut_of bs).1))
  | false ↦ λ other.
      let apart : b ≢ 10 = λ e. grind (arith, nat_tests) in
      (led_by b (cut_of bs).0, led b bs (cut_of bs).0 apart (cut_of bs).1)
] refl

both_parts : (o : Option (List ℕ × List ℕ)) (a b x y : List ℕ) → o ≡ Some (a, x) → o ≡ Some (b, y) → (a ≡ b) × (x ≡ y)
both_parts o a b x y d e = (ap (λ (r : Option (List ℕ × List ℕ)). (unwrap_or r ([], [])).0) (sym d ∙ e), ap (λ (r : Option (List ℕ × List ℕ)). (unwrap_or r ([], [])).1) (sym d ∙ e))

same_parts : (a b x y : List ℕ) → HasNoFeed a → HasNoFeed b → a ++ 10 ∷ x ≡ b ++ 10 ∷ y → (a ≡ b) × (x ≡ y)
same_parts a b x y h k e = both_parts (parted_at 10 (a ++ 10 ∷ x)) a b x y (parted_here 10 a x h) (ap (parted_at 10) e ∙ parted_here 10 b y k)

no_parts : (a b y : List ℕ) → HasNoFeed a → HasNoFeed b → a ≡ b ++ 10 ∷ y → ⊥
no_parts a b y h k e = let one = parted_nowhere 10 a h in let two = parted_here 10 b y k in let three : parted_at 10 a ≡ parted_at 10 (b ++ 10 ∷ y) = ap (parted_at 10) e in cc

not_nothing : (line rest : List ℕ) → [] ≡ line ++ 10 ∷ rest → ⊥
not_nothing line rest e = absurd (omega (arith, ap length e, length-append line (10 ∷ rest)))

-- in one way
pub one_cut : (bytes bytes' : List ℕ) (a b : List (List ℕ)) → bytes ≡ bytes' → AreCut bytes a → AreCut bytes' b → a ≡ b
one_cut bytes bytes' a b e none none = refl
one_cut bytes bytes' a b e none (last line some free) = absurd (some (sym e))
one_cut bytes bytes' a b e none (more line rest lines free h) = absurd (not_nothing line rest e)
one_cut bytes bytes' a b e (last line some free) none = absurd (some e)
one_cut bytes bytes' a b e (last line some free) (last line' some' free') = ap (λ x. x ∷ []) e
one_cut bytes bytes' a b e (last line some free) (more line' rest' lines' free' h') = absurd (no_parts line line' rest' free free' e)
one_cut bytes bytes' a b e (more line rest lines free h) none = absurd (not_nothing line rest (sym e))
one_cut bytes bytes' a b e (more line rest lines free h) (last line' some' free') = absurd (no_parts line' line rest free' free (sym e))
one_cut bytes bytes' a b e (more line rest lines free h) (more line' rest' lines' free' h') =
    let same = same_parts line line' rest rest' free free' e in
    ap (λ x. x ∷ lines) same.0 ∙ ap (λ xs. line' ∷ xs) (one_cut rest rest' lines lines' same.1 h h')

-- the line in front
front_so : (bytes : List ℕ) (o : Option (List ℕ × List ℕ)) (line after : List ℕ) → bytes ≢ [] → parted_at 10 bytes ≡ o → (line, after) ≡ parts_or bytes o → (lines : List (List ℕ)) → AreCut after lines → AreCut bytes (line ∷ lines)
front_so bytes None line after some is e lines h =
    let line_is : line ≡ bytes = ap (λ (r : List ℕ × List ℕ). r.0) e in
    let after_is : after ≡ [] = ap (λ (r : List ℕ × List ℕ). r.1) e in
    let no_lines : lines ≡ [] = one_cut after [] lines [] after_is h none in
    rw (line_is, no_lines) (last bytes some (parted_lacks 10 bytes is))
front_so bytes (Some p) line after some is e lines h =
    let found = parted_found 10 bytes p is in
    let line_is : p.0 ≡ line = ap (λ (r : List ℕ × List ℕ). r.0) (sym e) in
    let after_is : p.1 ≡ after = ap (λ (r : List ℕ × List ℕ). r.1) (sym e) in
    let whole : bytes ≡ line ++ 10 ∷ after = found.0 ∙ ap (λ x. x ++ 10 ∷ p.1) line_is ∙ ap (λ x. line ++ 10 ∷ x) after_is in
    cut_at bytes (line ++ 10 ∷ after) (line ∷ lines) whole (more line after lines (subst HasNoFeed line_is found.1) h)

pub front_cut : (bytes line after : List ℕ) → bytes ≢ [] → (line, after) ≡ front_of bytes → (lines : List (List ℕ)) → AreCut after lines → AreCut bytes (line ∷ lines)
unfolding front_of
front_cut bytes line after some e lines h = front_so bytes (parted_at 10 bytes) line after some refl e lines h

shorter_so : (bytes : List ℕ) (o : Option (List ℕ × List ℕ)) (line after : List ℕ) → bytes ≢ [] → parted_at 10 bytes ≡ o → (line, after) ≡ parts_or bytes o → length after < length bytes
shorter_so [] None line after some is e = absurd (some refl)
shorter_so (b ∷ bs) None line after some is e =
    let after_is : after ≡ [] = ap (λ (r : List ℕ × List ℕ). r.1) e in
    omega (arith, ap length after_is)
shorter_so bytes (Some p) line after some is e =
    let found = parted_found 10 bytes p is in
    let after_is : p.1 ≡ after = ap (λ (r : List ℕ × List ℕ). r.1) (sym e) in
    omega (arith, ap length found.0, length-append p.0 (10 ∷ p.1), ap length after_is)

pub shorter : (bytes line after : List ℕ) → bytes ≢ [] → (line, after) ≡ front_of bytes → length after < length bytes
unfolding front_of
shorter bytes line after some e = shorter_so bytes (parted_at 10 bytes) line after some refl e

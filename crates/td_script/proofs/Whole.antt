-- What holds of every script: the laws.
use Rattle.std.proofs.Common.{◌≡◌, ℕ, ◌+◌, List, [], ◌∷◌, ◌++◌, length, refl, sym, ap, subst, ◌∙◌, arith}
use Rattle.std.specs.List.{AllByRecursion}
use Rattle.td_script.specs.declared.lines.Line.{Line}
use Rattle.td_script.specs.Script.{LineKind, IsSomeLine, AreOfKinds, lines_from, IsScript, FirstOutside, Numbered}
use Rattle.td_script.proofs.Readings.{one_kind, session_of_form}
use Rattle.td_script.proofs.Cutting.{one_cut}
use Rattle.td_script.proofs.Counting.{AllHaveCounts, numbered_from}

some_line : (before : List (List ℕ)) (line : List ℕ) (after : List (List ℕ)) (kinds : List LineKind) → AreOfKinds (before ++ line ∷ after) kinds → IsSomeLine line
some_line [] line after [] h = absurd h
some_line [] line after (k ∷ kinds) h = (k, h.0)
some_line (b ∷ before) line after [] h = absurd h
some_line (b ∷ before) line after (k ∷ kinds) h = some_line before line after kinds h.1

-- no bytes are a script and have a first line of no form
pub apart : (bytes : List ℕ) (lines : List Line) (n : ℕ) → IsScript bytes lines → FirstOutside bytes n → ⊥
apart bytes lines n (kinds, (cut_lines, cut, of_kinds), is) f =
    f.formless (some_line f.before f.line f.after kinds (subst (λ x. AreOfKinds x kinds) (one_cut bytes bytes cut_lines (f.before ++ f.line ∷ f.after) refl cut f.cut) of_kinds))

same_place : (a : List (List ℕ)) (x : List ℕ) (b : List (List ℕ)) (c : List (List ℕ)) (y : List ℕ) (d : List (List ℕ)) → a ++ x ∷ b ≡ c ++ y ∷ d → AllByRecursion IsSomeLine a → ¬ (IsSomeLine x) → AllByRecursion IsSomeLine c → ¬ (IsSomeLine y) → length a ≡ length c
same_place [] x b [] y d e formed formless formed' formless' = refl
same_place [] x b (z ∷ c) y d e formed formless formed' formless' = let is : z ≡ x = cc in absurd (formless (subst IsSomeLine is formed'.0))
same_place (z ∷ a) x b [] y d e formed formless formed' formless' = let is : z ≡ y = cc in absurd (formless' (subst IsSomeLine is formed.0))
same_place (z ∷ a) x b (w ∷ c) y d e formed formless formed' formless' =
    let rest : a ++ x ∷ b ≡ c ++ y ∷ d = cc in
    omega (arith, same_place a x b c y d rest formed.1 formless formed'.1 formless')

-- there is one first line of no form
pub one_line : (bytes : List ℕ) (m n : ℕ) → FirstOutside bytes m → FirstOutside bytes n → m ≡ n
one_line bytes m n f g =
    let same = same_place f.before f.line f.after g.before g.line g.after (one_cut bytes bytes (f.before ++ f.line ∷ f.after) (g.before ++ g.line ∷ g.after) refl f.cut g.cut) f.formed f.formless g.formed g.formless in
    f.number ∙ ap (λ x. x + 1) same ∙ sym g.number

same_kinds : (lines : List (List ℕ)) (a b : List LineKind) → AreOfKinds lines a → AreOfKinds lines b → a ≡ b
same_kinds [] [] [] h k = refl
same_kinds [] [] (y ∷ b) h k = absurd k
same_kinds [] (x ∷ a) b h k = absurd h
same_kinds (line ∷ lines) [] b h k = absurd h
same_kinds (line ∷ lines) (x ∷ a) [] h k = absurd k
same_kinds (line ∷ lines) (x ∷ a) (y ∷ b) h k = ap (λ z. z ∷ a) (one_kind line x y h.0 k.0) ∙ ap (λ z. y ∷ z) (same_kinds lines a b h.1 k.1)

-- bytes are a script in one way
pub one_script : (bytes : List ℕ) (a b : List Line) → IsScript bytes a → IsScript bytes b → a ≡ b
one_script bytes a b (kinds, (lines, cut, of_kinds), is) (kinds', (lines', cut', of_kinds'), is') =
    let same : kinds ≡ kinds' = same_kinds lines' kinds kinds' (subst (λ x. AreOfKinds x kinds) (one_cut bytes bytes lines lines' refl cut cut') of_kinds) of_kinds' in
    is ∙ ap (lines_from 1 []) same ∙ sym is'

all_have_counts : (lines : List (List ℕ)) (kinds : List LineKind) → AreOfKinds lines kinds → AllHaveCounts kinds
all_have_counts [] [] h = tt
all_have_counts [] (k ∷ kinds) h = absurd h
all_have_counts (line ∷ lines) [] h = absurd h
all_have_counts (line ∷ lines) (k ∷ kinds) h = (session_of_form _ k h.0.form, all_have_counts lines kinds h.1)

-- sessions are in range, and ordinals count the lines of their session
pub numbered : (bytes : List ℕ) (lines : List Line) → IsScript bytes lines → Numbered [] lines
numbered bytes lines (kinds, (cut_lines, cut, of_kinds), is) = subst (Numbered []) (sym is) (numbered_from 1 [] [] kinds (all_have_counts cut_lines kinds of_kinds) (λ s. refl))

-- Texts, cells and windows have one spelling.
use Rattle.std.proofs.Common.{◌≡◌, ℕ, zero, suc, ◌^◌, ◌<◌, Bool, true, false, cond, ltb, eqb, leb, ℤ, List, [], ◌∷◌, ◌++◌, length, Option, Some, None, Result, Ok, Err, refl, sym, ap, subst, ◌∙◌, append_assoc, arith}
use Rattle.std.specs.Prelude.{◌&&◌}
use Rattle.std.specs.Int.{w8, w16, w64, to_le_bytes}
use Rattle.std.proofs.lemmas.Bool.{and_parts, and_from, cond_both, eqb-true, ltb-true}
use Rattle.td_cols.specs.declared.kinds.Kind.TheVariants.{Wide}
use Rattle.td_cols.specs.Spelling.{AreBytes}
use Rattle.td_cols.proofs.OneSpelling.{kind_spelling}
use Rattle.td_layer.specs.declared.values.Cell.{Cell}
use Rattle.td_layer.specs.declared.values.Cell.TheVariants as cells
use Rattle.td_model.specs.declared.windows.WinKey.{WinKey}
use Rattle.td_model.specs.declared.windows.WinRow.{WinRow}
use Rattle.td_codec.specs.Fields.{◌>>=◌, Read, Field, Takes, SpellsOnce, number_read, number, kind_number, signed_64, nothing, unknown, checked, pair, made, part_fits, tagged, string_read}
use Rattle.td_codec.specs.Lists.{ItemsSpellOnce, each, counted}
use Rattle.td_codec.specs.Values.{text, is_printable, truth, as_null, as_truth, as_num, as_frac, as_str, cell_code, fraction, cell_form, cell, cell_list, key_of, win_key, comes_after, win_key_behind, win_keys, win_key_list, row_of, row_key, win_row_behind, win_rows, win_row_list}
use Rattle.td_codec.proofs.FieldLaws.{bind_ok, bind_is, takes_then, wide8, wide16, wide64, number_spells, kind_number_spells, signed_64_spells, nothing_spells, unknown_spells, checked_spells, followed_spells, made_spells, made_tag, tagged_spells, string_takes, string_again, string_within, within_bind, le_self}
use Rattle.td_codec.proofs.ListLaws.{counted_spells}

pub text_spells : (good : List ℕ → Bool) → SpellsOnce (text good)
unfolding text
text_spells good = record {
  takes = λ bytes x are e.
      let b = bind_ok (number_read w16 bytes) (λ (n : ℕ × List ℕ). string_read good (length bytes) n.0 n.1) x e in
      let t = (number_spells w16 wide16).takes bytes b.0 are b.1 in
      let u = string_takes good (length bytes) b.0.0 b.0.1 x t.0.rest_are b.2 in
      let both = takes_then bytes (to_le_bytes w16 b.0.0) b.0.1 x.0 x.1 t.0 u.0 in (
        subst (λ (n : ℕ). Takes bytes (to_le_bytes w16 n ++ x.0) x.1) (sym u.1.0) both,
        and_from _ _ (subst (λ (n : ℕ). ltb n (2 ^ 16) ≡ true) (sym u.1.0) t.1) u.1.1,
      );
  again = λ t rest fits.
      let f = and_parts (ltb (length t) (2 ^ 16)) (good t) fits in
      let whole = (to_le_bytes w16 (length t) ++ t) ++ rest in
      let k : ℕ × List ℕ → Read (List ℕ) = λ n. string_read good (length whole) n.0 n.1 in
      ap (λ (l : List ℕ). number_read w16 l >>= k) (append_assoc (to_le_bytes w16 (length t)) t rest)
      ∙ bind_is k ((number_spells w16 wide16).again (length t) (t ++ rest) f.0)
      ∙ string_again good (length whole) (length t) t rest refl f.1;
  within = λ bytes are.
      within_bind (length bytes) (number_read w16 bytes) (λ (n : ℕ × List ℕ). string_read good (length bytes) n.0 n.1) ((number_spells w16 wide16).within bytes are)
      (λ n e. string_within good (length bytes) n.0 n.1 (length bytes) (le_self (length bytes)));
}

-- ---- cells

truth_back : (n : ℕ) → (ltb n (2 ^ 8) && ltb n 2) ≡ true → Some (cond (eqb n 1) 1 0) ≡ Some n
truth_back zero fits = refl
truth_back (suc zero) fits = refl
truth_back (suc (suc n)) fits = absurd (omega (arith, ltb-true (suc (suc n)) 2 (and_parts (ltb (suc (suc n)) (2 ^ 8)) (ltb (suc (suc n)) 2) fits).1))

pub some_is : {A : Type 0} (x y : A) → Some x ≡ Some y → x ≡ y
some_is x y e = cc

truth_only : (a : ℕ) (b : Bool) → Some (cond b 1 0) ≡ Some a → eqb a 1 ≡ b
truth_only a true e = subst (λ (n : ℕ). eqb n 1 ≡ true) (some_is 1 a e) refl
truth_only a false e = subst (λ (n : ℕ). eqb n 1 ≡ false) (some_is 0 a e) refl

pub truth_spells : SpellsOnce truth
unfolding truth
truth_spells = made_spells (checked (number w8) (λ n. ltb n 2)) (λ n. eqb n 1) (λ b. Some (cond b 1 0)) truth_back truth_only (checked_spells (number w8) (λ n. ltb n 2) (number_spells w8 wide8))

pub wide_spells : SpellsOnce (kind_number Wide)
wide_spells = kind_number_spells Wide (kind_spelling Wide)

pub fraction_spells : SpellsOnce fraction
unfolding fraction
fraction_spells = followed_spells (kind_number Wide) (λ _. checked (number w64) (λ n. leb 1 n)) wide_spells (λ _. checked_spells (number w64) (λ n. leb 1 n) (number_spells w64 wide64))

null_only : (a : Unit {0}) (x : Cell) → as_null x ≡ Some a → cells.Null ≡ x
null_only a cells.Null e = refl
null_only a _ e = absurd cc

truth_is : (a : Bool) (x : Cell) → as_truth x ≡ Some a → cells.Truth a ≡ x
truth_is a (cells.Truth b) e = ap (λ (v : Bool). cells.Truth v) (some_is a b (sym e))
truth_is a _ e = absurd cc

num_is : (a : ℤ) (x : Cell) → as_num x ≡ Some a → cells.Num a ≡ x
num_is a (cells.Num n) e = ap (λ (v : ℤ). cells.Num v) (some_is a n (sym e))
num_is a _ e = absurd cc

frac_is : (a : ℤ × ℕ) (x : Cell) → as_frac x ≡ Some a → cells.Frac a.0 a.1 ≡ x
frac_is a (cells.Frac sum count) e = ap (λ (v : ℤ × ℕ). cells.Frac v.0 v.1) (some_is a (sum, count) (sym e))
frac_is a _ e = absurd cc

str_is : (a : List ℕ) (x : Cell) → as_str x ≡ Some a → cells.Str a ≡ x
str_is a (cells.Str t) e = ap (λ (v : List ℕ). cells.Str v) (some_is a t (sym e))
str_is a _ e = absurd cc

cell_form_spells : (c : ℕ) → SpellsOnce (cell_form c)
unfolding cell_form
cell_form_spells c =
    cond_both (eqb c 0) _ _ (λ (f : Field Cell). SpellsOnce f) (λ _. made_spells nothing (λ _. cells.Null) as_null (λ a _. refl) null_only nothing_spells) (λ _.
    cond_both (eqb c 1) _ _ (λ (f : Field Cell). SpellsOnce f) (λ _. made_spells truth (λ b. cells.Truth b) as_truth (λ a _. refl) truth_is truth_spells) (λ _.
    cond_both (eqb c 2) _ _ (λ (f : Field Cell). SpellsOnce f) (λ _. made_spells (kind_number Wide) (λ n. cells.Num n) as_num (λ a _. refl) num_is wide_spells) (λ _.
    cond_both (eqb c 3) _ _ (λ (f : Field Cell). SpellsOnce f) (λ _. made_spells fraction (λ p. cells.Frac p.0 p.1) as_frac (λ a _. refl) frac_is fraction_spells) (λ _.
    cond_both (eqb c 4) _ _ (λ (f : Field Cell). SpellsOnce f) (λ _. made_spells (text is_printable) (λ t. cells.Str t) as_str (λ a _. refl) str_is (text_spells is_printable)) (λ _. unknown_spells)))))

cell_form_own : (c : ℕ) (x : Cell) → (cell_form c).fits x ≡ true → cell_code x ≡ c
unfolding cell_form
cell_form_own c x =
    let P : Field Cell → Type 0 = λ f. f.fits x ≡ true → cell_code x ≡ c in
    cond_both (eqb c 0) _ _ P (λ e fits. made_tag nothing (λ _. cells.Null) as_null null_only cell_code c (λ a. sym (eqb-true c 0 e)) x (as_null x) refl fits) (λ _.
    cond_both (eqb c 1) _ _ P (λ e fits. made_tag truth (λ b. cells.Truth b) as_truth truth_is cell_code c (λ a. sym (eqb-true c 1 e)) x (as_truth x) refl fits) (λ _.
    cond_both (eqb c 2) _ _ P (λ e fits. made_tag (kind_number Wide) (λ n. cells.Num n) as_num num_is cell_code c (λ a. sym (eqb-true c 2 e)) x (as_num x) refl fits) (λ _.
    cond_both (eqb c 3) _ _ P (λ e fits. made_tag fraction (λ p. cells.Frac p.0 p.1) as_frac frac_is cell_code c (λ a. sym (eqb-true c 3 e)) x (as_frac x) refl fits) (λ _.
    cond_both (eqb c 4) _ _ P (λ e fits. made_tag (text is_printable) (λ t. cells.Str t) as_str str_is cell_code c (λ a. sym (eqb-true c 4 e)) x (as_str x) refl fits) (λ _ fits. absurd cc)))))

pub cell_spells : SpellsOnce cell
unfolding cell
cell_spells = tagged_spells (checked (number w8) (λ code. ltb code 5)) cell_code cell_form cell_form_own (checked_spells (number w8) (λ code. ltb code 5) (number_spells w8 wide8)) cell_form_spells

pub cell_list_spells : SpellsOnce cell_list
unfolding cell_list
cell_list_spells = counted_spells (each cell) (λ before. cell_spells)

-- ---- windows

pub win_key_spells : SpellsOnce win_key
unfolding win_key
win_key_spells = made_spells (pair cell_list signed_64) key_of (λ k. Some (k.part, k.start)) (λ a _. refl) (λ a b e. ap key_of (sym (some_is (b.part, b.start) a e))) (followed_spells cell_list (λ _. signed_64) cell_list_spells (λ _. signed_64_spells))

pub win_key_behind_spells : (before : List WinKey) → SpellsOnce (win_key_behind before)
win_key_behind_spells before = checked_spells win_key (comes_after (λ k. k) before) win_key_spells

pub win_key_list_spells : SpellsOnce win_key_list
unfolding win_key_list win_keys
win_key_list_spells = counted_spells win_keys win_key_behind_spells

pub win_row_behind_spells : (before : List WinRow) → SpellsOnce (win_row_behind before)
unfolding win_row_behind
win_row_behind_spells before =
    made_spells (pair (checked win_key (comes_after row_key before)) (pair signed_64 cell_list)) row_of (λ row. Some (row.key, (row.end, row.cells))) (λ a _. refl) (λ a b e. ap row_of (sym (some_is (b.key, (b.end, b.cells)) a e)))
    (followed_spells (checked win_key (comes_after row_key before)) (λ _. pair signed_64 cell_list) (checked_spells win_key (comes_after row_key before) win_key_spells) (λ _. followed_spells signed_64 (λ _. cell_list) signed_64_spells (λ _. cell_list_spells)))

pub win_row_list_spells : SpellsOnce win_row_list
unfolding win_row_list win_rows win_row_behind
win_row_list_spells = counted_spells win_rows win_row_behind_spells

-- Lists whose count keeps a rule, numbers that may be missing, and fields spelled in another way have one spelling.
use Rattle.std.proofs.Common.{◌≡◌, ℕ, ◌^◌, ◌<◌, Bool, true, false, cond, ltb, eqb, List, [], ◌++◌, length, Option, Some, None, Ok, refl, sym, ap, subst, ◌∙◌, append_assoc, inl, inr, arith}
use Rattle.std.specs.Prelude.{◌&&◌, ◌||◌}
use Rattle.std.specs.Int.{Width, w64, to_le_bytes}
use Rattle.std.specs.List.{flat_map}
use Rattle.std.proofs.lemmas.Bool.{and_parts, and_from, or_right, cond_both, cond-false, eqb-true, eqb-false, ne_eqb, ltb-true, lt-ltb, cases_order, false≢true}
use Rattle.td_codec.specs.Fields.{◌>>=◌, Read, Field, Takes, SpellsOnce, number, nothing, checked}
use Rattle.td_codec.specs.Lists.{Items, ItemsSpellOnce, items_read, all_fit}
use Rattle.td_codec.proofs.FieldLaws.{bind_ok, bind_is, ok_is, takes_then, within_bind, shorter, IsWide, wide64, number_spells, nothing_spells, checked_spells, made_spells}
use Rattle.td_codec.proofs.ListLaws.{items_take, items_again, items_within}
use Rattle.td_manifest.specs.Listed.{listed, absent, NONE, as_some, or_none, is_some_of, perhaps}

-- a field whose values that fit are spelled so
pub respelled : {A : Type 0} (field : Field A) (spelled : A → List ℕ) → ((x : A) → field.fits x ≡ true → field.spelled x ≡ spelled x) → SpellsOnce field → SpellsOnce (record { read = field.read; spelled = spelled; fits = field.fits })
respelled {A} field spelled same one = record {
  takes = λ bytes x are e. let t = one.takes bytes x are e in (subst (λ (l : List ℕ). Takes bytes l x.1) (same x.0 t.1) t.0, t.1);
  again = λ x rest fits. ap (λ (l : List ℕ). field.read (l ++ rest)) (sym (same x fits)) ∙ one.again x rest fits;
  within = one.within;
}

pub listed_spells : {A : Type 0} (w : Width) (test : ℕ → Bool) (items : Items A) → IsWide w → ItemsSpellOnce items → SpellsOnce (listed w test items)
listed_spells {A} w test items wide one =
    let count = checked (number w) test in
    let counts : SpellsOnce count = checked_spells (number w) test (number_spells w wide) in
    record {
      takes = λ bytes x are e.
          let b = bind_ok (count.read bytes) (λ (n : ℕ × List ℕ). items_read items [] n.0 n.1) x e in
          let t = counts.takes bytes b.0 are b.1 in
          let u = items_take items one b.0.0 [] b.0.1 x t.0.rest_are b.2 in
          let both = takes_then bytes (to_le_bytes w b.0.0) b.0.1 (flat_map items.spelled x.0) x.1 t.0 u.0 in (
            subst (λ (n : ℕ). Takes bytes (to_le_bytes w n ++ flat_map items.spelled x.0) x.1) (sym u.1.0) both,
            and_from _ _ (subst (λ (n : ℕ). count.fits n ≡ true) (sym u.1.0) t.1) u.1.1,
          );
      again = λ xs rest fits.
          let f = and_parts (count.fits (length xs)) (all_fit items [] xs) fits in
          let k : ℕ × List ℕ → Read (List A) = λ n. items_read items [] n.0 n.1 in
          ap (λ (l : List ℕ). count.read l >>= k) (append_assoc (to_le_bytes w (length xs)) (flat_map items.spelled xs) rest)
          ∙ bind_is k (counts.again (length xs) (flat_map items.spelled xs ++ rest) f.0)
          ∙ items_again items one xs [] rest f.1;
      within = λ bytes are.
          within_bind (length bytes) (count.read bytes) (λ (n : ℕ × List ℕ). items_read items [] n.0 n.1) (counts.within bytes are) (λ n e.
          let t = counts.takes bytes n are e in
          items_within items one n.0 [] n.1 (length bytes) t.0.rest_are (shorter bytes (to_le_bytes w n.0) n.1 t.0));
    }

absent_only : (a : Unit {0}) (n : ℕ) → cond (eqb n 0) (Some tt) None ≡ Some a → 0 ≡ n
absent_only a n =
    cond_both (eqb n 0) (Some tt) None (λ (o : Option (Unit {0})). o ≡ Some a → 0 ≡ n) (λ e _. sym (eqb-true n 0 e)) (λ _ e. absurd cc)

pub absent_spells : SpellsOnce absent
absent_spells = made_spells nothing (λ _. 0) (λ n. cond (eqb n 0) (Some tt) None) (λ a _. refl) absent_only nothing_spells

-- ---- a number, or none

pub below_none : (n : ℕ) → n < 2 ^ 64 → eqb n NONE ≡ false → n < NONE
below_none n lt ne =
    elim (cases_order n NONE) [
      | inl e ↦ absurd (eqb-false n NONE ne e)
      | inr (inl below) ↦ below
      | inr (inr above) ↦ absurd (omega (arith, lt, above))
    ]

numbered : (n : ℕ) → or_none (as_some n) ≡ n
numbered n = cond_both (eqb n NONE) None (Some n) (λ (o : Option ℕ). or_none o ≡ n) (λ e. sym (eqb-true n NONE e)) (λ _. refl)

tested : (a b : Bool) → a ≡ false → (a || b) ≡ true → b ≡ true
tested true b off e = absurd (false≢true (sym off))
tested false b off e = e

number_fits : (test : ℕ → Bool) (n : ℕ) → (ltb n (2 ^ 64) && (eqb n NONE || test n)) ≡ true → is_some_of test (as_some n) ≡ true
number_fits test n fits =
    let f = and_parts (ltb n (2 ^ 64)) (eqb n NONE || test n) fits in
    cond_both (eqb n NONE) None (Some n) (λ (o : Option ℕ). is_some_of test o ≡ true) (λ _. refl) (λ ne.
    and_from (ltb n NONE) (test n) (lt-ltb n NONE (below_none n (ltb-true _ _ f.0) ne)) (tested (eqb n NONE) (test n) ne f.1))

-- such a number fits a field of 64 bits and isn't the sign of none
some_fits : (test : ℕ → Bool) (n : ℕ) → (ltb n NONE && test n) ≡ true → ((ltb n (2 ^ 64) && (eqb n NONE || test n)) ≡ true) × (eqb n NONE ≡ false)
some_fits test n fits =
    let f = and_parts (ltb n NONE) (test n) fits in
    let below : n < NONE = ltb-true n NONE f.0 in
    (and_from (ltb n (2 ^ 64)) (eqb n NONE || test n) (lt-ltb n (2 ^ 64) (omega (arith, below))) (or_right (eqb n NONE) (test n) f.1), ne_eqb n NONE (λ e. omega (arith, below, e)))

abbrev as_read : ℕ × List ℕ → Read (Option ℕ)
as_read n = Ok (as_some n.0, n.1)

perhaps_again : (test : ℕ → Bool) (o : Option ℕ) (rest : List ℕ) → is_some_of test o ≡ true → ((checked (number w64) (λ n. eqb n NONE || test n)).read (to_le_bytes w64 (or_none o) ++ rest) >>= as_read) ≡ Ok (o, rest)
perhaps_again test None rest fits =
    bind_is as_read ((checked_spells (number w64) (λ n. eqb n NONE || test n) (number_spells w64 wide64)).again NONE rest refl)
perhaps_again test (Some n) rest fits =
    let f = some_fits test n fits in
    bind_is as_read ((checked_spells (number w64) (λ m. eqb m NONE || test m) (number_spells w64 wide64)).again n rest f.0)
    ∙ ap (λ (o : Option ℕ). Ok (o, rest)) (cond-false (eqb n NONE) None (Some n) f.1)

pub perhaps_spells : (test : ℕ → Bool) → SpellsOnce (perhaps test)
unfolding perhaps
perhaps_spells test =
    let number64 = checked (number w64) (λ n. eqb n NONE || test n) in
    let numbers : SpellsOnce number64 = checked_spells (number w64) (λ n. eqb n NONE || test n) (number_spells w64 wide64) in
    record {
      takes = λ bytes x are e.
          let b = bind_ok (number64.read bytes) as_read x e in
          let t = numbers.takes bytes b.0 are b.1 in
          subst (λ (y : Option ℕ × List ℕ). Takes bytes (to_le_bytes w64 (or_none y.0)) y.1 × (is_some_of test y.0 ≡ true)) (ok_is (as_some b.0.0, b.0.1) x b.2)
          (subst (λ (n : ℕ). Takes bytes (to_le_bytes w64 n) b.0.1) (sym (numbered b.0.0)) t.0, number_fits test b.0.0 t.1);
      again = λ o rest fits. perhaps_again test o rest fits;
      within = λ bytes are. within_bind (length bytes) (number64.read bytes) as_read (numbers.within bytes are) (λ x e. tt);
    }

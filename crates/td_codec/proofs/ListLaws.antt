-- A list has one spelling where each of its items has, behind those before it.
use Rattle.std.proofs.Common.{◌≡◌, ℕ, zero, suc, ◌^◌, ◌≤◌, Bool, true, false, ltb, List, [], ◌∷◌, ◌++◌, length, Result, Ok, Err, refl, sym, ap, subst, ◌∙◌, append_assoc, arith}
use Rattle.std.specs.Prelude.{◌&&◌}
use Rattle.std.specs.Int.{w32, to_le_bytes}
use Rattle.std.specs.List.{flat_map}
use Rattle.std.proofs.lemmas.Bool.{and_parts, and_from}
use Rattle.std.proofs.lemmas.List.Concat.{flat_map-cons}
use Rattle.td_cols.specs.Spelling.{AreBytes}
use Rattle.td_codec.specs.Fields.{◌>>=◌, Read, Field, Takes, Within, SpellsOnce, number_read}
use Rattle.td_codec.specs.Lists.{Items, item_behind, ItemsSpellOnce, each, items_read, all_fit, counted}
use Rattle.td_codec.proofs.FieldLaws.{bind_ok, bind_is, ok_is, takes_then, within_bind, within_more, shorter, wide32, number_spells}

pub items_take : {A : Type 0} (items : Items A) (one : ItemsSpellOnce items) (n : ℕ) (before : List A) (bytes : List ℕ) (x : List A × List ℕ) → AreBytes bytes → items_read items before n bytes ≡ Ok x
    → Takes bytes (flat_map items.spelled x.0) x.1 × ((length x.0 ≡ n) × (all_fit items before x.0 ≡ true))
unfolding items_read
items_take {A} items one zero before bytes x are e =
    subst (λ (y : List A × List ℕ). Takes bytes (flat_map items.spelled y.0) y.1 × ((length y.0 ≡ 0) × (all_fit items before y.0 ≡ true))) (ok_is ([], bytes) x e)
    (record { parts = refl; rest_are = are }, (refl, refl))
items_take {A} items one (suc n) before bytes x are e =
    let a = bind_ok (items.read before bytes) (λ (first : A × List ℕ). items_read items (before ++ first.0 ∷ []) n first.1 >>= λ others. Ok (first.0 ∷ others.0, others.1)) x e in
    let b = bind_ok (items_read items (before ++ a.0.0 ∷ []) n a.0.1) (λ (others : List A × List ℕ). Ok (a.0.0 ∷ others.0, others.1)) x a.2 in
    let t = (one before).takes bytes a.0 are a.1 in
    let u = items_take items one n (before ++ a.0.0 ∷ []) a.0.1 b.0 t.0.rest_are b.1 in
    let both = takes_then bytes (items.spelled a.0.0) a.0.1 (flat_map items.spelled b.0.0) b.0.1 t.0 u.0 in
    let whole : Takes bytes (flat_map items.spelled (a.0.0 ∷ b.0.0)) b.0.1 = subst (λ (l : List ℕ). Takes bytes l b.0.1) (sym (flat_map-cons items.spelled a.0.0 b.0.0)) both in
    subst (λ (y : List A × List ℕ). Takes bytes (flat_map items.spelled y.0) y.1 × ((length y.0 ≡ suc n) × (all_fit items before y.0 ≡ true))) (ok_is (a.0.0 ∷ b.0.0, b.0.1) x b.2)
    (whole, (ap suc u.1.0, and_from _ _ t.1 u.1.1))

pub items_again : {A : Type 0} (items : Items A) (one : ItemsSpellOnce items) (xs : List A) (before : List A) (rest : List ℕ) → all_fit items before xs ≡ true
    → items_read items before (length xs) (flat_map items.spelled xs ++ rest) ≡ Ok (xs, rest)
unfolding items_read
items_again items one [] before rest fits = refl
items_again {A} items one (x ∷ xs) before rest fits =
    let f = and_parts (items.fits before x) (all_fit items (before ++ x ∷ []) xs) fits in
    let k : A × List ℕ → Read (List A) = λ first. items_read items (before ++ first.0 ∷ []) (length xs) first.1 >>= λ others. Ok (first.0 ∷ others.0, others.1) in
    let apart : flat_map items.spelled (x ∷ xs) ++ rest ≡ items.spelled x ++ (flat_map items.spelled xs ++ rest) = ap (λ (l : List ℕ). l ++ rest) (flat_map-cons items.spelled x xs) ∙ append_assoc (items.spelled x) (flat_map items.spelled xs) rest in
    ap (λ (l : List ℕ). items.read before l >>= k) apart
    ∙ bind_is k ((one before).again x (flat_map items.spelled xs ++ rest) f.0)
    ∙ bind_is (λ (others : List A × List ℕ). Ok (x ∷ others.0, others.1)) (items_again items one xs (before ++ x ∷ []) rest f.1)

pub items_within : {A : Type 0} (items : Items A) (one : ItemsSpellOnce items) (n : ℕ) (before : List A) (bytes : List ℕ) (bound : ℕ) → AreBytes bytes → length bytes ≤ bound → Within bound (items_read items before n bytes)
unfolding items_read
items_within items one zero before bytes bound are le = tt
items_within {A} items one (suc n) before bytes bound are le =
    within_bind bound (items.read before bytes) (λ (first : A × List ℕ). items_read items (before ++ first.0 ∷ []) n first.1 >>= λ others. Ok (first.0 ∷ others.0, others.1))
    (within_more (length bytes) bound (items.read before bytes) le ((one before).within bytes are)) (λ first e.
    let t = (one before).takes bytes first are e in
    let less : length first.1 ≤ bound = omega (arith, shorter bytes (items.spelled first.0) first.1 t.0) in
    within_bind bound (items_read items (before ++ first.0 ∷ []) n first.1) (λ (others : List A × List ℕ). Ok (first.0 ∷ others.0, others.1))
    (items_within items one n (before ++ first.0 ∷ []) first.1 bound t.0.rest_are less) (λ others e2. tt))

pub counted_spells : {A : Type 0} (items : Items A) → ItemsSpellOnce items → SpellsOnce (counted items)
counted_spells {A} items one = record {
  takes = λ bytes x are e.
      let b = bind_ok (number_read w32 bytes) (λ (n : ℕ × List ℕ). items_read items [] n.0 n.1) x e in
      let t = (number_spells w32 wide32).takes bytes b.0 are b.1 in
      let u = items_take items one b.0.0 [] b.0.1 x t.0.rest_are b.2 in
      let both = takes_then bytes (to_le_bytes w32 b.0.0) b.0.1 (flat_map items.spelled x.0) x.1 t.0 u.0 in (
        subst (λ (n : ℕ). Takes bytes (to_le_bytes w32 n ++ flat_map items.spelled x.0) x.1) (sym u.1.0) both,
        and_from _ _ (subst (λ (n : ℕ). ltb n (2 ^ 32) ≡ true) (sym u.1.0) t.1) u.1.1,
      );
  again = λ xs rest fits.
      let f = and_parts (ltb (length xs) (2 ^ 32)) (all_fit items [] xs) fits in
      let k : ℕ × List ℕ → Read (List A) = λ n. items_read items [] n.0 n.1 in
      ap (λ (l : List ℕ). number_read w32 l >>= k) (append_assoc (to_le_bytes w32 (length xs)) (flat_map items.spelled xs) rest)
      ∙ bind_is k ((number_spells w32 wide32).again (length xs) (flat_map items.spelled xs ++ rest) f.0)
      ∙ items_again items one xs [] rest f.1;
  within = λ bytes are.
      within_bind (length bytes) (number_read w32 bytes) (λ (n : ℕ × List ℕ). items_read items [] n.0 n.1) ((number_spells w32 wide32).within bytes are) (λ n e.
      let t = (number_spells w32 wide32).takes bytes n are e in
      items_within items one n.0 [] n.1 (length bytes) t.0.rest_are (shorter bytes (to_le_bytes w32 n.0) n.1 t.0));
}

-- The order of keys, as a relation and as std's test.
use Rattle.std.proofs.Common.{◌≡◌, Bool, true, false, ◌&&◌, List, [], ◌∷◌, refl, sym, ◌∙◌}
use Rattle.std.specs.Cmp.{IsTotalOrder}
use Rattle.std.specs.FinMap.Entries.{is_sorted, below_all}
use Rattle.std.specs.Ordering.{nat_cmp, ordering_then, is_lt}
use Rattle.std.specs.declared.cmp.Ordering.{Ordering}
use Rattle.std.specs.declared.cmp.Ordering.TheVariants.{Less, Equal, Greater}
use Rattle.std.proofs.lemmas.Cmp.{nat_cmp_total, on_total, then_total, ranked}
use Rattle.td_layer.specs.declared.values.Key.{Key}
use Rattle.td_layer.specs.Keys.{key_cmp, AllAfter, InKeyOrder}

pub keys_total : IsTotalOrder {K = Key} key_cmp
keys_total = then_total (on_total (λ (k : Key). k.table) nat_cmp_total) (on_total (λ (k : Key). k.ts) nat_cmp_total)

-- keys that tie are equal
both_equal : (a b : Ordering) → ordering_then a b ≡ Equal → (a ≡ Equal) × (b ≡ Equal)
both_equal Less b e = (e, absurd (less_not e))
  where
    less_not : Less ≡ Equal → ⊥
    less_not h = cc
both_equal Equal b e = (refl, e)
both_equal Greater b e = (e, absurd (greater_not e))
  where
    greater_not : Greater ≡ Equal → ⊥
    greater_not h = cc

pub keys_tie : (a b : Key) → key_cmp a b ≡ Equal → a ≡ b
keys_tie a b e =
    let both = both_equal (nat_cmp a.table b.table) (nat_cmp a.ts b.ts) e in
    let tables = ranked a.table b.table Equal (sym both.0) in
    let times = ranked a.ts b.ts Equal (sym both.1) in
    λ i. record { table = tables i; ts = times i }

module _ {X : Type 0} where
  below : (k : Key) (es : List (Key × X)) → AllAfter key_cmp k es → below_all key_cmp k es ≡ true
  below k [] a = refl
  below k (e ∷ es) a = rw (a.0, below k es a.1) refl

  pub sorted : (es : List (Key × X)) → InKeyOrder es → is_sorted key_cmp es ≡ true
  sorted [] r = refl
  sorted (e ∷ es) r = rw (below e.0 es r.0, sorted es r.1) refl

  after : (k : Key) (es : List (Key × X)) → below_all key_cmp k es ≡ true → AllAfter key_cmp k es
  after k [] a = tt
  after k (e ∷ es) a = by (key_cmp k e.0) (below_all key_cmp k es) refl refl a (after k es)
    where
      by : (o : Ordering) (b : Bool) → key_cmp k e.0 ≡ o → below_all key_cmp k es ≡ b → (is_lt o && b) ≡ true → (below_all key_cmp k es ≡ true → AllAfter key_cmp k es) → AllAfter key_cmp k (e ∷ es)
      by Less b p q h rest = (p, rest (q ∙ h))
      by Equal b p q h rest = absurd (cc)
      by Greater b p q h rest = absurd (cc)

  pub rising : (es : List (Key × X)) → is_sorted key_cmp es ≡ true → InKeyOrder es
  rising [] h = tt
  rising (e ∷ es) h = by (below_all key_cmp e.0 es) (is_sorted key_cmp es) refl refl h (rising es)
    where
      by : (a b : Bool) → below_all key_cmp e.0 es ≡ a → is_sorted key_cmp es ≡ b → (a && b) ≡ true → (is_sorted key_cmp es ≡ true → InKeyOrder es) → InKeyOrder (e ∷ es)
      by true b p q h rest = (after e.0 es p, rest (q ∙ h))
      by false b p q h rest = absurd (cc)

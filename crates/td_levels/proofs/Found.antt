-- Pairs by key: what is found of them, where they stand behind one another, after a put, and in the order of their keys.
use Rattle.std.proofs.Common.{◌≡◌, ℕ, ◌<◌, Bool, true, false, cond, List, [], ◌∷◌, ◌++◌, Option, Some, None, refl, sym, ap, subst, ◌∙◌}
use Rattle.std.specs.List.{AllByRecursion}
use Rattle.std.specs.Map.{lookup}
use Rattle.std.specs.BTreeMap.{insert_entry, is_at}
use Rattle.std.specs.Cmp.{nat_cmp_is}
use Rattle.std.specs.FinMap.Entries.{find, put, by_order, find-put}
use Rattle.std.specs.Ordering.{nat_cmp, ordering_then, eq_by_cmp, match_ordering}
use Rattle.std.specs.declared.cmp.Ordering.{Ordering}
use Rattle.std.specs.declared.cmp.Ordering.TheVariants.{Less, Equal, Greater}
use Rattle.td_layer.specs.declared.values.Key.{Key}
use Rattle.td_layer.specs.Keys.{key_cmp, AllAfter, InKeyOrder}
use Rattle.td_fileset.proofs.Ordered.{keys_total}
use Rattle.td_fileset.proofs.Rows.{put_rises}

-- the first of two that is there
abbrev pub or_else : {X : Type 0} → Option X → Option X → Option X
or_else None other = other
or_else (Some x) other = Some x

-- a key of a lower table comes first
pub lower_first : (a b : Key) → a.table < b.table → key_cmp a b ≡ Less
lower_first a b lt = ap (λ (o : Ordering). ordering_then o (nat_cmp a.ts b.ts)) (sym (nat_cmp_is a.table b.table Less lt))

module _ {X : Type 0} where
  pub or_none : (o : Option X) → or_else o None ≡ o
  or_none None = refl
  or_none (Some x) = refl

  -- ---- what is found

  pub find_behind : (q : Key) (es fs : List (Key × X)) → find key_cmp q (es ++ fs) ≡ or_else (find key_cmp q es) (find key_cmp q fs)
  find_behind q [] fs = refl
  find_behind q (e ∷ es) fs = by (eq_by_cmp key_cmp q e.0) (find_behind q es fs)
    where
      by : (b : Bool) → find key_cmp q (es ++ fs) ≡ or_else (find key_cmp q es) (find key_cmp q fs) → cond b (Some e.1) (find key_cmp q (es ++ fs)) ≡ or_else (cond b (Some e.1) (find key_cmp q es)) (find key_cmp q fs)
      by true i = refl
      by false i = i

  -- a look-up finds the same
  pub looked_up : (q : Key) (es : List (Key × X)) → lookup (is_at (key_cmp q)) es ≡ find key_cmp q es
  looked_up q [] = refl
  looked_up q (e ∷ es) = ap (cond (eq_by_cmp key_cmp q e.0) (Some e.1)) (looked_up q es)

  pub inserted : (k : Key) (x : X) (es : List (Key × X)) → insert_entry key_cmp es k x ≡ put key_cmp k x es
  inserted k x [] = refl
  inserted k x (e ∷ es) = by (key_cmp k e.0) (inserted k x es)
    where
      by : (o : Ordering) → insert_entry key_cmp es k x ≡ put key_cmp k x es
          → match_ordering o ((k, x) ∷ e ∷ es) ((e.0, x) ∷ es) (e ∷ insert_entry key_cmp es k x) ≡ by_order o ((k, x) ∷ e ∷ es) ((e.0, x) ∷ es) (e ∷ put key_cmp k x es)
      by Less i = refl
      by Equal i = refl
      by Greater i = ap (λ (l : List (Key × X)). e ∷ l) i

  pub find_inserted : (q k : Key) (x : X) (es : List (Key × X)) → find key_cmp q (insert_entry key_cmp es k x) ≡ cond (eq_by_cmp key_cmp q k) (Some x) (find key_cmp q es)
  find_inserted q k x es = ap (find key_cmp q) (inserted k x es) ∙ find-put key_cmp keys_total q k x es

  -- ---- order

  pub insert_rises : (k : Key) (x : X) (es : List (Key × X)) → InKeyOrder es → InKeyOrder (insert_entry key_cmp es k x)
  insert_rises k x es r = subst (λ (l : List (Key × X)). InKeyOrder l) (sym (inserted k x es)) (put_rises k x es r)

  -- pairs of one table, and pairs of tables above one
  abbrev pub AreOf : ℕ → List (Key × X) → Type 0
  AreOf table es = AllByRecursion (λ (e : Key × X). e.0.table ≡ table) es

  abbrev pub AreAbove : ℕ → List (Key × X) → Type 0
  AreAbove table es = AllByRecursion (λ (e : Key × X). table < e.0.table) es

  after_both : (k : Key) (es fs : List (Key × X)) → AllAfter key_cmp k es → AllAfter key_cmp k fs → AllAfter key_cmp k (es ++ fs)
  after_both k [] fs a b = b
  after_both k (e ∷ es) fs a b = (a.0, after_both k es fs a.1 b)

  above_after : (table : ℕ) (k : Key) (fs : List (Key × X)) → k.table ≡ table → AreAbove table fs → AllAfter key_cmp k fs
  above_after table k [] is a = tt
  above_after table k (f ∷ fs) is a = (lower_first k f.0 (subst (λ (n : ℕ). n < f.0.table) (sym is) a.0), above_after table k fs is a.1)

  pub rise_behind : (table : ℕ) (es fs : List (Key × X)) → AreOf table es → AreAbove table fs → InKeyOrder es → InKeyOrder fs → InKeyOrder (es ++ fs)
  rise_behind table [] fs of above r s = s
  rise_behind table (e ∷ es) fs of above r s = (after_both e.0 es fs r.0 (above_after table e.0 fs of.0 above), rise_behind table es fs of.1 above r.1 s)

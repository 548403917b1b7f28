-- The rows under layers, as their first partials are used key by key.
use Rattle.std.proofs.Common.{◌≡◌, Bool, true, false, cond, List, [], ◌∷◌, ◌++◌, map, Option, Some, None, refl, sym, ap, ◌∙◌, subst}
use Rattle.std.specs.Prelude.{reverse}
use Rattle.std.specs.List.{AllByRecursion}
use Rattle.std.specs.Ordering.{is_eq, is_le, is_lt, eq_by_cmp, ordering_reverse}
use Rattle.std.specs.declared.cmp.Ordering.{Ordering}
use Rattle.std.specs.declared.cmp.Ordering.TheVariants.{Less, Equal, Greater}
use Rattle.std.specs.Cmp.{tied_itself}
use Rattle.std.specs.FinMap.Entries.{find}
use Rattle.std.proofs.lemmas.List.{reverse-append}
use Rattle.td_layer.specs.declared.values.Key.{Key}
use Rattle.td_layer.specs.declared.values.Row.{Row}
use Rattle.td_layer.specs.declared.parts.Partial.{Partial}
use Rattle.td_layer.specs.Keys.{key_cmp, AllAfter, InKeyOrder}
use Rattle.td_layer.specs.Parts.{act}
use Rattle.td_layer.specs.Scans.{is_cut}
use Rattle.td_fileset.specs.Stack.{Layer, part_of, row_at, rows_of}
use Rattle.td_fileset.specs.Merged.{behind}
use Rattle.td_fileset.proofs.Ordered.{keys_total, keys_tie}
use Rattle.td_fileset.proofs.Rows.{rows_rise, rows_found, one_list, equal_keys}

-- ---- keys

-- one key is not after another
abbrev pub AtMost : Key → Key → Type 0
AtMost a b = is_le (key_cmp a b) ≡ true

pub at_most_itself : (a : Key) → AtMost a a
at_most_itself a = rw (tied_itself keys_total a) refl

pub after_or_not : (P : Type 0) (a b : Key) → (key_cmp a b ≡ Less → P) → (a ≡ b → P) → (key_cmp b a ≡ Less → P) → P
after_or_not P a b less equal more = by (key_cmp a b) refl
  where
    by : (o : Ordering) → key_cmp a b ≡ o → P
    by Less e = less e
    by Equal e = equal (keys_tie a b e)
    by Greater e = more (keys_total.antisymm b a ∙ ap ordering_reverse e)

pub below_less : (a b c : Key) → AtMost a b → key_cmp b c ≡ Less → key_cmp a c ≡ Less
below_less a b c h l = by (key_cmp a b) refl h
  where
    by : (o : Ordering) → key_cmp a b ≡ o → is_le o ≡ true → key_cmp a c ≡ Less
    by Less e i = keys_total.trans a b c e l
    by Equal e i = ap (λ k. key_cmp k c) (keys_tie a b e) ∙ l
    by Greater e i = absurd (cc)

pub at_most_through : (a b c : Key) → AtMost a b → AtMost b c → AtMost a c
at_most_through a b c h g = by (key_cmp b c) refl g
  where
    by : (o : Ordering) → key_cmp b c ≡ o → is_le o ≡ true → AtMost a c
    by Less e i = ap is_le (below_less a b c h e)
    by Equal e i = subst (AtMost a) (keys_tie b c e) h
    by Greater e i = absurd (cc)

pub less_at_most : (a b : Key) → key_cmp a b ≡ Less → AtMost a b
less_at_most a b e = ap is_le e

-- a key is before another, or not after it
pub not_before : (a b : Key) → is_lt (key_cmp b a) ≡ false → AtMost a b
not_before a b h = after_or_not (AtMost a b) a b (less_at_most a b) (λ e. subst (AtMost a) e (at_most_itself a)) (λ e. absurd (contradicts e h))
  where
    contradicts : key_cmp b a ≡ Less → is_lt (key_cmp b a) ≡ false → ⊥
    contradicts e h = cc

-- ---- what is found

less_other : (q k : Key) → key_cmp q k ≡ Less → eq_by_cmp key_cmp q k ≡ false
less_other q k e = ap is_eq e

module _ {X : Type 0} where
  -- a key that isn't after any of some pairs is found in none that come after it
  pub none_after : (q k : Key) (es : List (Key × X)) → AtMost q k → AllAfter key_cmp k es → find key_cmp q es ≡ None
  none_after q k [] h a = refl
  none_after q k (e ∷ es) h a = rw (less_other q e.0 (below_less q k e.0 h a.0)) (none_after q k es h a.1)

  -- pairs in order, of which none that isn't after a key is found, come after it
  pub after_from_find : (k : Key) (es : List (Key × X)) → InKeyOrder es → ((q : Key) → AtMost q k → find key_cmp q es ≡ None) → AllAfter key_cmp k es
  after_from_find k [] r none = tt
  after_from_find k (e ∷ es) r none =
      let first : key_cmp k e.0 ≡ Less = after_or_not (key_cmp k e.0 ≡ Less) k e.0 (λ l. l) (λ is. absurd (found (none e.0 (subst (λ x. AtMost x k) is (at_most_itself k))))) (λ l. absurd (found (none e.0 (less_at_most e.0 k l)))) in
      (first, all_later es r.0 first)
    where
      found : find key_cmp e.0 (e ∷ es) ≡ None → ⊥
      found h = some_not_none (sym (rw (tied_itself keys_total e.0) refl) ∙ h)
        where
          some_not_none : Some e.1 ≡ None → ⊥
          some_not_none h = cc

      all_later : (fs : List (Key × X)) → AllAfter key_cmp e.0 fs → key_cmp k e.0 ≡ Less → AllAfter key_cmp k fs
      all_later [] a l = tt
      all_later (f ∷ fs) a l = (keys_total.trans k e.0 f.0 l a.0, all_later fs a.1 l)

-- ---- the first partial is used

-- partials without the first, where it is of this key
abbrev pub without_first : Key → List (Key × Partial) → List (Key × Partial)
without_first k [] = []
without_first k (e ∷ es) = cond (eq_by_cmp key_cmp k e.0) es (e ∷ es)

abbrev pub passed : Key → Layer → Layer
passed k l = record { cuts = l.cuts; partials = without_first k l.partials }

-- no partial comes before a key
abbrev pub NoneBefore : Key → List (Key × Partial) → Type 0
NoneBefore k [] = Unit {0}
NoneBefore k (e ∷ es) = AtMost k e.0

same_test : (q k : Key) → eq_by_cmp key_cmp q k ≡ true → q ≡ k
same_test = equal_keys

-- of what is left, nothing is found up to the key, and other keys find what they found
pub passed_none : (k q : Key) (es : List (Key × Partial)) → InKeyOrder es → NoneBefore k es → AtMost q k → find key_cmp q (without_first k es) ≡ None
passed_none k q [] r h g = refl
passed_none k q (e ∷ es) r h g = by (key_cmp k e.0) refl h
  where
    by : (o : Ordering) → key_cmp k e.0 ≡ o → is_le o ≡ true → find key_cmp q (cond (is_eq o) es (e ∷ es)) ≡ None
    by Less p i = rw (less_other q e.0 (below_less q k e.0 g p)) (none_after q e.0 es (less_at_most q e.0 (below_less q k e.0 g p)) r.0)
    by Equal p i = none_after q e.0 es (subst (AtMost q) (keys_tie k e.0 p) g) r.0
    by Greater p i = absurd (cc)

pub passed_others : (k q : Key) (es : List (Key × Partial)) → eq_by_cmp key_cmp q k ≡ false → find key_cmp q (without_first k es) ≡ find key_cmp q es
passed_others k q [] other = refl
passed_others k q (e ∷ es) other = by (eq_by_cmp key_cmp k e.0) refl
  where
    by : (b : Bool) → eq_by_cmp key_cmp k e.0 ≡ b → find key_cmp q (cond b es (e ∷ es)) ≡ find key_cmp q (e ∷ es)
    by true p = sym (ap (λ b. cond b (Some e.1) (find key_cmp q es)) (ap (eq_by_cmp key_cmp q) (sym (same_test k e.0 p)) ∙ other))
    by false p = refl

-- ---- layers, of which the oldest stands first

-- what layers do to the row of a key one after the other
abbrev pub acts : Key → List Layer → Option Row → Option Row
acts q [] row = row
acts q (l ∷ newer) row = acts q newer (act (part_of q l) row)

row_above : Key → List Layer → Option Row → Option Row
row_above q [] row = row
row_above q (l ∷ older) row = act (part_of q l) (row_above q older row)

above_nothing : (q : Key) (ls : List Layer) → row_above q ls None ≡ row_at q ls
unfolding row_above
above_nothing q [] = refl
above_nothing q (l ∷ older) = ap (act (part_of q l)) (above_nothing q older)

above_last : (q : Key) (ls : List Layer) (l : Layer) (row : Option Row) → row_above q (ls ++ l ∷ []) row ≡ row_above q ls (act (part_of q l) row)
unfolding row_above
above_last q [] l row = refl
above_last q (m ∷ ls) l row = ap (act (part_of q m)) (above_last q ls l row)

above_reverse : (q : Key) (ls : List Layer) (row : Option Row) → row_above q (reverse ls) row ≡ acts q ls row
unfolding row_above
above_reverse q [] row = refl
above_reverse q (l ∷ ls) row =
    ap (λ all. row_above q all row) (reverse-append (l ∷ []) ls)
    ∙ above_last q (reverse ls) l row
    ∙ above_reverse q ls (act (part_of q l) row)

pub row_of_acts : (q : Key) (ls : List Layer) → row_at q (reverse ls) ≡ acts q ls None
row_of_acts q ls = sym (above_nothing q (reverse ls)) ∙ above_reverse q ls None

-- layers in order, of which no partial comes before a key
pub record IsFrom (k : Key) (l : Layer) : Type 0 where
  pub order : InKeyOrder l.partials
  pub none : NoneBefore k l.partials

none_acts : (q : Key) (l : Layer) → find key_cmp q l.partials ≡ None → act (part_of q l) None ≡ None
none_acts q l h = ap (λ p. act (record { cut = is_cut q l.cuts; put = p }) None) h ∙ by (is_cut q l.cuts)
  where
    by : (b : Bool) → act (record { cut = b; put = None }) None ≡ None
    by true = refl
    by false = refl

pub acts_none : (k q : Key) (ls : List Layer) → AllByRecursion (IsFrom k) ls → AtMost q k → acts q (map (passed k) ls) None ≡ None
acts_none k q [] h g = refl
acts_none k q (l ∷ ls) h g = ap (acts q (map (passed k) ls)) (none_acts q (passed k l) (passed_none k q l.partials h.0.order h.0.none g)) ∙ acts_none k q ls h.1 g

acts_others : (k q : Key) (ls : List Layer) (row : Option Row) → eq_by_cmp key_cmp q k ≡ false → acts q (map (passed k) ls) row ≡ acts q ls row
acts_others k q [] row other = refl
acts_others k q (l ∷ ls) row other =
    ap (λ p. acts q (map (passed k) ls) (act (record { cut = is_cut q l.cuts; put = p }) row)) (passed_others k q l.partials other)
    ∙ acts_others k q ls (act (part_of q l) row) other

-- ---- rows

behind_rises : (k : Key) (row : Option Row) (rows : List (Key × Row)) → InKeyOrder rows → AllAfter key_cmp k rows → InKeyOrder (behind k row rows)
behind_rises k None rows r a = r
behind_rises k (Some row) rows r a = (a, r)

-- The row of the least key comes first, if it has one, and then those that are left.
pub first_row : (k : Key) (ls : List Layer) → AllByRecursion (IsFrom k) ls → rows_of (reverse ls) ≡ behind k (acts k ls None) (rows_of (reverse (map (passed k) ls)))
first_row k ls h =
    one_list (rows_of (reverse ls)) (behind k (acts k ls None) rest) (rows_rise (reverse ls)) (behind_rises k (acts k ls None) rest (rows_rise (reverse (map (passed k) ls))) later)
    (λ q. rows_found (reverse ls) q ∙ row_of_acts q ls ∙ sym (same q))
  where
    rest : List (Key × Row)
    rest = rows_of (reverse (map (passed k) ls))

    left : (q : Key) → find key_cmp q rest ≡ acts q (map (passed k) ls) None
    left q = rows_found (reverse (map (passed k) ls)) q ∙ row_of_acts q (map (passed k) ls)

    later : AllAfter key_cmp k rest
    later = after_from_find k rest (rows_rise (reverse (map (passed k) ls))) (λ q g. left q ∙ acts_none k q ls h g)

    at : (q : Key) (row : Option Row) (b : Bool) → acts k ls None ≡ row → eq_by_cmp key_cmp q k ≡ b → find key_cmp q (behind k row rest) ≡ acts q ls None
    at q None true is e =
        let same = equal_keys q k e in
        left q ∙ acts_none k q ls h (subst (λ x. AtMost x k) (sym same) (at_most_itself k)) ∙ sym is ∙ ap (λ x. acts x ls None) (sym same)
    at q (Some row) true is e = ap (λ b. cond b (Some row) (find key_cmp q rest)) e ∙ sym is ∙ ap (λ x. acts x ls None) (sym (equal_keys q k e))
    at q None false is e = left q ∙ acts_others k q ls None e
    at q (Some row) false is e = ap (λ b. cond b (Some row) (find key_cmp q rest)) e ∙ left q ∙ acts_others k q ls None e

    same : (q : Key) → find key_cmp q (behind k (acts k ls None) rest) ≡ acts q ls None
    same q = at q (acts k ls None) (eq_by_cmp key_cmp q k) refl refl

-- a layer of which no partial is left
abbrev pub IsUsed : Layer → Type 0
IsUsed l = l.partials ≡ []

acts_used : (q : Key) (ls : List Layer) → AllByRecursion IsUsed ls → acts q ls None ≡ None
acts_used q [] h = refl
acts_used q (l ∷ ls) h = ap (acts q ls) (none_acts q l (ap (find key_cmp q) h.0)) ∙ acts_used q ls h.1

pub no_row : (ls : List Layer) → AllByRecursion IsUsed ls → rows_of (reverse ls) ≡ []
no_row ls h = one_list (rows_of (reverse ls)) [] (rows_rise (reverse ls)) tt (λ q. rows_found (reverse ls) q ∙ row_of_acts q ls ∙ acts_used q ls h)

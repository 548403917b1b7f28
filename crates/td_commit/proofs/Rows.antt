-- Rows that are read of a memtable, and cuts that are clipped.
use Rattle.std.proofs.Common.{◌≡◌, ℕ, ◌<◌, ◌≤◌, Bool, true, false, cond, ◌&&◌, List, [], ◌∷◌, ◌++◌, append_assoc, append-nil, Option, Some, None, ◌⊎◌, inl, inr, refl, sym, ap, subst, ◌∙◌, arith}
use Rattle.std.specs.Prelude.{MatchOption}
use Rattle.std.specs.List.{cons_option}
use Rattle.std.specs.Ordering.{nat_cmp, ordering_then, is_le}
use Rattle.std.specs.Cmp.{ranked, nat_cmp_is}
use Rattle.std.specs.declared.cmp.Ordering.{Ordering}
use Rattle.std.specs.declared.cmp.Ordering.TheVariants.{Less, Equal, Greater}
use Rattle.td_layer.specs.declared.values.Key.{Key}
use Rattle.td_layer.specs.declared.parts.Partial.{Partial}
use Rattle.td_layer.specs.Keys.{key_cmp, AllAfter, RisesBy, InKeyOrder}
use Rattle.td_memtree.specs.Within.{is_within, pairs_within}
use Rattle.td_memtable.specs.Contents.{key_at}
use Rattle.td_block.specs.Rows.{Rows}
use Rattle.td_fileio.specs.Days.{day_start, day_end}
use Rattle.td_commit.specs.Clipped.{rows_of, puts_in_day, rows_in_day, clip, clipped}

-- an item that is there or not, put behind some and before others
pub add_between : {A : Type 0} (so_far rest : List A) (o : Option A) → (so_far ++ cons_option o []) ++ rest ≡ so_far ++ cons_option o rest
add_between so_far rest None = ap (λ l. l ++ rest) (append-nil so_far)
add_between so_far rest (Some x) = append_assoc so_far (x ∷ []) rest

-- ---- keys within a range of one table

-- a key of this table, from one timestamp to another
pub record IsKeyIn (table from to : ℕ) (key : Key) : Type 0 where
  pub table_is : key.table ≡ table
  pub from_is : from ≤ key.ts
  pub to_is : key.ts ≤ to

ts_le : (x y : ℕ) (o : Ordering) → o ≡ nat_cmp x y → is_le o ≡ true → x ≤ y
ts_le x y Less is h = let lt : x < y = ranked x y Less is in omega (arith, lt)
ts_le x y Equal is h = let eq : x ≡ y = ranked x y Equal is in omega (arith, eq)
ts_le x y Greater is h = absurd (let clash : false ≡ true = h in cc)

key_le : (a b : Key) (o : Ordering) → o ≡ nat_cmp a.table b.table → is_le (ordering_then o (nat_cmp a.ts b.ts)) ≡ true → (a.table < b.table) ⊎ ((a.table ≡ b.table) × (a.ts ≤ b.ts))
key_le a b Less is h = let lt : a.table < b.table = ranked a.table b.table Less is in inl lt
key_le a b Equal is h = let eq : a.table ≡ b.table = ranked a.table b.table Equal is in inr (eq, ts_le a.ts b.ts (nat_cmp a.ts b.ts) refl h)
key_le a b Greater is h = absurd (let clash : false ≡ true = h in cc)

and_left : (a b : Bool) → (a && b) ≡ true → a ≡ true
and_left true b h = refl
and_left false b h = h

and_right : (a b : Bool) → (a && b) ≡ true → b ≡ true
and_right true b h = h
and_right false b h = absurd (let clash : false ≡ true = h in cc)

pub key_in : (table from to : ℕ) (key : Key) → is_within (key_at table from) (key_at table to) key ≡ true → IsKeyIn table from to key
key_in table from to key h =
    let low = is_le (key_cmp (key_at table from) key) in
    let high = is_le (key_cmp key (key_at table to)) in
    both (key_le (key_at table from) key (nat_cmp table key.table) refl (and_left low high h)) (key_le key (key_at table to) (nat_cmp key.table table) refl (and_right low high h))
  where
    both : (table < key.table) ⊎ ((table ≡ key.table) × (from ≤ key.ts)) → (key.table < table) ⊎ ((key.table ≡ table) × (key.ts ≤ to)) → IsKeyIn table from to key
    both (inl x) (inl y) = absurd (omega (arith, x, y))
    both (inl x) (inr y) = absurd (omega (arith, x, y.0))
    both (inr x) (inl y) = absurd (omega (arith, x.0, y))
    both (inr x) (inr y) = record { table_is = y.0; from_is = x.1; to_is = y.1 }

-- ---- pairs of one table rise by timestamp

-- each of some pairs is of a table
abbrev pub AreOf : ℕ → List (Key × Partial) → Type 0
AreOf table [] = Unit {0}
AreOf table (e ∷ es) = (e.0.table ≡ table) × AreOf table es

are_within : (table from to : ℕ) (puts : List (Key × Partial)) → AreOf table (pairs_within (key_at table from) (key_at table to) puts)
are_within table from to [] = tt
are_within table from to (e ∷ es) = by (is_within (key_at table from) (key_at table to) e.0) refl (are_within table from to es)
  where
    by : (b : Bool) → is_within (key_at table from) (key_at table to) e.0 ≡ b → AreOf table (pairs_within (key_at table from) (key_at table to) es) → AreOf table (cond b (e ∷ pairs_within (key_at table from) (key_at table to) es) (pairs_within (key_at table from) (key_at table to) es))
    by true is i = ((key_in table from to e.0 is).table_is, i)
    by false is i = i

later : (a b : Key) → a.table ≡ b.table → key_cmp a b ≡ Less → nat_cmp a.ts b.ts ≡ Less
later a b t less =
    let same : Equal ≡ nat_cmp a.table b.table = nat_cmp_is a.table b.table Equal t in
    subst (λ (o : Ordering). ordering_then o (nat_cmp a.ts b.ts) ≡ Less) (sym same) less

after_of : (table : ℕ) (key : Key) (es : List (Key × Partial)) → key.table ≡ table → AreOf table es → AllAfter key_cmp key es → AllAfter nat_cmp key.ts (rows_of es)
after_of table key [] t all after = tt
after_of table key (e ∷ es) t all after = (later key e.0 (t ∙ sym all.0) after.0, after_of table key es t all.1 after.1)

rise_of : (table : ℕ) (es : List (Key × Partial)) → AreOf table es → InKeyOrder es → RisesBy nat_cmp (rows_of es)
rise_of table [] all order = tt
rise_of table (e ∷ es) all order = (after_of table e.0 es all.0 all.1 order.0, rise_of table es all.1 order.1)

pub rows_rise : (range table : ℕ) (puts : List (Key × Partial)) → InKeyOrder (puts_in_day range table puts) → RisesBy nat_cmp (rows_in_day range table puts)
rows_rise range table puts order = rise_of table (puts_in_day range table puts) (are_within table (day_start range) (day_end range) puts) order

-- ---- reading

-- The rows that were read, and the puts that are left, are the rows of a table in a day range.
pub record IsRead (range table : ℕ) (puts left : List (Key × Partial)) (rows : Rows) : Type 0 where
  pub whole : rows ++ rows_of left ≡ rows_in_day range table puts
  pub order : InKeyOrder left → InKeyOrder (puts_in_day range table puts)

pub none_read : (range table from to : ℕ) (puts left : List (Key × Partial)) (rows : Rows) → rows ≡ [] → from ≡ day_start range → to ≡ day_end range → left ≡ pairs_within (key_at table from) (key_at table to) puts → IsRead range table puts left rows
none_read range table from to puts left rows none first last is =
    let all : left ≡ puts_in_day range table puts = is ∙ ap (λ (n : ℕ). pairs_within (key_at table n) (key_at table to) puts) first ∙ ap (λ (n : ℕ). pairs_within (key_at table (day_start range)) (key_at table n) puts) last in
    record {
      whole = ap (λ (l : Rows). l ++ rows_of left) none ∙ ap rows_of all;
      order = λ o. subst (λ (l : List (Key × Partial)). InKeyOrder l) all o;
    }

pub one_read : (range table : ℕ) (puts left rest : List (Key × Partial)) (rows new : Rows) (e : Key × Partial) → left ≡ e ∷ rest → InKeyOrder left → new ≡ rows ++ (e.0.ts, e.1) ∷ [] → IsRead range table puts left rows → IsRead range table puts rest new
one_read range table puts left rest rows new e is order added r =
    let whole_order : InKeyOrder (puts_in_day range table puts) = r.order order in
    record {
      whole = ap (λ (l : Rows). l ++ rows_of rest) added ∙ append_assoc rows ((e.0.ts, e.1) ∷ []) (rows_of rest) ∙ ap (λ (l : List (Key × Partial)). rows ++ rows_of l) (sym is) ∙ r.whole;
      order = λ _. whole_order;
    }

pub all_read : (range table : ℕ) (puts left : List (Key × Partial)) (rows : Rows) → left ≡ [] → IsRead range table puts left rows → rows ≡ rows_in_day range table puts
all_read range table puts left rows none r = sym (append-nil rows) ∙ ap (λ (l : List (Key × Partial)). rows ++ rows_of l) (sym none) ∙ r.whole

pub all_rise : (range table : ℕ) (puts left : List (Key × Partial)) (rows : Rows) → left ≡ [] → InKeyOrder left → IsRead range table puts left rows → RisesBy nat_cmp rows
all_rise range table puts left rows none order r =
    subst (λ (l : Rows). RisesBy nat_cmp l) (sym (all_read range table puts left rows none r)) (rows_rise range table puts (r.order order))

-- the next put that a scan gave is none
pub none_next : (range table : ℕ) (puts left rest : List (Key × Partial)) (rows : Rows) (o : Option (Key × Partial)) → MatchOption o ((left ≡ []) × (rest ≡ [])) (λ (x : Key × Partial). left ≡ x ∷ rest) → o ≡ None → InKeyOrder left → IsRead range table puts left rows → RisesBy nat_cmp rows
none_next range table puts left rest rows o put is order r =
    let none : (left ≡ []) × (rest ≡ []) = subst (λ (p : Option (Key × Partial)). MatchOption p ((left ≡ []) × (rest ≡ [])) (λ (x : Key × Partial). left ≡ x ∷ rest)) is put in
    all_rise range table puts left rows none.0 order r

-- ---- clipping

pub one_clipped : (range : ℕ) (all left rest some new : List (ℕ × ℕ)) (cut : ℕ × ℕ) (o : Option (ℕ × ℕ)) → left ≡ cut ∷ rest → o ≡ clip range cut → new ≡ some ++ cons_option o [] → some ++ clipped range left ≡ clipped range all → new ++ clipped range rest ≡ clipped range all
one_clipped range all left rest some new cut o is part added whole =
    ap (λ (l : List (ℕ × ℕ)). l ++ clipped range rest) added
    ∙ add_between some (clipped range rest) o
    ∙ ap (λ (p : Option (ℕ × ℕ)). some ++ cons_option p (clipped range rest)) part
    ∙ ap (λ (l : List (ℕ × ℕ)). some ++ clipped range l) (sym is)
    ∙ whole

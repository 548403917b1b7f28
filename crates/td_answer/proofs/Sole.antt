-- The rows that a plan of one table picks, in the order of its rows.
use Rattle.std.proofs.Common.{◌≡◌, ℕ, suc, ◌<◌, ◌≤◌, Bool, true, false, cond, List, [], ◌∷◌, ◌++◌, filter, length, Option, Some, None, refl, sym, ap, ◌∙◌, arith}
use Rattle.std.specs.List.{AllByRecursion, slice_get}
use Rattle.std.specs.declared.cmp.Ordering.TheVariants.{Less, Greater}
use Rattle.std.specs.Ordering.{nat_cmp, ordering_then, match_ordering}
use Rattle.std.specs.BTreeMap.{insert_entry}
use Rattle.std.specs.Cmp.{nat_cmp_is}
use Rattle.std.proofs.lemmas.Bool.Decides.{nat_tests}
use Rattle.std.proofs.lemmas.List.{append_assoc, append-nil}
use Rattle.td_layer.specs.Keys.{key_cmp, AllAfter, InKeyOrder}
use Rattle.td_layer.specs.declared.values.Cell.{Cell}
use Rattle.td_layer.specs.declared.values.Key.{Key}
use Rattle.td_layer.specs.declared.values.Row.{Row}
use Rattle.td_model.specs.declared.catalog.Column.{Column}
use Rattle.td_model.specs.State.{Rows, is_cut}
use Rattle.td_verdict.specs.declared.comparison.Comparison.{Comparison}
use Rattle.td_verdict.specs.Fields.{all_hold}
use Rattle.td_verdict.specs.Answers.{Found, time_cmp, put_in_time}
use Rattle.std.specs.Option.{IfSome, option_map}
use Rattle.td_answer.specs.declared.picks.Table.{Table}
use Rattle.td_answer.specs.Picks.{Listed, listed, tables_from, row_found, found_of}

-- ---- rows put behind others
-- all are before a timestamp
abbrev AllBefore : Found → ℕ → Type 0
AllBefore [] ts = Unit {0}
AllBefore (e ∷ es) ts = (e.0.ts < ts) × AllBefore es ts

-- all are behind others, and their timestamps rise
abbrev Behind : Found → Found → Type 0
Behind before [] = Unit {0}
Behind before (e ∷ es) = AllBefore before e.0.ts × Behind (before ++ e ∷ []) es

later : (a b : Key) → b.ts < a.ts → time_cmp a b ≡ Greater
later a b h = ap (λ o. ordering_then o (nat_cmp a.table b.table)) (sym (nat_cmp_is a.ts b.ts Greater h))

put_last : (before : Found) (k : Key) (v : List Cell) → AllBefore before k.ts → insert_entry time_cmp before k v ≡ before ++ (k, v) ∷ []
put_last [] k v h = refl
put_last (e ∷ es) k v h =
    ap (λ o. match_ordering o ((k, v) ∷ e ∷ es) ((e.0, v) ∷ es) (e ∷ insert_entry time_cmp es k v)) (later k e.0 h.0)
    ∙ ap (λ xs. e ∷ xs) (put_last es k v h.1)

put_behind : (before found : Found) → Behind before found → put_in_time before found ≡ before ++ found
put_behind before [] h = sym (append-nil before)
put_behind before (e ∷ es) h =
    ap (λ xs. put_in_time xs es) (put_last before e.0 e.1 h.0)
    ∙ put_behind (before ++ e ∷ []) es h.1
    ∙ append_assoc before (e ∷ []) es

-- ---- the rows of one table rise by timestamp
one_more : (before : Found) (e : Key × List Cell) (ts : ℕ) → AllBefore before ts → e.0.ts < ts → AllBefore (before ++ e ∷ []) ts
one_more [] e ts h late = (late, tt)
one_more (b ∷ bs) e ts h late = (h.0, one_more bs e ts h.1 late)

time_less : (a b : Key) → a.table ≡ b.table → key_cmp a b ≡ Less → a.ts < b.ts
time_less a b same less = grind (arith, nat_tests)

module _ (columns : List Column) (ps : List Comparison) (t : Listed) where
  abbrev OfTable : Key × Row → Type 0
  OfTable e = e.0.table ≡ t.number

  -- rows found so far are before all rows that come
  abbrev BeforeAll : Found → Rows → Type 0
  BeforeAll before [] = Unit {0}
  BeforeAll before (e ∷ es) = AllBefore before e.0.ts × BeforeAll before es

  one_before : (before : Found) (e : Key × Row) (es : Rows) → OfTable e → AllByRecursion OfTable es → AllAfter key_cmp e.0 es → BeforeAll before es → BeforeAll (before ++ row_found columns t e ∷ []) es
  one_before before e [] of all after h = tt
  one_before before e (f ∷ fs) of all after h =
      (one_more before (row_found columns t e) f.0.ts h.0 (time_less e.0 f.0 (of ∙ sym all.0) after.0), one_before before e fs of all.1 after.1 h.1)

  behind_by : (before : Found) (e : Key × Row) (es : Rows) (held : Bool) → AllBefore before e.0.ts
      → Behind before (found_of columns ps t es) → Behind (before ++ row_found columns t e ∷ []) (found_of columns ps t es)
      → Behind before (cond held (row_found columns t e ∷ found_of columns ps t es) (found_of columns ps t es))
  behind_by before e es true h left taken = (h, taken)
  behind_by before e es false h left taken = left

  found_behind : (before : Found) (rows : Rows) → AllByRecursion OfTable rows → InKeyOrder rows → BeforeAll before rows → Behind before (found_of columns ps t rows)
  found_behind before [] all order h = tt
  found_behind before (e ∷ es) all order h =
      behind_by before e es (all_hold ps (row_found columns t e).1) h.0
      (found_behind before es all.1 order.1 h.1)
      (found_behind (before ++ row_found columns t e ∷ []) es all.1 order.1 (one_before before e es all.0 all.1 order.0 h.1))

  none_before : (rows : Rows) → BeforeAll [] rows
  none_before [] = tt
  none_before (e ∷ es) = (tt, none_before es)

  of_table_by : (lo hi : ℕ) (e : Key × Row) (es : Rows) (cut : Bool) → is_cut t.number lo hi e.0 ≡ cut → AllByRecursion OfTable (filter (λ (e : Key × Row). is_cut t.number lo hi e.0) es)
      → AllByRecursion OfTable (cond cut (e ∷ filter (λ (e : Key × Row). is_cut t.number lo hi e.0) es) (filter (λ (e : Key × Row). is_cut t.number lo hi e.0) es))
  of_table_by lo hi e es true is rest = let same : e.0.table ≡ t.number = grind (arith, nat_tests) in (same, rest)
  of_table_by lo hi e es false is rest = rest

  of_table : (lo hi : ℕ) (rows : Rows) → AllByRecursion OfTable (filter (λ (e : Key × Row). is_cut t.number lo hi e.0) rows)
  of_table lo hi [] = tt
  of_table lo hi (e ∷ es) = of_table_by lo hi e es (is_cut t.number lo hi e.0) refl (of_table lo hi es)

  -- in the order of time they stand as they are found
  pub found_in_time : (lo hi : ℕ) (rows : Rows) → InKeyOrder (filter (λ (e : Key × Row). is_cut t.number lo hi e.0) rows)
      → put_in_time [] (found_of columns ps t (filter (λ (e : Key × Row). is_cut t.number lo hi e.0) rows)) ≡ found_of columns ps t (filter (λ (e : Key × Row). is_cut t.number lo hi e.0) rows)
  found_in_time lo hi rows order =
      let cut = filter (λ (e : Key × Row). is_cut t.number lo hi e.0) rows in
      put_behind [] (found_of columns ps t cut) (found_behind [] cut (of_table lo hi rows) order (none_before cut))

-- ---- how many there are
few_by : {X : Type 0} (x : X) (xs : List X) (n : ℕ) (keep : Bool) → length xs ≤ n → length (cond keep (x ∷ xs) xs) ≤ suc n
few_by x xs n true h = omega (arith, h)
few_by x xs n false h = omega (arith, h)

pub few_kept : {X : Type 0} (keep : X → Bool) (xs : List X) → length (filter keep xs) ≤ length xs
few_kept keep [] = omega arith
few_kept keep (x ∷ xs) = few_by x (filter keep xs) (length xs) (keep x) (few_kept keep xs)

-- ---- the table of a plan that has one
pub sole : (ns : List ℕ) (names : List (List ℕ)) (tags : List (List Cell)) (t : Listed) → length ns ≡ 1 → slice_get (tables_from ns names tags) 0 ≡ Some t → tables_from ns names tags ≡ t ∷ []
sole [] names tags t one is = absurd (omega (arith, one))
sole (n ∷ ns) [] tags t one is = absurd (cc)
sole (n ∷ ns) (name ∷ names) [] t one is = absurd (cc)
sole (n ∷ []) (name ∷ names) (cells ∷ tags) t one is = let same : record { number = n; name = name; tags = cells } ≡ t = cc in ap (λ x. x ∷ []) same
sole (n ∷ m ∷ ns) (name ∷ names) (cells ∷ tags) t one is = absurd (omega (arith, one))

pub sole_by : (ns : List ℕ) (names : List (List ℕ)) (tags : List (List Cell)) (t : Option Table) → length ns ≡ 1 → option_map listed t ≡ slice_get (tables_from ns names tags) 0
    → IfSome t (λ x. tables_from ns names tags ≡ listed x ∷ [])
sole_by ns names tags None one is = tt
sole_by ns names tags (Some x) one is = sole ns names tags (listed x) one (sym is)

-- What is wanted of the rows that a snapshot gives, and what is true of each.
use Rattle.std.proofs.Common.{◌≡◌, ◌≤◌, ℕ, Bool, true, false, ◌&&◌, ◌==◌, cond, nat_le, List, [], ◌∷◌, map, filter, refl, ap, ◌∙◌, arith}
use Rattle.std.specs.declared.cmp.Ordering.{Ordering}
use Rattle.std.specs.declared.cmp.Ordering.TheVariants.{Less, Equal, Greater}
use Rattle.std.specs.List.{AllByRecursion}
use Rattle.std.specs.Ordering.{match_ordering}
use Rattle.std.specs.BTreeMap.{insert_entry}
use Rattle.std.proofs.lemmas.Bool.{and_parts}
use Rattle.std.proofs.lemmas.Bool.Decides.{nat_tests}
use Rattle.td_layer.specs.Columns.{AreColumnValues}
use Rattle.td_layer.specs.Scans.{rows_in}
use Rattle.td_layer.specs.declared.values.Cell.{Cell}
use Rattle.td_layer.specs.declared.values.Key.{Key}
use Rattle.td_layer.specs.declared.values.Row.{Row}
use Rattle.td_model.specs.State.{Rows}
use Rattle.td_model.specs.declared.catalog.Column.{Column}
use Rattle.td_verdict.specs.Answers.{time_cmp}
use Rattle.td_verdict.specs.declared.comparison.Comparison.{Comparison}
use Rattle.td_verdict.specs.Parts.{part_cmp}
use Rattle.td_verdict.specs.Groups.{Listed, Grouped, is_picked, put_rows, with_rows, empty_group, put_group}
use Rattle.td_query.specs.Planned.{keyed, picked_from}
use Rattle.td_query.specs.Read.{is_within, is_wanted, wanted_from, IsGood, AreGood}

-- ---- rows of a range all lie in it
filter_both : {X : Type 0} (w p : X → Bool) (xs : List X) → AllByRecursion (λ x. w x ≡ true) xs → filter (λ x. w x && p x) xs ≡ filter p xs
filter_both w p [] all = refl
filter_both w p (x ∷ xs) all =
    ap (λ b. cond (b && p x) (x ∷ filter (λ y. w y && p y) xs) (filter (λ y. w y && p y) xs)) all.0
    ∙ ap (λ l. cond (p x) (x ∷ l) l) (filter_both w p xs all.1)

module _ (n lo hi : ℕ) where
  abbrev is_in : Key × Row → Bool
  is_in e = (e.0.table == n) && (nat_le lo e.0.ts && nat_le e.0.ts hi)

  within_at : (e : Key × Row) (es : Rows) (b : Bool) → is_in e ≡ b → AllByRecursion (λ f. is_within lo hi f ≡ true) (map (keyed n) (map (λ (e : Key × Row). (e.0.ts, e.1)) (filter is_in es)))
      → AllByRecursion (λ f. is_within lo hi f ≡ true) (map (keyed n) (map (λ (e : Key × Row). (e.0.ts, e.1)) (cond b (e ∷ filter is_in es) (filter is_in es))))
  within_at e es true is rest = ((and_parts (e.0.table == n) (nat_le lo e.0.ts && nat_le e.0.ts hi) is).1, rest)
  within_at e es false is rest = rest

  pub within : (es : Rows) → AllByRecursion (λ f. is_within lo hi f ≡ true) (map (keyed n) (rows_in n lo hi es))
  within [] = tt
  within (e ∷ es) = within_at e es (is_in e) refl (within es)

pub wanted_is_picked : (columns : List Column) (ps : List Comparison) (lo hi : ℕ) (t : Listed) (all : Rows) → wanted_from columns ps lo hi t (rows_in t.number lo hi all) ≡ picked_from columns ps t (rows_in t.number lo hi all)
wanted_is_picked columns ps lo hi t all = filter_both (is_within lo hi) (is_picked columns ps t) (map (keyed t.number) (rows_in t.number lo hi all)) (within t.number lo hi all)

-- ---- good rows
module _ (hi : ℕ) where
  abbrev All' : Rows → Type 0
  All' rows = AllByRecursion (IsGood hi) rows

  insert_at : (o : Ordering) (e : Key × Row) (es : Rows) (k : Key) (v : Row) → IsGood hi e → All' es → IsGood hi (k, v) → All' (insert_entry time_cmp es k v)
      → All' (match_ordering o ((k, v) ∷ e ∷ es) ((e.0, v) ∷ es) (e ∷ insert_entry time_cmp es k v))
  insert_at Less e es k v here rest new later = (new, (here, rest))
  insert_at Equal e es k v here rest new later = ((here.0, new.1), rest)
  insert_at Greater e es k v here rest new later = (here, later)

  insert_good : (es : Rows) (k : Key) (v : Row) → All' es → IsGood hi (k, v) → All' (insert_entry time_cmp es k v)
  insert_good [] k v all new = (new, tt)
  insert_good (e ∷ es) k v all new = insert_at (time_cmp k e.0) e es k v all.0 all.1 new (insert_good es k v all.1 new)

  rows_good : (rows es : Rows) → All' rows → All' es → All' (put_rows rows es)
  rows_good rows [] all more = all
  rows_good rows (e ∷ es) all more = insert_good (put_rows rows es) e.0 e.1 (rows_good rows es all more.1) more.0

  group_at : (o : Ordering) (part : List Cell) (rows : Rows) (g : Grouped) (gs : List Grouped) → All' g.rows → AreGood hi gs → All' rows → AreGood hi (put_group part rows gs)
      → AreGood hi (match_ordering o (with_rows (empty_group part) rows ∷ g ∷ gs) (with_rows g rows ∷ gs) (g ∷ put_group part rows gs))
  group_at Less part rows g gs here rest more later = (rows_good [] rows tt more, (here, rest))
  group_at Equal part rows g gs here rest more later = (rows_good g.rows rows here more, rest)
  group_at Greater part rows g gs here rest more later = (here, later)

  pub group_good : (part : List Cell) (rows : Rows) (gs : List Grouped) → AreGood hi gs → All' rows → AreGood hi (put_group part rows gs)
  group_good part rows [] all more = (rows_good [] rows tt more, tt)
  group_good part rows (g ∷ gs) all more = group_at (part_cmp part g.part) part rows g gs all.0 all.1 more (group_good part rows gs all.1 more)

module _ (columns : List Column) (ps : List Comparison) (lo hi : ℕ) (t : Listed) where
  wanted_at : (e : ℕ × Row) (es : List (ℕ × Row)) (b : Bool) → is_wanted columns ps lo hi t (keyed t.number e) ≡ b → AreColumnValues e.1.values → AllByRecursion (IsGood hi) (wanted_from columns ps lo hi t es)
      → AllByRecursion (IsGood hi) (cond b (keyed t.number e ∷ wanted_from columns ps lo hi t es) (wanted_from columns ps lo hi t es))
  wanted_at e es true is values rest =
      let within : is_within lo hi (keyed t.number e) ≡ true = (and_parts (is_within lo hi (keyed t.number e)) (is_picked columns ps t (keyed t.number e)) is).0 in
      let below : nat_le e.0 hi ≡ true = (and_parts (nat_le lo e.0) (nat_le e.0 hi) within).1 in
      let under : e.0 ≤ hi = grind (arith, nat_tests) in
      ((under, values), rest)
  wanted_at e es false is values rest = rest

  pub wanted_good : (found : List (ℕ × Row)) → AllByRecursion (λ (row : ℕ × Row). AreColumnValues row.1.values) found → AllByRecursion (IsGood hi) (wanted_from columns ps lo hi t found)
  wanted_good [] values = tt
  wanted_good (e ∷ es) values = wanted_at e es (is_wanted columns ps lo hi t (keyed t.number e)) refl values.0 (wanted_good es values.1)

-- Rows put among others of other keys have the sums of both, wherever they come to stand.
use Rattle.std.proofs.Common.{◌≡◌, ◌≢◌, ℕ, Bool, true, false, cond, List, [], ◌∷◌, ◌++◌, filter, map, length, Option, refl, sym, ap, ◌∙◌}
use Rattle.std.specs.BTreeMap.{insert_entry}
use Rattle.std.specs.List.{AllByRecursion}
use Rattle.std.specs.FinMap.{nat_cmp-IsAntisymmetric}
use Rattle.std.specs.Ordering.{nat_cmp, ordering_then, match_ordering}
use Rattle.std.specs.declared.cmp.Ordering.{Ordering}
use Rattle.std.specs.declared.cmp.Ordering.TheVariants.{Less, Equal, Greater}
use Rattle.td_aggr.proofs.Order.{rows_turned}
use Rattle.td_aggr.specs.Aggregates.{HaveOwnKeys}
use Rattle.td_aggr.specs.Laws.{associative}
use Rattle.td_aggr.specs.Tallies.{merged, tally_of, tally_of_row}
use Rattle.td_aggr.specs.declared.tally.Tally.{Tally}
use Rattle.td_layer.specs.declared.values.Cell.{Cell}
use Rattle.td_layer.specs.declared.values.Key.{Key}
use Rattle.td_layer.specs.declared.values.Row.{Row}
use Rattle.td_model.specs.State.{Rows}
use Rattle.td_query.specs.Cuts.{values}
use Rattle.td_query.specs.Sums.{sum_of}
use Rattle.td_query.specs.Summed.{takes, AreSums, AllKeys, AllGroups}
use Rattle.td_query.specs.declared.frames.Frame.{Frame}
use Rattle.td_query.specs.Sums.{Sum, joined}
use Rattle.std.specs.BTreeMap.{BTreeMap}
use Rattle.td_query.proofs.SumRows.{same_map, same_sum, sum-append}
use Rattle.td_verdict.specs.Answers.{time_cmp}
use Rattle.td_verdict.specs.Groups.{Listed, Grouped, put_rows, with_rows, empty_group, put_group, put_tables, first_groups}
use Rattle.td_verdict.specs.Parts.{part_cmp}
use Rattle.td_verdict.specs.Windowed.{Keyed, value_at}

-- ---- what is true of the keys of rows stays true where rows are put among others
module _ (K : Key → Type 0) where
  keys_at : (o : Ordering) (e : Keyed) (es : Rows) (k : Key) (v : Row) → K e.0 → AllKeys K es → K k → AllKeys K (insert_entry time_cmp es k v)
      → AllKeys K (match_ordering o ((k, v) ∷ e ∷ es) ((e.0, v) ∷ es) (e ∷ insert_entry time_cmp es k v))
  keys_at Less e es k v here rest new later = (new, (here, rest))
  keys_at Equal e es k v here rest new later = (here, rest)
  keys_at Greater e es k v here rest new later = (here, later)

  keys_insert : (es : Rows) (k : Key) (v : Row) → AllKeys K es → K k → AllKeys K (insert_entry time_cmp es k v)
  keys_insert [] k v all new = (new, tt)
  keys_insert (e ∷ es) k v all new = keys_at (time_cmp k e.0) e es k v all.0 all.1 new (keys_insert es k v all.1 new)

  pub keys_put : (rows es : Rows) → AllKeys K rows → AllKeys K es → AllKeys K (put_rows rows es)
  keys_put rows [] all more = all
  keys_put rows (e ∷ es) all more = keys_insert (put_rows rows es) e.0 e.1 (keys_put rows es all more.1) more.0

  group_at : (o : Ordering) (part : List Cell) (rows : Rows) (g : Grouped) (gs : List Grouped) → AllKeys K g.rows → AllGroups K gs → AllKeys K rows → AllGroups K (put_group part rows gs)
      → AllGroups K (match_ordering o (with_rows (empty_group part) rows ∷ g ∷ gs) (with_rows g rows ∷ gs) (g ∷ put_group part rows gs))
  group_at Less part rows g gs here rest more later = (keys_put [] rows tt more, (here, rest))
  group_at Equal part rows g gs here rest more later = (keys_put g.rows rows here more, rest)
  group_at Greater part rows g gs here rest more later = (here, later)

  pub keys_group : (part : List Cell) (rows : Rows) (gs : List Grouped) → AllGroups K gs → AllKeys K rows → AllGroups K (put_group part rows gs)
  keys_group part rows [] all more = (keys_put [] rows tt more, tt)
  keys_group part rows (g ∷ gs) all more = group_at (part_cmp part g.part) part rows g gs all.0 all.1 more (keys_group part rows gs all.1 more)

  pub keys_tables : (picked : Listed → Rows) → ((t : Listed) → AllKeys K (picked t)) → (gs : List Grouped) (ts : List Listed) → AllGroups K gs → AllGroups K (put_tables picked gs ts)
  keys_tables picked each gs [] all = all
  keys_tables picked each gs (t ∷ ts) all = keys_tables picked each (put_group t.part (picked t) gs) ts (keys_group t.part (picked t) gs all (each t))

  pub keys_first : (one : Bool) → AllGroups K (first_groups one)
  keys_first true = (tt, tt)
  keys_first false = tt

-- ---- the sums of rows put among others
both_equal : (a b : Ordering) → ordering_then a b ≡ Equal → (a ≡ Equal) × (b ≡ Equal)
both_equal Less b e = absurd (cc)
both_equal Equal b e = (refl, e)
both_equal Greater b e = absurd (cc)

abbrev key_from : ℕ → ℕ → Key
key_from ts table = record { table = table; ts = ts }

same_key : (a b : Key) → time_cmp a b ≡ Equal → a ≡ b
same_key a b e =
    let both = both_equal (nat_cmp a.ts b.ts) (nat_cmp a.table b.table) e in
    ap (λ n. key_from n a.table) (nat_cmp-IsAntisymmetric a.ts b.ts both.0) ∙ ap (key_from b.ts) (nat_cmp-IsAntisymmetric a.table b.table both.1)

module _ (f : Keyed → Bool) (places : List (Option ℕ)) where
  abbrev S : List Keyed → Sum
  S rows = sum_of places (filter f rows)

  S-row : (e : Keyed) (xs ys : List Keyed) → S xs ≡ S ys → S (e ∷ xs) ≡ S (e ∷ ys)
  S-row e xs ys same = go (f e) refl
    where
      go : (b : Bool) → f e ≡ b → S (e ∷ xs) ≡ S (e ∷ ys)
      go true is =
          ap (λ (t : Bool). sum_of places (cond t (e ∷ filter f xs) (filter f xs))) is
          ∙ sym (sum-append places (e ∷ []) (filter f xs))
          ∙ ap (joined (sum_of places (e ∷ []))) same
          ∙ sum-append places (e ∷ []) (filter f ys)
          ∙ sym (ap (λ (t : Bool). sum_of places (cond t (e ∷ filter f ys) (filter f ys))) is)
      go false is =
          ap (λ (t : Bool). sum_of places (cond t (e ∷ filter f xs) (filter f xs))) is
          ∙ same
          ∙ sym (ap (λ (t : Bool). sum_of places (cond t (e ∷ filter f ys) (filter f ys))) is)

  turned : (a b : Keyed) (xs : List Keyed) → b.0 ≢ a.0 → sum_of places (a ∷ b ∷ xs) ≡ sum_of places (b ∷ a ∷ xs)
  turned a b xs ne =
      same_sum (length (a ∷ b ∷ xs)) (length (b ∷ a ∷ xs)) (map (λ place. tally_of (values place (a ∷ b ∷ xs))) places) (map (λ place. tally_of (values place (b ∷ a ∷ xs))) places)
      refl (same_map (λ place. tally_of (values place (a ∷ b ∷ xs))) (λ place. tally_of (values place (b ∷ a ∷ xs))) places one)
    where
      one : (place : Option ℕ) → tally_of (values place (a ∷ b ∷ xs)) ≡ tally_of (values place (b ∷ a ∷ xs))
      one place =
          let p : Tally = tally_of_row (value_at place a) a.0 in
          let q : Tally = tally_of_row (value_at place b) b.0 in
          let r : Tally = tally_of (values place xs) in
          sym (associative p q r)
          ∙ ap (λ (t : Tally). merged t r) (rows_turned (a.0, value_at place a) (b.0, value_at place b) ne)
          ∙ associative q p r

  S-turned : (a b : Keyed) (xs : List Keyed) → b.0 ≢ a.0 → S (a ∷ b ∷ xs) ≡ S (b ∷ a ∷ xs)
  S-turned a b xs ne = go (f a) (f b) refl refl
    where
      by : (s t : Bool) (x y : Keyed) → f x ≡ s → f y ≡ t → S (x ∷ y ∷ xs) ≡ sum_of places (cond s (x ∷ cond t (y ∷ filter f xs) (filter f xs)) (cond t (y ∷ filter f xs) (filter f xs)))
      by s t x y p q =
          ap (λ (b : Bool). sum_of places (cond b (x ∷ filter f (y ∷ xs)) (filter f (y ∷ xs)))) p
          ∙ ap (λ (b : Bool). sum_of places (cond s (x ∷ cond b (y ∷ filter f xs) (filter f xs)) (cond b (y ∷ filter f xs) (filter f xs)))) q

      go : (s t : Bool) → f a ≡ s → f b ≡ t → S (a ∷ b ∷ xs) ≡ S (b ∷ a ∷ xs)
      go true true p q = by true true a b p q ∙ turned a b (filter f xs) ne ∙ sym (by true true b a q p)
      go true false p q = by true false a b p q ∙ sym (by false true b a q p)
      go false true p q = by false true a b p q ∙ sym (by true false b a q p)
      go false false p q = by false false a b p q ∙ sym (by false false b a q p)

  insert_at : (o : Ordering) (k : Key) (v : Row) (e : Keyed) (es : List Keyed) → time_cmp k e.0 ≡ o → e.0 ≢ k → S (insert_entry time_cmp es k v) ≡ S ((k, v) ∷ es)
      → S (match_ordering o ((k, v) ∷ e ∷ es) ((e.0, v) ∷ es) (e ∷ insert_entry time_cmp es k v)) ≡ S ((k, v) ∷ e ∷ es)
  insert_at Less k v e es is ne rest = refl
  insert_at Equal k v e es is ne rest = absurd (ne (sym (same_key k e.0 is)))
  insert_at Greater k v e es is ne rest =
      S-row e (insert_entry time_cmp es k v) ((k, v) ∷ es) rest ∙ S-turned e (k, v) es (λ q. ne (sym q))

  sum_insert : (es : List Keyed) (k : Key) (v : Row) → AllByRecursion (λ (s : Keyed). s.0 ≢ k) es → S (insert_entry time_cmp es k v) ≡ S ((k, v) ∷ es)
  sum_insert [] k v ne = refl
  sum_insert (e ∷ es) k v ne = insert_at (time_cmp k e.0) k v e es refl ne.0 (sum_insert es k v ne.1)

  pub sum_put : (rows es : Rows) → HaveOwnKeys es → AllByRecursion (λ (e : Keyed). AllByRecursion (λ (s : Keyed). s.0 ≢ e.0) rows) es → S (put_rows rows es) ≡ S (es ++ rows)
  sum_put rows [] own others = refl
  sum_put rows (e ∷ es) own others =
      sum_insert (put_rows rows es) e.0 e.1 (keys_put (λ k. k ≢ e.0) rows es others.0 own.0)
      ∙ S-row e (put_rows rows es) (es ++ rows) (sum_put rows es own.1 others.1)

-- the sums of both are those of the rows put among the others
pub sums_put : (f : Frame) (places : List (Option ℕ)) (m : BTreeMap ℕ Sum) (rows es : Rows) → HaveOwnKeys es → AllByRecursion (λ (e : Keyed). AllByRecursion (λ (s : Keyed). s.0 ≢ e.0) rows) es
    → AreSums f places m (es ++ rows) → AreSums f places m (put_rows rows es)
sums_put f places m rows es own others sums = record {
  sums = λ end is. sums.sums end is ∙ sym (sum_put (takes f.len end) places rows es own others);
  ends = sums.ends;
}

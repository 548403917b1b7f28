-- Rows by timestamp and table, and the same rows by key; and rows put one after another.
use Rattle.std.proofs.Common.{◌≡◌, ℕ, List, [], ◌∷◌, ◌++◌, map, filter, refl, sym, ap, ◌∙◌}
use Rattle.std.specs.declared.cmp.Ordering.{Ordering}
use Rattle.std.specs.declared.cmp.Ordering.TheVariants.{Less, Equal, Greater}
use Rattle.std.specs.Ordering.{nat_cmp, ordering_then, match_ordering}
use Rattle.std.specs.BTreeMap.{insert_entry}
use Rattle.std.proofs.lemmas.List.{map-append}
use Rattle.std.proofs.lemmas.List.Elements.{filter-append}
use Rattle.td_layer.specs.declared.values.Row.{Row}
use Rattle.td_model.specs.State.{Rows}
use Rattle.td_model.specs.declared.catalog.Column.{Column}
use Rattle.td_verdict.specs.Answers.{time_cmp}
use Rattle.td_verdict.specs.declared.comparison.Comparison.{Comparison}
use Rattle.td_query.specs.declared.rows.TimeKey.{TimeKey}
use Rattle.td_verdict.specs.Groups.{Listed, put_rows}
use Rattle.td_query.specs.Planned.{keyed}
use Rattle.td_query.specs.Read.{key_of, keyed_rows, is_wanted, wanted_from}

-- the order of such rows
abbrev pub cmp : TimeKey → TimeKey → Ordering
cmp a b = ordering_then (nat_cmp a.ts b.ts) (nat_cmp a.table b.table)

module _ (k : TimeKey) (v : Row) where
  keyed_at : (o : Ordering) (e : TimeKey × Row) (es : List (TimeKey × Row)) → keyed_rows (insert_entry cmp es k v) ≡ insert_entry time_cmp (keyed_rows es) (key_of k) v
      → keyed_rows (match_ordering o ((k, v) ∷ e ∷ es) ((e.0, v) ∷ es) (e ∷ insert_entry cmp es k v)) ≡ match_ordering o ((key_of k, v) ∷ keyed_rows (e ∷ es)) ((key_of e.0, v) ∷ keyed_rows es) ((key_of e.0, e.1) ∷ insert_entry time_cmp (keyed_rows es) (key_of k) v)
  keyed_at Less e es rest = refl
  keyed_at Equal e es rest = refl
  keyed_at Greater e es rest = ap (λ r. (key_of e.0, e.1) ∷ r) rest

  pub keyed_insert : (es : List (TimeKey × Row)) → keyed_rows (insert_entry cmp es k v) ≡ insert_entry time_cmp (keyed_rows es) (key_of k) v
  keyed_insert [] = refl
  keyed_insert (e ∷ es) = keyed_at (cmp k e.0) e es (keyed_insert es)

-- ---- rows put one after another
pub put_append : (rows es fs : Rows) → put_rows rows (es ++ fs) ≡ put_rows (put_rows rows fs) es
put_append rows [] fs = refl
put_append rows (e ∷ es) fs = ap (λ r. insert_entry time_cmp r e.0 e.1) (put_append rows es fs)

module _ (columns : List Column) (ps : List Comparison) (lo hi : ℕ) (t : Listed) where
  pub wanted_append : (xs ys : List (ℕ × Row)) → wanted_from columns ps lo hi t (xs ++ ys) ≡ wanted_from columns ps lo hi t xs ++ wanted_from columns ps lo hi t ys
  wanted_append xs ys = ap (filter (is_wanted columns ps lo hi t)) (map-append (keyed t.number) xs ys) ∙ filter-append (is_wanted columns ps lo hi t) (map (keyed t.number) xs) (map (keyed t.number) ys)

  -- one row from the end of those that are left
  pub put_last : (rows : Rows) (left : List (ℕ × Row)) (last : ℕ × Row) (next : Rows) → next ≡ put_rows rows (wanted_from columns ps lo hi t (last ∷ []))
      → put_rows next (wanted_from columns ps lo hi t left) ≡ put_rows rows (wanted_from columns ps lo hi t (left ++ last ∷ []))
  put_last rows left last next e =
      ap (λ r. put_rows r (wanted_from columns ps lo hi t left)) e
      ∙ sym (put_append rows (wanted_from columns ps lo hi t left) (wanted_from columns ps lo hi t (last ∷ [])))
      ∙ ap (put_rows rows) (sym (wanted_append left (last ∷ [])))

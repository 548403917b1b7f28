-- Rows by timestamp and table, and the same rows by key.
use Rattle.std.proofs.Common.{◌≡◌, List, [], ◌∷◌, refl, ap}
use Rattle.std.specs.declared.cmp.Ordering.{Ordering}
use Rattle.std.specs.declared.cmp.Ordering.TheVariants.{Less, Equal, Greater}
use Rattle.std.specs.Ordering.{nat_cmp, ordering_then, match_ordering}
use Rattle.std.specs.BTreeMap.{insert_entry}
use Rattle.td_layer.specs.declared.values.Cell.{Cell}
use Rattle.td_model.specs.declared.catalog.Column.{Column}
use Rattle.td_verdict.specs.Answers.{time_cmp}
use Rattle.td_answer.specs.declared.picks.TimeKey.{TimeKey}
use Rattle.td_answer.specs.declared.cells.Line.{Line}
use Rattle.td_answer.specs.Lines.{line_cells}
use Rattle.td_answer.specs.Picks.{key_of, keyed}

-- the order of such rows
abbrev pub cmp : TimeKey → TimeKey → Ordering
cmp a b = ordering_then (nat_cmp a.ts b.ts) (nat_cmp a.table b.table)

module _ (columns : List Column) (k : TimeKey) (v : Line) where
  abbrev cells : Line → List Cell
  cells l = line_cells columns l

  keyed_at : (o : Ordering) (e : TimeKey × Line) (es : List (TimeKey × Line)) → keyed columns (insert_entry cmp es k v) ≡ insert_entry time_cmp (keyed columns es) (key_of k) (cells v)
      → keyed columns (match_ordering o ((k, v) ∷ e ∷ es) ((e.0, v) ∷ es) (e ∷ insert_entry cmp es k v)) ≡ match_ordering o ((key_of k, cells v) ∷ keyed columns (e ∷ es)) ((key_of e.0, cells v) ∷ keyed columns es) ((key_of e.0, cells e.1) ∷ insert_entry time_cmp (keyed columns es) (key_of k) (cells v))
  keyed_at Less e es rest = refl
  keyed_at Equal e es rest = refl
  keyed_at Greater e es rest = ap (λ r. (key_of e.0, cells e.1) ∷ r) rest

  pub keyed_insert : (es : List (TimeKey × Line)) → keyed columns (insert_entry cmp es k v) ≡ insert_entry time_cmp (keyed columns es) (key_of k) (cells v)
  keyed_insert [] = refl
  keyed_insert (e ∷ es) = keyed_at (cmp k e.0) e es (keyed_insert es)

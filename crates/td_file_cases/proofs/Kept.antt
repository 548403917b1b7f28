-- A memtable keeps to the parts of the tables, and can be written.
use Rattle.std.proofs.Common.{◌≡◌, ℕ, zero, suc, ◌≤◌, Bool, true, false, List, [], ◌∷◌, length, Option, Some, None, refl, sym, ◌∙◌, subst, arith}
use Rattle.std.specs.Prelude.{IfSome, IsTrue, nat_le, not, if◌then◌else◌}
use Rattle.std.specs.List.{AllByRecursion, AllZip}
use Rattle.std.specs.BTreeMap.{is_at}
use Rattle.std.proofs.lemmas.Slice.Zip.{AllZip-long}
use Rattle.td_limits.specs.declared.limits.TheConstants.{LAST_DAY_RANGE}
use Rattle.td_cols.specs.Kinds.{kind_code}
use Rattle.td_cols.specs.declared.kinds.Kind.{Kind}
use Rattle.td_layer.specs.declared.values.Key.{Key}
use Rattle.td_layer.specs.declared.values.Value.{Value}
use Rattle.td_layer.specs.declared.parts.Partial.{Partial}
use Rattle.td_layer.specs.Columns.{AreColumnCells}
use Rattle.td_layer.specs.Keys.{key_cmp}
use Rattle.td_layer.specs.Parts.{cells_over}
use Rattle.td_block.specs.Columns.{is_fixed}
use Rattle.td_block.specs.Rows.{IsCellOf, IsRowOf}
use Rattle.td_block.proofs.ReadLaws.{row_values}
use Rattle.td_memtree.specs.Keys.{item_at}
use Rattle.td_memtree.specs.Within.{is_within}
use Rattle.td_memtable.specs.Contents.{Contents, put_on, with_put, with_cut, key_at, later_end}
use Rattle.td_memtable.proofs.Kept.{all-put, all-filter, found}
use Rattle.td_commit.specs.declared.frozen.Frozen.{Frozen}
use Rattle.td_commit.specs.Sound.{AreFileKinds, HasKinds, IsPutOf, IsCutOf, IsSound}
use Rattle.td_fileset.specs.Layered.{OpenSet, HaveOwnRanges}
use Rattle.td_fileset.proofs.Filters.{all_through}
use Rattle.td_fileset.proofs.Ordered.{keys_tie}
use Rattle.td_file_cases.specs.Parts.{both_columns, both_tables, IsOfTables, IsPut, HasParts}

-- ---- cells

cell_over_cell : (kind : Kind) (c d : Option Value) → IsCellOf kind c → IsCellOf kind d → IsCellOf kind (Rattle.td_layer.specs.Parts.cell_over c d)
cell_over_cell kind (Some v) d a b = a
cell_over_cell kind None d a b = b

over_cells : (kinds : List Kind) (cs ds : List (Option Value)) → AllZip IsCellOf kinds cs → AllZip IsCellOf kinds ds → AllZip IsCellOf kinds (cells_over cs ds)
over_cells [] [] ds a b = b
over_cells [] (c ∷ cs) ds a b = absurd a
over_cells (k ∷ ks) [] ds a b = absurd a
over_cells (k ∷ ks) (c ∷ cs) [] a b = absurd b
over_cells (k ∷ ks) (c ∷ cs) (d ∷ ds) a b = (cell_over_cell k c d a.0 b.0, over_cells ks cs ds a.1 b.1)

are_fixed : AllByRecursion (λ (kind : Kind). IsTrue (is_fixed kind)) both_columns
unfolding kind_code
are_fixed = (refl, (refl, tt))

pub column_cells : (e : Key × Partial) → IsPut e → AreColumnCells e.1.cells
column_cells e h = (row_values both_columns ((e.0.ts, e.1) ∷ []) are_fixed (h.1, tt)).0

abbrev HasCells : Partial → Type 0
HasCells p = AllZip IsCellOf both_columns p.cells

have_cells : (puts : List (Key × Partial)) → AllByRecursion IsPut puts → AllByRecursion (λ (e : Key × Partial). HasCells e.1) puts
have_cells puts h = all_through IsPut (λ (e : Key × Partial). HasCells e.1) puts (λ e p. p.1.cells) h

pub one_width : (m : Contents) (key : Key) (p : Partial) → HasParts m → IsPut (key, p) → IfSome (item_at key m.puts) (λ (q : Partial). length p.cells ≡ length q.cells)
one_width m key p h is = by (item_at key m.puts) (found (is_at (key_cmp key)) HasCells m.puts (have_cells m.puts h.puts))
  where
    by : (o : Option Partial) → IfSome o HasCells → IfSome o (λ (q : Partial). length p.cells ≡ length q.cells)
    by None c = tt
    by (Some q) c = AllZip-long IsCellOf both_columns p.cells is.1.cells ∙ sym (AllZip-long IsCellOf both_columns q.cells c)

-- ---- parts

on_item : (key : Key) (p : Partial) (o : Option Partial) → IsPut (key, p) → IfSome o HasCells → IsPut (key, put_on p o)
on_item key p None h c = h
on_item key p (Some q) h c = (h.0, record { in_time = h.1.in_time; cells = over_cells both_columns p.cells q.cells h.1.cells c })

pub after_put : (m new : Contents) (key : Key) (p : Partial) → HasParts m → IsPut (key, p) → new ≡ with_put key p m → HasParts new
after_put m new key p h is e =
    let laid = on_item key p (item_at key m.puts) is (found (is_at (key_cmp key)) HasCells m.puts (have_cells m.puts h.puts)) in
    rw e (record {
      puts = all-put key_cmp IsPut m.puts key _ laid (λ j same. subst (λ (k : Key). IsPut (k, put_on p (item_at key m.puts))) (keys_tie key j same) laid) h.puts;
      cuts = h.cuts;
    })

abbrev IsCut : Key × ℕ → Type 0
IsCut c = IsOfTables c.0

chosen : (b : Bool) (x y : Contents) → HasParts x → HasParts y → HasParts (if b then x else y)
chosen true x y f g = f
chosen false x y f g = g

pub after_cut : (m new : Contents) (table lo hi : ℕ) → HasParts m → IsOfTables (key_at table lo) → new ≡ with_cut table lo hi m → HasParts new
after_cut m new table lo hi h is e =
    let fewer = all-filter IsPut (λ (e : Key × Partial). not (is_within (key_at table lo) (key_at table hi) e.0)) m.puts h.puts in
    let more = all-put key_cmp IsCut m.cuts (key_at table lo) (later_end hi (item_at (key_at table lo) m.cuts)) is (λ j same. subst (λ (k : Key). IsOfTables k) (keys_tie (key_at table lo) j same) is) h.cuts in
    rw e (chosen (nat_le lo hi) _ _ (record { puts = fewer; cuts = more }) (record { puts = h.puts; cuts = h.cuts }))

-- ---- commits

of_tables : (table : ℕ) (P : List Kind → Type 0) → 1 ≤ table → table ≤ 2 → P both_columns → HasKinds both_tables table P
of_tables zero P a b h = absurd (omega (arith, a))
of_tables (suc zero) P a b h = (a, h)
of_tables (suc (suc zero)) P a b h = (a, h)
of_tables (suc (suc (suc n))) P a b h = absurd (omega (arith, b))

file_kinds : AreFileKinds both_columns
file_kinds = record { few = omega arith; fixed = are_fixed }

pub can_write : (f : Frozen) → HasParts f.memtable → f.ranges ≡ 0 ∷ 1 ∷ [] → f.kinds ≡ both_tables → IsSound f
can_write f h ranges kinds = record {
  rise = subst Rattle.td_commit.specs.Sound.Rise (sym ranges) (omega arith, tt);
  last = subst (AllByRecursion (λ (range : ℕ). range ≤ LAST_DAY_RANGE)) (sym ranges) (omega arith, (omega arith, tt));
  puts = subst (λ (k : List (List Kind)). AllByRecursion (IsPutOf k) f.memtable.puts) (sym kinds)
      (all_through IsPut (IsPutOf both_tables) f.memtable.puts (λ e p. of_tables e.0.table (λ own. AreFileKinds own × IsRowOf own (e.0.ts, e.1)) p.0.first p.0.last (file_kinds, p.1)) h.puts);
  cuts = subst (λ (k : List (List Kind)). AllByRecursion (IsCutOf k) f.memtable.cuts) (sym kinds)
      (all_through IsCut (IsCutOf both_tables) f.memtable.cuts (λ c p. of_tables c.0.table AreFileKinds p.first p.last file_kinds) h.cuts);
}

-- ---- layers

pub two_ranges : (a b : OpenSet) → a.range ≡ 0 → b.range ≡ 1 → HaveOwnRanges (a ∷ b ∷ [])
two_ranges a b x y = ((λ same. absurd (omega (arith, x, y, same)), tt), (tt, tt))

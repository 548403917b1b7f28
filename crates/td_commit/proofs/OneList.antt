-- The tables of a memtable in a day range are one list.
use Rattle.std.proofs.Common.{◌≡◌, ℕ, ◌+◌, nat_le, Bool, true, false, List, [], ◌∷◌, length, refl, sym, ap, subst, ◌∙◌, arith}
use Rattle.std.proofs.lemmas.Bool.{leb-true, leb-false}
use Rattle.td_cols.specs.declared.kinds.Kind.{Kind}
use Rattle.td_memtable.specs.Contents.{ranges_of}
use Rattle.td_memtable.proofs.OneJoin.{one_join}
use Rattle.td_block.specs.Rows.{Rows}
use Rattle.td_fileio.specs.declared.lists.TableRows.{TableRows}
use Rattle.td_commit.specs.declared.frozen.Frozen.{Frozen}
use Rattle.td_commit.specs.Clipped.{rows_of, rows_in_day, clipped, AreCutsIn, IsTableIn, IsEmptyIn, AreTablesFrom}
use Rattle.td_commit.proofs.Parts.{same_kinds}

same_cuts : (range : ℕ) (ranges cuts others : List (ℕ × ℕ)) → AreCutsIn range ranges cuts → AreCutsIn range ranges others → cuts ≡ others
same_cuts range ranges cuts others a b = a.cuts_are ∙ ap (clipped range) (one_join ranges a.joined b.joined a.join b.join) ∙ sym b.cuts_are

not_empty : (f : Frozen) (range : ℕ) (t : TableRows) → IsTableIn f range t → IsEmptyIn f range t.table → ⊥
not_empty f range t own empty =
    let rows : length t.rows ≡ 0 = ap length (own.rows ∙ ap rows_of empty.rows) in
    let cuts : length t.cuts ≡ 0 = ap length (same_cuts range (ranges_of t.table f.memtable.cuts) t.cuts [] own.cuts empty.cuts) in
    let some = own.some in
    omega (arith, rows, cuts, some)

-- ---- one table

abbrev made_of : ℕ → List Kind → List (ℕ × ℕ) → Rows → TableRows
made_of table kinds cuts rows = record { table = table; kinds = kinds; cuts = cuts; rows = rows }

same_made : (table other : ℕ) (kinds kinds' : List Kind) (cuts cuts' : List (ℕ × ℕ)) (rows rows' : Rows) → table ≡ other → kinds ≡ kinds' → cuts ≡ cuts' → rows ≡ rows' → made_of table kinds cuts rows ≡ made_of other kinds' cuts' rows'
same_made table other kinds kinds' cuts cuts' rows rows' a b c d =
    ap (λ (n : ℕ). made_of n kinds cuts rows) a ∙ ap (λ (l : List Kind). made_of other l cuts rows) b
    ∙ ap (λ (l : List (ℕ × ℕ)). made_of other kinds' l rows) c ∙ ap (λ (l : Rows). made_of other kinds' cuts' l) d

one_table : (f : Frozen) (range : ℕ) (t u : TableRows) → t.table ≡ u.table → IsTableIn f range t → IsTableIn f range u → t ≡ u
one_table f range t u same a b =
    let kinds = same_kinds f.kinds t.table u.table t.kinds u.kinds a.kinds b.kinds same in
    let own : AreCutsIn range (ranges_of u.table f.memtable.cuts) t.cuts = subst (λ (n : ℕ). AreCutsIn range (ranges_of n f.memtable.cuts) t.cuts) same a.cuts in
    let cuts = same_cuts range (ranges_of u.table f.memtable.cuts) t.cuts u.cuts own b.cuts in
    let rows : t.rows ≡ u.rows = a.rows ∙ ap (λ (n : ℕ). rows_in_day range n f.memtable.puts) same ∙ sym b.rows in
    same_made t.table u.table t.kinds u.kinds t.cuts u.cuts t.rows u.rows same kinds cuts rows

-- ---- all tables

pub one_list : (f : Frozen) (range from : ℕ) (tables others : List TableRows) → AreTablesFrom f range from tables → AreTablesFrom f range from others → tables ≡ others
one_list f range from [] [] a b = refl
one_list f range from [] (u ∷ us) a b =
    let own = b.1.1.0 in
    absurd (not_empty f range u own (a u.table b.0 own.fits))
one_list f range from (t ∷ ts) [] a b =
    let own = a.1.1.0 in
    absurd (not_empty f range t own (b t.table a.0 own.fits))
one_list f range from (t ∷ ts) (u ∷ us) a b =
    by (nat_le t.table u.table) (nat_le u.table t.table) refl refl (λ same. one_list f range (u.table + 1) ts us (subst (λ (n : ℕ). AreTablesFrom f range (n + 1) ts) same a.1.1.1) b.1.1.1)
  where
    by : (p q : Bool) → nat_le t.table u.table ≡ p → nat_le u.table t.table ≡ q → (t.table ≡ u.table → ts ≡ us) → t ∷ ts ≡ u ∷ us
    by true true le ge rest =
        let at_most = leb-true t.table u.table le in
        let at_least = leb-true u.table t.table ge in
        let same : t.table ≡ u.table = omega (arith, at_most, at_least) in
        let first = one_table f range t u same a.1.1.0 b.1.1.0 in
        ap (λ (x : TableRows). x ∷ ts) first ∙ ap (λ (l : List TableRows). u ∷ l) (rest same)
    by true false le ge rest = absurd (not_empty f range t a.1.1.0 (b.1.0 t.table a.0 (leb-false u.table t.table ge)))
    by false q le ge rest = absurd (not_empty f range u b.1.1.0 (a.1.0 u.table b.0 (leb-false t.table u.table le)))

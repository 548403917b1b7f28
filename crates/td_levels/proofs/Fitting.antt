-- Memtables fit a catalog after puts and cuts.
use Rattle.std.proofs.Common.{◌≡◌, ℕ, ◌+◌, ◌^◌, ◌<◌, ◌≤◌, nat_le, Bool, true, false, cond, List, [], ◌∷◌, length, Option, Some, None, All, refl, sym, subst, arith}
use Rattle.std.specs.Prelude.{IfSome, not}
use Rattle.std.specs.List.{AllByRecursion, AllZip}
use Rattle.std.specs.BTreeMap.{is_at}
use Rattle.std.proofs.lemmas.Bool.{leb-true}
use Rattle.std.proofs.lemmas.List.Elements.{All-from_recursion, recursion_from_All, All-head, All-tail, All-filter}
use Rattle.td_limits.specs.declared.limits.TheConstants.{MEMTABLE_PARTS}
use Rattle.td_layer.specs.declared.values.Key.{Key}
use Rattle.td_layer.specs.declared.values.Value.{Value}
use Rattle.td_layer.specs.declared.parts.Partial.{Partial}
use Rattle.td_layer.specs.Columns.{AreColumnCells}
use Rattle.td_layer.specs.Keys.{key_cmp}
use Rattle.td_layer.specs.Parts.{cell_over, cells_over}
use Rattle.td_model.specs.declared.catalog.Column.{Column}
use Rattle.td_model.specs.declared.history.Put.{Put}
use Rattle.td_model.specs.Catalog.{Catalog}
use Rattle.td_verdict.specs.Sound.{IsPut, IsCut, is_named_of, value_columns}
use Rattle.td_memtree.specs.Keys.{item_at, with_item}
use Rattle.td_memtree.specs.Within.{is_within, pairs_without}
use Rattle.td_memtable.specs.Contents.{Contents, key_at, put_on, with_put, later_end, with_cut}
use Rattle.td_memtable.proofs.Kept.{all-put}
use Rattle.td_memtable.proofs.Sound.{IsSound-put, IsSound-cut, IsSound-held, at_most_later}
use Rattle.td_fileset.proofs.Ordered.{keys_tie}
use Rattle.td_fileset.proofs.Rows.{equal_keys}
use Rattle.td_levels.specs.Taken.{with_puts}
use Rattle.td_levels.specs.Fits.{FitsPut, FitsCut, FitsMemtable}

-- ---- cells beside columns

module _ {A : Type 0} (R : A → Option Value → Type 0) where
  over_cell : (a : A) (c d : Option Value) → R a c → R a d → R a (cell_over c d)
  over_cell a None d h k = k
  over_cell a (Some v) d h k = h

  zip_over : (xs : List A) (cs ds : List (Option Value)) → AllZip R xs cs → AllZip R xs ds → AllZip R xs (cells_over cs ds)
  zip_over [] [] [] h k = tt
  zip_over [] [] (d ∷ ds) h k = absurd k
  zip_over [] (c ∷ cs) ds h k = absurd h
  zip_over (x ∷ xs) [] ds h k = absurd h
  zip_over (x ∷ xs) (c ∷ cs) [] h k = absurd k
  zip_over (x ∷ xs) (c ∷ cs) (d ∷ ds) h k = (over_cell x c d h.0 k.0, zip_over xs cs ds h.1 k.1)

  zip_width : (xs : List A) (cs ds : List (Option Value)) → AllZip R xs cs → AllZip R xs ds → length cs ≡ length ds
  zip_width [] [] [] h k = refl
  zip_width [] [] (d ∷ ds) h k = absurd k
  zip_width [] (c ∷ cs) ds h k = absurd h
  zip_width (x ∷ xs) [] ds h k = absurd h
  zip_width (x ∷ xs) (c ∷ cs) [] h k = absurd k
  zip_width (x ∷ xs) (c ∷ cs) (d ∷ ds) h k = let rest = zip_width xs cs ds h.1 k.1 in omega (arith, rest)

abbrev suits : Column → Option Value → Type 0
suits k v = is_named_of k.kind v ≡ true

-- ---- what is found

-- the item that is found of a key is one of the pairs
pub found_item : {T : Type 0} (P : Key × T → Type 0) (k : Key) (es : List (Key × T)) → AllByRecursion P es → IfSome (item_at k es) (λ (x : T). P (k, x))
found_item P k [] a = tt
found_item {T} P k (e ∷ es) a = by (is_at (key_cmp k) e.0) refl (found_item P k es a.1)
  where
    by : (b : Bool) → is_at (key_cmp k) e.0 ≡ b → IfSome (item_at k es) (λ (x : T). P (k, x)) → IfSome (cond b (Some e.1) (item_at k es)) (λ (x : T). P (k, x))
    by true is i = subst (λ (key : Key). P (key, e.1)) (sym (equal_keys k e.0 is)) a.0
    by false is i = i

module _ (c : Catalog) where
  -- two puts of a key have equally many cells
  pub one_width : (k : Key) (p q : Partial) → FitsPut c (k, p) → FitsPut c (k, q) → length p.cells ≡ length q.cells
  one_width k p q f g = zip_width suits (value_columns k.table c) p.cells q.cells f.put.cells g.put.cells

  -- ---- puts

  fits_on : (k : Key) (p : Partial) (o : Option Partial) → FitsPut c (k, p) → IfSome o (λ (q : Partial). FitsPut c (k, q)) → FitsPut c (k, put_on p o)
  fits_on k p None f g = f
  fits_on k p (Some q) f g = record {
    put = record { key = f.put.key; cells = zip_over suits (value_columns k.table c) p.cells q.cells f.put.cells g.put.cells };
    born = g.born;
  }

  pub put_fits : (k : Key) (p : Partial) (m : Contents) → FitsPut c (k, p) → AreColumnCells p.cells → m.held < MEMTABLE_PARTS → FitsMemtable c m → FitsMemtable c (with_put k p m)
  put_fits k p m f cells room fits =
      let all = recursion_from_All (FitsPut c) m.puts fits.puts in
      let new : FitsPut c (k, put_on p (item_at k m.puts)) = fits_on k p (item_at k m.puts) f (found_item (FitsPut c) k m.puts all) in
      record {
        sound = IsSound-put m k p fits.sound room cells;
        puts = All-from_recursion (FitsPut c) (with_item k (put_on p (item_at k m.puts)) m.puts)
            (all-put key_cmp (FitsPut c) m.puts k (put_on p (item_at k m.puts)) new (λ j e. subst (λ (key : Key). FitsPut c (key, put_on p (item_at k m.puts))) (keys_tie k j e) new) all);
        cuts = fits.cuts;
      }

  pub new_fits : (moment : ℕ) (p : Put) → moment < 2 ^ 64 → IsPut c p → FitsPut c (p.key, record { birth = record { born = moment }; cells = p.cells })
  new_fits moment p small is = record { put = is; born = small }

  pub puts_fit : (moment : ℕ) (ps : List Put) (m : Contents) → moment < 2 ^ 64 → All (IsPut c) ps → All (λ (p : Put). AreColumnCells p.cells) ps → m.held + length ps ≤ MEMTABLE_PARTS → FitsMemtable c m → FitsMemtable c (with_puts moment ps m)
  puts_fit moment [] m small are cells room fits = fits
  puts_fit moment (p ∷ ps) m small are cells room fits =
      let first = All-head (IsPut c) p ps are in
      let its = All-head (λ (p : Put). AreColumnCells p.cells) p ps cells in
      puts_fit moment ps (with_put p.key (record { birth = record { born = moment }; cells = p.cells }) m) small (All-tail (IsPut c) p ps are) (All-tail (λ (p : Put). AreColumnCells p.cells) p ps cells) (omega (arith, room))
      (put_fits p.key (record { birth = record { born = moment }; cells = p.cells }) m (new_fits moment p small first) its (omega (arith, room)) fits)

  -- ---- cuts

  pub cut_fits : (table lo hi : ℕ) (m : Contents) → IsCut c table lo hi → m.held < MEMTABLE_PARTS → FitsMemtable c m → FitsMemtable c (with_cut table lo hi m)
  cut_fits table lo hi m is room fits = by (nat_le lo hi) refl
    where
      by : (b : Bool) → nat_le lo hi ≡ b → FitsMemtable c (cond b
          (record { puts = pairs_without (key_at table lo) (key_at table hi) m.puts; cuts = with_item (key_at table lo) (later_end hi (item_at (key_at table lo) m.cuts)) m.cuts; held = m.held + 1 })
          (record { puts = m.puts; cuts = m.cuts; held = m.held + 1 }))
      by true le = record {
        sound = IsSound-cut m (key_at table lo) (key_at table hi) (key_at table lo) (later_end hi (item_at (key_at table lo) m.cuts)) (at_most_later lo hi (later_end hi (item_at (key_at table lo) m.cuts)) (item_at (key_at table lo) m.cuts) (leb-true lo hi le) refl) fits.sound room;
        puts = All-filter (λ (e : Key × Partial). not (is_within (key_at table lo) (key_at table hi) e.0)) (FitsPut c) m.puts fits.puts;
        cuts = All-from_recursion (FitsCut c) (with_item (key_at table lo) (later_end hi (item_at (key_at table lo) m.cuts)) m.cuts)
            (all-put key_cmp (FitsCut c) m.cuts (key_at table lo) (later_end hi (item_at (key_at table lo) m.cuts)) (record { from_one = is.from_one; there = is.there })
            (λ j e. subst (λ (key : Key). FitsCut c (key, later_end hi (item_at (key_at table lo) m.cuts))) (keys_tie (key_at table lo) j e) (record { from_one = is.from_one; there = is.there })) (recursion_from_All (FitsCut c) m.cuts fits.cuts));
      }
      by false le = record { sound = IsSound-held m fits.sound room; puts = fits.puts; cuts = fits.cuts }

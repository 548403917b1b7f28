-- Puts laid one after another.
use Rattle.std.proofs.Common.{◌≡◌, ℕ, ◌+◌, ◌^◌, suc, ◌<◌, List, ◌∷◌, length, drop, get_or, Option, Some, None, All, refl, sym, ap, subst, ◌∙◌, add-one}
use Rattle.std.specs.Prelude.{IfSome}
use Rattle.std.proofs.lemmas.List.Elements.{All-get_or, recursion_from_All}
use Rattle.td_limits.specs.declared.limits.TheConstants.{MEMTABLE_PARTS}
use Rattle.td_layer.specs.declared.parts.Partial.{Partial}
use Rattle.td_layer.specs.Columns.{AreColumnCells}
use Rattle.td_model.specs.Catalog.{Catalog}
use Rattle.td_verdict.specs.Sound.{IsPut}
use Rattle.td_memtree.specs.Keys.{item_at}
use Rattle.td_levels.specs.Fits.{FitsPut, FitsMemtable}
use Rattle.td_levels.proofs.Fitting.{found_item, one_width, put_fits, new_fits}
use Rattle.std.proofs.Math.Seq.{drop-cons}
use Rattle.td_model.specs.declared.history.Put.{Put}
use Rattle.td_memtable.specs.Contents.{Contents, with_put}
use Rattle.td_levels.specs.Taken.{with_puts}

-- one more put is laid
pub put_more : (moment : ℕ) (puts : List Put) (i : ℕ) (p : Put) (m new : Contents) → i < length puts → p ≡ get_or puts i p → new ≡ with_put p.key (record { birth = record { born = moment }; cells = p.cells }) m
    → with_puts moment (drop (i + 1) puts) new ≡ with_puts moment (drop i puts) m
put_more moment puts i p m new l is made =
    let split : drop i puts ≡ p ∷ drop (suc i) puts = drop-cons puts i p l ∙ ap (λ x. x ∷ drop (suc i) puts) (sym is) in
    rw (add-one, split, made) refl

module _ (c : Catalog) (moment : ℕ) (small : moment < 2 ^ 64) (puts : List Put) (i : ℕ) (p : Put) (m : Contents) (l : i < length puts) (is : p ≡ get_or puts i p) where
  abbrev new_part : Partial
  new_part = record { birth = record { born = moment }; cells = p.cells }

  -- a put of a list for which a fact holds of each
  one_of : (P : Put → Type 0) → All P puts → P p
  one_of P all = subst P (sym is) (All-get_or P puts i p l all)

  -- it has as many cells as the put of its key
  pub fitting_width : All (IsPut c) puts → FitsMemtable c m → IfSome (item_at p.key m.puts) (λ (under : Partial). length p.cells ≡ length under.cells)
  fitting_width are fits = by (item_at p.key m.puts) (found_item (FitsPut c) p.key m.puts (recursion_from_All (FitsPut c) m.puts fits.puts))
    where
      by : (o : Option Partial) → IfSome o (λ (q : Partial). FitsPut c (p.key, q)) → IfSome o (λ (under : Partial). length p.cells ≡ length under.cells)
      by None f = tt
      by (Some q) f = one_width c p.key new_part q (new_fits c moment p small (one_of (IsPut c) are)) f

  pub fits_more : (new : Contents) → All (IsPut c) puts → All (λ (p : Put). AreColumnCells p.cells) puts → m.held < MEMTABLE_PARTS → new ≡ with_put p.key new_part m → FitsMemtable c m → FitsMemtable c new
  fits_more new are cells room made fits =
      subst (FitsMemtable c) (sym made) (put_fits c p.key new_part m (new_fits c moment p small (one_of (IsPut c) are)) (one_of (λ (p : Put). AreColumnCells p.cells) cells) room fits)

-- What is true of the rows of the groups that are given.
use Rattle.std.proofs.Common.{◌≡◌, ◌≤◌, ◌<◌, ℕ, zero, suc, Bool, true, false, cond, List, [], ◌∷◌, map, filter, length, get_or, subst, sym, arith}
use Rattle.std.specs.List.{AllByRecursion}
use Rattle.td_limits.specs.declared.limits.TheConstants.{LAST_TIMESTAMP}
use Rattle.td_model.specs.State.{Rows}
use Rattle.td_query.specs.declared.gathering.Group.{Group}
use Rattle.td_query.specs.Gathered.{without_windows}
use Rattle.td_verdict.specs.Groups.{Grouped, is_shown, first_groups}
use Rattle.td_query.specs.Read.{IsGood, AreGood}

module _ (hi : ℕ) (in_time : hi ≤ LAST_TIMESTAMP) where
  earlier : (rows : Rows) → AllByRecursion (IsGood hi) rows → AllByRecursion (IsGood LAST_TIMESTAMP) rows
  earlier [] good = tt
  earlier (e ∷ es) good = let below : e.0.ts ≤ hi = good.0.0 in ((omega (arith, in_time), good.0.1), earlier es good.1)

  abbrev AreRanged : List Group → Type 0
  AreRanged gs = AllByRecursion (λ (g : Group). AllByRecursion (IsGood LAST_TIMESTAMP) g.rows) gs

  shown_at : (one : Bool) (g : Grouped) (gs : List Grouped) (b : Bool) → AllByRecursion (IsGood hi) g.rows → AreRanged (map without_windows (filter (is_shown one) gs))
      → AreRanged (map without_windows (cond b (g ∷ filter (is_shown one) gs) (filter (is_shown one) gs)))
  shown_at one g gs true good rest = (earlier g.rows good, rest)
  shown_at one g gs false good rest = rest

  shown_good : (one : Bool) (gs : List Grouped) → AreGood hi gs → AreRanged (map without_windows (filter (is_shown one) gs))
  shown_good one [] good = tt
  shown_good one (g ∷ gs) good = shown_at one g gs (is_shown one g) good.0 (shown_good one gs good.1)

  ranged_at : (gs : List Group) (k : ℕ) (d : Group) → AreRanged gs → k < length gs → AllByRecursion (IsGood LAST_TIMESTAMP) (get_or gs k d).rows
  ranged_at [] k d good h = absurd (omega arith)
  ranged_at (g ∷ gs) zero d good h = good.0
  ranged_at (g ∷ gs) (suc k) d good h = ranged_at gs k d good.1 (omega arith)

  pub given_good : (one : Bool) (gs : List Grouped) (groups : List Group) → groups ≡ map without_windows (filter (is_shown one) gs) → AreGood hi gs → (k : ℕ) (d : Group) → k < length groups → AllByRecursion (IsGood LAST_TIMESTAMP) (get_or groups k d).rows
  given_good one gs groups e good k d h =
      ranged_at groups k d (subst (λ (l : List Group). AreRanged l) (sym e) (shown_good one gs good)) h

pub first_good : (hi : ℕ) (one : Bool) → AreGood hi (first_groups one)
first_good hi true = (tt, tt)
first_good hi false = tt

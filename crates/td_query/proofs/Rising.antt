-- Rows by timestamp and table don't fall in time.
use Rattle.std.proofs.Common.{◌≡◌, ℕ, zero, suc, ◌≤◌, ◌<◌, List, [], ◌∷◌, map, length, get_or, arith}
use Rattle.std.specs.List.{AllByRecursion}
use Rattle.std.specs.List.Sorted.{IsStrictlySortedBy, IsNonDecreasing}
use Rattle.std.specs.declared.cmp.Ordering.TheVariants.{Less}
use Rattle.std.proofs.lemmas.Bool.Decides.{nat_tests}
use Rattle.std.specs.Map.{keys_of}
use Rattle.td_layer.specs.declared.values.Row.{Row}
use Rattle.td_query.specs.declared.rows.TimeKey.{TimeKey}
use Rattle.td_query.specs.Read.{keyed_rows, time_of}
use Rattle.td_query.proofs.Keyed.{cmp}

abbrev Rises : List ℕ → Type 0
Rises [] = Unit {0}
Rises (t ∷ ts) = AllByRecursion (λ s. t ≤ s) ts × Rises ts

all_at : (t : ℕ) (ts : List ℕ) (j d : ℕ) → AllByRecursion (λ s. t ≤ s) ts → j < length ts → t ≤ get_or ts j d
all_at t [] j d all h = absurd (omega arith)
all_at t (s ∷ ts) zero d all h = all.0
all_at t (s ∷ ts) (suc j) d all h = all_at t ts j d all.1 (omega arith)

never_falls : (ts : List ℕ) → Rises ts → (i j d : ℕ) → i ≤ j → j < length ts → get_or ts i d ≤ get_or ts j d
never_falls [] r i j d l h = absurd (omega arith)
never_falls (t ∷ ts) r zero zero d l h = omega arith
never_falls (t ∷ ts) r zero (suc j) d l h = all_at t ts j d r.0 (omega arith)
never_falls (t ∷ ts) r (suc i) zero d l h = absurd (omega arith)
never_falls (t ∷ ts) r (suc i) (suc j) d l h = never_falls ts r.1 i j d (omega arith) (omega arith)

less_time : (a b : TimeKey) → cmp a b ≡ Less → a.ts ≤ b.ts
less_time a b e = grind (arith, nat_tests)

all_later : (a : TimeKey) (es : List (TimeKey × Row)) → AllByRecursion (λ b. cmp a b ≡ Less) (keys_of es) → AllByRecursion (λ s. a.ts ≤ s) (map time_of (keyed_rows es))
all_later a [] all = tt
all_later a (e ∷ es) all = (less_time a e.0 all.0, all_later a es all.1)

times_rise : (es : List (TimeKey × Row)) → IsStrictlySortedBy cmp (keys_of es) → Rises (map time_of (keyed_rows es))
unfolding IsStrictlySortedBy
times_rise [] sorted = tt
times_rise (e ∷ es) sorted = (all_later e.0 es sorted.0, times_rise es sorted.1)

pub sorted_times : (es : List (TimeKey × Row)) → IsStrictlySortedBy cmp (keys_of es) → IsNonDecreasing (map time_of (keyed_rows es))
sorted_times es sorted = never_falls (map time_of (keyed_rows es)) (times_rise es sorted)

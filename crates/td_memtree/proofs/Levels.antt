-- Weights of levels: each has at most three quarters of the weight above it, so there are few.
use Rattle.std.proofs.Common.{◌≡◌, ℕ, zero, suc, ◌+◌, ◌-◌, ◌*◌, ◌^◌, ◌<◌, ◌≤◌, inl, inr, subst, arith, lit<, suc-add}
use Rattle.std.proofs.Math.Nat.{pow-succ', sub-add_cancel, mul-le-mul_left}
use Rattle.std.proofs.lemmas.Bool.{cases_lt}
use Rattle.td_memtree.specs.Pending.{IsLight}

-- one level further down, where `four` and `three` are powers
light_step : (l d four three most : ℕ) → 4 * l ≤ 3 * d → d * four ≤ three * most → l * (4 * four) ≤ (3 * three) * most
light_step l d four three most a b = omega (arith, mul-le-mul_left four a, mul-le-mul_left 3 b)

pub IsLight-suc : (k l d : ℕ) → 4 * l ≤ 3 * d → IsLight k d → IsLight (suc k) l
IsLight-suc k l d a b = rw (pow-succ' 4 k, pow-succ' 3 k) (light_step l d (4 ^ k) (3 ^ k) (2 ^ 32) a b)

heavy_step : (four three most : ℕ) → three * most < 2 * four → (3 * three) * most < 2 * (4 * four)
heavy_step four three most a = omega (arith, a)

-- from the 75th level on not even one pair beside the weight of an empty tree would be light enough
heavy : (j : ℕ) → 3 ^ (j + 75) * 2 ^ 32 < 2 * 4 ^ (j + 75)
heavy zero = lit< tt
heavy (suc j) = rw (suc-add j 75, pow-succ' 4 (j + 75), pow-succ' 3 (j + 75)) (heavy_step (4 ^ (j + 75)) (3 ^ (j + 75)) (2 ^ 32) (heavy j))

too_heavy : (k pairs : ℕ) → 2 ≤ pairs → IsLight k pairs → 75 ≤ k → ⊥
too_heavy k pairs a b h =
    let same : k - 75 + 75 ≡ k = sub-add_cancel h in
    let top : 3 ^ k * 2 ^ 32 < 2 * 4 ^ k = subst (λ j. 3 ^ j * 2 ^ 32 < 2 * 4 ^ j) same (heavy (k - 75)) in
    let two : 4 ^ k * 2 ≤ 4 ^ k * pairs = mul-le-mul_left (4 ^ k) a in
    omega (arith, top, two, b)

pub few_levels : (k pairs : ℕ) → 2 ≤ pairs → IsLight k pairs → k < 75
few_levels k pairs a b = elim (cases_lt k 75) [ inl h ↦ h | inr h ↦ absurd (too_heavy k pairs a b h) ]

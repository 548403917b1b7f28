-- Numbers and the low part of their two's complement, which is taken from 2 ^ 128.
use Rattle.std.proofs.Common.{◌≡◌, ℕ, zero, suc, ◌+◌, ◌-◌, ◌*◌, ◌%◌, ◌^◌, ◌<◌, ◌≤◌, Bool, true, false, cond, nat_lt, ℤ, pos, negsuc, ◌-ℤ◌, refl, sym, ap, ◌∙◌, arith}
use Rattle.std.specs.Prelude.{if◌then◌else◌, int_le}
use Rattle.std.proofs.Math.Nat.{mod-eq_of_lt, mul-add-mod_self_right}
use Rattle.std.proofs.lemmas.Int.{ints}
use Rattle.std.proofs.lemmas.Bool.Decides.{nat_tests}
use Rattle.std.specs.Int.{w128, cast_unsigned}

-- what is left of a number that lies below a multiple of m
mod-below_multiple : (m q n : ℕ) → n < m → 0 < q → (m * q - suc n) % m ≡ m - suc n
mod-below_multiple m zero n small some = absurd (omega arith)
mod-below_multiple m (suc q) n small some =
    let apart : m * suc q - suc n ≡ q * m + (m - suc n) = omega arith in
    ap (λ (x : ℕ). x % m) apart ∙ mul-add-mod_self_right q m (m - suc n) ∙ mod-eq_of_lt (omega arith)

-- x of the range from 0 to m, read as a signed number whose negative half begins at `half`
abbrev pub signed_of : ℕ → ℕ → ℕ → ℤ
signed_of half m x = if nat_lt x half then pos x else (pos x -ℤ pos m)

pub signed_of-low : (h m q : ℕ) (v : ℤ) → m ≡ suc h + suc h → m * q ≡ 2 ^ 128 → 0 < q → int_le (negsuc h) v ≡ true → int_le v (pos h) ≡ true → signed_of (suc h) m (cast_unsigned w128 v % m) ≡ v
signed_of-low h m q (pos n) whole parts some above below =
    let small : n ≤ h = grind (arith, nat_tests) in
    let same : n % m ≡ n = mod-eq_of_lt (omega arith) in
    let test : nat_lt n (suc h) ≡ true = grind (arith, nat_tests) in
    rw (same, test) refl
signed_of-low h m q (negsuc n) whole parts some above below =
    let small : n ≤ h = grind (arith, nat_tests) in
    let same : (2 ^ 128 - suc n) % m ≡ m - suc n =
    ap (λ (x : ℕ). (x - suc n) % m) (sym parts) ∙ mod-below_multiple m q n (omega arith) some in
    let test : nat_lt (m - suc n) (suc h) ≡ false = grind (arith, nat_tests) in
    rw (same, test) (omega (arith, ints))

low-signed_of : (h m q n : ℕ) (low : Bool) → nat_lt n (suc h) ≡ low → m ≡ suc h + suc h → m * q ≡ 2 ^ 128 → 0 < q → n < m → cast_unsigned w128 (cond low (pos n) (pos n -ℤ pos m)) % m ≡ n
low-signed_of h m q n true test whole parts some small = mod-eq_of_lt small
low-signed_of h m q n false test whole parts some small =
    let down : pos n -ℤ pos m ≡ negsuc (m - suc n) = omega (arith, ints) in
    let same : (2 ^ 128 - suc (m - suc n)) % m ≡ m - suc (m - suc n) =
    ap (λ (x : ℕ). (x - suc (m - suc n)) % m) (sym parts) ∙ mod-below_multiple m q (m - suc n) (omega arith) some in
    ap (λ (z : ℤ). cast_unsigned w128 z % m) down ∙ same ∙ omega arith

pub low-signed : (h m q n : ℕ) → m ≡ suc h + suc h → m * q ≡ 2 ^ 128 → 0 < q → n < m → cast_unsigned w128 (signed_of (suc h) m n) % m ≡ n
low-signed h m q n whole parts some small = low-signed_of h m q n (nat_lt n (suc h)) refl whole parts some small

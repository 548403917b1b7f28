-- Sums and bounds of plain numbers, apart from the states that they are numbers of.
use Rattle.std.proofs.Common.{◌≡◌, ℕ, suc, ◌+◌, ◌^◌, ◌<◌, ◌≤◌, arith}
use Rattle.td_limits.specs.declared.limits.TheConstants.{LAST_VERSION}

pub early_late : (a b : ℕ) → a < b → b ≤ a → ⊥
early_late a b early late = absurd (omega arith)

pub no_more : (a b : ℕ) → a ≡ b → a ≡ b + 0
no_more a b e = omega arith

pub one_more : (a b c n : ℕ) → a ≡ b + n → b ≡ c + 1 → a ≡ c + suc n
one_more a b c n e f = omega arith

pub equal_at_most : (a b : ℕ) → a ≡ b → b ≤ a
equal_at_most a b e = omega arith

pub rises : (a b c m : ℕ) → a ≤ m → b ≡ m → b ≤ c → a ≤ c
rises a b c m le e f = omega arith

pub none_at_most : (n : ℕ) → 0 ≤ n
none_at_most n = omega arith

pub self_at_most : (n : ℕ) → n ≤ n
self_at_most n = omega arith

pub up_to : (a b c : ℕ) → a ≤ b → c ≡ b → a ≤ c
up_to a b c le e = omega arith

pub at_most : (a b c : ℕ) → c ≡ b → b ≤ a → c ≤ a
at_most a b c e le = omega arith

pub next_after : (a n : ℕ) → a ≡ n → a + 1 ≡ 1 + n
next_after a n e = omega arith

pub some_since : (a b n : ℕ) → a < b → b ≡ a + n → n ≡ 0 → ⊥
some_since a b n lt e none = absurd (omega arith)

pub none_since : (a b n : ℕ) → b ≤ a → b ≡ a + n → n ≡ 0
none_since a b n le e = omega arith

pub gate_after : (next gate size whole before : ℕ) → next ≡ gate + 1 + size → gate ≡ before → whole ≡ before + 1 + size → next ≡ whole
gate_after next gate size whole before e f g = omega arith

pub room_after : (next gate size part before whole : ℕ) → next ≡ gate + 1 + size → gate ≡ before → part ≡ before + 1 + size → part ≤ whole → whole < 2 ^ 64 → next < 2 ^ 64
room_after next gate size part before whole e f g le room = omega arith

pub next_version_at : (a b n m : ℕ) → b ≡ a + m → m ≡ n → (a + 1) + n ≡ b + 1
next_version_at a b n m e f = omega arith

pub last_count : (a b n : ℕ) → b ≡ a + suc n → (a + 1) + n ≤ LAST_VERSION → b ≤ LAST_VERSION
last_count a b n e le = omega arith

pub fits_before : (a b c : ℕ) → a ≡ b + c → a < 2 ^ 64 → b < 2 ^ 64
fits_before a b c e room = omega arith

pub less_at_most : (a b : ℕ) → a < b → a ≤ b
less_at_most a b lt = omega arith

pub less_next : (n : ℕ) → n < suc n
less_next n = omega arith

pub last_none : (a b : ℕ) → a ≤ LAST_VERSION → b ≡ a + 0 → b ≤ LAST_VERSION
last_none a b le e = omega arith

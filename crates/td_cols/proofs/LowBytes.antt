-- Bytes, the lowest first, and the number that they are read as.
use Rattle.std.proofs.Common.{◌≡◌, ℕ, zero, suc, ◌+◌, ◌*◌, ◌/◌, ◌%◌, ◌^◌, ◌<◌, List, [], ◌∷◌, length, refl, sym, ap, ◌∙◌, arith}
use Rattle.std.proofs.Math.Nat.{div-div-eq-div-mul, pow-succ'}
use Rattle.std.proofs.lemmas.List.{append-nil}
use Rattle.std.specs.Int.{byte_at, bytes_low_first}
use Rattle.byteorder.specs.Endian.{little_from, little_bytes, little_number}
use Rattle.byteorder.specs.Numbers.{little_from-cons, little_number-reads_back}
use Rattle.td_cols.specs.Spelling.{AreBytes}

-- a byte of a number is the byte below of the number without its lowest byte
byte_at-suc : (j n : ℕ) → byte_at (suc j) n ≡ byte_at j (n / 256)
byte_at-suc zero n = refl
byte_at-suc (suc j) n =
    ap (λ (q : ℕ). q % 256) (ap (λ (p : ℕ). n / p) (pow-succ' 256 (suc j)) ∙ sym (div-div-eq-div-mul n 256 (256 ^ suc j)))

bytes_low_first-suc : (j k n : ℕ) → bytes_low_first (suc j) k n ≡ bytes_low_first j k (n / 256)
bytes_low_first-suc j zero n = refl
bytes_low_first-suc j (suc k) n =
    let first = byte_at-suc j n in let rest = bytes_low_first-suc (suc j) k n in cc

-- bytes are those of the number that they are read as
pub little_bytes-number : (xs : List ℕ) → AreBytes xs → little_bytes (length xs) (little_number (length xs) xs) ≡ xs
little_bytes-number [] bytes = refl
little_bytes-number (x ∷ xs) bytes =
    let m : ℕ = little_number (length xs) xs in
    let moved : little_from 1 (length xs) (x ∷ xs) ≡ m = little_from-cons 0 (length xs) x xs in
    let small : x < 256 = bytes 0 in
    let low : (x + 256 * m) % 256 ≡ x = omega arith in
    let high : (x + 256 * m) / 256 ≡ m = omega arith in
    let rest : bytes_low_first 1 (length xs) (x + 256 * m) ≡ xs =
    bytes_low_first-suc 0 (length xs) (x + 256 * m) ∙ ap (little_bytes (length xs)) high
    ∙ little_bytes-number xs (λ i. bytes (suc i)) in
    ap (λ (n : ℕ). little_bytes (suc (length xs)) (x + 256 * n)) moved ∙ cc

-- a number that fits is read back from its bytes
pub little_number-bytes : (n x : ℕ) → x < 256 ^ n → little_number n (little_bytes n x) ≡ x
little_number-bytes n x fits =
    ap (little_number n) (sym (append-nil (little_bytes n x))) ∙ little_number-reads_back n x [] fits

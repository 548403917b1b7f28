-- A part of an answer lies among the first rows.
use Rattle.std.proofs.Common.{◌≡◌, ℕ, zero, suc, ◌+◌, ◌≤◌, ◌<◌, ◌^◌, ◌-◌, nat_le, min, ℤ, Bool, true, false, List, [], ◌∷◌, drop, take, length, Option, Some, None, refl, ap, arith}
use Rattle.std.proofs.lemmas.Bool.Decides.{nat_tests}
use Rattle.std.proofs.lemmas.List.{take_all}
use Rattle.td_model.specs.declared.language.Query.{Query}
use Rattle.td_verdict.specs.Answers.{count_from, cut, limited}
use Rattle.td_answer.specs.Firsts.{within_limit, rows_wanted}

module _ {X : Type 0} where
  -- the part is taken of the first rows, as of all
  first_taken : (l c n : ℕ) (xs : List X) → min l c ≤ n → take c (take l (take n xs)) ≡ take c (take l xs)
  first_taken l c zero [] h = refl
  first_taken l c (suc n) [] h = refl
  first_taken l zero n (x ∷ xs) h = refl
  first_taken zero (suc c) n (x ∷ xs) h = refl
  first_taken (suc l) (suc c) zero (x ∷ xs) h = absurd (omega arith)
  first_taken (suc l) (suc c) (suc n) (x ∷ xs) h = ap (λ ys. x ∷ ys) (first_taken l c n xs (omega arith))

  past_skip : (l s c n : ℕ) (xs : List X) → min l (s + c) ≤ n → take c (drop s (take l (take n xs))) ≡ take c (drop s (take l xs))
  past_skip l zero c n xs h = first_taken l c n xs (omega (arith, h))
  past_skip l (suc s) c zero [] h = refl
  past_skip l (suc s) c (suc n) [] h = refl
  past_skip zero (suc s) c n (x ∷ xs) h = refl
  past_skip (suc l) (suc s) c zero (x ∷ xs) h = absurd (omega arith)
  past_skip (suc l) (suc s) c (suc n) (x ∷ xs) h = past_skip l s c n xs (omega arith)

  past_offset : (o l s c n : ℕ) (xs : List X) → o + min l (s + c) ≤ n → take c (drop s (take l (drop o (take n xs)))) ≡ take c (drop s (take l (drop o xs)))
  past_offset zero l s c n xs h = past_skip l s c n xs (omega (arith, h))
  past_offset (suc o) l s c zero [] h = refl
  past_offset (suc o) l s c (suc n) [] h = refl
  past_offset (suc o) l s c zero (x ∷ xs) h = absurd (omega arith)
  past_offset (suc o) l s c (suc n) (x ∷ xs) h = past_offset o l s c n xs (omega arith)

  -- the same without LIMIT
  unlimited_taken : (c n : ℕ) (xs : List X) → c ≤ n → take c (take n xs) ≡ take c xs
  unlimited_taken zero n xs h = refl
  unlimited_taken (suc c) zero xs h = absurd (omega arith)
  unlimited_taken (suc c) (suc n) [] h = refl
  unlimited_taken (suc c) (suc n) (x ∷ xs) h = ap (λ ys. x ∷ ys) (unlimited_taken c n xs (omega arith))

  unlimited_skip : (s c n : ℕ) (xs : List X) → s + c ≤ n → take c (drop s (take n xs)) ≡ take c (drop s xs)
  unlimited_skip zero c n xs h = unlimited_taken c n xs (omega (arith, h))
  unlimited_skip (suc s) c zero xs h = absurd (omega arith)
  unlimited_skip (suc s) c (suc n) [] h = refl
  unlimited_skip (suc s) c (suc n) (x ∷ xs) h = unlimited_skip s c n xs (omega arith)

  unlimited_offset : (o s c n : ℕ) (xs : List X) → o + (s + c) ≤ n → take c (drop s (drop o (take n xs))) ≡ take c (drop s (drop o xs))
  unlimited_offset zero s c n xs h = unlimited_skip s c n xs (omega (arith, h))
  unlimited_offset (suc o) s c zero xs h = absurd (omega arith)
  unlimited_offset (suc o) s c (suc n) [] h = refl
  unlimited_offset (suc o) s c (suc n) (x ∷ xs) h = unlimited_offset o s c n xs (omega arith)

  part_by : (limit : Option ℤ) (o s c n : ℕ) (xs : List X) → o + within_limit limit (s + c) ≤ n
      → take c (drop s (limited limit (drop o (take n xs)))) ≡ take c (drop s (limited limit (drop o xs)))
  part_by None o s c n xs h = unlimited_offset o s c n xs h
  part_by (Some l) o s c n xs h = past_offset o (count_from l) s c n xs h

  pub part_among : (q : Query) (skip count n : ℕ) (xs : List X) → min (rows_wanted q skip count) (length xs) ≤ n
      → take count (drop skip (cut q (take n xs))) ≡ take count (drop skip (cut q xs))
  part_among q skip count n xs h = by (nat_le (length xs) n) refl
    where
      by : (b : Bool) → nat_le (length xs) n ≡ b → take count (drop skip (cut q (take n xs))) ≡ take count (drop skip (cut q xs))
      by true e =
          let few : length xs ≤ n = grind (arith, nat_tests) in
          ap (λ ys. take count (drop skip (cut q ys))) (take_all n xs few)
      by false e =
          let many : n < length xs = grind (arith, nat_tests) in
          let enough : count_from q.skip + within_limit q.limit (skip + count) ≤ n = omega (arith, h, many) in
          part_by q.limit (count_from q.skip) skip count n xs enough

-- sums that stop at a bound
within_by : (limit : Option ℤ) (most o s c : ℕ) → min (min o most + within_limit limit (min (s + c) most)) most ≡ min (o + within_limit limit (s + c)) most
within_by None most o s c = omega arith
within_by (Some l) most o s c = omega arith

pub wanted_within : (q : Query) (s c : ℕ) → min (min (count_from q.skip) (2 ^ 64 - 1) + within_limit q.limit (min (s + c) (2 ^ 64 - 1))) (2 ^ 64 - 1) ≡ min (rows_wanted q s c) (2 ^ 64 - 1)
wanted_within q s c = within_by q.limit (2 ^ 64 - 1) (count_from q.skip) s c

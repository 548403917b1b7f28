-- Which windows reach into a touched range: those that lie in the range that it is widened to.
use Rattle.std.proofs.Common.{◌≡◌, ◌⊎◌, ℕ, suc, ◌+◌, ◌-◌, ◌*◌, ◌/◌, ◌%◌, ◌<◌, ◌≤◌, ℤ, pos, negsuc, ◌+ℤ◌, ◌-ℤ◌, ◌<ℤ◌, ◌≤ℤ◌, refl, sym, ap, ◌∙◌, arith, inl, inr}
use Rattle.std.proofs.lemmas.Int.{ints, by_lt_z}
use Rattle.std.proofs.lemmas.Bool.{cases_lt}
use Rattle.std.proofs.Math.Nat.{mul-le-mul_right, add-mul}
use Rattle.td_window.specs.Windows.{IsStart}
use Rattle.td_trigger.specs.declared.range.Range.{Range}
use Rattle.td_trigger.specs.Regions.{from_0, above_last, widened_interval, BeginsAtFirstWindow, EndsWithLastWindow}

cases_lt_0 : (k : ℤ) → (pos 0 <ℤ k) ⊎ (k ≤ℤ pos 0)
cases_lt_0 k = by_lt_z (pos 0) k (λ h. inl h) (λ h. inr h)

products : (a b c s : ℕ) → a + b ≡ c → a * s + b * s ≡ c * s
products a b c s e = sym (add-mul a b s) ∙ ap (λ k. k * s) e

module _ (len offset slide : ℕ) where
  abbrev phase : ℕ
  phase = (offset + len) % slide

  abbrev turns : ℕ
  turns = (offset + len) / slide

  -- the end of a window, where it lies above a timestamp
  pub end_is : 0 < slide → (k : ℤ) (t : ℕ) → IsStart offset slide k → pos t <ℤ (k +ℤ pos len) → (e : ℕ) × (k +ℤ pos len ≡ pos e) × ((q : ℕ) × (e ≡ phase + q * slide))
  end_is s k t (pos j, d) h =
      let m : turns * slide + j * slide ≡ (turns + j) * slide = products turns j (turns + j) slide refl in
      (phase + (turns + j) * slide, omega (arith, ints, d, m), (turns + j, refl))
  end_is s k t (negsuc j, d) h = go (cases_lt j turns)
    where
      go : (j < turns) ⊎ (turns ≤ j) → (e : ℕ) × (k +ℤ pos len ≡ pos e) × ((q : ℕ) × (e ≡ phase + q * slide))
      go (inl l) =
          let m : (turns - suc j) * slide + suc j * slide ≡ turns * slide = products (turns - suc j) (suc j) turns slide (omega arith) in
          (phase + (turns - suc j) * slide, omega (arith, ints, d, m), (turns - suc j, refl))
      go (inr l) =
          let m : (turns + 1) * slide ≤ suc j * slide = mul-le-mul_right slide (omega arith) in
          absurd (omega (arith, ints, d, m))

  -- the least end above lo
  least_end : 0 < slide → (lo e q : ℕ) → e ≡ phase + q * slide → lo < e → lo + slide - above_last (offset + len) slide lo ≤ e
  least_end s lo e q d h = go (cases_lt q quotient)
    where
      quotient : ℕ
      quotient = (lo + slide - phase) / slide

      go : (q < quotient) ⊎ (quotient ≤ q) → lo + slide - above_last (offset + len) slide lo ≤ e
      go (inl l) = let m : (q + 1) * slide ≤ quotient * slide = mul-le-mul_right slide (omega arith) in absurd (omega (arith, m))
      go (inr l) = let m : quotient * slide ≤ q * slide = mul-le-mul_right slide l in omega (arith, m)

  -- no end of a window that starts at hi or before lies above that of the last such window
  last_end : 0 < slide → (hi e q : ℕ) → e ≡ phase + q * slide → e ≤ hi + len → e + above_last offset slide hi ≤ hi + len
  last_end s hi e q d h = go (cases_lt q whole)
    where
      quotient : ℕ
      quotient = (hi + slide - offset % slide) / slide

      fewer : ℕ
      fewer = offset / slide

      whole : ℕ
      whole = turns + quotient - fewer

      no_more : fewer ≤ turns
      no_more = other (cases_lt turns fewer)
        where
          other : (turns < fewer) ⊎ (fewer ≤ turns) → fewer ≤ turns
          other (inl l) = let m : (turns + 1) * slide ≤ fewer * slide = mul-le-mul_right slide (omega arith) in absurd (omega (arith, m))
          other (inr l) = l

      sums : whole * slide + fewer * slide ≡ turns * slide + quotient * slide
      sums = products whole fewer (turns + quotient) slide (omega (arith, no_more)) ∙ add-mul turns quotient slide

      go : (q < whole) ⊎ (whole ≤ q) → e + above_last offset slide hi ≤ hi + len
      go (inl l) = let m : (q + 1) * slide ≤ whole * slide = mul-le-mul_right slide (omega arith) in omega (arith, m, sums)
      go (inr l) = let m : whole * slide ≤ q * slide = mul-le-mul_right slide l in absurd (omega (arith, m, sums))

  -- a window that reaches into a range lies in that range, widened
  pub lies_in_widened : 0 < slide → 0 < len → (r : Range) (k : ℤ) → IsStart offset slide k → k ≤ℤ pos r.hi → pos r.lo <ℤ (k +ℤ pos len) → ((widened_interval len offset slide r).lo ≤ from_0 k) × (from_0 (k +ℤ pos len) - 1 ≤ (widened_interval len offset slide r).hi)
  lies_in_widened s n r k starts h l = (lower k (end_is s k r.lo starts l) l, upper k (end_is s k r.lo starts l) h l)
    where
      lower : (k : ℤ) → (e : ℕ) × (k +ℤ pos len ≡ pos e) × ((q : ℕ) × (e ≡ phase + q * slide)) → pos r.lo <ℤ (k +ℤ pos len) → r.lo + slide - above_last (offset + len) slide r.lo - len ≤ from_0 k
      lower (pos m) (e, at, (q, d)) l = let x : r.lo < e = omega (arith, ints, at) in let y = least_end s r.lo e q d x in let z : m + len ≡ e = omega (arith, ints, at) in omega arith
      lower (negsuc m) (e, at, (q, d)) l = let x : r.lo < e = omega (arith, ints, at) in let y = least_end s r.lo e q d x in let z : e < len = omega (arith, ints, at) in omega arith

      upper : (k : ℤ) → (e : ℕ) × (k +ℤ pos len ≡ pos e) × ((q : ℕ) × (e ≡ phase + q * slide)) → k ≤ℤ pos r.hi → pos r.lo <ℤ (k +ℤ pos len) → from_0 (k +ℤ pos len) - 1 ≤ r.hi + (len - 1) - above_last offset slide r.hi
      upper k (e, at, (q, d)) h l =
          let x : e ≤ r.hi + len = omega (arith, ints, at) in
          let y = last_end s r.hi e q d x in
          rw at (omega arith)

  -- ---- which windows a widened range begins and ends with
  start_is : 0 < slide → (e q : ℕ) → e ≡ phase + q * slide → IsStart offset slide (pos e -ℤ pos len)
  start_is s e q d = go (cases_lt q turns)
    where
      go : (q < turns) ⊎ (turns ≤ q) → IsStart offset slide (pos e -ℤ pos len)
      go (inl h) =
          let m : (turns - q) * slide + q * slide ≡ turns * slide = products (turns - q) q turns slide (omega arith) in
          let k : suc (turns - q - 1) ≡ turns - q = omega arith in
          (negsuc (turns - q - 1), rw k (omega (arith, ints, m)))
      go (inr h) =
          let m : (q - turns) * slide + turns * slide ≡ q * slide = products (q - turns) turns q slide (omega arith) in
          (pos (q - turns), omega (arith, ints, m))

  from_0_less : (a b : ℕ) → a - b ≡ from_0 (pos a -ℤ pos b)
  from_0_less a b = go (cases_lt a b)
    where
      go : (a < b) ⊎ (b ≤ a) → a - b ≡ from_0 (pos a -ℤ pos b)
      go (inl h) = let e : pos a -ℤ pos b ≡ negsuc (b - a - 1) = omega (arith, ints) in let n : a - b ≡ 0 = omega arith in n ∙ sym (ap from_0 e)
      go (inr h) = let e : pos a -ℤ pos b ≡ pos (a - b) = omega (arith, ints) in sym (ap from_0 e)

  pub begins_at_first : (r : Range) → 0 < slide → BeginsAtFirstWindow len offset slide r
  begins_at_first r s = (
    pos first -ℤ pos len,
    start_is s first quotient on_grid,
    omega (arith, ints),
    λ j starts above. least j (end_is s j r.lo starts above) above,
    from_0_less first len,
  )
    where
      first : ℕ
      first = r.lo + slide - above_last (offset + len) slide r.lo

      quotient : ℕ
      quotient = (r.lo + slide - phase) / slide

      on_grid : first ≡ phase + quotient * slide
      on_grid = omega arith

      least : (j : ℤ) → (e : ℕ) × (j +ℤ pos len ≡ pos e) × ((q : ℕ) × (e ≡ phase + q * slide)) → pos r.lo <ℤ (j +ℤ pos len) → (pos first -ℤ pos len) ≤ℤ j
      least j (e, at, (q, d)) above = let x : r.lo < e = omega (arith, ints, at) in let y = least_end s r.lo e q d x in omega (arith, ints, at)

  pub ends_with_last : (r : Range) → 0 < slide → slide ≤ len → EndsWithLastWindow len offset slide r
  ends_with_last r s n = (
    last,
    starts (cases_lt fewer quotient),
    omega (arith, ints, less),
    λ j starts below. greatest j starts below (cases_lt_0 (j +ℤ pos len)),
    omega (arith, ints, less),
  )
    where
      behind : ℕ
      behind = above_last offset slide r.hi

      last : ℤ
      last = pos r.hi -ℤ pos behind

      less : behind < slide
      less = omega arith

      quotient : ℕ
      quotient = (r.hi + slide - offset % slide) / slide

      fewer : ℕ
      fewer = offset / slide

      starts : (fewer < quotient) ⊎ (quotient ≤ fewer) → IsStart offset slide last
      starts (inl h) =
          let m : (quotient - fewer - 1) * slide + (fewer + 1) * slide ≡ quotient * slide = products (quotient - fewer - 1) (fewer + 1) quotient slide (omega arith) in
          (pos (quotient - fewer - 1), omega (arith, ints, m))
      starts (inr h) =
          let m : (fewer - quotient) * slide + quotient * slide ≡ fewer * slide = products (fewer - quotient) quotient fewer slide (omega arith) in
          (negsuc (fewer - quotient), omega (arith, ints, m))

      greatest : (j : ℤ) → IsStart offset slide j → j ≤ℤ pos r.hi → (pos 0 <ℤ (j +ℤ pos len)) ⊎ ((j +ℤ pos len) ≤ℤ pos 0) → j ≤ℤ last
      greatest j starts below (inr h) = omega (arith, ints, less)
      greatest j starts below (inl h) = go (end_is s j 0 starts h)
        where
          go : (e : ℕ) × (j +ℤ pos len ≡ pos e) × ((q : ℕ) × (e ≡ phase + q * slide)) → j ≤ℤ last
          go (e, at, (q, d)) = let x : e ≤ r.hi + len = omega (arith, ints, at) in let y = last_end s r.hi e q d x in omega (arith, ints, at)

  -- a widened range begins at or before its end
  pub widened_is_range : (r : Range) → 0 < slide → slide ≤ len → r.lo ≤ r.hi → (widened_interval len offset slide r).lo ≤ (widened_interval len offset slide r).hi
  widened_is_range r s n h = omega arith

-- The sums of the windows of a pane: which windows take a row of it, and what they have once the row is in them.
use Rattle.std.proofs.Common.{◌≡◌, ◌⊎◌, inl, inr, ◌≤◌, ◌<◌, ◌+◌, ◌*◌, ℕ, Bool, true, false, cond, ◌&&◌, ◌==◌, nat_le, nat_lt, List, [], ◌∷◌, ◌++◌, filter, Option, Some, None, IsSome, refl, sym, ap, ◌∙◌, subst, arith}
use Rattle.std.specs.BTreeMap.{BTreeMap, get}
use Rattle.std.specs.Option.{unwrap_or}
use Rattle.std.specs.Ordering.{nat_cmp}
use Rattle.std.proofs.lemmas.Bool.{cases_lt}
use Rattle.std.proofs.lemmas.Bool.Decides.{nat_tests}
use Rattle.std.proofs.lemmas.List.Elements.{filter-append}
use Rattle.std.proofs.Math.Nat.{mul-le-mul_right, add-mul}
use Rattle.td_query.specs.Frames.{IsEnd, is_before_end, is_in_pane}
use Rattle.td_query.specs.Sums.{Sum, sum_of, joined}
use Rattle.td_query.specs.Summed.{takes, laid, laid_at, sum_at, LieIn}
use Rattle.td_query.specs.declared.frames.Frame.{Frame}
use Rattle.td_query.specs.declared.frames.Pane.{Pane}
use Rattle.td_query.proofs.SumRows.{sum-append}
use Rattle.td_verdict.specs.Windowed.{Keyed}

-- ---- ends
module _ (phase slide : ℕ) where
  pub next_end : (end : ℕ) → IsEnd phase slide end → IsEnd phase slide (end + slide)
  next_end end (q, e) = let m : (q + 1) * slide ≡ q * slide + 1 * slide = add-mul q 1 slide in (q + 1, omega (arith, e, m))

  pub apart : (a b : ℕ) → IsEnd phase slide a → IsEnd phase slide b → a < b → a + slide ≤ b
  apart a b (q, e) (r, f) h = go (cases_lt q r)
    where
      go : (q < r) ⊎ (r ≤ q) → a + slide ≤ b
      go (inl l) =
          let m : (q + 1) * slide ≤ r * slide = mul-le-mul_right slide (omega arith) in
          let p : (q + 1) * slide ≡ q * slide + 1 * slide = add-mul q 1 slide in
          omega (arith, e, f, m, p)
      go (inr l) = let m : r * slide ≤ q * slide = mul-le-mul_right slide l in absurd (omega (arith, e, f, m, h))

-- ---- what a map has once the ends from one on and before another were passed
abbrev pub laid_between : Sum → BTreeMap ℕ Sum → ℕ → ℕ → ℕ → Option Sum
laid_between front m first end q = cond (nat_le first q && nat_lt q end) (Some (laid front (get nat_cmp m q))) (get nat_cmp m q)

both : (a b : Bool) → a ≡ true → b ≡ true → (a && b) ≡ true
both true true p q = refl
both true false p q = q
both false b p q = p

right_out : (a b : Bool) → b ≡ false → (a && b) ≡ false
right_out true b q = q
right_out false b q = refl

lt_true : (a b : ℕ) → a < b → nat_lt a b ≡ true
lt_true a b h = grind (arith, nat_tests)

lt_false : (a b : ℕ) → b ≤ a → nat_lt a b ≡ false
lt_false a b h = grind (arith, nat_tests)

le_true : (a b : ℕ) → a ≤ b → nat_le a b ≡ true
le_true a b h = grind (arith, nat_tests)

le_false : (a b : ℕ) → b < a → nat_le a b ≡ false
le_false a b h = grind (arith, nat_tests)

eq_true : (a b : ℕ) → a ≡ b → (a == b) ≡ true
eq_true a b h = grind (arith, nat_tests)

eq_false : (a b : ℕ) → (a < b) ⊎ (b < a) → (a == b) ≡ false
eq_false a b (inl h) = grind (arith, nat_tests)
eq_false a b (inr h) = grind (arith, nat_tests)

pub before_first : (front : Sum) (m : BTreeMap ℕ Sum) (first q : ℕ) → laid_between front m first first q ≡ get nat_cmp m q
before_first front m first q = go (cases_lt q first)
  where
    by : (b : Bool) → (nat_le first q && nat_lt q first) ≡ b → b ≡ false → laid_between front m first first q ≡ get nat_cmp m q
    by b e f = ap (λ (t : Bool). cond t (Some (laid front (get nat_cmp m q))) (get nat_cmp m q)) (e ∙ f)

    go : (q < first) ⊎ (first ≤ q) → laid_between front m first first q ≡ get nat_cmp m q
    go (inl h) = by (nat_le first q && nat_lt q first) refl (ap (λ t. t && nat_lt q first) (le_false first q h))
    go (inr h) = by (nat_le first q && nat_lt q first) refl (right_out (nat_le first q) (nat_lt q first) (lt_false q first h))

module _ (phase slide : ℕ) (some : 0 < slide) (front : Sum) (m n next : BTreeMap ℕ Sum) (first end : ℕ) where
  pub passes_end : IsEnd phase slide end → first ≤ end
      → ((q : ℕ) → IsEnd phase slide q → get nat_cmp n q ≡ laid_between front m first end q)
      → ((q : ℕ) → get nat_cmp next q ≡ laid_at front n end q)
      → (q : ℕ) → IsEnd phase slide q → get nat_cmp next q ≡ laid_between front m first (end + slide) q
  passes_end is_end le so put q is = go (cases_lt q end)
    where
      old : (b : Bool) → (nat_le first q && nat_lt q end) ≡ b → get nat_cmp n q ≡ cond b (Some (laid front (get nat_cmp m q))) (get nat_cmp m q)
      old b e = so q is ∙ ap (λ (t : Bool). cond t (Some (laid front (get nat_cmp m q))) (get nat_cmp m q)) e

      new : (b : Bool) → (nat_le first q && nat_lt q (end + slide)) ≡ b → cond b (Some (laid front (get nat_cmp m q))) (get nat_cmp m q) ≡ laid_between front m first (end + slide) q
      new b e = ap (λ (t : Bool). cond t (Some (laid front (get nat_cmp m q))) (get nat_cmp m q)) (sym e)

      kept : (q == end) ≡ false → get nat_cmp next q ≡ get nat_cmp n q
      kept e = put q ∙ ap (λ (t : Bool). cond t (Some (laid front (get nat_cmp n q))) (get nat_cmp n q)) e

      here : q ≡ end → get nat_cmp next q ≡ laid_between front m first (end + slide) q
      here e =
          put q
          ∙ ap (λ (t : Bool). cond t (Some (laid front (get nat_cmp n q))) (get nat_cmp n q)) (eq_true q end e)
          ∙ ap (λ (o : Option Sum). Some (laid front o)) (old false (right_out (nat_le first q) (nat_lt q end) (lt_false q end (omega (arith, e)))))
          ∙ new true (both (nat_le first q) (nat_lt q (end + slide)) (le_true first q (omega (arith, e, le))) (lt_true q (end + slide) (omega (arith, e, some))))

      later : (end ≡ q) ⊎ (end < q) → get nat_cmp next q ≡ laid_between front m first (end + slide) q
      later (inl e) = here (sym e)
      later (inr h) =
          kept (eq_false q end (inr h))
          ∙ old false (right_out (nat_le first q) (nat_lt q end) (lt_false q end (omega (arith, h))))
          ∙ new false (right_out (nat_le first q) (nat_lt q (end + slide)) (lt_false q (end + slide) (apart phase slide end q is_end is h)))

      at_or_after : end ≤ q → (end ≡ q) ⊎ (end < q)
      at_or_after h = at (cases_lt end q)
        where
          at : (end < q) ⊎ (q ≤ end) → (end ≡ q) ⊎ (end < q)
          at (inl l) = inr l
          at (inr l) = inl (omega (arith, h, l))

      before : (b : Bool) → nat_le first q ≡ b → q < end → get nat_cmp n q ≡ laid_between front m first (end + slide) q
      before true e h =
          old true (both (nat_le first q) (nat_lt q end) e (lt_true q end h))
          ∙ new true (both (nat_le first q) (nat_lt q (end + slide)) e (lt_true q (end + slide) (omega (arith, h))))
      before false e h =
          old false (ap (λ t. t && nat_lt q end) e)
          ∙ new false (ap (λ t. t && nat_lt q (end + slide)) e)

      go : (q < end) ⊎ (end ≤ q) → get nat_cmp next q ≡ laid_between front m first (end + slide) q
      go (inl h) = kept (eq_false q end (inl h)) ∙ before (nat_le first q) refl h
      go (inr h) = later (at_or_after h)

-- an end at which something was put is one
pub put_there : (phase slide : ℕ) (front : Sum) (m n next : BTreeMap ℕ Sum) (end : ℕ) → IsEnd phase slide end
    → ((q : ℕ) → IsSome (get nat_cmp n q) → IsEnd phase slide q ⊎ IsSome (get nat_cmp m q))
    → ((q : ℕ) → get nat_cmp next q ≡ laid_at front n end q)
    → (q : ℕ) → IsSome (get nat_cmp next q) → IsEnd phase slide q ⊎ IsSome (get nat_cmp m q)
put_there phase slide front m n next end is so put q there = go (q == end) refl
  where
    go : (b : Bool) → (q == end) ≡ b → IsEnd phase slide q ⊎ IsSome (get nat_cmp m q)
    go true e = let same : q ≡ end = grind (arith, nat_tests) in inl (subst (IsEnd phase slide) (sym same) is)
    go false e =
        so q (subst (λ (o : Option Sum). IsSome o) (put q ∙ ap (λ (t : Bool). cond t (Some (laid front (get nat_cmp n q))) (get nat_cmp n q)) e) there)

-- ---- which windows take the rows of a pane
module _ (f : Frame) (p : Pane) (end q : ℕ) (first_is : IsEnd f.phase f.slide p.first) (last_is : IsEnd f.phase f.slide p.last) (end_is : IsEnd f.phase f.slide end)
    (q_is : IsEnd f.phase f.slide q) (past : p.last < end) (near : p.first ≤ p.last + f.slide → end ≤ p.last + f.slide) (gaps : f.slide ≤ f.len) where
  record Lies (t : ℕ) : Type 0 where
    a : t < p.first
    b : p.first ≤ t + f.slide
    c : p.last ≤ t + f.len
    d : t + f.len < p.last + f.slide

  and_out : (a b : Bool) → (a && b) ≡ true → (a ≡ true) × (b ≡ true)
  and_out true b e = (refl, e)
  and_out false b e = absurd (cc)

  lies : (t : ℕ) → is_in_pane f.len f.slide p.first p.last t ≡ true → Lies t
  lies t e =
      let x = and_out (nat_lt t p.first) (nat_le p.first (t + f.slide) && (nat_le p.last (t + f.len) && nat_lt (t + f.len) (p.last + f.slide))) e in
      let y = and_out (nat_le p.first (t + f.slide)) (nat_le p.last (t + f.len) && nat_lt (t + f.len) (p.last + f.slide)) x.1 in
      let z = and_out (nat_le p.last (t + f.len)) (nat_lt (t + f.len) (p.last + f.slide)) y.1 in
      let x0 = x.0 in let y0 = y.0 in let z0 = z.0 in let z1 = z.1 in
      record { a = grind (arith, nat_tests); b = grind (arith, nat_tests); c = grind (arith, nat_tests); d = grind (arith, nat_tests) }

  within : (t : ℕ) → Lies t → p.first ≤ q → q < end → is_before_end f.len q t ≡ true
  within t l low high =
      let a = l.a in let b = l.b in let c = l.c in let d = l.d in
      let e : end ≤ p.last + f.slide = near (omega (arith, b, d, gaps)) in
      let g : q + f.slide ≤ end = apart f.phase f.slide q end q_is end_is high in
      both (nat_lt t q) (nat_le q (t + f.len)) (lt_true t q (omega (arith, a, low))) (le_true q (t + f.len) (omega (arith, c, e, g)))

  below : (t : ℕ) → Lies t → q < p.first → is_before_end f.len q t ≡ false
  below t l h =
      let b = l.b in
      let g : q + f.slide ≤ p.first = apart f.phase f.slide q p.first q_is first_is h in
      ap (λ x. x && nat_le q (t + f.len)) (lt_false t q (omega (arith, b, g)))

  above : (t : ℕ) → Lies t → end ≤ q → is_before_end f.len q t ≡ false
  above t l h =
      let d = l.d in
      let g : p.last + f.slide ≤ q = apart f.phase f.slide p.last q last_is q_is (omega (arith, past, h)) in
      right_out (nat_lt t q) (nat_le q (t + f.len)) (le_false q (t + f.len) (omega (arith, d, g)))

  all_taken : p.first ≤ q → q < end → (run : List Keyed) → LieIn f p run → filter (takes f.len q) run ≡ run
  all_taken low high [] lie = refl
  all_taken low high (e ∷ es) lie =
      ap (λ b. cond b (e ∷ filter (takes f.len q) es) (filter (takes f.len q) es)) (within e.0.ts (lies e.0.ts lie.0) low high)
      ∙ ap (λ l. e ∷ l) (all_taken low high es lie.1)

  none_taken : ((t : ℕ) → Lies t → is_before_end f.len q t ≡ false) → (run : List Keyed) → LieIn f p run → filter (takes f.len q) run ≡ []
  none_taken out [] lie = refl
  none_taken out (e ∷ es) lie =
      ap (λ b. cond b (e ∷ filter (takes f.len q) es) (filter (takes f.len q) es)) (out e.0.ts (lies e.0.ts lie.0))
      ∙ none_taken out es lie.1

  laid_is : (places : List (Option ℕ)) (run : List Keyed) (o : Option Sum) → laid (sum_of places run) o ≡ joined (sum_of places run) (unwrap_or o (sum_of places []))
  laid_is places run (Some s) = refl
  laid_is places run None = sym (sum-append places run [] ∙ ap (sum_of places) (append_empty run))
    where
      append_empty : (xs : List Keyed) → xs ++ [] ≡ xs
      append_empty [] = refl
      append_empty (x ∷ xs) = ap (λ l. x ∷ l) (append_empty xs)

  module _ (places : List (Option ℕ)) (m n : BTreeMap ℕ Sum) (front : Sum) (run rows : List Keyed) (sums : front ≡ sum_of places run) (lie : LieIn f p run)
      (old : sum_at places m q ≡ sum_of places (filter (takes f.len q) rows)) (new : get nat_cmp n q ≡ laid_between front m p.first end q) where
    abbrev some_rows : List Keyed
    some_rows = filter (takes f.len q) rows

    out_of : (nat_le p.first q && nat_lt q end) ≡ false → filter (takes f.len q) run ≡ [] → sum_at places n q ≡ sum_of places (filter (takes f.len q) (run ++ rows))
    out_of e none =
        ap (λ (o : Option Sum). unwrap_or o (sum_of places [])) (new ∙ ap (λ (t : Bool). cond t (Some (laid front (get nat_cmp m q))) (get nat_cmp m q)) e)
        ∙ old
        ∙ ap (λ (l : List Keyed). sum_of places (l ++ some_rows)) (sym none)
        ∙ ap (sum_of places) (sym (filter-append (takes f.len q) run rows))

    into : (nat_le p.first q && nat_lt q end) ≡ true → filter (takes f.len q) run ≡ run → sum_at places n q ≡ sum_of places (filter (takes f.len q) (run ++ rows))
    into e all =
        ap (λ (o : Option Sum). unwrap_or o (sum_of places [])) (new ∙ ap (λ (t : Bool). cond t (Some (laid front (get nat_cmp m q))) (get nat_cmp m q)) e)
        ∙ ap (λ (s : Sum). laid s (get nat_cmp m q)) sums
        ∙ laid_is places run (get nat_cmp m q)
        ∙ ap (joined (sum_of places run)) old
        ∙ sum-append places run some_rows
        ∙ ap (λ (l : List Keyed). sum_of places (l ++ some_rows)) (sym all)
        ∙ ap (sum_of places) (sym (filter-append (takes f.len q) run rows))

    pub pane_sum : sum_at places n q ≡ sum_of places (filter (takes f.len q) (run ++ rows))
    pane_sum = go (cases_lt q p.first) (cases_lt q end)
      where
        go : (q < p.first) ⊎ (p.first ≤ q) → (q < end) ⊎ (end ≤ q) → sum_at places n q ≡ sum_of places (filter (takes f.len q) (run ++ rows))
        go (inl h) k = out_of (ap (λ x. x && nat_lt q end) (le_false p.first q h)) (none_taken (λ t l. below t l h) run lie)
        go (inr h) (inl k) = into (both (nat_le p.first q) (nat_lt q end) (le_true p.first q h) (lt_true q end k)) (all_taken h k run lie)
        go (inr h) (inr k) = out_of (right_out (nat_le p.first q) (nat_lt q end) (lt_false q end k)) (none_taken (λ t l. above t l k) run lie)

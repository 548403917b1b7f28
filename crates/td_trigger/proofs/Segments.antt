-- Windows from one place of a list to another: what passes a test up to a place, and the range that takes them in.
use Rattle.std.proofs.Common.{◌≡◌, ℕ, zero, suc, ◌+◌, ◌-◌, ◌<◌, ◌≤◌, min, max, Bool, true, false, ◌&&◌, List, [], ◌∷◌, ◌++◌, map, filter, take, drop, length, get_or, refl, sym, ap, ◌∙◌, subst, arith, leb, ltb}
use Rattle.std.proofs.lemmas.Bool.{le-leb, lt-leb, lt-ltb, le-ltb}
use Rattle.std.proofs.lemmas.List.{drop_all, drop_more, take_more, get_or-take, get_or-map, length-take, length-map, take-take, take-append-drop, drop-append-le, drop-take, take_min}
use Rattle.std.proofs.lemmas.List.Sorted.{IsNonDecreasingBy-take, IsNonDecreasingBy-drop}
use Rattle.std.specs.List.{AllByRecursion, AllWithin}
use Rattle.std.specs.List.Sorted.{IsNonDecreasingBy}
use Rattle.td_window.specs.declared.span.Span.{Span}
use Rattle.td_trigger.specs.declared.range.Range.{Range}
use Rattle.td_trigger.specs.Ranges.{taking_in, hull, IsRange}
use Rattle.td_trigger.specs.Regions.{extent, AreInOrder, widened_session, widened_state, state_neighbours, first_of, last_of}
use Rattle.td_trigger.proofs.Lists.{each_weaker, filter_every, filter_none, first_is_least, rest_in_order}

-- ---- both sides of a place up to which a test passes
module _ {S : Type 0} (f : S → Range) (P : Range → Type 0) (p : S → Bool) where
  pub before_point : ((s : S) → p s ≡ true → P (f s)) → (ss : List S) (i : ℕ) → AllWithin (λ s. p s ≡ true) ss 0 i → i ≤ length ss → AllByRecursion P (take i (map f ss))
  before_point is ss zero h b = tt
  before_point is [] (suc i) h b = tt
  before_point is (s ∷ ss) (suc i) h b = (is s (h 0 s (omega arith) (omega arith)), before_point is ss i (λ k d l u. h (suc k) d (omega arith) (omega arith)) (omega arith))

  pub after_point : ((s : S) → p s ≡ false → P (f s)) → (ss : List S) (i : ℕ) → AllWithin (λ s. p s ≡ false) ss i (length ss) → AllByRecursion P (drop i (map f ss))
  after_point is [] zero h = tt
  after_point is [] (suc i) h = tt
  after_point is (s ∷ ss) zero h = (is s (h 0 s (omega arith) (omega arith)), after_point is ss zero (λ k d l u. h (suc k) d (omega arith) (omega arith)))
  after_point is (s ∷ ss) (suc i) h = after_point is ss i (λ k d l u. h (suc k) d (omega arith) (omega arith))

module _ {A : Type 0} where
  nothing_dropped : (i : ℕ) → drop i (let l : List A = [] in l) ≡ []
  nothing_dropped zero = refl
  nothing_dropped (suc i) = refl

  -- what fails a test up to one place, and passes another up to a second
  pub segment_is : (p q : A → Bool) (ws : List A) (i j : ℕ) → AllByRecursion (λ w. p w ≡ false) (take i ws) → AllByRecursion (λ w. p w ≡ true) (drop i ws) → AllByRecursion (λ w. q w ≡ true) (take j ws) → AllByRecursion (λ w. q w ≡ false) (drop j ws) → filter (λ w. p w && q w) ws ≡ drop i (take j ws)
  segment_is p q [] zero zero a b c d = refl
  segment_is p q [] zero (suc j) a b c d = refl
  segment_is p q [] (suc i) zero a b c d = refl
  segment_is p q [] (suc i) (suc j) a b c d = refl
  segment_is p q (w ∷ ws) zero zero a b c d =
      let t : p w ≡ true = b.0 in
      let u : q w ≡ false = d.0 in
      rw (t, u) (segment_is p q ws zero zero tt b.1 tt d.1)
  segment_is p q (w ∷ ws) zero (suc j) a b c d =
      let t : p w ≡ true = b.0 in
      let u : q w ≡ true = c.0 in
      rw (t, u) (ap (λ l. w ∷ l) (segment_is p q ws zero j tt b.1 c.1 d))
  segment_is p q (w ∷ ws) (suc i) zero a b c d =
      let t : p w ≡ false = a.0 in
      rw t (segment_is p q ws i zero a.1 b tt d.1 ∙ nothing_dropped i)
  segment_is p q (w ∷ ws) (suc i) (suc j) a b c d =
      let t : p w ≡ false = a.0 in
      rw t (segment_is p q ws i j a.1 b c.1 d)

  pub front_is : (p : A → Bool) (ws : List A) (i : ℕ) → AllByRecursion (λ w. p w ≡ true) (take i ws) → AllByRecursion (λ w. p w ≡ false) (drop i ws) → filter p ws ≡ take i ws
  front_is p ws zero a b = filter_none p ws b
  front_is p [] (suc i) a b = refl
  front_is p (w ∷ ws) (suc i) a b = let t : p w ≡ true = a.0 in rw t (ap (λ l. w ∷ l) (front_is p ws i a.1 b))

  pub back_is : (p : A → Bool) (ws : List A) (i : ℕ) → AllByRecursion (λ w. p w ≡ false) (take i ws) → AllByRecursion (λ w. p w ≡ true) (drop i ws) → filter p ws ≡ drop i ws
  back_is p ws zero a b = filter_every p ws b
  back_is p [] (suc i) a b = refl
  back_is p (w ∷ ws) (suc i) a b = let t : p w ≡ false = a.0 in rw t (back_is p ws i a.1 b)

  -- places up to which a test passes and from which another does, where no item passes both
  pub places_rise : (P Q : A → Type 0) → (ws : List A) (i j : ℕ) → AllByRecursion (λ w. P w → Q w → ⊥) ws → AllByRecursion P (take i ws) → AllByRecursion Q (drop j ws) → i ≤ length ws → i ≤ j
  places_rise P Q ws zero j n a b h = omega arith
  places_rise P Q [] (suc i) j n a b h = absurd (omega arith)
  places_rise P Q (w ∷ ws) (suc i) zero n a b h = absurd (n.0 a.0 b.0)
  places_rise P Q (w ∷ ws) (suc i) (suc j) n a b h = let k = places_rise P Q ws i j n.1 a.1 b (omega arith) in omega arith

  -- two segments that meet
  pub segments_meet : (ws : List A) (a b c : ℕ) → a ≤ b → b ≤ c → a ≤ length ws → drop a (take b ws) ++ drop b (take c ws) ≡ drop a (take c ws)
  segments_meet ws a b c p q h =
      ap (λ l. drop a l ++ drop b (take c ws)) (sym (take-take b c ws q)) ∙ sym (drop-append-le a (take b (take c ws)) (drop b (take c ws)) within) ∙ ap (drop a) (take-append-drop b (take c ws))
    where
      within : a ≤ length (take b (take c ws))
      within = omega (arith, length-take b (take c ws), length-take c ws)

-- ---- the range that takes in windows
same_range : (r s : Range) → r.lo ≡ s.lo → r.hi ≡ s.hi → r ≡ s
same_range r s d e = ap (λ l. record { lo = l; hi = r.hi }) d ∙ ap (λ h. record { lo = s.lo; hi = h }) e

lowest : (m : ℕ) (r : Range) (ws : List Range) → AllByRecursion (λ v. m ≤ v.lo) ws → min m (taking_in r ws).lo ≡ min m r.lo
lowest m r [] h = refl
lowest m r (w ∷ ws) h = let e = lowest m r ws h.1 in let f = h.0 in omega arith

highest : (r w : Range) (ws : List Range) → AllByRecursion (λ v. v.hi ≤ w.hi) ws → (taking_in r (ws ++ w ∷ [])).hi ≡ max r.hi w.hi
highest r w [] h = omega arith
highest r w (v ∷ ws) h = let e = highest r w ws h.1 in let f = h.0 in omega arith

last_is_greatest : (w : Range) (ws : List Range) → IsNonDecreasingBy (λ (v : Range). v.hi) (ws ++ w ∷ []) → AllByRecursion (λ v. v.hi ≤ w.hi) ws
last_is_greatest w [] h = tt
last_is_greatest w (v ∷ ws) h = (at_end ws (first_is_least (λ (u : Range). u.hi) v (ws ++ w ∷ []) h), last_is_greatest w ws (rest_in_order (λ (u : Range). u.hi) v (ws ++ w ∷ []) h))
  where
    at_end : (us : List Range) → AllByRecursion (λ u. v.hi ≤ u.hi) (us ++ w ∷ []) → v.hi ≤ w.hi
    at_end [] k = k.0
    at_end (u ∷ us) k = at_end us k.1

-- the windows from one place on and before another
pub taken : (r : Range) (ws : List Range) (i j : ℕ) (a b : Range) → AreInOrder ws → i < j → j ≤ length ws → a ≡ get_or ws i a → b ≡ get_or ws (j - 1) b → hull r (record { lo = a.lo; hi = b.hi }) ≡ taking_in r (drop i (take j ws))
taken r ws i j a b up h k ea eb = same_range (hull r (record { lo = a.lo; hi = b.hi })) (taking_in r seg) low high
  where
    seg : List Range
    seg = drop i (take j ws)

    within : i < length (take j ws)
    within = omega (arith, length-take j ws)

    rest : List Range
    rest = drop (i + 1) (take j ws)

    front : List Range
    front = drop i (take (j - 1) ws)

    from_first : seg ≡ a ∷ rest
    from_first = drop_more (take j ws) i a within ∙ ap (λ (x : Range). x ∷ rest) (get_or-take j ws i a h ∙ sym ea)

    to_last : seg ≡ front ++ b ∷ []
    to_last =
        let e : j - 1 + 1 ≡ j = omega arith in
        let n : i ≤ length (take (j - 1) ws) = omega (arith, length-take (j - 1) ws) in
        ap (λ m. drop i (take m ws)) (sym e) ∙ ap (drop i) (take_more ws (j - 1) b (omega arith) ∙ ap (λ (x : Range). take (j - 1) ws ++ x ∷ []) (sym eb)) ∙ drop-append-le i (take (j - 1) ws) (b ∷ []) n

    starts : IsNonDecreasingBy (λ (v : Range). v.lo) seg
    starts = IsNonDecreasingBy-drop (λ (v : Range). v.lo) i (take j ws) (IsNonDecreasingBy-take (λ (v : Range). v.lo) j ws up.starts)

    ends : IsNonDecreasingBy (λ (v : Range). v.hi) seg
    ends = IsNonDecreasingBy-drop (λ (v : Range). v.hi) i (take j ws) (IsNonDecreasingBy-take (λ (v : Range). v.hi) j ws up.ends)

    low : min r.lo a.lo ≡ (taking_in r seg).lo
    low =
        let l = lowest a.lo r rest (first_is_least (λ (v : Range). v.lo) a rest (subst (IsNonDecreasingBy (λ (v : Range). v.lo)) from_first starts)) in
        let e : min r.lo a.lo ≡ min a.lo (taking_in r rest).lo = omega arith in
        e ∙ ap (λ l. (taking_in r l).lo) (sym from_first)

    high : max r.hi b.hi ≡ (taking_in r seg).hi
    high = sym (highest r b front (last_is_greatest b front (subst (IsNonDecreasingBy (λ (v : Range). v.hi)) to_last ends))) ∙ ap (λ l. (taking_in r l).hi) (sym to_last)

pub none_taken : (r : Range) (ws : List Range) (i j : ℕ) → j ≤ i → r ≡ taking_in r (drop i (take j ws))
none_taken r ws i j h = ap (taking_in r) (sym (drop_all i (take j ws) (omega (arith, length-take j ws))))

-- ---- the windows that a touched range takes in
module _ (r : Range) (ws : List Range) (i j : ℕ) where
  pub session_segment : (tol : ℕ) → AllByRecursion (λ w. w.hi + tol < r.lo) (take i ws) → AllByRecursion (λ w. r.lo ≤ w.hi + tol) (drop i ws) → AllByRecursion (λ w. w.lo ≤ r.hi + tol) (take j ws) → AllByRecursion (λ w. r.hi + tol < w.lo) (drop j ws) → taking_in r (drop i (take j ws)) ≡ widened_session tol ws r
  session_segment tol a b c d =
      ap (taking_in r) (sym (segment_is (λ w. leb r.lo (w.hi + tol)) (λ w. leb w.lo (r.hi + tol)) ws i j (each_weaker (λ w. w.hi + tol < r.lo) (λ w. leb r.lo (w.hi + tol) ≡ false) (λ w h. lt-leb r.lo (w.hi + tol) h) (take i ws) a) (each_weaker (λ w. r.lo ≤ w.hi + tol) (λ w. leb r.lo (w.hi + tol) ≡ true) (λ w h. le-leb r.lo (w.hi + tol) h) (drop i ws) b) (each_weaker (λ w. w.lo ≤ r.hi + tol) (λ w. leb w.lo (r.hi + tol) ≡ true) (λ w h. le-leb w.lo (r.hi + tol) h) (take j ws) c) (each_weaker (λ w. r.hi + tol < w.lo) (λ w. leb w.lo (r.hi + tol) ≡ false) (λ w h. lt-leb w.lo (r.hi + tol) h) (drop j ws) d)))

  pub state_segment : IsRange r → AreInOrder ws → i ≤ length ws → j ≤ length ws → AllByRecursion (λ w. w.hi + 0 < r.lo) (take i ws) → AllByRecursion (λ w. r.lo ≤ w.hi + 0) (drop i ws) → AllByRecursion (λ w. w.lo ≤ r.hi) (take j ws) → AllByRecursion (λ w. r.hi < w.lo) (drop j ws) → drop (i - 1) (take (min (j + 1) (length ws)) ws) ≡ state_neighbours ws r
  state_segment ordered up hi hj a b c d =
      ap (drop (i - 1)) (take_min (j + 1) ws) ∙ sym (segments_meet ws (i - 1) j (j + 1) (omega (arith, rise)) (omega arith) (omega arith)) ∙ ap (λ l. l ++ drop j (take (j + 1) ws)) (sym (segments_meet ws (i - 1) i j (omega arith) rise (omega arith))) ∙ ap (λ l. drop (i - 1) (take i ws) ++ l ++ drop j (take (j + 1) ws)) (sym middle) ∙ ap (λ l. l ++ filter meets ws ++ drop j (take (j + 1) ws)) before ∙ ap (λ l. last_of (filter (λ w. ltb w.hi r.lo) ws) ++ filter meets ws ++ l) after
    where
      meets : Range → Bool
      meets w = leb r.lo w.hi && leb w.lo r.hi

      not_both : (ws' : List Range) → AllByRecursion IsRange ws' → AllByRecursion (λ w. w.hi + 0 < r.lo → r.hi < w.lo → ⊥) ws'
      not_both ws' = each_weaker IsRange (λ w. w.hi + 0 < r.lo → r.hi < w.lo → ⊥) (λ w h u v. omega arith) ws'

      rise : i ≤ j
      rise = places_rise (λ w. w.hi + 0 < r.lo) (λ w. r.hi < w.lo) ws i j (not_both ws up.each) a d hi

      middle : filter meets ws ≡ drop i (take j ws)
      middle = segment_is (λ w. leb r.lo w.hi) (λ w. leb w.lo r.hi) ws i j (each_weaker (λ w. w.hi + 0 < r.lo) (λ w. leb r.lo w.hi ≡ false) (λ w h. lt-leb r.lo w.hi (omega arith)) (take i ws) a) (each_weaker (λ w. r.lo ≤ w.hi + 0) (λ w. leb r.lo w.hi ≡ true) (λ w h. le-leb r.lo w.hi (omega arith)) (drop i ws) b) (each_weaker (λ w. w.lo ≤ r.hi) (λ w. leb w.lo r.hi ≡ true) (λ w h. le-leb w.lo r.hi h) (take j ws) c) (each_weaker (λ w. r.hi < w.lo) (λ w. leb w.lo r.hi ≡ false) (λ w h. lt-leb w.lo r.hi h) (drop j ws) d)

      front : filter (λ w. ltb w.hi r.lo) ws ≡ take i ws
      front = front_is (λ w. ltb w.hi r.lo) ws i (each_weaker (λ w. w.hi + 0 < r.lo) (λ w. ltb w.hi r.lo ≡ true) (λ w h. lt-ltb w.hi r.lo (omega arith)) (take i ws) a) (each_weaker (λ w. r.lo ≤ w.hi + 0) (λ w. ltb w.hi r.lo ≡ false) (λ w h. le-ltb w.hi r.lo (omega arith)) (drop i ws) b)

      before : drop (i - 1) (take i ws) ≡ last_of (filter (λ w. ltb w.hi r.lo) ws)
      before =
          let n : length (take i ws) - 1 ≡ i - 1 = omega (arith, length-take i ws) in
          sym (ap last_of front ∙ ap (λ k. drop k (take i ws)) n)

      back : filter (λ w. ltb r.hi w.lo) ws ≡ drop j ws
      back = back_is (λ w. ltb r.hi w.lo) ws j (each_weaker (λ w. w.lo ≤ r.hi) (λ w. ltb r.hi w.lo ≡ false) (λ w h. le-ltb r.hi w.lo h) (take j ws) c) (each_weaker (λ w. r.hi < w.lo) (λ w. ltb r.hi w.lo ≡ true) (λ w h. lt-ltb r.hi w.lo h) (drop j ws) d)

      after : drop j (take (j + 1) ws) ≡ first_of (filter (λ w. ltb r.hi w.lo) ws)
      after = drop-take j 1 ws ∙ ap first_of (sym back)

-- ---- spans whose windows are in order
pub ends_in_order : (tol : ℕ) (ss : List Span) → AreInOrder (map extent ss) → IsNonDecreasingBy (λ (s : Span). (extent s).hi + tol) ss
ends_in_order tol ss h = λ i j d u v.
    let a = get_or-map extent ss i d (extent d) (omega arith) in
    let b = get_or-map extent ss j d (extent d) v in
    let e = h.ends i j (extent d) u (omega (arith, length-map ss extent)) in
    let f : (extent (get_or ss i d)).hi ≤ (extent (get_or ss j d)).hi = rw (a, b) at e in
    omega arith

pub starts_in_order : (ss : List Span) → AreInOrder (map extent ss) → IsNonDecreasingBy (λ (s : Span). (extent s).lo) ss
starts_in_order ss h = λ i j d u v.
    let a = get_or-map extent ss i d (extent d) (omega arith) in
    let b = get_or-map extent ss j d (extent d) v in
    let e = h.starts i j (extent d) u (omega (arith, length-map ss extent)) in
    rw (a, b) at e

pub spans_taken : (r : Range) (ss : List Span) (i j : ℕ) (d e : Span) (x y : Range) → AreInOrder (map extent ss) → i < j → j ≤ length ss → x ≡ extent (get_or ss i d) → y ≡ extent (get_or ss (j - 1) e) → hull r (record { lo = x.lo; hi = y.hi }) ≡ taking_in r (drop i (take j (map extent ss)))
spans_taken r ss i j d e x y up h k ex ey =
    taken r (map extent ss) i j x y up h (omega (arith, length-map ss extent)) (ex ∙ sym (get_or-map extent ss i d x (omega arith))) (ey ∙ sym (get_or-map extent ss (j - 1) e y (omega arith)))

pub some_old : (ws : List Range) (r : Range) → 0 < length ws → widened_state ws r ≡ taking_in r (state_neighbours ws r)
some_old [] r h = absurd (omega arith)
some_old (w ∷ ws) r h = refl

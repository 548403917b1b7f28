-- The rows of a table run by run, from its end.
use Rattle.std.proofs.Common.{◌≡◌, ◌≤◌, ◌<◌, ◌-◌, ℕ, zero, suc, Bool, true, false, cond, nat_le, List, [], ◌∷◌, ◌++◌, length, min, take, drop, get_or, refl, sym, ap, ◌∙◌, subst, arith}
use Rattle.std.specs.List.{AllByRecursion}
use Rattle.std.proofs.lemmas.Bool.{and_parts}
use Rattle.std.proofs.lemmas.Bool.Decides.{nat_tests}
use Rattle.std.proofs.lemmas.List.{append_assoc, length-take}
use Rattle.td_layer.specs.declared.values.Row.{Row}
use Rattle.td_limits.specs.declared.limits.TheConstants.{LAST_TIMESTAMP}
use Rattle.td_model.specs.State.{Rows}
use Rattle.td_query.specs.Frames.{is_in_pane}
use Rattle.td_query.specs.Planned.{keyed}
use Rattle.td_query.specs.Read.{listed, is_within, is_wanted}
use Rattle.td_query.specs.Summed.{wanted_by, LiesIn, LieIn}
use Rattle.td_query.specs.declared.frames.Frame.{Frame}
use Rattle.td_query.specs.declared.frames.Pane.{Pane}
use Rattle.td_query.specs.declared.summing.Asked.{Asked}
use Rattle.td_query.specs.declared.tables.Table.{Table}
use Rattle.td_query.proofs.Keyed.{wanted_append}
use Rattle.td_verdict.specs.Groups.{is_picked}

-- ---- lists
pub drop_parts : {X : Type 0} (a n : ℕ) (xs : List X) → a ≤ n → drop a (take n xs) ++ drop n xs ≡ drop a xs
drop_parts zero zero xs h = refl
drop_parts zero (suc n) [] h = refl
drop_parts zero (suc n) (x ∷ xs) h = ap (λ l. x ∷ l) (drop_parts zero n xs (omega arith))
drop_parts (suc a) zero xs h = absurd (omega arith)
drop_parts (suc a) (suc n) [] h = refl
drop_parts (suc a) (suc n) (x ∷ xs) h = drop_parts a n xs (omega arith)

pub take_parts : {X : Type 0} (a n : ℕ) (xs : List X) → a ≤ n → take a (take n xs) ≡ take a xs
take_parts zero n xs h = refl
take_parts (suc a) zero xs h = absurd (omega arith)
take_parts (suc a) (suc n) [] h = refl
take_parts (suc a) (suc n) (x ∷ xs) h = ap (λ l. x ∷ l) (take_parts a n xs (omega arith))

with_last : {X : Type 0} (P : X → Type 0) (n a : ℕ) (xs : List X) (d : X) → length xs ≡ suc n → a ≤ n → AllByRecursion P (drop a (take n xs)) → P (get_or xs n d) → AllByRecursion P (drop a xs)
with_last P n a [] d long h all last = absurd (omega arith)
with_last P zero zero (x ∷ []) d long h all last = (last, tt)
with_last P zero zero (x ∷ y ∷ ys) d long h all last = absurd (omega arith)
with_last P zero (suc a) (x ∷ xs) d long h all last = absurd (omega arith)
with_last P (suc n) zero (x ∷ xs) d long h all last = (all.0, with_last P n zero xs d (omega arith) (omega arith) all.1 last)
with_last P (suc n) (suc a) (x ∷ xs) d long h all last = with_last P n a xs d (omega arith) (omega arith) all last

-- the last one and those before it from a place on
pub all_from : {X : Type 0} (P : X → Type 0) (a : ℕ) (xs : List X) (d : X) → 0 < length xs → a ≤ length xs - 1 → AllByRecursion P (drop a (take (length xs - 1) xs)) → P (get_or xs (length xs - 1) d) → AllByRecursion P (drop a xs)
all_from P a xs d some h all last = with_last P (length xs - 1) a xs d (omega arith) h all last

-- ---- wanted rows
module _ (asked : Asked) (t : Table) where
  module _ (f : Frame) (p : Pane) (in_time : asked.plan.now.hi ≤ LAST_TIMESTAMP) where
    lies_at : (e : ℕ × Row) (es : Rows) (b : Bool) → is_wanted asked.plan.now.schema.columns asked.comparisons.now asked.plan.now.lo asked.plan.now.hi (listed t) (keyed t.number e) ≡ b
        → LiesIn f p e → LieIn f p es → LieIn f p (cond b (keyed t.number e ∷ es) es)
    lies_at e es true is lies rest =
        let plan = asked.plan.now in
        let within : is_within plan.lo plan.hi (keyed t.number e) ≡ true = (and_parts (is_within plan.lo plan.hi (keyed t.number e)) (is_picked plan.schema.columns asked.comparisons.now (listed t) (keyed t.number e)) is).0 in
        let below : nat_le e.0 plan.hi ≡ true = (and_parts (nat_le plan.lo e.0) (nat_le e.0 plan.hi) within).1 in
        let under : e.0 ≤ plan.hi = grind (arith, nat_tests) in
        let same : min e.0 LAST_TIMESTAMP ≡ e.0 = omega (arith, under, in_time) in
        (subst (λ (n : ℕ). is_in_pane f.len f.slide p.first p.last n ≡ true) same lies, rest)
    lies_at e es false is lies rest = rest

    pub wanted_lie : (run : List (ℕ × Row)) → AllByRecursion (LiesIn f p) run → LieIn f p (wanted_by asked t run)
    wanted_lie [] all = tt
    wanted_lie (e ∷ es) all =
        lies_at e (wanted_by asked t es) (is_wanted asked.plan.now.schema.columns asked.comparisons.now asked.plan.now.lo asked.plan.now.hi (listed t) (keyed t.number e)) refl all.0 (wanted_lie es all.1)

  pub wanted_both : (xs ys : List (ℕ × Row)) → wanted_by asked t (xs ++ ys) ≡ wanted_by asked t xs ++ wanted_by asked t ys
  wanted_both xs ys = wanted_append asked.plan.now.schema.columns asked.comparisons.now asked.plan.now.lo asked.plan.now.hi (listed t) xs ys

  -- one run more
  pub run_more : (left found : List (ℕ × Row)) (from : ℕ) (rows : Rows) → left ≡ take (length left) found → from ≤ length left
      → wanted_by asked t (drop from left) ++ (wanted_by asked t (drop (length left) found) ++ rows) ≡ wanted_by asked t (drop (length (take from left)) found) ++ rows
  run_more left found from rows is h =
      let n = length left in
      let long = length-take from left in
      let here : length (take from left) ≡ from = omega (arith, long, h) in
      sym (append_assoc (wanted_by asked t (drop from left)) (wanted_by asked t (drop n found)) rows)
      ∙ ap (λ l. l ++ rows) (
      sym (wanted_both (drop from left) (drop n found))
      ∙ ap (λ (l : List (ℕ × Row)). wanted_by asked t (drop from l ++ drop n found)) is
      ∙ ap (λ (l : List (ℕ × Row)). wanted_by asked t l) (drop_parts from n found h ∙ ap (λ k. drop k found) (sym here)))

pub left_is : (left found : List (ℕ × Row)) (from : ℕ) → left ≡ take (length left) found → from ≤ length left → take from left ≡ take (length (take from left)) found
left_is left found from is h =
    let long = length-take from left in
    let here : length (take from left) ≡ from = omega (arith, long, h) in
    ap (take from) is ∙ take_parts from (length left) found h ∙ ap (λ k. take k found) (sym here)

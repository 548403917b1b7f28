-- The numbers of the tables of a plan rise.
use Rattle.std.proofs.Common.{◌≡◌, ℕ, ◌+◌, ◌<◌, Bool, true, false, cond, List, [], ◌∷◌, map, filter, Result, Ok, Err, sym, subst, arith}
use Rattle.std.specs.Prelude.{IfOk}
use Rattle.std.specs.List.{AllByRecursion}
use Rattle.std.specs.List.Sorted.{IsStrictlySortedBy}
use Rattle.std.specs.Ordering.{nat_cmp}
use Rattle.std.specs.declared.cmp.Ordering.TheVariants.{Less}
use Rattle.std.proofs.lemmas.Bool.Decides.{nat_tests}
use Rattle.td_model.specs.declared.catalog.TableDef.{TableDef}
use Rattle.td_model.specs.declared.language.Query.{Query}
use Rattle.td_model.specs.declared.plan.Plan.{Plan}
use Rattle.td_model.specs.declared.report.Cause.{Cause}
use Rattle.td_model.specs.Catalog.{Catalog}
use Rattle.td_verdict.specs.Plans.{Numbered, numbered, plan_of}

below_all : (n m : ℕ) (ts : List TableDef) → n < m → AllByRecursion (λ (e : Numbered). nat_cmp n e.0 ≡ Less) (numbered m ts)
below_all n m [] h = tt
below_all n m (t ∷ ts) h = (grind (arith, nat_tests), below_all n (m + 1) ts (omega arith))

kept_below : (n : ℕ) (p : Numbered → Bool) (es : List Numbered) → AllByRecursion (λ (e : Numbered). nat_cmp n e.0 ≡ Less) es → AllByRecursion (λ m. nat_cmp n m ≡ Less) (map (λ (e : Numbered). e.0) (filter p es))
kept_below n p [] h = tt
kept_below n p (e ∷ es) h = by (p e) (kept_below n p es h.1)
  where
    by : (b : Bool) → AllByRecursion (λ m. nat_cmp n m ≡ Less) (map (λ (e : Numbered). e.0) (filter p es)) → AllByRecursion (λ m. nat_cmp n m ≡ Less) (map (λ (e : Numbered). e.0) (cond b (e ∷ filter p es) (filter p es)))
    by true rest = (h.0, rest)
    by false rest = rest

numbers_rise : (p : Numbered → Bool) (n : ℕ) (ts : List TableDef) → IsStrictlySortedBy nat_cmp (map (λ (e : Numbered). e.0) (filter p (numbered n ts)))
unfolding IsStrictlySortedBy
numbers_rise p n [] = tt
numbers_rise p n (t ∷ ts) = by (p (n, t)) (numbers_rise p (n + 1) ts)
  where
    by : (b : Bool) → IsStrictlySortedBy nat_cmp (map (λ (e : Numbered). e.0) (filter p (numbered (n + 1) ts))) → IsStrictlySortedBy nat_cmp (map (λ (e : Numbered). e.0) (cond b ((n, t) ∷ filter p (numbered (n + 1) ts)) (filter p (numbered (n + 1) ts))))
    by true rest = (kept_below n p (numbered (n + 1) ts) (below_all n (n + 1) ts (omega arith)), rest)
    by false rest = rest

plan_rises : (q : Query) (c : Catalog) → IsStrictlySortedBy nat_cmp (plan_of q c).tables
plan_rises q c = numbers_rise _ 1 c.tables

pub answer_rises : (q : Query) (c : Catalog) (answer : Result Plan Cause) → IfOk answer (λ plan. plan ≡ plan_of q c) → IfOk answer (λ plan. IsStrictlySortedBy nat_cmp plan.tables)
answer_rises q c (Ok plan) h = subst (λ (p : Plan). IsStrictlySortedBy nat_cmp p.tables) (sym h) (plan_rises q c)
answer_rises q c (Err cause) h = tt

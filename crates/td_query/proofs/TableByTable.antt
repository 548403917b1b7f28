-- What is kept while the tables of a plan are read one by one.
use Rattle.std.proofs.Common.{◌≡◌, ℕ, zero, suc, ◌+◌, ◌≤◌, List, [], ◌∷◌, drop, Option, Some, None, refl, sym, ap, ◌∙◌, subst, add-one, arith}
use Rattle.std.specs.Prelude.{IfSome}
use Rattle.std.specs.List.{slice_get}
use Rattle.td_model.specs.State.{Rows}
use Rattle.td_model.specs.declared.plan.Plan.{Plan}
use Rattle.td_verdict.specs.declared.comparison.Comparison.{Comparison}
use Rattle.td_verdict.specs.Groups.{Listed, Grouped, put_group, put_tables}
use Rattle.td_query.specs.Planned.{tables_of, picked_in}
use Rattle.td_query.specs.Read.{told_sum, held_by}

-- how many partials the layers of a snapshot hold of tables, where it is told
abbrev pub Held : Type 0
Held = ℕ → ℕ → ℕ → Option ℕ

pub drop_at : {X : Type 0} (xs : List X) (at : ℕ) (x : X) → slice_get xs at ≡ Some x → drop at xs ≡ x ∷ drop (suc at) xs
drop_at [] at x h = absurd (cc)
drop_at (y ∷ xs) zero x h = let e : y ≡ x = cc in ap (λ z. z ∷ xs) e
drop_at (y ∷ xs) (suc at) x h = drop_at xs at x h

pub drop_past : {X : Type 0} (xs : List X) (at : ℕ) → slice_get xs at ≡ None → drop (suc at) xs ≡ drop at xs
drop_past [] zero h = refl
drop_past [] (suc at) h = refl
drop_past (y ∷ xs) zero h = absurd (cc)
drop_past (y ∷ xs) (suc at) h = drop_past xs at h

-- the rows of the tables that are left, put among those that were read, are those of all
abbrev pub Finds : Plan → List Comparison → List Listed → Option Rows → List Grouped → List Grouped → Type 0
Finds p ps left rows before now = IfSome rows (λ all. put_tables (picked_in p ps all) now left ≡ put_tables (picked_in p ps all) before (tables_of p))

-- the steps that were taken, and those that may be taken for the tables that are left, are at most those for all
abbrev pub Takes : Held → Plan → List Listed → ℕ → ℕ → Type 0
Takes held p left before now = IfSome (held_by held p.lo p.hi (tables_of p)) (λ n. (m : ℕ) × (held_by held p.lo p.hi left ≡ Some m) × (now + m ≤ before + n))

pub begins : (held : Held) (p : Plan) (steps : ℕ) → Takes held p (tables_of p) steps steps
begins held p steps = go (held_by held p.lo p.hi (tables_of p)) refl
  where
    go : (o : Option ℕ) → held_by held p.lo p.hi (tables_of p) ≡ o → IfSome o (λ n. (m : ℕ) × (o ≡ Some m) × (steps + m ≤ steps + n))
    go None e = tt
    go (Some n) e = (n, refl, omega arith)

-- ---- one table more
told_parts : (a b : Option ℕ) (m : ℕ) → told_sum a b ≡ Some m → (k : ℕ) × (l : ℕ) × (a ≡ Some k) × (b ≡ Some l) × (m ≡ k + l)
told_parts None b m e = absurd (cc)
told_parts (Some k) None m e = absurd (cc)
told_parts (Some k) (Some l) m e = let s : k + l ≡ m = cc in (k, l, refl, refl, sym s)

module _ (p : Plan) (at : ℕ) (t : Listed) (here : slice_get (tables_of p) at ≡ Some t) where
  rest : List Listed
  rest = drop (suc at) (tables_of p)

  left_is : drop at (tables_of p) ≡ t ∷ drop (suc at) (tables_of p)
  left_is = drop_at (tables_of p) at t here

  next_is : drop (suc at) (tables_of p) ≡ drop (at + 1) (tables_of p)
  next_is = ap (λ n. drop n (tables_of p)) (sym (add-one at))

  pub finds_next : (ps : List Comparison) (rows : Option Rows) (before now next : List Grouped) → IfSome rows (λ all. next ≡ put_group t.part (picked_in p ps all t) now)
      → Finds p ps (drop at (tables_of p)) rows before now → Finds p ps (drop (at + 1) (tables_of p)) rows before next
  finds_next ps None before now next put so = so
  finds_next ps (Some all) before now next put so =
      let picked : Listed → Rows = picked_in p ps all in
      ap (λ gs. put_tables picked gs (drop (at + 1) (tables_of p))) put
      ∙ ap (put_tables picked (put_group t.part (picked t) now)) (sym next_is)
      ∙ ap (put_tables picked now) (sym left_is)
      ∙ so

  -- what is held of the table, and of those behind it
  parts : (held : Held) (m : ℕ) → held_by held p.lo p.hi (drop at (tables_of p)) ≡ Some m → (k : ℕ) × (l : ℕ) × (held t.number p.lo p.hi ≡ Some k) × (held_by held p.lo p.hi (drop (suc at) (tables_of p)) ≡ Some l) × (m ≡ k + l)
  parts held m e = told_parts (held t.number p.lo p.hi) (held_by held p.lo p.hi (drop (suc at) (tables_of p))) m (ap (held_by held p.lo p.hi) (sym left_is) ∙ e)

  taken : (held : Held) (k now after : ℕ) → held t.number p.lo p.hi ≡ Some k → IfSome (held t.number p.lo p.hi) (λ n. after ≤ now + n) → after ≤ now + k
  taken held k now after e given = subst (λ o. IfSome o (λ n. after ≤ now + n)) e given

  pub takes_next : (held : Held) (before now after : ℕ) → IfSome (held t.number p.lo p.hi) (λ n. after ≤ now + n) → Takes held p (drop at (tables_of p)) before now → Takes held p (drop (at + 1) (tables_of p)) before after
  takes_next held before now after given so = go (held_by held p.lo p.hi (tables_of p)) so
    where
      go : (o : Option ℕ) → IfSome o (λ n. (m : ℕ) × (held_by held p.lo p.hi (drop at (tables_of p)) ≡ Some m) × (now + m ≤ before + n))
          → IfSome o (λ n. (m : ℕ) × (held_by held p.lo p.hi (drop (at + 1) (tables_of p)) ≡ Some m) × (after + m ≤ before + n))
      go None s = s
      go (Some n) s =
          let q = parts held s.0 s.1 in
          let low : after ≤ now + q.0 = taken held q.0 now after q.2 given in
          let sum : s.0 ≡ q.0 + q.1 = q.4 in
          let all : now + s.0 ≤ before + n = s.2 in
          (q.1, ap (held_by held p.lo p.hi) (sym next_is) ∙ q.3, omega arith)

  pub takes_stop : (held : Held) (before now after : ℕ) → IfSome (held t.number p.lo p.hi) (λ n. after ≤ now + n) → Takes held p (drop at (tables_of p)) before now → IfSome (held_by held p.lo p.hi (tables_of p)) (λ n. after ≤ before + n)
  takes_stop held before now after given so = go (held_by held p.lo p.hi (tables_of p)) so
    where
      go : (o : Option ℕ) → IfSome o (λ n. (m : ℕ) × (held_by held p.lo p.hi (drop at (tables_of p)) ≡ Some m) × (now + m ≤ before + n)) → IfSome o (λ n. after ≤ before + n)
      go None s = s
      go (Some n) s =
          let q = parts held s.0 s.1 in
          let low : after ≤ now + q.0 = taken held q.0 now after q.2 given in
          let sum : s.0 ≡ q.0 + q.1 = q.4 in
          let all : now + s.0 ≤ before + n = s.2 in
          omega arith

pub takes_end : (held : Held) (p : Plan) (left : List Listed) (before now : ℕ) → Takes held p left before now → IfSome (held_by held p.lo p.hi (tables_of p)) (λ n. now ≤ before + n)
takes_end held p left before now so = go (held_by held p.lo p.hi (tables_of p)) so
  where
    go : (o : Option ℕ) → IfSome o (λ n. (m : ℕ) × (held_by held p.lo p.hi left ≡ Some m) × (now + m ≤ before + n)) → IfSome o (λ n. now ≤ before + n)
    go None s = s
    go (Some n) s = let all : now + s.0 ≤ before + n = s.2 in omega arith

-- no table stands at a place
module _ (p : Plan) (at : ℕ) (none : slice_get (tables_of p) at ≡ None) where
  past_is : drop at (tables_of p) ≡ drop (at + 1) (tables_of p)
  past_is = sym (drop_past (tables_of p) at none) ∙ ap (λ n. drop n (tables_of p)) (sym (add-one at))

  pub finds_past : (ps : List Comparison) (rows : Option Rows) (before now : List Grouped) → Finds p ps (drop at (tables_of p)) rows before now → Finds p ps (drop (at + 1) (tables_of p)) rows before now
  finds_past ps rows before now so = subst (λ left. Finds p ps left rows before now) past_is so

  pub takes_past : (held : Held) (before now : ℕ) → Takes held p (drop at (tables_of p)) before now → Takes held p (drop (at + 1) (tables_of p)) before now
  takes_past held before now so = subst (λ left. Takes held p left before now) past_is so

pub finds_end : (p : Plan) (ps : List Comparison) (left : List Listed) (rows : Option Rows) (before now : List Grouped) → left ≡ [] → Finds p ps left rows before now → IfSome rows (λ all. now ≡ put_tables (picked_in p ps all) before (tables_of p))
finds_end p ps left None before now e so = so
finds_end p ps left (Some all) before now e so = ap (put_tables (picked_in p ps all) now) (sym e) ∙ so

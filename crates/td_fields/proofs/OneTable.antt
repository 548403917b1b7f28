-- Whether a plan is of a table, read off its first name.
use Rattle.std.proofs.Common.{◌≡◌, ℕ, suc, zero, ◌+◌, ◌==◌, nat_lt, Bool, true, false, ◌||◌, not, cond, List, [], ◌∷◌, length, map, filter, slice_get, get_or, Option, Some, None, is_some, inl, inr, refl, sym, ap, ◌∙◌, arith}
use Rattle.std.specs.List.{list_any, position_or_len}
use Rattle.std.specs.Option.{option_map}
use Rattle.std.specs.Str.{bytes_eq}
use Rattle.std.proofs.lemmas.Bool.{or_parts}
use Rattle.std.proofs.lemmas.Bool.Decides.{nat_tests}
use Rattle.std.proofs.lemmas.List.Quantifiers.{position-Some}
use Rattle.std.proofs.lemmas.Option.{same_Some, slice_get_cases}
use Rattle.td_model.specs.declared.catalog.TableDef.{TableDef}
use Rattle.td_model.specs.declared.language.Query.{Query}
use Rattle.td_model.specs.declared.plan.Plan.{Plan}
use Rattle.td_model.specs.Catalog.{Catalog, table_named, stable_named}
use Rattle.td_verdict.specs.declared.comparison.Comparison.{Comparison}
use Rattle.td_verdict.specs.Fields.{comparisons_of}
use Rattle.td_verdict.specs.Queries.{source_by, source_schema, reads_table}
use Rattle.td_verdict.specs.Plans.{Numbered, numbered, is_read, planned, plan_of, is_of_table, reads_one}
use Rattle.td_verdict.specs.Answers.{header_over, header}

names : List Numbered → List (List ℕ)
names es = map (λ (e : Numbered). e.1.name) es

-- the table of a number is the first that is kept
kept : (source : List ℕ) (n k i : ℕ) (ts : List TableDef) (t : TableDef) → n ≡ k + i → slice_get ts i ≡ Some t → is_of_table (map (λ (e : Numbered). e.1.name) (filter (λ (e : Numbered). e.0 == n) (numbered k ts))) source ≡ bytes_eq t.name source
kept source n k i [] t e at = absurd (cc)
kept source n k zero (u ∷ ts) t e at =
    let here : (k == n) ≡ true = grind (arith, nat_tests) in
    let same : u ≡ t = same_Some u t at in
    let rest : List Numbered = filter (λ (e : Numbered). e.0 == n) (numbered (k + 1) ts) in
    ap (λ b. is_of_table (map (λ (e : Numbered). e.1.name) (cond b ((k, u) ∷ rest) rest)) source) here ∙ ap (λ (t : TableDef). bytes_eq t.name source) same
kept source n k (suc i) (u ∷ ts) t e at =
    let apart : (k == n) ≡ false = grind (arith, nat_tests) in
    let next : n ≡ (k + 1) + i = omega arith in
    let rest : List Numbered = filter (λ (e : Numbered). e.0 == n) (numbered (k + 1) ts) in
    ap (λ b. is_of_table (map (λ (e : Numbered). e.1.name) (cond b ((k, u) ∷ rest) rest)) source) apart ∙ kept source n (k + 1) i ts t next at

-- where no table has the name, none that is kept has it
none_named : (source : List ℕ) (p : Numbered → Bool) (k : ℕ) (ts : List TableDef) → list_any (λ (t : TableDef). bytes_eq t.name source) ts ≡ false → is_of_table (map (λ (e : Numbered). e.1.name) (filter p (numbered k ts))) source ≡ false
none_named source p k [] h = refl
none_named source p k (t ∷ ts) h = by (p (k, t)) ((or_parts (bytes_eq t.name source) (list_any (λ (t : TableDef). bytes_eq t.name source) ts) h).0) (none_named source p (k + 1) ts ((or_parts (bytes_eq t.name source) (list_any (λ (t : TableDef). bytes_eq t.name source) ts) h).1))
  where
    by : (b : Bool) → bytes_eq t.name source ≡ false → is_of_table (map (λ (e : Numbered). e.1.name) (filter p (numbered (k + 1) ts))) source ≡ false
        → is_of_table (map (λ (e : Numbered). e.1.name) (cond b ((k, t) ∷ filter p (numbered (k + 1) ts)) (filter p (numbered (k + 1) ts)))) source ≡ false
    by true here rest = here
    by false here rest = rest

lt_none : (i n : ℕ) (b : Bool) → b ≡ nat_lt i n → option_map (λ i. i + 1) (cond b (Some i) None) ≡ None → nat_lt i n ≡ false
lt_none i n true e k = absurd (cc)
lt_none i n false e k = sym e

first_in : (n : ℕ) → nat_lt 0 (suc n) ≡ false → ⊥
first_in n k = grind (arith, nat_tests)

later_in : (i n : ℕ) → nat_lt (1 + i) (suc n) ≡ false → nat_lt i n ≡ false
later_in i n k = grind (arith, nat_tests)

at_end : {X : Type 0} (p : X → Bool) (xs : List X) → nat_lt (position_or_len p xs) (length xs) ≡ false → list_any p xs ≡ false
at_end p [] h = refl
at_end {X} p (x ∷ xs) h = by (p x) (at_end p xs) h
  where
    by : (b : Bool) → (nat_lt (position_or_len p xs) (length xs) ≡ false → list_any p xs ≡ false) → nat_lt (cond (not b) (1 + position_or_len p xs) 0) (suc (length xs)) ≡ false → (b || list_any p xs) ≡ false
    by true rest k = absurd (first_in (length xs) k)
    by false rest k = rest (later_in (position_or_len p xs) (length xs) k)

found_at : (b : Bool) (i n : ℕ) → option_map (λ i. i + 1) (cond b (Some i) None) ≡ Some n → (cond b (Some i) None ≡ Some i) × (n ≡ 1 + i)
found_at true i n h = (refl, let same : i + 1 ≡ n = same_Some (i + 1) n h in omega arith)
found_at false i n h = absurd (cc)

of_table : (source : List ℕ) (c : Catalog) (stable : Option ℕ) (columns : ℕ) (ps : List Comparison) (o : Option ℕ) → table_named source c ≡ o
    → is_of_table (map (λ (e : Numbered). e.1.name) (planned (source_by o stable) columns ps c)) source ≡ is_some o
of_table source c stable columns ps (Some n) h =
    let p : TableDef → Bool = λ t. bytes_eq t.name source in
    let i : ℕ = position_or_len p c.tables in
    let at = found_at (nat_lt i (length c.tables)) i n h in
    elim ((slice_get_cases c.tables i).1) [
      | inl w ↦ (
          let good = position-Some p c.tables i w.0 at.0 in
          kept source n 1 i c.tables w.0 at.1 w.2 ∙ (ap p (sym w.3) ∙ good.1))
      | inr w ↦ (
          let t : TableDef = get_or c.tables i (record { name = source; parent = None; columns = []; tags = [] }) in
          let good = position-Some p c.tables i t at.0 in
          let within = good.0 in
          absurd (omega (arith, w.0, within)))
    ]
of_table source c (Some stable) columns ps None h =
    let p : TableDef → Bool = λ t. bytes_eq t.name source in
    none_named source (is_read (source_by None (Some stable)) columns ps) 1 c.tables (at_end p c.tables (lt_none (position_or_len p c.tables) (length c.tables) _ refl h))
of_table source c None columns ps None h =
    let p : TableDef → Bool = λ t. bytes_eq t.name source in
    none_named source (is_read (source_by None None) columns ps) 1 c.tables (at_end p c.tables (lt_none (position_or_len p c.tables) (length c.tables) _ refl h))

-- a plan is of a table where its source's name is one of a table
pub one_is : (q : Query) (c : Catalog) → reads_one (plan_of q c) ≡ reads_table q c
one_is q c = of_table q.source c (stable_named q.source c) (length (source_schema q.source c).columns) (comparisons_of (source_schema q.source c) q.conds) (table_named q.source c) refl

pub header_is : (q : Query) (c : Catalog) (plan : Plan) → plan ≡ plan_of q c → header_over (reads_one plan) plan.schema plan.query ≡ header q c
header_is q c plan is = ap (λ (p : Plan). header_over (reads_one p) p.schema p.query) is ∙ ap (λ b. header_over b (source_schema q.source c) q) (one_is q c)

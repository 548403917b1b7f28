-- The plan of a query: its range of timestamps, its tables, and the whole; and the order of its causes.
use Rattle.std.proofs.Common.{◌≡◌, ℕ, ◌+◌, ◌<◌, min, max, List, [], ◌∷◌, ◌++◌, map, length, take, get_or, Option, Some, None, is_some, Result, Ok, Err, refl, sym, ap, ◌∙◌, arith}
use Rattle.std.specs.Option.{option_or}
use Rattle.std.specs.Result.{IfOk}
use Rattle.std.proofs.lemmas.List.{take_more}
use Rattle.td_layer.specs.declared.values.Cell.{Cell}
use Rattle.td_model.specs.declared.catalog.Schema.{Schema}
use Rattle.td_model.specs.declared.language.Query.{Query}
use Rattle.td_model.specs.declared.plan.Plan.{Plan}
use Rattle.td_model.specs.declared.report.Cause.{Cause}
use Rattle.td_model.specs.Catalog.{Catalog, stable_named, table_named, target_named}
use Rattle.td_verdict.specs.declared.comparison.Comparison.{Comparison}
use Rattle.td_verdict.specs.declared.source.Source.{Source}
use Rattle.td_verdict.specs.Fields.{comparisons_of}
use Rattle.td_verdict.specs.Parts.{part_of}
use Rattle.td_verdict.specs.Queries.{source_by, source_cause, source_of, source_schema, reads_table, body_cause, query_cause, query_verdict, passes_or}
use Rattle.td_verdict.specs.Plans.{Numbered, low, high, lowest, highest, planned, plan_over, plan_from, plan_of}
use Rattle.td_bind.specs.Answers.{query_verdict_of, is_table, IsAnswerOf}
use Rattle.td_bind.specs.Tables.{numbers_of, tags_at, name_at, part_at, AreThere}
use Rattle.td_bind.proofs.ByNumber.{planned_tags, planned_names, planned_parts, are_there, planned_known}

-- ---- timestamps

max_last : (a : ℕ) → max a 0 ≡ max 0 a
max_last a = omega arith

max_assoc : (a b c : ℕ) → max a (max b c) ≡ max (max a b) c
max_assoc a b c = omega arith

min_comm : (a b : ℕ) → min a b ≡ min b a
min_comm a b = omega arith

min_assoc : (a b c : ℕ) → min a (min b c) ≡ min (min a b) c
min_assoc a b c = omega arith

lowest_push : (ps : List Comparison) (p : Comparison) → lowest (ps ++ p ∷ []) ≡ max (lowest ps) (low p)
lowest_push [] p = max_last (low p)
lowest_push (q ∷ ps) p = ap (max (low q)) (lowest_push ps p) ∙ max_assoc (low q) (lowest ps) (low p)

highest_push : (ps : List Comparison) (p : Comparison) → highest (ps ++ p ∷ []) ≡ min (highest ps) (high p)
highest_push [] p = min_comm (high p) (highest [])
highest_push (q ∷ ps) p = ap (min (high q)) (highest_push ps p) ∙ min_assoc (high q) (highest ps) (high p)

pub lowest_more : (ps : List Comparison) (i : ℕ) (p : Comparison) → i < length ps → p ≡ get_or ps i p → max (lowest (take i ps)) (low p) ≡ lowest (take (i + 1) ps)
lowest_more ps i p h is = sym (ap lowest (take_more ps i p h) ∙ lowest_push (take i ps) (get_or ps i p) ∙ ap (λ q. max (lowest (take i ps)) (low q)) (sym is))

pub highest_more : (ps : List Comparison) (i : ℕ) (p : Comparison) → i < length ps → p ≡ get_or ps i p → min (highest (take i ps)) (high p) ≡ highest (take (i + 1) ps)
highest_more ps i p h is = sym (ap highest (take_more ps i p h) ∙ highest_push (take i ps) (get_or ps i p) ∙ ap (λ q. min (highest (take i ps)) (high q)) (sym is))

-- ---- tables

pub planned_there : (source : Source) (columns : ℕ) (ps : List Comparison) (c : Catalog) → AreThere c (numbers_of (planned source columns ps c))
planned_there source columns ps c = are_there c (planned source columns ps c) (planned_known source columns ps c)

-- ---- the whole

module _ (q : Query) (source : Source) (s : Schema) (c : Catalog) (ps : List Comparison) (same : ps ≡ comparisons_of s q.conds) where
  over : List Comparison → Plan
  over qs = plan_over q s (planned source (length s.columns) qs c) qs (target_named q.source c)

  pub plan_made : (copy : Query) (schema : Schema) (tables : List ℕ) (parts tags : List (List Cell)) (names : List (List ℕ)) (lo hi : ℕ) (target : Option ℕ)
      → copy ≡ q → schema ≡ s → tables ≡ numbers_of (planned source (length s.columns) ps c) → parts ≡ map (part_at s q.parts c) tables → tags ≡ map (tags_at c) tables → names ≡ map (name_at c) tables
      → lo ≡ lowest ps → hi ≡ highest ps → target ≡ target_named q.source c
      → ◌≡◌ {A = Plan} (record { query = copy; tables = tables; parts = parts; tags = tags; names = names; schema = schema; lo = lo; hi = hi; target = target }) (plan_from q source s c)
  unfolding over
  plan_made copy schema tables parts tags names lo hi target q_is s_is t p g n l h target_is =
      let es = planned source (length s.columns) ps c in
      let p_is : parts ≡ map (λ (e : Numbered). part_of s q.parts e.1.name e.1.tags) es = p ∙ ap (map (part_at s q.parts c)) t ∙ planned_parts s q.parts source (length s.columns) ps c in
      let g_is : tags ≡ map (λ (e : Numbered). e.1.tags) es = g ∙ ap (map (tags_at c)) t ∙ planned_tags source (length s.columns) ps c in
      let n_is : names ≡ map (λ (e : Numbered). e.1.name) es = n ∙ ap (map (name_at c)) t ∙ planned_names source (length s.columns) ps c in
      let made : ◌≡◌ {A = Plan} (record { query = copy; tables = tables; parts = parts; tags = tags; names = names; schema = schema; lo = lo; hi = hi; target = target }) (over ps) = (λ i. record { query = q_is i; tables = t i; parts = p_is i; tags = g_is i; names = n_is i; schema = s_is i; lo = l i; hi = h i; target = target_is i }) in
      made ∙ ap over same

-- ---- causes

-- a cause of the source comes before those of the body
pub cause_of_source : (q : Query) (c : Catalog) (why : Cause) → Some why ≡ source_cause q c → query_cause q c ≡ Some why
cause_of_source q c why h = ap (λ o. option_or o (body_cause (reads_table q c) (source_schema q.source c) q)) (sym h)

-- a source is a table where one has its name
by_table : (table stable : Option ℕ) → is_table (source_by table stable) ≡ is_some table
by_table (Some n) stable = refl
by_table None (Some n) = refl
by_table None None = refl

-- what is answered over the source, where that is no cause
module _ (q : Query) (source : Source) (s : Schema) (c : Catalog) (none : source_cause q c ≡ None) (source_is : source ≡ source_of q.source c) (schema_is : s ≡ source_schema q.source c) where
  of_table : is_table source ≡ reads_table q c
  of_table = ap is_table source_is ∙ by_table (table_named q.source c) (stable_named q.source c)

  cause_is : query_cause q c ≡ body_cause (is_table source) s q
  cause_is =
      ap (λ o. option_or o (body_cause (reads_table q c) (source_schema q.source c) q)) none
      ∙ (λ i. body_cause (sym of_table i) (sym schema_is i) q)

  pub answer_verdict : (answer : Result Plan Cause) → IsAnswerOf q source s c answer → query_verdict_of answer ≡ query_verdict q c
  answer_verdict (Ok plan) h = ap passes_or (sym (cause_is ∙ h.0))
  answer_verdict (Err why) h = ap passes_or (sym (cause_is ∙ h))

  pub answer_plan : (answer : Result Plan Cause) → IsAnswerOf q source s c answer → IfOk answer (λ plan. plan ≡ plan_of q c)
  answer_plan (Ok plan) h = h.1 ∙ (λ i. plan_from q (source_is i) (schema_is i) c)
  answer_plan (Err why) h = tt

-- The plan of a query that passes is sound.
use Rattle.std.proofs.Common.{◌≡◌, ℕ, ◌+◌, ◌<◌, ◌≤◌, min, ◌==◌, Bool, true, false, cond, List, [], ◌∷◌, map, filter, length, Option, Some, None, Result, Ok, Err, refl, sym, ap, subst, ◌∙◌, arith, true≢false}
use Rattle.std.specs.List.{AllByRecursion}
use Rattle.std.specs.List.Sorted.{IsStrictlySortedBy}
use Rattle.std.specs.Option.{option_map_or, option_or}
use Rattle.std.specs.Ordering.{nat_cmp}
use Rattle.std.specs.Result.{IfOk}
use Rattle.std.specs.declared.cmp.Ordering.TheVariants.{Less}
use Rattle.std.proofs.lemmas.Bool.{and_parts}
use Rattle.std.proofs.lemmas.Bool.Decides.{nat_tests}
use Rattle.std.proofs.lemmas.List.{length-map}
use Rattle.std.proofs.lemmas.List.Elements.{All-from_recursion, All-map}
use Rattle.td_model.specs.declared.catalog.Schema.{Schema}
use Rattle.td_model.specs.declared.catalog.TableDef.{TableDef}
use Rattle.td_model.specs.declared.language.PartBy.{PartBy}
use Rattle.td_model.specs.declared.language.Query.{Query}
use Rattle.td_model.specs.declared.language.WindowDef.{WindowDef}
use Rattle.td_model.specs.declared.language.WindowDef.TheVariants as window
use Rattle.td_model.specs.declared.plan.Plan.{Plan}
use Rattle.td_model.specs.declared.history.Verdict.TheVariants.{Pass}
use Rattle.td_model.specs.declared.report.Cause.{Cause}
use Rattle.td_model.specs.declared.report.Cause.TheVariants as cause
use Rattle.td_model.specs.Catalog.{Catalog, table_at}
use Rattle.td_limits.specs.declared.limits.TheConstants.{LAST_TIMESTAMP}
use Rattle.td_catalog.proofs.Apart.{apart_first, apart_fewer}
use Rattle.td_fields.proofs.OneTable.{one_is}
use Rattle.td_verdict.specs.declared.comparison.Comparison.{Comparison}
use Rattle.td_verdict.specs.declared.source.Source.{Source}
use Rattle.td_verdict.specs.declared.source.Source.TheVariants.{Table, Stable, Other}
use Rattle.td_verdict.specs.Fields.{comparisons_of}
use Rattle.td_verdict.specs.Names.{stands_twice}
use Rattle.td_verdict.specs.Causes.{when, first_cause}
use Rattle.td_verdict.specs.Parts.{part_of}
use Rattle.td_verdict.specs.Queries.{source_cause, source_of, source_schema, schema_from, reads_table, has_unknown, mismatch_cause, is_bad_limit, body_cause, query_cause, query_verdict, passes_or}
use Rattle.td_verdict.specs.Refusals.{is_bad_selection, is_bad_window, has_bad_bounds}
use Rattle.td_verdict.specs.Plans.{Numbered, numbered, all_tables, is_under, is_read, all_hold_of_table, planned, plan_of, high, highest}
use Rattle.td_verdict.specs.Sound.{has_now, parts_of, IsSoundPlan, IsBounded}
use Rattle.td_verdict.specs.Valid.{AreTags, IsValid}
use Rattle.td_bind.specs.Answers.{query_verdict_of}
use Rattle.td_bind.proofs.ByNumber.{IsKnown, all_known}
use Rattle.td_verdict.proofs.Schemas.{tags_at_table, tags_under}

-- ---- numbers rise

below_all : (n m : ℕ) (ts : List TableDef) → n < m → AllByRecursion (λ (e : Numbered). nat_cmp n e.0 ≡ Less) (numbered m ts)
below_all n m [] h = tt
below_all n m (t ∷ ts) h = (grind (arith, nat_tests), below_all n (m + 1) ts (omega arith))

kept_below : (n : ℕ) (p : Numbered → Bool) (es : List Numbered) → AllByRecursion (λ (e : Numbered). nat_cmp n e.0 ≡ Less) es → AllByRecursion (λ m. nat_cmp n m ≡ Less) (map (λ (e : Numbered). e.0) (filter p es))
kept_below n p [] h = tt
kept_below n p (e ∷ es) h = by (p e) (kept_below n p es h.1)
  where
    by : (b : Bool) → AllByRecursion (λ m. nat_cmp n m ≡ Less) (map (λ (e : Numbered). e.0) (filter p es)) → AllByRecursion (λ m. nat_cmp n m ≡ Less) (map (λ (e : Numbered). e.0) (cond b (e ∷ filter p es) (filter p es)))
    by true rest = (h.0, rest)
    by false rest = rest

numbers_rise : (p : Numbered → Bool) (n : ℕ) (ts : List TableDef) → IsStrictlySortedBy nat_cmp (map (λ (e : Numbered). e.0) (filter p (numbered n ts)))
unfolding IsStrictlySortedBy
numbers_rise p n [] = tt
numbers_rise p n (t ∷ ts) = by (p (n, t)) (numbers_rise p (n + 1) ts)
  where
    by : (b : Bool) → IsStrictlySortedBy nat_cmp (map (λ (e : Numbered). e.0) (filter p (numbered (n + 1) ts))) → IsStrictlySortedBy nat_cmp (map (λ (e : Numbered). e.0) (cond b ((n, t) ∷ filter p (numbered (n + 1) ts)) (filter p (numbered (n + 1) ts))))
    by true rest = (kept_below n p (numbered (n + 1) ts) (below_all n (n + 1) ts (omega arith)), rest)
    by false rest = rest

-- ---- names are apart

names_are : (n : ℕ) (ts : List TableDef) → map (λ (e : Numbered). e.1.name) (numbered n ts) ≡ map (λ (t : TableDef). t.name) ts
names_are n [] = refl
names_are n (t ∷ ts) = ap (λ ns. t.name ∷ ns) (names_are (n + 1) ts)

names_apart : (p : Numbered → Bool) (c : Catalog) → IsValid c → stands_twice (map (λ (e : Numbered). e.1.name) (filter p (all_tables c))) ≡ false
names_apart p c valid =
    apart_fewer [] (λ (e : Numbered). e.1.name) p (all_tables c) (ap stands_twice (names_are 1 c.tables) ∙ apart_first (map (λ (t : TableDef). t.name) c.tables) _ valid.names)

-- ---- tags

kept_all : {X : Type 0} (P Q : X → Type 0) (f : X → Bool) → ((x : X) → P x → f x ≡ true → Q x) → (xs : List X) → AllByRecursion P xs → AllByRecursion Q (filter f xs)
kept_all P Q f both [] h = tt
kept_all {X} P Q f both (x ∷ xs) h = by (f x) refl (kept_all P Q f both xs h.1)
  where
    by : (b : Bool) → f x ≡ b → AllByRecursion Q (filter f xs) → AllByRecursion Q (cond b (x ∷ filter f xs) (filter f xs))
    by true e rest = (both x h.0 e, rest)
    by false e rest = rest

parent_is : (n : ℕ) (o : Option ℕ) → option_map_or (λ parent. parent == n) o false ≡ true → o ≡ Some n
parent_is n None h = absurd (true≢false (sym h))
parent_is n (Some m) h = let same : m ≡ n = grind (arith, nat_tests) in ap Some same

read_tags : (c : Catalog) → IsValid c → (source : Source) (columns : ℕ) (ps : List Comparison) (e : Numbered) → IsKnown c e → is_read source columns ps e ≡ true → AreTags (schema_from source c).tags e.1.tags
read_tags c valid (Table n) columns ps e known h =
    let same : e.0 ≡ n = grind (arith, nat_tests) in
    tags_at_table c valid n e.1 (ap (λ m. table_at m c) (sym same) ∙ known.is)
read_tags c valid (Stable n) columns ps e known h =
    let parts = and_parts (is_under n e.1) (all_hold_of_table columns ps e.1.name e.1.tags) h in
    tags_under c valid n e.0 e.1 known.is (parent_is n e.1.parent parts.0)
read_tags c valid Other columns ps e known h = absurd (true≢false (sym h))

-- ---- partitions

parts_are : (s : Schema) (parts : List PartBy) (es : List Numbered)
    → map (λ (e : Numbered). part_of s parts e.1.name e.1.tags) es ≡ parts_of s parts (map (λ (e : Numbered). e.1.name) es) (map (λ (e : Numbered). e.1.tags) es)
parts_are s parts [] = refl
parts_are s parts (e ∷ es) = ap (λ cells. part_of s parts e.1.name e.1.tags ∷ cells) (parts_are s parts es)

-- ---- causes

no_cause_left : (o p : Option Cause) → option_or o p ≡ None → p ≡ None
no_cause_left None p h = h
no_cause_left (Some why) p h = absurd (cc)

body_passes : (q : Query) (c : Catalog) → query_cause q c ≡ None → body_cause (reads_table q c) (source_schema q.source c) q ≡ None
body_passes q c none = no_cause_left (source_cause q c) (body_cause (reads_table q c) (source_schema q.source c) q) none

-- the fourth of five causes doesn't apply where none does
no_fourth : (a : Bool) (o : Option Cause) (b w l : Bool) → first_cause (when a cause.UnknownColumn ∷ o ∷ when b cause.BadSelect ∷ when w cause.BadWindow ∷ when l cause.BadLimit ∷ []) ≡ None → w ≡ false
no_fourth true o b w l h = absurd (cc)
no_fourth false (Some why) b w l h = absurd (cc)
no_fourth false None true w l h = absurd (cc)
no_fourth false None false true l h = absurd (cc)
no_fourth false None false false l h = refl

-- ---- bounds

good_bounds : (of_table : Bool) (s : Schema) (q : Query) (w : WindowDef) → is_bad_window of_table s q w ≡ false → has_bad_bounds w ≡ false
good_bounds of_table s q window.Whole h = refl
good_bounds of_table s q (window.Interval len offset slide) h = h
good_bounds of_table s q (window.Session column tol) h = refl
good_bounds of_table s q (window.State column) h = refl

least_first : (a b n : ℕ) → b ≤ n → min a b ≤ n
least_first a b n h = omega arith

in_time : (ps : List Comparison) → highest ps ≤ LAST_TIMESTAMP
in_time [] = omega arith
in_time (p ∷ ps) = least_first (high p) (highest ps) LAST_TIMESTAMP (in_time ps)

plan_is_bounded : (q : Query) (c : Catalog) → query_cause q c ≡ None → IsBounded (plan_of q c)
plan_is_bounded q c none =
    let s = source_schema q.source c in
    record {
      time = in_time (comparisons_of s q.conds);
      window = good_bounds (reads_table q c) s q q.window (no_fourth (has_unknown s q) (mismatch_cause s q.conds) (is_bad_selection s q) (is_bad_window (reads_table q c) s q q.window) (is_bad_limit q) (body_passes q c none));
    }

-- ---- the whole

plan_is_sound : (q : Query) (c : Catalog) → IsValid c → has_now q ≡ false → query_cause q c ≡ None → IsSoundPlan (plan_of q c)
plan_is_sound q c valid no_now none =
    let s = source_schema q.source c in
    let source = source_of q.source c in
    let ps = comparisons_of s q.conds in
    let es : List Numbered = planned source (length s.columns) ps c in
    let p : Numbered → Bool = is_read source (length s.columns) ps in
    let numbers : length (map (λ (e : Numbered). e.0) es) ≡ length es = length-map es (λ (e : Numbered). e.0) in
    record {
      names_length = length-map es (λ (e : Numbered). e.1.name) ∙ sym numbers;
      tags_length = length-map es (λ (e : Numbered). e.1.tags) ∙ sym numbers;
      parts_length = length-map es (λ (e : Numbered). part_of s q.parts e.1.name e.1.tags) ∙ sym numbers;
      tables = numbers_rise p 1 c.tables;
      names = names_apart p c valid;
      lo = refl;
      hi = refl;
      no_now = no_now;
      cause = ap (λ of_table. body_cause of_table s q) (one_is q c) ∙ body_passes q c none;
      tags = All-map (AreTags s.tags) (λ (e : Numbered). e.1.tags) es
          (All-from_recursion (λ (e : Numbered). AreTags s.tags e.1.tags) es
          (kept_all (IsKnown c) (λ (e : Numbered). AreTags s.tags e.1.tags) p (read_tags c valid source (length s.columns) ps) (all_tables c) (all_known c)));
      parts = parts_are s q.parts es;
    }

passes : (o : Option Cause) → Pass ≡ passes_or o → o ≡ None
passes None h = refl
passes (Some why) h = absurd (cc)

pub answer_sound : (q : Query) (c : Catalog) (answer : Result Plan Cause) → IsValid c → query_verdict_of answer ≡ query_verdict q c → IfOk answer (λ plan. plan ≡ plan_of q c) → has_now q ≡ false → IfOk answer IsSoundPlan
answer_sound q c (Ok plan) valid verdict is no_now = subst IsSoundPlan (sym is) (plan_is_sound q c valid no_now (passes (query_cause q c) verdict))
answer_sound q c (Err why) valid verdict is no_now = tt

pub answer_bounded : (q : Query) (c : Catalog) (answer : Result Plan Cause) → query_verdict_of answer ≡ query_verdict q c → IfOk answer (λ plan. plan ≡ plan_of q c) → IfOk answer IsBounded
answer_bounded q c (Ok plan) verdict is = subst IsBounded (sym is) (plan_is_bounded q c (passes (query_cause q c) verdict))
answer_bounded q c (Err why) verdict is = tt

-- The tables of a catalog by number, and those that a query reads, found in two ways.
use Rattle.std.proofs.Common.{inl, inr, ◌≡◌, ℕ, suc, ◌+◌, ◌-◌, ◌<◌, ◌≤◌, ◌==◌, ◌⊎◌, Bool, true, false, cond, ◌&&◌, List, [], ◌∷◌, map, filter, length, slice_get, Option, Some, None, is_some, refl, sym, ap, subst, ◌∙◌, arith, nat_lt, nat_eq}
use Rattle.std.specs.List.{AllByRecursion}
use Rattle.std.specs.Option.{option_map_or}
use Rattle.std.proofs.lemmas.Option.{same_Some, slice_get_cases}
use Rattle.std.proofs.lemmas.Bool.Decides.{nat_tests}
use Rattle.std.proofs.lemmas.Bool.{eq-eqb, ne_eqb, cases_eq, and_parts}
use Rattle.std.proofs.lemmas.List.Elements.{All-from_recursion, All-map}
use Rattle.td_layer.specs.declared.values.Cell.{Cell}
use Rattle.td_layer.specs.declared.values.Cell.TheVariants as cell
use Rattle.td_model.specs.declared.catalog.Schema.{Schema}
use Rattle.td_model.specs.declared.catalog.TableDef.{TableDef}
use Rattle.td_model.specs.declared.language.Op.{Op}
use Rattle.td_model.specs.declared.language.PartBy.{PartBy}
use Rattle.td_model.specs.Catalog.{Catalog, table_at}
use Rattle.td_model.specs.Tags.{matching, cell_matches, tag_matches}
use Rattle.td_catalog.specs.Kept.{IsNumbered}
use Rattle.td_catalog.specs.Groups.{children_of}
use Rattle.td_verdict.specs.declared.comparison.Comparison.{Comparison}
use Rattle.td_verdict.specs.declared.source.Source.{Source}
use Rattle.td_verdict.specs.declared.source.Source.TheVariants.{Table, Stable, Other}
use Rattle.td_verdict.specs.Parts.{part_of}
use Rattle.td_verdict.specs.Plans.{Numbered, numbered, all_tables, subtables_of, is_under, is_read, planned, holds_of_table, all_hold_of_table}
use Rattle.td_bind.specs.Tables.{numbers_of, is_planned, is_indexed, tags_at, name_at, part_at, first_indexed, AreThere}
use Rattle.td_bind.proofs.Filters.{filter_implied, filter_agreeing, filter-map, map_map, map_agreeing, all-filter, all_weaker}

-- ---- tables by number

-- an entry of a list of tables that are numbered from n on
record IsAt (n : ℕ) (ts : List TableDef) (e : Numbered) : Type 0 where
  from : n ≤ e.0
  upto : e.0 < n + length ts
  is : slice_get ts (e.0 - n) ≡ Some e.1

one_behind : (n : ℕ) (t : TableDef) (ts : List TableDef) (e : Numbered) → IsAt (n + 1) ts e → IsAt n (t ∷ ts) e
one_behind n t ts e h =
    let from = h.from in
    let upto = h.upto in
    let next : e.0 - n ≡ suc (e.0 - (n + 1)) = omega arith in
    record { from = omega arith; upto = omega arith; is = ap (slice_get (t ∷ ts)) next ∙ h.is }

in_front : (n : ℕ) (t : TableDef) (ts : List TableDef) → IsAt n (t ∷ ts) (n, t)
in_front n t ts =
    let none : n - n ≡ 0 = omega arith in
    record { from = omega arith; upto = omega arith; is = ap (slice_get (t ∷ ts)) none }

all_at : (n : ℕ) (ts : List TableDef) → AllByRecursion (IsAt n ts) (numbered n ts)
all_at n [] = tt
all_at n (t ∷ ts) = (in_front n t ts, all_weaker (IsAt (n + 1) ts) (IsAt n (t ∷ ts)) (one_behind n t ts) (numbered (n + 1) ts) (all_at (n + 1) ts))

-- an entry of the tables of a catalog
pub record IsKnown (c : Catalog) (e : Numbered) : Type 0 where
  pub numbered : IsNumbered e.0 (length c.tables)
  pub is : table_at e.0 c ≡ Some e.1

known_at : (c : Catalog) (e : Numbered) → IsAt 1 c.tables e → IsKnown c e
known_at c e h =
    let from = h.from in
    let upto = h.upto in
    record { numbered = (omega arith, omega arith); is = h.is }

pub all_known : (c : Catalog) → AllByRecursion (IsKnown c) (all_tables c)
all_known c = all_weaker (IsAt 1 c.tables) (IsKnown c) (known_at c) (all_tables c) (all_at 1 c.tables)

-- the numbers of known tables are those of tables
pub are_there : (c : Catalog) (es : List Numbered) → AllByRecursion (IsKnown c) es → AreThere c (numbers_of es)
are_there c es h =
    All-map (λ n. IsNumbered n (length c.tables)) (λ (e : Numbered). e.0) es
    (All-from_recursion (λ (e : Numbered). IsNumbered e.0 (length c.tables)) es (all_weaker (IsKnown c) (λ (e : Numbered). IsNumbered e.0 (length c.tables)) (λ e k. k.numbered) es h))

-- a test by number, and what a table has by its number, at known tables
pub kept_by_number : (c : Catalog) (f : TableDef → Bool) (es : List Numbered) → AllByRecursion (IsKnown c) es → filter (λ n. option_map_or f (table_at n c) false) (numbers_of es) ≡ numbers_of (filter (λ (e : Numbered). f e.1) es)
kept_by_number c f es h =
    filter-map (λ (e : Numbered). e.0) (λ n. option_map_or f (table_at n c) false) es
    ∙ ap numbers_of (filter_agreeing (λ (e : Numbered). option_map_or f (table_at e.0 c) false) (λ (e : Numbered). f e.1) es (all_weaker (IsKnown c) (λ (e : Numbered). option_map_or f (table_at e.0 c) false ≡ f e.1) (λ e k. ap (λ o. option_map_or f o false) k.is) es h))

had_by_number : (c : Catalog) {X : Type 0} (f : TableDef → X) (d : X) (es : List Numbered) → AllByRecursion (IsKnown c) es → map (λ n. option_map_or f (table_at n c) d) (numbers_of es) ≡ map (λ (e : Numbered). f e.1) es
had_by_number c f d es h =
    map_map (λ (e : Numbered). e.0) (λ n. option_map_or f (table_at n c) d) es
    ∙ map_agreeing (λ (e : Numbered). option_map_or f (table_at e.0 c) d) (λ (e : Numbered). f e.1) es (all_weaker (IsKnown c) (λ (e : Numbered). option_map_or f (table_at e.0 c) d ≡ f e.1) (λ e k. ap (λ o. option_map_or f o d) k.is) es h)

-- ---- the tables that are planned

pub planned_known : (source : Source) (columns : ℕ) (ps : List Comparison) (c : Catalog) → AllByRecursion (IsKnown c) (planned source columns ps c)
planned_known source columns ps c = all-filter (IsKnown c) (is_read source columns ps) (all_tables c) (all_known c)

pub planned_tags : (source : Source) (columns : ℕ) (ps : List Comparison) (c : Catalog) → map (tags_at c) (numbers_of (planned source columns ps c)) ≡ map (λ (e : Numbered). e.1.tags) (planned source columns ps c)
planned_tags source columns ps c = had_by_number c (λ (t : TableDef). t.tags) [] (planned source columns ps c) (planned_known source columns ps c)

pub planned_names : (source : Source) (columns : ℕ) (ps : List Comparison) (c : Catalog) → map (name_at c) (numbers_of (planned source columns ps c)) ≡ map (λ (e : Numbered). e.1.name) (planned source columns ps c)
planned_names source columns ps c = had_by_number c (λ (t : TableDef). t.name) [] (planned source columns ps c) (planned_known source columns ps c)

pub planned_parts : (s : Schema) (parts : List PartBy) (source : Source) (columns : ℕ) (ps : List Comparison) (c : Catalog)
    → map (part_at s parts c) (numbers_of (planned source columns ps c)) ≡ map (λ (e : Numbered). part_of s parts e.1.name e.1.tags) (planned source columns ps c)
planned_parts s parts source columns ps c =
    let es = planned source columns ps c in
    map_map (λ (e : Numbered). e.0) (part_at s parts c) es
    ∙ map_agreeing (λ (e : Numbered). part_at s parts c e.0) (λ (e : Numbered). part_of s parts e.1.name e.1.tags) es
    (all_weaker (IsKnown c) (λ (e : Numbered). part_at s parts c e.0 ≡ part_of s parts e.1.name e.1.tags)
    (λ e k. ap (λ o. part_of s parts (option_map_or (λ (t : TableDef). t.name) o []) (option_map_or (λ (t : TableDef). t.tags) o [])) k.is) es (planned_known source columns ps c))

-- ---- one table

none_of : (m n : ℕ) (ts : List TableDef) → m < n → filter (λ (e : Numbered). e.0 == m) (numbered n ts) ≡ []
none_of m n [] h = refl
none_of m n (t ∷ ts) h =
    let later : m < n + 1 = omega arith in
    ap (λ b. cond b ((n, t) ∷ filter (λ (e : Numbered). e.0 == m) (numbered (n + 1) ts)) (filter (λ (e : Numbered). e.0 == m) (numbered (n + 1) ts))) (ne_eqb n m (λ e. omega arith))
    ∙ none_of m (n + 1) ts later

here : (m n : ℕ) (u t : TableDef) (rest : List Numbered) → n ≡ m → rest ≡ [] → u ≡ t → cond (n == m) ((n, u) ∷ rest) rest ≡ (m, t) ∷ []
here m n u t rest e none same = ap (λ b. cond b ((n, u) ∷ rest) rest) (eq-eqb n m e) ∙ (λ i. (e i, same i) ∷ none i)

later : (m n : ℕ) (u t : TableDef) (rest : List Numbered) → (n ≡ m → ⊥) → rest ≡ (m, t) ∷ [] → cond (n == m) ((n, u) ∷ rest) rest ≡ (m, t) ∷ []
later m n u t rest ne e = ap (λ b. cond b ((n, u) ∷ rest) rest) (ne_eqb n m ne) ∙ e

one_of : (m n : ℕ) (ts : List TableDef) (t : TableDef) → n ≤ m → slice_get ts (m - n) ≡ Some t → filter (λ (e : Numbered). e.0 == m) (numbered n ts) ≡ (m, t) ∷ []
one_of m n [] t h is = absurd (cc)
one_of m n (u ∷ ts) t h is =
    elim (cases_eq n m) [
      | inl e ↦ (
          let none : m - n ≡ 0 = omega arith in
          let next : m < n + 1 = omega arith in
          here m n u t (filter (λ (e : Numbered). e.0 == m) (numbered (n + 1) ts)) e (none_of m (n + 1) ts next)
          (same_Some u t (ap (slice_get (u ∷ ts)) (sym none) ∙ is)))
      | inr ne ↦ (
          let more : n + 1 ≤ m = omega arith in
          let next : m - n ≡ suc (m - (n + 1)) = omega arith in
          later m n u t (filter (λ (e : Numbered). e.0 == m) (numbered (n + 1) ts)) ne
          (one_of m (n + 1) ts t more (ap (slice_get (u ∷ ts)) (sym next) ∙ is)))
    ]

-- the one table of a number
pub one_table : (n : ℕ) (c : Catalog) → IsNumbered n (length c.tables) → (t : TableDef) × (table_at n c ≡ Some t) × (filter (λ (e : Numbered). e.0 == n) (all_tables c) ≡ (n, t) ∷ [])
one_table n c numbered =
    let from : 1 ≤ n = numbered.0 in
    let upto : n ≤ length c.tables = numbered.1 in
    elim ((slice_get_cases c.tables (n - 1)).1) [
      | inl w ↦ (w.0, w.2, one_of n 1 c.tables w.0 from w.2)
      | inr w ↦ absurd (omega (arith, w.0))
    ]

pub one_planned : (n columns : ℕ) (ps : List Comparison) (c : Catalog) → IsNumbered n (length c.tables) → n ∷ [] ≡ numbers_of (planned (Table n) columns ps c)
one_planned n columns ps c numbered = sym (ap numbers_of (one_table n c numbered).2)

pub none_planned : (columns : ℕ) (ps : List Comparison) (c : Catalog) → [] ≡ numbers_of (planned Other columns ps c)
none_planned columns ps c = sym (ap numbers_of (none_kept (all_tables c)))
  where
    none_kept : (es : List Numbered) → filter (is_read Other columns ps) es ≡ []
    none_kept [] = refl
    none_kept (e ∷ es) = none_kept es

-- ---- the subtables of a supertable

-- found among the supertable's
under : ℕ → Catalog → List Numbered
under stable c = filter (λ (e : Numbered). is_under stable e.1) (all_tables c)

under_known : (stable : ℕ) (c : Catalog) → AllByRecursion (IsKnown c) (under stable c)
unfolding under
under_known stable c = all-filter (IsKnown c) (λ (e : Numbered). is_under stable e.1) (all_tables c) (all_known c)

pub children_there : (stable : ℕ) (c : Catalog) → AreThere c (children_of stable c.tables)
unfolding under
children_there stable c = are_there c (under stable c) (under_known stable c)

pub planned_from_children : (stable columns : ℕ) (ps : List Comparison) (c : Catalog) → filter (is_planned stable columns ps c) (children_of stable c.tables) ≡ numbers_of (planned (Stable stable) columns ps c)
unfolding under
planned_from_children stable columns ps c =
    kept_by_number c (λ (t : TableDef). is_under stable t && all_hold_of_table columns ps t.name t.tags) (under stable c) (under_known stable c)
    ∙ ap numbers_of (filter_implied (λ (e : Numbered). is_under stable e.1 && all_hold_of_table columns ps e.1.name e.1.tags) (λ (e : Numbered). is_under stable e.1)
    (λ e h. (and_parts (is_under stable e.1) (all_hold_of_table columns ps e.1.name e.1.tags) h).0) (all_tables c))

-- the numbers that the index finds are those of known tables
matched : ℕ → Op → Cell → Catalog → List Numbered
matched tag p lit c = filter (λ (e : Numbered). tag_matches tag p lit e.1.tags) (filter (λ (e : Numbered). is_some e.1.parent) (all_tables c))

matching_is : (tag : ℕ) (p : Op) (lit : Cell) (c : Catalog) → matching tag p lit (subtables_of c) ≡ numbers_of (matched tag p lit c)
unfolding matched
matching_is tag p lit c =
    let subtables = filter (λ (e : Numbered). is_some e.1.parent) (all_tables c) in
    ap (map (λ (s : ℕ × List Cell). s.0)) (filter-map (λ (e : Numbered). (e.0, e.1.tags)) (λ (s : ℕ × List Cell). tag_matches tag p lit s.1) subtables)
    ∙ map_map (λ (e : Numbered). (e.0, e.1.tags)) (λ (s : ℕ × List Cell). s.0) (filter (λ (e : Numbered). tag_matches tag p lit e.1.tags) subtables)

matched_known : (tag : ℕ) (p : Op) (lit : Cell) (c : Catalog) → AllByRecursion (IsKnown c) (matched tag p lit c)
unfolding matched
matched_known tag p lit c = all-filter (IsKnown c) (λ (e : Numbered). tag_matches tag p lit e.1.tags) (filter (λ (e : Numbered). is_some e.1.parent) (all_tables c)) (all-filter (IsKnown c) (λ (e : Numbered). is_some e.1.parent) (all_tables c) (all_known c))

pub matching_there : (tag : ℕ) (p : Op) (lit : Cell) (c : Catalog) → AreThere c (matching tag p lit (subtables_of c))
matching_there tag p lit c = subst (AreThere c) (sym (matching_is tag p lit c)) (are_there c (matched tag p lit c) (matched_known tag p lit c))

-- a comparison that is found first, or found among the rest
pub first_or_rest : (b m x : Bool) (q p : Comparison) (rest : Option Comparison) → cond b (Some q) rest ≡ Some p → cond m x false ≡ true → ((q ≡ p) × (b ≡ true) × (m ≡ true)) ⊎ ((rest ≡ Some p) × (x ≡ true))
first_or_rest true true x q p rest h k = inl (same_Some q p h, refl, refl)
first_or_rest true false x q p rest h k = absurd (cc)
first_or_rest false true x q p rest h k = inr (h, k)
first_or_rest false false x q p rest h k = absurd (cc)

-- a comparison of a tag isn't one of the name
of_tag : (columns : ℕ) (name : List ℕ) (tags : List Cell) (p : Comparison) → nat_lt columns p.place ≡ true → holds_of_table columns name tags p ≡ tag_matches (p.place - (columns + 1)) p.op p.operand tags
of_tag columns name tags p h =
    let apart : nat_eq p.place 0 ≡ false = grind (arith, nat_tests) in
    ap (λ b. cond b (cell_matches p.op (cell.Str name) p.operand) (cond (nat_lt columns p.place) (tag_matches (p.place - (columns + 1)) p.op p.operand tags) true)) apart
    ∙ ap (λ b. cond b (tag_matches (p.place - (columns + 1)) p.op p.operand tags) true) h

-- where all comparisons are true of a table's name and tags, the first of a tag for which the index serves is
first_holds : (columns : ℕ) (ps : List Comparison) (p : Comparison) (name : List ℕ) (tags : List Cell) → first_indexed columns ps ≡ Some p → all_hold_of_table columns ps name tags ≡ true → tag_matches (p.place - (columns + 1)) p.op p.operand tags ≡ true
first_holds columns [] p name tags h k = absurd (cc)
first_holds columns (q ∷ ps) p name tags h k =
    elim (first_or_rest (nat_lt columns q.place && is_indexed q.op) (holds_of_table columns name tags q) (all_hold_of_table columns ps name tags) q p (first_indexed columns ps) h k) [
      | inl w ↦ (
          let place = (and_parts (nat_lt columns q.place) (is_indexed q.op) w.1).0 in
          ap (λ (r : Comparison). tag_matches (r.place - (columns + 1)) r.op r.operand tags) (sym w.0) ∙ sym (of_tag columns name tags q place) ∙ w.2)
      | inr w ↦ first_holds columns ps p name tags w.0 w.1
    ]

has_parent : (stable : ℕ) (o : Option ℕ) → option_map_or (λ parent. parent == stable) o false ≡ true → is_some o ≡ true
has_parent stable None h = h
has_parent stable (Some n) h = refl

-- found among those that the index finds for that comparison
module _ (stable columns : ℕ) (ps : List Comparison) (p : Comparison) (c : Catalog) (first : first_indexed columns ps ≡ Some p) where
  among : Numbered → Bool
  among e = is_under stable e.1 && all_hold_of_table columns ps e.1.name e.1.tags

  matches : Numbered → Bool
  matches e = tag_matches (p.place - (columns + 1)) p.op p.operand e.1.tags

  kept_matches : (e : Numbered) → among e ≡ true → matches e ≡ true
  unfolding among matches
  kept_matches e h = first_holds columns ps p e.1.name e.1.tags first ((and_parts (is_under stable e.1) (all_hold_of_table columns ps e.1.name e.1.tags) h).1)

  kept_under : (e : Numbered) → among e ≡ true → is_some e.1.parent ≡ true
  unfolding among
  kept_under e h = has_parent stable e.1.parent ((and_parts (is_under stable e.1) (all_hold_of_table columns ps e.1.name e.1.tags) h).0)

  all_kept : filter among (matched (p.place - (columns + 1)) p.op p.operand c) ≡ filter among (all_tables c)
  unfolding matched matches
  all_kept =
      let subtables = filter (λ (e : Numbered). is_some e.1.parent) (all_tables c) in
      filter_implied among matches kept_matches subtables ∙ filter_implied among (λ (e : Numbered). is_some e.1.parent) kept_under (all_tables c)

  pub planned_from_found : filter (is_planned stable columns ps c) (matching (p.place - (columns + 1)) p.op p.operand (subtables_of c)) ≡ numbers_of (planned (Stable stable) columns ps c)
  unfolding among
  planned_from_found =
      ap (filter (is_planned stable columns ps c)) (matching_is (p.place - (columns + 1)) p.op p.operand c)
      ∙ kept_by_number c (λ (t : TableDef). is_under stable t && all_hold_of_table columns ps t.name t.tags) (matched (p.place - (columns + 1)) p.op p.operand c) (matched_known (p.place - (columns + 1)) p.op p.operand c)
      ∙ ap numbers_of all_kept

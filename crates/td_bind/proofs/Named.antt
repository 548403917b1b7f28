-- The one table of a name, and what a query over its supertable reads.
use Rattle.std.proofs.Common.{inl, inr, ◌≡◌, ℕ, ◌+◌, ◌-◌, ◌==◌, ◌++◌, nat_lt, Bool, true, false, cond, ◌&&◌, ◌||◌, List, [], ◌∷◌, map, filter, length, Option, Some, None, refl, sym, ap, ◌∙◌, arith}
use Rattle.std.specs.List.{list_any, position_from}
use Rattle.std.specs.Option.{option_map, option_to_list, option_and_then}
use Rattle.std.specs.Str.{bytes_eq}
use Rattle.std.specs.Cmp.Lexicographic.{nat_list_eq_equiv}
use Rattle.std.proofs.lemmas.Bool.{or_parts, and_parts}
use Rattle.std.proofs.lemmas.List.Elements.{All-push}
use Rattle.std.proofs.lemmas.Option.{same_Some}
use Rattle.std.proofs.lemmas.Iterator.Adapters.{position_from-zero}
use Rattle.std.proofs.lemmas.Map.Text.{is_eq-slice_cmp}
use Rattle.td_layer.specs.declared.values.Cell.{Cell}
use Rattle.td_layer.specs.declared.values.Cell.TheVariants as cell
use Rattle.td_model.specs.declared.catalog.TableDef.{TableDef}
use Rattle.td_model.specs.declared.catalog.StableDef.{StableDef}
use Rattle.td_model.specs.declared.catalog.StreamEntry.{StreamEntry}
use Rattle.td_model.specs.declared.language.Op.{Op}
use Rattle.td_model.specs.declared.language.Op.TheVariants as op
use Rattle.td_model.specs.Catalog.{Catalog, table_named}
use Rattle.td_model.specs.Tags.{text_of, compares, cell_matches, tag_matches}
use Rattle.td_catalog.specs.Kept.{IsNumbered}
use Rattle.td_verdict.specs.declared.comparison.Comparison.{Comparison}
use Rattle.td_verdict.specs.declared.source.Source.TheVariants.{Stable}
use Rattle.td_verdict.specs.Names.{stands_twice}
use Rattle.td_verdict.specs.Plans.{Numbered, numbered, all_tables, is_under, planned, holds_of_table, all_hold_of_table}
use Rattle.td_verdict.specs.Valid.{IsValid}
use Rattle.td_bind.specs.Tables.{numbers_of, is_planned, is_equal, first_named, table_of_cell, AreThere}
use Rattle.td_bind.proofs.Filters.{filter_implied, all-filter}
use Rattle.td_bind.proofs.ByNumber.{IsKnown, all_known, kept_by_number, first_or_rest}
use Rattle.td_bind.proofs.Numbers.{table_numbered}

-- ---- the numbers of the tables of a name
module _ (text : List ℕ) where
  abbrev has : TableDef → Bool
  has t = bytes_eq t.name text

  abbrev names : List TableDef → List (List ℕ)
  names ts = map (λ (t : TableDef). t.name) ts

  other : (t u : TableDef) → has t ≡ true → bytes_eq t.name u.name ≡ false → has u ≡ false
  other t u h apart = nat_list_eq_equiv.symm u.name text ∙ sym (nat_list_eq_equiv.congr t.name text u.name h) ∙ apart

  none_other : (t : TableDef) (n : ℕ) (ts : List TableDef) → has t ≡ true → list_any (bytes_eq t.name) (names ts) ≡ false → filter (λ (e : Numbered). has e.1) (numbered n ts) ≡ []
  none_other t n [] h apart = refl
  none_other t n (u ∷ ts) h apart =
      let parts = or_parts (bytes_eq t.name u.name) (list_any (bytes_eq t.name) (names ts)) apart in
      ap (λ b. cond b ((n, u) ∷ filter (λ (e : Numbered). has e.1) (numbered (n + 1) ts)) (filter (λ (e : Numbered). has e.1) (numbered (n + 1) ts))) (other t u h parts.0)
      ∙ none_other t (n + 1) ts h parts.1

  one_or_rest : (b : Bool) (n m : ℕ) (t : TableDef) (rest : List Numbered) (place : Option ℕ) → n ≡ m + 1 → (b ≡ true → rest ≡ []) → numbers_of rest ≡ option_to_list (option_map (λ i. i + 1) place) → numbers_of (cond b ((n, t) ∷ rest) rest) ≡ option_to_list (option_map (λ i. i + 1) (cond b (Some m) place))
  one_or_rest true n m t rest place e none same = ap (λ es. n ∷ numbers_of es) (none refl) ∙ ap (λ k. k ∷ []) e
  one_or_rest false n m t rest place e none same = same

  one_named : (n m : ℕ) (ts : List TableDef) → n ≡ m + 1 → stands_twice (names ts) ≡ false → numbers_of (filter (λ (e : Numbered). has e.1) (numbered n ts)) ≡ option_to_list (option_map (λ i. i + 1) (position_from has m ts))
  one_named n m [] e apart = refl
  one_named n m (t ∷ ts) e apart =
      let parts = or_parts (list_any (bytes_eq t.name) (names ts)) (stands_twice (names ts)) apart in
      one_or_rest (has t) n m t (filter (λ (u : Numbered). has u.1) (numbered (n + 1) ts)) (position_from has (m + 1) ts) e
      (λ h. none_other t (n + 1) ts h parts.0)
      (one_named (n + 1) (m + 1) ts (omega arith) parts.1)

  pub named_is : (c : Catalog) → stands_twice (names c.tables) ≡ false → numbers_of (filter (λ (e : Numbered). has e.1) (all_tables c)) ≡ option_to_list (table_named text c)
  named_is c apart = one_named 1 0 c.tables (omega arith) apart ∙ ap (λ o. option_to_list (option_map (λ i. i + 1) o)) (sym (position_from-zero has c.tables))

-- the names of the tables of a valid catalog are apart
any_first : (p : List ℕ → Bool) (xs ys : List (List ℕ)) → list_any p (xs ++ ys) ≡ false → list_any p xs ≡ false
any_first p [] ys none = refl
any_first p (x ∷ xs) ys none =
    let parts = or_parts (p x) (list_any p (xs ++ ys)) none in
    λ j. parts.0 j || any_first p xs ys parts.1 j

apart_first : (xs ys : List (List ℕ)) → stands_twice (xs ++ ys) ≡ false → stands_twice xs ≡ false
apart_first [] ys apart = refl
apart_first (x ∷ xs) ys apart =
    let parts = or_parts (list_any (bytes_eq x) (xs ++ ys)) (stands_twice (xs ++ ys)) apart in
    λ j. any_first (bytes_eq x) xs ys parts.0 j || apart_first xs ys parts.1 j

tables_apart : (c : Catalog) → IsValid c → stands_twice (map (λ (t : TableDef). t.name) c.tables) ≡ false
tables_apart c valid = apart_first (map (λ (t : TableDef). t.name) c.tables) (map (λ (s : StableDef). s.name) c.stables ++ map (λ (e : StreamEntry). e.def.target) c.streams) valid.names

-- ---- a comparison that leaves one name
equal_op : (o : Op) → is_equal o ≡ true → (a b : Cell) → cell_matches o a b ≡ compares op.Eq a b
equal_op op.Lt h a b = absurd (cc)
equal_op op.Le h a b = absurd (cc)
equal_op op.Gt h a b = absurd (cc)
equal_op op.Ge h a b = absurd (cc)
equal_op op.Eq h a b = refl
equal_op op.Ne h a b = absurd (cc)
equal_op op.IsNull h a b = absurd (cc)
equal_op op.NotNull h a b = absurd (cc)

text_equal : (name text : List ℕ) (b : Cell) → text_of b ≡ Some text → compares op.Eq (cell.Str name) b ≡ bytes_eq name text
text_equal name text cell.Null h = absurd (cc)
text_equal name text (cell.Truth b) h = absurd (cc)
text_equal name text (cell.Num n) h = absurd (cc)
text_equal name text (cell.Frac sum count) h = absurd (cc)
text_equal name text (cell.Str other) h = is_eq-slice_cmp name other ∙ ap (bytes_eq name) (same_Some other text h)

no_text : (name : List ℕ) (b : Cell) → text_of b ≡ None → compares op.Eq (cell.Str name) b ≡ false
no_text name cell.Null h = refl
no_text name (cell.Truth b) h = refl
no_text name (cell.Num n) h = refl
no_text name (cell.Frac sum count) h = refl
no_text name (cell.Str other) h = absurd (cc)

of_name : (columns : ℕ) (name : List ℕ) (tags : List Cell) (p : Comparison) → (p.place == 0) ≡ true → is_equal p.op ≡ true → holds_of_table columns name tags p ≡ compares op.Eq (cell.Str name) p.operand
of_name columns name tags p place equal =
    ap (λ b. cond b (cell_matches p.op (cell.Str name) p.operand) (cond (nat_lt columns p.place) (tag_matches (p.place - (columns + 1)) p.op p.operand tags) true)) place
    ∙ equal_op p.op equal (cell.Str name) p.operand

named_holds : (columns : ℕ) (ps : List Comparison) (p : Comparison) (name : List ℕ) (tags : List Cell) → first_named ps ≡ Some p → all_hold_of_table columns ps name tags ≡ true → compares op.Eq (cell.Str name) p.operand ≡ true
named_holds columns [] p name tags h k = absurd (cc)
named_holds columns (q ∷ ps) p name tags h k =
    elim (first_or_rest ((q.place == 0) && is_equal q.op) (holds_of_table columns name tags q) (all_hold_of_table columns ps name tags) q p (first_named ps) h k) [
      | inl w ↦ (
          let parts = and_parts (q.place == 0) (is_equal q.op) w.1 in
          ap (λ (r : Comparison). compares op.Eq (cell.Str name) r.operand) (sym w.0) ∙ sym (of_name columns name tags q parts.0 parts.1) ∙ w.2)
      | inr w ↦ named_holds columns ps p name tags w.0 w.1
    ]

none_pass : (f : Numbered → Bool) → ((e : Numbered) → f e ≡ false) → (es : List Numbered) → filter f es ≡ []
none_pass f h [] = refl
none_pass f h (e ∷ es) = λ j. cond (h e j) (e ∷ none_pass f h es j) (none_pass f h es j)

not_true : (b : Bool) → (b ≡ true → false ≡ true) → b ≡ false
not_true true h = sym (h refl)
not_true false h = refl

module _ (stable columns : ℕ) (ps : List Comparison) (p : Comparison) (c : Catalog) (first : first_named ps ≡ Some p) where
  among : Numbered → Bool
  among e = is_under stable e.1 && all_hold_of_table columns ps e.1.name e.1.tags

  equal : (e : Numbered) → among e ≡ true → compares op.Eq (cell.Str e.1.name) p.operand ≡ true
  unfolding among
  equal e h = named_holds columns ps p e.1.name e.1.tags first ((and_parts (is_under stable e.1) (all_hold_of_table columns ps e.1.name e.1.tags) h).1)

  by_text : IsValid c → (o : Option (List ℕ)) → text_of p.operand ≡ o → filter (is_planned stable columns ps c) (option_to_list (option_and_then (λ text. table_named text c) o)) ≡ numbers_of (planned (Stable stable) columns ps c)
  unfolding among
  by_text valid None is =
      sym (ap numbers_of (none_pass among (λ e. not_true (among e) (λ h. sym (no_text e.1.name p.operand is) ∙ equal e h)) (all_tables c)))
  by_text valid (Some text) is =
      ap (filter (is_planned stable columns ps c)) (sym (named_is text c (tables_apart c valid)))
      ∙ kept_by_number c (λ (t : TableDef). is_under stable t && all_hold_of_table columns ps t.name t.tags) (filter (λ (e : Numbered). has text e.1) (all_tables c)) (all-filter (IsKnown c) (λ (e : Numbered). has text e.1) (all_tables c) (all_known c))
      ∙ ap numbers_of (filter_implied among (λ (e : Numbered). has text e.1) (λ e h. sym (text_equal e.1.name text p.operand is) ∙ equal e h) (all_tables c))

  pub planned_from_named : IsValid c → filter (is_planned stable columns ps c) (option_to_list (table_of_cell p.operand c)) ≡ numbers_of (planned (Stable stable) columns ps c)
  planned_from_named valid = by_text valid (text_of p.operand) refl

-- the table of a name is there
named_there : (c : Catalog) (o : Option (List ℕ)) → AreThere c (option_to_list (option_and_then (λ text. table_named text c) o))
named_there c None = λ k d h. absurd (omega arith)
named_there c (Some text) = there (table_named text c) refl
  where
    there : (o : Option ℕ) → table_named text c ≡ o → AreThere c (option_to_list o)
    there None is = λ k d h. absurd (omega arith)
    there (Some n) is = All-push (λ m. IsNumbered m (length c.tables)) [] n (λ k d h. absurd (omega arith)) (table_numbered text c n is)

pub cell_there : (name : Cell) (c : Catalog) → AreThere c (option_to_list (table_of_cell name c))
cell_there name c = named_there c (text_of name)

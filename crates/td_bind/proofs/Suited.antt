-- What is accepted lies in the range of its kind.
use Rattle.std.proofs.Common.{◌≡◌, ℕ, ℤ, suc, zero, get_or, ◌==◌, nat_le, nat_lt, nat_eq, Bool, true, false, ◌&&◌, ◌||◌, not, cond, List, [], ◌∷◌, length, map, zip, drop, slice_get, Option, Some, None, is_some, position, refl, sym, ap, subst, ◌∙◌, arith, true≢false}
use Rattle.std.specs.List.{AllByRecursion, AllZip, cons_option, find, list_any, filter_map, position_or_len}
use Rattle.std.specs.Option.{option_map, option_map_or, unwrap_or}
use Rattle.std.specs.Str.{bytes_eq}
use Rattle.std.proofs.lemmas.Bool.{or_parts, and_parts}
use Rattle.std.proofs.lemmas.Bool.Decides.{nat_tests}
use Rattle.std.proofs.lemmas.Option.{same_Some, slice_get-get_or}
use Rattle.std.proofs.lemmas.List.Elements.{All-drop, All-from_recursion, All-get_or, recursion_from_All}
use Rattle.std.proofs.lemmas.List.Quantifiers.{position-Some}
use Rattle.std.proofs.lemmas.Slice.Eq.{bytes_eq-Decides}
use Rattle.td_cols.specs.declared.kinds.Kind.{Kind}
use Rattle.td_cols.specs.Kinds.{is_in_range}
use Rattle.td_layer.specs.declared.values.Cell.TheVariants as cell
use Rattle.td_layer.specs.declared.values.Value.{Value}
use Rattle.td_model.specs.declared.catalog.Column.{Column}
use Rattle.td_model.specs.declared.language.Lit.{Lit}
use Rattle.td_verdict.specs.Names.{is_first, is_named, column_named, lacks_time, names_of, stands_twice}
use Rattle.td_verdict.specs.Values.{is_truth, is_text, width_of, number_at, text_at, is_null, fits, text_fits, value_of, value_or_null, number_cell, tag_from, tag_of}
use Rattle.td_verdict.specs.Writes.{is_outside, first_column, tag_cells, cell_at, place_of, first_place, chosen, lacks_first}
use Rattle.td_verdict.specs.Valid.{suits_kind, AreTags}
use Rattle.td_verdict.specs.Sound.{is_value_of, is_named_of}
use Rattle.td_catalog.proofs.Valid.{at_end}
use Rattle.td_fields.proofs.Read.{one_kind, text_kind}
use Rattle.td_bind.specs.Literals.{HasKinds}

-- ---- one literal

number_range : (k : Kind) (n : ℤ) (t : Bool) → (is_in_range k n && t) ≡ true → is_in_range k n ≡ true
number_range k n t h = (and_parts (is_in_range k n) t h).0

cell_of_number : (k : Kind) (n : ℤ) → is_text k ≡ false → is_in_range k n ≡ true → suits_kind k (number_cell k n) ≡ true
cell_of_number k n text range = by (is_truth k) refl
  where
    by : (b : Bool) → is_truth k ≡ b → suits_kind k (number_cell k n) ≡ true
    by true e = rw e e
    by false e = rw (e, e, text) range

text_width : (k : Kind) (l : Lit) (t : List ℕ) → text_at k l ≡ Some t → nat_le (length t) (unwrap_or (width_of k) 0) ≡ true → suits_kind k (cell.Str t) ≡ true
text_width k l t h fit = by (width_of k) refl fit
  where
    no_text : (l : Lit) → is_some (width_of k) ≡ false → text_at k l ≡ None
    no_text l e = text_kind k l e

    by : (w : Option ℕ) → width_of k ≡ w → nat_le (length t) (unwrap_or w 0) ≡ true → option_map_or (λ width. nat_le (length t) width) w false ≡ true
    by (Some w) e f = f
    by None e f = let none : text_at k l ≡ None = no_text l (ap is_some e) in absurd (cc)

tag_in : (k : Kind) (moment : ℕ) (l : Lit) (n : Option ℤ) (t : Option (List ℕ)) → number_at k moment l ≡ n → text_at k l ≡ t → (option_map_or (is_in_range k) n true && option_map_or (λ text. nat_le (length text) (unwrap_or (width_of k) 0)) t true) ≡ true
    → suits_kind k (tag_from k n t) ≡ true
tag_in k moment l (Some n) t number text fit = cell_of_number k n (one_kind k moment l n number) (number_range k n _ fit)
tag_in k moment l None (Some t) number text fit = text_width k l t text fit
tag_in k moment l None None number text fit = refl

-- the cell of a tag whose literal is in range is one of its kind
tag_suits : (k : Kind) (moment : ℕ) (l : Lit) → fits k moment l ≡ true → suits_kind k (tag_of k moment l) ≡ true
tag_suits k moment l fit = tag_in k moment l (number_at k moment l) (text_at k l) refl refl fit

value_in : (k : Kind) (n : Option ℤ) (t : Bool) → (option_map_or (is_in_range k) n true && t) ≡ true → is_value_of k (value_or_null n) ≡ true
value_in k None t h = refl
value_in k (Some n) t h = number_range k n t h

-- the value of a column whose literal is in range is one of its kind
value_suits : (k : Kind) (moment : ℕ) (l : Lit) → fits k moment l ≡ true → is_value_of k (value_of k moment l) ≡ true
value_suits k moment l fit = value_in k (number_at k moment l) (text_fits k l) fit

-- ---- tests that no element passes

find_first : {X : Type 0} (b : Bool) (x : X) (rest : Option X) → cond b (Some x) rest ≡ None → (b ≡ false) × (rest ≡ None)
find_first true x rest h = absurd (cc)
find_first false x rest h = (refl, h)

pub not_outside : (a b : Bool) → (a || not b) ≡ false → (a ≡ false) × (b ≡ true)
not_outside true b h = absurd (true≢false h)
not_outside false true h = (refl, refl)
not_outside false false h = absurd (true≢false h)

-- no literal of a group is out of the range of its column
pub none_found : (test : Column × Lit → Bool) (columns : List Column) (group : List Lit) → first_column test columns group ≡ None → find test (zip columns group) ≡ None
none_found test columns group h = by (find test (zip columns group)) h
  where
    by : (o : Option (Column × Lit)) → option_map (λ p. p.0) o ≡ None → o ≡ None
    by None h = refl
    by (Some p) h = absurd (cc)

-- each tag has a cell of its kind
pub tags_are : (moment : ℕ) (tags : List Column) (lits : List Lit) → (length lits == length tags) ≡ true → find (is_outside [] moment) (zip tags lits) ≡ None → AreTags tags (tag_cells moment tags lits)
tags_are moment [] [] long none = tt
tags_are moment [] (l ∷ lits) long none = absurd (more long)
  where
    more : nat_eq (suc (length lits)) 0 ≡ true → ⊥
    more h = grind (arith, nat_tests)
tags_are moment (t ∷ tags) [] long none = absurd (more long)
  where
    more : nat_eq 0 (suc (length tags)) ≡ true → ⊥
    more h = grind (arith, nat_tests)
tags_are moment (t ∷ tags) (l ∷ lits) long none =
    let parts = find_first (is_outside [] moment (t, l)) (t, l) (find (is_outside [] moment) (zip tags lits)) none in
    let fit = (not_outside false (fits t.kind moment l) parts.0).1 in
    (tag_suits t.kind moment l fit, tags_are moment tags lits (rest (length lits) (length tags) long) parts.1)
  where
    rest : (a b : ℕ) → nat_eq (suc a) (suc b) ≡ true → nat_eq a b ≡ true
    rest a b h = grind (arith, nat_tests)

-- the pair at a place of two lists passes no test that none passes
pub at_pair : (test : Column × Lit → Bool) (places : List Column) (group : List Lit) (i : ℕ) (d : Column) (l : Lit) → find test (zip places group) ≡ None → slice_get places i ≡ Some d → slice_get group i ≡ Some l → test (d, l) ≡ false
at_pair test [] group i d l none here there = absurd (cc)
at_pair test (p ∷ places) [] i d l none here there = absurd (cc)
at_pair test (p ∷ places) (m ∷ group) zero d l none here there =
    let parts = find_first (test (p, m)) (p, m) (find test (zip places group)) none in
    let e : p ≡ d = same_Some p d here in
    let f : m ≡ l = same_Some m l there in
    (λ i. test (sym e i, sym f i)) ∙ parts.0
at_pair test (p ∷ places) (m ∷ group) (suc i) d l none here there = at_pair test places group i d l ((find_first (test (p, m)) (p, m) (find test (zip places group)) none).1) here there

-- ---- columns and their places

same_name : (a b : List ℕ) → bytes_eq a b ≡ true → a ≡ b
same_name a b h = (bytes_eq-Decides a b).0 h

own_name : (a : List ℕ) → bytes_eq a a ≡ true
own_name a = (bytes_eq-Decides a a).1 refl

-- a column that is the first of its name among some
IsOf : List Column → Column → Type 0
IsOf columns d = column_named columns d.name ≡ Some d

behind : (d : Column) (ds es : List Column) → list_any (bytes_eq d.name) (names_of es) ≡ false → AllByRecursion (IsOf ds) es → AllByRecursion (IsOf (d ∷ ds)) es
unfolding IsOf
behind d ds [] none h = tt
behind d ds (e ∷ es) none h =
    let parts = or_parts (bytes_eq d.name e.name) (list_any (bytes_eq d.name) (names_of es)) none in
    (ap (λ b. cond b (Some d) (column_named ds e.name)) parts.0 ∙ h.0, behind d ds es parts.1 h.1)

-- columns of which no name stands twice
own : (columns : List Column) → stands_twice (names_of columns) ≡ false → AllByRecursion (IsOf columns) columns
unfolding IsOf
own [] h = tt
own (d ∷ ds) h =
    let parts = or_parts (list_any (bytes_eq d.name) (names_of ds)) (stands_twice (names_of ds)) h in
    (ap (λ b. cond b (Some d) (column_named ds d.name)) (own_name d.name), behind d ds ds parts.0 (own ds parts.1))

named_so : (columns : List Column) (name : List ℕ) (e : Column) → column_named columns name ≡ Some e → bytes_eq e.name name ≡ true
named_so [] name e h = absurd (cc)
named_so (d ∷ ds) name e h = by (bytes_eq d.name name) refl h (named_so ds name e)
  where
    by : (b : Bool) → bytes_eq d.name name ≡ b → cond b (Some d) (column_named ds name) ≡ Some e → (column_named ds name ≡ Some e → bytes_eq e.name name ≡ true) → bytes_eq e.name name ≡ true
    by true is k rest = let same : d ≡ e = same_Some d e k in subst (λ (x : Column). bytes_eq x.name name ≡ true) same is
    by false is k rest = rest k

chosen_are : (columns : List Column) (names : List (List ℕ)) → AllByRecursion (IsOf columns) (filter_map (column_named columns) names)
unfolding IsOf
chosen_are columns [] = tt
chosen_are columns (name ∷ names) = by (column_named columns name) refl (chosen_are columns names)
  where
    by : (o : Option Column) → column_named columns name ≡ o → AllByRecursion (IsOf columns) (filter_map (column_named columns) names) → AllByRecursion (IsOf columns) (cons_option o (filter_map (column_named columns) names))
    by None is rest = rest
    by (Some e) is rest = (ap (column_named columns) (same_name e.name name (named_so columns name e is)) ∙ is, rest)

-- the kinds of columns at their places among those that are chosen
kind_there : (columns places : List Column) (c : Column) (i : ℕ) → IsOf columns c → AllByRecursion (IsOf columns) places → place_of places c.name ≡ Some i → option_map (λ (d : Column). d.kind) (slice_get places i) ≡ Some c.kind
unfolding IsOf
kind_there columns places c i is are at =
    let found = position-Some (is_named c.name) places i c at in
    let e : Column = get_or places i c in
    let name : e.name ≡ c.name = same_name e.name c.name found.1 in
    let of : column_named columns e.name ≡ Some e = All-get_or (IsOf columns) places i c found.0 (All-from_recursion (IsOf columns) places are) in
    let same : e ≡ c = same_Some e c (sym of ∙ ap (column_named columns) name ∙ is) in
    ap (option_map (λ (d : Column). d.kind)) (slice_get-get_or places i c found.0) ∙ ap (λ (d : Column). Some d.kind) same

kinds_of : (columns places : List Column) → AllByRecursion (IsOf columns) columns → AllByRecursion (IsOf columns) places → HasKinds columns places
kinds_of columns places own are =
    All-from_recursion (λ (c : Column). (i : ℕ) → place_of places c.name ≡ Some i → option_map (λ (d : Column). d.kind) (slice_get places i) ≡ Some c.kind) columns
    (each columns own)
  where
    each : (cs : List Column) → AllByRecursion (IsOf columns) cs → AllByRecursion (λ (c : Column). (i : ℕ) → place_of places c.name ≡ Some i → option_map (λ (d : Column). d.kind) (slice_get places i) ≡ Some c.kind) cs
    each [] h = tt
    each (c ∷ cs) h = (λ i at. kind_there columns places c i h.0 are at, each cs h.1)

-- the columns of a table of which no name stands twice, and of those the ones that a list names
pub all_kinds : (columns : List Column) → stands_twice (names_of columns) ≡ false → HasKinds columns columns
all_kinds columns apart = kinds_of columns columns (own columns apart) (own columns apart)

pub chosen_kinds : (columns : List Column) (names : List (List ℕ)) → stands_twice (names_of columns) ≡ false → HasKinds columns (filter_map (column_named columns) names)
chosen_kinds columns names apart = kinds_of columns (filter_map (column_named columns) names) (own columns apart) (chosen_are columns names)

pub any_kinds : (columns : List Column) (names : Option (List (List ℕ))) → stands_twice (names_of columns) ≡ false → HasKinds columns (chosen columns names)
any_kinds columns None apart = all_kinds columns apart
any_kinds columns (Some names) apart = chosen_kinds columns names apart

-- ---- the first column has a place

placed : {X : Type 0} (p : X → Bool) (xs : List X) → list_any p xs ≡ true → (i : ℕ) × (position p xs ≡ Some i)
placed p xs h = by (nat_lt (position_or_len p xs) (length xs)) refl
  where
    by : (b : Bool) → nat_lt (position_or_len p xs) (length xs) ≡ b → (i : ℕ) × (cond b (Some (position_or_len p xs)) None ≡ Some i)
    by true e = (position_or_len p xs, refl)
    by false e = absurd (true≢false (sym h ∙ at_end p xs e))

or_left : (a b : Bool) → a ≡ true → (a || b) ≡ true
or_left true b h = refl
or_left false b h = absurd (true≢false (sym h))

or_right : (a b : Bool) → b ≡ true → (a || b) ≡ true
or_right true b h = refl
or_right false b h = h

among_chosen : (c : Column) (cs : List Column) (names : List (List ℕ)) → list_any (is_first (c ∷ cs)) names ≡ true → list_any (is_named c.name) (filter_map (column_named (c ∷ cs)) names) ≡ true
among_chosen c cs [] h = h
among_chosen c cs (name ∷ names) h = by (bytes_eq c.name name) refl h (among_chosen c cs names)
  where
    more : (o : Option Column) (xs : List Column) → list_any (is_named c.name) xs ≡ true → list_any (is_named c.name) (cons_option o xs) ≡ true
    more None xs k = k
    more (Some d) xs k = or_right (is_named c.name d) (list_any (is_named c.name) xs) k

    by : (b : Bool) → bytes_eq c.name name ≡ b → (b || list_any (is_first (c ∷ cs)) names) ≡ true → (list_any (is_first (c ∷ cs)) names ≡ true → list_any (is_named c.name) (filter_map (column_named (c ∷ cs)) names) ≡ true)
        → list_any (is_named c.name) (cons_option (cond b (Some c) (column_named cs name)) (filter_map (column_named (c ∷ cs)) names)) ≡ true
    by true e k rest = or_left (bytes_eq c.name c.name) (list_any (is_named c.name) (filter_map (column_named (c ∷ cs)) names)) (own_name c.name)
    by false e k rest = more (column_named cs name) (filter_map (column_named (c ∷ cs)) names) (rest k)

not_false : (b : Bool) → not b ≡ false → b ≡ true
not_false true h = refl
not_false false h = absurd (true≢false h)

pub first_placed : (columns : List Column) (names : Option (List (List ℕ))) → lacks_time columns ≡ false → lacks_first columns names ≡ false → (i : ℕ) × (first_place columns (chosen columns names) ≡ Some i)
first_placed [] names time h = absurd (true≢false time)
first_placed (c ∷ cs) None time h = placed (is_named c.name) (c ∷ cs) (or_left (bytes_eq c.name c.name) (list_any (is_named c.name) cs) (own_name c.name))
first_placed (c ∷ cs) (Some names) time h = placed (is_named c.name) (filter_map (column_named (c ∷ cs)) names) (among_chosen c cs names (not_false (list_any (is_first (c ∷ cs)) names) h))

-- ---- a group that is accepted

module _ (moment : ℕ) (columns places : List Column) (group : List Lit) (kinds : HasKinds columns places) (outside : find (is_outside columns moment) (zip places group) ≡ None) where
  literal_fits : (c : Column) (i : ℕ) (l : Lit) → option_map (λ (d : Column). d.kind) (slice_get places i) ≡ Some c.kind → slice_get group i ≡ Some l → fits c.kind moment l ≡ true
  literal_fits c i l kind there = by (slice_get places i) refl kind
    where
      by : (o : Option Column) → slice_get places i ≡ o → option_map (λ (d : Column). d.kind) o ≡ Some c.kind → fits c.kind moment l ≡ true
      by None here k = absurd (cc)
      by (Some d) here k =
          let fit = (not_outside (is_first columns d.name && is_null l) (fits d.kind moment l) (at_pair (is_outside columns moment) places group i d l outside here there)).1 in
          let same : d.kind ≡ c.kind = same_Some d.kind c.kind k in
          subst (λ (k : Kind). fits k moment l ≡ true) same fit

  cell_is : (c : Column) → ((i : ℕ) → place_of places c.name ≡ Some i → option_map (λ (d : Column). d.kind) (slice_get places i) ≡ Some c.kind) → is_named_of c.kind (cell_at moment group c.kind (place_of places c.name)) ≡ true
  cell_is c kind = at (place_of places c.name) refl
    where
      with_literal : (i : ℕ) (o : Option Lit) → place_of places c.name ≡ Some i → slice_get group i ≡ o → is_named_of c.kind (option_map (value_of c.kind moment) o) ≡ true
      with_literal i None here there = refl
      with_literal i (Some l) here there = value_suits c.kind moment l (literal_fits c i l (kind i here) there)

      at : (o : Option ℕ) → place_of places c.name ≡ o → is_named_of c.kind (cell_at moment group c.kind o) ≡ true
      at None here = refl
      at (Some i) here = with_literal i (slice_get group i) here refl

  cells_are : (cs : List Column) → AllByRecursion (λ (c : Column). (i : ℕ) → place_of places c.name ≡ Some i → option_map (λ (d : Column). d.kind) (slice_get places i) ≡ Some c.kind) cs
      → AllZip (λ (c : Column) (v : Option Value). is_named_of c.kind v ≡ true) cs (map (λ c. cell_at moment group c.kind (place_of places c.name)) cs)
  cells_are [] h = tt
  cells_are (c ∷ cs) h = (cell_is c h.0, cells_are cs h.1)

  pub group_cells : AllZip (λ (c : Column) (v : Option Value). is_named_of c.kind v ≡ true) (drop 1 columns) (map (λ c. cell_at moment group c.kind (place_of places c.name)) (drop 1 columns))
  group_cells = cells_are (drop 1 columns) (recursion_from_All (λ (c : Column). (i : ℕ) → place_of places c.name ≡ Some i → option_map (λ (d : Column). d.kind) (slice_get places i) ≡ Some c.kind) (drop 1 columns) (All-drop (λ (c : Column). (i : ℕ) → place_of places c.name ≡ Some i → option_map (λ (d : Column). d.kind) (slice_get places i) ≡ Some c.kind) 1 columns kinds))

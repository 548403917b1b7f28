-- What a write is accepted as may come after the catalog, and no row of it lies before the edge.
use Rattle.std.proofs.Common.{◌≡◌, ℕ, ℤ, pos, negsuc, suc, zero, ◌+◌, ◌-◌, ◌*◌, ◌/◌, max, ◌<◌, ◌≤◌, ◌==◌, nat_lt, nat_eq, map, zip, drop, get_or, slice_get, Bool, true, false, not, ◌&&◌, ◌||◌, cond, List, [], ◌∷◌, length, Option, Some, None, is_some, is_none, Result, Ok, Err, refl, sym, ap, subst, ◌∙◌, arith, true≢false}
use Rattle.std.specs.List.{AllByRecursion, AllZip, find, list_all, list_any}
use Rattle.std.specs.Option.{option_map, option_map_or, option_and_then, option_or, unwrap_or}
use Rattle.std.specs.Result.{IfOk}
use Rattle.std.specs.Prelude.{int_lt}
use Rattle.std.specs.Int.{int_max, int_min}
use Rattle.std.specs.Str.{bytes_eq}
use Rattle.std.specs.Cmp.Lexicographic.{nat_list_eq_equiv}
use Rattle.std.proofs.lemmas.Bool.{and_parts, or_parts}
use Rattle.std.proofs.lemmas.Bool.Decides.{nat_tests}
use Rattle.std.proofs.lemmas.List.Elements.{All-from_recursion}
use Rattle.std.proofs.lemmas.List.Quantifiers.{position-Some}
use Rattle.std.proofs.lemmas.Option.{same_Some, slice_get_within, get_or_from_slice_get}
use Rattle.td_cols.specs.declared.kinds.Kind.{Kind}
use Rattle.td_cols.specs.declared.kinds.Kind.TheVariants as kind
use Rattle.td_cols.specs.Kinds.{is_in_range, kind_least, kind_most}
use Rattle.td_limits.specs.declared.limits.TheConstants.{COLUMNS, DAY_RANGE, INSERT_ROWS, KEEP, LAST_TIMESTAMP, TABLES, TAGS}
use Rattle.td_layer.specs.declared.values.Value.{Value}
use Rattle.td_model.specs.declared.catalog.Column.{Column}
use Rattle.td_model.specs.declared.catalog.StableDef.{StableDef}
use Rattle.td_model.specs.declared.language.Lit.{Lit}
use Rattle.td_model.specs.declared.language.Stmt.{Stmt}
use Rattle.td_model.specs.declared.language.Stmt.TheVariants as stmt
use Rattle.td_model.specs.declared.history.Put.{Put}
use Rattle.td_model.specs.declared.history.What.{What}
use Rattle.td_model.specs.declared.history.What.TheVariants as what
use Rattle.td_model.specs.declared.history.Verdict.{Verdict}
use Rattle.td_model.specs.declared.history.Verdict.TheVariants.{Accept}
use Rattle.td_model.specs.declared.report.Cause.{Cause}
use Rattle.td_model.specs.declared.report.Cause.TheVariants as cause
use Rattle.td_model.specs.declared.report.Many.TheVariants as many
use Rattle.td_model.specs.Catalog.{Catalog, stable_named, table_named, target_named, stream_named, stable_at, schema_or_none, no_schema}
use Rattle.td_catalog.specs.Kept.{IsFree, IsNumbered, CanFollow}
use Rattle.td_catalog.proofs.Apart.{apart_first}
use Rattle.td_verdict.specs.Causes.{when, first_cause, accepted_or}
use Rattle.td_verdict.specs.Names.{is_table, is_stable, is_target, is_taken, is_stream, is_first, is_named, names_of, number_or_none, table_schema, stable_schema, stands_twice, lacks_time, column_named}
use Rattle.td_verdict.specs.Sound.{IsFromEdge, IsPut, is_named_of}
use Rattle.td_verdict.specs.Valid.{AreTags, IsSchema, IsValid}
use Rattle.td_verdict.specs.Values.{is_column_kind, is_tag_kind, number_at, text_at, text_fits, is_null, suits, fits}
use Rattle.td_verdict.specs.Writes.{first_given, is_full, definition_cause, have_one_name, kind_cause, count_cause, size_cause, make_stable_verdict, make_table_verdict, make_sub_cause, make_sub_verdict, tags_cause, stable_cause, tag_cells, mismatch_of, outside_of, first_column, is_mismatch, is_outside, first_place, time_at, time_from, is_before, lacks_first, listed, bad_bound, cut_of, refused_or, written_cause, list_cause, rows_cause, groups_cause, groups_verdict, chosen, put_of, insert_verdict, delete_cause, delete_verdict, bound_of, write_verdict}
use Rattle.td_fields.proofs.Read.{text_kind}
use Rattle.td_bind.specs.Answers.{verdict_of}
use Rattle.td_bind.specs.Literals.{HasKinds}
use Rattle.td_bind.proofs.Filters.{all_weaker}
use Rattle.td_bind.proofs.Numbers.{stable_numbered, table_numbered}
use Rattle.td_bind.proofs.Read.{first_kind}
use Rattle.td_verdict.proofs.Schemas.{schema_at}
use Rattle.td_bind.proofs.Suited.{tags_are, none_found, not_outside, at_pair, any_kinds, first_placed, group_cells}

-- where no cause of a list applies, none of those in it does
first_none : (o : Option Cause) (os : List (Option Cause)) → first_cause (o ∷ os) ≡ None → o ≡ None
first_none None os h = refl
first_none (Some cause) os h = absurd (cc)

rest_none : (o : Option Cause) (os : List (Option Cause)) → first_cause (o ∷ os) ≡ None → first_cause os ≡ None
rest_none None os h = h
rest_none (Some cause) os h = absurd (cc)

third_none : (o p q : Option Cause) (os : List (Option Cause)) → first_cause (o ∷ p ∷ q ∷ os) ≡ None → q ≡ None
third_none o p q os h = first_none q os (rest_none p (q ∷ os) (rest_none o (p ∷ q ∷ os) h))

second_none : (o p : Option Cause) (os : List (Option Cause)) → first_cause (o ∷ p ∷ os) ≡ None → p ≡ None
second_none o p os h = first_none p os (rest_none o (p ∷ os) h)

not_when : (b : Bool) (cause : Cause) → when b cause ≡ None → b ≡ false
not_when false cause h = refl
not_when true cause h = absurd (cc)

-- the parts of a test that fails
or_first : (a b : Bool) → (a || b) ≡ false → a ≡ false
or_first false b h = refl
or_first true b h = h

or_second : (a b : Bool) → (a || b) ≡ false → b ≡ false
or_second false b h = h
or_second true b h = absurd (true≢false h)

nothing : {X : Type 0} (o : Option X) → is_some o ≡ false → o ≡ None
nothing None h = refl
nothing (Some x) h = absurd (true≢false h)

not_false : (b : Bool) → not b ≡ false → b ≡ true
not_false true h = refl
not_false false h = absurd (true≢false h)

free : (name : List ℕ) (c : Catalog) → is_taken name c ≡ false → IsFree name c
free name c h =
    let both = or_first (is_table name c || is_stable name c) (is_target name c) h in
    record {
      stable = nothing (stable_named name c) (or_second (is_table name c) (is_stable name c) both);
      table = nothing (table_named name c) (or_first (is_table name c) (is_stable name c) both);
      target = nothing (target_named name c) (or_second (is_table name c || is_stable name c) (is_target name c) h);
    }

-- where there is place, there is some for one more
room : (c : Catalog) → is_full c ≡ false → length c.tables + length c.stables < TABLES
room c h = grind (arith, nat_tests)

-- what is accepted, and that no cause applied
no_cause : (o : Option Cause) (w v : What) (m n : ℕ) → accepted_or o w m ≡ Accept v n → o ≡ None
no_cause None w v m n h = refl
no_cause (Some cause) w v m n h = absurd (cc)

accepted : (o : Option Cause) (w v : What) (m n : ℕ) → accepted_or o w m ≡ Accept v n → w ≡ v
accepted None w v m n h = cc
accepted (Some cause) w v m n h = absurd (cc)

passed : {X : Type 0} (f : X → Bool) (xs : List X) → find (λ x. not (f x)) xs ≡ None → list_all f xs ≡ true
passed f [] h = refl
passed {X} f (x ∷ xs) h = by (f x) (passed f xs) h
  where
    by : (b : Bool) → (find (λ x. not (f x)) xs ≡ None → list_all f xs ≡ true) → cond (not b) (Some x) (find (λ x. not (f x)) xs) ≡ None → (b && list_all f xs) ≡ true
    by true rest k = rest k
    by false rest k = absurd (cc)

of_kinds : (test : Kind → Bool) (columns : List Column) → kind_cause test columns ≡ None → list_all (λ (c : Column). test c.kind) columns ≡ true
of_kinds test columns h = passed (λ (c : Column). test c.kind) columns (by (find (λ (c : Column). not (test c.kind)) columns) h)
  where
    by : (o : Option Column) → option_map (λ (c : Column). cause.OutOfRange c.name) o ≡ None → o ≡ None
    by None k = refl
    by (Some c) k = absurd (cc)

few : (n limit : ℕ) → nat_lt limit n ≡ false → n ≤ limit
few n limit h = grind (arith, nat_tests)

-- a definition that no cause refuses has a free name and a well-formed schema, and there is place for it
module _ (name : List ℕ) (columns tags : List Column) (c : Catalog) (h : definition_cause name columns tags c ≡ None) where
  name_cause : Option Cause
  name_cause = when (is_taken name c || have_one_name columns tags) cause.NameTaken

  time_cause : Option Cause
  time_cause = when (lacks_time columns) cause.NeedsTime

  no_name : (is_taken name c || have_one_name columns tags) ≡ false
  unfolding name_cause time_cause
  no_name = not_when (is_taken name c || have_one_name columns tags) cause.NameTaken (first_none name_cause (time_cause ∷ size_cause columns tags c ∷ []) h)

  defined_free : IsFree name c
  defined_free = free name c (or_first (is_taken name c) (have_one_name columns tags) no_name)

  no_size : size_cause columns tags c ≡ None
  unfolding name_cause time_cause
  no_size = third_none name_cause time_cause (size_cause columns tags c) [] h

  no_count : count_cause columns tags c ≡ None
  no_count = third_none (kind_cause is_column_kind columns) (kind_cause is_tag_kind tags) (count_cause columns tags c) [] no_size

  abbrev full_cause : Option Cause
  full_cause = when (is_full c) (cause.TooMany many.Tables TABLES)

  abbrev columns_cause : Option Cause
  columns_cause = when (nat_lt COLUMNS (length columns)) (cause.TooMany many.Columns COLUMNS)

  abbrev few_cause : Option Cause
  few_cause = when (nat_lt TAGS (length tags)) (cause.TooMany many.Tags TAGS)

  defined_fits : is_full c ≡ false
  defined_fits = not_when (is_full c) (cause.TooMany many.Tables TABLES) (first_none full_cause (columns_cause ∷ few_cause ∷ []) no_count)

  defined_schema : IsSchema columns tags
  unfolding name_cause time_cause
  defined_schema = record {
    time = not_when (lacks_time columns) cause.NeedsTime (second_none name_cause time_cause (size_cause columns tags c ∷ []) h);
    apart = or_second (is_taken name c) (have_one_name columns tags) no_name;
    column_kinds = of_kinds is_column_kind columns (first_none (kind_cause is_column_kind columns) (kind_cause is_tag_kind tags ∷ count_cause columns tags c ∷ []) no_size);
    tag_kinds = of_kinds is_tag_kind tags (second_none (kind_cause is_column_kind columns) (kind_cause is_tag_kind tags) (count_cause columns tags c ∷ []) no_size);
    few_columns = few (length columns) COLUMNS (not_when (nat_lt COLUMNS (length columns)) (cause.TooMany many.Columns COLUMNS) (second_none full_cause columns_cause (few_cause ∷ []) no_count));
    few_tags = few (length tags) TAGS (not_when (nat_lt TAGS (length tags)) (cause.TooMany many.Tags TAGS) (third_none full_cause columns_cause few_cause [] no_count));
  }

stable_follows : (name : List ℕ) (columns : List Column) (tags : Option (List Column)) (c : Catalog) (w : What) (n : ℕ) → make_stable_verdict name columns tags c ≡ Accept w n → CanFollow w c
stable_follows name columns None c w n h = absurd (cc)
stable_follows name columns (Some tags) c w n h =
    let made = what.MakeStable name (record { columns = columns; tags = tags }) in
    let none = no_cause (definition_cause name columns tags c) made w 0 n h in
    subst (λ v. CanFollow v c) (accepted (definition_cause name columns tags c) made w 0 n h) (defined_free name columns tags c none, defined_schema name columns tags c none, room c (defined_fits name columns tags c none))

table_follows : (name : List ℕ) (columns : List Column) (c : Catalog) (w : What) (n : ℕ) → make_table_verdict name columns c ≡ Accept w n → CanFollow w c
table_follows name columns c w n h =
    let none = no_cause (definition_cause name columns [] c) (what.MakeTable name columns) w 0 n h in
    subst (λ v. CanFollow v c) (accepted (definition_cause name columns [] c) (what.MakeTable name columns) w 0 n h) (defined_free name columns [] c none, defined_schema name columns [] c none, room c (defined_fits name columns [] c none))

-- the number of a supertable that is there
is_numbered : (stable : List ℕ) (c : Catalog) (found : Option ℕ) → stable_named stable c ≡ found → is_some found ≡ true → IsNumbered (number_or_none found) (length c.stables)
is_numbered stable c (Some n) e h = stable_numbered stable c n e
is_numbered stable c None e h = absurd (cc)

no_outside : (o : Option Column) → outside_of o ≡ None → o ≡ None
no_outside None h = refl
no_outside (Some c) h = absurd (cc)

module _ (name stable : List ℕ) (tags : List Column) (lits : List Lit) (moment : ℕ) (c : Catalog) (h : make_sub_cause name stable tags lits moment c ≡ None) where
  taken_cause : Option Cause
  taken_cause = when (is_taken name c) cause.NameTaken

  sub_free : IsFree name c
  unfolding taken_cause
  sub_free = free name c (not_when (is_taken name c) cause.NameTaken (second_none (stable_cause stable c) taken_cause (tags_cause tags lits moment c ∷ []) h))

  sub_of : is_stable stable c ≡ true
  unfolding taken_cause
  sub_of =
      let none = first_none (stable_cause stable c) (taken_cause ∷ tags_cause tags lits moment c ∷ []) h in
      not_false (is_stable stable c) (not_when (not (is_stable stable c)) cause.NotAStable (second_none (when (not (is_taken stable c)) cause.UnknownStable) (when (not (is_stable stable c)) cause.NotAStable) [] none))

  abbrev arity : Option Cause
  arity = when (not (length lits == length tags)) cause.Arity

  abbrev mismatch : Option Cause
  mismatch = mismatch_of (first_column (is_mismatch moment) tags lits)

  abbrev outside : Option Cause
  outside = outside_of (first_column (is_outside [] moment) tags lits)

  abbrev full : Option Cause
  full = when (is_full c) (cause.TooMany many.Tables TABLES)

  sub_causes : tags_cause tags lits moment c ≡ None
  unfolding taken_cause
  sub_causes = third_none (stable_cause stable c) taken_cause (tags_cause tags lits moment c) [] h

  sub_fits : is_full c ≡ false
  sub_fits = not_when (is_full c) (cause.TooMany many.Tables TABLES) (third_none mismatch outside full [] (rest_none arity (mismatch ∷ outside ∷ full ∷ []) sub_causes))

  sub_tags : AreTags tags (tag_cells moment tags lits)
  sub_tags =
      tags_are moment tags lits (not_false (length lits == length tags) (not_when (not (length lits == length tags)) cause.Arity (first_none arity (mismatch ∷ outside ∷ full ∷ []) sub_causes)))
      (none_found (is_outside [] moment) tags lits (no_outside (first_column (is_outside [] moment) tags lits) (third_none arity mismatch outside (full ∷ []) sub_causes)))

-- the tags of a supertable that is found
tags_of_found : (c : Catalog) (found : Option ℕ) → is_some found ≡ true → (stable_schema found c).tags ≡ (schema_or_none (stable_at (number_or_none found) c)).tags
tags_of_found c None h = absurd (cc)
tags_of_found c (Some n) h = by (stable_at n c)
  where
    by : (o : Option StableDef) → (unwrap_or (option_map (λ (s : StableDef). s.schema) o) no_schema).tags ≡ (schema_or_none o).tags
    by None = refl
    by (Some s) = refl

sub_follows : (name stable : List ℕ) (lits : List Lit) (moment : ℕ) (c : Catalog) (w : What) (n : ℕ) → make_sub_verdict name stable lits moment c ≡ Accept w n → CanFollow w c
sub_follows name stable lits moment c w n h =
    let tags : List Column = (stable_schema (stable_named stable c) c).tags in
    let made = what.MakeSub name (number_or_none (stable_named stable c)) (tag_cells moment tags lits) in
    let cause = make_sub_cause name stable tags lits moment c in
    let none = no_cause cause made w 0 n h in
    let of = sub_of name stable tags lits moment c none in
    subst (λ v. CanFollow v c) (accepted cause made w 0 n h) (
      sub_free name stable tags lits moment c none,
      is_numbered stable c (stable_named stable c) refl of,
      subst (λ (ts : List Column). AreTags ts (tag_cells moment tags lits)) (tags_of_found c (stable_named stable c) of) (sub_tags name stable tags lits moment c none),
      room c (sub_fits name stable tags lits moment c none),
    )

-- what leaves the catalog as it is may follow any
plain_follows : (o : Option Cause) (made : What) (m : ℕ) (c : Catalog) (w : What) (n : ℕ) → CanFollow made c → accepted_or o made m ≡ Accept w n → CanFollow w c
plain_follows o made m c w n can h = subst (λ v. CanFollow v c) (accepted o made w m n h) can

-- ---- INSERT and DELETE

-- the table that is written, by its number
written : (table : List ℕ) (c : Catalog) → written_cause table c ≡ None → (n : ℕ) × (table_named table c ≡ Some n)
written table c h = by (table_named table c) refl (is_stable table c) (is_target table c) h
  where
    by : (o : Option ℕ) → table_named table c ≡ o → (s t : Bool) → first_cause (when (not (is_some o || s || t)) cause.UnknownTable ∷ when t cause.TargetOfStream ∷ when s cause.NotATable ∷ []) ≡ None → (n : ℕ) × (table_named table c ≡ Some n)
    by (Some n) e s t k = (n, e)
    by None e true true k = absurd (cc)
    by None e true false k = absurd (cc)
    by None e false true k = absurd (cc)
    by None e false false k = absurd (cc)

refused_first : (o : Option Cause) (v : Verdict) (w : What) (n : ℕ) → refused_or o v ≡ Accept w n → (o ≡ None) × (v ≡ Accept w n)
refused_first None v w n h = (refl, h)
refused_first (Some cause) v w n h = absurd (cc)

no_mismatch : (o : Option Column) → mismatch_of o ≡ None → o ≡ None
no_mismatch None h = refl
no_mismatch (Some c) h = absurd (cc)

none_given : {A B : Type 0} (f : A → Option B) (xs : List A) → first_given f xs ≡ None → AllByRecursion (λ x. f x ≡ None) xs
none_given f [] h = tt
none_given {A} {B} f (x ∷ xs) h = by (f x) refl h (none_given f xs)
  where
    by : (o : Option B) → f x ≡ o → option_or o (first_given f xs) ≡ None → (first_given f xs ≡ None → AllByRecursion (λ x. f x ≡ None) xs) → (f x ≡ None) × AllByRecursion (λ x. f x ≡ None) xs
    by None e k rest = (e, rest k)
    by (Some y) e k rest = absurd (cc)

none_any : {A : Type 0} (p : A → Bool) (xs : List A) → list_any p xs ≡ false → AllByRecursion (λ x. p x ≡ false) xs
none_any p [] h = tt
none_any p (x ∷ xs) h = let parts = or_parts (p x) (list_any p xs) h in (parts.0, none_any p xs parts.1)

time_fits : (n : ℤ) → time_from n ≤ LAST_TIMESTAMP
time_fits (pos n) = omega arith
time_fits (negsuc n) = omega arith

-- where there is nothing at a place, the list has ended
past_end : {X : Type 0} (xs : List X) (i : ℕ) → slice_get xs i ≡ None → length xs ≤ i
past_end [] i h = omega arith
past_end (x ∷ xs) zero h = absurd (cc)
past_end (x ∷ xs) (suc i) h = let rest = past_end xs i h in omega (arith, rest)

-- the column at the first column's place has its name
first_named : (columns places : List Column) (i : ℕ) (d : Column) → first_place columns places ≡ Some i → slice_get places i ≡ Some d → is_first columns d.name ≡ true
first_named [] places i d at here = absurd (cc)
first_named (c ∷ cs) places i d at here =
    let found = position-Some (is_named c.name) places i d at in
    let same : get_or places i d ≡ d = get_or_from_slice_get places i d d here in
    nat_list_eq_equiv.symm c.name d.name ∙ subst (λ (x : Column). bytes_eq x.name c.name ≡ true) same found.1

-- the schema of a table that is there is well formed
schema_of_table : (c : Catalog) → IsValid c → (n : ℕ) → IsNumbered n (length c.tables) → IsSchema (table_schema (Some n) c).columns (table_schema (Some n) c).tags
schema_of_table c valid n numbered = schema_at c valid n numbered.0 numbered.1

-- what is true of a put that its group passed
record GoodPut (c : Catalog) (edge : ℕ) (p : Put) : Type 0 where
  put : IsPut c p
  late : edge * DAY_RANGE ≤ p.key.ts

-- a timestamp in range that isn't before the edge
not_before : (edge : ℕ) (n : ℤ) → is_in_range kind.Time n ≡ true → is_before edge (Some n) ≡ false → edge * DAY_RANGE ≤ time_from n
unfolding is_in_range kind_least kind_most
not_before edge (pos n) range before = grind (arith, nat_tests)
not_before edge (negsuc n) range before = absurd (cc)

-- the timestamp of a group that passed
time_read : (edge moment : ℕ) (l : Lit) → suits kind.Time moment l ≡ true → fits kind.Time moment l ≡ true → is_null l ≡ false → is_before edge (number_at kind.Time moment l) ≡ false
    → edge * DAY_RANGE ≤ time_from (unwrap_or (number_at kind.Time moment l) (pos 0))
time_read edge moment l suit fit null before = by (number_at kind.Time moment l) refl suit fit before
  where
    by : (o : Option ℤ) → number_at kind.Time moment l ≡ o → (is_null l || is_some o || is_some (text_at kind.Time l)) ≡ true → (option_map_or (is_in_range kind.Time) o true && text_fits kind.Time l) ≡ true → is_before edge o ≡ false
        → edge * DAY_RANGE ≤ time_from (unwrap_or o (pos 0))
    by (Some n) e s f b = not_before edge n ((and_parts (is_in_range kind.Time n) (text_fits kind.Time l) f).0) b
    by None e s f b =
        let text : text_at kind.Time l ≡ None = text_kind kind.Time l refl in
        let nothing : (is_null l || false || is_some (text_at kind.Time l)) ≡ false = (λ i. null i || false || is_some (text i)) in
        absurd (true≢false (sym s ∙ nothing))

apart : (a b i : ℕ) → nat_eq a b ≡ true → i < b → a ≤ i → ⊥
apart a b i e h k = grind (arith, nat_tests)

only : (a b : Bool) → a ≡ true → (a && b) ≡ false → b ≡ false
only true b e h = h
only false b e h = absurd (true≢false (sym e))

module _ (moment edge number : ℕ) (columns places : List Column) (c : Catalog) (there : IsNumbered number (length c.tables)) (of : columns ≡ (table_schema (Some number) c).columns)
    (time : lacks_time columns ≡ false) (kinds : HasKinds columns places) (i : ℕ) (at : first_place columns places ≡ Some i) where
  first_time : option_map (λ (d : Column). d.kind) (slice_get places i) ≡ Some kind.Time
  first_time = first_kind columns places time kinds i at

  group_time : (group : List Lit) → (length group == length places) ≡ true → find (is_mismatch moment) (zip places group) ≡ None → find (is_outside columns moment) (zip places group) ≡ None
      → is_before edge (time_at moment group (Some i)) ≡ false → edge * DAY_RANGE ≤ time_from (unwrap_or (time_at moment group (Some i)) (pos 0))
  group_time group long mismatch outside before = by (slice_get places i) refl first_time (slice_get group i) refl before
    where
      by : (o : Option Column) → slice_get places i ≡ o → option_map (λ (d : Column). d.kind) o ≡ Some kind.Time → (q : Option Lit) → slice_get group i ≡ q → is_before edge (option_and_then (number_at kind.Time moment) q) ≡ false
          → edge * DAY_RANGE ≤ time_from (unwrap_or (option_and_then (number_at kind.Time moment) q) (pos 0))
      by None here k q there b = absurd (cc)
      by (Some d) here k None there b =
          let within : i < length places = slice_get_within places i d here in
          let missing : length group ≤ i = past_end group i there in
          absurd (apart (length group) (length places) i long within missing)
      by (Some d) here k (Some l) there b =
          let is : d.kind ≡ kind.Time = same_Some d.kind kind.Time k in
          let suit : suits kind.Time moment l ≡ true = subst (λ (k : Kind). suits k moment l ≡ true) is (not_false (suits d.kind moment l) (at_pair (is_mismatch moment) places group i d l mismatch here there)) in
          let both = not_outside (is_first columns d.name && is_null l) (fits d.kind moment l) (at_pair (is_outside columns moment) places group i d l outside here there) in
          let fit : fits kind.Time moment l ≡ true = subst (λ (k : Kind). fits k moment l ≡ true) is both.1 in
          let first : is_first columns d.name ≡ true = first_named columns places i d at here in
          let null : is_null l ≡ false = only (is_first columns d.name) (is_null l) first both.0 in
          time_read edge moment l suit fit null b

  good_put : (group : List Lit) → (length group == length places) ≡ true → find (is_mismatch moment) (zip places group) ≡ None → find (is_outside columns moment) (zip places group) ≡ None
      → is_before edge (time_at moment group (first_place columns places)) ≡ false → GoodPut c edge (put_of number columns places moment group)
  good_put group long mismatch outside before =
      let Of : List Column → Type 0 = λ cs. AllZip (λ (k : Column) (v : Option Value). is_named_of k.kind v ≡ true) (drop 1 cs) (put_of number columns places moment group).cells in
      record {
        put = record {
          key = record { from_one = there.0; there = there.1; time = time_fits (unwrap_or (time_at moment group (first_place columns places)) (pos 0)) };
          cells = subst Of of (group_cells moment columns places group kinds outside);
        };
        late = subst (λ (o : Option ℕ). edge * DAY_RANGE ≤ time_from (unwrap_or (time_at moment group o) (pos 0))) (sym at)
            (group_time group long mismatch outside (ap (λ (o : Option ℕ). is_before edge (time_at moment group o)) (sym at) ∙ before));
      }

  good_puts : (groups : List (List Lit)) → AllByRecursion (λ g. not (length g == length places) ≡ false) groups → AllByRecursion (λ g. first_column (is_mismatch moment) places g ≡ None) groups
      → AllByRecursion (λ g. first_column (is_outside columns moment) places g ≡ None) groups → AllByRecursion (λ g. is_before edge (time_at moment g (first_place columns places)) ≡ false) groups
      → AllByRecursion (GoodPut c edge) (map (put_of number columns places moment) groups)
  good_puts [] long mismatch outside before = tt
  good_puts (g ∷ gs) long mismatch outside before = (
    good_put g (not_false (length g == length places) long.0) (none_found (is_mismatch moment) places g mismatch.0) (none_found (is_outside columns moment) places g outside.0) before.0,
    good_puts gs long.1 mismatch.1 outside.1 before.1,
  )

-- what an INSERT is accepted as
Good : Catalog → ℕ → What → Type 0
Good c edge w = CanFollow w c × IsFromEdge edge w

insert_good : (table : List ℕ) (names : Option (List (List ℕ))) (groups : List (List Lit)) (edge moment : ℕ) (c : Catalog) (w : What) (n : ℕ) → IsValid c → insert_verdict table names groups edge moment c ≡ Accept w n → Good c edge w
unfolding Good
insert_good table names groups edge moment c w n valid h =
    let columns : List Column = (table_schema (table_named table c) c).columns in
    let places : List Column = chosen columns names in
    let number : ℕ = number_or_none (table_named table c) in
    let before : Option Cause = first_cause (written_cause table c ∷ list_cause columns names ∷ []) in
    let parts = refused_first before (groups_verdict number columns places groups edge moment) w n h in
    let no_written : written_cause table c ≡ None = first_none (written_cause table c) (list_cause columns names ∷ []) parts.0 in
    let no_list : list_cause columns names ≡ None = second_none (written_cause table c) (list_cause columns names) [] parts.0 in
    let made : What = what.Put (map (put_of number columns places moment) groups) in
    let no_groups : groups_cause columns places groups edge moment ≡ None = no_cause (groups_cause columns places groups edge moment) made w (length groups) n parts.1 in
    let found = written table c no_written in
    let there : IsNumbered number (length c.tables) = subst (λ (o : Option ℕ). IsNumbered (number_or_none o) (length c.tables)) (sym found.1) (table_numbered table c found.0 found.1) in
    let of : columns ≡ (table_schema (Some number) c).columns = ap (λ (o : Option ℕ). (table_schema o c).columns) found.1 ∙ sym (ap (λ (o : Option ℕ). (table_schema (Some (number_or_none o)) c).columns) found.1) in
    let schema : IsSchema columns (table_schema (table_named table c) c).tags = subst (λ (o : Option ℕ). IsSchema (table_schema o c).columns (table_schema o c).tags) (sym found.1) (schema_of_table c valid found.0 (table_numbered table c found.0 found.1)) in
    let kinds : HasKinds columns places = any_kinds columns names (apart_first (names_of columns) (names_of (table_schema (table_named table c) c).tags) schema.apart) in
    let lacking : lacks_first columns names ≡ false = not_when (lacks_first columns names) cause.NeedsTime (second_none (when (stands_twice (listed names)) cause.NameTaken) (when (lacks_first columns names) cause.NeedsTime) (when (list_any (λ name. is_none (column_named columns name)) (listed names)) cause.UnknownColumn ∷ []) no_list) in
    let place = first_placed columns names schema.time lacking in
    let arity = when (list_any (λ group. not (length group == length places)) groups) cause.Arity in
    let mismatch = mismatch_of (first_given (first_column (is_mismatch moment) places) groups) in
    let outside = outside_of (first_given (first_column (is_outside columns moment) places) groups) in
    let rows = rows_cause columns places groups edge moment in
    let many_rows = when (nat_lt INSERT_ROWS (length groups)) (cause.TooMany many.Rows INSERT_ROWS) in
    let early = when (list_any (λ group. is_before edge (time_at moment group (first_place columns places))) groups) (cause.BeforeEdge edge) in
    let no_rows : rows ≡ None = first_none rows [] (rest_none outside (rows ∷ []) (rest_none mismatch (outside ∷ rows ∷ []) (rest_none arity (mismatch ∷ outside ∷ rows ∷ []) no_groups))) in
    let goods : AllByRecursion (GoodPut c edge) (map (put_of number columns places moment) groups) =
    good_puts moment edge number columns places c there of schema.time kinds place.0 place.1 groups
    (none_any (λ group. not (length group == length places)) groups (not_when (list_any (λ group. not (length group == length places)) groups) cause.Arity (first_none arity (mismatch ∷ outside ∷ rows ∷ []) no_groups)))
    (none_given (first_column (is_mismatch moment) places) groups (no_mismatch (first_given (first_column (is_mismatch moment) places) groups) (second_none arity mismatch (outside ∷ rows ∷ []) no_groups)))
    (none_given (first_column (is_outside columns moment) places) groups (no_outside (first_given (first_column (is_outside columns moment) places) groups) (third_none arity mismatch outside (rows ∷ []) no_groups)))
    (none_any (λ group. is_before edge (time_at moment group (first_place columns places))) groups (not_when (list_any (λ group. is_before edge (time_at moment group (first_place columns places))) groups) (cause.BeforeEdge edge) (second_none many_rows early [] no_rows))) in
    subst (λ v. CanFollow v c × IsFromEdge edge v) (accepted (groups_cause columns places groups edge moment) made w (length groups) n parts.1) (
      All-from_recursion (IsPut c) (map (put_of number columns places moment) groups) (all_weaker (GoodPut c edge) (IsPut c) (λ p g. g.put) (map (put_of number columns places moment) groups) goods),
      All-from_recursion (λ (p : Put). edge * DAY_RANGE ≤ p.key.ts) (map (put_of number columns places moment) groups) (all_weaker (GoodPut c edge) (λ (p : Put). edge * DAY_RANGE ≤ p.key.ts) (λ p g. g.late) (map (put_of number columns places moment) groups) goods),
    )

-- what a DELETE is accepted as
cut_good : (b : Bool) (table : ℕ) (lo hi : ℤ) (c : Catalog) → IsNumbered table (length c.tables) → CanFollow (cond b (what.Cut table 1 0) (what.Cut table (time_from lo) (time_from hi))) c
cut_good true table lo hi c there = record { from_one = there.0; there = there.1; first = omega arith; last = omega arith }
cut_good false table lo hi c there = record { from_one = there.0; there = there.1; first = time_fits lo; last = time_fits hi }

cut_edge : (b : Bool) (edge table : ℕ) (lo hi : ℤ) → IsFromEdge edge (cond b (what.Cut table 1 0) (what.Cut table (time_from lo) (time_from hi)))
cut_edge true edge table lo hi = tt
cut_edge false edge table lo hi = tt

delete_good : (table column : List ℕ) (lo hi : Lit) (edge moment : ℕ) (c : Catalog) (w : What) (n : ℕ) → delete_verdict table column lo hi moment c ≡ Accept w n → Good c edge w
unfolding Good
delete_good table column lo hi edge moment c w n h =
    let columns : List Column = (table_schema (table_named table c) c).columns in
    let number : ℕ = number_or_none (table_named table c) in
    let low : ℤ = int_max (bound_of moment lo) (pos 0) in
    let high : ℤ = int_min (bound_of moment hi) (pos LAST_TIMESTAMP) in
    let made : What = cut_of number (bound_of moment lo) (bound_of moment hi) in
    let why : Option Cause = delete_cause table columns column lo hi moment c in
    let none : why ≡ None = no_cause why made w 0 n h in
    let no_written : written_cause table c ≡ None = first_none (written_cause table c) (when (not (is_first columns column)) cause.NeedsTime ∷ bad_bound column moment lo ∷ bad_bound column moment hi ∷ []) none in
    let found = written table c no_written in
    let there : IsNumbered number (length c.tables) = subst (λ (o : Option ℕ). IsNumbered (number_or_none o) (length c.tables)) (sym found.1) (table_numbered table c found.0 found.1) in
    subst (λ v. CanFollow v c × IsFromEdge edge v) (accepted why made w 0 n h) (cut_good (int_lt high low) number low high c there, cut_edge (int_lt high low) edge number low high)

-- ---- all

defined_edge : (edge : ℕ) (o : Option Cause) (made w : What) (m n : ℕ) → IsFromEdge edge made → accepted_or o made m ≡ Accept w n → IsFromEdge edge w
defined_edge edge o made w m n is h = subst (IsFromEdge edge) (accepted o made w m n h) is

stable_edge : (name : List ℕ) (columns : List Column) (tags : Option (List Column)) (c : Catalog) (edge : ℕ) (w : What) (n : ℕ) → make_stable_verdict name columns tags c ≡ Accept w n → IsFromEdge edge w
stable_edge name columns None c edge w n h = absurd (cc)
stable_edge name columns (Some tags) c edge w n h = defined_edge edge (definition_cause name columns tags c) (what.MakeStable name (record { columns = columns; tags = tags })) w 0 n tt h

-- whatever a write that is built is accepted as may come after the catalog, and has no row before the edge
pub accepted_good : (q : Stmt) (c : Catalog) (edge moment : ℕ) (w : What) (n : ℕ) → IsValid c → write_verdict q c edge moment ≡ Accept w n → CanFollow w c × IsFromEdge edge w
unfolding Good
accepted_good (stmt.MakeStable name columns tags) c edge moment w n valid h = (stable_follows name columns tags c w n h, stable_edge name columns tags c edge w n h)
accepted_good (stmt.MakeTable name columns) c edge moment w n valid h = (table_follows name columns c w n h, defined_edge edge (definition_cause name columns [] c) (what.MakeTable name columns) w 0 n tt h)
accepted_good (stmt.MakeSub name stable lits) c edge moment w n valid h =
    let tags : List Column = (stable_schema (stable_named stable c) c).tags in
    (sub_follows name stable lits moment c w n h, defined_edge edge (make_sub_cause name stable tags lits moment c) (what.MakeSub name (number_or_none (stable_named stable c)) (tag_cells moment tags lits)) w 0 n tt h)
accepted_good (stmt.Insert table names groups) c edge moment w n valid h = insert_good table names groups edge moment c w n valid h
accepted_good (stmt.Delete table column lo hi) c edge moment w n valid h = delete_good table column lo hi edge moment c w n h
accepted_good stmt.Trim c edge moment w n valid h =
    let made : What = what.Edge (max edge ((moment - KEEP) / DAY_RANGE)) in
    (plain_follows None made 0 c w n tt h, subst (IsFromEdge edge) (accepted None made w 0 n h) (omega arith))
accepted_good (stmt.DropStream name) c edge moment w n valid h =
    let why : Option Cause = when (not (is_stream name c)) cause.UnknownStream in
    let made : What = what.DropStream (number_or_none (stream_named name c)) in
    (plain_follows why made 0 c w n tt h, defined_edge edge why made w 0 n tt h)
accepted_good (stmt.MakeStream def) c edge moment w n valid h = absurd (cc)
accepted_good (stmt.Wrong why) c edge moment w n valid h = absurd (cc)
accepted_good (stmt.Select query) c edge moment w n valid h = absurd (cc)
accepted_good (stmt.OpenCursor cursor query) c edge moment w n valid h = absurd (cc)
accepted_good (stmt.Fetch cursor rows) c edge moment w n valid h = absurd (cc)
accepted_good (stmt.CloseCursor cursor) c edge moment w n valid h = absurd (cc)
accepted_good stmt.Commit c edge moment w n valid h = absurd (cc)
accepted_good stmt.Merge c edge moment w n valid h = absurd (cc)
accepted_good stmt.Sweep c edge moment w n valid h = absurd (cc)
accepted_good (stmt.Step stream) c edge moment w n valid h = absurd (cc)

-- an answer that is the verdict
pub answer_follows : (q : Stmt) (c : Catalog) (edge moment : ℕ) (answer : Result (What × ℕ) Cause) → IsValid c → verdict_of answer ≡ write_verdict q c edge moment → IfOk answer (λ a. CanFollow a.0 c)
answer_follows q c edge moment (Ok a) valid h = (accepted_good q c edge moment a.0 a.1 valid (sym h)).0
answer_follows q c edge moment (Err cause) valid h = tt

pub answer_edge : (q : Stmt) (c : Catalog) (edge moment : ℕ) (answer : Result (What × ℕ) Cause) → IsValid c → verdict_of answer ≡ write_verdict q c edge moment → IfOk answer (λ a. IsFromEdge edge a.0)
answer_edge q c edge moment (Ok a) valid h = (accepted_good q c edge moment a.0 a.1 valid (sym h)).1
answer_edge q c edge moment (Err cause) valid h = tt

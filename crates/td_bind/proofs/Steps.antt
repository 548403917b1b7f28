-- A sound state stays sound as an entry that can follow it is made.
use Rattle.std.proofs.Common.{◌≡◌, inl, inr, ℕ, ◌+◌, ◌-◌, ◌*◌, ◌≤◌, nat_le, Bool, true, false, not, cond, List, [], ◌∷◌, ◌++◌, filter, drop, length, slice_get, Option, Some, None, All, refl, sym, ap, subst, ◌∙◌, arith, length-append}
use Rattle.std.specs.List.{AllByRecursion, AllZip}
use Rattle.std.specs.BTreeMap.{is_at}
use Rattle.std.specs.Option.{option_map, unwrap_or}
use Rattle.std.specs.Ordering.{match_ordering, is_eq}
use Rattle.std.specs.declared.cmp.Ordering.{Ordering}
use Rattle.std.specs.declared.cmp.Ordering.TheVariants.{Less, Equal, Greater}
use Rattle.std.proofs.lemmas.Bool.{leb-true}
use Rattle.std.proofs.lemmas.Bool.Decides.{nat_tests}
use Rattle.std.proofs.lemmas.List.Elements.{All-filter, All-from_recursion, All-get_or, All-weaker, filter_passes, recursion_from_All}
use Rattle.std.proofs.lemmas.Option.{same_Some, slice_get_cases, slice_get_within, get_or_from_slice_get}
use Rattle.td_limits.specs.declared.limits.TheConstants.{DAY_RANGE}
use Rattle.td_layer.specs.declared.values.Key.{Key}
use Rattle.td_layer.specs.declared.values.Row.{Row}
use Rattle.td_layer.specs.declared.values.Value.{Value}
use Rattle.td_layer.specs.Parts.{over}
use Rattle.td_model.specs.declared.catalog.Column.{Column}
use Rattle.td_model.specs.declared.catalog.Schema.{Schema}
use Rattle.td_model.specs.declared.catalog.StableDef.{StableDef}
use Rattle.td_model.specs.declared.catalog.TableDef.{TableDef}
use Rattle.td_model.specs.declared.history.Entry.{Entry}
use Rattle.td_model.specs.declared.history.Put.{Put}
use Rattle.td_model.specs.declared.history.What.{What}
use Rattle.td_model.specs.declared.history.What.TheVariants as what
use Rattle.td_model.specs.Catalog.{Catalog, table_at, schema_of, schema_by, schema_or_none, no_schema, with_what}
use Rattle.td_model.specs.State.{State, Rows, key_cmp, row_at, with_row, lay, is_cut, parent_of, latest_raised, row_put, put_one, put_all, effect, newest, step, trail, after}
use Rattle.td_catalog.specs.Kept.{CanFollow}
use Rattle.td_catalog.proofs.After.{effect-catalog, puts-keep}
use Rattle.td_catalog.proofs.Valid.{follows_valid, slice_left}
use Rattle.td_verdict.specs.Sound.{IsFromEdge, IsPut, IsRow, IsSound, is_named_of, is_value_of, value_columns}
use Rattle.td_verdict.specs.Valid.{IsTable, IsTableBy, IsValid}
use Rattle.td_bind.specs.Legal.{IsAccepted, IsLegal}
use Rattle.td_bind.proofs.Follows.{accepted_good}

-- ---- values of a row that a put was laid over

OfColumns : List Column → List Value → Type 0
OfColumns cs vs = AllZip (λ (k : Column) (v : Value). is_value_of k.kind v ≡ true) cs vs

new_values : (cs : List Column) (cells : List (Option Value)) → AllZip (λ (k : Column) (v : Option Value). is_named_of k.kind v ≡ true) cs cells → AllZip (λ (k : Column) (v : Value). is_value_of k.kind v ≡ true) cs (over cells [])
new_values [] [] h = tt
new_values [] (v ∷ cells) h = absurd h
new_values (c ∷ cs) [] h = absurd h
new_values (c ∷ cs) (Some v ∷ cells) h = (h.0, new_values cs cells h.1)
new_values (c ∷ cs) (None ∷ cells) h = (refl, new_values cs cells h.1)

laid_values : (cs : List Column) (cells : List (Option Value)) (vs : List Value) → AllZip (λ (k : Column) (v : Option Value). is_named_of k.kind v ≡ true) cs cells → AllZip (λ (k : Column) (v : Value). is_value_of k.kind v ≡ true) cs vs
    → AllZip (λ (k : Column) (v : Value). is_value_of k.kind v ≡ true) cs (over cells vs)
laid_values [] [] vs h k = tt
laid_values [] (v ∷ cells) vs h k = absurd h
laid_values (c ∷ cs) [] vs h k = absurd h
laid_values (c ∷ cs) (Some v ∷ cells) [] h k = absurd k
laid_values (c ∷ cs) (None ∷ cells) [] h k = absurd k
laid_values (c ∷ cs) (Some v ∷ cells) (w ∷ vs) h k = (h.0, laid_values cs cells vs h.1 k.1)
laid_values (c ∷ cs) (None ∷ cells) (w ∷ vs) h k = (k.0, laid_values cs cells vs h.1 k.1)

-- ---- rows by key

table_of_tied : (a b : Key) → key_cmp a b ≡ Equal → a.table ≡ b.table
table_of_tied a b h = grind (arith, nat_tests)

time_of_tied : (a b : Key) → key_cmp a b ≡ Equal → a.ts ≡ b.ts
time_of_tied a b h = grind (arith, nat_tests)

tied : (a b : Key) → key_cmp a b ≡ Equal → a ≡ b
tied a b h = λ i. record { table = table_of_tied a b h i; ts = time_of_tied a b h i }

-- what holds of each row holds of each with one more
put_holds : (P : Key × Row → Type 0) (key : Key) (row : Row) (rows : Rows) → P (key, row) → AllByRecursion P rows → AllByRecursion P (with_row key row rows)
put_holds P key row [] h all = (h, tt)
put_holds P key row (e ∷ es) h all = by (key_cmp key e.0) refl (put_holds P key row es h all.1)
  where
    by : (o : Ordering) → key_cmp key e.0 ≡ o → AllByRecursion P (with_row key row es) → AllByRecursion P (match_ordering o ((key, row) ∷ e ∷ es) ((e.0, row) ∷ es) (e ∷ with_row key row es))
    by Less is rest = (h, all)
    by Equal is rest = (subst (λ (k : Key). P (k, row)) (tied key e.0 is) h, all.1)
    by Greater is rest = (all.0, rest)

equal_so : (o : Ordering) → is_eq o ≡ true → o ≡ Equal
equal_so Less h = absurd (cc)
equal_so Equal h = refl
equal_so Greater h = absurd (cc)

-- and of the row that a key has
had_holds : (P : Key × Row → Type 0) (key : Key) (rows : Rows) (row : Row) → AllByRecursion P rows → row_at key rows ≡ Some row → P (key, row)
had_holds P key [] row all h = absurd (cc)
had_holds P key (e ∷ es) row all h = by (is_at (key_cmp key) e.0) refl h (had_holds P key es row all.1)
  where
    by : (b : Bool) → is_at (key_cmp key) e.0 ≡ b → cond b (Some e.1) (row_at key es) ≡ Some row → (row_at key es ≡ Some row → P (key, row)) → P (key, row)
    by true is k rest =
        let same : key ≡ e.0 = tied key e.0 (equal_so (key_cmp key e.0) is) in
        subst (λ (x : Key). P (x, row)) (sym same) (subst (λ (r : Row). P (e.0, r)) (same_Some e.1 row k) all.0)
    by false is k rest = rest k

laid_row : (c : Catalog) (moment : ℕ) (p : Put) (rows : Rows) → IsPut c p → AllByRecursion (IsRow c) rows → IsRow c (p.key, lay p.cells moment (row_at p.key rows))
laid_row c moment p rows put all = by (row_at p.key rows) refl
  where
    by : (o : Option Row) → row_at p.key rows ≡ o → IsRow c (p.key, lay p.cells moment o)
    by None is = record { key = put.key; values = new_values (value_columns p.key.table c) p.cells put.cells }
    by (Some row) is =
        let had : IsRow c (p.key, row) = had_holds (IsRow c) p.key rows row all is in
        record { key = put.key; values = laid_values (value_columns p.key.table c) p.cells row.values put.cells had.values }

-- ---- puts

raised_rows : (o : Option ℕ) (key : Key) (s : State) → (latest_raised o key s).rows ≡ s.rows
raised_rows None key s = refl
raised_rows (Some stable) key s = refl

raised_catalog : (o : Option ℕ) (key : Key) (s : State) → (latest_raised o key s).catalog ≡ s.catalog
raised_catalog None key s = refl
raised_catalog (Some stable) key s = refl

raised_edge : (o : Option ℕ) (key : Key) (s : State) → (latest_raised o key s).edge ≡ s.edge
raised_edge None key s = refl
raised_edge (Some stable) key s = refl

puts_edge : (ps : List Put) (s : State) → (put_all ps s).edge ≡ s.edge
puts_edge [] s = refl
puts_edge (p ∷ ps) s = puts_edge ps (put_one p s) ∙ raised_edge (parent_of (table_at p.key.table s.catalog)) p.key (row_put p s)

puts_rows : (c : Catalog) (ps : List Put) (s : State) → s.catalog ≡ c → AllByRecursion (IsPut c) ps → AllByRecursion (IsRow c) s.rows → AllByRecursion (IsRow c) (put_all ps s).rows
puts_rows c [] s same puts rows = rows
puts_rows c (p ∷ ps) s same puts rows =
    let parent = parent_of (table_at p.key.table s.catalog) in
    puts_rows c ps (put_one p s) (raised_catalog parent p.key (row_put p s) ∙ same) puts.1
    (subst (AllByRecursion (IsRow c)) (sym (raised_rows parent p.key (row_put p s))) (put_holds (IsRow c) p.key (lay p.cells s.moment (row_at p.key s.rows)) s.rows (laid_row c s.moment p s.rows puts.0 rows) rows))

puts_late : (edge : ℕ) (ps : List Put) (s : State) → AllByRecursion (λ (p : Put). edge * DAY_RANGE ≤ p.key.ts) ps → AllByRecursion (λ (e : Key × Row). edge * DAY_RANGE ≤ e.0.ts) s.rows → AllByRecursion (λ (e : Key × Row). edge * DAY_RANGE ≤ e.0.ts) (put_all ps s).rows
puts_late edge [] s puts rows = rows
puts_late edge (p ∷ ps) s puts rows =
    let parent = parent_of (table_at p.key.table s.catalog) in
    puts_late edge ps (put_one p s) puts.1
    (subst (AllByRecursion (λ (e : Key × Row). edge * DAY_RANGE ≤ e.0.ts)) (sym (raised_rows parent p.key (row_put p s))) (put_holds (λ (e : Key × Row). edge * DAY_RANGE ≤ e.0.ts) p.key (lay p.cells s.moment (row_at p.key s.rows)) s.rows puts.0 rows))

-- ---- a catalog that grows

record Grows (c d : Catalog) : Type 0 where
  tables : List TableDef
  stables : List StableDef
  more_tables : d.tables ≡ c.tables ++ tables
  more_stables : d.stables ≡ c.stables ++ stables

schema_stays : (c d : Catalog) → Grows c d → (t : TableDef) (parent : Option ℕ) → IsTableBy c t parent → schema_by d parent t.columns ≡ schema_by c parent t.columns
schema_stays c d grows t None is = refl
schema_stays c d grows t (Some stable) is =
    let one : 1 ≤ stable = is.0 in
    let le : stable ≤ length c.stables = is.1 in
    ap schema_or_none (ap (λ (l : List StableDef). slice_get l (stable - 1)) grows.more_stables ∙ slice_left c.stables grows.stables (stable - 1) (omega arith))

at_place : {X : Type 0} (P : X → Type 0) (xs : List X) (i : ℕ) (x : X) → All P xs → slice_get xs i ≡ Some x → P x
at_place P xs i x all at = subst P (get_or_from_slice_get xs i x x at) (All-get_or P xs i x (slice_get_within xs i x at) all)

columns_stay : (c d : Catalog) → IsValid c → Grows c d → (n : ℕ) → 1 ≤ n → n ≤ length c.tables → value_columns n d ≡ value_columns n c
columns_stay c d valid grows n one le =
    let at : table_at n d ≡ table_at n c = ap (λ (l : List TableDef). slice_get l (n - 1)) grows.more_tables ∙ slice_left c.tables grows.tables (n - 1) (omega arith) in
    elim ((slice_get_cases c.tables (n - 1)).1) [
      | inl w ↦ (
          let t : TableDef = w.0 in
          let is : IsTable c t = at_place (IsTable c) c.tables (n - 1) t valid.tables w.2 in
          ap (λ o. drop 1 (unwrap_or (option_map (schema_of d) o) no_schema).columns) (at ∙ w.2)
          ∙ ap (λ (s : Schema). drop 1 s.columns) (schema_stays c d grows t t.parent is)
          ∙ ap (λ o. drop 1 (unwrap_or (option_map (schema_of c) o) no_schema).columns) (sym w.2))
      | inr w ↦ absurd (omega (arith, w.0))
    ]

row_stays : (c d : Catalog) → IsValid c → Grows c d → (e : Key × Row) → IsRow c e → IsRow d e
row_stays c d valid grows e is =
    let one : 1 ≤ e.0.table = is.key.from_one in
    let le : e.0.table ≤ length c.tables = is.key.there in
    let long : length d.tables ≡ length c.tables + length grows.tables = ap length grows.more_tables ∙ length-append c.tables grows.tables in
    record {
      key = record { from_one = one; there = omega arith; time = is.key.time };
      values = subst (λ (cs : List Column). AllZip (λ (k : Column) (v : Value). is_value_of k.kind v ≡ true) cs e.1.values) (sym (columns_stay c d valid grows e.0.table one le)) is.values;
    }

rows_stay : (c d : Catalog) → IsValid c → Grows c d → (rows : Rows) → All (IsRow c) rows → All (IsRow d) rows
rows_stay c d valid grows rows = All-weaker (IsRow c) (IsRow d) (λ e is. row_stays c d valid grows e is) rows

append_nil : {X : Type 0} (xs : List X) → xs ++ [] ≡ xs
append_nil [] = refl
append_nil (x ∷ xs) = ap (λ l. x ∷ l) (append_nil xs)

grown : (c : Catalog) (tables : List TableDef) (stables : List StableDef) (d : Catalog) → d.tables ≡ c.tables ++ tables → d.stables ≡ c.stables ++ stables → Grows c d
grown c tables stables d t s = record { tables = tables; stables = stables; more_tables = t; more_stables = s }

-- ---- a step

-- the rows and the edge of a state after an entry
record Stays (s t : State) : Type 0 where
  rows : All (IsRow t.catalog) t.rows
  edge : All (λ (e : Key × Row). t.edge * DAY_RANGE ≤ e.0.ts) t.rows

late_rows : (edge : ℕ) (rows : Rows) → All (λ (e : Key × Row). edge * DAY_RANGE ≤ e.0.ts) (filter (λ e. nat_le (edge * DAY_RANGE) e.0.ts) rows)
late_rows edge rows = All-weaker (λ (e : Key × Row). nat_le (edge * DAY_RANGE) e.0.ts ≡ true) (λ (e : Key × Row). edge * DAY_RANGE ≤ e.0.ts) (λ e h. leb-true (edge * DAY_RANGE) e.0.ts h) (filter (λ e. nat_le (edge * DAY_RANGE) e.0.ts) rows) (filter_passes (λ (e : Key × Row). nat_le (edge * DAY_RANGE) e.0.ts) rows)

effect_stays : (past : List State) (w : What) (s : State) → IsValid s.catalog → All (IsRow s.catalog) s.rows → All (λ (e : Key × Row). s.edge * DAY_RANGE ≤ e.0.ts) s.rows → CanFollow w s.catalog → IsFromEdge s.edge w → Stays s (effect past w s)
effect_stays past (what.MakeStable name schema) s valid rows edge can from =
    let d = with_what (what.MakeStable name schema) s.catalog in
    record { rows = rows_stay s.catalog d valid (grown s.catalog [] (record { name = name; schema = schema } ∷ []) d (sym (append_nil s.catalog.tables)) refl) s.rows rows; edge = edge }
effect_stays past (what.MakeTable name columns) s valid rows edge can from =
    let d = with_what (what.MakeTable name columns) s.catalog in
    record { rows = rows_stay s.catalog d valid (grown s.catalog (record { name = name; parent = None; columns = columns; tags = [] } ∷ []) [] d refl (sym (append_nil s.catalog.stables))) s.rows rows; edge = edge }
effect_stays past (what.MakeSub name stable tags) s valid rows edge can from =
    let d = with_what (what.MakeSub name stable tags) s.catalog in
    record { rows = rows_stay s.catalog d valid (grown s.catalog (record { name = name; parent = Some stable; columns = []; tags = tags } ∷ []) [] d refl (sym (append_nil s.catalog.stables))) s.rows rows; edge = edge }
effect_stays past (what.MakeStream def) s valid rows edge can from =
    let d = with_what (what.MakeStream def) s.catalog in
    record { rows = rows_stay s.catalog d valid (grown s.catalog [] [] d (sym (append_nil s.catalog.tables)) (sym (append_nil s.catalog.stables))) s.rows rows; edge = edge }
effect_stays past (what.DropStream n) s valid rows edge can from =
    let d = with_what (what.DropStream n) s.catalog in
    record { rows = rows_stay s.catalog d valid (grown s.catalog [] [] d (sym (append_nil s.catalog.tables)) (sym (append_nil s.catalog.stables))) s.rows rows; edge = edge }
effect_stays past (what.Put puts) s valid rows edge can from =
    let t = put_all puts s in
    let all = puts_rows s.catalog puts s refl (recursion_from_All (IsPut s.catalog) puts can) (recursion_from_All (IsRow s.catalog) s.rows rows) in
    let late = puts_late s.edge puts s (recursion_from_All (λ (p : Put). s.edge * DAY_RANGE ≤ p.key.ts) puts from) (recursion_from_All (λ (e : Key × Row). s.edge * DAY_RANGE ≤ e.0.ts) s.rows edge) in
    record {
      rows = subst (λ (c : Catalog). All (IsRow c) t.rows) (sym (puts-keep puts s)) (All-from_recursion (IsRow s.catalog) t.rows all);
      edge = subst (λ (n : ℕ). All (λ (e : Key × Row). n * DAY_RANGE ≤ e.0.ts) t.rows) (sym (puts_edge puts s)) (All-from_recursion (λ (e : Key × Row). s.edge * DAY_RANGE ≤ e.0.ts) t.rows late);
    }
effect_stays past (what.Cut table lo hi) s valid rows edge can from = record {
  rows = All-filter (λ e. not (is_cut table lo hi e.0)) (IsRow s.catalog) s.rows rows;
  edge = All-filter (λ e. not (is_cut table lo hi e.0)) (λ (e : Key × Row). s.edge * DAY_RANGE ≤ e.0.ts) s.rows edge;
}
effect_stays past (what.Edge next) s valid rows edge can from = record {
  rows = All-filter (λ e. nat_le (next * DAY_RANGE) e.0.ts) (IsRow s.catalog) s.rows rows;
  edge = late_rows next s.rows;
}
effect_stays past (what.Step stream upto moment) s valid rows edge can from = record { rows = rows; edge = edge }
effect_stays past what.Halt s valid rows edge can from = record { rows = rows; edge = edge }

pub step_sound : (past : List State) (e : Entry) → IsSound (newest past) → CanFollow e.what (newest past).catalog → IsFromEdge (newest past).edge e.what → IsSound (step past e)
step_sound past e sound can from =
    let s : State = record (newest past) { version = (newest past).version + 1; moment = e.moment } in
    let stays = effect_stays past e.what s sound.catalog sound.rows sound.edge can from in
    record {
      catalog = subst IsValid (sym (effect-catalog past e.what s)) (follows_valid e.what (newest past).catalog sound.catalog can);
      rows = stays.rows;
      edge = stays.edge;
    }

-- ---- histories

accepted_sound : (past : List State) (e : Entry) → IsSound (newest past) → IsAccepted (newest past) e → IsSound (step past e)
accepted_sound past e sound (inl write) =
    let good = accepted_good write.0 (newest past).catalog (newest past).edge e.moment e.what write.1 sound.catalog write.2 in
    step_sound past e sound good.0 good.1
accepted_sound past e sound (inr halt) =
    step_sound past e sound (subst (λ w. CanFollow w (newest past).catalog) (sym halt) tt) (subst (IsFromEdge (newest past).edge) (sym halt) tt)

trail_sound : (past : List State) (h : List Entry) → IsSound (newest past) → IsLegal past h → IsSound (newest (trail past h))
trail_sound past [] sound legal = sound
trail_sound past (e ∷ h) sound legal = trail_sound (step past e ∷ past) h (accepted_sound past e sound legal.0) legal.1

pub history_sound : (b : State) (h : List Entry) → IsSound b → IsLegal (b ∷ []) h → IsSound (after b h)
history_sound b h sound legal = trail_sound (b ∷ []) h sound legal

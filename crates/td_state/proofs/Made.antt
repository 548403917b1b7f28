-- The state that the supertables and tables of a head make, one by one.
use Rattle.std.proofs.Common.{◌≡◌, ℕ, zero, suc, ◌+◌, ◌-◌, ◌<◌, ◌≤◌, false, List, [], ◌∷◌, ◌++◌, map, take, get_or, length, Option, Some, None, refl, sym, ap, subst, ◌∙◌, arith, length-append}
use Rattle.std.specs.Prelude.{slice_get, slice_set}
use Rattle.std.specs.List.{AllZip, list_any}
use Rattle.std.specs.Option.{option_map_or}
use Rattle.std.specs.Str.{bytes_eq}
use Rattle.std.proofs.lemmas.Bool.{and_parts, or_parts}
use Rattle.std.proofs.lemmas.List.{map_push, length-map, length-take-le, take_more}
use Rattle.std.proofs.lemmas.List.Folds.{list_any-append}
use Rattle.std.proofs.lemmas.Option.{same_Some, slice_get_read}
use Rattle.std.proofs.lemmas.Slice.Zip.{AllZip-long}
use Rattle.td_limits.specs.declared.limits.TheConstants.{TABLES}
use Rattle.td_model.specs.declared.catalog.Column.{Column}
use Rattle.td_model.specs.declared.catalog.StableDef.{StableDef}
use Rattle.td_model.specs.declared.catalog.TableDef.{TableDef}
use Rattle.td_model.specs.declared.catalog.Schema.{Schema}
use Rattle.td_model.specs.declared.history.What.TheVariants as what
use Rattle.td_model.specs.Catalog.{Catalog, schema_or_none}
use Rattle.td_model.specs.State.{State, step}
use Rattle.td_catalog.specs.Kept.{IsFree}
use Rattle.td_verdict.specs.Valid.{AreTags}
use Rattle.td_manifest.specs.declared.head.HeadStable.{HeadStable}
use Rattle.td_manifest.specs.declared.head.HeadTable.{HeadTable}
use Rattle.td_manifest.specs.declared.head.HeadTable.TheVariants as tables
use Rattle.td_manifest.specs.States.{stable_def, table_def, table_latest}
use Rattle.td_manifest.specs.Tables.{latest_field, schema_field, stable_items, stable_names, table_items, table_name, table_names, tags_of}
use Rattle.td_state.specs.Contents.{IsRight, Kept, state_of}
use Rattle.td_state.specs.Heads.{FitStables, FitTables, entry_making, made_of, making, with_stable, with_table}
use Rattle.td_state.specs.Held.{bare, CanTake}
use Rattle.td_state.specs.Latest.{IsInTime, IsLatestOf, with_last}
use Rattle.td_state.proofs.NamedItems.{any_named, fit_at, named_by, not_found}
use Rattle.td_state.proofs.HeadTables.{IsGood, head_stable_name, latest_from, plain_schema, schema_from, stable_good, stables_by, table_from, table_good, tables_by}

-- ---- one more

stable_one : (s : HeadStable) (ss : List HeadStable) → with_stable s (made_of ss []) ≡ made_of (ss ++ s ∷ []) []
stable_one s ss =
    let count : (length ss + 0) + 1 ≡ length (ss ++ s ∷ []) + 0 = omega (arith, length-append ss (s ∷ [])) in
    λ i. record (made_of ss []) {
      version = count i;
      catalog = record (made_of ss []).catalog { stables = sym (map_push stable_def ss s) i };
      stable_latest = sym (map_push (λ (x : HeadStable). x.latest) ss s) i;
    }

table_one : (ss : List HeadStable) (t : HeadTable) (ts : List HeadTable) → with_table t (made_of ss ts) ≡ made_of ss (ts ++ t ∷ [])
table_one ss t ts =
    let count : (length ss + length ts) + 1 ≡ length ss + length (ts ++ t ∷ []) = omega (arith, length-append ts (t ∷ [])) in
    λ i. record (made_of ss ts) {
      version = count i;
      catalog = record (made_of ss ts).catalog { tables = sym (map_push table_def ts t) i };
      table_latest = sym (map_push table_latest ts t) i;
    }

take_one : {X : Type 0} (xs : List X) (i : ℕ) (x : X) → i < length xs → x ≡ get_or xs i x → take (i + 1) xs ≡ take i xs ++ x ∷ []
take_one xs i x h e = take_more xs i x h ∙ ap (λ y. take i xs ++ y ∷ []) (sym e)

pub stable_more : (ss : List HeadStable) (i : ℕ) (s : HeadStable) (old new : State) → i < length ss → s ≡ get_or ss i s → old ≡ made_of (take i ss) [] → new ≡ with_stable s old → new ≡ made_of (take (i + 1) ss) []
stable_more ss i s old new h e is put = put ∙ ap (with_stable s) is ∙ stable_one s (take i ss) ∙ ap (λ l. made_of l []) (sym (take_one ss i s h e))

pub table_more : (ss : List HeadStable) (ts : List HeadTable) (i : ℕ) (t : HeadTable) (old new : State) → i < length ts → t ≡ get_or ts i t → old ≡ made_of ss (take i ts) → new ≡ with_table t old → new ≡ made_of ss (take (i + 1) ts)
table_more ss ts i t old new h e is put = put ∙ ap (with_table t) is ∙ table_one ss t (take i ts) ∙ ap (made_of ss) (sym (take_one ts i t h e))

-- ---- what is made may come next

stable_names_same : (ss : List HeadStable) → map (λ (s : StableDef). s.name) (map stable_def ss) ≡ stable_names ss
stable_names_same [] = refl
stable_names_same (s ∷ ss) = ap (λ l. s.name ∷ l) (stable_names_same ss)

name_same : (t : HeadTable) → (table_def t).name ≡ table_name t
name_same (tables.Plain name columns latest) = refl
name_same (tables.Sub name stable tags) = refl

table_names_same : (ts : List HeadTable) → map (λ (t : TableDef). t.name) (map table_def ts) ≡ table_names ts
table_names_same [] = refl
table_names_same (t ∷ ts) = λ i. name_same t i ∷ table_names_same ts i

free : (name : List ℕ) (ss : List HeadStable) (ts : List HeadTable) → list_any (bytes_eq name) (stable_names ss ++ table_names ts) ≡ false → IsFree name (made_of ss ts).catalog
free name ss ts none =
    let parts = or_parts (list_any (bytes_eq name) (stable_names ss)) (list_any (bytes_eq name) (table_names ts)) (sym (list_any-append (bytes_eq name) (stable_names ss) (table_names ts)) ∙ none) in
    record {
      stable = not_found (λ (s : StableDef). bytes_eq s.name name) (map stable_def ss)
          (any_named (λ (s : StableDef). s.name) name (map stable_def ss) ∙ ap (list_any (bytes_eq name)) (stable_names_same ss) ∙ parts.0);
      table = not_found (λ (t : TableDef). bytes_eq t.name name) (map table_def ts)
          (any_named (λ (t : TableDef). t.name) name (map table_def ts) ∙ ap (list_any (bytes_eq name)) (table_names_same ts) ∙ parts.1);
      target = refl;
    }

append_nil : {X : Type 0} (xs : List X) → xs ++ [] ≡ xs
append_nil [] = refl
append_nil (x ∷ xs) = ap (λ l. x ∷ l) (append_nil xs)

pub stable_takes : (ss : List HeadStable) (i : ℕ) (s : HeadStable) (old : State) → FitStables ss → i < length ss → s ≡ get_or ss i s → old ≡ made_of (take i ss) [] → CanTake (what.MakeStable s.name s.schema) old
stable_takes ss i s old fit within e is =
    let named = named_by stable_items head_stable_name [] stable_good stables_by (take i ss) s (fit_at stable_items [] ss i s (slice_get_read ss (length ss) i s refl within e) fit.each) in
    let parts = and_parts (schema_field.fits s.schema) (latest_field.fits s.latest) named.is_good in
    let long : length (take i ss) ≡ i = length-take-le i ss (omega arith) in
    let count : length (map stable_def (take i ss)) ≡ length (take i ss) = length-map (take i ss) stable_def in
    let none = ap (list_any (bytes_eq s.name)) (append_nil (stable_names (take i ss))) ∙ named.new in
    subst (CanTake (what.MakeStable s.name s.schema)) (sym is) (record {
      follows = (free s.name (take i ss) [] none, (schema_from s.schema parts.0).schema, omega (arith, fit.few, within, long, count));
      edge = tt;
      ends = tt;
      version = omega (arith, fit.few, within, long);
    })

pub stable_in_time : (ss : List HeadStable) (i : ℕ) (s : HeadStable) → FitStables ss → i < length ss → s ≡ get_or ss i s → IsInTime s.latest
stable_in_time ss i s fit within e =
    let named = named_by stable_items head_stable_name [] stable_good stables_by (take i ss) s (fit_at stable_items [] ss i s (slice_get_read ss (length ss) i s refl within e) fit.each) in
    latest_from s.latest (and_parts (schema_field.fits s.schema) (latest_field.fits s.latest) named.is_good).1

-- the tags of a supertable, as the catalog has them
tags_same : (ss : List HeadStable) (n : ℕ) → tags_of ss n ≡ (schema_or_none (slice_get (map stable_def ss) (n - 1))).tags
tags_same ss n = by ss (n - 1)
  where
    by : (ss : List HeadStable) (i : ℕ) → option_map_or (λ (s : HeadStable). s.schema.tags) (slice_get ss i) [] ≡ (schema_or_none (slice_get (map stable_def ss) i)).tags
    by [] i = refl
    by (s ∷ ss) zero = refl
    by (s ∷ ss) (suc i) = by ss i

making_takes : (ss : List HeadStable) (ts : List HeadTable) (t : HeadTable) → list_any (bytes_eq (table_name t)) (stable_names ss ++ table_names ts) ≡ false → IsGood ss t → length ss + length ts < TABLES → CanTake (making t) (made_of ss ts)
making_takes ss ts (tables.Plain name columns latest) none good room =
    record {
      follows = (free name ss ts none, plain_schema columns good.0, omega (arith, room, length-map ss stable_def, length-map ts table_def));
      edge = tt;
      ends = tt;
      version = omega (arith, room);
    }
making_takes ss ts (tables.Sub name stable tags) none good room =
    let there : stable ≤ length (map stable_def ss) = omega (arith, good.1, length-map ss stable_def) in
    record {
      follows = (free name ss ts none, (good.0, there), subst (λ (cs : List Column). AreTags cs tags) (tags_same ss stable) good.2, omega (arith, room, length-map ss stable_def, length-map ts table_def));
      edge = tt;
      ends = tt;
      version = omega (arith, room);
    }

good_in_time : (ss : List HeadStable) (t : HeadTable) → IsGood ss t → IsInTime (table_latest t)
good_in_time ss (tables.Plain name columns latest) good = good.1
good_in_time ss (tables.Sub name stable tags) good = tt

good_at : (ss : List HeadStable) (ts : List HeadTable) (i : ℕ) (t : HeadTable) → FitTables ss ts → i < length ts → t ≡ get_or ts i t → (list_any (bytes_eq (table_name t)) (stable_names ss ++ table_names (take i ts)) ≡ false) × IsGood ss t
good_at ss ts i t fit within e =
    let named = named_by (table_items ss) table_name (stable_names ss) (table_good ss) (tables_by ss) (take i ts) t (fit_at (table_items ss) [] ts i t (slice_get_read ts (length ts) i t refl within e) fit.each) in
    (named.new, table_from ss t named.is_good)

pub table_takes : (ss : List HeadStable) (ts : List HeadTable) (i : ℕ) (t : HeadTable) (old : State) → FitTables ss ts → i < length ts → t ≡ get_or ts i t → old ≡ made_of ss (take i ts) → CanTake (making t) old
table_takes ss ts i t old fit within e is =
    let good = good_at ss ts i t fit within e in
    let long : length (take i ts) ≡ i = length-take-le i ts (omega arith) in
    subst (CanTake (making t)) (sym is) (making_takes ss (take i ts) t good.0 good.1 (omega (arith, fit.few, within, long)))

pub table_in_time : (ss : List HeadStable) (ts : List HeadTable) (i : ℕ) (t : HeadTable) → FitTables ss ts → i < length ts → t ≡ get_or ts i t → IsInTime (table_latest t)
table_in_time ss ts i t fit within e = good_in_time ss t (good_at ss ts i t fit within e).1

-- ---- greatest timestamps

set_end : (xs : List (Option ℕ)) (o p : Option ℕ) → slice_set (xs ++ o ∷ []) (length xs) p ≡ xs ++ p ∷ []
set_end [] o p = refl
set_end (x ∷ xs) o p = ap (λ l. x ∷ l) (set_end xs o p)

last_set : (xs : List (Option ℕ)) (o p : Option ℕ) → with_last (xs ++ o ∷ []) p ≡ xs ++ p ∷ []
last_set xs o p =
    let at : length (xs ++ o ∷ []) - 1 ≡ length xs = omega (arith, length-append xs (o ∷ [])) in
    ap (λ n. slice_set (xs ++ o ∷ []) n p) at ∙ set_end xs o p

pub stable_made : (s : State) (v m : ℕ) (c : Catalog) (k l : Kept) (name : List ℕ) (schema : Schema) (latest : Option ℕ) → state_of v m c k ≡ bare (step (s ∷ []) (entry_making (what.MakeStable name schema)))
    → l ≡ record k { greatest = record k.greatest { stables = with_last k.greatest.stables latest } } → state_of v m c l ≡ with_stable (record { name = name; schema = schema; latest = latest }) s
stable_made s v m c k l name schema latest is put =
    ap (state_of v m c) put
    ∙ ap (λ (t : State). record t { stable_latest = with_last t.stable_latest latest }) is
    ∙ ap (λ (l : List (Option ℕ)). record (with_stable (record { name = name; schema = schema; latest = latest }) s) { stable_latest = l }) (last_set s.stable_latest None latest)

pub plain_made : (s : State) (v m : ℕ) (c : Catalog) (k l : Kept) (name : List ℕ) (columns : List Column) (latest : Option ℕ) → state_of v m c k ≡ bare (step (s ∷ []) (entry_making (what.MakeTable name columns)))
    → l ≡ record k { greatest = record k.greatest { tables = with_last k.greatest.tables latest } } → state_of v m c l ≡ with_table (tables.Plain name columns latest) s
plain_made s v m c k l name columns latest is put =
    ap (state_of v m c) put
    ∙ ap (λ (t : State). record t { table_latest = with_last t.table_latest latest }) is
    ∙ ap (λ (l : List (Option ℕ)). record (with_table (tables.Plain name columns latest) s) { table_latest = l }) (last_set s.table_latest None latest)

-- one place is set
set_zip : {A : Type 0} (R : A → Option ℕ → Type 0) (xs : List A) (os : List (Option ℕ)) (i : ℕ) (v : Option ℕ) → ((x : A) → slice_get xs i ≡ Some x → R x v) → AllZip R xs os → AllZip R xs (slice_set os i v)
set_zip R [] [] i v one h = tt
set_zip R [] (o ∷ os) i v one h = absurd h
set_zip R (x ∷ xs) [] i v one h = absurd h
set_zip R (x ∷ xs) (o ∷ os) zero v one h = (one x refl, h.1)
set_zip R (x ∷ xs) (o ∷ os) (suc i) v one h = (h.0, set_zip R xs os i v (λ y at. one y at) h.1)

pub right_stables : (v m : ℕ) (c : Catalog) (k l : Kept) (latest : Option ℕ) → IsRight v m c k → IsInTime latest → l ≡ record k { greatest = record k.greatest { stables = with_last k.greatest.stables latest } } → IsRight v m c l
right_stables v m c k l latest h time put =
    subst (λ (y : Kept). IsRight v m c y) (sym put) (record {
      subtables = h.subtables;
      sound = record { catalog = h.sound.catalog; rows = h.sound.rows; edge = h.sound.edge };
      columns = h.columns;
      latest = record {
        stables = set_zip (λ (s : StableDef) (o : Option ℕ). IsInTime o) c.stables k.greatest.stables (length k.greatest.stables - 1) latest (λ _ _. time) h.latest.stables;
        tables = h.latest.tables;
      };
      edge = h.edge;
      in_time = h.in_time;
      last = h.last;
      next = h.next;
    })

last_there : (ts : List TableDef) (t x : TableDef) (n : ℕ) → n ≡ length ts → slice_get (ts ++ t ∷ []) n ≡ Some x → t ≡ x
last_there ts t x n e at = same_Some t x (sym (here ts) ∙ ap (slice_get (ts ++ t ∷ [])) (sym e) ∙ at)
  where
    here : (ts : List TableDef) → slice_get (ts ++ t ∷ []) (length ts) ≡ Some t
    here [] = refl
    here (u ∷ ts) = here ts

plain_in_time : (parent o : Option ℕ) → parent ≡ None → IsInTime o → IsLatestOf parent o
plain_in_time None o e h = h
plain_in_time (Some stable) o e h = absurd cc

-- the last table is a plain one
pub right_tables : (v m : ℕ) (c : Catalog) (k l : Kept) (ts : List TableDef) (t : TableDef) (latest : Option ℕ) → IsRight v m c k → c.tables ≡ ts ++ t ∷ [] → t.parent ≡ None → IsInTime latest
    → l ≡ record k { greatest = record k.greatest { tables = with_last k.greatest.tables latest } } → IsRight v m c l
right_tables v m c k l ts t latest h last plain time put =
    let R : TableDef → Option ℕ → Type 0 = λ t o. IsLatestOf t.parent o in
    let long : length k.greatest.tables ≡ length c.tables = AllZip-long R c.tables k.greatest.tables h.latest.tables in
    let count : length c.tables ≡ length ts + 1 = ap length last ∙ length-append ts (t ∷ []) in
    let at : length k.greatest.tables - 1 ≡ length ts = omega (arith, long, count) in
    subst (λ (y : Kept). IsRight v m c y) (sym put) (record {
      subtables = h.subtables;
      sound = record { catalog = h.sound.catalog; rows = h.sound.rows; edge = h.sound.edge };
      columns = h.columns;
      latest = record {
        stables = h.latest.stables;
        tables = set_zip R c.tables k.greatest.tables (length k.greatest.tables - 1) latest
            (λ x there.
            let same : t ≡ x = last_there ts t x (length k.greatest.tables - 1) at (ap (λ l. slice_get l (length k.greatest.tables - 1)) (sym last) ∙ there) in
            plain_in_time x.parent latest (ap (λ (u : TableDef). u.parent) (sym same) ∙ plain) time)
            h.latest.tables;
      };
      edge = h.edge;
      in_time = h.in_time;
      last = h.last;
      next = h.next;
    })

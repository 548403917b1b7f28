-- A head of a state: what it says, and that it fits.
use Rattle.std.proofs.Common.{◌≡◌, ℕ, zero, suc, ◌+◌, ◌-◌, ◌<◌, ◌≤◌, ◌^◌, Bool, true, false, ◌&&◌, nat_eq, nat_le, nat_lt, List, [], ◌∷◌, ◌++◌, map, take, length, Option, Some, None, refl, sym, ap, subst, ◌∙◌, arith, append_assoc}
use Rattle.std.specs.Prelude.{slice_get}
use Rattle.std.specs.List.{AllByRecursion, AllZip, list_all, list_any}
use Rattle.std.specs.Option.{option_map, option_map_or}
use Rattle.std.specs.Str.{bytes_eq}
use Rattle.std.proofs.lemmas.Bool.{and_from, le-leb, lt-ltb, or_from, or_left, or_parts}
use Rattle.std.proofs.lemmas.List.{append-nil}
use Rattle.std.proofs.lemmas.List.Elements.{recursion_from_All}
use Rattle.std.proofs.lemmas.List.Folds.{list_any-append}
use Rattle.std.proofs.lemmas.Option.{same_Some}
use Rattle.std.proofs.lemmas.Slice.Zip.{AllZip-long}
use Rattle.td_limits.specs.declared.limits.TheConstants.{LAST_DAY_RANGE, LAST_STREAM_NUMBER, LAST_TIMESTAMP, LAST_VERSION, TABLES, TAGS}
use Rattle.td_layer.specs.declared.values.Cell.{Cell}
use Rattle.td_model.specs.declared.catalog.Column.{Column}
use Rattle.td_model.specs.declared.catalog.Schema.{Schema}
use Rattle.td_model.specs.declared.catalog.StableDef.{StableDef}
use Rattle.td_model.specs.declared.catalog.StreamEntry.{StreamEntry}
use Rattle.td_model.specs.declared.catalog.TableDef.{TableDef}
use Rattle.td_model.specs.Catalog.{Catalog, schema_by, schema_of, schema_or_none}
use Rattle.td_codec.specs.Lists.{all_fit}
use Rattle.td_catalog.proofs.Apart.{apart_among, apart_first}
use Rattle.td_verdict.specs.Names.{stands_twice}
use Rattle.td_verdict.specs.Values.{is_tag_kind}
use Rattle.td_verdict.specs.Valid.{AreTags, IsSchema, IsTable, IsTableBy, IsValid}
use Rattle.td_manifest.specs.declared.head.Head.{Head}
use Rattle.td_manifest.specs.declared.head.HeadStable.{HeadStable}
use Rattle.td_manifest.specs.declared.head.HeadTable.{HeadTable}
use Rattle.td_manifest.specs.declared.head.HeadTable.TheVariants as tables
use Rattle.td_manifest.specs.Tables.{body_of, latest_field, schema_field, stable_items, stable_names, table_body, table_items, table_name, tags_of}
use Rattle.td_manifest.specs.States.{stable_def, state_of_head, table_def, table_latest}
use Rattle.td_manifest.specs.Heads.{begun, edge_field, first_log_field, head_body, moment_field, next_field, objects_field, sets_field, stables_field, start_field, streams_field, tables_field, version_field}
use Rattle.td_state.specs.Contents.{HasColumns, HasOwnColumns, IsRight, Kept, state_of}
use Rattle.td_state.specs.Heads.{FitsHead, IsShortName, StableFitsHead, TableFitsHead, beside, stable_head, stable_heads, table_head, table_head_by, table_heads}
use Rattle.td_state.specs.Held.{headed}
use Rattle.td_state.specs.Latest.{AreLatest, Greatest, IsInTime, IsLatestOf}
use Rattle.td_state.proofs.NamedItems.{fit_all, plain_good}
use Rattle.td_state.proofs.HeadTables.{head_stable_name, latest_fit, plain_fit, schema_fit, stable_good, stables_by, sub_fit, table_good, tables_by}

-- ---- places

module _ {A B : Type 0} (f : A → Option ℕ → B) where
  pub beside_long : (xs : List A) (os : List (Option ℕ)) → length os ≡ length xs → length (beside f xs os) ≡ length xs
  beside_long [] os e = refl
  beside_long (x ∷ xs) [] e = absurd (omega arith)
  beside_long (x ∷ xs) (o ∷ os) e = ap suc (beside_long xs os (omega arith))

pub take_there : {X : Type 0} (xs : List X) (i : ℕ) (x : X) → slice_get xs i ≡ Some x → take (i + 1) xs ≡ take i xs ++ x ∷ []
take_there [] i x at = absurd cc
take_there (y ∷ ys) zero x at = ap (λ z. z ∷ []) (same_Some y x at)
take_there (y ∷ ys) (suc i) x at =
    let more : suc i + 1 ≡ suc (i + 1) = omega arith in
    ap (λ n. take n (y ∷ ys)) more ∙ ap (λ l. y ∷ l) (take_there ys i x at)

-- one more of a list is there
pub one_there : {X : Type 0} (xs : List X) (i : ℕ) (x : X) (old new : List X) → slice_get xs ((i + 1) - 1) ≡ Some x → old ≡ take i xs → new ≡ old ++ x ∷ [] → new ≡ take (i + 1) xs
one_there xs i x old new at is put =
    let same : (i + 1) - 1 ≡ i = omega arith in
    put ∙ ap (λ l. l ++ x ∷ []) is ∙ sym (take_there xs i x (ap (slice_get xs) (sym same) ∙ at))

pub take_whole : {X : Type 0} (xs : List X) (i : ℕ) → length xs ≤ i → take i xs ≡ xs
take_whole [] zero h = refl
take_whole [] (suc i) h = refl
take_whole (x ∷ xs) zero h = absurd (omega arith)
take_whole (x ∷ xs) (suc i) h = ap (λ l. x ∷ l) (take_whole xs i (omega arith))

-- all are there
pub all_there : {A B : Type 0} (f : A → Option ℕ → B) (xs : List A) (os : List (Option ℕ)) (n i : ℕ) (all : List B) → length os ≡ length xs → n ≡ length xs → n ≤ i → all ≡ take i (beside f xs os) → all ≡ beside f xs os
all_there f xs os n i all e count past is = is ∙ take_whole (beside f xs os) i (omega (arith, beside_long f xs os e, count, past))

-- ---- one supertable, one table

pub stable_there : (ss : List StableDef) (os : List (Option ℕ)) (i : ℕ) (name : List ℕ) (schema : Schema) (o : Option ℕ) → option_map (λ (s : StableDef). s.name) (slice_get ss i) ≡ Some name → option_map (λ (s : StableDef). s.schema) (slice_get ss i) ≡ Some schema → slice_get os i ≡ Some o
    → slice_get (stable_heads ss os) i ≡ Some (record { name = name; schema = schema; latest = o })
stable_there [] os i name schema o n s l = absurd cc
stable_there (x ∷ ss) [] i name schema o n s l = absurd cc
stable_there (x ∷ ss) (p ∷ os) zero name schema o n s l = λ i. Some (record { name = same_Some x.name name n i; schema = same_Some x.schema schema s i; latest = same_Some p o l i })
stable_there (x ∷ ss) (p ∷ os) (suc i) name schema o n s l = stable_there ss os i name schema o n s l

pub plain_there : (c : Catalog) (ts : List TableDef) (os : List (Option ℕ)) (i : ℕ) (name : List ℕ) (schema : Schema) (columns : List Column) (o : Option ℕ) → option_map (λ (t : TableDef). t.name) (slice_get ts i) ≡ Some name → option_map (λ (t : TableDef). t.parent) (slice_get ts i) ≡ Some None
    → option_map (schema_of c) (slice_get ts i) ≡ Some schema → columns ≡ schema.columns → slice_get os i ≡ Some o → slice_get (table_heads ts os) i ≡ Some (tables.Plain name columns o)
plain_there c [] os i name schema columns o n p s is l = absurd cc
plain_there c (t ∷ ts) [] i name schema columns o n p s is l = absurd cc
plain_there c (t ∷ ts) (q ∷ os) zero name schema columns o n p s is l =
    let plain : t.parent ≡ None = same_Some t.parent None p in
    let same : schema_by c t.parent t.columns ≡ schema = same_Some (schema_of c t) schema s in
    let own : t.columns ≡ columns = ap (λ (x : Option ℕ). (schema_by c x t.columns).columns) (sym plain) ∙ ap (λ (x : Schema). x.columns) same ∙ sym is in
    ap (λ x. Some (table_head_by x t q)) plain ∙ (λ i. Some (tables.Plain (same_Some t.name name n i) (own i) (same_Some q o l i)))
plain_there c (t ∷ ts) (q ∷ os) (suc i) name schema columns o n p s is l = plain_there c ts os i name schema columns o n p s is l

pub sub_there : (ts : List TableDef) (os : List (Option ℕ)) (i : ℕ) (name : List ℕ) (stable : ℕ) (cells tags : List Cell) → length os ≡ length ts → option_map (λ (t : TableDef). t.name) (slice_get ts i) ≡ Some name → option_map (λ (t : TableDef). t.parent) (slice_get ts i) ≡ Some (Some stable)
    → option_map (λ (t : TableDef). t.tags) (slice_get ts i) ≡ Some cells → tags ≡ cells → slice_get (table_heads ts os) i ≡ Some (tables.Sub name stable tags)
sub_there [] os i name stable cells tags e n p c is = absurd cc
sub_there (t ∷ ts) [] i name stable cells tags e n p c is = absurd (omega arith)
sub_there (t ∷ ts) (q ∷ os) zero name stable cells tags e n p c is =
    ap (λ x. Some (table_head_by x t q)) (same_Some t.parent (Some stable) p) ∙ (λ i. Some (tables.Sub (same_Some t.name name n i) stable ((same_Some t.tags cells c ∙ sym is) i)))
sub_there (t ∷ ts) (q ∷ os) (suc i) name stable cells tags e n p c is = sub_there ts os i name stable cells tags (omega arith) n p c is

-- ---- what the head says

stable_defs : (ss : List StableDef) (os : List (Option ℕ)) → AllZip (λ (s : StableDef) (o : Option ℕ). IsInTime o) ss os → map stable_def (stable_heads ss os) ≡ ss
stable_defs [] os h = refl
stable_defs (s ∷ ss) [] h = absurd h
stable_defs (s ∷ ss) (o ∷ os) h = ap (λ l. s ∷ l) (stable_defs ss os h.1)

stable_latests : (ss : List StableDef) (os : List (Option ℕ)) → AllZip (λ (s : StableDef) (o : Option ℕ). IsInTime o) ss os → map (λ (s : HeadStable). s.latest) (stable_heads ss os) ≡ os
stable_latests [] [] h = refl
stable_latests [] (o ∷ os) h = absurd h
stable_latests (s ∷ ss) [] h = absurd h
stable_latests (s ∷ ss) (o ∷ os) h = ap (λ l. o ∷ l) (stable_latests ss os h.1)

table_def_one : (c : Catalog) (parent : Option ℕ) (t : TableDef) (o : Option ℕ) → parent ≡ t.parent → IsTableBy c t parent → HasOwnColumns parent t.columns → table_def (table_head_by parent t o) ≡ t
table_def_one c None t o e is own = λ i. record { name = t.name; parent = e i; columns = t.columns; tags = sym is.1 i }
table_def_one c (Some stable) t o e is own = λ i. record { name = t.name; parent = e i; columns = sym own i; tags = t.tags }

table_defs : (c : Catalog) (ts : List TableDef) (os : List (Option ℕ)) → AllByRecursion (IsTable c) ts → AllByRecursion HasColumns ts → AllZip (λ (t : TableDef) (o : Option ℕ). IsLatestOf t.parent o) ts os → map table_def (table_heads ts os) ≡ ts
table_defs c [] os is own h = refl
table_defs c (t ∷ ts) [] is own h = absurd h
table_defs c (t ∷ ts) (o ∷ os) is own h = λ i. table_def_one c t.parent t o refl is.0 own.0 i ∷ table_defs c ts os is.1 own.1 h.1 i

latest_one : (parent : Option ℕ) (t : TableDef) (o : Option ℕ) → IsLatestOf parent o → table_latest (table_head_by parent t o) ≡ o
latest_one None t o h = refl
latest_one (Some stable) t None h = refl
latest_one (Some stable) t (Some ts) h = absurd h

table_latests : (ts : List TableDef) (os : List (Option ℕ)) → AllZip (λ (t : TableDef) (o : Option ℕ). IsLatestOf t.parent o) ts os → map table_latest (table_heads ts os) ≡ os
table_latests [] [] h = refl
table_latests [] (o ∷ os) h = absurd h
table_latests (t ∷ ts) [] h = absurd h
table_latests (t ∷ ts) (o ∷ os) h = λ i. latest_one t.parent t o h.0 i ∷ table_latests ts os h.1 i

-- a head with the parts of a state, and no file sets and streams
abbrev pub head_with : ℕ → ℕ → ℕ → Catalog → Kept → Head
head_with v m first c k = record {
  version = v;
  moment = m;
  first_log = first;
  edge = k.edge;
  stables = stable_heads c.stables k.greatest.stables;
  tables = table_heads c.tables k.greatest.tables;
  sets = [];
  next_stream = c.next_stream;
  streams = [];
}

pub state_same : (v m first : ℕ) (c : Catalog) (k : Kept) → IsRight v m c k → state_of_head (head_with v m first c k) [] ≡ headed (state_of v m c k)
state_same v m first c k h =
    let tables = recursion_from_All (IsTable c) c.tables h.sound.catalog.tables in
    λ i. record (headed (state_of v m c k)) {
      catalog = record (headed (state_of v m c k)).catalog {
        stables = stable_defs c.stables k.greatest.stables h.latest.stables i;
        tables = table_defs c c.tables k.greatest.tables tables h.columns h.latest.tables i;
      };
      stable_latest = stable_latests c.stables k.greatest.stables h.latest.stables i;
      table_latest = table_latests c.tables k.greatest.tables h.latest.tables i;
    }

-- ---- names

apart_rest : (xs ys : List (List ℕ)) → stands_twice (xs ++ ys) ≡ false → stands_twice ys ≡ false
apart_rest [] ys h = h
apart_rest (x ∷ xs) ys h = apart_rest xs ys (or_parts (list_any (bytes_eq x) (xs ++ ys)) (stands_twice (xs ++ ys)) h).1

any_turned : (p : List ℕ → Bool) (xs ys : List (List ℕ)) → list_any p (xs ++ ys) ≡ false → list_any p (ys ++ xs) ≡ false
any_turned p xs ys h =
    let parts = or_parts (list_any p xs) (list_any p ys) (sym (list_any-append p xs ys) ∙ h) in
    list_any-append p ys xs ∙ or_from (list_any p ys) (list_any p xs) parts.1 parts.0

apart_turned : (xs ys : List (List ℕ)) → stands_twice (xs ++ ys) ≡ false → stands_twice (ys ++ xs) ≡ false
apart_turned [] ys h = ap stands_twice (append-nil ys) ∙ h
apart_turned (x ∷ xs) ys h =
    let parts = or_parts (list_any (bytes_eq x) (xs ++ ys)) (stands_twice (xs ++ ys)) h in
    apart_among ys xs x (any_turned (bytes_eq x) xs ys parts.0) (apart_turned xs ys parts.1)

stable_names_are : (ss : List StableDef) (os : List (Option ℕ)) → length os ≡ length ss → map head_stable_name (stable_heads ss os) ≡ map (λ (s : StableDef). s.name) ss
stable_names_are [] os e = refl
stable_names_are (s ∷ ss) [] e = absurd (omega arith)
stable_names_are (s ∷ ss) (o ∷ os) e = ap (λ l. s.name ∷ l) (stable_names_are ss os (omega arith))

name_one : (parent : Option ℕ) (t : TableDef) (o : Option ℕ) → table_name (table_head_by parent t o) ≡ t.name
name_one None t o = refl
name_one (Some stable) t o = refl

table_names_are : (ts : List TableDef) (os : List (Option ℕ)) → length os ≡ length ts → map table_name (table_heads ts os) ≡ map (λ (t : TableDef). t.name) ts
table_names_are [] os e = refl
table_names_are (t ∷ ts) [] e = absurd (omega arith)
table_names_are (t ∷ ts) (o ∷ os) e = λ i. name_one t.parent t o i ∷ table_names_are ts os (omega arith) i

-- ---- supertables fit

stables_short : (ss : List StableDef) (os : List (Option ℕ)) → AllByRecursion StableFitsHead ss → AllByRecursion (λ (s : HeadStable). IsShortName (head_stable_name s)) (stable_heads ss os)
stables_short [] os h = tt
stables_short (s ∷ ss) [] h = tt
stables_short (s ∷ ss) (o ∷ os) h = (h.0.name, stables_short ss os h.1)

stables_good : (ss : List StableDef) (os : List (Option ℕ)) → AllByRecursion (λ (s : StableDef). IsSchema s.schema.columns s.schema.tags) ss → AllByRecursion StableFitsHead ss → AllZip (λ (s : StableDef) (o : Option ℕ). IsInTime o) ss os
    → list_all (λ (s : HeadStable). schema_field.fits s.schema && latest_field.fits s.latest) (stable_heads ss os) ≡ true
stables_good [] os is fit h = refl
stables_good (s ∷ ss) [] is fit h = refl
stables_good (s ∷ ss) (o ∷ os) is fit h =
    and_from (schema_field.fits s.schema && latest_field.fits o) (list_all (λ (s : HeadStable). schema_field.fits s.schema && latest_field.fits s.latest) (stable_heads ss os))
    (and_from (schema_field.fits s.schema) (latest_field.fits o) (schema_fit s.schema (record { schema = is.0; columns = fit.0.columns; tags = fit.0.tags })) (latest_fit o h.0))
    (stables_good ss os is.1 fit.1 h.1)

-- the names of supertables and tables are apart
names_apart : (c : Catalog) → IsValid c → stands_twice (map (λ (s : StableDef). s.name) c.stables ++ map (λ (t : TableDef). t.name) c.tables) ≡ false
names_apart c h =
    let ts = map (λ (t : TableDef). t.name) c.tables in
    let ss = map (λ (s : StableDef). s.name) c.stables in
    let es = map (λ (e : StreamEntry). e.def.target) c.streams in
    apart_turned ts ss (apart_first (ts ++ ss) es (ap stands_twice (append_assoc ts ss es) ∙ h.names))

all_stables_fit : (c : Catalog) (os : List (Option ℕ)) → IsValid c → FitsHead c → AllZip (λ (s : StableDef) (o : Option ℕ). IsInTime o) c.stables os → all_fit stable_items [] (stable_heads c.stables os) ≡ true
all_stables_fit c os valid fit h =
    let long : length os ≡ length c.stables = AllZip-long (λ (s : StableDef) (o : Option ℕ). IsInTime o) c.stables os h in
    let apart = ap stands_twice (stable_names_are c.stables os long) ∙ apart_first (map (λ (s : StableDef). s.name) c.stables) (map (λ (t : TableDef). t.name) c.tables) (names_apart c valid) in
    let good = stables_good c.stables os (recursion_from_All (λ (s : StableDef). IsSchema s.schema.columns s.schema.tags) c.stables valid.stables) fit.stables h in
    fit_all stable_items head_stable_name [] stable_good stables_by [] (stable_heads c.stables os) (record {
      apart = apart;
      short = stables_short c.stables os fit.stables;
      are_good = plain_good (λ (s : HeadStable). schema_field.fits s.schema && latest_field.fits s.latest) [] (stable_heads c.stables os) ∙ good;
    })

-- ---- tables fit

tags_are : (ss : List StableDef) (os : List (Option ℕ)) (n : ℕ) → length os ≡ length ss → tags_of (stable_heads ss os) n ≡ (schema_or_none (slice_get ss (n - 1))).tags
tags_are ss os n e = by ss os (n - 1) e
  where
    by : (ss : List StableDef) (os : List (Option ℕ)) (i : ℕ) → length os ≡ length ss → option_map_or (λ (s : HeadStable). s.schema.tags) (slice_get (stable_heads ss os) i) [] ≡ (schema_or_none (slice_get ss i)).tags
    by [] os i e = refl
    by (s ∷ ss) [] i e = absurd (omega arith)
    by (s ∷ ss) (o ∷ os) zero e = refl
    by (s ∷ ss) (o ∷ os) (suc i) e = by ss os i (omega arith)

tags_good : (ss : List StableDef) (i : ℕ) → AllByRecursion (λ (s : StableDef). IsSchema s.schema.columns s.schema.tags) ss → (length (schema_or_none (slice_get ss i)).tags ≤ TAGS) × (list_all (λ (k : Column). is_tag_kind k.kind) (schema_or_none (slice_get ss i)).tags ≡ true)
tags_good [] i h = (omega arith, refl)
tags_good (s ∷ ss) zero h = (h.0.few_tags, h.0.tag_kinds)
tags_good (s ∷ ss) (suc i) h = tags_good ss i h.1

table_one : (c : Catalog) (os : List (Option ℕ)) (parent : Option ℕ) (t : TableDef) (o : Option ℕ) → IsValid c → length os ≡ length c.stables → IsTableBy c t parent → IsLatestOf parent o → TableFitsHead t → (table_body (stable_heads c.stables os)).fits (body_of (table_head_by parent t o)) ≡ true
table_one c os None t o valid e is late fit = plain_fit (stable_heads c.stables os) t.name t.columns o is.0 fit.columns late
table_one c os (Some stable) t o valid e is late fit =
    let heads : List HeadStable = stable_heads c.stables os in
    let long : length heads ≡ length c.stables = beside_long stable_head c.stables os e in
    let own : tags_of heads stable ≡ (schema_or_none (slice_get c.stables (stable - 1))).tags = tags_are c.stables os stable e in
    let good = tags_good c.stables (stable - 1) (recursion_from_All (λ (s : StableDef). IsSchema s.schema.columns s.schema.tags) c.stables valid.stables) in
    sub_fit heads t.name stable t.tags is.0 (omega (arith, is.1, long)) (omega (arith, long, valid.count))
    (subst (λ (cs : List Column). length cs ≤ TAGS) (sym own) good.0)
    (ap (list_all (λ (k : Column). is_tag_kind k.kind)) own ∙ good.1)
    fit.tags
    (subst (λ (cs : List Column). AreTags cs t.tags) (sym own) is.2)

tables_short : (ts : List TableDef) (os : List (Option ℕ)) → AllByRecursion TableFitsHead ts → AllByRecursion (λ (t : HeadTable). IsShortName (table_name t)) (table_heads ts os)
tables_short [] os h = tt
tables_short (t ∷ ts) [] h = tt
tables_short (t ∷ ts) (o ∷ os) h = (subst IsShortName (sym (name_one t.parent t o)) h.0.name, tables_short ts os h.1)

tables_good : (c : Catalog) (os : List (Option ℕ)) (ts : List TableDef) (ps : List (Option ℕ)) → IsValid c → length os ≡ length c.stables → AllByRecursion (IsTable c) ts → AllByRecursion TableFitsHead ts → AllZip (λ (t : TableDef) (o : Option ℕ). IsLatestOf t.parent o) ts ps
    → list_all (λ (t : HeadTable). (table_body (stable_heads c.stables os)).fits (body_of t)) (table_heads ts ps) ≡ true
tables_good c os [] ps valid e is fit h = refl
tables_good c os (t ∷ ts) [] valid e is fit h = refl
tables_good c os (t ∷ ts) (p ∷ ps) valid e is fit h =
    and_from ((table_body (stable_heads c.stables os)).fits (body_of (table_head t p))) (list_all (λ (t : HeadTable). (table_body (stable_heads c.stables os)).fits (body_of t)) (table_heads ts ps))
    (table_one c os t.parent t p valid e is.0 h.0 fit.0) (tables_good c os ts ps valid e is.1 fit.1 h.1)

all_tables_fit : (c : Catalog) (os ps : List (Option ℕ)) → IsValid c → FitsHead c → length os ≡ length c.stables → AllZip (λ (t : TableDef) (o : Option ℕ). IsLatestOf t.parent o) c.tables ps → all_fit (table_items (stable_heads c.stables os)) [] (table_heads c.tables ps) ≡ true
all_tables_fit c os ps valid fit e h =
    let heads : List HeadStable = stable_heads c.stables os in
    let long : length ps ≡ length c.tables = AllZip-long (λ (t : TableDef) (o : Option ℕ). IsLatestOf t.parent o) c.tables ps h in
    let names : (stable_names heads ++ map table_name (table_heads c.tables ps)) ≡ map (λ (s : StableDef). s.name) c.stables ++ map (λ (t : TableDef). t.name) c.tables =
    λ i. stable_names_are c.stables os e i ++ table_names_are c.tables ps long i in
    fit_all (table_items heads) table_name (stable_names heads) (table_good heads) (tables_by heads) [] (table_heads c.tables ps) (record {
      apart = ap stands_twice names ∙ names_apart c valid;
      short = tables_short c.tables ps fit.tables;
      are_good = plain_good (λ (t : HeadTable). (table_body heads).fits (body_of t)) [] (table_heads c.tables ps)
          ∙ tables_good c os c.tables ps valid e (recursion_from_All (IsTable c) c.tables valid.tables) fit.tables h;
    })

-- ---- the whole

begun_so : (v : ℕ) (b : Bool) → 0 < v → begun v b ≡ true
begun_so v b h = or_left (nat_lt 0 v) b (lt-ltb 0 v h)

pub head_fit : (v m first : ℕ) (c : Catalog) (k : Kept) → IsRight v m c k → k.halt ≡ None → FitsHead c → 1 ≤ first → first ≤ v + 1 → 0 < v → head_body.fits (head_with v m first c k) ≡ true
unfolding head_body start_field objects_field stables_field tables_field sets_field streams_field
head_fit v m first c k h none fit some le above =
    let x : Head = head_with v m first c k in
    let valid = h.sound.catalog in
    let long : length k.greatest.stables ≡ length c.stables = AllZip-long (λ (s : StableDef) (o : Option ℕ). IsInTime o) c.stables k.greatest.stables h.latest.stables in
    let wide : length k.greatest.tables ≡ length c.tables = AllZip-long (λ (t : TableDef) (o : Option ℕ). IsLatestOf t.parent o) c.tables k.greatest.tables h.latest.tables in
    let ss : length x.stables ≡ length c.stables = beside_long stable_head c.stables k.greatest.stables long in
    let ts : length x.tables ≡ length c.tables = beside_long table_head c.tables k.greatest.tables wide in
    let last : v ≤ LAST_VERSION = h.last none in
    let n = length x.stables in
    let j = length x.tables in
    let few : n ≤ TABLES = omega (arith, ss, valid.count) in
    let all_few : n + j ≤ TABLES = omega (arith, ss, ts, valid.count) in
    let next : c.next_stream ≤ LAST_STREAM_NUMBER + 1 = valid.next in
    let version = and_from (nat_lt v (2 ^ 64)) (nat_le v LAST_VERSION) (lt-ltb v (2 ^ 64) (omega (arith, last))) (le-leb v LAST_VERSION last) in
    let moment = and_from (nat_lt m (2 ^ 64)) (nat_le m LAST_TIMESTAMP && begun v (nat_eq m 0)) (lt-ltb m (2 ^ 64) (omega (arith, h.in_time)))
    (and_from (nat_le m LAST_TIMESTAMP) (begun v (nat_eq m 0)) (le-leb m LAST_TIMESTAMP h.in_time) (begun_so v (nat_eq m 0) above)) in
    let log = and_from (nat_lt first (2 ^ 64)) (nat_le 1 first && nat_le first (v + 1)) (lt-ltb first (2 ^ 64) (omega (arith, last, le)))
    (and_from (nat_le 1 first) (nat_le first (v + 1)) (le-leb 1 first some) (le-leb first (v + 1) le)) in
    let edge = and_from (nat_lt k.edge (2 ^ 32)) (nat_le k.edge LAST_DAY_RANGE && begun v (nat_eq k.edge 0)) (lt-ltb k.edge (2 ^ 32) (omega (arith, h.edge)))
    (and_from (nat_le k.edge LAST_DAY_RANGE) (begun v (nat_eq k.edge 0)) (le-leb k.edge LAST_DAY_RANGE h.edge) (begun_so v (nat_eq k.edge 0) above)) in
    let start = and_from (version_field.fits v) ((moment_field v).fits m && ((first_log_field v).fits first && (edge_field v).fits k.edge)) version
    (and_from ((moment_field v).fits m) ((first_log_field v).fits first && (edge_field v).fits k.edge) moment (and_from ((first_log_field v).fits first) ((edge_field v).fits k.edge) log edge)) in
    let stables = and_from (nat_lt n (2 ^ 32) && (nat_le n TABLES && begun v (nat_eq n 0))) (all_fit stable_items [] x.stables)
    (and_from (nat_lt n (2 ^ 32)) (nat_le n TABLES && begun v (nat_eq n 0)) (lt-ltb n (2 ^ 32) (omega (arith, few))) (and_from (nat_le n TABLES) (begun v (nat_eq n 0)) (le-leb n TABLES few) (begun_so v (nat_eq n 0) above)))
    (all_stables_fit c k.greatest.stables valid fit h.latest.stables) in
    let tables = and_from (nat_lt j (2 ^ 32) && (nat_le (n + j) TABLES && begun v (nat_eq j 0))) (all_fit (table_items x.stables) [] x.tables)
    (and_from (nat_lt j (2 ^ 32)) (nat_le (n + j) TABLES && begun v (nat_eq j 0)) (lt-ltb j (2 ^ 32) (omega (arith, all_few))) (and_from (nat_le (n + j) TABLES) (begun v (nat_eq j 0)) (le-leb (n + j) TABLES all_few) (begun_so v (nat_eq j 0) above)))
    (all_tables_fit c k.greatest.stables k.greatest.tables valid fit long h.latest.tables) in
    let sets : (sets_field v).fits [] ≡ true = and_from (begun v true) true (begun_so v true above) refl in
    let number = and_from (nat_lt c.next_stream (2 ^ 32)) (nat_le 1 c.next_stream && begun v (nat_eq c.next_stream 1)) (lt-ltb c.next_stream (2 ^ 32) (omega (arith, next)))
    (and_from (nat_le 1 c.next_stream) (begun v (nat_eq c.next_stream 1)) (le-leb 1 c.next_stream h.next) (begun_so v (nat_eq c.next_stream 1) above)) in
    let streams : (streams_field v c.next_stream).fits [] ≡ true = and_from (begun v true) true (begun_so v true above) refl in
    and_from (start_field.fits (v, (m, (first, k.edge)))) (((stables_field v).fits x.stables && (tables_field v x.stables).fits x.tables) && ((sets_field v).fits [] && ((next_field v).fits c.next_stream && (streams_field v c.next_stream).fits []))) start
    (and_from ((stables_field v).fits x.stables && (tables_field v x.stables).fits x.tables) ((sets_field v).fits [] && ((next_field v).fits c.next_stream && (streams_field v c.next_stream).fits []))
    (and_from ((stables_field v).fits x.stables) ((tables_field v x.stables).fits x.tables) stables tables)
    (and_from ((sets_field v).fits []) ((next_field v).fits c.next_stream && (streams_field v c.next_stream).fits []) sets
    (and_from ((next_field v).fits c.next_stream) ((streams_field v c.next_stream).fits []) number streams)))

-- one greatest timestamp for each supertable, and for each table
pub latest_long : (c : Catalog) (l : Greatest) → AreLatest c l → length l.stables ≡ length c.stables
latest_long c l h = AllZip-long (λ (s : StableDef) (o : Option ℕ). IsInTime o) c.stables l.stables h.stables

pub tables_long : (c : Catalog) (l : Greatest) → AreLatest c l → length l.tables ≡ length c.tables
tables_long c l h = AllZip-long (λ (t : TableDef) (o : Option ℕ). IsLatestOf t.parent o) c.tables l.tables h.tables

-- A valid catalog stays valid as an entry that can follow it is made.
use Rattle.std.proofs.Common.{◌≡◌, ℕ, suc, zero, ◌+◌, ◌-◌, ◌<◌, ◌≤◌, nat_eq, Bool, true, false, ◌||◌, not, List, [], ◌∷◌, ◌++◌, map, filter, length, Option, Some, None, All, position, nat_lt, cond, refl, sym, ap, subst, ◌∙◌, arith, length-append, append_assoc, slice_get}
use Rattle.std.specs.List.{list_any, position_or_len}
use Rattle.std.specs.Option.{option_map}
use Rattle.std.specs.Str.{bytes_eq}
use Rattle.std.specs.Cmp.Lexicographic.{nat_list_eq_equiv}
use Rattle.std.proofs.lemmas.Bool.Decides.{nat_tests}
use Rattle.std.proofs.lemmas.Bool.{or_from, or_parts}
use Rattle.std.proofs.lemmas.List.{map_push}
use Rattle.std.proofs.lemmas.List.Elements.{All-push, All-weaker}
use Rattle.std.proofs.lemmas.List.Folds.{list_any-append}
use Rattle.td_limits.specs.declared.limits.TheConstants.{LAST_STREAM_NUMBER, STREAMS, TABLES}
use Rattle.td_model.specs.declared.catalog.StableDef.{StableDef}
use Rattle.td_model.specs.declared.catalog.StreamEntry.{StreamEntry}
use Rattle.td_model.specs.declared.catalog.TableDef.{TableDef}
use Rattle.td_model.specs.declared.history.What.{What}
use Rattle.td_model.specs.declared.history.What.TheVariants as what
use Rattle.td_model.specs.declared.language.StreamDef.{StreamDef}
use Rattle.td_model.specs.Catalog.{Catalog, first_number, stable_at, schema_or_none, with_what}
use Rattle.td_verdict.specs.Names.{stands_twice}
use Rattle.td_verdict.specs.Valid.{AreTags, IsSchema, IsTable, IsTableBy, IsValid, all_names}
use Rattle.td_catalog.specs.Kept.{IsFree, CanFollow}
use Rattle.td_catalog.proofs.Apart.{apart_among, apart_behind, apart_fewer}

-- ---- names

lt_none : (i n : ℕ) (b : Bool) → b ≡ nat_lt i n → option_map (λ i. i + 1) (cond b (Some i) None) ≡ None → nat_lt i n ≡ false
lt_none i n true e k = absurd (cc)
lt_none i n false e k = sym e

-- where no element is found, none passes
pub at_end : {X : Type 0} (p : X → Bool) (xs : List X) → nat_lt (position_or_len p xs) (length xs) ≡ false → list_any p xs ≡ false
at_end p [] h = refl
at_end {X} p (x ∷ xs) h = by (p x) (at_end p xs) h
  where
    first_in : (n : ℕ) → nat_lt 0 (suc n) ≡ false → ⊥
    first_in n k = grind (arith, nat_tests)

    later_in : (i n : ℕ) → nat_lt (1 + i) (suc n) ≡ false → nat_lt i n ≡ false
    later_in i n k = grind (arith, nat_tests)

    by : (b : Bool) → (nat_lt (position_or_len p xs) (length xs) ≡ false → list_any p xs ≡ false) → nat_lt (cond (not b) (1 + position_or_len p xs) 0) (suc (length xs)) ≡ false → (b || list_any p xs) ≡ false
    by true rest k = absurd (first_in (length xs) k)
    by false rest k = rest (later_in (position_or_len p xs) (length xs) k)

nowhere : {X : Type 0} (p : X → Bool) (xs : List X) → option_map (λ i. i + 1) (position p xs) ≡ None → list_any p xs ≡ false
nowhere p xs h = at_end p xs (lt_none (position_or_len p xs) (length xs) _ refl h)

any_map : {X : Type 0} (q : List ℕ) (f : X → List ℕ) (xs : List X) → list_any (λ x. bytes_eq (f x) q) xs ≡ false → list_any (bytes_eq q) (map f xs) ≡ false
any_map q f [] h = refl
any_map q f (x ∷ xs) h =
    let parts = or_parts (bytes_eq (f x) q) (list_any (λ x. bytes_eq (f x) q) xs) h in
    or_from (bytes_eq q (f x)) (list_any (bytes_eq q) (map f xs)) (nat_list_eq_equiv.symm q (f x) ∙ parts.0) (any_map q f xs parts.1)

no_number : (p : StreamEntry → Bool) (es : List StreamEntry) → first_number p es ≡ None → list_any p es ≡ false
no_number p [] h = refl
no_number p (e ∷ es) h = by (p e) (no_number p es) h
  where
    by : (b : Bool) → (first_number p es ≡ None → list_any p es ≡ false) → cond b (Some e.number) (first_number p es) ≡ None → (b || list_any p es) ≡ false
    by true rest k = absurd (cc)
    by false rest k = rest k

abbrev table_name : TableDef → List ℕ
table_name t = t.name

abbrev stable_name : StableDef → List ℕ
stable_name s = s.name

abbrev target_name : StreamEntry → List ℕ
target_name e = e.def.target

-- a free name is none of the names
free_name : (name : List ℕ) (c : Catalog) → IsFree name c → list_any (bytes_eq name) (all_names c) ≡ false
free_name name c h =
    let tables = any_map name table_name c.tables (nowhere (λ t. bytes_eq t.name name) c.tables h.table) in
    let stables = any_map name stable_name c.stables (nowhere (λ s. bytes_eq s.name name) c.stables h.stable) in
    let targets = any_map name target_name c.streams (no_number (λ e. bytes_eq e.def.target name) c.streams h.target) in
    let p = bytes_eq name in
    let rest = list_any-append p (map stable_name c.stables) (map target_name c.streams) ∙ or_from (list_any p (map stable_name c.stables)) (list_any p (map target_name c.streams)) stables targets in
    list_any-append p (map table_name c.tables) (map stable_name c.stables ++ map target_name c.streams)
    ∙ or_from (list_any p (map table_name c.tables)) (list_any p (map stable_name c.stables ++ map target_name c.streams)) tables rest

-- ---- tables

pub slice_left : {X : Type 0} (xs ys : List X) (i : ℕ) → i < length xs → slice_get (xs ++ ys) i ≡ slice_get xs i
slice_left [] ys i h = absurd (omega arith)
slice_left (x ∷ xs) ys zero h = refl
slice_left (x ∷ xs) ys (suc i) h = slice_left xs ys i (omega arith)

table_stays : (c d : Catalog) (more : List StableDef) (t : TableDef) (parent : Option ℕ) → d.stables ≡ c.stables ++ more → IsTableBy c t parent → IsTableBy d t parent
table_stays c d more t None e h = h
table_stays c d more t (Some stable) e h =
    let le : stable ≤ length c.stables = h.1 in
    let one : 1 ≤ stable = h.0 in
    let long : length d.stables ≡ length c.stables + length more = ap length e ∙ length-append c.stables more in
    let same : stable_at stable d ≡ stable_at stable c = ap (λ (l : List StableDef). slice_get l (stable - 1)) e ∙ slice_left c.stables more (stable - 1) (omega arith) in
    (one, omega arith, subst (λ o. AreTags (schema_or_none o).tags t.tags) (sym same) h.2)

tables_stay : (c d : Catalog) (more : List StableDef) (ts : List TableDef) → d.stables ≡ c.stables ++ more → All (IsTable c) ts → All (IsTable d) ts
tables_stay c d more ts e = All-weaker (IsTable c) (IsTable d) (λ t h. table_stays c d more t t.parent e h) ts

with_stable : (c : Catalog) (s : StableDef) → IsValid c → IsFree s.name c → IsSchema s.schema.columns s.schema.tags → length c.tables + length c.stables < TABLES → IsValid (record c { stables = c.stables ++ s ∷ [] })
with_stable c s h free schema room =
    let d : Catalog = record c { stables = c.stables ++ s ∷ [] } in
    let ts = map table_name c.tables in
    let ss = map stable_name c.stables in
    let gs = map target_name c.streams in
    let none : list_any (bytes_eq s.name) ((ts ++ ss) ++ gs) ≡ false = ap (list_any (bytes_eq s.name)) (append_assoc ts ss gs) ∙ free_name s.name c free in
    let apart : stands_twice ((ts ++ ss) ++ gs) ≡ false = ap stands_twice (append_assoc ts ss gs) ∙ h.names in
    let names : all_names d ≡ (ts ++ ss) ++ s.name ∷ gs =
    ap (λ l. ts ++ (l ++ gs)) (map_push stable_name c.stables s) ∙ ap (λ l. ts ++ l) (append_assoc ss (s.name ∷ []) gs) ∙ sym (append_assoc ts ss (s.name ∷ gs)) in
    record {
      names = ap stands_twice names ∙ apart_among (ts ++ ss) gs s.name none apart;
      stables = All-push (λ (s : StableDef). IsSchema s.schema.columns s.schema.tags) c.stables s h.stables schema;
      tables = tables_stay c d (s ∷ []) c.tables refl h.tables;
      count = let long = length-append c.stables (s ∷ []) in omega (arith, h.count);
      streams = h.streams;
      next = h.next;
    }

with_table : (c : Catalog) (t : TableDef) → IsValid c → IsFree t.name c → IsTable c t → length c.tables + length c.stables < TABLES → IsValid (record c { tables = c.tables ++ t ∷ [] })
with_table c t h free is room =
    let ts = map table_name c.tables in
    let rest = map stable_name c.stables ++ map target_name c.streams in
    record {
      names = ap (λ l. stands_twice (l ++ rest)) (map_push table_name c.tables t) ∙ apart_behind ts rest t.name (free_name t.name c free) h.names;
      stables = h.stables;
      tables = All-push (IsTable c) c.tables t h.tables is;
      count = let long = length-append c.tables (t ∷ []) in omega (arith, h.count);
      streams = h.streams;
      next = h.next;
    }

append_nil : {X : Type 0} (xs : List X) → xs ++ [] ≡ xs
append_nil [] = refl
append_nil (x ∷ xs) = ap (λ l. x ∷ l) (append_nil xs)

with_stream : (c : Catalog) (def : StreamDef) → IsValid c → IsFree def.target c → length c.streams < STREAMS → c.next_stream ≤ LAST_STREAM_NUMBER → IsValid (with_what (what.MakeStream def) c)
with_stream c def h free room next =
    let e : StreamEntry = record { number = c.next_stream; def = def } in
    let ts = map table_name c.tables in
    let ss = map stable_name c.stables in
    let gs = map target_name c.streams in
    let whole : all_names c ++ [] ≡ all_names c = append_nil (all_names c) in
    let none : list_any (bytes_eq def.target) (all_names c ++ []) ≡ false = ap (list_any (bytes_eq def.target)) whole ∙ free_name def.target c free in
    let apart : stands_twice (all_names c ++ []) ≡ false = ap stands_twice whole ∙ h.names in
    let names : ts ++ (ss ++ map target_name (c.streams ++ e ∷ [])) ≡ all_names c ++ def.target ∷ [] =
    ap (λ l. ts ++ (ss ++ l)) (map_push target_name c.streams e) ∙ ap (λ l. ts ++ l) (sym (append_assoc ss gs (def.target ∷ []))) ∙ sym (append_assoc ts (ss ++ gs) (def.target ∷ [])) in
    record {
      names = ap stands_twice names ∙ apart_among (all_names c) [] def.target none apart;
      stables = h.stables;
      tables = All-weaker (IsTable c) (IsTable (with_what (what.MakeStream def) c)) (λ t h. table_stays c (with_what (what.MakeStream def) c) [] t t.parent (sym (append_nil c.stables)) h) c.tables h.tables;
      count = h.count;
      streams = let long = length-append c.streams (e ∷ []) in omega (arith, room);
      next = omega (arith, next);
    }

fewer : {X : Type 0} (p : X → Bool) (xs : List X) → length (filter p xs) ≤ length xs
fewer p [] = omega arith
fewer {X} p (x ∷ xs) = by (p x) (fewer p xs)
  where
    by : (b : Bool) → length (filter p xs) ≤ length xs → length (cond b (x ∷ filter p xs) (filter p xs)) ≤ suc (length xs)
    by true h = omega arith
    by false h = omega arith

pub without_stream : (c : Catalog) (n : ℕ) → IsValid c → IsValid (with_what (what.DropStream n) c)
without_stream c n h =
    let p : StreamEntry → Bool = λ e. not (nat_eq e.number n) in
    let d : Catalog = with_what (what.DropStream n) c in
    let ts = map table_name c.tables in
    let ss = map stable_name c.stables in
    let apart : stands_twice ((ts ++ ss) ++ map target_name c.streams) ≡ false = ap stands_twice (append_assoc ts ss (map target_name c.streams)) ∙ h.names in
    record {
      names = ap stands_twice (sym (append_assoc ts ss (map target_name (filter p c.streams)))) ∙ apart_fewer (ts ++ ss) target_name p c.streams apart;
      stables = h.stables;
      tables = All-weaker (IsTable c) (IsTable d) (λ t k. table_stays c d [] t t.parent (sym (append_nil c.stables)) k) c.tables h.tables;
      count = h.count;
      streams = let few = fewer p c.streams in omega (arith, h.streams);
      next = h.next;
    }

-- ---- all

pub follows_valid : (w : What) (c : Catalog) → IsValid c → CanFollow w c → IsValid (with_what w c)
follows_valid (what.MakeStable name schema) c h can = with_stable c (record { name = name; schema = schema }) h can.0 can.1 can.2
follows_valid (what.MakeTable name columns) c h can = with_table c (record { name = name; parent = None; columns = columns; tags = [] }) h can.0 (can.1, refl) can.2
follows_valid (what.MakeSub name stable tags) c h can = with_table c (record { name = name; parent = Some stable; columns = []; tags = tags }) h can.0 (can.1.0, can.1.1, can.2) can.3
follows_valid (what.MakeStream def) c h can = with_stream c def h can.1 can.2 can.3
follows_valid (what.DropStream n) c h can = without_stream c n h
follows_valid (what.Put puts) c h can = h
follows_valid (what.Cut table lo hi) c h can = h
follows_valid (what.Edge edge) c h can = h
follows_valid (what.Step stream upto moment) c h can = h
follows_valid what.Halt c h can = h

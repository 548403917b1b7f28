-- The schema of a table, and of a supertable, of a valid catalog; and the tags of its tables.
use Rattle.std.proofs.Common.{◌≡◌, ℕ, ◌-◌, ◌≤◌, ◌<◌, List, [], length, slice_get, Option, Some, None, All, Bool, true, false, cond, nat_lt, ◌+◌, refl, sym, ap, subst, ◌∙◌, arith, inl, inr}
use Rattle.std.specs.Option.{option_map, unwrap_or}
use Rattle.std.proofs.lemmas.Option.{slice_get_cases, slice_get_within, get_or_from_slice_get}
use Rattle.std.proofs.lemmas.List.Elements.{All-get_or}
use Rattle.std.proofs.lemmas.Bool.Decides.{nat_tests}
use Rattle.td_model.specs.declared.catalog.Column.{Column}
use Rattle.td_model.specs.declared.catalog.StableDef.{StableDef}
use Rattle.td_model.specs.declared.catalog.TableDef.{TableDef}
use Rattle.td_model.specs.Catalog.{Catalog, table_at, stable_at, table_named, stable_named, schema_of, schema_by, schema_or_none, no_schema}
use Rattle.td_verdict.specs.Names.{table_schema, stable_schema, lacks_time}
use Rattle.td_verdict.specs.Valid.{AreTags, IsSchema, IsTable, IsTableBy, IsValid}

-- what holds of each element of a list holds of the one at a place
at_place : {X : Type 0} (P : X → Type 0) (xs : List X) (i : ℕ) (x : X) → All P xs → slice_get xs i ≡ Some x → P x
at_place P xs i x all at = subst P (get_or_from_slice_get xs i x x at) (All-get_or P xs i x (slice_get_within xs i x at) all)

-- a supertable that is there
stable_there : (c : Catalog) → IsValid c → (n : ℕ) → 1 ≤ n → n ≤ length c.stables → IsSchema (schema_or_none (stable_at n c)).columns (schema_or_none (stable_at n c)).tags
stable_there c valid n one le =
    elim ((slice_get_cases c.stables (n - 1)).1) [
      | inl w ↦ subst (λ (o : Option StableDef). IsSchema (schema_or_none o).columns (schema_or_none o).tags) (sym w.2) (at_place (λ (s : StableDef). IsSchema s.schema.columns s.schema.tags) c.stables (n - 1) w.0 valid.stables w.2)
      | inr w ↦ absurd (omega (arith, w.0))
    ]

schema_of_one : (c : Catalog) → IsValid c → (t : TableDef) (parent : Option ℕ) → IsTableBy c t parent → IsSchema (schema_by c parent t.columns).columns (schema_by c parent t.columns).tags
schema_of_one c valid t None h = h.0
schema_of_one c valid t (Some stable) h = stable_there c valid stable h.0 h.1

tags_of_one : (c : Catalog) (t : TableDef) (parent : Option ℕ) → IsTableBy c t parent → AreTags (schema_by c parent t.columns).tags t.tags
tags_of_one c t None h = subst (AreTags []) (sym h.1) tt
tags_of_one c t (Some stable) h = h.2

-- a table that is there
is_table_at : (c : Catalog) → IsValid c → (n : ℕ) (t : TableDef) → table_at n c ≡ Some t → IsTable c t
is_table_at c valid n t at = at_place (IsTable c) c.tables (n - 1) t valid.tables at

pub schema_at : (c : Catalog) → IsValid c → (n : ℕ) → 1 ≤ n → n ≤ length c.tables → IsSchema (table_schema (Some n) c).columns (table_schema (Some n) c).tags
schema_at c valid n one le =
    elim ((slice_get_cases c.tables (n - 1)).1) [
      | inl w ↦ subst (λ (o : Option TableDef). IsSchema (unwrap_or (option_map (schema_of c) o) no_schema).columns (unwrap_or (option_map (schema_of c) o) no_schema).tags) (sym w.2) (schema_of_one c valid w.0 w.0.parent (is_table_at c valid n w.0 w.2))
      | inr w ↦ absurd (omega (arith, w.0))
    ]

-- its tags
pub tags_at_table : (c : Catalog) → IsValid c → (n : ℕ) (t : TableDef) → table_at n c ≡ Some t → AreTags (table_schema (Some n) c).tags t.tags
tags_at_table c valid n t at =
    subst (λ (o : Option TableDef). AreTags (unwrap_or (option_map (schema_of c) o) no_schema).tags t.tags) (sym at) (tags_of_one c t t.parent (is_table_at c valid n t at))

-- the tags of a subtable, by its supertable
stable_tags : (c : Catalog) (n : ℕ) → (schema_or_none (stable_at n c)).tags ≡ (stable_schema (Some n) c).tags
stable_tags c n = by (stable_at n c)
  where
    by : (o : Option StableDef) → (schema_or_none o).tags ≡ (unwrap_or (option_map (λ (s : StableDef). s.schema) o) no_schema).tags
    by None = refl
    by (Some s) = refl

pub tags_under : (c : Catalog) → IsValid c → (n m : ℕ) (t : TableDef) → table_at m c ≡ Some t → t.parent ≡ Some n → AreTags (stable_schema (Some n) c).tags t.tags
tags_under c valid n m t at under =
    let is : IsTableBy c t (Some n) = subst (IsTableBy c t) under (is_table_at c valid m t at) in
    subst (λ (tags : List Column). AreTags tags t.tags) (stable_tags c n) is.2

-- a number that is found by a name
numbered : (b : Bool) (i count n : ℕ) → b ≡ nat_lt i count → option_map (λ i. i + 1) (cond b (Some i) None) ≡ Some n → (1 ≤ n) × (n ≤ count)
numbered true i count n e h = let same : i + 1 ≡ n = cc in let less : i < count = grind (arith, nat_tests) in (omega arith, omega arith)
numbered false i count n e h = absurd (cc)

pub table_time : (c : Catalog) → IsValid c → (name : List ℕ) (n : ℕ) → table_named name c ≡ Some n → lacks_time (table_schema (Some n) c).columns ≡ false
table_time c valid name n h = let there = numbered _ _ (length c.tables) n refl h in (schema_at c valid n there.0 there.1).time

stable_columns : (c : Catalog) (n : ℕ) → (schema_or_none (stable_at n c)).columns ≡ (stable_schema (Some n) c).columns
stable_columns c n = by (stable_at n c)
  where
    by : (o : Option StableDef) → (schema_or_none o).columns ≡ (unwrap_or (option_map (λ (s : StableDef). s.schema) o) no_schema).columns
    by None = refl
    by (Some s) = refl

pub stable_time : (c : Catalog) → IsValid c → (name : List ℕ) (n : ℕ) → stable_named name c ≡ Some n → lacks_time (stable_schema (Some n) c).columns ≡ false
stable_time c valid name n h = let there = numbered _ _ (length c.stables) n refl h in ap lacks_time (sym (stable_columns c n)) ∙ (stable_there c valid n there.0 there.1).time

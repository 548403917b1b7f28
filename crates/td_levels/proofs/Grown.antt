-- A catalog after an entry has the columns of the tables that were there, and memtables that fit it before fit it still.
use Rattle.std.proofs.Common.{◌≡◌, ℕ, ◌-◌, ◌≤◌, List, [], ◌∷◌, ◌++◌, length, append-nil, length-append, slice_get, Option, Some, None, All, refl, sym, ap, subst, ◌∙◌, arith, drop, true}
use Rattle.std.specs.List.{AllZip}
use Rattle.std.specs.Option.{option_map, unwrap_or}
use Rattle.std.proofs.lemmas.Option.{slice_get_within, get_or_from_slice_get}
use Rattle.std.proofs.lemmas.List.Elements.{All-get_or, All-weaker}
use Rattle.td_layer.specs.declared.values.Key.{Key}
use Rattle.td_layer.specs.declared.values.Value.{Value}
use Rattle.td_layer.specs.declared.parts.Partial.{Partial}
use Rattle.td_model.specs.declared.catalog.Column.{Column}
use Rattle.td_model.specs.declared.catalog.StableDef.{StableDef}
use Rattle.td_model.specs.declared.catalog.TableDef.{TableDef}
use Rattle.td_model.specs.declared.history.What.{What}
use Rattle.td_model.specs.declared.history.What.TheVariants as what
use Rattle.td_model.specs.Catalog.{Catalog, table_at, schema_by, schema_of, schema_or_none, no_schema, with_what}
use Rattle.td_verdict.specs.Sound.{is_named_of, value_columns}
use Rattle.td_verdict.specs.Names.{table_schema}
use Rattle.td_verdict.specs.Valid.{IsTable, IsTableBy, IsValid}
use Rattle.td_catalog.proofs.Valid.{slice_left}
use Rattle.td_memtable.specs.Contents.{Contents}
use Rattle.td_levels.specs.Fits.{FitsPut, FitsCut, FitsMemtable}

-- the tables of one catalog are in another, which may have more
pub record Grows (c d : Catalog) : Type 0 where
  pub more : length c.tables ≤ length d.tables
  pub same : (table : ℕ) → 1 ≤ table → table ≤ length c.tables → value_columns table d ≡ value_columns table c

-- what holds of each element of a list holds of the one at a place
at_place : {X : Type 0} (P : X → Type 0) (xs : List X) (i : ℕ) (x : X) → All P xs → slice_get xs i ≡ Some x → P x
at_place P xs i x all at = subst P (get_or_from_slice_get xs i x x at) (All-get_or P xs i x (slice_get_within xs i x at) all)

module _ (c d : Catalog) (tables : List TableDef) (stables : List StableDef) (has_tables : d.tables ≡ c.tables ++ tables) (has_stables : d.stables ≡ c.stables ++ stables) (valid : IsValid c) where
  same_schema : (t : TableDef) (parent : Option ℕ) → IsTableBy c t parent → schema_by d parent t.columns ≡ schema_by c parent t.columns
  same_schema t None is = refl
  same_schema t (Some stable) is =
      let one : 1 ≤ stable = is.0 in
      let there : stable ≤ length c.stables = is.1 in
      ap schema_or_none (ap (λ (l : List StableDef). slice_get l (stable - 1)) has_stables ∙ slice_left c.stables stables (stable - 1) (omega arith))

  same_table : (n : ℕ) → 1 ≤ n → n ≤ length c.tables → table_at n d ≡ table_at n c
  same_table n one there = ap (λ (l : List TableDef). slice_get l (n - 1)) has_tables ∙ slice_left c.tables tables (n - 1) (omega arith)

  same_columns : (n : ℕ) → 1 ≤ n → n ≤ length c.tables → table_schema (Some n) d ≡ table_schema (Some n) c
  same_columns n one there = ap (λ (o : Option TableDef). unwrap_or (option_map (schema_of d) o) no_schema) (same_table n one there) ∙ by (table_at n c) refl
    where
      by : (o : Option TableDef) → table_at n c ≡ o → unwrap_or (option_map (schema_of d) o) no_schema ≡ unwrap_or (option_map (schema_of c) o) no_schema
      by None at = refl
      by (Some t) at = same_schema t t.parent (at_place (IsTable c) c.tables (n - 1) t valid.tables at)

  grown : Grows c d
  grown = record {
    more = omega (arith, ap length has_tables, length-append c.tables tables);
    same = λ table one there. ap (λ s. drop 1 s.columns) (same_columns table one there);
  }

pub grows : (w : What) (c : Catalog) → IsValid c → Grows c (with_what w c)
grows (what.MakeStable name schema) c valid = grown c (with_what (what.MakeStable name schema) c) [] (record { name = name; schema = schema } ∷ []) (sym (append-nil c.tables)) refl valid
grows (what.MakeTable name columns) c valid = grown c (with_what (what.MakeTable name columns) c) (record { name = name; parent = None; columns = columns; tags = [] } ∷ []) [] refl (sym (append-nil c.stables)) valid
grows (what.MakeSub name stable tags) c valid = grown c (with_what (what.MakeSub name stable tags) c) (record { name = name; parent = Some stable; columns = []; tags = tags } ∷ []) [] refl (sym (append-nil c.stables)) valid
grows (what.MakeStream def) c valid = grown c (with_what (what.MakeStream def) c) [] [] (sym (append-nil c.tables)) (sym (append-nil c.stables)) valid
grows (what.DropStream n) c valid = grown c (with_what (what.DropStream n) c) [] [] (sym (append-nil c.tables)) (sym (append-nil c.stables)) valid
grows (what.Put puts) c valid = record { more = omega arith; same = λ table one there. refl }
grows (what.Cut table lo hi) c valid = record { more = omega arith; same = λ table one there. refl }
grows (what.Edge edge) c valid = record { more = omega arith; same = λ table one there. refl }
grows (what.Step stream upto moment) c valid = record { more = omega arith; same = λ table one there. refl }
grows what.Halt c valid = record { more = omega arith; same = λ table one there. refl }

-- ---- memtables

module _ (c d : Catalog) (g : Grows c d) where
  put_still : (e : Key × Partial) → FitsPut c e → FitsPut d e
  put_still e f =
      let there : e.0.table ≤ length c.tables = f.put.key.there in
      let more : length c.tables ≤ length d.tables = g.more in
      record {
        put = record {
          key = record { from_one = f.put.key.from_one; there = omega arith; time = f.put.key.time };
          cells = subst (λ (columns : List Column). AllZip (λ (k : Column) (v : Option Value). is_named_of k.kind v ≡ true) columns e.1.cells) (sym (g.same e.0.table f.put.key.from_one f.put.key.there)) f.put.cells;
        };
        born = f.born;
      }

  cut_still : (e : Key × ℕ) → FitsCut c e → FitsCut d e
  cut_still e f =
      let there : e.0.table ≤ length c.tables = f.there in
      let more : length c.tables ≤ length d.tables = g.more in
      record { from_one = f.from_one; there = omega arith }

  pub fits_still : (m : Contents) → FitsMemtable c m → FitsMemtable d m
  fits_still m f = record { sound = f.sound; puts = All-weaker (FitsPut c) (FitsPut d) put_still m.puts f.puts; cuts = All-weaker (FitsCut c) (FitsCut d) cut_still m.cuts f.cuts }

-- What a sound state says of its rows, and of the schema of a query's source.
use Rattle.std.proofs.Common.{◌≡◌, ℕ, ◌≤◌, ◌⊎◌, inl, inr, false, Option, Some, None, refl}
use Rattle.std.specs.List.{AllByRecursion}
use Rattle.std.proofs.lemmas.List.Elements.{All-weaker, recursion_from_All}
use Rattle.td_layer.specs.declared.values.Key.{Key}
use Rattle.td_layer.specs.declared.values.Row.{Row}
use Rattle.td_limits.specs.declared.limits.TheConstants.{LAST_TIMESTAMP}
use Rattle.td_model.specs.declared.language.Query.{Query}
use Rattle.td_model.specs.Catalog.{Catalog, table_named, stable_named}
use Rattle.td_model.specs.State.{State}
use Rattle.td_verdict.specs.declared.source.Source.TheVariants.{Other}
use Rattle.td_verdict.specs.Names.{lacks_time}
use Rattle.td_verdict.specs.Queries.{source_by, source_of, source_schema, schema_from}
use Rattle.td_verdict.specs.Sound.{IsSound, IsRow}
use Rattle.td_verdict.specs.Valid.{IsValid}
use Rattle.td_verdict.proofs.Schemas.{table_time, stable_time}

pub rows_late : (s : State) → IsSound s → AllByRecursion (λ (e : Key × Row). e.0.ts ≤ LAST_TIMESTAMP) s.rows
rows_late s sound = recursion_from_All (λ (e : Key × Row). e.0.ts ≤ LAST_TIMESTAMP) s.rows (All-weaker (IsRow s.catalog) (λ (e : Key × Row). e.0.ts ≤ LAST_TIMESTAMP) (λ e h. h.key.time) s.rows sound.rows)

pub source_time : (q : Query) (c : Catalog) → IsValid c → (source_of q.source c ≡ Other) ⊎ (lacks_time (source_schema q.source c).columns ≡ false)
source_time q c valid = by (table_named q.source c) refl (stable_named q.source c) refl
  where
    by : (t : Option ℕ) → table_named q.source c ≡ t → (s : Option ℕ) → stable_named q.source c ≡ s → (source_by t s ≡ Other) ⊎ (lacks_time (schema_from (source_by t s) c).columns ≡ false)
    by (Some n) e s f = inr (table_time c valid q.source n e)
    by None e (Some n) f = inr (stable_time c valid q.source n f)
    by None e None f = inl refl

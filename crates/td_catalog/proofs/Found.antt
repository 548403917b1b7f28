-- What the maps of a catalog find by a key is what the catalog finds by the name.
use Rattle.std.proofs.Common.{◌≡◌, ℕ, ◌+◌, Bool, false, true≢false, List, Option, None, Some, is_some, ap, sym, ◌∙◌, refl, position}
use Rattle.indexmap.proofs.MapLemmas.{some_index}
use Rattle.td_model.specs.declared.catalog.StreamEntry.{StreamEntry}
use Rattle.std.specs.Option.{option_map}
use Rattle.std.specs.Str.{bytes_eq}
use Rattle.std.specs.Map.{keys_of, values_of, lookup}
use Rattle.td_catalog.specs.declared.catalog.Catalog.TheInside.{Inside}
use Rattle.td_model.specs.Catalog.{stable_named, table_named, stream_named, target_named}
use Rattle.td_catalog.specs.Inside.{catalog_of, IsInOrder}
use Rattle.td_catalog.specs.Tables.{table_of}
use Rattle.td_catalog.proofs.Names.{position-named, position-map, stream-found, target-found}

none_of : {X : Type 0} (o : Option X) → is_some o ≡ false → o ≡ None
none_of None h = refl
none_of (Some x) h = absurd (true≢false h)

unmapped : {X Y : Type 0} (f : X → Y) (o : Option X) → option_map f o ≡ None → o ≡ None
unmapped f None h = refl
unmapped f (Some x) h = absurd (true≢false (ap is_some h))

module _ (a : Inside) (h : IsInOrder a) (name : List ℕ) where
  pub stable-found : option_map (λ i. i + 1) (position (λ k. bytes_eq name k.items) (keys_of a.stables.entries)) ≡ stable_named name (catalog_of a)
  stable-found = ap (option_map (λ i. i + 1)) (position-named (λ k. k.items) (λ x. x.name) name a.stables.entries h.stables)

  pub table-found : option_map (λ i. i + 1) (position (λ k. bytes_eq name k.items) (keys_of a.tables.entries)) ≡ table_named name (catalog_of a)
  table-found =
      ap (option_map (λ i. i + 1)) (position-named (λ k. k.items) (λ x. x.name) name a.tables.entries h.tables ∙ sym (position-map (λ t. bytes_eq t.name name) table_of (values_of a.tables.entries)))

  pub stream_of_name : option_map (λ e. e.number) (lookup (λ k. bytes_eq name k.items) a.streams.entries) ≡ stream_named name (catalog_of a)
  stream_of_name = stream-found (λ k. k.items) name a.streams.entries h.streams

  pub stream_of_target : lookup (λ k. bytes_eq name k.items) a.targets.entries ≡ target_named name (catalog_of a)
  stream_of_target = target-found (λ k. k.items) name a.streams.entries a.targets.entries h.targets

-- where nothing is found by the name, no key is equal to the name
absent : {K X : Type 0} (test : K → Bool) (es : List (K × X)) → option_map (λ i. i + 1) (position test (keys_of es)) ≡ None → lookup test es ≡ None
absent test es h = none_of (lookup test es) (sym (some_index test es) ∙ ap is_some (unmapped (λ i. i + 1) (position test (keys_of es)) h))

module _ (a : Inside) (h : IsInOrder a) (name key : List ℕ) (same : key ≡ name) where
  pub stable-absent : stable_named name (catalog_of a) ≡ None → lookup (λ k. bytes_eq key k.items) a.stables.entries ≡ None
  stable-absent free = ap (λ q. lookup (λ k. bytes_eq q k.items) a.stables.entries) same ∙ absent (λ k. bytes_eq name k.items) a.stables.entries (stable-found a h name ∙ free)

  pub table-absent : table_named name (catalog_of a) ≡ None → lookup (λ k. bytes_eq key k.items) a.tables.entries ≡ None
  table-absent free = ap (λ q. lookup (λ k. bytes_eq q k.items) a.tables.entries) same ∙ absent (λ k. bytes_eq name k.items) a.tables.entries (table-found a h name ∙ free)

  pub stream-absent : stream_named name (catalog_of a) ≡ None → lookup (λ k. bytes_eq key k.items) a.streams.entries ≡ None
  stream-absent free = ap (λ q. lookup (λ k. bytes_eq q k.items) a.streams.entries) same ∙ unmapped (λ (e : StreamEntry). e.number) (lookup (λ k. bytes_eq name k.items) a.streams.entries) (stream_of_name a h name ∙ free)

  pub target-absent : target_named name (catalog_of a) ≡ None → lookup (λ k. bytes_eq key k.items) a.targets.entries ≡ None
  target-absent free = ap (λ q. lookup (λ k. bytes_eq q k.items) a.targets.entries) same ∙ (stream_of_target a h name ∙ free)

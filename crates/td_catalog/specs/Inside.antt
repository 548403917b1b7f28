-- What the fields of a catalog stand for, and what is true of them.
use Rattle.std.specs.Prelude.{◌≡◌, ◌<◌, ◌^◌, ℕ, min, List, [], ◌∷◌, map, length, All, ⊤}
use Rattle.indexmap.specs.IndexMap.{spare, values}
use Rattle.td_model.specs.declared.catalog.StreamEntry.{StreamEntry}
use Rattle.td_model.specs.Catalog.{Catalog}
use Rattle.td_catalog.specs.declared.catalog.Catalog.TheInside.{Inside}
use Rattle.td_verdict.specs.Valid.{IsValid}
use Rattle.td_catalog.specs.Kept.{Kept}
use Rattle.td_catalog.specs.Tables.{table_of, HasParent}
use Rattle.td_catalog.specs.Groups.{AreGroups}

abbrev pub catalog_of : Inside → Catalog
catalog_of a =
    record {
      stables = values a.stables;
      tables = map table_of (values a.tables);
      streams = values a.streams;
      next_stream = a.next_stream;
    }

abbrev pub kept_of : Inside → Kept
kept_of a =
    record {
      catalog = catalog_of a;
      stable_room = min (spare a.stables) a.groups.stable_room;
      table_room = min (spare a.tables) a.groups.child_room;
      stream_room = min (spare a.streams) (spare a.targets);
    }

-- the targets of the streams, with their numbers, in the order of the streams
abbrev pub AreTargets : {K L : Type 0} → (K → List ℕ) → List (L × StreamEntry) → List (K × ℕ) → Type 0
AreTargets read [] [] = ⊤
AreTargets read [] (t ∷ ts) = ⊥
AreTargets read (e ∷ es) [] = ⊥
AreTargets read (e ∷ es) (t ∷ ts) = (read t.0 ≡ e.1.def.target) × (t.1 ≡ e.1.number) × AreTargets read es ts

-- each is kept under its name, the subtables of each supertable are known, each number fits in 32 bits, and the catalog
-- is valid
pub record IsInOrder (a : Inside) : Type 0 where
  pub stables : All (λ e. e.0.items ≡ e.1.name) a.stables.entries
  pub tables : All (λ e. e.0.items ≡ e.1.name) a.tables.entries
  pub parents : All (λ t. HasParent (length (values a.stables)) t t.parent) (values a.tables)
  pub streams : All (λ e. e.0.items ≡ e.1.def.name) a.streams.entries
  pub targets : AreTargets (λ k. k.items) a.streams.entries a.targets.entries
  pub stable_count : length a.stables.entries < 2 ^ 32
  pub table_count : length a.tables.entries < 2 ^ 32
  pub stream_count : length a.streams.entries < a.next_stream
  pub next_fits : a.next_stream < 2 ^ 32
  pub groups : AreGroups (length (values a.stables)) (map table_of (values a.tables)) a.groups.lists
  pub valid : IsValid (catalog_of a)

-- A state but for its rows.
use Rattle.std.specs.Prelude.{ℕ, List, Option}
use Rattle.td_model.specs.Catalog.{Catalog}
use Rattle.td_model.specs.State.{State}

pub record Facts : Type 0 where
  pub version : ℕ
  pub moment : ℕ
  pub catalog : Catalog
  pub stable_latest : List (Option ℕ)
  pub table_latest : List (Option ℕ)
  pub edge : ℕ
  pub halt : Option ℕ

abbrev pub facts : State → Facts
facts s =
    record {
      version = s.version;
      moment = s.moment;
      catalog = s.catalog;
      stable_latest = s.stable_latest;
      table_latest = s.table_latest;
      edge = s.edge;
      halt = s.halt;
    }

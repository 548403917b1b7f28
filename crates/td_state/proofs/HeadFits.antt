-- What a head that fits has.
use Rattle.std.proofs.Common.{◌≡◌, ◌+◌, ◌≤◌, ◌^◌, true, ◌&&◌, nat_eq, nat_le, nat_lt, [], length}
use Rattle.std.proofs.lemmas.Bool.{and_parts, leb-true}
use Rattle.td_limits.specs.declared.limits.TheConstants.{LAST_DAY_RANGE, LAST_TIMESTAMP, LAST_VERSION, TABLES}
use Rattle.td_codec.specs.Lists.{all_fit}
use Rattle.td_manifest.specs.declared.head.Head.{Head}
use Rattle.td_manifest.specs.Tables.{stable_items, table_items}
use Rattle.td_manifest.specs.Heads.{begun, edge_field, first_log_field, head_body, moment_field, next_field, objects_field, sets_field, stables_field, start_field, streams_field, tables_field, version_field}
use Rattle.td_state.specs.Heads.{FitStables, FitTables}

pub record IsFitting (h : Head) : Type 0 where
  pub version : h.version ≤ LAST_VERSION
  pub moment : h.moment ≤ LAST_TIMESTAMP
  pub edge : h.edge ≤ LAST_DAY_RANGE
  pub stables : FitStables h.stables
  pub tables : FitTables h.stables h.tables
  pub next : 1 ≤ h.next_stream

pub fitting : (h : Head) → head_body.fits h ≡ true → IsFitting h
unfolding head_body start_field objects_field stables_field tables_field sets_field streams_field
fitting h fits =
    let v = h.version in
    let ends = (first_log_field v).fits h.first_log && (edge_field v).fits h.edge in
    let start = version_field.fits v && ((moment_field v).fits h.moment && ends) in
    let catalog = (stables_field v).fits h.stables && (tables_field v h.stables).fits h.tables in
    let streams = (next_field v).fits h.next_stream && (streams_field v h.next_stream).fits h.streams in
    let sets = (sets_field v).fits h.sets in
    let f = and_parts start (catalog && (sets && streams)) fits in
    let s = and_parts (version_field.fits v) ((moment_field v).fits h.moment && ends) f.0 in
    let m = and_parts ((moment_field v).fits h.moment) ends s.1 in
    let e = and_parts ((first_log_field v).fits h.first_log) ((edge_field v).fits h.edge) m.1 in
    let g = and_parts catalog (sets && streams) f.1 in
    let c = and_parts ((stables_field v).fits h.stables) ((tables_field v h.stables).fits h.tables) g.0 in
    let n = and_parts ((next_field v).fits h.next_stream) ((streams_field v h.next_stream).fits h.streams) (and_parts sets streams g.1).1 in
    let moments = and_parts (nat_lt h.moment (2 ^ 64)) (nat_le h.moment LAST_TIMESTAMP && begun v (nat_eq h.moment 0)) m.0 in
    let edges = and_parts (nat_lt h.edge (2 ^ 32)) (nat_le h.edge LAST_DAY_RANGE && begun v (nat_eq h.edge 0)) e.1 in
    let k = length h.stables in
    let j = length h.tables in
    let ss = and_parts (nat_lt k (2 ^ 32) && (nat_le k TABLES && begun v (nat_eq k 0))) (all_fit stable_items [] h.stables) c.0 in
    let ts = and_parts (nat_lt j (2 ^ 32) && (nat_le (k + j) TABLES && begun v (nat_eq j 0))) (all_fit (table_items h.stables) [] h.tables) c.1 in
    let nexts = and_parts (nat_lt h.next_stream (2 ^ 32)) (nat_le 1 h.next_stream && begun v (nat_eq h.next_stream 1)) n.0 in
    record {
      version = leb-true v LAST_VERSION (and_parts (nat_lt v (2 ^ 64)) (nat_le v LAST_VERSION) s.0).1;
      moment = leb-true h.moment LAST_TIMESTAMP (and_parts (nat_le h.moment LAST_TIMESTAMP) (begun v (nat_eq h.moment 0)) moments.1).0;
      edge = leb-true h.edge LAST_DAY_RANGE (and_parts (nat_le h.edge LAST_DAY_RANGE) (begun v (nat_eq h.edge 0)) edges.1).0;
      stables = record {
        each = ss.1;
        few = leb-true k TABLES (and_parts (nat_le k TABLES) (begun v (nat_eq k 0)) (and_parts (nat_lt k (2 ^ 32)) (nat_le k TABLES && begun v (nat_eq k 0)) ss.0).1).0;
      };
      tables = record {
        each = ts.1;
        few = leb-true (k + j) TABLES (and_parts (nat_le (k + j) TABLES) (begun v (nat_eq j 0)) (and_parts (nat_lt j (2 ^ 32)) (nat_le (k + j) TABLES && begun v (nat_eq j 0)) ts.0).1).0;
      };
      next = leb-true 1 h.next_stream (and_parts (nat_le 1 h.next_stream) (begun v (nat_eq h.next_stream 1)) nexts.1).0;
    }

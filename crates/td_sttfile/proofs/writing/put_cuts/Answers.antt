use Rattle.std.proofs.Common.{ℕ, List, ◌++◌, map, ap, sym, ◌∙◌}
use Rattle.std.specs.List.{flat_map}
use Rattle.std.proofs.lemmas.List.Concat.{flat_map-append}
use Rattle.td_fileio.specs.declared.lists.TableRows.{TableRows}
use Rattle.td_sttfile.specs.declared.format.FileCut.{FileCut}
use Rattle.td_sttfile.specs.Written.{cut_bytes, table_cuts, all_cuts}
use Rattle.td_fileio.proofs.Adding.{then, so_far_at}
use Rattle.td_sttfile.proofs.writing.put_cuts.Goals as goal

pub loop-table-preserved : goal.loop-table-preserved
loop-table-preserved g c =
    let t = c.in-Some.table.now in
    let rest = flat_map cut_bytes (all_cuts c.in-Some.rest.now) in
    let cut_in : ℕ × ℕ → FileCut = λ r. record { table = t.table; lo = r.0; hi = r.1 } in
    let first = ap (λ (l : List TableRows). flat_map cut_bytes (all_cuts l)) c.in-Some.ensures.cases.0 ∙ flat_map-append cut_bytes (table_cuts t) (all_cuts c.in-Some.rest.now) in
    let own = ap (λ (l : List (ℕ × ℕ)). flat_map cut_bytes (map cut_in l) ++ rest) (sym c.as_slice.ensures) in
    then (flat_map cut_bytes (map cut_in c.as_slice.result.now)) rest (so_far_at (first ∙ own) c.loop-table.invariant) c.in_ok-put_table_cuts.ensures

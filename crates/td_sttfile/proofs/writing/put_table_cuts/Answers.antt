use Rattle.std.proofs.Common.{ℕ, List, map, ap}
use Rattle.std.specs.List.{flat_map}
use Rattle.td_sttfile.specs.declared.format.FileCut.{FileCut}
use Rattle.td_sttfile.specs.Written.{cut_bytes}
use Rattle.td_fileio.proofs.Adding.{then, so_far_at}
use Rattle.td_sttfile.proofs.writing.put_table_cuts.Goals as goal

pub loop-cut-preserved : goal.loop-cut-preserved
loop-cut-preserved g c =
    let cut_in : ℕ × ℕ → FileCut = λ r. record { table = c.args.table; lo = r.0; hi = r.1 } in
    let s = so_far_at (ap (λ (l : List (ℕ × ℕ)). flat_map cut_bytes (map cut_in l)) c.in-Some.ensures.cases.0) c.loop-cut.invariant in
    then (cut_bytes (cut_in c.in-Some.cut.now)) (flat_map cut_bytes (map cut_in c.in-Some.rest.now)) s c.in_ok-put_cut.ensures

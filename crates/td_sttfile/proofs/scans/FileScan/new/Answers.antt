use Rattle.std.proofs.Common.{ℕ, sym, subst, rules}
use Rattle.std.specs.List.{AllByRecursion}
use Rattle.td_layer.specs.declared.parts.Partial.{Partial}
use Rattle.td_layer.specs.Columns.{AreColumnCells}
use Rattle.td_block.specs.Rows.{Rows}
use Rattle.td_sttfile.specs.Scanning.{want_of}
use Rattle.td_sttfile.proofs.States.{left_rises}
use Rattle.td_sttfile.proofs.scans.FileScan.new.Goals as goal

pub invariant_of-result : goal.invariant_of-result
invariant_of-result g c = record {
  ahead = search rules;
  order = left_rises (want_of c.args.wanted) (g.F.FileBytes.bytes c.args.file) c.new-3.result (record { range = 0; blocks = 0; at = 0; last = record { table = 0; ts = 0 } });
  values = subst (λ (l : Rows). AllByRecursion (λ (row : ℕ × Partial). AreColumnCells row.1.cells) l) (sym c.new-3.ensures) tt;
  fresh = search rules;
  opened = search rules;
}

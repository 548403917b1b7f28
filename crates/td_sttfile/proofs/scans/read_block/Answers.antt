use Rattle.std.proofs.Common.{◌≡◌, ℕ, None, Some, Ok}
use Rattle.std.proofs.lemmas.Result.{err_from_is_err_and}
use Rattle.td_layer.specs.declared.parts.Partial.{Partial}
use Rattle.td_layer.specs.Columns.{AreColumnCells}
use Rattle.td_fileio.proofs.ReadLaws.{told_1}
use Rattle.td_sttfile.specs.Blocks.{block_at}
use Rattle.td_sttfile.specs.Scanned.{is_wanted, wanted_of}
use Rattle.td_sttfile.specs.Scanning.{want_of, Keeps}
use Rattle.td_sttfile.proofs.Walks.{all_filtered, all_of_reversed, spot_behind, spot_ended, read_some, read_none, read_fault}
use Rattle.td_sttfile.proofs.scans.read_block.Goals as goal

pub returns-in_err-found-clause-faults : goal.returns-in_err-found-clause-faults
returns-in_err-found-clause-faults g c =
    let p = err_from_is_err_and c.from_residual.result c.from_residual.ensures.1 in
    rw (p.1, p.2) (read_fault (want_of c.args.wanted.now) (g.F.FileBytes.bytes c.args.file.now) (g.F.FileBytes.file c.args.file.now) c.args.spot.now c.in_err-found.field-0.0 c.requires.some c.in_err-found.ensures.read)

pub returns-in-None-clause-keeps : goal.returns-in-None-clause-keeps
returns-in-None-clause-keeps g c =
    let want = want_of c.args.wanted.now in
    let spot = c.args.spot.now in
    let read = rw c.in-None.is at c.in_ok-found.ensures.read in
    told_1 (g.F.FileBytes.bytes c.args.file.now) (λ all. block_at want.kinds want.table want.lo want.hi spot.range spot.last spot.at all ≡ Ok None) (Keeps want c.args.rows.now c.args.rows.now spot (spot_ended spot)) (λ all e. read_none want c.args.rows.now spot all c.requires.some e) read

pub returns-in_ok-rows-in-Some-clause-keeps : goal.returns-in_ok-rows-in-Some-clause-keeps
returns-in_ok-rows-in-Some-clause-keeps g c =
    let want = want_of c.args.wanted.now in
    let spot = c.args.spot.now in
    let f = c.in-Some.found in
    let read = rw c.in-Some.is at c.in_ok-found.ensures.read in
    told_1 (g.F.FileBytes.bytes c.args.file.now) (λ all. block_at want.kinds want.table want.lo want.hi spot.range spot.last spot.at all ≡ Ok (Some f)) (Keeps want c.args.rows.now c.in_ok-rows-in-Some.field-0 spot (spot_behind spot f))
    (λ all e. read_some want c.args.rows.now c.in_ok-rows-in-Some.field-0 spot f all c.requires.some c.requires.rows c.in_ok-rows-in-Some.ensures e) read

pub returns-in_ok-rows-in-Some-clause-values : goal.returns-in_ok-rows-in-Some-clause-values
returns-in_ok-rows-in-Some-clause-values g c =
    let want = want_of c.args.wanted.now in
    let values = rw c.in-Some.is at c.in_ok-found.ensures.values in
    all_of_reversed (λ (row : ℕ × Partial). AreColumnCells row.1.cells) c.in_ok-rows-in-Some.field-0 (wanted_of want.lo want.hi c.in-Some.found.rows) c.in_ok-rows-in-Some.ensures
    (all_filtered (λ (row : ℕ × Partial). AreColumnCells row.1.cells) (is_wanted want.lo want.hi) c.in-Some.found.rows values)

use Rattle.std.proofs.Common.{◌≡◌, ◌+◌, ◌^◌, ◌<◌, Ok, reverse, arith, rules}
use Rattle.std.proofs.lemmas.Result.{err_from_is_err_and}
use Rattle.td_fileio.proofs.ReadLaws.{told_1}
use Rattle.td_datafile.specs.Scanned.{wanted_block}
use Rattle.td_datafile.specs.Scanning.{want_of, Keeps}
use Rattle.td_datafile.proofs.Walks.{entry_here, spot_moved, keeps_more, room_here, room_more, read_fault}
use Rattle.td_datafile.proofs.scans.read_block.Goals as goal

pub wanted_block-requires-clause-place : goal.wanted_block-requires-clause-place
wanted_block-requires-clause-place g c =
    let room = room_here c.args.entries.now c.args.spot.now c.entry_at-entry.result.now c.entry_at-entry.ensures c.requires.room in
    omega (arith, room)

pub entry_length-long-requires : goal.entry_length-long-requires
entry_length-long-requires g c =
    let room = room_here c.args.entries.now c.args.spot.now c.entry_at-entry.result.now c.entry_at-entry.ensures c.requires.room in
    omega (arith, room)

pub overflow_add-spot : goal.overflow_add-spot
overflow_add-spot g c =
    let room = room_here c.args.entries.now c.args.spot.now c.entry_at-entry.result.now c.entry_at-entry.ensures c.requires.room in
    let long = c.entry_length-long.ensures in
    let fits : c.args.spot.now.place + c.entry_length-long.result < 2 ^ 64 = omega (arith, room, long) in
    search (rules, arith)

pub returns-in_err-found-clause-faults : goal.returns-in_err-found-clause-faults
returns-in_err-found-clause-faults g c =
    let p = err_from_is_err_and c.from_residual.result c.from_residual.ensures.1 in
    let entry = c.entry_at-entry.result.now in
    let spot = c.args.spot.now in
    rw (p.1, p.2) (read_fault (want_of c.args.wanted.now) c.args.entries.now (g.F.FileBytes.bytes c.args.file.now) (g.F.FileBytes.file c.args.file.now) spot entry c.in_err-found.field-0.0 (entry_here c.args.entries.now spot.next entry c.entry_at-entry.ensures) c.in_err-found.ensures.read)

pub returns-clause-keeps : goal.returns-clause-keeps
returns-clause-keeps g c =
    let want = want_of c.args.wanted.now in
    let entries = c.args.entries.now in
    let entry = c.entry_at-entry.result.now in
    let spot = c.args.spot.now in
    let found = c.in_ok-found.found in
    let long = c.entry_length-long.result in
    told_1 (g.F.FileBytes.bytes c.args.file.now) (λ all. wanted_block want spot.range spot.last spot.place entry all ≡ Ok (reverse found)) (Keeps want entries c.args.rows.now found spot (spot_moved spot entry long))
    (λ all e. keeps_more want entries c.args.rows.now found spot entry long all c.entry_length-long.ensures c.entry_at-entry.ensures c.requires.rows e) c.in_ok-found.ensures.read

pub returns-clause-room : goal.returns-clause-room
returns-clause-room g c = room_more c.args.entries.now c.args.spot.now c.entry_at-entry.result.now c.entry_length-long.result c.entry_length-long.ensures c.entry_at-entry.ensures c.requires.room

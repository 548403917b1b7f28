use Rattle.std.proofs.Common.{◌++◌}
use Rattle.std.specs.Int.{w32, w64, to_le_bytes}
use Rattle.std.specs.Io.KnownBytes.{append_known}
use Rattle.td_fileio.proofs.WriteLaws.{begins_adding}
use Rattle.td_fileio.proofs.Adding.{then, finally}
use Rattle.td_sttfile.proofs.writing.put_cut.Goals as goal

pub returns : goal.returns
returns g c =
    let table = to_le_bytes w32 c.args.table in
    let lo = to_le_bytes w64 c.args.lo in
    let hi = to_le_bytes w64 c.args.hi in
    let s0 = begins_adding (append_known (g.W.Writer.written c.args.out.now) c.args.waiting.now.items) (g.W.Writer.name c.args.out.now) (g.W.Writer.count c.args.out.now) (table ++ (lo ++ hi)) in
    let s1 = then table (lo ++ hi) s0 c.in_ok-put_u32.ensures in
    let s2 = then lo hi s1 c.in_ok-put_u64.ensures in
    finally hi s2 c.in_ok-put_u64-2.ensures

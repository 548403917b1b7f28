use Rattle.std.specs.Prelude.{◌++◌}
use Rattle.std.specs.Int.{w32, w64, to_le_bytes}
use Rattle.td_manifest.specs.Heads.{start_field}
use Rattle.td_manifest.proofs.WritingLaws.{and_then}
use Rattle.td_manifest.proofs.writing.put_start.Goals as goal

pub returns : goal.returns
unfolding start_field
returns c =
    let h = c.args.head.now in
    let edge = to_le_bytes w32 h.edge in
    let log = to_le_bytes w64 h.first_log in
    let moment = to_le_bytes w64 h.moment in
    and_then c.args.out.now (to_le_bytes w64 h.version) c.put_u64.new.out (moment ++ (log ++ edge)) c.put_u32.new.out c.in_ok-put_u64.ensures
    (and_then c.put_u64.new.out moment c.put_u64-2.new.out (log ++ edge) c.put_u32.new.out c.in_ok-put_u64-2.ensures
    (and_then c.put_u64-2.new.out log c.put_u64-3.new.out edge c.put_u32.new.out c.in_ok-put_u64-3.ensures c.in_ok-put_u32.ensures))

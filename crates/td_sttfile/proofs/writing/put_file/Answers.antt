use Rattle.std.proofs.Common.{ℕ, List, ◌++◌, length, ap, sym}
use Rattle.std.specs.List.{flat_map}
use Rattle.std.specs.Int.{w32, to_le_bytes}
use Rattle.std.specs.Io.KnownBytes.{append_known}
use Rattle.td_fileio.specs.Lists.{all_blocks}
use Rattle.td_fileio.proofs.WriteLaws.{begins_adding}
use Rattle.td_sttfile.specs.declared.format.TheConstants.{FILE_MAGIC, FILE_END}
use Rattle.td_sttfile.specs.Written.{all_cuts, cut_bytes, bytes_of_block, file_bytes}
use Rattle.td_fileio.proofs.Adding.{then, finally, so_far_at}
use Rattle.td_sttfile.proofs.writing.put_file.Goals as goal

pub returns : goal.returns
unfolding file_bytes
returns g c =
    let tables = c.args.tables.now in
    let magic = to_le_bytes w32 FILE_MAGIC in
    let range = to_le_bytes w32 c.args.range in
    let end = to_le_bytes w32 FILE_END in
    let cuts = flat_map cut_bytes (all_cuts tables) in
    let blocks = flat_map bytes_of_block (all_blocks tables) in
    let count : ℕ → List ℕ = λ n. to_le_bytes w32 n in
    let behind_cuts = count (length (all_blocks tables)) ++ (blocks ++ end) in
    let behind_range = count (length (all_cuts tables)) ++ (cuts ++ behind_cuts) in
    let s0 = begins_adding (append_known (g.W.Writer.written c.args.out.now) c.args.waiting.now.items) (g.W.Writer.name c.args.out.now) (g.W.Writer.count c.args.out.now) (magic ++ (range ++ behind_range)) in
    let s1 = then magic (range ++ behind_range) s0 c.in_ok-put_u32.ensures in
    let s2 = then range behind_range s1 c.in_ok-put_u32-2.ensures in
    let s3 = then (count c.count_cuts.result) (cuts ++ behind_cuts) (so_far_at (ap (λ (n : ℕ). count n ++ (cuts ++ behind_cuts)) (sym c.count_cuts.ensures)) s2) c.in_ok-put_u32-3.ensures in
    let s4 = then cuts behind_cuts s3 c.in_ok-put_cuts.ensures in
    let s5 = then (count c.count_blocks.result) (blocks ++ end) (so_far_at (ap (λ (n : ℕ). count n ++ (blocks ++ end)) (sym c.count_blocks.ensures)) s4) c.in_ok-put_u32-4.ensures in
    let s6 = then blocks end s5 c.in_ok-put_tables.ensures in
    finally end s6 c.in_ok-put_u32-5.ensures

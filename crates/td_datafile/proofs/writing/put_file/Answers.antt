use Rattle.std.proofs.Common.{◌≡◌, ℕ, List, ◌++◌, ◌+◌, length, ap, sym, ◌∙◌}
use Rattle.std.specs.List.{flat_map}
use Rattle.std.specs.Int.{w32, w64, to_le_bytes}
use Rattle.std.specs.Io.KnownBytes.{append_known}
use Rattle.td_fileio.specs.Lists.{all_blocks}
use Rattle.td_fileio.proofs.WriteLaws.{begins_adding}
use Rattle.td_datafile.specs.declared.format.TheConstants.{FILE_MAGIC, FILE_END}
use Rattle.td_datafile.specs.Index.{bytes_of_block, index_of, entry_bytes}
use Rattle.td_datafile.specs.Written.{blocks_begin, file_bytes}
use Rattle.td_fileio.proofs.Adding.{then, finally, so_far_at}
use Rattle.td_datafile.proofs.writing.put_file.Goals as goal

pub returns : goal.returns
unfolding file_bytes
returns g c =
    let tables = c.args.tables.now in
    let magic = to_le_bytes w32 FILE_MAGIC in
    let range = to_le_bytes w32 c.args.range in
    let count : ℕ → List ℕ = λ n. to_le_bytes w32 n in
    let blocks = flat_map bytes_of_block (all_blocks tables) in
    let index = flat_map entry_bytes (index_of blocks_begin (all_blocks tables)) in
    let place : ℕ → List ℕ = λ n. to_le_bytes w64 n in
    let end = to_le_bytes w32 FILE_END in
    let behind_index = place (blocks_begin + length blocks) ++ end in
    let behind_blocks = index ++ behind_index in
    let behind_range = count (length (all_blocks tables)) ++ (blocks ++ behind_blocks) in
    let s0 = begins_adding (append_known (g.W.Writer.written c.args.out.now) c.args.waiting.now.items) (g.W.Writer.name c.args.out.now) (g.W.Writer.count c.args.out.now) (magic ++ (range ++ behind_range)) in
    let s1 = then magic (range ++ behind_range) s0 c.in_ok-put_u32.ensures in
    let s2 = then range behind_range s1 c.in_ok-put_u32-2.ensures in
    let s3 = then (count c.count_blocks.result) (blocks ++ behind_blocks) (so_far_at (ap (λ (n : ℕ). count n ++ (blocks ++ behind_blocks)) (sym c.count_blocks.ensures)) s2) c.in_ok-put_u32-3.ensures in
    let s4 = then blocks behind_blocks s3 c.in_ok-end.ensures.adds in
    let given : index ≡ c.as_slice.result.now = sym (c.as_slice.ensures ∙ c.in_ok-end.ensures.index ∙ ap (λ (l : List ℕ). l ++ index) c.new-index.ensures) in
    let s5 = then c.as_slice.result.now behind_index (so_far_at (ap (λ (l : List ℕ). l ++ behind_index) given) s4) c.in_ok-put.ensures in
    let s6 = then (place c.in_ok-end.end) end (so_far_at (ap (λ (n : ℕ). place n ++ end) (sym c.in_ok-end.ensures.next)) s5) c.in_ok-put_u64.ensures in
    finally end s6 c.in_ok-put_u32-4.ensures

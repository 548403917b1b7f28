use Rattle.std.proofs.Common.{◌≡◌, length, take, drop, arith, sym, ap, ◌∙◌}
use Rattle.std.proofs.lemmas.Grind.{common_steps}
use Rattle.td_memdev.specs.Memory.{Feed}
use Rattle.td_memdev.proofs.Pieces.{read_piece, nothing_left}
use Rattle.td_memdev.proofs.source.MemSourceSource.read.Goals as goal

pub returns-clause-bytes : goal.returns-clause-bytes
returns-clause-bytes c =
    let at = c.self.inside.at in
    let bytes = c.self.inside.bytes in
    let n = c.min-count.result in
    let copied = c.copy_from_slice.new.self in
    let left : drop at bytes ≡ c.args.self.now.left = ap (λ (f : Feed). f.left) c.self.view_is in
    let is : copied ≡ take n (drop at bytes) = grind (arith, common_steps) in
    let len : length copied ≡ n = grind (arith, common_steps) in
    (sym left ∙ read_piece at n bytes copied (drop n c.args.buf.now) is len, λ none room. nothing_left at n bytes (grind (arith, common_steps)))

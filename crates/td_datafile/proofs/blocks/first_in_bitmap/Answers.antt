use Rattle.std.proofs.Common.{◌≡◌, ◌<◌, ◌≤◌, false, eqb, length, get_or, drop, sym, ◌∙◌, arith}
use Rattle.std.proofs.lemmas.Bool.Decides.{nat_tests}
use Rattle.td_datafile.specs.Blocks.{full_bitmap}
use Rattle.td_datafile.proofs.Named.{full_length, other_cut, other_differs, other_done}
use Rattle.td_datafile.proofs.blocks.first_in_bitmap.Goals as goal

pub returns-then-place-part : goal.returns-then-place-part
returns-then-place-part c =
    sym (other_cut (drop c.loop-byte.byte (full_bitmap c.args.rows)) c.args.part.now c.loop-byte.place (omega (arith, c.if-place-part.true))) ∙ c.loop-byte.invariant.so_far

pub returns-then-full_byte-part : goal.returns-then-full_byte-part
returns-then-full_byte-part c =
    let full = full_bitmap c.args.rows in
    let part = c.args.part.now in
    let byte = c.loop-byte.byte in
    let place = c.loop-byte.place in
    let in_full : byte < length full = omega (arith, full_length c.args.rows, c.loop-byte-test.true, c.bitmap_length-byte-end.ensures) in
    let in_part : place < length part = omega (arith, c.loop-byte.invariant.within, c.if-place-part.false) in
    let differs : eqb (get_or full byte 0) (get_or part place 0) ≡ false = grind (arith, nat_tests, c.if-full_byte-part.true, c.full_byte.ensures) in
    sym (other_differs full part byte place in_full in_part differs) ∙ c.loop-byte.invariant.so_far

pub returns : goal.returns
returns c =
    let full = full_bitmap c.args.rows in
    let out : length full ≤ c.loop-byte.byte = omega (arith, full_length c.args.rows, c.loop-byte-test.false, c.bitmap_length-byte-end.ensures) in
    sym (other_done full (drop c.loop-byte.place c.args.part.now) c.loop-byte.byte c.loop-byte.place out) ∙ c.loop-byte.invariant.so_far

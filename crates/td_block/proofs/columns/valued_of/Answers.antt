use Rattle.std.proofs.Common.{ℕ, ◌≡◌, ◌<◌, eqb, get_or, length, take, refl, ap, arith}
use Rattle.std.specs.Prelude.{bit_and}
use Rattle.std.proofs.lemmas.Result.{err_from_is_err_and}
use Rattle.td_block.specs.Bits.{bitmap_length}
use Rattle.td_block.specs.Columns.{valued_bytes}
use Rattle.td_block.proofs.Loops.{front_goes_on, front_ends, front_is_done}
use Rattle.td_block.proofs.columns.valued_of.Goals as goal

pub returns-in_err-after : goal.returns-in_err-after
returns-in_err-after c =
    let p = err_from_is_err_and c.from_residual.result c.from_residual.ensures.1 in
    let lt : c.loop-at.at < bitmap_length c.args.rows = omega (arith, c.loop-at-test.true, c.bitmap_length-at-end.ensures) in
    rw (p.1, p.2) (front_ends (valued_bytes c.args.names.now) c.in_err-after.field-0.0 (bitmap_length c.args.rows) c.args.bytes.now c.loop-at.rest.now (take c.loop-at.at c.args.bytes.now) c.loop-at.at refl lt c.in_err-after.ensures c.loop-at.invariant)

pub loop-at-preserved : goal.loop-at-preserved
loop-at-preserved c =
    let lt : c.loop-at.at < bitmap_length c.args.rows = omega (arith, c.loop-at-test.true, c.bitmap_length-at-end.ensures) in
    front_goes_on (valued_bytes c.args.names.now) (λ l byte. eqb (bit_and byte (get_or c.args.names.now (length l) 0)) byte) (bitmap_length c.args.rows) c.args.bytes.now c.loop-at.rest.now (take c.loop-at.at c.args.bytes.now) c.loop-at.at c.in_ok-after.field-0-0 c.in_ok-after.after.now
    (λ i. (c.type_inv.bytes i).fits) (λ l. refl) refl lt c.in_ok-after.ensures c.loop-at.invariant

pub returns : goal.returns
returns c =
    let end : c.loop-at.at ≡ bitmap_length c.args.rows = omega (arith, c.loop-at-test.false, c.bitmap_length-at-end.ensures, c.loop-at.auto.at-end) in
    front_is_done (valued_bytes c.args.names.now) (bitmap_length c.args.rows) c.args.bytes.now c.loop-at.rest.now (take c.bitmap_length.result c.args.bytes.now) c.loop-at.at end (ap (λ (k : ℕ). take k c.args.bytes.now) c.bitmap_length.ensures) c.loop-at.invariant

use Rattle.std.proofs.Common.{◌≡◌, ◌≢◌, [], ◌+◌, ◌≤◌, length, sym, ap, subst, arith}
use Rattle.std.proofs.lemmas.Grind.{common_steps}
use Rattle.std.proofs.lemmas.Bool.Decides.{nat_tests}
use Rattle.td_script.specs.Script.{IsScript}
use Rattle.td_script.specs.Reading.{shown, step}
use Rattle.td_script.proofs.Cutting.{shorter}
use Rattle.td_script.proofs.Progress.{Progress, begun, goes_on, stops, ended, has_count, few_lines, small_phase, small_counts, no_bytes}
use Rattle.td_script.proofs.reading.script.Goals as goal

pub loop-rest-init : goal.loop-rest-init
loop-rest-init c = begun c.args.bytes.now c.new-numbering.result c.new-numbering.ensures.phase c.new-numbering.ensures.counts c.new-numbering.ensures.lines

pub returns-in-None-clause-fault : goal.returns-in-None-clause-fault
returns-in-None-clause-fault c =
    let some : c.loop-rest.rest.now ≢ [] = λ e. grind (arith, nat_tests) in
    stops c.args.bytes.now c.loop-rest.rest.now c.loop-rest.number c.loop-rest.numbering c.first_line.result.0.now c.first_line.result.1.now c.loop-rest.invariant some c.first_line.ensures (sym c.in-None.ensures)

pub add-requires-clause-phase : goal.add-requires-clause-phase
add-requires-clause-phase c =
    let some : 1 ≤ length c.loop-rest.rest.now = grind (arith, nat_tests) in
    omega (arith, c.requires, some, small_phase c.args.bytes.now c.loop-rest.rest.now c.loop-rest.number c.loop-rest.numbering c.loop-rest.invariant)

pub add-requires-clause-counts : goal.add-requires-clause-counts
add-requires-clause-counts c =
    let some : 1 ≤ length c.loop-rest.rest.now = grind (arith, nat_tests) in
    λ i h. omega (arith, c.requires, some, small_counts c.args.bytes.now c.loop-rest.rest.now c.loop-rest.number c.loop-rest.numbering c.loop-rest.invariant i h)

pub add-requires-clause-session : goal.add-requires-clause-session
add-requires-clause-session c = has_count c.first_line.result.0.now (shown c.in-Some.kind) (sym c.in-Some.ensures)

pub loop-rest-smaller : goal.loop-rest-smaller
loop-rest-smaller c =
    let some : c.loop-rest.rest.now ≢ [] = λ e. grind (arith, nat_tests) in
    shorter c.loop-rest.rest.now c.first_line.result.0.now c.first_line.result.1.now some c.first_line.ensures

pub loop-rest-preserved : goal.loop-rest-preserved
loop-rest-preserved c =
    let some : c.loop-rest.rest.now ≢ [] = λ e. grind (arith, nat_tests) in
    let added : c.add.new.self ≡ step c.loop-rest.numbering (shown c.in-Some.kind) = grind (arith, common_steps) in
    subst (Progress c.args.bytes.now c.first_line.result.1.now (c.loop-rest.number + 1)) (sym added)
    (goes_on c.args.bytes.now c.loop-rest.rest.now c.loop-rest.number c.loop-rest.numbering c.first_line.result.0.now c.first_line.result.1.now (shown c.in-Some.kind) c.loop-rest.invariant some c.first_line.ensures (sym c.in-Some.ensures))

pub returns-clause-script : goal.returns-clause-script
returns-clause-script c =
    let nothing : c.loop-rest.rest.now ≡ [] = no_bytes c.loop-rest.rest.now (grind (arith, nat_tests)) in
    let whole : IsScript c.args.bytes.now c.loop-rest.numbering.lines = ended c.args.bytes.now c.loop-rest.number c.loop-rest.numbering (subst (λ x. Progress c.args.bytes.now x c.loop-rest.number c.loop-rest.numbering) nothing c.loop-rest.invariant) in
    subst (IsScript c.args.bytes.now) (sym c.into_lines.ensures) whole

pub returns-clause-few : goal.returns-clause-few
returns-clause-few c = omega (arith, ap length c.into_lines.ensures, few_lines c.args.bytes.now c.loop-rest.rest.now c.loop-rest.number c.loop-rest.numbering c.loop-rest.invariant)

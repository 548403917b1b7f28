use Rattle.std.proofs.Common.{◌≡◌, ◌+◌, ◌-◌, ◌<◌, min, map, take, drop, length, sym, ap, ◌∙◌, arith}
use Rattle.std.proofs.lemmas.Bool.Decides.{nat_tests}
use Rattle.std.proofs.lemmas.List.{length-map}
use Rattle.td_trigger.specs.Ranges.{taking_in}
use Rattle.td_trigger.specs.Regions.{extent}
use Rattle.td_trigger.proofs.Segments.{state_segment, some_old}
use Rattle.td_trigger.proofs.widening.widened_state.Goals as goal

pub returns-clause-value : goal.returns-clause-value
returns-clause-value c =
    let old = c.args.old.now in
    let first = c.first_ending_from-first.ensures in
    let past = c.first_starting_after-past.ensures in
    let n = length-map old extent in
    let some : 0 < length old = grind (arith, nat_tests) in
    let lower = c.saturating_sub.ensures in
    let upper : c.min.result ≡ min (c.first_starting_after-past.result + 1) (length (map extent old)) = c.min.ensures ∙ ap (min (c.first_starting_after-past.result + 1)) (sym n) in
    c.taking_in.ensures.value ∙ ap (λ k. taking_in c.args.range (drop k (take c.min.result (map extent old)))) lower ∙ ap (λ k. taking_in c.args.range (drop (c.first_ending_from-first.result - 1) (take k (map extent old)))) upper ∙ ap (taking_in c.args.range) (state_segment c.args.range (map extent old) c.first_ending_from-first.result c.first_starting_after-past.result c.requires.ordered c.requires.in_order (omega (arith, n, first.inside)) (omega (arith, n, past.inside)) first.before first.from past.before past.from) ∙ sym (some_old (map extent old) c.args.range (omega (arith, n, some)))

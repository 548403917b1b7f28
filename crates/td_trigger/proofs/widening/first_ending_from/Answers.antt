use Rattle.std.proofs.Common.{◌+◌, ◌<◌, ◌≤◌, ltb, rules}
use Rattle.std.proofs.lemmas.Bool.{ltb-true, ltb-false}
use Rattle.std.proofs.lemmas.List.Sorted.{IsPartitionPoint-from_clause, IsPartitionedBy-ltb}
use Rattle.td_window.specs.declared.span.Span.{Span}
use Rattle.td_trigger.specs.Regions.{extent}
use Rattle.td_trigger.proofs.Segments.{before_point, after_point, ends_in_order}
use Rattle.td_trigger.proofs.widening.first_ending_from.Goals as goal

pub returns-clause-before : goal.returns-clause-before
returns-clause-before c =
    let test = λ (w : Span). ltb ((extent w).hi + c.args.tol) c.args.time in
    let parted = IsPartitionedBy-ltb (λ (w : Span). (extent w).hi + c.args.tol) c.args.old.now c.args.time (ends_in_order c.args.tol c.args.old.now c.requires.in_order) in
    let point = IsPartitionPoint-from_clause test c.args.old.now _ c.partition_point.ensures.partitioned parted (λ a r q k. search rules) in
    before_point extent (λ w. w.hi + c.args.tol < c.args.time) test (λ s e. ltb-true _ _ e) c.args.old.now _ point.0 c.partition_point.ensures.bound

pub returns-clause-from : goal.returns-clause-from
returns-clause-from c =
    let test = λ (w : Span). ltb ((extent w).hi + c.args.tol) c.args.time in
    let parted = IsPartitionedBy-ltb (λ (w : Span). (extent w).hi + c.args.tol) c.args.old.now c.args.time (ends_in_order c.args.tol c.args.old.now c.requires.in_order) in
    let point = IsPartitionPoint-from_clause test c.args.old.now _ c.partition_point.ensures.partitioned parted (λ a r q k. search rules) in
    after_point extent (λ w. c.args.time ≤ w.hi + c.args.tol) test (λ s e. ltb-false _ _ e) c.args.old.now _ point.1

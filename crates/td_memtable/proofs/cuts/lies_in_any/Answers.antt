use Rattle.std.proofs.Common.{ℕ, ltb, rules}
use Rattle.std.proofs.lemmas.List.Sorted.{IsPartitionPoint-from_clause, IsPartitionedBy-ltb}
use Rattle.td_memtable.proofs.OneJoin.{ends_rise, Parts, found_none, found_here}
use Rattle.td_memtable.proofs.cuts.lies_in_any.Goals as goal

pub returns-then-at-ranges : goal.returns-then-at-ranges
returns-then-at-ranges c =
    let parted = IsPartitionedBy-ltb (λ (r : ℕ × ℕ). r.1) c.args.ranges.now c.args.ts (ends_rise c.args.ranges.now c.requires) in
    let point = IsPartitionPoint-from_clause (λ (r : ℕ × ℕ). ltb r.1 c.args.ts) c.args.ranges.now _ c.partition_point-at.ensures.partitioned parted (λ a r q k. search rules) in
    let parts : Parts c.args.ts c.args.ranges.now c.partition_point-at.result = record { before = point.0; from = point.1 } in
    found_here c.args.ts c.args.ranges.now c.partition_point-at.result _ c.requires parts c.if-at-ranges.true

pub returns-else-at-ranges : goal.returns-else-at-ranges
returns-else-at-ranges c =
    let parted = IsPartitionedBy-ltb (λ (r : ℕ × ℕ). r.1) c.args.ranges.now c.args.ts (ends_rise c.args.ranges.now c.requires) in
    let point = IsPartitionPoint-from_clause (λ (r : ℕ × ℕ). ltb r.1 c.args.ts) c.args.ranges.now _ c.partition_point-at.ensures.partitioned parted (λ a r q k. search rules) in
    let parts : Parts c.args.ts c.args.ranges.now c.partition_point-at.result = record { before = point.0; from = point.1 } in
    found_none c.args.ts c.args.ranges.now c.partition_point-at.result c.requires parts c.if-at-ranges.false

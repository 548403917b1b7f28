use Rattle.std.proofs.Common.{◌-◌, ◌^◌, sym, ap, subst, ◌∙◌}
use Rattle.td_layer.specs.Keys.{InKeyOrder}
use Rattle.td_memtree.specs.Within.{pairs_within}
use Rattle.td_memtable.specs.Contents.{key_at}
use Rattle.td_memtable.specs.Tables.{first_time}
use Rattle.td_levels.proofs.Least.{first_fits, least_none, least_some}
use Rattle.td_levels.proofs.ranges.least_of_table.Goals as goal

pub day_of-requires : goal.day_of-requires
day_of-requires c =
    let start = ap (λ lo. first_time (pairs_within (key_at c.args.table lo) (key_at c.args.table (2 ^ 64 - 1)) c.args.memtable.now.puts)) c.day_start.ensures in
    first_fits c.args.table c.args.from c.args.memtable.now.puts c.requires c.in-Some.ts (sym start ∙ sym c.first_put.ensures.first ∙ c.in-Some.is)

pub returns-in-None : goal.returns-in-None
returns-in-None c =
    let start = ap (λ lo. first_time (pairs_within (key_at c.args.table lo) (key_at c.args.table (2 ^ 64 - 1)) c.args.memtable.now.puts)) c.day_start.ensures in
    least_none c.args.table c.args.from c.args.memtable.now.puts c.requires (sym start ∙ sym c.first_put.ensures.first ∙ c.in-None.is)

pub returns-in-Some : goal.returns-in-Some
returns-in-Some c =
    let start = ap (λ lo. first_time (pairs_within (key_at c.args.table lo) (key_at c.args.table (2 ^ 64 - 1)) c.args.memtable.now.puts)) c.day_start.ensures in
    least_some c.args.table c.args.from c.args.memtable.now.puts c.requires c.in-Some.ts c.day_of.result (sym start ∙ sym c.first_put.ensures.first ∙ c.in-Some.is)
    (subst (λ lo. InKeyOrder (pairs_within (key_at c.args.table lo) (key_at c.args.table (2 ^ 64 - 1)) c.args.memtable.now.puts)) c.day_start.ensures c.first_put.ensures.in_order) c.day_of.ensures

use Rattle.std.proofs.Common.{◌+◌, sym, ap, subst, ◌∙◌, arith}
use Rattle.std.specs.List.{list_any}
use Rattle.td_memtable.specs.Tables.{IsFirstTable}
use Rattle.td_levels.specs.Days.{LeastFrom, has_put_of}
use Rattle.td_levels.specs.Ranges.{has_put_in}
use Rattle.td_levels.proofs.LeastOf.{least_or, least_as, below, below_none, below_next, below_rest, below_all}
use Rattle.td_levels.proofs.ranges.least_with_put.Goals as goal

pub loop-next-init : goal.loop-next-init
loop-next-init c = λ n le. below_none n c.args.memtable.now.puts

pub returns-then-next : goal.returns-then-next
returns-then-next c =
    let puts = c.args.memtable.now.puts in
    let first : IsFirstTable c.loop-next.table c.args.memtable.now c.in-Some.next = c.in-Some.ensures in
    let more : LeastFrom (λ n. list_any (below (c.in-Some.next + 1) n) puts) c.args.from c.earlier-least.result =
    subst (LeastFrom (λ n. list_any (below (c.in-Some.next + 1) n) puts) c.args.from) (sym c.earlier-least.ensures)
    (least_or (λ n. list_any (below c.loop-next.table n) puts) (λ n. has_put_of c.in-Some.next n c.args.memtable.now) (λ n. list_any (below (c.in-Some.next + 1) n) puts)
    (λ n. below_next c.loop-next.table c.in-Some.next n puts first.from_is first.no_put) c.args.from c.loop-next.least c.least_of_table.result c.loop-next.invariant c.least_of_table.ensures) in
    least_as (λ n. list_any (below (c.in-Some.next + 1) n) puts) (λ n. has_put_in n c.args.memtable.now) c.args.from c.earlier-least.result
    (λ n. below_all n puts c.requires ∙ ap (λ t. list_any (below t n) puts) (omega (arith, c.if-next.true))) more

pub loop-next-preserved : goal.loop-next-preserved
loop-next-preserved c =
    let puts = c.args.memtable.now.puts in
    let first : IsFirstTable c.loop-next.table c.args.memtable.now c.in-Some.next = c.in-Some.ensures in
    subst (LeastFrom (λ n. list_any (below (c.in-Some.next + 1) n) puts) c.args.from) (sym c.earlier-least.ensures)
    (least_or (λ n. list_any (below c.loop-next.table n) puts) (λ n. has_put_of c.in-Some.next n c.args.memtable.now) (λ n. list_any (below (c.in-Some.next + 1) n) puts)
    (λ n. below_next c.loop-next.table c.in-Some.next n puts first.from_is first.no_put) c.args.from c.loop-next.least c.least_of_table.result c.loop-next.invariant c.least_of_table.ensures)

pub returns : goal.returns
returns c =
    let puts = c.args.memtable.now.puts in
    least_as (λ n. list_any (below c.loop-next.table n) puts) (λ n. has_put_in n c.args.memtable.now) c.args.from c.loop-next.least
    (λ n. below_rest c.loop-next.table n puts c.in_default.ensures.0) c.loop-next.invariant

use Rattle.std.proofs.Common.{◌≡◌, ℕ, ◌+◌, ◌≤◌, true, false, cond, List, map, length, get_or, ltb, is_ok, is_lt, sum_by, ap, subst, ◌∙◌, arith, rules}
use Rattle.std.specs.List.{insert}
use Rattle.std.specs.List.Sorted.{IsPartitionPoint}
use Rattle.std.specs.Ordering.{nat_cmp}
use Rattle.std.proofs.lemmas.List.Edits.{length-insert}
use Rattle.std.proofs.lemmas.List.Sorted.{IsNonDecreasingBy-from_sort, IsPartitionedBy-ltb, IsPartitionPoint-from_clause}
use Rattle.td_tagidx.specs.declared.index.Subtable.{Subtable}
use Rattle.td_tagidx.specs.Subtables.{subtable_of}
use Rattle.td_tagidx.proofs.Ordered.{sorted-inserted, inserted-entry, cmp_above, not_less}
use Rattle.td_tagidx.proofs.Bags.{sum-insert}
use Rattle.td_tagidx.proofs.index.put_subtable.Goals as goal

-- the subtables before the place have smaller numbers, and those from there on have not
parts : (c : goal.After-unwrap) → IsPartitionPoint (λ s. ltb s.table c.args.subtable.table ≡ true) (λ s. ltb s.table c.args.subtable.table ≡ false) c.args.subtables.now.items c.partition_point-at.result
parts c =
    let xs : List Subtable = c.args.subtables.now.items in
    let table : ℕ = c.args.subtable.table in
    subst (λ zs. IsPartitionPoint (λ s. ltb s.table table ≡ true) (λ s. ltb s.table table ≡ false) zs c.partition_point-at.result) c.deref.ensures.value
    (IsPartitionPoint-from_clause (λ s. ltb s.table table) c.deref.result.now c.partition_point-at.result c.partition_point-at.ensures.partitioned
    (IsPartitionedBy-ltb (λ s. s.table) c.deref.result.now table (IsNonDecreasingBy-from_sort (λ s. s.table) c.deref.result.now (rw c.deref.ensures.value c.requires.numbered)))
    (λ a r q k. search rules))

within : (c : goal.After-unwrap) → c.partition_point-at.result ≤ length c.args.subtables.now.items
within c = subst (λ (zs : List Subtable). c.partition_point-at.result ≤ length zs) c.deref.ensures.value c.partition_point-at.ensures.bound

put_in : (c : goal.After-unwrap) → c.insert.new.self.items ≡ insert c.args.subtables.now.items c.partition_point-at.result c.args.subtable
put_in c =
    let ok : is_ok c.insert.result ≡ true = ap is_ok c.unwrap.ensures in
    c.insert.ensures.items ∙ ap (λ b. cond b (insert c.args.subtables.now.items c.partition_point-at.result c.args.subtable) c.args.subtables.now.items) ok

pub returns-clause-numbered : goal.returns-clause-numbered
returns-clause-numbered c =
    let xs : List Subtable = c.args.subtables.now.items in
    let ys : List Subtable = c.insert.new.self.items in
    let i : ℕ = c.partition_point-at.result in
    let s : Subtable = c.args.subtable in
    let ok : is_ok c.insert.result ≡ true = ap is_ok c.unwrap.ensures in
    let long : length ys ≡ length xs + 1 = ap length (put_in c) ∙ length-insert xs i s (within c) in
    sorted-inserted (λ a b. is_lt (nat_cmp a.table b.table)) xs ys i s c.requires.numbered (within c) long
    (λ k d h. ap is_lt (cmp_above (get_or xs k d).table s.table ((parts c).0 k d (omega arith) h)))
    (λ k d low h. not_less (get_or xs k d).table s.table ((parts c).1 k d low h))
    (λ d. c.insert.ensures.by_index.0 d ok)
    (λ k d h. c.insert.ensures.by_index.1 k d h)
    (λ k d h. c.insert.ensures.by_index.2 k d ok h)

pub returns-clause-put : goal.returns-clause-put
returns-clause-put c =
    ap (map subtable_of) (put_in c)
    ∙ inserted-entry c.args.subtables.now.items c.partition_point-at.result c.args.subtable (within c) (λ k d h. (parts c).0 k d (omega arith) h) (parts c).1 c.requires.absent

pub returns-clause-same : goal.returns-clause-same
returns-clause-same c = λ f. ap (λ xs. sum_by f xs) (put_in c) ∙ sum-insert f c.args.subtables.now.items c.partition_point-at.result c.args.subtable

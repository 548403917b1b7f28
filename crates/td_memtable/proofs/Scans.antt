-- Scans: what is left at their begin, and the cuts that a timestamp may lie in.
use Rattle.std.proofs.Common.{◌≡◌, ◌≢◌, ℕ, ◌==◌, nat_eq, nat_le, Bool, true, false, ◌&&◌, ◌||◌, List, [], ◌∷◌, map, Option, Some, None, refl, sym, ap, ◌∙◌, arith}
use Rattle.std.proofs.lemmas.Bool.Decides.{nat_tests}
use Rattle.std.specs.Borrow.{Bor}
use Rattle.std.specs.Iterator.{YieldsFirstBy}
use Rattle.std.specs.List.{AllByRecursion}
use Rattle.td_layer.specs.declared.values.Key.{Key}
use Rattle.td_layer.specs.declared.parts.Partial.{Partial}
use Rattle.td_layer.specs.Columns.{AreColumnCells}
use Rattle.td_layer.specs.Keys.{InKeyOrder}
use Rattle.td_layer.specs.Scans.{Cut, is_cut}
use Rattle.td_memtree.specs.Within.{is_within, pairs_within}
use Rattle.td_memtable.specs.Contents.{ranges_of, table_cuts}
use Rattle.td_memtable.specs.Joined.{lies_in_any, IsJoinOf}
use Rattle.td_memtable.specs.Scanned.{puts_left, IsScan}
use Rattle.td_memtable.proofs.Kept.{all-filter}

puts_left-next : (w new : List (Key × Partial)) (r : Option (Key × Bor Partial)) → YieldsFirstBy {B = Key × Partial} (λ (p : Key × Bor Partial). (p.0, p.1.now)) (λ (l : List (Key × Partial)). l) w r new → puts_left r new ≡ w
puts_left-next w new None h = sym h.0
puts_left-next w new (Some p) h = sym h

pub scan_begins : (puts w new : List (Key × Partial)) (r : Option (Key × Bor Partial)) (lo hi : Key) → AllByRecursion (λ (e : Key × Partial). AreColumnCells e.1.cells) puts → w ≡ pairs_within lo hi puts → InKeyOrder w → YieldsFirstBy {B = Key × Partial} (λ (p : Key × Bor Partial). (p.0, p.1.now)) (λ (l : List (Key × Partial)). l) w r new → IsScan (puts_left r new)
scan_begins puts w new r lo hi cells a order h =
    let kept = all-filter (λ (e : Key × Partial). AreColumnCells e.1.cells) (λ (e : Key × Partial). is_within lo hi e.0) puts cells in
    rw (puts_left-next w new r h) (record { order = order; cells = rw a kept })

-- a key lies in a cut of a table exactly where it is one of the table's, and its timestamp lies in a range of the cuts
pub cut_of_ranges : (key : Key) (table : ℕ) (ranges : List (ℕ × ℕ)) → is_cut key (map (λ (r : ℕ × ℕ). record { table = table; lo = r.0; hi = r.1 }) ranges) ≡ ((table == key.table) && lies_in_any key.ts ranges)
cut_of_ranges key table [] = by (table == key.table)
  where
    by : (b : Bool) → false ≡ (b && false)
    by true = refl
    by false = refl
cut_of_ranges key table (r ∷ ranges) = by (table == key.table) (nat_le r.0 key.ts && nat_le key.ts r.1) (cut_of_ranges key table ranges)
  where
    by : (b lies : Bool) → is_cut key (map (λ (r : ℕ × ℕ). record { table = table; lo = r.0; hi = r.1 }) ranges) ≡ (b && lies_in_any key.ts ranges)
        → ((b && lies) || is_cut key (map (λ (r : ℕ × ℕ). record { table = table; lo = r.0; hi = r.1 }) ranges)) ≡ (b && (lies || lies_in_any key.ts ranges))
    by true lies rest = rw rest refl
    by false lies rest = rest

-- A scan finds a cut by the joined ranges of its table's cuts.
pub cut_found : (key : Key) (table : ℕ) (cuts : List (Key × ℕ)) (told : List Cut) (ranges slice : List (ℕ × ℕ)) (r : Bool) → table_cuts table cuts ≡ told → IsJoinOf ranges (ranges_of table cuts) → slice ≡ ranges → r ≡ lies_in_any key.ts slice → key.table ≡ table → r ≡ is_cut key told
cut_found key table cuts told ranges slice r are j same is of_table =
    let its : (table == key.table) ≡ true = grind (arith, nat_tests) in
    let found : is_cut key (table_cuts table cuts) ≡ lies_in_any key.ts (ranges_of table cuts) = cut_of_ranges key table (ranges_of table cuts) ∙ ap (λ b. b && lies_in_any key.ts (ranges_of table cuts)) its in
    is ∙ ap (lies_in_any key.ts) same ∙ j.same key.ts ∙ sym found ∙ ap (is_cut key) are

pub cut_elsewhere : (key : Key) (table : ℕ) (cuts : List (Key × ℕ)) (told : List Cut) → table_cuts table cuts ≡ told → key.table ≢ table → nat_eq key.table table ≡ is_cut key told
cut_elsewhere key table cuts told are other =
    let its : (table == key.table) ≡ false = grind (arith, nat_tests) in
    let out : nat_eq key.table table ≡ false = grind (arith, nat_tests) in
    out ∙ sym (ap (λ b. b && lies_in_any key.ts (ranges_of table cuts)) its) ∙ sym (cut_of_ranges key table (ranges_of table cuts)) ∙ ap (is_cut key) are

-- A memtable is as every memtable after a put and a cut.
use Rattle.std.proofs.Common.{◌≡◌, ℕ, ◌+◌, ◌<◌, ◌≤◌, List, Option, Some, None, refl, sym, arith}
use Rattle.std.specs.Prelude.{IfSome, not}
use Rattle.std.specs.BTreeMap.{is_at}
use Rattle.std.specs.Ordering.{nat_cmp, ordering_then}
use Rattle.std.specs.Cmp.{ranked}
use Rattle.std.specs.declared.cmp.Ordering.{Ordering}
use Rattle.std.specs.declared.cmp.Ordering.TheVariants.{Less, Equal, Greater}
use Rattle.std.proofs.lemmas.Bool.{le-leb, lt-leb}
use Rattle.td_limits.specs.declared.limits.TheConstants.{MEMTABLE_PARTS}
use Rattle.td_layer.specs.declared.values.Key.{Key}
use Rattle.td_layer.specs.declared.parts.Partial.{Partial}
use Rattle.td_layer.specs.Columns.{AreColumnCells}
use Rattle.td_layer.specs.Keys.{key_cmp}
use Rattle.td_memtree.specs.Keys.{item_at, with_item}
use Rattle.td_memtree.specs.Within.{is_within, pairs_without}
use Rattle.td_memtree.proofs.Around.{length_put}
use Rattle.td_memtable.specs.Contents.{Contents, IsSound, put_on, with_put, key_at, later_end, with_cut}
use Rattle.td_memtable.proofs.Kept.{all-put, all-filter, length-filter_le, found, cells_over-column}

put_on-column : (p : Partial) (o : Option Partial) → AreColumnCells p.cells → IfSome o (λ (q : Partial). AreColumnCells q.cells) → AreColumnCells (put_on p o).cells
put_on-column p None a b = a
put_on-column p (Some q) a b = cells_over-column p.cells q.cells a b

pub IsSound-put : (m : Contents) (key : Key) (p : Partial) → IsSound m → m.held < MEMTABLE_PARTS → AreColumnCells p.cells → IsSound (with_put key p m)
IsSound-put m key p s room a =
    let long = length_put key_cmp m.puts key (put_on p (item_at key m.puts)) in
    let cells = put_on-column p (item_at key m.puts) a (found (is_at (key_cmp key)) (λ (q : Partial). AreColumnCells q.cells) m.puts s.cells) in
    record {
      few = omega (arith, room);
      puts = omega (arith, long.1, s.puts);
      cuts = omega (arith, s.cuts);
      cells = all-put key_cmp (λ (e : Key × Partial). AreColumnCells e.1.cells) m.puts key _ cells (λ j h. cells) s.cells;
      ends = s.ends;
    }

pub IsSound-held : (m : Contents) → IsSound m → m.held < MEMTABLE_PARTS → IsSound (record { puts = m.puts; cuts = m.cuts; held = m.held + 1 })
IsSound-held m s room = record { few = omega (arith, room); puts = omega (arith, s.puts); cuts = omega (arith, s.cuts); cells = s.cells; ends = s.ends }

-- equal keys have one timestamp
same_ts : (a b : Key) → key_cmp a b ≡ Equal → a.ts ≡ b.ts
same_ts a b same = by (nat_cmp a.table b.table) same
  where
    by : (o : Ordering) → ordering_then o (nat_cmp a.ts b.ts) ≡ Equal → a.ts ≡ b.ts
    by Less h = grind (arith, h)
    by Equal h = ranked a.ts b.ts Equal (sym h)
    by Greater h = grind (arith, h)

pub at_most_later : (lo hi end : ℕ) (other : Option ℕ) → lo ≤ hi → end ≡ later_end hi other → lo ≤ end
at_most_later lo hi end None le is = omega (arith, le, is)
at_most_later lo hi end (Some o) le is = omega (arith, le, is)

pub IsSound-cut : (m : Contents) (lo hi key : Key) (end : ℕ) → key.ts ≤ end → IsSound m → m.held < MEMTABLE_PARTS → IsSound (record { puts = pairs_without lo hi m.puts; cuts = with_item key end m.cuts; held = m.held + 1 })
IsSound-cut m lo hi key end le s room =
    let long = length_put key_cmp m.cuts key end in
    let fewer = length-filter_le (λ (e : Key × Partial). AreColumnCells e.1.cells) (λ (e : Key × Partial). not (is_within lo hi e.0)) m.puts in
    record {
      few = omega (arith, room);
      puts = omega (arith, fewer, s.puts);
      cuts = omega (arith, long.1, s.cuts);
      cells = all-filter (λ (e : Key × Partial). AreColumnCells e.1.cells) (λ (e : Key × Partial). not (is_within lo hi e.0)) m.puts s.cells;
      ends = all-put key_cmp (λ (c : Key × ℕ). c.0.ts ≤ c.1) m.cuts key end le (λ j h. let ts = same_ts key j h in omega (arith, ts, le)) s.ends;
    }

pub with_cut-none : (table lo hi : ℕ) (m : Contents) → hi < lo → with_cut table lo hi m ≡ record { puts = m.puts; cuts = m.cuts; held = m.held + 1 }
with_cut-none table lo hi m h = rw (lt-leb lo hi h) refl

pub with_cut-some : (table lo hi : ℕ) (m : Contents) → lo ≤ hi → with_cut table lo hi m ≡ record { puts = pairs_without (key_at table lo) (key_at table hi) m.puts; cuts = with_item (key_at table lo) (later_end hi (item_at (key_at table lo) m.cuts)) m.cuts; held = m.held + 1 }
with_cut-some table lo hi m h = rw (le-leb lo hi h) refl

pub sound_after_put : (m : Contents) (key : Key) (p part : Partial) (o : Option Partial) (puts : List (Key × Partial)) → IsSound m → m.held < MEMTABLE_PARTS → AreColumnCells p.cells → puts ≡ with_item key part m.puts → part ≡ put_on p o → o ≡ item_at key m.puts → IsSound (record { puts = puts; cuts = m.cuts; held = m.held + 1 })
sound_after_put m key p part o puts s room cells a b c = rw (a, b, c) (IsSound-put m key p s room cells)

pub sound_after_cut : (m : Contents) (lo hi key : Key) (end : ℕ) (puts : List (Key × Partial)) (cuts : List (Key × ℕ)) → key.ts ≤ end → IsSound m → m.held < MEMTABLE_PARTS → puts ≡ pairs_without lo hi m.puts → cuts ≡ with_item key end m.cuts → IsSound (record { puts = puts; cuts = cuts; held = m.held + 1 })
sound_after_cut m lo hi key end puts cuts le s room a b = rw (a, b) (IsSound-cut m lo hi key end le s room)

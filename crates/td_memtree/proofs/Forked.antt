-- A fork over two sound branches.
use Rattle.std.proofs.Common.{◌≡◌, ℕ, ◌+◌, List, ◌++◌, length, sym, ap, ◌∙◌, arith, length-append}
use Rattle.td_layer.specs.declared.values.Key.{Key}
use Rattle.td_layer.specs.Keys.{key_cmp}
use Rattle.td_memtree.specs.declared.branch.Fork.{Fork}
use Rattle.td_memtree.specs.Keys.{Balanced}
use Rattle.td_memtree.specs.Parts.{Parts}
use Rattle.td_memtree.specs.Branches.{IsSound, ForkIsFit}
use Rattle.td_memtree.proofs.Keyed.{keys_total}
use Rattle.td_memtree.proofs.Around.{rises_both}
use Rattle.td_memtree.proofs.AtFork.{AtFork}

pub fork_fit : {T : Type 0} (key : Key) (l r : List (Key × T) × ℕ) → IsSound l → IsSound r → Parts key l.0 r.0 → Balanced l.1 r.1 → (forks count : ℕ) → forks ≡ l.1 + r.1 + 1 → count ≡ length l.0 + length r.0 → ForkIsFit {T = T} (record { forks = forks; count = count; key = key; left = l; right = r })
fork_fit {T} key l r a b p h forks count e g =
    let long = length-append l.0 r.0 in
    record {
      rises = rises_both key_cmp keys_total key l.0 r.0 a.rises b.rises p.before p.from;
      full = omega (arith, a.full, b.full, long);
      left_some = omega (arith, a.full);
      right_some = omega (arith, b.full);
      parted = p;
      balanced = h;
      forks = e;
      count = g ∙ sym long;
    }

-- a fork f of which a turn made the sides x and y
pub turned : {T : Type 0} {d : List (Key × T) × ℕ} {f : Fork T} → AtFork d f → (key : Key) (l r x y : List (Key × T) × ℕ) → x ≡ r → y ≡ l → IsSound x → IsSound y → r.0 ++ l.0 ≡ f.left.0 ++ f.right.0 → r.1 + l.1 ≡ f.left.1 + f.right.1 → Parts key r.0 l.0 → Balanced r.1 l.1 → ForkIsFit {T = T} (record { forks = f.forks; count = f.count; key = key; left = x; right = y })
turned {T} {d} {f} here key l r x y a b sx sy p n parts bal =
    let long : length r.0 + length l.0 ≡ length (f.left.0 ++ f.right.0) = sym (length-append r.0 l.0) ∙ ap length p in
    fork_fit key x y sx sy (rw (a, b) parts) (rw (a, b) bal) f.forks f.count (rw (a, b) (omega (arith, here.fit.forks, n))) (rw (a, b) (omega (arith, here.fit.count, long)))

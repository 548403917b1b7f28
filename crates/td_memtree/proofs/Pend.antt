-- A branch that is put on the pending branches, or taken off.
use Rattle.std.proofs.Common.{◌≡◌, ℕ, suc, ◌+◌, ◌*◌, ◌^◌, ◌<◌, ◌≤◌, true, false, List, [], ◌∷◌, ◌++◌, length, Option, Some, None, refl, sym, ap, ◌∙◌, subst, append_assoc, arith}
use Rattle.std.proofs.lemmas.List.{append-nil, length-append}
use Rattle.std.proofs.Math.Nat.{mul-le-mul_left}
use Rattle.std.specs.Borrow.{Bor}
use Rattle.std.specs.Prelude.{⊤}
use Rattle.std.specs.Iterator.{MakesProgress, item_count}
use Rattle.td_layer.specs.declared.values.Key.{Key}
use Rattle.td_memtree.specs.declared.branch.Branch.{Branch}
use Rattle.td_memtree.specs.declared.branch.Fork.{Fork}
use Rattle.td_memtree.specs.Pending.{own_pairs, left_pairs, IsLight, IsPending, ArePending}
use Rattle.td_memtree.proofs.AtFork.{AtFork}
use Rattle.td_memtree.proofs.Levels.{IsLight-suc, few_levels}

pub left_pairs-push : {T : Type 0} (ps : List (Option (Bor (Branch T)))) (p : Option (Bor (Branch T))) → left_pairs (ps ++ p ∷ []) ≡ own_pairs p ++ left_pairs ps
left_pairs-push [] p = sym (append-nil (own_pairs p))
left_pairs-push (q ∷ ps) p = ap (λ t. t ++ own_pairs q) (left_pairs-push ps p) ∙ append_assoc (own_pairs p) (left_pairs ps) (own_pairs q)

pub ArePending-push : {T : Type 0} (k : ℕ) (ps : List (Option (Bor (Branch T)))) (p : Option (Bor (Branch T))) → ArePending k ps → IsPending (length ps + k) p → ArePending k (ps ++ p ∷ [])
ArePending-push k [] p a b = (subst (λ j. IsPending j p) (omega arith) b, tt)
ArePending-push k (q ∷ ps) p a b = (a.0, ArePending-push (suc k) ps p a.1 (subst (λ j. IsPending j p) (omega arith) b))

pub ArePending-pop : {T : Type 0} (k : ℕ) (ps : List (Option (Bor (Branch T)))) (p : Option (Bor (Branch T))) → ArePending k (ps ++ p ∷ []) → ArePending k ps × IsPending (length ps + k) p
ArePending-pop k [] p a = (tt, subst (λ j. IsPending j p) (omega arith) a.0)
ArePending-pop k (q ∷ ps) p a =
    let i = ArePending-pop (suc k) ps p a.1 in
    ((a.0, i.0), subst (λ j. IsPending j p) (omega arith) i.1)

-- the last of the pending branches, and those before it
pub record Popped {T : Type 0} (ps qs : List (Option (Bor (Branch T)))) (b : Bor (Branch T)) : Type 0 where
  pub pairs : left_pairs ps ≡ b.now.0 ++ left_pairs qs
  pub pending : ArePending 0 qs
  pub light : IsLight (length qs) (b.now.1 + 1)

pub popped : {T : Type 0} {ps qs : List (Option (Bor (Branch T)))} {b : Bor (Branch T)} → ArePending 0 ps → ps ≡ qs ++ Some b ∷ [] → Popped ps qs b
popped {T} {ps} {qs} {b} a is =
    let i = ArePending-pop 0 qs (Some b) (subst (ArePending 0) is a) in
    record {
      pairs = ap left_pairs is ∙ left_pairs-push qs (Some b);
      pending = i.0;
      light = subst (λ j. IsLight j (b.now.1 + 1)) (omega arith) i.1.light;
    }

-- the leaves of a fork's sides under those of the fork
pub weights : {T : Type 0} {d : List (Key × T) × ℕ} {f : Fork T} → AtFork d f → (4 * (f.left.1 + 1) ≤ 3 * (d.1 + 1)) × (f.right.1 + 1 ≤ d.1 + 1) × (2 ≤ d.1 + 1)
weights {T} {d} {f} here = (omega (arith, here.forks, here.fit.balanced.0, here.fit.balanced.1), omega (arith, here.forks), omega (arith, here.forks))

light_below : (k l d : ℕ) → l ≤ d → IsLight k d → IsLight k l
light_below k l d a b = omega (arith, mul-le-mul_left (4 ^ k) a, b)

pub has_room : {T : Type 0} {d : List (Key × T) × ℕ} {f : Fork T} → AtFork d f → (k : ℕ) → IsLight k (d.1 + 1) → k < 75
has_room here k light = few_levels k _ (weights here).2 light

-- the right side b of a fork is put on the pending branches ps
pub record Pushed {T : Type 0} (ps qs : List (Option (Bor (Branch T)))) (b : Bor (Branch T)) (left : ℕ) : Type 0 where
  pub pairs : left_pairs qs ≡ b.now.0 ++ left_pairs ps
  pub pending : ArePending 0 qs
  pub light : IsLight (length qs) (left + 1)

pub pushed : {T : Type 0} {d : List (Key × T) × ℕ} {f : Fork T} {ps qs : List (Option (Bor (Branch T)))} {b : Bor (Branch T)} → AtFork d f → ArePending 0 ps → IsLight (length ps) (d.1 + 1) → qs ≡ ps ++ Some b ∷ [] → b.now ≡ f.right → Pushed ps qs b f.left.1
pushed {T} {d} {f} {ps} {qs} {b} here a light is e =
    let own : IsLight (length ps) (f.right.1 + 1) = light_below (length ps) _ _ (weights here).1 light in
    let beside : IsLight (length ps + 0) (b.now.1 + 1) = rw e (subst (λ j. IsLight j (f.right.1 + 1)) (omega arith) own) in
    let long : length (ps ++ Some b ∷ []) ≡ suc (length ps) = omega (arith, length-append ps (Some b ∷ [])) in
    rw is (record {
      pairs = left_pairs-push ps (Some b);
      pending = ArePending-push 0 ps (Some b) a (record { some = refl; light = beside });
      light = rw long (IsLight-suc (length ps) (f.left.1 + 1) (d.1 + 1) (weights here).0 light);
    })

-- a side that stands where its fork would have stood
pub light_right : {T : Type 0} {d : List (Key × T) × ℕ} {f : Fork T} → AtFork d f → (k : ℕ) → IsLight k (d.1 + 1) → IsLight k (f.right.1 + 1)
light_right here k light = light_below k _ _ (weights here).1 light

pub never_none : {T : Type 0} (ps qs : List (Option (Bor (Branch T)))) → ArePending 0 ps → ps ≡ qs ++ None ∷ [] → ⊥
never_none ps qs a is =
    let i = ArePending-pop 0 qs None (subst (ArePending 0) is a) in
    let h : false ≡ true = i.1.some in
    cc

-- what a walk of a left side, a right side and the pending pairs gives
pub seamed : {A : Type 0} (d l own ps qs out : List A) → d ≡ l ++ own → qs ≡ own ++ ps → out ≡ l ++ qs → out ≡ d ++ ps
seamed d l own ps qs out a b e = e ∙ ap (λ t. l ++ t) b ∙ sym (append_assoc l own ps) ∙ ap (λ t. t ++ ps) (sym a)

none : {A : Type 0} (l : List A) → length l ≡ 0 → l ≡ []
none [] z = refl
none (x ∷ l) z = absurd (omega (arith, z))

-- The first pair of a branch b that was taken off the pending ones, where the leaf before it has none left: it is the
-- first one of the leaf to which a descent of b leads.
pub walked : {A B : Type 0} (d rest old mid b leaf more new : List (A × B)) (e : A × B) (k : A) (i : B) → rest ++ old ≡ d → length rest ≡ 0 → old ≡ b ++ mid → leaf ++ new ≡ b ++ mid → leaf ≡ e ∷ more → k ≡ e.0 → i ≡ e.1 → d ≡ (k, i) ∷ (more ++ new)
walked d rest old mid b leaf more new e k i v z a h s x y =
    let same : e ≡ (k, i) = rw (x, y) refl in
    sym v ∙ ap (λ t. t ++ old) (none rest z) ∙ a ∙ sym h ∙ ap (λ t. t ++ new) s ∙ ap (λ t. t ∷ (more ++ new)) same

pub progress : {A I : Type 0} (d out : List A) (e : A) (x : I) → d ≡ e ∷ out → MakesProgress (λ _. ⊤) (item_count {A = A} (λ (l : List A). l)) d (Some x) out
progress d out e x h = record { on = λ _. (tt, tt, rw h (omega arith)); keeps = tt; rests = λ _. tt }

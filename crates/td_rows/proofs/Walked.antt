-- Rows before a timestamp, taken out one after another while a walk goes over all rows.
use Rattle.std.proofs.Common.{◌≡◌, ◌<◌, ◌≤◌, ℕ, Bool, true, false, cond, not, nat_le, [], ◌∷◌, filter, refl, sym, ap, ◌∙◌, arith}
use Rattle.std.specs.BTreeMap.{is_at}
use Rattle.std.specs.Map.{remove_entry}
use Rattle.std.specs.Ordering.{is_eq, is_le}
use Rattle.std.proofs.lemmas.Bool.{le-leb, lt-leb}
use Rattle.std.proofs.lemmas.Bool.Decides.{nat_tests}
use Rattle.td_layer.specs.declared.values.Key.{Key}
use Rattle.td_layer.specs.declared.values.Row.{Row}
use Rattle.td_model.specs.State.{Rows, key_cmp}
use Rattle.td_rows.proofs.InOrder.{same_key}

module _ (q : Key → Bool) where
  -- where each row is one to keep, all are kept
  all_kept : (rows : Rows) → filter (λ e. not (q e.0)) rows ≡ [] → rows ≡ filter (λ e. q e.0) rows
  all_kept [] h = refl
  all_kept (e ∷ es) h = by (q e.0) h (all_kept es)
    where
      by : (b : Bool) → cond (not b) (e ∷ filter (λ e. not (q e.0)) es) (filter (λ e. not (q e.0)) es) ≡ [] → (filter (λ e. not (q e.0)) es ≡ [] → es ≡ filter (λ e. q e.0) es) → e ∷ es ≡ cond b (e ∷ filter (λ e. q e.0) es) (filter (λ e. q e.0) es)
      by true h rest = ap (λ r. e ∷ r) (rest h)
      by false h rest = absurd (cc)

  module _ (same : (a b : Key) → is_at (key_cmp a) b ≡ true → q a ≡ q b) (key : Key) (out : q key ≡ false) where
    -- the rows to keep stay as another is removed
    others_stay : (rows : Rows) → filter (λ e. q e.0) (remove_entry (is_at (key_cmp key)) rows) ≡ filter (λ e. q e.0) rows
    others_stay [] = refl
    others_stay (e ∷ es) = by (is_at (key_cmp key) e.0) refl (others_stay es)
      where
        left_out : (b : Bool) → b ≡ false → filter (λ e. q e.0) es ≡ cond b (e ∷ filter (λ e. q e.0) es) (filter (λ e. q e.0) es)
        left_out false h = refl
        left_out true h = absurd (cc)

        by : (b : Bool) → is_at (key_cmp key) e.0 ≡ b → filter (λ e. q e.0) (remove_entry (is_at (key_cmp key)) es) ≡ filter (λ e. q e.0) es
            → filter (λ e. q e.0) (cond b es (e ∷ remove_entry (is_at (key_cmp key)) es)) ≡ cond (q e.0) (e ∷ filter (λ e. q e.0) es) (filter (λ e. q e.0) es)
        by true at rest = left_out (q e.0) (sym (same key e.0 at) ∙ out)
        by false at rest = ap (λ r. cond (q e.0) (e ∷ r) r) rest

    -- of the others it alone goes
    one_goes : (rows : Rows) → filter (λ e. not (q e.0)) (remove_entry (is_at (key_cmp key)) rows) ≡ remove_entry (is_at (key_cmp key)) (filter (λ e. not (q e.0)) rows)
    one_goes [] = refl
    one_goes (e ∷ es) = by (is_at (key_cmp key) e.0) (q e.0) refl refl (one_goes es)
      where
        by : (b c : Bool) → is_at (key_cmp key) e.0 ≡ b → q e.0 ≡ c → filter (λ e. not (q e.0)) (remove_entry (is_at (key_cmp key)) es) ≡ remove_entry (is_at (key_cmp key)) (filter (λ e. not (q e.0)) es)
            → filter (λ e. not (q e.0)) (cond b es (e ∷ remove_entry (is_at (key_cmp key)) es)) ≡ remove_entry (is_at (key_cmp key)) (cond (not c) (e ∷ filter (λ e. not (q e.0)) es) (filter (λ e. not (q e.0)) es))
        by true true at is rest = let no_such : true ≡ false = sym is ∙ sym (same key e.0 at) ∙ out in absurd (cc)
        by true false at is rest = rw at refl
        by false true at is rest = rw is rest
        by false false at is rest = rw (at, is) (ap (λ r. e ∷ r) rest)

same_late : (ts : ℕ) (a b : Key) → is_at (key_cmp a) b ≡ true → nat_le ts a.ts ≡ nat_le ts b.ts
same_late ts a b at = grind (arith, nat_tests)

-- no key is before this one
from_first : (k : Key) → is_le (key_cmp (record { table = 0; ts = 0 }) k) ≡ true
from_first k = grind (arith, nat_tests)

all_from_first : (rows : Rows) → filter (λ e. is_le (key_cmp (record { table = 0; ts = 0 }) e.0)) rows ≡ rows
all_from_first [] = refl
all_from_first (e ∷ es) = rw (from_first e.0) (ap (λ r. e ∷ r) (all_from_first es))

-- Of the rows `all`: those that are left, and those that the walk has still to come to. The rows to keep are all left, and
-- of the others those that are still to come.
pub record Keeping (ts : ℕ) (all left rest : Rows) : Type 0 where
  pub kept : filter (λ e. nat_le ts e.0.ts) left ≡ filter (λ e. nat_le ts e.0.ts) all
  pub gone : filter (λ e. not (nat_le ts e.0.ts)) left ≡ filter (λ e. not (nat_le ts e.0.ts)) rest

pub keeping : (ts : ℕ) (tree all left rest : Rows) → tree ≡ all → left ≡ tree → rest ≡ filter (λ e. is_le (key_cmp (record { table = 0; ts = 0 }) e.0)) tree → Keeping ts all left rest
keeping ts tree all left rest is a b =
    let same : left ≡ all = a ∙ is in
    let whole : rest ≡ all = b ∙ all_from_first tree ∙ is in
    record { kept = ap (filter (λ e. nat_le ts e.0.ts)) same; gone = ap (filter (λ e. not (nat_le ts e.0.ts))) (same ∙ sym whole) }

pub keep_row : (ts : ℕ) (all left rest after : Rows) (e : Key × Row) → Keeping ts all left rest → rest ≡ e ∷ after → ts ≤ e.0.ts → Keeping ts all left after
keep_row ts all left rest after e k is late =
    let first : filter (λ e. not (nat_le ts e.0.ts)) (e ∷ after) ≡ filter (λ e. not (nat_le ts e.0.ts)) after = rw (le-leb ts e.0.ts late) refl in
    record { kept = k.kept; gone = k.gone ∙ ap (filter (λ e. not (nat_le ts e.0.ts))) is ∙ first }

pub take_row : (ts : ℕ) (all left rest after new : Rows) (e : Key × Row) → Keeping ts all left rest → rest ≡ e ∷ after → e.0.ts < ts → new ≡ remove_entry (is_at (key_cmp e.0)) left → Keeping ts all new after
take_row ts all left rest after new e k is early taken =
    let out : nat_le ts e.0.ts ≡ false = lt-leb ts e.0.ts early in
    let first : filter (λ e. not (nat_le ts e.0.ts)) (e ∷ after) ≡ e ∷ filter (λ e. not (nat_le ts e.0.ts)) after = rw out refl in
    let at : is_at (key_cmp e.0) e.0 ≡ true = ap is_eq (same_key e.0) in
    let goes : remove_entry (is_at (key_cmp e.0)) (e ∷ filter (λ e. not (nat_le ts e.0.ts)) after) ≡ filter (λ e. not (nat_le ts e.0.ts)) after = rw at refl in
    rw taken (record {
      kept = others_stay (λ k. nat_le ts k.ts) (same_late ts) e.0 out left ∙ k.kept;
      gone = one_goes (λ k. nat_le ts k.ts) (same_late ts) e.0 out left
          ∙ ap (remove_entry (is_at (key_cmp e.0))) (k.gone ∙ ap (filter (λ e. not (nat_le ts e.0.ts))) is ∙ first) ∙ goes;
    })

pub kept_all : (ts : ℕ) (all left rest : Rows) → Keeping ts all left rest → rest ≡ [] → left ≡ filter (λ e. nat_le ts e.0.ts) all
kept_all ts all left rest k none = all_kept (λ k. nat_le ts k.ts) left (k.gone ∙ ap (filter (λ e. not (nat_le ts e.0.ts))) none) ∙ k.kept

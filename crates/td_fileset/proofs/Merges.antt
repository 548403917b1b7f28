-- What a step of a merge does to its rows, its faults and its steps.
use Rattle.std.proofs.Common.{◌≡◌, ℕ, ◌+◌, ◌-◌, ◌^◌, ◌≤◌, ◌⊎◌, inl, inr, List, [], ◌∷◌, length, map, Option, Some, None, refl, sym, ap, ◌∙◌, subst, arith}
use Rattle.std.specs.Prelude.{reverse, IfSome, Result, Ok, Err, min}
use Rattle.std.specs.List.{AllByRecursion}
use Rattle.std.specs.Option.{option_map, option_and_then}
use Rattle.td_layer.specs.declared.values.Key.{Key}
use Rattle.td_layer.specs.declared.values.Row.{Row}
use Rattle.td_layer.specs.declared.parts.Partial.{Partial}
use Rattle.td_layer.specs.declared.scans.ScanFault.{ScanFault}
use Rattle.td_layer.specs.Scans.{Cut, Places, HasScanCause}
use Rattle.td_fileset.specs.Stack.{Layer, rows_of}
use Rattle.td_fileset.specs.Sources.{Fed, with_first, layer_of, told_layer, IsSettled, past}
use Rattle.td_fileset.specs.Merged.{told_layers, waiting, faults_of, least_key, all_acted, merged, IsTaken, behind, held, HasSteps}
use Rattle.td_fileset.proofs.Fronts.{passed, acts, first_row, no_row}
use Rattle.td_fileset.proofs.Feds.{tell_all, all_tell, least_up_to, least_waits, none_waits, are_from, all_acted_is, all_passed, all_used, Waits}
use Rattle.td_fileset.proofs.Causes.{counts_of}
use Rattle.td_fileset.proofs.Counting.{sum_by_reverse, sum_reverse, one_fewer, all_fall, wait_left}

-- ---- rows

pub ended : (fs : List Fed) (old : Option (List Layer)) → AllByRecursion IsSettled fs → least_key None fs ≡ None → told_layers fs ≡ old → IsTaken (option_map reverse old) (option_map reverse old) (Ok None)
ended fs None s h e = tt
ended fs (Some ls) s h e =
    let none = no_row ls (all_used fs ls s (tell_all fs ls e) (none_waits None fs h).1) in
    (none, none)

-- a scan that tells nothing tells nothing once its partial is used
untold_layer : (k : Key) (f : Fed) → told_layer f ≡ None → told_layer (past k f) ≡ None
untold_layer k f h = by f.left f.cuts refl refl h
  where
    by : (left : Option (List (Key × Partial))) (cuts : Option (List Cut)) → f.left ≡ left → f.cuts ≡ cuts → layer_of (option_map (with_first f.ahead) left) cuts ≡ None → told_layer (past k f) ≡ None
    by None cuts e es h = rw e refl
    by (Some rest) None e es h = rw (e, es) refl
    by (Some rest) (Some all) e es h = absurd (cc)

untold : (k : Key) (fs : List Fed) → told_layers fs ≡ None → told_layers (map (past k) fs) ≡ None
untold k [] h = absurd (cc)
untold k (f ∷ fs) h = by (told_layer f) (told_layers fs) refl refl h (untold k fs)
  where
    none_more : (o : Option Layer) → option_and_then (λ x. option_map (λ (xs : List Layer). x ∷ xs) None) o ≡ None
    none_more None = refl
    none_more (Some l) = refl

    by : (o : Option Layer) (os : Option (List Layer)) → told_layer f ≡ o → told_layers fs ≡ os → option_and_then (λ x. option_map (λ xs. x ∷ xs) os) o ≡ None
        → (told_layers fs ≡ None → told_layers (map (past k) fs) ≡ None) → told_layers (map (past k) (f ∷ fs)) ≡ None
    by None os e es h rest = rw (untold_layer k f e) refl
    by (Some l) None e es h rest = ap (λ os. option_and_then (λ x. option_map (λ (xs : List Layer). x ∷ xs) os) (told_layer (past k f))) (rest es) ∙ none_more (told_layer (past k f))
    by (Some l) (Some ls) e es h rest = absurd (cc)

told_past : (k : Key) (fs : List Fed) (ls : List Layer) → AllByRecursion IsSettled fs → told_layers fs ≡ Some ls → told_layers (map (past k) fs) ≡ Some (map (passed k) ls)
told_past k fs ls s e = all_tell (map (past k) fs) (map (passed k) ls) (all_passed k fs ls s (tell_all fs ls e))

pub taken : (k : Key) (fs : List Fed) (old new : Option (List Layer)) (row : Option Row) → AllByRecursion IsSettled fs → least_key None fs ≡ Some k → told_layers fs ≡ old → told_layers (map (past k) fs) ≡ new
    → IfSome (all_acted k fs None) (λ r. row ≡ r) → IsTaken (option_map reverse old) (option_map reverse new) (Ok (Some (k, row)))
taken k fs None new row s h e n a = subst (λ (o : Option (List Layer)). IsTaken None (option_map reverse o) (Ok (Some (k, row)))) (sym (untold k fs e) ∙ n) tt
taken k fs (Some ls) new row s h e n a =
    let up = (least_up_to None fs k h).1 in
    let told = tell_all fs ls e in
    let is : row ≡ acts k ls None = subst (λ (o : Option (Option Row)). IfSome o (λ r. row ≡ r)) (all_acted_is k fs ls None s told up) a in
    subst (λ (o : Option (List Layer)). IsTaken (Some (reverse ls)) (option_map reverse o) (Ok (Some (k, row)))) (sym (told_past k fs ls s e) ∙ n)
    (first_row k ls (are_from k fs ls s told up) ∙ ap (λ r. behind k r (rows_of (reverse (map (passed k) ls)))) (sym is))

-- ---- faults

pub turned : (fs : List Fed) → faults_of (reverse (counts_of fs)) ≡ faults_of (counts_of fs)
turned fs = ap (λ n. min n (2 ^ 64 - 1)) (sum_reverse (counts_of fs))

pub cause_turned : {X : Type 0} (places : Option Places) (fs new : List Fed) (r : Result X ScanFault) → HasScanCause places (faults_of (counts_of fs)) (faults_of (counts_of new)) r → HasScanCause places (faults_of (reverse (counts_of fs))) (faults_of (reverse (counts_of new))) r
cause_turned places fs new r h = subst (λ (n : ℕ). HasScanCause places n (faults_of (reverse (counts_of new))) r) (sym (turned fs)) (subst (λ (n : ℕ). HasScanCause places (faults_of (counts_of fs)) n r) (sym (turned new)) h)

pub no_fault : {X : Type 0} (places : Option Places) (a b : ℕ) (x : X) → b ≡ a → HasScanCause places a b (Ok x)
no_fault places a b x e = record { later = omega arith; kept = e; fault = tt }

pub no_memory : {X : Type 0} (places : Option Places) (a b : ℕ) → b ≡ a → HasScanCause {X = X} places a b (Err Rattle.td_layer.specs.declared.scans.ScanFault.TheVariants.NoMemory)
no_memory places a b e = record { later = omega arith; kept = tt; fault = e }

pub cause_of_error : {X Y : Type 0} (places : Option Places) (a b : ℕ) (e : ScanFault) → HasScanCause {X = X} places a b (Err e) → HasScanCause {X = Y} places a b (Err e)
cause_of_error places a b e h = record { later = h.later; kept = tt; fault = h.fault }

-- passing a partial reads nothing
pub past_same : {X : Type 0} (f : Fed → X) (k : Key) (fs : List Fed) → ((g : Fed) → f (past k g) ≡ f g) → map f (map (past k) fs) ≡ map f fs
past_same f k [] same = refl
past_same f k (g ∷ fs) same = λ i. same g i ∷ past_same f k fs same i

-- ---- steps

held_turned : (ls : List Layer) → held (reverse ls) ≡ held ls
held_turned ls = sum_by_reverse (λ (l : Layer). length l.partials) ls

most_of : (before now was is : ℕ) (old new : Option (List Layer))
    → ((ls ms : List Layer) → old ≡ Some ls → new ≡ Some ms → now + held ms + was ≤ before + held ls + is)
    → IfSome (option_map reverse old) (λ was'. IfSome (option_map reverse new) (λ is'. now + held is' + was ≤ before + held was' + is))
most_of before now was is None new h = tt
most_of before now was is (Some ls) None h = tt
most_of before now was is (Some ls) (Some ms) h = rw (held_turned ls, held_turned ms) (h ls ms refl refl)

-- what waits isn't used yet
unused_of : (fs : List Fed) (told : Option (List Layer)) → told_layers fs ≡ told → IfSome (option_map reverse told) (λ is. waiting fs ≤ held is)
unused_of fs None e = tt
unused_of fs (Some ls) e = rw (held_turned ls) (wait_left fs ls (tell_all fs ls e))

-- reading alone leaves the layers
pub read_steps : (old new : List Fed) (before now : ℕ) → told_layers new ≡ told_layers old → now + waiting old ≡ before + waiting new → HasSteps (merged old) (merged new) before now 0
read_steps old new before now same e = record {
  least = omega arith;
  most = most_of before now (waiting old) (waiting new) (told_layers old) (told_layers new)
      (λ ls ms a b. let is : ls ≡ ms = some_is (sym a ∙ sym same ∙ b) in let equal : held ls ≡ held ms = ap held is in omega arith);
  unused = unused_of new (told_layers new) refl;
}
  where
    some_is : {X : Type 0} {x y : X} → Some x ≡ Some y → x ≡ y
    some_is h = cc

pub taken_steps : (k : Key) (old fs new : List Fed) (before now : ℕ) → AllByRecursion IsSettled fs → least_key None fs ≡ Some k → told_layers fs ≡ told_layers old → new ≡ map (past k) fs
    → now + waiting old ≡ before + waiting fs → HasSteps (merged old) (merged new) before now 1
taken_steps k old fs new before now s h same is e = record {
  least = let fewer = one_fewer k fs (waits (least_waits None fs k h)) in let equal : waiting new ≡ waiting (map (past k) fs) = ap waiting is in omega arith;
  most = most_of before now (waiting old) (waiting new) (told_layers old) (told_layers new) falls;
  unused = unused_of new (told_layers new) refl;
}
  where
    some_is : {X : Type 0} {x y : X} → Some x ≡ Some y → x ≡ y
    some_is h = cc

    waits : (None ≡ Some k) ⊎ Waits k fs → Waits k fs
    waits (inl e) = absurd (cc)
    waits (inr w) = w

    falls : (ls ms : List Layer) → told_layers old ≡ Some ls → told_layers new ≡ Some ms → now + held ms + waiting old ≤ before + held ls + waiting new
    falls ls ms a b =
        let told = same ∙ a in
        let left : ms ≡ map (passed k) ls = some_is (sym b ∙ ap told_layers is ∙ told_past k fs ls s told) in
        let lefts : held ms ≡ held (map (passed k) ls) = ap held left in
        let equal : waiting new ≡ waiting (map (past k) fs) = ap waiting is in
        let all = all_fall k fs ls s (tell_all fs ls told) in
        omega arith

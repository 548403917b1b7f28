-- What holds of all items of a list, and of what is found among them.
use Rattle.std.proofs.Common.{◌≡◌, ℕ, zero, suc, ◌+◌, ◌≤◌, Bool, true, false, cond, List, [], ◌∷◌, length, Option, Some, None, refl, arith}
use Rattle.std.specs.Prelude.{IfSome, slice_get, map, filter}
use Rattle.std.specs.declared.cmp.Ordering.{Ordering}
use Rattle.std.specs.declared.cmp.Ordering.TheVariants.{Less, Equal, Greater}
use Rattle.std.specs.Ordering.{match_ordering}
use Rattle.std.specs.BTreeMap.{insert_entry}
use Rattle.std.specs.List.{AllByRecursion, find, zip, filter_map, cons_option}
use Rattle.std.specs.Option.{option_map, option_or, unwrap_or}
use Rattle.td_verdict.specs.Writes.{first_given}
use Rattle.td_verdict.specs.Causes.{when, first_cause}
use Rattle.td_model.specs.declared.report.Cause.{Cause}

pub if_mapped : {X Y : Type 0} (P : X → Type 0) (Q : Y → Type 0) (f : X → Y) (o : Option X)
    → ((x : X) → P x → Q (f x)) → IfSome o P → IfSome (option_map f o) Q
if_mapped P Q f None k h = tt
if_mapped P Q f (Some x) k h = k x h

pub if_either : {X : Type 0} (P : X → Type 0) (o p : Option X) → IfSome o P → IfSome p P → IfSome (option_or o p) P
if_either P None p h i = i
if_either P (Some x) p h i = h

pub either_value : {X : Type 0} (P : X → Type 0) (o : Option X) (x : X) → IfSome o P → P x → P (unwrap_or o x)
either_value P None x h i = i
either_value P (Some y) x h i = h

pub if_at : {X : Type 0} (P : X → Type 0) (xs : List X) (i : ℕ) → AllByRecursion P xs → IfSome (slice_get xs i) P
if_at P [] i h = tt
if_at P (x ∷ xs) zero h = h.0
if_at P (x ∷ xs) (suc i) h = if_at P xs i h.1

pub if_found : {X : Type 0} (P : X → Type 0) (test : X → Bool) (xs : List X) → AllByRecursion P xs
    → IfSome (find test xs) P
if_found P test [] h = tt
if_found P test (x ∷ xs) h = elim (test x) as (λ b. IfSome (cond b (Some x) (find test xs)) P)
    [ true ↦ h.0 | false ↦ if_found P test xs h.1 ]

pub if_given : {A B : Type 0} (P : B → Type 0) (give : A → Option B) (xs : List A) → ((x : A) → IfSome (give x) P)
    → IfSome (first_given give xs) P
if_given P give [] k = tt
if_given P give (x ∷ xs) k = if_either P (give x) (first_given give xs) (k x) (if_given P give xs k)

pub all_zipped : {X Y : Type 0} (P : X → Type 0) (xs : List X) (ys : List Y) → AllByRecursion P xs
    → AllByRecursion (λ (p : X × Y). P p.0) (zip xs ys)
all_zipped P [] ys h = tt
all_zipped P (x ∷ xs) [] h = tt
all_zipped P (x ∷ xs) (y ∷ ys) h = (h.0, all_zipped P xs ys h.1)

all_after : {X : Type 0} (P : X → Type 0) (o : Option X) (xs : List X) → IfSome o P → AllByRecursion P xs
    → AllByRecursion P (cons_option o xs)
all_after P None xs h i = i
all_after P (Some x) xs h i = (h, i)

pub all_given : {X Y : Type 0} (P : Y → Type 0) (f : X → Option Y) (xs : List X) → ((x : X) → IfSome (f x) P)
    → AllByRecursion P (filter_map f xs)
all_given P f [] k = tt
all_given P f (x ∷ xs) k = all_after P (f x) (filter_map f xs) (k x) (all_given P f xs k)

pub all_mapped : {X Y : Type 0} (P : X → Type 0) (Q : Y → Type 0) (f : X → Y) (xs : List X)
    → ((x : X) → P x → Q (f x)) → AllByRecursion P xs → AllByRecursion Q (map f xs)
all_mapped P Q f [] k h = tt
all_mapped P Q f (x ∷ xs) k h = (k x h.0, all_mapped P Q f xs k h.1)

-- ---- how many there are

pub length_filtered : {X : Type 0} (keep : X → Bool) (xs : List X) → length (filter keep xs) ≤ length xs
length_filtered keep [] = omega arith
length_filtered keep (x ∷ xs) =
    let rest = length_filtered keep xs in
    elim (keep x) as (λ b. length (cond b (x ∷ filter keep xs) (filter keep xs)) ≤ length (x ∷ xs))
    [ true ↦ omega (arith, rest) | false ↦ omega (arith, rest) ]

pub length_inserted : {K X : Type 0} (cmp : K → K → Ordering) (es : List (K × X)) (k : K) (x : X)
    → length (insert_entry cmp es k x) ≤ length es + 1
length_inserted cmp [] k x = omega arith
length_inserted cmp (e ∷ es) k x =
    let rest = length_inserted cmp es k x in
    elim (cmp k e.0) as
    (λ o. length (match_ordering o ((k, x) ∷ e ∷ es) ((e.0, x) ∷ es) (e ∷ insert_entry cmp es k x))
    ≤ length (e ∷ es) + 1) [
      | Less ↦ omega arith
      | Equal ↦ omega arith
      | Greater ↦ omega (arith, rest)
    ]

-- ---- causes

pub if_when : (P : Cause → Type 0) (b : Bool) (cause : Cause) → P cause → IfSome (when b cause) P
if_when P true cause h = h
if_when P false cause h = tt

pub if_first : (P : Cause → Type 0) (causes : List (Option Cause))
    → AllByRecursion (λ (o : Option Cause). IfSome o P) causes → IfSome (first_cause causes) P
if_first P [] h = tt
if_first P (None ∷ causes) h = if_first P causes h.1
if_first P (Some cause ∷ causes) h = h.0

-- where no cause applies, none of the first, and none of the others, does
pub none_of_first : (o : Option Cause) (causes : List (Option Cause)) → first_cause (o ∷ causes) ≡ None → o ≡ None
none_of_first None causes h = refl
none_of_first (Some cause) causes h = h

pub none_of_others : (o : Option Cause) (causes : List (Option Cause)) → first_cause (o ∷ causes) ≡ None
    → first_cause causes ≡ None
none_of_others None causes h = h
none_of_others (Some cause) causes h = absurd (cc)

pub none_when : (b : Bool) (cause : Cause) → when b cause ≡ None → b ≡ false
none_when true cause h = absurd (cc)
none_when false cause h = refl

pub second_none : (o p : Option Cause) → (let a : Option Cause = option_or o p in a ≡ None) → p ≡ None
second_none None p h = h
second_none (Some why) p h = absurd (cc)

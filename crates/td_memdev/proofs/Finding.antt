-- What finding, setting, adding and removing do to tables.
use Rattle.std.proofs.Common.{◌≡◌, ℕ, zero, suc, ◌+◌, ◌≤◌, Bool, true, false, if◌then◌else◌, ◌==◌, List, [], ◌∷◌, ◌++◌, take, length, Option, Some, None, IfSome, IsSome, is_some, slice_get, slice_set, remove, unwrap_or, ◌-◌, map, length-append, refl, sym, ap, ◌∙◌, below_more, arith}
use Rattle.std.proofs.lemmas.Bool.{eq-eqb, eqb-true, eqb-false, ne_eqb}
use Rattle.std.specs.Option.{option_map}
use Rattle.td_memdev.specs.Tables.{find, IsTable, IsAt, AreTaken}

none_some : {T : Type 0} (x : T) → None ≡ Some x → ⊥
none_some x h = cc

true_false : true ≡ false → ⊥
true_false h = cc

pub none_parts : {T : Type 0} (b : Bool) (x : T) (r : Option T) → (if b then Some x else r) ≡ None → (b ≡ false) × (r ≡ None)
none_parts true x r h = absurd (none_some x (sym h))
none_parts false x r h = (refl, h)

some_is : {T : Type 0} (x e : T) → Some x ≡ Some e → x ≡ e
some_is x e h = ap (λ o. unwrap_or o x) h

swap_ifs : {T : Type 0} (a b : Bool) (p q r : Option T) → (a ≡ true → b ≡ true → ⊥) → (if a then p else (if b then q else r)) ≡ (if b then q else (if a then p else r))
swap_ifs true true p q r h = absurd (h refl refl)
swap_ifs true false p q r h = refl
swap_ifs false true p q r h = refl
swap_ifs false false p q r h = refl

-- two tests of one number against two others aren't both true
both : (m n k : ℕ) → (n == k) ≡ false → (m == k) ≡ true → (m == n) ≡ true → ⊥
both m n k other is_k is_n = eqb-false n k other (sym (eqb-true m n is_n) ∙ eqb-true m k is_k)

pub find_more : {T : Type 0} (number : T → ℕ) (n i : ℕ) (entries : List T) (e : T) → find number n (take i entries) ≡ None → slice_get entries i ≡ Some e → (n == number e) ≡ false → find number n (take (suc i) entries) ≡ None
find_more number n i [] e first there other = absurd (none_some e there)
find_more number n zero (x ∷ xs) e first there other = rw (ap (λ y. n == number y) (some_is x e there) ∙ other) refl
find_more number n (suc i) (x ∷ xs) e first there other =
    let parts = none_parts (n == number x) x (find number n (take i xs)) first in
    rw parts.0 (find_more number n i xs e parts.1 there other)

pub find_at : {T : Type 0} (number : T → ℕ) (n i : ℕ) (entries : List T) (e : T) → slice_get entries i ≡ Some e → number e ≡ n → find number n (take i entries) ≡ None → find number n entries ≡ Some e
find_at number n i [] e there is first = absurd (none_some e there)
find_at number n zero (x ∷ xs) e there is first = rw (eq-eqb n (number x) (sym is ∙ ap number (sym (some_is x e there)))) there
find_at number n (suc i) (x ∷ xs) e there is first =
    let parts = none_parts (n == number x) x (find number n (take i xs)) first in
    rw parts.0 (find_at number n i xs e there is parts.1)

same_test : {T : Type 0} (b : Bool) (v x : Option T) (r : Option T) → (if b then v else r) ≡ (if b then v else (if b then x else r))
same_test true v x r = refl
same_test false v x r = refl

pub find-set : {T : Type 0} (number : T → ℕ) (n i : ℕ) (entries : List T) (e v : T) → slice_get entries i ≡ Some e → number e ≡ n → find number n (take i entries) ≡ None → number v ≡ n → (m : ℕ) → find number m (slice_set entries i v) ≡ (if m == n then Some v else find number m entries)
find-set number n i [] e v there is first is_v m = absurd (none_some e there)
find-set number n zero (x ∷ xs) e v there is first is_v m =
    let is_x : number x ≡ n = ap number (some_is x e there) ∙ is in
    rw (is_v, is_x) (same_test (m == n) (Some v) (Some x) (find number m xs))
find-set number n (suc i) (x ∷ xs) e v there is first is_v m =
    let parts = none_parts (n == number x) x (find number n (take i xs)) first in
    ap (λ r. if m == number x then Some x else r) (find-set number n i xs e v there is parts.1 is_v m)
    ∙ swap_ifs (m == number x) (m == n) (Some x) (Some v) (find number m xs) (both m n (number x) parts.0)

pub find-push : {T : Type 0} (number : T → ℕ) (n : ℕ) (entries : List T) (v : T) → find number n entries ≡ None → number v ≡ n → (m : ℕ) → find number m (entries ++ v ∷ []) ≡ (if m == n then Some v else find number m entries)
find-push number n [] v first is_v m = rw is_v refl
find-push number n (x ∷ xs) v first is_v m =
    let parts = none_parts (n == number x) x (find number n xs) first in
    ap (λ r. if m == number x then Some x else r) (find-push number n xs v parts.1 is_v m)
    ∙ swap_ifs (m == number x) (m == n) (Some x) (Some v) (find number m xs) (both m n (number x) parts.0)

gone : {T : Type 0} (number : T → ℕ) (x : T) (xs : List T) (m : ℕ) (b : Bool) → (m == number x) ≡ b → find number (number x) xs ≡ None → find number m xs ≡ (if b then None else (if b then Some x else find number m xs))
gone number x xs m true is none = ap (λ k. find number k xs) (eqb-true m (number x) is) ∙ none
gone number x xs m false is none = refl

pub find-remove : {T : Type 0} (number : T → ℕ) (n i : ℕ) (entries : List T) (e : T) → slice_get entries i ≡ Some e → number e ≡ n → find number n (take i entries) ≡ None → IsTable number entries → (m : ℕ) → find number m (remove entries i) ≡ (if m == n then None else find number m entries)
find-remove number n i [] e there is first table m = absurd (none_some e there)
find-remove number n zero (x ∷ xs) e there is first table m =
    let is_x : n ≡ number x = sym (ap number (some_is x e there) ∙ is) in
    rw is_x (gone number x xs m (m == number x) refl table.0)
find-remove number n (suc i) (x ∷ xs) e there is first table m =
    let parts = none_parts (n == number x) x (find number n (take i xs)) first in
    ap (λ r. if m == number x then Some x else r) (find-remove number n i xs e there is parts.1 table.1 m)
    ∙ swap_ifs (m == number x) (m == n) (Some x) None (find number m xs) (both m n (number x) parts.0)

other_way : (n k : ℕ) → (n == k) ≡ false → (k == n) ≡ false
other_way n k h = ne_eqb k n (λ e. eqb-false n k h (sym e))

pub IsTable-set : {T : Type 0} (number : T → ℕ) (n i : ℕ) (entries : List T) (e v : T) → slice_get entries i ≡ Some e → number e ≡ n → find number n (take i entries) ≡ None → number v ≡ n → IsTable number entries → IsTable number (slice_set entries i v)
IsTable-set number n i [] e v there is first is_v table = absurd (none_some e there)
IsTable-set number n zero (x ∷ xs) e v there is first is_v table =
    let is_x : number v ≡ number x = is_v ∙ sym (ap number (some_is x e there) ∙ is) in
    (rw is_x table.0, table.1)
IsTable-set number n (suc i) (x ∷ xs) e v there is first is_v table =
    let parts = none_parts (n == number x) x (find number n (take i xs)) first in (
      find-set number n i xs e v there is parts.1 is_v (number x) ∙ rw (other_way n (number x) parts.0) table.0,
      IsTable-set number n i xs e v there is parts.1 is_v table.1,
    )

pub IsTable-push : {T : Type 0} (number : T → ℕ) (n : ℕ) (entries : List T) (v : T) → find number n entries ≡ None → number v ≡ n → IsTable number entries → IsTable number (entries ++ v ∷ [])
IsTable-push number n [] v first is_v table = (refl, tt)
IsTable-push number n (x ∷ xs) v first is_v table =
    let parts = none_parts (n == number x) x (find number n xs) first in (
      find-push number n xs v parts.1 is_v (number x) ∙ rw (other_way n (number x) parts.0) table.0,
      IsTable-push number n xs v parts.1 is_v table.1,
    )

none_both : {T : Type 0} (b : Bool) (r : Option T) → r ≡ None → (if b then None else r) ≡ None
none_both true r h = refl
none_both false r h = h

pub IsTable-remove : {T : Type 0} (number : T → ℕ) (n i : ℕ) (entries : List T) (e : T) → slice_get entries i ≡ Some e → number e ≡ n → find number n (take i entries) ≡ None → IsTable number entries → IsTable number (remove entries i)
IsTable-remove number n i [] e there is first table = absurd (none_some e there)
IsTable-remove number n zero (x ∷ xs) e there is first table = table.1
IsTable-remove number n (suc i) (x ∷ xs) e there is first table =
    let parts = none_parts (n == number x) x (find number n (take i xs)) first in (
      find-remove number n i xs e there is parts.1 table.1 (number x) ∙ none_both (number x == n) (find number (number x) xs) table.0,
      IsTable-remove number n i xs e there is parts.1 table.1,
    )

get_end : {T : Type 0} (xs : List T) (e : T) → slice_get (xs ++ e ∷ []) (length xs) ≡ Some e
get_end [] e = refl
get_end (x ∷ xs) e = get_end xs e

take_end : {T : Type 0} (xs : List T) (e : T) → take (length xs) (xs ++ e ∷ []) ≡ xs
take_end [] e = refl
take_end (x ∷ xs) e = ap (λ ys. x ∷ ys) (take_end xs e)

length_end : {T : Type 0} (xs : List T) (e : T) → length (xs ++ e ∷ []) - 1 ≡ length xs
length_end xs e = rw (length-append xs (e ∷ [])) (omega arith)

-- an entry that was added stands at the end
pub at_end : {T : Type 0} (number : T → ℕ) (n : ℕ) (xs : List T) (e : T) (ys : List T) (place : ℕ) → ys ≡ xs ++ e ∷ [] → place ≡ length ys - 1 → find number n xs ≡ None → number e ≡ n → IsAt number n place ys
at_end number n xs e ys place is place_is none number_is =
    let end : place ≡ length xs = place_is ∙ ap (λ l. length l - 1) is ∙ length_end xs e in
    record {
      entry = e;
      there = rw (is, end) (get_end xs e);
      number_is = number_is;
      first = ap (λ k. find number n (take k ys)) end ∙ ap (λ l. find number n (take (length xs) l)) is ∙ ap (λ l. find number n l) (take_end xs e) ∙ none;
    }

map_if : {T U : Type 0} (g : T → U) (b : Bool) (x : T) (r : Option T) (s : Option U) → s ≡ option_map g r → (if b then Some (g x) else s) ≡ option_map g (if b then Some x else r)
map_if g true x r s h = refl
map_if g false x r s h = h

pub find_map : {S T : Type 0} (g : S → T) (key : S → ℕ) (number : T → ℕ) → ((p : S) → number (g p) ≡ key p) → (n : ℕ) (list : List S) → find number n (map g list) ≡ option_map g (find key n list)
find_map g key number same n [] = refl
find_map g key number same n (p ∷ ps) = rw (same p) (map_if g (n == key p) p (find key n ps) (find number n (map g ps)) (find_map g key number same n ps))

pub IsTable-map : {S T : Type 0} (g : S → T) (key : S → ℕ) (number : T → ℕ) → ((p : S) → number (g p) ≡ key p) → (list : List S) → IsTable key list → IsTable number (map g list)
IsTable-map g key number same [] table = tt
IsTable-map g key number same (p ∷ ps) table = (
  ap (λ k. find number k (map g ps)) (same p) ∙ find_map g key number same (key p) ps ∙ ap (λ r. option_map g r) table.0,
  IsTable-map g key number same ps table.1,
)

some_of : {T : Type 0} (o : Option T) (e : T) → o ≡ Some e → IsSome o
some_of o e is = ap is_some is

-- the numbers up to one that has an entry too
pub taken_more : {T : Type 0} (number : T → ℕ) (from to : ℕ) (entries : List T) (place : Option ℕ) → is_some place ≡ true → IfSome place (λ p. IsAt number to p entries) → AreTaken number from to entries → AreTaken number from (to + 1) entries
taken_more number from to entries None some at taken = absurd (true_false (sym some))
taken_more number from to entries (Some p) some at taken =
    λ n start below. below_more (λ m. from ≤ m → IsSome (find number m entries)) to
    (λ m less begun. taken m begun less)
    (λ begun. some_of (find number to entries) at.entry (find_at number to p entries at.entry at.there at.number_is at.first))
    n below start

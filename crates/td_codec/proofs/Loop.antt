-- Reading items one after the other, as a loop does.
use Rattle.std.proofs.Common.{◌≡◌, ℕ, suc, ◌-◌, ◌+◌, ◌≤◌, ◌<◌, List, [], ◌∷◌, ◌++◌, Result, Ok, Err, refl, sym, ap, subst, ◌∙◌, append_assoc, arith}
use Rattle.std.proofs.lemmas.List.{append-nil}
use Rattle.td_codec.specs.declared.fault.ReadFault.{ReadFault}
use Rattle.td_codec.specs.declared.fault.ReadFault.TheVariants as faults
use Rattle.td_codec.specs.Fields.{◌>>=◌, Read, Fails}
use Rattle.td_codec.specs.Lists.{Items, items_read}

-- items read before, and those that are still read
abbrev pub with_front : {A : Type 0} → List A → Read (List A) → Read (List A)
with_front front (Ok x) = Ok (front ++ x.0, x.1)
with_front front (Err left) = Err left

abbrev behind : {A : Type 0} → A → List A × List ℕ → Read (List A)
behind n x = Ok (n ∷ x.0, x.1)

regroup : {A : Type 0} (front : List A) (n : A) (read : Read (List A)) → with_front front (read >>= behind n) ≡ with_front (front ++ n ∷ []) read
regroup {A} front n (Ok x) = ap (λ (ns : List A). Ok (ns, x.1)) (sym (append_assoc front (n ∷ []) x.0))
regroup front n (Err f) = refl

pub starts : {A : Type 0} (read : Read (List A)) → with_front [] read ≡ read
starts (Ok x) = refl
starts (Err f) = refl

pub goes_on : {A : Type 0} (items : Items A) (front : List A) (count i : ℕ) (bytes : List ℕ) (n : A) (after : List ℕ) (total : Read (List A)) → i < count → items.read front bytes ≡ Ok (n, after)
    → with_front front (items_read items front (count - i) bytes) ≡ total → with_front (front ++ n ∷ []) (items_read items (front ++ n ∷ []) (count - (i + 1)) after) ≡ total
unfolding items_read
goes_on items front count i bytes n after total lt h so_far =
    let k : count - i ≡ suc (count - (i + 1)) = omega arith in
    let one : with_front front (items_read items front (count - i) bytes) ≡ with_front (front ++ n ∷ []) (items_read items (front ++ n ∷ []) (count - (i + 1)) after) = rw (k, h) (regroup front n (items_read items (front ++ n ∷ []) (count - (i + 1)) after)) in
    sym one ∙ so_far

pub ends : {A : Type 0} (items : Items A) (e : ReadFault) (front : List A) (count i : ℕ) (bytes : List ℕ) (total : Read (List A)) → i < count → Fails e (items.read front bytes)
    → with_front front (items_read items front (count - i) bytes) ≡ total → Fails e total
unfolding items_read
ends items faults.NoMemory front count i bytes total lt h so_far = tt
ends items (faults.Broken f) front count i bytes total lt h so_far =
    let k : count - i ≡ suc (count - (i + 1)) = omega arith in
    let one : with_front front (items_read items front (count - i) bytes) ≡ Err f = rw (k, h) refl in
    sym so_far ∙ one

pub is_done : {A : Type 0} (items : Items A) (front : List A) (count i : ℕ) (bytes : List ℕ) (total : Read (List A)) → count ≤ i → with_front front (items_read items front (count - i) bytes) ≡ total → total ≡ Ok (front, bytes)
unfolding items_read
is_done {A} items front count i bytes total le so_far =
    let k : count - i ≡ 0 = omega arith in
    let one : with_front front (items_read items front (count - i) bytes) ≡ Ok (front, bytes) = rw k (ap (λ (ns : List A). Ok (ns, bytes)) (append-nil front)) in
    sym so_far ∙ one

-- ---- the same, where the items before are known by an equation

pub starts_at : {A : Type 0} (items : Items A) (knows : List A → Type 0) (new : List A) (count : ℕ) (bytes : List ℕ) → new ≡ [] → knows []
    → (with_front new (items_read items new (count - 0) bytes) ≡ items_read items [] count bytes) × knows new
starts_at {A} items knows new count bytes e known =
    let all : count - 0 ≡ count = omega arith in
    subst (λ (l : List A). (with_front l (items_read items l (count - 0) bytes) ≡ items_read items [] count bytes) × knows l) (sym e)
    (ap (λ (k : ℕ). with_front [] (items_read items [] k bytes)) all ∙ starts (items_read items [] count bytes), known)

pub goes_on_at : {A : Type 0} (items : Items A) (knows : List A → Type 0) (front before new : List A) (count i : ℕ) (bytes : List ℕ) (n : A) (after : List ℕ) (total : Read (List A)) → before ≡ front → new ≡ front ++ n ∷ []
    → i < count → items.read before bytes ≡ Ok (n, after) → knows (before ++ n ∷ []) → with_front front (items_read items front (count - i) bytes) ≡ total
    → (with_front new (items_read items new (count - (i + 1)) after) ≡ total) × knows new
goes_on_at {A} items knows front before new count i bytes n after total eb en lt read known so_far =
    let read_here = subst (λ (l : List A). items.read l bytes ≡ Ok (n, after)) eb read in
    let known_here = subst (λ (l : List A). knows (l ++ n ∷ [])) eb known in
    subst (λ (l : List A). (with_front l (items_read items l (count - (i + 1)) after) ≡ total) × knows l) (sym en) (goes_on items front count i bytes n after total lt read_here so_far, known_here)

pub ends_at : {A : Type 0} (items : Items A) (e : ReadFault) (front before : List A) (count i : ℕ) (bytes : List ℕ) (total : Read (List A)) → before ≡ front → i < count → Fails e (items.read before bytes)
    → with_front front (items_read items front (count - i) bytes) ≡ total → Fails e total
ends_at {A} items e front before count i bytes total eb lt h so_far = ends items e front count i bytes total lt (subst (λ (l : List A). Fails e (items.read l bytes)) eb h) so_far

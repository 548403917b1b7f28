-- What is true of a catalog's fields stays true as something is added.
use Rattle.std.proofs.Common.{◌≡◌, ℕ, ◌+◌, ◌≤◌, Bool, List, [], ◌∷◌, ◌++◌, length, Option, None, Some, Result, Ok, Err, All, ap, sym, subst, ◌∙◌, arith, length-append}
use Rattle.std.specs.Result.{OnOk}
use Rattle.std.specs.Map.{values_of}
use Rattle.std.proofs.lemmas.List.{map_push}
use Rattle.std.proofs.lemmas.List.Elements.{All-push, All-weaker}
use Rattle.indexmap.specs.IndexMap.{IndexMap, get, insert_entry}
use Rattle.indexmap.proofs.CallerLemmas.{insert_entry-new}
use Rattle.td_model.specs.declared.catalog.StreamEntry.{StreamEntry}
use Rattle.td_catalog.specs.declared.catalog.Table.{Table}
use Rattle.td_catalog.specs.Tables.{HasParent}
use Rattle.td_catalog.specs.Inside.{AreTargets}

from_ok : {T E P : Type 0} (r : Result T E) (x : T) → r ≡ Ok x → OnOk r P → P
from_ok (Ok y) x e h = h
from_ok (Err d) x e h = absurd (cc)

-- a new key goes last, where the insertion is known to succeed
pub appended : {K X S T E : Type 0} (eq : K → K → Bool) (m n : IndexMap K X S) (k : K) (v : X) (r : Result T E) (x : T) → r ≡ Ok x → OnOk r (n.entries ≡ insert_entry eq m.entries k v) → get eq m k ≡ None → n.entries ≡ m.entries ++ (k, v) ∷ []
appended eq m n k v r x ok h none = from_ok r x ok h ∙ insert_entry-new eq m k v none

pub pushed : {X : Type 0} (P : X → Type 0) (xs ys : List X) (x : X) → ys ≡ xs ++ x ∷ [] → All P xs → P x → All P ys
pushed P xs ys x e h p = subst (All P) (sym e) (All-push P xs x h p)

pub values-pushed : {K X : Type 0} (xs ys : List (K × X)) (k : K) (v : X) → ys ≡ xs ++ (k, v) ∷ [] → values_of ys ≡ values_of xs ++ v ∷ []
values-pushed xs ys k v e = ap values_of e ∙ map_push (λ p. p.1) xs (k, v)

pub length-pushed : {X : Type 0} (xs ys : List X) (x : X) → ys ≡ xs ++ x ∷ [] → length ys ≡ length xs + 1
length-pushed xs ys x e = ap length e ∙ length-append xs (x ∷ [])

-- a supertable of a smaller number of them is one of a larger number
still : (n m : ℕ) (t : Table) (p : Option ℕ) → n ≤ m → HasParent n t p → HasParent m t p
still n m t None le h = h
still n m t (Some stable) le h = (h.0, omega arith)

pub parents-stay : (n m : ℕ) (ts : List Table) → n ≤ m → All (λ t. HasParent n t t.parent) ts → All (λ t. HasParent m t t.parent) ts
parents-stay n m ts le = All-weaker (λ t. HasParent n t t.parent) (λ t. HasParent m t t.parent) (λ t h. still n m t t.parent le h) ts

pub targets-pushed : {K L : Type 0} (read : K → List ℕ) (es : List (L × StreamEntry)) (ts : List (K × ℕ)) (e : L × StreamEntry) (t : K × ℕ) → AreTargets read es ts → read t.0 ≡ e.1.def.target → t.1 ≡ e.1.number → AreTargets read (es ++ e ∷ []) (ts ++ t ∷ [])
targets-pushed read [] [] e t h name number = (name, number, tt)
targets-pushed read [] (u ∷ ts) e t h name number = absurd h
targets-pushed read (d ∷ es) [] e t h name number = absurd h
targets-pushed read (d ∷ es) (u ∷ ts) e t h name number = (h.0, h.1, targets-pushed read es ts e t h.2 name number)

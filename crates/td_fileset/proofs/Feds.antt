-- Scans of a merge: the least key that waits, and what is told of their layers.
use Rattle.std.proofs.Common.{◌≡◌, Bool, true, false, cond, ◌⊎◌, inl, inr, List, [], ◌∷◌, map, Option, Some, None, refl, sym, ap, ◌∙◌, subst}
use Rattle.std.specs.Prelude.{IfSome}
use Rattle.std.specs.List.{AllByRecursion}
use Rattle.std.specs.Option.{option_map, option_and_then}
use Rattle.std.specs.Ordering.{is_lt, eq_by_cmp}
use Rattle.std.specs.declared.cmp.Ordering.{Ordering}
use Rattle.std.specs.declared.cmp.Ordering.TheVariants.{Less, Equal, Greater}
use Rattle.std.specs.FinMap.Entries.{find}
use Rattle.td_layer.specs.declared.values.Key.{Key}
use Rattle.td_layer.specs.declared.values.Row.{Row}
use Rattle.td_layer.specs.declared.parts.Partial.{Partial}
use Rattle.td_layer.specs.Keys.{key_cmp, InKeyOrder}
use Rattle.td_layer.specs.Parts.{act}
use Rattle.td_layer.specs.Scans.{Cut, is_cut}
use Rattle.td_fileset.specs.declared.source.Ahead.{Ahead}
use Rattle.td_fileset.specs.declared.source.Ahead.TheVariants as ahead
use Rattle.td_fileset.specs.Stack.{Layer, part_of}
use Rattle.td_fileset.specs.Sources.{Fed, with_first, layer_of, told_layer, is_read, IsSettled, key_ahead, put_ahead, acted, ahead_past, past}
use Rattle.td_fileset.specs.Merged.{told_layers, sooner, least_key, all_acted}
use Rattle.td_fileset.proofs.Fronts.{AtMost, at_most_itself, at_most_through, less_at_most, not_before, none_after, without_first, passed, NoneBefore, acts, IsFrom, IsUsed}

-- ---- the least key

-- a key is not after one that may be missing
abbrev pub UpTo : Key → Option Key → Type 0
UpTo k None = Unit {0}
UpTo k (Some other) = AtMost k other

sooner_up_to : (k : Key) (a b : Option Key) → UpTo k (sooner a b) → UpTo k a × UpTo k b
sooner_up_to k None b h = (tt, h)
sooner_up_to k (Some a) None h = (h, tt)
sooner_up_to k (Some a) (Some b) h = by (key_cmp b a) refl h
  where
    by : (o : Ordering) → key_cmp b a ≡ o → UpTo k (cond (is_lt o) (Some b) (Some a)) → AtMost k a × AtMost k b
    by Less e h = (at_most_through k b a h (less_at_most b a e), h)
    by Equal e h = (h, at_most_through k a b h (not_before a b (ap is_lt e)))
    by Greater e h = (h, at_most_through k a b h (not_before a b (ap is_lt e)))

pub least_up_to : (acc : Option Key) (fs : List Fed) (k : Key) → least_key acc fs ≡ Some k → UpTo k acc × AllByRecursion (λ (f : Fed). UpTo k (key_ahead f.ahead)) fs
least_up_to acc [] k h = (subst (UpTo k) (sym h) (at_most_itself k), tt)
least_up_to acc (f ∷ fs) k h =
    let rest = least_up_to (sooner acc (key_ahead f.ahead)) fs k h in
    let both = sooner_up_to k acc (key_ahead f.ahead) rest.0 in
    (both.0, (both.1, rest.1))

-- a scan of some has this key waiting
abbrev pub Waits : Key → List Fed → Type 0
Waits k [] = ⊥
Waits k (f ∷ fs) = (key_ahead f.ahead ≡ Some k) ⊎ Waits k fs

sooner_is : (k : Key) (a b : Option Key) → sooner a b ≡ Some k → (a ≡ Some k) ⊎ (b ≡ Some k)
sooner_is k None b h = inr h
sooner_is k (Some a) None h = inl h
sooner_is k (Some a) (Some b) h = by (is_lt (key_cmp b a)) h
  where
    by : (t : Bool) → cond t (Some b) (Some a) ≡ Some k → (Some a ≡ Some k) ⊎ (Some b ≡ Some k)
    by true h = inr h
    by false h = inl h

pub least_waits : (acc : Option Key) (fs : List Fed) (k : Key) → least_key acc fs ≡ Some k → (acc ≡ Some k) ⊎ Waits k fs
least_waits acc [] k h = inl h
least_waits acc (f ∷ fs) k h =
    elim (least_waits (sooner acc (key_ahead f.ahead)) fs k h) [
      | inl is ↦ elim (sooner_is k acc (key_ahead f.ahead) is) [ inl a ↦ inl a | inr b ↦ inr (inl b) ]
      | inr w ↦ inr (inr w)
    ]

pub none_waits : (acc : Option Key) (fs : List Fed) → least_key acc fs ≡ None → (acc ≡ None) × AllByRecursion (λ (f : Fed). key_ahead f.ahead ≡ None) fs
none_waits acc [] h = (h, tt)
none_waits acc (f ∷ fs) h =
    let rest = none_waits (sooner acc (key_ahead f.ahead)) fs h in
    let both = apart acc (key_ahead f.ahead) rest.0 in
    (both.0, (both.1, rest.1))
  where
    chosen : (t : Bool) (x y : Key) → cond t (Some x) (Some y) ≡ None → ⊥
    chosen true x y h = cc
    chosen false x y h = cc

    apart : (a b : Option Key) → sooner a b ≡ None → (a ≡ None) × (b ≡ None)
    apart None b h = (refl, h)
    apart (Some a) None h = absurd (cc)
    apart (Some a) (Some b) h = absurd (chosen (is_lt (key_cmp b a)) b a h)

-- ---- what is told

-- each scan tells its layer
abbrev pub Tell : List Fed → List Layer → Type 0
Tell [] [] = Unit {0}
Tell [] (l ∷ ls) = ⊥
Tell (f ∷ fs) [] = ⊥
Tell (f ∷ fs) (l ∷ ls) = (told_layer f ≡ Some l) × Tell fs ls

pub tell_all : (fs : List Fed) (ls : List Layer) → told_layers fs ≡ Some ls → Tell fs ls
tell_all [] [] h = tt
tell_all [] (l ∷ ls) h = absurd (cc)
tell_all (f ∷ fs) ls h = by (told_layer f) (told_layers fs) refl refl h (tell_all fs)
  where
    by : (o : Option Layer) (os : Option (List Layer)) → told_layer f ≡ o → told_layers fs ≡ os → option_and_then (λ x. option_map (λ xs. x ∷ xs) os) o ≡ Some ls
        → ((ms : List Layer) → told_layers fs ≡ Some ms → Tell fs ms) → Tell (f ∷ fs) ls
    by None os e es h rest = absurd (cc)
    by (Some l) None e es h rest = absurd (cc)
    by (Some l) (Some ms) e es h rest = subst (Tell (f ∷ fs)) (some_is h) (e, rest ms es)
      where
        some_is : Some (l ∷ ms) ≡ Some ls → l ∷ ms ≡ ls
        some_is h = cc

pub all_tell : (fs : List Fed) (ls : List Layer) → Tell fs ls → told_layers fs ≡ Some ls
all_tell [] [] h = refl
all_tell [] (l ∷ ls) h = absurd h
all_tell (f ∷ fs) [] h = absurd h
all_tell (f ∷ fs) (l ∷ ls) h = rw (h.0, all_tell fs ls h.1) refl

-- a layer that is told
pub record IsTold (f : Fed) (l : Layer) (rest : List (Key × Partial)) : Type 0 where
  pub left : f.left ≡ Some rest
  pub cuts : f.cuts ≡ Some l.cuts
  pub partials : l.partials ≡ with_first f.ahead rest

some_same : {X : Type 0} (x y : X) → Some x ≡ Some y → x ≡ y
some_same x y h = cc

pub told_is : (f : Fed) (l : Layer) → told_layer f ≡ Some l → (rest : List (Key × Partial)) × IsTold f l rest
told_is f l h = by f.left f.cuts refl refl h
  where
    by : (left : Option (List (Key × Partial))) (cuts : Option (List Cut)) → f.left ≡ left → f.cuts ≡ cuts → layer_of (option_map (with_first f.ahead) left) cuts ≡ Some l → (rest : List (Key × Partial)) × IsTold f l rest
    by None cuts e es h = absurd (cc)
    by (Some rest) None e es h = absurd (cc)
    by (Some rest) (Some all) e es h =
        let same = some_same _ _ h in
        (rest, record { left = e; cuts = es ∙ ap Some (ap (λ (m : Layer). m.cuts) same); partials = sym (ap (λ (m : Layer). m.partials) same) })

pub is_told : (f : Fed) (cuts : List Cut) (rest : List (Key × Partial)) → f.left ≡ Some rest → f.cuts ≡ Some cuts → told_layer f ≡ Some (record { cuts = cuts; partials = with_first f.ahead rest })
is_told f cuts rest e es = rw (e, es) refl

-- ---- one scan

order_of : (f : Fed) (l : Layer) → IsSettled f → told_layer f ≡ Some l → InKeyOrder l.partials
order_of f l s h = subst (λ (o : Option Layer). IfSome o (λ m. InKeyOrder m.partials)) h s.order

from_ahead : (k : Key) (a : Ahead) (rest : List (Key × Partial)) → is_read a ≡ true → UpTo k (key_ahead a) → NoneBefore k (with_first a rest)
from_ahead k ahead.Unread rest r u = absurd (cc)
from_ahead k (ahead.First key partial) rest r u = u
from_ahead k ahead.End rest r u = tt

pub is_from : (k : Key) (f : Fed) (l : Layer) → IsSettled f → told_layer f ≡ Some l → UpTo k (key_ahead f.ahead) → IsFrom k l
is_from k f l s h u =
    let told = told_is f l h in
    record { order = order_of f l s h; none = subst (NoneBefore k) (sym told.1.partials) (from_ahead k f.ahead told.0 s.read u) }

-- the put of a key is the one that waits, where no key before it waits
put_found : (k : Key) (a : Ahead) (rest : List (Key × Partial)) → is_read a ≡ true → UpTo k (key_ahead a) → InKeyOrder (with_first a rest) → put_ahead k a ≡ find key_cmp k (with_first a rest)
put_found k ahead.Unread rest r u o = absurd (cc)
put_found k ahead.End rest r u o = refl
put_found k (ahead.First key partial) rest r u o = ap (cond (eq_by_cmp key_cmp k key) (Some partial)) (sym (none_after k key rest u o.0))

pub acted_is : (k : Key) (f : Fed) (l : Layer) (row : Option Row) → IsSettled f → told_layer f ≡ Some l → UpTo k (key_ahead f.ahead) → acted k f row ≡ Some (act (part_of k l) row)
acted_is k f l row s h u =
    let told = told_is f l h in
    let put = put_found k f.ahead told.0 s.read u (subst InKeyOrder told.1.partials (order_of f l s h)) ∙ ap (find key_cmp k) (sym told.1.partials) in
    ap (option_map (λ cuts. act (record { cut = is_cut k cuts; put = put_ahead k f.ahead }) row)) told.1.cuts
    ∙ ap (λ p. Some (act (record { cut = is_cut k l.cuts; put = p }) row)) put

-- the partial of the key is used
past_first : (k : Key) (a : Ahead) (rest : List (Key × Partial)) → is_read a ≡ true → with_first (ahead_past k a) rest ≡ without_first k (with_first a rest)
past_first k ahead.Unread rest r = absurd (cc)
past_first k ahead.End rest r = refl
past_first k (ahead.First key partial) rest r = by (eq_by_cmp key_cmp k key)
  where
    by : (b : Bool) → with_first (cond b ahead.Unread (ahead.First key partial)) rest ≡ cond b rest ((key, partial) ∷ rest)
    by true = refl
    by false = refl

pub past_is : (k : Key) (f : Fed) (l : Layer) → IsSettled f → told_layer f ≡ Some l → told_layer (past k f) ≡ Some (passed k l)
past_is k f l s h =
    let told = told_is f l h in
    is_told (past k f) l.cuts told.0 told.1.left told.1.cuts
    ∙ ap (λ es. Some (record { cuts = l.cuts; partials = es })) (past_first k f.ahead told.0 s.read ∙ ap (without_first k) (sym told.1.partials))

-- where nothing waits nothing is left
used_ahead : (a : Ahead) (rest : List (Key × Partial)) → is_read a ≡ true → key_ahead a ≡ None → with_first a rest ≡ []
used_ahead ahead.Unread rest r e = absurd (cc)
used_ahead (ahead.First key partial) rest r e = absurd (cc)
used_ahead ahead.End rest r e = refl

-- ---- all scans

pub are_from : (k : Key) (fs : List Fed) (ls : List Layer) → AllByRecursion IsSettled fs → Tell fs ls → AllByRecursion (λ (f : Fed). UpTo k (key_ahead f.ahead)) fs → AllByRecursion (IsFrom k) ls
are_from k [] [] s t u = tt
are_from k [] (l ∷ ls) s t u = absurd t
are_from k (f ∷ fs) [] s t u = absurd t
are_from k (f ∷ fs) (l ∷ ls) s t u = (is_from k f l s.0 t.0 u.0, are_from k fs ls s.1 t.1 u.1)

pub all_acted_is : (k : Key) (fs : List Fed) (ls : List Layer) (row : Option Row) → AllByRecursion IsSettled fs → Tell fs ls → AllByRecursion (λ (f : Fed). UpTo k (key_ahead f.ahead)) fs → all_acted k fs row ≡ Some (acts k ls row)
all_acted_is k [] [] row s t u = refl
all_acted_is k [] (l ∷ ls) row s t u = absurd t
all_acted_is k (f ∷ fs) [] row s t u = absurd t
all_acted_is k (f ∷ fs) (l ∷ ls) row s t u = ap (option_and_then (all_acted k fs)) (acted_is k f l row s.0 t.0 u.0) ∙ all_acted_is k fs ls (act (part_of k l) row) s.1 t.1 u.1

pub all_passed : (k : Key) (fs : List Fed) (ls : List Layer) → AllByRecursion IsSettled fs → Tell fs ls → Tell (map (past k) fs) (map (passed k) ls)
all_passed k [] [] s t = tt
all_passed k [] (l ∷ ls) s t = absurd t
all_passed k (f ∷ fs) [] s t = absurd t
all_passed k (f ∷ fs) (l ∷ ls) s t = (past_is k f l s.0 t.0, all_passed k fs ls s.1 t.1)

pub all_used : (fs : List Fed) (ls : List Layer) → AllByRecursion IsSettled fs → Tell fs ls → AllByRecursion (λ (f : Fed). key_ahead f.ahead ≡ None) fs → AllByRecursion IsUsed ls
all_used [] [] s t u = tt
all_used [] (l ∷ ls) s t u = absurd t
all_used (f ∷ fs) [] s t u = absurd t
all_used (f ∷ fs) (l ∷ ls) s t u =
    let told = told_is f l t.0 in
    (told.1.partials ∙ used_ahead f.ahead told.0 s.0.read u.0, all_used fs ls s.1 t.1 u.1)

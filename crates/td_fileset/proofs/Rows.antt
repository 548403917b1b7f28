-- The rows under layers are in order, and each key finds its row.
use Rattle.std.proofs.Common.{◌≡◌, Bool, true, false, cond, ◌&&◌, ◌||◌, List, [], ◌∷◌, map, Option, Some, None, refl, sym, ap, ◌∙◌, subst}
use Rattle.std.specs.Prelude.{T, is_some}
use Rattle.std.specs.List.{list_any}
use Rattle.std.specs.Ordering.{eq_by_cmp}
use Rattle.std.specs.FinMap.Entries.{find, put, is_sorted, is_sorted-put, find-put, same_entries, is_some-find}
use Rattle.std.proofs.lemmas.List.Folds.{list_any-append}
use Rattle.std.specs.declared.cmp.Ordering.{Ordering}
use Rattle.std.specs.declared.cmp.Ordering.TheVariants.{Less, Equal, Greater}
use Rattle.std.specs.Ordering.{is_eq}
use Rattle.td_layer.specs.declared.values.Key.{Key}
use Rattle.td_layer.specs.declared.values.Row.{Row}
use Rattle.td_layer.specs.declared.parts.Partial.{Partial}
use Rattle.td_layer.specs.Keys.{key_cmp, InKeyOrder}
use Rattle.td_layer.specs.Parts.{act}
use Rattle.td_layer.specs.Scans.{is_cut}
use Rattle.td_fileset.specs.Stack.{Layer, row_at, keys_of, with_row, rows_at, rows_of}
use Rattle.td_fileset.proofs.Ordered.{keys_total, keys_tie, sorted, rising}

pub from_test : (b : Bool) → T b → b ≡ true
from_test true h = refl
from_test false h = absurd h

pub put_rises : {X : Type 0} (k : Key) (x : X) (es : List (Key × X)) → InKeyOrder es → InKeyOrder (put key_cmp k x es)
put_rises k x es r =
    rising (put key_cmp k x es) (from_test (is_sorted key_cmp (put key_cmp k x es)) (is_sorted-put key_cmp keys_total k x es (subst T (sym (sorted es r)) tt)))

with_row_rises : (k : Key) (row : Option Row) (es : List (Key × Row)) → InKeyOrder es → InKeyOrder (with_row k row es)
with_row_rises k None es r = r
with_row_rises k (Some row) es r = put_rises k row es r

rows_at_rises : (layers : List Layer) (keys : List Key) → InKeyOrder (rows_at layers keys)
rows_at_rises layers [] = tt
rows_at_rises layers (k ∷ ks) = with_row_rises k (row_at k layers) (rows_at layers ks) (rows_at_rises layers ks)

pub rows_rise : (layers : List Layer) → InKeyOrder (rows_of layers)
unfolding rows_of
rows_rise layers = rows_at_rises layers (keys_of layers)

-- whether a key is one of some keys
abbrev is_among : Key → List Key → Bool
is_among q keys = list_any (eq_by_cmp key_cmp q) keys

-- two keys are equal or not
pub equal_keys : (q k : Key) → eq_by_cmp key_cmp q k ≡ true → q ≡ k
equal_keys q k e = by (key_cmp q k) refl e
  where
    by : (o : Ordering) → key_cmp q k ≡ o → is_eq o ≡ true → q ≡ k
    by Less p h = absurd (cc)
    by Equal p h = keys_tie q k p
    by Greater p h = absurd (cc)

find_with_row : (q k : Key) (row : Option Row) (es : List (Key × Row)) → find key_cmp q (with_row k row es) ≡ cond (eq_by_cmp key_cmp q k && is_some row) row (find key_cmp q es)
find_with_row q k None es = by (eq_by_cmp key_cmp q k)
  where
    by : (b : Bool) → find key_cmp q es ≡ cond (b && false) None (find key_cmp q es)
    by true = refl
    by false = refl
find_with_row q k (Some row) es = find-put key_cmp keys_total q k row es ∙ by (eq_by_cmp key_cmp q k)
  where
    by : (b : Bool) → cond b (Some row) (find key_cmp q es) ≡ cond (b && true) (Some row) (find key_cmp q es)
    by true = refl
    by false = refl

-- of some keys the row is found, of others none
find_rows_at : (layers : List Layer) (keys : List Key) (q : Key) → find key_cmp q (rows_at layers keys) ≡ cond (is_among q keys) (row_at q layers) None
find_rows_at layers [] q = refl
find_rows_at layers (k ∷ ks) q =
    find_with_row q k (row_at k layers) (rows_at layers ks)
    ∙ ap (cond (eq_by_cmp key_cmp q k && is_some (row_at k layers)) (row_at k layers)) (find_rows_at layers ks q)
    ∙ by (eq_by_cmp key_cmp q k) (row_at k layers) refl refl
  where
    rest : Option Row
    rest = cond (is_among q ks) (row_at q layers) None

    none : (b : Bool) → row_at q layers ≡ None → cond b (row_at q layers) None ≡ row_at q layers
    none true e = refl
    none false e = sym e

    by : (b : Bool) (row : Option Row) → eq_by_cmp key_cmp q k ≡ b → row_at k layers ≡ row → cond (b && is_some row) row rest ≡ cond (b || is_among q ks) (row_at q layers) None
    by true None e is = none (is_among q ks) (ap (λ x. row_at x layers) (equal_keys q k e) ∙ is)
    by true (Some row) e is = sym (ap (λ x. row_at x layers) (equal_keys q k e) ∙ is)
    by false row e is = refl

-- a key that no layer has a partial of has no row
nothing_acts : (cut : Bool) (put : Option Partial) (row : Option Row) → is_some put ≡ false → row ≡ None → act (record { cut = cut; put = put }) row ≡ None
nothing_acts cut (Some p) row e is = absurd (cc)
nothing_acts true None row e is = refl
nothing_acts false None row e is = is

absent : (q : Key) (layers : List Layer) → is_among q (keys_of layers) ≡ false → row_at q layers ≡ None
absent q [] h = refl
absent q (l ∷ older) h =
    let own = map (λ (e : Key × Partial). e.0) l.partials in
    let none = neither (is_among q own) (is_among q (keys_of older)) (sym (list_any-append (eq_by_cmp key_cmp q) own (keys_of older)) ∙ h) in
    nothing_acts (is_cut q l.cuts) (find key_cmp q l.partials) (row_at q older) (is_some-find key_cmp q l.partials ∙ none.0) (absent q older none.1)
  where
    neither : (a b : Bool) → (a || b) ≡ false → (a ≡ false) × (b ≡ false)
    neither true b e = absurd (cc)
    neither false b e = (refl, e)

pub rows_found : (layers : List Layer) (q : Key) → find key_cmp q (rows_of layers) ≡ row_at q layers
unfolding rows_of
rows_found layers q = find_rows_at layers (keys_of layers) q ∙ by (is_among q (keys_of layers)) refl
  where
    by : (b : Bool) → is_among q (keys_of layers) ≡ b → cond b (row_at q layers) None ≡ row_at q layers
    by true e = refl
    by false e = sym (absent q layers e)

pub one_list : {X : Type 0} (es fs : List (Key × X)) → InKeyOrder es → InKeyOrder fs → ((q : Key) → find key_cmp q es ≡ find key_cmp q fs) → es ≡ fs
one_list es fs r s same = same_entries key_cmp keys_total keys_tie es fs (subst T (sym (sorted es r)) tt) (subst T (sym (sorted fs s)) tt) same

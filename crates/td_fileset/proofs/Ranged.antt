-- Rows of some keys alone.
use Rattle.std.proofs.Common.{◌≡◌, Bool, true, false, cond, List, [], ◌∷◌, map, Option, None, refl, sym, ap, ◌∙◌, subst}
use Rattle.std.specs.Prelude.{T}
use Rattle.std.specs.FinMap.Entries.{find, is_sorted, is_sorted-where_key, find-where_key}
use Rattle.td_layer.specs.declared.values.Key.{Key}
use Rattle.td_layer.specs.declared.values.Row.{Row}
use Rattle.td_layer.specs.declared.parts.Partial.{Partial}
use Rattle.td_layer.specs.Keys.{key_cmp, InKeyOrder}
use Rattle.td_layer.specs.Parts.{act}
use Rattle.td_layer.specs.Scans.{is_cut}
use Rattle.td_fileset.specs.Stack.{Layer, row_at, rows_of}
use Rattle.td_fileset.specs.Ranges.{only, narrowed}
use Rattle.td_fileset.proofs.Ordered.{keys_tie, sorted, rising}
use Rattle.td_fileset.proofs.Rows.{from_test, rows_rise, rows_found, one_list}

module _ {X : Type 0} (test : Key → Bool) where
  pub only_rises : (es : List (Key × X)) → InKeyOrder es → InKeyOrder (only test es)
  only_rises es r = rising (only test es) (from_test (is_sorted key_cmp (only test es)) (is_sorted-where_key key_cmp test es (subst T (sym (sorted es r)) tt)))

  pub only_found : (es : List (Key × X)) (q : Key) → find key_cmp q (only test es) ≡ cond (test q) (find key_cmp q es) None
  only_found es q = find-where_key key_cmp test q (λ x e. ap test (sym (keys_tie q x e))) es

pub rows_only : (test : Key → Bool) (layers : List Layer) (q : Key) → find key_cmp q (only test (rows_of layers)) ≡ cond (test q) (row_at q layers) None
rows_only test layers q = only_found test (rows_of layers) q ∙ ap (λ (row : Option Row). cond (test q) row None) (rows_found layers q)

pub make_alike : (test : Key → Bool) (layers others : List Layer) → ((key : Key) → test key ≡ true → row_at key layers ≡ row_at key others) → only test (rows_of layers) ≡ only test (rows_of others)
make_alike test layers others same =
    one_list (only test (rows_of layers)) (only test (rows_of others)) (only_rises test (rows_of layers) (rows_rise layers)) (only_rises test (rows_of others) (rows_rise others))
    (λ q. rows_only test layers q ∙ by q (test q) refl ∙ sym (rows_only test others q))
  where
    by : (q : Key) (b : Bool) → test q ≡ b → cond b (row_at q layers) None ≡ cond b (row_at q others) None
    by q true e = same q e
    by q false e = refl

-- a layer does to a key that passes what it did, and to another at most a cut
pub narrowed_row : (test : Key → Bool) (layers : List Layer) (q : Key) → row_at q (map (narrowed test) layers) ≡ cond (test q) (row_at q layers) None
narrowed_row test [] q = by (test q)
  where
    by : (b : Bool) → ◌≡◌ {A = Option Row} None (cond b None None)
    by true = refl
    by false = refl
narrowed_row test (l ∷ older) q =
    ap (λ (p : Option Partial). act (record { cut = is_cut q l.cuts; put = p }) (row_at q (map (narrowed test) older))) (only_found test l.partials q)
    ∙ ap (act (record { cut = is_cut q l.cuts; put = cond (test q) (find key_cmp q l.partials) None })) (narrowed_row test older q)
    ∙ by (test q) (is_cut q l.cuts)
  where
    by : (b cut : Bool) → act (record { cut = cut; put = cond b (find key_cmp q l.partials) None }) (cond b (row_at q older) None) ≡ cond b (act (record { cut = cut; put = find key_cmp q l.partials }) (row_at q older)) None
    by true cut = refl
    by false true = refl
    by false false = refl

pub narrow_alike : (test : Key → Bool) (layers : List Layer) → rows_of (map (narrowed test) layers) ≡ only test (rows_of layers)
narrow_alike test layers =
    one_list (rows_of (map (narrowed test) layers)) (only test (rows_of layers)) (rows_rise (map (narrowed test) layers)) (only_rises test (rows_of layers) (rows_rise layers))
    (λ q. rows_found (map (narrowed test) layers) q ∙ narrowed_row test layers q ∙ sym (rows_only test layers q))

-- What is written of lists that fit.
use Rattle.std.proofs.Common.{◌≡◌, ◌^◌, ◌<◌, Bool, true, ltb, List, [], ◌∷◌, ◌++◌, length, All}
use Rattle.std.specs.Prelude.{◌&&◌}
use Rattle.std.specs.List.{AllByRecursion}
use Rattle.std.proofs.lemmas.Bool.{and_parts, and_from, ltb-true}
use Rattle.std.proofs.lemmas.List.Elements.{All-from_recursion}
use Rattle.td_model.specs.declared.windows.WinKey.{WinKey}
use Rattle.td_model.specs.declared.windows.WinRow.{WinRow}
use Rattle.td_codec.specs.Fields.{signed_64}
use Rattle.td_codec.specs.Lists.{Items, all_fit, counted}
use Rattle.td_codec.specs.Values.{cell_list, win_key, comes_after, win_keys, row_key, win_row_behind, win_rows}
use Rattle.td_codec.specs.Writing.{win_row_fits}

pub list_few : {A : Type 0} (items : Items A) (xs : List A) → (counted items).fits xs ≡ true → length xs < 2 ^ 32
list_few items xs fits = ltb-true _ _ (and_parts (ltb (length xs) (2 ^ 32)) (all_fit items [] xs) fits).0

each_passes : {A : Type 0} (items : Items A) (P : A → Bool) → ((before : List A) (x : A) → items.fits before x ≡ true → P x ≡ true) → (xs before : List A) → all_fit items before xs ≡ true → AllByRecursion (λ x. P x ≡ true) xs
each_passes items P one [] before fits = tt
each_passes items P one (x ∷ xs) before fits =
    let f = and_parts (items.fits before x) (all_fit items (before ++ x ∷ []) xs) fits in
    (one before x f.0, each_passes items P one xs (before ++ x ∷ []) f.1)

pub list_passes : {A : Type 0} (items : Items A) (P : A → Bool) → ((before : List A) (x : A) → items.fits before x ≡ true → P x ≡ true) → (xs : List A) → (counted items).fits xs ≡ true → All (λ x. P x ≡ true) xs
list_passes items P one xs fits =
    All-from_recursion (λ x. P x ≡ true) xs (each_passes items P one xs [] (and_parts (ltb (length xs) (2 ^ 32)) (all_fit items [] xs) fits).1)

pub key_passes : (before : List WinKey) (k : WinKey) → win_keys.fits before k ≡ true → win_key.fits k ≡ true
unfolding win_keys
key_passes before k fits = (and_parts (win_key.fits k) (comes_after (λ w. w) before k) fits).0

pub row_passes : (before : List WinRow) (r : WinRow) → win_rows.fits before r ≡ true → win_row_fits r ≡ true
unfolding win_rows win_row_behind
row_passes before r fits =
    let f = and_parts (win_key.fits r.key && comes_after row_key before r.key) (signed_64.fits r.end && cell_list.fits r.cells) fits in
    and_from _ _ (and_parts (win_key.fits r.key) (comes_after row_key before r.key) f.0).0 f.1

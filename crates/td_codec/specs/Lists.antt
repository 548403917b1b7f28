-- Lists of a file: a count, and so many items. What an item may be can depend on those before it.
use Rattle.std.specs.Prelude.{◌≡◌, ℕ, zero, suc, ◌^◌, ◌&&◌, nat_lt, Bool, true, List, [], ◌∷◌, ◌++◌, length, Result, Ok, Err}
use Rattle.std.specs.List.{flat_map}
use Rattle.std.specs.Int.{w32, to_le_bytes}
use Rattle.td_codec.specs.Fields.{Read, ◌>>=◌, Field, SpellsOnce, number_read}

-- The items of a list: what reading one gives behind those before it, the bytes of one, and which may stand behind
-- those.
pub record Items (A : Type 0) : Type 0 where
  pub read : List A → List ℕ → Read A
  pub spelled : A → List ℕ
  pub fits : List A → A → Bool

-- an item behind those before it, as a field
abbrev pub item_behind : {A : Type 0} → Items A → List A → Field A
item_behind items before = record { read = items.read before; spelled = items.spelled; fits = items.fits before }

-- each item has one spelling, whatever stands before it
abbrev pub ItemsSpellOnce : {A : Type 0} → Items A → Type 0
ItemsSpellOnce {A} items = (before : List A) → SpellsOnce (item_behind items before)

-- items of one form, whatever stands before them
abbrev pub each : {A : Type 0} → Field A → Items A
each field = record { read = λ _. field.read; spelled = field.spelled; fits = λ _. field.fits }

-- so many items, behind those before them
unfoldable pub items_read : {A : Type 0} → Items A → List A → ℕ → List ℕ → Read (List A)
items_read items before zero bytes = Ok ([], bytes)
items_read items before (suc n) bytes = do
  first ← items.read before bytes
  others ← items_read items (before ++ first.0 ∷ []) n first.1
  Ok (first.0 ∷ others.0, others.1)

-- each item fits behind those before it
abbrev pub all_fit : {A : Type 0} → Items A → List A → List A → Bool
all_fit items before [] = true
all_fit items before (x ∷ xs) = items.fits before x && all_fit items (before ++ x ∷ []) xs

-- a count of 32 bits, and so many items
abbrev pub counted : {A : Type 0} → Items A → Field (List A)
counted items = record {
  read = λ bytes. number_read w32 bytes >>= λ n. items_read items [] n.0 n.1;
  spelled = λ xs. to_le_bytes w32 (length xs) ++ flat_map items.spelled xs;
  fits = λ xs. nat_lt (length xs) (2 ^ 32) && all_fit items [] xs;
}

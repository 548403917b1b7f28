-- Lists whose count keeps a rule, and numbers of which one stands for none.
use Rattle.std.specs.Prelude.{ℕ, ◌-◌, ◌^◌, ◌==◌, ◌||◌, ◌&&◌, nat_lt, Bool, true, if◌then◌else◌, List, [], ◌++◌, length, Option, Some, None, Ok}
use Rattle.std.specs.List.{flat_map}
use Rattle.std.specs.Int.{Width, w64, to_le_bytes}
use Rattle.td_codec.specs.Fields.{Field, ◌>>=◌, number, nothing, checked, made}
use Rattle.td_codec.specs.Lists.{Items, items_read, all_fit}

-- a count of this width that passes a test, and so many items
abbrev pub listed : {A : Type 0} → Width → (ℕ → Bool) → Items A → Field (List A)
listed w test items = record {
  read = λ bytes. (checked (number w) test).read bytes >>= λ n. items_read items [] n.0 n.1;
  spelled = λ xs. to_le_bytes w (length xs) ++ flat_map items.spelled xs;
  fits = λ xs. (checked (number w) test).fits (length xs) && all_fit items [] xs;
}

-- no bytes, for the number 0
abbrev pub absent : Field ℕ
absent = made nothing (λ _. 0) (λ n. if n == 0 then Some tt else None)

-- the number of 64 bits that stands for none
abbrev pub NONE : ℕ
NONE = 2 ^ 64 - 1

abbrev pub as_some : ℕ → Option ℕ
as_some n = (if n == NONE then None else Some n)

abbrev pub or_none : Option ℕ → ℕ
or_none None = NONE
or_none (Some n) = n

-- whether a number that isn't missing is no sign of none and passes a test
abbrev pub is_some_of : (ℕ → Bool) → Option ℕ → Bool
is_some_of test None = true
is_some_of test (Some n) = nat_lt n NONE && test n

-- a number of 64 bits that passes a test, or none
unfoldable pub perhaps : (ℕ → Bool) → Field (Option ℕ)
perhaps test = record {
  read = λ bytes. (checked (number w64) (λ n. (n == NONE) || test n)).read bytes >>= λ n. Ok (as_some n.0, n.1);
  spelled = λ o. to_le_bytes w64 (or_none o);
  fits = is_some_of test;
}

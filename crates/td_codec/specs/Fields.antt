-- Fields of a file: how a value stands as bytes, and what reading bytes from the left gives. Fields are made of fields.
use Rattle.std.specs.Prelude.{◌≡◌, ◌≤◌, ℕ, ◌*◌, ◌^◌, ◌==◌, ◌&&◌, nat_lt, Bool, true, false, ℤ, pos, negsuc, if◌then◌else◌, List, [], ◌∷◌, ◌++◌, length, take, drop, Option, Some, None, Result, Ok, Err}
use Rattle.std.specs.Int.{Width, w64, byte_len, from_le_bytes, to_le_bytes, cast_signed, cast_unsigned}
use Rattle.td_cols.specs.declared.kinds.Kind.{Kind}
use Rattle.td_cols.specs.Kinds.{kind_width, is_in_range}
use Rattle.td_cols.specs.Spelling.{AreBytes, spelling, number_spelled}
use Rattle.td_codec.specs.declared.fault.ReadFault.{ReadFault}
use Rattle.td_codec.specs.declared.fault.ReadFault.TheVariants as faults

-- What is read from the front of bytes, with the bytes behind it; or how many bytes are left where the first field
-- begins that is cut short or breaks its rule. So a place in a part of a file is a place in the file.
abbrev pub Read : Type 0 → Type 0
Read A = Result (A × List ℕ) ℕ

infixl 10 ◌>>=◌
abbrev pub ◌>>=◌ : {A B : Type 0} → Result A ℕ → (A → Result B ℕ) → Result B ℕ
(Ok x) >>= f = f x
(Err left) >>= f = Err left

-- A field: what reading gives, the bytes of a value, and which values have bytes.
pub record Field (A : Type 0) : Type 0 where
  pub read : List ℕ → Read A
  pub spelled : A → List ℕ
  pub fits : A → Bool

-- these bytes stand at the front, and bytes stand behind them
pub record Takes (bytes front rest : List ℕ) : Type 0 where
  pub parts : bytes ≡ front ++ rest
  pub rest_are : AreBytes rest

-- a fault is a place within so many bytes from the end
abbrev pub Within : {A : Type 0} → ℕ → Result A ℕ → Type 0
Within n (Ok x) = Unit {0}
Within n (Err left) = left ≤ n

-- What is read is spelled so and fits, and what fits and is spelled so is read, whatever stands behind it. So a value
-- has one spelling, and no spelling begins that of another value. A fault is a place within the bytes.
pub record SpellsOnce {A : Type 0} (field : Field A) : Type 0 where
  pub takes : (bytes : List ℕ) (x : A × List ℕ) → AreBytes bytes → field.read bytes ≡ Ok x
      → Takes bytes (field.spelled x.0) x.1 × (field.fits x.0 ≡ true)
  pub again : (x : A) (rest : List ℕ) → field.fits x ≡ true → field.read (field.spelled x ++ rest) ≡ Ok (x, rest)
  pub within : (bytes : List ℕ) → AreBytes bytes → Within (length bytes) (field.read bytes)

-- What a function answered, seen by view, is what reading gives, unless memory ran out.
abbrev pub Fails : {Y : Type 0} → ReadFault → Result Y ℕ → Type 0
Fails faults.NoMemory read = Unit {0}
Fails (faults.Broken left) read = read ≡ Err left

abbrev pub Gives : {X Y : Type 0} → (X → Y) → Result X ReadFault → Result Y ℕ → Type 0
Gives view (Ok x) read = read ≡ Ok (view x)
Gives view (Err e) read = Fails e read

-- ---- numbers

unfoldable pub number_read : Width → List ℕ → Read ℕ
number_read w bytes =
    (if nat_lt (length bytes) (byte_len w) then Err (length bytes)
    else Ok (from_le_bytes w (take (byte_len w) bytes), drop (byte_len w) bytes))

-- an unsigned number, the lowest byte first
abbrev pub number : Width → Field ℕ
number w = record { read = number_read w; spelled = to_le_bytes w; fits = λ n. nat_lt n (2 ^ (8 * byte_len w)) }

unfoldable pub kind_number_read : Kind → List ℕ → Read ℤ
kind_number_read kind bytes =
    (if nat_lt (length bytes) (kind_width kind) then Err (length bytes)
    else (if is_in_range kind (number_spelled kind (take (kind_width kind) bytes))
    then Ok (number_spelled kind (take (kind_width kind) bytes), drop (kind_width kind) bytes)
    else Err (length bytes)))

-- a number of a kind
abbrev pub kind_number : Kind → Field ℤ
kind_number kind = record { read = kind_number_read kind; spelled = spelling kind; fits = is_in_range kind }

-- whether a number is in the range of 64 bits in two's complement
abbrev pub is_signed_64 : ℤ → Bool
is_signed_64 (pos n) = nat_lt n (2 ^ 63)
is_signed_64 (negsuc n) = nat_lt n (2 ^ 63)

-- a number of 64 bits in two's complement
unfoldable pub signed_64 : Field ℤ
signed_64 = record {
  read = λ bytes. number_read w64 bytes >>= λ n. Ok (cast_signed w64 n.0, n.1);
  spelled = λ z. to_le_bytes w64 (cast_unsigned w64 z);
  fits = is_signed_64;
}

-- ---- fields of fields

-- no bytes
abbrev pub nothing : Field (Unit {0})
nothing = record { read = λ bytes. Ok (tt, bytes); spelled = λ _. []; fits = λ _. true }

-- no value
abbrev pub unknown : {A : Type 0} → Field A
unknown = record { read = λ bytes. Err (length bytes); spelled = λ _. []; fits = λ _. false }

-- a field whose values pass a test besides; one that doesn't is a fault at the field's first byte
abbrev pub checked : {A : Type 0} → Field A → (A → Bool) → Field A
checked field test = record {
  read = λ bytes. field.read bytes >>= λ x. (if test x.0 then Ok x else Err (length bytes));
  spelled = field.spelled;
  fits = λ x. field.fits x && test x;
}

-- a field and one behind it, whose rules may depend on the first
abbrev pub followed : {A B : Type 0} → Field A → (A → Field B) → Field (A × B)
followed first second = record {
  read = λ bytes. first.read bytes >>= λ a. (second a.0).read a.1 >>= λ b. Ok ((a.0, b.0), b.1);
  spelled = λ x. first.spelled x.0 ++ (second x.0).spelled x.1;
  fits = λ x. first.fits x.0 && (second x.0).fits x.1;
}

-- two fields, one behind the other
abbrev pub pair : {A B : Type 0} → Field A → Field B → Field (A × B)
pair first second = followed first (λ _. second)

-- the spelling of what a value is made of, and whether it fits, where it is made so
abbrev pub spelled_part : {A : Type 0} → Field A → Option A → List ℕ
spelled_part field None = []
spelled_part field (Some x) = field.spelled x

abbrev pub part_fits : {A : Type 0} → Field A → Option A → Bool
part_fits field None = false
part_fits field (Some x) = field.fits x

-- values that are made of those of a field
abbrev pub made : {A B : Type 0} → Field A → (A → B) → (B → Option A) → Field B
made field make part = record {
  read = λ bytes. field.read bytes >>= λ x. Ok (make x.0, x.1);
  spelled = λ y. spelled_part field (part y);
  fits = λ y. part_fits field (part y);
}

-- a number that says of which form the value is, and a value of that form
abbrev pub tagged : {A : Type 0} → Field ℕ → (A → ℕ) → (ℕ → Field A) → Field A
tagged tags tag form = record {
  read = λ bytes. tags.read bytes >>= λ code. (form code.0).read code.1;
  spelled = λ x. tags.spelled (tag x) ++ (form (tag x)).spelled x;
  fits = λ x. tags.fits (tag x) && (form (tag x)).fits x;
}

-- ---- texts

unfoldable pub string_read : (List ℕ → Bool) → ℕ → ℕ → List ℕ → Read (List ℕ)
string_read good left n bytes =
    (if nat_lt (length bytes) n then Err left
    else (if good (take n bytes) then Ok (take n bytes, drop n bytes) else Err left))

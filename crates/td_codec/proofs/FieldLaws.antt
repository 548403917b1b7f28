-- Fields that are made of fields have one spelling where these have.
use Rattle.std.proofs.Common.{◌≡◌, ℕ, zero, suc, ◌+◌, ◌-◌, ◌*◌, ◌^◌, ◌<◌, ◌≤◌, Bool, true, false, cond, ltb, ℤ, pos, negsuc, List, [], ◌∷◌, ◌++◌, length, get_or, take, drop, Option, Some, None, Result, Ok, Err, refl, sym, ap, subst, ◌∙◌, append_assoc, arith, inl, inr}
use Rattle.std.specs.Prelude.{◌&&◌, FitsSigned}
use Rattle.std.specs.Int.{Width, w8, w16, w32, w64, byte_len, from_le_bytes, to_le_bytes, cast_signed, cast_unsigned}
use Rattle.std.proofs.Math.Nat.{mod-eq_of_lt}
use Rattle.std.proofs.Math.Facts.{Fits-of_z}
use Rattle.std.proofs.lemmas.Bool.{cases_lt, ltb-true, ltb-false, lt-ltb, le-ltb, and_parts, and_from, cond-true}
use Rattle.std.proofs.lemmas.Int.{to_z-of_z, of_z-to_z}
use Rattle.std.proofs.lemmas.List.{take_at, drop_at, take-append-drop, length-append, length-take, get_or-drop, get_or-take, get_or_past}
use Rattle.std.proofs.lemmas.Nat.{le_bytes_2, le_bytes_4, le_bytes_8, from_le_bytes-to_le_bytes_2, from_le_bytes-to_le_bytes_4, from_le_bytes-to_le_bytes_8}
use borrow.Author.Gap.{read_sfits}
use Rattle.td_cols.specs.declared.kinds.Kind.{Kind}
use Rattle.td_cols.specs.Kinds.{kind_width, is_in_range}
use Rattle.td_cols.specs.Spelling.{AreBytes, spelling, number_spelled, HasOneSpelling}
use Rattle.td_codec.specs.Fields.{◌>>=◌, Read, Field, Takes, Within, SpellsOnce, number_read, number, kind_number_read, kind_number, is_signed_64, signed_64, nothing, unknown, checked, followed, pair, spelled_part, part_fits, made, tagged, string_read}

pub AreBytes-drop : (n : ℕ) (bytes : List ℕ) → AreBytes bytes → AreBytes (drop n bytes)
AreBytes-drop n bytes are i = rw get_or-drop (are (n + i))

pub AreBytes-take : (n : ℕ) (bytes : List ℕ) → AreBytes bytes → AreBytes (take n bytes)
AreBytes-take n bytes are i =
    elim (cases_lt i n) [
      | inl lt ↦ rw (get_or-take n bytes i 0 lt) (are i)
      | inr le ↦ rw (get_or_past (take n bytes) i 0 (omega (arith, length-take n bytes))) (omega arith)
    ]

-- ---- steps that did not fail

pub bind_ok : {A B : Type 0} (r : Result A ℕ) (f : A → Result B ℕ) (y : B) → (r >>= f) ≡ Ok y → (x : A) × (r ≡ Ok x) × (f x ≡ Ok y)
bind_ok (Ok x) f y e = (x, refl, e)
bind_ok (Err d) f y e = absurd cc

pub bind_is : {A B : Type 0} {r : Result A ℕ} {x : A} (k : A → Result B ℕ) → r ≡ Ok x → (r >>= k) ≡ k x
bind_is {A} {B} {r} {x} k e = ap (λ (s : Result A ℕ). s >>= k) e

-- a test that passed, in the order of its parts
pub passed : {A : Type 0} (b : Bool) (d : ℕ) (r : Result A ℕ) (y : A) → cond b r (Err d) ≡ Ok y → (b ≡ true) × (r ≡ Ok y)
passed true d r y e = (refl, e)
passed false d r y e = absurd cc

pub passed_by : {A : Type 0} (b : Bool) (d : ℕ) (r : Result A ℕ) (y : A) → cond b (Err d) r ≡ Ok y → (b ≡ false) × (r ≡ Ok y)
passed_by true d r y e = absurd cc
passed_by false d r y e = (refl, e)

abbrev done : {A : Type 0} → A → Result A ℕ
done x = Ok x

pub ok_is : {A : Type 0} (x y : A) → done x ≡ done y → x ≡ y
ok_is x y e = cc

pub takes_then : (a x b y c : List ℕ) → Takes a x b → Takes b y c → Takes a (x ++ y) c
takes_then a x b y c p q = record { parts = p.parts ∙ ap (λ (t : List ℕ). x ++ t) q.parts ∙ sym (append_assoc x y c); rest_are = q.rest_are }

-- ---- faults lie within the bytes

pub within_bind : {A B : Type 0} (n : ℕ) (r : Result A ℕ) (f : A → Result B ℕ) → Within n r → ((x : A) → r ≡ Ok x → Within n (f x)) → Within n (r >>= f)
within_bind n (Ok x) f first second = second x refl
within_bind n (Err d) f first second = first

pub within_cond : {A : Type 0} (n : ℕ) (b : Bool) (r s : Result A ℕ) → Within n r → Within n s → Within n (cond b r s)
within_cond n true r s first second = first
within_cond n false r s first second = second

pub within_more : {A : Type 0} (m n : ℕ) (r : Result A ℕ) → m ≤ n → Within m r → Within n r
within_more m n (Ok x) le h = tt
within_more m n (Err d) le h = omega arith

pub shorter : (bytes front rest : List ℕ) → Takes bytes front rest → length rest ≤ length bytes
shorter bytes front rest t = omega (arith, ap length t.parts, length-append front rest)

pub le_self : (n : ℕ) → n ≤ n
le_self n = omega arith

-- ---- numbers

pub record IsWide (w : Width) : Type 0 where
  pub len : (n : ℕ) → length (to_le_bytes w n) ≡ byte_len w
  pub back : (bytes : List ℕ) → length bytes ≡ byte_len w → AreBytes bytes → to_le_bytes w (from_le_bytes w bytes) ≡ bytes
  pub again : (n : ℕ) → n < 2 ^ (8 * byte_len w) → from_le_bytes w (to_le_bytes w n) ≡ n
  pub below : (bytes : List ℕ) → AreBytes bytes → from_le_bytes w bytes < 2 ^ (8 * byte_len w)

one_byte : (bytes : List ℕ) → length bytes ≡ 1 → AreBytes bytes → to_le_bytes w8 (from_le_bytes w8 bytes) ≡ bytes
one_byte [] len are = absurd (omega (arith, len))
one_byte (b ∷ []) len are = ap (λ (x : ℕ). x ∷ []) (mod-eq_of_lt (are 0))
one_byte (b ∷ c ∷ bytes) len are = absurd (omega (arith, len))

pub wide8 : IsWide w8
wide8 = record {
  len = λ n. refl;
  back = one_byte;
  again = λ n lt. mod-eq_of_lt lt;
  below = λ bytes are. omega (arith, are 0);
}

pub wide16 : IsWide w16
wide16 = record {
  len = λ n. refl;
  back = λ bytes len are. le_bytes_2 bytes _ len are refl;
  again = λ n lt. from_le_bytes-to_le_bytes_2 n lt;
  below = λ bytes are. omega (arith, are 0, are 1);
}

pub wide32 : IsWide w32
wide32 = record {
  len = λ n. refl;
  back = λ bytes len are. le_bytes_4 bytes _ len are refl;
  again = λ n lt. from_le_bytes-to_le_bytes_4 n lt;
  below = λ bytes are. omega (arith, are 0, are 1, are 2, are 3);
}

pub wide64 : IsWide w64
wide64 = record {
  len = λ n. refl;
  back = λ bytes len are. le_bytes_8 bytes _ len are refl;
  again = λ n lt. from_le_bytes-to_le_bytes_8 n lt;
  below = λ bytes are. omega (arith, are 0, are 1, are 2, are 3, are 4, are 5, are 6, are 7);
}

-- of bytes that are a spelling and more, the front of its length is the spelling
pub long_enough : (front rest : List ℕ) (n : ℕ) → length front ≡ n → ltb (length (front ++ rest)) n ≡ false
long_enough front rest n len = le-ltb _ _ (omega (arith, len, length-append front rest))

pub number_spells : (w : Width) → IsWide w → SpellsOnce (number w)
unfolding number_read
number_spells w wide = record {
  takes = λ bytes x are e.
      let k : ℕ = byte_len w in
      let front = take k bytes in
      let g = passed_by (ltb (length bytes) k) (length bytes) (Ok (from_le_bytes w front, drop k bytes)) x e in
      let long : k ≤ length bytes = ltb-false _ _ g.0 in
      let fronts = AreBytes-take k bytes are in
      let back : to_le_bytes w (from_le_bytes w front) ≡ front = wide.back front (omega (arith, length-take k bytes)) fronts in
      let parts : bytes ≡ to_le_bytes w (from_le_bytes w front) ++ drop k bytes = sym (take-append-drop k bytes) ∙ ap (λ (l : List ℕ). l ++ drop k bytes) (sym back) in
      subst (λ (y : ℕ × List ℕ). Takes bytes (to_le_bytes w y.0) y.1 × (ltb y.0 (2 ^ (8 * byte_len w)) ≡ true)) (ok_is (from_le_bytes w front, drop k bytes) x g.1)
      (record { parts = parts; rest_are = AreBytes-drop k bytes are }, lt-ltb _ _ (wide.below front fronts));
  again = λ n rest fits.
      let len = wide.len n in
      let lt : n < 2 ^ (8 * byte_len w) = ltb-true _ _ fits in
      rw (long_enough (to_le_bytes w n) rest (byte_len w) len, take_at (to_le_bytes w n) rest (byte_len w) len, drop_at (to_le_bytes w n) rest (byte_len w) len, wide.again n lt) refl;
  within = λ bytes are. within_cond (length bytes) (ltb (length bytes) (byte_len w)) (Err (length bytes)) (Ok (from_le_bytes w (take (byte_len w) bytes), drop (byte_len w) bytes)) (le_self (length bytes)) tt;
}

pub kind_number_spells : (kind : Kind) → HasOneSpelling kind → SpellsOnce (kind_number kind)
unfolding kind_number_read
kind_number_spells kind one = record {
  takes = λ bytes x are e.
      let k : ℕ = kind_width kind in
      let front = take k bytes in
      let n : ℤ = number_spelled kind front in
      let g = passed_by (ltb (length bytes) k) (length bytes) (cond (is_in_range kind n) (Ok (n, drop k bytes)) (Err (length bytes))) x e in
      let h = passed (is_in_range kind n) (length bytes) (Ok (n, drop k bytes)) x g.1 in
      let long : k ≤ length bytes = ltb-false _ _ g.0 in
      let back : spelling kind n ≡ front = one.respelled front (AreBytes-take k bytes are) (omega (arith, length-take k bytes)) in
      let parts : bytes ≡ spelling kind n ++ drop k bytes = sym (take-append-drop k bytes) ∙ ap (λ (l : List ℕ). l ++ drop k bytes) (sym back) in
      subst (λ (y : ℤ × List ℕ). Takes bytes (spelling kind y.0) y.1 × (is_in_range kind y.0 ≡ true)) (ok_is (n, drop k bytes) x h.1)
      (record { parts = parts; rest_are = AreBytes-drop k bytes are }, h.0);
  again = λ z rest fits.
      let len = one.as_wide z in
      rw (long_enough (spelling kind z) rest (kind_width kind) len, take_at (spelling kind z) rest (kind_width kind) len, drop_at (spelling kind z) rest (kind_width kind) len, one.spelled z fits, fits) refl;
  within = λ bytes are.
      let k : ℕ = kind_width kind in
      let n : ℤ = number_spelled kind (take k bytes) in
      within_cond (length bytes) (ltb (length bytes) k) (Err (length bytes)) (cond (is_in_range kind n) (Ok (n, drop k bytes)) (Err (length bytes))) (le_self (length bytes))
      (within_cond (length bytes) (is_in_range kind n) (Ok (n, drop k bytes)) (Err (length bytes)) tt (le_self (length bytes)));
}

signed_is : (z : ℤ) → FitsSigned w64 z → is_signed_64 z ≡ true
signed_is (pos n) f = lt-ltb _ _ f.sfits
signed_is (negsuc n) f = lt-ltb _ _ f.sfits

pub fits_is : (z : ℤ) → is_signed_64 z ≡ true → FitsSigned w64 z
fits_is (pos n) e = record { sfits = ltb-true _ _ e }
fits_is (negsuc n) e = record { sfits = ltb-true _ _ e }

pub signed_64_spells : SpellsOnce signed_64
unfolding signed_64
signed_64_spells = record {
  takes = λ bytes x are e.
      let b = bind_ok (number_read w64 bytes) (λ (n : ℕ × List ℕ). Ok (cast_signed w64 n.0, n.1)) x e in
      let t = (number_spells w64 wide64).takes bytes b.0 are b.1 in
      let back : cast_unsigned w64 (cast_signed w64 b.0.0) ≡ b.0.0 = of_z-to_z w64 b.0.0 (ltb-true _ _ t.1) in
      let parts : bytes ≡ to_le_bytes w64 (cast_unsigned w64 (cast_signed w64 b.0.0)) ++ b.0.1 = t.0.parts ∙ ap (λ (n : ℕ). to_le_bytes w64 n ++ b.0.1) (sym back) in
      subst (λ (y : ℤ × List ℕ). Takes bytes (to_le_bytes w64 (cast_unsigned w64 y.0)) y.1 × (is_signed_64 y.0 ≡ true)) (ok_is (cast_signed w64 b.0.0, b.0.1) x b.2)
      (record { parts = parts; rest_are = t.0.rest_are }, signed_is (cast_signed w64 b.0.0) (read_sfits w64 b.0.0));
  again = λ z rest fits.
      let f = fits_is z fits in
      let small = Fits-of_z {w = w64} {z = z} f in
      bind_is (λ (n : ℕ × List ℕ). Ok (cast_signed w64 n.0, n.1)) ((number_spells w64 wide64).again (cast_unsigned w64 z) rest (lt-ltb _ _ small.fits))
      ∙ ap (λ (y : ℤ). Ok (y, rest)) (to_z-of_z w64 z f);
  within = λ bytes are. within_bind (length bytes) (number_read w64 bytes) (λ (n : ℕ × List ℕ). Ok (cast_signed w64 n.0, n.1)) ((number_spells w64 wide64).within bytes are) (λ x e. tt);
}

-- ---- fields of fields

pub nothing_spells : SpellsOnce nothing
nothing_spells = record {
  takes = λ bytes x are e.
      subst (λ (y : Unit {0} × List ℕ). Takes bytes [] y.1 × (true ≡ true)) (ok_is (tt, bytes) x e) (record { parts = refl; rest_are = are }, refl);
  again = λ x rest fits. refl;
  within = λ bytes are. tt;
}

pub unknown_spells : {A : Type 0} → SpellsOnce (unknown {A = A})
unknown_spells {A} = record {
  takes = λ bytes x are e. absurd cc;
  again = λ x rest fits. absurd cc;
  within = λ bytes are. le_self (length bytes);
}

pub checked_spells : {A : Type 0} (field : Field A) (test : A → Bool) → SpellsOnce field → SpellsOnce (checked field test)
checked_spells {A} field test one = record {
  takes = λ bytes x are e.
      let b = bind_ok (field.read bytes) (λ (y : A × List ℕ). cond (test y.0) (Ok y) (Err (length bytes))) x e in
      let g = passed (test b.0.0) (length bytes) (Ok b.0) x b.2 in
      let t = one.takes bytes b.0 are b.1 in
      subst (λ (y : A × List ℕ). Takes bytes (field.spelled y.0) y.1 × ((field.fits y.0 && test y.0) ≡ true)) (ok_is b.0 x g.1) (t.0, and_from _ _ t.1 g.0);
  again = λ x rest fits.
      let f = and_parts (field.fits x) (test x) fits in
      let bytes = field.spelled x ++ rest in
      bind_is (λ (y : A × List ℕ). cond (test y.0) (Ok y) (Err (length bytes))) (one.again x rest f.0)
      ∙ cond-true (test x) (Ok (x, rest)) (Err (length bytes)) f.1;
  within = λ bytes are.
      within_bind (length bytes) (field.read bytes) (λ (y : A × List ℕ). cond (test y.0) (Ok y) (Err (length bytes))) (one.within bytes are)
      (λ y e. within_cond (length bytes) (test y.0) (Ok y) (Err (length bytes)) tt (le_self (length bytes)));
}

pub followed_spells : {A B : Type 0} (first : Field A) (second : A → Field B) → SpellsOnce first → ((a : A) → SpellsOnce (second a)) → SpellsOnce (followed first second)
followed_spells {A} {B} first second one others = record {
  takes = λ bytes x are e.
      let a = bind_ok (first.read bytes) (λ (a : A × List ℕ). (second a.0).read a.1 >>= λ b. Ok ((a.0, b.0), b.1)) x e in
      let b = bind_ok ((second a.0.0).read a.0.1) (λ (b : B × List ℕ). Ok ((a.0.0, b.0), b.1)) x a.2 in
      let t = one.takes bytes a.0 are a.1 in
      let u = (others a.0.0).takes a.0.1 b.0 t.0.rest_are b.1 in
      subst (λ (y : (A × B) × List ℕ). Takes bytes (first.spelled y.0.0 ++ (second y.0.0).spelled y.0.1) y.1 × ((first.fits y.0.0 && (second y.0.0).fits y.0.1) ≡ true)) (ok_is ((a.0.0, b.0.0), b.0.1) x b.2)
      (takes_then bytes (first.spelled a.0.0) a.0.1 ((second a.0.0).spelled b.0.0) b.0.1 t.0 u.0, and_from _ _ t.1 u.1);
  again = λ x rest fits.
      let f = and_parts (first.fits x.0) ((second x.0).fits x.1) fits in
      let k : A × List ℕ → Read (A × B) = λ a. (second a.0).read a.1 >>= λ b. Ok ((a.0, b.0), b.1) in
      ap (λ (l : List ℕ). first.read l >>= k) (append_assoc (first.spelled x.0) ((second x.0).spelled x.1) rest)
      ∙ bind_is k (one.again x.0 ((second x.0).spelled x.1 ++ rest) f.0)
      ∙ bind_is (λ (b : B × List ℕ). Ok ((x.0, b.0), b.1)) ((others x.0).again x.1 rest f.1);
  within = λ bytes are.
      within_bind (length bytes) (first.read bytes) (λ (a : A × List ℕ). (second a.0).read a.1 >>= λ b. Ok ((a.0, b.0), b.1)) (one.within bytes are) (λ a e.
      let t = one.takes bytes a are e in
      within_bind (length bytes) ((second a.0).read a.1) (λ (b : B × List ℕ). Ok ((a.0, b.0), b.1))
      (within_more (length a.1) (length bytes) ((second a.0).read a.1) (shorter bytes (first.spelled a.0) a.1 t.0) ((others a.0).within a.1 t.0.rest_are)) (λ b e2. tt));
}

pub pair_spells : {A B : Type 0} (first : Field A) (second : Field B) → SpellsOnce first → SpellsOnce second → SpellsOnce (pair first second)
pair_spells first second one other = followed_spells first (λ _. second) one (λ _. other)

abbrev as_made : {A B : Type 0} → (A → B) → A × List ℕ → Read B
as_made make x = Ok (make x.0, x.1)

made_again : {A B : Type 0} (field : Field A) (make : A → B) (part : B → Option A) (only : (a : A) (b : B) → part b ≡ Some a → make a ≡ b) → SpellsOnce field
    → (y : B) (rest : List ℕ) (o : Option A) → part y ≡ o → part_fits field o ≡ true → (field.read (spelled_part field o ++ rest) >>= as_made make) ≡ Ok (y, rest)
made_again field make part only one y rest None e fits = absurd cc
made_again {A} {B} field make part only one y rest (Some a) e fits =
    bind_is (as_made make) (one.again a rest fits) ∙ ap (λ (b : B). Ok (b, rest)) (only a y e)

pub made_spells : {A B : Type 0} (field : Field A) (make : A → B) (part : B → Option A) → ((a : A) → field.fits a ≡ true → part (make a) ≡ Some a) → ((a : A) (b : B) → part b ≡ Some a → make a ≡ b) → SpellsOnce field → SpellsOnce (made field make part)
made_spells {A} {B} field make part back only one = record {
  takes = λ bytes x are e.
      let b = bind_ok (field.read bytes) (λ (x : A × List ℕ). Ok (make x.0, x.1)) x e in
      let t = one.takes bytes b.0 are b.1 in
      let whole = subst (λ (o : Option A). Takes bytes (spelled_part field o) b.0.1 × (part_fits field o ≡ true)) (sym (back b.0.0 t.1)) t in
      subst (λ (y : B × List ℕ). Takes bytes (spelled_part field (part y.0)) y.1 × (part_fits field (part y.0) ≡ true)) (ok_is (make b.0.0, b.0.1) x b.2) whole;
  again = λ y rest fits. made_again field make part only one y rest (part y) refl fits;
  within = λ bytes are. within_bind (length bytes) (field.read bytes) (as_made make) (one.within bytes are) (λ x e. tt);
}

pub tagged_spells : {A : Type 0} (tags : Field ℕ) (tag : A → ℕ) (form : ℕ → Field A) → ((c : ℕ) (x : A) → (form c).fits x ≡ true → tag x ≡ c) → SpellsOnce tags → ((c : ℕ) → SpellsOnce (form c)) → SpellsOnce (tagged tags tag form)
tagged_spells {A} tags tag form own one each = record {
  takes = λ bytes x are e.
      let b = bind_ok (tags.read bytes) (λ (code : ℕ × List ℕ). (form code.0).read code.1) x e in
      let t = one.takes bytes b.0 are b.1 in
      let u = (each b.0.0).takes b.0.1 x t.0.rest_are b.2 in
      let whole = takes_then bytes (tags.spelled b.0.0) b.0.1 ((form b.0.0).spelled x.0) x.1 t.0 u.0 in
      subst (λ (c : ℕ). Takes bytes (tags.spelled c ++ (form c).spelled x.0) x.1 × ((tags.fits c && (form c).fits x.0) ≡ true)) (sym (own b.0.0 x.0 u.1)) (whole, and_from _ _ t.1 u.1);
  again = λ x rest fits.
      let f = and_parts (tags.fits (tag x)) ((form (tag x)).fits x) fits in
      let k : ℕ × List ℕ → Read A = λ code. (form code.0).read code.1 in
      ap (λ (l : List ℕ). tags.read l >>= k) (append_assoc (tags.spelled (tag x)) ((form (tag x)).spelled x) rest)
      ∙ bind_is k (one.again (tag x) ((form (tag x)).spelled x ++ rest) f.0)
      ∙ (each (tag x)).again x rest f.1;
  within = λ bytes are.
      within_bind (length bytes) (tags.read bytes) (λ (code : ℕ × List ℕ). (form code.0).read code.1) (one.within bytes are) (λ code e.
      let t = one.takes bytes code are e in
      within_more (length code.1) (length bytes) ((form code.0).read code.1) (shorter bytes (tags.spelled code.0) code.1 t.0) ((each code.0).within code.1 t.0.rest_are));
}

-- a value that fits is of the tag of what it is made of
pub made_tag : {A B : Type 0} (field : Field A) (make : A → B) (part : B → Option A) → ((a : A) (b : B) → part b ≡ Some a → make a ≡ b) → (tag : B → ℕ) (c : ℕ) → ((a : A) → tag (make a) ≡ c)
    → (y : B) (o : Option A) → part y ≡ o → part_fits field o ≡ true → tag y ≡ c
made_tag field make part only tag c tags y None e fits = absurd cc
made_tag field make part only tag c tags y (Some a) e fits = ap tag (sym (only a y e)) ∙ tags a

-- ---- so many bytes

pub string_takes : (good : List ℕ → Bool) (left n : ℕ) (bytes : List ℕ) (x : List ℕ × List ℕ) → AreBytes bytes → string_read good left n bytes ≡ Ok x → Takes bytes x.0 x.1 × ((length x.0 ≡ n) × (good x.0 ≡ true))
unfolding string_read
string_takes good left n bytes x are e =
    let front = take n bytes in
    let g = passed_by (ltb (length bytes) n) left (cond (good front) (Ok (front, drop n bytes)) (Err left)) x e in
    let h = passed (good front) left (Ok (front, drop n bytes)) x g.1 in
    let long : n ≤ length bytes = ltb-false _ _ g.0 in
    let len : length front ≡ n = omega (arith, length-take n bytes) in
    subst (λ (y : List ℕ × List ℕ). Takes bytes y.0 y.1 × ((length y.0 ≡ n) × (good y.0 ≡ true))) (ok_is (front, drop n bytes) x h.1)
    (record { parts = sym (take-append-drop n bytes); rest_are = AreBytes-drop n bytes are }, (len, h.0))

pub string_again : (good : List ℕ → Bool) (left n : ℕ) (text rest : List ℕ) → length text ≡ n → good text ≡ true → string_read good left n (text ++ rest) ≡ Ok (text, rest)
unfolding string_read
string_again good left n text rest len fits = rw (long_enough text rest n len, take_at text rest n len, drop_at text rest n len, fits) refl

pub string_within : (good : List ℕ → Bool) (left n : ℕ) (bytes : List ℕ) (bound : ℕ) → left ≤ bound → Within bound (string_read good left n bytes)
unfolding string_read
string_within good left n bytes bound le =
    within_cond bound (ltb (length bytes) n) (Err left) (cond (good (take n bytes)) (Ok (take n bytes, drop n bytes)) (Err left)) le
    (within_cond bound (good (take n bytes)) (Ok (take n bytes, drop n bytes)) (Err left) tt le)

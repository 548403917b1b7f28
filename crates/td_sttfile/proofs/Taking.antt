-- What reading fields takes of bytes, whatever these are and whatever stands behind them.
use Rattle.std.proofs.Common.{◌≡◌, ℕ, zero, suc, ◌+◌, ◌-◌, ◌*◌, ◌%◌, ◌<◌, ◌≤◌, Bool, true, false, ltb, leb, eqb, cond, List, [], ◌∷◌, ◌++◌, length, get_or, take, drop, Option, Some, Ok, Err, refl, sym, ap, subst, ◌∙◌, arith}
use Rattle.std.specs.Prelude.{◌&&◌, slice_get, ℤ}
use Rattle.std.specs.Option.{option_map_or}
use Rattle.std.specs.Int.{Width, w64, byte_len, from_le_bytes}
use Rattle.std.proofs.Math.Nat.{mul-suc}
use Rattle.std.proofs.lemmas.Bool.{and_parts, and_from, ltb-true, lt-ltb, ne_eqb, cond-false, le-ltb}
use Rattle.std.proofs.lemmas.Bool.Decides.{nat_tests}
use Rattle.std.proofs.lemmas.List.{length-append, length-drop, drop-drop, drop-append-le, take-append-le}
use Rattle.td_limits.specs.declared.limits.TheConstants.{LAST_TIMESTAMP}
use Rattle.td_cols.specs.declared.kinds.Kind.{Kind}
use Rattle.td_cols.specs.Kinds.{kind_width, is_in_range}
use Rattle.td_cols.specs.Spelling.{number_spelled}
use Rattle.td_codec.specs.Fields.{◌>>=◌, Read, Field, number_read, kind_number_read, number, checked, followed, made}
use Rattle.td_codec.specs.Lists.{Items, items_read}
use Rattle.td_codec.proofs.FieldLaws.{bind_ok, bind_is, passed as test_passed, ok_is}
use Rattle.td_block.specs.Rows.{is_later, time_items}
use Rattle.td_block.specs.Headers.{passed, first_time, last_time}
use Rattle.td_sttfile.proofs.Numbers.{num, long_enough, reads_long}

-- ---- so many bytes

-- so many bytes were taken from the front of some
pub record Takes (n : ℕ) (bytes rest : List ℕ) : Type 0 where
  pub long : n ≤ length bytes
  pub rest_is : rest ≡ drop n bytes

pub takes_none : (bytes rest : List ℕ) → bytes ≡ rest → Takes 0 bytes rest
takes_none bytes rest e = record { long = omega arith; rest_is = sym e }

pub takes_then : (m n : ℕ) (a b c : List ℕ) → Takes m a b → Takes n b c → Takes (m + n) a c
takes_then m n a b c p q = record {
  long = omega (arith, p.long, q.long, ap length p.rest_is, length-drop m a);
  rest_is = q.rest_is ∙ ap (drop n) p.rest_is ∙ drop-drop n m a;
}

pub takes_more : (n : ℕ) (bytes rest more : List ℕ) → Takes n bytes rest → Takes n (bytes ++ more) (rest ++ more)
takes_more n bytes rest more t = record {
  long = omega (arith, t.long, length-append bytes more);
  rest_is = ap (λ (l : List ℕ). l ++ more) t.rest_is ∙ sym (drop-append-le n bytes more t.long);
}

pub takes_less : (n : ℕ) (bytes rest : List ℕ) → Takes n bytes rest → length rest ≤ length bytes
takes_less n bytes rest t = omega (arith, ap length t.rest_is, length-drop n bytes)

-- what is passed over
pub passes : (width count : ℕ) (bytes rest : List ℕ) → Takes (width * count) bytes rest → passed width count bytes ≡ Ok rest
passes width count bytes rest t =
    cond-false (ltb (length bytes) (width * count)) (Err (length bytes % width)) (Ok (drop (width * count) bytes)) (le-ltb (length bytes) (width * count) t.long)
    ∙ ap (λ (l : List ℕ). Ok l) (sym t.rest_is)

-- ---- numbers

abbrev rest_in : {A : Type 0} → Read A → List ℕ
rest_in (Ok x) = x.1
rest_in (Err left) = []

pub number_takes : (w : Width) (bytes : List ℕ) (x : ℕ × List ℕ) → number_read w bytes ≡ Ok x → Takes (byte_len w) bytes x.1
number_takes w bytes x e =
    let long = long_enough w bytes x e in
    record { long = long; rest_is = sym (ap rest_in (sym (reads_long w bytes long) ∙ e)) }

pub number_more : (w : Width) (bytes more : List ℕ) (x : ℕ × List ℕ) → number_read w bytes ≡ Ok x → number_read w (bytes ++ more) ≡ Ok (x.0, x.1 ++ more)
number_more w bytes more x e =
    let k = byte_len w in
    let long = long_enough w bytes x e in
    let whole : byte_len w ≤ length (bytes ++ more) = omega (arith, long, length-append bytes more) in
    let was : num w bytes ≡ Ok x = sym (reads_long w bytes long) ∙ e in
    let value : from_le_bytes w (take k bytes) ≡ x.0 = ap (λ (r : Read ℕ). first_in r) was in
    let rest : drop k bytes ≡ x.1 = ap (λ (r : Read ℕ). rest_in r) was in
    reads_long w (bytes ++ more) whole
    ∙ ap (λ (l : List ℕ). Ok (from_le_bytes w l, drop k (bytes ++ more))) (take-append-le k bytes more long)
    ∙ ap (λ (l : List ℕ). Ok (from_le_bytes w (take k bytes), l)) (drop-append-le k bytes more long)
    ∙ ap (λ (v : ℕ). Ok (v, drop k bytes ++ more)) value
    ∙ ap (λ (l : List ℕ). Ok (x.0, l ++ more)) rest where
      first_in : Read ℕ → ℕ
      first_in (Ok y) = y.0
      first_in (Err left) = 0

pub kind_number_takes : (kind : Kind) (bytes : List ℕ) (x : ℤ × List ℕ) → kind_number_read kind bytes ≡ Ok x → Takes (kind_width kind) bytes x.1
unfolding kind_number_read
kind_number_takes kind bytes x e = by_length (ltb (length bytes) (kind_width kind)) refl e where
  read : Read ℤ
  read = cond (is_in_range kind (number_spelled kind (take (kind_width kind) bytes))) (Ok (number_spelled kind (take (kind_width kind) bytes), drop (kind_width kind) bytes)) (Err (length bytes))

  by_length : (b : Bool) → ltb (length bytes) (kind_width kind) ≡ b → cond b (Err (length bytes)) read ≡ Ok x → Takes (kind_width kind) bytes x.1
  by_length true t q = absurd cc
  by_length false t q =
      let p = test_passed (is_in_range kind (number_spelled kind (take (kind_width kind) bytes))) (length bytes) (Ok (number_spelled kind (take (kind_width kind) bytes), drop (kind_width kind) bytes)) x q in
      record { long = grind (arith, nat_tests); rest_is = sym (ap (λ (r : Read ℤ). rest_in r) p.1) }

-- ---- fields of fields

-- a test that was passed
pub record IsChecked {A : Type 0} (field : Field A) (test : A → Bool) (bytes : List ℕ) (x : A × List ℕ) : Type 0 where
  pub read : field.read bytes ≡ Ok x
  pub holds : test x.0 ≡ true

pub checked_is : {A : Type 0} (field : Field A) (test : A → Bool) (bytes : List ℕ) (x : A × List ℕ) → (checked field test).read bytes ≡ Ok x → IsChecked field test bytes x
checked_is {A} field test bytes x e =
    let t = bind_ok (field.read bytes) (λ (y : A × List ℕ). cond (test y.0) (Ok y) (Err (length bytes))) x e in
    let p = test_passed (test t.0.0) (length bytes) (Ok t.0) x t.2 in
    subst (IsChecked field test bytes) (ok_is t.0 x p.1) (record { read = t.1; holds = p.0 })

pub checked_reads : {A : Type 0} (field : Field A) (test : A → Bool) (bytes : List ℕ) (x : A × List ℕ) → field.read bytes ≡ Ok x → test x.0 ≡ true → (checked field test).read bytes ≡ Ok x
checked_reads {A} field test bytes x e p =
    bind_is (λ (y : A × List ℕ). cond (test y.0) (Ok y) (Err (length bytes))) e ∙ ap (λ (b : Bool). cond b (Ok x) (Err (length bytes))) p

-- a field was read and one behind it
pub record IsFollowed {A B : Type 0} (first : Field A) (second : A → Field B) (bytes : List ℕ) (x : (A × B) × List ℕ) : Type 0 where
  pub rest : List ℕ
  pub read : first.read bytes ≡ Ok (x.0.0, rest)
  pub then : (second x.0.0).read rest ≡ Ok (x.0.1, x.1)

pub followed_is : {A B : Type 0} (first : Field A) (second : A → Field B) (bytes : List ℕ) (x : (A × B) × List ℕ) → (followed first second).read bytes ≡ Ok x → IsFollowed first second bytes x
followed_is {A} {B} first second bytes x e =
    let t = bind_ok (first.read bytes) (λ (a : A × List ℕ). (second a.0).read a.1 >>= both a) x e in
    let u = bind_ok ((second t.0.0).read t.0.1) (both t.0) x t.2 in
    subst (IsFollowed first second bytes) (ok_is ((t.0.0, u.0.0), u.0.1) x u.2) (record { rest = t.0.1; read = t.1; then = u.1 }) where
      both : A × List ℕ → B × List ℕ → Read (A × B)
      both a b = Ok ((a.0, b.0), b.1)

pub followed_reads : {A B : Type 0} (first : Field A) (second : A → Field B) (bytes : List ℕ) (a : A × List ℕ) (b : B × List ℕ) → first.read bytes ≡ Ok a → (second a.0).read a.1 ≡ Ok b → (followed first second).read bytes ≡ Ok ((a.0, b.0), b.1)
followed_reads {A} {B} first second bytes a b p q =
    bind_is (λ (a : A × List ℕ). (second a.0).read a.1 >>= both a) p ∙ bind_is (both a) q where
      both : A × List ℕ → B × List ℕ → Read (A × B)
      both a b = Ok ((a.0, b.0), b.1)

-- what a value was made of
pub record IsMade {A B : Type 0} (field : Field A) (make : A → B) (bytes : List ℕ) (y : B × List ℕ) : Type 0 where
  pub part : A
  pub read : field.read bytes ≡ Ok (part, y.1)
  pub makes : make part ≡ y.0

pub made_is : {A B : Type 0} (field : Field A) (make : A → B) (part : B → Option A) (bytes : List ℕ) (y : B × List ℕ) → (made field make part).read bytes ≡ Ok y → IsMade field make bytes y
made_is {A} {B} field make part bytes y e =
    let t = bind_ok (field.read bytes) (λ (x : A × List ℕ). Ok (make x.0, x.1)) y e in
    subst (IsMade field make bytes) (ok_is (make t.0.0, t.0.1) y t.2) (record { part = t.0.0; read = t.1; makes = refl })

-- ---- items

-- an item was read and those behind it
pub record AreItems {A : Type 0} (items : Items A) (before : List A) (n : ℕ) (bytes : List ℕ) (x : List A × List ℕ) : Type 0 where
  pub first : A
  pub others : List A
  pub rest : List ℕ
  pub read : items.read before bytes ≡ Ok (first, rest)
  pub then : items_read items (before ++ first ∷ []) n rest ≡ Ok (others, x.1)
  pub are : x.0 ≡ first ∷ others

pub items_are : {A : Type 0} (items : Items A) (before : List A) (n : ℕ) (bytes : List ℕ) (x : List A × List ℕ) → items_read items before (suc n) bytes ≡ Ok x → AreItems items before n bytes x
unfolding items_read
items_are {A} items before n bytes x e =
    let t = bind_ok (items.read before bytes) (λ (f : A × List ℕ). items_read items (before ++ f.0 ∷ []) n f.1 >>= all_of f) x e in
    let u = bind_ok (items_read items (before ++ t.0.0 ∷ []) n t.0.1) (all_of t.0) x t.2 in
    subst (AreItems items before n bytes) (ok_is (t.0.0 ∷ u.0.0, u.0.1) x u.2) (record { first = t.0.0; others = u.0.0; rest = t.0.1; read = t.1; then = u.1; are = refl }) where
      all_of : A × List ℕ → List A × List ℕ → Read (List A)
      all_of f others = Ok (f.0 ∷ others.0, others.1)

pub no_items : {A : Type 0} (items : Items A) (before : List A) (bytes : List ℕ) (x : List A × List ℕ) → items_read items before 0 bytes ≡ Ok x → (x.0 ≡ []) × (bytes ≡ x.1)
unfolding items_read
no_items {A} items before bytes x e = let same : ([], bytes) ≡ x = ok_is ([], bytes) x e in (ap (λ (y : List A × List ℕ). y.0) (sym same), ap (λ (y : List A × List ℕ). y.1) same)

-- items of one width
pub items_take : {A : Type 0} (items : Items A) (w : ℕ) → ((before : List A) (bytes : List ℕ) (x : A × List ℕ) → items.read before bytes ≡ Ok x → Takes w bytes x.1)
    → (n : ℕ) (before : List A) (bytes : List ℕ) (x : List A × List ℕ) → items_read items before n bytes ≡ Ok x → Takes (w * n) bytes x.1 × (length x.0 ≡ n)
items_take {A} items w each zero before bytes x e =
    let n = no_items items before bytes x e in
    let nothing : 0 ≡ w * 0 = omega arith in
    (subst (λ (k : ℕ). Takes k bytes x.1) nothing (takes_none bytes x.1 n.1), ap length n.0)
items_take {A} items w each (suc n) before bytes x e =
    let t = items_are items before n bytes x e in
    let u = items_take items w each n (before ++ t.first ∷ []) t.rest (t.others, x.1) t.then in
    let whole : w + w * n ≡ w * suc n = omega (arith, mul-suc w n) in
    (subst (λ (k : ℕ). Takes k bytes x.1) whole (takes_then w (w * n) bytes t.rest x.1 (each before bytes (t.first, t.rest) t.read) u.0), ap length t.are ∙ omega (arith, u.1))

-- ---- timestamps

time_takes : (before : List ℕ) (bytes : List ℕ) (x : ℕ × List ℕ) → time_items.read before bytes ≡ Ok x → Takes 8 bytes x.1
time_takes before bytes x e = number_takes w64 bytes x (checked_is (number w64) (λ (ts : ℕ). leb ts LAST_TIMESTAMP && is_later before ts) bytes x e).read

pub times_take : (n : ℕ) (bytes : List ℕ) (x : List ℕ × List ℕ) → items_read time_items [] n bytes ≡ Ok x → Takes (8 * n) bytes x.1 × (length x.0 ≡ n)
times_take n bytes x e = items_take time_items 8 time_takes n [] bytes x e

pub births_take : (items : Items ℕ) → ((before : List ℕ) → items.read before ≡ number_read w64) → (n : ℕ) (bytes : List ℕ) (x : List ℕ × List ℕ) → items_read items [] n bytes ≡ Ok x → Takes (8 * n) bytes x.1
births_take items same n bytes x e = (items_take items 8 (λ before b y q. number_takes w64 b y (sym (ap (λ (f : List ℕ → Read ℕ). f b) (same before)) ∙ q)) n [] bytes x e).0

last_of : (before : List ℕ) (last : ℕ) → slice_get (before ++ last ∷ []) (length (before ++ last ∷ []) - 1) ≡ Some last
last_of [] last = refl
last_of (b ∷ []) last = refl
last_of (b ∷ c ∷ before) last =
    let at : suc (length (c ∷ before ++ last ∷ [])) - 1 ≡ suc (length (c ∷ before ++ last ∷ []) - 1) = omega arith in
    ap (λ (n : ℕ). slice_get (b ∷ c ∷ before ++ last ∷ []) n) at ∙ last_of (c ∷ before) last

later_is : (before : List ℕ) (last ts : ℕ) → is_later (before ++ last ∷ []) ts ≡ ltb last ts
later_is before last ts = ap (λ (o : Option ℕ). option_map_or (λ l. ltb l ts) o true) (last_of before last)

abbrev test_behind : ℕ → ℕ → Bool
test_behind first ts = leb ts LAST_TIMESTAMP && ltb first ts

-- the last of timestamps that were read, as it stands among all bytes
last_read : (f : ℕ) (more : List ℕ) (m : ℕ) (before bytes : List ℕ) (x : List ℕ × List ℕ) → ((t : ℕ) → is_later before t ≡ true → f < t) → items_read time_items before (suc m) bytes ≡ Ok x
    → (checked (number w64) (test_behind f)).read (drop (8 * m) bytes ++ more) ≡ Ok (get_or x.0 m 0, x.1 ++ more)
last_read f more zero before bytes x later e =
    let t = items_are time_items before 0 bytes x e in
    let c = checked_is (number w64) (λ (ts : ℕ). leb ts LAST_TIMESTAMP && is_later before ts) bytes (t.first, t.rest) t.read in
    let p = and_parts (leb t.first LAST_TIMESTAMP) (is_later before t.first) c.holds in
    let n = no_items time_items (before ++ t.first ∷ []) t.rest (t.others, x.1) t.then in
    let test : test_behind f t.first ≡ true = and_from (leb t.first LAST_TIMESTAMP) (ltb f t.first) p.0 (lt-ltb f t.first (later t.first p.1)) in
    let read = checked_reads (number w64) (test_behind f) (bytes ++ more) (t.first, t.rest ++ more) (number_more w64 bytes more (t.first, t.rest) c.read) test in
    read ∙ ap (λ (l : List ℕ). Ok (t.first, l ++ more)) n.1 ∙ ap (λ (l : List ℕ). Ok (get_or l 0 0, x.1 ++ more)) (sym t.are)
last_read f more (suc m) before bytes x later e =
    let t = items_are time_items before (suc m) bytes x e in
    let c = checked_is (number w64) (λ (ts : ℕ). leb ts LAST_TIMESTAMP && is_later before ts) bytes (t.first, t.rest) t.read in
    let p = and_parts (leb t.first LAST_TIMESTAMP) (is_later before t.first) c.holds in
    let above : f < t.first = later t.first p.1 in
    let others = last_read f more m (before ++ t.first ∷ []) t.rest (t.others, x.1) (λ s q. let less : t.first < s = ltb-true t.first s (sym (later_is before t.first s) ∙ q) in omega (arith, above, less)) t.then in
    let takes = number_takes w64 bytes (t.first, t.rest) c.read in
    let place : 8 + 8 * m ≡ 8 * suc m = omega arith in
    let behind : drop (8 * m) t.rest ≡ drop (8 * suc m) bytes = ap (drop (8 * m)) takes.rest_is ∙ drop-drop (8 * m) 8 bytes ∙ ap (λ (k : ℕ). drop k bytes) place in
    ap (λ (l : List ℕ). (checked (number w64) (test_behind f)).read (l ++ more)) (sym behind) ∙ others ∙ ap (λ (l : List ℕ). Ok (get_or l (suc m) 0, x.1 ++ more)) (sym t.are)

-- timestamps of a row and others, as a block that is passed over reads the first and the last
pub record EndsRead (n : ℕ) (more bytes : List ℕ) (x : List ℕ × List ℕ) : Type 0 where
  pub behind : List ℕ
  pub first : first_time (bytes ++ more) ≡ Ok (get_or x.0 0 0, behind)
  pub last : last_time (n - 1) (get_or x.0 0 0) behind ≡ Ok (get_or x.0 (n - 1) 0, x.1 ++ more)

pub ends_of_times : (n : ℕ) (more bytes : List ℕ) (x : List ℕ × List ℕ) → 1 ≤ n → items_read time_items [] n bytes ≡ Ok x → EndsRead n more bytes x
ends_of_times zero more bytes x some e = absurd (omega arith)
ends_of_times (suc m) more bytes x some e =
    let t = items_are time_items [] m bytes x e in
    let c = checked_is (number w64) (λ (ts : ℕ). leb ts LAST_TIMESTAMP && is_later [] ts) bytes (t.first, t.rest) t.read in
    let p = and_parts (leb t.first LAST_TIMESTAMP) (is_later [] t.first) c.holds in
    let first = checked_reads (number w64) (λ (ts : ℕ). leb ts LAST_TIMESTAMP) (bytes ++ more) (t.first, t.rest ++ more) (number_more w64 bytes more (t.first, t.rest) c.read) p.0 in
    let less : m ≡ suc m - 1 = omega arith in
    let is : t.first ≡ get_or x.0 0 0 = ap (λ (l : List ℕ). get_or l 0 0) (sym t.are) in
    record {
      behind = t.rest ++ more;
      first = first ∙ ap (λ (v : ℕ). Ok (v, t.rest ++ more)) is;
      last = subst (λ (k : ℕ). last_time k (get_or x.0 0 0) (t.rest ++ more) ≡ Ok (get_or x.0 k 0, x.1 ++ more)) less
          (subst (λ (v : ℕ). last_time m v (t.rest ++ more) ≡ Ok (get_or x.0 m 0, x.1 ++ more)) is (by_count m t.others t.then t.are));
    } where
      first_of : ℕ
      first_of = (items_are time_items [] m bytes x e).first

      rest_of : List ℕ
      rest_of = (items_are time_items [] m bytes x e).rest

      by_count : (k : ℕ) (others : List ℕ) → items_read time_items (first_of ∷ []) k rest_of ≡ Ok (others, x.1) → x.0 ≡ first_of ∷ others → last_time k first_of (rest_of ++ more) ≡ Ok (get_or x.0 k 0, x.1 ++ more)
      by_count zero others read are =
          let n = no_items time_items (first_of ∷ []) rest_of (others, x.1) read in
          ap (λ (l : List ℕ). Ok (first_of, l ++ more)) n.1 ∙ ap (λ (l : List ℕ). Ok (get_or l 0 0, x.1 ++ more)) (sym are)
      by_count (suc k) others read are =
          let last = last_read first_of more k (first_of ∷ []) rest_of (others, x.1) (λ s q. ltb-true first_of s q) read in
          let takes = items_take time_items 8 time_takes (suc k) (first_of ∷ []) rest_of (others, x.1) read in
          let long : 8 * k ≤ length rest_of = omega (arith, takes.0.long) in
          let pass = passes 8 k (rest_of ++ more) (drop (8 * k) rest_of ++ more) (takes_more (8 * k) rest_of (drop (8 * k) rest_of) more (record { long = long; rest_is = refl })) in
          let same : suc k - 1 ≡ k = omega arith in
          let whole : List ℕ = rest_of ++ more in
          let some : eqb (suc k) 0 ≡ false = ne_eqb (suc k) 0 (λ q. omega (arith, q)) in
          let then : List ℕ → Read ℕ = λ after. (checked (number w64) (test_behind first_of)).read after in
          cond-false (eqb (suc k) 0) (Ok (first_of, whole)) (passed 8 (suc k - 1) whole >>= then) some
          ∙ ap (λ (j : ℕ). passed 8 j (rest_of ++ more) >>= λ after. (checked (number w64) (test_behind first_of)).read after) same
          ∙ bind_is (λ (after : List ℕ). (checked (number w64) (test_behind first_of)).read after) pass ∙ last ∙ ap (λ (l : List ℕ). Ok (get_or l (suc k) 0, x.1 ++ more)) (sym are)

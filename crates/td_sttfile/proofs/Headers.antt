-- A block that is passed over, step by step.
use Rattle.std.proofs.Common.{◌≡◌, ℕ, suc, ◌+◌, ◌-◌, ◌*◌, ◌≤◌, ◌<◌, Bool, true, false, ltb, leb, eqb, cond, List, length, Option, Some, None, Result, Ok, Err, refl, sym, ap, ◌∙◌, arith}
use Rattle.std.specs.Prelude.{◌&&◌}
use Rattle.std.specs.Int.{w8, w64}
use Rattle.std.proofs.lemmas.Bool.Decides.{nat_tests}
use Rattle.td_limits.specs.declared.limits.TheConstants.{LAST_TIMESTAMP}
use Rattle.td_cols.specs.declared.kinds.Kind.{Kind}
use Rattle.td_cols.specs.Kinds.{kind_width}
use Rattle.td_codec.specs.Fields.{◌>>=◌, Read, number_read, number, checked}
use Rattle.td_codec.proofs.FieldLaws.{bind_ok, bind_is, passed as test_passed}
use Rattle.td_block.specs.declared.header.Head.{Head}
use Rattle.td_block.specs.Bits.{bitmap_length}
use Rattle.td_block.specs.Headers.{kind_or_fault, passed, first_time, last_time}
use Rattle.td_sttfile.specs.Blocks.{Ends, ends_read, kind_said, column_read, next_kind, columns_read}

-- ---- a column

abbrev Passed : Type 0
Passed = Read (Unit {0})

abbrev done_at : List ℕ → Passed
done_at rest = Ok (tt, rest)

abbrev kind_behind : ℕ → Kind → List ℕ → Passed
kind_behind rows kind lanes = passed (kind_width kind) rows lanes >>= λ rest. done_at rest

abbrev kind_lanes : ℕ → List ℕ → Kind → Passed
kind_lanes rows rest kind = passed 1 (2 * bitmap_length rows) rest >>= kind_behind rows kind

abbrev kind_coded : Option Kind → ℕ → List ℕ → ℕ × List ℕ → Passed
kind_coded given rows bytes code = kind_or_fault (length bytes) (kind_said given code.0) >>= kind_lanes rows code.1

pub column_is : (given : Option Kind) (rows : ℕ) (bytes : List ℕ) → column_read given rows bytes ≡ (number_read w8 bytes >>= kind_coded given rows bytes)
unfolding column_read
column_is given rows bytes = refl

pub code_fails : (given : Option Kind) (rows : ℕ) (bytes : List ℕ) (left : ℕ) → number_read w8 bytes ≡ Err left → column_read given rows bytes ≡ Err left
code_fails given rows bytes left e = column_is given rows bytes ∙ ap (λ (r : Read ℕ). r >>= kind_coded given rows bytes) e

coded : (given : Option Kind) (rows : ℕ) (bytes rest : List ℕ) (code : ℕ) (o : Option Kind) → number_read w8 bytes ≡ Ok (code, rest) → kind_said given code ≡ o → column_read given rows bytes ≡ (kind_or_fault (length bytes) o >>= kind_lanes rows rest)
coded given rows bytes rest code o e k = column_is given rows bytes ∙ bind_is (kind_coded given rows bytes) e ∙ ap (λ (p : Option Kind). kind_or_fault (length bytes) p >>= kind_lanes rows rest) k

pub no_kind : (given : Option Kind) (rows : ℕ) (bytes rest : List ℕ) (code : ℕ) → number_read w8 bytes ≡ Ok (code, rest) → kind_said given code ≡ None → column_read given rows bytes ≡ Err (length bytes)
no_kind given rows bytes rest code e k = coded given rows bytes rest code None e k

pub bitmaps_fail : (given : Option Kind) (rows : ℕ) (bytes rest : List ℕ) (code : ℕ) (kind : Kind) (left : ℕ) → number_read w8 bytes ≡ Ok (code, rest) → kind_said given code ≡ Some kind → passed 1 (2 * bitmap_length rows) rest ≡ Err left → column_read given rows bytes ≡ Err left
bitmaps_fail given rows bytes rest code kind left e k p = coded given rows bytes rest code (Some kind) e k ∙ ap (λ (r : Result (List ℕ) ℕ). r >>= kind_behind rows kind) p

pub lanes_fail : (given : Option Kind) (rows : ℕ) (bytes rest lanes : List ℕ) (code : ℕ) (kind : Kind) (left : ℕ) → number_read w8 bytes ≡ Ok (code, rest) → kind_said given code ≡ Some kind → passed 1 (2 * bitmap_length rows) rest ≡ Ok lanes → passed (kind_width kind) rows lanes ≡ Err left
    → column_read given rows bytes ≡ Err left
lanes_fail given rows bytes rest lanes code kind left e k p q =
    coded given rows bytes rest code (Some kind) e k ∙ bind_is (kind_behind rows kind) p ∙ ap (λ (r : Result (List ℕ) ℕ). r >>= (λ l. done_at l)) q

pub column_reads : (given : Option Kind) (rows : ℕ) (bytes rest lanes next : List ℕ) (code : ℕ) (kind : Kind) → number_read w8 bytes ≡ Ok (code, rest) → kind_said given code ≡ Some kind → passed 1 (2 * bitmap_length rows) rest ≡ Ok lanes → passed (kind_width kind) rows lanes ≡ Ok next
    → column_read given rows bytes ≡ Ok (tt, next)
column_reads given rows bytes rest lanes next code kind e k p q =
    coded given rows bytes rest code (Some kind) e k ∙ bind_is (kind_behind rows kind) p ∙ bind_is (λ l. done_at l) q

-- ---- columns

abbrev pub others_then : ℕ → List Kind → ℕ → Unit {0} × List ℕ → Passed
others_then rows given n x = columns_read rows (next_kind given).1 n x.1

pub columns_next : (rows : ℕ) (given : List Kind) (n : ℕ) (bytes : List ℕ) → columns_read rows given (suc n) bytes ≡ (column_read (next_kind given).0 rows bytes >>= others_then rows given n)
unfolding columns_read
columns_next rows given n bytes = refl

pub columns_none : (rows : ℕ) (given : List Kind) (bytes : List ℕ) → columns_read rows given 0 bytes ≡ Ok (tt, bytes)
unfolding columns_read
columns_none rows given bytes = refl

pub columns_start : (rows : ℕ) (given : List Kind) (count : ℕ) (bytes : List ℕ) → columns_read rows given (count - 0) bytes ≡ columns_read rows given count bytes
columns_start rows given count bytes = let all : count - 0 ≡ count = omega arith in ap (λ (n : ℕ). columns_read rows given n bytes) all

more : (rows : ℕ) (given : List Kind) (count i : ℕ) (bytes : List ℕ) → i < count → columns_read rows given (count - i) bytes ≡ (column_read (next_kind given).0 rows bytes >>= others_then rows given (count - (i + 1)))
more rows given count i bytes lt =
    let k : count - i ≡ suc (count - (i + 1)) = omega arith in
    ap (λ (n : ℕ). columns_read rows given n bytes) k ∙ columns_next rows given (count - (i + 1)) bytes

pub columns_go_on : (rows : ℕ) (given others : List Kind) (kind : Option Kind) (count i : ℕ) (bytes after : List ℕ) (total : Passed) → (kind, others) ≡ next_kind given → i < count → column_read kind rows bytes ≡ Ok (tt, after) → columns_read rows given (count - i) bytes ≡ total
    → columns_read rows others (count - (i + 1)) after ≡ total
columns_go_on rows given others kind count i bytes after total is lt read so_far =
    let here : column_read (next_kind given).0 rows bytes ≡ Ok (tt, after) = ap (λ (p : Option Kind × List Kind). column_read p.0 rows bytes) (sym is) ∙ read in
    ap (λ (p : Option Kind × List Kind). columns_read rows p.1 (count - (i + 1)) after) is ∙ sym (more rows given count i bytes lt ∙ bind_is (others_then rows given (count - (i + 1))) here) ∙ so_far

pub columns_fail : (rows : ℕ) (given others : List Kind) (kind : Option Kind) (count i : ℕ) (bytes : List ℕ) (left : ℕ) (total : Passed) → (kind, others) ≡ next_kind given → i < count → column_read kind rows bytes ≡ Err left → columns_read rows given (count - i) bytes ≡ total
    → total ≡ Err left
columns_fail rows given others kind count i bytes left total is lt read so_far =
    let here : column_read (next_kind given).0 rows bytes ≡ Err left = ap (λ (p : Option Kind × List Kind). column_read p.0 rows bytes) (sym is) ∙ read in
    sym so_far ∙ more rows given count i bytes lt ∙ ap (λ (r : Passed). r >>= others_then rows given (count - (i + 1))) here

pub columns_end : (rows : ℕ) (given : List Kind) (count i : ℕ) (bytes : List ℕ) (total : Passed) → count ≤ i → columns_read rows given (count - i) bytes ≡ total → total ≡ Ok (tt, bytes)
columns_end rows given count i bytes total le so_far =
    let k : count - i ≡ 0 = omega arith in
    sym so_far ∙ ap (λ (n : ℕ). columns_read rows given n bytes) k ∙ columns_none rows given bytes

-- ---- the first timestamp is at most the last

abbrev found : ℕ × List ℕ → Read ℕ
found y = Ok y

last_above : (more first : ℕ) (bytes : List ℕ) (x : ℕ × List ℕ) → last_time more first bytes ≡ Ok x → first ≤ x.0
last_above more first bytes x e = by_test (eqb more 0) e where
  later : Read ℕ
  later = passed 8 (more - 1) bytes >>= λ after. (checked (number w64) (λ ts. leb ts LAST_TIMESTAMP && ltb first ts)).read after

  by_test : (b : Bool) → cond b (found (first, bytes)) later ≡ found x → first ≤ x.0
  by_test true q = at_first q where
    at_first : found (first, bytes) ≡ found x → first ≤ x.0
    at_first r = let same : first ≡ x.0 = cc in omega arith
  by_test false q =
      let a = bind_ok (passed 8 (more - 1) bytes) (λ after. (checked (number w64) (λ ts. leb ts LAST_TIMESTAMP && ltb first ts)).read after) x q in
      let b = bind_ok ((number w64).read a.0) (λ y. cond (leb y.0 LAST_TIMESTAMP && ltb first y.0) (Ok y) (Err (length a.0))) x a.2 in
      let t = test_passed (leb b.0.0 LAST_TIMESTAMP && ltb first b.0.0) (length a.0) (Ok b.0) x b.2 in
      above b.0 t.0 t.1 where
        above : (y : ℕ × List ℕ) → (leb y.0 LAST_TIMESTAMP && ltb first y.0) ≡ true → found y ≡ found x → first ≤ x.0
        above y t r = let same : y.0 ≡ x.0 = cc in grind (arith, nat_tests)

abbrev first_and : ℕ × List ℕ → ℕ × List ℕ → Read Ends
first_and first last = Ok ((first.0, last.0), last.1)

abbrev last_and : Head → ℕ × List ℕ → Read Ends
last_and head first = last_time (head.rows - 1) first.0 first.1 >>= first_and first

pub ends_rise : (head : Head) (bytes : List ℕ) (x : Ends × List ℕ) → ends_read head bytes ≡ Ok x → x.0.0 ≤ x.0.1
ends_rise head bytes x e =
    let f = bind_ok (first_time bytes) (last_and head) x e in
    let l = bind_ok (last_time (head.rows - 1) f.0.0 f.0.1) (first_and f.0) x f.2 in
    at_ends f.0 l.0 l.2 (last_above (head.rows - 1) f.0.0 f.0.1 l.0 l.1) where
      at_ends : (first last : ℕ × List ℕ) → first_and first last ≡ Ok x → first.0 ≤ last.0 → x.0.0 ≤ x.0.1
      at_ends first last r le =
          let a : first.0 ≡ x.0.0 = ap (λ (s : Read Ends). first_in s) r in
          let b : last.0 ≡ x.0.1 = ap (λ (s : Read Ends). last_in s) r in
          omega arith where
            first_in : Read Ends → ℕ
            first_in (Ok y) = y.0.0
            first_in (Err left) = 0

            last_in : Read Ends → ℕ
            last_in (Ok y) = y.0.1
            last_in (Err left) = 0

-- ---- both timestamps are at most the last

last_in_time : (more first : ℕ) (bytes : List ℕ) (x : ℕ × List ℕ) → first ≤ LAST_TIMESTAMP → last_time more first bytes ≡ Ok x → x.0 ≤ LAST_TIMESTAMP
last_in_time more first bytes x le e = by_test (eqb more 0) e where
  later : Read ℕ
  later = passed 8 (more - 1) bytes >>= λ after. (checked (number w64) (λ ts. leb ts LAST_TIMESTAMP && ltb first ts)).read after

  by_test : (b : Bool) → cond b (found (first, bytes)) later ≡ found x → x.0 ≤ LAST_TIMESTAMP
  by_test true q = at_first q where
    at_first : found (first, bytes) ≡ found x → x.0 ≤ LAST_TIMESTAMP
    at_first r = let same : first ≡ x.0 = cc in omega (arith, le, same)
  by_test false q =
      let a = bind_ok (passed 8 (more - 1) bytes) (λ after. (checked (number w64) (λ ts. leb ts LAST_TIMESTAMP && ltb first ts)).read after) x q in
      let b = bind_ok ((number w64).read a.0) (λ y. cond (leb y.0 LAST_TIMESTAMP && ltb first y.0) (Ok y) (Err (length a.0))) x a.2 in
      let t = test_passed (leb b.0.0 LAST_TIMESTAMP && ltb first b.0.0) (length a.0) (Ok b.0) x b.2 in
      below b.0 t.0 t.1 where
        below : (y : ℕ × List ℕ) → (leb y.0 LAST_TIMESTAMP && ltb first y.0) ≡ true → found y ≡ found x → x.0 ≤ LAST_TIMESTAMP
        below y t r = let same : y.0 ≡ x.0 = cc in grind (arith, nat_tests)

first_in_time : (bytes : List ℕ) (x : ℕ × List ℕ) → first_time bytes ≡ Ok x → x.0 ≤ LAST_TIMESTAMP
first_in_time bytes x e =
    let b = bind_ok ((number w64).read bytes) (λ y. cond (leb y.0 LAST_TIMESTAMP) (Ok y) (Err (length bytes))) x e in
    let t = test_passed (leb b.0.0 LAST_TIMESTAMP) (length bytes) (Ok b.0) x b.2 in
    below b.0 t.0 t.1 where
      below : (y : ℕ × List ℕ) → leb y.0 LAST_TIMESTAMP ≡ true → found y ≡ found x → x.0 ≤ LAST_TIMESTAMP
      below y t r = let same : y.0 ≡ x.0 = cc in grind (arith, nat_tests)

pub ends_in_time : (head : Head) (bytes : List ℕ) (x : Ends × List ℕ) → ends_read head bytes ≡ Ok x → x.0.1 ≤ LAST_TIMESTAMP
ends_in_time head bytes x e =
    let f = bind_ok (first_time bytes) (last_and head) x e in
    let l = bind_ok (last_time (head.rows - 1) f.0.0 f.0.1) (first_and f.0) x f.2 in
    let le = last_in_time (head.rows - 1) f.0.0 f.0.1 l.0 (first_in_time bytes f.0 f.1) l.1 in
    at_end f.0 l.0 l.2 le where
      at_end : (first last : ℕ × List ℕ) → first_and first last ≡ Ok x → last.0 ≤ LAST_TIMESTAMP → x.0.1 ≤ LAST_TIMESTAMP
      at_end first last r le =
          let b : last.0 ≡ x.0.1 = ap (λ (s : Read Ends). last_in s) r in
          omega (arith, le, b) where
            last_in : Read Ends → ℕ
            last_in (Ok y) = y.0.1
            last_in (Err left) = 0

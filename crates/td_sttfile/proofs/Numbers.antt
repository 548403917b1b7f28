-- Numbers at places of a file, and fields that are passed over.
use Rattle.std.proofs.Common.{◌≡◌, ℕ, ◌+◌, ◌-◌, ◌*◌, ◌%◌, ◌<◌, ◌≤◌, Bool, true, false, ltb, cond, List, length, take, drop, Option, Result, Ok, Err, refl, sym, ap, subst, ◌∙◌, arith}
use Rattle.std.specs.Prelude.{IfSome}
use Rattle.std.specs.Int.{Width, byte_len, from_le_bytes}
use Rattle.std.proofs.lemmas.Bool.Decides.{nat_tests}
use Rattle.std.proofs.lemmas.List.{take-take, drop-drop, length-take, length-drop}
use Rattle.td_layer.specs.declared.scans.ScanFault.{ScanFault}
use Rattle.td_layer.specs.declared.scans.ScanFault.TheVariants as scans
use Rattle.td_codec.specs.declared.fault.ReadFault.{ReadFault}
use Rattle.td_codec.specs.declared.fault.ReadFault.TheVariants as faults
use Rattle.td_codec.specs.Fields.{number_read, Fails, Read}
use Rattle.td_fileio.specs.Faults.{scan_fault_of}
use Rattle.td_fileio.specs.Reading.{IsPart}
use Rattle.td_fileio.proofs.ReadLaws.{told_1, told_2}
use Rattle.td_sttfile.specs.Reading.{GivesFrom, place_behind}
use Rattle.td_block.specs.Headers.{passed}

-- ---- numbers

abbrev pub num : Width → List ℕ → Read ℕ
num w bytes = Ok (from_le_bytes w (take (byte_len w) bytes), drop (byte_len w) bytes)

number_is : (w : Width) (bytes : List ℕ) → number_read w bytes ≡ cond (ltb (length bytes) (byte_len w)) (Err (length bytes)) (num w bytes)
unfolding number_read
number_is w bytes = refl

-- a number that was read is long enough
pub long_enough : (w : Width) (bytes : List ℕ) (x : ℕ × List ℕ) → number_read w bytes ≡ Ok x → byte_len w ≤ length bytes
long_enough w bytes x e = by_test (ltb (length bytes) (byte_len w)) refl where
  by_test : (b : Bool) → ltb (length bytes) (byte_len w) ≡ b → byte_len w ≤ length bytes
  by_test true t = absurd (wrong (sym (ap (λ (c : Bool). cond c (Err (length bytes)) (num w bytes)) t) ∙ sym (number_is w bytes) ∙ e)) where
    wrong : cond true (Err (length bytes)) (num w bytes) ≡ Ok x → ⊥
    wrong q = cc
  by_test false t = grind (arith, nat_tests)

too_short : (w : Width) (bytes : List ℕ) (left : ℕ) → number_read w bytes ≡ Err left → (length bytes < byte_len w) × (left ≡ length bytes)
too_short w bytes left e = by_test (ltb (length bytes) (byte_len w)) refl where
  by_test : (b : Bool) → ltb (length bytes) (byte_len w) ≡ b → (length bytes < byte_len w) × (left ≡ length bytes)
  by_test false t = absurd (wrong (sym (ap (λ (c : Bool). cond c (Err (length bytes)) (num w bytes)) t) ∙ sym (number_is w bytes) ∙ e)) where
    wrong : cond false (Err (length bytes)) (num w bytes) ≡ Err left → ⊥
    wrong q = cc
  by_test true t = (grind (arith, nat_tests), same (sym (ap (λ (c : Bool). cond c (Err (length bytes)) (num w bytes)) t) ∙ sym (number_is w bytes) ∙ e)) where
    same : cond true (Err (length bytes)) (num w bytes) ≡ Err left → left ≡ length bytes
    same q = cc

pub reads_long : (w : Width) (bytes : List ℕ) → byte_len w ≤ length bytes → number_read w bytes ≡ num w bytes
reads_long w bytes le =
    let t : ltb (length bytes) (byte_len w) ≡ false = grind (arith, nat_tests) in
    number_is w bytes ∙ ap (λ (c : Bool). cond c (Err (length bytes)) (num w bytes)) t

reads_short : (w : Width) (bytes : List ℕ) → length bytes < byte_len w → number_read w bytes ≡ Err (length bytes)
reads_short w bytes lt =
    let t : ltb (length bytes) (byte_len w) ≡ true = grind (arith, nat_tests) in
    number_is w bytes ∙ ap (λ (c : Bool). cond c (Err (length bytes)) (num w bytes)) t

value_of : (w : Width) (bytes : List ℕ) (n : ℕ) (rest : List ℕ) → num w bytes ≡ Ok (n, rest) → from_le_bytes w (take (byte_len w) bytes) ≡ n
value_of w bytes n rest e = ap (λ (r : Read ℕ). first r) e where
  first : Read ℕ → ℕ
  first (Ok x) = x.0
  first (Err left) = 0

-- a number in a part of a file is one in the file
number_in_part : (w : Width) (at most : ℕ) (all part : List ℕ) (n : ℕ) (rest : List ℕ) → most ≡ byte_len w → part ≡ take most (drop at all) → number_read w part ≡ Ok (n, rest) → number_read w (drop at all) ≡ Ok (n, drop (at + most) all)
number_in_part w at most all part n rest em ep e =
    let long : byte_len w ≤ length part = long_enough w part (n, rest) e in
    let within : byte_len w ≤ length (drop at all) = omega (arith, ap length ep, length-take most (drop at all)) in
    let value = value_of w part n rest (sym (reads_long w part long) ∙ e) in
    let same : take (byte_len w) part ≡ take (byte_len w) (drop at all) = ap (take (byte_len w)) ep ∙ ap (λ (k : ℕ). take (byte_len w) (take k (drop at all))) em ∙ take-take (byte_len w) (byte_len w) (drop at all) (omega arith) in
    let behind : drop (byte_len w) (drop at all) ≡ drop (at + most) all = drop-drop (byte_len w) at all ∙ ap (λ (k : ℕ). drop (at + k) all) (sym em) in
    reads_long w (drop at all) within ∙ ap (λ (l : List ℕ). Ok (from_le_bytes w l, drop (byte_len w) (drop at all))) (sym same) ∙ ap (λ (v : ℕ). Ok (v, drop (byte_len w) (drop at all))) value
    ∙ ap (λ (l : List ℕ). Ok (n, l)) behind

no_number_in_part : (w : Width) (at most : ℕ) (all part : List ℕ) (left : ℕ) → most ≡ byte_len w → part ≡ take most (drop at all) → number_read w part ≡ Err left → number_read w (drop at all) ≡ Err (length all - at)
no_number_in_part w at most all part left em ep e =
    let short = too_short w part left e in
    let less : length (drop at all) < byte_len w = omega (arith, short.0, ap length ep, length-take most (drop at all)) in
    reads_short w (drop at all) less ∙ ap (λ (k : ℕ). Err k) (length-drop at all)

pub gives_number : (w : Width) (told : Option (List ℕ)) (file size at most : ℕ) (part : List ℕ) (n : ℕ) (rest : List ℕ) → most ≡ byte_len w → at ≤ size → IsPart told size at most part → number_read w part ≡ Ok (n, rest)
    → GivesFrom (λ (m : ℕ). (m, at + most)) told file size at (Ok n) (number_read w)
gives_number w told file size at most part n rest em within is e =
    let long : byte_len w ≤ length part = long_enough w part (n, rest) e in (
      omega (arith, is.long),
      told_1 told (λ all. part ≡ take most (drop at all)) (λ all. number_read w (drop at all) ≡ Ok (n, drop (at + most) all)) (λ all p. number_in_part w at most all part n rest em p e) is.stands,
    )

pub gives_no_number : (w : Width) (told : Option (List ℕ)) (file size at most : ℕ) (part : List ℕ) (fault : ReadFault) → most ≡ byte_len w → at ≤ size → IfSome told (λ all. length all ≡ size) → IsPart told size at most part → Fails fault (number_read w part)
    → GivesFrom (λ (m : ℕ). (m, at + most)) told file size at (Err (scan_fault_of file at (length part) fault)) (number_read w)
gives_no_number w told file size at most part faults.NoMemory em within sized is e = tt
gives_no_number w told file size at most part (faults.Broken left) em within sized is e =
    let short = too_short w part left e in
    let place : at + (length part - left) ≡ at = omega (arith, short.1) in (
      refl,
      (
        omega (arith, place),
        told_2 told (λ all. length all ≡ size) (λ all. part ≡ take most (drop at all)) (λ all. number_read w (drop at all) ≡ Err (size - (at + (length part - left))))
            (λ all l p. no_number_in_part w at most all part left em p e ∙ ap (λ (k : ℕ). Err k) (ap (λ (k : ℕ). k - at) l ∙ ap (λ (k : ℕ). size - k) (sym place))) sized is.stands,
      ),
    )

-- ---- fields that are passed over

passes : (all : List ℕ) (size at width count : ℕ) → length all ≡ size → at ≤ size → width * count ≤ size - at → passed width count (drop at all) ≡ Ok (drop (at + width * count) all)
passes all size at width count l within le =
    let t : ltb (length (drop at all)) (width * count) ≡ false = grind (arith, nat_tests, length-drop at all) in
    ap (λ (c : Bool). cond c (Err (length (drop at all) % width)) (Ok (drop (width * count) (drop at all)))) t ∙ ap (λ (r : List ℕ). Ok r) (drop-drop (width * count) at all)

stops : (all : List ℕ) (size at width count : ℕ) → length all ≡ size → at ≤ size → size - at < width * count → 0 < width → passed width count (drop at all) ≡ Err (size - (size - (size - at) % width))
stops all size at width count l within lt some =
    let len : length (drop at all) ≡ size - at = length-drop at all ∙ ap (λ (k : ℕ). k - at) l in
    let t : ltb (length (drop at all)) (width * count) ≡ true = grind (arith, nat_tests) in
    let m = (size - at) % width in
    let small : m ≤ size - at = Rattle.std.proofs.Math.Nat.mod-le (size - at) width in
    let back : m ≡ size - (size - m) = omega arith in
    ap (λ (c : Bool). cond c (Err (length (drop at all) % width)) (Ok (drop (width * count) (drop at all)))) t ∙ ap (λ (k : ℕ). Err (k % width)) len ∙ ap (λ (k : ℕ). Err k) back

-- what stands behind fields that are passed over, and what is known of the place behind them
pub record IsPassed (told : Option (List ℕ)) (size at width count next : ℕ) : Type 0 where
  pub within : next ≤ size
  pub behind : IfSome told (λ all. passed width count (drop at all) ≡ Ok (drop next all))

pub is_passed : (told : Option (List ℕ)) (file size at width count next : ℕ) → at ≤ size → IfSome told (λ all. length all ≡ size) → place_behind file size at width count ≡ Ok next → IsPassed told size at width count next
is_passed told file size at width count next within sized e = by_test (ltb (size - at) (width * count)) refl where
  by_test : (b : Bool) → ltb (size - at) (width * count) ≡ b → IsPassed told size at width count next
  by_test true t = absurd (wrong (sym (ap (λ (c : Bool). cond c (Err (scans.Damaged file (size - (size - at) % width))) (Ok (at + width * count))) t) ∙ e)) where
    wrong : cond true (Err (scans.Damaged file (size - (size - at) % width))) (Ok (at + width * count)) ≡ Ok next → ⊥
    wrong q = cc
  by_test false t =
      let le : width * count ≤ size - at = grind (arith, nat_tests) in
      let same : at + width * count ≡ next = inside (sym (ap (λ (c : Bool). cond c (Err (scans.Damaged file (size - (size - at) % width))) (Ok (at + width * count))) t) ∙ e) in
      record {
        within = omega (arith, same);
        behind = told_1 told (λ all. length all ≡ size) (λ all. passed width count (drop at all) ≡ Ok (drop next all)) (λ all l. passes all size at width count l within le ∙ ap (λ (k : ℕ). Ok (drop k all)) same) sized;
      } where
        inside : cond false (Err (scans.Damaged file (size - (size - at) % width))) (Ok (at + width * count)) ≡ Ok next → at + width * count ≡ next
        inside q = cc

-- a fault of passing over, where the steps before it are known
pub passing_fails : {X Y : Type 0} (view : X → Y × ℕ) (told : Option (List ℕ)) (file size at from width count : ℕ) (e : ScanFault) (read : List ℕ → Read Y) (Known : List ℕ → Type 0) → from ≤ size → 0 < width → IfSome told (λ all. length all ≡ size)
    → place_behind file size from width count ≡ Err e → ((all : List ℕ) (left : ℕ) → Known all → passed width count (drop from all) ≡ Err left → read (drop at all) ≡ Err left) → IfSome told Known → GivesFrom view told file size at (Err e) read
passing_fails {X} {Y} view told file size at from width count e read Known within some sized pe then known = by_test (ltb (size - from) (width * count)) refl where
  by_test : (b : Bool) → ltb (size - from) (width * count) ≡ b → GivesFrom view told file size at (Err e) read
  by_test false t = absurd (wrong (sym (ap (λ (c : Bool). cond c (Err (scans.Damaged file (size - (size - from) % width))) (Ok (from + width * count))) t) ∙ pe)) where
    wrong : cond false (Err (scans.Damaged file (size - (size - from) % width))) (Ok (from + width * count)) ≡ Err e → ⊥
    wrong q = cc
  by_test true t =
      let place = size - (size - from) % width in
      let lt : size - from < width * count = grind (arith, nat_tests) in
      let same : scans.Damaged file place ≡ e = inside (sym (ap (λ (c : Bool). cond c (Err (scans.Damaged file place)) (Ok (from + width * count))) t) ∙ pe) in
      subst (λ (f : ScanFault). GivesFrom view told file size at (Err f) read) same (
        refl,
        (
          omega arith,
          told_2 told (λ all. length all ≡ size) Known (λ all. read (drop at all) ≡ Err (size - place)) (λ all l k. then all (size - place) k (stops all size from width count l within lt some)) sized known,
        ),
      ) where
        inside : cond true (Err (scans.Damaged file (size - (size - from) % width))) (Ok (from + width * count)) ≡ Err e → scans.Damaged file (size - (size - from) % width) ≡ e
        inside q = cc

-- ---- steps

-- a fault of a step is the fault of the steps that it stands among, where those before it are known
pub from_fails : {X Y Z W : Type 0} (view : X → Y × ℕ) (view' : Z → W × ℕ) (told : Option (List ℕ)) (file size from at : ℕ) (e : ScanFault) (first : List ℕ → Read Y) (whole : List ℕ → Read W) (Known : List ℕ → Type 0)
    → ((all : List ℕ) (left : ℕ) → Known all → first (drop from all) ≡ Err left → whole (drop at all) ≡ Err left) → IfSome told Known → GivesFrom view told file size from (Err e) first → GivesFrom view' told file size at (Err e) whole
from_fails view view' told file size from at scans.ReadFault first whole Known f k g = tt
from_fails view view' told file size from at (scans.Damaged n place) first whole Known f k g =
    (g.0, (g.1.0, told_2 told Known (λ all. first (drop from all) ≡ Err (size - place)) (λ all. whole (drop at all) ≡ Err (size - place)) (λ all p e. f all (size - place) p e) k g.1.1))
from_fails view view' told file size from at scans.NoMemory first whole Known f k g = tt

-- a fault at a place that a step finds
pub fault_at : {X Y : Type 0} (view : X → Y × ℕ) (told : Option (List ℕ)) (file size at place : ℕ) (e : ScanFault) (whole : List ℕ → Read Y) (Known : List ℕ → Type 0) → e ≡ scans.Damaged file place → place ≤ size
    → IfSome told (λ all. length all ≡ size) → ((all : List ℕ) → Known all → whole (drop at all) ≡ Err (length (drop place all))) → IfSome told Known → GivesFrom view told file size at (Err e) whole
fault_at view told file size at place e whole Known ee within sized f k =
    subst (λ (d : ScanFault). GivesFrom view told file size at (Err d) whole) (sym ee) (
      refl,
      (
        within,
        told_2 told (λ all. length all ≡ size) Known (λ all. whole (drop at all) ≡ Err (size - place)) (λ all l p. f all p ∙ ap (λ (n : ℕ). Err n) (length-drop place all ∙ ap (λ (n : ℕ). n - place) l)) sized k,
      ),
    )

-- what is known of the same file later
pub same_told : (told now : Option (List ℕ)) (P : List ℕ → Type 0) → now ≡ told → IfSome told P → IfSome now P
same_told told now P e p = subst (λ (o : Option (List ℕ)). IfSome o P) (sym e) p

-- a place behind fields, by other names of what it depends on
pub place_at : (number file size at width width' count count' : ℕ) (r : Result ℕ ScanFault) → number ≡ file → width ≡ width' → count ≡ count' → r ≡ place_behind number size at width count → place_behind file size at width' count' ≡ r
place_at number file size at width width' count count' r en ew ec e =
    ap (λ (n : ℕ). place_behind n size at width' count') (sym en) ∙ ap (λ (w : ℕ). place_behind number size at w count') (sym ew) ∙ ap (λ (n : ℕ). place_behind number size at width n) (sym ec) ∙ sym e

-- Bytes that are read piece by piece, and parts of bytes that were read ahead.
use Rattle.std.proofs.Common.{◌≡◌, ℕ, ◌+◌, ◌-◌, ◌≤◌, min, List, [], ◌++◌, length, take, drop, Option, Some, None, refl, sym, ap, subst, ◌∙◌, arith}
use Rattle.std.specs.Prelude.{IfSome}
use Rattle.std.proofs.lemmas.List.{take_at, take-append-le, take_all, take-take, take_min, drop-take, drop-drop, length-take, length-drop}
use Rattle.std.proofs.Math.Seq.{take-add}
use Rattle.td_fileio.specs.Reading.{StandsAt, IsPart, IsAhead}

-- a fact about told bytes, from others
pub told_1 : {A : Type 0} (told : Option A) (P Q : A → Type 0) → ((x : A) → P x → Q x) → IfSome told P → IfSome told Q
told_1 None P Q f p = tt
told_1 (Some x) P Q f p = f x p

pub told_2 : {A : Type 0} (told : Option A) (P Q R : A → Type 0) → ((x : A) → P x → Q x → R x) → IfSome told P → IfSome told Q → IfSome told R
told_2 None P Q R f p q = tt
told_2 (Some x) P Q R f p q = f x p q

pub told_all : {A : Type 0} (told : Option A) (P : A → Type 0) → ((x : A) → P x) → IfSome told P
told_all None P f = tt
told_all (Some x) P f = f x

-- one more piece stands behind those before it
take_behind : (xs ys : List ℕ) (k n : ℕ) → length xs ≡ k → take (k + n) (xs ++ ys) ≡ xs ++ take n ys
take_behind xs ys k n len = take-add k n (xs ++ ys) ∙ rw (take_at xs ys k len, drop_here) refl where
  drop_here : drop k (xs ++ ys) ≡ ys
  drop_here = Rattle.std.proofs.lemmas.List.drop_at xs ys k len

pub read_more : (told : Option (List ℕ)) (at done n : ℕ) (buf now piece post : List ℕ) → now ≡ take done buf ++ (piece ++ post) → done ≤ length buf → n ≤ length piece
    → IfSome told (λ all. take done buf ≡ take done (drop at all)) → IfSome told (λ all. take n piece ≡ take n (drop (at + done) all))
    → IfSome told (λ all. take (done + n) now ≡ take (done + n) (drop at all))
read_more told at done n buf now piece post is le few before next =
    told_2 told (λ all. take done buf ≡ take done (drop at all)) (λ all. take n piece ≡ take n (drop (at + done) all)) (λ all. take (done + n) now ≡ take (done + n) (drop at all)) (λ all p q.
    let len : length (take done buf) ≡ done = omega (arith, length-take done buf) in
    let front : take (done + n) now ≡ take done buf ++ take n piece = ap (take (done + n)) is ∙ take_behind (take done buf) (piece ++ post) done n len ∙ ap (λ l. take done buf ++ l) (take-append-le n piece post few) in
    let back : take (done + n) (drop at all) ≡ take done (drop at all) ++ take n (drop (at + done) all) = take-add done n (drop at all) ∙ ap (λ l. take done (drop at all) ++ take n l) (drop-drop done at all) in
    front ∙ ap (λ l. l ++ take n piece) p ∙ ap (λ l. take done (drop at all) ++ l) q ∙ sym back) before next

pub read_all : (told : Option (List ℕ)) (at done : ℕ) (buf : List ℕ) → length buf ≤ done → done ≤ length buf → IfSome told (λ all. take done buf ≡ take done (drop at all)) → StandsAt told at buf
read_all told at done buf ge le before =
    let same : done ≡ length buf = omega arith in
    told_1 told (λ all. take done buf ≡ take done (drop at all)) (λ all. buf ≡ take (length buf) (drop at all)) (λ all p.
    let q : take (length buf) buf ≡ take (length buf) (drop at all) = subst (λ (k : ℕ). take k buf ≡ take k (drop at all)) same p in
    sym (take_all (length buf) buf (omega arith)) ∙ q) before

-- what stands at a place of so many bytes is a part of that file
pub whole_part : (told : Option (List ℕ)) (size at most count : ℕ) (part : List ℕ) → IfSome told (λ all. length all ≡ size) → count ≡ min most (size - at) → length part ≡ count → StandsAt told at part → IsPart told size at most part
whole_part told size at most count part sized is len stands = record {
  long = len ∙ is;
  stands = told_2 told (λ all. length all ≡ size) (λ all. part ≡ take (length part) (drop at all)) (λ all. part ≡ take most (drop at all)) (λ all l p.
      let left : min most (size - at) ≡ min most (length (drop at all)) = omega (arith, length-drop at all) in
      p ∙ ap (λ (k : ℕ). take k (drop at all)) (len ∙ is ∙ left) ∙ take_min most (drop at all)) sized stands;
}

-- a part of what was read ahead
pub ahead_part : (told : Option (List ℕ)) (from at count : ℕ) (bytes part : List ℕ) → IsAhead told from bytes → from ≤ at → (at - from) + count ≤ length bytes → part ≡ take count (drop (at - from) bytes) → (length part ≡ count) × StandsAt told at part
ahead_part told from at count bytes part ahead le within is =
    let skip = at - from in
    let len : length part ≡ count = ap length is ∙ omega (arith, length-take count (drop skip bytes), length-drop skip bytes) in (
      len,
      told_1 told (λ all. bytes ≡ take (length bytes) (drop from all)) (λ all. part ≡ take (length part) (drop at all)) (λ all p.
          let n = length bytes - skip in
          let whole : length bytes ≡ skip + n = omega arith in
          let place : from + skip ≡ at = omega arith in
          let rest : drop skip bytes ≡ take n (drop at all) =
          ap (drop skip) (p ∙ ap (λ (k : ℕ). take k (drop from all)) whole) ∙ drop-take skip n (drop from all) ∙ ap (take n) (drop-drop skip from all ∙ ap (λ (k : ℕ). drop k all) place) in
          let few : count ≤ n = omega arith in
          is ∙ ap (take count) rest ∙ take-take count n (drop at all) few ∙ ap (λ (k : ℕ). take k (drop at all)) (sym len)) ahead.stands,
    )

-- nothing is left
pub no_part : (told : Option (List ℕ)) (size at most : ℕ) → IfSome told (λ all. length all ≡ size) → size - at ≡ 0 → IsPart told size at most []
no_part told size at most sized none = record {
  long = omega arith;
  stands = told_1 told (λ all. length all ≡ size) (λ all. [] ≡ take most (drop at all)) (λ all l.
      let len : length (take most (drop at all)) ≡ 0 = omega (arith, length-take most (drop at all), length-drop at all) in
      sym (Rattle.std.proofs.lemmas.List.nil_from_length (take most (drop at all)) len)) sized;
}

-- How far the reading of a script has come.
use Rattle.std.proofs.Common.{◌≡◌, ◌≢◌, ℕ, ◌+◌, ◌≤◌, ◌<◌, List, [], ◌∷◌, ◌++◌, length, get_or, Some, None, refl, sym, ap, subst, ◌∙◌, arith}
use Rattle.std.specs.List.{AllByRecursion}
use Rattle.std.proofs.lemmas.List.{append_assoc, append-nil, length_push}
use Rattle.td_script.specs.declared.numbering.Numbering.{Numbering}
use Rattle.td_script.specs.Script.{LineKind, IsLine, IsSomeLine, AreCut, none, AreOfKinds, lines_from, IsScript, FirstOutside}
use Rattle.td_script.specs.Reading.{front_of, kind_of, step, AreNone, HasCount}
use Rattle.td_script.proofs.Readings.{kind_found, no_kind, session_of_form}
use Rattle.td_script.proofs.Cutting.{cut_of, front_cut, shorter}
use Rattle.td_script.proofs.Counting.{Told, told_nothing, told_more, small_count}

-- The lines before the rest are of some kinds, and their statement lines are told.
pub record Progress (bytes rest : List ℕ) (number : ℕ) (n : Numbering) : Type 0 where
  pub lines : List (List ℕ)
  pub kinds : List LineKind
  pub cut : (tail : List (List ℕ)) → AreCut rest tail → AreCut bytes (lines ++ tail)
  pub of_kinds : AreOfKinds lines kinds
  pub number_is : number ≡ length lines
  pub told : Told kinds n
  pub few : length lines + length rest ≤ length bytes

same_length : (lines : List (List ℕ)) (kinds : List LineKind) → AreOfKinds lines kinds → length lines ≡ length kinds
same_length [] [] h = refl
same_length [] (k ∷ kinds) h = absurd h
same_length (line ∷ lines) [] h = absurd h
same_length (line ∷ lines) (k ∷ kinds) h = omega (arith, same_length lines kinds h.1)

one_more : (lines : List (List ℕ)) (kinds : List LineKind) (line : List ℕ) (k : LineKind) → AreOfKinds lines kinds → IsLine line k → AreOfKinds (lines ++ line ∷ []) (kinds ++ k ∷ [])
one_more [] [] line k h is = (is, tt)
one_more [] (x ∷ kinds) line k h is = absurd h
one_more (l ∷ lines) [] line k h is = absurd h
one_more (l ∷ lines) (x ∷ kinds) line k h is = (h.0, one_more lines kinds line k h.1 is)

all_of_forms : (lines : List (List ℕ)) (kinds : List LineKind) → AreOfKinds lines kinds → AllByRecursion IsSomeLine lines
all_of_forms [] kinds h = tt
all_of_forms (l ∷ lines) [] h = absurd h
all_of_forms (l ∷ lines) (x ∷ kinds) h = ((x, h.0), all_of_forms lines kinds h.1)

pub begun : (bytes : List ℕ) (n : Numbering) → n.phase ≡ 1 → AreNone n.counts → n.lines ≡ [] → Progress bytes bytes 0 n
begun bytes n phase counts lines = record {
  lines = [];
  kinds = [];
  cut = λ tail h. h;
  of_kinds = tt;
  number_is = refl;
  told = told_nothing n phase counts lines;
  few = omega arith;
}

pub has_count : (line : List ℕ) (k : LineKind) → kind_of line ≡ Some k → HasCount k
has_count line k e = session_of_form _ k (kind_found line k e).form

pub goes_on : (bytes rest : List ℕ) (number : ℕ) (n : Numbering) (line after : List ℕ) (k : LineKind) → Progress bytes rest number n → rest ≢ [] → (line, after) ≡ front_of rest → kind_of line ≡ Some k → Progress bytes after (number + 1) (step n k)
goes_on bytes rest number n line after k p some front e = record {
  lines = p.lines ++ line ∷ [];
  kinds = p.kinds ++ k ∷ [];
  cut = λ tail h. subst (AreCut bytes) (sym (append_assoc p.lines (line ∷ []) tail)) (p.cut (line ∷ tail) (front_cut rest line after some front tail h));
  of_kinds = one_more p.lines p.kinds line k p.of_kinds (kind_found line k e);
  number_is = omega (arith, p.number_is, length_push p.lines line);
  told = told_more p.kinds n k (has_count line k e) p.told;
  few = omega (arith, p.few, length_push p.lines line, shorter rest line after some front);
}

pub stops : (bytes rest : List ℕ) (number : ℕ) (n : Numbering) (line after : List ℕ) → Progress bytes rest number n → rest ≢ [] → (line, after) ≡ front_of rest → kind_of line ≡ None → FirstOutside bytes (number + 1)
stops bytes rest number n line after p some front e = record {
  before = p.lines;
  line = line;
  after = (cut_of after).0;
  cut = p.cut (line ∷ (cut_of after).0) (front_cut rest line after some front (cut_of after).0 (cut_of after).1);
  formed = all_of_forms p.lines p.kinds p.of_kinds;
  formless = no_kind line e;
  number = ap (λ x. x + 1) p.number_is;
}

pub ended : (bytes : List ℕ) (number : ℕ) (n : Numbering) → Progress bytes [] number n → IsScript bytes n.lines
ended bytes number n p = (
  p.kinds,
  (p.lines, subst (AreCut bytes) (append-nil p.lines) (p.cut [] none), p.of_kinds),
  sym (append-nil n.lines) ∙ sym (p.told.told []) ∙ ap (lines_from 1 []) (append-nil p.kinds),
)

-- the numbers stay small
pub few_lines : (bytes rest : List ℕ) (number : ℕ) (n : Numbering) → Progress bytes rest number n → length n.lines ≤ length bytes
few_lines bytes rest number n p = omega (arith, p.told.few_lines, same_length p.lines p.kinds p.of_kinds, p.few)

pub small_number : (bytes rest : List ℕ) (number : ℕ) (n : Numbering) → Progress bytes rest number n → number ≤ length bytes
small_number bytes rest number n p = omega (arith, p.number_is, p.few)

pub small_phase : (bytes rest : List ℕ) (number : ℕ) (n : Numbering) → Progress bytes rest number n → n.phase + length rest ≤ length bytes + 1
small_phase bytes rest number n p = omega (arith, p.told.few_phases, same_length p.lines p.kinds p.of_kinds, p.few)

pub small_counts : (bytes rest : List ℕ) (number : ℕ) (n : Numbering) → Progress bytes rest number n → (i : ℕ) → i < length n.counts → get_or n.counts i 0 + length rest ≤ length bytes
small_counts bytes rest number n p i inside = omega (arith, small_count p.kinds n p.told i inside, same_length p.lines p.kinds p.of_kinds, p.few)

pub no_bytes : (xs : List ℕ) → length xs ≡ 0 → xs ≡ []
no_bytes [] e = refl
no_bytes (x ∷ xs) e = absurd (omega arith)

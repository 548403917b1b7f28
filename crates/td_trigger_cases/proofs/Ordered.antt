-- Ranges that are added in order stay so.
use Rattle.std.proofs.Common.{◌≡◌, ◌-◌, ◌<◌, ◌≤◌, List, [], ◌∷◌, ◌++◌, map, length, get_or, All, sym, ap, ◌∙◌, subst, arith}
use Rattle.std.proofs.lemmas.List.{map-append}
use Rattle.std.proofs.lemmas.List.Elements.{All-push, All-get_or, All-weaker, All-from_recursion, recursion_from_All}
use Rattle.std.proofs.lemmas.List.Sorted.{IsNonDecreasingBy-push}
use Rattle.td_window.specs.declared.span.Span.{Span}
use Rattle.td_trigger.specs.declared.range.Range.{Range}
use Rattle.td_trigger.specs.Ranges.{IsRange}
use Rattle.td_trigger.specs.Regions.{AreInOrder, extent}

-- neither end is beyond that of another
abbrev pub IsUpTo : Range → Range → Type 0
IsUpTo last r = (r.lo ≤ last.lo) × (r.hi ≤ last.hi)

pub in_order_pushed : (rs : List Range) (last r : Range) → AreInOrder rs → All (IsUpTo last) rs → last.lo ≤ r.lo → last.hi ≤ r.hi → IsRange r → AreInOrder (rs ++ r ∷ [])
in_order_pushed rs last r o below lo hi is = record {
  each = recursion_from_All IsRange _ (All-push IsRange rs r (All-from_recursion IsRange rs o.each) is);
  starts = IsNonDecreasingBy-push (λ (r : Range). r.lo) rs r o.starts (λ d h.
      let k : length rs - 1 < length rs = omega arith in
      let at : IsUpTo last (get_or rs (length rs - 1) d) = All-get_or (IsUpTo last) rs (length rs - 1) d k below in
      omega (arith, at.0));
  ends = IsNonDecreasingBy-push (λ (r : Range). r.hi) rs r o.ends (λ d h.
      let k : length rs - 1 < length rs = omega arith in
      let at : IsUpTo last (get_or rs (length rs - 1) d) = All-get_or (IsUpTo last) rs (length rs - 1) d k below in
      omega (arith, at.1));
}

pub up_to_pushed : (rs : List Range) (last r : Range) → All (IsUpTo last) rs → last.lo ≤ r.lo → last.hi ≤ r.hi → All (IsUpTo r) (rs ++ r ∷ [])
up_to_pushed rs last r below lo hi =
    All-push (IsUpTo r) rs r (All-weaker (IsUpTo last) (IsUpTo r) (λ s h. (omega (arith, h.0), omega (arith, h.1))) rs below) (omega arith, omega arith)

-- the same of the windows that reach over them
pub spans_pushed : (ss new : List Span) (s : Span) (last r : Range) → new ≡ ss ++ s ∷ [] → extent s ≡ r → AreInOrder (map extent ss) → All (IsUpTo last) (map extent ss) → last.lo ≤ r.lo → last.hi ≤ r.hi → IsRange r → AreInOrder (map extent new) × All (IsUpTo r) (map extent new)
spans_pushed ss new s last r n e o below lo hi is =
    let all : map extent new ≡ map extent ss ++ r ∷ [] = ap (map extent) n ∙ map-append extent ss (s ∷ []) ∙ ap (λ x. map extent ss ++ x ∷ []) e in
    (subst AreInOrder (sym all) (in_order_pushed (map extent ss) last r o below lo hi is), subst (All (IsUpTo r)) (sym all) (up_to_pushed (map extent ss) last r below lo hi))

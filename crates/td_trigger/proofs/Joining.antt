-- Ranges in order, joined one by one.
use Rattle.std.proofs.Common.{◌≡◌, ℕ, ◌+◌, ◌<◌, ◌≤◌, true, false, List, [], ◌∷◌, ◌++◌, drop, get_or, length, sym, ap, ◌∙◌, leb}
use Rattle.std.proofs.lemmas.Bool.{le-leb, lt-leb}
use Rattle.std.proofs.lemmas.List.{append_assoc, drop_more}
use Rattle.td_trigger.specs.declared.range.Range.{Range}
use Rattle.td_trigger.specs.Ranges.{joined_to, hull}

module _ (gap : ℕ) (r : Range) (rest : List Range) (i : ℕ) (d : Range) (all done : List Range) where
  abbrev next : Range
  next = get_or rest i d

  at_next : i < length rest → all ≡ done ++ joined_to gap r (drop i rest) → all ≡ done ++ joined_to gap r (next ∷ drop (i + 1) rest)
  at_next h a = a ∙ ap (λ l. done ++ joined_to gap r l) (drop_more rest i d h)

  pub joins : i < length rest → next.lo ≤ r.hi + gap → all ≡ done ++ joined_to gap r (drop i rest) → all ≡ done ++ joined_to gap (hull r next) (drop (i + 1) rest)
  joins h l a = let t : leb next.lo (r.hi + gap) ≡ true = le-leb next.lo (r.hi + gap) l in rw t at (at_next h a)

  pub begins : i < length rest → r.hi + gap < next.lo → all ≡ done ++ joined_to gap r (drop i rest) → all ≡ (done ++ r ∷ []) ++ joined_to gap next (drop (i + 1) rest)
  begins h l a =
      let t : leb next.lo (r.hi + gap) ≡ false = lt-leb next.lo (r.hi + gap) l in
      (rw t at (at_next h a)) ∙ sym (append_assoc done (r ∷ []) (joined_to gap next (drop (i + 1) rest)))

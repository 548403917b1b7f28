use Rattle.std.proofs.Common.{◌≡◌, ℕ, suc, ◌≤◌, ◌∙◌, ap, sym, subst, map, length, List, [], ◌∷◌, refl, arith}
use Rattle.td_fileset.specs.Layered.{OpenSet}
use Rattle.td_fileset.specs.Opened.{Readers}
use Rattle.td_fileset.specs.Pieces.{IsNearest}
use Rattle.td_fileset.proofs.Indexed.{range_there}
use Rattle.td_fileset.proofs.pieces.nearest_set.Goals as goal

abbrev ranges : List Readers → List ℕ
ranges rs = map (λ (s : OpenSet). s.range) (map (λ (r : Readers). r.files) rs)

pub loop-at-preserved : goal.loop-at-preserved
loop-at-preserved g c =
    let found = c.index-sets-at.result in
    c.nearer-nearest.ensures (ranges c.args.sets.now)
    (range_there c.args.sets.now c.loop-at.at found c.loop-at-test.true ∙ ap (λ (r : Readers). r.files.range) (sym c.index-sets-at.is) ∙ sym c.range.ensures)
    c.loop-at.invariant

pub returns : goal.returns
returns g c =
    subst (λ n. IsNearest c.args.from (ranges c.args.sets.now) n c.loop-at.nearest) (at_end c.loop-at.at (length c.args.sets.now) c.loop-at-test.false c.loop-at.auto.at-end ∙ sym (mapped c.args.sets.now)) c.loop-at.invariant
  where
    at_end : (at n : ℕ) → n ≤ at → at ≤ n → at ≡ n
    at_end at n a b = omega (arith, a, b)

    mapped : (rs : List Readers) → length (map (λ (r : Readers). r.files) rs) ≡ length rs
    mapped [] = refl
    mapped (r ∷ rs) = ap suc (mapped rs)

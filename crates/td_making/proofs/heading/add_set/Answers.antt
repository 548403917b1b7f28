use Rattle.std.proofs.Common.{◌≡◌, ℕ, ◌≤◌, [], ◌++◌, List, true, ap, subst, sym, ◌∙◌, arith}
use Rattle.std.proofs.lemmas.Bool.{leb-true, true≢false}
use Rattle.td_limits.specs.declared.limits.TheConstants.{LAST_DAY_RANGE}
use Rattle.td_codec.specs.Lists.{all_fit}
use Rattle.td_manifest.specs.Files.{main_file, rises, stt_items}
use Rattle.td_making.specs.Making.{MainFits}
use Rattle.td_making.proofs.CommitHeads.{set_fit}
use Rattle.td_making.proofs.heading.add_set.Goals.{then-rises, else-rises}
use Rattle.td_making.proofs.heading.add_set.Goals as goal

pub returns-clause-fits : goal.returns-clause-fits
returns-clause-fits c =
    λ all.
    let next : (rises c.args.before.now c.args.set.now.range ≡ true) × (c.args.set.now.range ≤ LAST_DAY_RANGE) =
    elim c.if-rises.branch [
      | then-rises w ↦ (sym c.rises.ensures ∙ w.if-rises.true, leb-true c.args.set.now.range LAST_DAY_RANGE (sym w.is_next-is ∙ c.if-not-is_next.false))
      | else-rises w ↦ absurd (true≢false (sym c.if-not-is_next.false ∙ w.is_next-is ∙ w.if-rises.false))
    ] in
    let keys = c.in_ok-add_main.ensures.added c.if-not-branch.false ∙ ap (λ l. l ++ main_file c.args.set.now.main) c.requires.files in
    set_fit c.args.before.now c.args.set.now next.0 next.1 (omega (arith, c.if-len.false, c.len.ensures))
    (subst (λ (l : List ℕ). MainFits c.args.set.now.main l) c.requires.files (c.in_ok-add_main.ensures.fit c.if-not-branch.false))
    (sym (λ i. all_fit (stt_items (keys i)) [] (c.as_slice.ensures i)) ∙ c.in_ok-add_stt.ensures.fit all)

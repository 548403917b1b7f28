use Rattle.std.proofs.Common.{◌≤◌, List, sym, subst, arith}
use Rattle.td_limits.specs.declared.limits.TheConstants.{FOLD_STEPS}
use Rattle.td_datafile.specs.declared.format.Entry.{Entry}
use Rattle.td_datafile.specs.Scanning.{want_of}
use Rattle.td_datafile.specs.Folding.{partial_rows}
use Rattle.td_datafile.proofs.Folds.{partial_few}
use Rattle.td_datafile.proofs.folding.folded_of.Goals as goal

pub returns-in_err-gathered-clause-most_steps : goal.returns-in_err-gathered-clause-most_steps
returns-in_err-gathered-clause-most_steps g c =
    let want = want_of c.args.wanted.now in
    let few = subst (λ (es : List Entry). partial_rows want es ≤ FOLD_STEPS) (sym c.as_slice-entries.ensures) (partial_few want c.args.opening.now.entries c.requires.known.follow) in
    omega (arith, few, c.in_err-gathered.ensures.most_steps)

pub returns-in_err-tally-clause-most_steps : goal.returns-in_err-tally-clause-most_steps
returns-in_err-tally-clause-most_steps g c =
    let want = want_of c.args.wanted.now in
    let few = subst (λ (es : List Entry). partial_rows want es ≤ FOLD_STEPS) (sym c.as_slice-entries.ensures) (partial_few want c.args.opening.now.entries c.requires.known.follow) in
    omega (arith, few, c.in_ok-gathered.ensures.most_steps)

pub returns-clause-most_steps : goal.returns-clause-most_steps
returns-clause-most_steps g c =
    let want = want_of c.args.wanted.now in
    let few = subst (λ (es : List Entry). partial_rows want es ≤ FOLD_STEPS) (sym c.as_slice-entries.ensures) (partial_few want c.args.opening.now.entries c.requires.known.follow) in
    omega (arith, few, c.in_ok-gathered.ensures.most_steps)

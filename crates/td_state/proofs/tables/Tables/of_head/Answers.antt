use Rattle.std.proofs.Common.{ℕ, List, ◌≤◌, ap, subst, sym}
use Rattle.td_manifest.specs.declared.head.HeadStable.{HeadStable}
use Rattle.td_state.specs.Heads.{FitStables}
use Rattle.td_state.proofs.HeadFits.{fitting}
use Rattle.td_state.proofs.tables.Tables.of_head.Goals as goal

pub add_stables-requires-clause-fits : goal.add_stables-requires-clause-fits
add_stables-requires-clause-fits c =
    subst (λ (ss : List HeadStable). FitStables ss) (sym c.as_slice.ensures) (fitting c.args.head.now c.requires.fits).stables

pub add_tables-requires-clause-fits : goal.add_tables-requires-clause-fits
add_tables-requires-clause-fits c = (fitting c.args.head.now c.requires.fits).tables

pub set_numbers-requires-clause-version : goal.set_numbers-requires-clause-version
set_numbers-requires-clause-version c = (fitting c.args.head.now c.requires.fits).version

pub set_numbers-requires-clause-moment : goal.set_numbers-requires-clause-moment
set_numbers-requires-clause-moment c = (fitting c.args.head.now c.requires.fits).moment

pub set_numbers-requires-clause-edge : goal.set_numbers-requires-clause-edge
set_numbers-requires-clause-edge c = (fitting c.args.head.now c.requires.fits).edge

pub set_numbers-requires-clause-next : goal.set_numbers-requires-clause-next
set_numbers-requires-clause-next c =
    subst (λ (n : ℕ). n ≤ c.args.head.now.next_stream) (sym (ap (λ s. s.catalog.next_stream) c.in_ok-add_tables.ensures)) (fitting c.args.head.now c.requires.fits).next

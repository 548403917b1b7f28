use Rattle.std.proofs.Common.{◌≡◌, ℕ, List, Option, subst, sym, arith}
use Rattle.std.specs.Prelude.{IfSome}
use Rattle.td_limits.specs.declared.limits.TheConstants.{LAST_VERSION}
use Rattle.td_outside.specs.Image.{Image}
use Rattle.td_outside.specs.Files.{NamesFiles}
use Rattle.td_opening.specs.declared.causes.OpenCause.{OpenCause}
use Rattle.td_opening.specs.Opening.{BreaksBy}
use Rattle.td_opening.proofs.BothLogs.{handed_on}
use Rattle.td_opening.proofs.HeadFacts.{log_number}
use Rattle.td_opening.proofs.Reading.{told_lacks}
use Rattle.td_opening.proofs.opening.read_store.Goals as goal

pub returns-in_err-named-clause-strange : goal.returns-in_err-named-clause-strange
returns-in_err-named-clause-strange g c =
    let old = g.S.Store.told c.args.store.now in
    handed_on c.from_residual-in_err-named.result c.in_err-named.field-0.0
    (λ (e : OpenCause). IfSome old (BreaksBy e)) c.from_residual-in_err-named.ensures.1
    (told_lacks c.in_ok-head.head c.as_slice.result.now c.in_err-named.field-0.0 old c.in_ok-head.ensures.head
    (subst (λ (names : List ℕ). IfSome old (NamesFiles names)) (sym c.as_slice.ensures)
    (subst (λ (told : Option Image). IfSome told (NamesFiles c.in_ok-names.names)) c.in_ok-head.ensures.told
    c.in_ok-names.ensures.names))
    c.in_err-named.ensures.err)

pub overflow_add-head : goal.overflow_add-head
overflow_add-head g c = omega (arith, (log_number c.in_ok-head.head c.in_ok-head.ensures.fits).1)

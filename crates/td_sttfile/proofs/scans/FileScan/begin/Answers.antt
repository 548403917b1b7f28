use Rattle.std.proofs.Common.{Bool, true, false, Err, sym, ap, subst, ◌∙◌}
use Rattle.std.proofs.lemmas.Result.{err_from_is_err_and}
use Rattle.td_layer.specs.Scans.{HasScanCause}
use Rattle.td_sttfile.specs.Scanning.{Scan, want_of, left_of, damaged_of, ComesLast}
use Rattle.td_sttfile.proofs.States.{left_rises, spot_of, opened_left, opened_is, same_order, has_cause, opening_fault, opening_last}
use Rattle.td_sttfile.proofs.scans.FileScan.begin.Goals as goal

pub returns-in_err-opening-clause-cause : goal.returns-in_err-opening-clause-cause
returns-in_err-opening-clause-cause g c =
    let p = err_from_is_err_and c.from_residual.result c.from_residual.ensures.1 in
    let want = want_of c.self.inside.wanted in
    let told = g.F.FileBytes.bytes c.self.inside.file in
    let file = g.F.FileBytes.file c.self.inside.file in
    let now = g.F.FileBytes.count c.opening_at.new.file in
    let e = c.in_err-opening.field-0.0 in
    rw (p.1, p.2)
    (subst (λ (s : Scan). HasScanCause (damaged_of s) s.count now (Err e)) c.self.view_is (has_cause want told file (g.F.FileBytes.count c.self.inside.file) now e c.in_err-opening.ensures.cause (opening_fault want told file e c.in_err-opening.ensures.read)))

pub invariant_of-self-2 : goal.invariant_of-self-2
invariant_of-self-2 g c =
    let want = want_of c.self.inside.wanted in
    let told = g.F.FileBytes.bytes c.self.inside.file in
    let now = g.F.FileBytes.bytes c.opening_at.new.file in
    let rows = c.self.inside.rows in
    let o = c.in_ok-opening.opening in
    let at = c.in_ok-opening.at in
    let same = c.in_ok-opening.ensures.file.bytes_are in
    let none = c.self.invariant.fresh c.if-self.false in
    let left = opened_left want told now rows rows c.self.inside.spot o at same none c.in_ok-opening.ensures.read in
    record {
      ahead = c.in_ok-opening.ensures.ahead;
      order = same_order (left_of want told false rows c.self.inside.spot) (left_of want now true rows (spot_of o at)) left (left_rises want told rows c.self.inside.spot);
      values = c.self.invariant.values;
      fresh = λ e. none;
      opened = λ e. opened_is want told now o at same c.in_ok-opening.ensures.read;
    }

pub returns-clause-left : goal.returns-clause-left
returns-clause-left g c =
    let want = want_of c.self.inside.wanted in
    let told = g.F.FileBytes.bytes c.self.inside.file in
    let now = g.F.FileBytes.bytes c.opening_at.new.file in
    let rows = c.self.inside.rows in
    opened_left want told now rows rows c.self.inside.spot c.in_ok-opening.opening c.in_ok-opening.at c.in_ok-opening.ensures.file.bytes_are (c.self.invariant.fresh c.if-self.false) c.in_ok-opening.ensures.read
    ∙ ap (λ (b : Bool). left_of want told b rows c.self.inside.spot) (sym c.if-self.false)
    ∙ ap (λ (s : Scan). s.left) c.self.view_is

pub returns-in_err-opening-clause-last : goal.returns-in_err-opening-clause-last
returns-in_err-opening-clause-last g c =
    let p = err_from_is_err_and c.from_residual.result c.from_residual.ensures.1 in
    let want = want_of c.self.inside.wanted in
    let told = g.F.FileBytes.bytes c.self.inside.file in
    let file = g.F.FileBytes.file c.self.inside.file in
    let e = c.in_err-opening.field-0.0 in
    rw (p.1, p.2) (subst (λ (s : Scan). ComesLast s.left e) c.self.view_is (opening_last want told file c.self.inside.begun c.self.inside.rows c.self.inside.spot e c.if-self.false c.in_err-opening.ensures.read))

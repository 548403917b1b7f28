use Rattle.std.proofs.Common.{◌≡◌, ℕ, Bool, true, List, Option, Ok, sym, ap, subst, ◌∙◌}
use Rattle.std.proofs.lemmas.Result.{err_from_is_err_and}
use Rattle.td_sttfile.specs.Scanning.{Scan, want_of, left_of, IsSound, ComesLast}
use Rattle.td_sttfile.proofs.States.{same_left, same_open, filled, popped, gives_next, next_values, next_sound, later_last}
use Rattle.td_sttfile.proofs.scans.FileScan.take.Goals as goal

pub invariant_of-self-2 : goal.invariant_of-self-2
invariant_of-self-2 g c =
    let want = want_of c.self.inside.wanted in
    let told = g.F.FileBytes.bytes c.self.inside.file in
    let now = g.F.FileBytes.bytes c.fill.new.file in
    let begun = ap (λ (s : Scan). s.begun) c.self.view_is ∙ c.requires in
    let ensured = c.in_ok-fill.ensures in
    let full = filled want told now c.self.inside.begun c.self.inside.ahead.from c.fill.new.ahead.from c.self.inside.ahead.bytes c.fill.new.ahead.bytes c.self.inside.cuts c.self.inside.rows c.fill.new.rows c.self.inside.spot c.fill.new.spot begun ensured.file.bytes_are
    c.self.invariant ensured.keeps ensured.values ensured.ahead in
    popped want now c.self.inside.begun c.fill.new.ahead.from c.fill.new.ahead.bytes c.self.inside.cuts c.fill.new.rows c.next_row-given.new.rows c.fill.new.spot c.next_row-given.result begun full c.next_row-given.ensures

pub returns-clause-partials : goal.returns-clause-partials
returns-clause-partials g c =
    let want = want_of c.self.inside.wanted in
    let told = g.F.FileBytes.bytes c.self.inside.file in
    let now = g.F.FileBytes.bytes c.fill.new.file in
    let begun = ap (λ (s : Scan). s.begun) c.self.view_is ∙ c.requires in
    let same = same_left want told now c.self.inside.rows c.fill.new.rows c.self.inside.spot c.fill.new.spot c.in_ok-fill.ensures.file.bytes_are c.in_ok-fill.ensures.keeps in
    let old = sym (ap (λ (s : Scan). s.left) c.self.view_is) ∙ ap (λ (b : Bool). left_of want told b c.self.inside.rows c.self.inside.spot) begun ∙ sym same in
    let new = ap (λ (b : Bool). left_of want now b c.next_row-given.new.rows c.fill.new.spot) begun in
    gives_next want now c.fill.new.rows c.next_row-given.new.rows c.fill.new.spot c.args.self.now.left (left_of want now c.self.inside.begun c.next_row-given.new.rows c.fill.new.spot) c.next_row-given.result old new c.next_row-given.ensures c.in_ok-fill.ensures.ends

pub returns-clause-values : goal.returns-clause-values
returns-clause-values g c = next_values c.self.inside.wanted.table c.fill.new.rows c.next_row-given.new.rows c.next_row-given.result c.next_row-given.ensures c.in_ok-fill.ensures.values

pub returns-clause-sound : goal.returns-clause-sound
returns-clause-sound g c = λ none.
    let want = want_of c.self.inside.wanted in
    let told = g.F.FileBytes.bytes c.self.inside.file in
    let begun = ap (λ (s : Scan). s.begun) c.self.view_is ∙ c.requires in
    let is_open = same_open want told told c.self.inside.cuts c.self.inside.rows c.fill.new.rows c.self.inside.spot c.fill.new.spot Rattle.std.proofs.Common.refl c.in_ok-fill.ensures.keeps (c.self.invariant.opened begun) in
    subst IsSound c.self.view_is (next_sound want told c.self.inside.cuts c.fill.new.rows c.next_row-given.new.rows c.fill.new.spot c.next_row-given.result c.next_row-given.ensures c.in_ok-fill.ensures.ends is_open none)

pub returns-in_err-fill-clause-last : goal.returns-in_err-fill-clause-last
returns-in_err-fill-clause-last g c =
    let p = err_from_is_err_and c.from_residual.result c.from_residual.ensures.1 in
    let want = want_of c.self.inside.wanted in
    let told = g.F.FileBytes.bytes c.self.inside.file in
    let file = g.F.FileBytes.file c.self.inside.file in
    let begun = ap (λ (s : Scan). s.begun) c.self.view_is ∙ c.requires in
    let e = c.in_err-fill.field-0.0 in
    rw (p.1, p.2) (subst (λ (s : Scan). ComesLast s.left e) c.self.view_is (later_last want told file c.self.inside.begun c.self.inside.rows c.fill.new.rows c.self.inside.spot c.fill.new.spot e begun c.in_err-fill.ensures.keeps c.in_err-fill.ensures.rows_stay c.in_err-fill.ensures.faults))

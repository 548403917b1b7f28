use Rattle.std.proofs.Common.{◌≡◌, ◌+◌, ◌^◌, ◌<◌, ◌≤◌, Bool, List, [], length, refl, sym, ap, subst, ◌∙◌}
use Rattle.std.proofs.lemmas.Result.{err_from_is_err_and}
use Rattle.std.specs.Prelude.{IfSome}
use Rattle.td_datafile.specs.declared.format.Entry.{Entry}
use Rattle.td_datafile.specs.Scanning.{Scan, want_of, bytes_left, left_of, Keeps, Faults, IsSound, ComesLast}
use Rattle.td_datafile.proofs.States.{same_left, same_open, filled, popped, gives_next, next_values, next_sound, later_last}
use Rattle.td_datafile.proofs.scans.FileScan.take.Goals as goal

pub invariant_of-self-2 : goal.invariant_of-self-2
invariant_of-self-2 g c =
    let want = want_of c.self.inside.wanted in
    let told = g.F.FileBytes.bytes c.self.inside.file in
    let now = g.F.FileBytes.bytes c.fill.new.file in
    let begun = ap (λ (s : Scan). s.begun) c.self.view_is ∙ c.requires in
    let ensured = c.in_ok-fill.ensures in
    let same = c.as_slice.ensures in
    let keeps = subst (λ (es : List Entry). IfSome told (Keeps want es c.self.inside.rows c.fill.new.rows c.self.inside.spot c.fill.new.spot)) same ensured.keeps in
    let room = subst (λ (es : List Entry). c.fill.new.spot.place + bytes_left es c.fill.new.spot < 2 ^ 64) same ensured.room in
    let full = filled want told now c.self.inside.begun c.self.inside.ahead.from c.fill.new.ahead.from c.self.inside.ahead.bytes c.fill.new.ahead.bytes c.self.inside.entries c.self.inside.rows c.fill.new.rows c.self.inside.spot c.fill.new.spot begun ensured.file.bytes_are
    c.self.invariant keeps ensured.values room ensured.ahead in
    popped want now c.self.inside.begun c.fill.new.ahead.from c.fill.new.ahead.bytes c.self.inside.entries c.fill.new.rows c.next_row-given.new.rows c.fill.new.spot c.next_row-given.result begun full c.next_row-given.ensures

pub returns-clause-partials : goal.returns-clause-partials
returns-clause-partials g c =
    let want = want_of c.self.inside.wanted in
    let told = g.F.FileBytes.bytes c.self.inside.file in
    let now = g.F.FileBytes.bytes c.fill.new.file in
    let begun = ap (λ (s : Scan). s.begun) c.self.view_is ∙ c.requires in
    let keeps = subst (λ (es : List Entry). IfSome told (Keeps want es c.self.inside.rows c.fill.new.rows c.self.inside.spot c.fill.new.spot)) c.as_slice.ensures c.in_ok-fill.ensures.keeps in
    let ends = subst (λ (es : List Entry). c.fill.new.rows ≡ [] → length es ≤ c.fill.new.spot.next) c.as_slice.ensures c.in_ok-fill.ensures.ends in
    let same = same_left want told now c.self.inside.entries c.self.inside.rows c.fill.new.rows c.self.inside.spot c.fill.new.spot c.in_ok-fill.ensures.file.bytes_are keeps in
    let old = sym (ap (λ (s : Scan). s.left) c.self.view_is) ∙ ap (λ (b : Bool). left_of want told b c.self.inside.entries c.self.inside.rows c.self.inside.spot) begun ∙ sym same in
    let new = ap (λ (b : Bool). left_of want now b c.self.inside.entries c.next_row-given.new.rows c.fill.new.spot) begun in
    gives_next want now c.self.inside.entries c.fill.new.rows c.next_row-given.new.rows c.fill.new.spot c.args.self.now.left (left_of want now c.self.inside.begun c.self.inside.entries c.next_row-given.new.rows c.fill.new.spot) c.next_row-given.result old new c.next_row-given.ensures ends

pub returns-clause-values : goal.returns-clause-values
returns-clause-values g c = next_values c.self.inside.wanted.table c.fill.new.rows c.next_row-given.new.rows c.next_row-given.result c.next_row-given.ensures c.in_ok-fill.ensures.values

pub returns-clause-sound : goal.returns-clause-sound
returns-clause-sound g c = λ none.
    let want = want_of c.self.inside.wanted in
    let told = g.F.FileBytes.bytes c.self.inside.file in
    let begun = ap (λ (s : Scan). s.begun) c.self.view_is ∙ c.requires in
    let keeps = subst (λ (es : List Entry). IfSome told (Keeps want es c.self.inside.rows c.fill.new.rows c.self.inside.spot c.fill.new.spot)) c.as_slice.ensures c.in_ok-fill.ensures.keeps in
    let ends = subst (λ (es : List Entry). c.fill.new.rows ≡ [] → length es ≤ c.fill.new.spot.next) c.as_slice.ensures c.in_ok-fill.ensures.ends in
    let is_open = same_open want told told c.self.inside.entries c.self.inside.rows c.fill.new.rows c.self.inside.spot c.fill.new.spot refl keeps (c.self.invariant.opened begun) in
    subst IsSound c.self.view_is (next_sound want told c.self.inside.entries c.fill.new.rows c.next_row-given.new.rows c.fill.new.spot c.next_row-given.result c.next_row-given.ensures ends is_open none)

pub returns-in_err-fill-clause-last : goal.returns-in_err-fill-clause-last
returns-in_err-fill-clause-last g c =
    let p = err_from_is_err_and c.from_residual.result c.from_residual.ensures.1 in
    let want = want_of c.self.inside.wanted in
    let told = g.F.FileBytes.bytes c.self.inside.file in
    let file = g.F.FileBytes.file c.self.inside.file in
    let begun = ap (λ (s : Scan). s.begun) c.self.view_is ∙ c.requires in
    let e = c.in_err-fill.field-0.0 in
    let keeps = subst (λ (es : List Entry). IfSome told (Keeps want es c.self.inside.rows c.fill.new.rows c.self.inside.spot c.fill.new.spot)) c.as_slice.ensures c.in_err-fill.ensures.keeps in
    let faults = subst (λ (es : List Entry). Faults want es told file c.fill.new.spot e) c.as_slice.ensures c.in_err-fill.ensures.faults in
    rw (p.1, p.2) (subst (λ (s : Scan). ComesLast s.left e) c.self.view_is (later_last want told file c.self.inside.begun c.self.inside.entries c.self.inside.rows c.fill.new.rows c.self.inside.spot c.fill.new.spot e begun keeps c.in_err-fill.ensures.rows_stay faults))

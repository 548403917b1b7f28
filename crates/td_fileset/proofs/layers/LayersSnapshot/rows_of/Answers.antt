use Rattle.std.proofs.Common.{◌≡◌, ℕ, ◌∙◌, ap, sym, subst, eqb, ◌++◌, map, length, take, drop, Some, refl, arith}
use Rattle.std.specs.Prelude.{IfSome, max, sum, Ok, Err, ◌≤◌, ◌+◌}
use Rattle.std.specs.Option.{option_copied}
use Rattle.std.specs.Map.{lookup}
use Rattle.std.proofs.lemmas.Result.{err_from_is_err_and}
use Rattle.td_layer.specs.Keys.{InKeyOrder}
use Rattle.td_layer.specs.Scans.{HasScanCause, rows_in}
use Rattle.td_fileio.specs.Days.{day_start}
use Rattle.td_fileset.specs.Layered.{Layered, Span, Stored, rows_told, held_told, damaged_told}
use Rattle.td_fileset.specs.Opened.{Readers, AddsRows, shown_count}
use Rattle.td_fileset.proofs.Answered.{answer_none}
use Rattle.td_fileset.proofs.Risen.{told_rises}
use Rattle.td_fileset.proofs.Spanned.{cause_err}
use Rattle.td_fileset.proofs.Told.{span_found, span_most, span_cause, files_written, fault_written, cause_ok}
use Rattle.td_fileset.proofs.layers.LayersSnapshot.rows_of.Goals as goal

pub returns-in_default-clause-found : goal.returns-in_default-clause-found
returns-in_default-clause-found g c =
    let s = c.self.inside in
    let st : Stored = record { memtables = s.memtables.items; sets = map (λ (r : Readers). r.files) s.sets.items; kinds = s.kinds.entries; edge = s.edge } in
    subst (λ (l : Layered). IfSome (rows_told l.stored) (λ all. c.new.result ≡ rows_in c.args.table c.args.lo c.args.hi all)) c.self.view_is
    (subst (λ found. IfSome (rows_told st) (λ all. found ≡ rows_in c.args.table c.args.lo c.args.hi all)) (sym c.new.ensures)
    (answer_none st c.args.table c.args.lo c.args.hi (sym c.kinds_of.ensures.found ∙ ap option_copied c.in_default.is)))

pub returns-in_err-add_pieces-clause-most_steps : goal.returns-in_err-add_pieces-clause-most_steps
returns-in_err-add_pieces-clause-most_steps g c =
    let s = c.self.inside in
    let st : Stored = record { memtables = s.memtables.items; sets = map (λ (r : Readers). r.files) s.sets.items; kinds = s.kinds.entries; edge = s.edge } in
    let span : Span = record { table = c.args.table; kinds = c.as_slice.result.now; lo = c.max.result; hi = c.args.hi } in
    let part : span ≡ record { table = c.args.table; kinds = c.in-Some.kinds.now; lo = max c.args.lo (day_start s.edge); hi = c.args.hi } =
    λ i. record { table = c.args.table; kinds = c.as_slice.ensures i; lo = (c.max.ensures ∙ ap (max c.args.lo) c.day_start.ensures) i; hi = c.args.hi } in
    let is : lookup (λ (t : ℕ). eqb t c.args.table) s.kinds.entries ≡ Some c.in-Some.kinds.now = sym c.kinds_of.ensures.found ∙ ap option_copied c.in-Some.is in
    subst (λ (l : Layered). IfSome (held_told l.stored c.args.table c.args.lo c.args.hi) (λ n. c.add_pieces.new.steps ≤ c.args.steps.now + n)) c.self.view_is
    (span_most st c.args.table c.args.lo c.args.hi c.in-Some.kinds.now c.as_slice-2.result.now (map (λ (r : Readers). r.files) c.as_mut_slice.result.now) span is c.as_slice-2.ensures.value (ap (map (λ (r : Readers). r.files)) c.as_mut_slice.ensures.value) part c.args.steps.now c.add_pieces.new.steps c.in_err-add_pieces.ensures.most)

pub returns-in_err-add_pieces-clause-rows : goal.returns-in_err-add_pieces-clause-rows
returns-in_err-add_pieces-clause-rows g c =
    let s = c.self.inside in
    let st : Stored = record { memtables = s.memtables.items; sets = map (λ (r : Readers). r.files) s.sets.items; kinds = s.kinds.entries; edge = s.edge } in
    let long : s.sets.len ≡ length c.add_pieces.new.sets = omega (arith, c.add_pieces.auto.sets, ap length c.as_mut_slice.ensures.value) in
    let same = files_written s.sets.len c.add_pieces.new.sets c.as_mut_slice.result.now s.sets.items long c.in_err-add_pieces.ensures.files c.as_mut_slice.ensures.value in
    (λ i. rows_told (record { memtables = s.memtables.items; sets = same i; kinds = s.kinds.entries; edge = s.edge })) ∙ ap (λ (x : Layered). rows_told x.stored) c.self.view_is

pub returns-in_err-add_pieces-clause-damaged : goal.returns-in_err-add_pieces-clause-damaged
returns-in_err-add_pieces-clause-damaged g c =
    let s = c.self.inside in
    let st : Stored = record { memtables = s.memtables.items; sets = map (λ (r : Readers). r.files) s.sets.items; kinds = s.kinds.entries; edge = s.edge } in
    let long : s.sets.len ≡ length c.add_pieces.new.sets = omega (arith, c.add_pieces.auto.sets, ap length c.as_mut_slice.ensures.value) in
    let same = files_written s.sets.len c.add_pieces.new.sets c.as_mut_slice.result.now s.sets.items long c.in_err-add_pieces.ensures.files c.as_mut_slice.ensures.value in
    (λ i. damaged_told (record { memtables = s.memtables.items; sets = same i; kinds = s.kinds.entries; edge = s.edge })) ∙ ap (λ (x : Layered). damaged_told x.stored) c.self.view_is

pub returns-in_err-add_pieces-clause-held : goal.returns-in_err-add_pieces-clause-held
returns-in_err-add_pieces-clause-held g c =
    let s = c.self.inside in
    let st : Stored = record { memtables = s.memtables.items; sets = map (λ (r : Readers). r.files) s.sets.items; kinds = s.kinds.entries; edge = s.edge } in
    let long : s.sets.len ≡ length c.add_pieces.new.sets = omega (arith, c.add_pieces.auto.sets, ap length c.as_mut_slice.ensures.value) in
    let same = files_written s.sets.len c.add_pieces.new.sets c.as_mut_slice.result.now s.sets.items long c.in_err-add_pieces.ensures.files c.as_mut_slice.ensures.value in
    λ t l h. (λ i. held_told (record { memtables = s.memtables.items; sets = same i; kinds = s.kinds.entries; edge = s.edge }) t l h) ∙ ap (λ (x : Layered). held_told x.stored t l h) c.self.view_is

pub returns-in_err-add_pieces-clause-fault : goal.returns-in_err-add_pieces-clause-fault
returns-in_err-add_pieces-clause-fault g c =
    let s = c.self.inside in
    let st : Stored = record { memtables = s.memtables.items; sets = map (λ (r : Readers). r.files) s.sets.items; kinds = s.kinds.entries; edge = s.edge } in
    let span : Span = record { table = c.args.table; kinds = c.as_slice.result.now; lo = c.max.result; hi = c.args.hi } in
    let part : span ≡ record { table = c.args.table; kinds = c.in-Some.kinds.now; lo = max c.args.lo (day_start s.edge); hi = c.args.hi } =
    λ i. record { table = c.args.table; kinds = c.as_slice.ensures i; lo = (c.max.ensures ∙ ap (max c.args.lo) c.day_start.ensures) i; hi = c.args.hi } in
    let is : lookup (λ (t : ℕ). eqb t c.args.table) s.kinds.entries ≡ Some c.in-Some.kinds.now = sym c.kinds_of.ensures.found ∙ ap option_copied c.in-Some.is in
    let long : s.sets.len ≡ length c.add_pieces.new.sets = omega (arith, c.add_pieces.auto.sets, ap length c.as_mut_slice.ensures.value) in
    let p = err_from_is_err_and c.from_residual.result c.from_residual.ensures.1 in
    rw (p.1, p.2)
    (subst (λ (l : Layered). HasScanCause (damaged_told l.stored) (shown_count l.failed) (shown_count (sum (map (λ (r : Readers). r.failed) (take s.sets.len (c.add_pieces.new.sets ++ drop (length c.add_pieces.new.sets) s.sets.items))))) (Err c.in_err-add_pieces.field-0.0)) c.self.view_is
    (fault_written (damaged_told st) _ s.sets.len c.add_pieces.new.sets c.as_mut_slice.result.now s.sets.items (Err c.in_err-add_pieces.field-0.0) long c.as_mut_slice.ensures.value refl
    (span_cause st c.args.table c.args.lo c.args.hi c.in-Some.kinds.now c.as_slice-2.result.now (map (λ (r : Readers). r.files) c.as_mut_slice.result.now) span is c.as_slice-2.ensures.value (ap (map (λ (r : Readers). r.files)) c.as_mut_slice.ensures.value) part _ _ (Err c.in_err-add_pieces.field-0.0) (cause_err _ _ _ c.in_err-add_pieces.field-0.0 c.in_err-add_pieces.ensures.fault))))

pub returns-clause-found : goal.returns-clause-found
returns-clause-found g c =
    let s = c.self.inside in
    let st : Stored = record { memtables = s.memtables.items; sets = map (λ (r : Readers). r.files) s.sets.items; kinds = s.kinds.entries; edge = s.edge } in
    let span : Span = record { table = c.args.table; kinds = c.as_slice.result.now; lo = c.max.result; hi = c.args.hi } in
    let part : span ≡ record { table = c.args.table; kinds = c.in-Some.kinds.now; lo = max c.args.lo (day_start s.edge); hi = c.args.hi } =
    λ i. record { table = c.args.table; kinds = c.as_slice.ensures i; lo = (c.max.ensures ∙ ap (max c.args.lo) c.day_start.ensures) i; hi = c.args.hi } in
    let is : lookup (λ (t : ℕ). eqb t c.args.table) s.kinds.entries ≡ Some c.in-Some.kinds.now = sym c.kinds_of.ensures.found ∙ ap option_copied c.in-Some.is in
    subst (λ (l : Layered). IfSome (rows_told l.stored) (λ all. c.add_pieces.new.found ≡ rows_in c.args.table c.args.lo c.args.hi all)) c.self.view_is
    (span_found st c.args.table c.args.lo c.args.hi c.in-Some.kinds.now c.as_slice-2.result.now (map (λ (r : Readers). r.files) c.as_mut_slice.result.now) span is c.as_slice-2.ensures.value (ap (map (λ (r : Readers). r.files)) c.as_mut_slice.ensures.value) part c.add_pieces.new.found c.kinds_of.ensures.order
    (subst (λ before. AddsRows c.as_slice-2.result.now (map (λ (r : Readers). r.files) c.as_mut_slice.result.now) span before c.add_pieces.new.found) c.new-found.ensures c.in_ok-add_pieces.ensures.found))

pub returns-clause-most_steps : goal.returns-clause-most_steps
returns-clause-most_steps g c =
    let s = c.self.inside in
    let st : Stored = record { memtables = s.memtables.items; sets = map (λ (r : Readers). r.files) s.sets.items; kinds = s.kinds.entries; edge = s.edge } in
    let span : Span = record { table = c.args.table; kinds = c.as_slice.result.now; lo = c.max.result; hi = c.args.hi } in
    let part : span ≡ record { table = c.args.table; kinds = c.in-Some.kinds.now; lo = max c.args.lo (day_start s.edge); hi = c.args.hi } =
    λ i. record { table = c.args.table; kinds = c.as_slice.ensures i; lo = (c.max.ensures ∙ ap (max c.args.lo) c.day_start.ensures) i; hi = c.args.hi } in
    let is : lookup (λ (t : ℕ). eqb t c.args.table) s.kinds.entries ≡ Some c.in-Some.kinds.now = sym c.kinds_of.ensures.found ∙ ap option_copied c.in-Some.is in
    subst (λ (l : Layered). IfSome (held_told l.stored c.args.table c.args.lo c.args.hi) (λ n. c.add_pieces.new.steps ≤ c.args.steps.now + n)) c.self.view_is
    (span_most st c.args.table c.args.lo c.args.hi c.in-Some.kinds.now c.as_slice-2.result.now (map (λ (r : Readers). r.files) c.as_mut_slice.result.now) span is c.as_slice-2.ensures.value (ap (map (λ (r : Readers). r.files)) c.as_mut_slice.ensures.value) part c.args.steps.now c.add_pieces.new.steps c.in_ok-add_pieces.ensures.most)

pub returns-clause-rows : goal.returns-clause-rows
returns-clause-rows g c =
    let s = c.self.inside in
    let st : Stored = record { memtables = s.memtables.items; sets = map (λ (r : Readers). r.files) s.sets.items; kinds = s.kinds.entries; edge = s.edge } in
    let long : s.sets.len ≡ length c.add_pieces.new.sets = omega (arith, c.add_pieces.auto.sets, ap length c.as_mut_slice.ensures.value) in
    let same = files_written s.sets.len c.add_pieces.new.sets c.as_mut_slice.result.now s.sets.items long c.in_ok-add_pieces.ensures.files c.as_mut_slice.ensures.value in
    (λ i. rows_told (record { memtables = s.memtables.items; sets = same i; kinds = s.kinds.entries; edge = s.edge })) ∙ ap (λ (x : Layered). rows_told x.stored) c.self.view_is

pub returns-clause-damaged : goal.returns-clause-damaged
returns-clause-damaged g c =
    let s = c.self.inside in
    let st : Stored = record { memtables = s.memtables.items; sets = map (λ (r : Readers). r.files) s.sets.items; kinds = s.kinds.entries; edge = s.edge } in
    let long : s.sets.len ≡ length c.add_pieces.new.sets = omega (arith, c.add_pieces.auto.sets, ap length c.as_mut_slice.ensures.value) in
    let same = files_written s.sets.len c.add_pieces.new.sets c.as_mut_slice.result.now s.sets.items long c.in_ok-add_pieces.ensures.files c.as_mut_slice.ensures.value in
    (λ i. damaged_told (record { memtables = s.memtables.items; sets = same i; kinds = s.kinds.entries; edge = s.edge })) ∙ ap (λ (x : Layered). damaged_told x.stored) c.self.view_is

pub returns-clause-held : goal.returns-clause-held
returns-clause-held g c =
    let s = c.self.inside in
    let st : Stored = record { memtables = s.memtables.items; sets = map (λ (r : Readers). r.files) s.sets.items; kinds = s.kinds.entries; edge = s.edge } in
    let long : s.sets.len ≡ length c.add_pieces.new.sets = omega (arith, c.add_pieces.auto.sets, ap length c.as_mut_slice.ensures.value) in
    let same = files_written s.sets.len c.add_pieces.new.sets c.as_mut_slice.result.now s.sets.items long c.in_ok-add_pieces.ensures.files c.as_mut_slice.ensures.value in
    λ t l h. (λ i. held_told (record { memtables = s.memtables.items; sets = same i; kinds = s.kinds.entries; edge = s.edge }) t l h) ∙ ap (λ (x : Layered). held_told x.stored t l h) c.self.view_is

pub returns-clause-fault : goal.returns-clause-fault
returns-clause-fault g c =
    let s = c.self.inside in
    let st : Stored = record { memtables = s.memtables.items; sets = map (λ (r : Readers). r.files) s.sets.items; kinds = s.kinds.entries; edge = s.edge } in
    let span : Span = record { table = c.args.table; kinds = c.as_slice.result.now; lo = c.max.result; hi = c.args.hi } in
    let part : span ≡ record { table = c.args.table; kinds = c.in-Some.kinds.now; lo = max c.args.lo (day_start s.edge); hi = c.args.hi } =
    λ i. record { table = c.args.table; kinds = c.as_slice.ensures i; lo = (c.max.ensures ∙ ap (max c.args.lo) c.day_start.ensures) i; hi = c.args.hi } in
    let is : lookup (λ (t : ℕ). eqb t c.args.table) s.kinds.entries ≡ Some c.in-Some.kinds.now = sym c.kinds_of.ensures.found ∙ ap option_copied c.in-Some.is in
    let long : s.sets.len ≡ length c.add_pieces.new.sets = omega (arith, c.add_pieces.auto.sets, ap length c.as_mut_slice.ensures.value) in
    subst (λ (l : Layered). HasScanCause (damaged_told l.stored) (shown_count l.failed) (shown_count (sum (map (λ (r : Readers). r.failed) (take s.sets.len (c.add_pieces.new.sets ++ drop (length c.add_pieces.new.sets) s.sets.items))))) (Ok c.add_pieces.new.found)) c.self.view_is
    (fault_written (damaged_told st) _ s.sets.len c.add_pieces.new.sets c.as_mut_slice.result.now s.sets.items (Ok c.add_pieces.new.found) long c.as_mut_slice.ensures.value refl
    (span_cause st c.args.table c.args.lo c.args.hi c.in-Some.kinds.now c.as_slice-2.result.now (map (λ (r : Readers). r.files) c.as_mut_slice.result.now) span is c.as_slice-2.ensures.value (ap (map (λ (r : Readers). r.files)) c.as_mut_slice.ensures.value) part _ _ (Ok c.add_pieces.new.found) (cause_ok _ _ _ _ c.add_pieces.new.found c.in_ok-add_pieces.ensures.fault)))

pub returns-in_default-clause-in_order : goal.returns-in_default-clause-in_order
returns-in_default-clause-in_order g c =
    let s = c.self.inside in
    let st : Stored = record { memtables = s.memtables.items; sets = map (λ (r : Readers). r.files) s.sets.items; kinds = s.kinds.entries; edge = s.edge } in
    subst (λ (l : Layered). IfSome (rows_told l.stored) (λ rows. InKeyOrder rows)) c.self.view_is (told_rises st c.kinds_of.ensures.order)

pub returns-in_err-add_pieces-clause-in_order : goal.returns-in_err-add_pieces-clause-in_order
returns-in_err-add_pieces-clause-in_order g c =
    let s = c.self.inside in
    let st : Stored = record { memtables = s.memtables.items; sets = map (λ (r : Readers). r.files) s.sets.items; kinds = s.kinds.entries; edge = s.edge } in
    subst (λ (l : Layered). IfSome (rows_told l.stored) (λ rows. InKeyOrder rows)) c.self.view_is (told_rises st c.kinds_of.ensures.order)

pub returns-clause-in_order : goal.returns-clause-in_order
returns-clause-in_order g c =
    let s = c.self.inside in
    let st : Stored = record { memtables = s.memtables.items; sets = map (λ (r : Readers). r.files) s.sets.items; kinds = s.kinds.entries; edge = s.edge } in
    subst (λ (l : Layered). IfSome (rows_told l.stored) (λ rows. InKeyOrder rows)) c.self.view_is (told_rises st c.kinds_of.ensures.order)

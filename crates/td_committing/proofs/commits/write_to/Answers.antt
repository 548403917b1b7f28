use Rattle.std.proofs.Common.{rules, ◌≡◌, ◌∙◌, map, length, ap, arith}
use Rattle.std.specs.Prelude.{sum}
use Rattle.td_engine.specs.CoreState.{seen}
use Rattle.td_committing.proofs.Ends.{gives_up_fault}
use Rattle.td_committing.proofs.Writers.{faults_back, faults_rise, files_back, written_back}
use Rattle.td_committing.proofs.commits.write_to.Goals as goal

pub put_in_place-requires-clause-files : goal.put_in_place-requires-clause-files
put_in_place-requires-clause-files g c = λ lifetimes within.
    let new = c.write_files-written.new.files in
    let long : c.args.files.len ≡ length new = omega (arith, c.write_files-written.auto.files, ap length c.as_mut_slice.ensures.value) in
    files_back g.S.Writer.Writer.written (g.S.Store.told c.args.core.now.store) c.args.frozen c.as_mut_slice.result.now new
    c.args.files.items c.from_vec-files.result c.as_mut_slice.ensures.value
    (c.from_vec-files.ensures ∙ written_back c.args.files.len new c.args.files.items long) c.requires.empty
    c.in-Ok.ensures.ok

pub returns-in-Err-Failed : goal.returns-in-Err-Failed
returns-in-Err-Failed g c =
    let s = seen g.S.Store.told g.S.Store.count g.C.Clock.readings in
    let old = s c.args.core.now in
    let given = s c.give_up.new.core in
    let new = c.write_files-written.new.files in
    let long : c.args.files.len ≡ length new = omega (arith, c.write_files-written.auto.files, ap length c.as_mut_slice.ensures.value) in
    let is = c.from_vec-files.ensures ∙ written_back c.args.files.len new c.args.files.items long in
    let faults = sum (map g.S.Writer.Writer.count c.from_vec-files.result) in
    gives_up_fault old given c.args.frozen faults c.give_up.ensures
    (faults_rise old.count faults given.count c.give_up.ensures.count
    (faults_back g.S.Writer.Writer.count c.as_mut_slice.result.now new c.from_vec-files.result
    c.write_files-written.result is (search (rules, c.in-Err-Failed.is, c.in-Err-Failed.field-0-is))
    c.write_files-written.ensures.cause))

use Rattle.std.proofs.Common.{◌≡◌, ◌++◌, ◌+◌, ◌≤◌}
use Rattle.std.specs.Prelude.{IfSome}
use Rattle.std.proofs.Math.Seq.{map-set_same}
use Rattle.std.proofs.lemmas.Result.{err_from_is_err_and}
use Rattle.td_fileset.specs.Stack.{rows_of}
use Rattle.td_fileset.specs.Merged.{held}
use Rattle.td_fileset.specs.Layered.{OpenSet}
use Rattle.td_fileset.specs.Opened.{Readers, span_of, span_layers, span_places, timed}
use Rattle.td_fileset.specs.Pieces.{own_span}
use Rattle.td_fileset.proofs.Advanced.{at_set, set_cause}
use Rattle.td_fileset.proofs.layers.add_piece.Goals as goal

pub returns-in_err-add_set-clause-most : goal.returns-in_err-add_set-clause-most
returns-in_err-add_set-clause-most g c =
    at_set c.args.sets.now c.args.set c.in-Some.at c.index-sets-at.result c.in-Some.is c.requires.number
    (λ (s : OpenSet). IfSome (span_layers c.args.memtables.now s (span_of c.args.span) (own_span (span_of c.args.span) s)) (λ layers. c.add_set.new.steps ≤ c.args.steps.now + held layers))
    c.in_err-add_set.ensures.most

pub returns-in_err-add_set-clause-files : goal.returns-in_err-add_set-clause-files
returns-in_err-add_set-clause-files g c = map-set_same (λ (r : Readers). r.files) c.args.sets.now c.in-Some.at c.add_set.new.set c.index-sets-at.result c.in_err-add_set.ensures.files

pub returns-in_err-add_set-clause-fault : goal.returns-in_err-add_set-clause-fault
returns-in_err-add_set-clause-fault g c =
    let p = err_from_is_err_and c.from_residual-in_err-add_set.result c.from_residual-in_err-add_set.ensures.1 in
    rw (p.1, p.2)
    (set_cause c.args.sets.now c.args.set c.in-Some.at c.index-sets-at.result c.in-Some.is c.requires.number
    (λ (s : OpenSet). span_places c.args.memtables.now s (own_span (span_of c.args.span) s)) c.add_set.new.set _ c.in_err-add_set.ensures.fault)

pub returns-clause-found : goal.returns-clause-found
returns-clause-found g c =
    at_set c.args.sets.now c.args.set c.in-Some.at c.index-sets-at.result c.in-Some.is c.requires.number
    (λ (s : OpenSet). IfSome (span_layers c.args.memtables.now s (span_of c.args.span) (own_span (span_of c.args.span) s)) (λ layers. c.add_set.new.found ≡ c.args.found.now ++ timed (rows_of layers)))
    c.in_ok-add_set.ensures.found

pub returns-clause-most : goal.returns-clause-most
returns-clause-most g c =
    at_set c.args.sets.now c.args.set c.in-Some.at c.index-sets-at.result c.in-Some.is c.requires.number
    (λ (s : OpenSet). IfSome (span_layers c.args.memtables.now s (span_of c.args.span) (own_span (span_of c.args.span) s)) (λ layers. c.add_set.new.steps ≤ c.args.steps.now + held layers))
    c.in_ok-add_set.ensures.most

pub returns-clause-files : goal.returns-clause-files
returns-clause-files g c = map-set_same (λ (r : Readers). r.files) c.args.sets.now c.in-Some.at c.add_set.new.set c.index-sets-at.result c.in_ok-add_set.ensures.files

pub returns-clause-fault : goal.returns-clause-fault
returns-clause-fault g c =
    set_cause c.args.sets.now c.args.set c.in-Some.at c.index-sets-at.result c.in-Some.is c.requires.number
    (λ (s : OpenSet). span_places c.args.memtables.now s (own_span (span_of c.args.span) s)) c.add_set.new.set _ c.in_ok-add_set.ensures.fault

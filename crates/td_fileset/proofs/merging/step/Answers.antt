use Rattle.std.proofs.Common.{◌≡◌, map, Option, Some, None, List, Err, Ok, sym, ap, ◌∙◌, subst, refl}
use Rattle.std.specs.Prelude.{reverse}
use Rattle.std.specs.Option.{option_map}
use Rattle.std.proofs.lemmas.Result.{err_from_is_err_and}
use Rattle.td_layer.specs.declared.values.Key.{Key}
use Rattle.td_fileset.specs.Stack.{Layer}
use Rattle.td_fileset.specs.Sources.{Fed, past}
use Rattle.td_fileset.specs.Merged.{told_layers, told_places, places_of, faults_of, IsTaken}
use Rattle.td_fileset.proofs.Causes.{counts_of}
use Rattle.td_fileset.proofs.Merges.{read_steps, ended, taken, turned, cause_turned, no_fault, no_memory, cause_of_error, past_same, taken_steps}
use Rattle.td_fileset.proofs.merging.step.Goals as goal

-- calls that gave a value leave the counts, also as they stand the other way round
kept : (new old : List Fed) → faults_of (counts_of new) ≡ faults_of (counts_of old) → faults_of (reverse (counts_of new)) ≡ faults_of (reverse (counts_of old))
kept new old e = turned new ∙ e ∙ sym (turned old)

pub returns-in_err-fill_all-clause-fault : goal.returns-in_err-fill_all-clause-fault
returns-in_err-fill_all-clause-fault g c =
    let p = err_from_is_err_and c.from_residual.result c.from_residual.ensures.1 in
    let e = c.in_err-fill_all.field-0.0 in
    rw (p.1, p.2) (cause_turned (places_of c.args.sources.now) c.args.sources.now c.fill_all.new.sources (Err e) (cause_of_error (places_of c.args.sources.now) (faults_of (counts_of c.args.sources.now)) (faults_of (counts_of c.fill_all.new.sources)) e c.in_err-fill_all.ensures.cause))

pub returns-in_default-clause-rows : goal.returns-in_default-clause-rows
returns-in_default-clause-rows g c =
    let same = c.in_ok-fill_all.ensures.layers in
    subst (λ (o : Option (List Layer)). IsTaken (option_map reverse o) (option_map reverse (told_layers c.fill_all.new.sources)) (Ok None)) same
    (ended c.fill_all.new.sources (told_layers c.fill_all.new.sources) c.in_ok-fill_all.ensures.settled (sym c.in_default.ensures) refl)

pub returns-in_default-clause-fault : goal.returns-in_default-clause-fault
returns-in_default-clause-fault g c =
    no_fault (places_of c.args.sources.now) (faults_of (reverse (counts_of c.args.sources.now))) (faults_of (reverse (counts_of c.fill_all.new.sources))) None (kept c.fill_all.new.sources c.args.sources.now c.in_ok-fill_all.ensures.cause.kept)

pub returns-in_err-row-clause-fault : goal.returns-in_err-row-clause-fault
returns-in_err-row-clause-fault g c =
    let p = err_from_is_err_and c.from_residual-in_err-row.result c.from_residual-in_err-row.ensures.1 in
    rw (p.1, p.2) (no_memory (places_of c.args.sources.now) (faults_of (reverse (counts_of c.args.sources.now))) (faults_of (reverse (counts_of c.fill_all.new.sources))) (kept c.fill_all.new.sources c.args.sources.now c.in_ok-fill_all.ensures.cause.kept))

pub returns-clause-rows : goal.returns-clause-rows
returns-clause-rows g c =
    subst (λ (o : Option (List Layer)). IsTaken (option_map reverse o) (option_map reverse (told_layers c.pass_all.new.sources)) (Ok (Some (c.in-Some.key, c.in_ok-row.row)))) c.in_ok-fill_all.ensures.layers
    (taken c.in-Some.key c.fill_all.new.sources (told_layers c.fill_all.new.sources) (told_layers c.pass_all.new.sources) c.in_ok-row.row c.in_ok-fill_all.ensures.settled (sym c.in-Some.ensures) refl (sym (ap told_layers c.pass_all.ensures)) c.in_ok-row.ensures.acted)

passed_map : {X : Type 0} (f : Fed → X) (k : Key) (new fs old : List Fed) → ((h : Fed) → f (past k h) ≡ f h) → new ≡ map (past k) fs → map f fs ≡ map f old → map f new ≡ map f old
passed_map f k new fs old same is e = ap (map f) is ∙ past_same f k fs same ∙ e

pub returns-clause-same : goal.returns-clause-same
returns-clause-same g c = record {
  reads = ap reverse (passed_map (λ (f : Fed). f.reads) c.in-Some.key c.pass_all.new.sources c.fill_all.new.sources c.args.sources.now (λ h. refl) c.pass_all.ensures c.in_ok-fill_all.ensures.reads);
  damaged = ap places_of c.pass_all.ensures ∙ ap told_places (past_same (λ (f : Fed). f.damaged) c.in-Some.key c.fill_all.new.sources (λ h. refl)) ∙ c.in_ok-fill_all.ensures.places;
}

pub returns-clause-fault : goal.returns-clause-fault
returns-clause-fault g c =
    no_fault (places_of c.args.sources.now) (faults_of (reverse (counts_of c.args.sources.now))) (faults_of (reverse (counts_of c.pass_all.new.sources))) (Some (c.in-Some.key, c.in_ok-row.row))
    (kept c.pass_all.new.sources c.args.sources.now (ap faults_of (ap counts_of c.pass_all.ensures ∙ past_same (λ (f : Fed). f.count) c.in-Some.key c.fill_all.new.sources (λ h. refl)) ∙ c.in_ok-fill_all.ensures.cause.kept))

pub returns-clause-steps : goal.returns-clause-steps
returns-clause-steps g c =
    taken_steps c.in-Some.key c.args.sources.now c.fill_all.new.sources c.pass_all.new.sources c.args.steps.now c.fill_all.new.steps c.in_ok-fill_all.ensures.settled (sym c.in-Some.ensures) c.in_ok-fill_all.ensures.layers c.pass_all.ensures c.in_ok-fill_all.ensures.steps

pub returns-in_err-fill_all-clause-steps : goal.returns-in_err-fill_all-clause-steps
returns-in_err-fill_all-clause-steps g c =
    let p = err_from_is_err_and c.from_residual.result c.from_residual.ensures.1 in
    rw (p.1) (read_steps c.args.sources.now c.fill_all.new.sources c.args.steps.now c.fill_all.new.steps c.in_err-fill_all.ensures.layers c.in_err-fill_all.ensures.steps)

pub returns-in_default-clause-steps : goal.returns-in_default-clause-steps
returns-in_default-clause-steps g c = read_steps c.args.sources.now c.fill_all.new.sources c.args.steps.now c.fill_all.new.steps c.in_ok-fill_all.ensures.layers c.in_ok-fill_all.ensures.steps

pub returns-in_err-row-clause-steps : goal.returns-in_err-row-clause-steps
returns-in_err-row-clause-steps g c =
    let p = err_from_is_err_and c.from_residual-in_err-row.result c.from_residual-in_err-row.ensures.1 in
    rw (p.1) (read_steps c.args.sources.now c.fill_all.new.sources c.args.steps.now c.fill_all.new.steps c.in_ok-fill_all.ensures.layers c.in_ok-fill_all.ensures.steps)

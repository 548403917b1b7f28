use Rattle.std.proofs.Common.{sym, ap, ◌∙◌}
use Rattle.td_verdict.specs.declared.source.Source.TheVariants.{Other}
use Rattle.td_verdict.specs.Queries.{schema_from}
use Rattle.td_bind.proofs.Planned.{answer_verdict, answer_plan}
use Rattle.td_bind.proofs.query.answer_of.Goals as goal

pub returns-in_ok-answer-in-Some-find_source-clause-verdict : goal.returns-in_ok-answer-in-Some-find_source-clause-verdict
returns-in_ok-answer-in-Some-find_source-clause-verdict c =
    let found = c.in-Some-find_source in
    answer_verdict c.args.query.now found.source found.schema.now c.args.catalog.now.catalog (sym c.source_cause.ensures ∙ c.in_default.is) found.ensures.source found.ensures.schema
    c.in_ok-answer-in-Some-find_source.answer c.in_ok-answer-in-Some-find_source.ensures

pub returns-in_ok-answer-in-Some-find_source-clause-plan : goal.returns-in_ok-answer-in-Some-find_source-clause-plan
returns-in_ok-answer-in-Some-find_source-clause-plan c =
    let found = c.in-Some-find_source in
    answer_plan c.args.query.now found.source found.schema.now c.args.catalog.now.catalog (sym c.source_cause.ensures ∙ c.in_default.is) found.ensures.source found.ensures.schema
    c.in_ok-answer-in-Some-find_source.answer c.in_ok-answer-in-Some-find_source.ensures

pub returns-in_ok-answer-in-None-clause-verdict : goal.returns-in_ok-answer-in-None-clause-verdict
returns-in_ok-answer-in-None-clause-verdict c =
    let catalog = c.args.catalog.now.catalog in
    let other = sym c.in-None.ensures.other in
    answer_verdict c.args.query.now Other c.no_schema-schema.result catalog (sym c.source_cause.ensures ∙ c.in_default.is) other (c.no_schema-schema.ensures ∙ ap (λ s. schema_from s catalog) other)
    c.in_ok-answer-in-None.answer c.in_ok-answer-in-None.ensures

pub returns-in_ok-answer-in-None-clause-plan : goal.returns-in_ok-answer-in-None-clause-plan
returns-in_ok-answer-in-None-clause-plan c =
    let catalog = c.args.catalog.now.catalog in
    let other = sym c.in-None.ensures.other in
    answer_plan c.args.query.now Other c.no_schema-schema.result catalog (sym c.source_cause.ensures ∙ c.in_default.is) other (c.no_schema-schema.ensures ∙ ap (λ s. schema_from s catalog) other)
    c.in_ok-answer-in-None.answer c.in_ok-answer-in-None.ensures

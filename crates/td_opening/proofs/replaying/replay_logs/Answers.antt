use Rattle.std.proofs.Common.{◌≤◌, inl, refl, sym, subst, ◌∙◌, arith}
use Rattle.std.proofs.lemmas.Bool.{true≢false}
use Rattle.td_verdict.specs.Valid.{IsValid}
use Rattle.td_limits.specs.declared.limits.TheConstants.{LAST_VERSION}
use Rattle.td_model.specs.State.{State}
use Rattle.td_opening.specs.Opening.{LogRefuses, LogsRefuse}
use Rattle.td_opening.proofs.HeadFacts.{head_log, head_numbers, log_number}
use Rattle.td_opening.proofs.BothLogs.{first_refuses, no_gate_refuses, open_refuses, second_refuses, handed_on, first_version, first_heads, first_streams, first_going, first_below, shut, first_made}
use Rattle.td_opening.proofs.replaying.replay_logs.Goals as goal

pub replay_log-requires-clause-version : goal.replay_log-requires-clause-version
replay_log-requires-clause-version c =
    subst (λ (s : State). s.version ≤ LAST_VERSION) (sym c.requires.state) (head_numbers c.args.head.now c.requires.fits).version

pub returns-in_err-gate-clause-err : goal.returns-in_err-gate-clause-err
returns-in_err-gate-clause-err c =
    let h = c.args.head.now in
    let logs = c.args.logs.now in
    let cause = c.in_err-gate.field-0.0 in
    handed_on c.from_residual.result cause (LogsRefuse h logs) c.from_residual.ensures.1
    (first_refuses h logs cause
    (subst (λ (s : State). LogRefuses h.first_log logs.first s cause) c.requires.state c.in_err-gate.ensures.err))

pub overflow_add-broken : goal.overflow_add-broken
overflow_add-broken c = let n = (log_number c.args.head.now c.requires.fits).1 in omega (arith, n)

pub returns-then-has_no_gate-clause-err : goal.returns-then-has_no_gate-clause-err
returns-then-has_no_gate-clause-err c =
    let h = c.args.head.now in
    let logs = c.args.logs.now in
    let m = first_made h logs c.in_ok-gate.gate c.args.tables.now.state c.args.levels.now
    c.replay_log.new.tables.state c.replay_log.new.levels c.requires.state c.requires.levels c.in_ok-gate.ensures.ok in
    no_gate_refuses h logs c.in_ok-gate.gate c.replay_log.new.tables.state c.replay_log.new.levels m
    (c.has_no_gate.ensures.none c.if-has_no_gate.true)

pub first_log-log-requires : goal.first_log-log-requires
first_log-log-requires c = (head_numbers c.args.head.now c.requires.fits).version

pub returns-then-not-has_open_gate-clause-ok : goal.returns-then-not-has_open_gate-clause-ok
returns-then-not-has_open_gate-clause-ok c =
    let h = c.args.head.now in
    let logs = c.args.logs.now in
    let m = first_made h logs c.in_ok-gate.gate c.args.tables.now.state c.args.levels.now
    c.replay_log.new.tables.state c.replay_log.new.levels c.requires.state c.requires.levels c.in_ok-gate.ensures.ok in
    record {
      valid = subst (λ (s : State). IsValid s.catalog) c.requires.state c.is_sound.ensures.catalog;
      between = c.replay_log.new.tables.state;
      frozen = c.replay_log.new.levels;
      gate = c.in_ok-gate.gate;
      first = m;
      which = inl (record {
        none = shut logs.second (λ p. true≢false (sym (c.has_no_gate.ensures.some p) ∙ c.if-has_no_gate.false))
            (λ p. true≢false (sym (c.has_open_gate.ensures.closed p) ∙ c.if-not-has_open_gate.true));
        state = refl;
        levels = refl;
        unsealed = refl;
        log = c.first_log-log.ensures;
      });
    }

pub returns-then-version-head-clause-err : goal.returns-then-version-head-clause-err
returns-then-version-head-clause-err c =
    let h = c.args.head.now in
    let logs = c.args.logs.now in
    let m = first_made h logs c.in_ok-gate.gate c.args.tables.now.state c.args.levels.now
    c.replay_log.new.tables.state c.replay_log.new.levels c.requires.state c.requires.levels c.in_ok-gate.ensures.ok in
    open_refuses h logs c.in_ok-gate.gate c.replay_log.new.tables.state c.replay_log.new.levels m
    (sym c.version.ensures ∙ c.if-version-head.true) (c.has_open_gate.ensures.open c.if-not-has_open_gate.false)

pub replay_second-requires-clause-version : goal.replay_second-requires-clause-version
replay_second-requires-clause-version c =
    let h = c.args.head.now in
    let logs = c.args.logs.now in
    let m = first_made h logs c.in_ok-gate.gate c.args.tables.now.state c.args.levels.now
    c.replay_log.new.tables.state c.replay_log.new.levels c.requires.state c.requires.levels c.in_ok-gate.ensures.ok in
    first_version h logs c.in_ok-gate.gate c.replay_log.new.tables.state c.replay_log.new.levels m c.requires.fits

pub replay_second-requires-clause-least : goal.replay_second-requires-clause-least
replay_second-requires-clause-least c = (head_log c.args.head.now c.requires.fits).0

pub replay_second-requires-clause-log : goal.replay_second-requires-clause-log
replay_second-requires-clause-log c =
    let h = c.args.head.now in
    let logs = c.args.logs.now in
    let m = first_made h logs c.in_ok-gate.gate c.args.tables.now.state c.args.levels.now
    c.replay_log.new.tables.state c.replay_log.new.levels c.requires.state c.requires.levels c.in_ok-gate.ensures.ok in
    first_below h logs c.in_ok-gate.gate c.replay_log.new.tables.state c.replay_log.new.levels m c.requires.fits
    (λ e. c.if-version-head.false (c.version.ensures ∙ e))

pub replay_second-requires-clause-heads : goal.replay_second-requires-clause-heads
replay_second-requires-clause-heads c =
    let h = c.args.head.now in
    let logs = c.args.logs.now in
    let m = first_made h logs c.in_ok-gate.gate c.args.tables.now.state c.args.levels.now
    c.replay_log.new.tables.state c.replay_log.new.levels c.requires.state c.requires.levels c.in_ok-gate.ensures.ok in
    first_heads h logs c.in_ok-gate.gate c.replay_log.new.tables.state c.replay_log.new.levels m
    (subst (λ (s : State). IsValid s.catalog) c.requires.state c.is_sound.ensures.catalog) c.requires.fits

pub replay_second-requires-clause-streams : goal.replay_second-requires-clause-streams
replay_second-requires-clause-streams c =
    let h = c.args.head.now in
    let logs = c.args.logs.now in
    let m = first_made h logs c.in_ok-gate.gate c.args.tables.now.state c.args.levels.now
    c.replay_log.new.tables.state c.replay_log.new.levels c.requires.state c.requires.levels c.in_ok-gate.ensures.ok in
    first_streams h logs c.in_ok-gate.gate c.replay_log.new.tables.state c.replay_log.new.levels m
    (subst (λ (s : State). IsValid s.catalog) c.requires.state c.is_sound.ensures.catalog)

pub replay_second-requires-clause-going : goal.replay_second-requires-clause-going
replay_second-requires-clause-going c =
    let h = c.args.head.now in
    let logs = c.args.logs.now in
    let m = first_made h logs c.in_ok-gate.gate c.args.tables.now.state c.args.levels.now
    c.replay_log.new.tables.state c.replay_log.new.levels c.requires.state c.requires.levels c.in_ok-gate.ensures.ok in
    first_going h logs c.in_ok-gate.gate c.replay_log.new.tables.state c.replay_log.new.levels m

pub returns-in_err-replayed-clause-err : goal.returns-in_err-replayed-clause-err
returns-in_err-replayed-clause-err c =
    let h = c.args.head.now in
    let logs = c.args.logs.now in
    let cause = c.in_err-replayed.field-0.0 in
    let m = first_made h logs c.in_ok-gate.gate c.args.tables.now.state c.args.levels.now
    c.replay_log.new.tables.state c.replay_log.new.levels c.requires.state c.requires.levels c.in_ok-gate.ensures.ok in
    handed_on c.from_residual-in_err-replayed.result cause (LogsRefuse h logs) c.from_residual-in_err-replayed.ensures.1
    (second_refuses h logs c.in_ok-gate.gate c.replay_log.new.tables.state c.replay_log.new.levels cause m
    (λ e. c.if-version-head.false (c.version.ensures ∙ e)) c.in_err-replayed.ensures.err)

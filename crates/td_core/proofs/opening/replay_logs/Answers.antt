use Rattle.std.proofs.Common.{◌≡◌, ◌≤◌, sym, subst, ◌∙◌, arith}
use Rattle.std.proofs.lemmas.Bool.{true≢false}
use Rattle.td_model.specs.State.{State, empty_state}
use Rattle.td_core.specs.Opening.{HasOpenGateFirst, MakesOf, LogRefuses, LogsRefuse}
use Rattle.td_core.proofs.Sums.{none_at_most}
use Rattle.td_core.proofs.Items.{made_version}
use Rattle.td_core.proofs.BothLogs.{first_refuses, open_refuses, second_refuses, handed_on}
use Rattle.td_limits.specs.declared.limits.TheConstants.{LAST_VERSION}
use Rattle.td_core.proofs.opening.replay_logs.Goals as goal
use Rattle.td_core.proofs.opening.replay_logs.Goals.{else-older-eq0-via-then-older-eq0+else-has_open_gate, else-older-eq0-via-else-older-eq0}

pub returns-in_err-first_gate-clause-err : goal.returns-in_err-first_gate-clause-err
returns-in_err-first_gate-clause-err c =
    let at_first : LogRefuses 1 c.args.logs.now.first empty_state c.in_err-first_gate.field-0.0 = subst
    (λ (s : State). LogRefuses 1 c.args.logs.now.first s c.in_err-first_gate.field-0.0) c.requires
    c.in_err-first_gate.ensures.err in
    handed_on c.from_residual.result c.in_err-first_gate.field-0.0 (LogsRefuse c.args.logs.now)
    c.from_residual.ensures.1 (first_refuses c.args.logs.now c.in_err-first_gate.field-0.0 at_first)

pub returns-then-has_open_gate-clause-err : goal.returns-then-has_open_gate-clause-err
returns-then-has_open_gate-clause-err c =
    let s = c.replay_log.new.tables.state in
    let made : MakesOf c.args.logs.now.first c.in_ok-first_gate.first_gate empty_state s = subst
    (λ (b : State). MakesOf c.args.logs.now.first c.in_ok-first_gate.first_gate b s) c.requires
    c.in_ok-first_gate.ensures.ok in
    open_refuses c.args.logs.now c.in_ok-first_gate.first_gate s made
    (sym c.version-older.ensures ∙ c.if-older-eq0.true) (c.has_open_gate.ensures.open c.if-has_open_gate.true)

pub replay_log-requires-2 : goal.replay_log-requires-2
replay_log-requires-2 c =
    let s = c.replay_log.new.tables.state in
    let made : MakesOf c.args.logs.now.first c.in_ok-first_gate.first_gate empty_state s = subst
    (λ (b : State). MakesOf c.args.logs.now.first c.in_ok-first_gate.first_gate b s) c.requires
    c.in_ok-first_gate.ensures.ok in
    record {
      version = made_version c.args.logs.now.first c.in_ok-first_gate.first_gate empty_state s made (none_at_most
          LAST_VERSION);
    }

pub returns-in_err-second_gate-clause-err : goal.returns-in_err-second_gate-clause-err
returns-in_err-second_gate-clause-err c =
    let s = c.replay_log.new.tables.state in
    let made : MakesOf c.args.logs.now.first c.in_ok-first_gate.first_gate empty_state s = subst
    (λ (b : State). MakesOf c.args.logs.now.first c.in_ok-first_gate.first_gate b s) c.requires
    c.in_ok-first_gate.ensures.ok in
    let shut : s.version ≡ 0 → HasOpenGateFirst c.args.logs.now.second → ⊥ =
    elim c.else-older-eq0.branch [
      | else-older-eq0-via-then-older-eq0+else-has_open_gate w ↦ λ none open_gate. true≢false
          (sym (w.if-has_open_gate.ensures.closed open_gate))
      | else-older-eq0-via-else-older-eq0 w ↦ λ none open_gate. w.if-older-eq0.false (c.version-older.ensures ∙ none)
    ] in
    handed_on c.from_residual-in_err-second_gate.result c.in_err-second_gate.field-0.0 (LogsRefuse c.args.logs.now)
    c.from_residual-in_err-second_gate.ensures.1
    (second_refuses c.args.logs.now c.in_ok-first_gate.first_gate s c.in_err-second_gate.field-0.0 made shut
    c.in_err-second_gate.ensures.err)

pub active_of-log-requires : goal.active_of-log-requires
active_of-log-requires c =
    let s = c.replay_log.new.tables.state in
    let made : MakesOf c.args.logs.now.first c.in_ok-first_gate.first_gate empty_state s = subst
    (λ (b : State). MakesOf c.args.logs.now.first c.in_ok-first_gate.first_gate b s) c.requires
    c.in_ok-first_gate.ensures.ok in
    let limit : s.version ≤ LAST_VERSION = made_version c.args.logs.now.first c.in_ok-first_gate.first_gate
    empty_state s made (none_at_most LAST_VERSION) in
    omega (arith, c.version-older.ensures)

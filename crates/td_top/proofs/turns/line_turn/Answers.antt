use Rattle.std.proofs.Common.{◌∙◌, sym, refl, subst}
use Rattle.td_parse.specs.Statements.{IsAnswer}
use Rattle.td_top.proofs.turns.line_turn.Goals as goal

pub turn-reply-requires-clause-parsed : goal.turn-reply-requires-clause-parsed
turn-reply-requires-clause-parsed g c κs within = subst (λ x. IsAnswer x c.in_ok-stmt.stmt) (c.as_slice.ensures ∙ sym c.as_slice-2.ensures) c.in_ok-stmt.ensures

pub returns-clause-turn : goal.returns-clause-turn
returns-clause-turn g c =
    let line = c.args.line.now in
    record {
      asked = record { phase = line.phase; session = line.session; ordinal = line.ordinal; stmt = c.in_ok-stmt.stmt };
      asks = record { phase = refl; session = refl; ordinal = refl; stmt = subst (λ x. IsAnswer x c.in_ok-stmt.stmt) c.as_slice.ensures c.in_ok-stmt.ensures };
      turn = c.turn-reply.ensures;
    }

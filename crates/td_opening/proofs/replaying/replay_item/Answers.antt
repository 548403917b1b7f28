use Rattle.std.proofs.Common.{◌≡◌, ℕ, ◌+◌, ◌≤◌, List, sym, ap, ◌∙◌, arith, rules}
use Rattle.td_wal.proofs.WritingLaws.{item_length}
use Rattle.td_wal.specs.declared.item.LogBody.TheVariants as bodies
use Rattle.td_opening.specs.Opening.{ItemRefuses}
use Rattle.td_opening.proofs.Items.{text_gate, text_refuses, text_takes}
use Rattle.td_opening.proofs.replaying.replay_item.Goals as goal

pub overflow_add-at : goal.overflow_add-at
overflow_add-at c = omega (arith, c.requires.size, item_length c.args.item.now)

pub overflow_add-at-2 : goal.overflow_add-at-2
overflow_add-at-2 c = omega (arith, c.requires.size, item_length c.args.item.now)

pub overflow_add-result : goal.overflow_add-result
overflow_add-result c = omega
    (arith, c.requires.size, text_gate c.args.gate c.in-Text.text c.args.item.now c.in-Text.is, c.len.ensures)

pub returns-in_ok-replay_text-in-Text-clause-next : goal.returns-in_ok-replay_text-in-Text-clause-next
returns-in_ok-replay_text-in-Text-clause-next c = ap (λ n. (c.args.gate + 30) + n) c.len.ensures ∙ sym
    (text_gate c.args.gate c.in-Text.text c.args.item.now c.in-Text.is)

pub returns-in_ok-replay_text-in-Text-clause-ok : goal.returns-in_ok-replay_text-in-Text-clause-ok
returns-in_ok-replay_text-in-Text-clause-ok c =
    let item = c.args.item.now in
    let state = c.args.tables.now.state in
    let is : item.body ≡ bodies.Text c.as_slice.result.now = c.in-Text.is ∙ ap (λ (t : List ℕ). bodies.Text t)
    (sym c.as_slice.ensures) in
    let late : state.moment ≤ item.moment = omega (arith, c.moment.ensures, c.if-item-moment.false) in
    text_takes c.as_slice.result.now item state c.args.levels.now c.replay_text.new.tables.state
    c.replay_text.new.levels is c.in_ok-replay_text-in-Text.ensures.ok c.requires.version late

pub returns-in_err-replay_text-in-Text-clause-err : goal.returns-in_err-replay_text-in-Text-clause-err
returns-in_err-replay_text-in-Text-clause-err c =
    let item = c.args.item.now in
    let state = c.args.tables.now.state in
    let is : item.body ≡ bodies.Text c.as_slice.result.now = c.in-Text.is ∙ ap (λ (t : List ℕ). bodies.Text t)
    (sym c.as_slice.ensures) in
    let late : state.moment ≤ item.moment = omega (arith, c.moment.ensures, c.if-item-moment.false) in
    let refused : ItemRefuses c.args.log c.args.gate item state c.args.levels.now.active
    c.in_err-replay_text-in-Text.field-0.0 = text_refuses c.args.log c.args.gate c.as_slice.result.now item state
    c.args.levels.now.active c.in_err-replay_text-in-Text.field-0.0 is c.requires.version late
    c.in_err-replay_text-in-Text.ensures.err in
    search rules

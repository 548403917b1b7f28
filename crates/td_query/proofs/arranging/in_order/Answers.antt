use Rattle.std.proofs.Common.{reverse, sym, ap, ◌∙◌}
use Rattle.td_verdict.specs.Arranged.{arranged, by_start}
use Rattle.td_query.specs.Shown.{all_shown}
use Rattle.td_query.proofs.Starts.{reverse-map}
use Rattle.td_query.specs.declared.arranging.Shown.{Shown}
use Rattle.td_query.proofs.arranging.in_order.Goals as goal

pub returns : goal.returns
returns c =
    ap all_shown c.reverse.ensures.items
    ∙ sym (reverse-map (λ (s : Shown). s.row.now) c.in_ok-all-in-Desc.all.items)
    ∙ ap reverse (c.in_ok-all-in-Desc.ensures ∙ ap (λ l. by_start (all_shown l)) c.as_slice-in-Desc.ensures.value)
    ∙ ap (λ o. arranged o (all_shown c.args.rows.items)) (sym c.in-Desc.is)

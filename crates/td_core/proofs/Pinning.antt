-- A query that sees the state of a core sees the state at its version of the history.
use Rattle.std.proofs.Common.{◌≡◌, ℕ, List, sym, ap, subst, ◌∙◌}
use Rattle.td_model.specs.declared.history.Entry.{Entry}
use Rattle.td_model.specs.declared.language.Query.{Query}
use Rattle.td_model.specs.State.{State, after, at}
use Rattle.td_core.specs.CoreState.{CoreState}
use Rattle.td_core.specs.Covers.{FactsAre, RowsAre}
use Rattle.td_core.specs.Submits.{IsComposed}
use Rattle.td_core.specs.Pins.{PinnedQuery, Sees, Holds}
use Rattle.td_core.proofs.Histories.{at_front}
use Rattle.td_core.proofs.Points.{whole}

pub holds_from : (c : CoreState) (p : PinnedQuery) (q : Query) (b : State) (h : List Entry) (i : ℕ) → IsComposed c → FactsAre c b h → RowsAre c b h → Sees p q c.state i → Holds p q b h p.prefix i
holds_from c p q b h i layers facts_are rows_are sees =
    let was : c.state ≡ after b h = whole c b h layers facts_are rows_are in
    let version : p.prefix ≡ (after b h).version = sees.prefix ∙ ap (λ (s : State). s.version) was in
    let here : at b h p.prefix ≡ c.state = ap (at b h) version ∙ at_front b h ∙ sym was in
    subst (λ (s : State). Sees p q s i) (sym here) sees

use Rattle.std.proofs.Common.{ℕ, ◌+◌, ◌≤◌, ◌<◌, [], ap, sym, subst, ◌∙◌}
use Rattle.td_manifest.specs.Heads.{head_body}
use Rattle.td_manifest.specs.States.{state_of_head}
use Rattle.td_state.specs.Heads.{FitsHead}
use Rattle.td_state.specs.Held.{headed}
use Rattle.td_state.proofs.ToHead.{head_fit, latest_long, state_same, tables_long}
use Rattle.td_state.proofs.tables.Tables.head.Goals as goal

pub stable_heads-requires : goal.stable_heads-requires
stable_heads-requires c = latest_long c.self.inside.catalog.catalog c.self.inside.contents.kept.greatest c.self.invariant.latest

pub table_heads-requires : goal.table_heads-requires
table_heads-requires c = tables_long c.self.inside.catalog.catalog c.self.inside.contents.kept.greatest c.self.invariant.latest

pub returns-clause-state : goal.returns-clause-state
returns-clause-state c =
    (λ i. state_of_head (record {
      version = c.self.inside.version;
      moment = c.self.inside.moment;
      first_log = c.args.first_log;
      edge = c.edge.ensures i;
      stables = c.in_ok-stables.ensures i;
      tables = c.in_ok-tables.ensures i;
      sets = c.new.ensures i;
      next_stream = c.next_stream.ensures i;
      streams = c.new-2.ensures i;
    }) [])
    ∙ state_same c.self.inside.version c.self.inside.moment c.args.first_log c.self.inside.catalog.catalog c.self.inside.contents.kept c.self.invariant
    ∙ ap (λ h. headed h.state) c.self.view_is

pub returns-clause-fits : goal.returns-clause-fits
returns-clause-fits c =
    λ none fit some le above.
    (λ i. head_body.fits (record {
      version = c.self.inside.version;
      moment = c.self.inside.moment;
      first_log = c.args.first_log;
      edge = c.edge.ensures i;
      stables = c.in_ok-stables.ensures i;
      tables = c.in_ok-tables.ensures i;
      sets = c.new.ensures i;
      next_stream = c.next_stream.ensures i;
      streams = c.new-2.ensures i;
    }))
    ∙ head_fit c.self.inside.version c.self.inside.moment c.args.first_log c.self.inside.catalog.catalog c.self.inside.contents.kept c.self.invariant
    (ap (λ h. h.state.halt) c.self.view_is ∙ none) (subst FitsHead (sym (ap (λ h. h.state.catalog) c.self.view_is)) fit) some
    (subst (λ (v : ℕ). c.args.first_log ≤ v + 1) (sym (ap (λ h. h.state.version) c.self.view_is)) le)
    (subst (λ (v : ℕ). 0 < v) (sym (ap (λ h. h.state.version) c.self.view_is)) above)

use Rattle.std.proofs.Common.{ap, ◌∙◌}
use Rattle.td_commit.specs.Clipped.{clipped}
use Rattle.td_commit.proofs.tables.cuts_in.Goals as goal

pub returns : goal.returns
returns c = record {
  joined = c.in_ok-joined.joined;
  join = c.in_ok-joined.ensures;
  cuts_are = c.in_ok-cuts.ensures ∙ ap (clipped c.args.range) c.as_slice.ensures;
}

use Rattle.td_levels.proofs.Commits.{commit_keeps}
use Rattle.td_levels.proofs.laws.commits_keep_rows.Goals as goal

pub returns : goal.returns
returns c = commit_keeps

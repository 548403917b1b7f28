use Rattle.std.proofs.Common.{◌≡◌, take, []}
use Rattle.td_verdict.specs.Arranged.{put_by_starts}
use Rattle.td_query.specs.Shown.{all_shown}
use Rattle.td_query.proofs.Starts.{rows_of, ArePlaced}
use Rattle.td_query.proofs.arranging.by_start.Given as goal

-- the rows so far are those before the place, by their starts
abbrev pub invariant-rows : goal.invariant-rows
invariant-rows l = (rows_of l.sorted.entries ≡ put_by_starts [] (all_shown (take l.place l.rows))) × ArePlaced l.place l.sorted.entries

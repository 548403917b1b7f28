use Rattle.std.proofs.Common.{◌+◌, ◌-◌, length, map, All}
use Rattle.td_limits.specs.declared.limits.TheConstants.{LAST_TIMESTAMP}
use Rattle.td_window.specs.Spans.{window_of, IsInside}
use Rattle.td_window.proofs.OneInterval.{Loop}
use Rattle.td_window.proofs.intervals.interval.Given as goal

abbrev pub invariant-windows : goal.invariant-windows
invariant-windows l = record {
  loop : Loop l.ts l.len l.offset l.slide (map window_of l.spans.items) l.end l.first l.past;
  spans : All (IsInside (length l.ts)) l.spans.items;
}

abbrev pub decreases-windows : goal.decreases-windows
decreases-windows l = LAST_TIMESTAMP + l.len + 1 - l.end

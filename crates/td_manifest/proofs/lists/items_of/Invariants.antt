use Rattle.std.proofs.Common.{◌≡◌, [], ◌-◌}
use Rattle.td_codec.specs.Lists.{items_read}
use Rattle.td_codec.proofs.Loop.{with_front}
use Rattle.td_manifest.proofs.lists.items_of.Given as goal

abbrev pub invariant-loop : goal.invariant-loop
invariant-loop g l =
    let items = g.R.ItemReader.items l.fn.reader in
    ((with_front l.items (items_read items l.items (l.count - l.counter) l.rest) ≡ items_read items [] l.count l.bytes) × g.R.ItemReader.knows l.reader l.items)
    × (g.R.ItemReader.items l.reader ≡ items)

use Rattle.td_manifest.proofs.PlaceLaws.{stream_stands}
use Rattle.td_manifest.proofs.laws.a_stream_stands_at_its_place.Goals as goal

pub returns : goal.returns
returns c = stream_stands

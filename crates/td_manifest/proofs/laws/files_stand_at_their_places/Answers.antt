use Rattle.td_manifest.proofs.PlaceLaws.{files_stand}
use Rattle.td_manifest.proofs.laws.files_stand_at_their_places.Goals as goal

pub returns : goal.returns
returns c = files_stand

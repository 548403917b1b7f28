-- The parts of a head as the reader holds them.
use Rattle.td_manifest.specs.declared.reading.HeadStart.{HeadStart}
use Rattle.td_manifest.specs.declared.reading.HeadObjects.{HeadObjects}
use Rattle.td_manifest.specs.Heads.{Start, Objects}

abbrev pub start_parts : HeadStart → Start
start_parts s = (s.version, (s.moment, (s.first_log, s.edge)))

abbrev pub object_parts : HeadObjects → Objects
object_parts o = ((o.stables, o.tables), (o.sets, (o.next_stream, o.streams)))

use Rattle.td_sttfile.proofs.Narrow.{scan_narrowed, fault_among}
use Rattle.td_sttfile.proofs.laws.scans_of_a_file.Goals as goal

pub returns : goal.returns
returns c = record {
  part = λ table kinds from lo hi to all h g none. scan_narrowed table kinds from lo hi to h g all none;
  faults = λ want all place e. fault_among want all place e;
}

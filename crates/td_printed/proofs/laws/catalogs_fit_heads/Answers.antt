use Rattle.td_printed.proofs.HeadCatalogs.{entry_fits}
use Rattle.td_printed.proofs.laws.catalogs_fit_heads.Goals as goal

pub returns-clause-entry : goal.returns-clause-entry
returns-clause-entry c = entry_fits

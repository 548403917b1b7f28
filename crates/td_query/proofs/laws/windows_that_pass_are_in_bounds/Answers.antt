use Rattle.std.proofs.Common.{◌≡◌, Bool, false, refl}
use Rattle.td_model.specs.declared.catalog.Schema.{Schema}
use Rattle.td_model.specs.declared.language.Query.{Query}
use Rattle.td_model.specs.declared.language.WindowDef.{WindowDef}
use Rattle.td_model.specs.declared.language.WindowDef.TheVariants as window
use Rattle.td_verdict.specs.Refusals.{is_bad_window, has_bad_bounds}
use Rattle.td_query.proofs.laws.windows_that_pass_are_in_bounds.Goals as goal

in_bounds : (of_table : Bool) (s : Schema) (q : Query) (w : WindowDef) → is_bad_window of_table s q w ≡ false → has_bad_bounds w ≡ false
in_bounds of_table s q window.Whole e = refl
in_bounds of_table s q (window.Interval len offset slide) e = e
in_bounds of_table s q (window.Session column tol) e = refl
in_bounds of_table s q (window.State column) e = refl

pub returns : goal.returns
returns c = in_bounds

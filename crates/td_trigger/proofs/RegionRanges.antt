-- Each region begins at or before its end.
use Rattle.std.proofs.Common.{◌+◌, leb, ◌&&◌, List, map, filter, All, arith}
use Rattle.std.proofs.lemmas.List.Elements.{recursion_from_All}
use Rattle.std.specs.List.{AllByRecursion}
use Rattle.td_model.specs.declared.language.WindowDef.{WindowDef}
use Rattle.td_model.specs.declared.language.WindowDef.TheVariants.{Whole, Interval, Session, State}
use Rattle.td_trigger.specs.declared.range.Range.{Range}
use Rattle.td_trigger.specs.Ranges.{IsRange}
use Rattle.td_trigger.specs.Regions.{IsGrouped, widened, join_gap, region}
use Rattle.td_trigger.proofs.Lists.{each_weaker, each_map}
use Rattle.td_trigger.proofs.Covering.{regions_are_ranges}
use Rattle.td_trigger.proofs.CutRanges.{taking_in_reaches}
use Rattle.td_trigger.proofs.IntervalNumbers.{widened_is_range}
use Rattle.td_trigger.proofs.StateRanges.{is_range}

widened_range : (def : WindowDef) → IsGrouped def → (old : List Range) (r : Range) → IsRange r → IsRange (widened def old r)
widened_range Whole g old r h = absurd g
widened_range (Interval len offset slide) g old r h = widened_is_range len offset slide r g.0 g.1 h
widened_range (Session column tol) g old r h =
    let k = taking_in_reaches r (filter (λ (w : Range). leb r.lo (w.hi + tol) && leb w.lo (r.hi + tol)) old) in
    let a = k.0 in
    let b = k.1 in
    omega arith
widened_range (State column) g old r h = is_range r old h

pub region_ranges : (touched old : List Range) (def : WindowDef) → IsGrouped def → All IsRange touched → AllByRecursion IsRange (region touched old def)
region_ranges touched old def g h = regions_are_ranges (join_gap def) (map (widened def old) touched) (each_map (widened def old) IsRange touched (each_weaker IsRange (λ r. IsRange (widened def old r)) (widened_range def g old) touched (recursion_from_All IsRange touched h)))

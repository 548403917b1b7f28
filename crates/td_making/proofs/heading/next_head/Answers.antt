use Rattle.std.proofs.Common.{◌≡◌, ◌<◌, ◌^◌, List, [], true, map, length, ap, subst, sym, ◌∙◌}
use Rattle.td_codec.specs.Lists.{all_fit}
use Rattle.td_manifest.specs.declared.head.HeadSet.{HeadSet}
use Rattle.td_manifest.specs.Files.{set_items}
use Rattle.td_manifest.specs.Heads.{IsHead}
use Rattle.td_levels.specs.Ranges.{sets_from, with_files}
use Rattle.td_making.specs.Making.{head_set, with_sets}
use Rattle.td_making.proofs.CommitHeads.{by_range, fits_with}
use Rattle.td_making.proofs.NextSets.{files_known}
use Rattle.td_making.proofs.heading.next_head.Goals as goal

pub bytes_with-requires-clause-fits : goal.bytes_with-requires-clause-fits
bytes_with-requires-clause-fits c =
    fits_with c.args.head.now c.in_ok-named.named c.requires.fits c.requires.version
    (subst (λ (ss : List HeadSet). length ss < 2 ^ 32) c.as_slice-3.ensures (c.in_ok-sets_fit.ensures.count c.if-not-branch.false))
    (sym (ap (all_fit set_items []) c.as_slice-3.ensures) ∙ c.in_ok-sets_fit.ensures.fit c.if-not-branch.false)

pub returns-clause-ok : goal.returns-clause-ok
returns-clause-ok c =
    let named : c.in_ok-named.named ≡ map head_set c.in_ok-sets.sets.items = c.in_ok-named.ensures ∙ ap (map head_set) c.as_slice-2.ensures.value in
    let sets = c.in_ok-sets.ensures ∙ ap (λ ranges. sets_from c.args.head.now.edge (with_files ranges c.args.numbers.now c.args.levels.now.sets)) c.as_slice.ensures in
    let fit : all_fit set_items [] (map head_set c.in_ok-sets.sets.items) ≡ true =
    sym (ap (all_fit set_items []) (c.as_slice-3.ensures ∙ named)) ∙ c.in_ok-sets_fit.ensures.fit c.if-not-branch.false in
    record {
      sets_are = sets;
      by_range = by_range [] c.in_ok-sets.sets.items fit;
      head = subst (λ (ss : List HeadSet). IsHead c.in_ok-bytes.bytes (with_sets ss c.args.head.now)) named c.in_ok-bytes.ensures.ok;
      files = files_known c.args.levels.now.sets c.args.head.now.edge c.args.frozen.now.ranges c.args.numbers.now c.in_ok-sets.sets.items sets;
    }

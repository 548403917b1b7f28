use Rattle.std.proofs.Common.{◌≡◌, ℕ, [], ◌+◌, length, Ok, refl, ap, sym, subst, ◌∙◌}
use Rattle.std.proofs.lemmas.Result.{err_from_is_err_and}
use Rattle.std.proofs.lemmas.List.{length_push}
use Rattle.td_codec.specs.Fields.{Fails}
use Rattle.td_codec.specs.Lists.{items_read}
use Rattle.td_codec.proofs.Loop.{ends_at, is_done}
use Rattle.td_block.proofs.Loops.{goes_on_with}
use Rattle.td_datafile.specs.declared.entries.Behind.{Behind}
use Rattle.td_datafile.specs.Entries.{behind, entry_behind, entry_items}
use Rattle.td_datafile.proofs.EntryLaws.{behind_more}
use Rattle.td_datafile.proofs.entries.entries_of.Goals as goal

pub returns-in_err-entry-clause-read : goal.returns-in_err-entry-clause-read
returns-in_err-entry-clause-read c =
    let p = err_from_is_err_and c.from_residual.result c.from_residual.ensures.1 in
    let items = entry_items c.args.range c.args.index in
    let fails = subst (λ (b : Behind). Fails c.in_err-entry.field-0.0 ((entry_behind c.args.range c.args.index b).read c.loop.rest.now)) c.loop.invariant.behind_is c.in_err-entry.ensures.read in
    rw (p.1, p.2) (ends_at items c.in_err-entry.field-0.0 c.loop.entries c.loop.entries c.args.count c.loop.counter c.loop.rest.now (items_read items [] c.args.count c.args.bytes.now) refl c.loop-test.true fails c.loop.invariant.so_far)

pub loop-preserved : goal.loop-preserved
loop-preserved c =
    let items = entry_items c.args.range c.args.index in
    let read = subst (λ (b : Behind). (entry_behind c.args.range c.args.index b).read c.loop.rest.now ≡ Ok (c.in_ok-entry.entry, c.in_ok-entry.after.now)) c.loop.invariant.behind_is c.in_ok-entry.ensures.read in
    record {
      at = ap length c.in_ok-add.ensures.ok ∙ length_push c.loop.entries c.in_ok-entry.entry ∙ ap (λ (n : ℕ). n + 1) c.loop.invariant.at;
      behind_is = c.behind_entry-behind.ensures ∙ sym (behind_more c.loop.entries c.in_ok-entry.entry) ∙ ap behind (sym c.in_ok-add.ensures.ok);
      so_far = goes_on_with items c.loop.entries c.loop.entries c.add.new.self c.args.count c.loop.counter c.loop.rest.now c.in_ok-entry.entry c.in_ok-entry.after.now (items_read items [] c.args.count c.args.bytes.now) refl c.in_ok-add.ensures.ok c.loop-test.true read c.loop.invariant.so_far;
    }

pub returns-clause-read : goal.returns-clause-read
returns-clause-read c =
    let items = entry_items c.args.range c.args.index in
    is_done items c.loop.entries c.args.count c.loop.counter c.loop.rest.now (items_read items [] c.args.count c.args.bytes.now) c.loop-test.false c.loop.invariant.so_far

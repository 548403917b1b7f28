use Rattle.std.proofs.Common.{◌≡◌, ◌+◌, Bool, true, false, if◌then◌else◌, ◌++◌, ◌∷◌, [], take, Some, is_some, slice_get, sym, ap, ◌∙◌, add-one, append-nil}
use Rattle.std.proofs.lemmas.Option.{slice_get-get_or}
use Rattle.td_memdev.specs.Kept.{state_bytes}
use Rattle.td_memdev.specs.Entries.{numbers_of}
use Rattle.td_memdev.proofs.Naming.{numbers_more, some_map}
use Rattle.td_memdev.proofs.files.finished_numbers.Goals as goal
use Rattle.td_memdev.proofs.files.finished_numbers.Goals.{then-is_some+in_ok-add, else-is_some}

pub loop-entry-preserved : goal.loop-entry-preserved
loop-entry-preserved c =
    let i = c.loop-entry.entry-index in
    let x = c.entry-item.result in
    let there : slice_get c.args.files.now i ≡ Some x = slice_get-get_or _ _ x c.loop-entry-test.true ∙ ap (λ y. Some y) (sym c.entry-item.is) in
    let more : (b : Bool) → is_some (state_bytes x.state) ≡ b → numbers_of (take (i + 1) c.args.files.now) ≡ c.loop-entry.numbers ++ (if b then x.number ∷ [] else []) =
    λ b is. rw (add-one i) (numbers_more i c.args.files.now x there) ∙ ap (λ ns. ns ++ (if is_some (state_bytes x.state) then x.number ∷ [] else [])) (sym c.loop-entry.invariant) ∙ ap (λ t. c.loop-entry.numbers ++ (if t then x.number ∷ [] else [])) is in
    let test : is_some (state_bytes x.state) ≡ c.is_some.result = ap is_some (sym c.bytes.ensures) ∙ some_map _ c.bytes.result ∙ sym c.is_some.ensures in
    elim c.if-is_some.branch [
      | then-is_some+in_ok-add w ↦ w.numbers-is ∙ w.in_ok-add.ensures.ok ∙ sym (more true (test ∙ w.if-is_some.true))
      | else-is_some w ↦ w.numbers-is ∙ sym (append-nil c.loop-entry.numbers) ∙ sym (more false (test ∙ w.if-is_some.false))
    ]

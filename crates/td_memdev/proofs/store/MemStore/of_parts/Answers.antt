use Rattle.std.proofs.Common.{◌≡◌, ℕ, List, [], map, refl, sym, ap, ◌∙◌, subst}
use Rattle.td_memdev.specs.Kept.{Kept, image_of}
use Rattle.td_memdev.specs.Entries.{stable_entry, finished_entry}
use Rattle.td_memdev.specs.Tables.{IsTable}
use Rattle.td_memdev.specs.declared.logs.LogEntry.{LogEntry}
use Rattle.td_memdev.specs.declared.files.FileEntry.{FileEntry}
use Rattle.td_memdev.proofs.Finding.{IsTable-map}
use Rattle.td_memdev.proofs.Naming.{parts_are}
use Rattle.td_memdev.proofs.store.MemStore.of_parts.Goals as goal

pub invariant_of-result : goal.invariant_of-result
invariant_of-result c =
    let logs : c.in_ok-logs.logs.items ≡ map stable_entry c.args.logs = c.in_ok-logs.ensures ∙ ap (λ ps. map stable_entry ps) c.as_slice.ensures in
    let files : c.in_ok-files.files.items ≡ map finished_entry c.args.files = c.in_ok-files.ensures ∙ ap (λ ps. map finished_entry ps) c.as_slice-2.ensures in (
      subst (λ (xs : List LogEntry). IsTable (λ e. e.number) xs) (sym logs) (IsTable-map stable_entry (λ p. p.0) (λ e. e.number) (λ p. refl) c.args.logs c.requires.logs),
      subst (λ (xs : List FileEntry). IsTable (λ e. e.number) xs) (sym files) (IsTable-map finished_entry (λ p. p.0) (λ e. e.number) (λ p. refl) c.args.files c.requires.files),
    )

pub returns-clause-image : goal.returns-clause-image
returns-clause-image c =
    let logs : c.in_ok-logs.logs.items ≡ map stable_entry c.args.logs = c.in_ok-logs.ensures ∙ ap (λ ps. map stable_entry ps) c.as_slice.ensures in
    let files : c.in_ok-files.files.items ≡ map finished_entry c.args.files = c.in_ok-files.ensures ∙ ap (λ ps. map finished_entry ps) c.as_slice-2.ensures in
    let kept : List (List ℕ) → List LogEntry → List FileEntry → Kept = λ hs ls fs. record { head = c.args.head; heads = hs; logs = ls; files = fs; made = 0; track = c.new-2.result } in
    ap (λ hs. image_of (kept hs c.in_ok-logs.logs.items c.in_ok-files.files.items)) c.new.ensures
    ∙ ap (λ ls. image_of (kept [] ls c.in_ok-files.files.items)) logs
    ∙ ap (λ fs. image_of (kept [] (map stable_entry c.args.logs) fs)) files
    ∙ parts_are c.args.head c.args.logs c.args.files 0 c.new-2.result

-- A store without open readers.
use Rattle.std.proofs.Common.{◌≡◌, ℕ, List, ◌++◌, length, take, drop, map, Option, Some, None, refl, sym, ap, ◌∙◌}
use Rattle.std.proofs.Math.Seq.{take-append_seam}
use Rattle.std.proofs.lemmas.List.{length-map}
use Rattle.std.specs.Option.{option_map}
use Rattle.td_outside.specs.Image.{at_rest}
use Rattle.td_memdev.specs.Entries.{closed, as_entered, with_readers}
use Rattle.td_memdev.specs.Kept.{Kept, image_of, log_entry, file_entry, log_of, is_fresh, is_gone, bytes_of, is_making, is_lost, readers_of, is_removed, state_readers}
use Rattle.td_memdev.specs.Tables.{IsTable}
use Rattle.td_memdev.specs.declared.files.FileEntry.{FileEntry}
use Rattle.td_memdev.specs.declared.files.FileState.{FileState}
use Rattle.td_memdev.specs.declared.files.FileState.TheVariants.{Making, Lost, Finished}
use Rattle.td_memdev.proofs.Changes.{same_bytes, same_making, same_lost, same_removed}
use Rattle.td_memdev.proofs.Finding.{find_map, IsTable-map}

entry_of : (files : List FileEntry) (n : ℕ) → file_entry (map closed files) n ≡ option_map closed (file_entry files n)
entry_of files n = find_map closed (λ e. e.number) (λ e. e.number) (λ e. refl) n files

closed_bytes : (r : Option FileEntry) → bytes_of (option_map closed r) ≡ bytes_of r
closed_bytes None = refl
closed_bytes (Some e) = same_bytes 0 e.state

closed_making : (r : Option FileEntry) → is_making (option_map closed r) ≡ is_making r
closed_making None = refl
closed_making (Some e) = same_making 0 e.state

closed_lost : (r : Option FileEntry) → is_lost (option_map closed r) ≡ is_lost r
closed_lost None = refl
closed_lost (Some e) = same_lost 0 e.state

closed_removed : (r : Option FileEntry) → is_removed (option_map closed r) ≡ is_removed r
closed_removed None = refl
closed_removed (Some e) = same_removed 0 e.state

no_readers : (s : FileState) → state_readers (with_readers 0 s) ≡ 0
no_readers Making = refl
no_readers Lost = refl
no_readers (Finished file) = refl

closed_readers : (r : Option FileEntry) → readers_of (option_map closed r) ≡ 0
closed_readers None = refl
closed_readers (Some e) = no_readers e.state

-- the image of a store whose files are closed
pub at_rest_image : (kept : Kept) → image_of (as_entered kept) ≡ at_rest (image_of kept)
at_rest_image kept =
    λ i. record {
      head = kept.head;
      logs = λ n. log_of (log_entry kept.logs n);
      files = λ n. (ap bytes_of (entry_of kept.files n) ∙ closed_bytes (file_entry kept.files n)) i;
      making = λ n. (ap is_making (entry_of kept.files n) ∙ closed_making (file_entry kept.files n)) i;
      readers = λ n. (ap readers_of (entry_of kept.files n) ∙ closed_readers (file_entry kept.files n)) i;
      doubt = record {
        heads = map (λ head. Some head) kept.heads;
        fresh = λ n. is_fresh (log_entry kept.logs n);
        gone = λ n. is_gone (log_entry kept.logs n);
        strays = λ n. (ap is_lost (entry_of kept.files n) ∙ closed_lost (file_entry kept.files n)) i;
        removed = λ n. (ap is_removed (entry_of kept.files n) ∙ closed_removed (file_entry kept.files n)) i;
      };
    }

-- closed files are a table
pub closed_table : (files : List FileEntry) → IsTable (λ entry. entry.number) files → IsTable (λ entry. entry.number) (map closed files)
closed_table files table = IsTable-map closed (λ e. e.number) (λ e. e.number) (λ e. refl) files table

-- what stands in a list after all of it was closed in place
pub closed_whole : (n : ℕ) (old now new : List FileEntry) → now ≡ old → length now ≡ n → new ≡ map closed now → take n (new ++ drop (length new) old) ≡ map closed old
closed_whole n old now new same count is =
    let whole : n ≡ length new = sym count ∙ sym (length-map now closed) ∙ ap length (sym is) in
    ap (λ k. take k (new ++ drop (length new) old)) whole
    ∙ take-append_seam new (drop (length new) old)
    ∙ is
    ∙ ap (λ files. map closed files) same

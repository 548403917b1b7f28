-- What each change of a table of a store in memory makes of its image.
use Rattle.std.proofs.Common.{◌≡◌, ℕ, ◌+◌, ◌-◌, Bool, true, false, List, [], ◌∷◌, ◌++◌, Option, Some, None, IfSome, is_some, is_none, map, inl, get_or, slice_set, remove, arith, refl, sym, ap, ◌∙◌, subst}
use Rattle.std.proofs.lemmas.Option.{get_or_from_slice_get}
use Rattle.std.specs.Option.{option_map, IsSomeAnd}
use Rattle.td_outside.specs.Image.{Log, Image, put}
use Rattle.td_outside.specs.Files.{after_create, GivesUp, Finishes, after_open, after_close, after_remove, after_failed_remove, SwapFails}
use Rattle.td_outside.specs.Logs.{new_log, with_log, after_torn_write, Tears, after_log_create, after_failed_log_create, after_log_drop, after_failed_log_drop}
use Rattle.td_memdev.specs.Tables.{find, IsTable, IsAt}
use Rattle.td_memdev.specs.Entries.{with_readers, marked}
use Rattle.td_memdev.specs.Kept.{Kept, image_of, log_entry, file_entry, log_of, is_fresh, is_gone, bytes_of, is_making, is_lost, readers_of, is_removed, state_bytes, state_making, state_lost, state_readers, state_removed}
use Rattle.td_memdev.specs.declared.logs.LogEntry.{LogEntry}
use Rattle.td_memdev.specs.declared.files.FileEntry.{FileEntry}
use Rattle.td_memdev.specs.declared.files.FileState.{FileState}
use Rattle.td_memdev.specs.declared.files.FileState.TheVariants.{Making, Lost, Finished}
use Rattle.td_memdev.proofs.Finding.{find_at, find-set, find-push, find-remove, IsTable-set, IsTable-remove}
use Rattle.td_memdev.proofs.Images.{put_of, keep_of, logs_change, files_change}

-- the entry that a place gives
pub entry_is : {T : Type 0} (number : T → ℕ) (n place : ℕ) (entries : List T) (at : IsAt number n place entries) (x : T) → x ≡ get_or entries place x → x ≡ at.entry
entry_is number n place entries at x is = is ∙ get_or_from_slice_get entries place at.entry x at.there

pub found : {T : Type 0} (number : T → ℕ) (n place : ℕ) (entries : List T) (at : IsAt number n place entries) → find number n entries ≡ Some at.entry
found number n place entries at = find_at number n place entries at.entry at.there at.number_is at.first

pub set_entry : {T : Type 0} (number : T → ℕ) (n place : ℕ) (entries : List T) (at : IsAt number n place entries) (v : T) → number v ≡ n → (m : ℕ) → find number m (slice_set entries place v) ≡ put n (Some v) (λ k. find number k entries) m
set_entry number n place entries at v is m = find-set number n place entries at.entry v at.there at.number_is at.first is m

pub remove_entry : {T : Type 0} (number : T → ℕ) (n place : ℕ) (entries : List T) (at : IsAt number n place entries) → IsTable number entries → (m : ℕ) → find number m (remove entries place) ≡ put n None (λ k. find number k entries) m
remove_entry number n place entries at table m = find-remove number n place entries at.entry at.there at.number_is at.first table m

pub table_set : {T : Type 0} (number : T → ℕ) (n place : ℕ) (entries : List T) (at : IsAt number n place entries) (v : T) → number v ≡ n → IsTable number entries → IsTable number (slice_set entries place v)
table_set number n place entries at v is table = IsTable-set number n place entries at.entry v at.there at.number_is at.first is table

pub table_remove : {T : Type 0} (number : T → ℕ) (n place : ℕ) (entries : List T) (at : IsAt number n place entries) → IsTable number entries → IsTable number (remove entries place)
table_remove number n place entries at table = IsTable-remove number n place entries at.entry at.there at.number_is at.first table

-- which parts of a store stay where its logs change, and where its files change
pub record LogsAre (old new : Kept) (logs : List LogEntry) : Type 0 where
  pub head : new.head ≡ old.head
  pub heads : new.heads ≡ old.heads
  pub files : new.files ≡ old.files
  pub logs_are : new.logs ≡ logs

pub record FilesAre (old new : Kept) (files : List FileEntry) : Type 0 where
  pub head : new.head ≡ old.head
  pub heads : new.heads ≡ old.heads
  pub logs : new.logs ≡ old.logs
  pub files_are : new.files ≡ files

log_number : LogEntry → ℕ
log_number entry = entry.number

pub with_log_image : (old new : Kept) (n place : ℕ) (f : Log → Log) (at : IsAt (λ entry. entry.number) n place old.logs) (v : LogEntry) → v ≡ record at.entry { log = option_map f at.entry.log } → LogsAre old new (slice_set old.logs place v) → image_of new ≡ with_log n f (image_of old)
with_log_image old new n place f at v is same =
    let number : LogEntry → ℕ = λ entry. entry.number in
    let h = set_entry number n place old.logs at v (ap number is ∙ at.number_is) in
    let old_is : log_entry old.logs n ≡ Some at.entry = found number n place old.logs at in
    logs_change old (slice_set old.logs place v) (put n (option_map f (log_of (log_entry old.logs n))) (λ m. log_of (log_entry old.logs m))) (λ m. is_fresh (log_entry old.logs m)) (λ m. is_gone (log_entry old.logs m))
    (put_of log_of n (Some v) (log_entry (slice_set old.logs place v)) (log_entry old.logs) h
    ∙ ap (λ o. put n o (λ m. log_of (log_entry old.logs m))) (ap (λ (e : LogEntry). e.log) is ∙ sym (ap (λ o. option_map f (log_of o)) old_is)))
    (keep_of is_fresh n (Some v) (log_entry (slice_set old.logs place v)) (log_entry old.logs) h (ap (λ (e : LogEntry). e.fresh) is ∙ sym (ap is_fresh old_is)))
    (keep_of is_gone n (Some v) (log_entry (slice_set old.logs place v)) (log_entry old.logs) h (ap (λ (e : LogEntry). e.gone) is ∙ sym (ap is_gone old_is)))
    new same.head same.heads same.files same.logs_are

torn_is : (n at count : ℕ) (old : Image) (o : Option Log) → old.logs n ≡ o → (P : Log → Type 0) → IsSomeAnd o P → (new : Image) → new ≡ with_log n (λ log. after_torn_write at count log.bytes log) old → Tears n at count old new
torn_is n at count old None is P has new image = absurd has
torn_is n at count old (Some log) is P has new image = record {
  bytes = log.bytes;
  range = rw is (record { before = refl; after = refl; no_shorter = omega arith; no_longer = omega arith });
  image = image ∙ ap (λ o. record old { logs = put n o old.logs }) (ap (λ o. option_map (λ (l : Log). after_torn_write at count l.bytes l) o) is ∙ sym (ap (λ o. option_map (after_torn_write at count log.bytes) o) is));
}

pub tears_image : (old new : Kept) (n place at count : ℕ) (P : Log → Type 0) → IsSomeAnd ((image_of old).logs n) P → (there : IsAt (λ entry. entry.number) n place old.logs) (v : LogEntry) → v ≡ record there.entry { log = option_map (λ log. after_torn_write at count log.bytes log) there.entry.log } → LogsAre old new (slice_set old.logs place v) → Tears n at count (image_of old) (image_of new)
tears_image old new n place at count P has there v is same =
    torn_is n at count (image_of old) ((image_of old).logs n) refl P has (image_of new) (with_log_image old new n place (λ log. after_torn_write at count log.bytes log) there v is same)

pub log_create_image : (old new : Kept) (n place : ℕ) (at : IsAt (λ entry. entry.number) n place old.logs) (v : LogEntry) → v ≡ record at.entry { log = Some new_log; fresh = false; gone = false } → LogsAre old new (slice_set old.logs place v) → image_of new ≡ after_log_create n (image_of old)
log_create_image old new n place at v is same =
    let number : LogEntry → ℕ = λ entry. entry.number in
    let h = set_entry number n place old.logs at v (ap number is ∙ at.number_is) in
    logs_change old (slice_set old.logs place v) (put n (Some new_log) (λ m. log_of (log_entry old.logs m))) (put n false (λ m. is_fresh (log_entry old.logs m))) (put n false (λ m. is_gone (log_entry old.logs m)))
    (put_of log_of n (Some v) (log_entry (slice_set old.logs place v)) (log_entry old.logs) h ∙ ap (λ o. put n o (λ m. log_of (log_entry old.logs m))) (ap (λ (e : LogEntry). e.log) is))
    (put_of is_fresh n (Some v) (log_entry (slice_set old.logs place v)) (log_entry old.logs) h ∙ ap (λ o. put n o (λ m. is_fresh (log_entry old.logs m))) (ap (λ (e : LogEntry). e.fresh) is))
    (put_of is_gone n (Some v) (log_entry (slice_set old.logs place v)) (log_entry old.logs) h ∙ ap (λ o. put n o (λ m. is_gone (log_entry old.logs m))) (ap (λ (e : LogEntry). e.gone) is))
    new same.head same.heads same.files same.logs_are

pub failed_log_create_image : (old new : Kept) (n place : ℕ) (at : IsAt (λ entry. entry.number) n place old.logs) (v : LogEntry) → v ≡ record at.entry { fresh = true } → LogsAre old new (slice_set old.logs place v) → image_of new ≡ after_failed_log_create n (image_of old)
failed_log_create_image old new n place at v is same =
    let number : LogEntry → ℕ = λ entry. entry.number in
    let h = set_entry number n place old.logs at v (ap number is ∙ at.number_is) in
    let old_is : log_entry old.logs n ≡ Some at.entry = found number n place old.logs at in
    logs_change old (slice_set old.logs place v) (λ m. log_of (log_entry old.logs m)) (put n true (λ m. is_fresh (log_entry old.logs m))) (λ m. is_gone (log_entry old.logs m))
    (keep_of log_of n (Some v) (log_entry (slice_set old.logs place v)) (log_entry old.logs) h (ap (λ (e : LogEntry). e.log) is ∙ sym (ap log_of old_is)))
    (put_of is_fresh n (Some v) (log_entry (slice_set old.logs place v)) (log_entry old.logs) h ∙ ap (λ o. put n o (λ m. is_fresh (log_entry old.logs m))) (ap (λ (e : LogEntry). e.fresh) is))
    (keep_of is_gone n (Some v) (log_entry (slice_set old.logs place v)) (log_entry old.logs) h (ap (λ (e : LogEntry). e.gone) is ∙ sym (ap is_gone old_is)))
    new same.head same.heads same.files same.logs_are

pub failed_log_drop_image : (old new : Kept) (n place : ℕ) (at : IsAt (λ entry. entry.number) n place old.logs) (v : LogEntry) → v ≡ record at.entry { gone = true } → LogsAre old new (slice_set old.logs place v) → image_of new ≡ after_failed_log_drop n (image_of old)
failed_log_drop_image old new n place at v is same =
    let number : LogEntry → ℕ = λ entry. entry.number in
    let h = set_entry number n place old.logs at v (ap number is ∙ at.number_is) in
    let old_is : log_entry old.logs n ≡ Some at.entry = found number n place old.logs at in
    logs_change old (slice_set old.logs place v) (λ m. log_of (log_entry old.logs m)) (λ m. is_fresh (log_entry old.logs m)) (put n true (λ m. is_gone (log_entry old.logs m)))
    (keep_of log_of n (Some v) (log_entry (slice_set old.logs place v)) (log_entry old.logs) h (ap (λ (e : LogEntry). e.log) is ∙ sym (ap log_of old_is)))
    (keep_of is_fresh n (Some v) (log_entry (slice_set old.logs place v)) (log_entry old.logs) h (ap (λ (e : LogEntry). e.fresh) is ∙ sym (ap is_fresh old_is)))
    (put_of is_gone n (Some v) (log_entry (slice_set old.logs place v)) (log_entry old.logs) h ∙ ap (λ o. put n o (λ m. is_gone (log_entry old.logs m))) (ap (λ (e : LogEntry). e.gone) is))
    new same.head same.heads same.files same.logs_are

pub log_drop_image : (old new : Kept) (n place : ℕ) (at : IsAt (λ entry. entry.number) n place old.logs) → is_some (log_of (log_entry old.logs n)) ≡ true → IsTable (λ entry. entry.number) old.logs → LogsAre old new (remove old.logs place) → image_of new ≡ after_log_drop n (image_of old)
log_drop_image old new n place at there table same =
    let number : LogEntry → ℕ = λ entry. entry.number in
    let h = remove_entry number n place old.logs at table in
    rw there (logs_change old (remove old.logs place) (put n None (λ m. log_of (log_entry old.logs m))) (put n false (λ m. is_fresh (log_entry old.logs m))) (put n false (λ m. is_gone (log_entry old.logs m)))
    (put_of log_of n None (log_entry (remove old.logs place)) (log_entry old.logs) h)
    (put_of is_fresh n None (log_entry (remove old.logs place)) (log_entry old.logs) h)
    (put_of is_gone n None (log_entry (remove old.logs place)) (log_entry old.logs) h)
    new same.head same.heads same.files same.logs_are)

pub no_drop_image : (image : Image) (n : ℕ) → is_some (image.logs n) ≡ false → image ≡ after_log_drop n image
no_drop_image image n none = rw none refl

pub new_log_entry_image : (old new : Kept) (n : ℕ) → log_entry old.logs n ≡ None → LogsAre old new (old.logs ++ record { number = n; log = None; fresh = false; gone = false } ∷ []) → image_of new ≡ image_of old
new_log_entry_image old new n none same =
    let number : LogEntry → ℕ = λ entry. entry.number in
    let v : LogEntry = record { number = n; log = None; fresh = false; gone = false } in
    let logs : List LogEntry = old.logs ++ v ∷ [] in
    let h = find-push number n old.logs v none refl in
    logs_change old logs (λ m. log_of (log_entry old.logs m)) (λ m. is_fresh (log_entry old.logs m)) (λ m. is_gone (log_entry old.logs m))
    (keep_of log_of n (Some v) (log_entry logs) (log_entry old.logs) h (sym (ap log_of none)))
    (keep_of is_fresh n (Some v) (log_entry logs) (log_entry old.logs) h (sym (ap is_fresh none)))
    (keep_of is_gone n (Some v) (log_entry logs) (log_entry old.logs) h (sym (ap is_gone none)))
    new same.head same.heads same.files same.logs_are

-- Files: after an entry was put, by what it tells of the old one. Each part is kept or put.
pub files_image : (old new : Kept) (files : List FileEntry) (n : ℕ) (r : Option FileEntry) → ((m : ℕ) → file_entry files m ≡ put n r (file_entry old.files) m) → FilesAre old new files → image_of new ≡ record (image_of old) { files = put n (bytes_of r) (image_of old).files; making = put n (is_making r) (image_of old).making; readers = put n (readers_of r) (image_of old).readers; doubt = record (image_of old).doubt { strays = put n (is_lost r) (image_of old).doubt.strays; removed = put n (is_removed r) (image_of old).doubt.removed } }
files_image old new files n r h same =
    files_change old files (put n (bytes_of r) (image_of old).files) (put n (is_making r) (image_of old).making) (put n (readers_of r) (image_of old).readers) (put n (is_lost r) (image_of old).doubt.strays) (put n (is_removed r) (image_of old).doubt.removed)
    (put_of bytes_of n r (file_entry files) (file_entry old.files) h)
    (put_of is_making n r (file_entry files) (file_entry old.files) h)
    (put_of readers_of n r (file_entry files) (file_entry old.files) h)
    (put_of is_lost n r (file_entry files) (file_entry old.files) h)
    (put_of is_removed n r (file_entry files) (file_entry old.files) h)
    new same.head same.heads same.logs same.files_are

-- a map with the value at a number that it has there
pub put_same : {A : Type 0} (n : ℕ) (value : A) (map : ℕ → A) → value ≡ map n → put n value map ≡ map
put_same n value map is = keep_of {T = _} (λ x. x) n value (put n value map) map (λ m. refl) is

-- an entry that was made of the entry that a place gives
pub edited : {T : Type 0} (number : T → ℕ) (n place : ℕ) (entries : List T) (at : IsAt number n place entries) (x v : T) → x ≡ get_or entries place x → (g : T → T) → v ≡ g x → v ≡ g at.entry
edited number n place entries at x v is g made = made ∙ ap g (entry_is number n place entries at x is)

pub files_become : (old new : Kept) (files : List FileEntry) (n : ℕ) (r : Option FileEntry) → ((m : ℕ) → file_entry files m ≡ put n r (file_entry old.files) m) → FilesAre old new files → (b : ℕ → Option (List ℕ)) (making : ℕ → Bool) (readers : ℕ → ℕ) (strays removed : ℕ → Bool) → put n (bytes_of r) (image_of old).files ≡ b → put n (is_making r) (image_of old).making ≡ making → put n (readers_of r) (image_of old).readers ≡ readers → put n (is_lost r) (image_of old).doubt.strays ≡ strays → put n (is_removed r) (image_of old).doubt.removed ≡ removed → image_of new ≡ record (image_of old) { files = b; making = making; readers = readers; doubt = record (image_of old).doubt { strays = strays; removed = removed } }
files_become old new files n r h same b making readers strays removed is_b is_m is_k is_s is_d =
    files_image old new files n r h same ∙ (λ i. record (image_of old) { files = is_b i; making = is_m i; readers = is_k i; doubt = record (image_of old).doubt { strays = is_s i; removed = is_d i } })

-- an entry got another state
pub state_becomes : (old new : Kept) (n place : ℕ) (at : IsAt (λ entry. entry.number) n place old.files) (v : FileEntry) (state : FileState) → v ≡ record at.entry { state = state } → FilesAre old new (slice_set old.files place v) → (b : ℕ → Option (List ℕ)) (making : ℕ → Bool) (readers : ℕ → ℕ) (strays removed : ℕ → Bool) → put n (state_bytes state) (image_of old).files ≡ b → put n (state_making state) (image_of old).making ≡ making → put n (state_readers state) (image_of old).readers ≡ readers → put n (state_lost state) (image_of old).doubt.strays ≡ strays → put n (state_removed state) (image_of old).doubt.removed ≡ removed → image_of new ≡ record (image_of old) { files = b; making = making; readers = readers; doubt = record (image_of old).doubt { strays = strays; removed = removed } }
state_becomes old new n place at v state is same b making readers strays removed is_b is_m is_k is_s is_d =
    let number : FileEntry → ℕ = λ entry. entry.number in
    let h = set_entry number n place old.files at v (ap number is ∙ at.number_is) in
    let s : v.state ≡ state = ap (λ (e : FileEntry). e.state) is in
    files_become old new (slice_set old.files place v) n (Some v) h same b making readers strays removed
    (ap (λ t. put n (state_bytes t) (image_of old).files) s ∙ is_b)
    (ap (λ t. put n (state_making t) (image_of old).making) s ∙ is_m)
    (ap (λ t. put n (state_readers t) (image_of old).readers) s ∙ is_k)
    (ap (λ t. put n (state_lost t) (image_of old).doubt.strays) s ∙ is_s)
    (ap (λ t. put n (state_removed t) (image_of old).doubt.removed) s ∙ is_d)

pub true_false : true ≡ false → ⊥
true_false h = cc

-- what else an entry of a file in making tells
pub record TellsMaking (r : Option FileEntry) : Type 0 where
  pub bytes : bytes_of r ≡ None
  pub readers : readers_of r ≡ 0
  pub lost : is_lost r ≡ false
  pub removed : is_removed r ≡ false

making_state : (n : ℕ) (s : FileState) → state_making s ≡ true → TellsMaking (Some (record { number = n; state = s }))
making_state n Making h = record { bytes = refl; readers = refl; lost = refl; removed = refl }
making_state n Lost h = absurd (true_false (sym h))
making_state n (Finished file) h = absurd (true_false (sym h))

pub making_tells : (r : Option FileEntry) → is_making r ≡ true → TellsMaking r
making_tells None h = absurd (true_false (sym h))
making_tells (Some entry) h = making_state entry.number entry.state h

-- what else an entry of a finished file tells
finished_state : (s : FileState) → is_some (state_bytes s) ≡ true → (state_making s ≡ false) × (state_lost s ≡ false)
finished_state Making h = absurd (true_false (sym h))
finished_state Lost h = absurd (true_false (sym h))
finished_state (Finished file) h = (refl, refl)

pub finished_tells : (r : Option FileEntry) → is_some (bytes_of r) ≡ true → (is_making r ≡ false) × (is_lost r ≡ false)
finished_tells None h = absurd (true_false (sym h))
finished_tells (Some entry) h = finished_state entry.state h

pub create_image : (old : Kept) (n : ℕ) → file_entry old.files n ≡ None → image_of (record old { files = old.files ++ record { number = n; state = Making } ∷ [] }) ≡ after_create n (image_of old)
create_image old n none =
    let number : FileEntry → ℕ = λ entry. entry.number in
    let v : FileEntry = record { number = n; state = Making } in
    let files : List FileEntry = old.files ++ v ∷ [] in
    let image = image_of old in
    files_become old (record old { files = files }) files n (Some v) (find-push number n old.files v none refl) (record { head = refl; heads = refl; logs = refl; files_are = refl })
    image.files (put n true image.making) image.readers image.doubt.strays image.doubt.removed
    (put_same n None image.files (sym (ap bytes_of none))) refl (put_same n 0 image.readers (sym (ap readers_of none)))
    (put_same n false image.doubt.strays (sym (ap is_lost none))) (put_same n false image.doubt.removed (sym (ap is_removed none)))

pub finish_image : (old : Kept) (n place : ℕ) (bytes : List ℕ) (at : IsAt (λ entry. entry.number) n place old.files) (v : FileEntry) → is_making (file_entry old.files n) ≡ true → v ≡ record at.entry { state = Finished (record { bytes = bytes; readers = 0; removed = false }) } → Finishes n n bytes (image_of old) (image_of (record old { files = slice_set old.files place v }))
finish_image old n place bytes at v making is =
    let image = image_of old in
    let tells = making_tells (file_entry old.files n) making in
    record {
      free = tells.bytes;
      unread = tells.readers;
      image = state_becomes old (record old { files = slice_set old.files place v }) n place at v (Finished (record { bytes = bytes; readers = 0; removed = false })) is (record { head = refl; heads = refl; logs = refl; files_are = refl })
          (put n (Some bytes) image.files) (put n false image.making) image.readers (put n false image.doubt.strays) (put n false image.doubt.removed)
          refl refl (put_same n 0 image.readers (sym tells.readers)) refl refl;
    }

pub lost_image : (old : Kept) (n place : ℕ) (at : IsAt (λ entry. entry.number) n place old.files) (v : FileEntry) → is_making (file_entry old.files n) ≡ true → v ≡ record at.entry { state = Lost } → GivesUp n (image_of old) (image_of (record old { files = slice_set old.files place v }))
lost_image old n place at v making is =
    let image = image_of old in
    let tells = making_tells (file_entry old.files n) making in (
      true,
      state_becomes old (record old { files = slice_set old.files place v }) n place at v Lost is (record { head = refl; heads = refl; logs = refl; files_are = refl })
          image.files (put n false image.making) image.readers (put n true image.doubt.strays) image.doubt.removed
          (put_same n None image.files (sym tells.bytes)) refl (put_same n 0 image.readers (sym tells.readers)) refl (put_same n false image.doubt.removed (sym tells.removed)),
    )

pub abandon_image : (old : Kept) (n place : ℕ) (at : IsAt (λ entry. entry.number) n place old.files) → IsTable (λ entry. entry.number) old.files → is_making (file_entry old.files n) ≡ true → GivesUp n (image_of old) (image_of (record old { files = remove old.files place }))
abandon_image old n place at table making =
    let number : FileEntry → ℕ = λ entry. entry.number in
    let image = image_of old in
    let tells = making_tells (file_entry old.files n) making in (
      false,
      files_become old (record old { files = remove old.files place }) (remove old.files place) n None (remove_entry number n place old.files at table) (record { head = refl; heads = refl; logs = refl; files_are = refl })
          image.files (put n false image.making) image.readers (put n false image.doubt.strays) image.doubt.removed
          (put_same n None image.files (sym tells.bytes)) refl (put_same n 0 image.readers (sym tells.readers)) refl (put_same n false image.doubt.removed (sym tells.removed)),
    )

-- a writer whose file isn't in making changes nothing
pub foreign_image : (old : Image) (n : ℕ) → old.making n ≡ false → GivesUp n old old
foreign_image old n making = (
  old.doubt.strays n,
  λ i. record old { making = (sym (put_same n false old.making (sym making))) i; doubt = record old.doubt { strays = (sym (put_same n (old.doubt.strays n) old.doubt.strays refl)) i } },
)

pub same_bytes : (k : ℕ) (s : FileState) → state_bytes (with_readers k s) ≡ state_bytes s
same_bytes k Making = refl
same_bytes k Lost = refl
same_bytes k (Finished file) = refl

pub same_making : (k : ℕ) (s : FileState) → state_making (with_readers k s) ≡ state_making s
same_making k Making = refl
same_making k Lost = refl
same_making k (Finished file) = refl

pub same_lost : (k : ℕ) (s : FileState) → state_lost (with_readers k s) ≡ state_lost s
same_lost k Making = refl
same_lost k Lost = refl
same_lost k (Finished file) = refl

pub same_removed : (k : ℕ) (s : FileState) → state_removed (with_readers k s) ≡ state_removed s
same_removed k Making = refl
same_removed k Lost = refl
same_removed k (Finished file) = refl

-- another count of readers
pub readers_become : (old : Kept) (n place k : ℕ) (at : IsAt (λ entry. entry.number) n place old.files) (v : FileEntry) → v ≡ record at.entry { state = with_readers k at.entry.state } → state_readers (with_readers k at.entry.state) ≡ k → image_of (record old { files = slice_set old.files place v }) ≡ record (image_of old) { readers = put n k (image_of old).readers }
readers_become old n place k at v is counts =
    let number : FileEntry → ℕ = λ entry. entry.number in
    let image = image_of old in
    let there : file_entry old.files n ≡ Some at.entry = found number n place old.files at in
    state_becomes old (record old { files = slice_set old.files place v }) n place at v (with_readers k at.entry.state) is (record { head = refl; heads = refl; logs = refl; files_are = refl })
    image.files image.making (put n k image.readers) image.doubt.strays image.doubt.removed
    (put_same n _ image.files (same_bytes k at.entry.state ∙ sym (ap bytes_of there)))
    (put_same n _ image.making (same_making k at.entry.state ∙ sym (ap is_making there)))
    (ap (λ c. put n c image.readers) counts)
    (put_same n _ image.doubt.strays (same_lost k at.entry.state ∙ sym (ap is_lost there)))
    (put_same n _ image.doubt.removed (same_removed k at.entry.state ∙ sym (ap is_removed there)))

finished_readers : (k : ℕ) (s : FileState) → is_some (state_bytes s) ≡ true → state_readers (with_readers k s) ≡ k
finished_readers k Making h = absurd (true_false (sym h))
finished_readers k Lost h = absurd (true_false (sym h))
finished_readers k (Finished file) h = refl

less_readers : (s : FileState) → state_readers (with_readers (state_readers s - 1) s) ≡ state_readers s - 1
less_readers Making = omega arith
less_readers Lost = omega arith
less_readers (Finished file) = refl

pub open_image : (old : Kept) (n place k : ℕ) (at : IsAt (λ entry. entry.number) n place old.files) (x v : FileEntry) → x ≡ at.entry → is_some (bytes_of (file_entry old.files n)) ≡ true → k ≡ state_readers x.state + 1 → v ≡ record at.entry { state = with_readers k at.entry.state } → image_of (record old { files = slice_set old.files place v }) ≡ after_open n (image_of old)
open_image old n place k at x v x_is finished counts is =
    let number : FileEntry → ℕ = λ entry. entry.number in
    let there : file_entry old.files n ≡ Some at.entry = found number n place old.files at in
    let some : is_some (state_bytes at.entry.state) ≡ true = sym (ap (λ r. is_some (bytes_of r)) there) ∙ finished in
    readers_become old n place k at v is (finished_readers k at.entry.state some)
    ∙ ap (λ c. record (image_of old) { readers = put n c (image_of old).readers }) (counts ∙ ap (λ c. c + 1) (ap (λ (e : FileEntry). state_readers e.state) x_is ∙ sym (ap readers_of there)))

pub close_image : (old : Kept) (n place k : ℕ) (at : IsAt (λ entry. entry.number) n place old.files) (x v : FileEntry) → x ≡ at.entry → k ≡ state_readers x.state - 1 → v ≡ record at.entry { state = with_readers k at.entry.state } → image_of (record old { files = slice_set old.files place v }) ≡ after_close n (image_of old)
close_image old n place k at x v x_is counts is =
    let number : FileEntry → ℕ = λ entry. entry.number in
    let there : file_entry old.files n ≡ Some at.entry = found number n place old.files at in
    let less : k ≡ state_readers at.entry.state - 1 = counts ∙ ap (λ (e : FileEntry). state_readers e.state - 1) x_is in
    readers_become old n place k at v is (ap (λ j. state_readers (with_readers j at.entry.state)) less ∙ less_readers at.entry.state ∙ sym less)
    ∙ ap (λ c. record (image_of old) { readers = put n c (image_of old).readers }) (less ∙ ap (λ c. c - 1) (sym (ap readers_of there)))

pub close_nothing : (old : Image) (n : ℕ) → old.readers n ≡ 0 → old ≡ after_close n old
close_nothing old n none = λ i. record old { readers = (sym (put_same n (old.readers n - 1) old.readers (ap (λ c. c - 1) none ∙ sym none))) i }

pub remove_image : (old : Kept) (n place : ℕ) (at : IsAt (λ entry. entry.number) n place old.files) → IsTable (λ entry. entry.number) old.files → is_some (bytes_of (file_entry old.files n)) ≡ true → readers_of (file_entry old.files n) ≡ 0 → image_of (record old { files = remove old.files place }) ≡ after_remove n (image_of old)
remove_image old n place at table finished unread =
    let number : FileEntry → ℕ = λ entry. entry.number in
    let image = image_of old in
    let tells = finished_tells (file_entry old.files n) finished in
    files_become old (record old { files = remove old.files place }) (remove old.files place) n None (remove_entry number n place old.files at table) (record { head = refl; heads = refl; logs = refl; files_are = refl })
    (put n None image.files) image.making image.readers image.doubt.strays (put n false image.doubt.removed)
    refl (put_same n false image.making (sym tells.0)) (put_same n 0 image.readers (sym unread)) (put_same n false image.doubt.strays (sym tells.1)) refl

marked_is : (s : FileState) → is_some (state_bytes s) ≡ true → (state_bytes (marked s) ≡ state_bytes s) × (state_making (marked s) ≡ state_making s) × (state_readers (marked s) ≡ state_readers s) × (state_lost (marked s) ≡ state_lost s) × (state_removed (marked s) ≡ true)
marked_is Making h = absurd (true_false (sym h))
marked_is Lost h = absurd (true_false (sym h))
marked_is (Finished file) h = (refl, refl, refl, refl, refl)

pub failed_remove_image : (old : Kept) (n place : ℕ) (at : IsAt (λ entry. entry.number) n place old.files) (v : FileEntry) → is_some (bytes_of (file_entry old.files n)) ≡ true → v ≡ record at.entry { state = marked at.entry.state } → image_of (record old { files = slice_set old.files place v }) ≡ after_failed_remove n (image_of old)
failed_remove_image old n place at v finished is =
    let number : FileEntry → ℕ = λ entry. entry.number in
    let image = image_of old in
    let there : file_entry old.files n ≡ Some at.entry = found number n place old.files at in
    let some : is_some (state_bytes at.entry.state) ≡ true = sym (ap (λ r. is_some (bytes_of r)) there) ∙ finished in
    let parts = marked_is at.entry.state some in
    state_becomes old (record old { files = slice_set old.files place v }) n place at v (marked at.entry.state) is (record { head = refl; heads = refl; logs = refl; files_are = refl })
    image.files image.making image.readers image.doubt.strays (put n true image.doubt.removed)
    (put_same n _ image.files (parts.0 ∙ sym (ap bytes_of there)))
    (put_same n _ image.making (parts.1 ∙ sym (ap is_making there)))
    (put_same n _ image.readers (parts.2 ∙ sym (ap readers_of there)))
    (put_same n _ image.doubt.strays (parts.3 ∙ sym (ap is_lost there)))
    (ap (λ c. put n c image.doubt.removed) parts.4)

some_and : (o : Option Log) (P Q : Log → Type 0) → ((l : Log) → P l → Q l) → IsSomeAnd o P → IfSome o Q
some_and None P Q f has = absurd has
some_and (Some log) P Q f has = f log has

-- what is true of a log that is there is true of the log of the entry that a place gives
pub has_log : (logs : List LogEntry) (n place : ℕ) (at : IsAt (λ entry. entry.number) n place logs) (x : LogEntry) → x ≡ get_or logs place x → (P Q : Log → Type 0) → ((l : Log) → P l → Q l) → IsSomeAnd (log_of (log_entry logs n)) P → IfSome x.log Q
has_log logs n place at x is P Q f has =
    let number : LogEntry → ℕ = λ entry. entry.number in
    subst (λ (e : LogEntry). IfSome e.log Q) (sym (entry_is number n place logs at x is))
    (some_and at.entry.log P Q f (subst (λ (r : Option LogEntry). IsSomeAnd (log_of r) P) (found number n place logs at) has))

-- what the entry that a place gives tells of the log or the file of its number
pub log_is : (logs : List LogEntry) (n place : ℕ) (at : IsAt (λ entry. entry.number) n place logs) (x : LogEntry) → x ≡ get_or logs place x → log_of (log_entry logs n) ≡ x.log
log_is logs n place at x is =
    let number : LogEntry → ℕ = λ entry. entry.number in
    ap log_of (found number n place logs at) ∙ ap (λ (e : LogEntry). e.log) (sym (entry_is number n place logs at x is))

pub state_is : (files : List FileEntry) (n place : ℕ) (at : IsAt (λ entry. entry.number) n place files) (x : FileEntry) → x ≡ get_or files place x → file_entry files n ≡ Some x
state_is files n place at x is =
    let number : FileEntry → ℕ = λ entry. entry.number in
    found number n place files at ∙ ap (λ (e : FileEntry). Some e) (sym (entry_is number n place files at x is))

pub not_none : {T : Type 0} (o : Option T) → is_none o ≡ true → is_some o ≡ false
not_none None h = refl
not_none (Some x) h = absurd (true_false (sym h))

pub not_some : {T : Type 0} (o : Option T) → is_none o ≡ false → is_some o ≡ true
not_some None h = absurd (true_false h)
not_some (Some x) h = refl

pub some_none : (logs : List LogEntry) (n : ℕ) → is_some (log_of (log_entry logs n)) ≡ true → log_of (log_entry logs n) ≡ None → ⊥
some_none logs n some none = true_false (sym some ∙ ap is_some none)

map_push : (heads : List (List ℕ)) (bytes : List ℕ) → map (λ h. Some h) (heads ++ bytes ∷ []) ≡ map (λ h. Some h) heads ++ Some bytes ∷ []
map_push [] bytes = refl
map_push (h ∷ hs) bytes = ap (λ xs. Some h ∷ xs) (map_push hs bytes)

pub swap_fails : (old : Kept) (heads : List (List ℕ)) (bytes : List ℕ) → heads ≡ old.heads ++ bytes ∷ [] → SwapFails bytes (image_of old) (image_of (record old { heads = heads }))
swap_fails old heads bytes is =
    let path : map (λ h. Some h) heads ≡ map (λ h. Some h) old.heads ++ Some bytes ∷ [] = ap (λ hs. map (λ h. Some h) hs) is ∙ map_push old.heads bytes in
    inl (λ i. record (image_of old) { doubt = record (image_of old).doubt { heads = path i } })

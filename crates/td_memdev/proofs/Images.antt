-- The image of a store in memory after its tables changed.
use Rattle.std.proofs.Common.{◌≡◌, ℕ, Bool, true, false, if◌then◌else◌, ◌==◌, List, Option, Some, map, refl, sym, ap, ◌∙◌}
use mathlib.Core.Path.{fun_ext}
use Rattle.std.proofs.lemmas.Bool.{eqb-true}
use Rattle.td_outside.specs.Image.{Log, put}
use Rattle.td_memdev.specs.Kept.{Kept, image_of, log_entry, file_entry, log_of, is_fresh, is_gone, bytes_of, is_making, is_lost, readers_of, is_removed}
use Rattle.td_memdev.specs.declared.logs.LogEntry.{LogEntry}
use Rattle.td_memdev.specs.declared.files.FileEntry.{FileEntry}

if_of : {T A : Type 0} (f : T → A) (b : Bool) (x y : T) → f (if b then x else y) ≡ (if b then f x else f y)
if_of f true x y = refl
if_of f false x y = refl

-- a function of an entry that was put is put
pub put_of : {T A : Type 0} (f : T → A) (k : ℕ) (r : T) (new old : ℕ → T) → ((m : ℕ) → new m ≡ put k r old m) → ◌≡◌ {A = ℕ → A} (λ m. f (new m)) (put k (f r) (λ m. f (old m)))
put_of f k r new old h = fun_ext (λ m. ap f (h m) ∙ if_of f (m == k) r (old m))

keep_if : {T A : Type 0} (f : T → A) (k m : ℕ) (r : T) (old : ℕ → T) (b : Bool) → (m == k) ≡ b → f r ≡ f (old k) → f (if b then r else old m) ≡ f (old m)
keep_if f k m r old true is same = same ∙ ap (λ n. f (old n)) (sym (eqb-true m k is))
keep_if f k m r old false is same = refl

-- a function that tells an entry that was put from the old one by nothing is as it was
pub keep_of : {T A : Type 0} (f : T → A) (k : ℕ) (r : T) (new old : ℕ → T) → ((m : ℕ) → new m ≡ put k r old m) → f r ≡ f (old k) → ◌≡◌ {A = ℕ → A} (λ m. f (new m)) (λ m. f (old m))
keep_of f k r new old h same = fun_ext (λ m. ap f (h m) ∙ keep_if f k m r old (m == k) refl same)

-- an image whose logs changed
pub logs_change : (old : Kept) (logs : List LogEntry) (log : ℕ → Option Log) (fresh gone : ℕ → Bool) → (λ m. log_of (log_entry logs m)) ≡ log → (λ m. is_fresh (log_entry logs m)) ≡ fresh → (λ m. is_gone (log_entry logs m)) ≡ gone → (new : Kept) → new.head ≡ old.head → new.heads ≡ old.heads → new.files ≡ old.files → new.logs ≡ logs → image_of new ≡ record (image_of old) { logs = log; doubt = record (image_of old).doubt { fresh = fresh; gone = gone } }
logs_change old logs log fresh gone l f g new head heads files is =
    λ i. record {
      head = head i;
      logs = (ap (λ ls. λ m. log_of (log_entry ls m)) is ∙ l) i;
      files = λ m. bytes_of (file_entry (files i) m);
      making = λ m. is_making (file_entry (files i) m);
      readers = λ m. readers_of (file_entry (files i) m);
      doubt = record {
        heads = map (λ h. Some h) (heads i);
        fresh = (ap (λ ls. λ m. is_fresh (log_entry ls m)) is ∙ f) i;
        gone = (ap (λ ls. λ m. is_gone (log_entry ls m)) is ∙ g) i;
        strays = λ m. is_lost (file_entry (files i) m);
        removed = λ m. is_removed (file_entry (files i) m);
      };
    }

-- an image whose files changed
pub files_change : (old : Kept) (files : List FileEntry) (bytes : ℕ → Option (List ℕ)) (making : ℕ → Bool) (readers : ℕ → ℕ) (strays removed : ℕ → Bool) → (λ m. bytes_of (file_entry files m)) ≡ bytes → (λ m. is_making (file_entry files m)) ≡ making → (λ m. readers_of (file_entry files m)) ≡ readers → (λ m. is_lost (file_entry files m)) ≡ strays → (λ m. is_removed (file_entry files m)) ≡ removed → (new : Kept) → new.head ≡ old.head → new.heads ≡ old.heads → new.logs ≡ old.logs → new.files ≡ files → image_of new ≡ record (image_of old) { files = bytes; making = making; readers = readers; doubt = record (image_of old).doubt { strays = strays; removed = removed } }
files_change old files bytes making readers strays removed b m r s d new head heads logs is =
    λ i. record {
      head = head i;
      logs = λ n. log_of (log_entry (logs i) n);
      files = (ap (λ fs. λ n. bytes_of (file_entry fs n)) is ∙ b) i;
      making = (ap (λ fs. λ n. is_making (file_entry fs n)) is ∙ m) i;
      readers = (ap (λ fs. λ n. readers_of (file_entry fs n)) is ∙ r) i;
      doubt = record {
        heads = map (λ h. Some h) (heads i);
        fresh = λ n. is_fresh (log_entry (logs i) n);
        gone = λ n. is_gone (log_entry (logs i) n);
        strays = (ap (λ fs. λ n. is_lost (file_entry fs n)) is ∙ s) i;
        removed = (ap (λ fs. λ n. is_removed (file_entry fs n)) is ∙ d) i;
      };
    }

-- an image of which nothing changed that it tells
pub same_image : (old new : Kept) → new.head ≡ old.head → new.heads ≡ old.heads → new.logs ≡ old.logs → new.files ≡ old.files → image_of new ≡ image_of old
same_image old new head heads logs files = λ i. image_of (record old { head = head i; heads = heads i; logs = logs i; files = files i })

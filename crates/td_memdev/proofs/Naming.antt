-- The names of the finished files, and a store that is made of parts.
use Rattle.std.proofs.Common.{◌≡◌, ℕ, suc, zero, Bool, true, false, if◌then◌else◌, ◌==◌, List, [], ◌∷◌, ◌++◌, take, map, Option, Some, None, is_some, slice_get, refl, sym, ap, ◌∙◌, subst}
use Rattle.std.proofs.lemmas.Bool.{eq-eqb, eqb-true, eqb-false, ne_eqb}
use Rattle.std.specs.Option.{option_map}
use Rattle.td_outside.specs.Crash.{stable_log}
use Rattle.td_outside.specs.Files.{lists, IsOnce, NamesFiles}
use Rattle.td_memdev.specs.Tables.{find, IsTable}
use Rattle.td_memdev.specs.Track.{Track}
use Rattle.td_memdev.specs.Kept.{Kept, image_of, log_of, is_fresh, is_gone, bytes_of, is_making, is_lost, readers_of, is_removed, state_bytes}
use Rattle.td_memdev.specs.Entries.{numbers_of, stable_entry, finished_entry}
use Rattle.td_memdev.specs.Parts.{parts_image}
use Rattle.td_memdev.specs.declared.files.FileEntry.{FileEntry}
use Rattle.td_memdev.proofs.Finding.{find_map}

same_eqb : (a b : ℕ) → (a == b) ≡ (b == a)
same_eqb a b = by_test (b == a) refl
  where
    by_test : (t : Bool) → (b == a) ≡ t → (a == b) ≡ (b == a)
    by_test true is = eq-eqb a b (sym (eqb-true b a is)) ∙ sym is
    by_test false is = ne_eqb a b (λ e. eqb-false b a is (sym e)) ∙ sym is

file_number : FileEntry → ℕ
file_number entry = entry.number

-- whether the number is listed, by whether the first entry is of the number and finished
one_more : (n : ℕ) (e : FileEntry) (rest : List ℕ) (found : Option FileEntry) (done is : Bool) → is_some (state_bytes e.state) ≡ done → (n == e.number) ≡ is → lists n rest ≡ is_some (bytes_of found) → (is ≡ true → bytes_of found ≡ None) → lists n (if done then e.number ∷ rest else rest) ≡ is_some (bytes_of (if is then Some e else found))
one_more n e rest found true true done test h none = rw (same_eqb e.number n ∙ test) (sym done)
one_more n e rest found true false done test h none = rw (same_eqb e.number n ∙ test) h
one_more n e rest found false true done test h none = h ∙ ap is_some (none refl) ∙ sym done
one_more n e rest found false false done test h none = h

pub lists-numbers_of : (n : ℕ) (files : List FileEntry) → IsTable (λ e. e.number) files → lists n (numbers_of files) ≡ is_some (bytes_of (find (λ e. e.number) n files))
lists-numbers_of n [] table = refl
lists-numbers_of n (e ∷ es) table =
    one_more n e (numbers_of es) (find (λ x. x.number) n es) (is_some (state_bytes e.state)) (n == e.number) refl refl (lists-numbers_of n es table.1)
    (λ is. ap (λ k. bytes_of (find (λ x. x.number) k es)) (eqb-true n e.number is) ∙ ap bytes_of table.0)

once_more : (e : FileEntry) (rest : List ℕ) (done : Bool) → lists e.number rest ≡ false → IsOnce rest → IsOnce (if done then e.number ∷ rest else rest)
once_more e rest true none once = (none, once)
once_more e rest false none once = once

pub IsOnce-numbers_of : (files : List FileEntry) → IsTable (λ e. e.number) files → IsOnce (numbers_of files)
IsOnce-numbers_of [] table = tt
IsOnce-numbers_of (e ∷ es) table =
    once_more e (numbers_of es) (is_some (state_bytes e.state)) (lists-numbers_of e.number es table.1 ∙ ap (λ r. is_some (bytes_of r)) table.0) (IsOnce-numbers_of es table.1)

pub names_are : (kept : Kept) (names : List ℕ) → names ≡ numbers_of kept.files → IsTable (λ e. e.number) kept.files → NamesFiles names (image_of kept)
names_are kept names is table =
    subst (λ ns. NamesFiles ns (image_of kept)) (sym is) (record { each = λ n. lists-numbers_of n kept.files table; once = IsOnce-numbers_of kept.files table })

none_some : {T : Type 0} (x : T) → None ≡ Some x → ⊥
none_some x h = cc

if_more : (done : Bool) (x : ℕ) (xs ys : List ℕ) → (if done then x ∷ (xs ++ ys) else xs ++ ys) ≡ (if done then x ∷ xs else xs) ++ ys
if_more true x xs ys = refl
if_more false x xs ys = refl

-- after one more entry
pub numbers_more : (i : ℕ) (files : List FileEntry) (e : FileEntry) → slice_get files i ≡ Some e → numbers_of (take (suc i) files) ≡ numbers_of (take i files) ++ (if is_some (state_bytes e.state) then e.number ∷ [] else [])
numbers_more i [] e there = absurd (none_some e there)
numbers_more zero (x ∷ xs) e there = ap (λ (o : Option FileEntry). numbers_in o) there
  where
    numbers_in : Option FileEntry → List ℕ
    numbers_in None = []
    numbers_in (Some y) = (if is_some (state_bytes y.state) then y.number ∷ [] else [])
numbers_more (suc i) (x ∷ xs) e there =
    ap (λ ns. if is_some (state_bytes x.state) then x.number ∷ ns else ns) (numbers_more i xs e there)
    ∙ if_more (is_some (state_bytes x.state)) x.number (numbers_of (take i xs)) (if is_some (state_bytes e.state) then e.number ∷ [] else [])

log_part : (r : Option (ℕ × List ℕ)) → log_of (option_map stable_entry r) ≡ option_map (λ p. stable_log p.1) r
log_part None = refl
log_part (Some p) = refl

fresh_part : (r : Option (ℕ × List ℕ)) → is_fresh (option_map stable_entry r) ≡ false
fresh_part None = refl
fresh_part (Some p) = refl

gone_part : (r : Option (ℕ × List ℕ)) → is_gone (option_map stable_entry r) ≡ false
gone_part None = refl
gone_part (Some p) = refl

bytes_part : (r : Option (ℕ × List ℕ)) → bytes_of (option_map finished_entry r) ≡ option_map (λ p. p.1) r
bytes_part None = refl
bytes_part (Some p) = refl

making_part : (r : Option (ℕ × List ℕ)) → is_making (option_map finished_entry r) ≡ false
making_part None = refl
making_part (Some p) = refl

readers_part : (r : Option (ℕ × List ℕ)) → readers_of (option_map finished_entry r) ≡ 0
readers_part None = refl
readers_part (Some p) = refl

lost_part : (r : Option (ℕ × List ℕ)) → is_lost (option_map finished_entry r) ≡ false
lost_part None = refl
lost_part (Some p) = refl

removed_part : (r : Option (ℕ × List ℕ)) → is_removed (option_map finished_entry r) ≡ false
removed_part None = refl
removed_part (Some p) = refl

-- the image of a store that is made of parts
pub parts_are : (head : Option (List ℕ)) (logs files : List (ℕ × List ℕ)) (made : ℕ) (track : Track) → image_of (record { head = head; heads = []; logs = map stable_entry logs; files = map finished_entry files; made = made; track = track }) ≡ parts_image head logs files
parts_are head logs files made track =
    let log : (n : ℕ) → find (λ e. e.number) n (map stable_entry logs) ≡ option_map stable_entry (find (λ p. p.0) n logs) = λ n. find_map stable_entry (λ p. p.0) (λ e. e.number) (λ p. refl) n logs in
    let file : (n : ℕ) → find (λ e. e.number) n (map finished_entry files) ≡ option_map finished_entry (find (λ p. p.0) n files) = λ n. find_map finished_entry (λ p. p.0) (λ e. e.number) (λ p. refl) n files in
    λ i. record {
      head = head;
      logs = λ n. (ap log_of (log n) ∙ log_part (find (λ p. p.0) n logs)) i;
      files = λ n. (ap bytes_of (file n) ∙ bytes_part (find (λ p. p.0) n files)) i;
      making = λ n. (ap is_making (file n) ∙ making_part (find (λ p. p.0) n files)) i;
      readers = λ n. (ap readers_of (file n) ∙ readers_part (find (λ p. p.0) n files)) i;
      doubt = record {
        heads = [];
        fresh = λ n. (ap is_fresh (log n) ∙ fresh_part (find (λ p. p.0) n logs)) i;
        gone = λ n. (ap is_gone (log n) ∙ gone_part (find (λ p. p.0) n logs)) i;
        strays = λ n. (ap is_lost (file n) ∙ lost_part (find (λ p. p.0) n files)) i;
        removed = λ n. (ap is_removed (file n) ∙ removed_part (find (λ p. p.0) n files)) i;
      };
    }

pub some_map : {T U : Type 0} (f : T → U) (o : Option T) → is_some (option_map f o) ≡ is_some o
some_map f None = refl
some_map f (Some x) = refl

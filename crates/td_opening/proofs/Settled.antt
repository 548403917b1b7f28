-- What settling leaves of the head, the named files and the first two logs of an image.
use Rattle.std.proofs.Common.{◌≡◌, ℕ, ◌+◌, ◌-◌, ◌≤◌, Bool, true, false, cond, eqb, List, [], ◌∷◌, ◌++◌, map, reverse, Option, Some, None, refl, sym, ap, subst, ◌∙◌, arith}
use Rattle.std.specs.Prelude.{All, is_some, IsSome}
use Rattle.std.specs.Option.{option_map}
use Rattle.std.specs.List.{flat_map}
use Rattle.std.proofs.lemmas.Bool.{eq-eqb, ne_eqb, cond-true, cond-false, or_left, or_right}
use Rattle.std.proofs.lemmas.List.Elements.{All-nil, All-cons, All-head, All-tail, All-append, All-from_recursion, recursion_from_All}
use Rattle.td_outside.specs.Image.{Log, Image, put}
use Rattle.td_outside.specs.Files.{lists, IsFinished}
use Rattle.td_outside.specs.Logs.{after_sync, with_log, after_log_drop}
use Rattle.td_manifest.specs.declared.head.Head.{Head}
use Rattle.td_manifest.specs.declared.head.HeadSet.{HeadSet}
use Rattle.td_manifest.specs.Files.{main_file, files_of, all_files}
use Rattle.td_printed.proofs.Rows.{all_reversed}
use Rattle.td_levels.specs.Levels.{SetFiles}
use Rattle.td_stands.specs.Heads.{HeadIs, set_files}
use Rattle.td_stands.specs.Breaks.{HeadStands}
use Rattle.td_active.specs.Stored.{names_of, AreFinished}
use Rattle.td_opening.specs.Opening.{Sweeps, Swept, synced, dropped}
use Rattle.td_opening.proofs.LogsSettled.{drop_other, drop_own, drop_head, drop_files, first_not_second, second_not_first, first_not_before, second_not_before}

-- ---- the logs

put_other : {A : Type 0} (n m : ℕ) (x : A) (map : ℕ → A) → eqb m n ≡ false → put n x map m ≡ map m
put_other n m x map other = cond-false (eqb m n) x (map m) other

put_own : {A : Type 0} (n : ℕ) (x : A) (map : ℕ → A) → put n x map n ≡ x
put_own n x map = cond-true (eqb n n) x (map n) (eq-eqb n n refl)

-- the image whose first two logs are synced and the log before them is gone
abbrev without_before : ℕ → Image → Image
without_before fl old = after_log_drop (fl - 1) (synced fl old)

synced_first : (fl : ℕ) (old : Image) → (synced fl old).logs fl ≡ option_map after_sync (old.logs fl)
synced_first fl old =
    let one = with_log fl after_sync old in
    put_other (fl + 1) fl (option_map after_sync (one.logs (fl + 1))) one.logs (first_not_second fl) ∙ put_own fl (option_map after_sync (old.logs fl)) old.logs

synced_second : (fl : ℕ) (old : Image) → (synced fl old).logs (fl + 1) ≡ option_map after_sync (old.logs (fl + 1))
synced_second fl old =
    let one = with_log fl after_sync old in
    put_own (fl + 1) (option_map after_sync (one.logs (fl + 1))) one.logs
    ∙ ap (λ (o : Option Log). option_map after_sync o) (put_other fl (fl + 1) (option_map after_sync (old.logs fl)) old.logs (second_not_first fl))

first_stays : (fl : ℕ) (old : Image) → 1 ≤ fl → (without_before fl old).logs fl ≡ option_map after_sync (old.logs fl)
first_stays fl old one = drop_other (fl - 1) fl (synced fl old) (first_not_before fl one) ∙ synced_first fl old

dropped_first : (fl : ℕ) (drops : Bool) (old : Image) → 1 ≤ fl → (dropped fl drops (synced fl old)).logs fl ≡ option_map after_sync (old.logs fl)
dropped_first fl false old one = first_stays fl old one
dropped_first fl true old one = drop_other (fl + 1) fl (without_before fl old) (first_not_second fl) ∙ first_stays fl old one

dropped_second : (fl : ℕ) (drops : Bool) (old : Image) → drops ≡ false → (dropped fl drops (synced fl old)).logs (fl + 1) ≡ option_map after_sync (old.logs (fl + 1))
dropped_second fl false old stays = drop_other (fl - 1) (fl + 1) (synced fl old) (second_not_before fl) ∙ synced_second fl old
dropped_second fl true old stays = absurd cc

dropped_gone : (fl : ℕ) (drops : Bool) (old : Image) → drops ≡ true → (dropped fl drops (synced fl old)).logs (fl + 1) ≡ None
dropped_gone fl false old goes = absurd cc
dropped_gone fl true old goes = drop_own (fl + 1) (without_before fl old)

before_is : (fl n : ℕ) → n + 1 ≡ fl → fl - 1 ≡ n
before_is fl n e = omega arith

not_second : (fl n : ℕ) → n + 1 ≡ fl → eqb n (fl + 1) ≡ false
not_second fl n e = ne_eqb n (fl + 1) (λ same. absurd (omega (arith, e, same)))

before_gone : (fl n : ℕ) (old : Image) → n + 1 ≡ fl → (without_before fl old).logs n ≡ None
before_gone fl n old e = subst (λ (k : ℕ). (without_before fl old).logs k ≡ None) (before_is fl n e) (drop_own (fl - 1) (synced fl old))

dropped_before : (fl : ℕ) (drops : Bool) (old : Image) (n : ℕ) → n + 1 ≡ fl → (dropped fl drops (synced fl old)).logs n ≡ None
dropped_before fl false old n e = before_gone fl n old e
dropped_before fl true old n e = drop_other (fl + 1) n (without_before fl old) (not_second fl n e) ∙ before_gone fl n old e

dropped_head : (fl : ℕ) (drops : Bool) (old : Image) → (dropped fl drops (synced fl old)).head ≡ old.head
dropped_head fl false old = drop_head (fl - 1) (synced fl old)
dropped_head fl true old = drop_head (fl + 1) (without_before fl old) ∙ drop_head (fl - 1) (synced fl old)

dropped_files : (fl : ℕ) (drops : Bool) (old : Image) → (dropped fl drops (synced fl old)).files ≡ old.files
dropped_files fl false old = drop_files (fl - 1) (synced fl old)
dropped_files fl true old = drop_files (fl + 1) (without_before fl old) ∙ drop_files (fl - 1) (synced fl old)

-- ---- what is left

-- an image has the head of another and the files that this names; the first two logs are stable, but for a second one
-- that is gone, and the log before them is gone
pub record Leaves (h : Head) (drops : Bool) (old new : Image) : Type 0 where
  pub head : new.head ≡ old.head
  pub files : (n : ℕ) → lists n (all_files h.sets) ≡ true → new.files n ≡ old.files n
  pub first : new.logs h.first_log ≡ option_map after_sync (old.logs h.first_log)
  pub second : drops ≡ false → new.logs (h.first_log + 1) ≡ option_map after_sync (old.logs (h.first_log + 1))
  pub gone : drops ≡ true → new.logs (h.first_log + 1) ≡ None
  pub before : (n : ℕ) → n + 1 ≡ h.first_log → new.logs n ≡ None

pub leaves : (h : Head) (drops : Bool) (old new : Image) → 1 ≤ h.first_log → Swept (all_files h.sets) (dropped h.first_log drops (synced h.first_log old)) new → Leaves h drops old new
leaves h drops old new one swept =
    let fl = h.first_log in
    let logs : (n : ℕ) → new.logs n ≡ (dropped fl drops (synced fl old)).logs n = λ n. ap (λ (x : Image). x.logs n) swept.sweeps.rest in
    record {
      head = ap (λ (x : Image). x.head) swept.sweeps.rest ∙ dropped_head fl drops old;
      files = λ n is. swept.sweeps.kept n is ∙ ap (λ (f : ℕ → Option (List ℕ)). f n) (dropped_files fl drops old);
      first = logs fl ∙ dropped_first fl drops old one;
      second = λ stays. logs (fl + 1) ∙ dropped_second fl drops old stays;
      gone = λ goes. logs (fl + 1) ∙ dropped_gone fl drops old goes;
      before = λ n e. logs n ∙ dropped_before fl drops old n e;
    }

-- the same numbers stay
pub swept_by : (named others : List ℕ) (old new : Image) → ((n : ℕ) → lists n named ≡ lists n others) → Swept named old new → Swept others old new
swept_by named others old new same swept = record {
  sweeps = record { rest = swept.sweeps.rest; kept = λ n is. swept.sweeps.kept n (same n ∙ is) };
  gone = λ n free. swept.gone n (same n ∙ free);
}

-- ---- the files

finished_still : (old new : Image) (names : List ℕ) → ((n : ℕ) → lists n names ≡ true → new.files n ≡ old.files n) → All (λ (n : ℕ). IsFinished n old) names → All (λ (n : ℕ). IsFinished n new) names
finished_still old new [] same all = All-nil (λ (n : ℕ). IsFinished n new)
finished_still old new (x ∷ xs) same all =
    All-cons (λ (n : ℕ). IsFinished n new) x xs
    (subst (λ (o : Option (List ℕ)). IsSome o) (sym (same x (or_left (eqb x x) (lists x xs) (eq-eqb x x refl)))) (All-head (λ (n : ℕ). IsFinished n old) x xs all))
    (finished_still old new xs (λ n is. same n (or_right (eqb x n) (lists n xs) is)) (All-tail (λ (n : ℕ). IsFinished n old) x xs all))

pub head_still : (h : Head) (drops : Bool) (old new : Image) → Leaves h drops old new → HeadStands old h → HeadStands new h
head_still h drops old new left stands = record {
  head = subst (λ (o : Option (List ℕ)). HeadIs o h) (sym left.head) stands.head;
  finished = finished_still old new (all_files h.sets) left.files stands.finished;
  no_streams = stands.no_streams;
}

module _ (P : ℕ → Type 0) where
  front : (xs ys : List ℕ) → All P (xs ++ ys) → All P xs
  front [] ys all = All-nil P
  front (x ∷ xs) ys all = All-cons P x xs (All-head P x (xs ++ ys) all) (front xs ys (All-tail P x (xs ++ ys) all))

  back : (xs ys : List ℕ) → All P (xs ++ ys) → All P ys
  back [] ys all = all
  back (x ∷ xs) ys all = back xs ys (All-tail P x (xs ++ ys) all)

  turned : (xs : List ℕ) → All P xs → All P (reverse xs)
  turned xs all = All-from_recursion P (reverse xs) (all_reversed P xs (recursion_from_All P xs all))

  set_names : (range : ℕ) (stt : List ℕ) (main : Option ℕ) → All P (main_file main) → All P stt → All P (names_of (record { range = range; stt = reverse stt; main = main }))
  set_names range stt None own all = All-append P (reverse stt) [] (turned stt all) (All-nil P)
  set_names range stt (Some n) own all = All-append P (reverse stt) (n ∷ []) (turned stt all) own

  sets_names : (sets : List HeadSet) → All P (all_files sets) → All (λ (s : SetFiles). All P (names_of s)) (map set_files sets)
  sets_names [] all = All-nil (λ (s : SetFiles). All P (names_of s))
  sets_names (s ∷ ss) all =
      let own = front (files_of s) (all_files ss) all in
      All-cons (λ (x : SetFiles). All P (names_of x)) (set_files s) (map set_files ss)
      (set_names s.range s.stt s.main (front (main_file s.main) s.stt own) (back (main_file s.main) s.stt own))
      (sets_names ss (back (files_of s) (all_files ss) all))

-- the files of a head's sets are finished
pub sets_finished : (image : Image) (h : Head) (sets : List SetFiles) → sets ≡ map set_files h.sets → HeadStands image h → AreFinished sets image
sets_finished image h sets is stands =
    subst (λ (l : List SetFiles). AreFinished l image) (sym is) (sets_names (λ (n : ℕ). IsFinished n image) h.sets stands.finished)

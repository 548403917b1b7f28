-- What a run of the program is, by its words.
use Rattle.std.proofs.Common.{◌≡◌, inl, ℕ, Bool, true, false, cond, ◌&&◌, List, [], ◌∷◌, map, drop, Option, Some, None, refl, sym, ap, ◌∙◌, subst, codes}
use Rattle.std.specs.Prelude.{is_some, IsSome}
use Rattle.std.specs.Str.{bytes_eq}
use Rattle.td_words.specs.Words.{is_dir, as_dir, dir_of}
use Rattle.td_top.specs.Stream.{TookFew, GaveFew}
use Rattle.td_top.specs.Status.{Outside, Says, writes, enters}
use Rattle.td_top.specs.Run.{Devices, Runs}
use Rattle.td_top.specs.declared.status.Status.{Status}
use Rattle.td_top.specs.declared.status.Status.TheVariants as status
use Rattle.td_top.proofs.Complete.{completes}
use Rattle.td_top.proofs.Streams.{took_none, gave_none}

no_usage : (readings : Option (List ℕ)) (before after : Outside) (s : Status) → Says readings before after s → s ≡ status.Usage → ⊥
no_usage readings before after s says is = subst (Says readings before after) is says

-- with the words of a command
pub ran : {I O P : Type 0} (dir : List ℕ) (readings : Option (List ℕ)) (before after : Devices I O P) (s : Status) → is_dir dir ≡ true → Says readings before.outside after.outside s → TookFew before.outside.left after.outside.left → GaveFew before.outside.given after.outside.given → (writes s ≡ false → after.out ≡ before.out) → (enters s ≡ false → after.place ≡ before.place) → Runs (as_dir dir) readings before after s
ran dir readings before after s is says few given sink place =
    let some : as_dir dir ≡ Some dir = ap (λ x. cond x (Some dir) None) is in
    record {
      usage = ((λ usage. absurd (no_usage readings before.outside after.outside s says usage)), (λ none. cc));
      unread = λ usage. absurd (no_usage readings before.outside after.outside s says usage);
      says = λ _. says;
      complete = λ _. completes readings before.outside after.outside s says;
      few = few;
      given = given;
      sink = sink;
      place = place;
    }

-- with words that are no command
pub no_command : {I O P : Type 0} (dir : Option (List ℕ)) (readings : Option (List ℕ)) (devices : Devices I O P) → dir ≡ None → Runs dir readings devices devices status.Usage
no_command dir readings devices none = record {
  usage = ((λ _. none), (λ _. refl));
  unread = λ _. refl;
  says = λ some. absurd (no (subst IsSome none some));
  complete = λ some. absurd (no (subst IsSome none some));
  few = took_none devices.outside.left;
  given = gave_none devices.outside.given;
  sink = λ _. refl;
  place = λ _. refl;
} where
  no : false ≡ true → ⊥
  no e = cc

-- with the words of a command, for which there was no memory
pub starved : {I O P : Type 0} (dir : Option (List ℕ)) (readings : Option (List ℕ)) (devices : Devices I O P) → is_some dir ≡ true → Runs dir readings devices devices status.NoMemory
starved dir readings devices some =
    let says : Says readings devices.outside devices.outside status.NoMemory = inl (refl, refl) in
    record {
      usage = ((λ usage. cc), (λ none. let no : is_some dir ≡ false = ap is_some none in cc));
      unread = λ usage. cc;
      says = λ _. says;
      complete = λ _. completes readings devices.outside devices.outside status.NoMemory says;
      few = took_none devices.outside.left;
      given = gave_none devices.outside.given;
      sink = λ _. refl;
      place = λ _. refl;
    }

named_dir : (b : Bool) (dir named : List ℕ) → cond (b && is_dir dir) (Some dir) None ≡ Some named → as_dir named ≡ Some named
named_dir false dir named e = cc
named_dir true dir named e = elim (is_dir dir) as (λ d. is_dir dir ≡ d → cond d (Some dir) None ≡ Some named → as_dir named ≡ Some named) [
  | true ↦ λ is e. let same : dir ≡ named = cc in ap (λ x. cond x (Some named) None) (ap is_dir (sym same) ∙ is)
  | false ↦ λ is e. cc
] refl e

-- the directory that the words name is one
pub named : (words : List (List ℕ)) (dir : List ℕ) → Some dir ≡ dir_of words → as_dir dir ≡ dir_of words
named [] dir e = cc
named (word ∷ []) dir e = cc
named (word ∷ dir' ∷ []) dir e = named_dir (bytes_eq word (codes "play")) dir' dir (sym e) ∙ e
named (word ∷ dir' ∷ other ∷ words) dir e = cc

pub map-drop : {A B : Type 0} (f : A → B) (xs : List A) → map f (drop 1 xs) ≡ drop 1 (map f xs)
map-drop f [] = refl
map-drop f (x ∷ xs) = refl

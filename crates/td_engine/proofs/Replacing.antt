-- What the store tells as the files of the frozen memtable take its place.
use Rattle.std.proofs.Common.{◌≡◌, inl, inr, ℕ, ◌+◌, ◌-◌, ◌≤◌, List, [], ◌∷◌, map, Option, Some, None, All, refl, sym, ap, subst, ◌∙◌, arith}
use Rattle.std.specs.Prelude.{IfSome, IsSome}
use Rattle.td_model.specs.State.{State, step}
use Rattle.td_told.specs.Journal.{halt_at}
use Rattle.td_limits.specs.declared.limits.TheConstants.{LAST_TIMESTAMP}
use Rattle.td_outside.specs.Image.{Image, Along, Becomes}
use Rattle.td_outside.specs.Files.{SwapFails}
use Rattle.td_outside.specs.Causes.{Rose, raised}
use Rattle.td_manifest.specs.declared.head.Head.{Head}
use Rattle.td_commit.specs.declared.frozen.Frozen.{Frozen}
use Rattle.td_commit.specs.Files.{AreFilesOf}
use Rattle.td_fileset.specs.declared.file_set.FileSet.{FileSet}
use Rattle.td_levels.specs.Levels.{SetFiles, Levels}
use Rattle.td_levels.specs.Sets.{sets_of}
use Rattle.td_levels.specs.Ranges.{with_files, sets_from, installed}
use Rattle.td_making.specs.Making.{AddsSome, Adds, IsNextHead, after_swaps, after_failed_drop}
use Rattle.td_state.specs.Held.{bare}
use Rattle.td_active.specs.declared.active_log.ActiveLog.{ActiveLog}
use Rattle.td_active.specs.Active.{IsActive}
use Rattle.td_active.specs.Stored.{AreFinished, IsStored}
use Rattle.td_engine.specs.CoreState.{CoreState, IsKept}
use Rattle.td_engine.specs.Commits.{KeepsFiles}
use Rattle.td_engine.specs.Installs.{AreNow, IsInstalled}
use Rattle.td_engine.proofs.Images.{along}
use Rattle.td_engine.proofs.Added.{adds_keep, stored_more}
use Rattle.td_engine.proofs.Swapped.{SwapsTo}
use Rattle.td_engine.proofs.Installed.{done_swaps, done_drops, failed_drop_swaps, IsReady, keeps_standing, now_finished, all_finished, now_head, now_active}
use Rattle.td_engine.proofs.Placing.{IsOver, next_of, stored_now}

pub keeps_then : (a b c : Image) → KeepsFiles a b → KeepsFiles b c → KeepsFiles a c
keeps_then a b c p q = record {
  stands = λ s is. q.stands s (p.stands s is);
  kept = λ n some. q.kept n (subst (λ (o : Option (List ℕ)). IsSome o) (sym (p.kept n some)) some) ∙ p.kept n some;
  readers = q.readers ∙ p.readers;
}

pub along_then : (R P Q : Image → Image → Type 0) (x y z : Option Image) → ((a b c : Image) → R a b → P b c → Q a c) → Along R x y → Along P y z → Along Q x z
along_then R P Q None None None f r p = tt
along_then R P Q None None (Some c) f r p = absurd p
along_then R P Q None (Some b) z f r p = absurd r
along_then R P Q (Some a) None z f r p = absurd r
along_then R P Q (Some a) (Some b) None f r p = absurd p
along_then R P Q (Some a) (Some b) (Some c) f r p = f a b c r p

-- what an image is once the head is swapped
pub record IsReplaced (f : Frozen) (numbers : List ℕ) (sets : List SetFiles) (a b : Image) : Type 0 where
  pub keeps : KeepsFiles a b
  pub finished : AreFinished sets b
  pub files : AreNow f numbers a b

-- the same, and the older log is gone
pub record IsDone (f : Frozen) (numbers : List ℕ) (sets : List SetFiles) (active : Image → Type 0) (a b : Image) : Type 0 where
  pub replaced : IsReplaced f numbers sets a b
  pub installed_is : IsInstalled f numbers a b
  pub active_is : active b

-- what is so of the image that is told now
pub now_so : (R : Image → Image → Type 0) (P : Image → Type 0) (old new : Option Image) → ((a b : Image) → R a b → P b) → Along R old new → IfSome new P
now_so R P None None f r = tt
now_so R P (Some a) (Some b) f r = f a b r
now_so R P None (Some b) f r = absurd r
now_so R P (Some a) None f r = absurd r

module _ (s : State) (l : Levels) (committed : ℕ) (sealed : Option Head) (h : Head) (place : ActiveLog) (f : Frozen) (c : CoreState) (numbers : List ℕ) (contents : List (Option (List ℕ))) (sets : List FileSet) (bytes : List ℕ) where
  abbrev pub new_sets : List SetFiles
  new_sets = sets_from h.edge (with_files f.ranges numbers l.sets)

  abbrev pub next : Head
  next = next_of s l committed sealed h place f c numbers contents sets bytes

  abbrev pub Ready : Image → Type 0
  Ready a = IsReady a place s l committed h f numbers next bytes

  now_files : (a b : Image) → b.files ≡ a.files → Ready a → AreNow f numbers a b
  now_files a b same is = record {
    told = subst (λ (fs : ℕ → Option (List ℕ)). All (λ (n : ℕ). IsSome (fs n)) numbers) (sym same) is.told;
    befores = is.befores;
    files_are = subst (λ (fs : ℕ → Option (List ℕ)). AreFilesOf f f.ranges is.befores (map fs numbers)) (sym same) is.files_are;
  }

  replaced : (a b : Image) → Ready a → SwapsTo bytes (h.first_log - 1) a b → IsReplaced f numbers new_sets a b
  replaced a b is swaps = record {
    keeps = keeps_standing a b place s l committed h f numbers next bytes is swaps;
    finished = now_finished a b place s l committed h f numbers next bytes is swaps;
    files = now_files a b swaps.files is;
  }

  gone : (a b : Image) → b ≡ after_swaps bytes (h.first_log - 1) a → (n : ℕ) → n + 1 ≡ h.first_log → b.logs n ≡ None
  gone a b e n is = ap (λ (x : Image). x.logs n) e ∙ subst (λ (m : ℕ). (after_swaps bytes (h.first_log - 1) a).logs m ≡ None) (sym (before n h.first_log is)) (done_drops bytes (h.first_log - 1) a)
    where
      before : (x y : ℕ) → x + 1 ≡ y → x ≡ y - 1
      before x y e = omega arith

  done_one : (a b : Image) → f.version ≡ h.version → Ready a → b ≡ after_swaps bytes (h.first_log - 1) a → IsDone f numbers new_sets (λ (b : Image). IsActive b place s (installed f.ranges numbers h.edge l) h.version None) a b
  done_one a b version is e =
      let swaps = subst (λ (x : Image). SwapsTo bytes (h.first_log - 1) a x) (sym e) (done_swaps bytes (h.first_log - 1) a) in
      let now = replaced a b is swaps in
      record {
        replaced = now;
        installed_is = record {
          keeps = now.keeps;
          head = next;
          head_is = now_head a b place s l committed h f numbers next bytes is swaps;
          version = sym version;
          finished = all_finished a b place s l committed h f numbers next bytes is swaps;
          dropped = gone a b e;
          files = now.files;
        };
        active_is = now_active a b place s l committed h f numbers next bytes is swaps (gone a b e);
      }

  pub done_told : (mid new : Option Image) → f.version ≡ h.version → IfSome mid Ready → Becomes (after_swaps bytes (h.first_log - 1)) mid new → Along (IsDone f numbers new_sets (λ (b : Image). IsActive b place s (installed f.ranges numbers h.edge l) h.version None)) mid new
  done_told None None version is e = tt
  done_told None (Some b) version is e = absurd e
  done_told (Some a) None version is e = absurd e
  done_told (Some a) (Some b) version is e = done_one a b version is e

  pub not_dropped_told : (mid new : Option Image) → IfSome mid Ready → Becomes (after_failed_drop bytes (h.first_log - 1)) mid new → Along (IsReplaced f numbers new_sets) mid new
  not_dropped_told None None is e = tt
  not_dropped_told None (Some b) is e = absurd e
  not_dropped_told (Some a) None is e = absurd e
  not_dropped_told (Some a) (Some b) is e = replaced a b is (subst (λ (x : Image). SwapsTo bytes (h.first_log - 1) a x) (sym e) (failed_drop_swaps bytes (h.first_log - 1) a))

  fails_one : (a b : Image) → Ready a → SwapFails bytes a b → KeepsFiles a b × AreFinished l.sets b
  fails_one a b is fails = elim fails [
    | inl e ↦ (
      adds_keep a b (record { head = ap (λ (x : Image). x.head) e; logs = ap (λ (x : Image). x.logs) e; readers = ap (λ (x : Image). x.readers) e; kept = λ n some. ap (λ (x : Image). x.files n) e }),
      subst (λ (fs : ℕ → Option (List ℕ)). AreFinished l.sets (record b { files = fs })) (sym (ap (λ (x : Image). x.files) e)) is.finished,
    )
    | inr e ↦ (
      keeps_standing a b place s l committed h f numbers next bytes is (record { head = ap (λ (x : Image). x.head) e; files = ap (λ (x : Image). x.files) e; readers = ap (λ (x : Image). x.readers) e; logs = λ n ne. ap (λ (x : Image). x.logs n) e }),
      subst (λ (fs : ℕ → Option (List ℕ)). AreFinished l.sets (record b { files = fs })) (sym (ap (λ (x : Image). x.files) e)) is.finished,
    )
  ]

  pub not_swapped_told : (mid new : Option Image) → IfSome mid Ready → Along (SwapFails bytes) mid new → Along (λ a b. KeepsFiles a b × AreFinished l.sets b) mid new
  not_swapped_told None None is e = tt
  not_swapped_told None (Some b) is e = absurd e
  not_swapped_told (Some a) None is e = absurd e
  not_swapped_told (Some a) (Some b) is e = fails_one a b is e

  -- the levels with the new files, under a halt and without one
  pub placed_halted : (old mid new : Option Image) (floor : ℕ) → IsStored old s l committed sealed place → sealed ≡ Some h → IsOver s l committed h f c → IsNextHead l h f.ranges numbers sets bytes → f.version ≡ h.version → Along (Adds numbers contents) old mid → Along (IsReplaced f numbers new_sets) mid new
      → IsStored new (bare (step (s ∷ []) (halt_at floor))) (installed f.ranges numbers h.edge l) f.version None place
  placed_halted old mid new floor stored is over next_is version adds done =
      stored_now s l committed sealed h place f c numbers contents sets bytes mid new (bare (step (s ∷ []) (halt_at floor))) f.version (stored_more old mid s l committed sealed place (some_added old mid adds) stored) is over next_is version refl (next_version s.version)
      (λ going. absurd (let clash : ⊥ = cc in clash)) (λ going. absurd (let clash : ⊥ = cc in clash)) (now_so (IsReplaced f numbers new_sets) (AreFinished new_sets) mid new (λ a b p. p.finished) done)
    where
      next_version : (n : ℕ) → n ≤ n + 1
      next_version n = omega arith

      some_added : (old mid : Option Image) → Along (Adds numbers contents) old mid → Along AddsSome old mid
      some_added old mid adds = along (Adds numbers contents) AddsSome old mid (λ a b p. p.some) adds

  abbrev pub NowActive : Image → Type 0
  NowActive image = IsActive image place s (installed f.ranges numbers h.edge l) h.version None

  pub placed_now : (old mid new : Option Image) → IsStored old s l committed sealed place → sealed ≡ Some h → IsOver s l committed h f c → IsNextHead l h f.ranges numbers sets bytes → f.version ≡ h.version → Along (Adds numbers contents) old mid → Along (IsDone f numbers new_sets NowActive) mid new
      → IsStored new s (installed f.ranges numbers h.edge l) f.version None place
  placed_now old mid new stored is over next_is version adds done =
      stored_now s l committed sealed h place f c numbers contents sets bytes mid new s f.version (stored_more old mid s l committed sealed place (some_added old mid adds) stored) is over next_is version refl (same_version s.version) stored.last_version
      (λ going. subst (λ (v : ℕ). IfSome new (λ image. IsActive image place s (installed f.ranges numbers h.edge l) v None)) (sym version) (now_so (IsDone f numbers new_sets NowActive) NowActive mid new (λ a b p. p.active_is) done))
      (now_so (IsDone f numbers new_sets NowActive) (AreFinished new_sets) mid new (λ a b p. p.replaced.finished) done)
    where
      same_version : (n : ℕ) → n ≤ n
      same_version n = omega arith

      some_added : (old mid : Option Image) → Along (Adds numbers contents) old mid → Along AddsSome old mid
      some_added old mid adds = along (Adds numbers contents) AddsSome old mid (λ a b p. p.some) adds

-- the levels with the sets of the next head
pub levels_now : (l new : Levels) (h : Head) (ranges numbers : List ℕ) (sets : List FileSet) (bytes : List ℕ) → new ≡ record { active = l.active; frozen = None; sets = sets_of sets } → IsNextHead l h ranges numbers sets bytes → new ≡ installed ranges numbers h.edge l
levels_now l new h ranges numbers sets bytes is next_is = is ∙ ap (λ (ss : List SetFiles). let it : Levels = record { active = l.active; frozen = None; sets = ss } in it) next_is.sets_are

-- a count that rose since it was at least this rose
pub rose_since : (before mid now : ℕ) → raised before 0 ≤ mid → Rose mid now → Rose before now
rose_since before mid now le rose = omega (arith, le, rose)

-- from before the files were finished on
pub installed_from : (f : Frozen) (numbers : List ℕ) (contents : List (Option (List ℕ))) (sets : List SetFiles) (active : Image → Type 0) (old mid new : Option Image) → Along (Adds numbers contents) old mid → Along (IsDone f numbers sets active) mid new → Along (IsInstalled f numbers) old new
installed_from f numbers contents sets active old mid new adds done =
    along_then (Adds numbers contents) (IsDone f numbers sets active) (IsInstalled f numbers) old mid new (λ a b c p q. record {
      keeps = keeps_then a b c (adds_keep a b p.some) q.replaced.keeps;
      head = q.installed_is.head;
      head_is = q.installed_is.head_is;
      version = q.installed_is.version;
      finished = q.installed_is.finished;
      dropped = q.installed_is.dropped;
      files = record { told = q.replaced.files.told; befores = q.replaced.files.befores; files_are = q.replaced.files.files_are };
    }) adds done

pub keeps_from : (R : Image → Image → Type 0) (numbers : List ℕ) (contents : List (Option (List ℕ))) (old mid new : Option Image) → ((a b : Image) → R a b → KeepsFiles a b) → Along (Adds numbers contents) old mid → Along R mid new → Along KeepsFiles old new
keeps_from R numbers contents old mid new f adds r = along_then (Adds numbers contents) R KeepsFiles old mid new (λ a b c p q. keeps_then a b c (adds_keep a b p.some) (f b c q)) adds r

pub files_from : (f : Frozen) (numbers : List ℕ) (contents : List (Option (List ℕ))) (sets : List SetFiles) (old mid new : Option Image) → Along (Adds numbers contents) old mid → Along (IsReplaced f numbers sets) mid new → Along (AreNow f numbers) old new
files_from f numbers contents sets old mid new adds r =
    along_then (Adds numbers contents) (IsReplaced f numbers sets) (AreNow f numbers) old mid new (λ a b c p q. record { told = q.files.told; befores = q.files.befores; files_are = q.files.files_are }) adds r

pub some_added : (numbers : List ℕ) (contents : List (Option (List ℕ))) (old mid : Option Image) → Along (Adds numbers contents) old mid → Along AddsSome old mid
some_added numbers contents old mid adds = along (Adds numbers contents) AddsSome old mid (λ a b p. p.some) adds

-- what a core keeps, once the state has a halt
pub kept_halted : (told : Option Image) (s t : State) (l l' : Levels) (committed : ℕ) (sealed : Option Head) (place : ActiveLog) (floor spare : ℕ) → t ≡ bare (step (s ∷ []) (halt_at floor)) → l' ≡ l → floor ≤ LAST_TIMESTAMP → IsStored told (bare (step (s ∷ []) (halt_at floor))) l committed sealed place
    → IsKept told t l' committed sealed place floor spare
kept_halted told s t l l' committed sealed place floor spare state levels last stored = record {
  since = at_most t.moment floor (ap (λ (x : State). x.moment) state);
  last = last;
  stored = subst (λ (x : State). IsStored told x l' committed sealed place) (sym state) (subst (λ (x : Levels). IsStored told (bare (step (s ∷ []) (halt_at floor))) x committed sealed place) (sym levels) stored);
  room = λ going. absurd (let halted : Some (s.version + 1) ≡ None = sym (ap (λ (x : State). x.halt) state) ∙ going in let clash : ⊥ = cc in clash);
}
  where
    at_most : (x y : ℕ) → x ≡ y → x ≤ y
    at_most x y e = omega arith

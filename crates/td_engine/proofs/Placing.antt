-- What is true of a core as the files of the frozen memtable take its place, or can't.
use Rattle.std.proofs.Common.{◌≡◌, ℕ, ◌≤◌, nat_le, List, [], ◌∷◌, map, length, Option, Some, None, All, refl, sym, ap, subst, ◌∙◌, arith}
use Rattle.std.specs.Prelude.{IfSome, IsSome, is_some}
use Rattle.std.specs.List.{AllByRecursion}
use Rattle.std.proofs.lemmas.List.Elements.{All-nil, All-cons, All-from_recursion, recursion_from_All}
use Rattle.td_limits.specs.declared.limits.TheConstants.{LAST_VERSION}
use Rattle.td_model.specs.Catalog.{Catalog}
use Rattle.td_model.specs.State.{State, step}
use Rattle.td_told.specs.Journal.{halt_at}
use Rattle.td_outside.specs.Image.{Image, Along}
use Rattle.td_manifest.specs.declared.head.Head.{Head}
use Rattle.td_memtable.specs.Contents.{Contents}
use Rattle.td_commit.specs.declared.frozen.Frozen.{Frozen}
use Rattle.td_commit.specs.Files.{IsFileOf, AreFilesOf}
use Rattle.td_fileset.specs.declared.file_set.FileSet.{FileSet}
use Rattle.td_levels.specs.Levels.{SetFiles, Levels}
use Rattle.td_levels.specs.Days.{RangesFit}
use Rattle.td_levels.specs.Fits.{FitsMemtable}
use Rattle.td_levels.specs.Laws.{HasKindsOf}
use Rattle.td_printed.specs.Heads.{FitsHead}
use Rattle.td_printed.specs.Names.{AreWords}
use Rattle.td_levels.specs.Ranges.{AreRangesOf, with_files, sets_from, installed}
use Rattle.td_levels.proofs.ByRange.{own_ranges, files_by_range, some_by_range}
use Rattle.td_opening.proofs.HeadFacts.{head_log, head_ranges}
use Rattle.td_making.specs.Making.{Adds, with_sets, head_set, IsNextHead}
use Rattle.td_state.specs.Held.{bare}
use Rattle.td_active.specs.declared.active_log.ActiveLog.{ActiveLog}
use Rattle.td_active.specs.Active.{IsActive}
use Rattle.td_active.specs.Stored.{IsSealing, Sealing, AreFinished, IsStored}
use Rattle.td_engine.specs.CoreState.{CoreState, FrozenAt, frozen_at}
use Rattle.td_engine.specs.Commits.{IsOut}
use Rattle.td_engine.specs.Installs.{HaveFiles}
use Rattle.td_engine.proofs.Sealed.{active_fits, sealing_of}
use Rattle.td_engine.proofs.Added.{active_more, finished_more}
use Rattle.td_engine.proofs.Named.{head_sets_are}
use Rattle.td_engine.proofs.Installed.{IsReady}

-- ---- the files of the frozen memtable

file_some : (f : Frozen) (range : ℕ) (before after : Option (List ℕ)) → IsFileOf f range before after → IsSome before → IsSome after
file_some f range None after file some = absurd (let clash : ⊥ = cc in clash)
file_some f range (Some bytes) after file some = ap (λ (o : Option (List ℕ)). is_some o) file.written

files_some : (f : Frozen) (ranges : List ℕ) (befores afters : List (Option (List ℕ))) → AreFilesOf f ranges befores afters → AllByRecursion (λ (o : Option (List ℕ)). IsSome o) befores → AllByRecursion (λ (o : Option (List ℕ)). IsSome o) afters
files_some f [] [] [] are some = tt
files_some f [] [] (after ∷ afters) are some = absurd are
files_some f [] (before ∷ befores) afters are some = absurd are
files_some f (range ∷ ranges) [] afters are some = absurd are
files_some f (range ∷ ranges) (before ∷ befores) [] are some = absurd are
files_some f (range ∷ ranges) (before ∷ befores) (after ∷ afters) are some = (file_some f range before after are.0 some.0, files_some f ranges befores afters are.1 some.1)

files_count : (f : Frozen) (ranges : List ℕ) (befores afters : List (Option (List ℕ))) → AreFilesOf f ranges befores afters → length afters ≡ length ranges
files_count f [] [] [] are = refl
files_count f [] [] (after ∷ afters) are = absurd are
files_count f [] (before ∷ befores) afters are = absurd are
files_count f (range ∷ ranges) [] afters are = absurd are
files_count f (range ∷ ranges) (before ∷ befores) [] are = absurd are
files_count f (range ∷ ranges) (before ∷ befores) (after ∷ afters) are = let rest = files_count f ranges befores afters are.1 in omega (arith, rest)

contents_some : (f : Frozen) (contents : List (Option (List ℕ))) (befores : List (Option (List ℕ))) → AreFilesOf f f.ranges befores contents → All (λ (o : Option (List ℕ)). IsSome o) befores → All (λ (o : Option (List ℕ)). IsSome o) contents
contents_some f contents befores are some = All-from_recursion (λ (o : Option (List ℕ)). IsSome o) contents (files_some f f.ranges befores contents are (recursion_from_All (λ (o : Option (List ℕ)). IsSome o) befores some))

pub writers_told : (told : Option Image) (f : Frozen) (contents : List (Option (List ℕ))) → HaveFiles told f contents → IfSome told (λ _. All (λ (o : Option (List ℕ)). IsSome o) contents)
writers_told None f contents have = tt
writers_told (Some image) f contents have = contents_some f contents have.befores have.files have.are_told

pub count_is : (told : Option Image) (f : Frozen) (contents : List (Option (List ℕ))) (n : ℕ) → HaveFiles told f contents → n ≡ length contents → n ≡ length f.ranges
count_is told f contents n have is = is ∙ files_count f f.ranges have.befores contents have.files

pub map_count : {X Y : Type 0} (g : X → Y) (xs : List X) → length (map g xs) ≡ length xs
map_count g [] = refl
map_count g (x ∷ xs) = let rest = map_count g xs in omega (arith, rest)

numbers_done : (files : ℕ → Option (List ℕ)) (numbers : List ℕ) → AllByRecursion (λ (o : Option (List ℕ)). IsSome o) (map files numbers) → AllByRecursion (λ (n : ℕ). IsSome (files n)) numbers
numbers_done files [] all = tt
numbers_done files (n ∷ ns) all = (all.0, numbers_done files ns all.1)

all_told : (files : ℕ → Option (List ℕ)) (numbers : List ℕ) (contents : List (Option (List ℕ))) → map files numbers ≡ contents → All (λ (o : Option (List ℕ)). IsSome o) contents → All (λ (n : ℕ). IsSome (files n)) numbers
all_told files numbers contents are some =
    All-from_recursion (λ (n : ℕ). IsSome (files n)) numbers
    (numbers_done files numbers (recursion_from_All (λ (o : Option (List ℕ)). IsSome o) (map files numbers) (subst (λ (l : List (Option (List ℕ))). All (λ (o : Option (List ℕ)). IsSome o) l) (sym are) some)))

-- ---- what an install stands on

-- what a frozen memtable that is out is over a state and its levels
pub record IsOver (s : State) (l : Levels) (committed : ℕ) (h : Head) (f : Frozen) (c : CoreState) : Type 0 where
  pub out : IsOut c f
  pub state : c.state ≡ s
  pub levels : c.levels ≡ l
  pub at : c.frozen_at ≡ frozen_at (Some h)

at_same : (at : FrozenAt) (h : Head) (o : Option FrozenAt) → o ≡ Some at → o ≡ frozen_at (Some h) → at ≡ record { version = h.version; edge = h.edge; tables = length h.tables }
at_same at h o p q = some_is at (record { version = h.version; edge = h.edge; tables = length h.tables }) (sym p ∙ q)
  where
    some_is : (x y : FrozenAt) → Some x ≡ Some y → x ≡ y
    some_is x y e = cc

pub out_at : (s : State) (l : Levels) (committed : ℕ) (h : Head) (f : Frozen) (c : CoreState) (over : IsOver s l committed h f c) → over.out.at ≡ record { version = h.version; edge = h.edge; tables = length h.tables }
out_at s l committed h f c over = at_same over.out.at h c.frozen_at over.out.at_is over.at

pub out_version : (s : State) (l : Levels) (committed : ℕ) (h : Head) (f : Frozen) (c : CoreState) → IsOver s l committed h f c → f.version ≡ h.version
out_version s l committed h f c over = over.out.version ∙ ap (λ (x : FrozenAt). x.version) (out_at s l committed h f c over)

pub out_frozen : (s : State) (l : Levels) (committed : ℕ) (h : Head) (f : Frozen) (c : CoreState) → IsOver s l committed h f c → l.frozen ≡ Some f.memtable
out_frozen s l committed h f c over = ap (λ (x : Levels). x.frozen) (sym over.levels) ∙ over.out.frozen

pub sealing_out : (told : Option Image) (s : State) (l : Levels) (committed : ℕ) (sealed : Option Head) (h : Head) (place : ActiveLog) (f : Frozen) (c : CoreState) → IsStored told s l committed sealed place → sealed ≡ Some h → IsOver s l committed h f c → IsSealing f.memtable h place s committed
sealing_out told s l committed sealed h place f c stored is over = sealing_of l.frozen sealed place s committed f.memtable h (out_frozen s l committed h f c over) is stored.sealing

module _ (s : State) (l : Levels) (committed : ℕ) (sealed : Option Head) (h : Head) (place : ActiveLog) (f : Frozen) (c : CoreState) (numbers : List ℕ) (contents : List (Option (List ℕ))) (sets : List FileSet) (bytes : List ℕ) where
  abbrev pub next_of : Head
  next_of = with_sets (map head_set sets) h

  pub ready_one : (o a : Image) → IsStored (Some o) s l committed sealed place → s.halt ≡ None → sealed ≡ Some h → IsOver s l committed h f c → HaveFiles (Some o) f contents → Adds numbers contents o a → IsNextHead l h f.ranges numbers sets bytes
      → IsReady a place s l committed h f numbers next_of bytes
  ready_one o a stored going is over have adds next =
      let active : IsActive o place s l committed (Some h) = subst (λ (x : Option Head). IsActive o place s l committed x) is (stored.active going) in
      let at = out_at s l committed h f c over in
      record {
        active = active_more o a adds.some place s l committed (Some h) active;
        sealing = sealing_out (Some o) s l committed sealed h place f c stored is over;
        frozen = out_frozen s l committed h f c over;
        out_kinds = subst (λ (x : State). HasKindsOf x.catalog f) over.state over.out.kinds;
        few = subst (λ (x : FrozenAt). length f.kinds ≤ x.tables) at over.out.few;
        ranges = subst (λ (x : Levels). AreRangesOf f.memtable x.sets h.edge f.ranges) over.levels (subst (λ (x : FrozenAt). AreRangesOf f.memtable c.levels.sets x.edge f.ranges) at over.out.ranges);
        sound = over.out.sound;
        by_range = stored.by_range;
        finished = finished_more o a adds.some l.sets stored.files;
        told = all_told a.files numbers contents adds.are (contents_some f contents have.befores have.files have.are_told);
        befores = have.befores;
        files_are = subst (λ (x : List (Option (List ℕ))). AreFilesOf f f.ranges have.befores x) (sym adds.are) have.files;
        next_is = (sets, refl, next.sets_are);
        bytes_are = next.head;
      }

  pub ready_told : (old mid : Option Image) → IsStored old s l committed sealed place → s.halt ≡ None → sealed ≡ Some h → IsOver s l committed h f c → HaveFiles old f contents → Along (Adds numbers contents) old mid → IsNextHead l h f.ranges numbers sets bytes
      → IfSome mid (λ a. IsReady a place s l committed h f numbers next_of bytes)
  ready_told None None stored going is over have adds next = tt
  ready_told None (Some a) stored going is over have adds next = absurd adds
  ready_told (Some o) None stored going is over have adds next = absurd adds
  ready_told (Some o) (Some a) stored going is over have adds next = ready_one o a stored going is over have adds next

  -- ---- the levels with the new files

  pub stored_now : (mid new : Option Image) (t : State) (version : ℕ) → IsStored mid s l committed sealed place → sealed ≡ Some h → IsOver s l committed h f c → IsNextHead l h f.ranges numbers sets bytes → version ≡ h.version
      → t.catalog ≡ s.catalog → s.version ≤ t.version → (t.halt ≡ None → t.version ≤ LAST_VERSION)
      → (t.halt ≡ None → IfSome new (λ image. IsActive image place t (installed f.ranges numbers h.edge l) version None)) → IfSome new (AreFinished (sets_from h.edge (with_files f.ranges numbers l.sets)))
      → IsStored new t (installed f.ranges numbers h.edge l) version None place
  stored_now mid new t version stored is over next version_is catalog later last active files =
      let sealing = sealing_out mid s l committed sealed h place f c stored is over in
      let by_range = some_by_range (λ (x : SetFiles). nat_le h.edge x.range) (with_files f.ranges numbers l.sets) (files_by_range f.ranges numbers l.sets stored.by_range) in
      let most = sealing.most in
      let number = sealing.number in
      let log = (head_log h sealing.fits).1 in
      record {
        fits = record {
          memtables = All-cons (FitsMemtable t.catalog) l.active [] (subst (λ (x : Catalog). FitsMemtable x l.active) (sym catalog) (active_fits s.catalog l stored.fits)) (All-nil (FitsMemtable t.catalog));
          ranges = λ fs. own_ranges fs (sets_from h.edge (with_files f.ranges numbers l.sets)) by_range;
        };
        by_range = by_range;
        ranges = subst RangesFit (head_sets_are sets ∙ next.sets_are) (head_ranges next_of next.head.fits);
        no_streams = ap (λ (x : Catalog). x.streams) catalog ∙ stored.no_streams;
        words = subst AreWords (sym catalog) stored.words;
        heads = subst FitsHead (sym catalog) stored.heads;
        committed_is = omega (arith, version_is, most, later);
        sealing = omega (arith, version_is, number, log);
        last_version = last;
        active = active;
        files = files;
      }

-- the state gets a halt, and the levels stay
halted_sealing : (frozen : Option Contents) (sealed : Option Head) (place : ActiveLog) (s : State) (committed moment : ℕ) → Sealing frozen sealed place s committed → Sealing frozen sealed place (bare (step (s ∷ []) (halt_at moment))) committed
halted_sealing None None place s committed moment is = is
halted_sealing None (Some h) place s committed moment is = absurd is
halted_sealing (Some m) None place s committed moment is = absurd is
halted_sealing (Some m) (Some h) place s committed moment is =
    let most = is.most in
    record {
      number = is.number;
      fits = is.fits;
      no_sets = is.no_sets;
      no_streams = is.no_streams;
      later = is.later;
      most = omega (arith, most);
      edge = is.edge;
      puts = is.puts;
      cuts = is.cuts;
    }

pub stored_halted : (mid new : Option Image) (s : State) (l : Levels) (committed moment : ℕ) (sealed : Option Head) (place : ActiveLog) → IsStored mid s l committed sealed place → IfSome new (AreFinished l.sets) → IsStored new (bare (step (s ∷ []) (halt_at moment))) l committed sealed place
stored_halted mid new s l committed moment sealed place stored files =
    let le = stored.committed_is in
    record {
      fits = stored.fits;
      by_range = stored.by_range;
      ranges = stored.ranges;
      no_streams = stored.no_streams;
      words = stored.words;
      heads = stored.heads;
      committed_is = omega (arith, le);
      sealing = halted_sealing l.frozen sealed place s committed moment stored.sealing;
      last_version = λ going. absurd (let clash : ⊥ = cc in clash);
      active = λ going. absurd (let clash : ⊥ = cc in clash);
      files = files;
    }

-- How commits end, from how their steps end.
use Rattle.std.proofs.Common.{◌≡◌, ◌⊎◌, inl, inr, ⊎_elim, ℕ, ◌+◌, ◌<◌, ◌≤◌, Bool, true, false, List, [], ◌∷◌, ◌++◌, Option, Some, None, refl, sym, ap, subst, ◌∙◌, arith}
use Rattle.std.specs.Prelude.{IsSome, is_some, nat_lt}
use Rattle.std.proofs.lemmas.Bool.{false≢true, ltb-false, ltb-true}
use Rattle.td_memtable.specs.Contents.{Contents, nothing_held}
use Rattle.td_model.specs.declared.history.Entry.{Entry}
use Rattle.td_model.specs.State.{State, step}
use Rattle.td_outside.specs.Causes.{Rose, raised}
use Rattle.td_outside.specs.Image.{Image, Along}
use Rattle.td_told.specs.Journal.{halt_at}
use Rattle.td_told.specs.Turn.{halt_line}
use Rattle.td_state.specs.Held.{bare}
use Rattle.td_levels.specs.Levels.{Levels}
use Rattle.td_levels.specs.Laws.{HasKindsOf}
use Rattle.td_levels.specs.Ranges.{AreRangesOf}
use Rattle.td_commit.specs.declared.frozen.Frozen.{Frozen}
use Rattle.td_engine.specs.CoreState.{CoreState}
use Rattle.td_engine.specs.Covers.{FactsAre, RowsAre, HeldIs, PinsAre, JournalIs, ImageIs, FloorIs, ClockIs}
use Rattle.td_engine.specs.Commits.{KeepsButStore, KeepsFiles, Freezes, HandsOut, FrozenNow, FrozenBefore}
use Rattle.td_engine.specs.declared.freezing.Freeze.TheVariants as freeze
use Rattle.td_engine.specs.Installs.{IsInstalled, Installs, HaltsNow, InstallEnds, Unflown, added_by, halt_unless}
use Rattle.td_engine.specs.declared.installing.Install.{Install}
use Rattle.td_engine.specs.declared.installing.Install.TheVariants as install
use Rattle.td_committing.specs.declared.commits.CommitEnd.{CommitEnd}
use Rattle.td_committing.specs.declared.commits.CommitEnd.TheVariants as ends
use Rattle.td_committing.specs.Commit.{KeepsHistory, IsCommitted, Commits, CommitsAll, Stays, Halts, CommitEnds, AllEnds, HasNothing, added, CarriesOver, IsActiveEmpty, IsUpTo, IsReady, GivesUp, ComesTo, leaves_more}
use Rattle.td_committing.proofs.Points.{over_then, over_thawed}

none_some : {A : Type 0} (o : Option A) (x : A) → o ≡ None → o ≡ Some x → ⊥
none_some o x none some = false≢true (ap is_some (sym none ∙ some))

-- ---- images

along_then : (R S T : Image → Image → Type 0) → ((x y z : Image) → R x y → S y z → T x z) → (a b c : Option Image) → Along R a b → Along S b c → Along T a c
along_then R S T f None None None r s = tt
along_then R S T f None None (Some z) r s = absurd s
along_then R S T f None (Some y) c r s = absurd r
along_then R S T f (Some x) None c r s = absurd r
along_then R S T f (Some x) (Some y) None r s = absurd s
along_then R S T f (Some x) (Some y) (Some z) r s = f x y z r s

along_weaker : (R S : Image → Image → Type 0) → ((x y : Image) → R x y → S x y) → (a b : Option Image) → Along R a b → Along S a b
along_weaker R S f None None r = tt
along_weaker R S f None (Some y) r = absurd r
along_weaker R S f (Some x) None r = absurd r
along_weaker R S f (Some x) (Some y) r = f x y r

along_self : (R : Image → Image → Type 0) → ((x : Image) → R x x) → (a : Option Image) → Along R a a
along_self R f None = tt
along_self R f (Some x) = f x

files_self : (x : Image) → KeepsFiles x x
files_self x = record { stands = λ s is. is; kept = λ n is. refl; readers = refl }

files_then : (x y z : Image) → KeepsFiles x y → KeepsFiles y z → KeepsFiles x z
files_then x y z r s = record {
  stands = λ t is. s.stands t (r.stands t is);
  kept = λ n is. s.kept n (subst (λ (o : Option (List ℕ)). IsSome o) (sym (r.kept n is)) is) ∙ r.kept n is;
  readers = s.readers ∙ r.readers;
}

keep_files : (a b : Option Image) → b ≡ a → Along KeepsFiles a b
keep_files a b same = subst (λ (o : Option Image). Along KeepsFiles a o) (sym same) (along_self KeepsFiles files_self a)

keep_then : (a b c : Option Image) → Along KeepsFiles a b → Along KeepsFiles b c → Along KeepsFiles a c
keep_then a b c r s = along_then KeepsFiles KeepsFiles KeepsFiles files_then a b c r s

committed_then : (version : ℕ) (x y z : Image) → KeepsFiles x y → IsCommitted version y z → IsCommitted version x z
committed_then version x y z r s = record {
  keeps = files_then x y z r s.keeps;
  head = s.head;
  head_is = s.head_is;
  version_is = s.version_is;
  dropped = s.dropped;
}

installed_so : (f : Frozen) (numbers : List ℕ) (version : ℕ) → version ≡ f.version → (x y : Image) → IsInstalled f numbers x y → IsCommitted version x y
installed_so f numbers version same x y i = record {
  keeps = i.keeps;
  head = i.head;
  head_is = i.head_is;
  version_is = i.version ∙ sym same;
  dropped = i.dropped;
}

-- ---- what comes before

-- One core leads to another: the history, the pins and the clock are as they were, what was committed stays so, and so
-- does what the image stands for.
pub record Leads (old new : CoreState) : Type 0 where
  pub state : new.state ≡ old.state
  pub base : new.base ≡ old.base
  pub journal : new.journal ≡ old.journal
  pub floor : new.floor ≡ old.floor
  pub pins : new.pins ≡ old.pins
  pub readings : new.readings ≡ old.readings
  pub committed : old.committed ≤ new.committed
  pub image : Along KeepsFiles old.told new.told
  pub count : raised old.count 0 ≤ new.count

no_less : (a b : ℕ) → b ≡ a → a ≤ b
no_less a b e = omega arith

no_fewer : (a b : ℕ) → b ≡ a → raised a 0 ≤ b
no_fewer a b e = omega arith

rose_after : (a b c : ℕ) → raised a 0 ≤ b → Rose b c → Rose a c
rose_after a b c h k = omega arith

later_after : (a b c : ℕ) → raised a 0 ≤ b → raised b 0 ≤ c → raised a 0 ≤ c
later_after a b c h k = omega arith

at_most_after : (a b c : ℕ) → a ≤ b → b ≤ c → a ≤ c
at_most_after a b c h k = omega arith

module _ (old mid new : CoreState) (leads : Leads old mid) where
  keeps_after : KeepsHistory mid new → KeepsHistory old new
  keeps_after k = record {
    state = k.state ∙ leads.state;
    base = k.base ∙ leads.base;
    journal = k.journal ∙ leads.journal;
    floor = k.floor ∙ leads.floor;
    pins = k.pins ∙ leads.pins;
    readings = k.readings ∙ leads.readings;
    flight = k.flight;
    committed = at_most_after old.committed mid.committed new.committed leads.committed k.committed;
  }

  going_before : mid.state.halt ≡ None → old.state.halt ≡ None
  going_before going = ap (λ (s : State). s.halt) (sym leads.state) ∙ going

  stays_after : Stays mid new → Stays old new
  stays_after s = record { going = going_before s.going; keeps = keeps_after s.keeps; image = keep_then old.told mid.told new.told leads.image s.image }

  halts_after : (version : ℕ) → Halts mid new version → Halts old new version
  halts_after version h = record {
    going = going_before h.going;
    version_is = h.version_is ∙ ap (λ (s : State). s.version + 1) leads.state;
    state = h.state ∙ ap (λ (s : State). bare (step (s ∷ []) (halt_at mid.floor))) leads.state ∙ ap (λ (n : ℕ). bare (step (old.state ∷ []) (halt_at n))) leads.floor;
    journal = h.journal ∙ ap (λ j. j ++ halt_line version mid.floor ∷ []) leads.journal ∙ ap (λ (n : ℕ). old.journal ++ halt_line version n ∷ []) leads.floor;
    base = h.base ∙ leads.base;
    floor = h.floor ∙ leads.floor;
    pins = h.pins ∙ leads.pins;
    readings = h.readings ∙ leads.readings;
    flight = h.flight;
    committed = at_most_after old.committed mid.committed new.committed leads.committed h.committed;
    image = keep_then old.told mid.told new.told leads.image h.image;
    cause = rose_after old.count mid.count new.count leads.count h.cause;
  }

  committed_after : (version : ℕ) → Along (IsCommitted version) mid.told new.told → Along (IsCommitted version) old.told new.told
  committed_after version c = along_then KeepsFiles (IsCommitted version) (IsCommitted version) (committed_then version) old.told mid.told new.told leads.image c

  points_after : (end : CommitEnd) → CarriesOver old mid [] → CarriesOver mid new (added end mid.floor) → CarriesOver old new (added end old.floor)
  points_after end one two = over_then old mid new (added end old.floor) one (subst (λ (n : ℕ). CarriesOver mid new (added end n)) leads.floor two)

-- ---- files that are begun

store_leads : (old mid : CoreState) → KeepsButStore old mid → Along KeepsFiles old.told mid.told → mid.count ≡ old.count → Leads old mid
store_leads old mid same image count = record {
  state = same.state;
  base = same.base;
  journal = same.journal;
  floor = same.floor;
  pins = same.pins;
  readings = same.readings;
  committed = no_less old.committed mid.committed same.committed;
  image = image;
  count = no_fewer old.count mid.count count;
}

ready_still : (old mid : CoreState) (f : Frozen) → KeepsButStore old mid → IsReady old f → IsReady mid f
ready_still old mid f same ready = record {
  going = ap (λ (s : State). s.halt) same.state ∙ ready.going;
  home = same.flight ∙ ready.home;
  out = record {
    frozen = ap (λ (l : Levels). l.frozen) same.levels ∙ ready.out.frozen;
    at = ready.out.at;
    at_is = same.frozen_at ∙ ready.out.at_is;
    version = ready.out.version;
    from = ready.out.from ∙ sym same.committed;
    sound = ready.out.sound;
    births = ready.out.births;
    kinds = subst (λ (s : State). HasKindsOf s.catalog f) (sym same.state) ready.out.kinds;
    few = ready.out.few;
    risen = subst (λ (s : State). ready.out.at.edge ≤ s.edge) (sym same.state) ready.out.risen;
    ranges = subst (λ (l : Levels). AreRangesOf f.memtable l.sets ready.out.at.edge f.ranges) (sym same.levels) ready.out.ranges;
  };
  later = subst (λ (n : ℕ). n < f.version) (sym same.committed) ready.later;
  most = subst (λ (s : State). f.version ≤ s.version) (sym same.state) ready.most;
}

-- ---- the active memtable

-- where the memtable that is out has all entries, the active one is empty
empty_of : (old new : CoreState) (f : Frozen) (version : ℕ) → IsReady old f → version ≡ f.version → new.levels.active ≡ old.levels.active → IsActiveEmpty old → version ≡ old.state.version → new.levels.active ≡ nothing_held
empty_of old new f version ready up_to active none all = active ∙ none ready.out.at ready.out.at_is (sym ready.out.version ∙ sym up_to ∙ all)

-- ---- what is out is given up

-- the memtable that is out is taken back
pub taken_back : (old mid new : CoreState) (f : Frozen) (faults : ℕ) → IsReady old f → KeepsButStore old mid → Along KeepsFiles old.told mid.told → CarriesOver old mid [] → raised old.count faults ≤ mid.count → new ≡ record mid { flight = None } → GivesUp old new faults
taken_back old mid new f faults ready same image points count thawed =
    subst (λ (c : CoreState). GivesUp old c faults) (sym thawed)
    (record {
      stays = record {
        going = ready.going;
        keeps = record {
          state = same.state;
          base = same.base;
          journal = same.journal;
          floor = same.floor;
          pins = same.pins;
          readings = same.readings;
          flight = refl;
          committed = no_less old.committed mid.committed same.committed;
        };
        image = image;
      };
      levels = same.levels;
      points = over_then old mid (record mid { flight = None }) [] points (over_thawed mid (record mid { flight = None }) refl);
      count = count;
    })

lost : (a n b : ℕ) → raised a n ≤ b → raised a 0 ≤ b
lost a n b h = omega arith

-- a count that rose is that of the core whose memtable was taken back
pub rose_thawed : (old mid new : CoreState) → new ≡ record mid { flight = None } → Rose old.count mid.count → Rose old.count new.count
rose_thawed old mid new e rose = subst (λ (x : CoreState). Rose old.count x.count) (sym e) rose

-- a commit that gave up for want of memory
pub gives_up_memory : (old new : CoreState) (f : Frozen) (faults : ℕ) → GivesUp old new faults → ComesTo old new f ends.NoMemory
gives_up_memory old new f faults gives = record {
  ends = gives.stays;
  up_to = tt;
  active = ap (λ (l : Levels). l.active) gives.levels;
  points = gives.points;
  later = lost old.count faults new.count gives.count;
}

-- a commit that gave up since the store failed
pub gives_up_fault : (old new : CoreState) (f : Frozen) (faults : ℕ) → GivesUp old new faults → Rose old.count new.count → ComesTo old new f ends.StoreFault
gives_up_fault old new f faults gives rose = record {
  ends = (gives.stays, rose);
  up_to = tt;
  active = ap (λ (l : Levels). l.active) gives.levels;
  points = gives.points;
  later = lost old.count faults new.count gives.count;
}

-- ---- files that are begun

-- a commit goes on once its files are begun
begun_ends : (old mid new : CoreState) (f : Frozen) (end : CommitEnd) → Leads old mid → KeepsButStore old mid → IsReady old f → ComesTo mid new f end → CommitEnds old new end
begun_ends old mid new f (ends.Committed version) leads same ready comes =
    let c : Commits mid new version = comes.ends in
    record {
      going = ready.going;
      later = subst (λ (n : ℕ). n < version) same.committed c.later;
      most = subst (λ (s : State). version ≤ s.version) same.state c.most;
      whole = λ none. absurd (none_some old.levels.frozen f.memtable none ready.out.frozen);
      committed_is = c.committed_is;
      unfrozen = c.unfrozen;
      emptied = λ none. absurd (none_some old.levels.frozen f.memtable none ready.out.frozen);
      empty = empty_of old new f version ready comes.up_to (comes.active ∙ ap (λ (l : Levels). l.active) same.levels);
      keeps = keeps_after old mid new leads c.keeps;
      image = committed_after old mid new leads version c.image;
    }
begun_ends old mid new f ends.Nothing leads same ready comes = absurd (none_some mid.levels.frozen f.memtable comes.ends.1 (ap (λ (l : Levels). l.frozen) same.levels ∙ ready.out.frozen))
begun_ends old mid new f (ends.Stopped version) leads same ready comes = absurd (none_some mid.state.halt version (ap (λ (s : State). s.halt) same.state ∙ ready.going) comes.ends.0)
begun_ends old mid new f ends.StoreFault leads same ready comes = (stays_after old mid new leads comes.ends.0, rose_after old.count mid.count new.count leads.count comes.ends.1)
begun_ends old mid new f (ends.Halted version) leads same ready comes = halts_after old mid new leads version comes.ends
begun_ends old mid new f ends.NoMemory leads same ready comes = stays_after old mid new leads comes.ends

pub begun : (old mid new : CoreState) (f : Frozen) (end : CommitEnd) → KeepsButStore old mid → Along KeepsFiles old.told mid.told → mid.count ≡ old.count → CarriesOver old mid [] → IsReady old f → ComesTo mid new f end → ComesTo old new f end
begun old mid new f end same image count points ready comes =
    let leads : Leads old mid = store_leads old mid same image count in
    record {
      ends = begun_ends old mid new f end leads same ready comes;
      up_to = comes.up_to;
      active = comes.active ∙ ap (λ (l : Levels). l.active) same.levels;
      points = points_after old mid new leads end points comes.points;
      later = later_after old.count mid.count new.count leads.count comes.later;
    }

-- the files are begun, and then given up
pub begun_given_up : (old mid new : CoreState) (f : Frozen) (faults : ℕ) → KeepsButStore old mid → Along KeepsFiles old.told mid.told → mid.count ≡ old.count → CarriesOver old mid [] → IsReady old f → GivesUp mid new faults → ComesTo old new f ends.NoMemory
begun_given_up old mid new f faults same image count points ready gives = begun old mid new f ends.NoMemory same image count points ready (gives_up_memory mid new f faults gives)

-- ---- installs

-- how a commit ends whose install ends so; its memtable is never a strange one
abbrev pub end_of : Install → CommitEnd
end_of (install.Installed version) = ends.Committed version
end_of (install.Strange number) = ends.NoMemory
end_of install.StoreFault = ends.StoreFault
end_of (install.Halted version) = ends.Halted version
end_of install.NoMemory = ends.NoMemory

unflown_keeps : (old new : CoreState) → Unflown old new → KeepsHistory old new
unflown_keeps old new u = record {
  state = u.state;
  base = u.base;
  journal = u.journal;
  floor = u.floor;
  pins = u.pins;
  readings = u.readings;
  flight = u.flight;
  committed = no_less old.committed new.committed u.committed;
}

unflown_stays : (old new : CoreState) → old.state.halt ≡ None → Unflown old new → Along KeepsFiles old.told new.told → Stays old new
unflown_stays old new going u image = record { going = going; keeps = unflown_keeps old new u; image = image }

committed_up : (old new : CoreState) (f : Frozen) → old.committed < f.version → new.committed ≡ f.version → old.committed ≤ new.committed
committed_up old new f later is = let less : old.committed < f.version = later in omega (arith, is, less)

installs_commit : (old new : CoreState) (f : Frozen) (version : ℕ) → IsReady old f → Installs old new f version → Commits old new version
installs_commit old new f version ready i = record {
  going = ready.going;
  later = subst (λ (n : ℕ). old.committed < n) (sym i.version_is) ready.later;
  most = subst (λ (n : ℕ). n ≤ old.state.version) (sym i.version_is) ready.most;
  whole = λ none. absurd (none_some old.levels.frozen f.memtable none ready.out.frozen);
  committed_is = i.committed ∙ sym i.version_is;
  unfrozen = ap (λ (l : Levels). l.frozen) i.levels;
  emptied = λ none. absurd (none_some old.levels.frozen f.memtable none ready.out.frozen);
  empty = empty_of old new f version ready i.version_is (ap (λ (l : Levels). l.active) i.levels);
  keeps = record {
    state = i.state;
    base = i.base;
    journal = i.journal;
    floor = i.floor;
    pins = i.pins;
    readings = i.readings;
    flight = i.flight;
    committed = committed_up old new f ready.later i.committed;
  };
  image = along_weaker (IsInstalled f i.numbers) (IsCommitted version) (installed_so f i.numbers version i.version_is) old.told new.told i.image;
}

halts_here : (old new : CoreState) (f : Frozen) (version : ℕ) → IsReady old f → HaltsNow old new f version → Halts old new version
halts_here old new f version ready h = record {
  going = ready.going;
  version_is = h.halt_is;
  state = h.state;
  journal = h.journal;
  base = h.base;
  floor = h.floor;
  pins = h.pins;
  readings = h.readings;
  flight = h.flight;
  committed = elim h.levels [
    | inl before ↦ no_less old.committed new.committed before.1
    | inr replaced ↦ committed_up old new f ready.later replaced.committed
  ];
  image = h.image;
  cause = h.cause;
}

halts_active : (old new : CoreState) (f : Frozen) (version : ℕ) → HaltsNow old new f version → new.levels.active ≡ old.levels.active
halts_active old new f version h = elim h.levels [
  | inl before ↦ ap (λ (l : Levels). l.active) before.0
  | inr replaced ↦ ap (λ (l : Levels). l.active) replaced.levels
]

added_same : (r : Install) (halt : Option ℕ) (floor : ℕ) → halt ≡ None → added_by r halt floor ≡ added (end_of r) floor
added_same (install.Installed version) halt floor going = refl
added_same (install.Strange number) halt floor going = refl
added_same install.StoreFault halt floor going = refl
added_same (install.Halted version) halt floor going = ap (λ o. halt_unless o floor) going
added_same install.NoMemory halt floor going = refl

-- what is needed of an install that ends so
pub record EndsInstall (old new : CoreState) (f : Frozen) (r : Install) : Type 0 where
  pub installs : InstallEnds old new f r
  pub points : CarriesOver old new (added_by r old.state.halt old.floor)
  pub later : raised old.count 0 ≤ new.count

-- the memtable that is out is never a strange one
pub never_strange : (old new : CoreState) (f : Frozen) (number : ℕ) → IsReady old f → InstallEnds old new f (install.Strange number) → ⊥
never_strange old new f number ready is = is.1 ready.home

install_ends : (old new : CoreState) (f : Frozen) (r : Install) → IsReady old f → InstallEnds old new f r → CommitEnds old new (end_of r) × IsUpTo f.version (end_of r) × (new.levels.active ≡ old.levels.active)
install_ends old new f (install.Installed version) ready is = (installs_commit old new f version ready is, is.version_is, ap (λ (l : Levels). l.active) is.levels)
install_ends old new f (install.Strange number) ready is = absurd (never_strange old new f number ready is)
install_ends old new f install.StoreFault ready is = ((unflown_stays old new is.0 is.2 is.3, is.4), tt, ap (λ (l : Levels). l.active) is.2.levels)
install_ends old new f (install.Halted version) ready (inl now) = (halts_here old new f version ready now, tt, halts_active old new f version now)
install_ends old new f (install.Halted version) ready (inr stood) = absurd (none_some old.state.halt version ready.going stood.halt_is)
install_ends old new f install.NoMemory ready is = (unflown_stays old new is.0 is.2 is.3, tt, ap (λ (l : Levels). l.active) is.2.levels)

pub installed_ends : (old new : CoreState) (f : Frozen) (r : Install) → IsReady old f → EndsInstall old new f r → ComesTo old new f (end_of r)
installed_ends old new f r ready is =
    let three = install_ends old new f r ready is.installs in
    record {
      ends = three.0;
      up_to = three.1;
      active = three.2;
      points = subst (CarriesOver old new) (added_same r old.state.halt old.floor ready.going) is.points;
      later = is.later;
    }

-- ---- freezes

hands_leads : (old mid : CoreState) (f : Frozen) → HandsOut old mid f → Leads old mid
hands_leads old mid f hands = record {
  state = hands.keeps.state;
  base = hands.keeps.base;
  journal = hands.keeps.journal;
  floor = hands.keeps.floor;
  pins = hands.keeps.pins;
  readings = hands.keeps.readings;
  committed = no_less old.committed mid.committed hands.keeps.committed;
  image = keep_files old.told mid.told hands.keeps.told;
  count = no_fewer old.count mid.count hands.keeps.count;
}

-- what is handed out can be written and installed
pub ready_of : (old mid : CoreState) (f : Frozen) → HandsOut old mid f → IsReady mid f
ready_of old mid f hands = record {
  going = ap (λ (s : State). s.halt) hands.keeps.state ∙ hands.going;
  home = hands.flight;
  out = hands.out;
  later = subst (λ (n : ℕ). n < f.version) (sym hands.keeps.committed) hands.later;
  most = subst (λ (s : State). f.version ≤ s.version) (sym hands.keeps.state) hands.most;
}

before_frozen : (old mid : CoreState) (f : Frozen) → HandsOut old mid f → FrozenBefore old mid f → old.levels.frozen ≡ Some f.memtable
before_frozen old mid f hands before = ap (λ (l : Levels). l.frozen) (sym before.3) ∙ hands.out.frozen

now_active : (old mid : CoreState) (f : Frozen) → FrozenNow old mid f → mid.levels.active ≡ nothing_held
now_active old mid f now = ap (λ (l : Levels). l.active) now.3

hands_commit : (old mid new : CoreState) (f : Frozen) (version : ℕ) → HandsOut old mid f → ComesTo mid new f (ends.Committed version) → Commits mid new version → Commits old new version
hands_commit old mid new f version hands comes c =
    let leads : Leads old mid = hands_leads old mid f hands in
    record {
      going = hands.going;
      later = subst (λ (n : ℕ). n < version) hands.keeps.committed c.later;
      most = subst (λ (s : State). version ≤ s.version) hands.keeps.state c.most;
      whole = λ none. elim hands.which [
        | inl now ↦ comes.up_to ∙ now.2
        | inr before ↦ absurd (none_some old.levels.frozen f.memtable none (before_frozen old mid f hands before))
      ];
      committed_is = c.committed_is;
      unfrozen = c.unfrozen;
      emptied = λ none. elim hands.which [
        | inl now ↦ comes.active ∙ now_active old mid f now
        | inr before ↦ absurd (none_some old.levels.frozen f.memtable none (before_frozen old mid f hands before))
      ];
      empty = λ empty all. elim hands.which [
        | inl now ↦ comes.active ∙ now_active old mid f now
        | inr before ↦ comes.active ∙ ap (λ (l : Levels). l.active) before.3 ∙ empty before.0 before.1 (sym before.2 ∙ sym comes.up_to ∙ all)
      ];
      keeps = keeps_after old mid new leads c.keeps;
      image = committed_after old mid new leads version c.image;
    }

-- a commit of what was handed out comes to its end
pub handed_ends : (old mid new : CoreState) (f : Frozen) (end : CommitEnd) → HandsOut old mid f → ComesTo mid new f end → CommitEnds old new end
handed_ends old mid new f (ends.Committed version) hands comes = hands_commit old mid new f version hands comes comes.ends
handed_ends old mid new f ends.Nothing hands comes = absurd (none_some mid.levels.frozen f.memtable comes.ends.1 hands.out.frozen)
handed_ends old mid new f (ends.Stopped version) hands comes = absurd (none_some mid.state.halt version (ready_of old mid f hands).going comes.ends.0)
handed_ends old mid new f ends.StoreFault hands comes =
    let leads = hands_leads old mid f hands in
    (stays_after old mid new leads comes.ends.0, rose_after old.count mid.count new.count leads.count comes.ends.1)
handed_ends old mid new f (ends.Halted version) hands comes = halts_after old mid new (hands_leads old mid f hands) version comes.ends
handed_ends old mid new f ends.NoMemory hands comes = stays_after old mid new (hands_leads old mid f hands) comes.ends

pub handed_points : (old mid new : CoreState) (f : Frozen) (end : CommitEnd) → HandsOut old mid f → CarriesOver old mid [] → ComesTo mid new f end → CarriesOver old new (added end old.floor)
handed_points old mid new f end hands points comes = points_after old mid new (hands_leads old mid f hands) end points comes.points

pub handed_later : (old mid new : CoreState) (f : Frozen) (end : CommitEnd) → HandsOut old mid f → ComesTo mid new f end → raised old.count 0 ≤ new.count
handed_later old mid new f end hands comes = later_after old.count mid.count new.count (hands_leads old mid f hands).count comes.later

-- there was no memory to freeze
pub stays_same : (old new : CoreState) → old.state.halt ≡ None → old.flight ≡ None → new ≡ old → Stays old new
stays_same old new going home same =
    subst (λ (c : CoreState). Stays old c) (sym same)
    (record {
      going = going;
      keeps = record {
        state = refl;
        base = refl;
        journal = refl;
        floor = refl;
        pins = refl;
        readings = refl;
        flight = home;
        committed = no_less old.committed old.committed refl;
      };
      image = keep_files old.told old.told refl;
    })

-- the frozen memtable isn't out
pub not_out : (old new : CoreState) (version : ℕ) → old.flight ≡ None → Freezes old new (freeze.Busy version) → ⊥
not_out old new version home is = none_some old.flight is.1.0 home is.1.1

pub later_same : (old new : CoreState) → new ≡ old → raised old.count 0 ≤ new.count
later_same old new same = no_fewer old.count new.count (ap (λ (c : CoreState). c.count) same)

-- ---- what isn't out

-- no memtable is out after a commit
pub once_home : (old new : CoreState) (end : CommitEnd) → old.flight ≡ None → CommitEnds old new end → new.flight ≡ None
once_home old new (ends.Committed version) home is = is.keeps.flight
once_home old new ends.Nothing home is = ap (λ (c : CoreState). c.flight) is.3 ∙ home
once_home old new (ends.Stopped version) home is = ap (λ (c : CoreState). c.flight) is.1 ∙ home
once_home old new ends.StoreFault home is = is.0.keeps.flight
once_home old new (ends.Halted version) home is = is.flight
once_home old new ends.NoMemory home is = is.keeps.flight

pub all_home : (old new : CoreState) (end : CommitEnd) → old.flight ≡ None → AllEnds old new end → new.flight ≡ None
all_home old new (ends.Committed version) home is = is.keeps.flight
all_home old new ends.Nothing home is = ap (λ (c : CoreState). c.flight) is.3 ∙ home
all_home old new (ends.Stopped version) home is = ap (λ (c : CoreState). c.flight) is.1 ∙ home
all_home old new ends.StoreFault home is = is.0.keeps.flight
all_home old new (ends.Halted version) home is = is.flight
all_home old new ends.NoMemory home is = is.keeps.flight

-- ---- commits of all

once_leads : (old mid : CoreState) (version : ℕ) → Commits old mid version → raised old.count 0 ≤ mid.count → Leads old mid
once_leads old mid version c later = record {
  state = c.keeps.state;
  base = c.keeps.base;
  journal = c.keeps.journal;
  floor = c.keeps.floor;
  pins = c.keeps.pins;
  readings = c.keeps.readings;
  committed = c.keeps.committed;
  image = along_weaker (IsCommitted version) KeepsFiles (λ x y i. i.keeps) old.told mid.told c.image;
  count = later;
}

up_more : (a b v w : ℕ) → a < v → b ≡ v → b < w → a < w
up_more a b v w one same two = omega arith

not_all : (v a b : ℕ) → nat_lt v a ≡ true → b ≡ v → a ≡ b → ⊥
not_all v a b less same none = let lt : v < a = ltb-true v a less in omega arith

twice : (old mid new : CoreState) (v : ℕ) (end : CommitEnd) → Commits old mid v → Leads old mid → nat_lt v mid.state.version ≡ true → CommitEnds mid new end → AllEnds old new end
twice old mid new v (ends.Committed version) c leads more is = record {
  going = c.going;
  later = up_more old.committed mid.committed v version c.later c.committed_is is.later;
  version_is = is.whole c.unfrozen ∙ ap (λ (s : State). s.version) leads.state;
  committed_is = is.committed_is;
  unfrozen = is.unfrozen;
  emptied = λ any. is.emptied c.unfrozen;
  keeps = keeps_after old mid new leads is.keeps;
  image = committed_after old mid new leads version is.image;
}
twice old mid new v ends.Nothing c leads more is = absurd (not_all v mid.state.version mid.committed more c.committed_is is.2)
twice old mid new v (ends.Stopped version) c leads more is = absurd (none_some mid.state.halt version (ap (λ (s : State). s.halt) leads.state ∙ c.going) is.0)
twice old mid new v ends.StoreFault c leads more is = (stays_after old mid new leads is.0, rose_after old.count mid.count new.count leads.count is.1)
twice old mid new v (ends.Halted version) c leads more is = halts_after old mid new leads version is
twice old mid new v ends.NoMemory c leads more is = stays_after old mid new leads is

-- Entries stood behind what had been left frozen before, and a second commit follows the first.
pub twice_ends : (old mid new : CoreState) (first end : CommitEnd) → CommitEnds old mid first → raised old.count 0 ≤ mid.count → leaves_more first mid.state.version ≡ true → CommitEnds mid new end → AllEnds old new end
twice_ends old mid new (ends.Committed v) end c later more is = twice old mid new v end c (once_leads old mid v c later) more is
twice_ends old mid new ends.Nothing end c later more is = absurd (false≢true more)
twice_ends old mid new (ends.Stopped v) end c later more is = absurd (false≢true more)
twice_ends old mid new ends.StoreFault end c later more is = absurd (false≢true more)
twice_ends old mid new (ends.Halted v) end c later more is = absurd (false≢true more)
twice_ends old mid new ends.NoMemory end c later more is = absurd (false≢true more)

pub twice_points : (old mid new : CoreState) (first end : CommitEnd) → CommitEnds old mid first → raised old.count 0 ≤ mid.count → leaves_more first mid.state.version ≡ true → CarriesOver old mid (added first old.floor) → CarriesOver mid new (added end mid.floor) → CarriesOver old new (added end old.floor)
twice_points old mid new (ends.Committed v) end c later more one two = points_after old mid new (once_leads old mid v c later) end one two
twice_points old mid new ends.Nothing end c later more one two = absurd (false≢true more)
twice_points old mid new (ends.Stopped v) end c later more one two = absurd (false≢true more)
twice_points old mid new ends.StoreFault end c later more one two = absurd (false≢true more)
twice_points old mid new (ends.Halted v) end c later more one two = absurd (false≢true more)
twice_points old mid new ends.NoMemory end c later more one two = absurd (false≢true more)

pub twice_later : (a b c : ℕ) → raised a 0 ≤ b → raised b 0 ≤ c → raised a 0 ≤ c
twice_later a b c one two = later_after a b c one two

all_of : (v a b : ℕ) → nat_lt v a ≡ false → a ≡ b → v ≤ b → v ≡ b
all_of v a b not_less same most = let le : a ≤ v = ltb-false v a not_less in omega arith

-- No entry stands behind what went into files.
pub once_ends : (old new : CoreState) (end : CommitEnd) → CommitEnds old new end → leaves_more end new.state.version ≡ false → AllEnds old new end
once_ends old new (ends.Committed version) c less =
    let whole : version ≡ old.state.version = all_of version new.state.version old.state.version less (ap (λ (s : State). s.version) c.keeps.state) c.most in
    record {
      going = c.going;
      later = c.later;
      version_is = whole;
      committed_is = c.committed_is;
      unfrozen = c.unfrozen;
      emptied = λ any. ⊎_elim (λ none. c.emptied none) (λ empty. c.empty empty whole) any;
      keeps = c.keeps;
      image = c.image;
    }
once_ends old new ends.Nothing c less = c
once_ends old new (ends.Stopped version) c less = c
once_ends old new ends.StoreFault c less = c
once_ends old new (ends.Halted version) c less = c
once_ends old new ends.NoMemory c less = c

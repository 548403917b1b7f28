-- An install keeps each point of what a core says of a history, with what it adds.
use Rattle.std.proofs.Common.{◌≡◌, ◌⊎◌, inl, inr, ⊎_elim, ℕ, zero, suc, ◌+◌, ◌≤◌, max, List, [], ◌∷◌, ◌++◌, length, Option, Some, None, All, slice_get, refl, sym, ap, subst, ◌∙◌, arith}
use Rattle.std.specs.Prelude.{IfSome}
use Rattle.std.specs.List.{AllByRecursion}
use Rattle.std.proofs.lemmas.Bool.{cases_lt}
use Rattle.std.proofs.lemmas.List.{append-nil}
use Rattle.std.proofs.lemmas.List.Elements.{All-head, All-cons, All-nil, All-weaker, All-from_recursion, recursion_from_All}
use Rattle.td_limits.specs.declared.limits.TheConstants.{MEMTABLE_PARTS}
use Rattle.td_model.specs.declared.history.Entry.{Entry}
use Rattle.td_model.specs.declared.report.JournalLine.{JournalLine}
use Rattle.td_model.specs.State.{State, step, after}
use Rattle.td_outside.specs.Image.{Image, Along}
use Rattle.td_outside.specs.Files.{IsFinished}
use Rattle.td_told.specs.Journal.{halt_at}
use Rattle.td_told.specs.Times.{reading, WereTaken, IsGiven, Timed}
use Rattle.td_told.specs.Turn.{halt_line}
use Rattle.td_memtable.specs.Contents.{Contents}
use Rattle.td_commit.specs.declared.frozen.Frozen.{Frozen}
use Rattle.td_fileset.specs.Layered.{listed}
use Rattle.td_levels.specs.Levels.{SetFiles, Levels, Files, memtables_of}
use Rattle.td_levels.specs.Laws.{HoldRows, HasKindsOf, KeepFiles, AreWritten}
use Rattle.td_levels.specs.Ranges.{AreRangesOf, AreByRange, installed}
use Rattle.td_levels.proofs.Commits.{commit_keeps}
use Rattle.td_stands.specs.Stands.{Stands}
use Rattle.td_state.specs.Facts.{Facts, facts}
use Rattle.td_state.specs.Held.{bare}
use Rattle.td_active.specs.Stored.{names_of, AreFinished}
use Rattle.td_engine.specs.CoreState.{CoreState, FrozenAt}
use Rattle.td_engine.specs.Covers.{FactsAre, RowsAre, HeldIs, PinsAre, lines, JournalIs, HaltedAt, ImageIsBy, ImageIs, FloorIs, greatest, ClockIs}
use Rattle.td_engine.specs.Commits.{IsHome, IsOut, KeepsFiles}
use Rattle.td_engine.specs.Installs.{AreNow, IsInstalled, Unflown, InstallEnds, halt_unless, added_by}
use Rattle.td_engine.specs.declared.installing.Install.{Install}
use Rattle.td_engine.specs.declared.installing.Install.TheVariants as install
use Rattle.td_engine.proofs.Images.{carry, along}
use Rattle.td_engine.proofs.Histories.{after-push, halt_alone, after_version, lines-push, halt_kept, get_pushed}
use Rattle.td_engine.proofs.Added.{all_parts, hold_alike}
use Rattle.td_engine.proofs.Making.{pins_more, image_more}

-- ---- what becomes of the levels and of the history

-- the files of a frozen memtable took its place
pub record TookPlace (old new : CoreState) (f : Frozen) : Type 0 where
  pub home : IsHome old f
  pub numbers : List ℕ
  pub at : FrozenAt
  pub at_is : old.frozen_at ≡ Some at
  pub levels : new.levels ≡ installed f.ranges numbers at.edge old.levels
  pub files : Along (AreNow f numbers) old.told new.told

-- the levels stay, or the files of the frozen memtable took its place
pub record Goes (old new : CoreState) (f : Frozen) : Type 0 where
  pub pins : new.pins ≡ old.pins
  pub base : new.base ≡ old.base
  pub floor : new.floor ≡ old.floor
  pub readings : new.readings ≡ old.readings
  pub image : Along KeepsFiles old.told new.told
  pub levels : (new.levels ≡ old.levels) ⊎ TookPlace old new f

-- nothing is added to the history
pub record AddsNone (old new : CoreState) (added : List Entry) : Type 0 where
  pub added_is : added ≡ []
  pub state : new.state ≡ old.state
  pub journal : new.journal ≡ old.journal

-- a halt is added
pub record AddsHalt (old new : CoreState) (added : List Entry) : Type 0 where
  pub added_is : added ≡ halt_at old.floor ∷ []
  pub going : old.state.halt ≡ None
  pub state : new.state ≡ bare (step (old.state ∷ []) (halt_at old.floor))
  pub journal : new.journal ≡ old.journal ++ halt_line (old.state.version + 1) old.floor ∷ []

goes_same : (old new : CoreState) (f : Frozen) → Unflown (record old { flight = None }) (record new { flight = None }) → Along KeepsFiles old.told new.told → Goes old new f
goes_same old new f is image = record { pins = is.pins; base = is.base; floor = is.floor; readings = is.readings; image = image; levels = inl is.levels }

pub goes : (old new : CoreState) (f : Frozen) (r : Install) → InstallEnds old new f r → Goes old new f
goes old new f (install.Installed version) is = record {
  pins = is.pins;
  base = is.base;
  floor = is.floor;
  readings = is.readings;
  image = along (IsInstalled f is.numbers) KeepsFiles old.told new.told (λ a b k. k.keeps) is.image;
  levels = inr (record { home = is.home; numbers = is.numbers; at = is.at; at_is = is.at_is; levels = is.levels; files = along (IsInstalled f is.numbers) (AreNow f is.numbers) old.told new.told (λ a b k. k.files) is.image });
}
goes old new f (install.Strange number) is = goes_same old new f is.2 is.4
goes old new f install.StoreFault is = record { pins = is.2.pins; base = is.2.base; floor = is.2.floor; readings = is.2.readings; image = is.3; levels = inl is.2.levels }
goes old new f install.NoMemory is = record { pins = is.2.pins; base = is.2.base; floor = is.2.floor; readings = is.2.readings; image = is.3; levels = inl is.2.levels }
goes old new f (install.Halted halt) is = elim is [
  | inl now ↦ record {
    pins = now.pins;
    base = now.base;
    floor = now.floor;
    readings = now.readings;
    image = now.image;
    levels = elim now.levels [
      | inl same ↦ inl same.0
      | inr r ↦ inr (record { home = now.home; numbers = r.numbers; at = r.at; at_is = r.at_is; levels = r.levels; files = r.files })
    ];
  }
  | inr still ↦ record { pins = still.keeps.pins; base = still.keeps.base; floor = still.keeps.floor; readings = still.keeps.readings; image = still.image; levels = inl still.keeps.levels }
]

pub adds : (old new : CoreState) (f : Frozen) (r : Install) → InstallEnds old new f r → AddsNone old new (added_by r old.state.halt old.floor) ⊎ AddsHalt old new (added_by r old.state.halt old.floor)
adds old new f (install.Installed version) is = inl (record { added_is = refl; state = is.state; journal = is.journal })
adds old new f (install.Strange number) is = inl (record { added_is = refl; state = is.2.state; journal = is.2.journal })
adds old new f install.StoreFault is = inl (record { added_is = refl; state = is.2.state; journal = is.2.journal })
adds old new f install.NoMemory is = inl (record { added_is = refl; state = is.2.state; journal = is.2.journal })
adds old new f (install.Halted halt) is = elim is [
  | inl now ↦ inr (record {
    added_is = ap (λ (o : Option ℕ). halt_unless o old.floor) now.going;
    going = now.going;
    state = now.state;
    journal = now.journal ∙ ap (λ (n : ℕ). old.journal ++ halt_line n old.floor ∷ []) now.halt_is;
  })
  | inr still ↦ inl (record { added_is = ap (λ (o : Option ℕ). halt_unless o old.floor) still.halt_is; state = still.keeps.state; journal = still.keeps.journal })
]

-- ---- the state

halted : Facts → ℕ → Facts
halted x moment = record x { version = x.version + 1; moment = moment; halt = Some (x.version + 1) }

halted_facts : (s : State) (moment : ℕ) → facts (bare (step (s ∷ []) (halt_at moment))) ≡ halted (facts s) moment
unfolding halted
halted_facts s moment = refl

halted_after : (b : State) (h : List Entry) (moment : ℕ) → after b (h ++ halt_at moment ∷ []) ≡ step (after b h ∷ []) (halt_at moment)
halted_after b h moment = after-push b h (halt_at moment) (halt_alone moment)

-- ---- the rows

finished_kept : (a b : Image) (sets : List SetFiles) → KeepsFiles a b → AllByRecursion (λ (s : SetFiles). All (λ (n : ℕ). IsFinished n a) (names_of s)) sets → AllByRecursion (KeepFiles a.files b.files) sets
finished_kept a b [] keeps all = tt
finished_kept a b (s ∷ ss) keeps all = (one s.main (recursion_from_All (λ (n : ℕ). IsFinished n a) (names_of s) all.0), finished_kept a b ss keeps all.1)
  where
    stt_of : (main : Option ℕ) → AllByRecursion (λ (n : ℕ). IsFinished n a) (names_of (record s { main = main })) → AllByRecursion (λ (n : ℕ). IsFinished n a) s.stt
    stt_of None each = (all_parts (λ (n : ℕ). IsFinished n a) s.stt [] each).0
    stt_of (Some m) each = (all_parts (λ (n : ℕ). IsFinished n a) s.stt (m ∷ []) each).0

    main_of : (main : Option ℕ) → AllByRecursion (λ (n : ℕ). IsFinished n a) (names_of (record s { main = main })) → (n : ℕ) → main ≡ Some n → b.files n ≡ a.files n
    main_of None each n is = absurd (let clash : ⊥ = cc in clash)
    main_of (Some m) each n is =
        let same : m ≡ n = cc in
        let own = (all_parts (λ (n : ℕ). IsFinished n a) s.stt (m ∷ []) each).1.0 in
        ap (λ (k : ℕ). b.files k) (sym same) ∙ keeps.kept m own ∙ ap (λ (k : ℕ). a.files k) same

    one : (main : Option ℕ) → AllByRecursion (λ (n : ℕ). IsFinished n a) (names_of (record s { main = s.main })) → KeepFiles a.files b.files s
    one main each = record {
      stt = All-weaker (λ (n : ℕ). IsFinished n a) (λ (n : ℕ). b.files n ≡ a.files n) (λ n is. keeps.kept n is) s.stt (All-from_recursion (λ (n : ℕ). IsFinished n a) s.stt (stt_of s.main each));
      main = main_of s.main each;
    }

module _ (old new : CoreState) (f : Frozen) (t : State) (facts_are : facts old.state ≡ facts t) (out : IsHome old f → IsOut old f) (by_range : AreByRange old.levels.sets) where
  rows_placed : (a b : Image) → KeepsFiles a b → AreFinished old.levels.sets a → (took : TookPlace old new f) → AreNow f took.numbers a b → HoldRows a.files t old.levels → HoldRows b.files t new.levels
  rows_placed a b keeps finished took now h =
      let is = out took.home in
      let same : is.at ≡ took.at = some_is is.at took.at (sym is.at_is ∙ took.at_is) in
      let kinds : HasKindsOf t.catalog f = subst (λ (x : Facts). HasKindsOf x.catalog f) facts_are is.kinds in
      let ranges : AreRangesOf f.memtable old.levels.sets took.at.edge f.ranges = subst (λ (x : FrozenAt). AreRangesOf f.memtable old.levels.sets x.edge f.ranges) same is.ranges in
      let risen : took.at.edge ≤ t.edge = subst (λ (x : Facts). took.at.edge ≤ x.edge) facts_are (subst (λ (x : FrozenAt). x.edge ≤ old.state.edge) same is.risen) in
      let written : AreWritten a.files b.files f took.numbers old.levels.sets = record {
        sound = is.sound;
        told = now.told;
        befores = now.befores;
        files_are = now.files_are;
        kept = All-from_recursion (KeepFiles a.files b.files) old.levels.sets (finished_kept a b old.levels.sets keeps (recursion_from_All (λ (s : SetFiles). All (λ (n : ℕ). IsFinished n a) (names_of s)) old.levels.sets finished));
      } in
      subst (λ (l : Levels). HoldRows b.files t l) (sym took.levels) (commit_keeps a.files b.files t old.levels f took.at.edge took.numbers is.frozen kinds ranges risen by_range written h).0
    where
      some_is : (x y : FrozenAt) → Some x ≡ Some y → x ≡ y
      some_is x y e = cc

  rows_same : (a b : Image) → KeepsFiles a b → AreFinished old.levels.sets a → new.levels ≡ old.levels → HoldRows a.files t old.levels → HoldRows b.files t new.levels
  rows_same a b keeps finished same h =
      subst (λ (l : Levels). HoldRows b.files t l) (sym same) (hold_alike a.files b.files t old.levels (finished_kept a b old.levels.sets keeps (recursion_from_All (λ (s : SetFiles). All (λ (n : ℕ). IsFinished n a) (names_of s)) old.levels.sets finished)) h)

  rows_told : (told told' : Option Image) → Along KeepsFiles told told' → IfSome told (AreFinished old.levels.sets) → (new.levels ≡ old.levels) ⊎ ((took : TookPlace old new f) × Along (AreNow f took.numbers) told told') → IfSome told (λ image. HoldRows image.files t old.levels)
      → IfSome told' (λ image. HoldRows image.files t new.levels)
  rows_told None None keeps finished levels h = tt
  rows_told None (Some b) keeps finished levels h = absurd keeps
  rows_told (Some a) None keeps finished levels h = absurd keeps
  rows_told (Some a) (Some b) keeps finished levels h = elim levels [
    | inl same ↦ rows_same a b keeps finished same h
    | inr took ↦ rows_placed a b keeps finished took.0 took.1 h
  ]

halt_holds : (files : Files) (t : State) (l : Levels) (moment : ℕ) → HoldRows files t l → HoldRows files (step (t ∷ []) (halt_at moment)) l
halt_holds files t l moment h = record { valid = h.valid; fits = h.fits; further = h.further; rows = h.rows }

halt_told : (told : Option Image) (t : State) (l : Levels) (moment : ℕ) → IfSome told (λ image. HoldRows image.files t l) → IfSome told (λ image. HoldRows image.files (step (t ∷ []) (halt_at moment)) l)
halt_told None t l moment h = tt
halt_told (Some image) t l moment h = halt_holds image.files t l moment h

-- ---- moments

greatest_given : (least : ℕ) (rs : List ℕ) (n : ℕ) → IsGiven rs least (greatest least rs n)
greatest_given least rs zero = inl refl
greatest_given least rs (suc n) = elim (cases_lt (greatest least rs n) (reading rs n)) [
  | inl less ↦ inr (n, omega (arith, less))
  | inr most ↦
      let same : greatest least rs n ≡ max (greatest least rs n) (reading rs n) = omega (arith, most) in
      subst (IsGiven rs least) same (greatest_given least rs n)
]

halt_timed : (opened : Option (List ℕ)) (least n floor : ℕ) (h : List Entry) → IfSome opened (λ rs. floor ≡ greatest least rs n) → Timed opened least h → Timed opened least (h ++ halt_at floor ∷ [])
halt_timed None least n floor h is timed = tt
halt_timed (Some rs) least n floor h is timed = record {
  late = λ k x found. timed.late k x (ap (λ (l : List Entry). slice_get l k) (sym (halt_kept h (halt_at floor) refl)) ∙ found);
  among = λ k x found. elim (get_pushed h (halt_at floor) x k found) [
    | inl earlier ↦ timed.among k x earlier
    | inr last ↦ subst (λ (y : Entry). IsGiven rs least y.moment) last.1 (subst (IsGiven rs least) (sym is) (greatest_given least rs n))
  ];
}

-- ---- the points

version_is : (c : CoreState) (b : State) (h : List Entry) → FactsAre c b h → c.state.version ≡ b.version + length h
version_is c b h f = ap (λ (x : Facts). x.version) f ∙ after_version b h

pub held_placed : (old new : CoreState) (f : Frozen) (r : Install) → InstallEnds old new f r → HeldIs old → HeldIs new
held_placed old new f r ends held = elim (goes old new f r ends).levels [
  | inl same ↦ subst (λ (l : Levels). All (λ (m : Contents). m.held ≤ MEMTABLE_PARTS) (memtables_of l)) (sym same) held
  | inr took ↦ subst (λ (l : Levels). All (λ (m : Contents). m.held ≤ MEMTABLE_PARTS) (memtables_of l)) (sym took.levels)
      (All-cons (λ (m : Contents). m.held ≤ MEMTABLE_PARTS) old.levels.active [] (All-head (λ (m : Contents). m.held ≤ MEMTABLE_PARTS) old.levels.active (listed old.levels.frozen) held) (All-nil (λ (m : Contents). m.held ≤ MEMTABLE_PARTS)))
]

pub pins_placed : (old new : CoreState) (f : Frozen) (r : Install) → InstallEnds old new f r → PinsAre old → PinsAre new
pins_placed old new f r ends pins =
    let go = goes old new f r ends in
    subst (λ (p : ℕ → ℕ). IfSome new.told (λ image. (n : ℕ) → image.readers n ≡ p n)) (sym go.pins) (pins_more old.told new.told old.pins go.image pins)

module _ (old new : CoreState) (f : Frozen) (r : Install) (ends : InstallEnds old new f r) (b : State) (h : List Entry) where
  go : Goes old new f
  go = goes old new f r ends

  added : List Entry
  added = added_by r old.state.halt old.floor

  -- a history with what was added, whichever it is
  either : (P : List Entry → Type 0) → (AddsNone old new (added_by r old.state.halt old.floor) → P h) → (AddsHalt old new (added_by r old.state.halt old.floor) → P (h ++ halt_at old.floor ∷ [])) → P (h ++ added_by r old.state.halt old.floor)
  either P none halt = elim (adds old new f r ends) [
    | inl is ↦ subst P (sym (append-nil h) ∙ ap (λ (l : List Entry). h ++ l) (sym is.added_is)) (none is)
    | inr is ↦ subst P (ap (λ (l : List Entry). h ++ l) (sym is.added_is)) (halt is)
  ]

  pub facts_placed : FactsAre old b h → FactsAre new b (h ++ added_by r old.state.halt old.floor)
  facts_placed fa = either (λ (l : List Entry). FactsAre new b l) (λ is. ap facts is.state ∙ fa)
      (λ is. ap facts is.state ∙ halted_facts old.state old.floor ∙ ap (λ (x : Facts). halted x old.floor) fa ∙ sym (halted_facts (after b h) old.floor) ∙ ap facts (sym (halted_after b h old.floor)))

  pub rows_placed_now : (IsHome old f → IsOut old f) → AreByRange old.levels.sets → IfSome old.told (AreFinished old.levels.sets) → FactsAre old b h → RowsAre old b h → RowsAre new b (h ++ added_by r old.state.halt old.floor)
  rows_placed_now out by_range finished fa rows =
      let levels = ⊎_elim (λ (same : new.levels ≡ old.levels). inl same) (λ (took : TookPlace old new f). inr (took, took.files)) go.levels in
      let now = rows_told old new f (after b h) fa out by_range old.told new.told go.image finished levels rows in
      either (λ (l : List Entry). RowsAre new b l) (λ is. now)
      (λ is. subst (λ (t : State). IfSome new.told (λ image. HoldRows image.files t new.levels)) (sym (halted_after b h old.floor)) (halt_told new.told (after b h) new.levels old.floor now))

  pub journal_placed : FactsAre old b h → JournalIs old b h → JournalIs new b (h ++ added_by r old.state.halt old.floor)
  journal_placed fa j = either (λ (l : List Entry). JournalIs new b l) (λ is. record { base = go.base ∙ j.base; lines_are = is.journal ∙ j.lines_are })
      (λ is.
      let number : old.state.version + 1 ≡ (b.version + length h) + 1 = ap (λ (n : ℕ). n + 1) (version_is old b h fa) in
      record {
        base = go.base ∙ j.base;
        lines_are = is.journal ∙ ap (λ (l : List JournalLine). l ++ halt_line (old.state.version + 1) old.floor ∷ []) j.lines_are
            ∙ ap (λ (n : ℕ). lines b.version h ++ halt_line n old.floor ∷ []) number ∙ sym (lines-push b.version h (halt_at old.floor));
      })

  halted_image : (told told' : Option Image) → Along KeepsFiles told told' → IfSome told (λ image. ImageIsBy None image b h) → IfSome told' (λ image. HaltedAt image b (h ++ halt_at old.floor ∷ []))
  halted_image told told' keeps is = carry KeepsFiles (λ (image : Image). Stands image (after b h)) (λ (image : Image). HaltedAt image b (h ++ halt_at old.floor ∷ [])) told told' (λ x y k stands. record {
    before = h;
    halt = halt_at old.floor;
    is_halt = refl;
    ends = refl;
    tried = halt_at old.floor;
    stands = inl (k.stands (after b h) stands);
  }) keeps is

  pub image_placed : ImageIs old b h → ImageIs new b (h ++ added_by r old.state.halt old.floor)
  image_placed image = either (λ (l : List Entry). ImageIs new b l)
      (λ is. subst (λ (s : State). IfSome new.told (λ x. ImageIsBy s.halt x b h)) (sym is.state) (image_more old.told new.told old.state.halt b h go.image image))
      (λ is.
      let stopped : new.state.halt ≡ Some (old.state.version + 1) = ap (λ (x : State). x.halt) is.state in
      let before : IfSome old.told (λ x. ImageIsBy None x b h) = subst (λ (o : Option ℕ). IfSome old.told (λ x. ImageIsBy o x b h)) is.going image in
      subst (λ (o : Option ℕ). IfSome new.told (λ x. ImageIsBy o x b (h ++ halt_at old.floor ∷ []))) (sym stopped) (halted_image old.told new.told go.image before))

  pub floor_placed : FloorIs old b h → FloorIs new b (h ++ added_by r old.state.halt old.floor)
  floor_placed le = either (λ (l : List Entry). FloorIs new b l) (λ is. subst (λ (n : ℕ). (after b h).moment ≤ n) (sym go.floor) le)
      (λ is. at_most (after b (h ++ halt_at old.floor ∷ [])).moment old.floor new.floor (ap (λ (x : State). x.moment) (halted_after b h old.floor)) go.floor)
    where
      at_most : (x y z : ℕ) → x ≡ y → z ≡ y → x ≤ z
      at_most x y z e k = omega arith

  pub clock_placed : (opened : Option (List ℕ)) → ClockIs opened old b h → ClockIs opened new b (h ++ added_by r old.state.halt old.floor)
  clock_placed opened c =
      let taken_still = subst (λ (o : Option (List ℕ)). WereTaken opened c.taken o) (sym go.readings) c.were_taken in
      let floor_still = subst (λ (n : ℕ). IfSome opened (λ rs. n ≡ greatest b.moment rs c.taken)) (sym go.floor) c.floor in
      either (λ (l : List Entry). ClockIs opened new b l) (λ is. record { taken = c.taken; were_taken = taken_still; enough = c.enough; floor = floor_still; timed = c.timed })
      (λ is. record {
        taken = c.taken;
        were_taken = taken_still;
        enough = subst (λ (l : List Entry). length l ≤ c.taken) (sym (halt_kept h (halt_at old.floor) refl)) c.enough;
        floor = floor_still;
        timed = halt_timed opened b.moment c.taken old.floor h c.floor c.timed;
      })

-- What a freeze makes of what is true of a core's state, levels and store.
use Rattle.std.proofs.Common.{◌≡◌, ◌≢◌, inl, inr, ℕ, suc, ◌+◌, ◌≤◌, Bool, true, false, List, [], ◌∷◌, map, length, take, Option, Some, None, All, refl, sym, ap, subst, ◌∙◌, arith}
use Rattle.std.specs.Prelude.{IfSome}
use Rattle.std.specs.List.{AllByRecursion}
use Rattle.std.proofs.lemmas.List.Elements.{All-weaker, All-head, All-nil, All-cons}
use Rattle.td_cols.specs.declared.kinds.Kind.{Kind}
use Rattle.td_layer.specs.declared.values.Cell.{Cell}
use Rattle.td_layer.specs.declared.values.Cell.TheVariants as cell
use Rattle.td_layer.specs.declared.values.Key.{Key}
use Rattle.td_layer.specs.declared.parts.Partial.{Partial}
use Rattle.td_model.specs.declared.catalog.Column.{Column}
use Rattle.td_model.specs.declared.catalog.StableDef.{StableDef}
use Rattle.td_model.specs.declared.catalog.TableDef.{TableDef}
use Rattle.td_model.specs.Catalog.{Catalog}
use Rattle.td_model.specs.State.{State}
use Rattle.td_verdict.specs.Valid.{IsValid}
use Rattle.td_outside.specs.Image.{Log, Image}
use Rattle.td_manifest.specs.declared.head.Head.{Head}
use Rattle.td_manifest.specs.declared.head.HeadTable.{HeadTable}
use Rattle.td_manifest.specs.Heads.{head_body}
use Rattle.td_manifest.specs.States.{state_of_head, table_def}
use Rattle.td_memtable.specs.Contents.{Contents, nothing_held}
use Rattle.td_printed.specs.Heads as printed
use Rattle.td_wal.specs.declared.item.LogItem.{LogItem}
use Rattle.td_commit.specs.declared.frozen.Frozen.{Frozen}
use Rattle.td_fileset.specs.Layered.{listed}
use Rattle.td_levels.specs.Levels.{Levels}
use Rattle.td_levels.specs.Days.{RangesFit}
use Rattle.td_levels.specs.Fits.{FitsPut, FitsCut, FitsMemtable, FitsLevels}
use Rattle.td_levels.specs.Laws.{frozen_of}
use Rattle.td_levels.specs.Ranges.{AreRangesOf}
use Rattle.td_stands.specs.Replay.{Replays}
use Rattle.td_stands.specs.Stands.{HasItems}
use Rattle.td_stands.proofs.Replaying.{replays_version}
use Rattle.td_state.specs.Heads as state
use Rattle.td_state.specs.Held.{headed}
use Rattle.td_state.specs.Kinds.{all_kinds}
use Rattle.td_active.specs.declared.active_log.ActiveLog.{ActiveLog}
use Rattle.td_active.specs.Active.{AtGate, IsWritten, Seals, FrozenIs, IsActive}
use Rattle.td_active.specs.Stored.{IsSealing, Sealing, IsStored}
use Rattle.td_engine.specs.CoreState.{CoreState, frozen_at}
use Rattle.td_engine.specs.Commits.{IsOut, at_now}
use Rattle.td_engine.proofs.Writable.{has_kinds, kinds_few, take_all_kinds, can_be_written, has_births}

-- ---- what a head asks of a catalog

short_name : (name : List ℕ) → printed.IsShortName name → state.IsShortName name
short_name name h = record { few = h.few; named = h.named }

short_names : (cs : List Column) → printed.AreShortNamed cs → state.AreShortNamed cs
short_names [] h = tt
short_names (c ∷ cs) h = (short_name c.name h.0, short_names cs h.1)

printable_tag : (a : Cell) → printed.IsPrintableTag a → state.IsPrintableTag a
printable_tag cell.Null h = tt
printable_tag (cell.Truth b) h = tt
printable_tag (cell.Num n) h = tt
printable_tag (cell.Frac sum count) h = tt
printable_tag (cell.Str text) h = h

printable_tags : (tags : List Cell) → AllByRecursion printed.IsPrintableTag tags → AllByRecursion state.IsPrintableTag tags
printable_tags [] h = tt
printable_tags (a ∷ tags) h = (printable_tag a h.0, printable_tags tags h.1)

stables_fit : (ss : List StableDef) → AllByRecursion printed.StableFitsHead ss → AllByRecursion state.StableFitsHead ss
stables_fit [] h = tt
stables_fit (s ∷ ss) h = (
  record {
    name = short_name s.name h.0.name;
    columns = short_names s.schema.columns h.0.columns;
    tags = record { some = h.0.tags.some; names = short_names s.schema.tags h.0.tags.names };
  },
  stables_fit ss h.1,
)

tables_fit : (ts : List TableDef) → AllByRecursion printed.TableFitsHead ts → AllByRecursion state.TableFitsHead ts
tables_fit [] h = tt
tables_fit (t ∷ ts) h = (record { name = short_name t.name h.0.name; columns = short_names t.columns h.0.columns; tags = printable_tags t.tags h.0.tags }, tables_fit ts h.1)

pub fits_head : (c : Catalog) → printed.FitsHead c → state.FitsHead c
fits_head c h = record { stables = stables_fit c.stables h.stables; tables = tables_fit c.tables h.tables }

-- ---- memtables

pub nothing_fits : (c : Catalog) → FitsMemtable c nothing_held
nothing_fits c = record {
  sound = record { few = omega arith; puts = omega arith; cuts = omega arith; cells = tt; ends = tt };
  puts = All-nil (FitsPut c);
  cuts = All-nil (FitsCut c);
}

pub active_fits : (c : Catalog) (l : Levels) → FitsLevels c l → FitsMemtable c l.active
active_fits c l fits = All-head (FitsMemtable c) l.active (listed l.frozen) fits.memtables

pub frozen_fits : (c : Catalog) (l : Levels) (m : Contents) → l.frozen ≡ Some m → FitsLevels c l → FitsMemtable c m
frozen_fits c l m is fits =
    let all : All (FitsMemtable c) (l.active ∷ m ∷ []) = subst (λ (o : Option Contents). All (FitsMemtable c) (l.active ∷ listed o)) is fits.memtables in
    all 1 m (omega arith)

pub levels_frozen : (c : Catalog) (l : Levels) → FitsLevels c l → FitsLevels c (frozen_of l)
levels_frozen c l fits = record {
  memtables = All-cons (FitsMemtable c) nothing_held (l.active ∷ []) (nothing_fits c) (All-cons (FitsMemtable c) l.active [] (active_fits c l fits) (All-nil (FitsMemtable c)));
  ranges = fits.ranges;
}

-- a head stands beside a frozen memtable alone
pub none_sealed : (frozen : Option Contents) (sealed : Option Head) (place : ActiveLog) (s : State) (committed : ℕ) → frozen ≡ None → Sealing frozen sealed place s committed → sealed ≡ None
none_sealed None None place s committed is sealing = refl
none_sealed None (Some h) place s committed is sealing = absurd sealing
none_sealed (Some m) sealed place s committed is sealing = absurd (let clash : ⊥ = cc in clash)

pub number_most : (frozen : Option Contents) (sealed : Option Head) (place : ActiveLog) (s : State) (committed : ℕ) → frozen ≡ None → Sealing frozen sealed place s committed → place.number ≤ committed + 1
number_most None None place s committed is sealing = sealing
number_most None (Some h) place s committed is sealing = absurd sealing
number_most (Some m) sealed place s committed is sealing = absurd (let clash : ⊥ = cc in clash)

pub sealing_of : (frozen : Option Contents) (sealed : Option Head) (place : ActiveLog) (s : State) (committed : ℕ) (m : Contents) (h : Head) → frozen ≡ Some m → sealed ≡ Some h → Sealing frozen sealed place s committed → IsSealing m h place s committed
sealing_of frozen sealed place s committed m h f e sealing = subst (λ (o : Option Contents). Sealing o (Some h) place s committed) f (subst (λ (o : Option Head). Sealing frozen o place s committed) e sealing)

pub never_bare : (frozen : Option Contents) (sealed : Option Head) (place : ActiveLog) (s : State) (committed : ℕ) (m : Contents) → frozen ≡ Some m → sealed ≡ None → Sealing frozen sealed place s committed → ⊥
never_bare frozen sealed place s committed m f e sealing = subst (λ (o : Option Contents). Sealing o None place s committed) f (subst (λ (o : Option Head). Sealing frozen o place s committed) e sealing)

-- ---- the head of the state

-- the head of a state that has neither streams nor a halt, without file sets
pub record IsHeadOf (h : Head) (s : State) (first_log : ℕ) : Type 0 where
  pub state : state_of_head h [] ≡ headed s
  pub sets : h.sets ≡ []
  pub streams : h.streams ≡ []
  pub first_log_is : h.first_log ≡ first_log
  pub fits : head_body.fits h ≡ true

headed_is : (s : State) → s.catalog.streams ≡ [] → s.rows ≡ [] → s.halt ≡ None → headed s ≡ s
headed_is s streams rows halt = λ i. record s { catalog = record s.catalog { streams = sym streams i }; rows = sym rows i; halt = sym halt i }

pub head_tables : (h : Head) (s : State) → state_of_head h [] ≡ headed s → length h.tables ≡ length s.catalog.tables
head_tables h s state = sym (count h.tables) ∙ ap (λ (x : State). length x.catalog.tables) state
  where
    count : (ts : List HeadTable) → length (map table_def ts) ≡ length ts
    count [] = refl
    count (t ∷ ts) = ap suc (count ts)

at_most_same : (a b c : ℕ) → a ≤ b → c ≡ b → a ≤ c
at_most_same a b c le e = omega arith

pub sealing_now : (h : Head) (s : State) (l : Levels) (committed : ℕ) (place : ActiveLog) → IsHeadOf h s (place.number) → FitsMemtable s.catalog l.active → committed ≤ s.version → s.version ≢ committed → IsSealing l.active h place s committed
sealing_now h s l committed place is fits le ne =
    let tables = head_tables h s is.state in
    let version : h.version ≡ s.version = ap (λ (x : State). x.version) is.state in
    let edge : h.edge ≡ s.edge = ap (λ (x : State). x.edge) is.state in
    record {
      number = sym is.first_log_is;
      fits = is.fits;
      no_sets = is.sets;
      no_streams = is.streams;
      later = omega (arith, version, le, ne);
      most = omega (arith, version);
      edge = omega (arith, edge);
      puts = All-weaker (FitsPut s.catalog) (λ (e : Key × Partial). e.0.table ≤ length h.tables) (λ e put. at_most_same e.0.table (length s.catalog.tables) (length h.tables) put.put.key.there tables) l.active.puts fits.puts;
      cuts = All-weaker (FitsCut s.catalog) (λ (e : Key × ℕ). e.0.table ≤ length h.tables) (λ e cut. at_most_same e.0.table (length s.catalog.tables) (length h.tables) cut.there tables) l.active.cuts fits.cuts;
    }

-- ---- the image

none_older : (older : List LogItem) (m : Contents) (s : State) (log : ℕ) (frozen : Option Contents) → FrozenIs older m s log frozen None → older ≡ []
none_older [] m s log frozen is = refl
none_older (i ∷ is) m s log frozen f = absurd (let none : None ≡ Some f.1 = f.2 in let clash : ⊥ = cc in clash)

settled_items : (first : ℕ) (own : List LogItem) (gate : ℕ) (made : Bool) (log : Option Log) → own ≢ [] → AtGate first own gate made log → HasItems first own log
settled_items first own gate false log some at = absurd (some at.0)
settled_items first own gate true None some at = absurd at
settled_items first own gate true (Some log) some at = at.log_at.log

first_written : (image : Image) (h : Head) (number : ℕ) (older : List LogItem) → older ≡ [] → IsWritten image h number older → number ≡ h.first_log
first_written image h number older none which = elim which [
  | inl first ↦ first.0
  | inr second ↦ absurd (second.1 none)
]

frozen_by : (own : List LogItem) (m : Contents) (s : State) (log : ℕ) (h : Head) → own ≢ [] → Seals h log s → FrozenIs own m s log (Some m) (Some h)
frozen_by [] m s log h some seals = absurd (some refl)
frozen_by (i ∷ is) m s log h some seals = (refl, h, refl, seals)

-- the next log, which isn't made yet
abbrev pub next_log : ActiveLog → State → ActiveLog
next_log place s = record { number = place.number + 1; first = s.version + 1; gate = 0; is_made = false }

same_head : (s : State) (m : Contents) (older : List LogItem) (between : State) (frozen : Contents) → older ≡ [] → Replays s m older between frozen → between ≡ s
same_head s m older between frozen none p = (subst (λ (items : List LogItem). Replays s m items between frozen) none p).0

active_frozen : (image : Image) (place : ActiveLog) (s : State) (l : Levels) (committed : ℕ) (h : Head) → IsActive image place s l committed None → s.halt ≡ None → s.catalog.streams ≡ [] → s.version ≢ committed → IsHeadOf h s (place.number + 1)
    → IsActive image (next_log place s) s (frozen_of l) committed (Some h)
active_frozen image place s l committed h is going streams more head =
    let none : is.older ≡ [] = none_older is.older is.frozen is.between is.head.first_log l.frozen is.frozen_is in
    let begins : is.between ≡ state_of_head is.head [] = same_head (state_of_head is.head []) nothing_held is.older is.between is.frozen none is.makes_frozen in
    let grown = replays_version is.own is.between is.after nothing_held l.active is.makes_active in
    let from : is.between.version ≡ committed = ap (λ (x : State). x.version) begins ∙ is.version in
    let upto : is.after.version ≡ s.version = ap (λ (x : State). x.version) is.state_is in
    let some : is.own ≢ [] = λ e. more (no_more is.own is.after.version is.between.version s.version committed e grown from upto) in
    let count : s.version + 1 ≡ committed + 1 + length is.own = omega (arith, grown, from, upto) in
    let number : place.number ≡ is.head.first_log = first_written image is.head place.number is.older none is.which in
    let first : place.first ≡ is.head.version + 1 = is.first ∙ first_is committed is.head.version is.older none is.version in
    let has : HasItems (is.head.version + 1) is.own (image.logs is.head.first_log) =
    subst (λ (n : ℕ). HasItems (is.head.version + 1) is.own (image.logs n)) number
    (subst (λ (n : ℕ). HasItems n is.own (image.logs place.number)) first (settled_items place.first is.own place.gate place.is_made (image.logs place.number) some is.log)) in
    let rows : s.rows ≡ [] = ap (λ (x : State). x.rows) (sym is.state_is) in
    let seals : Seals h is.head.first_log is.after = record {
      state = head.state ∙ headed_is s streams rows going ∙ sym is.state_is;
      first_log = head.first_log_is ∙ ap (λ (n : ℕ). n + 1) number;
      no_sets = head.sets;
      no_streams = head.streams;
      fits = head.fits;
    } in
    record {
      head = is.head;
      head_stands = is.head_stands;
      valid = is.valid;
      version = is.version;
      sets = is.sets;
      dropped = is.dropped;
      older = is.own;
      own = [];
      which = inr (ap (λ (n : ℕ). n + 1) number, some, has);
      first = count;
      log = (refl, refl);
      between = is.after;
      frozen = l.active;
      makes_frozen = subst (λ (x : State). Replays x nothing_held is.own is.after l.active) begins is.makes_active;
      after = is.after;
      makes_active = (refl, refl);
      state_is = is.state_is;
      frozen_is = frozen_by is.own l.active is.after is.head.first_log h some seals;
    }
  where
    no_more : (own : List LogItem) (after between version committed : ℕ) → own ≡ [] → after ≡ between + length own → between ≡ committed → after ≡ version → version ≡ committed
    no_more own after between version committed none grown from upto =
        let zero_own : length own ≡ 0 = ap (λ (items : List LogItem). length items) none in
        omega (arith, zero_own, grown, from, upto)

    first_is : (committed version : ℕ) (older : List LogItem) → older ≡ [] → version ≡ committed → committed + 1 + length older ≡ version + 1
    first_is committed version older none same =
        let zero_older : length older ≡ 0 = ap (λ (items : List LogItem). length items) none in
        omega (arith, zero_older, same)

active_told : (told : Option Image) (place : ActiveLog) (s : State) (l : Levels) (committed : ℕ) (h : Head) → IfSome told (λ image. IsActive image place s l committed None) → s.halt ≡ None → s.catalog.streams ≡ [] → s.version ≢ committed → IsHeadOf h s (place.number + 1)
    → IfSome told (λ image. IsActive image (next_log place s) s (frozen_of l) committed (Some h))
active_told None place s l committed h is going streams more head = tt
active_told (Some image) place s l committed h is going streams more head = active_frozen image place s l committed h is going streams more head

pub stored_frozen : (told : Option Image) (s : State) (l : Levels) (committed : ℕ) (sealed : Option Head) (place : ActiveLog) (h : Head) → IsStored told s l committed sealed place → l.frozen ≡ None → s.halt ≡ None → s.version ≢ committed → IsHeadOf h s (place.number + 1)
    → IsStored told s (frozen_of l) committed (Some h) (next_log place s)
stored_frozen told s l committed sealed place h is none going more head =
    let unsealed = none_sealed l.frozen sealed place s committed none is.sealing in
    let active : IfSome told (λ image. IsActive image place s l committed None) = subst (λ (o : Option Head). IfSome told (λ image. IsActive image place s l committed o)) unsealed (is.active going) in
    record {
      fits = levels_frozen s.catalog l is.fits;
      by_range = is.by_range;
      ranges = is.ranges;
      no_streams = is.no_streams;
      words = is.words;
      heads = is.heads;
      committed_is = is.committed_is;
      sealing = sealing_now h s l committed (next_log place s) head (active_fits s.catalog l is.fits) is.committed_is more;
      last_version = is.last_version;
      active = λ _. active_told told place s l committed h active going is.no_streams more head;
      files = is.files;
    }

-- ---- what is out

pub is_out : (c : CoreState) (h : Head) (m : Contents) (place : ActiveLog) (f : Frozen) → c.levels.frozen ≡ Some m → c.frozen_at ≡ frozen_at (Some h) → IsValid c.state.catalog → FitsMemtable c.state.catalog m → RangesFit c.levels.sets → IsSealing m h place c.state c.committed
    → f.memtable ≡ m → f.version ≡ h.version → f.from ≡ c.committed → f.kinds ≡ take (length h.tables) (all_kinds c.state.catalog) → AreRangesOf m c.levels.sets h.edge f.ranges → IsOut c f
is_out c h m place f frozen at valid fits ranges sealing memtable version from kinds are = record {
  frozen = frozen ∙ ap (λ (x : Contents). Some x) (sym memtable);
  at = record { version = h.version; edge = h.edge; tables = length h.tables };
  at_is = at;
  version = version;
  from = from;
  sound = can_be_written c.state.catalog m c.levels.sets h.edge (length h.tables) f valid fits ranges sealing.puts sealing.cuts memtable kinds are;
  births = has_births c.state.catalog m f fits memtable;
  kinds = has_kinds c.state.catalog (length h.tables) f kinds;
  few = kinds_few c.state.catalog (length h.tables) f.kinds kinds;
  risen = sealing.edge;
  ranges = subst (λ (x : Contents). AreRangesOf x c.levels.sets h.edge f.ranges) (sym memtable) are;
}

-- the kinds of all tables are those of as many as the head has
pub all_kinds_are : (h : Head) (s : State) (kinds : List (List Kind)) → state_of_head h [] ≡ headed s → kinds ≡ all_kinds s.catalog → kinds ≡ take (length h.tables) (all_kinds s.catalog)
all_kinds_are h s kinds state is = is ∙ take_all_kinds s.catalog ∙ ap (λ (n : ℕ). take n (all_kinds s.catalog)) (sym (head_tables h s state))

pub sealed_at_now : (h : Head) (s : State) → state_of_head h [] ≡ headed s → frozen_at (Some h) ≡ Some (at_now s)
sealed_at_now h s state =
    let version : h.version ≡ s.version = ap (λ (x : State). x.version) state in
    let edge : h.edge ≡ s.edge = ap (λ (x : State). x.edge) state in
    let tables = head_tables h s state in
    λ i. Some (record { version = version i; edge = edge i; tables = tables i })

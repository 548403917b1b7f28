-- What stays true of a state, and of the memtable of its entries, while items are replayed.
use Rattle.std.proofs.Common.{◌≡◌, ℕ, ◌+◌, ◌<◌, ◌≤◌, ◌^◌, true, List, [], ◌∷◌, length, Option, None, refl, sym, ap, subst, ◌∙◌, arith}
use Rattle.std.specs.Prelude.{All}
use Rattle.std.proofs.lemmas.Bool.{and_parts}
use Rattle.std.proofs.lemmas.List.Elements.{All-nil, All-cons, All-head}
use Rattle.td_limits.specs.declared.limits.TheConstants.{LAST_TIMESTAMP, MEMTABLE_PARTS}
use Rattle.td_layer.specs.declared.values.Key.{Key}
use Rattle.td_layer.specs.declared.parts.Partial.{Partial}
use Rattle.td_model.specs.declared.history.Entry.{Entry}
use Rattle.td_model.specs.declared.history.What.{What}
use Rattle.td_model.specs.Catalog.{Catalog, with_what}
use Rattle.td_model.specs.State.{State, step}
use Rattle.td_catalog.proofs.After.{effect-catalog}
use Rattle.td_catalog.proofs.Valid.{follows_valid}
use Rattle.td_verdict.specs.Valid.{IsValid}
use Rattle.td_bind.proofs.Follows.{accepted_good}
use Rattle.td_told.specs.Turn.{entry_at}
use Rattle.td_printed.specs.Heads.{FitsHead}
use Rattle.td_printed.specs.Names.{AreWords}
use Rattle.td_printed.proofs.HeadCatalogs.{entry_fits}
use Rattle.td_printed.proofs.Histories.{write_of}
use Rattle.td_printed.proofs.Kept.{entry_keeps}
use Rattle.td_printed.proofs.Texts.{answer_has_words}
use Rattle.td_memtable.specs.Contents.{Contents, nothing_held}
use Rattle.td_wal.specs.declared.item.LogItem.{LogItem}
use Rattle.td_wal.specs.Items.{item}
use Rattle.td_wal.specs.Log.{items_fit}
use Rattle.td_levels.specs.Levels.{SetFiles, Levels, Files}
use Rattle.td_levels.specs.Taken.{taken, parts_of}
use Rattle.td_levels.specs.Fits.{FitsPut, FitsCut, FitsMemtable, FitsLevels}
use Rattle.td_levels.specs.Laws.{MayCome, HoldRows, took}
use Rattle.td_levels.proofs.Entries.{entries_fit, entries_taken}
use Rattle.td_levels.proofs.Grown.{Grows, grows}
use Rattle.td_stands.specs.Replay.{IsNext, Replays}
use Rattle.td_opening.proofs.Entered.{column_cells, edge_rises}
use Rattle.td_opening.proofs.NoStreams.{entry_makes_none}
use Rattle.td_opening.proofs.Ranges.{in_range}

-- ---- one item

-- the entry of an item
abbrev entry_of : (i : LogItem) (s t : State) → IsNext i s t → Entry
entry_of i s t n = entry_at i.session i.ordinal i.moment n.what

next_catalog : (i : LogItem) (s t : State) (n : IsNext i s t) → t.catalog ≡ with_what n.what s.catalog
next_catalog i s t n =
    ap (λ (x : State). x.catalog) n.state ∙ effect-catalog (s ∷ []) n.what (record s { version = s.version + 1; moment = i.moment })

small : (n : ℕ) → n ≤ LAST_TIMESTAMP → n < 2 ^ 64
small n le = omega arith

may_come : (i : LogItem) (s t : State) (l : Levels) (n : IsNext i s t) → IsValid s.catalog → i.moment ≤ LAST_TIMESTAMP → l.active.held + parts_of n.what ≤ MEMTABLE_PARTS → MayCome s l (entry_of i s t n)
may_come i s t l n valid last room =
    let good = accepted_good n.stmt s.catalog s.edge i.moment n.what n.rows valid (write_of n.stmt s i.moment n.what n.rows n.accepted) in
    record { follows = good.0; edge = good.1; cells = column_cells n.what s.catalog valid good.0; moment = small i.moment last; room = room }

-- what stays true from one state to a later one
pub record Stays (s t : State) : Type 0 where
  pub edge : s.edge ≤ t.edge
  pub grows_is : Grows s.catalog t.catalog
  pub valid : IsValid t.catalog
  pub streams : s.catalog.streams ≡ [] → t.catalog.streams ≡ []
  pub heads : FitsHead s.catalog → FitsHead t.catalog
  pub words : AreWords s.catalog → AreWords t.catalog

next_stays : (i : LogItem) (s t : State) → IsValid s.catalog → IsNext i s t → Stays s t
next_stays i s t valid n =
    let good = accepted_good n.stmt s.catalog s.edge i.moment n.what n.rows valid (write_of n.stmt s i.moment n.what n.rows n.accepted) in
    let begun : State = record s { version = s.version + 1; moment = i.moment } in
    let catalog = sym (next_catalog i s t n) in
    let state = sym n.state in
    record {
      edge = subst (λ (x : State). s.edge ≤ x.edge) state (edge_rises (s ∷ []) n.what begun good.1);
      grows_is = subst (λ (c : Catalog). Grows s.catalog c) catalog (grows n.what s.catalog valid);
      valid = subst IsValid catalog (follows_valid n.what s.catalog valid good.0);
      streams = λ none. subst (λ (x : State). x.catalog.streams ≡ []) state (entry_makes_none n.stmt s i.session i.ordinal i.moment n.what n.rows n.accepted none);
      heads = λ h. subst (λ (x : State). FitsHead x.catalog) state (entry_fits n.text n.stmt s i.session i.ordinal i.moment n.what n.rows n.parsed n.accepted h);
      words = λ h. subst (λ (x : State). AreWords x.catalog) state
          (entry_keeps n.stmt s [] i.moment n.what n.rows (s ∷ []) begun (answer_has_words n.text n.stmt n.parsed) h refl n.accepted);
    }

grow_on : (c d e : Catalog) → Grows c d → Grows d e → Grows c e
grow_on c d e p q = record {
  more = at_most (length c.tables) (length d.tables) (length e.tables) p.more q.more;
  same = λ table one there. q.same table one (at_most table (length c.tables) (length d.tables) there p.more) ∙ p.same table one there;
}
  where
    at_most : (x y z : ℕ) → x ≤ y → y ≤ z → x ≤ z
    at_most x y z le more = omega arith

rises_on : (a b c : ℕ) → a ≤ b → b ≤ c → a ≤ c
rises_on a b c le more = omega arith

pub stays_then : (s t u : State) → Stays s t → Stays t u → Stays s u
stays_then s t u p q = record {
  edge = rises_on s.edge t.edge u.edge p.edge q.edge;
  grows_is = grow_on s.catalog t.catalog u.catalog p.grows_is q.grows_is;
  valid = q.valid;
  streams = λ h. q.streams (p.streams h);
  heads = λ h. q.heads (p.heads h);
  words = λ h. q.words (p.words h);
}

same_at_most : (n : ℕ) → n ≤ n
same_at_most n = omega arith

stays_self : (s : State) → IsValid s.catalog → Stays s s
stays_self s valid = record {
  edge = same_at_most s.edge;
  grows_is = record { more = same_at_most (length s.catalog.tables); same = λ table one there. refl };
  valid = valid;
  streams = λ h. h;
  heads = λ h. h;
  words = λ h. h;
}

-- ---- items, one after another

pub replays_stay : (items : List LogItem) (s t : State) (l m : Contents) → IsValid s.catalog → Replays s l items t m → Stays s t
replays_stay [] s t l m valid p = subst (λ (x : State). Stays s x) (sym p.0) (stays_self s valid)
replays_stay (i ∷ is) s t l m valid p =
    let first = next_stays i s p.0 valid p.1 in
    stays_then s p.0 t first (replays_stay is p.0 t (taken p.1.what i.moment l) m first.valid p.3)

pub nothing_fits : (c : Catalog) → FitsMemtable c nothing_held
nothing_fits c = record {
  sound = record { few = omega arith; puts = omega arith; cuts = omega arith; cells = tt; ends = tt };
  puts = All-nil (FitsPut c);
  cuts = All-nil (FitsCut c);
}

-- an active memtable alone
abbrev alone : Contents → Levels
alone m = record { active = m; frozen = None; sets = [] }

alone_fits : (c : Catalog) (m : Contents) → FitsMemtable c m → FitsLevels c (alone m)
alone_fits c m fits = record { memtables = All-cons (FitsMemtable c) m [] fits (All-nil (FitsMemtable c)); ranges = λ files. tt }

next_fits : (i : LogItem) (s t : State) (m : Contents) (n : IsNext i s t) → IsValid s.catalog → i.moment ≤ LAST_TIMESTAMP → m.held + parts_of n.what ≤ MEMTABLE_PARTS → FitsMemtable s.catalog m
    → FitsMemtable t.catalog (taken n.what i.moment m)
next_fits i s t m n valid last room fits =
    let e = entry_of i s t n in
    let all = entries_fit s (alone m) e (may_come i s t (alone m) n valid last room) valid (alone_fits s.catalog m fits) in
    subst (λ (x : State). FitsMemtable x.catalog (taken n.what i.moment m)) (sym n.state)
    (All-head (FitsMemtable (step (s ∷ []) e).catalog) (taken n.what i.moment m) [] all.memtables)

pub memtable_fits : (items : List LogItem) (s t : State) (l m : Contents) (first least : ℕ) → IsValid s.catalog → items_fit first least items ≡ true → FitsMemtable s.catalog l → Replays s l items t m
    → FitsMemtable t.catalog m
memtable_fits [] s t l m first least valid fit fits p = subst (λ (x : State). FitsMemtable x.catalog m) (sym p.0) (subst (λ (x : Contents). FitsMemtable s.catalog x) (sym p.1) fits)
memtable_fits (i ∷ is) s t l m first least valid fit fits p =
    let parts = and_parts ((item first least).fits i) (items_fit (first + 1) i.moment is) fit in
    let range = in_range first least i parts.0 in
    memtable_fits is p.0 t (taken p.1.what i.moment l) m (first + 1) i.moment (next_stays i s p.0 valid p.1).valid parts.1
    (next_fits i s p.0 l p.1 valid range.last_moment p.2 fits) p.3

-- levels under an active memtable
abbrev pub under : Contents → Option Contents → List SetFiles → Levels
under m frozen sets = record { active = m; frozen = frozen; sets = sets }

-- the levels hold the rows of each state that items make, once their parts are in the active memtable
pub rows_held : (files : Files) (frozen : Option Contents) (sets : List SetFiles) (items : List LogItem) (s t : State) (l m : Contents) (first least : ℕ) → items_fit first least items ≡ true
    → HoldRows files s (under l frozen sets) → Replays s l items t m → HoldRows files t (under m frozen sets)
rows_held files frozen sets [] s t l m first least fit h p =
    subst (λ (x : State). HoldRows files x (under m frozen sets)) (sym p.0) (subst (λ (x : Contents). HoldRows files s (under x frozen sets)) (sym p.1) h)
rows_held files frozen sets (i ∷ is) s t l m first least fit h p =
    let parts = and_parts ((item first least).fits i) (items_fit (first + 1) i.moment is) fit in
    let range = in_range first least i parts.0 in
    let e = entry_of i s p.0 p.1 in
    let next = entries_taken files s (under l frozen sets) e (may_come i s p.0 (under l frozen sets) p.1 h.valid range.last_moment p.2) h in
    rows_held files frozen sets is p.0 t (taken p.1.what i.moment l) m (first + 1) i.moment parts.1
    (subst (λ (x : State). HoldRows files x (under (taken p.1.what i.moment l) frozen sets)) (sym p.1.state) next) p.3

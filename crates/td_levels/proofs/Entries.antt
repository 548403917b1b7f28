-- Levels that hold the rows of a state hold those of the state after an entry, and fit its catalog.
use Rattle.std.proofs.Common.{◌≡◌, ℕ, ◌+◌, ◌^◌, ◌<◌, ◌≤◌, List, [], ◌∷◌, length, Option, Some, None, refl, sym, subst, arith}
use Rattle.std.proofs.lemmas.List.Elements.{All-head, All-tail, All-weaker, All-cons}
use Rattle.td_limits.specs.declared.limits.TheConstants.{MEMTABLE_PARTS}
use Rattle.td_model.specs.declared.history.Put.{Put}
use Rattle.td_model.specs.declared.history.What.{What}
use Rattle.td_model.specs.declared.history.What.TheVariants as what
use Rattle.td_model.specs.declared.history.Entry.{Entry}
use Rattle.td_model.specs.Catalog.{Catalog, table_at, with_what}
use Rattle.td_model.specs.State.{State, Rows, latest_raised, parent_of, row_put, put_one, put_all, effect, step}
use Rattle.td_verdict.specs.Sound.{IsFromEdge}
use Rattle.td_verdict.specs.Valid.{IsValid}
use Rattle.td_catalog.specs.Kept.{CanFollow}
use Rattle.td_catalog.proofs.Valid.{follows_valid}
use Rattle.td_catalog.proofs.After.{effect-catalog}
use Rattle.td_memtable.specs.Contents.{Contents}
use Rattle.td_fileset.specs.Layered.{listed}
use Rattle.td_levels.specs.Levels.{Levels, Files}
use Rattle.td_levels.specs.Taken.{taken, parts_of, HasColumnCells}
use Rattle.td_levels.specs.Fits.{FitsMemtable, FitsLevels, HaveNoFurther}
use Rattle.td_levels.specs.Laws.{MayCome, HoldRows, took}
use Rattle.td_levels.proofs.Fitting.{puts_fit, cut_fits}
use Rattle.td_levels.proofs.Grown.{grows, fits_still}
use Rattle.td_levels.proofs.Held.{Make, makes, made}
use Rattle.td_levels.proofs.Entered.{with_active, puts_rows, puts_make, cut_makes, edge_makes, grow_makes}

-- ---- fits

taken_fits : (c : Catalog) (w : What) (moment : ℕ) (m : Contents) → CanFollow w c → HasColumnCells w → moment < 2 ^ 64 → IsValid c → m.held + parts_of w ≤ MEMTABLE_PARTS → FitsMemtable c m → FitsMemtable (with_what w c) (taken w moment m)
taken_fits c (what.MakeStable name schema) moment m follows cells small valid room fits = fits_still c (with_what (what.MakeStable name schema) c) (grows (what.MakeStable name schema) c valid) m fits
taken_fits c (what.MakeTable name columns) moment m follows cells small valid room fits = fits_still c (with_what (what.MakeTable name columns) c) (grows (what.MakeTable name columns) c valid) m fits
taken_fits c (what.MakeSub name stable tags) moment m follows cells small valid room fits = fits_still c (with_what (what.MakeSub name stable tags) c) (grows (what.MakeSub name stable tags) c valid) m fits
taken_fits c (what.MakeStream def) moment m follows cells small valid room fits = fits_still c (with_what (what.MakeStream def) c) (grows (what.MakeStream def) c valid) m fits
taken_fits c (what.DropStream n) moment m follows cells small valid room fits = fits_still c (with_what (what.DropStream n) c) (grows (what.DropStream n) c valid) m fits
taken_fits c (what.Put puts) moment m follows cells small valid room fits = puts_fit c moment puts m small follows cells room fits
taken_fits c (what.Cut table lo hi) moment m follows cells small valid room fits = cut_fits c table lo hi m follows (omega (arith, room)) fits
taken_fits c (what.Edge edge) moment m follows cells small valid room fits = fits
taken_fits c (what.Step stream upto at) moment m follows cells small valid room fits = fits
taken_fits c what.Halt moment m follows cells small valid room fits = fits

abbrev at_step : State → Entry → State
at_step s e = record s { version = s.version + 1; moment = e.moment }

catalog_after : (s : State) (e : Entry) → (step (s ∷ []) e).catalog ≡ with_what e.what s.catalog
catalog_after s e = effect-catalog (s ∷ []) e.what (at_step s e)

pub entries_fit : (s : State) (l : Levels) (e : Entry) → MayCome s l e → IsValid s.catalog → FitsLevels s.catalog l → FitsLevels (step (s ∷ []) e).catalog (took e l)
entries_fit s l e may valid fits =
    let active = taken_fits s.catalog e.what e.moment l.active may.follows may.cells may.moment valid may.room (All-head (FitsMemtable s.catalog) l.active (listed l.frozen) fits.memtables) in
    let frozen = All-weaker (FitsMemtable s.catalog) (FitsMemtable (with_what e.what s.catalog)) (fits_still s.catalog (with_what e.what s.catalog) (grows e.what s.catalog valid)) (listed l.frozen) (All-tail (FitsMemtable s.catalog) l.active (listed l.frozen) fits.memtables) in
    subst (λ (c : Catalog). FitsLevels c (took e l)) (sym (catalog_after s e)) (record {
      memtables = All-cons (FitsMemtable (with_what e.what s.catalog)) (taken e.what e.moment l.active) (listed l.frozen) active frozen;
      ranges = fits.ranges;
    })

-- ---- rows

-- what puts leave of a state, and what they make of its rows
record AfterPuts (puts : List Put) (s t : State) : Type 0 where
  catalog : t.catalog ≡ s.catalog
  edge : t.edge ≡ s.edge
  rows : t.rows ≡ puts_rows s.moment puts s.rows

after_puts : (puts : List Put) (s : State) → AfterPuts puts s (put_all puts s)
after_puts [] s = record { catalog = refl; edge = refl; rows = refl }
after_puts (p ∷ ps) s = by (parent_of (table_at p.key.table s.catalog)) (after_puts ps (put_one p s))
  where
    by : (o : Option ℕ) → AfterPuts ps (latest_raised o p.key (row_put p s)) (put_all ps (latest_raised (parent_of (table_at p.key.table s.catalog)) p.key (row_put p s))) → AfterPuts (p ∷ ps) s (put_all (p ∷ ps) s)
    by None a = record { catalog = a.catalog; edge = a.edge; rows = a.rows }
    by (Some n) a = record { catalog = a.catalog; edge = a.edge; rows = a.rows }

module _ (files : Files) (l : Levels) where
  -- levels make the rows of a state
  abbrev MakeRows : State → Levels → Type 0
  MakeRows s own = Make files s.catalog s.edge own s.rows

  entered : (w : What) (s : State) → CanFollow w s.catalog → IsFromEdge s.edge w → HasColumnCells w → s.moment < 2 ^ 64 → l.active.held + parts_of w ≤ MEMTABLE_PARTS → IsValid s.catalog
      → FitsLevels s.catalog l → HaveNoFurther files s.catalog l.sets → (past : List State) → MakeRows s l → MakeRows (effect past w s) (with_active (taken w s.moment l.active) l)
  entered (what.MakeStable name schema) s follows from cells small room valid fits further past m = grow_makes files s.catalog (with_what (what.MakeStable name schema) s.catalog) s.edge l (grows (what.MakeStable name schema) s.catalog valid) fits further s.rows m
  entered (what.MakeTable name columns) s follows from cells small room valid fits further past m = grow_makes files s.catalog (with_what (what.MakeTable name columns) s.catalog) s.edge l (grows (what.MakeTable name columns) s.catalog valid) fits further s.rows m
  entered (what.MakeSub name stable tags) s follows from cells small room valid fits further past m = grow_makes files s.catalog (with_what (what.MakeSub name stable tags) s.catalog) s.edge l (grows (what.MakeSub name stable tags) s.catalog valid) fits further s.rows m
  entered (what.MakeStream def) s follows from cells small room valid fits further past m = grow_makes files s.catalog (with_what (what.MakeStream def) s.catalog) s.edge l (grows (what.MakeStream def) s.catalog valid) fits further s.rows m
  entered (what.DropStream n) s follows from cells small room valid fits further past m = grow_makes files s.catalog (with_what (what.DropStream n) s.catalog) s.edge l (grows (what.DropStream n) s.catalog valid) fits further s.rows m
  entered (what.Put puts) s follows from cells small room valid fits further past m =
      let after = after_puts puts s in
      let new = puts_make files s.catalog s.edge s.moment puts l s.rows small follows from cells room (All-head (FitsMemtable s.catalog) l.active (listed l.frozen) fits.memtables) m in
      subst (λ (x : Catalog × ℕ × Rows). Make files x.0 x.1 (with_active (taken (what.Put puts) s.moment l.active) l) x.2) (λ i. (sym after.catalog i, sym after.edge i, sym after.rows i)) new
  entered (what.Cut table lo hi) s follows from cells small room valid fits further past m =
      let first = follows.first in
      cut_makes files s.catalog s.edge l s.rows table lo hi (omega (arith, first)) m
  entered (what.Edge next) s follows from cells small room valid fits further past m = edge_makes files s.catalog s.edge next l s.rows from m
  entered (what.Step stream upto at) s follows from cells small room valid fits further past m = m
  entered what.Halt s follows from cells small room valid fits further past m = m

pub entries_taken : (files : Files) (s : State) (l : Levels) (e : Entry) → MayCome s l e → HoldRows files s l → HoldRows files (step (s ∷ []) e) (took e l)
entries_taken files s l e may holds =
    let rows = entered files l e.what (at_step s e) may.follows may.edge may.cells may.moment may.room holds.valid holds.fits holds.further (s ∷ []) (makes files s.catalog s.edge l s.rows holds.rows) in
    let more : length s.catalog.tables ≤ length (step (s ∷ []) e).catalog.tables = subst (λ (c : Catalog). length s.catalog.tables ≤ length c.tables) (sym (catalog_after s e)) (grows e.what s.catalog holds.valid).more in
    record {
      valid = subst IsValid (sym (catalog_after s e)) (follows_valid e.what s.catalog holds.valid may.follows);
      fits = entries_fit s l e may holds.valid holds.fits;
      further = λ table lt. holds.further table (omega (arith, lt, more));
      rows = made files (step (s ∷ []) e).catalog (step (s ∷ []) e).edge (took e l) (step (s ∷ []) e).rows rows;
    }

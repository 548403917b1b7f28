-- What an opened core says of the state that was opened.
use Rattle.std.proofs.Common.{◌≡◌, ℕ, ◌+◌, ◌-◌, ◌≤◌, true, false, Bool, List, [], ◌∷◌, Option, Some, None, refl, sym, ap, subst, ◌∙◌, arith}
use Rattle.std.specs.Prelude.{All, IfSome, is_some}
use Rattle.td_limits.specs.declared.limits.TheConstants.{MEMTABLE_PARTS}
use Rattle.td_memtable.specs.Contents.{Contents}
use Rattle.td_model.specs.State.{State}
use Rattle.td_outside.specs.Image.{Image, Along}
use Rattle.td_outside.specs.Logs.{after_log_drop}
use Rattle.td_levels.specs.Levels.{Levels, memtables_of}
use Rattle.td_stands.specs.Stands.{Stands}
use Rattle.td_told.specs.Times.{WereTaken, Timed}
use Rattle.td_state.specs.Facts.{Facts}
use Rattle.td_opening.specs.declared.opening.Opened.{Opened}
use Rattle.td_opening.specs.Opening.{IsAtRest, Settles, OpensAs, OpenedAs, IsOpened, dropped, synced}
use Rattle.td_engine.specs.CoreState.{CoreState}
use Rattle.td_engine.specs.Covers.{HeldIs, PinsAre, ImageIsBy, Covers, greatest}
use Rattle.td_engine.proofs.Images.{carry}

equal_at_most : (a b : ℕ) → a ≡ b → b ≤ a
equal_at_most a b e = omega arith

none_taken : (readings now : Option (List ℕ)) → now ≡ readings → WereTaken readings 0 now
none_taken None now e = tt
none_taken (Some []) now e = e
none_taken (Some (t ∷ ts)) now e = e

none_timed : (readings : Option (List ℕ)) (moment : ℕ) → Timed readings moment []
none_timed None moment = tt
none_timed (Some r) moment = record { late = λ k e got. absurd cc; among = λ k e got. absurd cc }

least_is : (readings : Option (List ℕ)) (moment floor : ℕ) → floor ≡ moment → IfSome readings (λ r. floor ≡ greatest moment r 0)
least_is None moment floor e = tt
least_is (Some r) moment floor e = e

stands_told : (told : Option Image) (s : State) (halt : Option ℕ) → halt ≡ None → IfSome told (λ image. Stands image s) → IfSome told (λ image. ImageIsBy halt image s [])
stands_told None s halt none h = tt
stands_told (Some image) s halt none h = subst (λ (x : Option ℕ). ImageIsBy x image s []) (sym none) h

-- ---- readers

-- a log that is taken away leaves the readers
drop_readers : (n : ℕ) (image : Image) → (after_log_drop n image).readers ≡ image.readers
drop_readers n image = by (is_some (image.logs n)) refl
  where
    by : (b : Bool) → is_some (image.logs n) ≡ b → (after_log_drop n image).readers ≡ image.readers
    by true is = rw is refl
    by false is = rw is refl

dropped_readers : (first_log : ℕ) (drops : Bool) (image : Image) → (dropped first_log drops image).readers ≡ image.readers
dropped_readers first_log false image = drop_readers (first_log - 1) image
dropped_readers first_log true image = drop_readers (first_log + 1) (after_log_drop (first_log - 1) image) ∙ drop_readers (first_log - 1) image

settled_readers : (x y : Image) → Settles x y → y.readers ≡ x.readers
settled_readers x y s =
    ap (λ (i : Image). i.readers) s.swept.sweeps.rest ∙ dropped_readers s.head.first_log s.drops (synced s.head.first_log x)

-- no reader is open, as none was, and no file is pinned
pub pins_told : (old new : Option Image) (pins : ℕ → ℕ) → ((n : ℕ) → pins n ≡ 0) → Along Settles old new → IfSome old IsAtRest → IfSome new (λ image. (n : ℕ) → image.readers n ≡ pins n)
pins_told old new pins none settles rest =
    carry Settles IsAtRest (λ (x : Image). (n : ℕ) → x.readers n ≡ pins n) old new
    (λ x y s p n. ap (λ (f : ℕ → ℕ). f n) (settled_readers x y s) ∙ p n ∙ sym (none n))
    settles rest

-- ---- all points

pub opened_covers : (readings : Option (List ℕ)) (c : CoreState) (b : State) → c.state.halt ≡ None → c.base ≡ c.state.version → c.journal ≡ [] → c.floor ≡ c.state.moment → c.readings ≡ readings → HeldIs c → PinsAre c → OpenedAs c.told c.state c.levels b → Covers readings c b []
opened_covers readings c b going base journal floor left held pins o =
    let moment : c.floor ≡ b.moment = floor ∙ ap (λ (f : Facts). f.moment) o.facts_are in
    record {
      facts = o.facts_are;
      rows = o.rows;
      held = held;
      pins = pins;
      journal = record { base = base ∙ ap (λ (f : Facts). f.version) o.facts_are; lines_are = journal };
      image = stands_told c.told b c.state.halt going o.stands;
      floor = equal_at_most c.floor b.moment moment;
      clock = record {
        taken = 0;
        were_taken = none_taken readings c.readings left;
        enough = omega arith;
        floor = least_is readings b.moment c.floor moment;
        timed = none_timed readings b.moment;
      };
    }

-- the core of what was opened
pub core_covers : (readings : Option (List ℕ)) (old now : Option Image) (o : Opened) (c : CoreState) (b : State) → IsOpened old now o → IfSome old IsAtRest → c.told ≡ now → c.state ≡ o.tables.state → c.levels ≡ o.levels → c.base ≡ o.tables.state.version → c.journal ≡ [] → c.floor ≡ o.tables.state.moment → c.readings ≡ readings
    → ((n : ℕ) → c.pins n ≡ 0) → OpensAs old c.state b → Covers readings c b []
core_covers readings old now o c b opened rest told state levels base journal floor left none opens =
    let as_it_was : OpenedAs now o.tables.state o.levels b = opened.opened_as b (subst (λ (s : State). OpensAs old s b) state opens) in
    let is : OpenedAs c.told c.state c.levels b =
    subst (λ (t : Option Image). OpenedAs t c.state c.levels b) (sym told) (subst (λ (s : State). OpenedAs now s c.levels b) (sym state) (subst (λ (l : Levels). OpenedAs now o.tables.state l b) (sym levels) as_it_was)) in
    let held : HeldIs c = subst (λ (l : Levels). All (λ (m : Contents). m.held ≤ MEMTABLE_PARTS) (memtables_of l)) (sym levels) opened.held in
    let pins : PinsAre c = subst (λ (t : Option Image). IfSome t (λ image. (n : ℕ) → image.readers n ≡ c.pins n)) (sym told) (pins_told old now c.pins none opened.settles rest) in
    opened_covers readings c b (ap (λ (s : State). s.halt) state ∙ opened.halt) (base ∙ ap (λ (s : State). s.version) (sym state)) journal (floor ∙ ap (λ (s : State). s.moment) (sym state)) left held pins is

-- What an opened core says of its own state.
use Rattle.std.proofs.Common.{◌≡◌, ℕ, List, [], ◌∷◌, Option, Some, None, refl, sym, subst}
use Rattle.std.specs.Prelude.{IfSome}
use Rattle.td_model.specs.State.{State}
use Rattle.td_outside.specs.Image.{Image}
use Rattle.td_told.specs.Times.{WereTaken, Timed}
use Rattle.td_core.specs.Stands.{Stands}
use Rattle.td_core.specs.CoreState.{CoreState, LogPlace, IsActive}
use Rattle.td_core.specs.Covers.{ImageIsBy, Covers, greatest}
use Rattle.td_core.proofs.Sums.{equal_at_most, self_at_most}
use Rattle.td_core.proofs.Standing.{active_stands}

none_taken : (readings now : Option (List ℕ)) → now ≡ readings → WereTaken readings 0 now
none_taken None now e = tt
none_taken (Some []) now e = e
none_taken (Some (t ∷ ts)) now e = e

none_timed : (readings : Option (List ℕ)) (moment : ℕ) → Timed readings moment []
none_timed None moment = tt
none_timed (Some r) moment = record { late = λ k e got. absurd cc; among = λ k e got. absurd cc }

least_is : (readings : Option (List ℕ)) (moment floor : ℕ) → floor ≡ moment → IfSome readings (λ r. floor ≡ greatest moment r 0)
least_is None moment floor e = tt
least_is (Some r) moment floor e = e

stands_told : (told : Option Image) (s : State) (halt : Option ℕ) → halt ≡ None → IfSome told (λ image. Stands image s) → IfSome told (λ image. ImageIsBy halt image s [])
stands_told None s halt none h = tt
stands_told (Some image) s halt none h = subst (λ (x : Option ℕ). ImageIsBy x image s []) (sym none) h

pub opened_covers : (readings : Option (List ℕ)) (c : CoreState) → c.state.halt ≡ None → c.base ≡ c.state.version → c.journal ≡ [] → c.floor ≡ c.state.moment → c.layers.rows ≡ c.state.rows → c.readings ≡ readings → IfSome c.told (λ image. Stands image c.state) → Covers readings c c.state []
opened_covers readings c going base journal floor rows left stands = record {
  facts = refl;
  rows = rows;
  journal = record { base = base; lines_are = journal };
  image = stands_told c.told c.state c.state.halt going stands;
  floor = equal_at_most c.floor c.state.moment floor;
  clock = record {
    taken = 0;
    were_taken = none_taken readings c.readings left;
    enough = self_at_most 0;
    floor = least_is readings c.state.moment c.floor floor;
    timed = none_timed readings c.state.moment;
  };
}

-- where the store tells its image, it stands for the state
pub told_active : (told : Option Image) (place : LogPlace) (s : State) → IfSome told (λ image. IsActive image place s) → IfSome told (λ image. Stands image s)
told_active None place s h = tt
told_active (Some image) place s h = active_stands image place s h

-- An entry gives the state its version and its moment, whatever it does.
use Rattle.std.proofs.Common.{◌≡◌, ◌+◌, List, [], ◌∷◌, Some, None, refl, ◌∙◌}
use Rattle.td_model.specs.declared.history.Put.{Put}
use Rattle.td_model.specs.declared.history.What.{What}
use Rattle.td_model.specs.declared.history.What.TheVariants as what
use Rattle.td_model.specs.declared.history.Entry.{Entry}
use Rattle.td_model.specs.Catalog.{table_at}
use Rattle.td_model.specs.State.{State, row_put, latest_raised, parent_of, put_one, put_all, effect, newest, step}

-- the version and the moment of one state are those of another
pub record SameTimes (s t : State) : Type 0 where
  pub version : s.version ≡ t.version
  pub moment : s.moment ≡ t.moment

same : (s : State) → SameTimes s s
same s = record { version = refl; moment = refl }

then : (r s t : State) → SameTimes r s → SameTimes s t → SameTimes r t
then r s t h k = record { version = h.version ∙ k.version; moment = h.moment ∙ k.moment }

one : (p : Put) (s : State) → SameTimes (put_one p s) s
one p s = elim (parent_of (table_at p.key.table s.catalog)) as (λ o. SameTimes (latest_raised o p.key (row_put p s)) s) [
  | None ↦ record { version = refl; moment = refl }
  | Some n ↦ record { version = refl; moment = refl }
]

all : (ps : List Put) (s : State) → SameTimes (put_all ps s) s
all [] s = same s
all (p ∷ ps) s = then (put_all ps (put_one p s)) (put_one p s) s (all ps (put_one p s)) (one p s)

pub effect_times : (past : List State) (w : What) (s : State) → SameTimes (effect past w s) s
effect_times past (what.MakeStable name schema) s = record { version = refl; moment = refl }
effect_times past (what.MakeTable name columns) s = record { version = refl; moment = refl }
effect_times past (what.MakeSub name stable tags) s = record { version = refl; moment = refl }
effect_times past (what.Put puts) s = all puts s
effect_times past (what.Cut table lo hi) s = record { version = refl; moment = refl }
effect_times past (what.Edge edge) s = record { version = refl; moment = refl }
effect_times past (what.MakeStream def) s = record { version = refl; moment = refl }
effect_times past (what.DropStream n) s = record { version = refl; moment = refl }
effect_times past (what.Step stream upto moment) s = same s
effect_times past what.Halt s = record { version = refl; moment = refl }

pub step_version : (past : List State) (e : Entry) → (step past e).version ≡ (newest past).version + 1
step_version past e = (effect_times past e.what (record (newest past) { version = (newest past).version + 1; moment = e.moment })).version

pub step_moment : (past : List State) (e : Entry) → (step past e).moment ≡ e.moment
step_moment past e = (effect_times past e.what (record (newest past) { version = (newest past).version + 1; moment = e.moment })).moment

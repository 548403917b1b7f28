-- The catalog of the state after an entry is what the entry makes of the catalog before it.
use Rattle.std.proofs.Common.{◌≡◌, ℕ, ◌+◌, List, [], ◌∷◌, Option, None, Some, ap, ◌∙◌, refl, sym}
use Rattle.td_layer.specs.declared.values.Key.{Key}
use Rattle.td_model.specs.declared.history.Put.{Put}
use Rattle.td_model.specs.declared.history.What.{What}
use Rattle.td_model.specs.declared.history.What.TheVariants as what
use Rattle.td_model.specs.declared.history.Entry.{Entry}
use Rattle.td_model.specs.Catalog.{Catalog, with_what, table_at}
use Rattle.td_model.specs.State.{State, newest, step, effect, put_all, put_one, row_put, latest_raised, parent_of}
use Rattle.td_catalog.specs.Kept.{change_of, changed}

latest-keeps : (p : Option ℕ) (key : Key) (s : State) → (latest_raised p key s).catalog ≡ s.catalog
latest-keeps None key s = refl
latest-keeps (Some stable) key s = refl

pub puts-keep : (ps : List Put) (s : State) → (put_all ps s).catalog ≡ s.catalog
puts-keep [] s = refl
puts-keep (p ∷ ps) s = puts-keep ps (put_one p s) ∙ latest-keeps (parent_of (table_at p.key.table s.catalog)) p.key (row_put p s)

pub effect-catalog : (past : List State) (w : What) (s : State) → (effect past w s).catalog ≡ with_what w s.catalog
effect-catalog past (what.MakeStable name schema) s = refl
effect-catalog past (what.MakeTable name columns) s = refl
effect-catalog past (what.MakeSub name stable tags) s = refl
effect-catalog past (what.Put puts) s = puts-keep puts s
effect-catalog past (what.Cut table lo hi) s = refl
effect-catalog past (what.MakeStream def) s = refl
effect-catalog past (what.DropStream n) s = refl
effect-catalog past (what.Edge edge) s = refl
effect-catalog past (what.Step stream upto moment) s = refl
effect-catalog past what.Halt s = refl

pub changed-change_of : (w : What) (c : Catalog) → changed (change_of w) c ≡ with_what w c
changed-change_of (what.MakeStable name schema) c = refl
changed-change_of (what.MakeTable name columns) c = refl
changed-change_of (what.MakeSub name stable tags) c = refl
changed-change_of (what.Put puts) c = refl
changed-change_of (what.Cut table lo hi) c = refl
changed-change_of (what.MakeStream def) c = refl
changed-change_of (what.DropStream n) c = refl
changed-change_of (what.Edge edge) c = refl
changed-change_of (what.Step stream upto moment) c = refl
changed-change_of what.Halt c = refl

-- the catalog after a change is that of the state after its entry
pub changed-step : (past : List State) (e : Entry) (c d : Catalog) (o : Option What) → d ≡ changed o c → (newest past).catalog ≡ c → o ≡ change_of e.what → d ≡ (step past e).catalog
changed-step past e c d o made same of =
    made ∙ ap (λ o. changed o c) of ∙ changed-change_of e.what c ∙ ap (with_what e.what) (sym same)
    ∙ sym (effect-catalog past e.what (record (newest past) { version = (newest past).version + 1; moment = e.moment }))

-- A step of a state but for its rows, by its parts.
use Rattle.std.proofs.Common.{◌≡◌, ℕ, ◌+◌, List, [], ◌∷◌, Option, Some, None, refl, sym, ap, ◌∙◌}
use Rattle.td_model.specs.declared.history.Put.{Put}
use Rattle.td_model.specs.declared.history.What.{What}
use Rattle.td_model.specs.declared.history.What.TheVariants as what
use Rattle.td_model.specs.declared.history.Entry.{Entry}
use Rattle.td_model.specs.Catalog.{Catalog, with_what, table_at}
use Rattle.td_model.specs.State.{State, Rows, effect, step, put_all, parent_of, latest_raised, with_row, lay, row_at}
use Rattle.td_told.specs.Journal.{halt_at}
use Rattle.td_state.specs.Held.{bare}
use Rattle.td_state.specs.Latest.{raised_all, raised_by}
use Rattle.td_state.specs.Contents.{Kept, kept_after, state_of}

-- the state with rows
abbrev with_rows : Rows → State → State
with_rows rows s = record s { rows = rows }

one : (parent : Option ℕ) (p : Put) (rows : Rows) (version moment : ℕ) (c : Catalog) (k : Kept) → latest_raised parent p.key (with_rows rows (state_of version moment c k)) ≡ with_rows rows (state_of version moment c (record k { greatest = raised_by parent p.key k.greatest }))
one None p rows version moment c k = refl
one (Some stable) p rows version moment c k = refl

all : (puts : List Put) (rows : Rows) (version moment : ℕ) (c : Catalog) (k : Kept) → bare (put_all puts (with_rows rows (state_of version moment c k))) ≡ state_of version moment c (record k { greatest = raised_all c puts k.greatest })
all [] rows version moment c k = refl
all (p ∷ ps) rows version moment c k =
    let parent : Option ℕ = parent_of (table_at p.key.table c) in
    let after : Rows = with_row p.key (lay p.cells moment (row_at p.key rows)) rows in
    ap (λ s. bare (put_all ps s)) (one parent p after version moment c k)
    ∙ all ps after version moment c (record k { greatest = raised_by parent p.key k.greatest })

effect_is : (past : List State) (w : What) (version moment : ℕ) (c : Catalog) (k : Kept) → state_of version moment (with_what w c) (kept_after w version c k) ≡ bare (effect past w (state_of version moment c k))
effect_is past (what.MakeStable name schema) version moment c k = refl
effect_is past (what.MakeTable name columns) version moment c k = refl
effect_is past (what.MakeSub name stable tags) version moment c k = refl
effect_is past (what.Put puts) version moment c k = sym (all puts [] version moment c k)
effect_is past (what.Cut table lo hi) version moment c k = refl
effect_is past (what.MakeStream def) version moment c k = refl
effect_is past (what.DropStream n) version moment c k = refl
effect_is past (what.Edge edge) version moment c k = refl
effect_is past (what.Step stream upto moment') version moment c k = refl
effect_is past what.Halt version moment c k = refl

-- the state after an entry that is taken in
pub stepped : (s : State) (x : Entry) (version moment : ℕ) (c d : Catalog) (k l : Kept) → state_of version moment c k ≡ s → l ≡ kept_after x.what (version + 1) c k → d ≡ with_what x.what c → state_of (version + 1) x.moment d l ≡ bare (step (s ∷ []) x)
stepped s x version moment c d k l is kept changed =
    let plain : state_of (version + 1) x.moment (with_what x.what c) (kept_after x.what (version + 1) c k) ≡ bare (step (s ∷ []) x) = effect_is (state_of version moment c k ∷ []) x.what (version + 1) x.moment c k ∙ ap (λ t. bare (step (t ∷ []) x)) is in
    rw (kept, changed) plain

-- the state after a halt
pub stopped : (s : State) (version moment m : ℕ) (c : Catalog) (k l : Kept) → state_of version moment c k ≡ s → l ≡ record k { halt = Some (version + 1) } → state_of (version + 1) m c l ≡ bare (step (s ∷ []) (halt_at m))
stopped s version moment m c k l is kept = stepped s (halt_at m) version moment c c k l is kept refl

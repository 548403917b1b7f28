-- What is true of a state's parts stays true as an entry is taken in.
use Rattle.std.proofs.Common.{◌≡◌, ℕ, zero, suc, ◌+◌, ◌-◌, ◌<◌, ◌≤◌, ◌*◌, max, List, [], ◌∷◌, ◌++◌, Option, Some, None, refl, sym, ap, subst, ◌∙◌, arith}
use Rattle.std.specs.Prelude.{slice_get, slice_set, slice_index_or}
use Rattle.std.specs.List.{AllByRecursion, AllZip}
use Rattle.std.proofs.lemmas.List.Elements.{All-nil, recursion_from_All}
use Rattle.std.proofs.lemmas.Slice.Zip.{all_zipped_more}
use Rattle.td_limits.specs.declared.limits.TheConstants.{DAY_RANGE, LAST_DAY_RANGE, LAST_TIMESTAMP, LAST_VERSION}
use Rattle.td_layer.specs.declared.values.Key.{Key}
use Rattle.td_layer.specs.declared.values.Row.{Row}
use Rattle.td_model.specs.declared.catalog.StableDef.{StableDef}
use Rattle.td_model.specs.declared.catalog.TableDef.{TableDef}
use Rattle.td_model.specs.declared.history.Entry.{Entry}
use Rattle.td_model.specs.declared.history.Put.{Put}
use Rattle.td_model.specs.declared.history.What.{What}
use Rattle.td_model.specs.declared.history.What.TheVariants as what
use Rattle.td_model.specs.Catalog.{Catalog, with_what, table_at}
use Rattle.td_model.specs.State.{State, later, parent_of, step}
use Rattle.td_catalog.specs.Kept.{CanFollow}
use Rattle.td_verdict.specs.Sound.{IsPut, IsRow, IsSound}
use Rattle.td_bind.proofs.Steps.{step_sound}
use Rattle.td_state.specs.Latest.{Greatest, AreLatest, IsInTime, IsLatestOf, raised_all, raised_by}
use Rattle.td_state.specs.Contents.{HasColumns, IsRight, Kept, kept_after, state_of}
use Rattle.td_state.specs.Held.{bare, CanTake, EndsInTime}
use Rattle.td_state.proofs.Steps.{stepped}
use Rattle.td_state.proofs.Subtables.{subtables_after}

-- ---- columns

push : {X : Type 0} (P : X → Type 0) (xs : List X) (x : X) → AllByRecursion P xs → P x → AllByRecursion P (xs ++ x ∷ [])
push P [] x all here = (here, tt)
push P (y ∷ ys) x all here = (all.0, push P ys x all.1 here)

columns_after : (w : What) (c : Catalog) → AllByRecursion HasColumns c.tables → AllByRecursion HasColumns (with_what w c).tables
columns_after (what.MakeStable name schema) c h = h
columns_after (what.MakeTable name columns) c h = push HasColumns c.tables (record { name = name; parent = None; columns = columns; tags = [] }) h tt
columns_after (what.MakeSub name stable tags) c h = push HasColumns c.tables (record { name = name; parent = Some stable; columns = []; tags = tags }) h refl
columns_after (what.Put puts) c h = h
columns_after (what.Cut table lo hi) c h = h
columns_after (what.MakeStream def) c h = h
columns_after (what.DropStream n) c h = h
columns_after (what.Edge edge) c h = h
columns_after (what.Step stream upto moment) c h = h
columns_after what.Halt c h = h

-- ---- greatest timestamps

in_time_later : (o : Option ℕ) (ts : ℕ) → ts ≤ LAST_TIMESTAMP → IsInTime o → IsInTime (later o ts)
in_time_later None ts le h = le
in_time_later (Some l) ts le h = max_le l ts LAST_TIMESTAMP h le
  where
    max_le : (a b n : ℕ) → a ≤ n → b ≤ n → max a b ≤ n
    max_le a b n p q = omega arith

-- one place of a list is raised
raised_zip : {A : Type 0} (R : A → Option ℕ → Type 0) (xs : List A) (os : List (Option ℕ)) (i ts : ℕ) → ((x : A) (o : Option ℕ) → slice_get xs i ≡ Some x → R x o → R x (later o ts)) → AllZip R xs os → AllZip R xs (slice_set os i (later (slice_index_or os i None) ts))
raised_zip R [] [] i ts one h = tt
raised_zip R [] (o ∷ os) i ts one h = absurd h
raised_zip R (x ∷ xs) [] i ts one h = absurd h
raised_zip R (x ∷ xs) (o ∷ os) zero ts one h = (one x o refl h.0, h.1)
raised_zip R (x ∷ xs) (o ∷ os) (suc i) ts one h = (h.0, raised_zip R xs os i ts (λ y p at r. one y p at r) h.1)

of_plain : (parent o : Option ℕ) (ts : ℕ) → parent ≡ None → ts ≤ LAST_TIMESTAMP → IsLatestOf parent o → IsLatestOf parent (later o ts)
of_plain None o ts e le h = in_time_later o ts le h
of_plain (Some stable) o ts e le h = absurd cc

latest_by : (c : Catalog) (parent : Option ℕ) (key : Key) (l : Greatest) → parent ≡ parent_of (table_at key.table c) → key.ts ≤ LAST_TIMESTAMP → AreLatest c l → AreLatest c (raised_by parent key l)
latest_by c None key l e le h = record {
  stables = h.stables;
  tables = raised_zip (λ (t : TableDef) (o : Option ℕ). IsLatestOf t.parent o) c.tables l.tables (key.table - 1) key.ts
      (λ t o at r. of_plain t.parent o key.ts (sym (ap parent_of at) ∙ sym e) le r) h.tables;
}
latest_by c (Some stable) key l e le h = record {
  stables = raised_zip (λ (s : StableDef) (o : Option ℕ). IsInTime o) c.stables l.stables (stable - 1) key.ts
      (λ s o at r. in_time_later o key.ts le r) h.stables;
  tables = h.tables;
}

latest_all : (c : Catalog) (puts : List Put) (l : Greatest) → AllByRecursion (IsPut c) puts → AreLatest c l → AreLatest c (raised_all c puts l)
latest_all c [] l good h = h
latest_all c (p ∷ ps) l good h =
    let parent : Option ℕ = parent_of (table_at p.key.table c) in
    latest_all c ps (raised_by parent p.key l) good.1 (latest_by c parent p.key l refl good.0.key.time h)

latest_after : (w : What) (v : ℕ) (c : Catalog) (k : Kept) → CanFollow w c → AreLatest c k.greatest → AreLatest (with_what w c) (kept_after w v c k).greatest
latest_after (what.MakeStable name schema) v c k can h = record {
  stables = all_zipped_more (λ (s : StableDef) (o : Option ℕ). IsInTime o) c.stables k.greatest.stables (record { name = name; schema = schema }) None h.stables tt;
  tables = h.tables;
}
latest_after (what.MakeTable name columns) v c k can h = record {
  stables = h.stables;
  tables = all_zipped_more (λ (t : TableDef) (o : Option ℕ). IsLatestOf t.parent o) c.tables k.greatest.tables (record { name = name; parent = None; columns = columns; tags = [] }) None h.tables tt;
}
latest_after (what.MakeSub name stable tags) v c k can h = record {
  stables = h.stables;
  tables = all_zipped_more (λ (t : TableDef) (o : Option ℕ). IsLatestOf t.parent o) c.tables k.greatest.tables (record { name = name; parent = Some stable; columns = []; tags = tags }) None h.tables tt;
}
latest_after (what.Put puts) v c k can h = latest_all c puts k.greatest (recursion_from_All (IsPut c) puts can) h
latest_after (what.Cut table lo hi) v c k can h = h
latest_after (what.MakeStream def) v c k can h = record { stables = h.stables; tables = h.tables }
latest_after (what.DropStream n) v c k can h = record { stables = h.stables; tables = h.tables }
latest_after (what.Edge edge) v c k can h = h
latest_after (what.Step stream upto moment) v c k can h = h
latest_after what.Halt v c k can h = h

-- ---- numbers

edge_after : (w : What) (v : ℕ) (c : Catalog) (k : Kept) → EndsInTime w → k.edge ≤ LAST_DAY_RANGE → (kept_after w v c k).edge ≤ LAST_DAY_RANGE
edge_after (what.MakeStable name schema) v c k ends h = h
edge_after (what.MakeTable name columns) v c k ends h = h
edge_after (what.MakeSub name stable tags) v c k ends h = h
edge_after (what.Put puts) v c k ends h = h
edge_after (what.Cut table lo hi) v c k ends h = h
edge_after (what.MakeStream def) v c k ends h = h
edge_after (what.DropStream n) v c k ends h = h
edge_after (what.Edge edge) v c k ends h = ends
edge_after (what.Step stream upto moment) v c k ends h = h
edge_after what.Halt v c k ends h = h

next_after : (w : What) (c : Catalog) → 1 ≤ c.next_stream → 1 ≤ (with_what w c).next_stream
next_after (what.MakeStable name schema) c h = h
next_after (what.MakeTable name columns) c h = h
next_after (what.MakeSub name stable tags) c h = h
next_after (what.Put puts) c h = h
next_after (what.Cut table lo hi) c h = h
next_after (what.MakeStream def) c h = omega arith
next_after (what.DropStream n) c h = h
next_after (what.Edge edge) c h = h
next_after (what.Step stream upto moment) c h = h
next_after what.Halt c h = h

-- ---- the whole

pub bare_sound : (s : State) → IsSound s → IsSound (bare s)
bare_sound s h = record {
  catalog = h.catalog;
  rows = All-nil (IsRow s.catalog);
  edge = All-nil (λ (e : Key × Row). s.edge * DAY_RANGE ≤ e.0.ts);
}

right_here : (x : Entry) (v m : ℕ) (c : Catalog) (k : Kept) → IsRight v m c k → CanTake x.what (state_of v m c k) → x.moment ≤ LAST_TIMESTAMP → IsRight (v + 1) x.moment (with_what x.what c) (kept_after x.what (v + 1) c k)
right_here x v m c k h takes moment =
    let s : State = state_of v m c k in
    let d : Catalog = with_what x.what c in
    let l : Kept = kept_after x.what (v + 1) c k in
    let sound : IsSound (bare (step (s ∷ []) x)) = bare_sound (step (s ∷ []) x) (step_sound (s ∷ []) x h.sound takes.follows takes.edge) in
    let below : v < LAST_VERSION = takes.version in
    record {
      subtables = subtables_after x.what (v + 1) c k h.subtables;
      sound = subst IsSound (sym (stepped s x v m c d k l refl refl refl)) sound;
      columns = columns_after x.what c h.columns;
      latest = latest_after x.what (v + 1) c k takes.follows h.latest;
      edge = edge_after x.what (v + 1) c k takes.ends h.edge;
      in_time = moment;
      last = λ _. omega (arith, below);
      next = next_after x.what c h.next;
    }

-- after an entry that is taken in
pub right_after : (x : Entry) (s : State) (v m : ℕ) (c d : Catalog) (k l : Kept) → state_of v m c k ≡ s → IsRight v m c k → CanTake x.what s → x.moment ≤ LAST_TIMESTAMP → l ≡ kept_after x.what (v + 1) c k → d ≡ with_what x.what c → IsRight (v + 1) x.moment d l
right_after x s v m c d k l is h takes moment kept changed =
    let here = right_here x v m c k h (subst (CanTake x.what) (sym is) takes) moment in
    subst (λ (y : Kept). IsRight (v + 1) x.moment d y) (sym kept)
    (subst (λ (y : Catalog). IsRight (v + 1) x.moment y (kept_after x.what (v + 1) c k)) (sym changed) here)

-- after a halt, which may have the version behind the last one
pub right_stopped : (v m moment : ℕ) (c : Catalog) (k l : Kept) → IsRight v m c k → moment ≤ LAST_TIMESTAMP → l ≡ record k { halt = Some (v + 1) } → IsRight (v + 1) moment c l
right_stopped v m moment c k l h in_time kept =
    subst (λ (y : Kept). IsRight (v + 1) moment c y) (sym kept) (record {
      subtables = h.subtables;
      sound = record { catalog = h.sound.catalog; rows = h.sound.rows; edge = h.sound.edge };
      columns = h.columns;
      latest = record { stables = h.latest.stables; tables = h.latest.tables };
      edge = h.edge;
      in_time = in_time;
      last = λ e. absurd cc;
      next = h.next;
    })

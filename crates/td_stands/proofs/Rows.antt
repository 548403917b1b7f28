-- The rows of a state have no part in what items make of the rest of it.
use Rattle.std.proofs.Common.{◌≡◌, ℕ, ◌+◌, ◌≤◌, List, [], ◌∷◌, Option, Some, None, refl, sym, ap, subst, ◌∙◌}
use Rattle.td_limits.specs.declared.limits.TheConstants.{MEMTABLE_PARTS}
use Rattle.td_layer.specs.declared.values.Key.{Key}
use Rattle.td_model.specs.declared.history.Put.{Put}
use Rattle.td_model.specs.declared.history.What.{What}
use Rattle.td_model.specs.declared.history.What.TheVariants as what
use Rattle.td_model.specs.declared.history.Entry.{Entry}
use Rattle.td_model.specs.declared.language.Stmt.{Stmt}
use Rattle.td_model.specs.declared.language.Stmt.TheVariants as stmt
use Rattle.td_model.specs.Catalog.{table_at}
use Rattle.td_model.specs.State.{State, Rows, row_put, latest_raised, parent_of, put_one, put_all, effect, step}
use Rattle.td_told.specs.Turn.{entry_at}
use Rattle.td_told.specs.Verdict.{verdict}
use Rattle.td_wal.specs.declared.item.LogItem.{LogItem}
use Rattle.td_levels.specs.Taken.{taken, parts_of}
use Rattle.td_stands.specs.Replay.{IsNext, Replays}
use Rattle.td_stands.specs.Laws.{with_rows, RowsHaveNoPart}

-- ---- the verdict

same_verdict : (q : Stmt) (s : State) (rows : Rows) (cursors : List (List ℕ)) (moment : ℕ) → verdict q (with_rows rows s) cursors moment ≡ verdict q s cursors moment
same_verdict (stmt.Wrong cause) s rows cursors moment = refl
same_verdict (stmt.MakeStable name columns tags) s rows cursors moment = refl
same_verdict (stmt.MakeTable name columns) s rows cursors moment = refl
same_verdict (stmt.MakeSub name stable tags) s rows cursors moment = refl
same_verdict (stmt.Insert table columns lines) s rows cursors moment = refl
same_verdict (stmt.Delete table column lo hi) s rows cursors moment = refl
same_verdict (stmt.MakeStream def) s rows cursors moment = refl
same_verdict (stmt.DropStream name) s rows cursors moment = refl
same_verdict stmt.Trim s rows cursors moment = refl
same_verdict (stmt.Select query) s rows cursors moment = refl
same_verdict (stmt.OpenCursor cursor query) s rows cursors moment = refl
same_verdict (stmt.Fetch cursor count) s rows cursors moment = refl
same_verdict (stmt.CloseCursor cursor) s rows cursors moment = refl
same_verdict stmt.Commit s rows cursors moment = refl
same_verdict stmt.Merge s rows cursors moment = refl
same_verdict stmt.Sweep s rows cursors moment = refl
same_verdict (stmt.Step stream) s rows cursors moment = refl

-- ---- an entry

-- what is made of a state with other rows is what is made of the state, with other rows
abbrev SameBut : State → State → Type 0
SameBut s t = (rows : Rows) × (t ≡ with_rows rows s)

raised_rows : (parent : Option ℕ) (key : Key) (s : State) (rows : Rows) → latest_raised parent key (with_rows rows s) ≡ with_rows rows (latest_raised parent key s)
raised_rows None key s rows = refl
raised_rows (Some n) key s rows = refl

put_rows : (p : Put) (s : State) (rows : Rows) → SameBut (put_one p s) (put_one p (with_rows rows s))
put_rows p s rows =
    let after = (row_put p (with_rows rows s)).rows in
    (after, raised_rows (parent_of (table_at p.key.table s.catalog)) p.key (row_put p s) after)

puts_rows : (ps : List Put) (s : State) (rows : Rows) → SameBut (put_all ps s) (put_all ps (with_rows rows s))
puts_rows [] s rows = (rows, refl)
puts_rows (p ∷ ps) s rows =
    let one = put_rows p s rows in
    let all = puts_rows ps (put_one p s) one.0 in
    (all.0, ap (λ (x : State). put_all ps x) one.1 ∙ all.1)

effect_rows : (past others : List State) (w : What) (s : State) (rows : Rows) → SameBut (effect past w s) (effect others w (with_rows rows s))
effect_rows past others (what.MakeStable name schema) s rows = (rows, refl)
effect_rows past others (what.MakeTable name columns) s rows = (rows, refl)
effect_rows past others (what.MakeSub name stable tags) s rows = (rows, refl)
effect_rows past others (what.Put puts) s rows = puts_rows puts s rows
effect_rows past others (what.Cut table lo hi) s rows = ((effect others (what.Cut table lo hi) (with_rows rows s)).rows, refl)
effect_rows past others (what.Edge edge) s rows = ((effect others (what.Edge edge) (with_rows rows s)).rows, refl)
effect_rows past others (what.MakeStream def) s rows = (rows, refl)
effect_rows past others (what.DropStream n) s rows = (rows, refl)
effect_rows past others (what.Step stream upto moment) s rows = (rows, refl)
effect_rows past others what.Halt s rows = (rows, refl)

step_rows : (s : State) (e : Entry) (rows : Rows) → SameBut (step (s ∷ []) e) (step (with_rows rows s ∷ []) e)
step_rows s e rows = effect_rows (s ∷ []) (with_rows rows s ∷ []) e.what (record s { version = s.version + 1; moment = e.moment }) rows

-- ---- items

-- the same item comes next, and says the same
pub record SameNext (i : LogItem) (s t : State) (n : IsNext i s t) (rows : Rows) : Type 0 where
  pub after : Rows
  pub next : IsNext i (with_rows rows s) (with_rows after t)
  pub says : next.what ≡ n.what

pub next_rows : (i : LogItem) (s t : State) (n : IsNext i s t) (rows : Rows) → SameNext i s t n rows
next_rows i s t n rows =
    let made = step_rows s (entry_at i.session i.ordinal i.moment n.what) rows in
    record {
      after = made.0;
      next = record {
        text = n.text;
        stmt = n.stmt;
        what = n.what;
        rows = n.rows;
        body = n.body;
        parsed = n.parsed;
        version = n.version;
        moment = n.moment;
        accepted = same_verdict n.stmt s rows [] i.moment ∙ n.accepted;
        state = ap (λ (x : State). with_rows made.0 x) n.state ∙ sym made.1;
      };
      says = refl;
    }

pub rows_have_no_part : RowsHaveNoPart
rows_have_no_part s t m n [] rows p = (rows, (ap (λ (x : State). with_rows rows x) p.0, p.1))
rows_have_no_part s t m n (i ∷ is) rows p =
    let next = next_rows i s p.0 p.1 rows in
    let rest = rows_have_no_part p.0 t (taken p.1.what i.moment m) n is next.after p.3 in
    let room = subst (λ (w : What). m.held + parts_of w ≤ MEMTABLE_PARTS) (sym next.says) p.2 in
    let on = subst (λ (w : What). Replays (with_rows next.after p.0) (taken w i.moment m) is (with_rows rest.0 t) n) (sym next.says) rest.1 in
    (rest.0, (with_rows next.after p.0, next.next, room, on))

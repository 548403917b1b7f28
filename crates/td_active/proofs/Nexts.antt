-- The record of an entry as the next item of states that are the same but for their rows; and the moments of items.
use Rattle.std.proofs.Common.{◌≡◌, ℕ, ◌≤◌, List, [], ◌∷◌, sym, ap, subst, ◌∙◌, arith}
use Rattle.td_model.specs.declared.history.Entry.{Entry}
use Rattle.td_model.specs.declared.history.What.{What}
use Rattle.td_model.specs.State.{State, step}
use Rattle.td_model.proofs.Steps.{step_moment}
use Rattle.td_told.specs.Turn.{entry_at}
use Rattle.td_memtable.specs.Contents.{Contents}
use Rattle.td_wal.specs.declared.item.LogItem.{LogItem}
use Rattle.td_wal.specs.Log.{last_moment}
use Rattle.td_levels.specs.Levels.{Levels}
use Rattle.td_levels.specs.Taken.{taken}
use Rattle.td_stands.specs.Replay.{IsNext, Replays}
use Rattle.td_stands.proofs.Rows.{SameNext, next_rows}
use Rattle.td_state.specs.Held.{bare}
use Rattle.td_active.specs.Carried.{Records}

-- ---- the record of an entry

-- the item comes next in a state, and says what the entry does
pub record RecordsNext (i : LogItem) (s : State) (e : Entry) : Type 0 where
  pub next : IsNext i s (step (s ∷ []) e)
  pub says : next.what ≡ e.what
  pub bare_is : bare (step (s ∷ []) e) ≡ bare (step (bare s ∷ []) e)

own_next : (i : LogItem) (s : State) (l : Levels) (e : Entry) → Records i s l e → IsNext i s (step (s ∷ []) e)
own_next i s l e r = record {
  text = r.text;
  stmt = r.stmt;
  what = e.what;
  rows = r.rows;
  body = r.body;
  parsed = r.parsed;
  version = r.version;
  moment = r.moment;
  accepted = r.accepted;
  state = ap (λ (x : Entry). step (s ∷ []) x) r.entry;
}

bare_next : (i : LogItem) (s : State) (l : Levels) (e : Entry) → Records i (bare s) l e → RecordsNext i s e
unfolding own_next
bare_next i s l e r =
    let n = own_next i (bare s) l e r in
    let same : SameNext i (bare s) (step (bare s ∷ []) e) n s.rows = next_rows i (bare s) (step (bare s ∷ []) e) n s.rows in
    let m : IsNext i s (record (step (bare s ∷ []) e) { rows = same.after }) = same.next in
    let made : step (s ∷ []) e ≡ step (s ∷ []) (entry_at i.session i.ordinal i.moment m.what) =
    ap (λ (x : Entry). step (s ∷ []) x) r.entry
    ∙ ap (λ (w : What). step (s ∷ []) (entry_at i.session i.ordinal i.moment w)) (sym same.says) in
    record {
      next = record {
        text = m.text;
        stmt = m.stmt;
        what = m.what;
        rows = m.rows;
        body = m.body;
        parsed = m.parsed;
        version = m.version;
        moment = m.moment;
        accepted = m.accepted;
        state = made;
      };
      says = same.says;
      bare_is = ap bare (made ∙ sym m.state);
    }

-- the record of an entry in a state is its record in each state that is the same but for its rows
pub records_next : (i : LogItem) (s t : State) (l : Levels) (e : Entry) → bare s ≡ t → Records i t l e → RecordsNext i s e
records_next i s t l e is r = bare_next i s l e (subst (λ (x : State). Records i x l e) (sym is) r)

pub records_moment : (i : LogItem) (s : State) (l : Levels) (e : Entry) → Records i s l e → e.moment ≡ i.moment
records_moment i s l e r = ap (λ (x : Entry). x.moment) r.entry

-- what an entry makes of states that are the same but for their rows is the same but for its rows
pub entry_alike : (i : LogItem) (s t : State) (l : Levels) (e : Entry) → bare s ≡ t → Records i t l e → bare (step (s ∷ []) e) ≡ bare (step (t ∷ []) e)
entry_alike i s t l e is r = (records_next i s t l e is r).bare_is ∙ ap (λ (x : State). bare (step (x ∷ []) e)) is

-- ---- moments

next_moment : (i : LogItem) (s t : State) → IsNext i s t → t.moment ≡ i.moment
next_moment i s t n = ap (λ (x : State). x.moment) n.state ∙ step_moment (s ∷ []) (entry_at i.session i.ordinal i.moment n.what)

-- the moment is that of the last item
replays_moment : (items : List LogItem) (s t : State) (l m : Contents) → Replays s l items t m → t.moment ≡ last_moment s.moment items
replays_moment [] s t l m p = ap (λ (x : State). x.moment) p.0
replays_moment (i ∷ is) s t l m p =
    replays_moment is p.0 t (taken p.1.what i.moment l) m p.3 ∙ ap (λ (n : ℕ). last_moment n is) (next_moment i s p.0 p.1)

self_at_most : (n : ℕ) → n ≤ n
self_at_most n = omega arith

last_or : (least own : ℕ) (items : List LogItem) → least ≤ own → last_moment least items ≤ last_moment own items
last_or least own [] le = le
last_or least own (i ∷ is) le = self_at_most (last_moment i.moment is)

none_at_most : (n : ℕ) → 0 ≤ n
none_at_most n = omega arith

up_to : (a b c : ℕ) → a ≤ b → c ≡ b → a ≤ c
up_to a b c le e = omega arith

-- the moment of a state is at least that of the last of the items that made it
pub own_moment : (own : List LogItem) (s t : State) (l m : Contents) → Replays s l own t m → last_moment 0 own ≤ t.moment
own_moment own s t l m p =
    up_to (last_moment 0 own) (last_moment s.moment own) t.moment (last_or 0 s.moment own (none_at_most s.moment)) (replays_moment own s t l m p)

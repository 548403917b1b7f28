-- Items of a log, appended one after another to a new one.
use Rattle.std.proofs.Common.{◌≡◌, ℕ, ◌+◌, ◌^◌, ◌<◌, ◌≤◌, true, List, [], ◌∷◌, ◌++◌, length, take, get_or, Option, Some, None, sym, ap, subst, ◌∙◌, arith}
use Rattle.std.specs.Option.{IsSomeAnd}
use Rattle.std.proofs.lemmas.List.{take_more}
use Rattle.td_outside.specs.Image.{Log, Image, Becomes}
use Rattle.td_outside.specs.Logs.{after_log_create}
use Rattle.td_wal.specs.declared.item.LogItem.{LogItem}
use Rattle.td_wal.specs.Log.{LogAt, items_fit}
use Rattle.td_wal.specs.Append.{HasClosedGate, IsSettled, IsWritable, Continues, next_gate, LogSays, Appends}
use Rattle.td_wal.proofs.AppendLaws.{new_settled}
use Rattle.td_wal.proofs.ToldLaws.{told_created}
use Rattle.td_wal.proofs.WritingLaws.{continues_writable, items_fit-take, next_gate_is, writable_size}

weaker_in : (P Q : Log → Type 0) (o : Option Log) → ((l : Log) → P l → Q l) → IsSomeAnd o P → IsSomeAnd o Q
weaker_in P Q None step p = absurd p
weaker_in P Q (Some l) step p = step l p

weaker : (P Q : Log → Type 0) (n : ℕ) (told : Option Image) → ((l : Log) → P l → Q l) → LogSays told n P → LogSays told n Q
weaker P Q n None step says = tt
weaker P Q n (Some image) step says = weaker_in P Q (image.logs n) step says

-- the log has so many of the items, and its closed gate stands at this place
abbrev pub Holds : ℕ → List LogItem → ℕ → ℕ → Log → Type 0
Holds first items k at log = LogAt first (take k items) at log.bytes

one_more : (k : ℕ) (items : List LogItem) (i : LogItem) → k < length items → i ≡ get_or items k i → take (k + 1) items ≡ take k items ++ i ∷ []
one_more k items i here is = take_more items k i here ∙ ap (λ (j : LogItem). take k items ++ j ∷ []) (sym is)

pub next_continues : (first k : ℕ) (items : List LogItem) (i : LogItem) → items_fit first 0 items ≡ true → k < length items → i ≡ get_or items k i → Continues first (take k items) i
next_continues first k items i fit here is = subst (λ (l : List LogItem). items_fit first 0 l ≡ true) (one_more k items i here is) (items_fit-take first 0 items (k + 1) fit)

pub starts : (first : ℕ) (items : List LogItem) (old new : Option Image) → Becomes (after_log_create 1) old new → LogSays new 1 (Holds first items 0 0)
starts first items old new made = told_created 1 (Holds first items 0 0) old new (new_settled first).log_at made

pub writes : (first k : ℕ) (items : List LogItem) (i : LogItem) → 1 ≤ first → items_fit first 0 items ≡ true → k < length items → i ≡ get_or items k i → IsWritable i
writes first k items i some fit here is = continues_writable first (take k items) i some (next_continues first k items i fit here is)

pub has_room : (at : ℕ) (i : LogItem) → at < 2 ^ 62 → IsWritable i → next_gate at i < 2 ^ 64
has_room at i few w = omega (arith, next_gate_is at i, writable_size i w, few)

pub has_gate : (first k at : ℕ) (items : List LogItem) (told : Option Image) → LogSays told 1 (Holds first items k at) → LogSays told 1 (λ log. HasClosedGate at log.bytes)
has_gate first k at items told says = weaker (Holds first items k at) (λ log. HasClosedGate at log.bytes) 1 told (λ log p. (first, take k items, p)) says

pub goes_on : (first k at next : ℕ) (items : List LogItem) (i : LogItem) (old new : Option Image) → items_fit first 0 items ≡ true → k < length items → i ≡ get_or items k i → next ≡ next_gate at i → Appends 1 at i old new → LogSays old 1 (Holds first items k at) → LogSays new 1 (Holds first items (k + 1) next)
goes_on first k at next items i old new fit here is place made says =
    let settled = made.log first (take k items) (next_continues first k items i fit here is) says in
    weaker (IsSettled first (take k items ++ i ∷ []) (next_gate at i)) (Holds first items (k + 1) next) 1 new
    (λ log p. subst (λ (l : List LogItem). LogAt first l next log.bytes) (sym (one_more k items i here is)) (subst (λ (n : ℕ). LogAt first (take k items ++ i ∷ []) n log.bytes) (sym place) p.log_at)) settled

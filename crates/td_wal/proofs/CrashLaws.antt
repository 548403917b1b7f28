-- What a crash leaves of a log, over the images that it may leave.
use Rattle.std.proofs.Common.{◌≡◌, inl, inr, ℕ, Bool, false, List, Option, Some, None, refl, sym, subst}
use Rattle.std.specs.Option.{IsSomeAnd}
use Rattle.td_outside.specs.Image.{Log, Image}
use Rattle.td_outside.specs.Logs.{HasLog}
use Rattle.td_outside.specs.Crash.{Stays, IsLeft, stable_log, IsLeftOf, LeavesLog, MayLeave}
use Rattle.td_wal.specs.declared.item.LogItem.{LogItem}
use Rattle.td_wal.specs.Log.{LogAt}
use Rattle.td_wal.specs.Append.{IsSettled, IsEither, LeavesEither, SettlesEither}

-- without a doubt the log itself is left
left_of : (fresh gone : Bool) (now left : Option Log) → fresh ≡ false → gone ≡ false → LeavesLog fresh gone now left → IsLeftOf now left
left_of fresh gone now left f g (inl l) = l
left_of fresh gone now left f g (inr (inl l)) = absurd (cc (l.0, f))
left_of fresh gone now left f g (inr (inr l)) = absurd (cc (l.0, g))

still_settled : (first : ℕ) (items : List LogItem) (at : ℕ) (log : Log) (bytes : List ℕ) → IsSettled first items at log → IsLeft log bytes → IsSettled first items at (stable_log bytes)
still_settled first items at log bytes s l =
    let same : bytes ≡ log.bytes = subst (λ (o : Option (ℕ × ℕ)). Stays o log.bytes bytes) s.stable.synced l.stays in
    record { log_at = subst (LogAt first items at) (sym same) s.log_at; stable = record { synced = refl; whole = refl } }

stable_either : (first : ℕ) (items : List LogItem) (at : ℕ) (i : LogItem) (bytes : List ℕ) → IsEither first items at i bytes → SettlesEither first items at i (stable_log bytes)
stable_either first items at i bytes (inl p) = inl (record { log_at = p; stable = record { synced = refl; whole = refl } })
stable_either first items at i bytes (inr p) = inr (record { log_at = p; stable = record { synced = refl; whole = refl } })

left_says : (P Q : Log → Type 0) (now left : Option Log) → ((log : Log) (bytes : List ℕ) → P log → IsLeft log bytes → Q (stable_log bytes)) → IsLeftOf now left → IsSomeAnd now P → IsSomeAnd left Q
left_says P Q None left step l p = absurd p
left_says P Q (Some log) left step l p = subst (λ (o : Option Log). IsSomeAnd o Q) (sym l.2) (step log l.0 p l.1)

module _ (n first : ℕ) (items : List LogItem) (at : ℕ) (now left : Image) (may : MayLeave now left) (fresh : now.doubt.fresh n ≡ false) (gone : now.doubt.gone n ≡ false) where
  pub leaves_settled : HasLog n (IsSettled first items at) now → HasLog n (IsSettled first items at) left
  leaves_settled says =
      left_says (IsSettled first items at) (IsSettled first items at) (now.logs n) (left.logs n) (still_settled first items at) (left_of (now.doubt.fresh n) (now.doubt.gone n) (now.logs n) (left.logs n) fresh gone (may.logs n)) says

  pub leaves_either : (i : LogItem) → HasLog n (LeavesEither first items at i) now → HasLog n (SettlesEither first items at i) left
  leaves_either i says =
      left_says (LeavesEither first items at i) (SettlesEither first items at i) (now.logs n) (left.logs n) (λ log bytes p l. stable_either first items at i bytes (p bytes l))
      (left_of (now.doubt.fresh n) (now.doubt.gone n) (now.logs n) (left.logs n) fresh gone (may.logs n)) says

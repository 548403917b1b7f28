-- What a write to a log makes of it.
use Rattle.std.proofs.Common.{◌≡◌, ℕ, ◌+◌, ◌<◌, List, [], ◌∷◌, length, slice_set, Option, ◌∙◌}
use Rattle.td_outside.specs.Image.{Log}
use Rattle.td_outside.specs.Logs.{after_write, widened}
use Rattle.td_memdev.proofs.Pieces.{set_parts}

pub gate_is : (log : Log) (at : ℕ) (bytes : List ℕ) (unsynced : Option (ℕ × ℕ)) → at < length log.bytes → bytes ≡ slice_set log.bytes at 1 → unsynced ≡ widened at (at + 1) log.unsynced → record { bytes = bytes; stable = log.stable; unsynced = unsynced } ≡ after_write at (1 ∷ []) log
gate_is log at bytes unsynced within is widens =
    let parts = is ∙ set_parts log.bytes at 1 within in
    λ i. record { bytes = parts i; stable = log.stable; unsynced = widens i }

-- An append, call by call, where the store tells its image.
use Rattle.std.proofs.Common.{◌≡◌, ℕ, ◌+◌, ◌<◌, ◌≤◌, List, [], ◌∷◌, ◌++◌, length, Option, refl, sym, subst, ◌∙◌, arith}
use Rattle.std.specs.Prelude.{Result, Err}
use Rattle.td_outside.specs.Image.{Log, Image, Along, Becomes}
use Rattle.td_outside.specs.Logs.{with_log, after_write, after_sync, Tears}
use Rattle.td_outside.specs.declared.faults.IoFault.{IoFault}
use Rattle.td_outside.specs.declared.faults.IoFault.TheVariants as io
use Rattle.td_wal.specs.declared.appending.WalFault.{WalFault}
use Rattle.td_wal.specs.declared.appending.WalFault.TheVariants as faults
use Rattle.td_wal.specs.declared.item.LogItem.{LogItem}
use Rattle.td_wal.specs.Append.{IsSettled, HasClosedGate, record_bytes, next_gate, appended, LogSays, IsEither, LeavesEither, Appends, Fails, wal_fault}
use Rattle.td_wal.specs.Log.{LogAt}
use Rattle.td_wal.proofs.AppendLaws.{written, staged, open_again, gate_reaches, written_reaches, appended_is, FailsSo, torn_fails, written_fails, gate_torn_fails, open_again_fails, appended_settles}
use Rattle.td_wal.proofs.ToldLaws.{Turns, Made, TornFrom, told_begins, told_makes, told_tears, told_only, told_says, told_becomes}

-- the log has a closed gate at this place
abbrev pub Gate : ℕ → Log → Type 0
Gate at log = HasClosedGate at log.bytes

abbrev pub same_log : Log → Log
same_log log = log

-- the log of a number had its closed gate at this place, and was made into this
abbrev pub ToldMade : ℕ → ℕ → (Log → Log) → Option Image → Option Image → Type 0
ToldMade n at f old new = Along (Turns n (Made (Gate at) f)) old new

-- a gate stands at a place of it
abbrev pub Reaches : ℕ → Log → Type 0
Reaches at log = at + 1 ≤ length log.bytes

abbrev pub HasPlace : ℕ → Log → Type 0
HasPlace at log = at < length log.bytes

abbrev pub IsThere : Log → Type 0
IsThere log = Unit {0}

fails_from : (n at : ℕ) (i : LogItem) (P : Log → Log → Type 0) (old new : Option Image) → ((was now : Log) → P was now → FailsSo at i was now) → Along (Turns n P) old new → Fails n at i old new
fails_from n at i P old new step t = record {
  rest = told_only n P old new t;
  read = λ first items fit says. told_says n P (λ l. LogAt first items at l.bytes) (λ l. IsEither first items at i l.bytes) old new (λ was now p q. (step was now p).read first items fit q) t says;
  crash = λ first items fit says. told_says n P (IsSettled first items at) (LeavesEither first items at i) old new (λ was now p q. (step was now p).crash first items fit q) t says;
}

module _ (n at : ℕ) (i : LogItem) where
  -- ---- the calls, one after another

  pub begins : (old : Option Image) → LogSays old n (Gate at) → ToldMade n at same_log old old
  begins old says = told_begins n (Gate at) old says

  pub writes : (bytes : List ℕ) (old new : Option Image) → bytes ≡ record_bytes i → LogSays old n (Gate at) → Becomes (with_log n (after_write (at + 1) bytes)) old new → ToldMade n at (written at i) old new
  writes bytes old new is says step =
      told_makes n (Gate at) (after_write (at + 1) (record_bytes i)) same_log old old new (begins old says) (subst (λ (b : List ℕ). Becomes (with_log n (after_write (at + 1) b)) old new) is step)

  pub syncs : (f : Log → Log) (old mid new : Option Image) → ToldMade n at f old mid → Becomes (with_log n after_sync) mid new → ToldMade n at (λ l. after_sync (f l)) old new
  syncs f old mid new t step = told_makes n (Gate at) after_sync f old mid new t step

  pub opens : (old mid new : Option Image) → ToldMade n at (staged at i) old mid → Becomes (with_log n (after_write at (1 ∷ []))) mid new → ToldMade n at (open_again at i) old new
  opens old mid new t step = told_makes n (Gate at) (after_write at (1 ∷ [])) (staged at i) old mid new t step

  -- ---- the calls may be made

  pub gate_is_there : (told : Option Image) → LogSays told n (Gate at) → LogSays told n (Reaches at)
  gate_is_there told says = told_says n (Made (Gate at) same_log) (Gate at) (Reaches at) told told (λ was now p q. subst (Reaches at) (sym p.1) (gate_reaches at was.bytes q)) (begins told says) says

  pub staged_reaches : (old new : Option Image) → LogSays old n (Gate at) → ToldMade n at (staged at i) old new → LogSays new n (HasPlace at)
  staged_reaches old new says t =
      told_says n (Made (Gate at) (staged at i)) (Gate at) (HasPlace at) old new
      (λ was now p q. let here : HasPlace at (staged at i was) = omega (arith, written_reaches at i was q) in subst (HasPlace at) (sym p.1) here) t says

  pub still_there : (f : Log → Log) (old new : Option Image) → LogSays old n (Gate at) → ToldMade n at f old new → LogSays new n IsThere
  still_there f old new says t = told_says n (Made (Gate at) f) (Gate at) IsThere old new (λ was now p q. tt) t says

  -- ---- what they leave

  pub fails_torn : (count : ℕ) (old new : Option Image) → LogSays old n (Gate at) → Along (Tears n (at + 1) count) old new → Fails n at i old new
  fails_torn count old new says torn =
      fails_from n at i (TornFrom (Gate at) same_log (at + 1) count) old new
      (λ was now p. subst (λ (l : Log). FailsSo at i was l) (sym p.1.2) (torn_fails at count i was p.1.0 p.1.1)) (told_tears n (at + 1) count (Gate at) same_log old old new (begins old says) torn)

  pub fails_made : (f : Log → Log) (old mid new : Option Image) → ((l : Log) → FailsSo at i l (f l)) → new ≡ mid → ToldMade n at f old mid → Fails n at i old new
  fails_made f old mid new each same t =
      subst (λ (told : Option Image). Fails n at i old told) (sym same)
      (fails_from n at i (Made (Gate at) f) old mid (λ was now p. subst (λ (l : Log). FailsSo at i was l) (sym p.1) (each was)) t)

  pub fails_written : (old mid new : Option Image) → new ≡ mid → ToldMade n at (written at i) old mid → Fails n at i old new
  fails_written old mid new same t = fails_made (written at i) old mid new (written_fails at i) same t

  pub fails_gate_torn : (old mid new : Option Image) → ToldMade n at (staged at i) old mid → Along (Tears n at 1) mid new → Fails n at i old new
  fails_gate_torn old mid new t torn =
      fails_from n at i (TornFrom (Gate at) (staged at i) at 1) old new
      (λ was now p. subst (λ (l : Log). FailsSo at i was l) (sym p.1.2) (gate_torn_fails at i was p.1.0 p.1.1)) (told_tears n at 1 (Gate at) (staged at i) old mid new t torn)

  pub fails_opened : (old mid new : Option Image) → new ≡ mid → ToldMade n at (open_again at i) old mid → Fails n at i old new
  fails_opened old mid new same t = fails_made (open_again at i) old mid new (open_again_fails at i) same t

  pub appends : (old new : Option Image) → ToldMade n at (λ l. after_sync (open_again at i l)) old new → Appends n at i old new
  appends old new t = record {
    image = told_becomes n (Gate at) (λ l. after_sync (open_again at i l)) (appended at i) old new (appended_is at i) t;
    log = λ first items fit says.
        told_says n (Made (Gate at) (λ l. after_sync (open_again at i l))) (λ l. LogAt first items at l.bytes) (IsSettled first (items ++ i ∷ []) (next_gate at i)) old new
        (λ was now p q. subst (IsSettled first (items ++ i ∷ []) (next_gate at i)) (sym (p.1 ∙ appended_is at i was p.0)) (appended_settles first items i at was fit q)) t says;
  }

-- of a call that may find no memory
pub fails_first : (n at count : ℕ) (i : LogItem) (old new : Option Image) (e : IoFault) (told : WalFault) → told ≡ wal_fault e → told ≡ faults.StoreFault → LogSays old n (Gate at) → (e ≡ io.Failed → Along (Tears n (at + 1) count) old new) → Fails n at i old new
fails_first n at count i old new io.Failed told is store says torn = fails_torn n at i count old new says (torn refl)
fails_first n at count i old new io.NoMemory told is store says torn = absurd cc

pub err_value : {A : Type 0} (r : Result A WalFault) (a b : WalFault) → r ≡ Err a → r ≡ Err b → a ≡ b
err_value r a b p q = cc

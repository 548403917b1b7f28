-- Files in making leave what a core says of a history.
use Rattle.std.proofs.Common.{◌≡◌, inl, inr, ⊎_elim, ℕ, List, [], ◌∷◌, ◌++◌, Option, Some, None, ap, ◌∙◌}
use Rattle.std.specs.Prelude.{IfSome}
use Rattle.td_model.specs.declared.history.Entry.{Entry}
use Rattle.td_model.specs.State.{State, after}
use Rattle.td_outside.specs.Image.{Image, Along}
use Rattle.td_manifest.specs.declared.head.Head.{Head}
use Rattle.td_levels.specs.Levels.{Levels}
use Rattle.td_levels.specs.Laws.{HoldRows}
use Rattle.td_making.specs.Making.{SameHeld, AddsSome}
use Rattle.td_active.specs.declared.active_log.ActiveLog.{ActiveLog}
use Rattle.td_engine.specs.CoreState.{IsKept}
use Rattle.td_engine.specs.Covers.{ImageIsBy}
use Rattle.td_engine.specs.Commits.{KeepsFiles}
use Rattle.td_engine.proofs.Images.{carry}
use Rattle.td_engine.proofs.Added.{adds_told, keeps_told, stored_more, rows_more}

pub kept_more : (old new : Option Image) (s : State) (l : Levels) (committed : ℕ) (sealed : Option Head) (place : ActiveLog) (floor spare : ℕ) → Along AddsSome old new → IsKept old s l committed sealed place floor spare → IsKept new s l committed sealed place floor spare
kept_more old new s l committed sealed place floor spare adds kept = record {
  since = kept.since;
  last = kept.last;
  stored = stored_more old new s l committed sealed place adds kept.stored;
  room = kept.room;
}

pub kept_made : (old new : Option Image) (s : State) (l : Levels) (committed : ℕ) (sealed : Option Head) (place : ActiveLog) (floor spare : ℕ) → Along SameHeld old new → IsKept old s l committed sealed place floor spare → IsKept new s l committed sealed place floor spare
kept_made old new s l committed sealed place floor spare same kept = kept_more old new s l committed sealed place floor spare (adds_told old new same) kept

pub keeps_made : (old new : Option Image) → Along SameHeld old new → Along KeepsFiles old new
keeps_made old new same = keeps_told old new (adds_told old new same)

pub rows_made : (old new : Option Image) (t s : State) (l : Levels) (committed : ℕ) (sealed : Option Head) (place : ActiveLog) (floor spare : ℕ) → Along SameHeld old new → IsKept old t l committed sealed place floor spare → IfSome old (λ image. HoldRows image.files s l) → IfSome new (λ image. HoldRows image.files s l)
rows_made old new t s l committed sealed place floor spare same kept h = rows_more old new s l (adds_told old new same) kept.stored.files h

pub pins_more : (old new : Option Image) (pins : ℕ → ℕ) → Along KeepsFiles old new → IfSome old (λ image. (n : ℕ) → image.readers n ≡ pins n) → IfSome new (λ image. (n : ℕ) → image.readers n ≡ pins n)
pins_more old new pins keeps h = carry KeepsFiles (λ (image : Image). (n : ℕ) → image.readers n ≡ pins n) (λ (image : Image). (n : ℕ) → image.readers n ≡ pins n) old new (λ a b k p n. ap (λ (r : ℕ → ℕ). r n) k.readers ∙ p n) keeps h

image_by : (halt : Option ℕ) (b : State) (h : List Entry) (x y : Image) → KeepsFiles x y → ImageIsBy halt x b h → ImageIsBy halt y b h
image_by None b h x y keeps is = keeps.stands (after b h) is
image_by (Some version) b h x y keeps is = record {
  before = is.before;
  halt = is.halt;
  is_halt = is.is_halt;
  ends = is.ends;
  tried = is.tried;
  stands = ⊎_elim (λ old_stands. inl (keeps.stands (after b is.before) old_stands)) (λ new_stands. inr (keeps.stands (after b (is.before ++ is.tried ∷ [])) new_stands)) is.stands;
}

pub image_more : (old new : Option Image) (halt : Option ℕ) (b : State) (h : List Entry) → Along KeepsFiles old new → IfSome old (λ image. ImageIsBy halt image b h) → IfSome new (λ image. ImageIsBy halt image b h)
image_more old new halt b h keeps is = carry KeepsFiles (λ (image : Image). ImageIsBy halt image b h) (λ (image : Image). ImageIsBy halt image b h) old new (image_by halt b h) keeps is

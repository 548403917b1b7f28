-- Over devices that tell what they hold, what a status says leaves one status alone.
use Rattle.std.specs.Prelude.{IfSome}
use Rattle.std.proofs.Common.{◌≡◌, inl, inr, ℕ, ◌≤◌, ◌<◌, List, ◌++◌, length, Option, Some, None, refl, sym, ap, ◌∙◌, subst, arith}
use Rattle.std.proofs.lemmas.List.{append-nil, length-append}
use Rattle.td_limits.specs.declared.limits.TheConstants.{SCRIPT_BYTES}
use Rattle.td_outside.specs.Causes.{Rose}
use Rattle.td_script.specs.declared.lines.Line.{Line}
use Rattle.td_script.specs.Script.{IsScript, FirstOutside}
use Rattle.td_script.proofs.Whole.{apart, one_line}
use Rattle.td_top.specs.declared.status.Status.{Status}
use Rattle.td_top.specs.declared.status.Status.TheVariants as status
use Rattle.td_top.specs.Stream.{ReadWhole, ReadTooMuch}
use Rattle.td_outside.specs.Image.{Image}
use Rattle.td_model.specs.State.{State}
use Rattle.td_core.specs.declared.causes.FileId.{FileId}
use Rattle.td_core.specs.Stands.{Stands}
use Rattle.td_core.specs.Breaks.{BreaksFirst}
use Rattle.td_core.proofs.Standing.{stands_or_breaks, one_place}
use Rattle.td_top.specs.Status.{Outside, Gives, Holds, Plays, Unopened, Unleft, ReadScript, Says, Completes, IsUnlessMemory}

known_bytes : (left left' : Option (List ℕ)) (bytes read : List ℕ) → left ≡ Some bytes → ReadWhole left left' read → read ≡ bytes
known_bytes None left' bytes read e w = cc
known_bytes (Some xs) None bytes read e w = absurd w.read
known_bytes (Some xs) (Some ys) bytes read e w = let same : xs ≡ bytes = cc in sym (append-nil read) ∙ ap (λ y. read ++ y) (sym w.at_end) ∙ sym w.read ∙ same

too_much : (left left' : Option (List ℕ)) (bytes : List ℕ) → left ≡ Some bytes → length bytes ≤ SCRIPT_BYTES → ReadTooMuch left left' → ⊥
too_much None left' bytes e few w = cc
too_much (Some xs) None bytes e few w = absurd w.1
too_much (Some xs) (Some ys) bytes e few w =
    let same : xs ≡ bytes = cc in
    omega (arith, ap length same, ap length w.1, length-append w.0 ys)

too_few : (left left' : Option (List ℕ)) (bytes read : List ℕ) → left ≡ Some bytes → SCRIPT_BYTES < length bytes → ReadWhole left left' read → ⊥
too_few left left' bytes read known much whole = omega (arith, whole.few, ap length (known_bytes left left' bytes read known whole))

told_stands : (told : Option Image) (image : Image) (b : State) → told ≡ Some image → IfSome told (λ i. Stands i b) → Stands image b
told_stands None image b e h = cc
told_stands (Some i) image b e h = let same : i ≡ image = cc in subst (λ (x : Image). Stands x b) same h

told_breaks : (told : Option Image) (image : Image) (f : FileId) (at : ℕ) → told ≡ Some image → IfSome told (λ i. BreaksFirst i f at) → BreaksFirst image f at
told_breaks None image f at e h = cc
told_breaks (Some i) image f at e h = let same : i ≡ image = cc in subst (λ (x : Image). BreaksFirst x f at) same h

module _ (readings : Option (List ℕ)) (before after : Outside) where
  -- a script isn't too large, and no line of it is of no form
  script_few : (lines : List Line) (bytes : List ℕ) → ReadScript before.left after.left lines → before.left ≡ Some bytes → SCRIPT_BYTES < length bytes → ⊥
  script_few lines bytes s known much = too_few before.left after.left bytes s.bytes known much s.read

  script_good : (lines : List Line) (bytes : List ℕ) (n : ℕ) → ReadScript before.left after.left lines → before.left ≡ Some bytes → FirstOutside bytes n → ⊥
  script_good lines bytes n s known outside = apart bytes lines n (subst (λ x. IsScript x lines) (known_bytes before.left after.left bytes s.bytes known s.read) s.is_script) outside

  -- why a run can't have ended so
  not_large : (bytes : List ℕ) → Gives before after bytes → length bytes ≤ SCRIPT_BYTES → ReadTooMuch before.left after.left → ⊥
  not_large bytes gives few much = too_much before.left after.left bytes gives.bytes_are few much

  not_bad : (bytes read : List ℕ) (lines : List Line) (n : ℕ) → Gives before after bytes → IsScript bytes lines → ReadWhole before.left after.left read → FirstOutside read n → ⊥
  not_bad bytes read lines n gives is whole outside = apart bytes lines n is (subst (λ x. FirstOutside x n) (known_bytes before.left after.left bytes read gives.bytes_are whole) outside)

  not_unopened : (image : Image) → Holds before after image → Unopened before.effects after.effects → ⊥
  not_unopened image holds u = elim u.cause [ inl rose ↦ holds.steady_place rose | inr rose ↦ holds.steady_store rose ]

  not_unleft : (image : Image) (lines : List Line) → Holds before after image → Unleft readings lines before.effects after.effects → ⊥
  not_unleft image lines holds u = holds.steady_place u.cause

  not_strange : (image : Image) (b : State) (f : FileId) (at : ℕ) → Holds before after image → Stands image b → IfSome before.effects.image (λ i. BreaksFirst i f at) → ⊥
  not_strange image b f at holds stands breaks = stands_or_breaks image b f at stands (told_breaks before.effects.image image f at holds.image_is breaks)

  not_played : (image : Image) (f : FileId) (at : ℕ) (lines : List Line) (text : List ℕ) → Holds before after image → BreaksFirst image f at → Plays readings lines before.effects after.effects text → ⊥
  not_played image f at lines text holds breaks p = stands_or_breaks image p.base f at (told_stands before.effects.image image p.base holds.image_is p.stands) breaks

  done_says : (s : Status) → Says readings before after s → (bytes : List ℕ) (lines : List Line) (image : Image) (b : State) → Gives before after bytes → IsScript bytes lines → length bytes ≤ SCRIPT_BYTES → Holds before after image → Stands image b → ¬ (Rose before.effects.output_faults after.effects.output_faults) → IsUnlessMemory s status.Done
  done_says status.Done says bytes lines image b gives is few holds stands calm = inl refl
  done_says status.NoMemory says bytes lines image b gives is few holds stands calm = inr refl
  done_says status.Usage says bytes lines image b gives is few holds stands calm = absurd says
  done_says status.TooLarge says bytes lines image b gives is few holds stands calm = absurd (not_large bytes gives few says.0.0)
  done_says (status.BadScript n) says bytes lines image b gives is few holds stands calm = absurd (not_bad bytes says.0.0 lines n gives is says.0.1 says.0.2)
  done_says status.InputFault says bytes lines image b gives is few holds stands calm = absurd (gives.steady says.0)
  done_says status.OutputFault says bytes lines image b gives is few holds stands calm = absurd (calm says.plays.3)
  done_says status.StoreFault says bytes lines image b gives is few holds stands calm = absurd (elim says.plays [ inl u ↦ not_unopened image holds u | inr u ↦ not_unleft image says.lines holds u ])
  done_says (status.NotThisStore f at) says bytes lines image b gives is few holds stands calm = absurd (not_strange image b f at holds stands says.plays.breaks)

  strange_says : (s : Status) → Says readings before after s → (bytes : List ℕ) (lines : List Line) (image : Image) (f : FileId) (at : ℕ) → Gives before after bytes → IsScript bytes lines → length bytes ≤ SCRIPT_BYTES → Holds before after image → BreaksFirst image f at → IsUnlessMemory s (status.NotThisStore f at)
  strange_says status.Done says bytes lines image f at gives is few holds breaks = absurd (not_played image f at says.lines says.plays.0 holds breaks says.plays.1)
  strange_says status.NoMemory says bytes lines image f at gives is few holds breaks = inr refl
  strange_says status.Usage says bytes lines image f at gives is few holds breaks = absurd says
  strange_says status.TooLarge says bytes lines image f at gives is few holds breaks = absurd (not_large bytes gives few says.0.0)
  strange_says (status.BadScript n) says bytes lines image f at gives is few holds breaks = absurd (not_bad bytes says.0.0 lines n gives is says.0.1 says.0.2)
  strange_says status.InputFault says bytes lines image f at gives is few holds breaks = absurd (gives.steady says.0)
  strange_says status.OutputFault says bytes lines image f at gives is few holds breaks = absurd (not_played image f at says.lines says.plays.0 holds breaks says.plays.1)
  strange_says status.StoreFault says bytes lines image f at gives is few holds breaks = absurd (elim says.plays [ inl u ↦ not_unopened image holds u | inr u ↦ not_unleft image says.lines holds u ])
  strange_says (status.NotThisStore g m) says bytes lines image f at gives is few holds breaks =
      let same = one_place image g f m at (told_breaks before.effects.image image g m holds.image_is says.plays.breaks) breaks in
      inl (ap (λ (x : FileId). status.NotThisStore x m) same.0 ∙ ap (λ n. status.NotThisStore f n) same.1)

  bad_script_says : (s : Status) → Says readings before after s → (bytes : List ℕ) (n : ℕ) → Gives before after bytes → FirstOutside bytes n → length bytes ≤ SCRIPT_BYTES → IsUnlessMemory s (status.BadScript n)
  bad_script_says status.Done says bytes n gives outside few = absurd (script_good says.lines bytes n says.script gives.bytes_are outside)
  bad_script_says status.NoMemory says bytes n gives outside few = inr refl
  bad_script_says status.Usage says bytes n gives outside few = absurd says
  bad_script_says status.TooLarge says bytes n gives outside few = absurd (not_large bytes gives few says.0.0)
  bad_script_says (status.BadScript m) says bytes n gives outside few = inl (ap (λ i. status.BadScript i) (one_line bytes m n (subst (λ x. FirstOutside x m) (known_bytes before.left after.left bytes says.0.0 gives.bytes_are says.0.1) says.0.2) outside))
  bad_script_says status.InputFault says bytes n gives outside few = absurd (gives.steady says.0)
  bad_script_says status.OutputFault says bytes n gives outside few = absurd (script_good says.lines bytes n says.script gives.bytes_are outside)
  bad_script_says status.StoreFault says bytes n gives outside few = absurd (script_good says.lines bytes n says.script gives.bytes_are outside)
  bad_script_says (status.NotThisStore f at) says bytes n gives outside few = absurd (script_good says.lines bytes n says.script gives.bytes_are outside)

  too_large_says : (s : Status) → Says readings before after s → (bytes : List ℕ) → Gives before after bytes → SCRIPT_BYTES < length bytes → IsUnlessMemory s status.TooLarge
  too_large_says status.Done says bytes gives much = absurd (script_few says.lines bytes says.script gives.bytes_are much)
  too_large_says status.NoMemory says bytes gives much = inr refl
  too_large_says status.Usage says bytes gives much = absurd says
  too_large_says status.TooLarge says bytes gives much = inl refl
  too_large_says (status.BadScript m) says bytes gives much = absurd (too_few before.left after.left bytes says.0.0 gives.bytes_are much says.0.1)
  too_large_says status.InputFault says bytes gives much = absurd (gives.steady says.0)
  too_large_says status.OutputFault says bytes gives much = absurd (script_few says.lines bytes says.script gives.bytes_are much)
  too_large_says status.StoreFault says bytes gives much = absurd (script_few says.lines bytes says.script gives.bytes_are much)
  too_large_says (status.NotThisStore f at) says bytes gives much = absurd (script_few says.lines bytes says.script gives.bytes_are much)

  pub completes : (s : Status) → Says readings before after s → Completes before after s
  completes s says = record { done = done_says s says; strange = strange_says s says; bad_script = bad_script_says s says; too_large = too_large_says s says }

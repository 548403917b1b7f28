-- What each status of the program says.
use Rattle.std.specs.Prelude.{◌≡◌, ◌⊎◌, ℕ, ◌≤◌, ◌<◌, Bool, true, false, List, Option, length, None, Some, IfSome}
use Rattle.std.specs.Option.{option_map}
use Rattle.std.specs.Io.KnownBytes.{Appends, Keeps}
use Rattle.td_limits.specs.declared.limits.TheConstants.{SCRIPT_BYTES}
use Rattle.td_outside.specs.Causes.{Rose}
use Rattle.td_outside.specs.Image.{Image, Along, at_rest}
use Rattle.td_outside.specs.declared.faults.IoFault.{IoFault}
use Rattle.td_outside.specs.declared.faults.IoFault.TheVariants as io_fault
use Rattle.td_model.specs.declared.history.Entry.{Entry}
use Rattle.td_model.specs.declared.report.Report.{Report}
use Rattle.td_model.specs.State.{State}
use Rattle.td_model.specs.State as state
use Rattle.td_model.specs.Text.{report_text}
use Rattle.td_core.specs.declared.causes.FileId.{FileId}
use Rattle.td_core.specs.declared.causes.OpenCause.{OpenCause}
use Rattle.td_core.specs.declared.causes.OpenCause.TheVariants as open_cause
use Rattle.td_core.specs.CoreState.{CoreState}
use Rattle.td_core.specs.Stands.{Stands}
use Rattle.td_core.specs.Breaks.{BreaksFirst}
use Rattle.td_core.specs.Covers.{ImageIsBy}
use Rattle.td_core.specs.Opening.{StandAlike}
use Rattle.td_script.specs.declared.lines.Line.{Line}
use Rattle.td_script.specs.declared.lines.ScriptFault.{ScriptFault}
use Rattle.td_script.specs.declared.lines.ScriptFault.TheVariants as script_fault
use Rattle.td_script.specs.Script.{IsScript, FirstOutside}
use Rattle.td_printed.specs.Names.{HasCounts}
use Rattle.td_top.specs.Asks.{TellsLines}
use Rattle.td_top.specs.Turns.{HaltCause, LeavesBy, PlayedText, HasSome}
use Rattle.td_top.specs.Stream.{ReadWhole, ReadTooMuch, WroteFront}
use Rattle.td_top.specs.declared.stream.ReadFault.{ReadFault}
use Rattle.td_top.specs.declared.stream.ReadFault.TheVariants as read_fault
use Rattle.td_top.specs.declared.status.Status.{Status}
use Rattle.td_top.specs.declared.status.Status.TheVariants as status

-- What a run changes beside its input: the bytes that the sink took, where it tells them, and how often it failed; the
-- image of the place's store, where it tells it, how often the place failed, and how often the stores failed that it
-- took back.
pub record Effects : Type 0 where
  pub written : Option (List ℕ)
  pub output_faults : ℕ
  pub image : Option Image
  pub place_faults : ℕ
  pub taken : ℕ

-- what a sink and a place tell and count
abbrev pub effects : {O P : Type 0}
    → (O → Option (List ℕ)) → (O → ℕ) → (P → Option Image) → (P → ℕ) → (P → ℕ) → O → P → Effects
effects written output_faults told place_faults taken out place =
    record {
      written = written out;
      output_faults = output_faults out;
      image = told place;
      place_faults = place_faults place;
      taken = taken place;
    }

-- the same of a store that isn't in its place: only its own faults count
abbrev pub store_effects : {O S : Type 0}
    → (O → Option (List ℕ)) → (O → ℕ) → (S → Option Image) → (S → ℕ) → O → S → Effects
store_effects written output_faults told count out store =
    record {
      written = written out;
      output_faults = output_faults out;
      image = told store;
      place_faults = 0;
      taken = count store;
    }

-- What stands outside at a moment: the bytes that the source has left, where it tells them, how many bytes it gave, and
-- how often it failed; and what a run changes beside.
pub record Outside : Type 0 where
  pub left : Option (List ℕ)
  pub given : ℕ
  pub input_faults : ℕ
  pub effects : Effects

-- what a source tells and counts, with what a run changes beside it
abbrev pub outside : {I : Type 0} → (I → Option (List ℕ)) → (I → ℕ) → (I → ℕ) → I → Effects → Outside
outside left given input_faults input effects =
    record { left = left input; given = given input; input_faults = input_faults input; effects = effects }

-- ---- a script that was played

-- The report tells the run of the statements of these lines, from a state on for which the store stood, and which has
-- no halt. The store left stands for what the entries make of that state; after a halt it stands for the state before
-- it, or for that with the entry that was tried. A halt comes only where the store failed. The report's numbers are in
-- the range of their types.
pub record Plays
    (readings : Option (List ℕ)) (lines : List Line) (before after : Effects) (text : List ℕ)
    : Type 0 where
  pub base : State
  pub stands : IfSome before.image (λ image. Stands image base)
  pub open_base : base.halt ≡ None
  pub report : Report
  pub told : TellsLines base readings lines report
  pub counts : HasCounts report
  pub text_is : text ≡ report_text report
  pub left : LeavesBy base told.told.told.entries after.image
  pub cause : HaltCause report.replies before.taken after.taken

-- nothing was written, and no write failed
abbrev pub WroteNothing : Effects → Effects → Type 0
WroteNothing before after = Keeps before.written after.written × (after.output_faults ≡ before.output_faults)

-- The store wasn't opened, since it or its place failed: nothing was written, and the store left stands for the states
-- for which it stood.
pub record Unopened (before after : Effects) : Type 0 where
  pub nothing : WroteNothing before after
  pub cause : Rose before.place_faults after.place_faults ⊎ Rose before.taken after.taken
  pub alike : Along StandAlike before.image after.image

-- the script was played and its report written, and then the place failed as it was left
pub record Unleft (readings : Option (List ℕ)) (lines : List Line) (before after : Effects) : Type 0 where
  pub text : List ℕ
  pub plays : Plays readings lines before after text
  pub wrote : Appends before.written after.written text
  pub output_calm : after.output_faults ≡ before.output_faults
  pub cause : Rose before.place_faults after.place_faults

-- The store breaks the form of a store first at a place. Nothing was written, and the store is as it was, but for
-- readers that another process had open.
pub record Strange (file : FileId) (at : ℕ) (before after : Effects) : Type 0 where
  pub nothing : WroteNothing before after
  pub breaks : IfSome before.image (λ image. BreaksFirst image file at)
  pub image : option_map at_rest after.image ≡ option_map at_rest before.image

-- The store left is as it was, or stands for what some entries make of each state for which it stood.
abbrev pub GoesOn : Image → Image → Type 0
GoesOn old new =
    StandAlike old new ⊎ ((b : State) → Stands old b → (h : List Entry) × ImageIsBy (state.after b h).halt new b h)

-- there was no memory: nothing was written, and what was accepted stays
pub record Starves (before after : Effects) : Type 0 where
  pub nothing : WroteNothing before after
  pub image : IfSome before.image (λ old. IfSome after.image (GoesOn old))

-- What a status says of a script's lines that were played on the store of a place.
abbrev pub PlaysAt : Option (List ℕ) → List Line → Effects → Effects → Status → Type 0
PlaysAt readings lines before after status.Done =
    (text : List ℕ) × Plays readings lines before after text × Appends before.written after.written text
    × (after.output_faults ≡ before.output_faults) × (after.place_faults ≡ before.place_faults)
PlaysAt readings lines before after status.OutputFault =
    (text : List ℕ) × Plays readings lines before after text × WroteFront before.written after.written text
    × Rose before.output_faults after.output_faults
PlaysAt readings lines before after status.StoreFault = Unopened before after ⊎ Unleft readings lines before after
PlaysAt readings lines before after (status.NotThisStore file at) = Strange file at before after
PlaysAt readings lines before after status.NoMemory = Starves before after
PlaysAt readings lines before after s = ⊥

-- What a status says of a script's lines that were played on a core: the report was written, or a front of it where the
-- sink failed, or there was no memory, and then nothing was written and the core has the entries of the lines so far.
abbrev pub PlaysCore : List Line → CoreState → CoreState → Option (List ℕ) → Option (List ℕ) → ℕ → ℕ → Status → Type 0
PlaysCore lines old new written written' count count' status.Done =
    (text : List ℕ) × PlayedText old new lines text × Appends written written' text × (count' ≡ count)
PlaysCore lines old new written written' count count' status.OutputFault =
    (text : List ℕ) × PlayedText old new lines text × WroteFront written written' text × Rose count count'
PlaysCore lines old new written written' count count' status.NoMemory =
    HasSome old new × Keeps written written' × (count' ≡ count)
PlaysCore lines old new written written' count count' s = ⊥

-- the input was read to its end and is a script
pub record ReadScript (left left' : Option (List ℕ)) (lines : List Line) : Type 0 where
  pub bytes : List ℕ
  pub read : ReadWhole left left' bytes
  pub is_script : IsScript bytes lines

-- the input was read to its end and is a script, and of its lines the status says what it says
pub record PlaysScript (readings : Option (List ℕ)) (before after : Outside) (s : Status) : Type 0 where
  pub lines : List Line
  pub script : ReadScript before.left after.left lines
  pub plays : PlaysAt readings lines before.effects after.effects s
  pub calm : after.input_faults ≡ before.input_faults

-- ---- a run

-- why a run ended with this status before its place was entered
abbrev pub Ended : Option (List ℕ) → Option (List ℕ) → ℕ → ℕ → Status → Type 0
Ended left left' count count' status.TooLarge = ReadTooMuch left left' × (count' ≡ count)
Ended left left' count count' (status.BadScript line) =
    (bytes : List ℕ) × ReadWhole left left' bytes × FirstOutside bytes line × (count' ≡ count)
Ended left left' count count' status.InputFault = Rose count count'
Ended left left' count count' status.NoMemory = count' ≡ count
Ended left left' count count' s = ⊥

-- a run ended before its place was entered, and changed nothing beside its input
abbrev pub EndedEarly : Outside → Outside → Status → Type 0
EndedEarly before after s =
    Ended before.left after.left before.input_faults after.input_faults s × (after.effects ≡ before.effects)

-- What a status says of the outside before and after, where the words are right.
abbrev pub Says : Option (List ℕ) → Outside → Outside → Status → Type 0
Says readings before after status.Usage = ⊥
Says readings before after status.TooLarge = EndedEarly before after status.TooLarge
Says readings before after (status.BadScript line) = EndedEarly before after (status.BadScript line)
Says readings before after status.InputFault = EndedEarly before after status.InputFault
Says readings before after status.NoMemory =
    EndedEarly before after status.NoMemory ⊎ PlaysScript readings before after status.NoMemory
Says readings before after s = PlaysScript readings before after s

-- the status is this one, unless there was no memory
abbrev pub IsUnlessMemory : Status → Status → Type 0
IsUnlessMemory s wanted = (s ≡ wanted) ⊎ (s ≡ status.NoMemory)

-- the source tells these bytes, and doesn't fail
pub record Gives (before after : Outside) (bytes : List ℕ) : Type 0 where
  pub bytes_are : before.left ≡ Some bytes
  pub steady : ¬ (Rose before.input_faults after.input_faults)

-- the place tells this image of its store, and neither it nor the store fails
pub record Holds (before after : Outside) (image : Image) : Type 0 where
  pub image_is : before.effects.image ≡ Some image
  pub steady_place : ¬ (Rose before.effects.place_faults after.effects.place_faults)
  pub steady_store : ¬ (Rose before.effects.taken after.effects.taken)

-- Over a source that tells its bytes and doesn't fail, the bytes and the image of the store determine the status, but
-- for want of memory and devices that fail.
pub record Completes (before after : Outside) (s : Status) : Type 0 where
  -- a script within the limit is played on a store that stands for a state, where the sink doesn't fail either
  pub done : (bytes : List ℕ) (lines : List Line) (image : Image) (b : State)
      → Gives before after bytes → IsScript bytes lines → length bytes ≤ SCRIPT_BYTES
      → Holds before after image → Stands image b
      → ¬ (Rose before.effects.output_faults after.effects.output_faults) → IsUnlessMemory s status.Done
  -- the first place is named at which the store breaks its form
  pub strange : (bytes : List ℕ) (lines : List Line) (image : Image) (file : FileId) (at : ℕ)
      → Gives before after bytes → IsScript bytes lines → length bytes ≤ SCRIPT_BYTES
      → Holds before after image → BreaksFirst image file at → IsUnlessMemory s (status.NotThisStore file at)
  -- the first line of no form is named
  pub bad_script : (bytes : List ℕ) (line : ℕ) → Gives before after bytes → FirstOutside bytes line
      → length bytes ≤ SCRIPT_BYTES → IsUnlessMemory s (status.BadScript line)
  -- too many bytes are too large, whatever they are
  pub too_large : (bytes : List ℕ) → Gives before after bytes → SCRIPT_BYTES < length bytes
      → IsUnlessMemory s status.TooLarge

-- whether a run with this status may have written: where the place failed as it was left, it has
abbrev pub writes : Status → Bool
writes status.Done = true
writes status.OutputFault = true
writes status.StoreFault = true
writes s = false

-- whether a run with this status may have entered its place
abbrev pub enters : Status → Bool
enters status.Usage = false
enters (status.BadScript line) = false
enters status.TooLarge = false
enters status.InputFault = false
enters s = true

-- the status of bytes that are no script
abbrev pub script_status : ScriptFault → Status
script_status script_fault.NoMemory = status.NoMemory
script_status (script_fault.BadScript line) = status.BadScript line

-- the status where a source wasn't read to its end
abbrev pub read_status : ReadFault → Status
read_status read_fault.NoMemory = status.NoMemory
read_status read_fault.TooLarge = status.TooLarge
read_status read_fault.Input = status.InputFault

-- the status where a store wasn't opened
abbrev pub open_status : OpenCause → Status
open_status open_cause.StoreFault = status.StoreFault
open_status (open_cause.NotThisStore file at) = status.NotThisStore file at
open_status open_cause.NoMemory = status.NoMemory

-- the status where a place wasn't entered
abbrev pub enter_status : IoFault → Status
enter_status io_fault.Failed = status.StoreFault
enter_status io_fault.NoMemory = status.NoMemory

-- the status where the place failed as it was left, after a status
abbrev pub left_status : Status → Status
left_status status.Done = status.StoreFault
left_status s = s

-- When a report tells the run of a script, from a state on.
use Rattle.std.specs.Prelude.{◌≡◌, ℕ, ◌≤◌, ◌<◌, List, [], ◌∷◌, map, length, Option}
use Rattle.td_model.specs.declared.history.Entry.{Entry}
use Rattle.td_model.specs.declared.report.Report.{Report}
use Rattle.td_model.specs.State.{State}
use Rattle.td_told.specs.Asked.{Asked}
use Rattle.td_told.specs.Times.{Timed}
use Rattle.td_told.specs.Journal.{RunsOn, IsHistory, AreAccepted, lines_of, Rising, listed, accepted, halts_of, halts_named}
use Rattle.td_told.specs.Numbers.{Replied, number, numbers_of, NeverFalling, PhasesFollow, AreFronts}
use Rattle.td_told.specs.Replies.{EachAnswers, AreReplies}

-- The report tells the run of the script from b. `printed` are the statements of the script in the order in which their
-- replies are printed.
pub record Told (b : State) (readings : Option (List ℕ)) (script printed : List Asked) (r : Report) : Type 0 where
  -- the report begins with b's version, and the versions of the journal run on from it without gaps
  pub base : r.base ≡ b.version
  pub versions : RunsOn b.version r.journal
  -- the journal stands for one history
  pub entries : List Entry
  pub history : IsHistory (b ∷ []) script r.journal entries
  -- each statement has one reply, of a form of its own, which says what the state at its number gives; an accepted one
  -- names its own line of the journal. No cursor is open before the first.
  pub replied : List Replied
  pub replies : AreReplies printed replied r.replies
  pub answers : EachAnswers b entries r.journal [] replied
  -- each line of a session is that of an accepted statement, and the lines of a session rise with its ordinals, so that
  -- no statement has two
  pub own_lines : AreAccepted r.replies r.journal
  pub one_each : (session : ℕ) → 0 < session → Rising 0 (lines_of session r.journal)
  -- at most one reply names a halt
  pub one_halt : length (halts_named r.replies) ≤ 1
  -- along a session the numbers of the replies don't fall, and those of a phase follow those of all earlier phases
  pub numbers : (session : ℕ) → NeverFalling b.version (numbers_of session replied)
  pub phases : PhasesFollow 0 b.version b.version replied
  -- no stream lives so far
  pub streams : r.streams ≡ []
  -- where the clock told its readings, the moments of the entries are among them
  pub moments : Timed readings b.moment entries

-- It tells them in the order of the lines, in which the replies are printed: the lines of the journal that aren't halts
-- are the accepted replies in their order; a halt is one that a reply names; and each reply has the number of the front
-- that the lines before it left, which is one more where it was accepted or names a halt.
pub record ToldInOrder (b : State) (readings : Option (List ℕ)) (script : List Asked) (r : Report) : Type 0 where
  pub told : Told b readings script script r
  pub own_entries : listed r.journal ≡ accepted r.replies
  pub halts : halts_of r.journal ≡ halts_named r.replies
  pub in_order : AreFronts b.version (map number told.replied)

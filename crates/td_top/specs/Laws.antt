-- Laws of the reports that runs write.
use Rattle.std.specs.Prelude.{◌≡◌, ℕ, List, ◌++◌, Option, Some, IsSome}
use Rattle.td_model.specs.declared.report.Report.{Report}
use Rattle.td_model.specs.Printable.{IsPrintable}
use Rattle.td_script.specs.declared.lines.Line.{Line}
use Rattle.td_top.specs.Status.{Effects, Outside, Plays, Says}
use Rattle.td_top.specs.declared.status.Status.TheVariants as status

-- The report of a script that was played can be printed, where the store told its image: its numbers are in range, its
-- names are words, and the items of its headers aren't empty and have no comma.
abbrev pub PlayedReportsArePrintable : Type 0
PlayedReportsArePrintable = (readings : Option (List ℕ)) (lines : List Line) (before after : Effects) (text : List ℕ)
    (plays : Plays readings lines before after text) → IsSome before.image → IsPrintable plays.report

-- A text tells its report: two scripts that were played with one text have one report, whatever the scripts are, and
-- from whatever images and readings, where both stores told their images.
abbrev pub TextsTellReports : Type 0
TextsTellReports = (readings readings' : Option (List ℕ)) (lines lines' : List Line)
    (before after before' after' : Effects) (text : List ℕ) (plays : Plays readings lines before after text)
    (plays' : Plays readings' lines' before' after' text) → IsSome before.image → IsSome before'.image →
    plays.report ≡ plays'.report

-- ---- of whole runs

-- the report of a run that is done
abbrev pub report_of_run : (readings : Option (List ℕ)) (before after : Outside)
    → Says readings before after status.Done
    → Report
report_of_run readings before after done = done.plays.1.report

-- the sink tells what it took, and took these bytes
pub record Took (before after : Effects) (bytes : List ℕ) : Type 0 where
  pub first : List ℕ
  pub told : before.written ≡ Some first
  pub took : after.written ≡ Some (first ++ bytes)

-- The bytes that were written tell the report: two runs that are done, and whose sinks took the same bytes, have one
-- report, where both stores told their images.
abbrev pub BytesTellReports : Type 0
BytesTellReports = (readings readings' : Option (List ℕ)) (before after before' after' : Outside) (bytes : List ℕ)
    (done : Says readings before after status.Done) (done' : Says readings' before' after' status.Done) →
    IsSome before.effects.image → IsSome before'.effects.image → Took before.effects after.effects bytes →
    Took before'.effects after'.effects bytes →
    report_of_run readings before after done ≡ report_of_run readings' before' after' done'

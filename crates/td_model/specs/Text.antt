-- The text of a report.
use Rattle.std.specs.Prelude.{ℕ, List, [], ◌∷◌, ◌++◌, length, if◌then◌else◌, ◌==◌, ◌&&◌, Bool, true, false}
use Rattle.std.specs.List.{flat_map}
use Rattle.std.specs.Fmt.{decimal, signed_decimal}
use lib.Chars.{codes}
use Rattle.td_layer.specs.declared.values.Cell.{Cell}
use Rattle.td_layer.specs.declared.values.Cell.TheVariants.{Null, Truth, Num, Frac, Str}
use Rattle.td_limits.specs.declared.limits.TheConstants.{LAST_VERSION}
use Rattle.td_model.specs.declared.report.Cause.{Cause}
use Rattle.td_model.specs.declared.report.Cause.TheVariants as cause
use Rattle.td_model.specs.declared.report.Many.{Many}
use Rattle.td_model.specs.declared.report.Many.TheVariants as many
use Rattle.td_model.specs.declared.report.Reply.{Reply}
use Rattle.td_model.specs.declared.report.Reply.TheVariants as reply
use Rattle.td_model.specs.declared.report.Mark.{Mark}
use Rattle.td_model.specs.declared.report.Mark.TheVariants as mark
use Rattle.td_model.specs.declared.report.JournalLine.{JournalLine}
use Rattle.td_model.specs.declared.report.Report.{Report}

abbrev pub many_text : Many → List ℕ
many_text many.Columns = codes "columns"
many_text many.Tags = codes "tags"
many_text many.Rows = codes "rows"
many_text many.Tables = codes "tables"
many_text many.Streams = codes "streams"
many_text many.Numbers = codes "numbers"
many_text many.Cursors = codes "cursors"

abbrev pub cause_text : Cause → List ℕ
cause_text cause.TooLong = codes "TooLong"
cause_text (cause.Syntax at) = codes "Syntax " ++ decimal at
cause_text cause.NameTooLong = codes "NameTooLong"
cause_text cause.TypeNotBuilt = codes "TypeNotBuilt"
cause_text cause.OptionNotBuilt = codes "OptionNotBuilt"
cause_text (cause.Stopped version) = codes "Stopped " ++ decimal version
cause_text cause.TooManyVersions = codes "TooMany versions " ++ decimal LAST_VERSION
cause_text cause.UnknownTable = codes "UnknownTable"
cause_text cause.UnknownStable = codes "UnknownStable"
cause_text cause.UnknownStream = codes "UnknownStream"
cause_text cause.UnknownCursor = codes "UnknownCursor"
cause_text cause.TargetOfStream = codes "TargetOfStream"
cause_text cause.SourceIsTarget = codes "SourceIsTarget"
cause_text cause.NotAStable = codes "NotAStable"
cause_text cause.NotATable = codes "NotATable"
cause_text cause.NeedsTags = codes "NeedsTags"
cause_text cause.NameTaken = codes "NameTaken"
cause_text cause.NeedsTime = codes "NeedsTime"
cause_text cause.UnknownColumn = codes "UnknownColumn"
cause_text cause.Arity = codes "Arity"
cause_text (cause.TypeMismatch column) = codes "TypeMismatch " ++ column
cause_text (cause.OutOfRange column) = codes "OutOfRange " ++ column
cause_text (cause.TooMany what limit) = codes "TooMany " ++ many_text what ++ codes " " ++ decimal limit
cause_text cause.BadSelect = codes "BadSelect"
cause_text cause.BadWindow = codes "BadWindow"
cause_text cause.BadLimit = codes "BadLimit"
cause_text (cause.BeforeEdge edge) = codes "BeforeEdge " ++ decimal edge

abbrev pub truth_text : Bool → List ℕ
truth_text true = codes "true"
truth_text false = codes "false"

-- a byte of a quoted text: a quote is doubled
abbrev pub quoted_byte : ℕ → List ℕ
quoted_byte b = if b == 39 then 39 ∷ 39 ∷ [] else b ∷ []

abbrev pub cell_text : Cell → List ℕ
cell_text Null = codes "NULL"
cell_text (Truth b) = truth_text b
cell_text (Num v) = signed_decimal v
cell_text (Frac sum count) = signed_decimal sum ++ codes "/" ++ decimal count
cell_text (Str text) = codes "'" ++ flat_map quoted_byte text ++ codes "'"

-- cells, with commas between them
abbrev pub more_cell : Cell → List ℕ
more_cell c = codes "," ++ cell_text c

abbrev pub cells_text : List Cell → List ℕ
cells_text [] = []
cells_text (c ∷ cs) = cell_text c ++ flat_map more_cell cs

-- names, with commas between them
abbrev pub more_name : List ℕ → List ℕ
more_name n = codes "," ++ n

abbrev pub names_text : List (List ℕ) → List ℕ
names_text [] = []
names_text (n ∷ ns) = n ++ flat_map more_name ns

abbrev pub row_line : List Cell → List ℕ
row_line cells = cells_text cells ++ codes "\n"

abbrev pub reply_text : Reply → List ℕ
reply_text (reply.Accepted version) = codes "accepted " ++ decimal version ++ codes "\n"
reply_text (reply.AcceptedRows version rows) =
    codes "accepted " ++ decimal version ++ codes " rows " ++ decimal rows ++ codes "\n"
reply_text (reply.AcceptedEdge version edge) =
    codes "accepted " ++ decimal version ++ codes " edge " ++ decimal edge ++ codes "\n"
reply_text (reply.Answer prefix names rows) =
    codes "answer " ++ decimal prefix ++ codes " rows " ++ decimal (length rows) ++ codes "\n" ++ names_text names
    ++ codes "\n" ++ flat_map row_line rows
reply_text (reply.Opened prefix) = codes "opened " ++ decimal prefix ++ codes "\n"
reply_text reply.Closed = codes "closed\n"
reply_text (reply.Committed version) = codes "committed " ++ decimal version ++ codes "\n"
reply_text reply.Nothing = codes "nothing\n"
reply_text (reply.Stopped version) = codes "stopped " ++ decimal version ++ codes "\n"
reply_text (reply.Merged count) = codes "merged " ++ decimal count ++ codes "\n"
reply_text (reply.Swept count) = codes "swept " ++ decimal count ++ codes "\n"
reply_text reply.Asked = codes "asked\n"
reply_text (reply.Refused prefix cause) =
    codes "refused " ++ decimal prefix ++ codes " " ++ cause_text cause ++ codes "\n"
reply_text reply.StoreFault = codes "store fault\n"
reply_text (reply.StoreFaultHalt halt) = codes "store fault halt " ++ decimal halt ++ codes "\n"
reply_text (reply.Damaged file at) = codes "damaged " ++ decimal file ++ codes " " ++ decimal at ++ codes "\n"
reply_text reply.NoMemory = codes "no memory\n"

-- a reply after the session and ordinal of its statement
abbrev pub reply_line : (ℕ × ℕ × Reply) → List ℕ
reply_line r = decimal r.0 ++ codes "." ++ decimal r.1 ++ codes " " ++ reply_text r.2

-- whose entry it is: `0` for an entry of no session
abbrev pub who_text : ℕ → ℕ → List ℕ
who_text session ordinal =
    if session == 0 && ordinal == 0 then codes "0" else decimal session ++ codes "." ++ decimal ordinal

abbrev pub mark_text : Mark → List ℕ
mark_text mark.Plain = []
mark_text (mark.Step stream upto moment) =
    codes " step " ++ stream ++ codes " " ++ decimal upto ++ codes " " ++ decimal moment
mark_text mark.Halt = codes " halt"

abbrev pub journal_line : JournalLine → List ℕ
journal_line j =
    decimal j.version ++ codes " " ++ who_text j.session j.ordinal ++ codes " " ++ decimal j.moment ++ mark_text j.mark
    ++ codes "\n"

-- a live stream, and the version that it is brought up to
abbrev pub stream_line : (List ℕ × ℕ) → List ℕ
stream_line s = codes "stream " ++ s.0 ++ codes " upto " ++ decimal s.1 ++ codes "\n"

abbrev pub report_text : Report → List ℕ
report_text r =
    codes "base " ++ decimal r.base ++ codes "\n" ++ flat_map reply_line r.replies ++ flat_map stream_line r.streams
    ++ codes "journal " ++ decimal (length r.journal) ++ codes "\n" ++ flat_map journal_line r.journal

-- Reports that their texts tell: no two of them have the same text.
use Rattle.std.specs.Prelude.{◌≡◌, ℕ, ◌<◌, ◌^◌, Bool, ◌==◌, ◌&&◌, ◌||◌, not, nat_le, List, [], ◌∷◌, length, refl, FitsSigned, IsTrue}
use Rattle.std.specs.Int.{w128}
use Rattle.std.specs.List.{list_all, AllByRecursion}
use lib.Chars.{codes}
use Rattle.td_layer.specs.declared.values.Cell.{Cell}
use Rattle.td_layer.specs.declared.values.Cell.TheVariants.{Num, Frac}
use Rattle.td_model.specs.declared.report.Cause.{Cause}
use Rattle.td_model.specs.declared.report.Cause.TheVariants as cause
use Rattle.td_model.specs.declared.report.Reply.{Reply}
use Rattle.td_model.specs.declared.report.Reply.TheVariants as reply
use Rattle.td_model.specs.declared.report.Mark.{Mark}
use Rattle.td_model.specs.declared.report.Mark.TheVariants as mark
use Rattle.td_model.specs.declared.report.JournalLine.{JournalLine}
use Rattle.td_model.specs.declared.report.Report.{Report}
use Rattle.td_model.specs.Text.{report_text}

-- a letter, a digit or `_`
abbrev pub is_word_byte : ℕ → Bool
is_word_byte b =
    (nat_le 48 b && nat_le b 57) || (nat_le 65 b && nat_le b 90) || (nat_le 97 b && nat_le b 122) || b == 95

-- The name of a column or a stream has nothing but letters, digits and `_`.
abbrev pub IsWord : List ℕ → Type 0
IsWord name = IsTrue (list_all is_word_byte name)

-- no comma, and nothing below a space
abbrev pub is_item_byte : ℕ → Bool
is_item_byte b = nat_le 32 b && not (b == 44)

-- An item of a header isn't empty, and has no comma and no byte below 32.
pub record IsItem (item : List ℕ) : Type 0 where
  pub some : 0 < length item
  pub bytes : IsTrue (list_all is_item_byte item)

-- so it is with each form of an item
items : IsTrue (list_all (λ item. list_all is_item_byte item)
    (codes "voltage" ∷ codes "AVG(voltage)" ∷ codes "COUNT(*)" ∷ codes "TBNAME" ∷ codes "_wstart" ∷ []))
items = refl

-- Counts, versions, moments and places are below 2 ^ 64, as in a `u64`.
abbrev pub IsCount : ℕ → Type 0
IsCount n = n < 2 ^ 64

-- numbers of cells are those of an `i128`
abbrev pub IsPrintableCell : Cell → Type 0
IsPrintableCell (Num v) = FitsSigned w128 v
IsPrintableCell (Frac sum count) = FitsSigned w128 sum × IsCount count
IsPrintableCell _ = Unit {0}

abbrev pub IsPrintableRow : List Cell → Type 0
IsPrintableRow cells = AllByRecursion IsPrintableCell cells

abbrev pub IsPrintableCause : Cause → Type 0
IsPrintableCause (cause.Syntax at) = IsCount at
IsPrintableCause (cause.Stopped version) = IsCount version
IsPrintableCause (cause.TypeMismatch column) = IsWord column
IsPrintableCause (cause.OutOfRange column) = IsWord column
IsPrintableCause (cause.TooMany what limit) = IsCount limit
IsPrintableCause (cause.BeforeEdge edge) = IsCount edge
IsPrintableCause _ = Unit {0}

-- The rows of an answer may have any cells; there are as many rows as a `u64` counts.
pub record IsPrintableAnswer (version : ℕ) (items : List (List ℕ)) (lines : List (List Cell)) : Type 0 where
  pub prefix : IsCount version
  pub header : AllByRecursion IsItem items
  pub rows : AllByRecursion IsPrintableRow lines
  pub few : IsCount (length lines)

abbrev pub IsPrintableReply : Reply → Type 0
IsPrintableReply (reply.Accepted version) = IsCount version
IsPrintableReply (reply.AcceptedRows version rows) = IsCount version × IsCount rows
IsPrintableReply (reply.AcceptedEdge version edge) = IsCount version × IsCount edge
IsPrintableReply (reply.Answer prefix header rows) = IsPrintableAnswer prefix header rows
IsPrintableReply (reply.Opened prefix) = IsCount prefix
IsPrintableReply (reply.Committed version) = IsCount version
IsPrintableReply (reply.Stopped version) = IsCount version
IsPrintableReply (reply.Merged count) = IsCount count
IsPrintableReply (reply.Swept count) = IsCount count
IsPrintableReply (reply.Refused prefix cause) = IsCount prefix × IsPrintableCause cause
IsPrintableReply (reply.StoreFaultHalt halt) = IsCount halt
IsPrintableReply (reply.Damaged file at) = IsCount file × IsCount at
IsPrintableReply _ = Unit {0}

-- session, ordinal and reply
abbrev pub IsPrintableLine : (ℕ × ℕ × Reply) → Type 0
IsPrintableLine r = IsCount r.0 × IsCount r.1 × IsPrintableReply r.2

abbrev pub IsPrintableStream : (List ℕ × ℕ) → Type 0
IsPrintableStream s = IsWord s.0 × IsCount s.1

abbrev pub IsPrintableMark : Mark → Type 0
IsPrintableMark (mark.Step stream upto moment) = IsWord stream × IsCount upto × IsCount moment
IsPrintableMark _ = Unit {0}

pub record IsPrintableEntry (j : JournalLine) : Type 0 where
  pub version : IsCount j.version
  pub session : IsCount j.session
  pub ordinal : IsCount j.ordinal
  pub moment : IsCount j.moment
  pub mark : IsPrintableMark j.mark

-- The numbers are in range, names are words, and the items of headers are as above. Texts in cells may hold any bytes.
pub record IsPrintable (r : Report) : Type 0 where
  pub base : IsCount r.base
  pub replies : AllByRecursion IsPrintableLine r.replies
  pub streams : AllByRecursion IsPrintableStream r.streams
  pub journal : AllByRecursion IsPrintableEntry r.journal
  pub few : IsCount (length r.journal)

-- A text tells its report: reports with the same text are the same.
abbrev pub ATextTellsItsReport : Type 0
ATextTellsItsReport = (a b : Report) → IsPrintable a → IsPrintable b → report_text a ≡ report_text b → a ≡ b

-- Laws of names and numbers.
use Rattle.std.specs.Prelude.{◌≡◌, ℕ, List, [], ◌∷◌, length, Option}
use Rattle.std.specs.List.{AllByRecursion}
use Rattle.td_model.specs.declared.history.Verdict.TheVariants.{Accept}
use Rattle.td_model.specs.declared.history.What.{What}
use Rattle.td_model.specs.declared.language.Stmt.{Stmt}
use Rattle.td_model.specs.declared.report.Report.{Report}
use Rattle.td_model.specs.Printable.{IsCount, IsPrintableReply, IsPrintable}
use Rattle.td_model.specs.State.{State, step}
use Rattle.td_parse.specs.Statements.{IsAnswer}
use Rattle.td_told.specs.Asked.{Asked}
use Rattle.td_told.specs.Told.{Told}
use Rattle.td_told.specs.Turn.{End, Judged, entry_at, reply_of, state_then}
use Rattle.td_told.specs.Verdict.{verdict, answer}
use Rattle.td_verdict.specs.Sound.{IsSound}
use Rattle.td_printed.specs.Names.{HasWords, AreWords, IsCounted, IsPrintableState, HasCounts}
use Rattle.td_printed.specs.Heads.{HasShortNames, FitsHead}

-- Each name in what is answered of a text is a word.
abbrev pub NamesOfATextAreWords : Type 0
NamesOfATextAreWords = (text : List ℕ) (answer : Stmt) → IsAnswer text answer → HasWords answer

-- A statement with words, accepted in a state whose catalog has words, gives an entry that keeps the catalog so.
abbrev pub EntriesKeepWords : Type 0
EntriesKeepWords = (q : Stmt) (s : State) (cursors : List (List ℕ)) (session ordinal moment : ℕ) →
    (w : What) (rows : ℕ) → HasWords q → AreWords s.catalog → verdict q s cursors moment ≡ Accept w rows →
    AreWords (step (s ∷ []) (entry_at session ordinal moment w)).catalog

-- However its turn ends, the catalog has words afterwards.
abbrev pub TurnsKeepWords : Type 0
TurnsKeepWords = (q : Stmt) (s : State) (end : End) (session ordinal moment : ℕ) → HasWords q → AreWords s.catalog →
    Judged end (verdict q s [] moment) → AreWords (state_then end s session ordinal moment).catalog

-- The reply to a statement with words, in a sound state whose catalog has words, can be printed, however its turn ends:
-- where the numbers of the state and the moment are below 2^64, and so is the count of an answer's rows.
abbrev pub RepliesArePrintable : Type 0
RepliesArePrintable = (q : Stmt) (s : State) (end : End) (moment : ℕ) → HasWords q → AreWords s.catalog → IsSound s →
    IsCounted s → IsCount moment → IsCount (length (answer q s)) → Judged end (verdict q s [] moment) →
    IsPrintableReply (reply_of q end s)

-- The numbers of a state stay below 2^64, however a turn ends at a moment below that.
abbrev pub StatesStayCounted : Type 0
StatesStayCounted = (q : Stmt) (s : State) (end : End) (session ordinal moment : ℕ) → IsCounted s → IsCount moment →
    Judged end (verdict q s [] moment) → IsCounted (state_then end s session ordinal moment)

-- The state that the statement of a text makes of one whose replies can be printed is such a state too, where it is
-- accepted at a moment below 2^64.
abbrev pub StatesStayPrintable : Type 0
StatesStayPrintable = (text : List ℕ) (q : Stmt) (s : State) (session ordinal moment : ℕ) (w : What) (rows : ℕ) →
    IsAnswer text q → IsPrintableState s → IsCount moment → verdict q s [] moment ≡ Accept w rows →
    IsPrintableState (step (s ∷ []) (entry_at session ordinal moment w))

-- A report that tells the run of a script from b on can be printed, where each statement has words, b is sound and its
-- catalog has words, and the numbers of b and of the report are below 2^64.
abbrev pub ToldReportsArePrintable : Type 0
ToldReportsArePrintable = (b : State) (readings : Option (List ℕ)) (script printed : List Asked) (r : Report) →
    Told b readings script printed r → AllByRecursion (λ (a : Asked). HasWords a.stmt) script →
    AllByRecursion (λ (a : Asked). HasWords a.stmt) printed → IsSound b → AreWords b.catalog → IsCounted b →
    HasCounts r → IsPrintable r

-- What is answered of a text gives what it makes short names, a supertable one tag or more where it says tags, and a
-- subtable no text with a byte below 32.
abbrev pub TextsFitHeads : Type 0
TextsFitHeads = (text : List ℕ) (answer : Stmt) → IsAnswer text answer → HasShortNames answer

-- The statement of a text, accepted in a state whose catalog has names and texts as a head asks, gives an entry that
-- keeps the catalog so.
abbrev pub EntriesFitHeads : Type 0
EntriesFitHeads = (text : List ℕ) (q : Stmt) (s : State) (session ordinal moment : ℕ) (w : What) (rows : ℕ) →
    IsAnswer text q → verdict q s [] moment ≡ Accept w rows → FitsHead s.catalog →
    FitsHead (step (s ∷ []) (entry_at session ordinal moment w)).catalog

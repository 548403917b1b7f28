-- Which bytes are a script, stated on whole texts.
use Rattle.std.specs.Prelude.{◌≡◌, ◌≢◌, ℕ, ◌+◌, ◌/◌, ◌%◌, ◌≤◌, Bool, true, false, ◌||◌, ◌==◌, nat_lt, if◌then◌else◌, List, [], ◌∷◌, ◌++◌, length, count_by}
use Rattle.std.specs.List.{list_all, AllByRecursion}
use Rattle.std.specs.Str.{IsUtf8}
use lib.Chars.{codes}
use Rattle.td_script.specs.declared.lines.Line.{Line}
use Rattle.td_script.specs.declared.lines.ScriptFault.{ScriptFault}
use Rattle.td_script.specs.declared.lines.ScriptFault.TheVariants.{BadScript, NoMemory}

-- ---- one line, without its line feed

-- a line without a carriage return at its end; of several the last is dropped
abbrev pub without_return : List ℕ → List ℕ
without_return [] = []
without_return (b ∷ []) = if b == 13 then [] else b ∷ []
without_return (b ∷ c ∷ bs) = b ∷ without_return (c ∷ bs)

-- a space or a tab
abbrev pub is_blank : ℕ → Bool
is_blank b = (b == 32) || (b == 9)

-- blanks alone, or nothing
abbrev pub AreBlanks : List ℕ → Type 0
AreBlanks bytes = list_all is_blank bytes ≡ true

-- no blank stands first
abbrev pub BeginsWithNoBlank : List ℕ → Type 0
BeginsWithNoBlank [] = Unit {0}
BeginsWithNoBlank (b ∷ bs) = is_blank b ≡ false

-- the decimal digits of a number below 100, without a leading zero
abbrev pub digits : ℕ → List ℕ
digits n = if nat_lt n 10 then (48 + n) ∷ [] else (48 + n / 10) ∷ (48 + n % 10) ∷ []

-- what a line is; a statement by its session and its text
pub data LineKind : Type 0 where
  Empty : LineKind
  Comment : LineKind
  Phase : LineKind
  Statement : ℕ → List ℕ → LineKind

-- The forms of a line: nothing or blanks; `#` and anything; `----`; a session from 1 to 64, a colon, blanks and a text.
pub data IsForm : List ℕ → LineKind → Type 0 where
  empty_line : (blanks : List ℕ) → AreBlanks blanks → IsForm blanks Empty
  comment_line : (rest : List ℕ) → IsForm (35 ∷ rest) Comment
  phase_line : IsForm (codes "----") Phase
  statement_line : (session : ℕ) (blanks text : List ℕ) → 1 ≤ session → session ≤ 64 → AreBlanks blanks
      → BeginsWithNoBlank text → IsForm (digits session ++ 58 ∷ (blanks ++ text)) (Statement session text)

-- A line of a kind: it is UTF-8, and without a carriage return at its end it has the kind's form.
pub record IsLine (line : List ℕ) (kind : LineKind) : Type 0 where
  pub utf8 : IsUtf8 line
  pub form : IsForm (without_return line) kind

-- a line of some kind
abbrev pub IsSomeLine : List ℕ → Type 0
IsSomeLine line = (kind : LineKind) × IsLine line kind

-- ---- the lines of bytes

-- no line feed
abbrev pub HasNoFeed : List ℕ → Type 0
HasNoFeed line = AllByRecursion (λ b. b ≢ 10) line

-- Bytes cut into lines. Each is ended by a line feed; the last may lack it, and then it isn't empty.
pub data AreCut : List ℕ → List (List ℕ) → Type 0 where
  none : AreCut [] []
  last : (line : List ℕ) → line ≢ [] → HasNoFeed line → AreCut line (line ∷ [])
  more : (line rest : List ℕ) (lines : List (List ℕ)) → HasNoFeed line → AreCut rest lines → AreCut
      (line ++ 10 ∷ rest) (line ∷ lines)

-- these lines are of these kinds, one by one
abbrev pub AreOfKinds : List (List ℕ) → List LineKind → Type 0
AreOfKinds [] [] = Unit {0}
AreOfKinds [] (kind ∷ kinds) = ⊥
AreOfKinds (line ∷ lines) [] = ⊥
AreOfKinds (line ∷ lines) (kind ∷ kinds) = IsLine line kind × AreOfKinds lines kinds

-- the kinds of the lines of bytes
abbrev pub AreLines : List ℕ → List LineKind → Type 0
AreLines bytes kinds = (lines : List (List ℕ)) × AreCut bytes lines × AreOfKinds lines kinds

-- ---- scripts

-- how many of the statements so far are of a session
abbrev pub count_of : ℕ → List ℕ → ℕ
count_of session sessions = count_by (λ s. s == session) sessions

-- The statement lines of lines of these kinds, in a phase, after statements of these sessions, the latest first. A
-- phase line begins the next phase. A statement's ordinal counts the statements of its session from 1, over all
-- phases.
abbrev pub lines_from : ℕ → List ℕ → List LineKind → List Line
lines_from phase sessions [] = []
lines_from phase sessions (Empty ∷ kinds) = lines_from phase sessions kinds
lines_from phase sessions (Comment ∷ kinds) = lines_from phase sessions kinds
lines_from phase sessions (Phase ∷ kinds) = lines_from (phase + 1) sessions kinds
lines_from phase sessions (Statement session text ∷ kinds) =
    record {
      phase = phase;
      session = session;
      ordinal = count_of session sessions + 1;
      text = text;
    } ∷ lines_from phase (session ∷ sessions) kinds

-- the bytes are a script with these statement lines
abbrev pub IsScript : List ℕ → List Line → Type 0
IsScript bytes lines = (kinds : List LineKind) × AreLines bytes kinds × (lines ≡ lines_from 1 [] kinds)

-- Line n, from 1, is the first of no form.
pub record FirstOutside (bytes : List ℕ) (n : ℕ) : Type 0 where
  pub before : List (List ℕ)
  pub line : List ℕ
  pub after : List (List ℕ)
  pub cut : AreCut bytes (before ++ line ∷ after)
  pub formed : AllByRecursion IsSomeLine before
  pub formless : ¬ (IsSomeLine line)
  pub number : n ≡ length before + 1

-- what a fault says of the bytes; want of memory says nothing
abbrev pub FaultIs : List ℕ → ScriptFault → Type 0
FaultIs bytes (BadScript n) = FirstOutside bytes n
FaultIs bytes NoMemory = Unit {0}

-- Each line's session is one of 1 to 64, and its ordinal counts the lines of its session, from 1, after lines that
-- stand before all of these.
abbrev pub Numbered : List Line → List Line → Type 0
Numbered before [] = Unit {0}
Numbered before (l ∷ ls) = (1 ≤ l.session) × (l.session ≤ 64) ×
    (l.ordinal ≡ count_by (λ m. m.session == l.session) before + 1) × Numbered (before ++ l ∷ []) ls

-- Reading from left to right: the line in front, what a line is, and what a line adds.
use Rattle.std.specs.Prelude.{◌≡◌, ℕ, ◌+◌, ◌-◌, ◌*◌, ◌≤◌, Bool, false, ◌&&◌, ◌==◌, nat_le, if◌then◌else◌, List, [], ◌∷◌, ◌++◌, length, slice_index, slice_set, EachIndex, Option, Some, None}
use Rattle.std.specs.List.{list_all}
use Rattle.std.specs.Option.{option_and_then}
use Rattle.std.specs.Str.{is_utf8, bytes_eq}
use lib.Chars.{codes}
use Rattle.td_script.specs.declared.forms.Kind.{Kind}
use Rattle.td_script.specs.declared.forms.Kind.TheVariants as kind
use Rattle.td_script.specs.declared.numbering.Numbering.{Numbering}
use Rattle.td_script.specs.Script.{is_blank, without_return, LineKind, Empty, Comment, Phase, Statement}

infixl 10 ◌>>=◌
abbrev pub ◌>>=◌ : {A B : Type 0} → Option A → (A → Option B) → Option B
o >>= f = option_and_then f o

-- what a program's kind of a line means
abbrev pub shown : Kind → LineKind
shown kind.Empty = Empty
shown kind.Comment = Comment
shown kind.Phase = Phase
shown (kind.Statement session text) = Statement session text.now

abbrev pub after_first : ℕ → Option (List ℕ × List ℕ) → Option (List ℕ × List ℕ)
after_first x None = None
after_first x (Some p) = Some (x ∷ p.0, p.1)

-- what stands before the first such byte, and what after it
abbrev pub parted_at : ℕ → List ℕ → Option (List ℕ × List ℕ)
parted_at b [] = None
parted_at b (x ∷ xs) = if x == b then Some ([], xs) else after_first x (parted_at b xs)

-- the parts, or all and nothing
abbrev pub parts_or : List ℕ → Option (List ℕ × List ℕ) → List ℕ × List ℕ
parts_or bytes None = (bytes, [])
parts_or bytes (Some p) = p

-- the line in front without its line feed, and what follows it
unfoldable pub front_of : List ℕ → List ℕ × List ℕ
front_of bytes = parts_or bytes (parted_at 10 bytes)

-- what follows the blanks in front
abbrev pub without_blanks : List ℕ → List ℕ
without_blanks [] = []
without_blanks (b ∷ bs) = if is_blank b then without_blanks bs else b ∷ bs

abbrev pub is_digit : ℕ → Bool
is_digit b = nat_le 48 b && nat_le b 57

-- the session that digits spell
abbrev pub session_of : List ℕ → Option ℕ
session_of [] = None
session_of (a ∷ []) = if is_digit a && nat_le 49 a then Some (a - 48) else None
session_of (a ∷ b ∷ []) = if is_digit a && nat_le 49 a && is_digit b && nat_le ((a - 48) * 10 + (b - 48)) 64 then Some
    ((a - 48) * 10 + (b - 48)) else None
session_of (a ∷ b ∷ c ∷ rest) = None

unfoldable pub statement_of : List ℕ → Option LineKind
statement_of line = do
  parts ← parted_at 58 line
  session ← session_of parts.0
  Some (Statement session (without_blanks parts.1))

abbrev pub is_comment : List ℕ → Bool
is_comment [] = false
is_comment (b ∷ bs) = b == 35

unfoldable pub form_of : List ℕ → Option LineKind
form_of line = if list_all is_blank line then Some Empty else
    (if is_comment line then Some Comment else
    (if bytes_eq line (codes "----") then Some Phase else statement_of line))

unfoldable pub kind_of : List ℕ → Option LineKind
kind_of line = if is_utf8 line then form_of (without_return line) else None

-- what a line of this kind adds: nothing, a phase, or a statement line with its session's next ordinal
abbrev pub step : Numbering → LineKind → Numbering
step n Empty = n
step n Comment = n
step n Phase = record { phase = n.phase + 1; counts = n.counts; lines = n.lines }
step n (Statement session text) = record {
  phase = n.phase;
  counts = slice_set n.counts (session - 1) (slice_index n.counts (session - 1) + 1);
  lines = n.lines ++ record {
    phase = n.phase;
    session = session;
    ordinal = slice_index n.counts (session - 1) + 1;
    text = text;
  } ∷ [];
}

-- there are 64 counts, each 0
abbrev pub AreNone : List ℕ → Type 0
AreNone counts = (length counts ≡ 64) × EachIndex counts (λ i. slice_index counts i ≡ 0)

-- a session's number names a count
abbrev pub HasCount : LineKind → Type 0
HasCount (Statement session text) = (1 ≤ session) × (session ≤ 64)
HasCount k = Unit {0}

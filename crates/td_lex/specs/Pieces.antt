-- The pieces of a text in quotes.
use Rattle.std.specs.Prelude.{ℕ, ◌<◌, List, [], length, Option, Some, None}
use Rattle.td_lex.specs.declared.scan.Piece.{Piece}
use Rattle.td_lex.specs.declared.scan.Piece.TheVariants.{Byte, Close, Neither}
use Rattle.td_lex.specs.Lexing.{and_byte, content_of}

-- the content that begins with this piece
abbrev pub content_by : ℕ → Piece → Option (List ℕ × List ℕ)
content_by quote (Byte b after) = and_byte b (content_of quote after.now)
content_by quote (Close after) = Some ([], after.now)
content_by quote Neither = None

-- less text follows a byte
abbrev pub IsShorter : List ℕ → Piece → Type 0
IsShorter text (Byte b after) = length after.now < length text
IsShorter text (Close after) = Unit {0}
IsShorter text Neither = Unit {0}

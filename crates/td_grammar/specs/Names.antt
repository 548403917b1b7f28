-- Which words may be names.
use Rattle.std.specs.Prelude.{ℕ, Bool, false, ◌&&◌, ◌==◌, nat_le, if◌then◌else◌, List, [], ◌∷◌}
use Rattle.std.specs.Char.{to_ascii_lowercase}
use Rattle.std.specs.List.{list_all}
use lib.Chars.{codes}
use Rattle.td_lex.specs.Tokens.{is_word_start, is_word_byte}
use Rattle.td_grammar.specs.declared.kinds.TheConstants.{NAMES}
use Rattle.td_grammar.specs.Kinds.{kind_of_word}

-- a byte of a word that is folded to lower case
abbrev pub is_folded : ℕ → Bool
is_folded b = is_word_byte b && (to_ascii_lowercase b == b)

abbrev pub begins_word : List ℕ → Bool
begins_word [] = false
begins_word (b ∷ bs) = is_word_start b

-- a word that is folded to lower case
abbrev pub is_word : List ℕ → Bool
is_word text = begins_word text && list_all is_folded text

-- a word that is neither reserved nor one that is not built
abbrev pub is_name : List ℕ → Bool
is_name text = is_word text && (nat_le NAMES.low (kind_of_word text) && nat_le (kind_of_word text) NAMES.high)

-- The name that these bytes are. Each token that stands at a name has one; of all other bytes it is `x`.
abbrev pub as_name : List ℕ → List ℕ
as_name text = if is_name text then text else codes "x"

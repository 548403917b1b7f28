-- Words of the laws of tokens.
use Rattle.std.specs.Prelude.{◌≡◌, ◌⊎◌, ℕ, Option, Some, None, ◌+◌, ◌<◌, ◌≤◌, List, [], ◌∷◌, ◌++◌, length, map, slice_range}
use Rattle.td_lex.specs.declared.kinds.Token.{Token}
use Rattle.td_lex.specs.declared.kinds.Spanned.{Spanned}
use Rattle.td_lex.specs.declared.kinds.LexFault.{LexFault}
use Rattle.td_lex.specs.declared.kinds.LexFault.TheVariants.{BadToken, TooWide, NoMemory}
use Rattle.td_lex.specs.Tokens.{IsToken, Reads, IsTokens, NoToken, WideFirst}

-- From a place on the spans are in order and within the text, and each is the text of its token.
abbrev pub AreSpans : List ℕ → ℕ → List Spanned → Type 0
AreSpans text from [] = Unit {0}
AreSpans text from (t ∷ ts) = (from ≤ t.at) × (t.at < t.end) × (t.end ≤ length text) × IsToken
    (slice_range text t.at t.end) t.token × AreSpans text t.end ts

-- one token, of a text of this length
abbrev pub alone : Token → ℕ → List Spanned
alone token n = record { token = token; at = 0; end = n } ∷ []

-- the tokens of a text that stands that many bytes further on
abbrev pub moved_token : ℕ → Spanned → Spanned
moved_token n t = record { token = t.token; at = n + t.at; end = n + t.end }

abbrev pub moved : ℕ → List Spanned → List Spanned
moved n ts = map (moved_token n) ts

-- the first tokens are a front of the others
abbrev pub IsFront : List Spanned → List Spanned → Type 0
IsFront ts us = (back : List Spanned) × (us ≡ ts ++ back)

-- Reading goes no further: the text ends, or what stands there is no token, or too wide a one.
abbrev pub Stops : List ℕ → Type 0
Stops text = (text ≡ []) ⊎ (NoToken text ⊎ WideFirst text)

-- The text is these tokens and then, from a place on, what fails in this way.
abbrev pub StopsAt : (List ℕ → Type 0) → List ℕ → List Spanned → ℕ → Type 0
StopsAt F text ts at = (rest : List ℕ) × Reads 0 text ts rest × (at + length rest ≡ length text) × F rest

-- what is read of a text: its tokens, or those before its first fault with that
abbrev pub Lexes : List ℕ → List Spanned → Option LexFault → Type 0
Lexes text ts None = IsTokens text ts
Lexes text ts (Some (BadToken at)) = StopsAt NoToken text ts at
Lexes text ts (Some (TooWide at)) = StopsAt WideFirst text ts at
Lexes text ts (Some NoMemory) = ⊥

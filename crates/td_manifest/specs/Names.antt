-- Names in a head: words folded to lower case that are neither reserved nor words that are not built.
use Rattle.std.specs.Prelude.{ℕ, Bool, not, ◌&&◌, nat_le, List, length}
use Rattle.std.specs.List.{list_any}
use Rattle.std.specs.Str.{bytes_eq}
use Rattle.td_limits.specs.declared.limits.TheConstants.{NAME_BYTES}
use Rattle.td_grammar.specs.Names.{is_name}
use Rattle.td_codec.specs.Fields.{Field, checked}
use Rattle.td_codec.specs.Values.{text}

-- a name that isn't too long
abbrev pub is_short_name : List ℕ → Bool
is_short_name name = nat_le (length name) NAME_BYTES && is_name name

-- whether a name is one of these
abbrev pub is_among : List ℕ → List (List ℕ) → Bool
is_among name names = list_any (λ other. bytes_eq name other) names

-- a name that isn't taken
unfoldable pub new_name : (List ℕ → Bool) → Field (List ℕ)
new_name is_taken = checked (text is_short_name) (λ name. not (is_taken name))

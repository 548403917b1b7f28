use Rattle.std.proofs.Common.{◌≡◌, ◌++◌, length}
use Rattle.std.specs.Option.{option_map}
use Rattle.td_lex.specs.Lexing.{content_of}
use Rattle.td_lex.proofs.scan.quoted.Given as goal

-- the content so far, and the content of the rest, are the content of all
abbrev pub invariant-pieces : goal.invariant-pieces
invariant-pieces l = option_map (λ p. (l.content.items ++ p.0, p.1)) (content_of l.quote l.rest) ≡ content_of l.quote l.inner

abbrev pub decreases-pieces : goal.decreases-pieces
decreases-pieces l = length l.rest

-- What a function of the parser returns.
use Rattle.std.specs.Prelude.{◌≡◌, ℕ, List, Result, Ok, Err}
use Rattle.td_grammar.specs.declared.fault.Fault.{Fault}
use Rattle.td_grammar.specs.declared.lexemes.Lexeme.{Lexeme}
use Rattle.td_grammar.specs.Grammar.{FailsAt}
use Rattle.td_grammar.specs.declared.fault.Fault.TheVariants.{NoMemory, At}

abbrev pub Fails : {B : Type 0} → Fault → Result B ℕ → Type 0
Fails NoMemory read = Unit {0}
Fails (At n) read = read ≡ Err n

-- seen by view it is what reading gives, unless memory ran out
abbrev pub Gives : {X B : Type 0} → (X → B) → Result X Fault → Result B ℕ → Type 0
Gives view (Ok x) read = read ≡ Ok (view x)
Gives view (Err e) read = Fails e read

-- what it returns stands as this says, unless memory ran out
abbrev pub Parses : {A : Type 0} → (List Lexeme → A → Type 0) → List Lexeme → Result A Fault → Type 0
Parses D ts (Ok a) = D ts a
Parses D ts (Err NoMemory) = Unit {0}
Parses D ts (Err (At left)) = FailsAt D ts left

-- The lines of a script, and what they ask.
use Rattle.std.specs.Prelude.{◌≡◌, ℕ, List, [], ◌∷◌, Option}
use Rattle.td_script.specs.declared.lines.Line.{Line}
use Rattle.td_parse.specs.Statements.{IsAnswer}
use Rattle.td_model.specs.declared.report.Report.{Report}
use Rattle.td_model.specs.State.{State}
use Rattle.td_told.specs.Asked.{Asked}
use Rattle.td_told.specs.Told.{ToldInOrder}

-- a line's phase, session and ordinal, and its text's tree, or the cause that it is none
pub record Asks (l : Line) (a : Asked) : Type 0 where
  pub phase : a.phase ≡ l.phase
  pub session : a.session ≡ l.session
  pub ordinal : a.ordinal ≡ l.ordinal
  pub stmt : IsAnswer l.text a.stmt

-- these statements are those of these lines, one by one
abbrev pub AsksAll : List Line → List Asked → Type 0
AsksAll [] [] = Unit {0}
AsksAll (l ∷ ls) (a ∷ script) = Asks l a × AsksAll ls script
AsksAll [] (a ∷ script) = ⊥
AsksAll (l ∷ ls) [] = ⊥

-- The report tells, in the order of the lines, the run of the statements that these lines ask for, from the state b on.
pub record TellsLines (b : State) (readings : Option (List ℕ)) (lines : List Line) (r : Report) : Type 0 where
  pub script : List Asked
  pub asks : AsksAll lines script
  pub told : ToldInOrder b readings script r

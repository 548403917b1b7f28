-- How much of the rows in their order the part of an answer needs.
use Rattle.std.specs.Prelude.{◌≡◌, ℕ, ◌+◌, ◌≤◌, min, ℤ, true, false, if◌then◌else◌, List, [], ◌∷◌, map, Option, Some, None}
use Rattle.td_layer.specs.declared.values.Cell.{Cell}
use Rattle.td_layer.specs.declared.values.Key.{Key}
use Rattle.td_model.specs.declared.catalog.Column.{Column}
use Rattle.td_model.specs.declared.language.Query.{Query}
use Rattle.td_verdict.specs.declared.comparison.Comparison.{Comparison}
use Rattle.td_verdict.specs.Answers.{Found, count_from, is_desc}
use Rattle.td_verdict.specs.Fields.{all_hold}
use Rattle.td_answer.specs.declared.cells.Line.{Line}
use Rattle.td_answer.specs.Lines.{line_cells}

-- LIMIT leaves no more
abbrev pub within_limit : Option ℤ → ℕ → ℕ
within_limit None n = n
within_limit (Some most) n = min (count_from most) n

-- the part lies among so many rows: those that OFFSET leaves out, and of the rest those up to the end of the part
abbrev pub rows_wanted : Query → ℕ → ℕ → ℕ
rows_wanted q skip count = count_from q.skip + within_limit q.limit (skip + count)

-- so many rows, of as many as there are, are enough: in rising order those that hold the part, in falling order all
pub record IsEnough (q : Query) (all skip count n : ℕ) : Type 0 where
  pub falling : is_desc q.order ≡ true → all ≤ n
  pub rising : is_desc q.order ≡ false → min (rows_wanted q skip count) all ≤ n

-- the cells of rows that are lent, and of rows that are found
abbrev pub cells_of_lines : List Column → List Line → List (List Cell)
cells_of_lines columns lines = map (λ (l : Line). line_cells columns l) lines

abbrev pub cells_found : Found → List (List Cell)
cells_found found = map (λ (e : Key × List Cell). e.1) found

-- a row's cells, if all comparisons are true of it
abbrev pub if_held : List Comparison → List Cell → List (List Cell)
if_held ps cells = if all_hold ps cells then cells ∷ [] else []

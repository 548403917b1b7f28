-- What is shown of rows in their order, by their cells alone and beside their keys.
use Rattle.std.proofs.Common.{◌≡◌, ℕ, ℤ, Bool, true, false, cond, List, [], ◌∷◌, ◌++◌, map, reverse, drop, take, Option, Some, None, length, ◌<◌, ◌≤◌, ◌^◌, arith, length-drop, refl, sym, ap, ◌∙◌}
use Rattle.std.proofs.lemmas.List.{map-append, reverse-append, drop-map, take-map, length-map, length-reverse, length-take, take_all}
use Rattle.td_layer.specs.declared.values.Key.{Key}
use Rattle.td_layer.specs.declared.values.Cell.{Cell}
use Rattle.td_model.specs.declared.language.OrderBy.{OrderBy}
use Rattle.td_model.specs.declared.language.OrderBy.TheVariants as order
use Rattle.td_model.specs.declared.language.Query.{Query}
use Rattle.td_verdict.specs.Answers.{Found, is_desc, ordered, count_from, limited, cut, shown, answer_of}
use Rattle.td_model.specs.declared.catalog.Column.{Column}
use Rattle.td_answer.specs.declared.cells.Line.{Line}
use Rattle.td_answer.specs.declared.picks.TimeKey.{TimeKey}
use Rattle.td_answer.specs.Lines.{line_cells, lines_shown}
use Rattle.td_answer.specs.Firsts.{IsEnough, cells_of_lines, cells_found}
use Rattle.td_answer.specs.Picks.{key_of, keyed}
use Rattle.td_answer.proofs.Parts.{part_among}

pub map-map : {X Y Z : Type 0} (f : Y → Z) (g : X → Y) (xs : List X) → map f (map g xs) ≡ map (λ x. f (g x)) xs
map-map f g [] = refl
map-map f g (x ∷ xs) = ap (λ ys. f (g x) ∷ ys) (map-map f g xs)

module _ {X Y : Type 0} (f : X → Y) where
  reverse-map : (xs : List X) → reverse (map f xs) ≡ map f (reverse xs)
  reverse-map [] = refl
  reverse-map (x ∷ xs) =
      reverse-append (f x ∷ []) (map f xs)
      ∙ ap (λ ys. ys ++ f x ∷ []) (reverse-map xs)
      ∙ sym (map-append f (reverse xs) (x ∷ []))
      ∙ ap (map f) (sym (reverse-append (x ∷ []) xs))

  pub ordered-map : (o : OrderBy) (xs : List X) → ordered o (map f xs) ≡ map f (ordered o xs)
  ordered-map order.Plain xs = refl
  ordered-map (order.Asc name) xs = refl
  ordered-map (order.Desc name) xs = reverse-map xs

  limited-map : (limit : Option ℤ) (xs : List X) → limited limit (map f xs) ≡ map f (limited limit xs)
  limited-map None xs = refl
  limited-map (Some n) xs = take-map f (count_from n) xs

  cut-map : (q : Query) (xs : List X) → cut q (map f xs) ≡ map f (cut q xs)
  cut-map q xs = ap (limited q.limit) (drop-map f (count_from q.skip) xs) ∙ limited-map q.limit (drop (count_from q.skip) xs)

lines_keyed : (columns : List Column) (es : List (TimeKey × Line)) → map (λ (l : Line). line_cells columns l) (map (λ (e : TimeKey × Line). e.1) es) ≡ map (λ (e : Key × List Cell). e.1) (keyed columns es)
lines_keyed columns [] = refl
lines_keyed columns (e ∷ es) = ap (λ xs. line_cells columns e.1 ∷ xs) (lines_keyed columns es)

-- what is shown of the part of the lines that OFFSET, LIMIT, skip and take leave
module _ (q : Query) (columns : List Column) (places : List ℕ) (skip count : ℕ) where
  read : Line → List Cell
  read l = line_cells columns l

  abbrev cells : Key × List Cell → List Cell
  cells e = e.1

  part-map : {X Y : Type 0} (f : X → Y) (xs : List X) → take count (drop skip (map f xs)) ≡ map f (take count (drop skip xs))
  part-map f xs = ap (take count) (drop-map f skip xs) ∙ take-map f count (drop skip xs)

  cut_lines : (es : List (TimeKey × Line)) → map read (cut q (ordered q.order (map (λ (e : TimeKey × Line). e.1) es))) ≡ map cells (cut q (ordered q.order (keyed columns es)))
  unfolding read
  cut_lines es =
      let lines : List Line = map (λ (e : TimeKey × Line). e.1) es in
      sym (cut-map (λ (l : Line). line_cells columns l) q (ordered q.order lines))
      ∙ ap (cut q) (sym (ordered-map (λ (l : Line). line_cells columns l) q.order lines) ∙ ap (ordered q.order) (lines_keyed columns es) ∙ ordered-map cells q.order (keyed columns es))
      ∙ cut-map cells q (ordered q.order (keyed columns es))

  -- the part of rows picked of several tables
  pub part_keyed : (es : List (TimeKey × Line)) → cells_of_lines columns (take count (drop skip (cut q (ordered q.order (map (λ (e : TimeKey × Line). e.1) es))))) ≡ cells_found (take count (drop skip (cut q (ordered q.order (keyed columns es)))))
  unfolding read
  part_keyed es =
      sym (part-map (λ (l : Line). line_cells columns l) (cut q (ordered q.order (map (λ (e : TimeKey × Line). e.1) es))))
      ∙ ap (λ ys. take count (drop skip ys)) (cut_lines es)
      ∙ part-map cells (cut q (ordered q.order (keyed columns es)))

  -- the part of rows of one table, of which no more were read than it needs
  enough_by : (most all : ℕ) (rows : List (List Cell)) (desc : Bool) → is_desc q.order ≡ desc → length rows ≤ all → IsEnough q all skip count most
      → take count (drop skip (cut q (cond desc (reverse (take most rows)) (take most rows)))) ≡ take count (drop skip (cut q (cond desc (reverse rows) rows)))
  enough_by most all rows true is few enough = let whole = enough.falling is in ap (λ ys. take count (drop skip (cut q (reverse ys)))) (take_all most rows (omega (arith, few, whole)))
  enough_by most all rows false is few enough = let risen = enough.rising is in part_among q skip count most rows (omega (arith, few, risen))

  pub part_of_table : (lines : List Line) (most all : ℕ) (found : Found) → cells_of_lines columns lines ≡ ordered q.order (take most (cells_found found)) → length found ≤ all → IsEnough q all skip count most
      → cells_of_lines columns (take count (drop skip (cut q lines))) ≡ cells_found (take count (drop skip (cut q (ordered q.order found))))
  part_of_table lines most all found are few enough =
      let long : length (cells_found found) ≡ length found = length-map found cells in
      sym (ap (λ ys. take count (drop skip ys)) (cut-map (λ (l : Line). line_cells columns l) q lines) ∙ part-map (λ (l : Line). line_cells columns l) (cut q lines))
      ∙ ap (λ ys. take count (drop skip (cut q ys))) are
      ∙ enough_by most all (cells_found found) (is_desc q.order) refl (omega (arith, long, few)) enough
      ∙ ap (λ ys. take count (drop skip (cut q ys))) (ordered-map cells q.order found)
      ∙ ap (λ ys. take count (drop skip ys)) (cut-map cells q (ordered q.order found))
      ∙ part-map cells (cut q (ordered q.order found))

  -- what is shown of rows that have the cells of the part
  pub shown_lines : (lines : List Line) (found : Found) → cells_of_lines columns (take count (drop skip (cut q lines))) ≡ cells_found (take count (drop skip (cut q (ordered q.order found))))
      → lines_shown columns places (take count (drop skip (cut q lines))) ≡ take count (drop skip (answer_of q places found))
  shown_lines lines found same =
      sym (map-map (shown places) (λ (l : Line). line_cells columns l) (take count (drop skip (cut q lines))))
      ∙ ap (map (shown places)) same
      ∙ map-map (shown places) cells (take count (drop skip (cut q (ordered q.order found))))
      ∙ sym (part-map (λ (e : Key × List Cell). shown places e.1) (cut q (ordered q.order found)))

-- ---- how many rows an answer has
length-ordered : {X : Type 0} (o : OrderBy) (xs : List X) → length (ordered o xs) ≡ length xs
length-ordered order.Plain xs = refl
length-ordered (order.Asc name) xs = refl
length-ordered (order.Desc name) xs = length-reverse xs

few_limited : {X : Type 0} (limit : Option ℤ) (xs : List X) → length (limited limit xs) ≤ length xs
few_limited None xs = omega arith
few_limited (Some n) xs = let long = length-take (count_from n) xs in omega arith

pub few_picked : (q : Query) (columns : List Column) (es : List (TimeKey × Line)) (lines : List Line) → lines ≡ ordered q.order (map (λ (e : TimeKey × Line). e.1) es) → length lines < 2 ^ 63 → length (keyed columns es) < 2 ^ 63
few_picked q columns es lines are small =
    let keys : length (keyed columns es) ≡ length es = length-map es (λ (e : TimeKey × Line). (key_of e.0, line_cells columns e.1)) in
    let all : length lines ≡ length es = ap length are ∙ length-ordered q.order (map (λ (e : TimeKey × Line). e.1) es) ∙ length-map es (λ (e : TimeKey × Line). e.1) in
    omega (arith, keys, all, small)

pub few_shown : (q : Query) (places : List ℕ) (found : Found) → length found < 2 ^ 63 → length (answer_of q places found) < 2 ^ 63
few_shown q places found small =
    let shown_long : length (answer_of q places found) ≡ length (cut q (ordered q.order found)) = length-map (cut q (ordered q.order found)) (λ (e : Key × List Cell). shown places e.1) in
    let cut_few : length (cut q (ordered q.order found)) ≤ length (drop (count_from q.skip) (ordered q.order found)) = few_limited q.limit (drop (count_from q.skip) (ordered q.order found)) in
    let dropped = length-drop (count_from q.skip) (ordered q.order found) in
    let whole : length (ordered q.order found) ≡ length found = length-ordered q.order found in
    omega arith

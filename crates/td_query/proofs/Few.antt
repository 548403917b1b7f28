-- How many rows an answer has.
use Rattle.std.proofs.Common.{◌≡◌, ◌≤◌, ◌<◌, ◌^◌, ℕ, ℤ, List, map, length, drop, Option, Some, None, refl, ap, ◌∙◌, arith, length-drop}
use Rattle.std.proofs.lemmas.List.{length-map, length-take, length-reverse}
use Rattle.td_layer.specs.declared.values.Cell.{Cell}
use Rattle.td_layer.specs.declared.values.Key.{Key}
use Rattle.td_model.specs.declared.catalog.Column.{Column}
use Rattle.td_model.specs.declared.language.OrderBy.{OrderBy}
use Rattle.td_model.specs.declared.language.OrderBy.TheVariants as order
use Rattle.td_model.specs.declared.language.Query.{Query}
use Rattle.td_model.specs.declared.windows.WinRow.{WinRow}
use Rattle.td_verdict.specs.Answers.{Found, count_from, limited, cut, ordered, shown, answer_of}
use Rattle.td_verdict.specs.Arranged.{arranged, answer_of_rows}
use Rattle.td_query.specs.Picks.{picked_cells, found_rows}
use Rattle.td_query.specs.Read.{key_of}
use Rattle.td_query.specs.Shown.{all_shown}
use Rattle.td_query.specs.declared.arranging.Shown.{Shown}
use Rattle.td_query.specs.declared.picks.Picked.{Picked}
use Rattle.td_query.specs.declared.rows.TimeKey.{TimeKey}

few_limited : {X : Type 0} (limit : Option ℤ) (xs : List X) → length (limited limit xs) ≤ length xs
few_limited None xs = omega arith
few_limited (Some n) xs = let long = length-take (count_from n) xs in omega arith

few_cut : {X : Type 0} (q : Query) (xs : List X) → length (cut q xs) ≤ length xs
few_cut q xs =
    let left = length-drop (count_from q.skip) xs in
    let few = few_limited q.limit (drop (count_from q.skip) xs) in
    omega arith

length-ordered : {X : Type 0} (o : OrderBy) (xs : List X) → length (ordered o xs) ≡ length xs
length-ordered order.Plain xs = refl
length-ordered (order.Asc name) xs = refl
length-ordered (order.Desc name) xs = length-reverse xs

-- no more than the windows that are lent
pub few_windows : (q : Query) (rows : List Shown) (all : List WinRow) → all_shown rows ≡ arranged q.order all → length rows < 2 ^ 63 → length (answer_of_rows q all) < 2 ^ 63
few_windows q rows all are small =
    let shown_long : length (answer_of_rows q all) ≡ length (cut q (arranged q.order all)) = length-map (cut q (arranged q.order all)) (λ (w : WinRow). w.cells) in
    let few = few_cut q (arranged q.order all) in
    let long : length (all_shown rows) ≡ length rows = length-map rows (λ (s : Shown). s.row.now) in
    let same : length (all_shown rows) ≡ length (arranged q.order all) = ap length are in
    omega arith

-- no more than the rows that were picked
pub few_picked : (q : Query) (columns : List Column) (places : List ℕ) (es : List (TimeKey × Picked)) (rows : List Picked) → rows ≡ ordered q.order (map (λ (e : TimeKey × Picked). e.1) es) → length rows < 2 ^ 63 → length (answer_of q places (found_rows columns es)) < 2 ^ 63
few_picked q columns places es rows are small =
    let found : Found = found_rows columns es in
    let shown_long : length (answer_of q places (found_rows columns es)) ≡ length (cut q (ordered q.order (found_rows columns es))) = length-map (cut q (ordered q.order found)) (λ (e : Key × List Cell). shown places e.1) in
    let few = few_cut q (ordered q.order (found_rows columns es)) in
    let whole : length (ordered q.order (found_rows columns es)) ≡ length (found_rows columns es) = length-ordered q.order found in
    let keys : length (found_rows columns es) ≡ length es = length-map es (λ (e : TimeKey × Picked). (key_of e.0, picked_cells columns e.1)) in
    let all : length rows ≡ length es = ap length are ∙ length-ordered q.order (map (λ (e : TimeKey × Picked). e.1) es) ∙ length-map es (λ (e : TimeKey × Picked). e.1) in
    omega arith

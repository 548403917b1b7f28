-- Windows by their starts and places, and the same windows by their starts.
use Rattle.std.proofs.Common.{◌≡◌, ℕ, ◌+◌, ◌<◌, ℤ, Bool, true, false, cond, int_le, List, [], ◌∷◌, ◌++◌, map, take, drop, reverse, Option, Some, None, refl, sym, ap, ◌∙◌, subst, arith}
use Rattle.std.specs.List.{AllByRecursion}
use Rattle.std.specs.Ordering.{nat_cmp, int_cmp, ordering_then, match_ordering}
use Rattle.std.specs.declared.cmp.Ordering.{Ordering}
use Rattle.std.specs.declared.cmp.Ordering.TheVariants.{Less, Greater}
use Rattle.std.specs.BTreeMap.{insert_entry}
use Rattle.std.proofs.lemmas.Int.{ints}
use Rattle.std.proofs.lemmas.List.{map-append, reverse-append, drop-map, take-map}
use Rattle.std.proofs.lemmas.Bool.Decides.{nat_tests}
use Rattle.td_model.specs.declared.windows.WinRow.{WinRow}
use Rattle.td_query.specs.declared.arranging.Shown.{Shown}
use Rattle.td_query.specs.declared.arranging.StartKey.{StartKey}
use Rattle.td_layer.specs.declared.values.Cell.{Cell}
use Rattle.td_model.specs.declared.language.Query.{Query}
use Rattle.td_verdict.specs.Answers.{count_from, limited, cut}
use Rattle.td_verdict.specs.Arranged.{put_by_start, put_by_starts, cells_shown}
use Rattle.td_query.specs.Shown.{all_shown}

abbrev pub start_cmp : StartKey → StartKey → Ordering
start_cmp a b = ordering_then (int_cmp a.start b.start) (nat_cmp a.place b.place)

abbrev pub Entries : Type 0
Entries = List (StartKey × Shown)

abbrev pub rows_of : Entries → List WinRow
rows_of es = map (λ (e : StartKey × Shown). e.1.row.now) es

-- each stands under its own start, at a place before this one
abbrev pub IsPlaced : ℕ → StartKey × Shown → Type 0
IsPlaced n e = (e.0.start ≡ e.1.row.now.key.start) × (e.0.place < n)

abbrev pub ArePlaced : ℕ → Entries → Type 0
ArePlaced n es = AllByRecursion (IsPlaced n) es

module _ (n : ℕ) (s : Shown) where
  abbrev w : WinRow
  w = s.row.now

  abbrev key : StartKey
  key = record { start = w.key.start; place = n }

  pub key_is : (start : ℤ) → start ≡ s.row.now.key.start → (es : Entries) → insert_entry start_cmp es (record { start = start; place = n }) s ≡ insert_entry start_cmp es (record { start = s.row.now.key.start; place = n }) s
  key_is start e es = ap (λ k. insert_entry start_cmp es (record { start = k; place = n }) s) e

  -- how a later one compares
  compares : (e : StartKey × Shown) → IsPlaced n e → start_cmp key e.0 ≡ cond (int_le e.1.row.now.key.start w.key.start) Greater Less
  compares e at =
      let start : e.0.start ≡ e.1.row.now.key.start = at.0 in
      let before : e.0.place < n = at.1 in
      by_start e.0.start (int_le e.0.start w.key.start) refl before ∙ ap (λ k. cond (int_le k w.key.start) Greater Less) start
    where
      by_start : (k : ℤ) (b : Bool) → int_le k w.key.start ≡ b → e.0.place < n → ordering_then (int_cmp w.key.start k) (nat_cmp n e.0.place) ≡ cond (int_le k w.key.start) Greater Less
      by_start k b is before = grind (arith, ints, nat_tests)

  put_at : (e : StartKey × Shown) (es : Entries) (b : Bool) → rows_of (insert_entry start_cmp es key s) ≡ put_by_start (rows_of es) w
      → rows_of (match_ordering (cond b Greater Less) ((key, s) ∷ e ∷ es) ((e.0, s) ∷ es) (e ∷ insert_entry start_cmp es key s)) ≡ cond b (e.1.row.now ∷ put_by_start (rows_of es) w) (w ∷ e.1.row.now ∷ rows_of es)
  put_at e es true rest = ap (λ l. e.1.row.now ∷ l) rest
  put_at e es false rest = refl

  pub put_placed : (es : Entries) → ArePlaced n es → rows_of (insert_entry start_cmp es key s) ≡ put_by_start (rows_of es) w
  put_placed [] placed = refl
  put_placed (e ∷ es) placed =
      ap (λ o. rows_of (match_ordering o ((key, s) ∷ e ∷ es) ((e.0, s) ∷ es) (e ∷ insert_entry start_cmp es key s))) (compares e placed.0)
      ∙ put_at e es (int_le e.1.row.now.key.start w.key.start) (put_placed es placed.1)

  later : (e : StartKey × Shown) → IsPlaced n e → IsPlaced (n + 1) e
  later e at = let before : e.0.place < n = at.1 in (at.0, omega arith)

  all_later : (es : Entries) → ArePlaced n es → ArePlaced (n + 1) es
  all_later [] placed = tt
  all_later (e ∷ es) placed = (later e placed.0, all_later es placed.1)

  keeps_at : (e : StartKey × Shown) (es : Entries) (b : Bool) → IsPlaced n e → ArePlaced n es → ArePlaced (n + 1) (insert_entry start_cmp es key s)
      → ArePlaced (n + 1) (match_ordering (cond b Greater Less) ((key, s) ∷ e ∷ es) ((e.0, s) ∷ es) (e ∷ insert_entry start_cmp es key s))
  keeps_at e es true at placed rest = (later e at, rest)
  keeps_at e es false at placed rest = ((refl, omega arith), (later e at, all_later es placed))

  pub keeps_placed : (es : Entries) → ArePlaced n es → ArePlaced (n + 1) (insert_entry start_cmp es key s)
  keeps_placed [] placed = ((refl, omega arith), tt)
  keeps_placed (e ∷ es) placed =
      subst (λ (o : Ordering). ArePlaced (n + 1) (match_ordering o ((key, s) ∷ e ∷ es) ((e.0, s) ∷ es) (e ∷ insert_entry start_cmp es key s))) (sym (compares e placed.0))
      (keeps_at e es (int_le e.1.row.now.key.start w.key.start) placed.0 placed.1 (keeps_placed es placed.1))

-- ---- one more
starts_append : (rows ws vs : List WinRow) → put_by_starts rows (ws ++ vs) ≡ put_by_starts (put_by_starts rows ws) vs
starts_append rows [] vs = refl
starts_append rows (w ∷ ws) vs = starts_append (put_by_start rows w) ws vs

pub starts_next : (rows : List Shown) (n : ℕ) (s : Shown) (now : List WinRow) → take (n + 1) rows ≡ take n rows ++ s ∷ [] → now ≡ put_by_starts [] (all_shown (take n rows)) → put_by_start now s.row.now ≡ put_by_starts [] (all_shown (take (n + 1) rows))
starts_next rows n s now one so =
    ap (λ l. put_by_start l s.row.now) so
    ∙ sym (starts_append [] (all_shown (take n rows)) (s.row.now ∷ []))
    ∙ ap (put_by_starts []) (sym (map-append (λ (t : Shown). t.row.now) (take n rows) (s ∷ [])))
    ∙ ap (λ l. put_by_starts [] (all_shown l)) (sym one)

pub values_shown : (es : Entries) → all_shown (map (λ (e : StartKey × Shown). e.1) es) ≡ rows_of es
values_shown [] = refl
values_shown (e ∷ es) = ap (λ l. e.1.row.now ∷ l) (values_shown es)

-- ---- lent windows, and the part of them that is shown
module _ {X Y : Type 0} (f : X → Y) where
  pub reverse-map : (xs : List X) → reverse (map f xs) ≡ map f (reverse xs)
  reverse-map [] = refl
  reverse-map (x ∷ xs) =
      reverse-append (f x ∷ []) (map f xs)
      ∙ ap (λ ys. ys ++ f x ∷ []) (reverse-map xs)
      ∙ sym (map-append f (reverse xs) (x ∷ []))
      ∙ ap (map f) (sym (reverse-append (x ∷ []) xs))

  limited-map : (limit : Option ℤ) (xs : List X) → limited limit (map f xs) ≡ map f (limited limit xs)
  limited-map None xs = refl
  limited-map (Some n) xs = take-map f (count_from n) xs

  pub cut-map : (q : Query) (xs : List X) → cut q (map f xs) ≡ map f (cut q xs)
  cut-map q xs = ap (limited q.limit) (drop-map f (count_from q.skip) xs) ∙ limited-map q.limit (drop (count_from q.skip) xs)

  pub part-map : (skip count : ℕ) (xs : List X) → take count (drop skip (map f xs)) ≡ map f (take count (drop skip xs))
  part-map skip count xs = ap (take count) (drop-map f skip xs) ∙ take-map f count (drop skip xs)

pub part_shown : (q : Query) (skip count : ℕ) (rows : List Shown) → cells_shown (all_shown (take count (drop skip (cut q rows)))) ≡ take count (drop skip (cells_shown (cut q (all_shown rows))))
part_shown q skip count rows =
    let lent : Shown → WinRow = λ s. s.row.now in
    let cells : WinRow → List Cell = λ w. w.cells in
    ap (map cells) (sym (part-map lent skip count (cut q rows)) ∙ ap (λ l. take count (drop skip l)) (sym (cut-map lent q rows)))
    ∙ sym (part-map cells skip count (cut q (all_shown rows)))

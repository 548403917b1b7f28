-- Rows that were picked, by timestamp and table, and the same rows by key; and rows put one after another.
use Rattle.std.proofs.Common.{◌≡◌, ℕ, suc, ◌+◌, List, [], ◌∷◌, ◌++◌, map, drop, take, reverse, Option, Some, None, refl, sym, ap, ◌∙◌, add-one}
use Rattle.std.specs.Prelude.{IfSome}
use Rattle.std.specs.List.{slice_get, flat_map}
use Rattle.std.specs.declared.cmp.Ordering.{Ordering}
use Rattle.std.specs.declared.cmp.Ordering.TheVariants.{Less, Equal, Greater}
use Rattle.std.specs.Ordering.{match_ordering}
use Rattle.std.specs.BTreeMap.{insert_entry}
use Rattle.std.proofs.lemmas.List.{map-append, reverse-append}
use Rattle.td_layer.specs.Scans.{rows_in}
use Rattle.td_layer.specs.declared.values.Cell.{Cell}
use Rattle.td_layer.specs.declared.values.Key.{Key}
use Rattle.td_layer.specs.declared.values.Row.{Row}
use Rattle.td_model.specs.State.{Rows}
use Rattle.td_model.specs.declared.catalog.Column.{Column}
use Rattle.td_model.specs.declared.language.OrderBy.{OrderBy}
use Rattle.td_model.specs.declared.language.OrderBy.TheVariants as order
use Rattle.td_model.specs.declared.language.Query.{Query}
use Rattle.td_model.specs.declared.plan.Plan.{Plan}
use Rattle.td_verdict.specs.Answers.{Found, time_cmp, put_in_time, ordered, cut, shown, answer_of}
use Rattle.td_verdict.specs.declared.comparison.Comparison.{Comparison}
use Rattle.td_query.specs.Planned.{found_in, found_of}
use Rattle.td_verdict.specs.Groups.{Listed, cells_of}
use Rattle.td_query.specs.Planned.{tables_of}
use Rattle.td_query.specs.Picks.{picked_cells, found_rows, with_cells, wanted_found, picked_shown}
use Rattle.td_query.specs.Read.{key_of, wanted_from}
use Rattle.td_query.specs.declared.picks.Picked.{Picked}
use Rattle.td_query.specs.declared.rows.TimeKey.{TimeKey}
use Rattle.td_query.proofs.Keyed.{cmp, wanted_append}
use Rattle.td_query.proofs.Starts.{reverse-map, cut-map, part-map}
use Rattle.td_query.proofs.TableByTable.{drop_at, drop_past}
use Rattle.td_query.proofs.Wanted.{wanted_is_picked}

module _ (columns : List Column) (k : TimeKey) (v : Picked) where
  abbrev cells : Picked → List Cell
  cells p = picked_cells columns p

  picked_at : (o : Ordering) (e : TimeKey × Picked) (es : List (TimeKey × Picked)) → found_rows columns (insert_entry cmp es k v) ≡ insert_entry time_cmp (found_rows columns es) (key_of k) (cells v)
      → found_rows columns (match_ordering o ((k, v) ∷ e ∷ es) ((e.0, v) ∷ es) (e ∷ insert_entry cmp es k v)) ≡ match_ordering o ((key_of k, cells v) ∷ found_rows columns (e ∷ es)) ((key_of e.0, cells v) ∷ found_rows columns es) ((key_of e.0, cells e.1) ∷ insert_entry time_cmp (found_rows columns es) (key_of k) (cells v))
  picked_at Less e es rest = refl
  picked_at Equal e es rest = refl
  picked_at Greater e es rest = ap (λ r. (key_of e.0, cells e.1) ∷ r) rest

  pub picked_insert : (es : List (TimeKey × Picked)) → found_rows columns (insert_entry cmp es k v) ≡ insert_entry time_cmp (found_rows columns es) (key_of k) (picked_cells columns v)
  picked_insert [] = refl
  picked_insert (e ∷ es) = picked_at (cmp k e.0) e es (picked_insert es)

-- ---- rows put one after another
put_append : (found es fs : Found) → put_in_time found (es ++ fs) ≡ put_in_time (put_in_time found es) fs
put_append found [] fs = refl
put_append found (e ∷ es) fs = put_append (insert_entry time_cmp found e.0 e.1) es fs

pub backwards : {X : Type 0} (xs : List X) (x : X) → reverse (xs ++ x ∷ []) ≡ x ∷ reverse xs
backwards xs x = reverse-append xs (x ∷ [])

module _ (columns : List Column) (ps : List Comparison) (lo hi : ℕ) (t : Listed) where
  abbrev wanted : List (ℕ × Row) → Found
  wanted found = wanted_found columns ps lo hi t found

  found_append : (xs ys : List (ℕ × Row)) → wanted (xs ++ ys) ≡ wanted xs ++ wanted ys
  found_append xs ys =
      ap (with_cells columns t) (wanted_append columns ps lo hi t xs ys)
      ∙ map-append (λ (e : Key × Row). (e.0, cells_of columns t e)) (wanted_from columns ps lo hi t xs) (wanted_from columns ps lo hi t ys)

  -- one row from the end of those that are left, of which the last comes first
  pub put_first : (found : Found) (left : List (ℕ × Row)) (first : ℕ × Row) (next : Found) → next ≡ put_in_time found (wanted_found columns ps lo hi t (first ∷ []))
      → put_in_time next (wanted_found columns ps lo hi t (reverse left)) ≡ put_in_time found (wanted_found columns ps lo hi t (reverse (left ++ first ∷ [])))
  put_first found left first next e =
      ap (λ f. put_in_time f (wanted (reverse left))) e
      ∙ sym (put_append found (wanted (first ∷ [])) (wanted (reverse left)))
      ∙ ap (put_in_time found) (sym (found_append (first ∷ []) (reverse left)) ∙ ap (λ l. wanted_found columns ps lo hi t l) (sym (backwards left first)))

-- what is put of the rows that are read of a table is what is picked of it
pub picks_read : (p : Plan) (ps : List Comparison) (t : Listed) (rows : Option Rows) (found : List (ℕ × Row)) (before now : Found) → IfSome rows (λ all. found ≡ rows_in t.number p.lo p.hi all)
    → now ≡ put_in_time before (wanted_found p.schema.columns ps p.lo p.hi t found) → IfSome rows (λ all. now ≡ put_in_time before (found_in p ps all t))
picks_read p ps t None found before now is put = is
picks_read p ps t (Some all) found before now is put =
    put
    ∙ ap (λ found. put_in_time before (wanted_found p.schema.columns ps p.lo p.hi t found)) is
    ∙ ap (λ rows. put_in_time before (with_cells p.schema.columns t rows)) (wanted_is_picked p.schema.columns ps p.lo p.hi t all)

-- ---- the tables of a plan one by one

-- what is picked of the tables that are left, put among what was picked, is all
abbrev pub Picks : Plan → List Comparison → List Listed → Option Rows → Found → Type 0
Picks p ps left rows now = IfSome rows (λ all. put_in_time now (flat_map (found_in p ps all) left) ≡ found_of p ps all)

pub picks_first : (p : Plan) (ps : List Comparison) (rows : Option Rows) (now : Found) → now ≡ [] → Picks p ps (tables_of p) rows now
picks_first p ps None now e = tt
picks_first p ps (Some all) now e = ap (λ f. put_in_time f (flat_map (found_in p ps all) (tables_of p))) e

module _ (p : Plan) (ps : List Comparison) (at : ℕ) where
  pub picks_next : (t : Listed) (rows : Option Rows) (now next : Found) → slice_get (tables_of p) at ≡ Some t → IfSome rows (λ all. next ≡ put_in_time now (found_in p ps all t))
      → Picks p ps (drop at (tables_of p)) rows now → Picks p ps (drop (at + 1) (tables_of p)) rows next
  picks_next t None now next here put so = so
  picks_next t (Some all) now next here put so =
      let f : Listed → Found = found_in p ps all in
      ap (λ n. put_in_time next (flat_map f (drop n (tables_of p)))) (add-one at)
      ∙ ap (λ found. put_in_time found (flat_map f (drop (suc at) (tables_of p)))) put
      ∙ sym (put_append now (f t) (flat_map f (drop (suc at) (tables_of p))))
      ∙ ap (λ ts. put_in_time now (flat_map f ts)) (sym (drop_at (tables_of p) at t here))
      ∙ so

  pub picks_past : (rows : Option Rows) (now : Found) → slice_get (tables_of p) at ≡ None → Picks p ps (drop at (tables_of p)) rows now → Picks p ps (drop (at + 1) (tables_of p)) rows now
  picks_past None now none so = so
  picks_past (Some all) now none so =
      ap (λ ts. put_in_time now (flat_map (found_in p ps all) ts)) (ap (λ n. drop n (tables_of p)) (add-one at) ∙ drop_past (tables_of p) at none) ∙ so

pub picks_end : (p : Plan) (ps : List Comparison) (left : List Listed) (rows : Option Rows) (now : Found) → left ≡ [] → Picks p ps left rows now → IfSome rows (λ all. now ≡ found_of p ps all)
picks_end p ps left None now e so = so
picks_end p ps left (Some all) now e so = ap (λ ts. put_in_time now (flat_map (found_in p ps all) ts)) (sym e) ∙ so

-- ---- what is shown
ordered-map : {X Y : Type 0} (f : X → Y) (o : OrderBy) (xs : List X) → ordered o (map f xs) ≡ map f (ordered o xs)
ordered-map f order.Plain xs = refl
ordered-map f (order.Asc name) xs = refl
ordered-map f (order.Desc name) xs = reverse-map f xs

module _ (q : Query) (columns : List Column) (places : List ℕ) (skip count : ℕ) where
  abbrev shows : Picked → List Cell
  shows p = shown places (picked_cells columns p)

  abbrev of_found : Key × List Cell → List Cell
  of_found e = shown places e.1

  same_shown : (es : List (TimeKey × Picked)) → map shows (map (λ (e : TimeKey × Picked). e.1) es) ≡ map of_found (found_rows columns es)
  same_shown [] = refl
  same_shown (e ∷ es) = ap (λ l. shown places (picked_cells columns e.1) ∷ l) (same_shown es)

  shown_of : {X : Type 0} (f : X → List Cell) (xs : List X) → map f (cut q (ordered q.order xs)) ≡ cut q (ordered q.order (map f xs))
  shown_of f xs = sym (cut-map f q (ordered q.order xs)) ∙ ap (cut q) (sym (ordered-map f q.order xs))

  pub shown_found : (es : List (TimeKey × Picked)) → picked_shown columns places (take count (drop skip (cut q (ordered q.order (map (λ (e : TimeKey × Picked). e.1) es))))) ≡ take count (drop skip (answer_of q places (found_rows columns es)))
  shown_found es =
      let rows : List Picked = map (λ (e : TimeKey × Picked). e.1) es in
      sym (part-map shows skip count (cut q (ordered q.order rows)))
      ∙ ap (λ l. take count (drop skip l)) (shown_of shows rows ∙ ap (λ l. cut q (ordered q.order l)) (same_shown es) ∙ sym (shown_of of_found (found_rows columns es)))

-- Groups that hold no row are not shown, so tables without picked rows don't change what is shown.
use Rattle.std.proofs.Common.{◌≡◌, Bool, true, false, not, cond, ◌==◌, List, [], ◌∷◌, filter, length, refl, sym, ap, subst, ◌∙◌, arith}
use Rattle.std.specs.List.{AllByRecursion}
use Rattle.std.specs.Ordering.{match_ordering, ordering_reverse}
use Rattle.std.specs.BTreeMap.{insert_entry}
use Rattle.std.specs.declared.cmp.Ordering.{Ordering}
use Rattle.std.specs.declared.cmp.Ordering.TheVariants.{Less, Equal, Greater}
use Rattle.std.proofs.lemmas.Bool.Decides.{nat_tests}
use Rattle.td_layer.specs.declared.values.Cell.{Cell}
use Rattle.td_layer.specs.declared.values.Key.{Key}
use Rattle.td_layer.specs.declared.values.Row.{Row}
use Rattle.td_model.specs.State.{Rows}
use Rattle.td_verdict.specs.Answers.{time_cmp}
use Rattle.td_verdict.specs.Parts.{part_cmp}
use Rattle.td_verdict.specs.Groups.{Listed, Grouped, with_rows, empty_group, put_rows, put_group, put_tables, has_rows, groups_from}
use Rattle.td_query.proofs.PartOrder.{part_total, same_part}

-- ---- what holds a row
abbrev pub some : {X : Type 0} → List X → Bool
some [] = false
some (x ∷ xs) = true

full : {X : Type 0} (x : X) (xs : List X) → not (length (x ∷ xs) == 0) ≡ true
full x xs = grind (arith, nat_tests)

none_there : (rows : Rows) → not (length rows == 0) ≡ false → rows ≡ []
none_there [] e = refl
none_there (r ∷ rs) e = absurd (cc (full r rs))

entry_at : (o : Ordering) (k : Key) (v : Row) (e : Key × Row) (es : Rows) → not (length (match_ordering o ((k, v) ∷ e ∷ es) ((e.0, v) ∷ es) (e ∷ insert_entry time_cmp es k v)) == 0) ≡ true
entry_at Less k v e es = full {X = Key × Row} (k, v) (e ∷ es)
entry_at Equal k v e es = full {X = Key × Row} (e.0, v) es
entry_at Greater k v e es = full e (insert_entry time_cmp es k v)

entry_there : (es : Rows) (k : Key) (v : Row) → not (length (insert_entry time_cmp es k v) == 0) ≡ true
entry_there [] k v = full {X = Key × Row} (k, v) []
entry_there (e ∷ es) k v = entry_at (time_cmp k e.0) k v e es

holds_rows : (g : Grouped) (r : Key × Row) (rs : Rows) → has_rows (with_rows g (r ∷ rs)) ≡ true
holds_rows g r rs = entry_there (put_rows g.rows rs) r.0 r.1

-- ---- groups stand in the order of their parts
abbrev IsBehind : List Cell → Grouped → Type 0
IsBehind part g = part_cmp part g.part ≡ Less

abbrev AreBehind : List Cell → List Grouped → Type 0
AreBehind part gs = AllByRecursion (IsBehind part) gs

abbrev Rise : List Grouped → Type 0
Rise [] = Unit {0}
Rise (g ∷ gs) = AreBehind g.part gs × Rise gs

all_behind : (a b : List Cell) → part_cmp a b ≡ Less → (gs : List Grouped) → AreBehind b gs → AreBehind a gs
all_behind a b less [] h = tt
all_behind a b less (g ∷ gs) h = (part_total.trans a b g.part less h.0, all_behind a b less gs h.1)

module _ (part : List Cell) (rows : Rows) where
  abbrev new : Grouped
  new = with_rows (empty_group part) rows

  behind_at : (k : List Cell) (o : Ordering) (g : Grouped) (gs : List Grouped) → part_cmp k part ≡ Less → AreBehind k (g ∷ gs) → AreBehind k (put_group part rows gs)
      → AreBehind k (match_ordering o (new ∷ g ∷ gs) (with_rows g rows ∷ gs) (g ∷ put_group part rows gs))
  behind_at k Less g gs less h rest = (less, h)
  behind_at k Equal g gs less h rest = (h.0, h.1)
  behind_at k Greater g gs less h rest = (h.0, rest)

  put_behind : (k : List Cell) → part_cmp k part ≡ Less → (gs : List Grouped) → AreBehind k gs → AreBehind k (put_group part rows gs)
  put_behind k less [] h = (less, tt)
  put_behind k less (g ∷ gs) h = behind_at k (part_cmp part g.part) g gs less h (put_behind k less gs h.1)

  rise_at : (o : Ordering) (g : Grouped) (gs : List Grouped) → part_cmp part g.part ≡ o → Rise (g ∷ gs) → Rise (put_group part rows gs)
      → Rise (match_ordering o (new ∷ g ∷ gs) (with_rows g rows ∷ gs) (g ∷ put_group part rows gs))
  rise_at Less g gs is h rest = ((is, all_behind part g.part is gs h.0), h)
  rise_at Equal g gs is h rest = (h.0, h.1)
  rise_at Greater g gs is h rest = (put_behind g.part (part_total.antisymm g.part part ∙ ap ordering_reverse is) gs h.0, rest)

  pub put_rises : (gs : List Grouped) → Rise gs → Rise (put_group part rows gs)
  put_rises [] h = (tt, tt)
  put_rises (g ∷ gs) h = rise_at (part_cmp part g.part) g gs refl h (put_rises gs h.1)

  -- rows of a part that is before all others
  put_first : (gs : List Grouped) → AreBehind part gs → put_group part rows gs ≡ new ∷ gs
  put_first [] h = refl
  put_first (g ∷ gs) h = ap (λ o. match_ordering o (new ∷ g ∷ gs) (with_rows g rows ∷ gs) (g ∷ put_group part rows gs)) h.0

-- ---- what is shown of groups into which rows were put
behind_by : (part : List Cell) (g : Grouped) (gs : List Grouped) (b : Bool) → IsBehind part g → AreBehind part (filter has_rows gs) → AreBehind part (cond b (g ∷ filter has_rows gs) (filter has_rows gs))
behind_by part g gs true h rest = (h, rest)
behind_by part g gs false h rest = rest

behind_shown : (part : List Cell) (gs : List Grouped) → AreBehind part gs → AreBehind part (filter has_rows gs)
behind_shown part [] h = tt
behind_shown part (g ∷ gs) h = behind_by part g gs (has_rows g) h.0 (behind_shown part gs h.1)

-- no row
module _ (part : List Cell) where
  none_at : (o : Ordering) (g : Grouped) (gs : List Grouped) → filter has_rows (put_group part [] gs) ≡ filter has_rows gs
      → filter has_rows (match_ordering o (with_rows (empty_group part) [] ∷ g ∷ gs) (with_rows g [] ∷ gs) (g ∷ put_group part [] gs)) ≡ filter has_rows (g ∷ gs)
  none_at Less g gs rest = refl
  none_at Equal g gs rest = refl
  none_at Greater g gs rest = ap (λ l. cond (has_rows g) (g ∷ l) l) rest

  put_none : (gs : List Grouped) → filter has_rows (put_group part [] gs) ≡ filter has_rows gs
  put_none [] = refl
  put_none (g ∷ gs) = none_at (part_cmp part g.part) g gs (put_none gs)

-- some rows
module _ (part : List Cell) (r : Key × Row) (rs : Rows) where
  abbrev made : Grouped
  made = with_rows (empty_group part) (r ∷ rs)

  -- those of a part that has an empty group, which isn't shown
  empty_is : (g : Grouped) → part_cmp part g.part ≡ Equal → has_rows g ≡ false → with_rows g (r ∷ rs) ≡ made
  empty_is g is none =
      ap (λ (p : List Cell). with_rows (record { part = p; rows = g.rows }) (r ∷ rs)) (sym (same_part part g.part is))
      ∙ ap (λ (es : Rows). with_rows (record { part = part; rows = es }) (r ∷ rs)) (none_there g.rows none)

  equal_by : (g : Grouped) (gs : List Grouped) (b : Bool) → has_rows g ≡ b → part_cmp part g.part ≡ Equal → AreBehind g.part gs
      → with_rows g (r ∷ rs) ∷ filter has_rows gs ≡ put_group part (r ∷ rs) (cond b (g ∷ filter has_rows gs) (filter has_rows gs))
  equal_by g gs true has is h = sym (ap (λ o. match_ordering o (made ∷ g ∷ filter has_rows gs) (with_rows g (r ∷ rs) ∷ filter has_rows gs) (g ∷ put_group part (r ∷ rs) (filter has_rows gs))) is)
  equal_by g gs false has is h =
      let same : part ≡ g.part = same_part part g.part is in
      let behind : AreBehind part gs = subst (λ (p : List Cell). AreBehind p gs) (sym same) h in
      ap (λ (x : Grouped). x ∷ filter has_rows gs) (empty_is g is has)
      ∙ sym (put_first part (r ∷ rs) (filter has_rows gs) (behind_shown part gs behind))

  greater_by : (g : Grouped) (gs : List Grouped) (b : Bool) → part_cmp part g.part ≡ Greater → filter has_rows (put_group part (r ∷ rs) gs) ≡ put_group part (r ∷ rs) (filter has_rows gs)
      → cond b (g ∷ filter has_rows (put_group part (r ∷ rs) gs)) (filter has_rows (put_group part (r ∷ rs) gs)) ≡ put_group part (r ∷ rs) (cond b (g ∷ filter has_rows gs) (filter has_rows gs))
  greater_by g gs true is rest =
      ap (λ l. g ∷ l) rest
      ∙ sym (ap (λ o. match_ordering o (made ∷ g ∷ filter has_rows gs) (with_rows g (r ∷ rs) ∷ filter has_rows gs) (g ∷ put_group part (r ∷ rs) (filter has_rows gs))) is)
  greater_by g gs false is rest = rest

  some_at : (o : Ordering) (g : Grouped) (gs : List Grouped) → part_cmp part g.part ≡ o → Rise (g ∷ gs) → filter has_rows (put_group part (r ∷ rs) gs) ≡ put_group part (r ∷ rs) (filter has_rows gs)
      → filter has_rows (match_ordering o (made ∷ g ∷ gs) (with_rows g (r ∷ rs) ∷ gs) (g ∷ put_group part (r ∷ rs) gs)) ≡ put_group part (r ∷ rs) (filter has_rows (g ∷ gs))
  some_at Less g gs is h rest =
      ap (λ b. cond b (made ∷ filter has_rows (g ∷ gs)) (filter has_rows (g ∷ gs))) (holds_rows (empty_group part) r rs)
      ∙ sym (put_first part (r ∷ rs) (filter has_rows (g ∷ gs)) (behind_shown part (g ∷ gs) (is, all_behind part g.part is gs h.0)))
  some_at Equal g gs is h rest =
      ap (λ b. cond b (with_rows g (r ∷ rs) ∷ filter has_rows gs) (filter has_rows gs)) (holds_rows g r rs)
      ∙ equal_by g gs (has_rows g) refl is h.0
  some_at Greater g gs is h rest = greater_by g gs (has_rows g) is rest

  put_some : (gs : List Grouped) → Rise gs → filter has_rows (put_group part (r ∷ rs) gs) ≡ put_group part (r ∷ rs) (filter has_rows gs)
  put_some [] h = ap (λ b. cond b (made ∷ []) []) (holds_rows (empty_group part) r rs)
  put_some (g ∷ gs) h = some_at (part_cmp part g.part) g gs refl h (put_some gs h.1)

-- ---- tables with picked rows alone
put_single : (rows : Rows) (part : List Cell) (g : Grouped) → part ≡ [] → g.part ≡ [] → put_group part rows (g ∷ []) ≡ with_rows g rows ∷ []
put_single rows part g none empty =
    ap (λ p. put_group p rows (g ∷ [])) none
    ∙ ap (λ p. match_ordering (part_cmp [] p) (with_rows (empty_group []) rows ∷ g ∷ []) (with_rows g rows ∷ []) (g ∷ put_group [] rows [])) empty

module _ (picked : Listed → Rows) where
  abbrev pub is_some : Listed → Bool
  is_some t = some (picked t)

  Ends : List Listed → Type 0
  Ends ts = (gs : List Grouped) → Rise gs → filter has_rows (put_tables picked gs ts) ≡ put_tables picked (filter has_rows gs) (filter is_some ts)

  ends_by : (t : Listed) (ts : List Listed) (rows : Rows) → picked t ≡ rows → Ends ts → (gs : List Grouped) → Rise gs
      → filter has_rows (put_tables picked (put_group t.part rows gs) ts) ≡ put_tables picked (filter has_rows gs) (cond (some rows) (t ∷ filter is_some ts) (filter is_some ts))
  unfolding Ends
  ends_by t ts [] is rest gs h =
      rest (put_group t.part [] gs) (put_rises t.part [] gs h)
      ∙ ap (λ l. put_tables picked l (filter is_some ts)) (put_none t.part gs)
  ends_by t ts (r ∷ rs) is rest gs h =
      rest (put_group t.part (r ∷ rs) gs) (put_rises t.part (r ∷ rs) gs h)
      ∙ ap (λ l. put_tables picked l (filter is_some ts)) (put_some t.part r rs gs h)
      ∙ ap (λ (es : Rows). put_tables picked (put_group t.part es (filter has_rows gs)) (filter is_some ts)) (sym is)

  ends : (ts : List Listed) → Ends ts
  unfolding Ends
  ends [] gs h = refl
  ends (t ∷ ts) gs h = ends_by t ts (picked t) refl (ends ts) gs h

  -- the one group
  one_by : (t : Listed) (ts : List Listed) (rows : Rows) (g : Grouped) → picked t ≡ rows → ((x : Grouped) → x.part ≡ [] → put_tables picked (x ∷ []) ts ≡ put_tables picked (x ∷ []) (filter is_some ts)) → t.part ≡ [] → g.part ≡ []
      → put_tables picked (with_rows g rows ∷ []) ts ≡ put_tables picked (g ∷ []) (cond (some rows) (t ∷ filter is_some ts) (filter is_some ts))
  one_by t ts [] g is rest none empty = rest g empty
  one_by t ts (r ∷ rs) g is rest none empty =
      rest (with_rows g (r ∷ rs)) empty
      ∙ ap (λ (es : Rows). put_tables picked (with_rows g es ∷ []) (filter is_some ts)) (sym is)
      ∙ sym (ap (λ gs. put_tables picked gs (filter is_some ts)) (put_single (picked t) t.part g none empty))

  one : (ts : List Listed) → AllByRecursion (λ (t : Listed). t.part ≡ []) ts → (g : Grouped) → g.part ≡ [] → put_tables picked (g ∷ []) ts ≡ put_tables picked (g ∷ []) (filter is_some ts)
  one [] none g empty = refl
  one (t ∷ ts) none g empty =
      ap (λ gs. put_tables picked gs ts) (put_single (picked t) t.part g none.0 empty)
      ∙ one_by t ts (picked t) g refl (one ts none.1) none.0 empty

  shown : (ts : List Listed) → filter has_rows (put_tables picked [] ts) ≡ put_tables picked [] (filter is_some ts)
  unfolding Ends
  shown ts = ends ts [] tt

  -- what is shown is told by the tables that have picked rows
  pub groups_by_some : (single : Bool) (ts us : List Listed) → (single ≡ true → AllByRecursion (λ (t : Listed). t.part ≡ []) ts) → (single ≡ true → AllByRecursion (λ (t : Listed). t.part ≡ []) us)
      → filter is_some ts ≡ filter is_some us → groups_from single picked ts ≡ groups_from single picked us
  groups_by_some true ts us none no_more same =
      ap (filter (λ (g : Grouped). true)) (
      one ts (none refl) (empty_group []) refl
      ∙ ap (put_tables picked (empty_group [] ∷ [])) same
      ∙ sym (one us (no_more refl) (empty_group []) refl))
  groups_by_some false ts us none no_more same = shown ts ∙ ap (put_tables picked []) same ∙ sym (shown us)

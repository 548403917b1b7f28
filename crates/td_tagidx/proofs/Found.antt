-- The tags that pass a comparison are those between its edges.
use Rattle.std.proofs.Common.{◌≡◌, ℕ, zero, suc, ◌+◌, ◌<◌, Bool, true, false, not, ◌&&◌, cond, List, [], ◌∷◌, map, filter, sum_by, slice_get, ◌==◌, is_lt, Option, Some, None, refl, sym, ap, ◌∙◌, arith}
use Rattle.std.specs.Option.{unwrap_or, option_map_or}
use Rattle.std.specs.Ordering.{nat_cmp, int_cmp, is_le, is_eq, ordering_then, ordering_reverse}
use Rattle.std.specs.declared.cmp.Ordering.{Ordering}
use Rattle.std.specs.declared.cmp.Ordering.TheVariants.{Less, Equal, Greater}
use Rattle.std.proofs.lemmas.Bool.Decides.{nat_tests}
use Rattle.std.proofs.lemmas.Cmp.{tied_itself, nat_cmp_total, int_cmp_total, nat_list_cmp_total}
use Rattle.std.proofs.lemmas.List.Sums.{sum_by-cons}
use Rattle.td_layer.specs.declared.values.Cell.{Cell}
use Rattle.td_layer.specs.declared.values.Cell.TheVariants as cell
use Rattle.td_model.specs.declared.language.Op.{Op}
use Rattle.td_model.specs.declared.language.Op.TheVariants as op
use Rattle.td_model.specs.Tags.{passes, compares, cell_matches, tag_matches, matching}
use Rattle.td_tagidx.specs.declared.index.Subtable.{Subtable}
use Rattle.td_tagidx.specs.declared.order.Slot.{Slot}
use Rattle.td_tagidx.specs.declared.order.Mark.{Mark}
use Rattle.td_tagidx.specs.declared.order.Mark.TheVariants as mark
use Rattle.td_tagidx.specs.Subtables.{subtable_of}
use Rattle.td_tagidx.specs.Order.{kind_of, is_comparable, number_or_nought, text_or_empty, cell_order, kind_side, cell_side, table_of, mark_order, slot_cmp, slots_total}
use Rattle.td_tagidx.specs.Slots.{is_between, between, slots_from, slots_of, HasSame}
use Rattle.td_tagidx.specs.Runs.{edges_of}
use Rattle.td_tagidx.specs.Inside.{IsFiled}
use Rattle.td_tagidx.proofs.Bags.{sum-map, sum-filter, sum-same}

-- ---- the order of a slot of a subtable and an edge, by the orders of their places, kinds and cells
abbrev to_edge : Mark → Ordering → Ordering → Ordering → ℕ → Ordering
to_edge m r k o table = ordering_then (ordering_then r (ordering_then k (nat_cmp 1 (kind_side m)))) (ordering_then o (ordering_then (nat_cmp 1 (cell_side m)) (nat_cmp table (table_of m))))

-- whether a slot lies between two edges, by those orders
abbrev is_in : Mark × Mark → Ordering → Ordering → Ordering → ℕ → Bool
is_in e r k o table = not (is_le (to_edge e.0 r k o table)) && is_lt (to_edge e.1 r k o table)

abbrev edges : Op → Mark × Mark
edges p = unwrap_or (edges_of p) (mark.KindStart, mark.KindStart)

ends : (p : Op) (e : Mark × Mark) → edges_of p ≡ Some e → e ≡ edges p
ends p e h = sym (ap (λ q. unwrap_or q (mark.KindStart, mark.KindStart)) h)

in_equal : (p : Op) (e : Mark × Mark) → edges_of p ≡ Some e → (o : Ordering) (table : ℕ) → is_in (edges p) Equal Equal o table ≡ passes p o
in_equal op.Lt e h Less table = refl
in_equal op.Lt e h Equal table = refl
in_equal op.Lt e h Greater table = refl
in_equal op.Le e h Less table = refl
in_equal op.Le e h Equal table = refl
in_equal op.Le e h Greater table = refl
in_equal op.Gt e h Less table = refl
in_equal op.Gt e h Equal table = refl
in_equal op.Gt e h Greater table = refl
in_equal op.Ge e h Less table = refl
in_equal op.Ge e h Equal table = refl
in_equal op.Ge e h Greater table = refl
in_equal op.Eq e h Less table = refl
in_equal op.Eq e h Equal table = refl
in_equal op.Eq e h Greater table = refl
in_equal op.Ne e h o table = absurd (cc)
in_equal op.IsNull e h o table = absurd (cc)
in_equal op.NotNull e h o table = absurd (cc)

-- b where the kinds are equal
abbrev alike : Ordering → Bool → Bool
alike Less b = false
alike Equal b = b
alike Greater b = false

in_place : (p : Op) (e : Mark × Mark) → edges_of p ≡ Some e → (r k o : Ordering) (table : ℕ) → is_in (edges p) r k o table ≡ is_eq r && alike k (passes p o)
in_place p e h Less k o table = refl
in_place p e h Greater k o table = refl
in_place p e h Equal Less o table = refl
in_place p e h Equal Equal o table = in_equal p e h o table
in_place p e h Equal Greater o table = refl

-- ---- comparisons, by the order of cells
then_equal : (o : Ordering) → ordering_then o Equal ≡ o
then_equal Less = refl
then_equal Equal = refl
then_equal Greater = refl

compares_is : (p : Op) (a b : Cell) → is_comparable b ≡ true → compares p a b ≡ alike (nat_cmp (kind_of a) (kind_of b)) (passes p (cell_order a b))
compares_is p a cell.Null h = absurd (cc)
compares_is p a (cell.Frac sum count) h = absurd (cc)
compares_is p cell.Null (cell.Truth b) h = refl
compares_is p (cell.Truth a) (cell.Truth b) h = ap (passes p) (sym (then_equal (int_cmp (number_or_nought (cell.Truth a)) (number_or_nought (cell.Truth b)))))
compares_is p (cell.Num a) (cell.Truth b) h = ap (passes p) (sym (then_equal (int_cmp a (number_or_nought (cell.Truth b)))))
compares_is p (cell.Frac sum count) (cell.Truth b) h = refl
compares_is p (cell.Str text) (cell.Truth b) h = refl
compares_is p cell.Null (cell.Num b) h = refl
compares_is p (cell.Truth a) (cell.Num b) h = ap (passes p) (sym (then_equal (int_cmp (number_or_nought (cell.Truth a)) b)))
compares_is p (cell.Num a) (cell.Num b) h = ap (passes p) (sym (then_equal (int_cmp a b)))
compares_is p (cell.Frac sum count) (cell.Num b) h = refl
compares_is p (cell.Str text) (cell.Num b) h = refl
compares_is p cell.Null (cell.Str b) h = refl
compares_is p (cell.Truth a) (cell.Str b) h = refl
compares_is p (cell.Num a) (cell.Str b) h = refl
compares_is p (cell.Frac sum count) (cell.Str b) h = refl
compares_is p (cell.Str a) (cell.Str b) h = refl

matches_is : (p : Op) (e : Mark × Mark) → edges_of p ≡ Some e → (a b : Cell) → cell_matches p a b ≡ compares p a b
matches_is op.Lt e h a b = refl
matches_is op.Le e h a b = refl
matches_is op.Gt e h a b = refl
matches_is op.Ge e h a b = refl
matches_is op.Eq e h a b = refl
matches_is op.Ne e h a b = absurd (cc)
matches_is op.IsNull e h a b = absurd (cc)
matches_is op.NotNull e h a b = absurd (cc)

-- with a cell that compares with none nothing passes
none_compares : (p : Op) (a b : Cell) → is_comparable b ≡ false → compares p a b ≡ false
none_compares p cell.Null cell.Null h = refl
none_compares p (cell.Truth a) cell.Null h = refl
none_compares p (cell.Num a) cell.Null h = refl
none_compares p (cell.Frac sum count) cell.Null h = refl
none_compares p (cell.Str a) cell.Null h = refl
none_compares p cell.Null (cell.Frac s n) h = refl
none_compares p (cell.Truth a) (cell.Frac s n) h = refl
none_compares p (cell.Num a) (cell.Frac s n) h = refl
none_compares p (cell.Frac sum count) (cell.Frac s n) h = refl
none_compares p (cell.Str a) (cell.Frac s n) h = refl
none_compares p a (cell.Truth b) h = absurd (cc)
none_compares p a (cell.Num b) h = absurd (cc)
none_compares p a (cell.Str b) h = absurd (cc)

-- ---- a slot between the edges is one at the place whose cell passes
same_place : (x y : ℕ) → is_eq (nat_cmp x y) ≡ (x == y)
same_place x y = grind (arith, nat_tests)

behind_it : (o : Ordering) → is_lt (ordering_reverse o) ≡ not (is_le o)
behind_it Less = refl
behind_it Equal = refl
behind_it Greater = refl

before_it : (o : Ordering) → not (is_le (ordering_reverse o)) ≡ is_lt o
before_it Less = refl
before_it Equal = refl
before_it Greater = refl

cond_both : (x y : Bool) (v : ℕ) → cond (x && y) v 0 ≡ cond x (cond y v 0) 0
cond_both true y v = refl
cond_both false y v = refl

-- the order of a slot of a subtable and an edge
edge_order : (table place tag : ℕ) (a lit : Cell) (m : Mark) → slot_cmp (record { place = place; cell = a; mark = mark.Table table }) (record { place = tag; cell = lit; mark = m }) ≡ to_edge m (nat_cmp place tag) (nat_cmp (kind_of a) (kind_of lit)) (cell_order a lit) table
unfolding slot_cmp
edge_order table place tag a lit m = refl

between_by : (from to s : Slot) → is_between from to s ≡ not (is_le (slot_cmp s from)) && is_lt (slot_cmp s to)
between_by from to s =
    (λ j. is_lt (slots_total.antisymm from s j) && not (is_le (slots_total.antisymm to s j)))
    ∙ (λ j. behind_it (slot_cmp s from) j && before_it (slot_cmp s to) j)

module _ (p : Op) (from to : Mark) (run : edges_of p ≡ Some (from, to)) (tag : ℕ) (lit : Cell) (f : ℕ → ℕ) where
  abbrev at : Mark → Slot
  at m = record { place = tag; cell = lit; mark = m }

  -- what a slot adds to a sum over the numbers of subtables
  abbrev adds : Slot → ℕ
  adds s = cond (is_between (at from) (at to) s) (f (table_of s.mark)) 0

  -- the same of a subtable's slot, by the place and the cell
  pub adds_is : is_comparable lit ≡ true → (table place : ℕ) (a : Cell) → adds (record { place = place; cell = a; mark = mark.Table table }) ≡ cond (place == tag) (cond (cell_matches p a lit) (f table) 0) 0
  adds_is h table place a =
      let s : Slot = record { place = place; cell = a; mark = mark.Table table } in
      let r : Ordering = nat_cmp place tag in
      let k : Ordering = nat_cmp (kind_of a) (kind_of lit) in
      let o : Ordering = cell_order a lit in
      let inside : is_between (at from) (at to) s ≡ is_eq r && alike k (passes p o) =
      between_by (at from) (at to) s
      ∙ (λ j. not (is_le (edge_order table place tag a lit from j)) && is_lt (edge_order table place tag a lit to j))
      ∙ ap (λ e. is_in e r k o table) (ends p (from, to) run)
      ∙ in_place p (from, to) run r k o table in
      ap (λ b. cond b (f table) 0) inside
      ∙ cond_both (is_eq r) (alike k (passes p o)) (f table)
      ∙ (λ j. cond (same_place place tag j) (cond ((sym (compares_is p a lit h) ∙ sym (matches_is p (from, to) run a lit)) j) (f table) 0) 0)

  elsewhere : (x : ℕ) → tag < x → (x == tag) ≡ false
  elsewhere x h = grind (arith, nat_tests)

  ahead : (x : ℕ) → x < tag → (x == tag) ≡ false
  ahead x h = grind (arith, nat_tests)

  at_tag : (x : ℕ) → x ≡ tag → (x == tag) ≡ true
  at_tag x h = grind (arith, nat_tests)

  module _ (comparable : is_comparable lit ≡ true) where
    beyond : (table place : ℕ) (cells : List Cell) → tag < place → sum_by adds (slots_from table place cells) ≡ 0
    beyond table place [] h = refl
    beyond table place (a ∷ cells) h =
        let slot : Slot = record { place = place; cell = a; mark = mark.Table table } in
        let rest = beyond table (place + 1) cells (omega arith) in
        let first : adds slot ≡ 0 = adds_is comparable table place a ∙ ap (λ b. cond b (cond (cell_matches p a lit) (f table) 0) 0) (elsewhere place h) in
        let all = sum_by-cons adds slot (slots_from table (place + 1) cells) in
        omega arith

    here : (table place i : ℕ) (cells : List Cell) → place + i ≡ tag → sum_by adds (slots_from table place cells) ≡ cond (option_map_or (λ a. cell_matches p a lit) (slice_get cells i) false) (f table) 0
    here table place i [] h = refl
    here table place zero (a ∷ cells) h =
        let slot : Slot = record { place = place; cell = a; mark = mark.Table table } in
        let rest = beyond table (place + 1) cells (omega arith) in
        let first : adds slot ≡ cond (cell_matches p a lit) (f table) 0 = adds_is comparable table place a ∙ ap (λ b. cond b (cond (cell_matches p a lit) (f table) 0) 0) (at_tag place (omega arith)) in
        let all = sum_by-cons adds slot (slots_from table (place + 1) cells) in
        omega arith
    here table place (suc i) (a ∷ cells) h =
        let slot : Slot = record { place = place; cell = a; mark = mark.Table table } in
        let rest = here table (place + 1) i cells (omega arith) in
        let first : adds slot ≡ 0 = adds_is comparable table place a ∙ ap (λ b. cond b (cond (cell_matches p a lit) (f table) 0) 0) (ahead place (omega arith)) in
        let all = sum_by-cons adds slot (slots_from table (place + 1) cells) in
        let both : sum_by adds (slots_from table place (a ∷ cells)) ≡ sum_by adds (slots_from table (place + 1) cells) = omega arith in
        both ∙ rest

  of_subtable : is_comparable lit ≡ true → (s : Subtable) → sum_by adds (slots_of s) ≡ cond (tag_matches tag p lit s.tags) (f s.table) 0
  of_subtable h s = here h s.table 0 tag s.tags (omega arith)

-- ---- the edges of a run are apart
rises_by : (p : Op) (e : Mark × Mark) → edges_of p ≡ Some e → ordering_then (nat_cmp (kind_side (edges p).0) (kind_side (edges p).1)) (mark_order (edges p).0 (edges p).1) ≡ Less
rises_by op.Lt e h = refl
rises_by op.Le e h = refl
rises_by op.Gt e h = refl
rises_by op.Ge e h = refl
rises_by op.Eq e h = refl
rises_by op.Ne e h = absurd (cc)
rises_by op.IsNull e h = absurd (cc)
rises_by op.NotNull e h = absurd (cc)

rises : (p : Op) (e : Mark × Mark) → edges_of p ≡ Some e → (tag : ℕ) (lit : Cell) → slot_cmp (record { place = tag; cell = lit; mark = (edges p).0 }) (record { place = tag; cell = lit; mark = (edges p).1 }) ≡ Less
unfolding slot_cmp
rises p e h tag lit =
    (λ j. ordering_then (ordering_then (tied_itself nat_cmp_total tag j) (ordering_then (tied_itself nat_cmp_total (kind_of lit) j) (nat_cmp (kind_side (edges p).0) (kind_side (edges p).1))))
    (ordering_then (ordering_then (tied_itself int_cmp_total (number_or_nought lit) j) (tied_itself nat_list_cmp_total (text_or_empty lit) j)) (mark_order (edges p).0 (edges p).1)))
    ∙ rises_by p e h

pub edges-rise : (p : Op) (from to : Mark) → edges_of p ≡ Some (from, to) → (tag : ℕ) (lit : Cell) → slot_cmp (record { place = tag; cell = lit; mark = from }) (record { place = tag; cell = lit; mark = to }) ≡ Less
edges-rise p from to run tag lit =
    ap (λ (e : Mark × Mark). slot_cmp (record { place = tag; cell = lit; mark = e.0 }) (record { place = tag; cell = lit; mark = e.1 })) (ends p (from, to) run)
    ∙ rises p (from, to) run tag lit

-- ---- the answer
sum_matching : (f : ℕ → ℕ) (tag : ℕ) (p : Op) (lit : Cell) (subtables : List Subtable) → sum_by f (matching tag p lit (map subtable_of subtables)) ≡ sum_by (λ s. cond (tag_matches tag p lit s.tags) (f s.table) 0) subtables
sum_matching f tag p lit subtables =
    sum-map f (λ (s : ℕ × List Cell). s.0) (filter (λ s. tag_matches tag p lit s.1) (map subtable_of subtables))
    ∙ sum-filter (λ (s : ℕ × List Cell). f s.0) (λ s. tag_matches tag p lit s.1) (map subtable_of subtables)
    ∙ sum-map (λ (s : ℕ × List Cell). cond (tag_matches tag p lit s.1) (f s.0) 0) subtable_of subtables

-- the numbers between the edges are those of the subtables whose tag passes
pub between_is : (subtables : List Subtable) (slots : List Slot) → IsFiled subtables slots → (p : Op) (from to : Mark) → edges_of p ≡ Some (from, to) → (tag : ℕ) (lit : Cell) → is_comparable lit ≡ true → HasSame (map (λ s. table_of s.mark) (between (record { place = tag; cell = lit; mark = from }) (record { place = tag; cell = lit; mark = to }) slots)) (matching tag p lit (map subtable_of subtables))
between_is subtables slots filed p from to run tag lit h = λ f.
    let start : Slot = record { place = tag; cell = lit; mark = from } in
    let end : Slot = record { place = tag; cell = lit; mark = to } in
    sum-map f (λ (s : Slot). table_of s.mark) (between start end slots)
    ∙ sum-filter (λ (s : Slot). f (table_of s.mark)) (is_between start end) slots
    ∙ filed.same (adds p from to run tag lit f)
    ∙ sum-same (λ s. sum_by (adds p from to run tag lit f) (slots_of s)) (λ s. cond (tag_matches tag p lit s.tags) (f s.table) 0) (of_subtable p from to run tag lit f h) subtables
    ∙ sym (sum_matching f tag p lit subtables)

no_tag : (o : Option Cell) (p : Op) (e : Mark × Mark) → edges_of p ≡ Some e → (lit : Cell) → is_comparable lit ≡ false → option_map_or (λ a. cell_matches p a lit) o false ≡ false
no_tag None p e run lit h = refl
no_tag (Some a) p e run lit h = matches_is p e run a lit ∙ none_compares p a lit h

nothing : (p : Op) (e : Mark × Mark) → edges_of p ≡ Some e → (lit : Cell) → is_comparable lit ≡ false → (tag : ℕ) (f : ℕ → ℕ) (subtables : List Subtable) → sum_by (λ s. cond (tag_matches tag p lit s.tags) (f s.table) 0) subtables ≡ 0
nothing p e run lit h tag f [] = refl
nothing p e run lit h tag f (s ∷ subtables) =
    let rest = nothing p e run lit h tag f subtables in
    let first : cond (tag_matches tag p lit s.tags) (f s.table) 0 ≡ 0 = ap (λ b. cond b (f s.table) 0) (no_tag (slice_get s.tags tag) p e run lit h) in
    let all = sum_by-cons (λ (s : Subtable). cond (tag_matches tag p lit s.tags) (f s.table) 0) s subtables in
    omega arith

-- with a cell that doesn't compare no subtable passes
pub none_is : (subtables : List Subtable) (p : Op) (e : Mark × Mark) → edges_of p ≡ Some e → (tag : ℕ) (lit : Cell) → is_comparable lit ≡ false → HasSame {X = ℕ} [] (matching tag p lit (map subtable_of subtables))
none_is subtables p e run tag lit h = λ f. sym (sum_matching f tag p lit subtables ∙ nothing p e run lit h tag f subtables)

-- A scan of a range is part of a scan of a wider one, and what a scan finds damaged is among the table's faults.
use Rattle.std.proofs.Common.{◌≡◌, ◌⊎◌, inl, inr, ℕ, zero, suc, ◌+◌, ◌-◌, ◌<◌, ◌≤◌, Bool, true, false, cond, eqb, ltb, leb, ◌&&◌, List, [], ◌∷◌, ◌++◌, length, get_or, take, drop, Option, Some, None, Result, Ok, Err, refl, sym, ap, subst, ◌∙◌, arith}
use Rattle.std.specs.Prelude.{◌||◌, Contains}
use Rattle.std.specs.List.{filter}
use Rattle.std.proofs.lemmas.Bool.{and_parts}
use Rattle.std.proofs.lemmas.Bool.Decides.{nat_tests}
use Rattle.std.proofs.lemmas.List.{take-append-drop, drop-drop}
use Rattle.std.proofs.lemmas.List.Elements.{filter-append, Contains-append_left, Contains-append_right}
use Rattle.td_limits.specs.declared.limits.TheConstants.{LAST_TIMESTAMP}
use Rattle.td_cols.specs.declared.kinds.Kind.{Kind}
use Rattle.td_layer.specs.declared.values.Key.{Key}
use Rattle.td_layer.specs.declared.parts.Partial.{Partial}
use Rattle.td_codec.specs.Fields.{◌>>=◌, Read}
use Rattle.td_codec.proofs.FieldLaws.{bind_ok, passed, ok_is}
use Rattle.td_block.specs.declared.header.Head.{Head}
use Rattle.td_block.specs.Rows.{Rows, times_of}
use Rattle.td_block.specs.Blocks.{decoded}
use Rattle.td_block.specs.Headers.{head_found}
use Rattle.td_fileio.specs.Days.{is_in_day}
use Rattle.td_fileio.specs.Places.{Placed}
use Rattle.td_sttfile.specs.declared.format.FileCut.{FileCut}
use Rattle.td_sttfile.specs.declared.blocks.Found.{Found}
use Rattle.td_sttfile.specs.Opening.{opening_at}
use Rattle.td_sttfile.specs.Blocks.{is_behind, key_of, rows_checked, moved, own_length, own_found, own_at, Ends, ends_read, passed_at, other_found, is_outside, wanted_found, found_at, block_at}
use Rattle.td_sttfile.specs.Scanned.{Want, is_wanted, wanted_of, keyed, Walked, then_walk, walk, before_all, behind_opening, scanned}
use Rattle.td_sttfile.specs.Ranges.{narrowed, decoded_block, passed_block, place_in, then_faults, block_faults, faults_behind, faults_of}
use Rattle.td_sttfile.proofs.Heads.{moved_ok}
use Rattle.td_sttfile.proofs.Headers.{ends_rise, ends_in_time}
use Rattle.td_sttfile.proofs.Passing.{suit_self, decoded_passes, rows_end, passed_is}

-- ---- rows outside of a range

abbrev checked_to : Key → Result Key ℕ
checked_to key = Ok key

-- rows behind a key of their table come later
none_up_to : (range table lo hi place : ℕ) (last key : Key) (rows : Rows) → rows_checked range table last place rows ≡ Ok key → last.table ≡ table → hi ≤ last.ts → wanted_of lo hi rows ≡ []
none_up_to range table lo hi place last key [] e t h = refl
none_up_to range table lo hi place last key (row ∷ rows) e t h =
    let p = passed (is_behind last (key_of table row) && is_in_day range row.0) place (rows_checked range table (key_of table row) (place + 8) rows) key e in
    let behind = (and_parts (is_behind last (key_of table row)) (is_in_day range row.0) p.0).0 in
    let less = later last table row.0 t behind in
    let out : is_wanted lo hi row ≡ false = outside lo hi last.ts row.0 h less in
    ap (λ (b : Bool). cond b (row ∷ wanted_of lo hi rows) (wanted_of lo hi rows)) out
    ∙ none_up_to range table lo hi (place + 8) (key_of table row) key rows p.1 refl (omega arith)
  where
    later : (last : Key) (table ts : ℕ) → last.table ≡ table → is_behind last (record { table = table; ts = ts }) ≡ true → last.ts < ts
    later last table ts t b = grind (arith, nat_tests)

    outside : (lo hi at ts : ℕ) → hi ≤ at → at < ts → (leb lo ts && leb ts hi) ≡ false
    outside lo hi at ts h l = grind (arith, nat_tests)

-- the last key of rows behind a key of their table isn't before that
rises_to : (range table place : ℕ) (last key : Key) (rows : Rows) → rows_checked range table last place rows ≡ Ok key → last.table ≡ table → last.ts ≤ key.ts
rises_to range table place last key [] e t = subst (λ (k : Key). last.ts ≤ k.ts) (same e) (omega arith)
  where
    same : checked_to last ≡ checked_to key → last ≡ key
    same q = cc
rises_to range table place last key (row ∷ rows) e t =
    let p = passed (is_behind last (key_of table row) && is_in_day range row.0) place (rows_checked range table (key_of table row) (place + 8) rows) key e in
    let behind = (and_parts (is_behind last (key_of table row)) (is_in_day range row.0) p.0).0 in
    let less = later last table row.0 t behind in
    let rest = rises_to range table (place + 8) (key_of table row) key rows p.1 refl in
    omega arith
  where
    later : (last : Key) (table ts : ℕ) → last.table ≡ table → is_behind last (record { table = table; ts = ts }) ≡ true → last.ts < ts
    later last table ts t b = grind (arith, nat_tests)

none_from : (range table lo hi place : ℕ) (last key : Key) (rows : Rows) → rows_checked range table last place rows ≡ Ok key → key.ts < lo → wanted_of lo hi rows ≡ []
none_from range table lo hi place last key [] e h = refl
none_from range table lo hi place last key (row ∷ rows) e h =
    let p = passed (is_behind last (key_of table row) && is_in_day range row.0) place (rows_checked range table (key_of table row) (place + 8) rows) key e in
    let up = rises_to range table (place + 8) (key_of table row) key rows p.1 refl in
    ap (λ (b : Bool). cond b (row ∷ wanted_of lo hi rows) (wanted_of lo hi rows)) (outside lo hi key.ts row.0 up h)
    ∙ none_from range table lo hi (place + 8) (key_of table row) key rows p.1 h
  where
    outside : (lo hi at ts : ℕ) → ts ≤ at → at < lo → (leb lo ts && leb ts hi) ≡ false
    outside lo hi at ts h l = grind (arith, nat_tests)

-- no row is wanted of a block whose ends lie outside
none_wanted : (range table lo hi place : ℕ) (last key : Key) (rows : Rows) → rows_checked range table last place rows ≡ Ok key → (ltb key.ts lo || ltb hi (get_or (times_of rows) 0 0)) ≡ true → wanted_of lo hi rows ≡ []
none_wanted range table lo hi place last key [] e out = refl
none_wanted range table lo hi place last key (row ∷ rows) e out = by (ltb key.ts lo) refl out
  where
    by : (b : Bool) → ltb key.ts lo ≡ b → (b || ltb hi row.0) ≡ true → wanted_of lo hi (row ∷ rows) ≡ []
    by true low g = none_from range table lo hi place last key (row ∷ rows) e (below key.ts lo low)
      where
        below : (ts lo : ℕ) → ltb ts lo ≡ true → ts < lo
        below ts lo low = grind (arith, nat_tests)
    by false low g =
        let p = passed (is_behind last (key_of table row) && is_in_day range row.0) place (rows_checked range table (key_of table row) (place + 8) rows) key e in
        let above : hi < row.0 = over hi row.0 g in
        ap (λ (b : Bool). cond b (row ∷ wanted_of lo hi rows) (wanted_of lo hi rows)) (outside lo hi row.0 above)
        ∙ none_up_to range table lo hi (place + 8) (key_of table row) key rows p.1 refl (omega arith)
      where
        over : (hi ts : ℕ) → ltb hi ts ≡ true → hi < ts
        over hi ts g = grind (arith, nat_tests)

        outside : (lo hi ts : ℕ) → hi < ts → (leb lo ts && leb ts hi) ≡ false
        outside lo hi ts l = grind (arith, nat_tests)

-- ---- a block that could be decoded and passed over

abbrev taken : Found → Result Found ℕ
taken f = Ok f

abbrev perhaps : Option Found → Result (Option Found) ℕ
perhaps o = Ok o

abbrev pub without_rows : Found → Found
without_rows f = record { rows = []; next = f.next; last = f.last }

pub record Passes (kinds : List Kind) (table range : ℕ) (last : Key) (h : Head) (at : ℕ) (all : List ℕ) (ends : Ends × List ℕ) (f : Found) : Type 0 where
  pub passes : passed_at kinds range last h ends.0 ends.1 at all ≡ Ok (without_rows f)
  pub none : (lo hi : ℕ) → is_outside kinds lo hi h ends.0 ≡ true → wanted_of lo hi f.rows ≡ []

pub own_passes : (kinds : List Kind) (table range : ℕ) (last : Key) (h : Head) (at : ℕ) (all : List ℕ) (ends : Ends × List ℕ) (f : Found) → head_found (take 14 (drop at all)) ≡ Ok h → h.table ≡ table → ends_read h (drop (at + 14) all) ≡ Ok ends
    → own_at kinds table range last h at all ≡ Ok f → Passes kinds table range last h at all ends f
unfolding own_at
own_passes kinds table range last h at all ends f found same read e =
    let long = own_length kinds h in
    let part = take long (drop at all) in
    let t = bind_ok (moved at (decoded kinds part)) (own_found table range last at) f e in
    let b = t.0 in
    let u = bind_ok (rows_checked range table last (at + 14) b.rows) (λ (key : Key). taken (record { rows = b.rows; next = at + b.used; last = key })) f t.2 in
    let key = u.0 in
    let f_is : record { rows = b.rows; next = at + b.used; last = key } ≡ f = ok_is (record { rows = b.rows; next = at + b.used; last = key }) f u.2 in
    let p = decoded_passes kinds kinds h (drop at all) part (drop long (drop at all)) b (suit_self kinds) (sym (take-append-drop long (drop at all))) found (moved_ok at (decoded kinds part) b t.1) in
    let first = get_or (times_of b.rows) 0 0 in
    let end = get_or (times_of b.rows) (length b.rows - 1) 0 in
    let ends_are : ends ≡ ((first, end), p.rest) = ok_is ends ((first, end), p.rest) (sym read ∙ ap (ends_read h) (sym (drop-drop 14 at all)) ∙ p.ends) in
    let checked : rows_checked range h.table last (at + 14) b.rows ≡ Ok key = ap (λ (n : ℕ). rows_checked range n last (at + 14) b.rows) same ∙ u.1 in
    let over = passed_is kinds kinds range at last key h b all checked p in
    let key_end : key.ts ≡ end = ap (λ (k : Key). k.ts) (rows_end range table (at + 14) last key b.rows p.some u.1).key_is in
    subst (Passes kinds table range last h at all ends) f_is (
    record {
      passes = ap (λ (x : Ends × List ℕ). passed_at kinds range last h x.0 x.1 at all) ends_are ∙ over;
      none = λ lo hi out.
          let tests = (and_parts (eqb (length kinds) h.columns) (ltb ends.0.1 lo || ltb hi ends.0.0) out).1 in
          let there : (ltb key.ts lo || ltb hi first) ≡ true = ap (λ (ts : ℕ). ltb ts lo || ltb hi first) key_end ∙ sym (ap (λ (x : Ends × List ℕ). ltb x.0.1 lo || ltb hi x.0.0) ends_are) ∙ tests in
          none_wanted range table lo hi (at + 14) last key b.rows u.1 there;
    }
    )

-- ---- ranges

abbrev in_range : ℕ → ℕ → Key × Partial → Bool
in_range lo hi e = leb lo e.0.ts && leb e.0.ts hi

-- a timestamp of the range is one of the wider range
both_tests : (from lo hi to ts : ℕ) → from ≤ lo → hi ≤ to → (leb lo ts && leb ts hi) ≡ ((leb from ts && leb ts to) && (leb lo ts && leb ts hi))
both_tests from lo hi to ts h g = grind (arith, nat_tests)

rows_narrowed : (table from lo hi to : ℕ) (rows : Rows) → from ≤ lo → hi ≤ to → keyed table (wanted_of lo hi rows) ≡ filter (in_range lo hi) (keyed table (wanted_of from to rows))
rows_narrowed table from lo hi to [] h g = refl
rows_narrowed table from lo hi to (row ∷ rows) h g =
    ap (λ b. keyed table (cond b (row ∷ wanted_of lo hi rows) (wanted_of lo hi rows))) (both_tests from lo hi to row.0 h g)
    ∙ by (is_wanted from to row) (is_wanted lo hi row) refl (rows_narrowed table from lo hi to rows h g)
  where
    by : (wide near : Bool) → is_wanted lo hi row ≡ near → keyed table (wanted_of lo hi rows) ≡ filter (in_range lo hi) (keyed table (wanted_of from to rows))
        → keyed table (cond (wide && near) (row ∷ wanted_of lo hi rows) (wanted_of lo hi rows)) ≡ filter (in_range lo hi) (keyed table (cond wide (row ∷ wanted_of from to rows) (wanted_of from to rows)))
    by true true e i = ap (λ es. (key_of table row, row.1) ∷ es) i ∙ sym (ap (λ b. cond b ((key_of table row, row.1) ∷ filter (in_range lo hi) (keyed table (wanted_of from to rows))) (filter (in_range lo hi) (keyed table (wanted_of from to rows)))) e)
    by true false e i = i ∙ sym (ap (λ b. cond b ((key_of table row, row.1) ∷ filter (in_range lo hi) (keyed table (wanted_of from to rows))) (filter (in_range lo hi) (keyed table (wanted_of from to rows)))) e)
    by false near e i = i

module _ (table : ℕ) (kinds : List Kind) (from lo hi to : ℕ) (h : from ≤ lo) (g : hi ≤ to) where
  abbrev near : Want
  near = record { table = table; kinds = kinds; lo = lo; hi = hi }

  abbrev wide : Want
  wide = record { table = table; kinds = kinds; lo = from; hi = to }

  -- what a block gives of the range, where reading it for the wider one finds no fault: rows of the range alone, and the
  -- same end
  record Narrows (f n : Found) : Type 0 where
    next_is : n.next ≡ f.next
    last_is : n.last ≡ f.last
    rows_are : keyed table (wanted_of lo hi n.rows) ≡ filter (in_range lo hi) (keyed table (wanted_of from to f.rows))

  abbrev FoundGives : Result Found ℕ → Result Found ℕ → Type 0
  FoundGives (Err place) r = Unit {0}
  FoundGives (Ok f) r = (n : Found) × (r ≡ Ok n) × Narrows f n

  abbrev Gives : Result (Option Found) ℕ → Result (Option Found) ℕ → Type 0
  Gives (Err place) r = Unit {0}
  Gives (Ok None) r = r ≡ Ok None
  Gives (Ok (Some f)) r = (n : Found) × (r ≡ Ok (Some n)) × Narrows f n

  same_gives : (r : Result Found ℕ) → FoundGives r r
  same_gives (Err place) = tt
  same_gives (Ok f) = (f, refl, record { next_is = refl; last_is = refl; rows_are = rows_narrowed table from lo hi to f.rows h g })

  outside_more : (head : Head) (ends : Ends) → is_outside kinds from to head ends ≡ true → is_outside kinds lo hi head ends ≡ true
  outside_more head ends e = more (eqb (length kinds) head.columns) ends.0 ends.1 e
    where
      more : (t : Bool) (first last : ℕ) → (t && (ltb last from || ltb to first)) ≡ true → (t && (ltb last lo || ltb hi first)) ≡ true
      more true first last e = grind (arith, nat_tests)
      more false first last e = absurd cc

  own_narrowed : (range at : ℕ) (last : Key) (head : Head) (all : List ℕ) (ends : Ends × List ℕ) → head_found (take 14 (drop at all)) ≡ Ok head → head.table ≡ table → ends_read head (drop (at + 14) all) ≡ Ok ends → is_outside kinds lo hi head ends.0 ≡ true
      → FoundGives (own_at kinds table range last head at all) (passed_at kinds range last head ends.0 ends.1 at all)
  own_narrowed range at last head all ends found same read out = by (own_at kinds table range last head at all) refl
    where
      by : (r : Result Found ℕ) → own_at kinds table range last head at all ≡ r → FoundGives r (passed_at kinds range last head ends.0 ends.1 at all)
      by (Err place) e = tt
      by (Ok f) e =
          let p = own_passes kinds table range last head at all ends f found same read e in
          (without_rows f, p.passes, record { next_is = refl; last_is = refl; rows_are = sym (ap (keyed table) (p.none lo hi out)) ∙ rows_narrowed table from lo hi to f.rows h g })

  found_narrowed : (range at : ℕ) (last : Key) (head : Head) (all : List ℕ) → head_found (take 14 (drop at all)) ≡ Ok head → ltb table head.table ≡ false
      → FoundGives (found_at kinds table from to range last head at all) (found_at kinds table lo hi range last head at all)
  unfolding found_at
  found_narrowed range at last head all found above = by (ltb head.table table) refl (ends_read head (drop (at + 14) all)) refl
    where
      equal : (a b : ℕ) → ltb a b ≡ false → ltb b a ≡ false → a ≡ b
      equal a b p q = grind (arith, nat_tests)

      clash : true ≡ false → ⊥
      clash q = cc

      by_range : (ends : Ends × List ℕ) (w n : Bool) → ltb head.table table ≡ false → ends_read head (drop (at + 14) all) ≡ Ok ends → is_outside kinds from to head ends.0 ≡ w → is_outside kinds lo hi head ends.0 ≡ n
          → FoundGives (cond w (passed_at kinds range last head ends.0 ends.1 at all) (own_at kinds table range last head at all)) (cond n (passed_at kinds range last head ends.0 ends.1 at all) (own_at kinds table range last head at all))
      by_range ends true true below read ew en = same_gives (passed_at kinds range last head ends.0 ends.1 at all)
      by_range ends true false below read ew en = absurd (clash (sym (outside_more head ends.0 ew) ∙ en))
      by_range ends false true below read ew en = own_narrowed range at last head all ends found (equal head.table table below above) read en
      by_range ends false false below read ew en = same_gives (own_at kinds table range last head at all)

      by : (b : Bool) → ltb head.table table ≡ b → (r : Read Ends) → ends_read head (drop (at + 14) all) ≡ r
          → FoundGives (cond b (other_found range last head at all r) (wanted_found kinds table from to range last head at all r)) (cond b (other_found range last head at all r) (wanted_found kinds table lo hi range last head at all r))
      by true below r read = same_gives (other_found range last head at all r)
      by false below (Err left) read = same_gives (own_at kinds table range last head at all)
      by false below (Ok ends) read = by_range ends (is_outside kinds from to head ends.0) (is_outside kinds lo hi head ends.0) below read refl refl

  -- what is behind the head
  abbrev headed : ℕ → ℕ → ℕ → Key → ℕ → List ℕ → Head → Result (Option Found) ℕ
  headed a b range last at all head =
      cond (ltb head.table last.table) (Err (at + 4)) (cond (ltb table head.table) (perhaps None) (found_at kinds table a b range last head at all >>= λ f. perhaps (Some f)))

  block_narrowed : (range at : ℕ) (last : Key) (all : List ℕ) → Gives (block_at kinds table from to range last at all) (block_at kinds table lo hi range last at all)
  unfolding block_at
  block_narrowed range at last all = by_head (head_found (take 14 (drop at all))) refl
    where
      some_of : (r n : Result Found ℕ) → FoundGives r n → Gives (r >>= λ f. perhaps (Some f)) (n >>= λ f. perhaps (Some f))
      some_of (Err place) n gives = tt
      some_of (Ok f) n gives = (gives.0, ap (λ (r : Result Found ℕ). r >>= λ f. perhaps (Some f)) gives.1, gives.2)

      by_table : (head : Head) (falls above : Bool) → head_found (take 14 (drop at all)) ≡ Ok head → ltb table head.table ≡ above
          → Gives (cond falls (Err (at + 4)) (cond above (perhaps None) (found_at kinds table from to range last head at all >>= λ f. perhaps (Some f)))) (cond falls (Err (at + 4)) (cond above (perhaps None) (found_at kinds table lo hi range last head at all >>= λ f. perhaps (Some f))))
      by_table head true above found e = tt
      by_table head false true found e = refl
      by_table head false false found e = some_of (found_at kinds table from to range last head at all) (found_at kinds table lo hi range last head at all) (found_narrowed range at last head all found e)

      by_head : (r : Result Head ℕ) → head_found (take 14 (drop at all)) ≡ r → Gives (moved at r >>= headed from to range last at all) (moved at r >>= headed lo hi range last at all)
      by_head (Err place) e = tt
      by_head (Ok head) e = by_table head (ltb head.table last.table) (ltb table head.table) e refl

  then_narrowed : (a b : ℕ → Key → Walked) (r n : Result (Option Found) ℕ) → Gives r n → (then_walk wide b r).fault ≡ None → ((at : ℕ) (last : Key) → (b at last).fault ≡ None → a at last ≡ narrowed lo hi (b at last))
      → then_walk near a n ≡ narrowed lo hi (then_walk wide b r)
  then_narrowed a b (Err place) n gives e same = absurd (cc)
  then_narrowed a b (Ok None) n gives e same = ap (then_walk near a) gives
  then_narrowed a b (Ok (Some f)) n gives e same =
      let k = gives.2 in
      let rest : a gives.0.next gives.0.last ≡ narrowed lo hi (b f.next f.last) = ap (λ (at : ℕ). a at gives.0.last) k.next_is ∙ ap (a f.next) k.last_is ∙ same f.next f.last e in
      let partials : keyed table (wanted_of lo hi gives.0.rows) ++ (a gives.0.next gives.0.last).partials ≡ filter (in_range lo hi) (keyed table (wanted_of from to f.rows) ++ (b f.next f.last).partials) =
      (λ i. k.rows_are i ++ (rest i).partials) ∙ sym (filter-append (in_range lo hi) (keyed table (wanted_of from to f.rows)) (b f.next f.last).partials) in
      let joined : then_walk near a (Ok (Some gives.0)) ≡ narrowed lo hi (then_walk wide b (Ok (Some f))) = λ i. record { partials = partials i; fault = (rest i).fault } in
      ap (then_walk near a) gives.1 ∙ joined

  walk_narrowed : (range : ℕ) (all : List ℕ) (blocks at : ℕ) (last : Key) → (walk wide range all blocks at last).fault ≡ None → walk near range all blocks at last ≡ narrowed lo hi (walk wide range all blocks at last)
  unfolding walk
  walk_narrowed range all zero at last e = refl
  walk_narrowed range all (suc blocks) at last e =
      then_narrowed (walk near range all blocks) (walk wide range all blocks) (block_at kinds table from to range last at all) (block_at kinds table lo hi range last at all) (block_narrowed range at last all) e (walk_narrowed range all blocks)

  behind_narrowed : (all : List ℕ) (o : Placed (ℕ × (ℕ × (List FileCut × ℕ)))) → (behind_opening wide all o).fault ≡ None → behind_opening near all o ≡ narrowed lo hi (behind_opening wide all o)
  behind_narrowed all (Err place) e = absurd (cc)
  behind_narrowed all (Ok o) e = walk_narrowed o.0.1.0 all o.0.1.1.1 o.1 before_all e

  pub scan_narrowed : (all : List ℕ) → (scanned wide all).fault ≡ None → scanned near all ≡ narrowed lo hi (scanned wide all)
  unfolding scanned
  scan_narrowed all e = behind_narrowed all (opening_at all) e

-- ---- faults

some_is : {X : Type 0} (x y : X) → Some x ≡ Some y → x ≡ y
some_is x y e = cc

here : (xs : List ℕ) (place found : ℕ) → found ≡ place → Contains (found ∷ xs) place
here xs place found e = subst (λ (p : ℕ). Contains (found ∷ xs) p) e (0, omega arith, refl)

abbrev first_wanted : ℕ
first_wanted = LAST_TIMESTAMP + 1

module _ (want : Want) where
  -- a block is decoded or passed over
  found_either : (range at : ℕ) (last : Key) (head : Head) (all : List ℕ)
      → (found_at want.kinds want.table want.lo want.hi range last head at all ≡ found_at want.kinds want.table 0 LAST_TIMESTAMP range last head at all) ⊎ (found_at want.kinds want.table want.lo want.hi range last head at all ≡ found_at want.kinds want.table first_wanted LAST_TIMESTAMP range last head at all)
  unfolding found_at
  found_either range at last head all = by (ltb head.table want.table) (ends_read head (drop (at + 14) all)) refl
    where
      over : Ends × List ℕ → Result Found ℕ
      over ends = passed_at want.kinds range last head ends.0 ends.1 at all

      own : Result Found ℕ
      own = own_at want.kinds want.table range last head at all

      inside : (t : Bool) (first last : ℕ) → first ≤ LAST_TIMESTAMP → (t && (ltb last 0 || ltb LAST_TIMESTAMP first)) ≡ false
      inside true first last le = grind (arith, nat_tests)
      inside false first last le = refl

      outside : (t : Bool) (first last : ℕ) → last ≤ LAST_TIMESTAMP → (t && (ltb last want.lo || ltb want.hi first)) ≡ true → (t && (ltb last first_wanted || ltb LAST_TIMESTAMP first)) ≡ true
      outside true first last le e = grind (arith, nat_tests)
      outside false first last le e = absurd cc

      by_range : (ends : Ends × List ℕ) (b : Bool) → ends.0.0 ≤ ends.0.1 → ends.0.1 ≤ LAST_TIMESTAMP → is_outside want.kinds want.lo want.hi head ends.0 ≡ b
          → (cond b (over ends) own ≡ cond (is_outside want.kinds 0 LAST_TIMESTAMP head ends.0) (over ends) own) ⊎ (cond b (over ends) own ≡ cond (is_outside want.kinds first_wanted LAST_TIMESTAMP head ends.0) (over ends) own)
      by_range ends true rise le e = inr (sym (ap (λ (b : Bool). cond b (over ends) own) (outside (eqb (length want.kinds) head.columns) ends.0.0 ends.0.1 le e)))
      by_range ends false rise le e = inl (sym (ap (λ (b : Bool). cond b (over ends) own) (inside (eqb (length want.kinds) head.columns) ends.0.0 ends.0.1 (omega (arith, rise, le)))))

      by : (b : Bool) (r : Read Ends) → ends_read head (drop (at + 14) all) ≡ r
          → (cond b (other_found range last head at all r) (wanted_found want.kinds want.table want.lo want.hi range last head at all r) ≡ cond b (other_found range last head at all r) (wanted_found want.kinds want.table 0 LAST_TIMESTAMP range last head at all r))
          ⊎ (cond b (other_found range last head at all r) (wanted_found want.kinds want.table want.lo want.hi range last head at all r) ≡ cond b (other_found range last head at all r) (wanted_found want.kinds want.table first_wanted LAST_TIMESTAMP range last head at all r))
      by true r e = inl refl
      by false (Err left) e = inl refl
      by false (Ok ends) e = by_range ends (is_outside want.kinds want.lo want.hi head ends.0) (ends_rise head (drop (at + 14) all) ends e) (ends_in_time head (drop (at + 14) all) ends e) refl

  block_either : (range at : ℕ) (last : Key) (all : List ℕ)
      → (block_at want.kinds want.table want.lo want.hi range last at all ≡ decoded_block want.kinds want.table range last at all) ⊎ (block_at want.kinds want.table want.lo want.hi range last at all ≡ passed_block want.kinds want.table range last at all)
  unfolding block_at
  block_either range at last all = by (moved at (head_found (take 14 (drop at all))))
    where
      of_head : Head → Result Found ℕ → Result (Option Found) ℕ
      of_head head r = cond (ltb head.table last.table) (Err (at + 4)) (cond (ltb want.table head.table) (perhaps None) (r >>= λ f. perhaps (Some f)))

      both : (head : Head) (a b c : Result Found ℕ) → (a ≡ b) ⊎ (a ≡ c) → (of_head head a ≡ of_head head b) ⊎ (of_head head a ≡ of_head head c)
      both head a b c (inl e) = inl (ap (of_head head) e)
      both head a b c (inr e) = inr (ap (of_head head) e)

      by : (r : Result Head ℕ) → ((r >>= λ head. of_head head (found_at want.kinds want.table want.lo want.hi range last head at all)) ≡ (r >>= λ head. of_head head (found_at want.kinds want.table 0 LAST_TIMESTAMP range last head at all)))
          ⊎ ((r >>= λ head. of_head head (found_at want.kinds want.table want.lo want.hi range last head at all)) ≡ (r >>= λ head. of_head head (found_at want.kinds want.table first_wanted LAST_TIMESTAMP range last head at all)))
      by (Err place) = inl refl
      by (Ok head) = both head (found_at want.kinds want.table want.lo want.hi range last head at all) (found_at want.kinds want.table 0 LAST_TIMESTAMP range last head at all) (found_at want.kinds want.table first_wanted LAST_TIMESTAMP range last head at all) (found_either range at last head all)

  -- a block that can be decoded can be passed over, with the same end
  abbrev Links : Result (Option Found) ℕ → Result (Option Found) ℕ → Type 0
  Links (Err place) s = Unit {0}
  Links (Ok None) s = Unit {0}
  Links (Ok (Some f)) s = (n : Found) × (s ≡ Ok (Some n)) × (n.next ≡ f.next) × (n.last ≡ f.last)

  block_links : (range at : ℕ) (last : Key) (all : List ℕ) → Links (decoded_block want.kinds want.table range last at all) (passed_block want.kinds want.table range last at all)
  block_links range at last all = by (decoded_block want.kinds want.table range last at all) (passed_block want.kinds want.table range last at all) (block_narrowed want.table want.kinds 0 first_wanted LAST_TIMESTAMP LAST_TIMESTAMP (omega arith) (omega arith) range at last all)
    where
      by : (r s : Result (Option Found) ℕ) → Gives want.table want.kinds 0 first_wanted LAST_TIMESTAMP LAST_TIMESTAMP (omega arith) (omega arith) r s → Links r s
      by (Err place) s gives = tt
      by (Ok None) s gives = tt
      by (Ok (Some f)) s gives = (gives.0, gives.1, gives.2.next_is, gives.2.last_is)

  -- what was found damaged of a block, or behind it, is among the places
  by_decoded : (walked : ℕ → Key → Walked) (faults : ℕ → Key → List ℕ) (place : ℕ) (r s : Result (Option Found) ℕ) → Links r s → (then_walk want walked r).fault ≡ Some place → ((at : ℕ) (last : Key) → (walked at last).fault ≡ Some place → Contains (faults at last) place)
      → Contains ((place_in r ++ place_in s) ++ then_faults faults s) place
  by_decoded walked faults place (Err found) s links e others = Contains-append_left ((found ∷ []) ++ place_in s) (then_faults faults s) place (Contains-append_left (found ∷ []) (place_in s) place (here [] place found (some_is found place e)))
  by_decoded walked faults place (Ok None) s links e others = absurd cc
  by_decoded walked faults place (Ok (Some f)) s links e others =
      let rest : Contains (faults f.next f.last) place = others f.next f.last e in
      let same : faults f.next f.last ≡ then_faults faults s = sym (ap (then_faults faults) links.1 ∙ ap (λ (at : ℕ). faults at links.0.last) links.2 ∙ ap (faults f.next) links.3) in
      Contains-append_right (place_in s) (then_faults faults s) place (subst (λ (l : List ℕ). Contains l place) same rest)

  by_passed : (walked : ℕ → Key → Walked) (faults : ℕ → Key → List ℕ) (place : ℕ) (r s : Result (Option Found) ℕ) → (then_walk want walked s).fault ≡ Some place → ((at : ℕ) (last : Key) → (walked at last).fault ≡ Some place → Contains (faults at last) place)
      → Contains ((place_in r ++ place_in s) ++ then_faults faults s) place
  by_passed walked faults place r (Err found) e others = Contains-append_left (place_in r ++ found ∷ []) [] place (Contains-append_right (place_in r) (found ∷ []) place (here [] place found (some_is found place e)))
  by_passed walked faults place r (Ok None) e others = absurd cc
  by_passed walked faults place r (Ok (Some f)) e others = Contains-append_right (place_in r ++ []) (faults f.next f.last) place (others f.next f.last e)

  walk_fault : (range : ℕ) (all : List ℕ) (blocks at : ℕ) (last : Key) (place : ℕ) → (walk want range all blocks at last).fault ≡ Some place → Contains (block_faults want.kinds want.table range all blocks at last) place
  unfolding walk block_faults
  walk_fault range all zero at last place e = absurd cc
  walk_fault range all (suc blocks) at last place e = by (block_either range at last all) (λ next end q. walk_fault range all blocks next end place q)
    where
      r : Result (Option Found) ℕ
      r = decoded_block want.kinds want.table range last at all

      s : Result (Option Found) ℕ
      s = passed_block want.kinds want.table range last at all

      mine : Result (Option Found) ℕ
      mine = block_at want.kinds want.table want.lo want.hi range last at all

      by : (mine ≡ r) ⊎ (mine ≡ s) → ((next : ℕ) (end : Key) → (walk want range all blocks next end).fault ≡ Some place → Contains (block_faults want.kinds want.table range all blocks next end) place)
          → Contains ((place_in r ++ place_in s) ++ then_faults (block_faults want.kinds want.table range all blocks) s) place
      by (inl q) others = by_decoded (walk want range all blocks) (block_faults want.kinds want.table range all blocks) place r s (block_links range at last all) (sym (ap (λ (x : Result (Option Found) ℕ). (then_walk want (walk want range all blocks) x).fault) q) ∙ e) others
      by (inr q) others = by_passed (walk want range all blocks) (block_faults want.kinds want.table range all blocks) place r s (sym (ap (λ (x : Result (Option Found) ℕ). (then_walk want (walk want range all blocks) x).fault) q) ∙ e) others

  behind_fault : (all : List ℕ) (o : Placed (ℕ × (ℕ × (List FileCut × ℕ)))) (at : ℕ) → (behind_opening want all o).fault ≡ Some at → Contains (faults_behind want.table want.kinds all o) at
  behind_fault all (Err place) at e = here [] at place (some_is place at e)
  behind_fault all (Ok o) at e = walk_fault o.0.1.0 all o.0.1.1.1 o.1 before_all at e

  pub fault_among : (all : List ℕ) (at : ℕ) → (scanned want all).fault ≡ Some at → Contains (faults_of want.table want.kinds all) at
  unfolding scanned faults_of
  fault_among all at e = behind_fault all (opening_at all) at e

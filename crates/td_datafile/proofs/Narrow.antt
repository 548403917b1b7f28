-- A scan of a range is part of a scan of a wider one, and what a scan finds damaged is among the table's faults.
use Rattle.std.proofs.Common.{◌≡◌, ℕ, ◌+◌, ◌<◌, ◌≤◌, Bool, true, false, cond, eqb, leb, not, ◌&&◌, List, [], ◌∷◌, ◌++◌, length, take, drop, Some, None, Result, Ok, Err, refl, sym, ap, ◌∙◌, subst, arith}
use Rattle.std.specs.Prelude.{slice_index, Contains}
use Rattle.std.specs.List.{filter}
use Rattle.std.proofs.lemmas.Bool.{and_parts, eqb-true}
use Rattle.std.proofs.lemmas.Bool.Decides.{nat_tests}
use Rattle.std.proofs.lemmas.List.Elements.{filter-append, Contains-append_left, Contains-append_right}
use Rattle.td_cols.specs.declared.kinds.Kind.{Kind}
use Rattle.td_layer.specs.declared.values.Key.{Key}
use Rattle.td_layer.specs.declared.parts.Partial.{Partial}
use Rattle.td_codec.specs.Fields.{◌>>=◌}
use Rattle.td_codec.proofs.FieldLaws.{bind_ok, passed, passed_by, ok_is}
use Rattle.td_block.specs.declared.block.Block.{Block}
use Rattle.td_block.specs.declared.header.Head.{Head}
use Rattle.td_block.specs.Rows.{Rows, times_of}
use Rattle.td_block.specs.Headers.{head_found}
use Rattle.td_fileio.specs.Days.{is_in_day}
use Rattle.td_datafile.specs.declared.format.Entry.{Entry}
use Rattle.td_datafile.specs.declared.opening.Opening.{Opening}
use Rattle.td_datafile.specs.Opening.{opening_at}
use Rattle.td_datafile.specs.Blocks.{is_behind, key_of, rows_checked, moved, own_length, whole_decoded, entry_length, agreeing, checked_rows, own_block}
use Rattle.td_datafile.specs.Scanned.{Want, is_wanted, wanted_of, keyed, is_needed, Walked, wanted_block, then_walk, last_key, walk, before_all, behind_opening, scanned}
use Rattle.td_datafile.specs.Ranges.{narrowed, place_in, block_faults, faults_behind, faults_of}

abbrev rows_found : Rows → Result Rows ℕ
rows_found rows = Ok rows

abbrev fault_at : ℕ → Result Rows ℕ
fault_at place = Err place

abbrev checked_to : Key → Result Key ℕ
checked_to key = Ok key

-- ---- the timestamps of a block

-- rows behind a key of their table come later
none_up_to : (range table lo hi place : ℕ) (last key : Key) (rows : Rows) → rows_checked range table last place rows ≡ Ok key → last.table ≡ table → hi ≤ last.ts → wanted_of lo hi rows ≡ []
none_up_to range table lo hi place last key [] e t h = refl
none_up_to range table lo hi place last key (row ∷ rows) e t h =
    let p = passed (is_behind last (key_of table row) && is_in_day range row.0) place (rows_checked range table (key_of table row) (place + 8) rows) key e in
    let behind = (and_parts (is_behind last (key_of table row)) (is_in_day range row.0) p.0).0 in
    let less = later last table row.0 t behind in
    let out : is_wanted lo hi row ≡ false = outside lo hi last.ts row.0 h less in
    ap (λ (b : Bool). cond b (row ∷ wanted_of lo hi rows) (wanted_of lo hi rows)) out
    ∙ none_up_to range table lo hi (place + 8) (key_of table row) key rows p.1 refl (omega arith)
  where
    later : (last : Key) (table ts : ℕ) → last.table ≡ table → is_behind last (record { table = table; ts = ts }) ≡ true → last.ts < ts
    later last table ts t b = grind (arith, nat_tests)

    outside : (lo hi at ts : ℕ) → hi ≤ at → at < ts → (leb lo ts && leb ts hi) ≡ false
    outside lo hi at ts h l = grind (arith, nat_tests)

-- the last key of rows behind a key of their table isn't before that
rises_to : (range table place : ℕ) (last key : Key) (rows : Rows) → rows_checked range table last place rows ≡ Ok key → last.table ≡ table → last.ts ≤ key.ts
rises_to range table place last key [] e t = subst (λ (k : Key). last.ts ≤ k.ts) (same e) (omega arith)
  where
    same : checked_to last ≡ checked_to key → last ≡ key
    same q = cc
rises_to range table place last key (row ∷ rows) e t =
    let p = passed (is_behind last (key_of table row) && is_in_day range row.0) place (rows_checked range table (key_of table row) (place + 8) rows) key e in
    let behind = (and_parts (is_behind last (key_of table row)) (is_in_day range row.0) p.0).0 in
    let less = later last table row.0 t behind in
    let rest = rises_to range table (place + 8) (key_of table row) key rows p.1 refl in
    omega arith
  where
    later : (last : Key) (table ts : ℕ) → last.table ≡ table → is_behind last (record { table = table; ts = ts }) ≡ true → last.ts < ts
    later last table ts t b = grind (arith, nat_tests)

none_from : (range table lo hi place : ℕ) (last key : Key) (rows : Rows) → rows_checked range table last place rows ≡ Ok key → key.ts < lo → wanted_of lo hi rows ≡ []
none_from range table lo hi place last key [] e h = refl
none_from range table lo hi place last key (row ∷ rows) e h =
    let p = passed (is_behind last (key_of table row) && is_in_day range row.0) place (rows_checked range table (key_of table row) (place + 8) rows) key e in
    let up = rises_to range table (place + 8) (key_of table row) key rows p.1 refl in
    ap (λ (b : Bool). cond b (row ∷ wanted_of lo hi rows) (wanted_of lo hi rows)) (outside lo hi key.ts row.0 up h)
    ∙ none_from range table lo hi (place + 8) (key_of table row) key rows p.1 h
  where
    outside : (lo hi at ts : ℕ) → ts ≤ at → at < lo → (leb lo ts && leb ts hi) ≡ false
    outside lo hi at ts h l = grind (arith, nat_tests)

-- what is known of the rows of an entry's block
record IsBlockOf (range place : ℕ) (last : Key) (e : Entry) (rows : Rows) : Type 0 where
  key : Key
  checked : rows_checked range e.table last place rows ≡ Ok key
  first_is : slice_index (times_of rows) 0 ≡ e.first
  last_is : key.ts ≡ e.last

agrees : (place columns : ℕ) (e : Entry) (b : Block) (last : ℕ) (rows : Rows) → agreeing place columns e b last ≡ Ok rows → (slice_index (times_of b.rows) 0 ≡ e.first) × ((last ≡ e.last) × (b.rows ≡ rows))
agrees place columns e b last rows is =
    let five = cond (not (eqb (length e.columns) columns)) (Err (place + 36)) (rows_found b.rows) in
    let four = cond (not (eqb last e.last)) (Err (place + 28)) five in
    let three = cond (not (eqb (slice_index (times_of b.rows) 0) e.first)) (Err (place + 20)) four in
    let two = cond (not (eqb (length b.rows) e.rows)) (Err (place + 16)) three in
    let p = passed_by (not (eqb b.used e.size)) (place + 8) two rows is in
    let q = passed_by (not (eqb (length b.rows) e.rows)) (place + 16) three rows p.1 in
    let r = passed_by (not (eqb (slice_index (times_of b.rows) 0) e.first)) (place + 20) four rows q.1 in
    let s = passed_by (not (eqb last e.last)) (place + 28) five rows r.1 in
    let t = passed_by (not (eqb (length e.columns) columns)) (place + 36) (rows_found b.rows) rows s.1 in
    (eqb-true (slice_index (times_of b.rows) 0) e.first (double (eqb (slice_index (times_of b.rows) 0) e.first) r.0), (eqb-true last e.last (double (eqb last e.last) s.0), ok_is b.rows rows t.1)) where
      double : (b : Bool) → not b ≡ false → b ≡ true
      double true q = refl
      double false q = sym q

abbrev headed : List Kind → ℕ → Key → ℕ → Entry → List ℕ → Head → Result Rows ℕ
headed kinds range last place e all h = cond (eqb h.table e.table) (moved e.offset (whole_decoded kinds h.rows (take (own_length kinds h) (drop e.offset all)))) (Err (place + 12)) >>= checked_rows range last place (length kinds) e

own_is : (kinds : List Kind) (range place : ℕ) (last : Key) (e : Entry) (all : List ℕ) (rows : Rows) → own_block kinds range last place e all ≡ Ok rows → IsBlockOf range (e.offset + 14) last e rows
unfolding own_block
own_is kinds range place last e all rows is =
    let t = bind_ok (moved e.offset (head_found (take 14 (drop e.offset all)))) (headed kinds range last place e all) rows is in
    let u = bind_ok (cond (eqb t.0.table e.table) (moved e.offset (whole_decoded kinds t.0.rows (take (own_length kinds t.0) (drop e.offset all)))) (Err (place + 12))) (checked_rows range last place (length kinds) e) rows t.2 in
    let b = u.0 in
    let v = bind_ok (rows_checked range e.table last (e.offset + 14) b.rows) (λ (key : Key). agreeing place (length kinds) e b key.ts) rows u.2 in
    let a = agrees place (length kinds) e b v.0.ts rows v.2 in
    subst (λ (l : Rows). IsBlockOf range (e.offset + 14) last e l) a.1.1 (record { key = v.0; checked = v.1; first_is = a.0; last_is = a.1.0 })

-- no row of a block is wanted whose timestamps lie outside
none_wanted : (range place lo hi : ℕ) (last : Key) (e : Entry) (rows : Rows) → IsBlockOf range place last e rows → (leb lo e.last && leb e.first hi) ≡ false → wanted_of lo hi rows ≡ []
none_wanted range place lo hi last e [] b h = refl
none_wanted range place lo hi last e (row ∷ rows) b h = by (leb lo e.last) refl h
  where
    by : (c : Bool) → leb lo e.last ≡ c → (c && leb e.first hi) ≡ false → wanted_of lo hi (row ∷ rows) ≡ []
    by false low g = none_from range e.table lo hi place last b.key (row ∷ rows) b.checked (below lo b.key.ts e.last b.last_is low)
      where
        below : (lo at last : ℕ) → at ≡ last → leb lo last ≡ false → at < lo
        below lo at last is low = grind (arith, nat_tests)
    by true low g =
        let p = passed (is_behind last (key_of e.table row) && is_in_day range row.0) place (rows_checked range e.table (key_of e.table row) (place + 8) rows) b.key b.checked in
        let first : row.0 ≡ e.first = b.first_is in
        let above : hi < row.0 = over hi e.first row.0 first g in
        ap (λ (b : Bool). cond b (row ∷ wanted_of lo hi rows) (wanted_of lo hi rows)) (outside lo hi row.0 above)
        ∙ none_up_to range e.table lo hi (place + 8) (key_of e.table row) b.key rows p.1 refl (omega arith)
      where
        over : (hi first at : ℕ) → at ≡ first → leb first hi ≡ false → hi < at
        over hi first at is g = grind (arith, nat_tests)

        outside : (lo hi ts : ℕ) → hi < ts → (leb lo ts && leb ts hi) ≡ false
        outside lo hi ts l = grind (arith, nat_tests)

-- ---- ranges

abbrev in_range : ℕ → ℕ → Key × Partial → Bool
in_range lo hi e = leb lo e.0.ts && leb e.0.ts hi

-- a timestamp of the range is one of the wider range
both_tests : (from lo hi to ts : ℕ) → from ≤ lo → hi ≤ to → (leb lo ts && leb ts hi) ≡ ((leb from ts && leb ts to) && (leb lo ts && leb ts hi))
both_tests from lo hi to ts h g = grind (arith, nat_tests)

rows_narrowed : (table from lo hi to : ℕ) (rows : Rows) → from ≤ lo → hi ≤ to → keyed table (wanted_of lo hi rows) ≡ filter (in_range lo hi) (keyed table (wanted_of from to rows))
rows_narrowed table from lo hi to [] h g = refl
rows_narrowed table from lo hi to (row ∷ rows) h g =
    ap (λ b. keyed table (cond b (row ∷ wanted_of lo hi rows) (wanted_of lo hi rows))) (both_tests from lo hi to row.0 h g)
    ∙ by (is_wanted from to row) (is_wanted lo hi row) refl (rows_narrowed table from lo hi to rows h g)
  where
    by : (wide near : Bool) → is_wanted lo hi row ≡ near → keyed table (wanted_of lo hi rows) ≡ filter (in_range lo hi) (keyed table (wanted_of from to rows))
        → keyed table (cond (wide && near) (row ∷ wanted_of lo hi rows) (wanted_of lo hi rows)) ≡ filter (in_range lo hi) (keyed table (cond wide (row ∷ wanted_of from to rows) (wanted_of from to rows)))
    by true true e i = ap (λ es. (key_of table row, row.1) ∷ es) i ∙ sym (ap (λ b. cond b ((key_of table row, row.1) ∷ filter (in_range lo hi) (keyed table (wanted_of from to rows))) (filter (in_range lo hi) (keyed table (wanted_of from to rows)))) e)
    by true false e i = i ∙ sym (ap (λ b. cond b ((key_of table row, row.1) ∷ filter (in_range lo hi) (keyed table (wanted_of from to rows))) (filter (in_range lo hi) (keyed table (wanted_of from to rows)))) e)
    by false near e i = i

module _ (table : ℕ) (kinds : List Kind) (from lo hi to : ℕ) (h : from ≤ lo) (g : hi ≤ to) where
  abbrev near : Want
  near = record { table = table; kinds = kinds; lo = lo; hi = hi }

  abbrev wide : Want
  wide = record { table = table; kinds = kinds; lo = from; hi = to }

  -- what a block gives of the range, where reading it finds no fault
  abbrev Gives : Result Rows ℕ → Result Rows ℕ → Type 0
  Gives (Ok rows) r = (found : Rows) × (r ≡ Ok found) × (keyed table found ≡ filter (in_range lo hi) (keyed table rows))
  Gives (Err place) r = Unit {0}

  needed_more : (e : Entry) → is_needed near e ≡ true → is_needed wide e ≡ true
  needed_more e n = more (eqb e.table table) e.first e.last n
    where
      more : (t : Bool) (first last : ℕ) → (t && (leb lo last && leb first hi)) ≡ true → (t && (leb from last && leb first to)) ≡ true
      more true first last n = grind (arith, nat_tests)
      more false first last n = absurd (cc)

  block_narrowed : (range place : ℕ) (last : Key) (e : Entry) (all : List ℕ) → Gives (wanted_block wide range last place e all) (wanted_block near range last place e all)
  block_narrowed range place last e all = by (is_needed near e) (is_needed wide e) refl refl (own_block kinds range last place e all) refl
    where
      by : (n w : Bool) → is_needed near e ≡ n → is_needed wide e ≡ w → (r : Result Rows ℕ) → own_block kinds range last place e all ≡ r
          → Gives (cond w (r >>= λ (rows : Rows). rows_found (wanted_of from to rows)) (rows_found [])) (cond n (r >>= λ (rows : Rows). rows_found (wanted_of lo hi rows)) (rows_found []))
      by true true en ew (Ok rows) is = (wanted_of lo hi rows, refl, rows_narrowed table from lo hi to rows h g)
      by true true en ew (Err at) is = tt
      by true false en ew r is = absurd (clash (sym (needed_more e en) ∙ ew))
        where
          clash : true ≡ false → ⊥
          clash q = cc
      by false true en ew (Err at) is = tt
      by false true en ew (Ok rows) is =
          let table_is = (and_parts (eqb e.table table) (leb from e.last && leb e.first to) ew).0 in
          let out : (leb lo e.last && leb e.first hi) ≡ false = rest (eqb e.table table) (leb lo e.last && leb e.first hi) table_is en in
          let none = none_wanted range (e.offset + 14) lo hi last e rows (own_is kinds range place last e all rows is) out in
          ([], refl, sym (ap (keyed table) none) ∙ rows_narrowed table from lo hi to rows h g)
        where
          rest : (a b : Bool) → a ≡ true → (a && b) ≡ false → b ≡ false
          rest true b t q = q
          rest false b t q = absurd (cc)
      by false false en ew r is = ([], refl, refl)

  then_narrowed : (a b : Walked) (r r' : Result Rows ℕ) → Gives r r' → (then_walk wide b r).fault ≡ None → (b.fault ≡ None → a ≡ narrowed lo hi b) → then_walk near a r' ≡ narrowed lo hi (then_walk wide b r)
  then_narrowed a b (Err place) r' gives e same = absurd (cc)
  then_narrowed a b (Ok rows) r' gives e same =
      let rest = same e in
      let partials : keyed table gives.0 ++ a.partials ≡ filter (in_range lo hi) (keyed table rows ++ b.partials) = (λ i. gives.2 i ++ (rest i).partials) ∙ sym (filter-append (in_range lo hi) (keyed table rows) b.partials) in
      let joined : then_walk near a (Ok gives.0) ≡ narrowed lo hi (then_walk wide b (Ok rows)) = λ i. record { partials = partials i; fault = (rest i).fault } in
      ap (then_walk near a) gives.1 ∙ joined

  walk_narrowed : (range : ℕ) (all : List ℕ) (es : List Entry) (last : Key) (place : ℕ) → (walk wide range all last place es).fault ≡ None → walk near range all last place es ≡ narrowed lo hi (walk wide range all last place es)
  unfolding walk
  walk_narrowed range all [] last place e = refl
  walk_narrowed range all (x ∷ es) last place e =
      then_narrowed (walk near range all (last_key x) (place + entry_length x) es) (walk wide range all (last_key x) (place + entry_length x) es) (wanted_block wide range last place x all) (wanted_block near range last place x all)
      (block_narrowed range place last x all) e (walk_narrowed range all es (last_key x) (place + entry_length x))

  behind_narrowed : (all : List ℕ) (o : Result Opening ℕ) → (behind_opening wide all o).fault ≡ None → behind_opening near all o ≡ narrowed lo hi (behind_opening wide all o)
  behind_narrowed all (Err place) e = absurd (cc)
  behind_narrowed all (Ok o) e = walk_narrowed o.range all o.entries before_all o.index e

  pub scan_narrowed : (all : List ℕ) → (scanned wide all).fault ≡ None → scanned near all ≡ narrowed lo hi (scanned wide all)
  unfolding scanned
  scan_narrowed all e = behind_narrowed all (opening_at all) e

-- ---- faults

some_is : {X : Type 0} (x y : X) → Some x ≡ Some y → x ≡ y
some_is x y e = cc

here : (xs : List ℕ) (place found : ℕ) → found ≡ place → Contains (found ∷ xs) place
here xs place found e = subst (λ (p : ℕ). Contains (found ∷ xs) p) e (0, omega arith, refl)

module _ (want : Want) where
  -- a block's fault is its own, and the block is of the table
  block_fault : (range place : ℕ) (last : Key) (e : Entry) (all : List ℕ) (at : ℕ) → wanted_block want range last place e all ≡ Err at
      → Contains (cond (eqb e.table want.table) (place_in (own_block want.kinds range last place e all)) []) at
  block_fault range place last e all at is = by (eqb e.table want.table) (leb want.lo e.last && leb e.first want.hi) (own_block want.kinds range last place e all) is
    where
      by : (t n : Bool) (r : Result Rows ℕ) → cond (t && n) (r >>= λ (rows : Rows). rows_found (wanted_of want.lo want.hi rows)) (rows_found []) ≡ Err at → Contains (cond t (place_in r) []) at
      by true true (Ok rows) q = absurd (cc)
      by true true (Err found) q = here [] at found (err_is found at q)
        where
          err_is : (x y : ℕ) → fault_at x ≡ fault_at y → x ≡ y
          err_is x y e = cc
      by true false r q = absurd (cc)
      by false n r q = absurd (cc)

  walk_fault : (range : ℕ) (all : List ℕ) (es : List Entry) (last : Key) (place at : ℕ) → (walk want range all last place es).fault ≡ Some at → Contains (block_faults want.table want.kinds range all last place es) at
  unfolding walk block_faults
  walk_fault range all [] last place at e = absurd (cc)
  walk_fault range all (x ∷ es) last place at e = by (wanted_block want range last place x all) refl e (walk_fault range all es (last_key x) (place + entry_length x) at)
    where
      own : List ℕ
      own = cond (eqb x.table want.table) (place_in (own_block want.kinds range last place x all)) []

      others : List ℕ
      others = block_faults want.table want.kinds range all (last_key x) (place + entry_length x) es

      by : (r : Result Rows ℕ) → wanted_block want range last place x all ≡ r → (then_walk want (walk want range all (last_key x) (place + entry_length x) es) r).fault ≡ Some at
          → ((walk want range all (last_key x) (place + entry_length x) es).fault ≡ Some at → Contains others at) → Contains (own ++ others) at
      by (Err found) is q rest = Contains-append_left own others at (block_fault range place last x all at (is ∙ ap fault_at (some_is found at q)))
      by (Ok rows) is q rest = Contains-append_right own others at (rest q)

  behind_fault : (all : List ℕ) (o : Result Opening ℕ) (at : ℕ) → (behind_opening want all o).fault ≡ Some at → Contains (faults_behind want.table want.kinds all o) at
  behind_fault all (Err place) at e = here [] at place (some_is place at e)
  behind_fault all (Ok o) at e = walk_fault o.range all o.entries before_all o.index at e

  pub fault_among : (all : List ℕ) (at : ℕ) → (scanned want all).fault ≡ Some at → Contains (faults_of want.table want.kinds all) at
  unfolding scanned faults_of
  fault_among all at e = behind_fault all (opening_at all) at e

-- What blocks add together, and how many rows have the blocks of which not all rows are wanted.
use Rattle.std.proofs.Common.{◌≡◌, ℕ, zero, suc, ◌+◌, ◌^◌, ◌<◌, ◌≤◌, ℤ, Bool, true, false, cond, eqb, leb, ltb, not, List, [], ◌∷◌, ◌++◌, length, drop, Option, Some, None, Result, Ok, Err, ◌⊎◌, inl, inr, refl, sym, ap, subst, ◌∙◌, arith}
use Rattle.std.specs.Prelude.{◌&&◌, ◌||◌, IfSome, sum_by, slice_get, slice_index_or}
use Rattle.std.specs.List.{AllByRecursion, filter}
use Rattle.std.proofs.lemmas.Bool.{and_parts, eqb-true}
use Rattle.std.proofs.lemmas.Bool.Decides.{nat_tests}
use Rattle.std.proofs.lemmas.Int.{ints}
use Rattle.std.proofs.lemmas.List.{map-append, length-drop, nil_from_length}
use Rattle.std.proofs.lemmas.List.Elements.{filter-append}
use Rattle.std.proofs.lemmas.List.Sums.{sum_by-cons}
use Rattle.td_limits.specs.declared.limits.TheConstants.{BLOCK_ROWS, FOLD_STEPS}
use Rattle.td_layer.specs.declared.values.Key.{Key}
use Rattle.td_layer.specs.declared.values.Value.{Value}
use Rattle.td_layer.specs.declared.values.Value.TheVariants as value
use Rattle.td_layer.specs.declared.parts.Partial.{Partial}
use Rattle.td_layer.specs.Columns.{IsColumnNumber, IsColumnValue}
use Rattle.td_layer.specs.declared.scans.ScanFault.{ScanFault}
use Rattle.td_layer.specs.declared.scans.ScanFault.TheVariants as scans
use Rattle.td_codec.specs.Fields.{◌>>=◌}
use Rattle.td_codec.proofs.ValueLaws.{some_is}
use Rattle.td_fileio.specs.Places.{GivesPlaced}
use Rattle.td_fileio.proofs.ReadLaws.{told_2}
use Rattle.td_aggr.specs.declared.tally.Tally.{Tally}
use Rattle.td_aggr.specs.Tallies.{empty_tally, tally_of_row, tally_of, merged, IsSound}
use Rattle.td_aggr.proofs.Sound.{IsSound-merged}
use Rattle.td_aggr.specs.Laws.{unit_left, unit_right, associative, of_joined_rows}
use Rattle.td_block.specs.Rows.{Rows}
use Rattle.td_datafile.specs.declared.format.Summary.{Summary}
use Rattle.td_datafile.specs.declared.format.Entry.{Entry}
use Rattle.td_datafile.specs.declared.entries.Behind.{Behind}
use Rattle.td_datafile.specs.declared.blocks.Spot.{Spot}
use Rattle.td_datafile.specs.Entries.{is_bound, can_end, behind, behind_entry}
use Rattle.td_datafile.specs.Blocks.{key_of}
use Rattle.td_datafile.specs.Scanned.{Want, is_wanted, wanted_of, keyed, is_needed}
use Rattle.td_datafile.specs.Known.{IsSummaryOf, Follows, AllFollow, AreEntries}
use Rattle.td_datafile.specs.declared.folding.BlockPart.{BlockPart}
use Rattle.td_datafile.specs.declared.folding.Gathering.{Gathering}
use Rattle.td_datafile.specs.Folding.{value_of, column_of, tally_of_rows, is_covered, bound_of, tally_of_summary, nothing_gathered, counted, one_gathered, either, both, gathered_of, gathered, spot_behind, is_partial, partial_rows, IsPart, IsGathered, IsFound, AreFound}
use Rattle.td_datafile.proofs.Walks.{entry_here}

-- ---- rows

pub rows_joined : (want : Want) (column : ℕ) (xs ys : Rows) → tally_of_rows want column (xs ++ ys) ≡ merged (tally_of_rows want column xs) (tally_of_rows want column ys)
rows_joined want column xs ys =
    let a : Rows = wanted_of want.lo want.hi xs in
    let b : Rows = wanted_of want.lo want.hi ys in
    let of : Rows → List (Key × Partial) = keyed want.table in
    ap (λ (l : Rows). tally_of (column_of column (of l))) (filter-append (is_wanted want.lo want.hi) xs ys)
    ∙ ap (λ (l : List (Key × Partial)). tally_of (column_of column l)) (map-append (λ (row : ℕ × Partial). (key_of want.table row, row.1)) a b)
    ∙ ap tally_of (map-append (λ (p : Key × Partial). (p.0, value_of (slice_index_or p.1.cells column None))) (of a) (of b))
    ∙ of_joined_rows (column_of column (of a)) (column_of column (of b))

-- the last row is added first
pub last_row : (want : Want) (column : ℕ) (rest : Rows) (row : ℕ × Partial) (t : Tally) → merged (tally_of_rows want column (rest ++ row ∷ [])) t ≡ merged (tally_of_rows want column rest) (merged (tally_of_rows want column (row ∷ [])) t)
last_row want column rest row t =
    ap (λ (s : Tally). merged s t) (rows_joined want column rest (row ∷ [])) ∙ associative (tally_of_rows want column rest) (tally_of_rows want column (row ∷ [])) t

-- ---- one row

pub row_counts : (v : Value) (k : Key) → ((tally_of_row v k).rows ≡ 1) × ((tally_of_row v k).count ≤ 1)
row_counts value.Null k = (refl, omega arith)
row_counts (value.Num n) k = (refl, omega arith)

-- a row that isn't wanted adds nothing, and one that is its value
pub row_out : (want : Want) (column : ℕ) (row : ℕ × Partial) (t : Tally) → is_wanted want.lo want.hi row ≡ false → t ≡ merged (tally_of_rows want column (row ∷ [])) t
row_out want column row t out =
    sym (ap (λ (b : Bool). merged (tally_of (column_of column (keyed want.table (cond b (row ∷ []) [])))) t) out ∙ unit_left t)

pub row_in : (want : Want) (column : ℕ) (row : ℕ × Partial) (t : Tally) → is_wanted want.lo want.hi row ≡ true → merged (tally_of_row (value_of (slice_index_or row.1.cells column None)) (key_of want.table row)) t ≡ merged (tally_of_rows want column (row ∷ [])) t
row_in want column row t within =
    sym (ap (λ (b : Bool). merged (tally_of (column_of column (keyed want.table (cond b (row ∷ []) [])))) t) within
    ∙ ap (λ (s : Tally). merged s t) (unit_right (tally_of_row (value_of (slice_index_or row.1.cells column None)) (key_of want.table row))))

-- ---- summaries

bound_in : (count : ℕ) (n : ℤ) → eqb count 0 ≡ false → is_bound count n ≡ true → IsColumnNumber n
bound_in count n some e = grind (arith, nat_tests, ints)

pub bound_value : (count : ℕ) (n : ℤ) → is_bound count n ≡ true → IsColumnValue (bound_of count n)
bound_value count n e = by_test (eqb count 0) refl where
  by_test : (t : Bool) → eqb count 0 ≡ t → IsColumnValue (cond t value.Null (value.Num n))
  by_test true q = tt
  by_test false q = bound_in count n q e

pub summary_part : (rows : ℕ) (s : Summary) → rows ≤ BLOCK_ROWS → IsSummaryOf rows s → IsPart (tally_of_summary rows s)
summary_part rows s few is = record {
  sound = record {
    low = grind (arith, ints, is.sum);
    high = grind (arith, ints, is.sum);
    min = bound_value s.count s.least is.least;
    max = bound_value s.count s.greatest is.greatest;
    first = tt;
    last = tt;
  };
  rows = few;
  count = omega (arith, few, is.count);
}

pub summary_at : (rows : ℕ) (columns : List Summary) (c : ℕ) → AllByRecursion (IsSummaryOf rows) columns → IsSummaryOf rows (slice_index_or columns c Rattle.td_datafile.specs.Sums.no_numbers)
summary_at rows [] c all = record { count = omega arith; sum = refl; least = refl; greatest = refl }
summary_at rows (s ∷ ss) zero all = all.0
summary_at rows (s ∷ ss) (suc c) all = summary_at rows ss c all.1

-- ---- what blocks add together

abbrev made_of : Tally → Option BlockPart → Option BlockPart → Gathering
made_of t f l = record { tally = t; first = f; last = l }

pub same_gathered : (t t' : Tally) (f f' l l' : Option BlockPart) → t ≡ t' → f ≡ f' → l ≡ l' → made_of t f l ≡ made_of t' f' l'
same_gathered t t' f f' l l' p q r = cc

either_none : (a : Option BlockPart) → either a None ≡ a
either_none None = refl
either_none (Some a) = refl

either_assoc : (a b c : Option BlockPart) → either (either a b) c ≡ either a (either b c)
either_assoc None b c = refl
either_assoc (Some a) b c = refl

both_none : (g : Gathering) → both g nothing_gathered ≡ g
both_none g = same_gathered (merged g.tally empty_tally) g.tally (either g.first None) g.first (either None g.last) g.last (unit_right g.tally) (either_none g.first) refl

none_both : (g : Gathering) → both nothing_gathered g ≡ g
none_both g = same_gathered (merged empty_tally g.tally) g.tally (either None g.first) g.first (either g.last None) g.last (unit_left g.tally) refl (either_none g.last)

both_assoc : (a b c : Gathering) → both (both a b) c ≡ both a (both b c)
both_assoc a b c =
    same_gathered (merged (merged a.tally b.tally) c.tally) (merged a.tally (merged b.tally c.tally)) (either (either a.first b.first) c.first) (either a.first (either b.first c.first)) (either c.last (either b.last a.last)) (either (either c.last b.last) a.last)
    (associative a.tally b.tally c.tally) (either_assoc a.first b.first c.first) (sym (either_assoc c.last b.last a.last))

-- ---- one block more

abbrev pub more : Gathering → Result Gathering ℕ → Result Gathering ℕ
more g r = r >>= λ (others : Gathering). Ok (both g others)

pub gathered_next : (want : Want) (column : ℕ) (all : List ℕ) (spot : Spot) (e : Entry) (es : List Entry)
    → gathered want column all spot (e ∷ es) ≡ (gathered_of want column spot e all >>= λ (one : Gathering). more one (gathered want column all (spot_behind spot e) es))
unfolding gathered
gathered_next want column all spot e es = refl

pub gathered_ends : (want : Want) (column : ℕ) (all : List ℕ) (spot : Spot) → gathered want column all spot [] ≡ Ok nothing_gathered
unfolding gathered
gathered_ends want column all spot = refl

abbrev found_in : Gathering → Result Gathering ℕ
found_in g = Ok g

more_more : (g one : Gathering) (r : Result Gathering ℕ) → more g (more one r) ≡ more (both g one) r
more_more g one (Ok others) = ap found_in (sym (both_assoc g one others))
more_more g one (Err place) = refl

more_none : (r : Result Gathering ℕ) → more nothing_gathered r ≡ r
more_none (Ok others) = ap found_in (none_both others)
more_none (Err place) = refl

-- what was gathered, and what the blocks of the entries from a spot on add, is what is asked
pub record Gathers (want : Want) (column : ℕ) (start : Spot) (entries : List Entry) (g : Gathering) (spot : Spot) (all : List ℕ) : Type 0 where
  pub same : more g (gathered want column all spot (drop spot.next entries)) ≡ gathered want column all start entries

pub gathers_start : (want : Want) (column : ℕ) (start : Spot) (entries : List Entry) (g : Gathering) (all : List ℕ) → start.next ≡ 0 → g ≡ nothing_gathered → Gathers want column start entries g start all
gathers_start want column start entries g all zero_is none = record {
  same = ap (λ (x : Gathering). more x (gathered want column all start (drop start.next entries))) none
      ∙ more_none (gathered want column all start (drop start.next entries))
      ∙ ap (λ (n : ℕ). gathered want column all start (drop n entries)) zero_is;
}

next_from : (want : Want) (column : ℕ) (entries : List Entry) (g : Gathering) (spot : Spot) (e : Entry) (all : List ℕ) (r : Result Gathering ℕ) → slice_get entries spot.next ≡ Some e → gathered_of want column spot e all ≡ r
    → more g (gathered want column all spot (drop spot.next entries)) ≡ more g (r >>= λ (one : Gathering). more one (gathered want column all (spot_behind spot e) (drop (spot.next + 1) entries)))
next_from want column entries g spot e all r here is =
    ap (λ (l : List Entry). more g (gathered want column all spot l)) (entry_here entries spot.next e here)
    ∙ ap (more g) (gathered_next want column all spot e (drop (spot.next + 1) entries))
    ∙ ap (λ (q : Result Gathering ℕ). more g (q >>= λ (one : Gathering). more one (gathered want column all (spot_behind spot e) (drop (spot.next + 1) entries)))) is

pub gathers_next : (want : Want) (column : ℕ) (start : Spot) (entries : List Entry) (g one next : Gathering) (spot spot' : Spot) (e : Entry) (all : List ℕ) → slice_get entries spot.next ≡ Some e → next ≡ both g one → spot' ≡ spot_behind spot e → gathered_of want column spot e all ≡ Ok one
    → Gathers want column start entries g spot all → Gathers want column start entries next spot' all
gathers_next want column start entries g one next spot spot' e all here is behind_is found s =
    let others = gathered want column all (spot_behind spot e) (drop (spot.next + 1) entries) in
    record {
      same = ap (λ (x : Gathering). more x (gathered want column all spot' (drop spot'.next entries))) is
          ∙ ap (λ (k : Spot). more (both g one) (gathered want column all k (drop k.next entries))) behind_is
          ∙ sym (more_more g one others)
          ∙ sym (next_from want column entries g spot e all (Ok one) here found)
          ∙ s.same;
    }

pub gathers_fault : (want : Want) (column : ℕ) (start : Spot) (entries : List Entry) (g : Gathering) (spot : Spot) (e : Entry) (place : ℕ) (all : List ℕ) → slice_get entries spot.next ≡ Some e → gathered_of want column spot e all ≡ Err place → Gathers want column start entries g spot all
    → gathered want column all start entries ≡ Err place
gathers_fault want column start entries g spot e place all here found s = sym s.same ∙ next_from want column entries g spot e all (Err place) here found

pub gathers_end : (want : Want) (column : ℕ) (start : Spot) (entries : List Entry) (g : Gathering) (spot : Spot) (all : List ℕ) → length entries ≤ spot.next → Gathers want column start entries g spot all → gathered want column all start entries ≡ Ok g
gathers_end want column start entries g spot all le s =
    let gone : drop spot.next entries ≡ [] = nil_from_length (drop spot.next entries) (omega (arith, le, length-drop spot.next entries)) in
    sym s.same
    ∙ ap (λ (l : List Entry). more g (gathered want column all spot l)) gone
    ∙ ap (more g) (gathered_ends want column all spot)
    ∙ ap found_in (both_none g)

-- the same of files that may tell their bytes
pub fault_told : (want : Want) (column : ℕ) (start : Spot) (entries : List Entry) (told : Option (List ℕ)) (file : ℕ) (g : Gathering) (spot : Spot) (entry : Entry) (e : ScanFault) → slice_get entries spot.next ≡ Some entry → IfSome told (Gathers want column start entries g spot)
    → GivesPlaced (λ (x : Gathering). x) told file (Err e) (gathered_of want column spot entry) → GivesPlaced (λ (x : Gathering). x) told file (Err e) (λ all. gathered want column all start entries)
fault_told want column start entries told file g spot entry scans.ReadFault here s r = tt
fault_told want column start entries told file g spot entry (scans.Damaged n place) here s r = (
  r.0,
  told_2 told (Gathers want column start entries g spot) (λ all. gathered_of want column spot entry all ≡ Err place) (λ all. gathered want column all start entries ≡ Err place) (λ all p q. gathers_fault want column start entries g spot entry place all here q p) s r.1,
)
fault_told want column start entries told file g spot entry scans.NoMemory here s r = tt

-- ---- how many steps

abbrev pub own_rows : Want → Entry → ℕ
own_rows want e = cond (is_partial want e) e.rows 0

pub rows_more : (want : Want) (e : Entry) (es : List Entry) → partial_rows want (e ∷ es) ≡ own_rows want e + partial_rows want es
rows_more want e es = by_test (is_partial want e) where
  by_test : (t : Bool) → sum_by (λ (x : Entry). x.rows) (cond t (e ∷ filter (is_partial want) es) (filter (is_partial want) es)) ≡ cond t e.rows 0 + partial_rows want es
  by_test true = sum_by-cons (λ (x : Entry). x.rows) e (filter (is_partial want) es)
  by_test false = omega arith

-- so many rows at most has a block behind others that a timestamp of a table cuts in two
abbrev cut_of : ℕ → ℕ → ℕ → ℕ → ℕ
cut_of table ts behind from = cond (ltb table behind || (eqb table behind && ltb ts from)) 0 BLOCK_ROWS

abbrev cut_rows : ℕ → ℕ → Behind → ℕ
cut_rows table ts b = cut_of table ts b.table b.from

pub can_end_le : (rows first last : ℕ) → can_end rows first last ≡ true → first ≤ last
can_end_le rows first last e = grind (arith, nat_tests)

-- behind an entry no more is cut than before it
cut_less : (table ts bt bf et first last : ℕ) → leb bt et ≡ true → cond (eqb bt et) (leb bf first) true ≡ true → first ≤ last
    → cut_of table ts et (last + 1) ≤ cut_of table ts bt bf
cut_less table ts bt bf et first last p q le = grind (arith, nat_tests)

-- a timestamp that an entry isn't before is cut no more behind it
cut_after : (table ts et last : ℕ) → et ≡ table → ts ≤ last → cut_of table ts et (last + 1) ≡ 0
cut_after table ts et last same le = grind (arith, nat_tests)

-- and one that it isn't behind may be cut before it
cut_before : (table ts bt bf et first : ℕ) → et ≡ table → leb bt et ≡ true → cond (eqb bt et) (leb bf first) true ≡ true → first ≤ ts → cut_of table ts bt bf ≡ BLOCK_ROWS
cut_before table ts bt bf et first same p q le = grind (arith, nat_tests)

not_both : (lo hi first last : ℕ) → not (leb lo first && leb last hi) ≡ true → (first < lo) ⊎ (hi < last)
not_both lo hi first last e = grind (arith, nat_tests)

one_few : (want : Want) (b : Behind) (e : Entry) → Follows b e → own_rows want e + (cut_rows want.table want.lo (behind_entry e) + cut_rows want.table want.hi (behind_entry e)) ≤ cut_rows want.table want.lo b + cut_rows want.table want.hi b
one_few want b e f = by_test (is_partial want e) refl where
  le : e.first ≤ e.last
  le = can_end_le e.rows e.first e.last f.last

  low : cut_rows want.table want.lo (behind_entry e) ≤ cut_rows want.table want.lo b
  low = cut_less want.table want.lo b.table b.from e.table e.first e.last f.table f.first le

  high : cut_rows want.table want.hi (behind_entry e) ≤ cut_rows want.table want.hi b
  high = cut_less want.table want.hi b.table b.from e.table e.first e.last f.table f.first le

  few : e.rows ≤ BLOCK_ROWS
  few = f.few

  by_test : (t : Bool) → is_partial want e ≡ t → cond t e.rows 0 + (cut_rows want.table want.lo (behind_entry e) + cut_rows want.table want.hi (behind_entry e)) ≤ cut_rows want.table want.lo b + cut_rows want.table want.hi b
  by_test false q = omega (arith, low, high)
  by_test true q =
      let s = and_parts (is_needed want e) (not (is_covered want e)) q in
      let t = and_parts (eqb e.table want.table) (leb want.lo e.last && leb e.first want.hi) s.0 in
      let u = and_parts (leb want.lo e.last) (leb e.first want.hi) t.1 in
      let table : e.table ≡ want.table = eqb-true e.table want.table t.0 in
      let from : want.lo ≤ e.last = grind (arith, nat_tests, u.0) in
      let to : e.first ≤ want.hi = grind (arith, nat_tests, u.1) in
      elim (not_both want.lo want.hi e.first e.last s.1) [
        | inl lt ↦
            let a : cut_rows want.table want.lo (behind_entry e) ≡ 0 = cut_after want.table want.lo e.table e.last table from in
            let c : cut_rows want.table want.lo b ≡ BLOCK_ROWS = cut_before want.table want.lo b.table b.from e.table e.first table f.table f.first (omega (arith, lt)) in
            omega (arith, a, c, few, high)
        | inr gt ↦
            let a : cut_rows want.table want.hi (behind_entry e) ≡ 0 = cut_after want.table want.hi e.table e.last table (omega (arith, gt)) in
            let c : cut_rows want.table want.hi b ≡ BLOCK_ROWS = cut_before want.table want.hi b.table b.from e.table e.first table f.table f.first to in
            omega (arith, a, c, few, low)
      ]

rows_few : (want : Want) (b : Behind) (es : List Entry) → AllFollow b es → partial_rows want es ≤ cut_rows want.table want.lo b + cut_rows want.table want.hi b
rows_few want b [] f = omega arith
rows_few want b (e ∷ es) f =
    let others = rows_few want (behind_entry e) es f.1 in
    let own = one_few want b e f.0 in
    omega (arith, others, own, rows_more want e es)

cut_few : (table ts : ℕ) (b : Behind) → cut_rows table ts b ≤ BLOCK_ROWS
cut_few table ts b = by_test (ltb table b.table || (eqb table b.table && ltb ts b.from)) where
  by_test : (t : Bool) → cond t 0 BLOCK_ROWS ≤ BLOCK_ROWS
  by_test true = omega arith
  by_test false = omega arith

-- at most two blocks are cut
pub partial_few : (want : Want) (es : List Entry) → AllFollow (behind []) es → partial_rows want es ≤ FOLD_STEPS
partial_few want es f =
    let a = rows_few want (behind []) es f in
    omega (arith, a, cut_few want.table want.lo (behind []), cut_few want.table want.hi (behind []))

-- what the blocks from a spot on take in steps
pub steps_more : (want : Want) (entries : List Entry) (n : ℕ) (e : Entry) → slice_get entries n ≡ Some e → partial_rows want (drop n entries) ≡ own_rows want e + partial_rows want (drop (n + 1) entries)
steps_more want entries n e here = ap (partial_rows want) (entry_here entries n e here) ∙ rows_more want e (drop (n + 1) entries)

pub steps_end : (want : Want) (entries : List Entry) (n : ℕ) → length entries ≤ n → partial_rows want (drop n entries) ≡ 0
steps_end want entries n le = ap (partial_rows want) (nil_from_length (drop n entries) (omega (arith, le, length-drop n entries)))

-- ---- entries of an index

-- an entry of at most 1024 rows with summaries of its columns
pub record IsOne (e : Entry) : Type 0 where
  pub few : e.rows ≤ BLOCK_ROWS
  pub sums : AllByRecursion (IsSummaryOf e.rows) e.columns

one_of : (b : Behind) (es : List Entry) (i : ℕ) (e : Entry) → AllFollow b es → slice_get es i ≡ Some e → IsOne e
one_of b [] zero e f here = absurd cc
one_of b [] (suc i) e f here = absurd cc
one_of b (x ∷ xs) zero e f here = subst IsOne (some_is x e here) (record { few = f.0.few; sums = f.0.sums })
one_of b (x ∷ xs) (suc i) e f here = one_of (behind_entry x) xs i e f.1 here

pub is_one : (es : List Entry) (i : ℕ) (e : Entry) → AreEntries es → slice_get es i ≡ Some e → IsOne e
is_one es i e known here = one_of (behind []) es i e known.follow here

-- ---- what was found

pub found_one : (spot : Spot) (part : Tally) → IsPart part → IfSome (counted spot part) (λ (b : BlockPart). (b.spot ≡ spot) × IsPart b.part)
found_one spot part is = by_count (eqb part.count 0) where
  by_count : (t : Bool) → IfSome (cond t None (Some (record { spot = spot; part = part }))) (λ (b : BlockPart). (b.spot ≡ spot) × IsPart b.part)
  by_count true = tt
  by_count false = (refl, is)

pub one_is : (spot : Spot) (part : Tally) → IsPart part → IsGathered spot (one_gathered spot part)
one_is spot part is = record { tally = is; first = found_one spot part is; last = found_one spot part is }

found_at : (entries : List Entry) (spot : Spot) (o : Option BlockPart) → spot.next < length entries → spot.place + 38 < 2 ^ 64 → IfSome o (λ (b : BlockPart). (b.spot ≡ spot) × IsPart b.part) → IfSome o (IsFound entries)
found_at entries spot None lt room h = tt
found_at entries spot (Some b) lt room h = record {
  next = subst (λ (k : Spot). k.next < length entries) (sym h.0) lt;
  place = subst (λ (k : Spot). k.place + 38 < 2 ^ 64) (sym h.0) room;
  part = h.1;
}

found_either : (P : BlockPart → Type 0) (a b : Option BlockPart) → IfSome a P → IfSome b P → IfSome (either a b) P
found_either P None b p q = q
found_either P (Some a) b p q = p

pub found_more : (entries : List Entry) (spot : Spot) (g one next : Gathering) → spot.next < length entries → spot.place + 38 < 2 ^ 64 → next ≡ both g one → AreFound entries g → IsGathered spot one → AreFound entries next
found_more entries spot g one next lt room is f h =
    subst (AreFound entries) (sym is) (record {
      sound = IsSound-merged g.tally one.tally f.sound h.tally.sound;
      first = found_either (IsFound entries) g.first one.first f.first (found_at entries spot one.first lt room h.first);
      last = found_either (IsFound entries) one.last g.last (found_at entries spot one.last lt room h.last) f.last;
    })

pub none_found : (entries : List Entry) (g : Gathering) → g ≡ nothing_gathered → IsSound g.tally → AreFound entries g
none_found entries g none sound = record {
  sound = sound;
  first = subst (λ (x : Gathering). IfSome x.first (IsFound entries)) (sym none) tt;
  last = subst (λ (x : Gathering). IfSome x.last (IsFound entries)) (sym none) tt;
}

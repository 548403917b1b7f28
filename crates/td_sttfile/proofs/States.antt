-- The state of a scan before and after its calls.
use Rattle.std.proofs.Common.{◌≡◌, ℕ, Bool, true, false, List, [], ◌∷◌, ◌++◌, map, reverse, Option, Some, None, Ok, Err, refl, sym, ap, subst, ◌∙◌, arith}
use Rattle.std.specs.Prelude.{IfSome, Contains}
use Rattle.std.specs.Option.{option_map}
use Rattle.std.specs.List.{AllByRecursion}
use Rattle.std.proofs.lemmas.List.{reverse-append}
use Rattle.td_layer.specs.declared.values.Key.{Key}
use Rattle.td_layer.specs.declared.parts.Partial.{Partial}
use Rattle.td_layer.specs.declared.scans.ScanFault.{ScanFault}
use Rattle.td_layer.specs.declared.scans.ScanFault.TheVariants as scans
use Rattle.td_layer.specs.Keys.{InKeyOrder}
use Rattle.td_layer.specs.Scans.{Places, GivesFirst, Explains, HasScanCause}
use Rattle.td_block.specs.Rows.{Rows}
use Rattle.td_fileio.specs.Places.{Placed, GivesPlaced}
use Rattle.td_fileio.proofs.ReadLaws.{told_1, told_2}
use Rattle.td_sttfile.specs.declared.format.FileCut.{FileCut}
use Rattle.td_sttfile.specs.declared.opening.Opening.{Opening}
use Rattle.td_sttfile.specs.declared.blocks.Spot.{Spot}
use Rattle.td_sttfile.specs.Opening.{opening_parts, opening_at, as_cut}
use Rattle.td_sttfile.specs.Blocks.{key_of}
use Rattle.td_sttfile.specs.Scanned.{Want, Walked, nothing_left, keyed, walk, before_all, behind_opening, cuts_opened, scanned, cuts_of_file, places_of, damaged_places}
use Rattle.td_fileio.specs.Reading.{IsAhead}
use Rattle.td_layer.specs.Columns.{AreColumnCells}
use Rattle.std.proofs.lemmas.Bool.{false≢true}
use Rattle.td_sttfile.specs.Scanning.{left_at, left_with, left_of, Keeps, IsNextRow, IsFault, Faults, IsOpen, IsScan, ComesLast}
use Rattle.td_sttfile.proofs.Walks.{walk_ends, scanned_rises}

abbrev Pairs : Type 0
Pairs = List (Key × Partial)

-- ---- a scan that has not begun

pub left_rises : (want : Want) (told : Option (List ℕ)) (rows : Rows) (spot : Spot) → IfSome (left_of want told false rows spot) InKeyOrder
left_rises want None rows spot = tt
left_rises want (Some all) rows spot = scanned_rises want all

abbrev pub spot_of : Opening → ℕ → Spot
spot_of o at = record { range = o.range; blocks = o.blocks; at = at; last = before_all }

abbrev Opens : Opening → ℕ → List ℕ → Type 0
Opens o at all = opening_at all ≡ Ok (opening_parts o, at)

scanned_open : (want : Want) (all : List ℕ) (o : Opening) (at : ℕ) → Opens o at all → left_at want (spot_of o at) all ≡ scanned want all
unfolding scanned
scanned_open want all o at e = sym (ap (behind_opening want all) e)

cuts_open : (all : List ℕ) (o : Opening) (at : ℕ) → Opens o at all → map as_cut o.cuts ≡ cuts_of_file all
unfolding cuts_of_file
cuts_open all o at e = sym (ap cuts_opened e)

pub opened_left : (want : Want) (told told' : Option (List ℕ)) (rows rows' : Rows) (spot : Spot) (o : Opening) (at : ℕ) → told' ≡ told → rows' ≡ [] → IfSome told (Opens o at) → left_of want told' true rows' (spot_of o at) ≡ left_of want told false rows spot
opened_left want None told' rows rows' spot o at e none h = ap (λ (t : Option (List ℕ)). left_of want t true rows' (spot_of o at)) e
opened_left want (Some all) told' rows rows' spot o at e none h =
    ap (λ (t : Option (List ℕ)). left_of want t true rows' (spot_of o at)) e
    ∙ ap (λ (l : Rows). Some (left_with want l (spot_of o at) all)) none
    ∙ ap (λ (w : Walked). Some w.partials) (scanned_open want all o at h)

pub opened_is : (want : Want) (told told' : Option (List ℕ)) (o : Opening) (at : ℕ) → told' ≡ told → IfSome told (Opens o at) → IfSome told' (IsOpen want o.cuts (spot_of o at))
opened_is want told told' o at e h =
    subst (λ (t : Option (List ℕ)). IfSome t (IsOpen want o.cuts (spot_of o at))) (sym e)
    (told_1 told (Opens o at) (IsOpen want o.cuts (spot_of o at)) (λ all q. record { cuts_are = cuts_open all o at q; fault_is = ap (λ (w : Walked). w.fault) (scanned_open want all o at q) }) h)

-- ---- causes

at_first : (file place : ℕ) (o : Option ℕ) (f : ℕ) → f ≡ file → o ≡ Some place → Contains (places_of file o) (f, place)
at_first file place o f ef eo =
    let here : Contains ((file, place) ∷ []) (file, place) = (0, omega arith, refl) in
    let there : Contains (places_of file o) (file, place) = subst (λ (q : Option ℕ). Contains (places_of file q) (file, place)) (sym eo) here in
    subst (λ (g : ℕ). Contains (places_of file o) (g, place)) (sym ef) there

-- a place that was told of is the first fault of what is read
abbrev pub FirstFault : Want → Option (List ℕ) → ℕ → ScanFault → Type 0
FirstFault want told file (scans.Damaged f place) = (f ≡ file) × IfSome told (λ all. (scanned want all).fault ≡ Some place)
FirstFault want told file scans.ReadFault = Unit {0}
FirstFault want told file scans.NoMemory = Unit {0}

damaged_at : (want : Want) (told : Option (List ℕ)) (file f place : ℕ) → f ≡ file → IfSome told (λ all. (scanned want all).fault ≡ Some place) → IfSome (option_map (damaged_places want file) told) (λ (places : Places). Contains places (f, place))
damaged_at want None file f place ef h = tt
damaged_at want (Some all) file f place ef h = at_first file place (scanned want all).fault f ef h

explains : (want : Want) (told : Option (List ℕ)) (file before now : ℕ) (e : ScanFault) → Explains None before now e → FirstFault want told file e → Explains (option_map (damaged_places want file) told) before now e
explains want told file before now scans.ReadFault x f = x
explains want told file before now (scans.Damaged n place) x f = (x.0, damaged_at want told file n place f.0 f.1)
explains want told file before now scans.NoMemory x f = x

pub has_cause : {X Y : Type 0} (want : Want) (told : Option (List ℕ)) (file before now : ℕ) (e : ScanFault) → HasScanCause {X = X} None before now (Err e) → FirstFault want told file e → HasScanCause {X = Y} (option_map (damaged_places want file) told) before now (Err e)
has_cause want told file before now e h f = record { later = h.later; kept = tt; fault = explains want told file before now e h.fault f }

pub opening_fault : (want : Want) (told : Option (List ℕ)) (file : ℕ) (e : ScanFault) → GivesPlaced (λ (x : Opening × ℕ). (opening_parts x.0, x.1)) told file (Err e) opening_at → FirstFault want told file e
unfolding scanned
opening_fault want told file scans.ReadFault g = tt
opening_fault want told file (scans.Damaged n place) g = (
  g.0,
  told_1 told (λ all. opening_at all ≡ Err place) (λ all. (behind_opening want all (opening_at all)).fault ≡ Some place) (λ all q. ap (λ (o : Placed (ℕ × (ℕ × (List FileCut × ℕ)))). (behind_opening want all o).fault) q) g.1,
)
opening_fault want told file scans.NoMemory g = tt

pub later_fault : (want : Want) (told : Option (List ℕ)) (file : ℕ) (cuts : List FileCut) (spot : Spot) (e : ScanFault) → IfSome told (IsOpen want cuts spot) → Faults want told file spot e → FirstFault want told file e
later_fault want told file cuts spot scans.ReadFault o f = tt
later_fault want told file cuts spot (scans.Damaged n place) o f = (
  f.0,
  told_2 told (IsOpen want cuts spot) (IsFault want spot place) (λ all. (scanned want all).fault ≡ Some place) (λ all p q. sym p.fault_is ∙ q.fault) o f.1,
)
later_fault want told file cuts spot scans.NoMemory o f = tt

-- ---- no partial is left before damaged bytes

pub opening_last : (want : Want) (told : Option (List ℕ)) (file : ℕ) (begun : Bool) (rows : Rows) (spot : Spot) (e : ScanFault) → begun ≡ false → GivesPlaced (λ (x : Opening × ℕ). (opening_parts x.0, x.1)) told file (Err e) opening_at → ComesLast (left_of want told begun rows spot) e
unfolding scanned
opening_last want told file begun rows spot scans.ReadFault fresh g = tt
opening_last want told file begun rows spot (scans.Damaged n place) fresh g = subst (λ (b : Bool). IfSome (left_of want told b rows spot) (λ l. l ≡ [])) (sym fresh) (by_told told g.1)
  where
    by_told : (t : Option (List ℕ)) → IfSome t (λ all. opening_at all ≡ Err place) → IfSome (left_of want t false rows spot) (λ l. l ≡ [])
    by_told None h = tt
    by_told (Some all) h = ap (λ (o : Placed (ℕ × (ℕ × (List FileCut × ℕ)))). (behind_opening want all o).partials) h
opening_last want told file begun rows spot scans.NoMemory fresh g = tt

pub later_last : (want : Want) (told : Option (List ℕ)) (file : ℕ) (begun : Bool) (rows rows' : Rows) (spot spot' : Spot) (e : ScanFault) → begun ≡ true → IfSome told (Keeps want rows rows' spot spot') → rows' ≡ [] → Faults want told file spot' e → ComesLast (left_of want told begun rows spot) e
later_last want told file begun rows rows' spot spot' scans.ReadFault b k none f = tt
later_last want told file begun rows rows' spot spot' (scans.Damaged n place) b k none f = subst (λ (t : Bool). IfSome (left_of want told t rows spot) (λ l. l ≡ [])) (sym b) (by_told told k f.1)
  where
    by_told : (t : Option (List ℕ)) → IfSome t (Keeps want rows rows' spot spot') → IfSome t (IsFault want spot' place) → IfSome (left_of want t true rows spot) (λ l. l ≡ [])
    by_told None k h = tt
    by_told (Some all) k h = sym k.partials ∙ ap (λ (l : Rows). left_with want l spot' all) none ∙ h.none
later_last want told file begun rows rows' spot spot' scans.NoMemory b k none f = tt

-- ---- a scan that has begun

pub same_left : (want : Want) (told told' : Option (List ℕ)) (rows rows' : Rows) (spot spot' : Spot) → told' ≡ told → IfSome told (Keeps want rows rows' spot spot') → left_of want told' true rows' spot' ≡ left_of want told true rows spot
same_left want None told' rows rows' spot spot' e k = ap (λ (t : Option (List ℕ)). left_of want t true rows' spot') e
same_left want (Some all) told' rows rows' spot spot' e k = ap (λ (t : Option (List ℕ)). left_of want t true rows' spot') e ∙ ap (λ (l : Pairs). Some l) k.partials

pub same_open : (want : Want) (told told' : Option (List ℕ)) (cuts : List FileCut) (rows rows' : Rows) (spot spot' : Spot) → told' ≡ told → IfSome told (Keeps want rows rows' spot spot') → IfSome told (IsOpen want cuts spot) → IfSome told' (IsOpen want cuts spot')
same_open want told told' cuts rows rows' spot spot' e k o =
    subst (λ (t : Option (List ℕ)). IfSome t (IsOpen want cuts spot')) (sym e)
    (told_2 told (Keeps want rows rows' spot spot') (IsOpen want cuts spot) (IsOpen want cuts spot') (λ all p q. record { cuts_are = q.cuts_are; fault_is = p.fault ∙ q.fault_is }) k o)

pub same_order : (old new : Option Pairs) → new ≡ old → IfSome old InKeyOrder → IfSome new InKeyOrder
same_order old new e h = subst (λ (o : Option Pairs). IfSome o InKeyOrder) (sym e) h

-- nothing waits and no block is left
walked_all : (want : Want) (rows : Rows) (spot : Spot) (all : List ℕ) → rows ≡ [] → spot.blocks ≡ 0 → (left_with want rows spot all ≡ []) × ((left_at want spot all).fault ≡ None)
walked_all want rows spot all none zero =
    let ended : left_at want spot all ≡ nothing_left = ap (λ (n : ℕ). walk want spot.range all n spot.at spot.last) zero ∙ walk_ends want spot.range all spot.at spot.last in
    (ap (λ (l : Rows). left_with want l spot all) none ∙ ap (λ (w : Walked). w.partials) ended, ap (λ (w : Walked). w.fault) ended)

pub gives_none : (want : Want) (told : Option (List ℕ)) (rows : Rows) (spot : Spot) (old new : Option Pairs) → old ≡ left_of want told true rows spot → new ≡ left_of want told true rows spot → rows ≡ [] → spot.blocks ≡ 0 → GivesFirst old new (Ok None)
gives_none want None rows spot old new eo en none zero = subst (λ (o : Option Pairs). GivesFirst o new (Ok None)) (sym eo) (subst (λ (n : Option Pairs). GivesFirst None n (Ok None)) (sym en) tt)
gives_none want (Some all) rows spot old new eo en none zero =
    let w = walked_all want rows spot all none zero in
    let both : GivesFirst (left_of want (Some all) true rows spot) (left_of want (Some all) true rows spot) (Ok None) = (w.0, w.0) in
    subst (λ (o : Option Pairs). GivesFirst o new (Ok None)) (sym eo) (subst (λ (n : Option Pairs). GivesFirst (left_of want (Some all) true rows spot) n (Ok None)) (sym en) both)

pub is_sound : (want : Want) (told : Option (List ℕ)) (cuts : List FileCut) (rows : Rows) (spot : Spot) → IfSome told (IsOpen want cuts spot) → rows ≡ [] → spot.blocks ≡ 0 → IfSome told (λ all. (scanned want all).fault ≡ None)
is_sound want told cuts rows spot o none zero = told_1 told (IsOpen want cuts spot) (λ all. (scanned want all).fault ≡ None) (λ all p. sym p.fault_is ∙ (walked_all want rows spot all none zero).1) o

-- the first row that waits is taken
first_left : (want : Want) (rows rest : Rows) (row : ℕ × Partial) (spot : Spot) (all : List ℕ) → rows ≡ rest ++ row ∷ [] → left_with want rows spot all ≡ (key_of want.table row, row.1) ∷ left_with want rest spot all
first_left want rows rest row spot all e =
    let turned : reverse rows ≡ row ∷ reverse rest = ap reverse e ∙ reverse-append rest (row ∷ []) in
    ap (λ (l : Rows). keyed want.table l ++ (left_at want spot all).partials) turned

pub gives_row : (want : Want) (told : Option (List ℕ)) (rows rest : Rows) (row : ℕ × Partial) (spot : Spot) (old new : Option Pairs) → old ≡ left_of want told true rows spot → new ≡ left_of want told true rest spot → rows ≡ rest ++ row ∷ []
    → GivesFirst old new (Ok (Some (key_of want.table row, row.1)))
gives_row want None rows rest row spot old new eo en e =
    subst (λ (o : Option Pairs). GivesFirst o new (Ok (Some (key_of want.table row, row.1)))) (sym eo) (subst (λ (n : Option Pairs). GivesFirst None n (Ok (Some (key_of want.table row, row.1)))) (sym en) tt)
gives_row want (Some all) rows rest row spot old new eo en e =
    subst (λ (o : Option Pairs). GivesFirst o new (Ok (Some (key_of want.table row, row.1)))) (sym eo)
    (subst (λ (n : Option Pairs). GivesFirst (left_of want (Some all) true rows spot) n (Ok (Some (key_of want.table row, row.1)))) (sym en) (first_left want rows rest row spot all e))

pub order_behind : (want : Want) (told : Option (List ℕ)) (rows rest : Rows) (row : ℕ × Partial) (spot : Spot) → rows ≡ rest ++ row ∷ [] → IfSome (left_of want told true rows spot) InKeyOrder → IfSome (left_of want told true rest spot) InKeyOrder
order_behind want None rows rest row spot e h = tt
order_behind want (Some all) rows rest row spot e h =
    let o : InKeyOrder ((key_of want.table row, row.1) ∷ left_with want rest spot all) = subst InKeyOrder (first_left want rows rest row spot all e) h in
    o.1

pub values_behind : (P : ℕ × Partial → Type 0) (rows rest : Rows) (row : ℕ × Partial) → rows ≡ rest ++ row ∷ [] → AllByRecursion P rows → AllByRecursion P rest × P row
values_behind P rows rest row e h = parts rest (subst (λ (l : Rows). AllByRecursion P l) e h) where
  parts : (xs : Rows) → AllByRecursion P (xs ++ row ∷ []) → AllByRecursion P xs × P row
  parts [] k = (tt, k.0)
  parts (x ∷ xs) k = let p = parts xs k.1 in ((k.0, p.0), p.1)

-- ---- the state behind each call

abbrev HasCells : ℕ × Partial → Type 0
HasCells row = AreColumnCells row.1.cells

-- blocks were read
pub filled : (want : Want) (told told' : Option (List ℕ)) (begun : Bool) (from from' : ℕ) (bytes bytes' : List ℕ) (cuts : List FileCut) (rows rows' : Rows) (spot spot' : Spot) → begun ≡ true → told' ≡ told
    → IsScan want told begun from bytes cuts rows spot → IfSome told (Keeps want rows rows' spot spot') → AllByRecursion HasCells rows' → IsAhead told' from' bytes' → IsScan want told' begun from' bytes' cuts rows' spot'
filled want told told' begun from from' bytes bytes' cuts rows rows' spot spot' b e s k v a =
    let left : left_of want told' begun rows' spot' ≡ left_of want told begun rows spot = subst (λ (t : Bool). left_of want told' t rows' spot' ≡ left_of want told t rows spot) (sym b) (same_left want told told' rows rows' spot spot' e k) in
    record {
      ahead = a;
      order = same_order (left_of want told begun rows spot) (left_of want told' begun rows' spot') left s.order;
      values = v;
      fresh = λ f. absurd (false≢true (sym f ∙ b));
      opened = λ t. same_open want told told' cuts rows rows' spot spot' e k (s.opened b);
    }

-- a row was taken
pub popped : (want : Want) (told : Option (List ℕ)) (begun : Bool) (from : ℕ) (bytes : List ℕ) (cuts : List FileCut) (rows rest : Rows) (spot : Spot) (o : Option (Key × Partial)) → begun ≡ true → IsScan want told begun from bytes cuts rows spot
    → IsNextRow want.table rows rest o → IsScan want told begun from bytes cuts rest spot
popped want told begun from bytes cuts rows rest spot None b s n = subst (λ (l : Rows). IsScan want told begun from bytes cuts l spot) (n.0 ∙ sym n.1) s
popped want told begun from bytes cuts rows rest spot (Some p) b s n =
    let row : ℕ × Partial = (p.0.ts, p.1) in
    let order = subst (λ (t : Bool). IfSome (left_of want told t rows spot) InKeyOrder) b s.order in
    record {
      ahead = s.ahead;
      order = subst (λ (t : Bool). IfSome (left_of want told t rest spot) InKeyOrder) (sym b) (order_behind want told rows rest row spot n.1 order);
      values = (values_behind HasCells rows rest row n.1 s.values).0;
      fresh = λ f. absurd (false≢true (sym f ∙ b));
      opened = s.opened;
    }

pub gives_next : (want : Want) (told : Option (List ℕ)) (rows rest : Rows) (spot : Spot) (old new : Option Pairs) (o : Option (Key × Partial)) → old ≡ left_of want told true rows spot → new ≡ left_of want told true rest spot → IsNextRow want.table rows rest o
    → (rows ≡ [] → spot.blocks ≡ 0) → GivesFirst old new (Ok o)
gives_next want told rows rest spot old new None eo en n ends =
    gives_none want told rows spot old new eo (en ∙ ap (λ (l : Rows). left_of want told true l spot) (n.1 ∙ sym n.0)) n.0 (ends n.0)
gives_next want told rows rest spot old new (Some p) eo en n ends =
    subst (λ (t : ℕ). GivesFirst old new (Ok (Some (record { table = t; ts = p.0.ts }, p.1)))) (sym n.0) (gives_row want told rows rest (p.0.ts, p.1) spot old new eo en n.1)

pub next_values : (table : ℕ) (rows rest : Rows) (o : Option (Key × Partial)) → IsNextRow table rows rest o → AllByRecursion HasCells rows → IfSome o (λ p. AreColumnCells p.1.cells)
next_values table rows rest None n v = tt
next_values table rows rest (Some p) n v = (values_behind HasCells rows rest (p.0.ts, p.1) n.1 v).1

pub next_sound : (want : Want) (told : Option (List ℕ)) (cuts : List FileCut) (rows rest : Rows) (spot : Spot) (o : Option (Key × Partial)) → IsNextRow want.table rows rest o → (rows ≡ [] → spot.blocks ≡ 0) → IfSome told (IsOpen want cuts spot) → o ≡ None
    → IfSome told (λ all. (scanned want all).fault ≡ None)
next_sound want told cuts rows rest spot None n ends is_open e = is_sound want told cuts rows spot is_open n.0 (ends n.0)
next_sound want told cuts rows rest spot (Some p) n ends is_open e = absurd cc

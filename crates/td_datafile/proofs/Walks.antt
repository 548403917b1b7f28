-- What reading one block after the other gives.
use Rattle.std.proofs.Common.{◌≡◌, ℕ, zero, suc, ◌+◌, ◌*◌, ◌<◌, ◌^◌, Bool, true, false, cond, eqb, leb, not, ℤ, List, [], ◌∷◌, ◌++◌, length, take, drop, reverse, Option, Some, Result, Ok, Err, refl, sym, ap, subst, ◌∙◌, arith}
use Rattle.std.specs.Prelude.{◌&&◌, slice_index, slice_get}
use Rattle.std.specs.List.{AllByRecursion, filter, flat_map}
use Rattle.std.specs.Int.{w16, w32, w64, to_le_bytes}
use Rattle.std.specs.declared.cmp.Ordering.TheVariants.{Less}
use Rattle.std.proofs.lemmas.Bool.{and_parts, eqb-true}
use Rattle.std.proofs.lemmas.List.{reverse-reverse, reverse-append, length-append}
use Rattle.std.proofs.lemmas.List.Concat.{flat_map-cons}
use Rattle.td_cols.specs.declared.kinds.Kind.{Kind}
use Rattle.td_cols.specs.declared.kinds.Kind.TheVariants.{Wide}
use Rattle.td_cols.specs.Kinds.{kind_code, kind_width}
use Rattle.td_cols.proofs.OneSpelling.{kind_spelling}
use Rattle.td_layer.specs.declared.values.Key.{Key}
use Rattle.td_layer.specs.declared.parts.Partial.{Partial}
use Rattle.td_layer.specs.declared.scans.ScanFault.{ScanFault}
use Rattle.td_layer.specs.declared.scans.ScanFault.TheVariants as scans
use Rattle.td_layer.specs.Keys.{key_cmp, InKeyOrder}
use Rattle.td_codec.specs.Fields.{◌>>=◌}
use Rattle.td_codec.proofs.FieldLaws.{bind_ok, passed_by, ok_is}
use Rattle.td_codec.proofs.ValueLaws.{some_is}
use Rattle.td_block.specs.declared.block.Block.{Block}
use Rattle.td_block.specs.declared.header.Head.{Head}
use Rattle.td_block.specs.Rows.{Rows, times_of}
use Rattle.td_block.specs.Headers.{head_found}
use Rattle.td_fileio.specs.Places.{GivesPlaced}
use Rattle.td_fileio.proofs.ReadLaws.{told_1}
use Rattle.td_datafile.specs.declared.format.Summary.{Summary}
use Rattle.td_datafile.specs.declared.format.Entry.{Entry}
use Rattle.td_datafile.specs.declared.entries.Behind.{Behind}
use Rattle.td_datafile.specs.declared.blocks.Spot.{Spot}
use Rattle.td_datafile.specs.declared.opening.Opening.{Opening}
use Rattle.td_datafile.specs.Index.{wide_bytes, summary_bytes, entry_bytes}
use Rattle.td_datafile.specs.Entries.{behind, behind_entry}
use Rattle.td_datafile.specs.Opening.{opening_at}
use Rattle.td_datafile.specs.Blocks.{rows_checked, moved, own_length, whole_decoded, entry_length, agreeing, checked_rows, own_block}
use Rattle.td_datafile.specs.Scanned.{Want, Walked, wanted_of, keyed, is_needed, nothing_left, wanted_block, then_walk, last_key, walk, before_all, behind_opening, scanned}
use Rattle.td_datafile.specs.Scanning.{left_at, left_with, bytes_left, Keeps, IsFault, Faults}
use Rattle.td_datafile.proofs.Order.{ComeBehind, none_come, come_before, rows_come, rows_table, behind_is_less}
use Rattle.td_datafile.specs.Known.{AllFollow}
use Rattle.td_datafile.proofs.Rising.{Bounds, bounds_first, bounds_next, ends_behind, opening_follows}

-- ---- lists

pub all_filtered : {A : Type 0} (P : A → Type 0) (test : A → Bool) (xs : List A) → AllByRecursion P xs → AllByRecursion P (filter test xs)
all_filtered P test [] h = tt
all_filtered {A} P test (x ∷ xs) h = picked (test x) (all_filtered P test xs h.1) where
  picked : (b : Bool) → AllByRecursion P (filter test xs) → AllByRecursion P (cond b (x ∷ filter test xs) (filter test xs))
  picked true others = (h.0, others)
  picked false others = others

pub all_appended : {A : Type 0} (P : A → Type 0) (xs ys : List A) → AllByRecursion P xs → AllByRecursion P ys → AllByRecursion P (xs ++ ys)
all_appended P [] ys h k = k
all_appended P (x ∷ xs) ys h k = (h.0, all_appended P xs ys h.1 k)

pub all_reversed : {A : Type 0} (P : A → Type 0) (xs : List A) → AllByRecursion P xs → AllByRecursion P (reverse xs)
all_reversed P [] h = tt
all_reversed {A} P (x ∷ xs) h =
    let e : reverse (x ∷ xs) ≡ reverse xs ++ x ∷ [] = reverse-append (x ∷ []) xs in
    subst (λ (l : List A). AllByRecursion P l) (sym e) (all_appended P (reverse xs) (x ∷ []) (all_reversed P xs h.1) (h.0, tt))

pub all_of_reversed : {A : Type 0} (P : A → Type 0) (xs ys : List A) → reverse xs ≡ ys → AllByRecursion P ys → AllByRecursion P xs
all_of_reversed {A} P xs ys e h = subst (λ (l : List A). AllByRecursion P l) (ap reverse (sym e) ∙ reverse-reverse xs) (all_reversed P ys h)

-- ---- one block more

pub walk_next : (want : Want) (range : ℕ) (all : List ℕ) (last : Key) (place : ℕ) (e : Entry) (es : List Entry) → walk want range all last place (e ∷ es) ≡ then_walk want (walk want range all (last_key e) (place + entry_length e) es) (wanted_block want range last place e all)
unfolding walk
walk_next want range all last place e es = refl

pub walk_ends : (want : Want) (range : ℕ) (all : List ℕ) (last : Key) (place : ℕ) → walk want range all last place [] ≡ nothing_left
unfolding walk
walk_ends want range all last place = refl

abbrev pub spot_behind : Spot → Entry → Spot
spot_behind spot e = record { range = spot.range; next = spot.next + 1; place = spot.place + entry_length e; last = last_key e }

left_next : (want : Want) (entries : List Entry) (spot : Spot) (e : Entry) (all : List ℕ) (r : Result Rows ℕ) → drop spot.next entries ≡ e ∷ drop (spot.next + 1) entries → wanted_block want spot.range spot.last spot.place e all ≡ r
    → left_at want entries spot all ≡ then_walk want (left_at want entries (spot_behind spot e) all) r
left_next want entries spot e all r at is =
    ap (walk want spot.range all spot.last spot.place) at ∙ walk_next want spot.range all spot.last spot.place e (drop (spot.next + 1) entries) ∙ ap (λ (q : Result Rows ℕ). then_walk want (left_at want entries (spot_behind spot e) all) q) is

pub read_some : (want : Want) (entries : List Entry) (rows stack : Rows) (spot : Spot) (e : Entry) (all : List ℕ) → drop spot.next entries ≡ e ∷ drop (spot.next + 1) entries → rows ≡ [] → wanted_block want spot.range spot.last spot.place e all ≡ Ok (reverse stack)
    → Keeps want entries rows stack spot (spot_behind spot e) all
read_some want entries rows stack spot e all at none is =
    let next = left_next want entries spot e all (Ok (reverse stack)) at is in
    let others = left_at want entries (spot_behind spot e) all in
    let old : left_with want entries rows spot all ≡ keyed want.table (reverse stack) ++ others.partials = ap (λ (l : Rows). keyed want.table (reverse l) ++ (left_at want entries spot all).partials) none ∙ ap (λ (w : Walked). w.partials) next in
    record { partials = sym old; fault = sym (ap (λ (w : Walked). w.fault) next) }

pub read_fault : (want : Want) (entries : List Entry) (told : Option (List ℕ)) (file : ℕ) (spot : Spot) (entry : Entry) (e : ScanFault) → drop spot.next entries ≡ entry ∷ drop (spot.next + 1) entries
    → GivesPlaced (λ (rows : Rows). reverse rows) told file (Err e) (wanted_block want spot.range spot.last spot.place entry) → Faults want entries told file spot e
read_fault want entries told file spot entry scans.ReadFault at g = tt
read_fault want entries told file spot entry (scans.Damaged n place) at g = (
  g.0,
  told_1 told (λ all. wanted_block want spot.range spot.last spot.place entry all ≡ Err place) (IsFault want entries spot place) (λ all e. let next = left_next want entries spot entry all (Err place) at e in record { fault = ap (λ (w : Walked). w.fault) next; none = ap (λ (w : Walked). w.partials) next }) g.1,
)
read_fault want entries told file spot entry scans.NoMemory at g = tt

pub keeps_all : (want : Want) (entries : List Entry) (rows : Rows) (spot : Spot) (all : List ℕ) → Keeps want entries rows rows spot spot all
keeps_all want entries rows spot all = record { partials = refl; fault = refl }

pub keeps_then : (want : Want) (entries : List Entry) (a b c : Rows) (s t u : Spot) (all : List ℕ) → Keeps want entries a b s t all → Keeps want entries b c t u all → Keeps want entries a c s u all
keeps_then want entries a b c s t u all p q = record { partials = q.partials ∙ p.partials; fault = q.fault ∙ p.fault }

-- ---- how long entries are

wide_size : (n : ℤ) → length (wide_bytes n) ≡ 16
unfolding kind_code kind_width
wide_size n = (kind_spelling Wide).as_wide n

summary_size : (s : Summary) → length (summary_bytes s) ≡ 52
summary_size s =
    let a : length (to_le_bytes w32 s.count) ≡ 4 = refl in
    omega (arith, a, wide_size s.sum, wide_size s.least, wide_size s.greatest, length-append (to_le_bytes w32 s.count) (wide_bytes s.sum ++ (wide_bytes s.least ++ wide_bytes s.greatest)), length-append (wide_bytes s.sum) (wide_bytes s.least ++ wide_bytes s.greatest), length-append (wide_bytes s.least) (wide_bytes s.greatest))

summaries_length : (columns : List Summary) → length (flat_map summary_bytes columns) ≡ 52 * length columns
summaries_length [] = refl
summaries_length (s ∷ ss) =
    let a = summary_size s in
    let others = summaries_length ss in
    let e = length-append (summary_bytes s) (flat_map summary_bytes ss) in
    e ∙ omega arith

pub entry_size : (e : Entry) → length (entry_bytes e) ≡ entry_length e
entry_size e =
    let columns = flat_map summary_bytes e.columns in
    let front : List ℕ = to_le_bytes w64 e.offset ++ (to_le_bytes w32 e.size ++ (to_le_bytes w32 e.table ++ (to_le_bytes w32 e.rows ++ (to_le_bytes w64 e.first ++ (to_le_bytes w64 e.last ++ to_le_bytes w16 (length e.columns)))))) in
    let split : entry_bytes e ≡ front ++ columns = refl in
    let a : length front ≡ 38 = refl in
    ap length split ∙ length-append front columns ∙ omega (arith, a, summaries_length e.columns)

-- behind an entry the others are left
pub room_behind : (entries : List Entry) (spot : Spot) (e : Entry) → drop spot.next entries ≡ e ∷ drop (spot.next + 1) entries → spot.place + bytes_left entries spot < 2 ^ 64
    → (spot.place + entry_length e < 2 ^ 64) × ((spot.place + entry_length e) + bytes_left entries (spot_behind spot e) < 2 ^ 64)
room_behind entries spot e at room =
    let all = ap (λ (l : List Entry). length (flat_map entry_bytes l)) at ∙ ap length (flat_map-cons entry_bytes e (drop (spot.next + 1) entries)) ∙ length-append (entry_bytes e) (flat_map entry_bytes (drop (spot.next + 1) entries)) in
    let own = entry_size e in
    (omega (arith, all, own, room), omega (arith, all, own, room))

-- an entry that a list has at a place is the first from there on
pub entry_here : (xs : List Entry) (i : ℕ) (x : Entry) → slice_get xs i ≡ Some x → drop i xs ≡ x ∷ drop (i + 1) xs
entry_here [] zero x e = absurd cc
entry_here [] (suc i) x e = absurd cc
entry_here (y ∷ ys) zero x e = ap (λ (z : Entry). z ∷ ys) (some_is y x e)
entry_here (y ∷ ys) (suc i) x e =
    let more : suc (i + 1) ≡ suc i + 1 = omega arith in
    entry_here ys i x e ∙ ap (λ (n : ℕ). x ∷ drop n (y ∷ ys)) more

-- what a call makes of the spot, where the length of the entry is known by an equation
abbrev pub spot_moved : Spot → Entry → ℕ → Spot
spot_moved spot e long = record { range = spot.range; next = spot.next + 1; place = spot.place + long; last = record { table = e.table; ts = e.last } }

pub keeps_more : (want : Want) (entries : List Entry) (rows stack : Rows) (spot : Spot) (e : Entry) (long : ℕ) (all : List ℕ) → long ≡ entry_length e → slice_get entries spot.next ≡ Some e → rows ≡ [] → wanted_block want spot.range spot.last spot.place e all ≡ Ok (reverse stack)
    → Keeps want entries rows stack spot (spot_moved spot e long) all
keeps_more want entries rows stack spot e long all le here none is =
    subst (λ (n : ℕ). Keeps want entries rows stack spot (spot_moved spot e n) all) (sym le) (read_some want entries rows stack spot e all (entry_here entries spot.next e here) none is)

-- room for the entry, and behind it
pub room_here : (entries : List Entry) (spot : Spot) (e : Entry) → slice_get entries spot.next ≡ Some e → spot.place + bytes_left entries spot < 2 ^ 64 → spot.place + entry_length e < 2 ^ 64
room_here entries spot e here room = (room_behind entries spot e (entry_here entries spot.next e here) room).0

pub room_more : (entries : List Entry) (spot : Spot) (e : Entry) (long : ℕ) → long ≡ entry_length e → slice_get entries spot.next ≡ Some e → spot.place + bytes_left entries spot < 2 ^ 64 → (spot.place + long) + bytes_left entries (spot_moved spot e long) < 2 ^ 64
room_more entries spot e long le here room =
    subst (λ (n : ℕ). (spot.place + n) + bytes_left entries (spot_moved spot e n) < 2 ^ 64) (sym le) (room_behind entries spot e (entry_here entries spot.next e here) room).1

-- ---- keys rise over all blocks

abbrev Pairs : Type 0
Pairs = List (Key × Partial)

abbrev mk : ℕ → ℕ → Key
mk table ts = record { table = table; ts = ts }

same_key : (a a' b b' : ℕ) → a ≡ a' → b ≡ b' → mk a b ≡ mk a' b'
same_key a a' b b' p q = cc

abbrev rows_found : Rows → Result Rows ℕ
rows_found rows = Ok rows

-- where an entry agrees with its block, so do the last timestamps
agrees : (place columns : ℕ) (e : Entry) (b : Block) (last : ℕ) (rows : Rows) → agreeing place columns e b last ≡ Ok rows → (last ≡ e.last) × (b.rows ≡ rows)
agrees place columns e b last rows is =
    let five = cond (not (eqb (length e.columns) columns)) (Err (place + 36)) (rows_found b.rows) in
    let four = cond (not (eqb last e.last)) (Err (place + 28)) five in
    let three = cond (not (eqb (slice_index (times_of b.rows) 0) e.first)) (Err (place + 20)) four in
    let two = cond (not (eqb (length b.rows) e.rows)) (Err (place + 16)) three in
    let p = passed_by (not (eqb b.used e.size)) (place + 8) two rows is in
    let q = passed_by (not (eqb (length b.rows) e.rows)) (place + 16) three rows p.1 in
    let r = passed_by (not (eqb (slice_index (times_of b.rows) 0) e.first)) (place + 20) four rows q.1 in
    let s = passed_by (not (eqb last e.last)) (place + 28) five rows r.1 in
    let t = passed_by (not (eqb (length e.columns) columns)) (place + 36) (rows_found b.rows) rows s.1 in
    (eqb-true last e.last (double (eqb last e.last) s.0), ok_is b.rows rows t.1) where
      double : (b : Bool) → not b ≡ false → b ≡ true
      double true q = refl
      double false q = sym q

rows_end : (range lo hi place : ℕ) (last key : Key) (e : Entry) (rows : Rows) (xs : Pairs) → rows_checked range e.table last place rows ≡ Ok key → key.ts ≡ e.last → key_cmp last (last_key e) ≡ Less → ComeBehind (last_key e) xs → ComeBehind last (keyed e.table (wanted_of lo hi rows) ++ xs)
rows_end range lo hi place last key e [] xs is end less h = come_before last (last_key e) xs less h
rows_end range lo hi place last key e (row ∷ rows) xs is end less h =
    let table = rows_table range e.table row rows last key place is in
    let same : last_key e ≡ key = sym (same_key key.table e.table key.ts e.last table end) in
    rows_come range e.table lo hi (row ∷ rows) last key place xs is (subst (λ (k : Key). ComeBehind k xs) same h)

abbrev headed : List Kind → ℕ → Key → ℕ → Entry → List ℕ → Head → Result Rows ℕ
headed kinds range last place e all h = cond (eqb h.table e.table) (moved e.offset (whole_decoded kinds h.rows (take (own_length kinds h) (drop e.offset all)))) (Err (place + 12)) >>= checked_rows range last place (length kinds) e

own_come : (kinds : List Kind) (range lo hi place : ℕ) (last : Key) (e : Entry) (all : List ℕ) (rows : Rows) (xs : Pairs) → own_block kinds range last place e all ≡ Ok rows → key_cmp last (last_key e) ≡ Less → ComeBehind (last_key e) xs → ComeBehind last (keyed e.table (wanted_of lo hi rows) ++ xs)
unfolding own_block
own_come kinds range lo hi place last e all rows xs is less h =
    let t = bind_ok (moved e.offset (head_found (take 14 (drop e.offset all)))) (headed kinds range last place e all) rows is in
    let u = bind_ok (cond (eqb t.0.table e.table) (moved e.offset (whole_decoded kinds t.0.rows (take (own_length kinds t.0) (drop e.offset all)))) (Err (place + 12))) (checked_rows range last place (length kinds) e) rows t.2 in
    let b = u.0 in
    let v = bind_ok (rows_checked range e.table last (e.offset + 14) b.rows) (λ (key : Key). agreeing place (length kinds) e b key.ts) rows u.2 in
    let a = agrees place (length kinds) e b v.0.ts rows v.2 in
    subst (λ (l : Rows). ComeBehind last (keyed e.table (wanted_of lo hi l) ++ xs)) a.1 (rows_end range lo hi (e.offset + 14) last v.0 e b.rows xs v.1 a.0 less h)

block_come : (want : Want) (range place : ℕ) (last : Key) (e : Entry) (all : List ℕ) (rows : Rows) (xs : Pairs) → wanted_block want range last place e all ≡ Ok rows → key_cmp last (last_key e) ≡ Less → ComeBehind (last_key e) xs → ComeBehind last (keyed want.table rows ++ xs)
block_come want range place last e all rows xs is less h = by_need (is_needed want e) refl is where
  own : Result Rows ℕ
  own = own_block want.kinds range last place e all >>= λ (found : Rows). rows_found (wanted_of want.lo want.hi found)

  by_need : (b : Bool) → is_needed want e ≡ b → cond b own (rows_found []) ≡ Ok rows → ComeBehind last (keyed want.table rows ++ xs)
  by_need false q r = subst (λ (l : Rows). ComeBehind last (keyed want.table l ++ xs)) (ok_is [] rows r) (come_before last (last_key e) xs less h)
  by_need true q r =
      let table : e.table ≡ want.table = eqb-true e.table want.table (and_parts (eqb e.table want.table) (leb want.lo e.last && leb e.first want.hi) q).0 in
      let t = bind_ok (own_block want.kinds range last place e all) (λ (found : Rows). rows_found (wanted_of want.lo want.hi found)) rows r in
      let come = own_come want.kinds range want.lo want.hi place last e all t.0 xs t.1 less h in
      subst (λ (l : Rows). ComeBehind last (keyed want.table l ++ xs)) (ok_is (wanted_of want.lo want.hi t.0) rows t.2) (subst (λ (n : ℕ). ComeBehind last (keyed n (wanted_of want.lo want.hi t.0) ++ xs)) table come)

walk_rises : (want : Want) (range : ℕ) (all : List ℕ) (es : List Entry) (last : Key) (b : Behind) (place : ℕ) → Bounds last b → AllFollow b es → ComeBehind last (walk want range all last place es).partials
walk_rises want range all [] last b place bounds follow = subst (λ (w : Walked). ComeBehind last w.partials) (sym (walk_ends want range all last place)) (none_come last)
walk_rises want range all (e ∷ es) last b place bounds follow =
    let others = walk_rises want range all es (last_key e) (behind_entry e) (place + entry_length e) (bounds_next e) follow.1 in
    let less = behind_is_less last (last_key e) (ends_behind last b e bounds follow.0) in
    subst (λ (w : Walked). ComeBehind last w.partials) (sym (walk_next want range all last place e es)) (by_answer (wanted_block want range last place e all) refl less others) where
      by_answer : (r : Result Rows ℕ) → wanted_block want range last place e all ≡ r → key_cmp last (last_key e) ≡ Less → ComeBehind (last_key e) (walk want range all (last_key e) (place + entry_length e) es).partials
          → ComeBehind last (then_walk want (walk want range all (last_key e) (place + entry_length e) es) r).partials
      by_answer (Err at) q less h = none_come last
      by_answer (Ok rows) q less h = block_come want range place last e all rows (walk want range all (last_key e) (place + entry_length e) es).partials q less h

pub scanned_rises : (want : Want) (all : List ℕ) → InKeyOrder (scanned want all).partials
unfolding scanned
scanned_rises want all = by_opening (opening_at all) refl where
  by_opening : (r : Result Opening ℕ) → opening_at all ≡ r → InKeyOrder (behind_opening want all r).partials
  by_opening (Err place) q = tt
  by_opening (Ok o) q = (walk_rises want o.range all o.entries before_all (behind []) o.index bounds_first (opening_follows all o q)).rise

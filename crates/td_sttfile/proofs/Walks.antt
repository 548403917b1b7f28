-- What reading one block after the other gives.
use Rattle.std.proofs.Common.{◌≡◌, ℕ, zero, suc, ◌+◌, ◌-◌, ◌*◌, ◌<◌, ◌≤◌, Bool, true, false, cond, ltb, List, [], ◌∷◌, ◌++◌, length, take, drop, reverse, ◌&&◌, Option, Some, None, Result, Ok, Err, refl, sym, ap, subst, ◌∙◌, arith}
use Rattle.std.specs.List.{AllByRecursion, filter}
use Rattle.std.proofs.lemmas.Bool.{and_parts}
use Rattle.std.proofs.lemmas.Bool.Decides.{nat_tests}
use Rattle.std.proofs.lemmas.List.{reverse-reverse, reverse-append}
use Rattle.td_cols.specs.declared.kinds.Kind.{Kind}
use Rattle.td_layer.specs.declared.values.Key.{Key}
use Rattle.td_layer.specs.declared.parts.Partial.{Partial}
use Rattle.td_layer.specs.declared.scans.ScanFault.{ScanFault}
use Rattle.td_layer.specs.declared.scans.ScanFault.TheVariants as scans
use Rattle.td_layer.specs.Keys.{InKeyOrder}
use Rattle.td_codec.specs.Fields.{◌>>=◌, Read}
use Rattle.td_codec.proofs.FieldLaws.{bind_ok, passed, passed_by}
use Rattle.td_block.specs.declared.block.Block.{Block}
use Rattle.td_block.specs.declared.header.Head.{Head}
use Rattle.td_block.specs.Rows.{Rows}
use Rattle.td_block.specs.Blocks.{decoded}
use Rattle.td_block.specs.Headers.{head_found}
use Rattle.td_fileio.specs.Days.{is_in_day}
use Rattle.td_fileio.specs.Places.{Placed, GivesPlaced}
use Rattle.td_fileio.proofs.ReadLaws.{told_1}
use Rattle.td_sttfile.specs.declared.format.FileCut.{FileCut}
use Rattle.td_sttfile.specs.declared.blocks.Found.{Found}
use Rattle.td_sttfile.specs.declared.blocks.Spot.{Spot}
use Rattle.td_sttfile.specs.Opening.{opening_at}
use Rattle.td_sttfile.specs.Blocks.{is_behind, rows_checked, moved, own_length, own_found, own_at, Ends, ends_read, rest_read, passed_found, passed_at, other_found, is_outside, wanted_found, found_at, block_at}
use Rattle.td_sttfile.specs.Scanned.{Want, wanted_of, keyed, Walked, nothing_left, then_walk, walk, before_all, behind_opening, scanned}
use Rattle.td_sttfile.specs.Scanning.{left_at, left_with, Keeps, IsFault, Faults}
use Rattle.td_sttfile.proofs.Headers.{ends_rise}
use Rattle.td_sttfile.proofs.Order.{ComeBehind, none_come, come_before, rows_come, behind_is_less}

-- ---- lists

pub all_filtered : {A : Type 0} (P : A → Type 0) (test : A → Bool) (xs : List A) → AllByRecursion P xs → AllByRecursion P (filter test xs)
all_filtered P test [] h = tt
all_filtered {A} P test (x ∷ xs) h = picked (test x) (all_filtered P test xs h.1) where
  picked : (b : Bool) → AllByRecursion P (filter test xs) → AllByRecursion P (cond b (x ∷ filter test xs) (filter test xs))
  picked true others = (h.0, others)
  picked false others = others

pub all_appended : {A : Type 0} (P : A → Type 0) (xs ys : List A) → AllByRecursion P xs → AllByRecursion P ys → AllByRecursion P (xs ++ ys)
all_appended P [] ys h k = k
all_appended P (x ∷ xs) ys h k = (h.0, all_appended P xs ys h.1 k)

pub all_reversed : {A : Type 0} (P : A → Type 0) (xs : List A) → AllByRecursion P xs → AllByRecursion P (reverse xs)
all_reversed P [] h = tt
all_reversed {A} P (x ∷ xs) h =
    let e : reverse (x ∷ xs) ≡ reverse xs ++ x ∷ [] = reverse-append (x ∷ []) xs in
    subst (λ (l : List A). AllByRecursion P l) (sym e) (all_appended P (reverse xs) (x ∷ []) (all_reversed P xs h.1) (h.0, tt))

pub all_of_reversed : {A : Type 0} (P : A → Type 0) (xs ys : List A) → reverse xs ≡ ys → AllByRecursion P ys → AllByRecursion P xs
all_of_reversed {A} P xs ys e h = subst (λ (l : List A). AllByRecursion P l) (ap reverse (sym e) ∙ reverse-reverse xs) (all_reversed P ys h)

-- ---- one block more

walk_next : (want : Want) (range : ℕ) (all : List ℕ) (blocks at : ℕ) (last : Key) → 0 < blocks → walk want range all blocks at last ≡ then_walk want (walk want range all (blocks - 1)) (block_at want.kinds want.table want.lo want.hi range last at all)
unfolding walk
walk_next want range all zero at last lt = absurd (omega arith)
walk_next want range all (suc n) at last lt =
    let e : n ≡ suc n - 1 = omega arith in
    ap (λ (k : ℕ). then_walk want (walk want range all k) (block_at want.kinds want.table want.lo want.hi range last at all)) e

pub walk_ends : (want : Want) (range : ℕ) (all : List ℕ) (at : ℕ) (last : Key) → walk want range all 0 at last ≡ nothing_left
unfolding walk
walk_ends want range all at last = refl

left_next : (want : Want) (spot : Spot) (all : List ℕ) (r : Result (Option Found) ℕ) → 0 < spot.blocks → block_at want.kinds want.table want.lo want.hi spot.range spot.last spot.at all ≡ r → left_at want spot all ≡ then_walk want (walk want spot.range all (spot.blocks - 1)) r
left_next want spot all r some e = walk_next want spot.range all spot.blocks spot.at spot.last some ∙ ap (λ (q : Result (Option Found) ℕ). then_walk want (walk want spot.range all (spot.blocks - 1)) q) e

abbrev pub spot_behind : Spot → Found → Spot
spot_behind spot f = record { range = spot.range; blocks = spot.blocks - 1; at = f.next; last = f.last }

abbrev pub spot_ended : Spot → Spot
spot_ended spot = record { range = spot.range; blocks = 0; at = spot.at; last = spot.last }

pub read_some : (want : Want) (rows stack : Rows) (spot : Spot) (f : Found) (all : List ℕ) → 0 < spot.blocks → rows ≡ [] → reverse stack ≡ wanted_of want.lo want.hi f.rows → block_at want.kinds want.table want.lo want.hi spot.range spot.last spot.at all ≡ Ok (Some f)
    → Keeps want rows stack spot (spot_behind spot f) all
read_some want rows stack spot f all some none picked e =
    let next = left_next want spot all (Ok (Some f)) some e in
    let others = left_at want (spot_behind spot f) all in
    let new : left_with want stack (spot_behind spot f) all ≡ keyed want.table (wanted_of want.lo want.hi f.rows) ++ others.partials = ap (λ (l : Rows). keyed want.table l ++ others.partials) picked in
    let old : left_with want rows spot all ≡ keyed want.table (wanted_of want.lo want.hi f.rows) ++ others.partials = ap (λ (l : Rows). keyed want.table (reverse l) ++ (left_at want spot all).partials) none ∙ ap (λ (w : Walked). w.partials) next in
    record { partials = new ∙ sym old; fault = sym (ap (λ (w : Walked). w.fault) next) }

pub read_none : (want : Want) (rows : Rows) (spot : Spot) (all : List ℕ) → 0 < spot.blocks → block_at want.kinds want.table want.lo want.hi spot.range spot.last spot.at all ≡ Ok None → Keeps want rows rows spot (spot_ended spot) all
read_none want rows spot all some e =
    let next = left_next want spot all (Ok None) some e in
    let ended : left_at want (spot_ended spot) all ≡ nothing_left = walk_ends want spot.range all spot.at spot.last in
    record {
      partials = ap (λ (w : Walked). keyed want.table (reverse rows) ++ w.partials) (ended ∙ sym next);
      fault = ap (λ (w : Walked). w.fault) (ended ∙ sym next);
    }

pub read_fault : (want : Want) (told : Option (List ℕ)) (file : ℕ) (spot : Spot) (e : ScanFault) → 0 < spot.blocks → GivesPlaced (λ (f : Option Found). f) told file (Err e) (block_at want.kinds want.table want.lo want.hi spot.range spot.last spot.at) → Faults want told file spot e
read_fault want told file spot scans.ReadFault some g = tt
read_fault want told file spot (scans.Damaged n place) some g = (
  g.0,
  told_1 told (λ all. block_at want.kinds want.table want.lo want.hi spot.range spot.last spot.at all ≡ Err place) (IsFault want spot place) (λ all e. let next = left_next want spot all (Err place) some e in record { fault = ap (λ (w : Walked). w.fault) next; none = ap (λ (w : Walked). w.partials) next }) g.1,
)
read_fault want told file spot scans.NoMemory some g = tt

pub keeps_all : (want : Want) (rows : Rows) (spot : Spot) (all : List ℕ) → Keeps want rows rows spot spot all
keeps_all want rows spot all = record { partials = refl; fault = refl }

pub keeps_then : (want : Want) (a b c : Rows) (s t u : Spot) (all : List ℕ) → Keeps want a b s t all → Keeps want b c t u all → Keeps want a c s u all
keeps_then want a b c s t u all p q = record { partials = q.partials ∙ p.partials; fault = q.fault ∙ p.fault }

-- ---- keys rise over all blocks

abbrev found : Found → Result Found ℕ
found f = Ok f

abbrev perhaps : Option Found → Result (Option Found) ℕ
perhaps o = Ok o

same_found : (g f : Found) → found g ≡ found f → g ≡ f
same_found g f e = cc

-- what a block gives comes behind a key with all that comes behind the block
abbrev Continues : ℕ → ℕ → ℕ → Key → List (Key × Partial) → Found → Type 0
Continues table lo hi last xs f = ComeBehind f.last xs → ComeBehind last (keyed table (wanted_of lo hi f.rows) ++ xs)

later : (last : Key) (t a b : ℕ) → is_behind last (record { table = t; ts = a }) ≡ true → a ≤ b → is_behind last (record { table = t; ts = b }) ≡ true
later last t a b p le = grind (arith, nat_tests)

by_come : (table lo hi size : ℕ) (last : Key) (head : Head) (ends : Ends) (r : Read (Unit {0})) (f : Found) (xs : List (Key × Partial)) → is_behind last (record { table = head.table; ts = ends.1 }) ≡ true → passed_found size head ends r ≡ Ok f → Continues table lo hi last xs f
by_come table lo hi size last head ends (Err left) f xs behind e = absurd (wrong e) where
  wrong : passed_found size head ends (Err left) ≡ Ok f → ⊥
  wrong q = cc
by_come table lo hi size last head ends (Ok x) f xs behind e =
    let end : Key = record { table = head.table; ts = ends.1 } in
    let given : Found = record { rows = []; next = size - length x.1; last = end } in
    subst (Continues table lo hi last xs) (same_found given f e) (λ h. come_before last end xs (behind_is_less last end behind) h)

passed_come : (given : List Kind) (table lo hi range at : ℕ) (last : Key) (head : Head) (ends : Ends) (rest all : List ℕ) (f : Found) (xs : List (Key × Partial)) → ends.0 ≤ ends.1 → passed_at given range last head ends rest at all ≡ Ok f → Continues table lo hi last xs f
unfolding passed_at
passed_come given table lo hi range at last head ends rest all f xs le e =
    let first : Key = record { table = head.table; ts = ends.0 } in
    let r = passed_found (length all) head ends (rest_read given head rest) in
    let t = passed (is_behind last first && is_in_day range ends.0) (at + 14) (cond (is_in_day range ends.1) r (Err (at + 14 + 8 * (head.rows - 1)))) f e in
    let u = passed (is_in_day range ends.1) (at + 14 + 8 * (head.rows - 1)) r f t.1 in
    let behind = (and_parts (is_behind last first) (is_in_day range ends.0) t.0).0 in
    by_come table lo hi (length all) last head ends (rest_read given head rest) f xs (later last head.table ends.0 ends.1 behind le) u.1

own_come : (table lo hi range at : ℕ) (last : Key) (b : Block) (f : Found) (xs : List (Key × Partial)) → own_found table range last at b ≡ Ok f → Continues table lo hi last xs f
own_come table lo hi range at last b f xs e =
    let t = bind_ok (rows_checked range table last (at + 14) b.rows) (λ (key : Key). found (record { rows = b.rows; next = at + b.used; last = key })) f e in
    let given : Found = record { rows = b.rows; next = at + b.used; last = t.0 } in
    subst (Continues table lo hi last xs) (same_found given f t.2) (λ h. rows_come range table lo hi b.rows last t.0 (at + 14) xs t.1 h)

decoded_come : (kinds : List Kind) (table lo hi range at : ℕ) (last : Key) (h : Head) (all : List ℕ) (f : Found) (xs : List (Key × Partial)) → own_at kinds table range last h at all ≡ Ok f → Continues table lo hi last xs f
unfolding own_at
decoded_come kinds table lo hi range at last h all f xs e =
    let t = bind_ok (moved at (decoded kinds (take (own_length kinds h) (drop at all)))) (own_found table range last at) f e in
    own_come table lo hi range at last t.0 f xs t.2

other_come : (table lo hi range at : ℕ) (last : Key) (h : Head) (all : List ℕ) (r : Read Ends) (f : Found) (xs : List (Key × Partial)) → ((e : Ends × List ℕ) → r ≡ Ok e → e.0.0 ≤ e.0.1) → other_found range last h at all r ≡ Ok f → Continues table lo hi last xs f
other_come table lo hi range at last h all (Err left) f xs rises e = absurd (wrong e) where
  wrong : other_found range last h at all (Err left) ≡ Ok f → ⊥
  wrong q = cc
other_come table lo hi range at last h all (Ok x) f xs rises e = passed_come [] table lo hi range at last h x.0 x.1 all f xs (rises x refl) e

wanted_come : (kinds : List Kind) (table lo hi range at : ℕ) (last : Key) (h : Head) (all : List ℕ) (r : Read Ends) (f : Found) (xs : List (Key × Partial)) → ((e : Ends × List ℕ) → r ≡ Ok e → e.0.0 ≤ e.0.1)
    → wanted_found kinds table lo hi range last h at all r ≡ Ok f → Continues table lo hi last xs f
wanted_come kinds table lo hi range at last h all (Err left) f xs rises e = decoded_come kinds table lo hi range at last h all f xs e
wanted_come kinds table lo hi range at last h all (Ok x) f xs rises e = by_test (is_outside kinds lo hi h x.0) e where
  by_test : (b : Bool) → cond b (passed_at kinds range last h x.0 x.1 at all) (own_at kinds table range last h at all) ≡ Ok f → Continues table lo hi last xs f
  by_test true q = passed_come kinds table lo hi range at last h x.0 x.1 all f xs (rises x refl) q
  by_test false q = decoded_come kinds table lo hi range at last h all f xs q

found_come : (kinds : List Kind) (table lo hi range at : ℕ) (last : Key) (h : Head) (all : List ℕ) (f : Found) (xs : List (Key × Partial)) → found_at kinds table lo hi range last h at all ≡ Ok f → Continues table lo hi last xs f
unfolding found_at
found_come kinds table lo hi range at last h all f xs e = by_test (ltb h.table table) e where
  r : Read Ends
  r = ends_read h (drop (at + 14) all)

  by_test : (b : Bool) → cond b (other_found range last h at all r) (wanted_found kinds table lo hi range last h at all r) ≡ Ok f → Continues table lo hi last xs f
  by_test true q = other_come table lo hi range at last h all r f xs (ends_rise h (drop (at + 14) all)) q
  by_test false q = wanted_come kinds table lo hi range at last h all r f xs (ends_rise h (drop (at + 14) all)) q

-- what is behind the head
abbrev headed : List Kind → ℕ → ℕ → ℕ → ℕ → Key → ℕ → List ℕ → Head → Result (Option Found) ℕ
headed kinds table lo hi range last at all h =
    cond (ltb h.table last.table) (Err (at + 4)) (cond (ltb table h.table) (perhaps None) (found_at kinds table lo hi range last h at all >>= λ f. perhaps (Some f)))

block_come : (kinds : List Kind) (table lo hi range at : ℕ) (last : Key) (all : List ℕ) (f : Found) (xs : List (Key × Partial)) → block_at kinds table lo hi range last at all ≡ Ok (Some f) → Continues table lo hi last xs f
unfolding block_at
block_come kinds table lo hi range at last all f xs e =
    let t = bind_ok (moved at (head_found (take 14 (drop at all)))) (headed kinds table lo hi range last at all) (Some f) e in
    let h = t.0 in
    let p = passed_by (ltb h.table last.table) (at + 4) (cond (ltb table h.table) (perhaps None) (found_at kinds table lo hi range last h at all >>= λ g. perhaps (Some g))) (Some f) t.2 in
    by_test h (ltb table h.table) p.1 where
      by_test : (h : Head) (b : Bool) → cond b (perhaps None) (found_at kinds table lo hi range last h at all >>= λ g. perhaps (Some g)) ≡ perhaps (Some f) → Continues table lo hi last xs f
      by_test h true q = absurd (wrong q) where
        wrong : perhaps None ≡ perhaps (Some f) → ⊥
        wrong r = cc
      by_test h false q =
          let t = bind_ok (found_at kinds table lo hi range last h at all) (λ (g : Found). perhaps (Some g)) (Some f) q in
          subst (Continues table lo hi last xs) (inside t.0 t.2) (found_come kinds table lo hi range at last h all t.0 xs t.1) where
            inside : (g : Found) → perhaps (Some g) ≡ perhaps (Some f) → g ≡ f
            inside g r = cc

pub walk_rises : (want : Want) (range : ℕ) (all : List ℕ) (blocks at : ℕ) (last : Key) → ComeBehind last (walk want range all blocks at last).partials
unfolding walk
walk_rises want range all zero at last = none_come last
walk_rises want range all (suc n) at last = by_answer n (block_at want.kinds want.table want.lo want.hi range last at all) refl (λ next end. walk_rises want range all n next end) where
  by_answer : (n : ℕ) (r : Result (Option Found) ℕ) → block_at want.kinds want.table want.lo want.hi range last at all ≡ r → ((next : ℕ) (end : Key) → ComeBehind end (walk want range all n next end).partials) → ComeBehind last (then_walk want (walk want range all n) r).partials
  by_answer n (Err place) e others = none_come last
  by_answer n (Ok None) e others = none_come last
  by_answer n (Ok (Some f)) e others = block_come want.kinds want.table want.lo want.hi range at last all f (walk want range all n f.next f.last).partials e (others f.next f.last)

pub scanned_rises : (want : Want) (all : List ℕ) → InKeyOrder (scanned want all).partials
unfolding scanned
scanned_rises want all = by_opening (opening_at all) where
  by_opening : (o : Placed (ℕ × (ℕ × (List FileCut × ℕ)))) → InKeyOrder (behind_opening want all o).partials
  by_opening (Err place) = tt
  by_opening (Ok o) = (walk_rises want o.0.1.0 all o.0.1.1.1 o.1 before_all).rise

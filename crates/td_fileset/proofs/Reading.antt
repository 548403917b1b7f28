-- Reading the rows of a merge one by one, and putting scans over one another.
use Rattle.std.proofs.Common.{◌≡◌, ℕ, zero, suc, ◌+◌, ◌-◌, ◌^◌, ◌≤◌, List, [], ◌∷◌, ◌++◌, length, map, drop, Option, Some, None, refl, sym, ap, ◌∙◌, subst, arith, append_assoc, length-append}
use Rattle.std.specs.Prelude.{IfSome, Result, Ok, Err, min, sum}
use Rattle.std.specs.Option.{option_map, option_and_then}
use Rattle.std.specs.List.{AllByRecursion}
use Rattle.std.proofs.lemmas.List.Sums.{sum_by-cons}
use Rattle.td_layer.specs.declared.values.Key.{Key}
use Rattle.td_layer.specs.declared.values.Row.{Row}
use Rattle.td_layer.specs.declared.scans.ScanFault.{ScanFault}
use Rattle.td_layer.specs.Scans.{Places, GivesFirst, HasScanCause}
use Rattle.td_fileset.specs.Stack.{Layer, rows_of}
use Rattle.td_fileset.specs.Merged.{Merged, held, HasSteps, rows_left}
use Rattle.td_fileset.specs.Sources.{Reads, InSttFile, InDataFile}
use Rattle.td_fileset.specs.Layered.{OpenSet, listed}
use Rattle.td_fileset.specs.Opened.{Readers, with_kept, with_files, stt_in, data_in, HasRoom, timed, IsRead, over_layers, beside_places}

-- ---- rows

append_nothing : {X : Type 0} (xs : List X) → xs ++ [] ≡ xs
append_nothing [] = refl
append_nothing (x ∷ xs) = ap (λ l. x ∷ l) (append_nothing xs)

pub read_none : (before : List (ℕ × Row)) (all : Option (List (Key × Row))) → IsRead before before all all
read_none before None = tt
read_none before (Some rows) = refl

pub read_more : (before found : List (ℕ × Row)) (key : Key) (row : Row) (all old new : Option (List (Key × Row))) → IsRead before found all old → GivesFirst old new (Ok (Some (key, row))) → IsRead before (found ++ (key.ts, row) ∷ []) all new
read_more before found key row None None None h g = tt
read_more before found key row None None (Some new) h g = absurd g
read_more before found key row None (Some old) new h g = absurd h
read_more before found key row (Some all) None new h g = absurd h
read_more before found key row (Some all) (Some old) None h g = absurd g
read_more before found key row (Some all) (Some old) (Some new) h g = h ∙ ap (λ rows. found ++ timed rows) g ∙ sym (append_assoc found ((key.ts, row) ∷ []) (timed new))

pub read_all : (before found : List (ℕ × Row)) (all old new : Option (List (Key × Row))) → IsRead before found all old → GivesFirst old new (Ok None) → IfSome all (λ rows. found ≡ before ++ timed rows)
read_all before found None old new h g = tt
read_all before found (Some all) None new h g = absurd h
read_all before found (Some all) (Some old) None h g = absurd g
read_all before found (Some all) (Some old) (Some new) h g = sym (h ∙ ap (λ rows. found ++ timed rows) g.0 ∙ append_nothing found)

pub values_more : {X : Type 0} (P : X → Type 0) (xs : List X) (x : X) → AllByRecursion P xs → P x → AllByRecursion P (xs ++ x ∷ [])
values_more P [] x h p = (p, tt)
values_more P (y ∷ xs) x h p = (h.0, values_more P xs x h.1 p)

-- ---- steps

-- the layers of a merge are told before and after or neither, and the steps between are at most the partials used
abbrev pub Falls : Option (List Layer) → Option (List Layer) → ℕ → ℕ → ℕ → ℕ → Type 0
Falls None new was is before now = Unit {0}
Falls (Some old) None was is before now = ⊥
Falls (Some old) (Some new) was is before now = (now + held new + was ≤ before + held old + is) × (is ≤ held new)

abbrev pub TookMost : Merged → Merged → ℕ → ℕ → Type 0
TookMost old new before now = Falls old.layers new.layers old.waiting new.waiting before now

pub most_none : (m : Merged) (before : ℕ) → m.waiting ≡ 0 → TookMost m m before before
most_none m before none = by m.layers m.waiting none
  where
    by : (o : Option (List Layer)) (w : ℕ) → w ≡ 0 → Falls o o w w before before
    by None w e = tt
    by (Some ls) w e = (omega arith, omega arith)

pub most_more : (a b c : Merged) (r : Result (Option (Key × Row)) ScanFault) (s t u rows : ℕ) → TookMost a b s t → GivesFirst (rows_left b) (rows_left c) r → HasSteps b c t u rows → TookMost a c s u
most_more a b c r s t u rows h g k = by a.layers b.layers c.layers a.waiting b.waiting c.waiting h g k.most k.unused
  where
    by : (a b c : Option (List Layer)) (wa wb wc : ℕ) → Falls a b wa wb s t → GivesFirst (option_map rows_of b) (option_map rows_of c) r
        → IfSome b (λ was. IfSome c (λ is. u + held is + wb ≤ t + held was + wc)) → IfSome c (λ is. wc ≤ held is) → Falls a c wa wc s u
    by None b c wa wb wc h g m n = tt
    by (Some a) None c wa wb wc h g m n = absurd h
    by (Some a) (Some b) None wa wb wc h g m n = absurd g
    by (Some a) (Some b) (Some c) wa wb wc h g m n = (omega (arith, h.0, m), n)

pub most_all : (a c : Merged) (s u : ℕ) → a.waiting ≡ 0 → TookMost a c s u → IfSome a.layers (λ ls. u ≤ s + held ls)
most_all a c s u none h = by a.layers c.layers a.waiting c.waiting none h
  where
    by : (a c : Option (List Layer)) (wa wc : ℕ) → wa ≡ 0 → Falls a c wa wc s u → IfSome a (λ ls. u ≤ s + held ls)
    by None c wa wc e h = tt
    by (Some a) None wa wc e h = absurd h
    by (Some a) (Some c) wa wc e h = omega (arith, h.0, h.1)

-- ---- faults

pub cause_from : {X Y : Type 0} (p q : Option Places) (a b c : ℕ) (e : ScanFault) → p ≡ q → a ≡ b → HasScanCause {X = X} p a c (Err e) → HasScanCause {X = Y} q b c (Err e)
cause_from {X} {Y} p q a b c e same count h =
    subst (λ (n : ℕ). HasScanCause {X = Y} q n c (Err e)) count (subst (λ (o : Option Places). HasScanCause {X = Y} o a c (Err e)) same (record { later = h.later; kept = tt; fault = h.fault }))

-- ---- scans over one another

pub over_last : (ls : List (Option Layer)) (l : Option Layer) (base : Option (List Layer)) → over_layers (ls ++ l ∷ []) base ≡ over_layers ls (over_layers (l ∷ []) base)
over_last [] l base = refl
over_last (x ∷ ls) l base = ap (λ (o : Option (List Layer)). option_and_then (λ older. option_map (λ newest. newest ∷ older) x) o) (over_last ls l base)

pub beside_last : (ps : List (Option Places)) (p : Option Places) (base : Option Places) → beside_places (ps ++ p ∷ []) base ≡ beside_places ps (beside_places (p ∷ []) base)
beside_last [] p base = refl
beside_last (x ∷ ps) p base = ap (λ (o : Option Places). option_and_then (λ others. option_map (λ its. others ++ its) x) o) (beside_last ps p base)

pub map_last : {X Y : Type 0} (f : X → Y) (xs : List X) (x : X) → map f (xs ++ x ∷ []) ≡ map f xs ++ f x ∷ []
map_last f [] x = refl
map_last f (y ∷ xs) x = ap (λ l. f y ∷ l) (map_last f xs x)

pub sum_more : (n : ℕ) (ns : List ℕ) → sum (n ∷ ns) ≡ n + sum ns
sum_more n ns = sum_by-cons (λ x. x) n ns

-- ---- room

pub room_one : (r : Reads) (rs : List Reads) (s : Readers) → HasRoom (r ∷ rs) s → HasRoom (r ∷ []) s
room_one r rs s h = record { stt = omega (arith, h.stt); main = omega (arith, h.main) }

pub room_oldest : (r : Reads) (rs : List Reads) (old new : Readers) → r.kept ≡ InSttFile → old.files ≡ with_kept InSttFile r new.files → new.room ≡ old.room → HasRoom rs old → HasRoom (r ∷ rs) new
room_oldest r rs old new kind is room h =
    let long : length old.files.stt ≡ length new.files.stt + 1 = ap (λ (s : OpenSet). length s.stt) is ∙ length-append new.files.stt (r ∷ []) in
    let mains : length (listed old.files.main) ≡ length (listed new.files.main) = ap (λ (s : OpenSet). length (listed s.main)) is in
    let one : stt_in r.kept ≡ 1 = ap stt_in kind in
    let none : data_in r.kept ≡ 0 = ap data_in kind in
    record { stt = omega (arith, h.stt, long, one, room); main = omega (arith, h.main, mains, none) }

pub room_data : (r : Reads) (rs : List Reads) (old new : Readers) → r.kept ≡ InDataFile → old.files ≡ with_kept InDataFile r new.files → new.files.main ≡ None → new.room ≡ old.room → HasRoom rs old → HasRoom (r ∷ rs) new
room_data r rs old new kind is none room h =
    let long : length old.files.stt ≡ length new.files.stt = ap (λ (s : OpenSet). length s.stt) is in
    let mains : length (listed old.files.main) ≡ 1 = ap (λ (s : OpenSet). length (listed s.main)) is in
    let nothing : length (listed new.files.main) ≡ 0 = ap (λ (o : Option Reads). length (listed o)) none in
    let no : stt_in r.kept ≡ 0 = ap stt_in kind in
    let one : data_in r.kept ≡ 1 = ap data_in kind in
    record { stt = omega (arith, h.stt, long, no, room); main = omega (arith, h.main, mains, nothing, one) }

-- ---- loops

pub back_files : (r : Reads) (rs all : List Reads) (old new goal : OpenSet) → all ≡ r ∷ rs → new ≡ with_kept r.kept r old → with_files all old ≡ goal → with_files rs new ≡ goal
back_files r rs all old new goal e is h = ap (with_files rs) is ∙ sym (ap (λ l. with_files l old) e) ∙ h

pub back_failed : (n : ℕ) (ns all : List ℕ) (old new goal : ℕ) → all ≡ n ∷ ns → new ≡ old + n → old + sum all ≡ goal → new + sum ns ≡ goal
back_failed n ns all old new goal e is h = let s : sum all ≡ n + sum ns = ap sum e ∙ sum_more n ns in omega (arith, s, is, h)

module _ {X : Type 0} where
  pub layer_pushed : (f : X → Option Layer) (xs front now : List X) (x : X) (l : Option Layer) (base new all : Option (List Layer)) → xs ≡ front ++ x ∷ [] → now ≡ front → l ≡ f x → new ≡ over_layers (l ∷ []) base → over_layers (map f xs) base ≡ all → over_layers (map f now) new ≡ all
  layer_pushed f xs front now x l base new all e same is pushed h =
      (λ i. over_layers (map f (same i)) (pushed i))
      ∙ ap (λ (o : Option Layer). over_layers (map f front) (over_layers (o ∷ []) base)) is
      ∙ sym (over_last (map f front) (f x) base)
      ∙ sym (ap (λ ls. over_layers ls base) (ap (map f) e ∙ map_last f front x))
      ∙ h

  pub places_pushed : (f : X → Option Places) (xs front now : List X) (x : X) (p : Option Places) (base new all : Option Places) → xs ≡ front ++ x ∷ [] → now ≡ front → p ≡ f x → new ≡ beside_places (p ∷ []) base → beside_places (map f xs) base ≡ all → beside_places (map f now) new ≡ all
  places_pushed f xs front now x p base new all e same is pushed h =
      (λ i. beside_places (map f (same i)) (pushed i))
      ∙ ap (λ (o : Option Places). beside_places (map f front) (beside_places (o ∷ []) base)) is
      ∙ sym (beside_last (map f front) (f x) base)
      ∙ sym (ap (λ ps. beside_places ps base) (ap (map f) e ∙ map_last f front x))
      ∙ h

-- counts that are summed up to the number's end
pub all_counted : {X : Type 0} (f : X → ℕ) (xs : List X) (i n s : ℕ) → length xs ≤ i → n ≤ 2 ^ 64 - 1 → min (n + sum (map f (drop i xs))) (2 ^ 64 - 1) ≡ s → n ≡ s
all_counted f xs i n s long few h = let none = ap (λ l. sum (map f l)) (dropped xs i long) in omega (arith, none, h)
  where
    dropped : {X : Type 0} (xs : List X) (i : ℕ) → length xs ≤ i → drop i xs ≡ []
    dropped [] zero h = refl
    dropped [] (suc i) h = refl
    dropped (x ∷ xs) zero h = absurd (omega (arith, h))
    dropped (x ∷ xs) (suc i) h = dropped xs i (omega (arith, h))

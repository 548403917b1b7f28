-- The damaged places of the files of a set, and of all tables.
use Rattle.std.proofs.Common.{◌≡◌, ◌⊎◌, inl, inr, ℕ, zero, suc, ◌≤◌, ◌<◌, Bool, true, false, cond, eqb, List, [], ◌∷◌, ◌++◌, length, map, Option, Some, None, refl, ap, ◌∙◌, subst, arith}
use Rattle.std.specs.Prelude.{Contains, Result, slice_index_or}
use Rattle.std.specs.Option.{option_map, option_and_then}
use Rattle.std.specs.List.{flat_map, AllByRecursion}
use Rattle.std.specs.Map.{lookup}
use Rattle.std.proofs.lemmas.Bool.Decides.{nat_tests}
use Rattle.std.proofs.lemmas.List.Elements.{Contains-append_cases}
use Rattle.td_cols.specs.declared.kinds.Kind.{Kind}
use Rattle.td_layer.specs.declared.scans.ScanFault.{ScanFault}
use Rattle.td_layer.specs.Scans.{Places, HasScanCause}
use Rattle.td_memtable.specs.Contents.{Contents}
use Rattle.td_sttfile.specs.Scanned.{scanned as stt_scanned, places_of as stt_places}
use Rattle.td_sttfile.specs.Ranges.{faults_of as stt_faults}
use Rattle.td_sttfile.proofs.Narrow.{fault_among as stt_among}
use Rattle.td_datafile.specs.Scanned.{scanned as data_scanned, places_of as data_places}
use Rattle.td_datafile.specs.Ranges.{faults_of as data_faults}
use Rattle.td_datafile.proofs.Narrow.{fault_among as data_among}
use Rattle.td_fileset.specs.Merged.{all_told, told_places}
use Rattle.td_fileset.specs.Sources.{Kept, Reads, InMemory, InSttFile, InDataFile}
use Rattle.td_fileset.specs.Layered.{OpenSet, listed, files_of, Span, whole, last_ts, stt_want, data_want, places_in, file_places, table_places, Stored, damaged_told}
use Rattle.td_fileset.specs.Opened.{first_places, told_damage, beside_places}
use Rattle.td_fileset.specs.Pieces.{set_at, own_span, piece_places}
use Rattle.td_fileset.proofs.Damage.{AreAmong, none_in, nothing_among, beside_among, told_each, cause_wider}
use Rattle.td_fileset.proofs.Pieced.{split_all}

-- ---- one file

contains_map : {X Y : Type 0} (f : X → Y) (xs : List X) (x : X) (k : ℕ) → k < length xs → slice_index_or xs k x ≡ x → Contains (map f xs) (f x)
contains_map f [] x k lt is = absurd (omega (arith, lt))
contains_map f (y ∷ ys) x zero lt is = (0, omega arith, ap f is)
contains_map f (y ∷ ys) x (suc k) lt is = let rest = contains_map f ys x k (omega (arith, lt)) is in (suc rest.0, omega (arith, rest.1), rest.2)

module _ (table : ℕ) (kinds : List Kind) (lo hi : ℕ) (g : hi ≤ last_ts) where
  abbrev near : Span
  near = record { table = table; kinds = kinds; lo = lo; hi = hi }

  one : (file at : ℕ) (x : ℕ × ℕ) → Contains ((file, at) ∷ []) x → (file, at) ≡ x
  one file at x c = first c.0 c.1 c.2
    where
      first : (k : ℕ) → k < 1 → slice_index_or ((file, at) ∷ []) k x ≡ x → (file, at) ≡ x
      first zero lt is = is
      first (suc k) lt is = absurd (omega (arith, lt))

  -- a place of some faults is one of a file
  of_faults : (file at : ℕ) (faults : List ℕ) (x : ℕ × ℕ) → Contains faults at → Contains ((file, at) ∷ []) x → Contains (map (λ (at : ℕ). (file, at)) faults) x
  of_faults file at faults x found c =
      subst (λ y. Contains (map (λ (at : ℕ). (file, at)) faults) y) (one file at x c) (contains_map (λ (at : ℕ). (file, at)) faults at found.0 found.1 found.2)

  data_inside : (file : ℕ) (all : List ℕ) (x : ℕ × ℕ) → Contains (first_places near InDataFile file all) x → Contains (places_in (whole table kinds) InDataFile file all) x
  data_inside file all x c = by (data_scanned (data_want near) all).fault refl c
    where
      by : (o : Option ℕ) → (data_scanned (data_want near) all).fault ≡ o → Contains (data_places file o) x → Contains (map (λ (at : ℕ). (file, at)) (data_faults table kinds all)) x
      by None is c = absurd (none_in x c)
      by (Some at) is c = of_faults file at (data_faults table kinds all) x (data_among (data_want near) all at is) c

  stt_inside : (file : ℕ) (all : List ℕ) (x : ℕ × ℕ) → Contains (first_places near InSttFile file all) x → Contains (places_in (whole table kinds) InSttFile file all) x
  stt_inside file all x c = by (stt_scanned (stt_want near) all).fault refl c
    where
      by : (o : Option ℕ) → (stt_scanned (stt_want near) all).fault ≡ o → Contains (stt_places file o) x → Contains (map (λ (at : ℕ). (file, at)) (stt_faults table kinds all)) x
      by None is c = absurd (none_in x c)
      by (Some at) is c = of_faults file at (stt_faults table kinds all) x (stt_among (stt_want near) all at is) c

  inside : (kept : Kept) (file : ℕ) (all : List ℕ) (x : ℕ × ℕ) → Contains (first_places near kept file all) x → Contains (places_in (whole table kinds) kept file all) x
  inside InMemory file all x c = c
  inside InSttFile file all x c = stt_inside file all x c
  inside InDataFile file all x c = data_inside file all x c

  file_among : (r : Reads) (all : Places) → AreAmong (file_places (whole table kinds) r) all → AreAmong (told_damage near r) all
  file_among r all a = by r.bytes a
    where
      some_is : (x y : Places) → Some x ≡ Some y → x ≡ y
      some_is x y e = cc

      by : (o : Option (List ℕ)) → AreAmong (option_map (places_in (whole table kinds) r.kept r.file) o) all → AreAmong (option_map (first_places near r.kept r.file) o) all
      by None a = absurd (none a.told)
        where
          none : ◌≡◌ {A = Option Places} None (Some a.places) → ⊥
          none e = cc
      by (Some bytes) a = record {
        places = first_places near r.kept r.file bytes;
        told = refl;
        among = λ x c. a.among x (subst (λ l. Contains l x) (some_is (places_in (whole table kinds) r.kept r.file bytes) a.places a.told) (inside r.kept r.file bytes x c));
      }

  files_among : (rs : List Reads) (all : Places) → AllByRecursion (λ r. AreAmong (file_places (whole table kinds) r) all) rs → AllByRecursion (λ o. AreAmong o all) (map (told_damage near) rs)
  files_among [] all h = tt
  files_among (r ∷ rs) all h = (file_among r all h.0, files_among rs all h.1)

-- ---- sets

split_places : (P : Option Places → Type 0) (xs ys : List (Option Places)) → AllByRecursion P (xs ++ ys) → AllByRecursion P xs × AllByRecursion P ys
split_places P [] ys h = (tt, h)
split_places P (x ∷ xs) ys h = let rest = split_places P xs ys h.1 in ((h.0, rest.0), rest.1)

unmapped : (f : Reads → Option Places) (P : Option Places → Type 0) (rs : List Reads) → AllByRecursion P (map f rs) → AllByRecursion (λ r. P (f r)) rs
unmapped f P [] h = tt
unmapped f P (r ∷ rs) h = (h.0, unmapped f P rs h.1)

set_among : (t : ℕ × List Kind) (all : Places) (sets : List OpenSet) (set : Option ℕ) → AllByRecursion (λ o. AreAmong o all) (table_places sets t) → AllByRecursion (λ r. AreAmong (file_places (whole t.0 t.1) r) all) (files_of (set_at sets set))
set_among t all sets None h = tt
set_among t all [] (Some i) h = tt
set_among t all (s ∷ ss) (Some zero) h = unmapped (file_places (whole t.0 t.1)) (λ o. AreAmong o all) (files_of s) (split_places (λ o. AreAmong o all) (map (file_places (whole t.0 t.1)) (files_of s)) (table_places ss t) h).0
set_among t all (s ∷ ss) (Some (suc i)) h = set_among t all ss (Some i) (split_places (λ o. AreAmong o all) (map (file_places (whole t.0 t.1)) (files_of s)) (table_places ss t) h).1

memtables_among : (ms : List Contents) (all : Places) → AllByRecursion (λ o. AreAmong o all) (map (λ (m : Contents). Some []) ms)
memtables_among [] all = tt
memtables_among (m ∷ ms) all = (nothing_among all, memtables_among ms all)

-- what a piece finds damaged is among the table's places
pub piece_cause : {X : Type 0} (ms : List Contents) (sets : List OpenSet) (set : Option ℕ) (span : Span) (a b : ℕ) (r : Result X ScanFault) → span.hi ≤ last_ts → HasScanCause (piece_places ms sets set span) a b r → HasScanCause (told_places (table_places sets (span.table, span.kinds))) a b r
piece_cause ms sets set span a b r g h = cause_wider (piece_places ms sets set span) (told_places (table_places sets (span.table, span.kinds))) a b r all_among h
  where
    s : OpenSet
    s = set_at sets set

    own : Span
    own = own_span span s

    all_among : (all : Places) → told_places (table_places sets (span.table, span.kinds)) ≡ Some all → AreAmong (piece_places ms sets set span) all
    all_among all e =
        let each = set_among (span.table, span.kinds) all sets set (told_each (table_places sets (span.table, span.kinds)) all e) in
        let parts = split_all (λ (r : Reads). AreAmong (file_places (whole span.table span.kinds) r) all) s.stt (listed s.main) each in
        let mains = beside_among (map (told_damage own) (listed s.main)) (Some []) all (files_among span.table span.kinds own.lo own.hi g (listed s.main) all parts.1) (nothing_among all) in
        let stts = beside_among (map (told_damage own) s.stt) (beside_places (map (told_damage own) (listed s.main)) (Some [])) all (files_among span.table span.kinds own.lo own.hi g s.stt all parts.0) mains in
        beside_among (map (λ (m : Contents). Some []) ms) (beside_places (map (told_damage own) s.stt) (beside_places (map (told_damage own) (listed s.main)) (Some []))) all (memtables_among ms all) stts

-- ---- tables

together : (os : List (Option Places)) (all : Places) → AllByRecursion (λ o. AreAmong o all) os → AreAmong (told_places os) all
together [] all h = nothing_among all
together (o ∷ os) all h = by o h.0 (all_told os) (together os all h.1)
  where
    flat : List Places → Places
    flat = flat_map (λ (places : Places). places)

    either : {A B C : Type 0} → A ⊎ B → (A → C) → (B → C) → C
    either (inl a) f g = f a
    either (inr b) f g = g b

    some_is : (x y : Places) → Some x ≡ Some y → x ≡ y
    some_is x y e = cc

    by : (p : Option Places) → AreAmong p all → (r : Option (List Places)) → AreAmong (option_map flat r) all → AreAmong (option_map flat (option_and_then (λ y. option_map (λ ys. y ∷ ys) r) p)) all
    by None a r b = absurd (none a.told)
      where
        none : ◌≡◌ {A = Option Places} None (Some a.places) → ⊥
        none e = cc
    by (Some its) a None b = absurd (none b.told)
      where
        none : ◌≡◌ {A = Option Places} None (Some b.places) → ⊥
        none e = cc
    by (Some its) a (Some rest) b = record {
      places = its ++ flat rest;
      told = refl;
      among = λ x c. either (Contains-append_cases its (flat rest) x c)
          (λ c. a.among x (subst (λ l. Contains l x) (some_is its a.places a.told) c))
          (λ c. b.among x (subst (λ l. Contains l x) (some_is (flat rest) b.places b.told) c));
    }

table_among : (sets : List OpenSet) (table : ℕ) (kinds : List Kind) (all : Places) (ts : List (ℕ × List Kind)) → lookup (λ (t : ℕ). eqb t table) ts ≡ Some kinds → AllByRecursion (λ o. AreAmong o all) (flat_map (table_places sets) ts) → AllByRecursion (λ o. AreAmong o all) (table_places sets (table, kinds))
table_among sets table kinds all [] h a = absurd (cc)
table_among sets table kinds all (t ∷ ts) h a = by (eqb t.0 table) refl h (table_among sets table kinds all ts)
  where
    parts : AllByRecursion (λ o. AreAmong o all) (table_places sets t) × AllByRecursion (λ o. AreAmong o all) (flat_map (table_places sets) ts)
    parts = split_places (λ o. AreAmong o all) (table_places sets t) (flat_map (table_places sets) ts) a

    number : (a b : ℕ) → eqb a b ≡ true → a ≡ b
    number a b h = grind (arith, nat_tests)

    kinds_are : (x y : List Kind) → Some x ≡ Some y → x ≡ y
    kinds_are x y e = cc

    by : (b : Bool) → eqb t.0 table ≡ b → cond b (Some t.1) (lookup (λ (t : ℕ). eqb t table) ts) ≡ Some kinds
        → (lookup (λ (t : ℕ). eqb t table) ts ≡ Some kinds → AllByRecursion (λ o. AreAmong o all) (flat_map (table_places sets) ts) → AllByRecursion (λ o. AreAmong o all) (table_places sets (table, kinds)))
        → AllByRecursion (λ o. AreAmong o all) (table_places sets (table, kinds))
    by true e h rest =
        let is : t ≡ (table, kinds) = λ i. (number t.0 table e i, kinds_are t.1 kinds h i) in
        subst (λ (x : ℕ × List Kind). AllByRecursion (λ o. AreAmong o all) (table_places sets x)) is parts.0
    by false e h rest = rest h parts.1

-- what is damaged in a table is among all that is told to be
pub table_cause : {X : Type 0} (st : Stored) (table : ℕ) (kinds : List Kind) (a b : ℕ) (r : Result X ScanFault) → lookup (λ (t : ℕ). eqb t table) st.kinds ≡ Some kinds → HasScanCause (told_places (table_places st.sets (table, kinds))) a b r → HasScanCause (damaged_told st) a b r
unfolding damaged_told
table_cause st table kinds a b r found h =
    cause_wider (told_places (table_places st.sets (table, kinds))) (told_places (flat_map (table_places st.sets) st.kinds)) a b r
    (λ all e. together (table_places st.sets (table, kinds)) all (table_among st.sets table kinds all st.kinds found (told_each (flat_map (table_places st.sets) st.kinds) all e))) h

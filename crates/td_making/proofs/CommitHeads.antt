-- File sets as a head has them, and the head with them.
use Rattle.std.proofs.Common.{◌≡◌, ℕ, ◌+◌, ◌-◌, ◌<◌, ◌≤◌, ◌^◌, Bool, true, false, not, ◌&&◌, nat_eq, nat_lt, nat_le, List, [], ◌∷◌, ◌++◌, map, take, get_or, length, Option, Some, None, refl, sym, ap, ◌∙◌, arith, append_assoc, length-append}
use Rattle.std.specs.Prelude.{slice_get}
use Rattle.std.specs.Option.{option_map_or}
use Rattle.std.proofs.lemmas.Bool.{and_from, and_parts, le-leb, lt-ltb, ltb-true, not-true, not_from_false, or_left}
use Rattle.std.proofs.lemmas.List.{append-nil, map_push, take_more}
use Rattle.td_codec.specs.Lists.{Items, all_fit}
use Rattle.td_manifest.specs.Listed.{NONE, is_some_of, perhaps}
use Rattle.td_manifest.specs.declared.head.Head.{Head}
use Rattle.td_manifest.specs.declared.head.HeadSet.{HeadSet}
use Rattle.td_manifest.specs.Files.{all_files, files_of, is_used, main_file, rises, set_behind, set_files, set_items, stt_items}
use Rattle.td_manifest.specs.Heads.{begun, head_body, next_field, objects_field, sets_field, stables_field, start_field, streams_field, tables_field}
use Rattle.td_fileset.specs.declared.file_set.FileSet.{FileSet}
use Rattle.td_levels.specs.Ranges.{AreByRange}
use Rattle.td_levels.specs.Sets.{sets_of}
use Rattle.td_limits.specs.declared.limits.TheConstants.{LAST_DAY_RANGE}
use Rattle.td_making.specs.Making.{MainFits, head_set, with_sets}

-- one set more
pub heads_more : (sets : List FileSet) (i : ℕ) (s : FileSet) (old new : List HeadSet) (stt : List ℕ) → i < length sets → s ≡ get_or sets i s → old ≡ map head_set (take i sets) → stt ≡ map (λ (p : ℕ × ℕ). p.0) s.stt
    → new ≡ old ++ record { range = s.range; main = s.main; stt = stt } ∷ [] → new ≡ map head_set (take (i + 1) sets)
heads_more sets i s old new stt h e is numbers put =
    put
    ∙ (λ j. is j ++ record { range = s.range; main = s.main; stt = numbers j } ∷ [])
    ∙ sym (map_push head_set (take i sets) s)
    ∙ ap (λ (x : FileSet). map head_set (take i sets ++ x ∷ [])) e
    ∙ ap (map head_set) (sym (take_more sets i s h))

-- ---- sets by day range

-- the day range of a set that fits comes after that of the last before it
range_rises : (before : List HeadSet) (s : HeadSet) → set_items.fits before s ≡ true → rises before s.range ≡ true
unfolding set_items set_behind
range_rises before s fit =
    let parts = and_parts (nat_lt s.range (2 ^ 32) && (nat_le s.range LAST_DAY_RANGE && rises before s.range)) ((set_files (all_files before)).fits (s.main, s.stt)) fit in
    let range = and_parts (nat_lt s.range (2 ^ 32)) (nat_le s.range LAST_DAY_RANGE && rises before s.range) parts.0 in
    (and_parts (nat_le s.range LAST_DAY_RANGE) (rises before s.range) range.1).1

last_is : (before : List HeadSet) (s : HeadSet) → slice_get (before ++ s ∷ []) (length (before ++ s ∷ []) - 1) ≡ Some s
last_is before s =
    let at : length (before ++ s ∷ []) - 1 ≡ length before = omega (arith, length-append before (s ∷ [])) in
    ap (slice_get (before ++ s ∷ [])) at ∙ here before
  where
    here : (before : List HeadSet) → slice_get (before ++ s ∷ []) (length before) ≡ Some s
    here [] = refl
    here (x ∷ before) = here before

after_last : (before : List HeadSet) (s : HeadSet) (range : ℕ) → rises (before ++ s ∷ []) range ≡ true → s.range < range
after_last before s range h =
    ltb-true s.range range (sym (ap (λ o. option_map_or (λ (last : HeadSet). nat_lt last.range range) o true) (last_is before s)) ∙ h)

pub by_range : (before : List HeadSet) (sets : List FileSet) → all_fit set_items before (map head_set sets) ≡ true → AreByRange (sets_of sets)
by_range before [] fit = tt
by_range before (s ∷ []) fit = tt
by_range before (s ∷ t ∷ ss) fit =
    let parts = and_parts (set_items.fits before (head_set s)) (all_fit set_items (before ++ head_set s ∷ []) (map head_set (t ∷ ss))) fit in
    let next = and_parts (set_items.fits (before ++ head_set s ∷ []) (head_set t)) (all_fit set_items ((before ++ head_set s ∷ []) ++ head_set t ∷ []) (map head_set ss)) parts.1 in
    (after_last before (head_set s) t.range (range_rises (before ++ head_set s ∷ []) (head_set t) next.0), by_range (before ++ head_set s ∷ []) (t ∷ ss) parts.1)

-- ---- the head with them

pub fits_with : (h : Head) (sets : List HeadSet) → head_body.fits h ≡ true → 0 < h.version → length sets < 2 ^ 32 → all_fit set_items [] sets ≡ true → head_body.fits (with_sets sets h) ≡ true
unfolding head_body objects_field sets_field
fits_with h sets fits above few each =
    let v = h.version in
    let start = start_field.fits (v, (h.moment, (h.first_log, h.edge))) in
    let catalog = (stables_field v).fits h.stables && (tables_field v h.stables).fits h.tables in
    let streams = (next_field v).fits h.next_stream && (streams_field v h.next_stream).fits h.streams in
    let f = and_parts start (catalog && ((sets_field v).fits h.sets && streams)) fits in
    let g = and_parts catalog ((sets_field v).fits h.sets && streams) f.1 in
    let s = and_parts ((sets_field v).fits h.sets) streams g.1 in
    let n = length sets in
    let count : begun v (nat_eq n 0) ≡ true = or_left (nat_lt 0 v) (nat_eq n 0) (lt-ltb 0 v above) in
    let here : (sets_field v).fits sets ≡ true =
    and_from (nat_lt n (2 ^ 32) && begun v (nat_eq n 0)) (all_fit set_items [] sets) (and_from (nat_lt n (2 ^ 32)) (begun v (nat_eq n 0)) (lt-ltb n (2 ^ 32) few) count) each in
    and_from start (catalog && ((sets_field v).fits sets && streams)) f.0
    (and_from catalog ((sets_field v).fits sets && streams) g.0 (and_from ((sets_field v).fits sets) streams here s.1))

-- ---- what fits

-- one item more, which fits behind the others
pub fit_more : {A : Type 0} (items : Items A) (before xs : List A) (x : A) → all_fit items before xs ≡ true → items.fits (before ++ xs) x ≡ true → all_fit items before (xs ++ x ∷ []) ≡ true
fit_more items before [] x fit here = and_from (items.fits before x) true (ap (λ l. items.fits l x) (sym (append-nil before)) ∙ here) refl
fit_more items before (y ∷ ys) x fit here =
    let parts = and_parts (items.fits before y) (all_fit items (before ++ y ∷ []) ys) fit in
    and_from (items.fits before y) (all_fit items (before ++ y ∷ []) (ys ++ x ∷ [])) parts.0
    (fit_more items (before ++ y ∷ []) ys x parts.1 (ap (λ l. items.fits l x) (append_assoc before (y ∷ []) ys) ∙ here))

-- a new stt file
stt_fits : (used before : List ℕ) (file : ℕ) → file < 2 ^ 64 → is_used file (used ++ before) ≡ false → (stt_items used).fits before file ≡ true
unfolding stt_items
stt_fits used before file few new = and_from (nat_lt file (2 ^ 64)) (not (is_used file (used ++ before))) (lt-ltb file (2 ^ 64) few) (not_from_false (is_used file (used ++ before)) new)

pub stt_more : (used stt : List ℕ) (i file : ℕ) (old new : List ℕ) (b : Bool) → i < length stt → file ≡ get_or stt i 0 → file < 2 ^ 64 → (old ≡ used ++ take i stt) × (all_fit (stt_items used) [] (take i stt) ≡ true) → b ≡ not (is_used file old) → b ≡ true → new ≡ old ++ file ∷ []
    → (new ≡ used ++ take (i + 1) stt) × (all_fit (stt_items used) [] (take (i + 1) stt) ≡ true)
stt_more used stt i file old new b h e few is test new_one put =
    let more : take (i + 1) stt ≡ take i stt ++ file ∷ [] = take_more stt i 0 h ∙ ap (λ x. take i stt ++ x ∷ []) (sym e) in
    let none : is_used file (used ++ take i stt) ≡ false = ap (is_used file) (sym is.0) ∙ not-true (is_used file old) (sym test ∙ new_one) in (
      put ∙ ap (λ l. l ++ file ∷ []) is.0 ∙ append_assoc used (take i stt) (file ∷ []) ∙ ap (λ l. used ++ l) (sym more),
      ap (all_fit (stt_items used) []) more ∙ fit_more (stt_items used) [] (take i stt) file is.1 (stt_fits used (take i stt) file few none),
    )

main_fits : (main : Option ℕ) (used : List ℕ) → MainFits main used → is_some_of (λ file. not (is_used file used)) main ≡ true
main_fits None used h = refl
main_fits (Some file) used h = and_from (nat_lt file NONE) (not (is_used file used)) (lt-ltb file NONE h.0) (not_from_false (is_used file used) h.1)

pub set_fit : (before : List HeadSet) (s : HeadSet) → rises before s.range ≡ true → s.range ≤ LAST_DAY_RANGE → length s.stt < 2 ^ 32 → MainFits s.main (all_files before) → all_fit (stt_items (all_files before ++ main_file s.main)) [] s.stt ≡ true → set_items.fits before s ≡ true
unfolding set_items set_behind set_files perhaps
set_fit before s rise range count main stt =
    let used = all_files before in
    let first = is_some_of (λ file. not (is_used file used)) s.main in
    let others = nat_lt (length s.stt) (2 ^ 32) && all_fit (stt_items (used ++ main_file s.main)) [] s.stt in
    let day : nat_lt s.range (2 ^ 32) ≡ true = lt-ltb s.range (2 ^ 32) (omega arith) in
    and_from (nat_lt s.range (2 ^ 32) && (nat_le s.range LAST_DAY_RANGE && rises before s.range)) (first && others)
    (and_from (nat_lt s.range (2 ^ 32)) (nat_le s.range LAST_DAY_RANGE && rises before s.range) day (and_from (nat_le s.range LAST_DAY_RANGE) (rises before s.range) (le-leb s.range LAST_DAY_RANGE range) rise))
    (and_from first others (main_fits s.main used main) (and_from (nat_lt (length s.stt) (2 ^ 32)) (all_fit (stt_items (used ++ main_file s.main)) [] s.stt) (lt-ltb (length s.stt) (2 ^ 32) count) stt))

files_more : (sets : List HeadSet) (s : HeadSet) → all_files (sets ++ s ∷ []) ≡ all_files sets ++ files_of s
files_more [] s = append-nil (files_of s)
files_more (x ∷ sets) s = ap (λ l. files_of x ++ l) (files_more sets s) ∙ sym (append_assoc (files_of x) (all_files sets) (files_of s))

pub sets_more : (sets : List HeadSet) (i : ℕ) (s : HeadSet) (old new : List ℕ) → i < length sets → s ≡ get_or sets i s → (old ≡ all_files (take i sets)) × (all_fit set_items [] (take i sets) ≡ true) → set_items.fits (take i sets) s ≡ true → new ≡ old ++ files_of s
    → (new ≡ all_files (take (i + 1) sets)) × (all_fit set_items [] (take (i + 1) sets) ≡ true)
sets_more sets i s old new h e is fit put =
    let more : take (i + 1) sets ≡ take i sets ++ s ∷ [] = take_more sets i s h ∙ ap (λ (x : HeadSet). take i sets ++ x ∷ []) (sym e) in (
      put ∙ ap (λ l. l ++ files_of s) is.0 ∙ sym (files_more (take i sets) s) ∙ ap all_files (sym more),
      ap (all_fit set_items []) more ∙ fit_more set_items [] (take i sets) s is.1 fit,
    )

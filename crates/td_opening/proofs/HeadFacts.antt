-- What is true of a head that keeps its rules.
use Rattle.std.proofs.Common.{◌≡◌, ℕ, zero, suc, ◌+◌, ◌-◌, ◌<◌, ◌≤◌, ◌^◌, eqb, leb, ltb, Bool, true, false, cond, ◌&&◌, ◌||◌, List, [], ◌∷◌, ◌++◌, length, map, slice_get, Option, Some, None, refl, sym, ap, subst, ◌∙◌, arith, length-append}
use Rattle.std.specs.Prelude.{All, not}
use Rattle.std.specs.Int.{w16, w32, w64}
use Rattle.std.specs.Option.{option_map_or}
use Rattle.std.proofs.lemmas.Bool.{and_parts, leb-true, ltb-true}
use Rattle.std.proofs.lemmas.List.Elements.{All-nil, All-cons, All-map}
use Rattle.td_limits.specs.declared.limits.TheConstants.{LAST_DAY_RANGE, LAST_TIMESTAMP, LAST_VERSION}
use Rattle.td_codec.specs.Fields.{number, checked, pair, followed}
use Rattle.td_codec.specs.Lists.{all_fit}
use Rattle.td_manifest.specs.declared.head.Head.{Head}
use Rattle.td_manifest.specs.declared.head.HeadSet.{HeadSet}
use Rattle.td_manifest.specs.Files.{all_files, rises, set_files as set_field, set_behind, set_items}
use Rattle.td_manifest.specs.Heads.{begun, version_field, moment_field, first_log_field, edge_field, stables_field, tables_field, sets_field, next_field, streams_field, start_field, objects_field, head_body}
use Rattle.td_levels.specs.Levels.{SetFiles}
use Rattle.td_levels.specs.Days.{RangesFit}
use Rattle.td_levels.specs.Ranges.{AreByRange}
use Rattle.td_stands.specs.Heads.{set_files}
use Rattle.td_opening.specs.Opening.{IsLogNumber}

-- ---- numbers

-- the numbers of a head are in their ranges
pub record Numbers (h : Head) : Type 0 where
  pub version : h.version ≤ LAST_VERSION
  pub moment : h.moment ≤ LAST_TIMESTAMP
  pub least_log : 1 ≤ h.first_log
  pub most_log : h.first_log ≤ h.version + 1
  pub edge : h.edge ≤ LAST_DAY_RANGE

starts : (h : Head) → head_body.fits h ≡ true → start_field.fits (h.version, (h.moment, (h.first_log, h.edge))) ≡ true
unfolding head_body
starts h fits = (and_parts (start_field.fits (h.version, (h.moment, (h.first_log, h.edge)))) _ fits).0

pub objects : (h : Head) → head_body.fits h ≡ true → (objects_field h.version).fits ((h.stables, h.tables), (h.sets, (h.next_stream, h.streams))) ≡ true
unfolding head_body
objects h fits = (and_parts (start_field.fits (h.version, (h.moment, (h.first_log, h.edge)))) ((objects_field h.version).fits ((h.stables, h.tables), (h.sets, (h.next_stream, h.streams)))) fits).1

numbers_of : (h : Head) → start_field.fits (h.version, (h.moment, (h.first_log, h.edge))) ≡ true → Numbers h
unfolding start_field
numbers_of h fits =
    let own = and_parts (version_field.fits h.version) _ fits in
    let version = and_parts ((number w64).fits h.version) (leb h.version LAST_VERSION) own.0 in
    let behind = and_parts ((moment_field h.version).fits h.moment) _ own.1 in
    let moment = and_parts ((number w64).fits h.moment) (leb h.moment LAST_TIMESTAMP && begun h.version (eqb h.moment 0)) behind.0 in
    let time = and_parts (leb h.moment LAST_TIMESTAMP) (begun h.version (eqb h.moment 0)) moment.1 in
    let last = and_parts ((first_log_field h.version).fits h.first_log) ((edge_field h.version).fits h.edge) behind.1 in
    let log = and_parts ((number w64).fits h.first_log) (leb 1 h.first_log && leb h.first_log (h.version + 1)) last.0 in
    let ends = and_parts (leb 1 h.first_log) (leb h.first_log (h.version + 1)) log.1 in
    let edge = and_parts ((number w32).fits h.edge) (leb h.edge LAST_DAY_RANGE && begun h.version (eqb h.edge 0)) last.1 in
    let range = and_parts (leb h.edge LAST_DAY_RANGE) (begun h.version (eqb h.edge 0)) edge.1 in
    record {
      version = leb-true h.version LAST_VERSION version.1;
      moment = leb-true h.moment LAST_TIMESTAMP time.0;
      least_log = leb-true 1 h.first_log ends.0;
      most_log = leb-true h.first_log (h.version + 1) ends.1;
      edge = leb-true h.edge LAST_DAY_RANGE range.0;
    }

pub head_numbers : (h : Head) → head_body.fits h ≡ true → Numbers h
head_numbers h fits = numbers_of h (starts h fits)

pub head_log : (h : Head) → head_body.fits h ≡ true → (1 ≤ h.first_log) × (h.first_log ≤ h.version + 1)
head_log h fits = let n = head_numbers h fits in (n.least_log, n.most_log)

at_most_next : (a b c : ℕ) → a ≤ b + 1 → b ≤ c → a ≤ c + 1
at_most_next a b c le most = omega arith

pub log_number : (h : Head) → head_body.fits h ≡ true → IsLogNumber h.first_log
log_number h fits = let n = head_numbers h fits in (n.least_log, at_most_next h.first_log h.version LAST_VERSION n.most_log n.version)

-- ---- file sets

sets_fit : (h : Head) → (objects_field h.version).fits ((h.stables, h.tables), (h.sets, (h.next_stream, h.streams))) ≡ true → all_fit set_items [] h.sets ≡ true
unfolding objects_field sets_field
sets_fit h fits =
    let catalog : Bool = (followed (stables_field h.version) (tables_field h.version)).fits (h.stables, h.tables) in
    let streams : Bool = (followed (next_field h.version) (streams_field h.version)).fits (h.next_stream, h.streams) in
    let parts = and_parts catalog ((sets_field h.version).fits h.sets && streams) fits in
    let sets = and_parts ((sets_field h.version).fits h.sets) streams parts.1 in
    (and_parts ((checked (number w32) (λ n. begun h.version (eqb n 0))).fits (length h.sets)) (all_fit set_items [] h.sets) sets.0).1

-- a set of a day range that comes after that of the last of some sets
record IsBehind (before : List HeadSet) (s : HeadSet) : Type 0 where
  range : s.range ≤ LAST_DAY_RANGE
  rises_is : rises before s.range ≡ true

set_fits : (before : List HeadSet) (s : HeadSet) → set_items.fits before s ≡ true → IsBehind before s
unfolding set_items set_behind
set_fits before s fits =
    let test : Bool = leb s.range LAST_DAY_RANGE && rises before s.range in
    let parts = and_parts ((number w32).fits s.range && test) _ fits in
    let range = and_parts ((number w32).fits s.range) test parts.0 in
    let bounds = and_parts (leb s.range LAST_DAY_RANGE) (rises before s.range) range.1 in
    record { range = leb-true s.range LAST_DAY_RANGE bounds.0; rises_is = bounds.1 }

last_at : {X : Type 0} (before : List X) (x : X) → slice_get (before ++ x ∷ []) (length before) ≡ Some x
last_at [] x = refl
last_at (y ∷ ys) x = last_at ys x

last_is : {X : Type 0} (before : List X) (x : X) → slice_get (before ++ x ∷ []) (length (before ++ x ∷ []) - 1) ≡ Some x
last_is before x =
    let e : length (before ++ x ∷ []) - 1 ≡ length before = omega (arith, length-append before (x ∷ [])) in
    ap (λ (n : ℕ). slice_get (before ++ x ∷ []) n) e ∙ last_at before x

rises_after : (before : List HeadSet) (s : HeadSet) (range : ℕ) → rises (before ++ s ∷ []) range ≡ true → s.range < range
rises_after before s range e =
    ltb-true s.range range (sym (ap (λ (o : Option HeadSet). option_map_or (λ (last : HeadSet). ltb last.range range) o true) (last_is before s)) ∙ e)

ranges_fit : (before sets : List HeadSet) → all_fit set_items before sets ≡ true → RangesFit (map set_files sets)
ranges_fit before [] fits = All-nil (λ (s : SetFiles). s.range ≤ LAST_DAY_RANGE)
ranges_fit before (s ∷ ss) fits =
    let parts = and_parts (set_items.fits before s) (all_fit set_items (before ++ s ∷ []) ss) fits in
    All-cons (λ (x : SetFiles). x.range ≤ LAST_DAY_RANGE) (set_files s) (map set_files ss) (set_fits before s parts.0).range (ranges_fit (before ++ s ∷ []) ss parts.1)

by_range : (before sets : List HeadSet) → all_fit set_items before sets ≡ true → AreByRange (map set_files sets)
by_range before [] fits = tt
by_range before (s ∷ []) fits = tt
by_range before (s ∷ t ∷ ss) fits =
    let parts = and_parts (set_items.fits before s) (all_fit set_items (before ++ s ∷ []) (t ∷ ss)) fits in
    let next = and_parts (set_items.fits (before ++ s ∷ []) t) (all_fit set_items ((before ++ s ∷ []) ++ t ∷ []) ss) parts.1 in
    (rises_after before s t.range (set_fits (before ++ s ∷ []) t next.0).rises_is, by_range (before ++ s ∷ []) (t ∷ ss) parts.1)

pub head_ranges : (h : Head) → head_body.fits h ≡ true → RangesFit (map set_files h.sets)
head_ranges h fits = ranges_fit [] h.sets (sets_fit h (objects h fits))

pub head_by_range : (h : Head) → head_body.fits h ≡ true → AreByRange (map set_files h.sets)
head_by_range h fits = by_range [] h.sets (sets_fit h (objects h fits))

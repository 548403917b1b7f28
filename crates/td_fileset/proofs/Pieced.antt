-- The rows of a piece of a range of timestamps are those of the snapshot's table there.
use Rattle.std.proofs.Common.{◌≡◌, ℕ, zero, suc, ◌+◌, ◌≤◌, Bool, true, false, cond, ◌&&◌, eqb, leb, List, [], ◌∷◌, ◌++◌, length, map, Option, Some, None, refl, sym, ap, ◌∙◌, arith}
use Rattle.std.specs.Prelude.{max, sum_by, unwrap_or}
use Rattle.std.specs.List.{flat_map, list_all, AllByRecursion}
use Rattle.std.specs.Option.{option_map, option_and_then}
use Rattle.std.specs.FinMap.Entries.{find}
use Rattle.std.proofs.lemmas.Bool.{and_parts}
use Rattle.std.proofs.lemmas.Bool.Decides.{nat_tests}
use Rattle.std.proofs.lemmas.List.Sums.{sum_by-cons, sum_by-append}
use Rattle.td_cols.specs.declared.kinds.Kind.{Kind}
use Rattle.td_layer.specs.declared.values.Key.{Key}
use Rattle.td_layer.specs.declared.values.Row.{Row}
use Rattle.td_layer.specs.declared.parts.Partial.{Partial}
use Rattle.td_layer.specs.Keys.{key_cmp}
use Rattle.td_layer.specs.Parts.{act}
use Rattle.td_layer.specs.Scans.{is_cut, rows_in}
use Rattle.td_memtable.specs.Contents.{Contents}
use Rattle.td_fileio.specs.Days.{day_start, day_end, is_in_day}
use Rattle.td_fileset.specs.Stack.{Layer, part_of, row_at, rows_of}
use Rattle.td_fileset.specs.Ranges.{only, narrowed}
use Rattle.td_fileset.specs.Merged.{held}
use Rattle.td_fileset.specs.Sources.{Reads}
use Rattle.td_fileset.specs.Layered.{OpenSet, listed, files_of, Span, whole, last_ts, memtable_layer, bytes_layer, file_layer, in_day, set_layers, table_layers, is_sound, are_sound, partials_in}
use Rattle.td_fileset.specs.Opened.{told_file, over_layers, timed}
use Rattle.td_fileset.specs.Pieces.{set_at, own_span, piece_layers, IsApart, AreApart, EndsWithin}
use Rattle.td_fileset.proofs.Filters.{in_span, only_both, only_none, cut_day, in_span_parts}
use Rattle.td_fileset.proofs.Scans.{memtable_part, bytes_part}
use Rattle.td_fileset.proofs.Rows.{rows_rise, rows_found, one_list}
use Rattle.td_fileset.proofs.Ranged.{only_found, only_rises, narrowed_row, rows_only}

-- ---- layers above a row

abbrev pub above : Key → List Layer → Option Row → Option Row
above q [] row = row
above q (l ∷ older) row = act (part_of q l) (above q older row)

above_all : (q : Key) (xs ys : List Layer) → row_at q (xs ++ ys) ≡ above q xs (row_at q ys)
above_all q [] ys = refl
above_all q (x ∷ xs) ys = ap (act (part_of q x)) (above_all q xs ys)

above_none : (q : Key) (ls : List Layer) → above q ls None ≡ row_at q ls
above_none q [] = refl
above_none q (l ∷ older) = ap (act (part_of q l)) (above_none q older)

-- layers of which the partials of some keys alone are taken, over a row that those keys alone have
above_narrowed : (test : Key → Bool) (q : Key) (ls : List Layer) (row all : Option Row) → row ≡ cond (test q) all None → above q (map (narrowed test) ls) row ≡ cond (test q) (above q ls all) None
above_narrowed test q [] row all h = h
above_narrowed test q (l ∷ older) row all h =
    ap (λ (p : Option Partial). act (record { cut = is_cut q l.cuts; put = p }) (above q (map (narrowed test) older) row)) (only_found test l.partials q)
    ∙ ap (act (record { cut = is_cut q l.cuts; put = cond (test q) (find key_cmp q l.partials) None })) (above_narrowed test q older row all h)
    ∙ by (test q) (is_cut q l.cuts)
  where
    by : (b cut : Bool) → act (record { cut = cut; put = cond b (find key_cmp q l.partials) None }) (cond b (above q older all) None) ≡ cond b (act (record { cut = cut; put = find key_cmp q l.partials }) (above q older all)) None
    by true cut = refl
    by false true = refl
    by false false = refl

-- ---- layers in a day range

-- a layer in a day range does to a key of the day what it did, and to others nothing
part_in_day : (range : ℕ) (q : Key) (l : Layer) (row : Option Row) → act (part_of q (in_day range l)) row ≡ cond (is_in_day range q.ts) (act (part_of q l) row) row
part_in_day range q l row =
    ap (λ (c : Bool). act (record { cut = c; put = find key_cmp q (only (λ (key : Key). is_in_day range key.ts) l.partials) }) row) (cut_day range q l.cuts)
    ∙ ap (λ (p : Option Partial). act (record { cut = is_in_day range q.ts && is_cut q l.cuts; put = p }) row) (only_found (λ (key : Key). is_in_day range key.ts) l.partials q)
    ∙ by (is_in_day range q.ts)
  where
    by : (b : Bool) → act (record { cut = b && is_cut q l.cuts; put = cond b (find key_cmp q l.partials) None }) row ≡ cond b (act (record { cut = is_cut q l.cuts; put = find key_cmp q l.partials }) row) row
    by true = refl
    by false = refl

in_day_row : (range : ℕ) (q : Key) (ls : List Layer) → row_at q (map (in_day range) ls) ≡ cond (is_in_day range q.ts) (row_at q ls) None
in_day_row range q [] = by (is_in_day range q.ts)
  where
    by : (b : Bool) → ◌≡◌ {A = Option Row} None (cond b None None)
    by true = refl
    by false = refl
in_day_row range q (l ∷ older) =
    part_in_day range q l (row_at q (map (in_day range) older))
    ∙ ap (λ (row : Option Row). cond (is_in_day range q.ts) (act (part_of q l) row) row) (in_day_row range q older)
    ∙ by (is_in_day range q.ts)
  where
    by : (b : Bool) → cond b (act (part_of q l) (cond b (row_at q older) None)) (cond b (row_at q older) None) ≡ cond b (act (part_of q l) (row_at q older)) None
    by true = refl
    by false = refl

idle_above : (range : ℕ) (q : Key) (ls : List Layer) (row : Option Row) → is_in_day range q.ts ≡ false → above q (map (in_day range) ls) row ≡ row
idle_above range q [] row h = refl
idle_above range q (l ∷ older) row h =
    part_in_day range q l (above q (map (in_day range) older) row)
    ∙ ap (λ b. cond b (act (part_of q l) (above q (map (in_day range) older) row)) (above q (map (in_day range) older) row)) h
    ∙ idle_above range q older row h

-- ---- sets

-- files' layers of a table over all timestamps
abbrev wide : ℕ × List Kind → OpenSet → List Layer
wide t s = map (file_layer (whole t.0 t.1)) (files_of s)

set_wide : (t : ℕ × List Kind) (s : OpenSet) → set_layers t s ≡ map (in_day s.range) (wide t s)
set_wide t s = twice (files_of s)
  where
    twice : (rs : List Reads) → map (λ (r : Reads). in_day s.range (file_layer (whole t.0 t.1) r)) rs ≡ map (in_day s.range) (map (file_layer (whole t.0 t.1)) rs)
    twice [] = refl
    twice (r ∷ rs) = ap (λ l. in_day s.range (file_layer (whole t.0 t.1) r) ∷ l) (twice rs)

module _ (t : ℕ × List Kind) (lo hi : ℕ) where
  -- a key of a piece has the row of the one set that isn't apart
  one_set : (q : Key) (set : Option ℕ) (sets : List OpenSet) → AreApart lo hi set sets → lo ≤ q.ts → q.ts ≤ hi → row_at q (flat_map (set_layers t) sets) ≡ row_at q (set_layers t (set_at sets set))
  one_set q None [] a h g = refl
  one_set q (Some i) [] a h g = refl
  one_set q None (s ∷ ss) a h g = idle q s ss (a.0 q.ts h g) ∙ one_set q None ss a.1 h g
    where
      idle : (q : Key) (s : OpenSet) (ss : List OpenSet) → is_in_day s.range q.ts ≡ false → row_at q (flat_map (set_layers t) (s ∷ ss)) ≡ row_at q (flat_map (set_layers t) ss)
      idle q s ss out = above_all q (set_layers t s) (flat_map (set_layers t) ss) ∙ ap (λ ls. above q ls (row_at q (flat_map (set_layers t) ss))) (set_wide t s) ∙ idle_above s.range q (wide t s) (row_at q (flat_map (set_layers t) ss)) out
  one_set q (Some zero) (s ∷ ss) a h g = above_all q (set_layers t s) (flat_map (set_layers t) ss) ∙ ap (above q (set_layers t s)) (one_set q None ss a h g) ∙ above_none q (set_layers t s)
  one_set q (Some (suc i)) (s ∷ ss) a h g =
      above_all q (set_layers t s) (flat_map (set_layers t) ss) ∙ ap (λ ls. above q ls (row_at q (flat_map (set_layers t) ss))) (set_wide t s) ∙ idle_above s.range q (wide t s) (row_at q (flat_map (set_layers t) ss)) (a.0 q.ts h g)
      ∙ one_set q (Some i) ss a.1 h g

-- ---- what is told

told_over : (f : Reads → Option Layer) (g : Reads → Layer) (rs : List Reads) (base : List Layer) → AllByRecursion (λ r. f r ≡ Some (g r)) rs → over_layers (map f rs) (Some base) ≡ Some (map g rs ++ base)
told_over f g [] base h = refl
told_over f g (r ∷ rs) base h =
    ap (λ (o : Option (List Layer)). option_and_then (λ older. option_map (λ newest. newest ∷ older) (f r)) o) (told_over f g rs base h.1)
    ∙ ap (λ (o : Option Layer). option_map (λ newest. newest ∷ (map g rs ++ base)) o) h.0

mem_over : (f : Contents → Layer) (ms : List Contents) (base : List Layer) → over_layers (map (λ (m : Contents). Some (f m)) ms) (Some base) ≡ Some (map f ms ++ base)
mem_over f [] base = refl
mem_over f (m ∷ ms) base = ap (λ (o : Option (List Layer)). option_and_then (λ older. option_map (λ newest. newest ∷ older) (Some (f m))) o) (mem_over f ms base)

abbrev IsSound : ℕ × List Kind → Reads → Type 0
IsSound t r = is_sound (whole t.0 t.1) r.kept r.bytes ≡ true

all_pass : {X : Type 0} (test : X → Bool) (xs : List X) → list_all test xs ≡ true → AllByRecursion (λ x. test x ≡ true) xs
all_pass test [] h = tt
all_pass test (x ∷ xs) h = let p = and_parts (test x) (list_all test xs) h in (p.0, all_pass test xs p.1)

sound_set : (t : ℕ × List Kind) (sets : List OpenSet) (set : Option ℕ) → are_sound t sets ≡ true → AllByRecursion (IsSound t) (files_of (set_at sets set))
sound_set t sets None h = tt
sound_set t [] (Some i) h = tt
sound_set t (s ∷ ss) (Some zero) h = all_pass (λ (r : Reads). is_sound (whole t.0 t.1) r.kept r.bytes) (files_of s) (and_parts (list_all (λ (r : Reads). is_sound (whole t.0 t.1) r.kept r.bytes) (files_of s)) (are_sound t ss) h).0
sound_set t (s ∷ ss) (Some (suc i)) h = sound_set t ss (Some i) (and_parts (list_all (λ (r : Reads). is_sound (whole t.0 t.1) r.kept r.bytes) (files_of s)) (are_sound t ss) h).1

-- a file that is sound tells its layer of a span, which is that of all timestamps in the span
module _ (table : ℕ) (kinds : List Kind) (lo hi : ℕ) (g : hi ≤ last_ts) where
  abbrev near : Span
  near = record { table = table; kinds = kinds; lo = lo; hi = hi }

  sound_told : (r : Reads) → IsSound (table, kinds) r → told_file near r ≡ Some (narrowed (in_span table lo hi) (file_layer (whole table kinds) r))
  sound_told r h = by r.bytes h
    where
      by : (o : Option (List ℕ)) → is_sound (whole table kinds) r.kept o ≡ true → option_map (bytes_layer near r.kept) o ≡ Some (narrowed (in_span table lo hi) (bytes_layer (whole table kinds) r.kept (unwrap_or o [])))
      by None s = absurd (cc)
      by (Some all) s = ap Some (bytes_part table kinds lo hi g r.kept all s)

  sound_tell : (rs : List Reads) → AllByRecursion (IsSound (table, kinds)) rs → AllByRecursion (λ r. told_file near r ≡ Some (narrowed (in_span table lo hi) (file_layer (whole table kinds) r))) rs
  sound_tell [] h = tt
  sound_tell (r ∷ rs) h = (sound_told r h.0, sound_tell rs h.1)

-- ---- a piece

map_twice : {X : Type 0} (test : Key → Bool) (f : X → Layer) (xs : List X) → map (λ x. narrowed test (f x)) xs ≡ map (narrowed test) (map f xs)
map_twice test f [] = refl
map_twice test f (x ∷ xs) = ap (λ l. narrowed test (f x) ∷ l) (map_twice test f xs)

pub split_all : (P : Reads → Type 0) (xs ys : List Reads) → AllByRecursion P (xs ++ ys) → AllByRecursion P xs × AllByRecursion P ys
split_all P [] ys h = (tt, h)
split_all P (x ∷ xs) ys h = let rest = split_all P xs ys h.1 in ((h.0, rest.0), rest.1)

module _ (ms : List Contents) (sets : List OpenSet) (table : ℕ) (kinds : List Kind) (lo hi : ℕ) (set : Option ℕ) (g : hi ≤ last_ts) (sound : are_sound (table, kinds) sets ≡ true) (apart : AreApart lo hi set sets) (ends : EndsWithin hi sets set) where
  abbrev the_set : OpenSet
  the_set = set_at sets set

  abbrev span : Span
  span = record { table = table; kinds = kinds; lo = lo; hi = hi }

  abbrev own_lo : ℕ
  own_lo = max lo (day_start the_set.range)

  abbrev memtables : List Layer
  memtables = map (memtable_layer (whole table kinds)) ms

  abbrev files : List Layer
  files = wide (table, kinds) the_set

  -- the layers that are merged
  abbrev pub merged_layers : List Layer
  merged_layers = map (narrowed (in_span table lo hi)) memtables ++ map (narrowed (in_span table own_lo hi)) files

  near_memtables : (some : List Contents) → map (memtable_layer span) some ≡ map (narrowed (in_span table lo hi)) (map (memtable_layer (whole table kinds)) some)
  near_memtables [] = refl
  near_memtables (m ∷ more) = λ i. memtable_part table kinds lo hi g m i ∷ near_memtables more i

  -- they are told
  pub told : piece_layers ms sets set span ≡ Some merged_layers
  told =
      let all = split_all (IsSound (table, kinds)) the_set.stt (listed the_set.main) (sound_set (table, kinds) sets set sound) in
      let own = own_span span the_set in
      let narrow : Reads → Layer = λ r. narrowed (in_span table own_lo hi) (file_layer (whole table kinds) r) in
      let mains = told_over (told_file own) narrow (listed the_set.main) [] (sound_tell table kinds own_lo hi g (listed the_set.main) all.1) in
      let stts = ap (over_layers (map (told_file own) the_set.stt)) mains ∙ told_over (told_file own) narrow the_set.stt (map narrow (listed the_set.main) ++ []) (sound_tell table kinds own_lo hi g the_set.stt all.0) in
      let joined : map narrow the_set.stt ++ (map narrow (listed the_set.main) ++ []) ≡ map (narrowed (in_span table own_lo hi)) files = join narrow the_set.stt (listed the_set.main) ∙ map_twice (in_span table own_lo hi) (file_layer (whole table kinds)) (files_of the_set) in
      ap (over_layers (map (λ (m : Contents). Some (memtable_layer span m)) ms)) (stts ∙ ap Some joined)
      ∙ mem_over (memtable_layer span) ms (map (narrowed (in_span table own_lo hi)) files)
      ∙ ap (λ ls. Some (ls ++ map (narrowed (in_span table own_lo hi)) files)) (near_memtables ms)
    where
      join : (f : Reads → Layer) (xs ys : List Reads) → map f xs ++ (map f ys ++ []) ≡ map f (xs ++ ys)
      join f [] [] = refl
      join f [] (y ∷ ys) = ap (λ l. f y ∷ l) (join f [] ys)
      join f (x ∷ xs) ys = ap (λ l. f x ∷ l) (join f xs ys)

  -- within a piece the set's own span is its day
  own_is_day : (q : Key) → in_span table lo hi q ≡ true → row_at q (map (narrowed (in_span table own_lo hi)) files) ≡ row_at q (flat_map (set_layers (table, kinds)) sets)
  own_is_day q h =
      let at = in_span_parts table lo hi q h in
      narrowed_row (in_span table own_lo hi) files q
      ∙ by set ends
      ∙ sym (in_day_row the_set.range q files)
      ∙ sym (ap (row_at q) (set_wide (table, kinds) the_set))
      ∙ sym (one_set (table, kinds) lo hi q set sets apart at.0 at.1)
    where
      day : (t : Bool) (lo hi start end ts : ℕ) → hi ≤ end → (t && (leb lo ts && leb ts hi)) ≡ true → (t && (leb (max lo start) ts && leb ts hi)) ≡ (leb start ts && leb ts end)
      day true lo hi start end ts e h = grind (arith, nat_tests)
      day false lo hi start end ts e h = absurd (cc)

      nothing : (b c : Bool) → ◌≡◌ {A = Option Row} (cond b None None) (cond c None None)
      nothing true true = refl
      nothing true false = refl
      nothing false true = refl
      nothing false false = refl

      by : (o : Option ℕ) → EndsWithin hi sets o → cond (in_span table (max lo (day_start (set_at sets o).range)) hi q) (row_at q (wide (table, kinds) (set_at sets o))) None ≡ cond (is_in_day (set_at sets o).range q.ts) (row_at q (wide (table, kinds) (set_at sets o))) None
      by None e = nothing (in_span table (max lo (day_start 0)) hi q) (is_in_day 0 q.ts)
      by (Some i) e = ap (λ (b : Bool). cond b (row_at q (wide (table, kinds) (set_at sets (Some i)))) None) (day (eqb q.table table) lo hi (day_start (set_at sets (Some i)).range) (day_end (set_at sets (Some i)).range) q.ts e h)

  piece_row : (q : Key) → row_at q merged_layers ≡ cond (in_span table lo hi q) (row_at q (table_layers ms sets (table, kinds))) None
  piece_row q =
      above_all q (map (narrowed (in_span table lo hi)) memtables) (map (narrowed (in_span table own_lo hi)) files)
      ∙ above_narrowed (in_span table lo hi) q memtables (row_at q (map (narrowed (in_span table own_lo hi)) files)) (row_at q (flat_map (set_layers (table, kinds)) sets)) (below (in_span table lo hi q) refl)
      ∙ ap (λ (row : Option Row). cond (in_span table lo hi q) row None) (sym (above_all q memtables (flat_map (set_layers (table, kinds)) sets)))
    where
      near_own : (t : Bool) (start ts : ℕ) → (t && (leb lo ts && leb ts hi)) ≡ false → (t && (leb (max lo start) ts && leb ts hi)) ≡ false
      near_own true start ts h = grind (arith, nat_tests)
      near_own false start ts h = refl

      below : (b : Bool) → in_span table lo hi q ≡ b → row_at q (map (narrowed (in_span table own_lo hi)) files) ≡ cond b (row_at q (flat_map (set_layers (table, kinds)) sets)) None
      below true h = own_is_day q h
      below false h = narrowed_row (in_span table own_lo hi) files q ∙ ap (λ b. cond b (row_at q files) None) (near_own (eqb q.table table) (day_start the_set.range) q.ts h)

  -- and their rows are those of the table there
  piece_rows : rows_of merged_layers ≡ only (in_span table lo hi) (rows_of (table_layers ms sets (table, kinds)))
  piece_rows =
      one_list (rows_of merged_layers) (only (in_span table lo hi) (rows_of (table_layers ms sets (table, kinds)))) (rows_rise merged_layers) (only_rises (in_span table lo hi) (rows_of (table_layers ms sets (table, kinds))) (rows_rise (table_layers ms sets (table, kinds))))
      (λ q. rows_found merged_layers q ∙ piece_row q ∙ sym (rows_only (in_span table lo hi) (table_layers ms sets (table, kinds)) q))

  pub piece_timed : timed (rows_of merged_layers) ≡ rows_in table lo hi (rows_of (table_layers ms sets (table, kinds)))
  piece_timed = ap timed piece_rows

-- ---- how many partials

sum_of : {X : Type 0} (f : X → ℕ) (xs ys : List X) → sum_by f (xs ++ ys) ≡ sum_by f xs + sum_by f ys
sum_of f xs ys = sum_by-append f xs ys

module _ (table lo hi : ℕ) where
  abbrev counted : Layer → ℕ
  counted l = length (only (in_span table lo hi) l.partials)

  held_narrowed : (ls : List Layer) → held (map (narrowed (in_span table lo hi)) ls) ≡ partials_in table lo hi ls
  held_narrowed [] = refl
  held_narrowed (l ∷ ls) =
      let rest = held_narrowed ls in
      omega (arith, rest, sum_by-cons counted l ls, sum_by-cons (λ (l : Layer). length l.partials) (narrowed (in_span table lo hi) l) (map (narrowed (in_span table lo hi)) ls))

  -- in its day range a set counts what its own span does
  own_counted : (range : ℕ) (ls : List Layer) → hi ≤ day_end range → partials_in table (max lo (day_start range)) hi ls ≡ partials_in table lo hi (map (in_day range) ls)
  own_counted range [] e = refl
  own_counted range (l ∷ ls) e =
      let rest = own_counted range ls e in
      let one = ap length (only_both (in_span table lo hi) (λ (key : Key). is_in_day range key.ts) (in_span table (max lo (day_start range)) hi) l.partials (λ key. day (eqb key.table table) (day_start range) (day_end range) key.ts e)) in
      omega (arith, rest, one, sum_by-cons counted (in_day range l) (map (in_day range) ls), sum_by-cons (λ (l : Layer). length (only (in_span table (max lo (day_start range)) hi) l.partials)) l ls)
    where
      day : (t : Bool) (start end ts : ℕ) → hi ≤ end → ((leb start ts && leb ts end) && (t && (leb lo ts && leb ts hi))) ≡ (t && (leb (max lo start) ts && leb ts hi))
      day true start end ts e = grind (arith, nat_tests)
      day false start end ts e = none (leb start ts && leb ts end)
        where
          none : (b : Bool) → (b && false) ≡ false
          none true = refl
          none false = refl

  -- a set that is apart counts nothing
  apart_counted : (s : OpenSet) (ls : List Layer) → IsApart lo hi s → partials_in table lo hi (map (in_day s.range) ls) ≡ 0
  apart_counted s [] a = refl
  apart_counted s (l ∷ ls) a =
      let rest = apart_counted s ls a in
      let one = ap length (only_none (in_span table lo hi) (λ (key : Key). is_in_day s.range key.ts) l.partials (λ key. out key)) in
      omega (arith, rest, one, sum_by-cons counted (in_day s.range l) (map (in_day s.range) ls))
    where
      out : (key : Key) → (is_in_day s.range key.ts && in_span table lo hi key) ≡ false
      out key = by (in_span table lo hi key) refl
        where
          by : (b : Bool) → in_span table lo hi key ≡ b → (is_in_day s.range key.ts && b) ≡ false
          by true h = let at = in_span_parts table lo hi key h in ap (λ d. d && true) (a key.ts at.0 at.1)
          by false h = none (is_in_day s.range key.ts)
            where
              none : (b : Bool) → (b && false) ≡ false
              none true = refl
              none false = refl

  one_counted : (kinds : List Kind) (set : Option ℕ) (sets : List OpenSet) → AreApart lo hi set sets → partials_in table lo hi (flat_map (set_layers (table, kinds)) sets) ≡ partials_in table lo hi (set_layers (table, kinds) (set_at sets set))
  one_counted kinds None [] a = refl
  one_counted kinds (Some i) [] a = refl
  one_counted kinds None (s ∷ ss) a =
      let none = ap (partials_in table lo hi) (set_wide (table, kinds) s) ∙ apart_counted s (wide (table, kinds) s) a.0 in
      let rest = one_counted kinds None ss a.1 in
      omega (arith, none, rest, sum_of counted (set_layers (table, kinds) s) (flat_map (set_layers (table, kinds)) ss))
  one_counted kinds (Some zero) (s ∷ ss) a =
      let rest = one_counted kinds None ss a in
      omega (arith, rest, sum_of counted (set_layers (table, kinds) s) (flat_map (set_layers (table, kinds)) ss))
  one_counted kinds (Some (suc i)) (s ∷ ss) a =
      let none = ap (partials_in table lo hi) (set_wide (table, kinds) s) ∙ apart_counted s (wide (table, kinds) s) a.0 in
      let rest = one_counted kinds (Some i) ss a.1 in
      omega (arith, none, rest, sum_of counted (set_layers (table, kinds) s) (flat_map (set_layers (table, kinds)) ss))

-- the layers that are merged have as many partials as the table there
pub piece_held : (ms : List Contents) (sets : List OpenSet) (table : ℕ) (kinds : List Kind) (lo hi : ℕ) (set : Option ℕ) (g : hi ≤ last_ts) (sound : are_sound (table, kinds) sets ≡ true) (apart : AreApart lo hi set sets) (ends : EndsWithin hi sets set)
    → held (merged_layers ms sets table kinds lo hi set g sound apart ends) ≡ partials_in table lo hi (table_layers ms sets (table, kinds))
piece_held ms sets table kinds lo hi set g sound apart ends =
    let the_set = set_at sets set in
    let memtables = map (memtable_layer (whole table kinds)) ms in
    let files = wide (table, kinds) the_set in
    let own_lo = max lo (day_start the_set.range) in
    let mem = held_narrowed table lo hi memtables in
    let own = held_narrowed table own_lo hi files in
    let those = one_counted table lo hi kinds set sets apart in
    let is = by set ends in
    omega (arith, mem, own, those, is, sum_of (λ (l : Layer). length l.partials) (map (narrowed (in_span table lo hi)) memtables) (map (narrowed (in_span table own_lo hi)) files), sum_of (λ (l : Layer). length (only (in_span table lo hi) l.partials)) memtables (flat_map (set_layers (table, kinds)) sets))
  where
    by : (o : Option ℕ) → EndsWithin hi sets o → partials_in table (max lo (day_start (set_at sets o).range)) hi (wide (table, kinds) (set_at sets o)) ≡ partials_in table lo hi (set_layers (table, kinds) (set_at sets o))
    by None e = refl
    by (Some i) e = own_counted table lo hi (set_at sets (Some i)).range (wide (table, kinds) (set_at sets (Some i))) e ∙ sym (ap (partials_in table lo hi) (set_wide (table, kinds) (set_at sets (Some i))))

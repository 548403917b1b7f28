-- Keys that rise, over the blocks of a file.
use Rattle.std.proofs.Common.{◌≡◌, ℕ, ◌+◌, ◌<◌, Bool, true, false, cond, List, [], ◌∷◌, ◌++◌, Result, Ok, Err, sym, ap, subst, arith, ◌&&◌}
use Rattle.std.proofs.lemmas.Bool.Decides.{nat_tests}
use Rattle.std.specs.declared.cmp.Ordering.TheVariants.{Less}
use Rattle.std.specs.Ordering.{nat_cmp}
use Rattle.td_layer.specs.declared.values.Key.{Key}
use Rattle.td_layer.specs.declared.parts.Partial.{Partial}
use Rattle.td_layer.specs.Keys.{key_cmp, AllAfter, InKeyOrder}
use Rattle.td_codec.proofs.FieldLaws.{passed}
use Rattle.td_datafile.specs.Blocks.{is_behind, key_of, rows_checked}
use Rattle.td_datafile.specs.Scanned.{is_wanted, wanted_of, keyed}
use Rattle.td_block.specs.Rows.{Rows}
use Rattle.td_fileio.specs.Days.{is_in_day}

abbrev Pairs : Type 0
Pairs = List (Key × Partial)

-- ---- keys

pub less_from : (a b : ℕ) → nat_cmp a b ≡ Less → a < b
less_from a b e = grind (arith, nat_tests)

pub behind_is_less : (a b : Key) → is_behind a b ≡ true → key_cmp a b ≡ Less
behind_is_less a b e = grind (arith, nat_tests)

pub less_is_behind : (a b : Key) → key_cmp a b ≡ Less → is_behind a b ≡ true
less_is_behind a b e = grind (arith, nat_tests)

behind_trans : (a b c : Key) → is_behind a b ≡ true → is_behind b c ≡ true → is_behind a c ≡ true
behind_trans a b c p q = grind (arith, nat_tests)

pub less_trans : (a b c : Key) → key_cmp a b ≡ Less → key_cmp b c ≡ Less → key_cmp a c ≡ Less
less_trans a b c p q = behind_is_less a c (behind_trans a b c (less_is_behind a b p) (less_is_behind b c q))

pub all_after : (a b : Key) (xs : Pairs) → key_cmp a b ≡ Less → AllAfter key_cmp b xs → AllAfter key_cmp a xs
all_after a b [] p h = tt
all_after a b (x ∷ xs) p h = (less_trans a b x.0 p h.0, all_after a b xs p h.1)

-- ---- rows

-- pairs that rise, all behind a key
pub record ComeBehind (last : Key) (xs : Pairs) : Type 0 where
  pub after : AllAfter key_cmp last xs
  pub rise : InKeyOrder xs

pub none_come : (last : Key) → ComeBehind last []
none_come last = record { after = tt; rise = tt }

pub come_before : (a b : Key) (xs : Pairs) → key_cmp a b ≡ Less → ComeBehind b xs → ComeBehind a xs
come_before a b xs p h = record { after = all_after a b xs p h.after; rise = h.rise }

come_with : (a : Key) (x : Key × Partial) (xs : Pairs) → key_cmp a x.0 ≡ Less → ComeBehind x.0 xs → ComeBehind a (x ∷ xs)
come_with a x xs p h = record { after = (p, all_after a x.0 xs p h.after); rise = (h.after, h.rise) }

abbrev checked_to : Key → Result Key ℕ
checked_to k = Ok k

pub rows_come : (range table lo hi : ℕ) (rows : Rows) (last key : Key) (place : ℕ) (xs : Pairs) → rows_checked range table last place rows ≡ Ok key → ComeBehind key xs → ComeBehind last (keyed table (wanted_of lo hi rows) ++ xs)
rows_come range table lo hi [] last key place xs e h = subst (λ (k : Key). ComeBehind k xs) (sym (inside e)) h where
  inside : checked_to last ≡ checked_to key → last ≡ key
  inside q = cc
rows_come range table lo hi (row ∷ rows) last key place xs e h =
    let t = passed (is_behind last (key_of table row) && is_in_day range row.0) place (rows_checked range table (key_of table row) (place + 8) rows) key e in
    let behind : is_behind last (key_of table row) ≡ true = grind (arith, nat_tests) in
    let less = behind_is_less last (key_of table row) behind in
    let others = rows_come range table lo hi rows (key_of table row) key (place + 8) xs t.1 h in
    picked (is_wanted lo hi row) less others where
      picked : (b : Bool) → key_cmp last (key_of table row) ≡ Less → ComeBehind (key_of table row) (keyed table (wanted_of lo hi rows) ++ xs) → ComeBehind last (keyed table (cond b (row ∷ wanted_of lo hi rows) (wanted_of lo hi rows)) ++ xs)
      picked true p others = come_with last (key_of table row, row.1) (keyed table (wanted_of lo hi rows) ++ xs) p others
      picked false p others = come_before last (key_of table row) (keyed table (wanted_of lo hi rows) ++ xs) p others

-- the last key of rows of a table is of that table
abbrev table_in : Result Key ℕ → ℕ
table_in (Ok k) = k.table
table_in (Err p) = 0

pub rows_table : (range table : ℕ) (row : ℕ × Partial) (rows : Rows) (last key : Key) (place : ℕ) → rows_checked range table last place (row ∷ rows) ≡ Ok key → key.table ≡ table
rows_table range table row [] last key place e =
    let t = passed (is_behind last (key_of table row) && is_in_day range row.0) place (rows_checked range table (key_of table row) (place + 8) []) key e in
    sym (ap table_in t.1)
rows_table range table row (x ∷ xs) last key place e =
    let t = passed (is_behind last (key_of table row) && is_in_day range row.0) place (rows_checked range table (key_of table row) (place + 8) (x ∷ xs)) key e in
    rows_table range table x xs (key_of table row) key (place + 8) t.1

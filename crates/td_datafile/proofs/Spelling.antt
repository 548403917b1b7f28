-- Each entry of an index has one spelling, behind those before it.
use Rattle.std.proofs.Common.{◌≡◌, ℕ, ◌+◌, ◌^◌, ◌≤◌, true, eqb, leb, ltb, ℤ, List, [], ◌++◌, length, Ok, refl, sym, ap, subst, ◌∙◌, append_assoc, arith}
use Rattle.std.specs.Prelude.{◌&&◌, int_le}
use Rattle.std.specs.List.{flat_map}
use Rattle.std.specs.Int.{w16, w32, w64, to_le_bytes}
use Rattle.std.proofs.lemmas.Bool.{and_parts, and_from}
use Rattle.td_limits.specs.declared.limits.TheConstants.{BLOCK_ROWS}
use Rattle.td_cols.specs.Spelling.{AreBytes}
use Rattle.td_codec.specs.Fields.{◌>>=◌, Field, Read, Takes, SpellsOnce, number, number_read, checked, followed}
use Rattle.td_codec.specs.Lists.{Items, ItemsSpellOnce, each, items_read, all_fit}
use Rattle.td_codec.proofs.FieldLaws.{bind_ok, bind_is, takes_then, within_bind, shorter, wide16, wide32, wide64, number_spells, checked_spells, followed_spells, made_spells}
use Rattle.td_codec.proofs.ListLaws.{items_take, items_again, items_within}
use Rattle.td_codec.proofs.ValueLaws.{wide_spells, some_is}
use Rattle.td_block.proofs.Many.{respelled}
use Rattle.td_fileio.specs.Days.{is_in_day}
use Rattle.td_datafile.specs.declared.format.Summary.{Summary}
use Rattle.td_datafile.specs.declared.format.Entry.{Entry}
use Rattle.td_datafile.specs.declared.entries.Behind.{Behind}
use Rattle.td_datafile.specs.Index.{entry_bytes}
use Rattle.td_datafile.specs.Entries.{is_sum, is_bound, wide, summary_parts, summary_from, parts_of_summary, summary_in, summaries_in, comes_later, can_end, entry_parts, entry_from, parts_of_entry, entry_behind, behind, entry_items}

-- ---- summaries

abbrev pub greatest_field : ℕ → ℤ → Field ℤ
greatest_field count least = checked wide (λ n. is_bound count n && int_le least n)

abbrev pub least_field : ℕ → Field (ℤ × ℤ)
least_field count = followed (checked wide (is_bound count)) (λ least. greatest_field count least)

abbrev pub sum_field : ℕ → Field (ℤ × (ℤ × ℤ))
sum_field count = followed (checked wide (is_sum count)) (λ sum. least_field count)

greatest_spells : (count : ℕ) (least : ℤ) → SpellsOnce (greatest_field count least)
greatest_spells count least = checked_spells wide (λ n. is_bound count n && int_le least n) wide_spells

least_spells : (count : ℕ) → SpellsOnce (least_field count)
least_spells count = followed_spells (checked wide (is_bound count)) (λ least. greatest_field count least) (checked_spells wide (is_bound count) wide_spells) (λ least. greatest_spells count least)

sum_spells : (count : ℕ) → SpellsOnce (sum_field count)
sum_spells count = followed_spells (checked wide (is_sum count)) (λ sum. least_field count) (checked_spells wide (is_sum count) wide_spells) (λ sum. least_spells count)

parts_spell : (rows : ℕ) → SpellsOnce (summary_parts rows)
parts_spell rows = followed_spells (checked (number w32) (λ count. leb count rows)) (λ count. sum_field count) (checked_spells (number w32) (λ count. leb count rows) (number_spells w32 wide32)) (λ count. sum_spells count)

summary_spells : (rows : ℕ) → SpellsOnce (summary_in rows)
unfolding summary_in
summary_spells rows = made_spells (summary_parts rows) summary_from parts_of_summary (λ a _. refl) (λ a b e. ap summary_from (sym (some_is (b.count, (b.sum, (b.least, b.greatest))) a e))) (parts_spell rows)

-- a count of 16 bits, and so many summaries
summaries_spell : (rows : ℕ) → SpellsOnce (summaries_in rows)
summaries_spell rows =
    let items : Items Summary = each (summary_in rows) in
    let one : ItemsSpellOnce items = λ before. summary_spells rows in
    record {
      takes = λ bytes x are e.
          let b = bind_ok (number_read w16 bytes) (λ (n : ℕ × List ℕ). items_read items [] n.0 n.1) x e in
          let t = (number_spells w16 wide16).takes bytes b.0 are b.1 in
          let u = items_take items one b.0.0 [] b.0.1 x t.0.rest_are b.2 in
          let both = takes_then bytes (to_le_bytes w16 b.0.0) b.0.1 (flat_map items.spelled x.0) x.1 t.0 u.0 in (
            subst (λ (n : ℕ). Takes bytes (to_le_bytes w16 n ++ flat_map items.spelled x.0) x.1) (sym u.1.0) both,
            and_from _ _ (subst (λ (n : ℕ). ltb n (2 ^ 16) ≡ true) (sym u.1.0) t.1) u.1.1,
          );
      again = λ xs rest fits.
          let f = and_parts (ltb (length xs) (2 ^ 16)) (all_fit items [] xs) fits in
          let k : ℕ × List ℕ → Read (List Summary) = λ n. items_read items [] n.0 n.1 in
          ap (λ (l : List ℕ). number_read w16 l >>= k) (append_assoc (to_le_bytes w16 (length xs)) (flat_map items.spelled xs) rest)
          ∙ bind_is k ((number_spells w16 wide16).again (length xs) (flat_map items.spelled xs ++ rest) f.0)
          ∙ items_again items one xs [] rest f.1;
      within = λ bytes are.
          within_bind (length bytes) (number_read w16 bytes) (λ (n : ℕ × List ℕ). items_read items [] n.0 n.1) ((number_spells w16 wide16).within bytes are) (λ n e.
          let t = (number_spells w16 wide16).takes bytes n are e in
          items_within items one n.0 [] n.1 (length bytes) t.0.rest_are (shorter bytes (to_le_bytes w16 n.0) n.1 t.0));
    }

-- ---- entries

abbrev pub last_field : ℕ → ℕ → ℕ → Field (ℕ × List Summary)
last_field range rows first = followed (checked (number w64) (λ last. is_in_day range last && can_end rows first last)) (λ last. summaries_in rows)

abbrev pub first_field : ℕ → Behind → ℕ → ℕ → Field (ℕ × (ℕ × List Summary))
first_field range b table rows = followed (checked (number w64) (λ first. is_in_day range first && comes_later b table first)) (λ first. last_field range rows first)

abbrev pub rows_field : ℕ → Behind → ℕ → Field (ℕ × (ℕ × (ℕ × List Summary)))
rows_field range b table = followed (checked (number w32) (λ rows. leb 1 rows && leb rows BLOCK_ROWS)) (λ rows. first_field range b table rows)

abbrev pub table_field : ℕ → Behind → Field (ℕ × (ℕ × (ℕ × (ℕ × List Summary))))
table_field range b = followed (checked (number w32) (λ table. leb b.table table)) (λ table. rows_field range b table)

abbrev pub size_field : ℕ → ℕ → Behind → ℕ → Field (ℕ × (ℕ × (ℕ × (ℕ × (ℕ × List Summary)))))
size_field range index b at = followed (checked (number w32) (λ size. leb (at + size) index)) (λ size. table_field range b)

last_spells : (range rows first : ℕ) → SpellsOnce (last_field range rows first)
last_spells range rows first =
    followed_spells (checked (number w64) (λ last. is_in_day range last && can_end rows first last)) (λ last. summaries_in rows) (checked_spells (number w64) (λ last. is_in_day range last && can_end rows first last) (number_spells w64 wide64)) (λ last. summaries_spell rows)

first_spells : (range : ℕ) (b : Behind) (table rows : ℕ) → SpellsOnce (first_field range b table rows)
first_spells range b table rows =
    followed_spells (checked (number w64) (λ first. is_in_day range first && comes_later b table first)) (λ first. last_field range rows first) (checked_spells (number w64) (λ first. is_in_day range first && comes_later b table first) (number_spells w64 wide64)) (λ first. last_spells range rows first)

rows_spell : (range : ℕ) (b : Behind) (table : ℕ) → SpellsOnce (rows_field range b table)
rows_spell range b table = followed_spells (checked (number w32) (λ rows. leb 1 rows && leb rows BLOCK_ROWS)) (λ rows. first_field range b table rows) (checked_spells (number w32) (λ rows. leb 1 rows && leb rows BLOCK_ROWS) (number_spells w32 wide32)) (λ rows. first_spells range b table rows)

table_spells : (range : ℕ) (b : Behind) → SpellsOnce (table_field range b)
table_spells range b = followed_spells (checked (number w32) (λ table. leb b.table table)) (λ table. rows_field range b table) (checked_spells (number w32) (λ table. leb b.table table) (number_spells w32 wide32)) (λ table. rows_spell range b table)

size_spells : (range index : ℕ) (b : Behind) (at : ℕ) → SpellsOnce (size_field range index b at)
size_spells range index b at = followed_spells (checked (number w32) (λ size. leb (at + size) index)) (λ size. table_field range b) (checked_spells (number w32) (λ size. leb (at + size) index) (number_spells w32 wide32)) (λ size. table_spells range b)

entry_parts_spell : (range index : ℕ) (b : Behind) → SpellsOnce (entry_parts range index b)
entry_parts_spell range index b = followed_spells (checked (number w64) (λ at. eqb at b.place)) (λ at. size_field range index b at) (checked_spells (number w64) (λ at. eqb at b.place) (number_spells w64 wide64)) (λ at. size_spells range index b at)

entry_spells : (range index : ℕ) (b : Behind) → SpellsOnce (entry_behind range index b)
unfolding entry_behind
entry_spells range index b =
    made_spells (entry_parts range index b) entry_from parts_of_entry (λ a _. refl) (λ a e is. ap entry_from (sym (some_is (e.offset, (e.size, (e.table, (e.rows, (e.first, (e.last, e.columns)))))) a is))) (entry_parts_spell range index b)

pub entries_spell : (range index : ℕ) → ItemsSpellOnce (entry_items range index)
unfolding entry_behind summary_in
entries_spell range index before = respelled (entry_behind range index (behind before)) entry_bytes (λ x fits. refl) (entry_spells range index (behind before))

-- how many bytes entries take that were read
pub index_within : (range index n : ℕ) (bytes : List ℕ) (es : List Entry) (rest : List ℕ) → AreBytes bytes → items_read (entry_items range index) [] n bytes ≡ Ok (es, rest) → length (flat_map entry_bytes es) ≤ length bytes
unfolding entry_behind
index_within range index n bytes es rest are e =
    let t = items_take (entry_items range index) (entries_spell range index) n [] bytes (es, rest) are e in
    let long = ap length t.0.parts ∙ Rattle.std.proofs.lemmas.List.length-append (flat_map entry_bytes es) rest in
    omega (arith, long)

-- how many entries were read
pub entries_count : (range index n : ℕ) (bytes : List ℕ) (es : List Entry) (rest : List ℕ) → AreBytes bytes → items_read (entry_items range index) [] n bytes ≡ Ok (es, rest) → length es ≡ n
unfolding entry_behind
entries_count range index n bytes es rest are e = (items_take (entry_items range index) (entries_spell range index) n [] bytes (es, rest) are e).1.0

-- The entries of an index as they are read, each behind those before it.
use Rattle.std.specs.Prelude.{ℕ, ◌+◌, ◌-◌, ◌*◌, ◌^◌, ◌==◌, ◌&&◌, nat_lt, nat_le, Bool, true, if◌then◌else◌, ℤ, pos, neg_ℤ, int_le, List, [], ◌++◌, length, slice_get, Option, Some, None}
use Rattle.std.specs.List.{flat_map}
use Rattle.std.specs.Ordering.{int_eq}
use Rattle.std.specs.Int.{w16, w32, w64, to_le_bytes}
use Rattle.td_limits.specs.declared.limits.TheConstants.{BLOCK_ROWS}
use Rattle.td_cols.specs.declared.kinds.Kind.TheVariants.{Wide}
use Rattle.td_codec.specs.Fields.{Field, ◌>>=◌, number, number_read, kind_number, checked, followed, made}
use Rattle.td_codec.specs.Lists.{Items, each, items_read, all_fit}
use Rattle.td_fileio.specs.Days.{is_in_day}
use Rattle.td_datafile.specs.declared.format.Summary.{Summary}
use Rattle.td_datafile.specs.declared.format.Entry.{Entry}
use Rattle.td_datafile.specs.declared.entries.Behind.{Behind}
use Rattle.td_datafile.specs.Index.{entry_bytes}
use Rattle.td_datafile.specs.Written.{blocks_begin}

-- ---- summaries

-- whether so many numbers of a column can have this sum
abbrev pub is_sum : ℕ → ℤ → Bool
is_sum count n = int_le (neg_ℤ (pos (2 ^ 64 * count))) n && int_le n (pos (2 ^ 64 * count))

-- whether this can be the least or the greatest of so many numbers of a column: 0 where there is none
abbrev pub is_bound : ℕ → ℤ → Bool
is_bound count n =
    (if count == 0 then int_eq n (pos 0) else (int_le (neg_ℤ (pos (2 ^ 63))) n && int_le n (pos (2 ^ 64 - 1))))

abbrev pub wide : Field ℤ
wide = kind_number Wide

abbrev pub summary_parts : ℕ → Field (ℕ × (ℤ × (ℤ × ℤ)))
summary_parts rows =
    followed (checked (number w32) (λ count. nat_le count rows))
    (λ count. followed (checked wide (is_sum count))
    (λ sum. followed (checked wide (is_bound count))
    (λ least. checked wide (λ n. is_bound count n && int_le least n))))

abbrev pub summary_from : ℕ × (ℤ × (ℤ × ℤ)) → Summary
summary_from p = record { count = p.0; sum = p.1.0; least = p.1.1.0; greatest = p.1.1.1 }

abbrev pub parts_of_summary : Summary → Option (ℕ × (ℤ × (ℤ × ℤ)))
parts_of_summary s = Some (s.count, (s.sum, (s.least, s.greatest)))

-- The summary of a column of so many rows. A count above that of the rows is a fault at the count; a sum that so many
-- numbers of a column can't have, at the sum; a least or a greatest that isn't one of a column, or isn't 0 where there
-- is none, and a greatest below the least, at it.
unfoldable pub summary_in : ℕ → Field Summary
summary_in rows = made (summary_parts rows) summary_from parts_of_summary

-- the count of the columns of so many rows, and their summaries
abbrev pub summaries_in : ℕ → Field (List Summary)
summaries_in rows = record {
  read = λ bytes. number_read w16 bytes >>= λ n. items_read (each (summary_in rows)) [] n.0 n.1;
  spelled = λ xs. to_le_bytes w16 (length xs) ++ flat_map (summary_in rows).spelled xs;
  fits = λ xs. nat_lt (length xs) (2 ^ 16) && all_fit (each (summary_in rows)) [] xs;
}

-- ---- entries

-- what stands behind an entry: the place behind its block; and of its table, which no later one is below, timestamps
-- from the one after its last on
abbrev pub behind_entry : Entry → Behind
behind_entry e = record { place = e.offset + e.size; table = e.table; from = e.last + 1 }

abbrev pub behind_last : Option Entry → Behind
behind_last None = record { place = blocks_begin; table = 1; from = 0 }
behind_last (Some e) = behind_entry e

abbrev pub behind : List Entry → Behind
behind entries = behind_last (slice_get entries (length entries - 1))

-- whether a block's first timestamp comes after those before it
abbrev pub comes_later : Behind → ℕ → ℕ → Bool
comes_later b table first = (if b.table == table then nat_le b.from first else true)

-- whether so many rows can begin and end with these timestamps
abbrev pub can_end : ℕ → ℕ → ℕ → Bool
can_end rows first last = (if rows == 1 then last == first else nat_le (first + (rows - 1)) last)

abbrev pub EntryParts : Type 0
EntryParts = ℕ × (ℕ × (ℕ × (ℕ × (ℕ × (ℕ × List Summary)))))

abbrev pub entry_parts : ℕ → ℕ → Behind → Field EntryParts
entry_parts range index b =
    followed (checked (number w64) (λ at. at == b.place))
    (λ at. followed (checked (number w32) (λ size. nat_le (at + size) index))
    (λ size. followed (checked (number w32) (λ table. nat_le b.table table))
    (λ table. followed (checked (number w32) (λ rows. nat_le 1 rows && nat_le rows BLOCK_ROWS))
    (λ rows. followed (checked (number w64) (λ first. is_in_day range first && comes_later b table first))
    (λ first. followed (checked (number w64) (λ last. is_in_day range last && can_end rows first last))
    (λ last. summaries_in rows))))))

abbrev pub entry_from : EntryParts → Entry
entry_from p =
    record {
      offset = p.0;
      size = p.1.0;
      table = p.1.1.0;
      rows = p.1.1.1.0;
      first = p.1.1.1.1.0;
      last = p.1.1.1.1.1.0;
      columns = p.1.1.1.1.1.1;
    }

abbrev pub parts_of_entry : Entry → Option EntryParts
parts_of_entry e = Some (e.offset, (e.size, (e.table, (e.rows, (e.first, (e.last, e.columns))))))

-- An entry behind others, in a file of a day range whose index begins at a place. Its block begins behind the one
-- before it and ends before the index; its table isn't below the one before it; it has 1 to 1024 rows; its first and
-- its last timestamp lie in the day range and behind those before it.
unfoldable pub entry_behind : ℕ → ℕ → Behind → Field Entry
entry_behind range index b = made (entry_parts range index b) entry_from parts_of_entry

abbrev pub entry_items : ℕ → ℕ → Items Entry
entry_items range index =
    record {
      read = λ before. (entry_behind range index (behind before)).read;
      spelled = entry_bytes;
      fits = λ before. (entry_behind range index (behind before)).fits;
    }

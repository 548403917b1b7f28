-- What a file says of its blocks: its day range and its index.
use Rattle.std.specs.Prelude.{ℕ, ◌-◌, ◌==◌, ◌&&◌, nat_le, max, if◌then◌else◌, List, [], length, Result, Ok, Err}
use Rattle.std.specs.List.{flat_map}
use Rattle.std.specs.Int.{w32, w64}
use Rattle.td_codec.specs.Fields.{Field, Read, ◌>>=◌, number, checked, pair}
use Rattle.td_codec.specs.Lists.{items_read, all_fit}
use Rattle.td_fileio.specs.Places.{field_at}
use Rattle.td_datafile.specs.declared.format.Entry.{Entry}
use Rattle.td_datafile.specs.declared.format.TheConstants.{FILE_MAGIC, FILE_END}
use Rattle.td_datafile.specs.declared.opening.Opening.{Opening}
use Rattle.td_datafile.specs.Index.{entry_bytes}
use Rattle.td_datafile.specs.Entries.{behind, entry_items}
use Rattle.td_datafile.specs.Written.{blocks_begin}

-- The first 12 bytes: the magic, the day range and the count of the blocks.
unfoldable pub front : Field (ℕ × (ℕ × ℕ))
front = pair (checked (number w32) (λ n. n == FILE_MAGIC)) (pair (number w32) (number w32))

-- where the last 12 bytes of a file of this size begin, behind the front
abbrev pub end_place : ℕ → ℕ
end_place size = max blocks_begin (size - 12)

-- The last 12 bytes: where the index begins, behind the front and before these bytes, and the end mark.
unfoldable pub tail : ℕ → Field (ℕ × ℕ)
tail size =
    pair (checked (number w64) (λ at. nat_le blocks_begin at && nat_le at (end_place size)))
    (checked (number w32) (λ n. n == FILE_END))

-- all that was read, where no byte is left over
abbrev pub all_of : {A : Type 0} → A × List ℕ → Read A
all_of x = (if length x.1 == 0 then Ok x else Err (length x.1))

-- The index of so many blocks in a file of a day range, which begins at a place.
unfoldable pub index_in : ℕ → ℕ → ℕ → Field (List Entry)
index_in range place count = record {
  read = λ bytes. items_read (entry_items range place) [] count bytes >>= all_of;
  spelled = flat_map entry_bytes;
  fits = λ es. (length es == count) && all_fit (entry_items range place) [] es;
}

-- the opening of a file of this size: the last block ends where the index begins
abbrev pub checked_end : ℕ → ℕ → ℕ → List Entry → Result Opening ℕ
checked_end size range place entries =
    (if (behind entries).place == place then Ok (record { range = range; index = place; entries = entries })
    else Err (end_place size))

-- the same of a file of this size
unfoldable pub opening_of : ℕ → List ℕ → Result Opening ℕ
opening_of size all =
    field_at front 12 0 all
    >>= λ f. field_at (tail size) 12 (end_place size) all
    >>= λ t. field_at (index_in f.0.1.0 t.0.0 f.0.1.1) (end_place size - t.0.0) t.0.0 all
    >>= λ es. checked_end size f.0.1.0 t.0.0 es.0

-- What a file says of its blocks, or the place of the first fault of its front, its end and its index, in this order.
abbrev pub opening_at : List ℕ → Result Opening ℕ
opening_at all = opening_of (length all) all

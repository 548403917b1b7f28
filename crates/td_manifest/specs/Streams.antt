-- Streams.
use Rattle.std.specs.Prelude.{ℕ, ◌-◌, ◌^◌, ◌&&◌, nat_lt, nat_le, Bool, true, List, [], ◌++◌, length, slice_get, Option, Some}
use Rattle.std.specs.Option.{option_map_or}
use Rattle.std.specs.Int.{w32, w64, to_le_bytes}
use Rattle.td_limits.specs.declared.limits.TheConstants.{LAST_TIMESTAMP}
use Rattle.td_model.specs.declared.windows.WinRow.{WinRow}
use Rattle.td_codec.specs.Fields.{Field, ◌>>=◌, number, number_read, checked, pair, followed, made, string_read}
use Rattle.td_codec.specs.Lists.{Items}
use Rattle.td_codec.specs.Values.{win_row_list}
use Rattle.td_manifest.specs.declared.head.HeadStream.{HeadStream}

-- A length of 32 bits, and so many bytes. These are two fields: where there are fewer bytes, the first of them is at
-- fault.
unfoldable pub statement_text : Field (List ℕ)
statement_text = record {
  read = λ bytes. number_read w32 bytes >>= λ n. string_read (λ _. true) (length n.1) n.0 n.1;
  spelled = λ t. to_le_bytes w32 (length t) ++ t;
  fits = λ t. nat_lt (length t) (2 ^ 32);
}

-- whether a number comes after that of the last of some streams, where there are any
abbrev pub comes_next : List HeadStream → ℕ → Bool
comes_next before number =
    option_map_or (λ (last : HeadStream). nat_lt last.number number) (slice_get before (length before - 1)) true

-- number, version of creation, text, version up to which its result goes, moment of its last step, and its result
abbrev pub StreamParts : Type 0
StreamParts = ℕ × (ℕ × (List ℕ × (ℕ × (ℕ × List WinRow))))

abbrev pub stream_of : StreamParts → HeadStream
stream_of p =
    record { number = p.0; made = p.1.0; text = p.1.1.0; upto = p.1.1.1.0; moment = p.1.1.1.1.0; rows = p.1.1.1.1.1 }

abbrev pub stream_parts : HeadStream → Option StreamParts
stream_parts s = Some (s.number, (s.made, (s.text, (s.upto, (s.moment, s.rows)))))

-- the number of a stream, below the next number and above those before it
abbrev pub number_field : ℕ → List HeadStream → Field ℕ
number_field next before = checked (number w32) (λ n. (nat_le 1 n && nat_lt n next) && comes_next before n)

-- A stream was made at a version from 1 on. Its result goes up to a version below the head's, and at least up to the
-- one before the stream was made.
abbrev pub made_field : ℕ → Field ℕ
made_field version = checked (number w64) (λ made. nat_le 1 made && nat_le made version)

abbrev pub upto_field : ℕ → ℕ → Field ℕ
upto_field version made = checked (number w64) (λ upto. nat_le (made - 1) upto && nat_lt upto version)

abbrev pub step_moment : Field ℕ
step_moment = checked (number w64) (λ moment. nat_le moment LAST_TIMESTAMP)

-- a stream of a head of this version and next number, behind others
unfoldable pub stream_behind : ℕ → ℕ → List HeadStream → Field HeadStream
stream_behind version next before =
    made (pair (number_field next before) (followed (made_field version)
    (λ made. pair statement_text (pair (upto_field version made) (pair step_moment win_row_list))))) stream_of
    stream_parts

unfoldable pub stream_items : ℕ → ℕ → Items HeadStream
stream_items version next =
    record {
      read = λ before. (stream_behind version next before).read;
      spelled = (stream_behind 0 0 []).spelled;
      fits = λ before. (stream_behind version next before).fits;
    }

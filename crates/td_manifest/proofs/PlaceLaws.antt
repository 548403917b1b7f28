-- Where the numbers of files, and the text of the first stream, stand in a head's bytes.
use Rattle.std.proofs.Common.{◌≡◌, ℕ, ◌+◌, ◌-◌, ◌*◌, ◌<◌, ◌≤◌, zero, suc, false, ltb, eqb, List, [], ◌∷◌, ◌++◌, length, take, drop, slice_get, get_or, Option, Some, None, refl, sym, ap, subst, ◌∙◌, append_assoc, arith, rules}
use Rattle.std.specs.Int.{w32, w64, to_le_bytes}
use Rattle.std.specs.List.{flat_map}
use Rattle.std.proofs.lemmas.Bool.{cond_both, cond-false, ltb-true, ltb-false, le-ltb, ne_eqb}
use Rattle.std.proofs.lemmas.List.{length-append, append-nil, drop_more}
use lib.Chars.{codes}
use Rattle.td_codec.specs.Values.{win_row_list}
use Rattle.td_codec.proofs.FieldLaws.{wide32, wide64}
use Rattle.td_manifest.specs.declared.head.Head.{Head}
use Rattle.td_manifest.specs.declared.head.HeadSet.{HeadSet}
use Rattle.td_manifest.specs.declared.head.HeadStream.{HeadStream}
use Rattle.td_manifest.specs.declared.reading.TheConstants.{FORMAT}
use Rattle.td_manifest.specs.Listed.{or_none, perhaps}
use Rattle.td_manifest.specs.Files.{files_of, all_files, main_file, stt_items, set_files, set_behind, set_items}
use Rattle.td_manifest.specs.Heads.{start_field, sets_field, streams_field, objects_field, head_body, framed}
use Rattle.td_manifest.specs.Streams.{statement_text, stream_behind, stream_items}
use Rattle.td_manifest.specs.Places.{catalog_bytes, front_bytes, RANGE_BYTES, FILE_BYTES, stt_offset, set_size, sets_size, own_offset, file_offset, file_place, text_offset, stream_place, FilesStandThere, StreamStandsThere}

-- ---- how many bytes sets have

-- the bytes of numbers of 64 bits
abbrev numbers : List ℕ → List ℕ
numbers ns = flat_map (to_le_bytes w64) ns

length_numbers : (ns : List ℕ) → length (numbers ns) ≡ FILE_BYTES * length ns
length_numbers [] = refl
length_numbers (n ∷ ns) = omega (arith, length-append (to_le_bytes w64 n) (numbers ns), wide64.len n, length_numbers ns)

-- the bytes of a set
abbrev set_bytes : HeadSet → List ℕ
set_bytes s = to_le_bytes w32 s.range ++ (to_le_bytes w64 (or_none s.main) ++ (to_le_bytes w32 (length s.stt) ++ numbers s.stt))

set_spelled : (s : HeadSet) → set_items.spelled s ≡ set_bytes s
unfolding set_items set_behind set_files perhaps stt_items
set_spelled s = refl

length_bytes : (s : HeadSet) → length (set_bytes s) ≡ set_size s
length_bytes s =
    let count = to_le_bytes w32 (length s.stt) ++ numbers s.stt in
    let main = to_le_bytes w64 (or_none s.main) ++ count in
    omega (arith, length-append (to_le_bytes w32 s.range) main, length-append (to_le_bytes w64 (or_none s.main)) count, length-append (to_le_bytes w32 (length s.stt)) (numbers s.stt), wide32.len s.range, wide64.len (or_none s.main), wide32.len (length s.stt), length_numbers s.stt)

pub length_set : (s : HeadSet) → length (set_items.spelled s) ≡ set_size s
length_set s = ap length (set_spelled s) ∙ length_bytes s

pub length_sets : (ss : List HeadSet) → length (flat_map set_items.spelled ss) ≡ sets_size ss
length_sets [] = refl
length_sets (s ∷ ss) = omega (arith, length-append (set_items.spelled s) (flat_map set_items.spelled ss), length_set s, length_sets ss)

-- ---- from set to set

joined : (old size rest all new start : ℕ) → new ≡ old + size → all ≡ size + rest → old + all ≡ start → new + rest ≡ start
joined old size rest all new start e f g = omega (arith, e, f, g)

pub past_set : (sets : List HeadSet) (k i count start : ℕ) (s : HeadSet) (old new : List ℕ) → k < length sets → s ≡ get_or sets k s → count ≡ length (files_of s) → count ≤ i → new ≡ old ++ set_items.spelled s
    → length old + file_offset (drop k sets) i ≡ start → length new + file_offset (drop (k + 1) sets) (i - count) ≡ start
past_set sets k i count start s old new within here count_is past new_is so_far =
    let front : drop k sets ≡ s ∷ drop (k + 1) sets = drop_more sets k s within ∙ ap (λ (x : HeadSet). x ∷ drop (k + 1) sets) (sym here) in
    let not_here : ltb i (length (files_of s)) ≡ false = le-ltb i (length (files_of s)) (omega (arith, count_is, past)) in
    let next : file_offset (s ∷ drop (k + 1) sets) i ≡ set_size s + file_offset (drop (k + 1) sets) (i - length (files_of s)) = cond-false (ltb i (length (files_of s))) _ _ not_here in
    let left : file_offset (drop (k + 1) sets) (i - length (files_of s)) ≡ file_offset (drop (k + 1) sets) (i - count) = ap (λ (n : ℕ). file_offset (drop (k + 1) sets) (i - n)) (sym count_is) in
    let was : file_offset (drop k sets) i ≡ set_size s + file_offset (drop (k + 1) sets) (i - count) = ap (λ (l : List HeadSet). file_offset l i) front ∙ next ∙ ap (λ (n : ℕ). set_size s + n) left in
    let longer : length new ≡ length old + set_size s = ap length new_is ∙ length-append old (set_items.spelled s) ∙ ap (λ (n : ℕ). length old + n) (length_set s) in
    joined (length old) (set_size s) (file_offset (drop (k + 1) sets) (i - count)) (file_offset (drop k sets) i) (length new) start longer was so_far

-- ---- bytes at a place

-- these bytes stand at this place of the others
record IsAt (bytes part : List ℕ) (at : ℕ) : Type 0 where
  front : List ℕ
  rest : List ℕ
  parts : bytes ≡ front ++ (part ++ rest)
  place : length front ≡ at

taken_behind : (front rest : List ℕ) → drop (length front) (front ++ rest) ≡ rest
taken_behind [] rest = refl
taken_behind (x ∷ xs) rest = taken_behind xs rest

taken_first : (part rest : List ℕ) → take (length part) (part ++ rest) ≡ part
taken_first [] rest = refl
taken_first (x ∷ xs) rest = ap (λ (l : List ℕ). x ∷ l) (taken_first xs rest)

taken : (bytes part : List ℕ) (at size : ℕ) → length part ≡ size → IsAt bytes part at → take size (drop at bytes) ≡ part
taken bytes part at size len p =
    let rest : drop at bytes ≡ part ++ p.rest = ap (λ (l : List ℕ). drop at l) p.parts ∙ ap (λ (n : ℕ). drop n (p.front ++ (part ++ p.rest))) (sym p.place) ∙ taken_behind p.front (part ++ p.rest) in
    ap (λ (l : List ℕ). take size l) rest ∙ ap (λ (n : ℕ). take n (part ++ p.rest)) (sym len) ∙ taken_first part p.rest

moved : (bytes part : List ℕ) (at to : ℕ) → at ≡ to → IsAt bytes part at → IsAt bytes part to
moved bytes part at to e p = subst (λ (n : ℕ). IsAt bytes part n) e p

at_behind : (front bytes part : List ℕ) (at size : ℕ) → length front ≡ size → IsAt bytes part at → IsAt (front ++ bytes) part (size + at)
at_behind front bytes part at size len p = record {
  front = front ++ p.front;
  rest = p.rest;
  parts = ap (λ (l : List ℕ). front ++ l) p.parts ∙ sym (append_assoc front p.front (part ++ p.rest));
  place = length-append front p.front ∙ ap (λ (n : ℕ). n + length p.front) len ∙ ap (λ (n : ℕ). size + n) p.place;
}

at_before : (bytes rest part : List ℕ) (at : ℕ) → IsAt bytes part at → IsAt (bytes ++ rest) part at
at_before bytes rest part at p = record {
  front = p.front;
  rest = p.rest ++ rest;
  parts = ap (λ (l : List ℕ). l ++ rest) p.parts ∙ append_assoc p.front (part ++ p.rest) rest ∙ ap (λ (l : List ℕ). p.front ++ l) (append_assoc part p.rest rest);
  place = p.place;
}

at_front : (part rest : List ℕ) → IsAt (part ++ rest) part 0
at_front part rest = record { front = []; rest = rest; parts = refl; place = refl }

whole : (part : List ℕ) → IsAt part part 0
whole part = record { front = []; rest = []; parts = sym (append-nil part); place = refl }

-- ---- a file's number

some_is : (m n : ℕ) → Some m ≡ Some n → m ≡ n
some_is m n e = cc

number_there : (ns : List ℕ) (i n : ℕ) → slice_get ns i ≡ Some n → IsAt (numbers ns) (to_le_bytes w64 n) (FILE_BYTES * i)
number_there [] i n e = absurd cc
number_there (m ∷ ns) zero n e = subst (λ (k : ℕ). IsAt (numbers (m ∷ ns)) (to_le_bytes w64 k) 0) (some_is m n e) (at_front (to_le_bytes w64 m) (numbers ns))
number_there (m ∷ ns) (suc i) n e =
    moved (numbers (m ∷ ns)) (to_le_bytes w64 n) (8 + FILE_BYTES * i) (FILE_BYTES * suc i) (omega arith)
    (at_behind (to_le_bytes w64 m) (numbers ns) (to_le_bytes w64 n) (FILE_BYTES * i) 8 (wide64.len m) (number_there ns i n e))

-- the bytes of a set of a day range, a data file and stt files
abbrev own_bytes : ℕ → Option ℕ → List ℕ → List ℕ
own_bytes range main stt = to_le_bytes w32 range ++ (to_le_bytes w64 (or_none main) ++ (to_le_bytes w32 (length stt) ++ numbers stt))

stt_there : (range : ℕ) (main : Option ℕ) (stt : List ℕ) (i n : ℕ) → slice_get stt i ≡ Some n → IsAt (own_bytes range main stt) (to_le_bytes w64 n) (stt_offset + FILE_BYTES * i)
stt_there range main stt i n e =
    let part = to_le_bytes w64 n in
    let count = to_le_bytes w32 (length stt) ++ numbers stt in
    let file = to_le_bytes w64 (or_none main) ++ count in
    moved (own_bytes range main stt) part (4 + (8 + (4 + FILE_BYTES * i))) (stt_offset + FILE_BYTES * i) (omega arith)
    (at_behind (to_le_bytes w32 range) file part (8 + (4 + FILE_BYTES * i)) 4 (wide32.len range)
    (at_behind (to_le_bytes w64 (or_none main)) count part (4 + FILE_BYTES * i) 8 (wide64.len (or_none main))
    (at_behind (to_le_bytes w32 (length stt)) (numbers stt) part (FILE_BYTES * i) 4 (wide32.len (length stt)) (number_there stt i n e))))

own_there : (range : ℕ) (main : Option ℕ) (stt : List ℕ) (i n : ℕ) → slice_get (main_file main ++ stt) i ≡ Some n → IsAt (own_bytes range main stt) (to_le_bytes w64 n) (own_offset main i)
own_there range None stt i n e = stt_there range None stt i n e
own_there range (Some m) stt zero n e =
    let count = to_le_bytes w32 (length stt) ++ numbers stt in
    subst (λ (k : ℕ). IsAt (own_bytes range (Some m) stt) (to_le_bytes w64 k) RANGE_BYTES) (some_is m n e)
    (at_behind (to_le_bytes w32 range) (to_le_bytes w64 m ++ count) (to_le_bytes w64 m) 0 4 (wide32.len range) (at_front (to_le_bytes w64 m) count))
own_there range (Some m) stt (suc i) n e =
    let one : i ≡ suc i - 1 = omega arith in
    let here : own_offset (Some m) (suc i) ≡ stt_offset + FILE_BYTES * (suc i - 1) = cond-false (eqb (suc i) 0) RANGE_BYTES (stt_offset + FILE_BYTES * (suc i - 1)) (ne_eqb (suc i) 0 (λ z. omega (arith, z))) in
    moved (own_bytes range (Some m) stt) (to_le_bytes w64 n) (stt_offset + FILE_BYTES * i) (own_offset (Some m) (suc i)) (ap (λ (k : ℕ). stt_offset + FILE_BYTES * k) one ∙ sym here) (stt_there range (Some m) stt i n e)

get_front : {A : Type 0} (xs ys : List A) (i : ℕ) → i < length xs → slice_get (xs ++ ys) i ≡ slice_get xs i
get_front [] ys i lt = absurd (omega (arith, lt))
get_front (x ∷ xs) ys zero lt = refl
get_front (x ∷ xs) ys (suc i) lt = get_front xs ys i (omega (arith, lt))

get_behind : {A : Type 0} (xs ys : List A) (i : ℕ) → length xs ≤ i → slice_get (xs ++ ys) i ≡ slice_get ys (i - length xs)
get_behind [] ys i le = ap (λ (n : ℕ). slice_get ys n) (omega arith)
get_behind (x ∷ xs) ys zero le = absurd (omega (arith, le))
get_behind (x ∷ xs) ys (suc i) le = get_behind xs ys i (omega (arith, le)) ∙ ap (λ (n : ℕ). slice_get ys n) (omega arith)

-- the bytes of sets
abbrev sets_bytes : List HeadSet → List ℕ
sets_bytes ss = flat_map set_items.spelled ss

file_there : (ss : List HeadSet) (i n : ℕ) → slice_get (all_files ss) i ≡ Some n → IsAt (sets_bytes ss) (to_le_bytes w64 n) (file_offset ss i)
unfolding set_items set_behind set_files perhaps stt_items
file_there [] i n e = absurd cc
file_there (s ∷ ss) i n e =
    let count = length (files_of s) in
    let part = to_le_bytes w64 n in
    cond_both (ltb i count) (own_offset s.main i) (set_size s + file_offset ss (i - count)) (λ (at : ℕ). IsAt (sets_bytes (s ∷ ss)) part at)
    (λ here. at_before (set_bytes s) (sets_bytes ss) part (own_offset s.main i) (own_there s.range s.main s.stt i n (sym (get_front (files_of s) (all_files ss) i (ltb-true i count here)) ∙ e)))
    (λ later. at_behind (set_bytes s) (sets_bytes ss) part (file_offset ss (i - count)) (set_size s) (length_bytes s) (file_there ss (i - count) n (sym (get_behind (files_of s) (all_files ss) i (ltb-false i count later)) ∙ e)))

-- ---- the head

-- the bytes before the count of file sets, of a head of so many bytes
abbrev front_of : ℕ → Head → List ℕ
front_of size h =
    codes "TDH1" ++ (to_le_bytes w64 size ++ (to_le_bytes w32 FORMAT ++ (start_field.spelled (h.version, (h.moment, (h.first_log, h.edge))) ++ catalog_bytes h)))

front_size : (size : ℕ) (h : Head) → length (front_of size h) ≡ length (front_bytes h)
front_size size h =
    let rest = to_le_bytes w32 FORMAT ++ (start_field.spelled (h.version, (h.moment, (h.first_log, h.edge))) ++ catalog_bytes h) in
    omega (arith, length-append (to_le_bytes w64 size) rest, length-append (to_le_bytes w64 0) rest, wide64.len size, wide64.len 0, length-append (codes "TDH1") (to_le_bytes w64 size ++ rest), length-append (codes "TDH1") (to_le_bytes w64 0 ++ rest))

-- what stands behind the file sets
abbrev streams_on : Head → List ℕ
streams_on h = to_le_bytes w32 h.next_stream ++ (to_le_bytes w32 (length h.streams) ++ (flat_map (stream_items h.version h.next_stream).spelled h.streams ++ codes "TDHE"))

regrouped : (c n f s k l m x y z e : List ℕ) → c ++ (n ++ (f ++ ((s ++ (k ++ ((l ++ m) ++ (x ++ (y ++ z))))) ++ e))) ≡ (c ++ (n ++ (f ++ (s ++ k)))) ++ (l ++ (m ++ (x ++ (y ++ (z ++ e)))))
regrouped c n f s k l m x y z e = search (rules, append_assoc)

framed_parts : (size : ℕ) (h : Head) → framed size h ≡ front_of size h ++ (to_le_bytes w32 (length h.sets) ++ (sets_bytes h.sets ++ streams_on h))
unfolding framed head_body objects_field sets_field streams_field
framed_parts size h =
    regrouped (codes "TDH1") (to_le_bytes w64 size) (to_le_bytes w32 FORMAT) (start_field.spelled (h.version, (h.moment, (h.first_log, h.edge)))) (catalog_bytes h) (to_le_bytes w32 (length h.sets)) (sets_bytes h.sets) (to_le_bytes w32 h.next_stream) (to_le_bytes w32 (length h.streams))
    (flat_map (stream_items h.version h.next_stream).spelled h.streams) (codes "TDHE")

pub files_stand : FilesStandThere
files_stand bytes h i n is e =
    let part = to_le_bytes w64 n in
    let size = length bytes in
    let sets = sets_bytes h.sets ++ streams_on h in
    let place = length (front_bytes h) in
    let there = at_behind (front_of size h) (to_le_bytes w32 (length h.sets) ++ sets) part (4 + file_offset h.sets i) place (front_size size h)
    (at_behind (to_le_bytes w32 (length h.sets)) sets part (file_offset h.sets i) 4 (wide32.len (length h.sets)) (at_before (sets_bytes h.sets) (streams_on h) part (file_offset h.sets i) (file_there h.sets i n e))) in
    let here = subst (λ (l : List ℕ). IsAt l part (place + (4 + file_offset h.sets i))) (sym (is.bytes_are ∙ framed_parts size h)) there in
    taken bytes part (file_place h i) FILE_BYTES (wide64.len n) (moved bytes part (place + (4 + file_offset h.sets i)) (file_place h i) (omega arith) here)

-- ---- the first stream

text_there : (version next : ℕ) (s : HeadStream) → IsAt ((stream_items version next).spelled s) s.text text_offset
unfolding stream_items stream_behind statement_text
text_there version next s =
    let text = to_le_bytes w32 (length s.text) ++ s.text in
    let rest = to_le_bytes w64 s.upto ++ (to_le_bytes w64 s.moment ++ win_row_list.spelled s.rows) in
    at_behind (to_le_bytes w32 s.number) (to_le_bytes w64 s.made ++ (text ++ rest)) s.text (8 + 4) 4 (wide32.len s.number)
    (at_behind (to_le_bytes w64 s.made) (text ++ rest) s.text 4 8 (wide64.len s.made)
    (at_before text rest s.text 4 (at_behind (to_le_bytes w32 (length s.text)) s.text s.text 0 4 (wide32.len (length s.text)) (whole s.text))))

first_there : (version next : ℕ) (streams ss : List HeadStream) (s : HeadStream) → streams ≡ s ∷ ss → IsAt (flat_map (stream_items version next).spelled streams) s.text text_offset
first_there version next streams ss s e =
    let bytes : List HeadStream → List ℕ = λ l. flat_map (stream_items version next).spelled l in
    subst (λ (l : List HeadStream). IsAt (bytes l) s.text text_offset) (sym e) (at_before ((stream_items version next).spelled s) (bytes ss) s.text text_offset (text_there version next s))

pub stream_stands : StreamStandsThere
stream_stands bytes h s ss is e =
    let size = length bytes in
    let streams = flat_map (stream_items h.version h.next_stream).spelled h.streams in
    let sets = sets_bytes h.sets ++ streams_on h in
    let counted = to_le_bytes w32 (length h.streams) ++ (streams ++ codes "TDHE") in
    let place = length (front_bytes h) in
    let there = at_behind (front_of size h) (to_le_bytes w32 (length h.sets) ++ sets) s.text (4 + (sets_size h.sets + (4 + (4 + text_offset)))) place (front_size size h)
    (at_behind (to_le_bytes w32 (length h.sets)) sets s.text (sets_size h.sets + (4 + (4 + text_offset))) 4 (wide32.len (length h.sets))
    (at_behind (sets_bytes h.sets) (streams_on h) s.text (4 + (4 + text_offset)) (sets_size h.sets) (length_sets h.sets)
    (at_behind (to_le_bytes w32 h.next_stream) counted s.text (4 + text_offset) 4 (wide32.len h.next_stream)
    (at_behind (to_le_bytes w32 (length h.streams)) (streams ++ codes "TDHE") s.text text_offset 4 (wide32.len (length h.streams))
    (at_before streams (codes "TDHE") s.text text_offset (first_there h.version h.next_stream h.streams ss s e)))))) in
    let all = place + (4 + (sets_size h.sets + (4 + (4 + text_offset)))) in
    let here = subst (λ (l : List ℕ). IsAt l s.text all) (sym (is.bytes_are ∙ framed_parts size h)) there in
    taken bytes s.text (stream_place h) (length s.text) refl (moved bytes s.text all (stream_place h) (omega arith) here)

-- the place, where the bytes up to it are known
pub stream_place_is : (h : Head) (before : List ℕ) → before ≡ front_bytes h ++ (to_le_bytes w32 (length h.sets) ++ sets_bytes h.sets) → length before + 24 ≡ stream_place h
stream_place_is h before is =
    omega (arith, ap length is, length-append (front_bytes h) (to_le_bytes w32 (length h.sets) ++ sets_bytes h.sets), length-append (to_le_bytes w32 (length h.sets)) (sets_bytes h.sets), wide32.len (length h.sets), length_sets h.sets)

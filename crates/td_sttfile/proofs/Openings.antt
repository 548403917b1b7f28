-- The opening of a file that was written.
use Rattle.std.proofs.Common.{◌≡◌, ℕ, ◌+◌, ◌-◌, ◌*◌, ◌^◌, ◌<◌, Bool, true, ltb, leb, eqb, List, [], ◌∷◌, ◌++◌, length, take, Option, Some, None, Ok, refl, sym, ap, ◌∙◌, append_assoc, zero-add, arith}
use Rattle.std.specs.Prelude.{◌&&◌}
use Rattle.std.specs.List.{flat_map}
use Rattle.std.specs.Int.{w32, w64, to_le_bytes}
use Rattle.std.proofs.lemmas.Bool.{and_from, lt-ltb}
use Rattle.std.proofs.lemmas.List.{append-nil, length-append, length_push, get_or_push, take_at}
use Rattle.std.proofs.lemmas.Option.{slice_get-get_or}
use Rattle.td_codec.specs.Fields.{SpellsOnce, number, checked, followed, pair}
use Rattle.td_codec.specs.Lists.{counted, all_fit, ItemsSpellOnce}
use Rattle.td_codec.proofs.FieldLaws.{wide32, wide64, number_spells, checked_spells, followed_spells, pair_spells, made_spells}
use Rattle.td_codec.proofs.ListLaws.{counted_spells}
use Rattle.td_codec.proofs.ValueLaws.{some_is}
use Rattle.td_fileio.specs.Days.{is_in_day}
use Rattle.td_fileio.specs.Lists.{FileBlock}
use Rattle.td_fileio.specs.Places.{placed, field_at}
use Rattle.td_fileio.proofs.PlaceLaws.{ok_then}
use Rattle.td_sttfile.specs.declared.format.FileCut.{FileCut}
use Rattle.td_sttfile.specs.declared.format.TheConstants.{FILE_MAGIC, FILE_END}
use Rattle.td_sttfile.specs.Cuts.{follows, begins_apart, cut_parts, cut_of, parts_of_cut, cut_behind}
use Rattle.td_sttfile.specs.Written.{cut_bytes, bytes_of_block, file_bytes, cuts_fit}
use Rattle.td_sttfile.specs.Opening.{last_cut, cut_items, magic, front, opening, opening_length, opening_at}

abbrev OpeningParts : Type 0
OpeningParts = ℕ × (ℕ × (List FileCut × ℕ))

-- ---- the opening has one spelling

cut_spells : (range : ℕ) (before : Option FileCut) → SpellsOnce (cut_behind range before)
unfolding cut_behind
cut_spells range before =
    let table = checked (number w32) (follows before) in
    made_spells (cut_parts range before) cut_of parts_of_cut (λ a _. refl) (λ a c e. ap cut_of (sym (some_is (c.table, (c.lo, c.hi)) a e)))
    (followed_spells table (λ t. followed (checked (number w64) (λ lo. is_in_day range lo && begins_apart before t lo)) (λ lo. checked (number w64) (λ hi. leb lo hi && is_in_day range hi)))
    (checked_spells (number w32) (follows before) (number_spells w32 wide32))
    (λ t. followed_spells (checked (number w64) (λ lo. is_in_day range lo && begins_apart before t lo)) (λ lo. checked (number w64) (λ hi. leb lo hi && is_in_day range hi))
    (checked_spells (number w64) (λ lo. is_in_day range lo && begins_apart before t lo) (number_spells w64 wide64))
    (λ lo. checked_spells (number w64) (λ hi. leb lo hi && is_in_day range hi) (number_spells w64 wide64))))

cuts_spell : (range : ℕ) → ItemsSpellOnce (cut_items range)
unfolding cut_behind
cuts_spell range before = cut_spells range (last_cut before)

magic_spells : SpellsOnce magic
magic_spells = checked_spells (number w32) (λ n. eqb n FILE_MAGIC) (number_spells w32 wide32)

front_spells : SpellsOnce front
unfolding front
front_spells = pair_spells magic (pair (number w32) (number w32)) magic_spells (pair_spells (number w32) (number w32) (number_spells w32 wide32) (number_spells w32 wide32))

opening_spells : SpellsOnce opening
unfolding opening
opening_spells =
    pair_spells magic (followed (number w32) (λ range. pair (counted (cut_items range)) (number w32))) magic_spells
    (followed_spells (number w32) (λ range. pair (counted (cut_items range)) (number w32)) (number_spells w32 wide32)
    (λ range. pair_spells (counted (cut_items range)) (number w32) (counted_spells (cut_items range) (cuts_spell range)) (number_spells w32 wide32)))

-- ---- its bytes

abbrev head_bytes : ℕ → ℕ → List ℕ
head_bytes range count = to_le_bytes w32 FILE_MAGIC ++ (to_le_bytes w32 range ++ to_le_bytes w32 count)

-- the bytes of an opening
abbrev pub opening_bytes : ℕ → List FileCut → ℕ → List ℕ
opening_bytes range cuts blocks = to_le_bytes w32 FILE_MAGIC ++ (to_le_bytes w32 range ++ ((to_le_bytes w32 (length cuts) ++ flat_map cut_bytes cuts) ++ to_le_bytes w32 blocks))

-- what stands behind it
abbrev pub blocks_bytes : List FileBlock → List ℕ
blocks_bytes blocks = flat_map bytes_of_block blocks ++ to_le_bytes w32 FILE_END

front_spelled : (range count : ℕ) → front.spelled (FILE_MAGIC, (range, count)) ≡ head_bytes range count
unfolding front
front_spelled range count = refl

opening_spelled : (range blocks : ℕ) (cuts : List FileCut) → opening.spelled (FILE_MAGIC, (range, (cuts, blocks))) ≡ opening_bytes range cuts blocks
unfolding opening
opening_spelled range blocks cuts = refl

regroup : (a b c d e f : List ℕ) → a ++ (b ++ (c ++ (d ++ (e ++ f)))) ≡ (a ++ (b ++ ((c ++ d) ++ e))) ++ f
regroup a b c d e f = sym (simp append_assoc)

regroup_front : (a b c d e f : List ℕ) → a ++ (b ++ (c ++ (d ++ (e ++ f)))) ≡ (a ++ (b ++ c)) ++ (d ++ (e ++ f))
regroup_front a b c d e f = sym (simp append_assoc)

pub file_parts : (range : ℕ) (cuts : List FileCut) (blocks : List FileBlock) → file_bytes range cuts blocks ≡ opening_bytes range cuts (length blocks) ++ blocks_bytes blocks
unfolding file_bytes
file_parts range cuts blocks = regroup (to_le_bytes w32 FILE_MAGIC) (to_le_bytes w32 range) (to_le_bytes w32 (length cuts)) (flat_map cut_bytes cuts) (to_le_bytes w32 (length blocks)) (blocks_bytes blocks)

front_parts : (range : ℕ) (cuts : List FileCut) (blocks : List FileBlock) → file_bytes range cuts blocks ≡ head_bytes range (length cuts) ++ (flat_map cut_bytes cuts ++ (to_le_bytes w32 (length blocks) ++ blocks_bytes blocks))
unfolding file_bytes
front_parts range cuts blocks = regroup_front (to_le_bytes w32 FILE_MAGIC) (to_le_bytes w32 range) (to_le_bytes w32 (length cuts)) (flat_map cut_bytes cuts) (to_le_bytes w32 (length blocks)) (blocks_bytes blocks)

cuts_length : (cuts : List FileCut) → length (flat_map cut_bytes cuts) ≡ 20 * length cuts
cuts_length [] = refl
cuts_length (c ∷ cs) =
    let a : length (cut_bytes c) ≡ 20 = refl in
    let others = cuts_length cs in
    let e = length-append (cut_bytes c) (flat_map cut_bytes cs) in
    e ∙ omega arith

pub opening_size : (range blocks : ℕ) (cuts : List FileCut) → length (opening_bytes range cuts blocks) ≡ opening_length (length cuts)
opening_size range blocks cuts =
    let m = to_le_bytes w32 FILE_MAGIC in
    let r = to_le_bytes w32 range in
    let n = to_le_bytes w32 (length cuts) in
    let c = flat_map cut_bytes cuts in
    let b = to_le_bytes w32 blocks in
    let lm : length m ≡ 4 = refl in
    let lr : length r ≡ 4 = refl in
    let ln : length n ≡ 4 = refl in
    let lb : length b ≡ 4 = refl in
    omega (arith, lm, lr, ln, lb, cuts_length cuts, length-append m (r ++ ((n ++ c) ++ b)), length-append r ((n ++ c) ++ b), length-append (n ++ c) b, length-append n c)

-- ---- what is read

last_of_more : (before : List FileCut) (c : FileCut) → last_cut (before ++ c ∷ []) ≡ Some c
last_of_more before c =
    let xs : List FileCut = before ++ c ∷ [] in
    let i : ℕ = length xs - 1 in
    let one : length xs ≡ length before + 1 = length_push before c in
    let at : length before ≡ i = omega (arith, one) in
    let within : i < length xs = omega (arith, one) in
    slice_get-get_or xs i c within ∙ ap (λ (x : FileCut). Some x) (get_or_push before c c i at)

cuts_all_fit : (range : ℕ) (cuts before : List FileCut) → cuts_fit range (last_cut before) cuts ≡ all_fit (cut_items range) before cuts
cuts_all_fit range [] before = refl
cuts_all_fit range (c ∷ cs) before =
    let b = (cut_behind range (last_cut before)).fits c in
    ap (λ (o : Option FileCut). b && cuts_fit range o cs) (sym (last_of_more before c)) ∙ ap (λ (r : Bool). b && r) (cuts_all_fit range cs (before ++ c ∷ []))

front_fits : (range count : ℕ) → range < 2 ^ 32 → count < 2 ^ 32 → front.fits (FILE_MAGIC, (range, count)) ≡ true
unfolding front
front_fits range count r n = and_from _ _ refl (and_from (ltb range (2 ^ 32)) (ltb count (2 ^ 32)) (lt-ltb range (2 ^ 32) r) (lt-ltb count (2 ^ 32) n))

opening_fits : (range blocks : ℕ) (cuts : List FileCut) → range < 2 ^ 32 → length cuts < 2 ^ 32 → blocks < 2 ^ 32 → cuts_fit range None cuts ≡ true → opening.fits (FILE_MAGIC, (range, (cuts, blocks))) ≡ true
unfolding opening
opening_fits range blocks cuts r n b f =
    let list = ltb (length cuts) (2 ^ 32) && all_fit (cut_items range) [] cuts in
    let list_fits : list ≡ true = and_from (ltb (length cuts) (2 ^ 32)) (all_fit (cut_items range) [] cuts) (lt-ltb (length cuts) (2 ^ 32) n) (sym (cuts_all_fit range cuts []) ∙ f) in
    and_from _ _ refl (and_from (ltb range (2 ^ 32)) (list && ltb blocks (2 ^ 32)) (lt-ltb range (2 ^ 32) r) (and_from list (ltb blocks (2 ^ 32)) list_fits (lt-ltb blocks (2 ^ 32) b)))

pub opening_read : (range : ℕ) (cuts : List FileCut) (blocks : List FileBlock) → range < 2 ^ 32 → length cuts < 2 ^ 32 → length blocks < 2 ^ 32 → cuts_fit range None cuts ≡ true
    → opening_at (file_bytes range cuts blocks) ≡ Ok ((FILE_MAGIC, (range, (cuts, length blocks))), opening_length (length cuts))
unfolding opening_at
opening_read range cuts blocks r n b f =
    let all = file_bytes range cuts blocks in
    let count = length cuts in
    let h = head_bytes range count in
    let o = opening_bytes range cuts (length blocks) in
    let taken : take 12 all ≡ h = ap (take 12) (front_parts range cuts blocks) ∙ take_at h (flat_map cut_bytes cuts ++ (to_le_bytes w32 (length blocks) ++ blocks_bytes blocks)) 12 refl in
    let read : front.read h ≡ Ok ((FILE_MAGIC, (range, count)), []) = ap front.read (sym (append-nil h) ∙ ap (λ (l : List ℕ). l ++ []) (sym (front_spelled range count))) ∙ front_spells.again (FILE_MAGIC, (range, count)) [] (front_fits range count r n) in
    let first : field_at front 12 0 all ≡ Ok ((FILE_MAGIC, (range, count)), 12) = ap (λ (l : List ℕ). placed 0 12 (length l) (front.read l)) taken ∙ ap (placed 0 12 (length h)) read in
    let whole : take (opening_length count) all ≡ o = ap (take (opening_length count)) (file_parts range cuts blocks) ∙ take_at o (blocks_bytes blocks) (opening_length count) (opening_size range (length blocks) cuts) in
    let again : opening.read o ≡ Ok ((FILE_MAGIC, (range, (cuts, length blocks))), []) = ap opening.read (sym (append-nil o) ∙ ap (λ (l : List ℕ). l ++ []) (sym (opening_spelled range (length blocks) cuts))) ∙ opening_spells.again (FILE_MAGIC, (range, (cuts, length blocks))) [] (opening_fits range (length blocks) cuts r n b f) in
    let second : field_at opening (opening_length count) 0 all ≡ Ok ((FILE_MAGIC, (range, (cuts, length blocks))), opening_length count) = ap (λ (l : List ℕ). placed 0 (opening_length count) (length l) (opening.read l)) whole ∙ ap (placed 0 (opening_length count) (length o)) again ∙ ap (λ (n : ℕ). Ok ((FILE_MAGIC, (range, (cuts, length blocks))), n)) (zero-add (opening_length count)) in
    ok_then (field_at front 12 0 all) (λ x. field_at opening (opening_length x.0.1.1) 0 all) ((FILE_MAGIC, (range, count)), 12) first ∙ second

-- Kinds, columns and tags have one spelling.
use Rattle.std.proofs.Common.{◌≡◌, ℕ, ◌≤◌, ◌+◌, ◌^◌, Bool, true, false, eqb, leb, ltb, List, length, Option, Some, None, refl, sym, ap, ◌∙◌, inl, inr, arith}
use Rattle.std.specs.Prelude.{◌&&◌, ◌||◌, not}
use Rattle.std.specs.Int.{w8, w16}
use Rattle.std.proofs.lemmas.Bool.{and_parts, cond_both, eqb-true, eqb-false, leb-true, cases_order, false≢true}
use Rattle.td_limits.specs.declared.limits.TheConstants.{COLUMNS, TAGS, TAG_BYTES}
use Rattle.td_cols.specs.declared.kinds.Kind.{Kind}
use Rattle.td_cols.specs.declared.kinds.Kind.TheVariants.{Bool as Truth, I8, I16, I32, I64, U8, U16, U32, U64, Time, Wide, Text}
use Rattle.td_cols.specs.Kinds.{kind_code}
use Rattle.td_model.specs.declared.catalog.Column.{Column}
use Rattle.td_codec.specs.Fields.{SpellsOnce, number, checked, pair, followed, nothing, part_fits}
use Rattle.td_codec.specs.Lists.{item_behind}
use Rattle.td_codec.specs.Values.{text}
use Rattle.td_codec.proofs.FieldLaws.{wide8, wide16, number_spells, checked_spells, pair_spells, followed_spells, made_spells}
use Rattle.td_codec.proofs.ValueLaws.{some_is, text_spells}
use Rattle.td_manifest.specs.declared.columns.Place.{Place}
use Rattle.td_manifest.specs.declared.columns.Place.TheVariants as places
use Rattle.td_manifest.specs.Listed.{absent}
use Rattle.td_manifest.specs.Names.{is_short_name, new_name}
use Rattle.td_manifest.specs.Columns.{kind_by, text_size, with_size, size_field, allows, is_code, kind_parts, kind_field, column_field, has_column, place_behind, column_items, tag_items, columns_field, tags_field}
use Rattle.td_manifest.proofs.ListedLaws.{listed_spells, absent_spells}

pub new_name_spells : (is_taken : List ℕ → Bool) → SpellsOnce (new_name is_taken)
unfolding new_name
new_name_spells is_taken = checked_spells (text is_short_name) (λ name. not (is_taken name)) (text_spells is_short_name)

-- ---- kinds

size_spells : (kind : Kind) → SpellsOnce (size_field kind)
size_spells Truth = absent_spells
size_spells I8 = absent_spells
size_spells I16 = absent_spells
size_spells I32 = absent_spells
size_spells I64 = absent_spells
size_spells U8 = absent_spells
size_spells U16 = absent_spells
size_spells U32 = absent_spells
size_spells U64 = absent_spells
size_spells Time = absent_spells
size_spells Wide = absent_spells
size_spells (Text n) = checked_spells (number w16) (λ n. leb 1 n && leb n TAG_BYTES) (number_spells w16 wide16)

-- the kind of a kind's code and size is that kind
kind_again : (kind : Kind) → with_size (kind_by (kind_code kind)) (text_size kind) ≡ kind
unfolding kind_by kind_code
kind_again Truth = refl
kind_again I8 = refl
kind_again I16 = refl
kind_again I32 = refl
kind_again I64 = refl
kind_again U8 = refl
kind_again U16 = refl
kind_again U32 = refl
kind_again U64 = refl
kind_again Time = refl
kind_again Wide = refl
kind_again (Text n) = refl

-- no bytes stand for 0 alone
zero_only : (n : ℕ) → absent.fits n ≡ true → n ≡ 0
zero_only n =
    cond_both (eqb n 0) (Some tt) None (λ (o : Option (Unit {0})). part_fits nothing o ≡ true → n ≡ 0) (λ e _. eqb-true n 0 e) (λ _ fits. absurd (false≢true fits))

-- the code and the size of a kind that was read are those that were read
abbrev Coded : ℕ → Kind → Type 0
Coded code kind = (n : ℕ) → (size_field kind).fits n ≡ true → (kind_code (with_size kind n) ≡ code) × (text_size (with_size kind n) ≡ n)

above : (c k : ℕ) → k ≤ c → eqb c k ≡ false → k + 1 ≤ c
above c k le ne =
    elim (cases_order c k) [
      | inl e ↦ absurd (eqb-false c k ne e)
      | inr (inl lt) ↦ absurd (omega (arith, le, lt))
      | inr (inr gt) ↦ omega (arith, gt)
    ]

kind_coded : (c : ℕ) → 1 ≤ c → c ≤ 12 → Coded c (kind_by c)
unfolding kind_by kind_code
kind_coded c low high =
    cond_both (eqb c 1) _ _ (Coded c) (λ e n fits. (sym (eqb-true c 1 e), sym (zero_only n fits))) (λ n1.
    let a1 = above c 1 low n1 in
    cond_both (eqb c 2) _ _ (Coded c) (λ e n fits. (sym (eqb-true c 2 e), sym (zero_only n fits))) (λ n2.
    let a2 = above c 2 a1 n2 in
    cond_both (eqb c 3) _ _ (Coded c) (λ e n fits. (sym (eqb-true c 3 e), sym (zero_only n fits))) (λ n3.
    let a3 = above c 3 a2 n3 in
    cond_both (eqb c 4) _ _ (Coded c) (λ e n fits. (sym (eqb-true c 4 e), sym (zero_only n fits))) (λ n4.
    let a4 = above c 4 a3 n4 in
    cond_both (eqb c 5) _ _ (Coded c) (λ e n fits. (sym (eqb-true c 5 e), sym (zero_only n fits))) (λ n5.
    let a5 = above c 5 a4 n5 in
    cond_both (eqb c 6) _ _ (Coded c) (λ e n fits. (sym (eqb-true c 6 e), sym (zero_only n fits))) (λ n6.
    let a6 = above c 6 a5 n6 in
    cond_both (eqb c 7) _ _ (Coded c) (λ e n fits. (sym (eqb-true c 7 e), sym (zero_only n fits))) (λ n7.
    let a7 = above c 7 a6 n7 in
    cond_both (eqb c 8) _ _ (Coded c) (λ e n fits. (sym (eqb-true c 8 e), sym (zero_only n fits))) (λ n8.
    let a8 = above c 8 a7 n8 in
    cond_both (eqb c 9) _ _ (Coded c) (λ e n fits. (sym (eqb-true c 9 e), sym (zero_only n fits))) (λ n9.
    let a9 = above c 9 a8 n9 in
    cond_both (eqb c 10) _ _ (Coded c) (λ e n fits. (sym (eqb-true c 10 e), sym (zero_only n fits))) (λ n10.
    let a10 = above c 10 a9 n10 in
    cond_both (eqb c 11) _ _ (Coded c) (λ e n fits. (sym (eqb-true c 11 e), sym (zero_only n fits))) (λ n11.
    let a11 = above c 11 a10 n11 in
    λ n fits. (omega (arith, a11, high), refl))))))))))))

kind_back : (place : Place) (a : ℕ × ℕ) → (followed (checked (number w8) (is_code place)) (λ code. size_field (kind_by code))).fits a ≡ true → kind_parts (with_size (kind_by a.0) a.1) ≡ Some a
kind_back place a fits =
    let f = and_parts ((checked (number w8) (is_code place)).fits a.0) ((size_field (kind_by a.0)).fits a.1) fits in
    let g = and_parts (ltb a.0 (2 ^ 8)) (is_code place a.0) f.0 in
    let h = and_parts (leb 1 a.0 && leb a.0 12) (allows place (kind_by a.0)) g.1 in
    let r = and_parts (leb 1 a.0) (leb a.0 12) h.0 in
    let k = kind_coded a.0 (leb-true 1 a.0 r.0) (leb-true a.0 12 r.1) a.1 f.1 in
    ap (λ (n : ℕ). Some (n, text_size (with_size (kind_by a.0) a.1))) k.0 ∙ ap (λ (n : ℕ). Some (a.0, n)) k.1

kind_only : (a : ℕ × ℕ) (kind : Kind) → kind_parts kind ≡ Some a → with_size (kind_by a.0) a.1 ≡ kind
kind_only a kind e = ap (λ (p : ℕ × ℕ). with_size (kind_by p.0) p.1) (sym (some_is (kind_code kind, text_size kind) a e)) ∙ kind_again kind

pub kind_spells : (place : Place) → SpellsOnce (kind_field place)
unfolding kind_field
kind_spells place =
    made_spells (followed (checked (number w8) (is_code place)) (λ code. size_field (kind_by code))) (λ p. with_size (kind_by p.0) p.1) kind_parts (kind_back place) kind_only
    (followed_spells (checked (number w8) (is_code place)) (λ code. size_field (kind_by code)) (checked_spells (number w8) (is_code place) (number_spells w8 wide8)) (λ code. size_spells (kind_by code)))

-- ---- columns

pub column_spells : (place : Place) (is_taken : List ℕ → Bool) → SpellsOnce (column_field place is_taken)
unfolding column_field
column_spells place is_taken =
    made_spells (pair (new_name is_taken) (kind_field place)) (λ p. record { name = p.0; kind = p.1 }) (λ (c : Column). Some (c.name, c.kind)) (λ a _. refl)
    (λ a c e. ap (λ (p : List ℕ × Kind). record { name = p.0; kind = p.1 }) (sym (some_is (c.name, c.kind) a e)))
    (pair_spells (new_name is_taken) (kind_field place) (new_name_spells is_taken) (kind_spells place))

column_behind_spells : (before : List Column) → SpellsOnce (item_behind column_items before)
unfolding column_items column_field new_name kind_field
column_behind_spells before = column_spells (place_behind (length before)) (λ name. has_column name before)

pub columns_spell : SpellsOnce columns_field
unfolding columns_field
columns_spell = listed_spells w16 (λ n. leb 1 n && leb n COLUMNS) column_items wide16 column_behind_spells

tag_behind_spells : (columns before : List Column) → SpellsOnce (item_behind (tag_items columns) before)
unfolding tag_items column_field new_name kind_field
tag_behind_spells columns before = column_spells places.Tag (λ name. has_column name columns || has_column name before)

pub tags_spell : (columns : List Column) → SpellsOnce (tags_field columns)
unfolding tags_field
tags_spell columns = listed_spells w16 (λ n. leb 1 n && leb n TAGS) (tag_items columns) wide16 (tag_behind_spells columns)

-- File sets with the files of a frozen memtable: their rows, that they are sound, and that they have no further table.
use Rattle.std.proofs.Common.{◌≡◌, ℕ, ◌^◌, ◌<◌, ◌≤◌, Bool, true, false, cond, ◌||◌, List, [], ◌∷◌, length, filter, Option, refl, ap, ◌∙◌}
use Rattle.std.specs.Prelude.{is_none, unwrap_or}
use Rattle.std.specs.List.{flat_map}
use Rattle.std.proofs.lemmas.Bool.{true≢false}
use Rattle.td_cols.specs.declared.kinds.Kind.{Kind}
use Rattle.td_layer.specs.declared.values.Key.{Key}
use Rattle.td_layer.specs.declared.values.Row.{Row}
use Rattle.td_layer.specs.declared.parts.Part.{Part}
use Rattle.td_layer.specs.Parts.{act}
use Rattle.td_memtable.specs.Contents.{part_at}
use Rattle.td_fileio.specs.Days.{is_in_day}
use Rattle.td_commit.specs.declared.frozen.Frozen.{Frozen}
use Rattle.td_commit.specs.Sound.{Rise}
use Rattle.td_commit.specs.Given.{is_in_any}
use Rattle.td_fileset.specs.Stack.{Layer, part_of}
use Rattle.td_fileset.specs.Sources.{InSttFile}
use Rattle.td_fileset.specs.Layered.{whole, bytes_layer, set_layers, is_sound, are_sound}
use Rattle.td_fileset.proofs.Filters.{all_append}
use Rattle.td_levels.specs.Levels.{SetFiles, Files, open_set, open_sets}
use Rattle.td_levels.specs.Ranges.{with_file, with_files}
use Rattle.td_levels.proofs.Days.{sets_row}
use Rattle.td_levels.proofs.Installed.{new_layer, with_row_of, with_sound, with_none, AreEmpty, split, none_later, rise_of_rest}
use Rattle.td_levels.proofs.Written.{IsNamed, GivesParts, AllGive}

module _ (files : Files) (f : Frozen) (t : ℕ × List Kind) (named : IsNamed f t) where
  file_sound : (range n : ℕ) → GivesParts f range (files n) → is_sound (whole t.0 t.1) InSttFile (files n) ≡ true
  file_sound range n g = ap (is_sound (whole t.0 t.1) InSttFile) g.is ∙ ap is_none (g.sound t named)

  pub files_sound : (ranges numbers : List ℕ) (sets : List SetFiles) → AllGive files f ranges numbers → are_sound t (open_sets files sets) ≡ true → are_sound t (open_sets files (with_files ranges numbers sets)) ≡ true
  files_sound [] [] sets g h = h
  files_sound [] (n ∷ numbers) sets g h = absurd g
  files_sound (range ∷ ranges) [] sets g h = absurd g
  files_sound (range ∷ ranges) (n ∷ numbers) sets g h = files_sound ranges numbers (with_file range n sets) g.1 (with_sound files t range n sets (file_sound range n g.0) h)

  -- ---- rows

  module _ (q : Key) (of : q.table ≡ t.0) (one : 1 ≤ q.table) (small : q.table < 2 ^ 32) where
    file_part : (range n : ℕ) → GivesParts f range (files n) → is_in_day range q.ts ≡ true → part_of q (new_layer files t range n) ≡ part_at q f.memtable
    file_part range n g day = ap (λ (o : Option (List ℕ)). part_of q (bytes_layer (whole t.0 t.1) InSttFile (unwrap_or o []))) g.is ∙ g.part t q named of one small day

    file_row : (range n : ℕ) (sets : List SetFiles) → GivesParts f range (files n)
        → sets_row t q (open_sets files (with_file range n sets)) ≡ cond (is_in_day range q.ts) (act (part_at q f.memtable) (sets_row t q (open_sets files sets))) (sets_row t q (open_sets files sets))
    file_row range n sets g = with_row_of files t range n q sets ∙ by (is_in_day range q.ts) refl
      where
        by : (b : Bool) → is_in_day range q.ts ≡ b → cond b (act (part_of q (new_layer files t range n)) (sets_row t q (open_sets files sets))) (sets_row t q (open_sets files sets)) ≡ cond b (act (part_at q f.memtable) (sets_row t q (open_sets files sets))) (sets_row t q (open_sets files sets))
        by true day = ap (λ (p : Part). act p (sets_row t q (open_sets files sets))) (file_part range n g day)
        by false day = refl

    pub files_row : (ranges numbers : List ℕ) (sets : List SetFiles) → Rise ranges → AllGive files f ranges numbers
        → sets_row t q (open_sets files (with_files ranges numbers sets)) ≡ cond (is_in_any ranges q.ts) (act (part_at q f.memtable) (sets_row t q (open_sets files sets))) (sets_row t q (open_sets files sets))
    files_row [] [] sets rise g = refl
    files_row [] (n ∷ numbers) sets rise g = absurd g
    files_row (range ∷ ranges) [] sets rise g = absurd g
    files_row (range ∷ ranges) (n ∷ numbers) sets rise g =
        files_row ranges numbers (with_file range n sets) (rise_of_rest range ranges rise) g.1
        ∙ ap (λ (row : Option Row). cond (is_in_any ranges q.ts) (act (part_at q f.memtable) row) row) (file_row range n sets g.0)
        ∙ by (is_in_day range q.ts) (is_in_any ranges q.ts) (none_later range q.ts ranges rise) (sets_row t q (open_sets files sets))
      where
        by : (a b : Bool) → (a ≡ true → b ≡ false) → (row : Option Row)
            → cond b (act (part_at q f.memtable) (cond a (act (part_at q f.memtable) row) row)) (cond a (act (part_at q f.memtable) row) row) ≡ cond (a || b) (act (part_at q f.memtable) row) row
        by true true h row = absurd (true≢false (h refl))
        by true false h row = refl
        by false b h row = refl

-- ---- further tables

module _ (files : Files) (f : Frozen) (t : ℕ × List Kind) (past : length f.kinds < t.0) where
  file_none : (range n : ℕ) → GivesParts f range (files n) → (new_layer files t range n).partials ≡ []
  file_none range n g = ap (λ (o : Option (List ℕ)). (bytes_layer (whole t.0 t.1) InSttFile (unwrap_or o [])).partials) g.is ∙ g.none t past

  pub files_none : (ranges numbers : List ℕ) (sets : List SetFiles) → AllGive files f ranges numbers → AreEmpty (flat_map (set_layers t) (open_sets files sets)) → AreEmpty (flat_map (set_layers t) (open_sets files (with_files ranges numbers sets)))
  files_none [] [] sets g h = h
  files_none [] (n ∷ numbers) sets g h = absurd g
  files_none (range ∷ ranges) [] sets g h = absurd g
  files_none (range ∷ ranges) (n ∷ numbers) sets g h = files_none ranges numbers (with_file range n sets) g.1 (with_none files t range n sets (file_none range n g.0) h)

  pub some_none : (keep : SetFiles → Bool) (sets : List SetFiles) → AreEmpty (flat_map (set_layers t) (open_sets files sets)) → AreEmpty (flat_map (set_layers t) (open_sets files (filter keep sets)))
  some_none keep [] h = tt
  some_none keep (s ∷ ss) h =
      let parts = split (set_layers t (open_set files s)) (flat_map (set_layers t) (open_sets files ss)) h in
      by (keep s) parts.0 (some_none keep ss parts.1)
    where
      by : (b : Bool) → AreEmpty (set_layers t (open_set files s)) → AreEmpty (flat_map (set_layers t) (open_sets files (filter keep ss))) → AreEmpty (flat_map (set_layers t) (open_sets files (cond b (s ∷ filter keep ss) (filter keep ss))))
      by true own rest = all_append (λ (l : Layer). l.partials ≡ []) (set_layers t (open_set files s)) (flat_map (set_layers t) (open_sets files (filter keep ss))) own rest
      by false own rest = rest

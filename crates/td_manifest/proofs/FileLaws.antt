-- File sets have one spelling.
use Rattle.std.proofs.Common.{ℕ, leb, List, ◌++◌, Option, Some, refl, sym, ap}
use Rattle.std.specs.Prelude.{◌&&◌, not}
use Rattle.std.specs.Int.{w32, w64}
use Rattle.td_limits.specs.declared.limits.TheConstants.{LAST_DAY_RANGE}
use Rattle.td_codec.specs.Fields.{SpellsOnce, number, checked, pair}
use Rattle.td_codec.specs.Lists.{item_behind, counted}
use Rattle.td_codec.proofs.FieldLaws.{wide32, wide64, number_spells, checked_spells, pair_spells, followed_spells, made_spells}
use Rattle.td_codec.proofs.ListLaws.{counted_spells}
use Rattle.td_codec.proofs.ValueLaws.{some_is}
use Rattle.td_manifest.specs.declared.head.HeadSet.{HeadSet}
use Rattle.td_manifest.specs.Listed.{perhaps}
use Rattle.td_manifest.specs.Files.{is_used, stt_items, main_file, all_files, rises, set_files, set_behind, set_items}
use Rattle.td_manifest.proofs.ListedLaws.{perhaps_spells}

stt_items_spell : (used before : List ℕ) → SpellsOnce (item_behind (stt_items used) before)
unfolding stt_items
stt_items_spell used before = checked_spells (number w64) (λ file. not (is_used file (used ++ before))) (number_spells w64 wide64)

set_files_spell : (used : List ℕ) → SpellsOnce (set_files used)
unfolding set_files
set_files_spell used =
    followed_spells (perhaps (λ file. not (is_used file used))) (λ main. counted (stt_items (used ++ main_file main)))
    (perhaps_spells (λ file. not (is_used file used))) (λ main. counted_spells (stt_items (used ++ main_file main)) (stt_items_spell (used ++ main_file main)))

abbrev set_of : ℕ × (Option ℕ × List ℕ) → HeadSet
set_of p = record { range = p.0; main = p.1.0; stt = p.1.1 }

set_spells : (before : List HeadSet) → SpellsOnce (set_behind before)
unfolding set_behind
set_spells before =
    let range = checked (number w32) (λ range. leb range LAST_DAY_RANGE && rises before range) in
    made_spells (pair range (set_files (all_files before))) set_of (λ (s : HeadSet). Some (s.range, (s.main, s.stt))) (λ a _. refl)
    (λ a s e. ap set_of (sym (some_is (s.range, (s.main, s.stt)) a e)))
    (pair_spells range (set_files (all_files before)) (checked_spells (number w32) (λ range. leb range LAST_DAY_RANGE && rises before range) (number_spells w32 wide32)) (set_files_spell (all_files before)))

pub set_items_spell : (before : List HeadSet) → SpellsOnce (item_behind set_items before)
unfolding set_items set_behind set_files perhaps stt_items
set_items_spell before = set_spells before

-- File sets: a day range, its data file and its stt files.
use Rattle.std.specs.Prelude.{ℕ, ◌-◌, ◌&&◌, ◌==◌, not, nat_lt, nat_le, Bool, true, List, [], ◌∷◌, ◌++◌, length, slice_get, Option, Some, None}
use Rattle.std.specs.Option.{option_map_or}
use Rattle.std.specs.List.{list_any, flat_map}
use Rattle.std.specs.Int.{w32, w64}
use Rattle.td_limits.specs.declared.limits.TheConstants.{LAST_DAY_RANGE}
use Rattle.td_codec.specs.Fields.{Field, number, checked, pair, followed, made}
use Rattle.td_codec.specs.Lists.{Items, counted}
use Rattle.td_manifest.specs.declared.head.HeadSet.{HeadSet}
use Rattle.td_manifest.specs.Listed.{perhaps}

-- whether a file is one of these
abbrev pub is_used : ℕ → List ℕ → Bool
is_used file files = list_any (λ other. file == other) files

-- stt files, which differ from these and from each other
abbrev pub stt_behind : List ℕ → Field ℕ
stt_behind used = checked (number w64) (λ file. not (is_used file used))

unfoldable pub stt_items : List ℕ → Items ℕ
stt_items used =
    record {
      read = λ before. (stt_behind (used ++ before)).read;
      spelled = (number w64).spelled;
      fits = λ before. (stt_behind (used ++ before)).fits;
    }

-- a data file that may be missing, as a list
abbrev pub main_file : Option ℕ → List ℕ
main_file None = []
main_file (Some file) = file ∷ []

-- the files of a set, and of sets
abbrev pub files_of : HeadSet → List ℕ
files_of s = main_file s.main ++ s.stt

abbrev pub all_files : List HeadSet → List ℕ
all_files sets = flat_map files_of sets

-- whether a day range comes after that of the last of some sets, where there are any
abbrev pub rises : List HeadSet → ℕ → Bool
rises before range =
    option_map_or (λ (last : HeadSet). nat_lt last.range range) (slice_get before (length before - 1)) true

-- a data file or none, then a count and stt files, of which none is one of these
unfoldable pub set_files : List ℕ → Field (Option ℕ × List ℕ)
set_files used =
    followed (perhaps (λ file. not (is_used file used))) (λ main. counted (stt_items (used ++ main_file main)))

-- a file set of a day range that rises, whose files none of these sets has
unfoldable pub set_behind : List HeadSet → Field HeadSet
set_behind before =
    made (pair (checked (number w32) (λ range. nat_le range LAST_DAY_RANGE && rises before range))
    (set_files (all_files before)))
    (λ p. record { range = p.0; main = p.1.0; stt = p.1.1 }) (λ s. Some (s.range, (s.main, s.stt)))

unfoldable pub set_items : Items HeadSet
set_items =
    record {
      read = λ before. (set_behind before).read;
      spelled = (set_behind []).spelled;
      fits = λ before. (set_behind before).fits;
    }

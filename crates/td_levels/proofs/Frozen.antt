-- An empty memtable on top leaves the rows as they are.
use Rattle.std.proofs.Common.{◌≡◌, ℕ, List, [], ◌∷◌, ◌++◌, Option, Some, None, refl, sym, ap, ◌∙◌}
use Rattle.std.specs.Prelude.{if◌then◌else◌}
use Rattle.std.specs.List.{flat_map, list_all}
use Rattle.td_cols.specs.declared.kinds.Kind.{Kind}
use Rattle.td_model.specs.Catalog.{Catalog}
use Rattle.td_model.specs.State.{Rows}
use Rattle.td_memtable.specs.Contents.{Contents, nothing_held}
use Rattle.td_fileset.specs.Layered.{OpenSet, Stored, listed, is_from, table_layers, table_rows, are_sound, rows_told}
use Rattle.td_fileset.proofs.Ranged.{make_alike}
use Rattle.td_levels.specs.Levels.{Levels, Files, open_sets, kinds_of, rows_over}
use Rattle.td_levels.specs.Laws.{frozen_of}

pub flat_same : {X A : Type 0} (f g : X → List A) (xs : List X) → ((x : X) → f x ≡ g x) → flat_map f xs ≡ flat_map g xs
flat_same f g [] h = refl
flat_same f g (x ∷ xs) h = λ i. h x i ++ flat_same f g xs h i

module _ (ms : List Contents) (sets : List OpenSet) (kinds : List (ℕ × List Kind)) (edge : ℕ) where
  abbrev over : List Contents → Stored
  over memtables = record { memtables = memtables; sets = sets; kinds = kinds; edge = edge }

  same_table : (t : ℕ × List Kind) → table_rows (over (nothing_held ∷ ms)) t ≡ table_rows (over ms) t
  same_table t = make_alike (is_from edge t.0) (table_layers (nothing_held ∷ ms) sets t) (table_layers ms sets t) (λ key is. refl)

  same_told : rows_told (over (nothing_held ∷ ms)) ≡ rows_told (over ms)
  unfolding rows_told
  same_told = ap (λ (rows : Rows). if list_all (λ (t : ℕ × List Kind). are_sound t sets) kinds then Some rows else None) (flat_same (table_rows (over (nothing_held ∷ ms))) (table_rows (over ms)) kinds same_table)

pub freezes_keep : (files : Files) (c : Catalog) (edge : ℕ) (l : Levels) → l.frozen ≡ None → rows_over files c edge (frozen_of l) ≡ rows_over files c edge l
freezes_keep files c edge l none =
    same_told (l.active ∷ []) (open_sets files l.sets) (kinds_of c) edge
    ∙ ap (λ (o : Option Contents). rows_told (record { memtables = l.active ∷ listed o; sets = open_sets files l.sets; kinds = kinds_of c; edge = edge })) (sym none)

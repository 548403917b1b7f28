-- A piece more of the rows of a span.
use Rattle.std.proofs.Common.{◌≡◌, ℕ, ◌+◌, ◌≤◌, true, List, ◌++◌, Option, Some, sym, ap, ◌∙◌, subst, arith, append_assoc}
use Rattle.std.specs.Prelude.{IfSome}
use Rattle.td_cols.specs.declared.kinds.Kind.{Kind}
use Rattle.td_layer.specs.declared.values.Row.{Row}
use Rattle.td_layer.specs.Scans.{rows_in}
use Rattle.td_memtable.specs.Contents.{Contents}
use Rattle.td_fileset.specs.Stack.{Layer, rows_of}
use Rattle.td_fileset.specs.Merged.{held}
use Rattle.td_fileset.specs.Layered.{OpenSet, last_ts, table_layers, are_sound, partials_in}
use Rattle.td_fileset.specs.Opened.{timed}
use Rattle.td_fileset.specs.Pieces.{piece_layers, IsPiece}
use Rattle.td_fileset.proofs.Pieced.{merged_layers, told, piece_timed, piece_held}
use Rattle.td_fileset.proofs.Joined.{layers_joined, partials_joined}

module _ (ms : List Contents) (sets : List OpenSet) (table : ℕ) (kinds : List Kind) (from hi to : ℕ) (set : Option ℕ) (piece : IsPiece sets from hi to set) (g : hi ≤ last_ts) (sound : are_sound (table, kinds) sets ≡ true) where
  abbrev layers : List Layer
  layers = table_layers ms sets (table, kinds)

  up_to : to ≤ last_ts
  up_to = omega (arith, piece.within, g)

  is_told : piece_layers ms sets set (record { table = table; kinds = kinds; lo = from; hi = to }) ≡ Some (merged_layers ms sets table kinds from to set up_to sound piece.alone piece.ends)
  is_told = told ms sets table kinds from to set up_to sound piece.alone piece.ends

  -- the rows that were found, and those that are left, stay all
  pub step_found : (found more all : List (ℕ × Row)) → IfSome (piece_layers ms sets set (record { table = table; kinds = kinds; lo = from; hi = to })) (λ ls. more ≡ found ++ timed (rows_of ls))
      → all ≡ found ++ rows_in table from hi (rows_of layers) → all ≡ more ++ rows_in table (to + 1) hi (rows_of layers)
  step_found found more all h e =
      let is : more ≡ found ++ timed (rows_of (merged_layers ms sets table kinds from to set up_to sound piece.alone piece.ends)) = subst (λ (o : Option (List Layer)). IfSome o (λ ls. more ≡ found ++ timed (rows_of ls))) is_told h in
      let part = piece_timed ms sets table kinds from to set up_to sound piece.alone piece.ends in
      e
      ∙ ap (λ rows. found ++ rows) (layers_joined table from to hi layers (omega (arith, piece.ahead)) piece.within)
      ∙ sym (append_assoc found (rows_in table from to (rows_of layers)) (rows_in table (to + 1) hi (rows_of layers)))
      ∙ sym (ap (λ rows. rows ++ rows_in table (to + 1) hi (rows_of layers)) (is ∙ ap (λ rows. found ++ rows) part))

  -- the steps that were taken, and the partials that are left, stay within all
  pub step_most : (before now most : ℕ) → IfSome (piece_layers ms sets set (record { table = table; kinds = kinds; lo = from; hi = to })) (λ ls. now ≤ before + held ls)
      → before + partials_in table from hi layers ≤ most → now + partials_in table (to + 1) hi layers ≤ most
  step_most before now most h e =
      let is : now ≤ before + held (merged_layers ms sets table kinds from to set up_to sound piece.alone piece.ends) = subst (λ (o : Option (List Layer)). IfSome o (λ ls. now ≤ before + held ls)) is_told h in
      let part = piece_held ms sets table kinds from to set up_to sound piece.alone piece.ends in
      let joined = partials_joined table from to hi layers (omega (arith, piece.ahead)) piece.within in
      omega (arith, is, part, joined, e)

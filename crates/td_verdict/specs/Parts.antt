-- Partitions: the lists of cells that the PARTITION BY items give, and their order.
use Rattle.std.specs.Prelude.{ℕ, ℤ, pos, Bool, true, false, if◌then◌else◌, List, [], map, slice_get, position}
use Rattle.std.specs.Option.{unwrap_or, option_and_then}
use Rattle.std.specs.Str.{bytes_eq}
use Rattle.std.specs.Ordering.{nat_cmp, int_cmp, ordering_then}
use Rattle.std.specs.Cmp.Lexicographic.{slice_cmp}
use Rattle.std.specs.declared.cmp.Ordering.{Ordering}
use Rattle.td_layer.specs.declared.values.Cell.{Cell}
use Rattle.td_layer.specs.declared.values.Cell.TheVariants as cell
use Rattle.td_model.specs.declared.catalog.Column.{Column}
use Rattle.td_model.specs.declared.catalog.Schema.{Schema}
use Rattle.td_model.specs.declared.language.ItemKind.{ItemKind}
use Rattle.td_model.specs.declared.language.ItemKind.TheVariants as item
use Rattle.td_model.specs.declared.language.PartBy.{PartBy}
use Rattle.td_model.specs.declared.language.PartBy.TheVariants as part
use Rattle.td_verdict.specs.Writes.{place_of}

-- Cells are ordered by their rank: NULL, then truth values and numbers, then texts, then fractions.
abbrev pub rank : Cell → ℕ
rank cell.Null = 0
rank (cell.Truth b) = 1
rank (cell.Num n) = 1
rank (cell.Str text) = 2
rank (cell.Frac sum count) = 3

-- Within a rank by their number: a truth value counts as 1 or 0, a fraction by its sum.
abbrev pub number : Cell → ℤ
number cell.Null = pos 0
number (cell.Truth b) = (if b then pos 1 else pos 0)
number (cell.Num n) = n
number (cell.Str text) = pos 0
number (cell.Frac sum count) = sum

-- Of one number a truth value comes before the number, and fractions go by their count.
abbrev pub place : Cell → ℕ
place cell.Null = 0
place (cell.Truth b) = 0
place (cell.Num n) = 1
place (cell.Str text) = 0
place (cell.Frac sum count) = count

-- Texts go by their bytes.
abbrev pub text : Cell → List ℕ
text cell.Null = []
text (cell.Truth b) = []
text (cell.Num n) = []
text (cell.Str bytes) = bytes
text (cell.Frac sum count) = []

abbrev pub cell_cmp : Cell → Cell → Ordering
cell_cmp a b =
    ordering_then (nat_cmp (rank a) (rank b))
    (ordering_then (int_cmp (number a) (number b))
    (ordering_then (nat_cmp (place a) (place b)) (slice_cmp nat_cmp (text a) (text b))))

-- partitions go cell by cell; one that begins another comes first
abbrev pub part_cmp : List Cell → List Cell → Ordering
part_cmp a b = slice_cmp cell_cmp a b

-- ---- items

-- whether an item is a PARTITION BY item
abbrev pub is_part : ItemKind → PartBy → Bool
is_part item.TbName part.TbName = true
is_part (item.Col name) (part.Tag tag) = bytes_eq tag name
is_part _ _ = false

-- the group's cell of an item
abbrev pub part_cell : List PartBy → List Cell → ItemKind → Cell
part_cell parts cells i = unwrap_or (option_and_then (slice_get cells) (position (is_part i) parts)) cell.Null

-- ---- the partition of a table

-- the tag of a name
abbrev pub tag_cell : List Column → List Cell → List ℕ → Cell
tag_cell tags cells name = unwrap_or (option_and_then (slice_get cells) (place_of tags name)) cell.Null

-- what a PARTITION BY item gives for a table of a name and tags
abbrev pub cell_of_part : Schema → List ℕ → List Cell → PartBy → Cell
cell_of_part s name cells part.TbName = cell.Str name
cell_of_part s name cells (part.Tag tag) = tag_cell s.tags cells tag

abbrev pub part_of : Schema → List PartBy → List ℕ → List Cell → List Cell
part_of s parts name cells = map (cell_of_part s name cells) parts

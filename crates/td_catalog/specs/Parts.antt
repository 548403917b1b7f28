-- The change that its parts stand for, and what is true of them.
use Rattle.std.specs.Prelude.{◌≡◌, Option, Some, None, ⊤}
use Rattle.td_model.specs.declared.history.What.{What}
use Rattle.td_model.specs.declared.history.What.TheVariants as what
use Rattle.td_catalog.specs.declared.change.Part.{Part}
use Rattle.td_catalog.specs.declared.change.Part.TheVariants as part

abbrev pub change_by : Part → Option What
change_by part.Nothing = None
change_by (part.Stable key def) = Some (what.MakeStable def.name def.schema)
change_by (part.Plain key name columns) = Some (what.MakeTable name columns)
change_by (part.Sub key name stable tags) = Some (what.MakeSub name stable tags)
change_by (part.Stream key target def) = Some (what.MakeStream def)
change_by (part.Dropped n) = Some (what.DropStream n)

-- what is added is kept under its name, and a stream under its target's too
abbrev pub HasKeys : Part → Type 0
HasKeys part.Nothing = ⊤
HasKeys (part.Stable key def) = key.items ≡ def.name
HasKeys (part.Plain key name columns) = key.items ≡ name
HasKeys (part.Sub key name stable tags) = key.items ≡ name
HasKeys (part.Stream key target def) = (key.items ≡ def.name) × (target.items ≡ def.target)
HasKeys (part.Dropped n) = ⊤

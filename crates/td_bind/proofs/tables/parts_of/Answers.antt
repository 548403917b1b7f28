use Rattle.std.proofs.Common.{◌≡◌, ℕ, ◌+◌, ◌<◌, List, [], ◌∷◌, ◌++◌, map, take, length, get_or, Option, Some, None, sym, ◌∙◌}
use Rattle.std.specs.Option.{option_map, option_map_or}
use Rattle.std.proofs.lemmas.List.{map_more}
use Rattle.std.proofs.lemmas.Option.{same_Some}
use Rattle.td_model.specs.declared.catalog.TableDef.{TableDef}
use Rattle.td_verdict.specs.Parts.{part_of}
use Rattle.td_bind.specs.Tables.{part_at}
use Rattle.td_bind.proofs.tables.parts_of.Goals as goal

had : {X : Type 0} (f : TableDef → X) (o : Option TableDef) (x d : X) → option_map f o ≡ Some x → x ≡ option_map_or f o d
had f None x d h = absurd (cc)
had f (Some t) x d h = sym (same_Some (f t) x h)

one_more : {X : Type 0} (f : ℕ → X) (tables : List ℕ) (i : ℕ) (all more : List X) (x : X) → i < length tables → all ≡ map f (take i tables) → x ≡ f (get_or tables i 0) → more ≡ all ++ x ∷ [] → more ≡ map f (take (i + 1) tables)
one_more f tables i all more x h before here made = made ∙ (λ j. before j ++ here j ∷ []) ∙ sym (map_more f tables i 0 h)

pub loop-table-preserved : goal.loop-table-preserved
loop-table-preserved c =
    let name = had (λ (t : TableDef). t.name) _ c.name_of-name.result.now [] c.name_of-name.ensures in
    let tags = had (λ (t : TableDef). t.tags) _ c.tags_of-tags.result.now [] c.tags_of-tags.ensures in
    one_more (part_at c.args.schema.now c.args.parts.now c.args.catalog.now.catalog) c.args.tables.now c.loop-table.table-index c.loop-table.all c.add.new.self c.in_ok-part.part
    c.loop-table-test.true c.loop-table.invariant (c.in_ok-part.ensures ∙ (λ j. part_of c.args.schema.now c.args.parts.now (name j) (tags j))) c.in_ok-add.ensures.ok

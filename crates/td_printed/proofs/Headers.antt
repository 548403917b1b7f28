-- The items of an answer's header can be printed.
use Rattle.std.proofs.Common.{◌≡◌, ℕ, ◌<◌, Bool, true, false, cond, ◌&&◌, List, [], ◌∷◌, ◌++◌, length, map, Option, Some, None, refl, ap, ◌∙◌, arith}
use Rattle.std.specs.Prelude.{IfSome}
use Rattle.std.specs.List.{AllByRecursion, list_all}
use Rattle.std.proofs.lemmas.Bool.{and_parts}
use Rattle.std.proofs.lemmas.Bool.Decides.{nat_tests}
use lib.Chars.{codes}
use Rattle.td_layer.specs.declared.values.Func.{Func}
use Rattle.td_layer.specs.declared.values.Func.TheVariants.{Count, Sum, Min, Max, Avg, First, Last, Spread}
use Rattle.td_model.specs.declared.catalog.Column.{Column}
use Rattle.td_model.specs.declared.catalog.Schema.{Schema}
use Rattle.td_model.specs.declared.language.Item.{Item}
use Rattle.td_model.specs.declared.language.ItemKind.{ItemKind}
use Rattle.td_model.specs.declared.language.ItemKind.TheVariants as item
use Rattle.td_model.specs.declared.language.Query.{Query}
use Rattle.td_model.specs.Catalog.{Catalog}
use Rattle.td_model.specs.Printable.{is_word_byte, is_item_byte, IsItem}
use Rattle.td_verdict.specs.Answers.{star_fields, func_text, item_text, item_title, header}
use Rattle.td_verdict.specs.Names.{names_of}
use Rattle.td_verdict.specs.Queries.{reads_table, source_schema}
use Rattle.td_printed.specs.Names.{IsName, AreNamed, IsNamedKind, IsNamedItem, QueryHasWords, AreWords}
use Rattle.td_printed.proofs.Lists.{either_value, all_mapped}
use Rattle.td_printed.proofs.Schemas.{SchemaHasWords, source_named_schema, fields_named}

-- ---- names as items

item_byte : (b : ℕ) → is_word_byte b ≡ true → is_item_byte b ≡ true
item_byte b h = grind (arith, nat_tests)

item_bytes : (name : List ℕ) → list_all is_word_byte name ≡ true → list_all is_item_byte name ≡ true
item_bytes [] h = refl
item_bytes (b ∷ bs) h =
    let p = and_parts (is_word_byte b) (list_all is_word_byte bs) h in
    ap (λ c. c && list_all is_item_byte bs) (item_byte b p.0) ∙ item_bytes bs p.1

name_item : (name : List ℕ) → IsName name → IsItem name
name_item name h = record { some = h.some; bytes = item_bytes name h.word }

-- ---- the names of aggregates

joined_bytes : (xs ys : List ℕ) → list_all is_item_byte xs ≡ true → list_all is_item_byte ys ≡ true
    → list_all is_item_byte (xs ++ ys) ≡ true
joined_bytes [] ys h k = k
joined_bytes (x ∷ xs) ys h k =
    let p = and_parts (is_item_byte x) (list_all is_item_byte xs) h in
    ap (λ c. c && list_all is_item_byte (xs ++ ys)) p.0 ∙ joined_bytes xs ys p.1 k

joined_some : (xs ys : List ℕ) → 0 < length xs → 0 < length (xs ++ ys)
joined_some [] ys h = absurd (omega (arith, h))
joined_some (x ∷ xs) ys h = omega arith

func_item : (f : Func) → IsItem (func_text f)
func_item Count = record { some = omega arith; bytes = refl }
func_item Sum = record { some = omega arith; bytes = refl }
func_item Min = record { some = omega arith; bytes = refl }
func_item Max = record { some = omega arith; bytes = refl }
func_item Avg = record { some = omega arith; bytes = refl }
func_item First = record { some = omega arith; bytes = refl }
func_item Last = record { some = omega arith; bytes = refl }
func_item Spread = record { some = omega arith; bytes = refl }

call_item : (f : Func) (name : List ℕ) → IsName name → IsItem (item_text (item.Fun f name))
call_item f name h =
    let is : IsItem (func_text f) = func_item f in
    record {
      some = joined_some (func_text f ++ codes "(" ++ name) (codes ")")
          (joined_some (func_text f ++ codes "(") name (joined_some (func_text f) (codes "(") is.some));
      bytes = joined_bytes (func_text f ++ codes "(" ++ name) (codes ")")
          (joined_bytes (func_text f ++ codes "(") name (joined_bytes (func_text f) (codes "(") is.bytes refl)
          (item_bytes name h.word)) refl;
    }

-- ---- the titles of a select list

text_item : (k : ItemKind) → IsNamedKind k → IsItem (item_text k)
text_item (item.Col name) h = name_item name h
text_item item.TbName h = record { some = omega arith; bytes = refl }
text_item item.WStart h = record { some = omega arith; bytes = refl }
text_item item.WEnd h = record { some = omega arith; bytes = refl }
text_item item.CountAll h = record { some = omega arith; bytes = refl }
text_item (item.Fun func name) h = call_item func name h

alias_item : (alias : Option (List ℕ)) → IfSome alias IsName → IfSome alias IsItem
alias_item None h = tt
alias_item (Some name) h = name_item name h

titles_print : (items : List Item) → AllByRecursion IsNamedItem items → AllByRecursion IsItem (map item_title items)
titles_print items h = all_mapped IsNamedItem IsItem item_title items
    (λ i n. either_value IsItem i.alias (item_text i.what) (alias_item i.alias n.alias) (text_item i.what n.what)) h

-- ---- the header

names_print : (columns : List Column) → AreNamed columns → AllByRecursion IsItem (names_of columns)
names_print columns h = all_mapped (λ (c : Column). IsName c.name) IsItem (λ (c : Column). c.name) columns
    (λ c n. name_item c.name n) h

star_named : (is_table : Bool) (s : Schema) → SchemaHasWords s → AreNamed (star_fields is_table s)
star_named true s h = h.columns
star_named false s h = fields_named s h

over_prints : (star : Bool) (columns : List Column) (items : List Item) → AreNamed columns
    → AllByRecursion IsItem (map item_title items)
    → AllByRecursion IsItem (cond star (names_of columns) (map item_title items))
over_prints true columns items h t = names_print columns h
over_prints false columns items h t = t

pub header_prints : (q : Query) (c : Catalog) → QueryHasWords q → AreWords c → AllByRecursion IsItem (header q c)
header_prints q c h words =
    let s : Schema = source_schema q.source c in
    over_prints q.star (star_fields (reads_table q c) s) q.items
    (star_named (reads_table q c) s (source_named_schema c q.source words)) (titles_print q.items h.items)

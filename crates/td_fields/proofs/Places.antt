-- The columns and then the tags of a schema as one list: the field of a name, and its place.
use Rattle.std.proofs.Common.{◌≡◌, ℕ, suc, ◌+◌, ◌-◌, ◌<◌, ◌≤◌, cond, not, List, [], ◌∷◌, ◌++◌, length, Option, Some, None, position, nat_lt, nat_eq, ap, sym, ◌∙◌, arith, length-append}
use Rattle.std.specs.List.{position_or_len}
use Rattle.std.specs.Option.{option_map, option_or}
use Rattle.std.proofs.lemmas.List.{append_assoc}
use Rattle.std.proofs.lemmas.List.Folds.{find-append, prefix_len-append}
use Rattle.std.proofs.lemmas.List.Sums.{prefix_len-le-length}
use Rattle.std.proofs.lemmas.Bool.Decides.{nat_tests}
use Rattle.td_model.specs.declared.catalog.Column.{Column}
use Rattle.td_model.specs.declared.catalog.Schema.{Schema}
use Rattle.td_verdict.specs.Names.{is_named, column_named}
use Rattle.td_verdict.specs.Fields.{fields, place_in}
use Rattle.td_verdict.specs.Answers.{places_from}

-- a column of the name, or else a tag of it
pub named_column : (s : Schema) (name : List ℕ) (c : Column) → Some c ≡ column_named s.columns name → Some c ≡ column_named (fields s) name
named_column s name c h = sym (find-append (is_named name) s.columns s.tags ∙ ap (λ o. option_or o (column_named s.tags name)) (sym h))

pub named_tag : (s : Schema) (name : List ℕ) → None ≡ column_named s.columns name → column_named s.tags name ≡ column_named (fields s) name
named_tag s name h = sym (find-append (is_named name) s.columns s.tags ∙ ap (λ o. option_or o (column_named s.tags name)) (sym h))

-- a place in a list of so many
abbrev place_within : ℕ → ℕ → Option ℕ
place_within place count = cond (nat_lt place count) (Some place) None

-- what is `a` of `l` in one list and `b` of `m` in the other, is this in the two together
abbrev place_in_both : ℕ → ℕ → ℕ → ℕ → Option ℕ
place_in_both a l b m = place_within (cond (nat_eq a l) (l + b) a) (l + m)

in_front : (a l b m i : ℕ) → Some i ≡ place_within a l → Some i ≡ place_in_both a l b m
in_front a l b m i h = grind (arith, nat_tests)

behind : (a l b m i : ℕ) → a ≤ l → None ≡ place_within a l → Some i ≡ place_within b m → Some (l + i) ≡ place_in_both a l b m
behind a l b m i le none h = grind (arith, nat_tests)

nowhere : (a l b m : ℕ) → a ≤ l → None ≡ place_within a l → None ≡ place_within b m → None ≡ place_in_both a l b m
nowhere a l b m le none h = grind (arith, nat_tests)

module _ (s : Schema) (name : List ℕ) where
  of : List Column → ℕ
  of columns = position_or_len (is_named name) columns

  both : place_in_both (of s.columns) (length s.columns) (of s.tags) (length s.tags) ≡ position (is_named name) (fields s)
  unfolding of
  both = λ j. place_within (sym (prefix_len-append (λ c. not (is_named name c)) s.columns s.tags) j) (sym (length-append s.columns s.tags) j)

  least : of s.columns ≤ length s.columns
  unfolding of
  least = prefix_len-le-length (λ c. not (is_named name c)) s.columns

  pub place_of_column : (i : ℕ) → Some i ≡ position (is_named name) s.columns → Some (i + 1) ≡ place_in s name
  unfolding of
  place_of_column i h = ap (option_map (λ i. i + 1)) (in_front (of s.columns) (length s.columns) (of s.tags) (length s.tags) i h ∙ both)

  pub place_of_tag : (i : ℕ) → None ≡ position (is_named name) s.columns → Some i ≡ position (is_named name) s.tags → Some (length s.columns + i + 1) ≡ place_in s name
  unfolding of
  place_of_tag i none h = ap (option_map (λ i. i + 1)) (behind (of s.columns) (length s.columns) (of s.tags) (length s.tags) i least none h ∙ both)

  pub place_of_none : None ≡ position (is_named name) s.columns → None ≡ position (is_named name) s.tags → None ≡ place_in s name
  unfolding of
  place_of_none none h = ap (option_map (λ i. i + 1)) (nowhere (of s.columns) (length s.columns) (of s.tags) (length s.tags) least none h ∙ both)

-- one more place at the end, and one fewer to come
pub one_place : (count i : ℕ) (ys : List ℕ) → i < count → ys ++ places_from (i + 1) (count - i) ≡ (ys ++ (i + 1) ∷ []) ++ places_from (i + 1 + 1) (count - (i + 1))
one_place count i ys h =
    let e : count - i ≡ suc (count - (i + 1)) = omega arith in
    ap (λ n. ys ++ places_from (i + 1) n) e ∙ sym (append_assoc ys ((i + 1) ∷ []) (places_from (i + 1 + 1) (count - (i + 1))))

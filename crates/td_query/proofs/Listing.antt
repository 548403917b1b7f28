-- The tables of a plan one by one.
use Rattle.std.proofs.Common.{◌≡◌, ℕ, zero, suc, ◌≤◌, List, [], ◌∷◌, drop, length, Option, Some, None, refl, arith}
use Rattle.std.specs.List.{slice_get}
use Rattle.td_layer.specs.declared.values.Cell.{Cell}
use Rattle.td_query.specs.Planned.{tables_from}
use Rattle.td_query.specs.Read.{listed_by}

no_part : (n : Option ℕ) (name : Option (List ℕ)) (tags : Option (List Cell)) → None ≡ listed_by n None name tags
no_part None name tags = refl
no_part (Some n) name tags = refl

no_name : (n : Option ℕ) (part : Option (List Cell)) (tags : Option (List Cell)) → None ≡ listed_by n part None tags
no_name None part tags = refl
no_name (Some n) None tags = refl
no_name (Some n) (Some part) tags = refl

no_tags : (n : Option ℕ) (part : Option (List Cell)) (name : Option (List ℕ)) → None ≡ listed_by n part name None
no_tags None part name = refl
no_tags (Some n) None name = refl
no_tags (Some n) (Some part) None = refl
no_tags (Some n) (Some part) (Some name) = refl

pub get_listed : (at : ℕ) (ns : List ℕ) (parts : List (List Cell)) (names : List (List ℕ)) (tags : List (List Cell)) → slice_get (tables_from ns parts names tags) at ≡ listed_by (slice_get ns at) (slice_get parts at) (slice_get names at) (slice_get tags at)
get_listed at [] parts names tags = refl
get_listed zero (n ∷ ns) [] names tags = no_part (Some n) (slice_get names zero) (slice_get tags zero)
get_listed (suc at) (n ∷ ns) [] names tags = no_part (slice_get ns at) (slice_get names (suc at)) (slice_get tags (suc at))
get_listed zero (n ∷ ns) (part ∷ parts) [] tags = no_name (Some n) (Some part) (slice_get tags zero)
get_listed (suc at) (n ∷ ns) (part ∷ parts) [] tags = no_name (slice_get ns at) (slice_get parts at) (slice_get tags (suc at))
get_listed zero (n ∷ ns) (part ∷ parts) (name ∷ names) [] = no_tags (Some n) (Some part) (Some name)
get_listed (suc at) (n ∷ ns) (part ∷ parts) (name ∷ names) [] = no_tags (slice_get ns at) (slice_get parts at) (slice_get names at)
get_listed zero (n ∷ ns) (part ∷ parts) (name ∷ names) (cells ∷ tags) = refl
get_listed (suc at) (n ∷ ns) (part ∷ parts) (name ∷ names) (cells ∷ tags) = get_listed at ns parts names tags

-- beyond the numbers there is no table
pub no_more : (at : ℕ) (ns : List ℕ) (parts : List (List Cell)) (names : List (List ℕ)) (tags : List (List Cell)) → length ns ≤ at → drop at (tables_from ns parts names tags) ≡ []
no_more zero [] parts names tags h = refl
no_more (suc at) [] parts names tags h = refl
no_more zero (n ∷ ns) parts names tags h = absurd (omega arith)
no_more (suc at) (n ∷ ns) [] names tags h = refl
no_more (suc at) (n ∷ ns) (part ∷ parts) [] tags h = refl
no_more (suc at) (n ∷ ns) (part ∷ parts) (name ∷ names) [] h = refl
no_more (suc at) (n ∷ ns) (part ∷ parts) (name ∷ names) (cells ∷ tags) h = no_more at ns parts names tags (omega arith)

-- A look-up by a key finds what a search by the name finds, where each key is read as the name of what it keeps.
use Rattle.std.proofs.Common.{◌≡◌, ℕ, suc, ◌+◌, Bool, true, false, cond, not, List, [], ◌∷◌, map, length, Option, None, Some, All, ap, ◌∙◌, refl, subst, position, nat_lt, slice_get}
use Rattle.std.specs.Option.{option_map}
use Rattle.std.specs.Str.{bytes_eq}
use Rattle.std.specs.List.{position_or_len}
use Rattle.std.specs.Map.{keys_of, values_of, lookup}
use Rattle.std.specs.Cmp.Lexicographic.{nat_list_eq_equiv}
use Rattle.std.proofs.lemmas.List.Elements.{All-head, All-tail, All-get_or}
use Rattle.std.proofs.lemmas.Option.{get_or_from_slice_get, slice_get_within}
use Rattle.td_model.specs.declared.catalog.StreamEntry.{StreamEntry}
use Rattle.td_model.specs.Catalog.{first_number}
use Rattle.td_catalog.specs.Inside.{AreTargets}

-- a place found in one list is the place found in another, where the two agree place by place
module _ {K X : Type 0} (read : K → List ℕ) (name : X → List ℕ) (q : List ℕ) where
  abbrev Named : K × X → Type 0
  Named e = read e.0 ≡ name e.1

  same_test : (e : K × X) → Named e → bytes_eq q (read e.0) ≡ bytes_eq (name e.1) q
  same_test e h = ap (bytes_eq q) h ∙ nat_list_eq_equiv.symm q (name e.1)

  same_place : (es : List (K × X)) → All Named es → position_or_len (λ k. bytes_eq q (read k)) (keys_of es) ≡ position_or_len (λ x. bytes_eq (name x) q) (values_of es)
  same_place [] h = refl
  same_place (e ∷ es) h =
      let here = same_test e (All-head Named e es h) in
      let rest = same_place es (All-tail Named e es h) in
      λ i. cond (not (here i)) (1 + rest i) 0

  same_length : (es : List (K × X)) → length (keys_of es) ≡ length (values_of es)
  same_length [] = refl
  same_length (e ∷ es) = ap suc (same_length es)

  pub position-named : (es : List (K × X)) → All Named es → position (λ k. bytes_eq q (read k)) (keys_of es) ≡ position (λ x. bytes_eq (name x) q) (values_of es)
  position-named es h = λ i. cond (nat_lt (same_place es h i) (same_length es i)) (Some (same_place es h i)) None

-- a place found among the images of a list is the place found in the list
module _ {X Y : Type 0} (p : Y → Bool) (f : X → Y) where
  place-map : (xs : List X) → position_or_len p (map f xs) ≡ position_or_len (λ x. p (f x)) xs
  place-map [] = refl
  place-map (x ∷ xs) = ap (λ n. cond (not (p (f x))) (1 + n) 0) (place-map xs)

  length-images : (xs : List X) → length (map f xs) ≡ length xs
  length-images [] = refl
  length-images (x ∷ xs) = ap suc (length-images xs)

  pub position-map : (xs : List X) → position p (map f xs) ≡ position (λ x. p (f x)) xs
  position-map xs = λ i. cond (nat_lt (place-map xs i) (length-images xs i)) (Some (place-map xs i)) None

-- a choice of two, seen through a function
map_cond : {X Y : Type 0} (f : X → Y) (b c : Bool) → b ≡ c → (x : X) (o : Option X) (r : Option Y) → option_map f o ≡ r → option_map f (cond b (Some x) o) ≡ cond c (Some (f x)) r
map_cond f b c e x o r h = by b (cond c (Some (f x)) r) (λ i. cond (e i) (Some (f x)) (h i))
  where
    by : (b : Bool) (s : Option _) → cond b (Some (f x)) (option_map f o) ≡ s → option_map f (cond b (Some x) o) ≡ s
    by true s g = g
    by false s g = g

-- the stream of a name, and of a target, by its key
module _ {K : Type 0} (read : K → List ℕ) (q : List ℕ) where
  pub stream-found : (es : List (K × StreamEntry)) → All (λ e. read e.0 ≡ e.1.def.name) es → option_map (λ (e : StreamEntry). e.number) (lookup (λ k. bytes_eq q (read k)) es) ≡ first_number (λ e. bytes_eq e.def.name q) (values_of es)
  stream-found [] h = refl
  stream-found (e ∷ es) h =
      let P : K × StreamEntry → Type 0 = λ e. read e.0 ≡ e.1.def.name in
      let here = same_test read (λ (x : StreamEntry). x.def.name) q e (All-head P e es h) in
      map_cond (λ (x : StreamEntry). x.number) (bytes_eq q (read e.0)) (bytes_eq e.1.def.name q) here e.1 (lookup (λ k. bytes_eq q (read k)) es) (first_number (λ x. bytes_eq x.def.name q) (values_of es)) (stream-found es (All-tail P e es h))

  pub target-found : {L : Type 0} (es : List (L × StreamEntry)) (ts : List (K × ℕ)) → AreTargets read es ts → lookup (λ k. bytes_eq q (read k)) ts ≡ first_number (λ e. bytes_eq e.def.target q) (values_of es)
  target-found [] [] h = refl
  target-found [] (t ∷ ts) h = absurd h
  target-found (e ∷ es) [] h = absurd h
  target-found (e ∷ es) (t ∷ ts) h =
      let here : bytes_eq q (read t.0) ≡ bytes_eq e.1.def.target q = ap (bytes_eq q) h.0 ∙ nat_list_eq_equiv.symm q e.1.def.target in
      let rest = target-found es ts h.2 in
      λ i. cond (here i) (Some (h.1 i)) (rest i)

-- what holds of each element holds of the one at a place
pub All-slice_get : {X : Type 0} (P : X → Type 0) (xs : List X) (i : ℕ) (x : X) → All P xs → slice_get xs i ≡ Some x → P x
All-slice_get P xs i x h at = subst P (get_or_from_slice_get xs i x x at) (All-get_or P xs i x (slice_get_within xs i x at) h)

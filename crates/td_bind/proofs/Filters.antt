-- A filter of a filter, of images, and by a test that agrees with another at each element.
use Rattle.std.proofs.Common.{◌≡◌, Bool, true, false, cond, ◌&&◌, List, [], ◌∷◌, map, filter, refl, sym, ap, ◌∙◌}
use Rattle.std.specs.List.{AllByRecursion}

-- one element more, where two tests agree on it and what is kept of the others is one
step : {X : Type 0} (a b : Bool) (x : X) (xs ys : List X) → a ≡ b → xs ≡ ys → cond a (x ∷ xs) xs ≡ cond b (x ∷ ys) ys
step a b x xs ys e h = λ i. cond (e i) (x ∷ h i) (h i)

both : {X : Type 0} (f : X → Bool) (b : Bool) (x : X) (xs ys : List X) → filter f xs ≡ ys → filter f (cond b (x ∷ xs) xs) ≡ cond (b && f x) (x ∷ ys) ys
both f true x xs ys h = λ i. cond (f x) (x ∷ h i) (h i)
both f false x xs ys h = h

-- two filters are one by both tests
pub filter_filter : {X : Type 0} (f g : X → Bool) (xs : List X) → filter f (filter g xs) ≡ filter (λ x. g x && f x) xs
filter_filter f g [] = refl
filter_filter f g (x ∷ xs) = both f (g x) x (filter g xs) (filter (λ y. g y && f y) xs) (filter_filter f g xs)

and_implied : (a b : Bool) → (a ≡ true → b ≡ true) → (b && a) ≡ a
and_implied true b h = ap (λ c. c && true) (h refl)
and_implied false true h = refl
and_implied false false h = refl

-- what passes a test stays where each that passes it passes the one before
pub filter_implied : {X : Type 0} (f g : X → Bool) → ((x : X) → f x ≡ true → g x ≡ true) → (xs : List X) → filter f (filter g xs) ≡ filter f xs
filter_implied f g h xs = filter_filter f g xs ∙ (λ i. filter (λ x. and_implied (f x) (g x) (h x) i) xs)

pub filter_agreeing : {X : Type 0} (f g : X → Bool) (xs : List X) → AllByRecursion (λ x. f x ≡ g x) xs → filter f xs ≡ filter g xs
filter_agreeing f g [] h = refl
filter_agreeing f g (x ∷ xs) h = step (f x) (g x) x (filter f xs) (filter g xs) h.0 (filter_agreeing f g xs h.1)

map-cond : {X Y : Type 0} (f : X → Y) (b : Bool) (x : X) (xs : List X) → map f (cond b (x ∷ xs) xs) ≡ cond b (f x ∷ map f xs) (map f xs)
map-cond f true x xs = refl
map-cond f false x xs = refl

-- a filter of images is the images of a filter
pub filter-map : {X Y : Type 0} (f : X → Y) (g : Y → Bool) (xs : List X) → filter g (map f xs) ≡ map f (filter (λ x. g (f x)) xs)
filter-map f g [] = refl
filter-map f g (x ∷ xs) = step (g (f x)) (g (f x)) (f x) (filter g (map f xs)) (map f (filter (λ y. g (f y)) xs)) refl (filter-map f g xs) ∙ sym (map-cond f (g (f x)) x (filter (λ y. g (f y)) xs))

pub map_map : {X Y Z : Type 0} (f : X → Y) (g : Y → Z) (xs : List X) → map g (map f xs) ≡ map (λ x. g (f x)) xs
map_map f g [] = refl
map_map f g (x ∷ xs) = ap (λ ys. g (f x) ∷ ys) (map_map f g xs)

pub map_agreeing : {X Y : Type 0} (f g : X → Y) (xs : List X) → AllByRecursion (λ x. f x ≡ g x) xs → map f xs ≡ map g xs
map_agreeing f g [] h = refl
map_agreeing f g (x ∷ xs) h = λ i. h.0 i ∷ map_agreeing f g xs h.1 i

cond_keeps : {X : Type 0} (P : X → Type 0) (b : Bool) (x : X) (xs : List X) → P x → AllByRecursion P xs → AllByRecursion P (cond b (x ∷ xs) xs)
cond_keeps P true x xs h hs = (h, hs)
cond_keeps P false x xs h hs = hs

-- what holds of each holds of each that is kept
pub all-filter : {X : Type 0} (P : X → Type 0) (f : X → Bool) (xs : List X) → AllByRecursion P xs → AllByRecursion P (filter f xs)
all-filter P f [] h = tt
all-filter P f (x ∷ xs) h = cond_keeps P (f x) x (filter f xs) h.0 (all-filter P f xs h.1)

pub all_weaker : {X : Type 0} (P Q : X → Type 0) → ((x : X) → P x → Q x) → (xs : List X) → AllByRecursion P xs → AllByRecursion Q xs
all_weaker P Q w [] h = tt
all_weaker P Q w (x ∷ xs) h = (w x h.0, all_weaker P Q w xs h.1)

-- A merge with one more scan on top.
use Rattle.std.proofs.Common.{◌≡◌, ◌+◌, List, [], ◌∷◌, ◌++◌, map, Option, Some, None, refl, sym, ap, ◌∙◌, arith, append_assoc}
use Rattle.std.specs.Prelude.{reverse, sum_by}
use Rattle.std.specs.List.{flat_map}
use Rattle.std.specs.Option.{option_map, option_and_then}
use Rattle.std.proofs.lemmas.List.{reverse-append, append-nil}
use Rattle.std.proofs.lemmas.List.Sums.{sum_by-cons, sum_by-append}
use Rattle.td_layer.specs.Scans.{Places}
use Rattle.td_fileset.specs.Stack.{Layer}
use Rattle.td_fileset.specs.Sources.{Fed, told_layer, waits}
use Rattle.td_fileset.specs.Merged.{all_told, told_layers, told_places, places_of, waiting, merged, on_top}

-- a list and one more
module _ {X : Type 0} where
  turned : (xs : List X) (x : X) → reverse (xs ++ x ∷ []) ≡ x ∷ reverse xs
  turned xs x = reverse-append xs (x ∷ [])

  pub one_more : (os : List (Option X)) (o : Option X) → all_told (os ++ o ∷ []) ≡ option_and_then (λ xs. option_map (λ x. xs ++ x ∷ []) o) (all_told os)
  one_more [] None = refl
  one_more [] (Some x) = refl
  one_more (p ∷ os) o = ap (λ rest. option_and_then (λ y. option_map (λ ys. y ∷ ys) rest) p) (one_more os o) ∙ by p (all_told os) o
    where
      by : (p : Option X) (r : Option (List X)) (o : Option X) → option_and_then (λ y. option_map (λ ys. y ∷ ys) (option_and_then (λ xs. option_map (λ x. xs ++ x ∷ []) o) r)) p ≡ option_and_then (λ xs. option_map (λ x. xs ++ x ∷ []) o) (option_and_then (λ y. option_map (λ ys. y ∷ ys) r) p)
      by None r o = refl
      by (Some y) None o = refl
      by (Some y) (Some xs) None = refl
      by (Some y) (Some xs) (Some x) = refl

layers_more : (o : Option Layer) (r : Option (List Layer)) → option_map reverse (option_and_then (λ xs. option_map (λ x. xs ++ x ∷ []) o) r) ≡ option_and_then (λ older. option_map (λ newest. newest ∷ older) o) (option_map reverse r)
layers_more o None = refl
layers_more None (Some xs) = refl
layers_more (Some x) (Some xs) = ap Some (turned xs x)

flat_more : (ps : List Places) (p : Places) → flat_map (λ (places : Places). places) (ps ++ p ∷ []) ≡ flat_map (λ (places : Places). places) ps ++ p
flat_more [] p = append-nil p
flat_more (q ∷ ps) p = ap (λ rest. q ++ rest) (flat_more ps p) ∙ sym (append_assoc q (flat_map (λ (places : Places). places) ps) p)

places_more : (o : Option Places) (r : Option (List Places)) → option_map (flat_map (λ (places : Places). places)) (option_and_then (λ xs. option_map (λ x. xs ++ x ∷ []) o) r) ≡ option_and_then (λ others. option_map (λ its. others ++ its) o) (option_map (flat_map (λ (places : Places). places)) r)
places_more o None = refl
places_more None (Some xs) = refl
places_more (Some x) (Some xs) = ap Some (flat_more xs x)

mapped_more : {X : Type 0} (f : Fed → X) (fs : List Fed) (g : Fed) → map f (fs ++ g ∷ []) ≡ map f fs ++ f g ∷ []
mapped_more f [] g = refl
mapped_more f (h ∷ fs) g = ap (λ rest. f h ∷ rest) (mapped_more f fs g)

pub pushed : (fs : List Fed) (f : Fed) → waits f.ahead ≡ 0 → merged (fs ++ f ∷ []) ≡ on_top (told_layer f) f.damaged f.reads f.count (merged fs)
pushed fs f none = λ i. record { layers = layers i; waiting = still i; damaged = places i; reads = reads i; counts = counts i }
  where
    layers : option_map reverse (told_layers (fs ++ f ∷ [])) ≡ option_and_then (λ older. option_map (λ newest. newest ∷ older) (told_layer f)) (option_map reverse (told_layers fs))
    layers = ap (λ os. option_map reverse (all_told os)) (mapped_more told_layer fs f) ∙ ap (option_map reverse) (one_more (map told_layer fs) (told_layer f)) ∙ layers_more (told_layer f) (told_layers fs)

    places : places_of (fs ++ f ∷ []) ≡ option_and_then (λ others. option_map (λ its. others ++ its) f.damaged) (places_of fs)
    places = ap told_places (mapped_more (λ (g : Fed). g.damaged) fs f) ∙ ap (option_map (flat_map (λ (places : Places). places))) (one_more (map (λ (g : Fed). g.damaged) fs) f.damaged) ∙ places_more f.damaged (all_told (map (λ (g : Fed). g.damaged) fs))

    one : sum_by (λ (g : Fed). waits g.ahead) (f ∷ []) ≡ 0
    one = sum_by-cons (λ (g : Fed). waits g.ahead) f [] ∙ ap (λ n. n + 0) none

    still : waiting (fs ++ f ∷ []) ≡ waiting fs
    still = omega (arith, sum_by-append (λ (g : Fed). waits g.ahead) fs (f ∷ []), one)

    reads : reverse (map (λ (g : Fed). g.reads) (fs ++ f ∷ [])) ≡ f.reads ∷ reverse (map (λ (g : Fed). g.reads) fs)
    reads = ap reverse (mapped_more (λ (g : Fed). g.reads) fs f) ∙ turned (map (λ (g : Fed). g.reads) fs) f.reads

    counts : reverse (map (λ (g : Fed). g.count) (fs ++ f ∷ [])) ≡ f.count ∷ reverse (map (λ (g : Fed). g.count) fs)
    counts = ap reverse (mapped_more (λ (g : Fed). g.count) fs f) ∙ turned (map (λ (g : Fed). g.count) fs) f.count

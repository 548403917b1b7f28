-- What a scan of a part of the timestamps finds damaged is among what is told to be.
use Rattle.std.proofs.Common.{◌≡◌, ℕ, ◌⊎◌, inl, inr, List, [], ◌∷◌, ◌++◌, Option, Some, None, refl, ap, ◌∙◌, subst, arith}
use Rattle.std.specs.Prelude.{Contains, IfSome, Result, Ok, Err}
use Rattle.std.specs.Option.{option_map, option_and_then}
use Rattle.std.specs.List.{flat_map, AllByRecursion}
use Rattle.std.proofs.lemmas.List.Elements.{Contains-append_left, Contains-append_right, Contains-append_cases}
use Rattle.td_layer.specs.declared.scans.ScanFault.{ScanFault}
use Rattle.td_layer.specs.declared.scans.ScanFault.TheVariants.{ReadFault, Damaged, NoMemory}
use Rattle.td_layer.specs.Scans.{Places, Explains, HasScanCause}
use Rattle.td_fileset.specs.Merged.{all_told, told_places}
use Rattle.td_fileset.specs.Opened.{beside_places}

abbrev Place : Type 0
Place = ℕ × ℕ

-- places that are told, of which each is one of some
pub record AreAmong (part : Option Places) (all : Places) : Type 0 where
  pub places : Places
  pub told : part ≡ Some places
  pub among : (x : Place) → Contains places x → Contains all x

pub none_in : (x : Place) → Contains {X = Place} [] x → ⊥
none_in x c = omega (arith, c.1)

pub nothing_among : (all : Places) → AreAmong (Some []) all
nothing_among all = record { places = []; told = refl; among = λ x c. absurd (none_in x c) }

pub beside_among : (ps : List (Option Places)) (base : Option Places) (all : Places) → AllByRecursion (λ p. AreAmong p all) ps → AreAmong base all → AreAmong (beside_places ps base) all
beside_among [] base all h b = b
beside_among (p ∷ ps) base all h b =
    let rest = beside_among ps base all h.1 b in
    record {
      places = rest.places ++ h.0.places;
      told = ap (λ (o : Option Places). option_and_then (λ others. option_map (λ its. others ++ its) p) o) rest.told ∙ ap (λ (o : Option Places). option_map (λ its. rest.places ++ its) o) h.0.told;
      among = λ x c. either (Contains-append_cases rest.places h.0.places x c) (rest.among x) (h.0.among x);
    }
  where
    either : {A B C : Type 0} → A ⊎ B → (A → C) → (B → C) → C
    either (inl a) f g = f a
    either (inr b) f g = g b

-- places that are told together
pub told_each : (os : List (Option Places)) (all : Places) → told_places os ≡ Some all → AllByRecursion (λ o. AreAmong o all) os
told_each [] all h = tt
told_each (o ∷ os) all h = by o (all_told os) refl refl h (told_each os)
  where
    flat : List Places → Places
    flat = flat_map (λ (places : Places). places)

    some_is : (x y : Places) → Some x ≡ Some y → x ≡ y
    some_is x y e = cc

    wider : (its others : Places) (qs : List (Option Places)) → its ++ others ≡ all → AllByRecursion (λ o. AreAmong o others) qs → AllByRecursion (λ o. AreAmong o all) qs
    wider its others [] e h = tt
    wider its others (q ∷ qs) e h = (record { places = h.0.places; told = h.0.told; among = λ x c. subst (λ l. Contains l x) e (Contains-append_right its others x (h.0.among x c)) }, wider its others qs e h.1)

    by : (p : Option Places) (r : Option (List Places)) → o ≡ p → all_told os ≡ r → option_map flat (option_and_then (λ y. option_map (λ ys. y ∷ ys) r) p) ≡ Some all
        → ((others : Places) → told_places os ≡ Some others → AllByRecursion (λ o. AreAmong o others) os) → AllByRecursion (λ o. AreAmong o all) (o ∷ os)
    by None r e q h each = absurd (cc)
    by (Some its) None e q h each = absurd (cc)
    by (Some its) (Some rest) e q h each =
        let joined = some_is (its ++ flat rest) all h in (
          record { places = its; told = e; among = λ x c. subst (λ l. Contains l x) joined (Contains-append_left its (flat rest) x c) },
          wider its (flat rest) os joined (each (flat rest) (ap (option_map flat) q)),
        )

-- a cause by places that are among others is one by these
pub cause_wider : {X : Type 0} (part all : Option Places) (a b : ℕ) (r : Result X ScanFault) → ((places : Places) → all ≡ Some places → AreAmong part places) → HasScanCause part a b r → HasScanCause all a b r
cause_wider {X} part all a b (Ok x) h c = record { later = c.later; kept = c.kept; fault = tt }
cause_wider {X} part all a b (Err e) h c = record { later = c.later; kept = tt; fault = by e c.fault }
  where
    within : (o : Option Places) (x : Place) → all ≡ o → IfSome part (λ places. Contains places x) → IfSome o (λ places. Contains places x)
    within None x is c = tt
    within (Some places) x is c =
        let among = h places is in
        among.among x (subst (λ (q : Option Places). IfSome q (λ places. Contains places x)) among.told c)

    by : (e : ScanFault) → Explains part a b e → Explains all a b e
    by ReadFault f = f
    by (Damaged file at) f = (f.0, within all (file, at) refl f.1)
    by NoMemory f = f

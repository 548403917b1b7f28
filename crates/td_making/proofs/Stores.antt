-- What calls on a store leave of its image.
use Rattle.std.proofs.Common.{◌≡◌, ℕ, ◌+◌, ◌≤◌, Bool, true, false, cond, nat_eq, List, [], ◌∷◌, ◌++◌, map, reverse, take, drop, length, Option, Some, None, All, refl, sym, ap, subst, ◌∙◌, arith, append_assoc}
use Rattle.std.specs.Prelude.{IsSome, IfSome, sum, sum_by}
use Rattle.std.specs.List.{AllByRecursion}
use Rattle.std.proofs.lemmas.Bool.{eq-eqb, eqb-false, eqb-true, false≢true, ne_eqb, or_from, or_parts}
use Rattle.std.proofs.lemmas.List.{reverse-append}
use Rattle.std.proofs.lemmas.List.Elements.{All-cons, All-from_recursion, All-nil, recursion_from_All}
use Rattle.std.proofs.lemmas.List.{take-append-drop}
use Rattle.std.proofs.lemmas.List.Sums.{sum-map, sum_by_push}
use Rattle.td_outside.specs.Causes.{Rose, raised}
use Rattle.td_outside.specs.Image.{Along, Becomes, Image, put}
use Rattle.td_outside.specs.Files.{Finishes, GivesUp, IsFinished, after_create, lists}
use Rattle.td_making.specs.Making.{Adds, AddsFile, AddsOne, AddsSome, AddsTold, SameHeld}

-- ---- images that are told

pub along_then : (R S T : Image → Image → Type 0) → ((x y z : Image) → R x y → S y z → T x z) → (a b c : Option Image) → Along R a b → Along S b c → Along T a c
along_then R S T f None None None r s = tt
along_then R S T f None None (Some z) r s = absurd s
along_then R S T f None (Some y) c r s = absurd r
along_then R S T f (Some x) None c r s = absurd r
along_then R S T f (Some x) (Some y) None r s = absurd s
along_then R S T f (Some x) (Some y) (Some z) r s = f x y z r s

pub along_weaker : (R S : Image → Image → Type 0) → ((x y : Image) → R x y → S x y) → (a b : Option Image) → Along R a b → Along S a b
along_weaker R S f None None r = tt
along_weaker R S f None (Some y) r = absurd r
along_weaker R S f (Some x) None r = absurd r
along_weaker R S f (Some x) (Some y) r = f x y r

along_self : (R : Image → Image → Type 0) → ((x : Image) → R x x) → (a : Option Image) → Along R a a
along_self R f None = tt
along_self R f (Some x) = f x

pub same_self : (a : Option Image) → Along SameHeld a a
same_self a = along_self SameHeld (λ x. record { head = refl; logs = refl; files = refl; readers = refl }) a

same_both : (x y z : Image) → SameHeld x y → SameHeld y z → SameHeld x z
same_both x y z r s = record { head = s.head ∙ r.head; logs = s.logs ∙ r.logs; files = s.files ∙ r.files; readers = s.readers ∙ r.readers }

pub same_then : (a b c : Option Image) → Along SameHeld a b → Along SameHeld b c → Along SameHeld a c
same_then a b c r s = along_then SameHeld SameHeld SameHeld same_both a b c r s

same_gave : (name : ℕ) (x y : Image) → GivesUp name x y → SameHeld x y
same_gave name x y g = record {
  head = ap (λ (i : Image). i.head) g.1;
  logs = ap (λ (i : Image). i.logs) g.1;
  files = ap (λ (i : Image). i.files) g.1;
  readers = ap (λ (i : Image). i.readers) g.1;
}

-- a file is given up
pub same_given : (name : ℕ) (a b c : Option Image) → Along SameHeld a b → Along (GivesUp name) b c → Along SameHeld a c
same_given name a b c r g = same_then a b c r (along_weaker (GivesUp name) SameHeld (same_gave name) b c g)

-- a file is begun
pub same_made : (name : ℕ) (a b : Option Image) → Becomes (after_create name) a b → Along SameHeld a b
same_made name a b g = along_weaker (λ x y. y ≡ after_create name x) SameHeld
    (λ x y e. record {
      head = ap (λ (i : Image). i.head) e;
      logs = ap (λ (i : Image). i.logs) e;
      files = ap (λ (i : Image). i.files) e;
      readers = ap (λ (i : Image). i.readers) e;
    })
    a b g

-- nothing is told anew
pub same_told : (a b : Option Image) → b ≡ a → Along SameHeld a b
same_told a b e = subst (λ (x : Option Image). Along SameHeld a x) (sym e) (same_self a)

-- ---- files that are added

some_from_same : (x y : Image) → SameHeld x y → AddsSome x y
some_from_same x y s = record { head = s.head; logs = s.logs; readers = s.readers; kept = λ n is. ap (λ (f : ℕ → Option (List ℕ)). f n) s.files }

pub some_same : (a b : Option Image) → Along SameHeld a b → Along AddsSome a b
some_same a b s = along_weaker SameHeld AddsSome some_from_same a b s

some_both : (x y z : Image) → AddsSome x y → AddsSome y z → AddsSome x z
some_both x y z r s = record {
  head = s.head ∙ r.head;
  logs = s.logs ∙ r.logs;
  readers = s.readers ∙ r.readers;
  kept = λ n is. s.kept n (subst (λ (o : Option (List ℕ)). IsSome o) (sym (r.kept n is)) is) ∙ r.kept n is;
}

pub some_then : (a b c : Option Image) → Along AddsSome a b → Along AddsSome b c → Along AddsSome a c
some_then a b c r s = along_then AddsSome AddsSome AddsSome some_both a b c r s

finished_so : (name n : ℕ) (bytes : List ℕ) (x y : Image) → Finishes name n bytes x y → AddsFile n bytes x y
finished_so name n bytes x y f = record {
  head = ap (λ (i : Image). i.head) f.image;
  logs = ap (λ (i : Image). i.logs) f.image;
  readers = ap (λ (i : Image). i.readers) f.image;
  free = f.free;
  unread = f.unread;
  files = ap (λ (i : Image). i.files) f.image;
}

-- a file is finished
pub finish_told : (name n : ℕ) (written : Option (List ℕ)) (a b : Option Image) → IfSome a (λ _. IsSome written) → (a ≡ None → b ≡ None) → IfSome written (λ bytes. Along (Finishes name n bytes) a b) → Along (AddsTold n written) a b
finish_told name n written None b told none h = subst (λ (x : Option Image). Along (AddsTold n written) None x) (sym (none refl)) tt
finish_told name n None (Some x) b told none h = absurd (false≢true told)
finish_told name n (Some bytes) (Some x) None told none h = absurd h
finish_told name n (Some bytes) (Some x) (Some y) told none h = finished_so name n bytes x y h

other_place : (n m : ℕ) (v : Option (List ℕ)) (f : ℕ → Option (List ℕ)) → nat_eq m n ≡ false → put n v f m ≡ f m
other_place n m v f e = ap (λ b. cond b v (f m)) e

some_file : (n : ℕ) (bytes : List ℕ) (x y : Image) → AddsFile n bytes x y → AddsSome x y
some_file n bytes x y f = record {
  head = f.head;
  logs = f.logs;
  readers = f.readers;
  kept = λ m is. ap (λ (g : ℕ → Option (List ℕ)). g m) f.files ∙ by m is (nat_eq m n) refl;
}
  where
    by : (m : ℕ) → IsSome (x.files m) → (b : Bool) → nat_eq m n ≡ b → put n (Some bytes) x.files m ≡ x.files m
    by m is true e = absurd (false≢true (subst (λ (o : Option (List ℕ)). IsSome o) (ap x.files (eqb-true m n e) ∙ f.free) is))
    by m is false e = other_place n m (Some bytes) x.files e

pub some_finished : (n : ℕ) (written : Option (List ℕ)) (a b : Option Image) → IfSome a (λ _. IsSome written) → Along (AddsTold n written) a b → Along AddsSome a b
some_finished n written None None told h = tt
some_finished n written None (Some y) told h = absurd h
some_finished n written (Some x) None told h = absurd h
some_finished n None (Some x) (Some y) told h = absurd (false≢true told)
some_finished n (Some bytes) (Some x) (Some y) told h = some_file n bytes x y h

-- ---- all files

unlisted : (files : ℕ → Option (List ℕ)) (n : ℕ) (ns : List ℕ) → files n ≡ None → AllByRecursion (λ m. IsSome (files m)) ns → lists n ns ≡ false
unlisted files n [] free all = refl
unlisted files n (m ∷ ns) free all = or_from (nat_eq m n) (lists n ns) (by (nat_eq m n) refl) (unlisted files n ns free all.1)
  where
    by : (b : Bool) → nat_eq m n ≡ b → nat_eq m n ≡ false
    by true e = absurd (false≢true (subst (λ (o : Option (List ℕ)). IsSome o) (ap files (eqb-true m n e) ∙ free) all.0))
    by false e = e

others_same : (n : ℕ) (v : Option (List ℕ)) (f : ℕ → Option (List ℕ)) (ns : List ℕ) → lists n ns ≡ false → map (put n v f) ns ≡ map f ns
others_same n v f [] h = refl
others_same n v f (m ∷ ns) h =
    let parts = or_parts (nat_eq m n) (lists n ns) h in
    λ i. other_place n m v f parts.0 i ∷ others_same n v f ns parts.1 i

still_some : (n : ℕ) (v : Option (List ℕ)) (f : ℕ → Option (List ℕ)) (ns : List ℕ) → lists n ns ≡ false → AllByRecursion (λ m. IsSome (f m)) ns → AllByRecursion (λ m. IsSome (put n v f m)) ns
still_some n v f [] h all = tt
still_some n v f (m ∷ ns) h all =
    let parts = or_parts (nat_eq m n) (lists n ns) h in
    (subst (λ (o : Option (List ℕ)). IsSome o) (sym (other_place n m v f parts.0)) all.0, still_some n v f ns parts.1 all.1)

turned : (n m : ℕ) → nat_eq n m ≡ false → nat_eq m n ≡ false
turned n m e = ne_eqb m n (λ same. eqb-false n m e (sym same))

adds_more : (n : ℕ) (bytes : List ℕ) (ns : List ℕ) (cs : List (Option (List ℕ))) (a b c : Image) → Adds ns cs a b → AddsFile n bytes b c → Adds (n ∷ ns) (Some bytes ∷ cs) a c
adds_more n bytes ns cs a b c h f =
    let v : Option (List ℕ) = Some bytes in
    let some : AddsSome a c = some_both a b c h.some (some_file n bytes b c f) in
    let before : AllByRecursion (λ m. IsSome (b.files m)) ns = recursion_from_All (λ m. IsSome (b.files m)) ns h.finished in
    let new : lists n ns ≡ false = unlisted b.files n ns f.free before in
    let here : put n v b.files n ≡ v = ap (λ x. cond x v (b.files n)) (eq-eqb n n refl) in
    let all : AllByRecursion (λ m. IsSome (put n v b.files m)) (n ∷ ns) = (subst (λ (o : Option (List ℕ)). IsSome o) (sym here) refl, still_some n v b.files ns new before) in
    record {
      some = some;
      free = All-cons (λ m. a.files m ≡ None) n ns (by (a.files n) refl) h.free;
      unread = All-cons (λ m. a.readers m ≡ 0) n ns (sym (ap (λ (g : ℕ → ℕ). g n) h.some.readers) ∙ f.unread) h.unread;
      once = (new, h.once);
      finished = subst (λ (g : ℕ → Option (List ℕ)). All (λ m. IsSome (g m)) (n ∷ ns)) (sym f.files) (All-from_recursion (λ m. IsSome (put n v b.files m)) (n ∷ ns) all);
      are = ap (λ (g : ℕ → Option (List ℕ)). map g (n ∷ ns)) f.files ∙ (λ i. here i ∷ (others_same n v b.files ns new ∙ h.are) i);
      others = λ m none.
          let parts = or_parts (nat_eq n m) (lists m ns) none in
          ap (λ (g : ℕ → Option (List ℕ)). g m) f.files ∙ other_place n m v b.files (turned n m parts.0) ∙ h.others m parts.1;
    }
  where
    by : (o : Option (List ℕ)) → a.files n ≡ o → a.files n ≡ None
    by None e = e
    by (Some x) e = sym (h.some.kept n (subst (λ (o : Option (List ℕ)). IsSome o) (sym e) refl)) ∙ f.free

pub adds_none : (a : Option Image) → Along (Adds [] []) a a
adds_none a = along_self (Adds [] [])
    (λ x. record {
      some = record { head = refl; logs = refl; readers = refl; kept = λ n is. refl };
      free = All-nil (λ m. x.files m ≡ None);
      unread = All-nil (λ m. x.readers m ≡ 0);
      once = tt;
      finished = All-nil (λ m. IsFinished m x);
      are = refl;
      others = λ n none. refl;
    })
    a

pub adds_told : (n : ℕ) (written : Option (List ℕ)) (ns : List ℕ) (cs : List (Option (List ℕ))) (a b c : Option Image) → IfSome b (λ _. IsSome written) → Along (Adds ns cs) a b → Along (AddsTold n written) b c → Along (Adds (n ∷ ns) (written ∷ cs)) a c
adds_told n written ns cs None None None told h f = tt
adds_told n written ns cs None None (Some z) told h f = absurd f
adds_told n written ns cs None (Some y) c told h f = absurd h
adds_told n written ns cs (Some x) None c told h f = absurd h
adds_told n written ns cs (Some x) (Some y) None told h f = absurd f
adds_told n None ns cs (Some x) (Some y) (Some z) told h f = absurd (false≢true told)
adds_told n (Some bytes) ns cs (Some x) (Some y) (Some z) told h f = adds_more n bytes ns cs x y z h f

-- ---- lists

take_front : {X : Type 0} (xs ys : List X) → take (length xs) (xs ++ ys) ≡ xs
take_front [] ys = refl
take_front (x ∷ xs) ys = ap (λ l. x ∷ l) (take_front xs ys)

drop_front : {X : Type 0} (xs ys : List X) → drop (length xs) (xs ++ ys) ≡ ys
drop_front [] ys = refl
drop_front (x ∷ xs) ys = drop_front xs ys

pub record Popped {X : Type 0} (all old new : List X) (x : X) : Type 0 where
  pub front : new ≡ take (length new) all
  pub back : drop (length new) all ≡ x ∷ drop (length old) all

-- the last of the items that are left is taken
pub popped : {X : Type 0} (all old new : List X) (x : X) → old ≡ new ++ x ∷ [] → old ≡ take (length old) all → Popped all old new x
popped {X} all old new x pop front =
    let rest : List X = drop (length old) all in
    let whole : all ≡ new ++ (x ∷ rest) = sym (take-append-drop (length old) all) ∙ ap (λ l. l ++ rest) (sym front ∙ pop) ∙ append_assoc new (x ∷ []) rest in
    record {
      front = sym (ap (take (length new)) whole ∙ take_front new (x ∷ rest));
      back = ap (drop (length new)) whole ∙ drop_front new (x ∷ rest);
    }

-- the last of the writers that are left is finished
pub finish_more : {W : Type 0} (f : W → Option (List ℕ)) (all old new : List W) (w : W) (ns ms : List ℕ) (a b c : Option Image) → Popped all old new w → IfSome b (λ _. IsSome (f w)) → Along (Adds (reverse ns) (map f (drop (length old) all))) a b → AddsOne (f w) ns ms b c
    → Along (Adds (reverse ms) (map f (drop (length new) all))) a c
finish_more f all old new w ns ms a b c pop told adds one =
    let numbers : reverse ms ≡ one.number ∷ reverse ns = ap reverse one.pushed ∙ reverse-append ns (one.number ∷ []) in
    let contents : map f (drop (length new) all) ≡ f w ∷ map f (drop (length old) all) = ap (map f) pop.back in
    let more = adds_told one.number (f w) (reverse ns) (map f (drop (length old) all)) a b c told adds one.image in
    subst (λ (xs : List ℕ). Along (Adds xs (map f (drop (length new) all))) a c) (sym numbers)
    (subst (λ (cs : List (Option (List ℕ))). Along (Adds (one.number ∷ reverse ns) cs) a c) (sym contents) more)

-- what is told of writers stays told
told_so : (P Q : Type 0) (R : Image → Image → Type 0) (a b : Option Image) → Along R a b → (P → Q) → IfSome a (λ _. P) → IfSome b (λ _. Q)
told_so P Q R None None r f h = tt
told_so P Q R None (Some y) r f h = absurd r
told_so P Q R (Some x) None r f h = tt
told_so P Q R (Some x) (Some y) r f h = f h

all_but_last : {W : Type 0} (f : W → Option (List ℕ)) (ws : List W) (w : W) → AllByRecursion (λ (o : Option (List ℕ)). IsSome o) (map f (ws ++ w ∷ [])) → AllByRecursion (λ (o : Option (List ℕ)). IsSome o) (map f ws) × IsSome (f w)
all_but_last f [] w h = (tt, h.0)
all_but_last f (v ∷ ws) w h =
    let rest = all_but_last f ws w h.1 in
    ((h.0, rest.0), rest.1)

pub told_rest : {W : Type 0} (f : W → Option (List ℕ)) (old new : List W) (w : W) (R : Image → Image → Type 0) (a b : Option Image) → old ≡ new ++ w ∷ [] → Along R a b → IfSome a (λ _. All (λ (o : Option (List ℕ)). IsSome o) (map f old)) → IfSome b (λ _. All (λ (o : Option (List ℕ)). IsSome o) (map f new))
told_rest f old new w R a b pop r h =
    told_so (All (λ (o : Option (List ℕ)). IsSome o) (map f old)) (All (λ (o : Option (List ℕ)). IsSome o) (map f new)) R a b r
    (λ all. All-from_recursion (λ (o : Option (List ℕ)). IsSome o) (map f new) (all_but_last f new w (recursion_from_All (λ (o : Option (List ℕ)). IsSome o) (map f (new ++ w ∷ [])) (subst (λ l. All (λ (o : Option (List ℕ)). IsSome o) (map f l)) pop all))).0) h

pub told_last : {W : Type 0} (f : W → Option (List ℕ)) (old new : List W) (w : W) (a : Option Image) → old ≡ new ++ w ∷ [] → IfSome a (λ _. All (λ (o : Option (List ℕ)). IsSome o) (map f old)) → IfSome a (λ _. IsSome (f w))
told_last f old new w None pop h = tt
told_last f old new w (Some x) pop h =
    (all_but_last f new w (recursion_from_All (λ (o : Option (List ℕ)). IsSome o) (map f (new ++ w ∷ [])) (subst (λ l. All (λ (o : Option (List ℕ)). IsSome o) (map f l)) pop h))).1

-- ---- counts

pub later_then : (a b c : ℕ) → raised a 0 ≤ b → raised b 0 ≤ c → raised a 0 ≤ c
later_then a b c h k = omega arith

pub rose_then : (a b c : ℕ) → Rose a b → raised b 0 ≤ c → Rose a c
rose_then a b c h k = omega arith

pub later_rose : (a b c : ℕ) → raised a 0 ≤ b → Rose b c → Rose a c
later_rose a b c h k = omega arith

pub later_self : (a : ℕ) → raised a 0 ≤ a
later_self a = omega arith

-- the count is at least what it was, whatever it took over
pub over_later : (a n b : ℕ) → raised a n ≤ b → raised a 0 ≤ b
over_later a n b h = omega arith

-- the last of the writers that are left is given up
pub over_more : {W : Type 0} (f : W → ℕ) (old new : List W) (w : W) (a b c : ℕ) → old ≡ new ++ w ∷ [] → a ≤ raised b (sum (map f old)) → raised b (f w) ≤ c → a ≤ raised c (sum (map f new))
over_more f old new w a b c pop h over =
    let last : sum_by f old ≡ sum_by f new + f w = ap (sum_by f) pop ∙ sum_by_push f new w in
    omega (arith, sum-map f old, sum-map f new, last, h, over)

-- What calls on a log make of a told image, one after another.
use Rattle.std.proofs.Common.{◌≡◌, ℕ, Bool, true, false, eqb, List, Option, Some, None, refl, sym, ap, subst, ◌∙◌}
use Rattle.std.specs.Prelude.{IfSome, if◌then◌else◌}
use Rattle.std.specs.Option.{option_map, IsSomeAnd}
use mathlib.Core.Path.{fun_ext}
use Rattle.std.proofs.lemmas.Bool.{eq-eqb, eqb-true, cond-true}
use Rattle.td_outside.specs.Image.{Log, Image, Along, Becomes, put}
use Rattle.td_outside.specs.Logs.{new_log, with_log, after_log_create, after_torn_write, IsTorn, Tears}
use Rattle.td_wal.specs.Append.{LogSays, OnlyLog}

-- ---- a map with a value put

-- the value that was put is there
put_at : {A : Type 0} (n : ℕ) (x : A) (map : ℕ → A) → put n x map n ≡ x
put_at n x map = cond-true (eqb n n) x (map n) (eq-eqb n n refl)

twice_if : {A : Type 0} (b : Bool) (x y z : A) → (if b then x else (if b then y else z)) ≡ (if b then x else z)
twice_if true x y z = refl
twice_if false x y z = refl

put_twice : {A : Type 0} (n : ℕ) (x y : A) (map : ℕ → A) → ◌≡◌ {A = ℕ → A} (put n x (put n y map)) (put n x map)
put_twice n x y map = fun_ext (λ m. twice_if (eqb m n) x y (map m))

own_if : {A : Type 0} (n m : ℕ) (x : A) (map : ℕ → A) (b : Bool) → eqb m n ≡ b → map n ≡ x → (if b then x else map m) ≡ map m
own_if n m x map true is own = sym own ∙ ap map (sym (eqb-true m n is))
own_if n m x map false is own = refl

-- a value that was there is put
put_own : {A : Type 0} (n : ℕ) (x : A) (map : ℕ → A) → map n ≡ x → ◌≡◌ {A = ℕ → A} (put n x map) map
put_own n x map own = fun_ext (λ m. own_if n m x map (eqb m n) refl own)

some_is : {A : Type 0} (x y : A) → Some x ≡ Some y → x ≡ y
some_is x y e = cc

-- ---- one image and another

-- The log of a number was there, it became another that stands so to it, and all else is as it was.
pub record Turns (n : ℕ) (P : Log → Log → Type 0) (old new : Image) : Type 0 where
  pub was : Log
  pub now : Log
  pub there : old.logs n ≡ Some was
  pub image : new ≡ record old { logs = put n (Some now) old.logs }
  pub step : P was now

-- this is true of the log from before, and it was made into this
abbrev pub Made : (Log → Type 0) → (Log → Log) → Log → Log → Type 0
Made Q f was now = Q was × (now ≡ f was)

-- this is true of the log from before, it was made into this, and then a write at a place failed
abbrev pub TornFrom : (Log → Type 0) → (Log → Log) → ℕ → ℕ → Log → Log → Type 0
TornFrom Q f at count was now = Q was × ((bytes : List ℕ) × IsTorn at count (f was).bytes bytes × (now ≡ after_torn_write at count bytes (f was)))

there_now : (n : ℕ) (P : Log → Log → Type 0) (old new : Image) (t : Turns n P old new) → new.logs n ≡ Some t.now
there_now n P old new t = ap (λ (image : Image). image.logs n) t.image ∙ put_at n (Some t.now) old.logs

put_over : (n : ℕ) (x : Log) (P : Log → Log → Type 0) (old mid new : Image) (t : Turns n P old mid) → new ≡ record mid { logs = put n (Some x) mid.logs } → new ≡ record old { logs = put n (Some x) old.logs }
put_over n x P old mid new t is =
    is ∙ ap (λ (image : Image). record image { logs = put n (Some x) image.logs }) t.image
    ∙ ap (λ (logs : ℕ → Option Log). record old { logs = logs }) (put_twice n (Some x) (Some t.now) old.logs)

begins : (n : ℕ) (Q : Log → Type 0) (old : Image) (o : Option Log) → old.logs n ≡ o → IsSomeAnd o Q → Turns n (Made Q (λ l. l)) old old
begins n Q old None is q = absurd q
begins n Q old (Some l) is q = record {
  was = l;
  now = l;
  there = is;
  image = ap (λ (logs : ℕ → Option Log). record old { logs = logs }) (sym (put_own n (Some l) old.logs is));
  step = (q, refl);
}

makes : (n : ℕ) (Q : Log → Type 0) (f g : Log → Log) (old mid new : Image) → Turns n (Made Q g) old mid → new ≡ with_log n f mid → Turns n (Made Q (λ l. f (g l))) old new
makes n Q f g old mid new t is = record {
  was = t.was;
  now = f t.now;
  there = t.there;
  image = put_over n (f t.now) (Made Q g) old mid new t (is ∙ ap (λ (o : Option Log). record mid { logs = put n (option_map f o) mid.logs }) (there_now n (Made Q g) old mid t));
  step = (t.step.0, ap f t.step.1);
}

tears : (n at count : ℕ) (Q : Log → Type 0) (g : Log → Log) (old mid new : Image) → Turns n (Made Q g) old mid → Tears n at count mid new → Turns n (TornFrom Q g at count) old new
tears n at count Q g old mid new t torn =
    let here = there_now n (Made Q g) old mid t in
    let range : IsTorn at count t.now.bytes torn.bytes = subst (λ (o : Option Log). IfSome o (λ log. IsTorn at count log.bytes torn.bytes)) here torn.range in
    record {
      was = t.was;
      now = after_torn_write at count torn.bytes t.now;
      there = t.there;
      image = put_over n (after_torn_write at count torn.bytes t.now) (Made Q g) old mid new t (torn.image ∙ ap (λ (o : Option Log). record mid { logs = put n (option_map (after_torn_write at count torn.bytes) o) mid.logs }) here);
      step = (t.step.0, (torn.bytes, subst (λ (l : Log). IsTorn at count l.bytes torn.bytes) t.step.1 range, ap (after_torn_write at count torn.bytes) t.step.1));
    }

-- ---- what is told

along_then : {A : Type 0} (R S T : A → A → Type 0) (a b c : Option A) → ((x y z : A) → R x y → S y z → T x z) → Along R a b → Along S b c → Along T a c
along_then R S T None None None step p q = tt
along_then R S T None None (Some z) step p q = absurd q
along_then R S T None (Some y) c step p q = absurd p
along_then R S T (Some x) None c step p q = absurd p
along_then R S T (Some x) (Some y) None step p q = absurd q
along_then R S T (Some x) (Some y) (Some z) step p q = step x y z p q

along_map : {A : Type 0} (R T : A → A → Type 0) (a b : Option A) → ((x y : A) → R x y → T x y) → Along R a b → Along T a b
along_map R T None None step p = tt
along_map R T None (Some y) step p = absurd p
along_map R T (Some x) None step p = absurd p
along_map R T (Some x) (Some y) step p = step x y p

pub told_begins : (n : ℕ) (Q : Log → Type 0) (told : Option Image) → LogSays told n Q → Along (Turns n (Made Q (λ l. l))) told told
told_begins n Q None says = tt
told_begins n Q (Some image) says = begins n Q image (image.logs n) refl says

pub told_makes : (n : ℕ) (Q : Log → Type 0) (f g : Log → Log) (old mid new : Option Image) → Along (Turns n (Made Q g)) old mid → Becomes (with_log n f) mid new → Along (Turns n (Made Q (λ l. f (g l)))) old new
told_makes n Q f g old mid new t is = along_then (Turns n (Made Q g)) (λ x y. y ≡ with_log n f x) (Turns n (Made Q (λ l. f (g l)))) old mid new (makes n Q f g) t is

pub told_tears : (n at count : ℕ) (Q : Log → Type 0) (g : Log → Log) (old mid new : Option Image) → Along (Turns n (Made Q g)) old mid → Along (Tears n at count) mid new → Along (Turns n (TornFrom Q g at count)) old new
told_tears n at count Q g old mid new t torn = along_then (Turns n (Made Q g)) (Tears n at count) (Turns n (TornFrom Q g at count)) old mid new (tears n at count Q g) t torn

pub told_only : (n : ℕ) (P : Log → Log → Type 0) (old new : Option Image) → Along (Turns n P) old new → Along (OnlyLog n) old new
told_only n P old new t = along_map (Turns n P) (OnlyLog n) old new (λ x y t. (t.now, t.image)) t

-- what is true of the log from before, and of how it changed, says what is true of it now
pub told_says : (n : ℕ) (P : Log → Log → Type 0) (Q R : Log → Type 0) (old new : Option Image) → ((was now : Log) → P was now → Q was → R now) → Along (Turns n P) old new → LogSays old n Q → LogSays new n R
told_says n P Q R None None step t says = tt
told_says n P Q R None (Some y) step t says = absurd t
told_says n P Q R (Some x) None step t says = absurd t
told_says n P Q R (Some x) (Some y) step t says =
    let before : Q t.was = subst (λ (o : Option Log). IsSomeAnd o Q) t.there says in
    subst (λ (o : Option Log). IsSomeAnd o R) (sym (there_now n P x y t)) (step t.was t.now t.step before)

-- the log was made into this, all else is as it was
image_of : (n : ℕ) (Q : Log → Type 0) (f h : Log → Log) (x y : Image) → ((l : Log) → Q l → f l ≡ h l) → Turns n (Made Q f) x y → y ≡ with_log n h x
image_of n Q f h x y same t =
    t.image ∙ ap (λ (l : Log). record x { logs = put n (Some l) x.logs }) (t.step.1 ∙ same t.was t.step.0)
    ∙ ap (λ (o : Option Log). record x { logs = put n (option_map h o) x.logs }) (sym t.there)

pub told_becomes : (n : ℕ) (Q : Log → Type 0) (f h : Log → Log) (old new : Option Image) → ((l : Log) → Q l → f l ≡ h l) → Along (Turns n (Made Q f)) old new → Becomes (with_log n h) old new
told_becomes n Q f h old new same t = along_map (Turns n (Made Q f)) (λ x y. y ≡ with_log n h x) old new (λ x y t. image_of n Q f h x y same t) t

-- a log that was made is there
pub told_created : (n : ℕ) (R : Log → Type 0) (old new : Option Image) → R new_log → Becomes (after_log_create n) old new → LogSays new n R
told_created n R None None r is = tt
told_created n R None (Some y) r is = absurd is
told_created n R (Some x) None r is = absurd is
told_created n R (Some x) (Some y) r is =
    let here : y.logs n ≡ Some new_log = ap (λ (image : Image). image.logs n) is ∙ put_at n (Some new_log) x.logs in
    subst (λ (o : Option Log). IsSomeAnd o R) (sym here) r

-- What is said of an image, where it is told, before a call and after it.
use Rattle.std.proofs.Common.{◌≡◌, ℕ, Option, Some, None, refl, sym, subst}
use Rattle.std.specs.Prelude.{IfSome}
use Rattle.td_outside.specs.Image.{Image, Along}
use Rattle.td_active.specs.Standing.{KeepsStanding}

-- what was said of the one image is said in another way of the other, since it stands so to the first
pub carry : (R : Image → Image → Type 0) (P Q : Image → Type 0) (old new : Option Image) → ((a b : Image) → R a b → P a → Q b) → Along R old new → IfSome old P → IfSome new Q
carry R P Q None None f r p = tt
carry R P Q (Some a) (Some b) f r p = f a b r p
carry R P Q None (Some b) f r p = absurd r
carry R P Q (Some a) None f r p = absurd r

-- images stand in another way to one another
pub along : (R Q : Image → Image → Type 0) (old new : Option Image) → ((a b : Image) → R a b → Q a b) → Along R old new → Along Q old new
along R Q None None f r = tt
along R Q (Some a) (Some b) f r = f a b r
along R Q None (Some b) f r = absurd r
along R Q (Some a) None f r = absurd r

-- what is told is the same
pub same_said : (P : Image → Type 0) (old new : Option Image) → new ≡ old → IfSome old P → IfSome new P
same_said P old new same p = subst (λ (o : Option Image). IfSome o P) (sym same) p

pub still_stands : (version : ℕ) (told : Option Image) → Along (KeepsStanding version) told told
still_stands version None = tt
still_stands version (Some x) = record { stands = λ s is stands. stands; files = refl; readers = refl }

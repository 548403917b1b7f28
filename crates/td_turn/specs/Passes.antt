-- What contracts see of a turn, of a pass, and of the value while it is held.
use Rattle.std.specs.Prelude.{◌≡◌, ℕ, zero, suc, ◌+◌, Bool, true, false, ◌==◌, nat_lt, List, [], ◌∷◌, ◌++◌, length, Option}
use Rattle.std.specs.Prelude.{Some, refl}
use Rattle.std.specs.Coded.{Coded, code_by, coded×, coded_ℕ, coded_list, coded_option}
use Rattle.atomic_table.specs.Seated.{TableId, table_id_coded}

-- a turn: its name, which no other turn has, and the base of its value
pub record TurnShown (B : Type 0) : Type 0 where
  pub name : TableId
  pub base : B

-- a pass: its turn's name and base, the entries that its holder has seen, the versions that it notes, and its parts
pub record PassShown (B E : Type 0) : Type 0 where
  pub name : TableId
  pub base : Option B
  pub seen : List E
  pub versions : List ℕ
  pub parts : ℕ

-- the value while it is held, its list as it was taken, and what the pass notes meanwhile
pub record HeldShown (S B E : Type 0) : Type 0 where
  pub name : TableId
  pub base : Option B
  pub taken : List E
  pub versions : List ℕ
  pub parts : ℕ
  pub value : S

abbrev pub coded_turn : {B : Type 0} → Coded B → Coded (TurnShown B)
coded_turn {B} b =
    code_by (TableId × B) (coded× table_id_coded b) (λ t. (t.name, t.base)) (λ p. record { name = p.0; base = p.1 })
    (λ _. refl)

abbrev pub coded_notes : {B E : Type 0} → Coded B → Coded E → Coded (Option B × (List E × (List ℕ × ℕ)))
coded_notes b e = coded× (coded_option b) (coded× (coded_list e) (coded× (coded_list coded_ℕ) coded_ℕ))

abbrev pub coded_pass : {B E : Type 0} → Coded B → Coded E → Coded (PassShown B E)
coded_pass {B} {E} b e =
    code_by (TableId × (Option B × (List E × (List ℕ × ℕ)))) (coded× table_id_coded (coded_notes b e))
    (λ p. (p.name, (p.base, (p.seen, (p.versions, p.parts)))))
    (λ q. record { name = q.0; base = q.1.0; seen = q.1.1.0; versions = q.1.1.1.0; parts = q.1.1.1.1 })
    (λ _. refl)

abbrev pub coded_held : {S B E : Type 0} → Coded S → Coded B → Coded E → Coded (HeldShown S B E)
coded_held {S} {B} {E} s b e =
    code_by ((TableId × S) × (Option B × (List E × (List ℕ × ℕ)))) (coded× (coded× table_id_coded s) (coded_notes b e))
    (λ h. ((h.name, h.value), (h.base, (h.taken, (h.versions, h.parts)))))
    (λ q. record {
      name = q.0.0;
      base = q.1.0;
      taken = q.1.1.0;
      versions = q.1.1.1.0;
      parts = q.1.1.1.1;
      value = q.0.1;
    })
    (λ _. refl)

-- the pass is of this turn
abbrev pub IsPassOf : {B E : Type 0} → TurnShown B → PassShown B E → Type 0
IsPassOf turn pass = (pass.name ≡ turn.name) × (pass.base ≡ Some turn.base)

-- the value is held by this turn
abbrev pub IsHeldOf : {S B E : Type 0} → TurnShown B → HeldShown S B E → Type 0
IsHeldOf turn held = (held.name ≡ turn.name) × (held.base ≡ Some turn.base)

-- the list goes on by n entries
abbrev pub GoesOn : {E : Type 0} → ℕ → List E → List E → Type 0
GoesOn {E} n before after = (more : List E) × (after ≡ before ++ more) × (length more ≡ n)

-- n numbers in a row
abbrev pub numbers_from : ℕ → ℕ → List ℕ
numbers_from k zero = []
numbers_from k (suc n) = k ∷ numbers_from (suc k) n

-- the n versions after k
abbrev pub versions_after : ℕ → ℕ → List ℕ
versions_after k n = numbers_from (suc k) n

abbrev pub one_if : Bool → ℕ
one_if true = 1
one_if false = 0

-- how often the number stands in the list
abbrev pub times : ℕ → List ℕ → ℕ
times x [] = 0
times x (y ∷ ys) = one_if (y == x) + times x ys

-- the second where the test holds, and else the first
abbrev pub second_if : {E : Type 0} → Bool → List E → List E → List E
second_if true xs ys = ys
second_if false xs ys = xs

-- the longer of two lists, and the other
abbrev pub longer : {E : Type 0} → List E → List E → List E
longer xs ys = second_if (nat_lt (length xs) (length ys)) xs ys

abbrev pub shorter : {E : Type 0} → List E → List E → List E
shorter xs ys = second_if (nat_lt (length xs) (length ys)) ys xs

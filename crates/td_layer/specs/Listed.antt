-- A list beside its spare room.
use Rattle.std.specs.Prelude.{ℕ, List, refl}
use Rattle.std.specs.Coded.{Coded, coded_list, coded×, coded_ℕ, code_by}

-- the items, and how many more it takes without further memory
pub record Listed (T : Type 0) : Type 0 where
  pub items : List T
  pub spare : ℕ

abbrev pub coded_listed : {T : Type 0} → Coded T → Coded (Listed T)
coded_listed {T} c =
    code_by (List T × ℕ) (coded× (coded_list c) coded_ℕ) (λ s. (s.items, s.spare))
    (λ p. record { items = p.0; spare = p.1 }) (λ _. refl)

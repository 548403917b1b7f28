-- Groups whose rows are summed up.
use Rattle.std.specs.Prelude.{◌≡◌, ◌<◌, ℕ, Bool, true, ◌&&◌, nat_lt, List, [], ◌∷◌, Option}
use Rattle.std.specs.BTreeMap.{BTreeMap}
use Rattle.std.specs.List.{AllByRecursion}
use Rattle.td_query.specs.Sums.{Sum}
use Rattle.td_query.specs.Summed.{AreSums}
use Rattle.td_query.specs.declared.frames.Frame.{Frame}
use Rattle.td_query.specs.declared.groups.Gathered.{Gathered}
use Rattle.td_verdict.specs.Groups.{Listed, Grouped}

-- a group of sums by the ends of windows
abbrev pub WithSums : Type 0
WithSums = Gathered (BTreeMap ℕ Sum)

-- what is kept of a group's rows are their sums
pub record IsSummed (f : Frame) (places : List (Option ℕ)) (c : WithSums) (g : Grouped) : Type 0 where
  pub part : c.part ≡ g.part
  pub sums : AreSums f places c.kept g.rows

abbrev pub AreSummed : Frame → List (Option ℕ) → List WithSums → List Grouped → Type 0
AreSummed f places [] [] = Unit {0}
AreSummed f places [] (g ∷ gs) = ⊥
AreSummed f places (c ∷ cs) [] = ⊥
AreSummed f places (c ∷ cs) (g ∷ gs) = IsSummed f places c g × AreSummed f places cs gs

-- whether numbers rise
abbrev pub rises_after : ℕ → List ℕ → Bool
rises_after n [] = true
rises_after n (m ∷ ms) = nat_lt n m && rises_after m ms

abbrev pub rises : List ℕ → Bool
rises [] = true
rises (n ∷ ns) = rises_after n ns

-- the numbers of tables rise
abbrev pub TablesRise : List Listed → Type 0
TablesRise [] = Unit {0}
TablesRise (t ∷ ts) = AllByRecursion (λ (u : Listed). t.number < u.number) ts × TablesRise ts

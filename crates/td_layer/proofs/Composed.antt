-- Compositions: what they do, that they are associative, and their unit.
use Rattle.std.proofs.Common.{◌≡◌, ℕ, suc, Bool, true, false, List, [], ◌∷◌, length, Option, Some, None, refl, ap, arith}
use Rattle.std.specs.Prelude.{if◌then◌else◌}
use Rattle.td_layer.specs.declared.values.Value.{Value}
use Rattle.td_layer.specs.declared.values.Value.TheVariants.{Null}
use Rattle.td_layer.specs.declared.values.Row.{Row}
use Rattle.td_layer.specs.declared.parts.Partial.{Partial}
use Rattle.td_layer.specs.declared.parts.Part.{Part}
use Rattle.td_layer.specs.Parts.{over, lay, act, cell_over, cells_over, put_over, composed, no_part, HaveOneWidth}

shorter : (m n : ℕ) → suc m ≡ suc n → m ≡ n
shorter m n w = omega (arith, w)

pub over-cells_over : (cs ds : List (Option Value)) (vs : List Value) → length cs ≡ length ds → over (cells_over cs ds) vs ≡ over cs (over ds vs)
over-cells_over [] [] vs w = refl
over-cells_over [] (d ∷ ds) vs w = absurd (omega (arith, w))
over-cells_over (c ∷ cs) [] vs w = absurd (omega (arith, w))
over-cells_over (Some v ∷ cs) (Some u ∷ ds) [] w = ap (λ t. v ∷ t) (over-cells_over cs ds [] (shorter (length cs) (length ds) w))
over-cells_over (Some v ∷ cs) (None ∷ ds) [] w = ap (λ t. v ∷ t) (over-cells_over cs ds [] (shorter (length cs) (length ds) w))
over-cells_over (None ∷ cs) (Some u ∷ ds) [] w = ap (λ t. u ∷ t) (over-cells_over cs ds [] (shorter (length cs) (length ds) w))
over-cells_over (None ∷ cs) (None ∷ ds) [] w = ap (λ t. Null ∷ t) (over-cells_over cs ds [] (shorter (length cs) (length ds) w))
over-cells_over (Some v ∷ cs) (Some u ∷ ds) (x ∷ vs) w = ap (λ t. v ∷ t) (over-cells_over cs ds vs (shorter (length cs) (length ds) w))
over-cells_over (Some v ∷ cs) (None ∷ ds) (x ∷ vs) w = ap (λ t. v ∷ t) (over-cells_over cs ds vs (shorter (length cs) (length ds) w))
over-cells_over (None ∷ cs) (Some u ∷ ds) (x ∷ vs) w = ap (λ t. u ∷ t) (over-cells_over cs ds vs (shorter (length cs) (length ds) w))
over-cells_over (None ∷ cs) (None ∷ ds) (x ∷ vs) w = ap (λ t. x ∷ t) (over-cells_over cs ds vs (shorter (length cs) (length ds) w))

lay-put_over : (p q : Partial) (row : Option Row) → length p.cells ≡ length q.cells → lay (record { birth = q.birth; cells = cells_over p.cells q.cells }) row ≡ lay p (Some (lay q row))
lay-put_over p q None w = ap (λ vs. record { birth = q.birth; values = vs }) (over-cells_over p.cells q.cells [] w)
lay-put_over p q (Some r) w = ap (λ vs. record { birth = r.birth; values = vs }) (over-cells_over p.cells q.cells r.values w)

abbrev part : Bool → Option Partial → Part
part cut put = record { cut = cut; put = put }

pub acts : (uc : Bool) (up : Option Partial) (dc : Bool) (dp : Option Partial) (row : Option Row) → HaveOneWidth up dp → act (composed (part uc up) (part dc dp)) row ≡ act (part uc up) (act (part dc dp) row)
acts true up dc dp row w = refl
acts false None dc dp row w = refl
acts false (Some p) dc None row w = refl
acts false (Some p) dc (Some q) row w = ap Some (lay-put_over p q (if dc then None else row) w)

cell_over-assoc : (a b c : Option Value) → cell_over (cell_over a b) c ≡ cell_over a (cell_over b c)
cell_over-assoc None b c = refl
cell_over-assoc (Some v) b c = refl

cells_over-assoc : (a b c : List (Option Value)) → cells_over (cells_over a b) c ≡ cells_over a (cells_over b c)
cells_over-assoc [] b c = refl
cells_over-assoc (x ∷ a) [] c = refl
cells_over-assoc (x ∷ a) (y ∷ b) [] = refl
cells_over-assoc (x ∷ a) (y ∷ b) (z ∷ c) = rw (cell_over-assoc x y z) (ap (λ t. cell_over x (cell_over y z) ∷ t) (cells_over-assoc a b c))

put_over-assoc : (a b c : Option Partial) → put_over (put_over a b) c ≡ put_over a (put_over b c)
put_over-assoc None b c = refl
put_over-assoc (Some p) None c = refl
put_over-assoc (Some p) (Some q) None = refl
put_over-assoc (Some p) (Some q) (Some r) = ap (λ cells. Some (record { birth = r.birth; cells = cells })) (cells_over-assoc p.cells q.cells r.cells)

pub associates : (ac : Bool) (ap' : Option Partial) (bc : Bool) (bp : Option Partial) (c : Part) → composed (composed (part ac ap') (part bc bp)) c ≡ composed (part ac ap') (composed (part bc bp) c)
associates true a bc b c = refl
associates false a true b c = refl
associates false a false b c = ap (λ put. record { cut = c.cut; put = put }) (put_over-assoc a b c.put)

pub unit_under : (cut : Bool) (put : Option Partial) → composed (part cut put) no_part ≡ part cut put
unit_under true put = refl
unit_under false None = refl
unit_under false (Some p) = refl

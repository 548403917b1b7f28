-- Puts of one cell stay so.
use Rattle.std.proofs.Common.{◌≡◌, ℕ, Bool, true, false, List, [], ◌∷◌, length, Option, Some, None, refl, sym, ◌∙◌, arith}
use Rattle.std.specs.Prelude.{IfSome, nat_le, not, if◌then◌else◌}
use Rattle.std.specs.BTreeMap.{is_at}
use Rattle.td_layer.specs.declared.values.Key.{Key}
use Rattle.td_layer.specs.declared.values.Value.{Value}
use Rattle.td_layer.specs.declared.parts.Partial.{Partial}
use Rattle.td_layer.specs.Keys.{key_cmp}
use Rattle.td_layer.specs.Parts.{cells_over}
use Rattle.td_memtree.specs.Keys.{item_at}
use Rattle.td_memtree.specs.Within.{is_within}
use Rattle.td_memtable.specs.Contents.{Contents, put_on, with_put, with_cut, key_at}
use Rattle.td_memtable.proofs.Kept.{all-put, all-filter, found}
use Rattle.td_memtable_cases.specs.Narrow.{HaveOneCell}

as_wide : (o : Option Partial) (n : ℕ) → n ≡ 1 → IfSome o (λ (q : Partial). length q.cells ≡ 1) → IfSome o (λ (q : Partial). n ≡ length q.cells)
as_wide None n a b = tt
as_wide (Some q) n a b = a ∙ sym b

pub one_width : (puts : List (Key × Partial)) (key : Key) (cells : List (Option Value)) → HaveOneCell puts → length cells ≡ 1 → IfSome (item_at key puts) (λ (q : Partial). length cells ≡ length q.cells)
one_width puts key cells a w = as_wide (item_at key puts) (length cells) w (found (is_at (key_cmp key)) (λ (q : Partial). length q.cells ≡ 1) puts a)

over_one : (cs ds : List (Option Value)) → length cs ≡ 1 → length ds ≡ 1 → length (cells_over cs ds) ≡ 1
over_one [] ds a b = b
over_one (c ∷ []) [] a b = a
over_one (c ∷ []) (d ∷ []) a b = refl
over_one (c ∷ []) (d ∷ e ∷ ds) a b = absurd (omega (arith, b))
over_one (c ∷ e ∷ cs) ds a b = absurd (omega (arith, a))

on_one : (p : Partial) (o : Option Partial) → length p.cells ≡ 1 → IfSome o (λ (q : Partial). length q.cells ≡ 1) → length (put_on p o).cells ≡ 1
on_one p None a b = a
on_one p (Some q) a b = over_one p.cells q.cells a b

pub one_after_put : (m new : Contents) (key : Key) (p : Partial) → HaveOneCell m.puts → length p.cells ≡ 1 → new ≡ with_put key p m → HaveOneCell new.puts
one_after_put m new key p a w e =
    let one = on_one p (item_at key m.puts) w (found (is_at (key_cmp key)) (λ (q : Partial). length q.cells ≡ 1) m.puts a) in
    rw e (all-put key_cmp (λ (e : Key × Partial). length e.1.cells ≡ 1) m.puts key _ one (λ j h. one) a)

chosen : (b : Bool) (x y : Contents) → HaveOneCell x.puts → HaveOneCell y.puts → HaveOneCell (if b then x else y).puts
chosen true x y f g = f
chosen false x y f g = g

pub one_after_cut : (m new : Contents) (table lo hi : ℕ) → HaveOneCell m.puts → new ≡ with_cut table lo hi m → HaveOneCell new.puts
one_after_cut m new table lo hi a e =
    let fewer = all-filter (λ (e : Key × Partial). length e.1.cells ≡ 1) (λ (e : Key × Partial). not (is_within (key_at table lo) (key_at table hi) e.0)) m.puts a in
    rw e (chosen (nat_le lo hi) _ _ fewer a)

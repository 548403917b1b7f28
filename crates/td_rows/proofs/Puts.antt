-- Puts made one after another.
use Rattle.std.proofs.Common.{◌≡◌, ℕ, ◌+◌, suc, ◌<◌, List, ◌∷◌, length, drop, get_or, refl, sym, ap, ◌∙◌, add-one}
use Rattle.std.proofs.Math.Seq.{drop-cons}
use Rattle.td_model.specs.declared.history.Put.{Put}
use Rattle.td_model.specs.State.{Rows}
use Rattle.td_rows.specs.Puts.{row_after, rows_after}

-- one more put is made
pub after_more : (moment : ℕ) (puts : List Put) (i : ℕ) (p : Put) (rows new : Rows) → i < length puts → p ≡ get_or puts i p → new ≡ row_after moment p rows
    → rows_after moment (drop (i + 1) puts) new ≡ rows_after moment (drop i puts) rows
after_more moment puts i p rows new l is made =
    let split : drop i puts ≡ p ∷ drop (suc i) puts = drop-cons puts i p l ∙ ap (λ x. x ∷ drop (suc i) puts) (sym is) in
    rw (add-one, split, made) refl

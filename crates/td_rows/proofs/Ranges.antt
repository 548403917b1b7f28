-- The rows of a range of a table, and the others, among rows in the order of their keys.
use Rattle.std.proofs.Common.{◌≡◌, ℕ, not, filter, ap, arith}
use Rattle.std.proofs.lemmas.Bool.Decides.{nat_tests}
use Rattle.std.proofs.lemmas.List.Elements.{filter_agree}
use Rattle.td_memtree.specs.Within.{is_within, pairs_within, pairs_without}
use Rattle.td_layer.specs.declared.values.Key.{Key}
use Rattle.td_layer.specs.declared.values.Row.{Row}
use Rattle.td_model.specs.State.{Rows, is_cut}

within_is : (table lo hi : ℕ) (k : Key) → is_within (record { table = table; ts = lo }) (record { table = table; ts = hi }) k ≡ is_cut table lo hi k
within_is table lo hi k = grind (arith, nat_tests)

pub pairs_within_is : (table lo hi : ℕ) (tree rows : Rows) → tree ≡ rows → pairs_within (record { table = table; ts = lo }) (record { table = table; ts = hi }) tree ≡ filter (λ e. is_cut table lo hi e.0) rows
pairs_within_is table lo hi tree rows is =
    rw is (filter_agree (λ (e : Key × Row). is_within (record { table = table; ts = lo }) (record { table = table; ts = hi }) e.0) (λ (e : Key × Row). is_cut table lo hi e.0) (λ e. within_is table lo hi e.0) rows)

pub pairs_without_is : (table lo hi : ℕ) (tree rows : Rows) → tree ≡ rows → pairs_without (record { table = table; ts = lo }) (record { table = table; ts = hi }) tree ≡ filter (λ e. not (is_cut table lo hi e.0)) rows
pairs_without_is table lo hi tree rows is =
    rw is (filter_agree (λ (e : Key × Row). not (is_within (record { table = table; ts = lo }) (record { table = table; ts = hi }) e.0)) (λ (e : Key × Row). not (is_cut table lo hi e.0)) (λ e. ap not (within_is table lo hi e.0)) rows)

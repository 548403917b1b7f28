-- The order of keys.
use Rattle.std.proofs.Common.{◌≡◌}
use Rattle.std.specs.Cmp.{IsTotalOrder}
use Rattle.std.specs.declared.cmp.Ordering.TheVariants.{Equal}
use Rattle.std.proofs.lemmas.Cmp.{nat_cmp_total, on_total, then_total, tied_itself}
use Rattle.td_layer.specs.declared.values.Key.{Key}
use Rattle.td_model.specs.State.{key_cmp}

pub keys_total : IsTotalOrder {K = Key} key_cmp
keys_total = then_total (on_total (λ (k : Key). k.table) nat_cmp_total) (on_total (λ (k : Key). k.ts) nat_cmp_total)

pub same_key : (key : Key) → key_cmp key key ≡ Equal
same_key key = tied_itself keys_total key

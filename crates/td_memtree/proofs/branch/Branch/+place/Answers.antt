use Rattle.std.proofs.Common.{ℕ, List, refl, sym, ap, ◌∙◌, subst}
use Rattle.td_layer.specs.declared.values.Key.{Key}
use Rattle.td_memtree.specs.Keys.{with_item}
use Rattle.td_memtree.specs.Branches.{MayGrow}
use Rattle.td_memtree.proofs.AtFork.{at_fork, at_leaf}
use Rattle.td_memtree.proofs.Leaves.{leaf_put}
use Rattle.td_memtree.proofs.Puts.{put_left, put_right, grown_right}
use Rattle.td_memtree.proofs.branch.Branch.+place.Goals as goal

pub invariant_of-self-then-len-lt-LEAF_PAIRS : goal.invariant_of-self-then-len-lt-LEAF_PAIRS
invariant_of-self-then-len-lt-LEAF_PAIRS g t c =
    let here = at_leaf c.self.view_is c.self.invariant c.in-OfLeaf.is c.in-Some.ensures.value in
    leaf_put here c.args.key c.args.item.value c.requires _ c.in_ok-put_here-in-OfLeaf.ensures.ok

pub recount-requires-clause-parted : goal.recount-requires-clause-parted
recount-requires-clause-parted g t c =
    let here = at_fork c.self.view_is c.self.invariant c.in-OfFork.is c.in-Some-get_mut.ensures.value in
    let put = put_left here c.args.key c.args.item.value c.requires c.place.new.self _ (sym c.cmp.ensures ∙ c.in-Less.is) c.in_ok-place-in-Less.ensures.pairs c.in_ok-place-in-Less.ensures.forks refl in
    put.parted

pub recount-requires-clause-fits : goal.recount-requires-clause-fits
recount-requires-clause-fits g t c =
    let here = at_fork c.self.view_is c.self.invariant c.in-OfFork.is c.in-Some-get_mut.ensures.value in
    let put = put_left here c.args.key c.args.item.value c.requires c.place.new.self _ (sym c.cmp.ensures ∙ c.in-Less.is) c.in_ok-place-in-Less.ensures.pairs c.in_ok-place-in-Less.ensures.forks refl in
    put.fits

pub returns-then-may_grow-clause-pairs : goal.returns-then-may_grow-clause-pairs
returns-then-may_grow-clause-pairs g t c =
    let here = at_fork c.self.view_is c.self.invariant c.in-OfFork.is c.in-Some-get_mut.ensures.value in
    let put = put_left here c.args.key c.args.item.value c.requires c.place.new.self _ (sym c.cmp.ensures ∙ c.in-Less.is) c.in_ok-place-in-Less.ensures.pairs c.in_ok-place-in-Less.ensures.forks refl in
    rw (c.recount.ensures.left, c.recount.ensures.right) put.is

pub recount-requires-then-may_grow-2-clause-parted : goal.recount-requires-then-may_grow-2-clause-parted
recount-requires-then-may_grow-2-clause-parted g t c =
    let here = at_fork c.self.view_is c.self.invariant c.in-OfFork.is c.in-Some-get_mut.ensures.value in
    let put = put_right here c.args.key c.args.item.value c.requires _ c.place-then-may_grow-2.new.self _ (sym c.cmp.ensures) c.in-Equal.is refl (c.in_ok-place-in-Equal.ensures.pairs ∙ ap (λ (b : List (Key × _) × ℕ). with_item c.args.key c.args.item.value b.0) c.turn_left.ensures) (subst (λ (b : List (Key × _) × ℕ). MayGrow b.1 c.place-then-may_grow-2.new.self.1) c.turn_left.ensures c.in_ok-place-in-Equal.ensures.forks) in
    put.parted

pub recount-requires-then-may_grow-2-clause-balanced : goal.recount-requires-then-may_grow-2-clause-balanced
recount-requires-then-may_grow-2-clause-balanced g t c =
    let here = at_fork c.self.view_is c.self.invariant c.in-OfFork.is c.in-Some-get_mut.ensures.value in
    grown_right here c.args.key c.args.item.value c.requires c.place-then-may_grow-2.new.self (subst (λ (b : List (Key × _) × ℕ). MayGrow b.1 c.place-then-may_grow-2.new.self.1) c.turn_left.ensures c.in_ok-place-in-Equal.ensures.forks) (sym c.may_grow-in-Equal.ensures ∙ c.if-may_grow-2.true)

pub recount-requires-then-may_grow-2-clause-fits : goal.recount-requires-then-may_grow-2-clause-fits
recount-requires-then-may_grow-2-clause-fits g t c =
    let here = at_fork c.self.view_is c.self.invariant c.in-OfFork.is c.in-Some-get_mut.ensures.value in
    let put = put_right here c.args.key c.args.item.value c.requires _ c.place-then-may_grow-2.new.self _ (sym c.cmp.ensures) c.in-Equal.is refl (c.in_ok-place-in-Equal.ensures.pairs ∙ ap (λ (b : List (Key × _) × ℕ). with_item c.args.key c.args.item.value b.0) c.turn_left.ensures) (subst (λ (b : List (Key × _) × ℕ). MayGrow b.1 c.place-then-may_grow-2.new.self.1) c.turn_left.ensures c.in_ok-place-in-Equal.ensures.forks) in
    put.fits

pub returns-then-may_grow-2-clause-pairs : goal.returns-then-may_grow-2-clause-pairs
returns-then-may_grow-2-clause-pairs g t c =
    let here = at_fork c.self.view_is c.self.invariant c.in-OfFork.is c.in-Some-get_mut.ensures.value in
    let put = put_right here c.args.key c.args.item.value c.requires _ c.place-then-may_grow-2.new.self _ (sym c.cmp.ensures) c.in-Equal.is refl (c.in_ok-place-in-Equal.ensures.pairs ∙ ap (λ (b : List (Key × _) × ℕ). with_item c.args.key c.args.item.value b.0) c.turn_left.ensures) (subst (λ (b : List (Key × _) × ℕ). MayGrow b.1 c.place-then-may_grow-2.new.self.1) c.turn_left.ensures c.in_ok-place-in-Equal.ensures.forks) in
    rw (c.recount-then-may_grow-2.ensures.left, c.recount-then-may_grow-2.ensures.right) put.is

pub returns-then-may_grow-2-clause-forks : goal.returns-then-may_grow-2-clause-forks
returns-then-may_grow-2-clause-forks g t c =
    let here = at_fork c.self.view_is c.self.invariant c.in-OfFork.is c.in-Some-get_mut.ensures.value in
    let put = put_right here c.args.key c.args.item.value c.requires _ c.place-then-may_grow-2.new.self _ (sym c.cmp.ensures) c.in-Equal.is refl (c.in_ok-place-in-Equal.ensures.pairs ∙ ap (λ (b : List (Key × _) × ℕ). with_item c.args.key c.args.item.value b.0) c.turn_left.ensures) (subst (λ (b : List (Key × _) × ℕ). MayGrow b.1 c.place-then-may_grow-2.new.self.1) c.turn_left.ensures c.in_ok-place-in-Equal.ensures.forks) in
    rw (c.recount-then-may_grow-2.ensures.left, c.recount-then-may_grow-2.ensures.right) put.grown

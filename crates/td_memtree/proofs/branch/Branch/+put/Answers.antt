use Rattle.std.proofs.Common.{sym, ◌∙◌}
use Rattle.td_memtree.proofs.AtFork.{at_fork}
use Rattle.td_memtree.proofs.Puts.{put_left, put_right}
use Rattle.td_memtree.proofs.branch.Branch.+put.Goals as goal

pub balance-requires-clause-parted : goal.balance-requires-clause-parted
balance-requires-clause-parted g t c =
    let here = at_fork c.self.view_is c.self.invariant c.in-OfFork.is c.deref-fork.ensures in
    let put = put_left here c.args.key c.args.item.value c.requires _ _ (sym c.cmp.ensures ∙ c.in-Less.is) c.in_ok-left-in-Less.ensures.pairs c.in_ok-left-in-Less.ensures.forks c.in_ok-right-in-Less.ensures in
    put.parted

pub balance-requires-in-Equal-clause-parted : goal.balance-requires-in-Equal-clause-parted
balance-requires-in-Equal-clause-parted g t c =
    let here = at_fork c.self.view_is c.self.invariant c.in-OfFork.is c.deref-fork.ensures in
    let put = put_right here c.args.key c.args.item.value c.requires _ _ _ (sym c.cmp.ensures) c.in-Equal.is c.in_ok-left-in-Equal.ensures c.in_ok-right-in-Equal.ensures.pairs c.in_ok-right-in-Equal.ensures.forks in
    put.parted

pub balance-requires-clause-nearly : goal.balance-requires-clause-nearly
balance-requires-clause-nearly g t c =
    let here = at_fork c.self.view_is c.self.invariant c.in-OfFork.is c.deref-fork.ensures in
    let put = put_left here c.args.key c.args.item.value c.requires _ _ (sym c.cmp.ensures ∙ c.in-Less.is) c.in_ok-left-in-Less.ensures.pairs c.in_ok-left-in-Less.ensures.forks c.in_ok-right-in-Less.ensures in
    put.nearly

pub balance-requires-in-Equal-clause-nearly : goal.balance-requires-in-Equal-clause-nearly
balance-requires-in-Equal-clause-nearly g t c =
    let here = at_fork c.self.view_is c.self.invariant c.in-OfFork.is c.deref-fork.ensures in
    let put = put_right here c.args.key c.args.item.value c.requires _ _ _ (sym c.cmp.ensures) c.in-Equal.is c.in_ok-left-in-Equal.ensures c.in_ok-right-in-Equal.ensures.pairs c.in_ok-right-in-Equal.ensures.forks in
    put.nearly

pub balance-requires-clause-fits : goal.balance-requires-clause-fits
balance-requires-clause-fits g t c =
    let here = at_fork c.self.view_is c.self.invariant c.in-OfFork.is c.deref-fork.ensures in
    let put = put_left here c.args.key c.args.item.value c.requires _ _ (sym c.cmp.ensures ∙ c.in-Less.is) c.in_ok-left-in-Less.ensures.pairs c.in_ok-left-in-Less.ensures.forks c.in_ok-right-in-Less.ensures in
    put.fits

pub balance-requires-in-Equal-clause-fits : goal.balance-requires-in-Equal-clause-fits
balance-requires-in-Equal-clause-fits g t c =
    let here = at_fork c.self.view_is c.self.invariant c.in-OfFork.is c.deref-fork.ensures in
    let put = put_right here c.args.key c.args.item.value c.requires _ _ _ (sym c.cmp.ensures) c.in-Equal.is c.in_ok-left-in-Equal.ensures c.in_ok-right-in-Equal.ensures.pairs c.in_ok-right-in-Equal.ensures.forks in
    put.fits

pub returns-in_ok-done-in-Less-clause-pairs : goal.returns-in_ok-done-in-Less-clause-pairs
returns-in_ok-done-in-Less-clause-pairs g t c =
    let here = at_fork c.self.view_is c.self.invariant c.in-OfFork.is c.deref-fork.ensures in
    let put = put_left here c.args.key c.args.item.value c.requires _ _ (sym c.cmp.ensures ∙ c.in-Less.is) c.in_ok-left-in-Less.ensures.pairs c.in_ok-left-in-Less.ensures.forks c.in_ok-right-in-Less.ensures in
    rw c.in_ok-done-in-Less.ensures put.is

pub returns-in_ok-done-in-Less-clause-forks : goal.returns-in_ok-done-in-Less-clause-forks
returns-in_ok-done-in-Less-clause-forks g t c =
    let here = at_fork c.self.view_is c.self.invariant c.in-OfFork.is c.deref-fork.ensures in
    let put = put_left here c.args.key c.args.item.value c.requires _ _ (sym c.cmp.ensures ∙ c.in-Less.is) c.in_ok-left-in-Less.ensures.pairs c.in_ok-left-in-Less.ensures.forks c.in_ok-right-in-Less.ensures in
    rw c.in_ok-done-in-Less.ensures put.grown

pub returns-in_ok-done-in-Equal-clause-pairs : goal.returns-in_ok-done-in-Equal-clause-pairs
returns-in_ok-done-in-Equal-clause-pairs g t c =
    let here = at_fork c.self.view_is c.self.invariant c.in-OfFork.is c.deref-fork.ensures in
    let put = put_right here c.args.key c.args.item.value c.requires _ _ _ (sym c.cmp.ensures) c.in-Equal.is c.in_ok-left-in-Equal.ensures c.in_ok-right-in-Equal.ensures.pairs c.in_ok-right-in-Equal.ensures.forks in
    rw c.in_ok-done-in-Equal.ensures put.is

pub returns-in_ok-done-in-Equal-clause-forks : goal.returns-in_ok-done-in-Equal-clause-forks
returns-in_ok-done-in-Equal-clause-forks g t c =
    let here = at_fork c.self.view_is c.self.invariant c.in-OfFork.is c.deref-fork.ensures in
    let put = put_right here c.args.key c.args.item.value c.requires _ _ _ (sym c.cmp.ensures) c.in-Equal.is c.in_ok-left-in-Equal.ensures c.in_ok-right-in-Equal.ensures.pairs c.in_ok-right-in-Equal.ensures.forks in
    rw c.in_ok-done-in-Equal.ensures put.grown

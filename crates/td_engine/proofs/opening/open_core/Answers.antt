use Rattle.std.proofs.Common.{◌≡◌, sym, ap, subst, ◌∙◌}
use Rattle.std.specs.Prelude.{Result, Ok, Err, IfOk}
use Rattle.td_opening.specs.declared.causes.OpenCause.{OpenCause}
use Rattle.td_opening.specs.declared.opening.Opened.{Opened}
use Rattle.td_opening.specs.Opening.{IsOpened}
use Rattle.td_engine.specs.CoreState.{seen}
use Rattle.td_engine.proofs.Covering.{core_covers}
use Rattle.td_engine.proofs.opening.open_core.Goals as goal
use Rattle.td_engine.proofs.opening.open_core.Goals.{in-Ok, in-Err}

-- what a call gave, and was kept, is what it promised
given : (given kept : Result Opened OpenCause) (o : Opened) (P : Opened → Type 0) → kept ≡ given → kept ≡ Ok o → IfOk given P → P o
given r kept o P kept_is is p = subst (λ (x : Result Opened OpenCause). IfOk x P) (sym kept_is ∙ is) p

not_given : (kept : Result Opened OpenCause) (cause : OpenCause) (o : Opened) → kept ≡ Err cause → kept ≡ Ok o → ⊥
not_given kept cause o failed is = absurd cc

pub returns-in-Ok-opened-clause-covers : goal.returns-in-Ok-opened-clause-covers
returns-in-Ok-opened-clause-covers g c = λ b opens.
    let told = g.S.Store.told in
    let o = c.in-Ok-opened.opened in
    let e = c.core_of.ensures in
    let core = seen told g.S.Store.count g.C.Clock.readings c.core_of.result in
    let opened : IsOpened (told c.args.store) (told c.match-make_room.store) o = elim c.match-make_room.branch [
      | in-Ok w ↦ subst (λ s. IsOpened (told c.args.store) (told s) o) (sym w.store-is) (given w.open_store-opened.result c.match-make_room.opened o (IsOpened (told c.args.store) (told w.open_store-opened.new.store)) w.opened-is c.in-Ok-opened.is w.open_store-opened.ensures.ok)
      | in-Err w ↦ absurd (not_given c.match-make_room.opened _ o w.opened-is c.in-Ok-opened.is)
    ] in
    core_covers (g.C.Clock.readings c.args.clock) (told c.args.store) (told c.match-make_room.store) o core b opened c.requires (ap told e.store) e.state e.levels e.base (e.journal ∙ c.make_room.ensures.items ∙ c.new-journal.ensures) e.floor (ap g.C.Clock.readings e.clock) e.pins opens

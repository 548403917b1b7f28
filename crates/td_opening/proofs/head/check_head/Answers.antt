use Rattle.std.proofs.Common.{inl, inr, List, length, refl, sym, ap, ◌∙◌}
use Rattle.std.proofs.lemmas.Bool.{eqb-true, true≢false}
use Rattle.std.proofs.lemmas.List.{nil_from_length}
use Rattle.std.specs.Prelude.{nat_eq}
use Rattle.td_manifest.specs.declared.head.HeadStream.{HeadStream}
use Rattle.td_opening.proofs.Lacking.{all_are_listed, unlisted}
use Rattle.td_opening.proofs.head.check_head.Goals as goal

pub returns-in-Some-clause-err : goal.returns-in-Some-clause-err
returns-in-Some-clause-err c = (
  refl,
  inl (
    c.in-Some.index,
    unlisted c.args.head.now c.args.names.now c.in_ok-numbers.numbers c.args.named.now c.requires.named
        c.in_ok-numbers.ensures c.in-Some.index (sym c.first_missing.ensures ∙ c.in-Some.is),
    c.in_ok-at-in-Some.ensures,
  ),
)

pub returns-then-is_empty-clause-ok : goal.returns-then-is_empty-clause-ok
returns-then-is_empty-clause-ok c =
    let h = c.args.head.now in
    record {
      files = all_are_listed h c.args.names.now c.in_ok-numbers.numbers c.args.named.now c.requires.named
          c.in_ok-numbers.ensures (sym c.first_missing.ensures ∙ c.in-None.is);
      no_streams = nil_from_length h.streams (eqb-true (length h.streams) 0 (sym c.is_empty.ensures ∙ c.if-is_empty.true));
    }

pub returns-clause-err : goal.returns-clause-err
returns-clause-err c =
    let h = c.args.head.now in (
      refl,
      inr (
        all_are_listed h c.args.names.now c.in_ok-numbers.numbers c.args.named.now c.requires.named
            c.in_ok-numbers.ensures (sym c.first_missing.ensures ∙ c.in-None.is),
        (λ e. true≢false
            (sym (c.is_empty.ensures ∙ ap (λ (l : List HeadStream). nat_eq (length l) 0) e) ∙ c.if-is_empty.false)),
        c.in_ok-at-in-None.ensures,
      ),
    )

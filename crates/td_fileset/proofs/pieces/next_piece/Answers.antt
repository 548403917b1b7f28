use Rattle.std.proofs.Common.{◌<◌, Some, ◌∙◌, ap, sym, subst, map, min}
use Rattle.td_fileset.specs.Opened.{Readers}
use Rattle.td_fileset.specs.Pieces.{IsPiece}
use Rattle.td_fileset.proofs.Nearest.{none_meets, one_meets}
use Rattle.td_fileset.proofs.pieces.next_piece.Goals as goal

pub returns-then-hi-day_start : goal.returns-then-hi-day_start
returns-then-hi-day_start g c =
    none_meets (map (λ (r : Readers). r.files) c.args.sets.now) c.args.from c.args.hi (c.in-Some.at, c.in-Some.range) c.requires.some
    (subst (λ n. c.args.hi < n) c.day_start.ensures c.if-hi-day_start.true) c.in-Some.ensures

pub returns : goal.returns
returns g c =
    subst (λ n. IsPiece (map (λ (r : Readers). r.files) c.args.sets.now) c.args.from c.args.hi n (Some c.in-Some.at)) (sym (c.min.ensures ∙ ap (min c.args.hi) c.day_end.ensures))
    (one_meets (map (λ (r : Readers). r.files) c.args.sets.now) c.args.from c.args.hi (c.in-Some.at, c.in-Some.range) c.requires.some c.requires.own c.in-Some.ensures)

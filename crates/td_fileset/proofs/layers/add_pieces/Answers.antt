use Rattle.std.proofs.Common.{◌≡◌, ℕ, ◌+◌, ◌∙◌, ◌≤◌, ◌<◌, map, arith}
use Rattle.std.proofs.lemmas.Result.{err_from_is_err_and}
use Rattle.td_fileset.specs.Opened.{Readers, span_of}
use Rattle.td_fileset.proofs.Advanced.{all_added, steps_taken, piece_added, piece_steps, piece_fault}
use Rattle.td_fileset.proofs.layers.add_pieces.Goals as goal

behind : (to hi : ℕ) → to ≡ hi → hi < to + 1
behind to hi e = omega (arith, e)

pub returns-in_err-add_piece-clause-most : goal.returns-in_err-add_piece-clause-most
returns-in_err-add_piece-clause-most g c =
    let was = c.pieces.invariant in
    let span = span_of c.args.span in
    let piece = c.next_piece-piece in
    steps_taken c.args.memtables.now (map (λ (r : Readers). r.files) c.args.sets.now) span c.args.steps.now c.add_piece.new.steps (piece.result.to + 1)
    (piece_steps c.args.memtables.now (map (λ (r : Readers). r.files) c.pieces.sets) (map (λ (r : Readers). r.files) c.args.sets.now) was.files span (span_of c.between-part.result) c.pieces.from piece.result.to piece.result.set piece.ensures (omega arith) c.between-part.ensures
    c.args.steps.now c.pieces.steps c.add_piece.new.steps c.in_err-add_piece.ensures.most was.most)

pub returns-in_err-add_piece-clause-fault : goal.returns-in_err-add_piece-clause-fault
returns-in_err-add_piece-clause-fault g c =
    let was = c.pieces.invariant in
    let span = span_of c.args.span in
    let piece = c.next_piece-piece in
    let p = err_from_is_err_and c.from_residual.result c.from_residual.ensures.1 in
    rw (p.1, p.2)
    (piece_fault c.args.memtables.now (map (λ (r : Readers). r.files) c.pieces.sets) (map (λ (r : Readers). r.files) c.args.sets.now) was.files span (span_of c.between-part.result) c.pieces.from piece.result.to piece.result.set piece.ensures (omega arith) c.between-part.ensures
    _ _ _ c.in_err-add_piece.field-0.0 was.counts c.in_err-add_piece.ensures.fault)

pub returns-then-piece-span-clause-found : goal.returns-then-piece-span-clause-found
returns-then-piece-span-clause-found g c =
    let was = c.pieces.invariant in
    let span = span_of c.args.span in
    let piece = c.next_piece-piece in
    all_added c.args.memtables.now (map (λ (r : Readers). r.files) c.args.sets.now) span c.args.found.now c.add_piece.new.found (piece.result.to + 1) (behind piece.result.to c.args.span.hi c.if-piece-span.true)
    (piece_added c.args.memtables.now (map (λ (r : Readers). r.files) c.pieces.sets) (map (λ (r : Readers). r.files) c.args.sets.now) was.files span (span_of c.between-part.result) c.pieces.from piece.result.to piece.result.set piece.ensures (omega arith) c.between-part.ensures
    c.args.found.now c.pieces.found c.add_piece.new.found c.in_ok-add_piece.ensures.found was.found)

pub returns-then-piece-span-clause-most : goal.returns-then-piece-span-clause-most
returns-then-piece-span-clause-most g c =
    let was = c.pieces.invariant in
    let span = span_of c.args.span in
    let piece = c.next_piece-piece in
    steps_taken c.args.memtables.now (map (λ (r : Readers). r.files) c.args.sets.now) span c.args.steps.now c.add_piece.new.steps (piece.result.to + 1)
    (piece_steps c.args.memtables.now (map (λ (r : Readers). r.files) c.pieces.sets) (map (λ (r : Readers). r.files) c.args.sets.now) was.files span (span_of c.between-part.result) c.pieces.from piece.result.to piece.result.set piece.ensures (omega arith) c.between-part.ensures
    c.args.steps.now c.pieces.steps c.add_piece.new.steps c.in_ok-add_piece.ensures.most was.most)

pub pieces-preserved : goal.pieces-preserved
pieces-preserved g c =
    let was = c.pieces.invariant in
    let said = c.in_ok-add_piece.ensures in
    let span = span_of c.args.span in
    let piece = c.next_piece-piece in
    record {
      files = said.files ∙ was.files;
      values = said.values;
      found =
          piece_added c.args.memtables.now (map (λ (r : Readers). r.files) c.pieces.sets) (map (λ (r : Readers). r.files) c.args.sets.now) was.files span (span_of c.between-part.result) c.pieces.from piece.result.to piece.result.set piece.ensures (omega arith) c.between-part.ensures
          c.args.found.now c.pieces.found c.add_piece.new.found said.found was.found;
      most =
          piece_steps c.args.memtables.now (map (λ (r : Readers). r.files) c.pieces.sets) (map (λ (r : Readers). r.files) c.args.sets.now) was.files span (span_of c.between-part.result) c.pieces.from piece.result.to piece.result.set piece.ensures (omega arith) c.between-part.ensures
          c.args.steps.now c.pieces.steps c.add_piece.new.steps said.most was.most;
      least = least _ _ _ _ _ _ said.least was.least;
      counts = said.fault.kept ∙ was.counts;
    }
  where
    least : (before long now more old found : ℕ) → old + more ≤ now + found → before + found ≤ old + long → before + more ≤ now + long
    least before long now more old found h e = omega (arith, h, e)

pub returns-clause-found : goal.returns-clause-found
returns-clause-found g c =
    all_added c.args.memtables.now (map (λ (r : Readers). r.files) c.args.sets.now) (span_of c.args.span) c.args.found.now c.pieces.found c.pieces.from (omega arith) c.pieces.invariant.found

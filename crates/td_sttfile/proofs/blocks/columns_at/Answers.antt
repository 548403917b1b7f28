use Rattle.std.proofs.Common.{◌≡◌, ℕ, ◌+◌, ◌-◌, List, drop, Option, Ok, Err, subst, ◌∙◌}
use Rattle.std.specs.Prelude.{IfSome}
use Rattle.std.proofs.lemmas.Result.{err_from_is_err_and}
use Rattle.td_cols.specs.declared.kinds.Kind.{Kind}
use Rattle.td_fileio.proofs.ReadLaws.{told_1, told_2}
use Rattle.td_sttfile.specs.Reading.{GivesFrom}
use Rattle.td_sttfile.specs.Blocks.{column_read, columns_read}
use Rattle.td_sttfile.proofs.Numbers.{from_fails}
use Rattle.td_sttfile.proofs.Headers.{columns_go_on, columns_fail, columns_end}
use Rattle.td_sttfile.proofs.blocks.columns_at.Goals as goal

-- the columns before a place were read
abbrev SoFar : ℕ → List Kind → List Kind → ℕ → ℕ → ℕ → ℕ → List ℕ → Type 0
SoFar rows given left columns at counter place all = columns_read rows left (columns - counter) (drop place all) ≡ columns_read rows given columns (drop at all)

pub returns-in_err-next-clause-read : goal.returns-in_err-next-clause-read
returns-in_err-next-clause-read g c =
    let p = err_from_is_err_and c.from_residual.result c.from_residual.ensures.1 in
    let told = g.F.FileBytes.bytes c.args.file.now in
    let file = g.F.FileBytes.file c.args.file.now in
    let e = c.in_err-next.field-0.0 in
    let kind = c.next_kind-kind.result.0 in
    let here = subst (λ (t : Option (List ℕ)). GivesFrom (λ (next : ℕ). (tt, next)) t (g.F.FileBytes.file c.loop.file) c.args.size c.loop.place (Err e) (column_read kind c.args.rows)) c.loop.invariant.file.bytes_are c.in_err-next.ensures.read in
    let read = subst (λ (f : ℕ). GivesFrom (λ (next : ℕ). (tt, next)) told f c.args.size c.loop.place (Err e) (column_read kind c.args.rows)) c.loop.invariant.file.file_is here in
    rw (p.1, p.2)
    (from_fails (λ (next : ℕ). (tt, next)) (λ (next : ℕ). (tt, next)) told file c.args.size c.loop.place c.args.at e (column_read kind c.args.rows) (columns_read c.args.rows c.args.given.now c.args.columns)
    (SoFar c.args.rows c.args.given.now c.loop.left.now c.args.columns c.args.at c.loop.counter c.loop.place)
    (λ all left so_far fails. columns_fail c.args.rows c.loop.left.now c.next_kind-kind.result.1.now kind c.args.columns c.loop.counter (drop c.loop.place all) left (columns_read c.args.rows c.args.given.now c.args.columns (drop c.args.at all)) c.next_kind-kind.ensures c.loop-test.true fails so_far)
    c.loop.invariant.so_far read)

pub loop-preserved : goal.loop-preserved
loop-preserved g c =
    let told = g.F.FileBytes.bytes c.args.file.now in
    let kind = c.next_kind-kind.result.0 in
    let others = c.next_kind-kind.result.1.now in
    let next = c.in_ok-next.next in
    let read = subst (λ (t : Option (List ℕ)). IfSome t (λ all. column_read kind c.args.rows (drop c.loop.place all) ≡ Ok (tt, drop next all))) c.loop.invariant.file.bytes_are c.in_ok-next.ensures.read.1 in
    record {
      within = c.in_ok-next.ensures.read.0;
      so_far = told_2 told (SoFar c.args.rows c.args.given.now c.loop.left.now c.args.columns c.args.at c.loop.counter c.loop.place) (λ all. column_read kind c.args.rows (drop c.loop.place all) ≡ Ok (tt, drop next all))
          (SoFar c.args.rows c.args.given.now others c.args.columns c.args.at (c.loop.counter + 1) next)
          (λ all so_far r. columns_go_on c.args.rows c.loop.left.now others kind c.args.columns c.loop.counter (drop c.loop.place all) (drop next all) (columns_read c.args.rows c.args.given.now c.args.columns (drop c.args.at all)) c.next_kind-kind.ensures c.loop-test.true r so_far)
          c.loop.invariant.so_far read;
      ahead = c.in_ok-next.ensures.ahead;
      file = record {
        bytes_are = c.in_ok-next.ensures.file.bytes_are ∙ c.loop.invariant.file.bytes_are;
        file_is = c.in_ok-next.ensures.file.file_is ∙ c.loop.invariant.file.file_is;
        size_is = c.in_ok-next.ensures.file.size_is ∙ c.loop.invariant.file.size_is;
      };
      calm = c.in_ok-next.ensures.cause.kept ∙ c.loop.invariant.calm;
    }

pub returns-clause-read : goal.returns-clause-read
returns-clause-read g c = (
  c.loop.invariant.within,
  told_1 (g.F.FileBytes.bytes c.args.file.now) (SoFar c.args.rows c.args.given.now c.loop.left.now c.args.columns c.args.at c.loop.counter c.loop.place)
      (λ all. columns_read c.args.rows c.args.given.now c.args.columns (drop c.args.at all) ≡ Ok (tt, drop c.loop.place all))
      (λ all so_far. columns_end c.args.rows c.loop.left.now c.args.columns c.loop.counter (drop c.loop.place all) (columns_read c.args.rows c.args.given.now c.args.columns (drop c.args.at all)) c.loop-test.false so_far)
      c.loop.invariant.so_far,
)

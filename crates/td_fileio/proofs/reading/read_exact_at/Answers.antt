use Rattle.std.proofs.Common.{◌≡◌, ◌+◌, List, ℕ, Option, take, drop, refl, subst, ◌∙◌, rules}
use Rattle.std.specs.Prelude.{IfSome}
use Rattle.td_fileio.proofs.ReadLaws.{read_more}
use Rattle.td_fileio.proofs.reading.read_exact_at.Goals as goal

pub loop-done-preserved : goal.loop-done-preserved
loop-done-preserved g c =
    let next = subst (λ (t : Option (List ℕ)). IfSome t (λ all. take c.in-Ok.count c.read_at.new.buf ≡ take c.in-Ok.count (drop (c.args.at + c.loop-done.done) all))) c.loop-done.invariant.file.bytes_are c.in-Ok.ensures.read in
    record {
      read = read_more (g.R.FileBytes.bytes c.args.file.now) c.args.at c.loop-done.done c.in-Ok.count c.loop-done.buf _ c.read_at.new.buf _ refl c.loop-done.invariant.within c.in-Ok.ensures.within.fits c.loop-done.invariant.read next;
      file = record {
        bytes_are = c.in-Ok.ensures.bytes ∙ c.loop-done.invariant.file.bytes_are;
        file_is = c.in-Ok.ensures.file ∙ c.loop-done.invariant.file.file_is;
        size_is = c.in-Ok.ensures.size ∙ c.loop-done.invariant.file.size_is;
      };
      calm = c.in-Ok.ensures.cause.kept ∙ c.loop-done.invariant.calm;
      within = search rules;
      same = search rules;
    }

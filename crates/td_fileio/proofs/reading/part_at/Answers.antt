use Rattle.std.proofs.Common.{◌≡◌, List, ℕ, Option, min, ◌-◌, length, subst, ◌∙◌, arith}
use Rattle.std.specs.Prelude.{IfSome}
use Rattle.td_fileio.specs.Reading.{IsAhead}
use Rattle.td_fileio.proofs.ReadLaws.{ahead_part, whole_part, told_1}
use Rattle.td_fileio.proofs.reading.part_at.Goals as goal

pub returns-clause-part : goal.returns-clause-part
returns-clause-part g c =
    let told = g.R.FileBytes.bytes c.args.file.now in
    let ahead = subst (λ (t : Option (List ℕ)). IsAhead t c.have_ahead.new.ahead.from c.have_ahead.new.ahead.bytes) c.in_ok-have_ahead.ensures.file.bytes_are c.in_ok-have_ahead.ensures.ahead in
    let h = ahead_part told c.have_ahead.new.ahead.from c.args.at c.min-count.result c.have_ahead.new.ahead.bytes c.in_ok-part-2.part.items ahead c.in_ok-have_ahead.ensures.from c.in_ok-have_ahead.ensures.held c.in_ok-part-2.ensures in
    let is : c.min-count.result ≡ min c.args.most (g.R.FileBytes.size c.args.file.now - c.args.at) = omega (arith, c.min-count.ensures, c.saturating_sub-left.ensures, c.len-size.ensures.size) in
    let sized : IfSome told (λ all. length all ≡ g.R.FileBytes.size c.args.file.now) = told_1 told (λ all. length all ≡ c.len-size.result) (λ all. length all ≡ g.R.FileBytes.size c.args.file.now) (λ all e. e ∙ c.len-size.ensures.size) c.len-size.ensures.bytes in
    whole_part told (g.R.FileBytes.size c.args.file.now) c.args.at c.args.most c.min-count.result c.in_ok-part-2.part.items sized is h.0 h.1

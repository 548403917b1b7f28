use Rattle.std.proofs.Common.{◌≡◌, ℕ, ◌+◌, ◌*◌, List, length, drop, None, Ok, Err, refl, sym, ap, ◌∙◌, arith, rules}
use Rattle.std.specs.Prelude.{IfSome}
use Rattle.std.specs.Int.{w8}
use Rattle.std.proofs.lemmas.Result.{err_from_is_err_and}
use Rattle.td_cols.specs.Kinds.{kind_width}
use Rattle.td_codec.specs.Fields.{number_read}
use Rattle.td_block.specs.Bits.{bitmap_length}
use Rattle.td_block.specs.Headers.{passed}
use Rattle.td_fileio.proofs.ReadLaws.{told_2}
use Rattle.td_sttfile.proofs.Numbers.{from_fails, fault_at, passing_fails, is_passed, place_at}
use Rattle.td_sttfile.specs.Blocks.{kind_said, column_read}
use Rattle.td_sttfile.proofs.Headers.{code_fails, no_kind, bitmaps_fail, lanes_fail, column_reads}
use Rattle.td_sttfile.proofs.blocks.column_at.Goals as goal

abbrev Coded : ℕ → ℕ → List ℕ → Type 0
Coded at code all = number_read w8 (drop at all) ≡ Ok (code, drop (at + 1) all)

pub returns-in_err-code-clause-read : goal.returns-in_err-code-clause-read
returns-in_err-code-clause-read g c =
    let p = err_from_is_err_and c.from_residual.result c.from_residual.ensures.1 in
    rw (p.1, p.2)
    (from_fails (λ (n : ℕ). (n, c.args.at + 1)) (λ (next : ℕ). (tt, next)) (g.F.FileBytes.bytes c.args.file.now) (g.F.FileBytes.file c.args.file.now) c.args.size c.args.at c.args.at c.in_err-code.field-0.0 (number_read w8) (column_read c.args.given c.args.rows)
    (λ all. length all ≡ c.args.size) (λ all left k e. code_fails c.args.given c.args.rows (drop c.args.at all) left e) c.requires.sized c.in_err-code.ensures.read)

pub returns-in_default-clause-read : goal.returns-in_default-clause-read
returns-in_default-clause-read g c =
    let none : c.kind_said.result ≡ None = search rules in
    let kind : kind_said c.args.given c.in_ok-code.code ≡ None = sym c.kind_said.ensures.kind ∙ none in
    let named = c.damaged.ensures ∙ ap (λ (n : ℕ). Rattle.td_layer.specs.declared.scans.ScanFault.TheVariants.Damaged n c.args.at) c.in_ok-code.ensures.file.file_is in
    fault_at (λ (next : ℕ). (tt, next)) (g.F.FileBytes.bytes c.args.file.now) (g.F.FileBytes.file c.args.file.now) c.args.size c.args.at c.args.at c.damaged.result (column_read c.args.given c.args.rows) (Coded c.args.at c.in_ok-code.code) named c.requires.within
    c.requires.sized (λ all read. no_kind c.args.given c.args.rows (drop c.args.at all) (drop (c.args.at + 1) all) c.in_ok-code.code read kind) c.in_ok-code.ensures.read.1

pub returns-in_err-lanes-clause-read : goal.returns-in_err-lanes-clause-read
returns-in_err-lanes-clause-read g c =
    let p = err_from_is_err_and c.from_residual-in_err-lanes.result c.from_residual-in_err-lanes.ensures.1 in
    let file = g.F.FileBytes.file c.args.file.now in
    let named = c.name-number.ensures ∙ c.in_ok-code.ensures.file.file_is in
    let bits = ap (λ (n : ℕ). 2 * n) c.bitmap_length.ensures in
    let e = place_at c.name-number.result file c.args.size (c.args.at + 1) 1 1 (2 * c.bitmap_length.result) (2 * bitmap_length c.args.rows) (Err c.in_err-lanes.field-0.0) named refl bits c.in_err-lanes.ensures in
    rw (p.1, p.2)
    (passing_fails (λ (next : ℕ). (tt, next)) (g.F.FileBytes.bytes c.args.file.now) file c.args.size c.args.at (c.args.at + 1) 1 (2 * bitmap_length c.args.rows) c.in_err-lanes.field-0.0 (column_read c.args.given c.args.rows) (Coded c.args.at c.in_ok-code.code)
    c.in_ok-code.ensures.read.0 (omega arith) c.requires.sized e (λ all left read q. bitmaps_fail c.args.given c.args.rows (drop c.args.at all) (drop (c.args.at + 1) all) c.in_ok-code.code c.in-Some.kind left read (sym c.in-Some.ensures.kind) q) c.in_ok-code.ensures.read.1)

-- the code and the bitmaps were passed
record Lanes (rows at code lanes : ℕ) (all : List ℕ) : Type 0 where
  coded : Coded at code all
  behind : passed 1 (2 * bitmap_length rows) (drop (at + 1) all) ≡ Ok (drop lanes all)

pub returns-in_err-next-clause-read : goal.returns-in_err-next-clause-read
returns-in_err-next-clause-read g c =
    let p = err_from_is_err_and c.from_residual-in_err-next.result c.from_residual-in_err-next.ensures.1 in
    let told = g.F.FileBytes.bytes c.args.file.now in
    let file = g.F.FileBytes.file c.args.file.now in
    let named = c.name-number.ensures ∙ c.in_ok-code.ensures.file.file_is in
    let bits = ap (λ (n : ℕ). 2 * n) c.bitmap_length.ensures in
    let e = place_at c.name-number.result file c.args.size (c.args.at + 1) 1 1 (2 * c.bitmap_length.result) (2 * bitmap_length c.args.rows) (Ok c.in_ok-lanes.lanes) named refl bits c.in_ok-lanes.ensures in
    let past = is_passed told file c.args.size (c.args.at + 1) 1 (2 * bitmap_length c.args.rows) c.in_ok-lanes.lanes c.in_ok-code.ensures.read.0 c.requires.sized e in
    let known : IfSome told (Lanes c.args.rows c.args.at c.in_ok-code.code c.in_ok-lanes.lanes) =
    told_2 told (Coded c.args.at c.in_ok-code.code) (λ all. passed 1 (2 * bitmap_length c.args.rows) (drop (c.args.at + 1) all) ≡ Ok (drop c.in_ok-lanes.lanes all)) (Lanes c.args.rows c.args.at c.in_ok-code.code c.in_ok-lanes.lanes)
    (λ all a b. record { coded = a; behind = b }) c.in_ok-code.ensures.read.1 past.behind in
    let f = place_at c.name-number.result file c.args.size c.in_ok-lanes.lanes c.width.result (kind_width c.in-Some.kind) c.from.result c.args.rows (Err c.in_err-next.field-0.0) named c.width.ensures.width c.from.ensures c.in_err-next.ensures in
    rw (p.1, p.2)
    (passing_fails (λ (next : ℕ). (tt, next)) told file c.args.size c.args.at c.in_ok-lanes.lanes (kind_width c.in-Some.kind) c.args.rows c.in_err-next.field-0.0 (column_read c.args.given c.args.rows) (Lanes c.args.rows c.args.at c.in_ok-code.code c.in_ok-lanes.lanes)
    past.within c.in-Some.ensures.some c.requires.sized f
    (λ all left k q. lanes_fail c.args.given c.args.rows (drop c.args.at all) (drop (c.args.at + 1) all) (drop c.in_ok-lanes.lanes all) c.in_ok-code.code c.in-Some.kind left k.coded (sym c.in-Some.ensures.kind) k.behind q) known)

pub returns-clause-read : goal.returns-clause-read
returns-clause-read g c =
    let told = g.F.FileBytes.bytes c.args.file.now in
    let file = g.F.FileBytes.file c.args.file.now in
    let named = c.name-number.ensures ∙ c.in_ok-code.ensures.file.file_is in
    let bits = ap (λ (n : ℕ). 2 * n) c.bitmap_length.ensures in
    let e = place_at c.name-number.result file c.args.size (c.args.at + 1) 1 1 (2 * c.bitmap_length.result) (2 * bitmap_length c.args.rows) (Ok c.in_ok-lanes.lanes) named refl bits c.in_ok-lanes.ensures in
    let past = is_passed told file c.args.size (c.args.at + 1) 1 (2 * bitmap_length c.args.rows) c.in_ok-lanes.lanes c.in_ok-code.ensures.read.0 c.requires.sized e in
    let known : IfSome told (Lanes c.args.rows c.args.at c.in_ok-code.code c.in_ok-lanes.lanes) =
    told_2 told (Coded c.args.at c.in_ok-code.code) (λ all. passed 1 (2 * bitmap_length c.args.rows) (drop (c.args.at + 1) all) ≡ Ok (drop c.in_ok-lanes.lanes all)) (Lanes c.args.rows c.args.at c.in_ok-code.code c.in_ok-lanes.lanes)
    (λ all a b. record { coded = a; behind = b }) c.in_ok-code.ensures.read.1 past.behind in
    let f = place_at c.name-number.result file c.args.size c.in_ok-lanes.lanes c.width.result (kind_width c.in-Some.kind) c.from.result c.args.rows (Ok c.in_ok-next.next) named c.width.ensures.width c.from.ensures c.in_ok-next.ensures in
    let last = is_passed told file c.args.size c.in_ok-lanes.lanes (kind_width c.in-Some.kind) c.args.rows c.in_ok-next.next past.within c.requires.sized f in (
      last.within,
      told_2 told (Lanes c.args.rows c.args.at c.in_ok-code.code c.in_ok-lanes.lanes) (λ all. passed (kind_width c.in-Some.kind) c.args.rows (drop c.in_ok-lanes.lanes all) ≡ Ok (drop c.in_ok-next.next all)) (λ all. column_read c.args.given c.args.rows (drop c.args.at all) ≡ Ok (tt, drop c.in_ok-next.next all))
          (λ all k q. column_reads c.args.given c.args.rows (drop c.args.at all) (drop (c.args.at + 1) all) (drop c.in_ok-lanes.lanes all) (drop c.in_ok-next.next all) c.in_ok-code.code c.in-Some.kind k.coded (sym c.in-Some.ensures.kind) k.behind q) known last.behind,
    )

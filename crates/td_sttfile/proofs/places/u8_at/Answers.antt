use Rattle.std.proofs.Common.{◌≡◌, ℕ, ◌+◌, List, length, Ok, Err, refl, sym, ap, subst, ◌∙◌, rules}
use Rattle.std.specs.Int.{w8}
use Rattle.td_layer.specs.declared.scans.ScanFault.{ScanFault}
use Rattle.td_codec.specs.Fields.{number_read, Fails}
use Rattle.td_fileio.specs.Faults.{scan_fault_of}
use Rattle.td_fileio.specs.Reading.{IsPart}
use Rattle.td_sttfile.specs.Reading.{GivesFrom}
use Rattle.td_sttfile.proofs.Numbers.{gives_number, gives_no_number}
use Rattle.td_sttfile.proofs.places.u8_at.Goals as goal

pub returns-in-Ok-clause-read : goal.returns-in-Ok-clause-read
returns-in-Ok-clause-read g c =
    let told = g.F.FileBytes.bytes c.args.file.now in
    let items = c.in_ok-part.part.items in
    let is = subst (λ (n : ℕ). IsPart told n c.args.at 1 items) (sym c.requires.size) c.in_ok-part.ensures.part in
    let read = subst (λ (l : List ℕ). number_read w8 l ≡ Ok (c.in-Ok.number, c.in-Ok.field-0-1.now)) c.as_slice.ensures.value c.in-Ok.ensures in
    gives_number w8 told (g.F.FileBytes.file c.args.file.now) c.args.size c.args.at 1 items c.in-Ok.number c.in-Ok.field-0-1.now refl c.requires.within is read

pub returns-clause-read : goal.returns-clause-read
returns-clause-read g c =
    let told = g.F.FileBytes.bytes c.args.file.now in
    let file = g.F.FileBytes.file c.args.file.now in
    let items = c.in_ok-part.part.items in
    let fault = c.in-Err.fault in
    let is = subst (λ (n : ℕ). IsPart told n c.args.at 1 items) (sym c.requires.size) c.in_ok-part.ensures.part in
    let read = subst (λ (l : List ℕ). Fails fault (number_read w8 l)) c.as_slice.ensures.value c.in-Err.ensures in
    let long : c.len.result ≡ length items = search rules in
    let named : c.name.result ≡ file = c.name.ensures ∙ c.in_ok-part.ensures.file.file_is in
    let e : c.placed.result ≡ scan_fault_of file c.args.at (length items) fault =
    c.placed.ensures ∙ ap (λ (n : ℕ). scan_fault_of n c.args.at c.len.result fault) named ∙ ap (λ (n : ℕ). scan_fault_of file c.args.at n fault) long in
    subst (λ (f : ScanFault). GivesFrom (λ (n : ℕ). (n, c.args.at + 1)) told file c.args.size c.args.at (Err f) (number_read w8)) (sym e)
    (gives_no_number w8 told file c.args.size c.args.at 1 items fault refl c.requires.within c.requires.sized is read)

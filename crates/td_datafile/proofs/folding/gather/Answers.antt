use Rattle.std.proofs.Common.{◌≡◌, ℕ, ◌+◌, ◌^◌, ◌<◌, ◌≤◌, List, length, drop, Option, Ok, Err, refl, sym, ap, subst, ◌∙◌, arith}
use Rattle.std.specs.Prelude.{IfSome}
use Rattle.std.proofs.lemmas.Result.{err_from_is_err_and}
use Rattle.td_fileio.specs.Places.{GivesPlaced}
use Rattle.td_fileio.proofs.ReadLaws.{told_1, told_2, told_all}
use Rattle.td_datafile.specs.declared.blocks.Spot.{Spot}
use Rattle.td_datafile.specs.declared.folding.Gathering.{Gathering}
use Rattle.td_datafile.specs.Scanning.{want_of, bytes_left}
use Rattle.td_datafile.specs.Folding.{gathered_of, gathered, partial_rows}
use Rattle.td_datafile.proofs.Walks.{entry_here, room_behind, room_here}
use Rattle.td_datafile.proofs.Folds.{Gathers, gathers_start, gathers_next, gathers_end, fault_told, steps_more, steps_end, is_one, found_more, none_found}
use Rattle.td_datafile.proofs.folding.gather.Goals as goal

pub loop-spot-init : goal.loop-spot-init
loop-spot-init g c =
    let want = want_of c.args.wanted.now in
    let entries = c.args.entries.now in
    let none = c.nothing_gathered-all.ensures.gathering in
    let rows : c.nothing_gathered-all.result.tally.rows ≡ 0 = ap (λ (x : Gathering). x.tally.rows) none in
    let count : c.nothing_gathered-all.result.tally.count ≡ 0 = ap (λ (x : Gathering). x.tally.count) none in
    record {
      read = told_all (g.F.FileBytes.bytes c.args.file.now) (Gathers want c.args.column c.args.start entries c.nothing_gathered-all.result c.args.start) (λ all. gathers_start want c.args.column c.args.start entries c.nothing_gathered-all.result all c.requires.next none);
      found = none_found entries c.nothing_gathered-all.result none c.nothing_gathered-all.ensures.sound;
      rows = omega (arith, rows);
      count = omega (arith, count);
      steps = ap (λ (n : ℕ). c.args.steps.now + partial_rows want (drop n entries)) c.requires.next;
      next = omega (arith, c.requires.next);
      room = c.requires.room;
      ahead = c.requires.ahead;
      file = record { bytes_are = refl; file_is = refl; size_is = refl };
      calm = refl;
    }

pub gathered_of-requires-clause-place : goal.gathered_of-requires-clause-place
gathered_of-requires-clause-place g c =
    let room = room_here c.args.entries.now c.loop-spot.spot c.entry_at-entry.result.now c.entry_at-entry.ensures c.loop-spot.invariant.room in
    omega (arith, room)

pub gathered_of-requires-clause-few : goal.gathered_of-requires-clause-few
gathered_of-requires-clause-few g c = (is_one c.args.entries.now c.loop-spot.spot.next c.entry_at-entry.result.now c.requires.known c.entry_at-entry.ensures).few

pub gathered_of-requires-clause-sums : goal.gathered_of-requires-clause-sums
gathered_of-requires-clause-sums g c = (is_one c.args.entries.now c.loop-spot.spot.next c.entry_at-entry.result.now c.requires.known c.entry_at-entry.ensures).sums

pub returns-in_err-one-clause-read : goal.returns-in_err-one-clause-read
returns-in_err-one-clause-read g c =
    let p = err_from_is_err_and c.from_residual.result c.from_residual.ensures.1 in
    let want = want_of c.args.wanted.now in
    let column = c.args.column in
    let spot = c.loop-spot.spot in
    let entry = c.entry_at-entry.result.now in
    let told = g.F.FileBytes.bytes c.args.file.now in
    let file = g.F.FileBytes.file c.args.file.now in
    let same = c.loop-spot.invariant.file in
    let e = c.in_err-one.field-0.0 in
    let read = subst (λ (t : Option (List ℕ)). GivesPlaced (λ (x : Gathering). x) t file (Err e) (gathered_of want column spot entry)) same.bytes_are
    (subst (λ (n : ℕ). GivesPlaced (λ (x : Gathering). x) (g.F.FileBytes.bytes c.loop-spot.file) n (Err e) (gathered_of want column spot entry)) same.file_is c.in_err-one.ensures.read) in
    rw (p.1, p.2) (fault_told want column c.args.start c.args.entries.now told file c.loop-spot.all spot entry e c.entry_at-entry.ensures c.loop-spot.invariant.read read)

pub returns-in_err-one-clause-most_steps : goal.returns-in_err-one-clause-most_steps
returns-in_err-one-clause-most_steps g c = omega (arith, c.in_err-one.ensures.no_steps, c.loop-spot.invariant.steps)

pub both-all-requires-clause-rows : goal.both-all-requires-clause-rows
both-all-requires-clause-rows g c = omega (arith, c.loop-spot.invariant.rows, c.loop-spot.invariant.next, c.in_ok-one.ensures.part.tally.rows, c.requires.known.few)

pub both-all-requires-clause-count : goal.both-all-requires-clause-count
both-all-requires-clause-count g c = omega (arith, c.loop-spot.invariant.count, c.loop-spot.invariant.next, c.in_ok-one.ensures.part.tally.count, c.requires.known.few)

pub spot_behind-spot-requires-clause-place : goal.spot_behind-spot-requires-clause-place
spot_behind-spot-requires-clause-place g c =
    let room = room_here c.args.entries.now c.loop-spot.spot c.entry_at-entry.result.now c.entry_at-entry.ensures c.loop-spot.invariant.room in
    omega (arith, room)

pub loop-spot-preserved : goal.loop-spot-preserved
loop-spot-preserved g c =
    let want = want_of c.args.wanted.now in
    let column = c.args.column in
    let entries = c.args.entries.now in
    let start = c.args.start in
    let told = g.F.FileBytes.bytes c.args.file.now in
    let spot = c.loop-spot.spot in
    let entry = c.entry_at-entry.result.now in
    let here = c.entry_at-entry.ensures in
    let one = c.in_ok-one.one in
    let all = c.loop-spot.all in
    let inv = c.loop-spot.invariant in
    let own = c.in_ok-one.ensures in
    let behind = c.spot_behind-spot.ensures in
    let joined = c.both-all.ensures in
    let lt : spot.next < length entries = omega (arith, c.loop-spot-test.true) in
    let next_is : c.spot_behind-spot.result.next ≡ spot.next + 1 = ap (λ (k : Spot). k.next) behind in
    let here_room = room_here entries spot entry here inv.room in
    let later_room = (room_behind entries spot entry (entry_here entries spot.next entry here) inv.room).1 in
    let rows : c.both-all.result.tally.rows ≡ all.tally.rows + one.tally.rows = ap (λ (x : Gathering). x.tally.rows) joined in
    let count : c.both-all.result.tally.count ≡ all.tally.count + one.tally.count = ap (λ (x : Gathering). x.tally.count) joined in
    let left = ap (λ (n : ℕ). partial_rows want (drop n entries)) next_is in
    let read = subst (λ (t : Option (List ℕ)). IfSome t (λ bytes. gathered_of want column spot entry bytes ≡ Ok one)) inv.file.bytes_are own.read in
    record {
      read = told_2 told (Gathers want column start entries all spot) (λ bytes. gathered_of want column spot entry bytes ≡ Ok one) (Gathers want column start entries c.both-all.result c.spot_behind-spot.result)
          (λ bytes p q. gathers_next want column start entries all one c.both-all.result spot c.spot_behind-spot.result entry bytes here joined behind q p) inv.read read;
      found = found_more entries spot all one c.both-all.result lt (omega (arith, here_room)) joined inv.found own.part;
      rows = omega (arith, rows, next_is, inv.rows, own.part.tally.rows);
      count = omega (arith, count, next_is, inv.count, own.part.tally.count);
      steps = omega (arith, left, steps_more want entries spot.next entry here, own.steps, inv.steps);
      next = omega (arith, next_is, lt);
      room = subst (λ (k : Spot). k.place + bytes_left entries k < 2 ^ 64) (sym behind) later_room;
      ahead = own.ahead;
      file = record { bytes_are = own.file.bytes_are ∙ inv.file.bytes_are; file_is = own.file.file_is ∙ inv.file.file_is; size_is = own.file.size_is ∙ inv.file.size_is };
      calm = own.cause.kept ∙ inv.calm;
    }

pub returns-clause-read : goal.returns-clause-read
returns-clause-read g c =
    let want = want_of c.args.wanted.now in
    let entries = c.args.entries.now in
    let le : length entries ≤ c.loop-spot.spot.next = omega (arith, c.loop-spot-test.false) in
    told_1 (g.F.FileBytes.bytes c.args.file.now) (Gathers want c.args.column c.args.start entries c.loop-spot.all c.loop-spot.spot) (λ bytes. gathered want c.args.column bytes c.args.start entries ≡ Ok c.loop-spot.all)
    (λ bytes p. gathers_end want c.args.column c.args.start entries c.loop-spot.all c.loop-spot.spot bytes le p) c.loop-spot.invariant.read

pub returns-clause-rows : goal.returns-clause-rows
returns-clause-rows g c = omega (arith, c.loop-spot.invariant.rows, c.loop-spot.invariant.next)

pub returns-clause-count : goal.returns-clause-count
returns-clause-count g c = omega (arith, c.loop-spot.invariant.count, c.loop-spot.invariant.next)

pub returns-clause-steps : goal.returns-clause-steps
returns-clause-steps g c =
    let want = want_of c.args.wanted.now in
    let le : length c.args.entries.now ≤ c.loop-spot.spot.next = omega (arith, c.loop-spot-test.false) in
    omega (arith, c.loop-spot.invariant.steps, steps_end want c.args.entries.now c.loop-spot.spot.next le)

pub returns-clause-most_steps : goal.returns-clause-most_steps
returns-clause-most_steps g c = omega (arith, c.loop-spot.invariant.steps)

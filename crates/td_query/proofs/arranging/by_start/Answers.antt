use Rattle.std.proofs.Common.{◌≡◌, ◌+◌, ◌++◌, ◌∷◌, [], take, sym, ap, ◌∙◌, subst, arith}
use Rattle.std.specs.BTreeMap.{insert_entry}
use Rattle.std.specs.Int.{w64, cast_signed, cast_unsigned}
use Rattle.std.specs.Prelude.{FitsSigned}
use Rattle.std.proofs.lemmas.Int.{to_z-of_z}
use Rattle.std.proofs.lemmas.List.{take_more, take_all}
use Rattle.td_verdict.specs.Arranged.{put_by_starts}
use Rattle.td_query.specs.Shown.{all_shown}
use Rattle.td_query.proofs.Starts.{Entries, start_cmp, rows_of, ArePlaced, key_is, put_placed, keeps_placed, starts_next, values_shown}
use Rattle.td_query.proofs.arranging.by_start.Goals as goal

pub rows-preserved : goal.rows-preserved
rows-preserved c =
    let rows = c.args.rows.now in
    let n = c.rows.place in
    let s = c.index-rows-place.result in
    let old : Entries = c.rows.sorted.entries in
    let one = take_more rows n s c.rows-test.true ∙ ap (λ x. take n rows ++ x ∷ []) (sym c.index-rows-place.is) in
    let fits : FitsSigned w64 c.start_of-start.result = record { sfits = c.start_of-start.type_inv } in
    let made : c.insert.new.self.entries ≡ insert_entry start_cmp old (record { start = s.row.now.key.start; place = n }) s =
    c.in_ok-insert.ensures.entries ∙ key_is n s (cast_signed w64 (cast_unsigned w64 c.start_of-start.result)) (to_z-of_z w64 c.start_of-start.result fits ∙ c.start_of-start.ensures) old in (
      ap rows_of made ∙ put_placed n s old c.rows.invariant.1 ∙ starts_next rows n s (rows_of old) one c.rows.invariant.0,
      subst (λ (es : Entries). ArePlaced (n + 1) es) (sym made) (keeps_placed n s old c.rows.invariant.1),
    )

pub returns : goal.returns
returns c =
    ap all_shown c.in_ok-all.ensures
    ∙ values_shown c.rows.sorted.entries
    ∙ c.rows.invariant.0
    ∙ ap (λ l. put_by_starts [] (all_shown l)) (take_all c.rows.place c.args.rows.now (omega arith))

use Rattle.std.proofs.Common.{◌≡◌, ◌++◌, ◌∙◌, ap, List, ℕ}
use Rattle.std.specs.Int.{w32, w64, to_le_bytes}
use Rattle.td_model.specs.declared.windows.WinRow.{WinRow}
use Rattle.td_codec.specs.Values.{win_row_list}
use Rattle.td_manifest.specs.Streams.{statement_text, stream_behind, stream_items}
use Rattle.td_manifest.proofs.WritingLaws.{and_then}
use Rattle.td_manifest.proofs.writing.HeadStreamPut.put.Goals as goal

pub returns : goal.returns
unfolding stream_items stream_behind
returns c =
    let s = c.args.self.now in
    let made = to_le_bytes w64 s.made in
    let text = statement_text.spelled s.text in
    let upto = to_le_bytes w64 s.upto in
    let moment = to_le_bytes w64 s.moment in
    let rows = win_row_list.spelled s.rows in
    let new = c.put_win_rows.new.out in
    let said : c.put_statement.new.out ≡ c.put_u64.new.out ++ text = c.in_ok-put_statement.ensures ∙ ap (λ (l : List ℕ). c.put_u64.new.out ++ statement_text.spelled l) c.as_slice.ensures in
    let shown : new ≡ c.put_u64-3.new.out ++ rows = c.in_ok-put_win_rows.ensures ∙ ap (λ (l : List WinRow). c.put_u64-3.new.out ++ win_row_list.spelled l) c.as_slice-2.ensures in
    and_then c.args.out.now (to_le_bytes w32 s.number) c.put_u32.new.out (made ++ (text ++ (upto ++ (moment ++ rows)))) new c.in_ok-put_u32.ensures
    (and_then c.put_u32.new.out made c.put_u64.new.out (text ++ (upto ++ (moment ++ rows))) new c.in_ok-put_u64.ensures
    (and_then c.put_u64.new.out text c.put_statement.new.out (upto ++ (moment ++ rows)) new said
    (and_then c.put_statement.new.out upto c.put_u64-2.new.out (moment ++ rows) new c.in_ok-put_u64-2.ensures
    (and_then c.put_u64-2.new.out moment c.put_u64-3.new.out rows new c.in_ok-put_u64-3.ensures shown))))

use Rattle.std.proofs.Common.{◌≡◌, ◌++◌, ◌∙◌, ap, length, List, ℕ}
use Rattle.std.specs.Int.{w32, w64, to_le_bytes}
use Rattle.std.specs.List.{flat_map}
use Rattle.td_codec.specs.Fields.{number}
use Rattle.td_manifest.specs.Listed.{or_none, perhaps}
use Rattle.td_manifest.specs.Files.{stt_items, set_files, set_behind, set_items}
use Rattle.td_manifest.proofs.WritingLaws.{and_then}
use Rattle.td_manifest.proofs.writing.HeadSetPut.put.Goals as goal

pub returns : goal.returns
unfolding set_items set_behind set_files perhaps stt_items
returns c =
    let s = c.args.self.now in
    let list : List ℕ → List ℕ = λ l. to_le_bytes w32 (length l) ++ flat_map (number w64).spelled l in
    let main = to_le_bytes w64 (or_none s.main) in
    let stt : c.put_list.new.out ≡ c.put_perhaps.new.out ++ list s.stt = c.in_ok-put_list.ensures ∙ ap (λ (l : List ℕ). c.put_perhaps.new.out ++ list l) c.as_slice.ensures in
    and_then c.args.out.now (to_le_bytes w32 s.range) c.put_u32.new.out (main ++ list s.stt) c.put_list.new.out c.in_ok-put_u32.ensures
    (and_then c.put_u32.new.out main c.put_perhaps.new.out (list s.stt) c.put_list.new.out c.in_ok-put_perhaps.ensures stt)

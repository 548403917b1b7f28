-- Streams have one spelling.
use Rattle.std.proofs.Common.{◌≡◌, ℕ, ◌-◌, ◌^◌, true, leb, ltb, List, ◌++◌, length, refl, sym, ap, subst, ◌∙◌, append_assoc}
use Rattle.std.specs.Prelude.{◌&&◌}
use Rattle.std.specs.Int.{w32, w64, to_le_bytes}
use Rattle.td_limits.specs.declared.limits.TheConstants.{LAST_TIMESTAMP}
use Rattle.td_model.specs.declared.windows.WinRow.{WinRow}
use Rattle.td_codec.specs.Fields.{◌>>=◌, Read, Field, Takes, SpellsOnce, number, number_read, pair, followed, string_read}
use Rattle.td_codec.specs.Lists.{item_behind}
use Rattle.td_codec.specs.Values.{win_row_list}
use Rattle.td_codec.proofs.FieldLaws.{bind_ok, bind_is, takes_then, within_bind, shorter, wide32, wide64, number_spells, checked_spells, pair_spells, followed_spells, made_spells, string_takes, string_again, string_within}
use Rattle.td_codec.proofs.ValueLaws.{some_is, win_row_list_spells}
use Rattle.td_manifest.specs.declared.head.HeadStream.{HeadStream}
use Rattle.td_manifest.specs.Streams.{statement_text, comes_next, stream_of, stream_parts, number_field, made_field, upto_field, step_moment, stream_behind, stream_items}

abbrev text_behind : ℕ × List ℕ → Read (List ℕ)
text_behind n = string_read (λ _. true) (length n.1) n.0 n.1

statement_spells : SpellsOnce statement_text
unfolding statement_text
statement_spells = record {
  takes = λ bytes x are e.
      let b = bind_ok (number_read w32 bytes) text_behind x e in
      let t = (number_spells w32 wide32).takes bytes b.0 are b.1 in
      let u = string_takes (λ _. true) (length b.0.1) b.0.0 b.0.1 x t.0.rest_are b.2 in
      let both = takes_then bytes (to_le_bytes w32 b.0.0) b.0.1 x.0 x.1 t.0 u.0 in
      (subst (λ (n : ℕ). Takes bytes (to_le_bytes w32 n ++ x.0) x.1) (sym u.1.0) both, subst (λ (n : ℕ). ltb n (2 ^ 32) ≡ true) (sym u.1.0) t.1);
  again = λ t rest fits.
      ap (λ (l : List ℕ). number_read w32 l >>= text_behind) (append_assoc (to_le_bytes w32 (length t)) t rest)
      ∙ bind_is text_behind ((number_spells w32 wide32).again (length t) (t ++ rest) fits)
      ∙ string_again (λ _. true) (length (t ++ rest)) (length t) t rest refl refl;
  within = λ bytes are.
      within_bind (length bytes) (number_read w32 bytes) text_behind ((number_spells w32 wide32).within bytes are)
      (λ n e. string_within (λ _. true) (length n.1) n.0 n.1 (length bytes) (shorter bytes (to_le_bytes w32 n.0) n.1 ((number_spells w32 wide32).takes bytes n are e).0));
}

stream_spells : (version next : ℕ) (before : List HeadStream) → SpellsOnce (stream_behind version next before)
unfolding stream_behind
stream_spells version next before =
    let n32 = number_spells w32 wide32 in
    let n64 = number_spells w64 wide64 in
    let ends : (m : ℕ) → SpellsOnce (pair (upto_field version m) (pair step_moment win_row_list)) =
    λ m. pair_spells (upto_field version m) (pair step_moment win_row_list) (checked_spells (number w64) (λ upto. leb (m - 1) upto && ltb upto version) n64)
    (pair_spells step_moment win_row_list (checked_spells (number w64) (λ moment. leb moment LAST_TIMESTAMP) n64) win_row_list_spells) in
    let rest : ℕ → Field (List ℕ × (ℕ × (ℕ × List WinRow))) = λ m. pair statement_text (pair (upto_field version m) (pair step_moment win_row_list)) in
    made_spells (pair (number_field next before) (followed (made_field version) rest)) stream_of stream_parts (λ a _. refl) (λ a s e. ap stream_of (sym (some_is _ a e)))
    (pair_spells (number_field next before) (followed (made_field version) rest) (checked_spells (number w32) (λ n. (leb 1 n && ltb n next) && comes_next before n) n32)
    (followed_spells (made_field version) rest (checked_spells (number w64) (λ m. leb 1 m && leb m version) n64) (λ m. pair_spells statement_text (pair (upto_field version m) (pair step_moment win_row_list)) statement_spells (ends m))))

pub stream_items_spell : (version next : ℕ) (before : List HeadStream) → SpellsOnce (item_behind (stream_items version next) before)
unfolding stream_items stream_behind
stream_items_spell version next before = stream_spells version next before

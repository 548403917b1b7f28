-- The reports of runs over a store that tells its image can be printed, and their texts tell them.
use Rattle.std.proofs.Common.{◌≡◌, ℕ, ◌+◌, leb, true, List, [], ◌∷◌, ◌++◌, length, Option, Some, None, refl, sym, ◌∙◌, subst, append-nil}
use Rattle.std.specs.Prelude.{◌&&◌, IfSome, IsSome}
use Rattle.std.specs.Int.{w32, w64}
use Rattle.std.specs.Io.KnownBytes.{Appends}
use Rattle.std.specs.List.{AllByRecursion}
use Rattle.std.proofs.lemmas.Bool.{and_parts, ltb-true}
use Rattle.std.proofs.lemmas.List.{append_cancel_left}
use Rattle.td_limits.specs.declared.limits.TheConstants.{LAST_TIMESTAMP}
use Rattle.td_model.specs.Printable.{IsCount, IsPrintable, ATextTellsItsReport}
use Rattle.td_model.specs.State.{State, empty_state}
use Rattle.td_codec.specs.Fields.{number}
use Rattle.td_wal.specs.declared.item.LogItem.{LogItem}
use Rattle.td_wal.specs.Items.{body, body_bytes, version_field, moment_field, item_head, head_of, item}
use Rattle.td_wal.specs.Log.{items_fit}
use Rattle.td_outside.specs.Image.{Log, Image}
use Rattle.td_script.specs.declared.lines.Line.{Line}
use Rattle.td_told.specs.Asked.{Asked}
use Rattle.td_printed.specs.Names.{HasWords, IsPrintableState}
use Rattle.td_printed.proofs.Texts.{answer_has_words}
use Rattle.td_printed.proofs.States.{empty_printable, entry_printable}
use Rattle.td_printed.proofs.Reports.{report_prints}
use Rattle.td_core.specs.Replay.{IsNext, Replays}
use Rattle.td_core.specs.Stands.{FIRST_LOG, HasItems, Stands}
use Rattle.td_top.specs.Asks.{AsksAll}
use Rattle.td_top.specs.Laws.{Took, TextsTellReports, BytesTellReports}
use Rattle.td_top.specs.Status.{Effects, Plays}

-- ---- the state that a store stands for

fits_moment : (version least : ℕ) (i : LogItem) → (item version least).fits i ≡ true → IsCount i.moment
unfolding item item_head
fits_moment version least i fits =
    let f = and_parts ((item_head version least).fits (head_of i)) ((body i.version i.moment (length (body_bytes i.body))).fits i.body) fits in
    let size = and_parts ((number w32).fits (length (body_bytes i.body))) _ f.0 in
    let own = and_parts ((version_field version).fits i.version) _ size.1 in
    let moment = and_parts ((moment_field least).fits i.moment) _ own.1 in
    let parts = and_parts ((number w64).fits i.moment) (leb least i.moment && leb i.moment LAST_TIMESTAMP) moment.0 in
    ltb-true _ _ parts.0

next_prints : (i : LogItem) (s t : State) → IsCount i.moment → IsPrintableState s → IsNext i s t → IsPrintableState t
next_prints i s t moment prints n =
    subst IsPrintableState (sym n.state)
    (entry_printable n.text n.stmt s i.session i.ordinal i.moment n.what n.rows n.parsed prints moment n.accepted)

-- what items make of such a state, with others behind them
record Made (s : State) (more : List LogItem) (t : State) : Type 0 where
  between : State
  prints : IsPrintableState between
  replays : Replays between more t

items_print : (first least : ℕ) (items more : List LogItem) (s t : State) → items_fit first least items ≡ true
    → IsPrintableState s → Replays s (items ++ more) t → Made s more t
items_print first least [] more s t fit prints r = record { between = s; prints = prints; replays = r }
items_print first least (i ∷ is) more s t fit prints r =
    let f = and_parts ((item first least).fits i) (items_fit (first + 1) i.moment is) fit in
    let rest = items_print (first + 1) i.moment is more r.0 t f.1
    (next_prints i s r.0 (fits_moment first least i f.0) prints r.1) r.2 in
    record { between = rest.between; prints = rest.prints; replays = rest.replays }

all_print : (first least : ℕ) (items : List LogItem) (s t : State) → items_fit first least items ≡ true
    → IsPrintableState s → Replays s items t → IsPrintableState t
all_print first least items s t fit prints r =
    let made = items_print first least items [] s t fit prints
    (subst (λ (l : List LogItem). Replays s l t) (sym (append-nil items)) r) in
    subst IsPrintableState (sym made.replays) made.prints

items_are_fit : (first : ℕ) (items : List LogItem) (o : Option Log) → HasItems first items o
    → items_fit first 0 items ≡ true
items_are_fit first items None none = subst (λ (l : List LogItem). items_fit first 0 l ≡ true) (sym none) refl
items_are_fit first items (Some log) is = is.fit

stands_prints : (image : Image) (b : State) → Stands image b → IsPrintableState b
stands_prints image b s =
    let older = items_are_fit 1 s.older (image.logs FIRST_LOG) s.first_log in
    let newer = items_are_fit (1 + length s.older) s.newer (image.logs (FIRST_LOG + 1)) s.second_log in
    let made = items_print 1 0 s.older s.newer empty_state b older empty_printable s.replays in
    all_print (1 + length s.older) 0 s.newer made.between b newer made.prints made.replays

told_prints : (told : Option Image) (b : State) → IfSome told (λ image. Stands image b) → IsSome told
    → IsPrintableState b
told_prints None b stands some = absurd (cc)
told_prints (Some image) b stands some = stands_prints image b stands

-- ---- the report

have_words : (lines : List Line) (script : List Asked) → AsksAll lines script
    → AllByRecursion (λ (a : Asked). HasWords a.stmt) script
have_words [] [] asks = tt
have_words [] (a ∷ script) asks = absurd asks
have_words (l ∷ ls) [] asks = absurd asks
have_words (l ∷ ls) (a ∷ script) asks =
    (answer_has_words l.text a.stmt asks.0.stmt, have_words ls script asks.1)

pub plays_print : (readings : Option (List ℕ)) (lines : List Line) (before after : Effects) (text : List ℕ)
    (plays : Plays readings lines before after text) → IsSome before.image → IsPrintable plays.report
plays_print readings lines before after text plays some =
    let base = told_prints before.image plays.base plays.stands some in
    let words = have_words lines plays.told.script plays.told.asks in
    report_prints plays.base readings plays.told.script plays.told.script plays.report plays.told.told.told words words
    base.sound base.words base.counted plays.counts

-- ---- the text

pub texts_tell : ATextTellsItsReport → TextsTellReports
texts_tell tells readings readings' lines lines' before after before' after' text plays plays' some some' =
    tells plays.report plays'.report (plays_print readings lines before after text plays some)
    (plays_print readings' lines' before' after' text plays' some') (sym plays.text_is ∙ plays'.text_is)

-- the text that a sink took is what it tells
taken_text : (before after : Effects) (bytes text : List ℕ) → Took before after bytes
    → Appends before.written after.written text → text ≡ bytes
taken_text before after bytes text took appends = sym (append_cancel_left took.first bytes text
    (subst (λ (o : Option (List ℕ)). Appends (Some took.first) o text) took.took
    (subst (λ (o : Option (List ℕ)). Appends o after.written text) took.told appends)))

pub bytes_tell : ATextTellsItsReport → BytesTellReports
bytes_tell tells readings readings' before after before' after' bytes done done' some some' took took' =
    let p = done.plays in
    let p' = done'.plays in
    let e = taken_text before.effects after.effects bytes p.0 took p.2 in
    let e' = taken_text before'.effects after'.effects bytes p'.0 took' p'.2 in
    tells p.1.report p'.1.report
    (plays_print readings done.lines before.effects after.effects p.0 p.1 some)
    (plays_print readings' done'.lines before'.effects after'.effects p'.0 p'.1 some')
    (sym p.1.text_is ∙ e ∙ sym e' ∙ p'.1.text_is)

-- The item of a text that is accepted can be written.
use Rattle.std.proofs.Common.{◌≡◌, inl, inr, ℕ, ◌+◌, ◌^◌, ◌<◌, ◌≤◌, true, ltb, leb, eqb, List, [], length, refl, sym, ap, subst, ◌∙◌, arith}
use Rattle.std.specs.Prelude.{◌&&◌}
use Rattle.std.proofs.lemmas.Bool.{eq-eqb, and_from, lt-ltb, le-leb}
use Rattle.td_limits.specs.declared.limits.TheConstants.{LAST_VERSION, LAST_TIMESTAMP, SESSIONS, STATEMENT_BYTES}
use Rattle.td_model.specs.declared.history.What.{What}
use Rattle.td_model.specs.declared.history.Verdict.TheVariants.{Accept, Refuse}
use Rattle.td_model.specs.declared.language.Stmt.{Stmt}
use Rattle.td_model.specs.declared.language.Stmt.TheVariants as stmt
use Rattle.td_model.specs.declared.report.Cause.{Cause}
use Rattle.td_model.specs.declared.report.Cause.TheVariants.{TooLong}
use Rattle.td_model.specs.State.{State}
use Rattle.td_parse.specs.Statements.{IsAnswer}
use Rattle.td_told.specs.Verdict.{verdict}
use Rattle.td_wal.specs.declared.item.LogItem.{LogItem}
use Rattle.td_wal.specs.Items.{body_bytes, body, body_form, item_head, item}
use Rattle.td_wal.specs.Append.{IsWritable, next_gate}
use Rattle.td_wal.proofs.WritingLaws.{next_gate_is}
use Rattle.td_active.specs.Carried.{text_item}

accepts_none : (q : Stmt) (cause : Cause) (s : State) (moment : ℕ) (w : What) (rows : ℕ) → q ≡ stmt.Wrong cause → verdict q s [] moment ≡ Accept w rows → ⊥
accepts_none q cause s moment w rows wrong accepted =
    let refused : Refuse cause ≡ Accept w rows = ap (λ (x : Stmt). verdict x s [] moment) (sym wrong) ∙ accepted in
    absurd cc

-- a text that is accepted is no longer than a statement may be
pub short_text : (text : List ℕ) (q : Stmt) (s : State) (moment : ℕ) (w : What) (rows : ℕ) → IsAnswer text q → verdict q s [] moment ≡ Accept w rows → length text ≤ STATEMENT_BYTES
short_text text q s moment w rows (inl long) accepted = absurd (accepts_none q TooLong s moment w rows long.1 accepted)
short_text text q s moment w rows (inr short) accepted = short.0

-- an item of a short text, of numbers in their ranges, can be written
pub text_writable : (version session ordinal moment : ℕ) (text : List ℕ) → 1 ≤ version → version ≤ LAST_VERSION → moment ≤ LAST_TIMESTAMP → session ≤ SESSIONS → ordinal < 2 ^ 32 → length text ≤ STATEMENT_BYTES → IsWritable (text_item version session ordinal moment text)
unfolding item item_head body body_form body_bytes
text_writable version session ordinal moment text from_one version_fits moment_fits session_fits ordinal_fits text_fits =
    let size : ltb (length text) (2 ^ 32) ≡ true = lt-ltb (length text) (2 ^ 32) (omega (arith, text_fits)) in
    let own : (ltb version (2 ^ 64) && (eqb version version && leb version LAST_VERSION)) ≡ true = and_from _ _ (lt-ltb version (2 ^ 64) (omega (arith, version_fits))) (and_from _ _ (eq-eqb version version refl) (le-leb version LAST_VERSION version_fits)) in
    let time : (ltb moment (2 ^ 64) && (leb 0 moment && leb moment LAST_TIMESTAMP)) ≡ true = and_from _ _ (lt-ltb moment (2 ^ 64) (omega (arith, moment_fits))) (and_from _ _ (le-leb 0 moment (omega arith)) (le-leb moment LAST_TIMESTAMP moment_fits)) in
    let whose : (ltb session (2 ^ 32) && leb session SESSIONS) ≡ true = and_from _ _ (lt-ltb session (2 ^ 32) (omega (arith, session_fits))) (le-leb session SESSIONS session_fits) in
    record {
      version = from_one;
      fits = and_from _ _ (and_from _ _ size (and_from _ _ own (and_from _ _ time (and_from _ _ whose (lt-ltb ordinal (2 ^ 32) ordinal_fits))))) (eq-eqb (length text) (length text) refl);
    }

pub ready_writable : (item : LogItem) (session ordinal moment : ℕ) (text : List ℕ) (q : Stmt) (s : State) (w : What) (rows : ℕ) → item ≡ text_item (s.version + 1) session ordinal moment text → s.version < LAST_VERSION → moment ≤ LAST_TIMESTAMP → session ≤ SESSIONS
    → ordinal < 2 ^ 32 → IsAnswer text q → Accept w rows ≡ verdict q s [] moment → IsWritable item
ready_writable item session ordinal moment text q s w rows is version last most few parsed accepted =
    subst IsWritable (sym is) (text_writable (s.version + 1) session ordinal moment text (omega arith) (omega (arith, version)) last most few (short_text text q s moment w rows parsed (sym accepted)))

pub ready_place : (gate : ℕ) (item : LogItem) (version session ordinal moment : ℕ) (text : List ℕ) → item ≡ text_item version session ordinal moment text → gate + 30 + length text < 2 ^ 64 → next_gate gate item < 2 ^ 64
unfolding body_bytes
ready_place gate item version session ordinal moment text is place =
    let size : next_gate gate (text_item version session ordinal moment text) ≡ gate + 30 + length text = next_gate_is gate (text_item version session ordinal moment text) in
    subst (λ (i : LogItem). next_gate gate i < 2 ^ 64) (sym is) (subst (λ (n : ℕ). n < 2 ^ 64) (sym size) place)

-- What bytes are a head, and that they are one head at most.
use Rattle.std.proofs.Common.{◌≡◌, ◌⊎◌, inl, inr, ℕ, ◌+◌, ◌-◌, ◌^◌, ◌<◌, Bool, true, cond, eqb, leb, ltb, List, [], ◌++◌, length, Result, Ok, Err, refl, sym, ap, subst, ◌∙◌, arith}
use Rattle.std.specs.Prelude.{◌&&◌, IfOk}
use Rattle.std.specs.Str.{bytes_eq}
use Rattle.std.specs.Int.{w32, w64, to_le_bytes}
use Rattle.std.proofs.lemmas.Bool.{and_parts, and_from, eqb-true, eq-eqb, lt-ltb, ltb-true}
use Rattle.std.proofs.lemmas.List.{append-nil, nil_from_length, length-append}
use Rattle.std.proofs.lemmas.Slice.Eq.{bytes_eq-Decides}
use lib.Chars.{codes}
use Rattle.td_limits.specs.declared.limits.TheConstants.{LAST_TIMESTAMP, LAST_VERSION, LAST_DAY_RANGE, TABLES, STREAMS}
use Rattle.td_cols.specs.Spelling.{AreBytes}
use Rattle.td_codec.specs.Fields.{Read, Field, Takes, SpellsOnce, number, checked, pair, followed, string_read}
use Rattle.td_codec.proofs.FieldLaws.{bind_ok, bind_is, ok_is, passed, within_bind, le_self, wide32, wide64, number_spells, checked_spells, pair_spells, followed_spells, made_spells, string_takes, string_again, string_within}
use Rattle.td_codec.proofs.ValueLaws.{some_is}
use Rattle.td_manifest.specs.declared.head.Head.{Head}
use Rattle.td_manifest.specs.declared.head.HeadStable.{HeadStable}
use Rattle.td_manifest.specs.declared.fault.HeadFault.{HeadFault}
use Rattle.td_manifest.specs.declared.fault.HeadFault.TheVariants as faults
use Rattle.td_manifest.specs.declared.reading.TheConstants.{FORMAT}
use Rattle.td_manifest.specs.Tables.{stable_items, table_items}
use Rattle.td_manifest.specs.Files.{set_items}
use Rattle.td_manifest.specs.Streams.{stream_items}
use Rattle.td_manifest.specs.Heads.{begun, version_field, moment_field, first_log_field, edge_field, stables_field, tables_field, sets_field, next_field, streams_field, start_field, objects_field, head_of, head_parts, head_body, mark, Framed, frame, framed, IsHead, HasBytes, head_read, BreaksAt, Answers}
use Rattle.td_manifest.proofs.ListedLaws.{listed_spells}
use Rattle.td_manifest.proofs.TableLaws.{stable_items_spell, table_items_spell}
use Rattle.td_manifest.proofs.FileLaws.{set_items_spell}
use Rattle.td_manifest.proofs.StreamLaws.{stream_items_spell}

-- ---- the body

start_spells : SpellsOnce start_field
unfolding start_field
start_spells =
    let n64 = number_spells w64 wide64 in
    let rest : ℕ → Field (ℕ × (ℕ × ℕ)) = λ v. pair (moment_field v) (pair (first_log_field v) (edge_field v)) in
    followed_spells version_field rest (checked_spells (number w64) (λ v. leb v LAST_VERSION) n64) (λ v.
    pair_spells (moment_field v) (pair (first_log_field v) (edge_field v)) (checked_spells (number w64) (λ moment. leb moment LAST_TIMESTAMP && begun v (eqb moment 0)) n64)
    (pair_spells (first_log_field v) (edge_field v) (checked_spells (number w64) (λ log. leb 1 log && leb log (v + 1)) n64)
    (checked_spells (number w32) (λ edge. leb edge LAST_DAY_RANGE && begun v (eqb edge 0)) (number_spells w32 wide32))))

stables_spell : (version : ℕ) → SpellsOnce (stables_field version)
unfolding stables_field
stables_spell version = listed_spells w32 (λ n. leb n TABLES && begun version (eqb n 0)) stable_items wide32 stable_items_spell

tables_spell : (version : ℕ) (stables : List HeadStable) → SpellsOnce (tables_field version stables)
unfolding tables_field
tables_spell version stables = listed_spells w32 (λ n. leb (length stables + n) TABLES && begun version (eqb n 0)) (table_items stables) wide32 (table_items_spell stables)

sets_spell : (version : ℕ) → SpellsOnce (sets_field version)
unfolding sets_field
sets_spell version = listed_spells w32 (λ n. begun version (eqb n 0)) set_items wide32 set_items_spell

streams_spell : (version next : ℕ) → SpellsOnce (streams_field version next)
unfolding streams_field
streams_spell version next = listed_spells w32 (λ n. leb n STREAMS && begun version (eqb n 0)) (stream_items version next) wide32 (stream_items_spell version next)

objects_spell : (version : ℕ) → SpellsOnce (objects_field version)
unfolding objects_field
objects_spell version =
    pair_spells (followed (stables_field version) (tables_field version)) (pair (sets_field version) (followed (next_field version) (streams_field version)))
    (followed_spells (stables_field version) (tables_field version) (stables_spell version) (tables_spell version))
    (pair_spells (sets_field version) (followed (next_field version) (streams_field version)) (sets_spell version)
    (followed_spells (next_field version) (streams_field version) (checked_spells (number w32) (λ next. leb 1 next && begun version (eqb next 1)) (number_spells w32 wide32)) (streams_spell version)))

pub body_spells : SpellsOnce head_body
unfolding head_body
body_spells =
    made_spells (followed start_field (λ start. objects_field start.0)) head_of head_parts (λ a _. refl)
    (λ a h e. ap head_of (sym (some_is ((h.version, (h.moment, (h.first_log, h.edge))), ((h.stables, h.tables), (h.sets, (h.next_stream, h.streams)))) a e)))
    (followed_spells start_field (λ start. objects_field start.0) start_spells (λ start. objects_spell start.0))

-- ---- marks and the frame

abbrev marked : List ℕ × List ℕ → Read (Unit {0})
marked t = Ok (tt, t.1)

mark_spells : (m : List ℕ) → SpellsOnce (mark m)
unfolding mark
mark_spells m =
    let same : List ℕ → Bool = λ t. bytes_eq t m in
    record {
      takes = λ bytes x are e.
          let b = bind_ok (string_read same (length bytes) (length m) bytes) marked x e in
          let t = string_takes same (length bytes) (length m) bytes b.0 are b.1 in
          let is : b.0.0 ≡ m = (bytes_eq-Decides b.0.0 m).0 t.1.1 in
          subst (λ (y : Unit {0} × List ℕ). Takes bytes m y.1 × (true ≡ true)) (ok_is (tt, b.0.1) x b.2) (subst (λ (l : List ℕ). Takes bytes l b.0.1) is t.0, refl);
      again = λ x rest fits. bind_is marked (string_again same (length (m ++ rest)) (length m) m rest refl ((bytes_eq-Decides m m).1 refl));
      within = λ bytes are. within_bind (length bytes) (string_read same (length bytes) (length m) bytes) marked (string_within same (length bytes) (length m) bytes (length bytes) (le_self (length bytes))) (λ x e. tt);
    }

frame_spells : (size : ℕ) → SpellsOnce (frame size)
unfolding frame
frame_spells size =
    let sizes = checked (number w64) (λ n. eqb n size) in
    let formats = checked (number w32) (λ n. eqb n FORMAT) in
    let ends = pair head_body (mark (codes "TDHE")) in
    pair_spells (mark (codes "TDH1")) (pair sizes (pair formats ends)) (mark_spells (codes "TDH1"))
    (pair_spells sizes (pair formats ends) (checked_spells (number w64) (λ n. eqb n size) (number_spells w64 wide64))
    (pair_spells formats ends (checked_spells (number w32) (λ n. eqb n FORMAT) (number_spells w32 wide32)) (pair_spells head_body (mark (codes "TDHE")) body_spells (mark_spells (codes "TDHE")))))

-- what stands in a frame of a size
abbrev said : ℕ → Head → Framed
said size h = (tt, (size, (FORMAT, (h, tt))))

said_bytes : (size : ℕ) (h : Head) → (frame size).spelled (said size h) ≡ framed size h
unfolding frame framed mark
said_bytes size h = refl

-- what fits in a frame is of its size and of the format, and its head fits
frame_fits : (size : ℕ) (x : Framed) → (frame size).fits x ≡ true → (x.1.0 ≡ size) × (x.1.1.0 ≡ FORMAT) × (head_body.fits x.1.1.1.0 ≡ true) × (ltb x.1.0 (2 ^ 64) ≡ true)
unfolding frame mark
frame_fits size x fits =
    let sizes = (checked (number w64) (λ n. eqb n size)).fits x.1.0 in
    let formats = (checked (number w32) (λ n. eqb n FORMAT)).fits x.1.1.0 in
    let body = head_body.fits x.1.1.1.0 in
    let a = and_parts true (sizes && (formats && (body && true))) fits in
    let b = and_parts sizes (formats && (body && true)) a.1 in
    let c = and_parts formats (body && true) b.1 in
    let d = and_parts body true c.1 in
    let s = and_parts (ltb x.1.0 (2 ^ 64)) (eqb x.1.0 size) b.0 in
    let f = and_parts (ltb x.1.1.0 (2 ^ 32)) (eqb x.1.1.0 FORMAT) c.0 in
    (eqb-true x.1.0 size s.1, eqb-true x.1.1.0 FORMAT f.1, d.0, s.0)

said_fits : (size : ℕ) (h : Head) → size < 2 ^ 64 → head_body.fits h ≡ true → (frame size).fits (said size h) ≡ true
unfolding frame mark
said_fits size h lt fits =
    let sizes = and_from (ltb size (2 ^ 64)) (eqb size size) (lt-ltb size (2 ^ 64) lt) (eq-eqb size size refl) in
    and_from ((checked (number w64) (λ n. eqb n size)).fits size) (true && (head_body.fits h && true)) sizes (and_from (head_body.fits h) true fits refl)

said_is : (size : ℕ) (x : Framed) → (x.1.0 ≡ size) → (x.1.1.0 ≡ FORMAT) → said size x.1.1.1.0 ≡ x
said_is size x e f = ap (λ (n : ℕ). said n x.1.1.1.0) (sym e) ∙ ap (λ (n : ℕ). (tt, (x.1.0, (n, (x.1.1.1.0, tt))))) (sym f)

abbrev head_in : Framed × List ℕ → Result Head ℕ
head_in x = cond (eqb (length x.1) 0) (Ok x.0.1.1.1.0) (Err (length x.1))

pub head_takes : (bytes : List ℕ) (h : Head) → AreBytes bytes → head_read bytes ≡ Ok h → IsHead bytes h
unfolding head_read
head_takes bytes h are e =
    let size = length bytes in
    let b = bind_ok ((frame size).read bytes) head_in h e in
    let x = b.0.0 in
    let g = passed (eqb (length b.0.1) 0) (length b.0.1) (Ok x.1.1.1.0) h b.2 in
    let t = (frame_spells size).takes bytes b.0 are b.1 in
    let f = frame_fits size x t.1 in
    let none : b.0.1 ≡ [] = nil_from_length b.0.1 (eqb-true (length b.0.1) 0 g.0) in
    let whole : bytes ≡ (frame size).spelled x = t.0.parts ∙ ap (λ (l : List ℕ). (frame size).spelled x ++ l) none ∙ append-nil ((frame size).spelled x) in
    let is : bytes ≡ framed size x.1.1.1.0 = whole ∙ ap (frame size).spelled (sym (said_is size x f.0 f.1)) ∙ said_bytes size x.1.1.1.0 in
    let same : x.1.1.1.0 ≡ h = ok_is x.1.1.1.0 h g.1 in
    subst (λ (k : Head). IsHead bytes k) same (record { bytes_are = is; size = subst (λ (n : ℕ). n < 2 ^ 64) f.0 (ltb-true x.1.0 (2 ^ 64) f.3); fits = f.2 })

pub head_again : (bytes : List ℕ) (h : Head) → IsHead bytes h → head_read bytes ≡ Ok h
unfolding head_read
head_again bytes h is =
    let size = length bytes in
    let again = (frame_spells size).again (said size h) [] (said_fits size h is.size is.fits) in
    let whole : bytes ≡ (frame size).spelled (said size h) ++ [] = is.bytes_are ∙ sym (said_bytes size h) ∙ sym (append-nil ((frame size).spelled (said size h))) in
    bind_is head_in (ap (frame size).read whole ∙ again)

-- ---- one head

pub one_head : (bytes : List ℕ) (a b : Head) → IsHead bytes a → IsHead bytes b → a ≡ b
one_head bytes a b p q = ok_is a b (sym (head_again bytes a p) ∙ head_again bytes b q)

ok_err : {A : Type 0} (r : Result A ℕ) (x : A) (d : ℕ) → r ≡ Ok x → r ≡ Err d → ⊥
ok_err r x d e f = absurd cc

err_is : {A : Type 0} (r : Result A ℕ) (c d : ℕ) → r ≡ Err c → r ≡ Err d → c ≡ d
err_is r c d e f = cc

pub head_or_break : (bytes : List ℕ) (h : Head) (at : ℕ) → IsHead bytes h → BreaksAt bytes at → ⊥
head_or_break bytes h at p q = ok_err (head_read bytes) h q.left (head_again bytes h p) q.breaks

pub one_break : (bytes : List ℕ) (at other : ℕ) → BreaksAt bytes at → BreaksAt bytes other → at ≡ other
one_break bytes at other p q = p.place ∙ ap (λ (n : ℕ). length bytes - n) (err_is (head_read bytes) p.left q.left p.breaks q.breaks) ∙ sym q.place

-- a head has one spelling
sized : (m n : ℕ) (h : Head) → length (framed m h) ≡ length (framed n h)
unfolding framed
sized m n h =
    let rest = to_le_bytes w32 FORMAT ++ (head_body.spelled h ++ codes "TDHE") in
    omega (arith, length-append (to_le_bytes w64 m) rest, length-append (to_le_bytes w64 n) rest, wide64.len m, wide64.len n, length-append (codes "TDH1") (to_le_bytes w64 m ++ rest), length-append (codes "TDH1") (to_le_bytes w64 n ++ rest))

pub one_spelling : (a b : List ℕ) (h : Head) → IsHead a h → IsHead b h → a ≡ b
one_spelling a b h p q =
    let len : length a ≡ length b = ap length p.bytes_are ∙ sized (length a) (length b) h ∙ sym (ap length q.bytes_are) in
    p.bytes_are ∙ ap (λ (n : ℕ). framed n h) len ∙ sym q.bytes_are

pub has_bytes : (bytes : List ℕ) (h : Head) → IsHead bytes h → HasBytes h
has_bytes bytes h is = record { fits = is.fits; size = subst (λ (n : ℕ). n < 2 ^ 64) (ap length is.bytes_are ∙ sized (length bytes) 0 h) is.size }

-- ---- answers

pub answers_have_bytes : (bytes : List ℕ) (r : Result Head HeadFault) → Answers bytes r → IfOk r (λ h. HasBytes h)
answers_have_bytes bytes (Ok h) answer = has_bytes bytes h answer
answers_have_bytes bytes (Err e) answer = tt

pub answers_only : (bytes : List ℕ) (r : Result Head HeadFault) (h : Head) → Answers bytes r → IsHead bytes h → (r ≡ Ok h) ⊎ (r ≡ Err faults.NoMemory)
answers_only bytes (Ok a) h answer is = inl (ap (λ (k : Head). Ok k) (one_head bytes a h answer is))
answers_only bytes (Err (faults.NotThis at)) h answer is = absurd (head_or_break bytes h at is answer)
answers_only bytes (Err faults.NoMemory) h answer is = inr refl

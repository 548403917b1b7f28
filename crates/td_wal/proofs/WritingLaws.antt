-- What an item keeps that can be written, and that continues a log.
use Rattle.std.proofs.Common.{◌≡◌, ℕ, zero, suc, ◌+◌, ◌^◌, ◌<◌, ◌≤◌, true, ltb, leb, eqb, List, [], ◌∷◌, ◌++◌, length, take, refl, sym, ap, subst, ◌∙◌, arith, length-append}
use Rattle.std.specs.Prelude.{◌&&◌}
use Rattle.std.proofs.lemmas.Bool.{and_parts, and_from, ltb-true, le-leb, eqb-true}
use Rattle.std.specs.Int.{w8, w32, w64, to_le_bytes}
use Rattle.td_limits.specs.declared.limits.TheConstants.{LAST_VERSION, LAST_TIMESTAMP}
use Rattle.td_codec.specs.Fields.{number}
use Rattle.td_codec.proofs.FieldLaws.{wide8, wide32, wide64}
use Rattle.td_model.specs.declared.windows.Delta.{Delta}
use Rattle.td_codec.specs.Values.{win_key_list, win_row_list}
use Rattle.td_wal.specs.declared.item.LogItem.{LogItem}
use Rattle.td_wal.specs.declared.item.LogBody.{LogBody}
use Rattle.td_wal.specs.declared.item.LogBody.TheVariants as bodies
use Rattle.td_wal.specs.Items.{step_head, StepBody, step, body_form, body, body_kind, body_bytes, version_field, moment_field, item_head, head_of, item, item_bytes}
use Rattle.td_wal.specs.Log.{items_fit, last_moment}
use Rattle.td_wal.specs.Append.{IsWritable, Continues, next_gate, step_fits}
use Rattle.td_wal.proofs.LogLaws.{items_fit-push}

-- the parts of an item that fits
parts_fit : (version least : ℕ) (i : LogItem) → (item version least).fits i ≡ true → ((item_head version least).fits (head_of i) ≡ true) × ((body i.version i.moment (length (body_bytes i.body))).fits i.body ≡ true)
unfolding item
parts_fit version least i fits = and_parts ((item_head version least).fits (head_of i)) ((body i.version i.moment (length (body_bytes i.body))).fits i.body) fits

size_fits : (version least : ℕ) (i : LogItem) → (item_head version least).fits (head_of i) ≡ true → length (body_bytes i.body) < 2 ^ 32
unfolding item_head
size_fits version least i fits = ltb-true _ _ (and_parts (ltb (length (body_bytes i.body)) (2 ^ 32)) _ fits).0

pub writable_size : (i : LogItem) → IsWritable i → length (body_bytes i.body) < 2 ^ 32
writable_size i w = size_fits i.version 0 i (parts_fit i.version 0 i w.fits).0

pub size_of : (i : LogItem) (bytes : List ℕ) → IsWritable i → bytes ≡ body_bytes i.body → length bytes < 2 ^ 32
size_of i bytes w is = subst (λ (l : List ℕ). length l < 2 ^ 32) (sym is) (writable_size i w)

pub text_body : (b : LogBody) (text bytes : List ℕ) → b ≡ bodies.Text text → bytes ≡ text → bytes ≡ body_bytes b
unfolding body_bytes
text_body b text bytes is same = same ∙ sym (ap body_bytes is)

body_windows : (version moment size stream upto own : ℕ) (delta : Delta) → (body version moment size).fits (bodies.Step stream upto own delta) ≡ true → step_fits delta
unfolding body body_form step
body_windows version moment size stream upto own delta fits =
    let x : StepBody = ((stream, (upto, own)), (delta.removed, delta.added)) in
    let f = and_parts ((step version moment).fits x) _ fits in
    let g = and_parts ((step_head version moment).fits x.0) (win_key_list.fits delta.removed && win_row_list.fits delta.added) f.0 in
    and_parts (win_key_list.fits delta.removed) (win_row_list.fits delta.added) g.1

pub writable_windows : (i : LogItem) (stream upto moment : ℕ) (delta : Delta) → IsWritable i → i.body ≡ bodies.Step stream upto moment delta → step_fits delta
writable_windows i stream upto moment delta w is =
    body_windows i.version i.moment (length (body_bytes i.body)) stream upto moment delta (subst (λ (b : LogBody). (body i.version i.moment (length (body_bytes i.body))).fits b ≡ true) is (parts_fit i.version 0 i w.fits).1)

-- ---- an item that continues a log

later_fits : (version least : ℕ) (i : LogItem) → least ≤ i.moment → (item version 0).fits i ≡ true → (item version least).fits i ≡ true
unfolding item item_head
later_fits version least i le fits =
    let f = and_parts ((item_head version 0).fits (head_of i)) ((body i.version i.moment (length (body_bytes i.body))).fits i.body) fits in
    let size = and_parts ((number w32).fits (length (body_bytes i.body))) _ f.0 in
    let own = and_parts ((version_field version).fits i.version) _ size.1 in
    let moment = and_parts ((moment_field 0).fits i.moment) _ own.1 in
    let parts = and_parts ((number w64).fits i.moment) (leb 0 i.moment && leb i.moment LAST_TIMESTAMP) moment.0 in
    let bounds = and_parts (leb 0 i.moment) (leb i.moment LAST_TIMESTAMP) parts.1 in
    let later : (moment_field least).fits i.moment ≡ true = and_from _ _ parts.0 (and_from _ _ (le-leb _ _ le) bounds.1) in
    and_from _ _ (and_from _ _ size.0 (and_from _ _ own.0 (and_from _ _ later moment.1))) f.1

pub continues : (first : ℕ) (items : List LogItem) (i : LogItem) → IsWritable i → items_fit first 0 items ≡ true → i.version ≡ first + length items → last_moment 0 items ≤ i.moment → Continues first items i
continues first items i w fit version moment =
    items_fit-push first 0 items i fit (later_fits (first + length items) (last_moment 0 items) i moment (subst (λ (v : ℕ). (item v 0).fits i ≡ true) version w.fits))

any_moment_fits : (version least : ℕ) (i : LogItem) → (item version least).fits i ≡ true → (item version 0).fits i ≡ true
unfolding item item_head
any_moment_fits version least i fits =
    let f = and_parts ((item_head version least).fits (head_of i)) ((body i.version i.moment (length (body_bytes i.body))).fits i.body) fits in
    let size = and_parts ((number w32).fits (length (body_bytes i.body))) _ f.0 in
    let own = and_parts ((version_field version).fits i.version) _ size.1 in
    let moment = and_parts ((moment_field least).fits i.moment) _ own.1 in
    let parts = and_parts ((number w64).fits i.moment) (leb least i.moment && leb i.moment LAST_TIMESTAMP) moment.0 in
    let bounds = and_parts (leb least i.moment) (leb i.moment LAST_TIMESTAMP) parts.1 in
    let any : (moment_field 0).fits i.moment ≡ true = and_from _ _ parts.0 (and_from (leb 0 i.moment) _ (le-leb _ _ (omega arith)) bounds.1) in
    and_from _ _ (and_from _ _ size.0 (and_from _ _ own.0 (and_from _ _ any moment.1))) f.1

own_version : (version least : ℕ) (i : LogItem) → (item version least).fits i ≡ true → i.version ≡ version
unfolding item item_head
own_version version least i fits =
    let f = and_parts ((item_head version least).fits (head_of i)) ((body i.version i.moment (length (body_bytes i.body))).fits i.body) fits in
    let size = and_parts ((number w32).fits (length (body_bytes i.body))) _ f.0 in
    let own = and_parts ((version_field version).fits i.version) _ size.1 in
    let test = and_parts ((number w64).fits i.version) (eqb i.version version && leb i.version LAST_VERSION) own.0 in
    eqb-true _ _ (and_parts (eqb i.version version) (leb i.version LAST_VERSION) test.1).0

last_fits : (version least : ℕ) (items : List LogItem) (i : LogItem) → items_fit version least (items ++ i ∷ []) ≡ true → (later : ℕ) × ((item (version + length items) later).fits i ≡ true)
last_fits version least [] i fits =
    let e : version ≡ version + 0 = omega arith in
    (least, subst (λ (v : ℕ). (item v least).fits i ≡ true) e (and_parts ((item version least).fits i) true fits).0)
last_fits version least (j ∷ js) i fits =
    let f = and_parts ((item version least).fits j) (items_fit (version + 1) j.moment (js ++ i ∷ [])) fits in
    let l = last_fits (version + 1) j.moment js i f.1 in
    let e : (version + 1) + length js ≡ version + suc (length js) = omega arith in
    (l.0, subst (λ (v : ℕ). (item v l.0).fits i ≡ true) e l.1)

pub continues_writable : (first : ℕ) (items : List LogItem) (i : LogItem) → 1 ≤ first → Continues first items i → IsWritable i
continues_writable first items i some fits =
    let l = last_fits first 0 items i fits in
    let own = own_version (first + length items) l.0 i l.1 in
    let any = any_moment_fits (first + length items) l.0 i l.1 in
    record { version = omega (arith, own, some); fits = subst (λ (v : ℕ). (item v 0).fits i ≡ true) (sym own) any }

pub items_fit-take : (version least : ℕ) (items : List LogItem) (n : ℕ) → items_fit version least items ≡ true → items_fit version least (take n items) ≡ true
items_fit-take version least items zero fits = refl
items_fit-take version least [] (suc n) fits = refl
items_fit-take version least (j ∷ js) (suc n) fits =
    let f = and_parts ((item version least).fits j) (items_fit (version + 1) j.moment js) fits in
    and_from _ _ f.0 (items_fit-take (version + 1) j.moment js n f.1)

-- how long an item is
pub item_length : (i : LogItem) → length (item_bytes i) ≡ 29 + length (body_bytes i.body)
unfolding item_bytes
item_length i =
    let size = to_le_bytes w32 (length (body_bytes i.body)) in
    let version = to_le_bytes w64 i.version in
    let moment = to_le_bytes w64 i.moment in
    let session = to_le_bytes w32 i.session in
    let ordinal = to_le_bytes w32 i.ordinal in
    let kind = to_le_bytes w8 (body_kind i.body) in
    let body = body_bytes i.body in
    let sizes : length size ≡ 4 = wide32.len (length (body_bytes i.body)) in
    let versions : length version ≡ 8 = wide64.len i.version in
    let moments : length moment ≡ 8 = wide64.len i.moment in
    let sessions : length session ≡ 4 = wide32.len i.session in
    let ordinals : length ordinal ≡ 4 = wide32.len i.ordinal in
    let kinds : length kind ≡ 1 = wide8.len (body_kind i.body) in
    length-append (size ++ (version ++ (moment ++ (session ++ ordinal)))) (kind ++ body)
    ∙ omega (arith, length-append size (version ++ (moment ++ (session ++ ordinal))), length-append version (moment ++ (session ++ ordinal)), length-append moment (session ++ ordinal), length-append session ordinal, length-append kind body)

pub next_gate_is : (at : ℕ) (i : LogItem) → next_gate at i ≡ at + 30 + length (body_bytes i.body)
next_gate_is at i = omega (arith, item_length i)

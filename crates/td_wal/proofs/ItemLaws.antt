-- An item has one spelling.
use Rattle.std.proofs.Common.{◌≡◌, ℕ, ◌+◌, ◌-◌, ◌≤◌, Bool, true, false, cond, ltb, leb, eqb, List, [], ◌++◌, length, take, drop, Some, Ok, Err, refl, sym, ap, subst, ◌∙◌, arith}
use Rattle.std.specs.Prelude.{◌&&◌}
use Rattle.std.specs.Int.{w8, w32, w64, to_le_bytes}
use Rattle.std.proofs.lemmas.Bool.{and_parts, and_from, cond_both, cond-false, eqb-true, eq-eqb, ltb-false}
use Rattle.std.proofs.lemmas.List.{append-nil, nil_from_length, take_at, drop_at, take-append-drop, length-take}
use Rattle.td_cols.specs.Spelling.{AreBytes}
use Rattle.td_limits.specs.declared.limits.TheConstants.{LAST_VERSION, LAST_TIMESTAMP, SESSIONS}
use Rattle.td_codec.specs.Fields.{Read, Field, Takes, Within, SpellsOnce, number, checked, pair, followed}
use Rattle.td_codec.specs.Values.{win_key_list, win_row_list}
use Rattle.td_codec.proofs.FieldLaws.{AreBytes-take, AreBytes-drop, passed, passed_by, ok_is, long_enough, wide8, wide32, wide64, number_spells, unknown_spells, checked_spells, pair_spells, followed_spells, made_spells, made_tag, tagged_spells, within_cond, shorter, le_self}
use Rattle.td_codec.proofs.ValueLaws.{some_is, win_key_list_spells, win_row_list_spells}
use Rattle.td_wal.specs.declared.item.LogItem.{LogItem}
use Rattle.td_wal.specs.declared.item.LogBody.{LogBody}
use Rattle.td_wal.specs.declared.item.LogBody.TheVariants as bodies
use Rattle.td_wal.specs.Items.{all_bytes, ended, enclosed, is_step_of, step_head, StepBody, step, step_of, as_step, as_text, body_kind, body_form, body, body_bytes, ItemHead, version_field, moment_field, session_field, item_head, head_of, item_of, item_parts, item, item_bytes}

-- the same of bytes behind which none stand
record SpellsWhole {A : Type 0} (field : Field A) : Type 0 where
  takes : (bytes : List ℕ) (x : A) → AreBytes bytes → field.read bytes ≡ Ok (x, []) → (bytes ≡ field.spelled x) × (field.fits x ≡ true)
  again : (x : A) → field.fits x ≡ true → field.read (field.spelled x) ≡ Ok (x, [])
  within : (bytes : List ℕ) → AreBytes bytes → Within (length bytes) (field.read bytes)
  left : (bytes : List ℕ) (x : A × List ℕ) → AreBytes bytes → field.read bytes ≡ Ok x → length x.1 ≤ length bytes

whole_from_once : {A : Type 0} (field : Field A) → SpellsOnce field → SpellsWhole field
whole_from_once field one = record {
  takes = λ bytes x are e. let t = one.takes bytes (x, []) are e in (t.0.parts ∙ append-nil (field.spelled x), t.1);
  again = λ x fits. ap field.read (sym (append-nil (field.spelled x))) ∙ one.again x [] fits;
  within = one.within;
  left = λ bytes x are e. let t = one.takes bytes x are e in shorter bytes (field.spelled x.0) x.1 t.0;
}

all_bytes_whole : SpellsWhole all_bytes
all_bytes_whole = record {
  takes = λ bytes x are e. (ap (λ (p : List ℕ × List ℕ). p.0) (ok_is (bytes, []) (x, []) e), refl);
  again = λ x fits. refl;
  within = λ bytes are. tt;
  left = λ bytes x are e. subst (λ (y : List ℕ × List ℕ). length y.1 ≤ length bytes) (ok_is (bytes, []) x e) (omega arith);
}

ended_ok : {A : Type 0} (more : ℕ) (rest : List ℕ) (r : Read A) (x : A × List ℕ) → ended more rest r ≡ Ok x → (y : A) × (r ≡ Ok (y, [])) × (x ≡ (y, rest))
ended_ok {A} more rest (Ok y) x e =
    let g = passed (eqb (length y.1) 0) (length y.1 + more) (Ok (y.0, rest)) x e in
    let none : y.1 ≡ [] = nil_from_length y.1 (eqb-true _ _ g.0) in
    (y.0, ap (λ (l : List ℕ). Ok (y.0, l)) none, sym (ok_is (y.0, rest) x g.1))
ended_ok more rest (Err d) x e = absurd cc

ended_within : {A : Type 0} (n more bound : ℕ) (rest : List ℕ) (r : Read A) → n + more ≤ bound → Within n r → ((x : A × List ℕ) → r ≡ Ok x → length x.1 ≤ n) → Within bound (ended more rest r)
ended_within n more bound rest (Ok x) le h left =
    let few : length x.1 ≤ n = left x refl in
    let less : length x.1 + more ≤ bound = omega arith in
    within_cond bound (eqb (length x.1) 0) (Ok (x.0, rest)) (Err (length x.1 + more)) tt less
ended_within n more bound rest (Err d) le h left = omega arith

enclosed_within : {A : Type 0} (n : ℕ) (field : Field A) → SpellsWhole field → (bytes : List ℕ) → AreBytes bytes → (short : Bool) → ltb (length bytes) n ≡ short
    → Within (length bytes) (cond short (Err (length bytes)) (ended (length bytes - n) (drop n bytes) (field.read (take n bytes))))
enclosed_within n field one bytes are true e = le_self (length bytes)
enclosed_within n field one bytes are false e =
    let long : n ≤ length bytes = ltb-false _ _ e in
    let size : length (take n bytes) + (length bytes - n) ≤ length bytes = omega (arith, length-take n bytes) in
    let fronts = AreBytes-take n bytes are in
    ended_within (length (take n bytes)) (length bytes - n) (length bytes) (drop n bytes) (field.read (take n bytes)) size (one.within (take n bytes) fronts) (λ x read. one.left (take n bytes) x fronts read)

enclosed_spells : {A : Type 0} (n : ℕ) (field : Field A) → SpellsWhole field → SpellsOnce (enclosed n field)
enclosed_spells {A} n field one = record {
  takes = λ bytes x are e.
      let front = take n bytes in
      let g = passed_by (ltb (length bytes) n) (length bytes) (ended (length bytes - n) (drop n bytes) (field.read front)) x e in
      let h = ended_ok (length bytes - n) (drop n bytes) (field.read front) x g.1 in
      let t = one.takes front h.0 (AreBytes-take n bytes are) h.1 in
      let long : n ≤ length bytes = ltb-false _ _ g.0 in
      let size : length front ≡ n = omega (arith, length-take n bytes) in
      let len : length (field.spelled h.0) ≡ n = ap length (sym t.0) ∙ size in
      let parts : bytes ≡ field.spelled h.0 ++ drop n bytes = sym (take-append-drop n bytes) ∙ ap (λ (l : List ℕ). l ++ drop n bytes) t.0 in
      subst (λ (y : A × List ℕ). Takes bytes (field.spelled y.0) y.1 × ((field.fits y.0 && eqb (length (field.spelled y.0)) n) ≡ true)) (sym h.2)
      (record { parts = parts; rest_are = AreBytes-drop n bytes are }, and_from _ _ t.1 (eq-eqb _ _ len));
  again = λ x rest fits.
      let text = field.spelled x in
      let f = and_parts (field.fits x) (eqb (length text) n) fits in
      let len : length text ≡ n = eqb-true _ _ f.1 in
      let more = length (text ++ rest) - n in
      cond-false (ltb (length (text ++ rest)) n) (Err (length (text ++ rest))) (ended more (drop n (text ++ rest)) (field.read (take n (text ++ rest)))) (long_enough text rest n len)
      ∙ ap (λ (l : List ℕ). ended more (drop n (text ++ rest)) (field.read l)) (take_at text rest n len)
      ∙ ap (λ (l : List ℕ). ended more l (field.read text)) (drop_at text rest n len)
      ∙ ap (ended more rest) (one.again x f.0);
  within = λ bytes are. enclosed_within n field one bytes are (ltb (length bytes) n) refl;
}

-- ---- bodies

step_head_spells : (version moment : ℕ) → SpellsOnce (step_head version moment)
unfolding step_head
step_head_spells version moment =
    checked_spells (pair (number w32) (pair (number w64) (number w64))) (is_step_of version moment)
    (pair_spells (number w32) (pair (number w64) (number w64)) (number_spells w32 wide32) (pair_spells (number w64) (number w64) (number_spells w64 wide64) (number_spells w64 wide64)))

step_spells : (version moment : ℕ) → SpellsOnce (step version moment)
unfolding step
step_spells version moment =
    pair_spells (step_head version moment) (pair win_key_list win_row_list) (step_head_spells version moment) (pair_spells win_key_list win_row_list win_key_list_spells win_row_list_spells)

-- a fault in a step that fills a front of bytes lies within the front
pub step_fault : (version moment n : ℕ) (bytes front : List ℕ) (left : ℕ) → AreBytes bytes → front ≡ take n bytes → (step version moment).read front ≡ Err left → left ≤ length front
step_fault version moment n bytes front left are is e =
    let fronts : AreBytes front = subst (λ (l : List ℕ). AreBytes l) (sym is) (AreBytes-take n bytes are) in
    subst (λ (r : Read StepBody). Within (length front) r) e ((step_spells version moment).within front fronts)

text_is : (a : List ℕ) (b : LogBody) → as_text b ≡ Some a → bodies.Text a ≡ b
text_is a (bodies.Text t) e = ap (λ (v : List ℕ). bodies.Text v) (some_is a t (sym e))
text_is a (bodies.Step stream upto moment delta) e = absurd cc

step_is : (a : StepBody) (b : LogBody) → as_step b ≡ Some a → step_of a ≡ b
step_is a (bodies.Text t) e = absurd cc
step_is a (bodies.Step stream upto moment delta) e = ap step_of (sym (some_is ((stream, (upto, moment)), (delta.removed, delta.added)) a e))

body_form_spells : (version moment size kind : ℕ) → SpellsOnce (body_form version moment size kind)
unfolding body_form
body_form_spells version moment size kind =
    cond_both (eqb kind 1) _ _ (λ (f : Field LogBody). SpellsOnce f) (λ _. made_spells (enclosed size all_bytes) (λ t. bodies.Text t) as_text (λ a _. refl) text_is (enclosed_spells size all_bytes all_bytes_whole)) (λ _.
    cond_both (eqb kind 2) _ _ (λ (f : Field LogBody). SpellsOnce f) (λ _. made_spells (enclosed size (step version moment)) step_of as_step (λ a _. refl) step_is (enclosed_spells size (step version moment) (whole_from_once (step version moment) (step_spells version moment)))) (λ _. unknown_spells))

body_form_own : (version moment size kind : ℕ) (b : LogBody) → (body_form version moment size kind).fits b ≡ true → body_kind b ≡ kind
unfolding body_form
body_form_own version moment size kind b =
    let P : Field LogBody → Type 0 = λ f. f.fits b ≡ true → body_kind b ≡ kind in
    cond_both (eqb kind 1) _ _ P (λ e fits. made_tag (enclosed size all_bytes) (λ t. bodies.Text t) as_text text_is body_kind kind (λ a. sym (eqb-true kind 1 e)) b (as_text b) refl fits) (λ _.
    cond_both (eqb kind 2) _ _ P (λ e fits. made_tag (enclosed size (step version moment)) step_of as_step step_is body_kind kind (λ a. sym (eqb-true kind 2 e)) b (as_step b) refl fits) (λ _ fits. absurd cc))

body_spells : (version moment size : ℕ) → SpellsOnce (body version moment size)
unfolding body
body_spells version moment size =
    let kinds = checked_spells (number w8) (λ kind. leb 1 kind && leb kind 2) (number_spells w8 wide8) in
    tagged_spells (checked (number w8) (λ kind. leb 1 kind && leb kind 2)) body_kind (body_form version moment size) (body_form_own version moment size) kinds (body_form_spells version moment size)

-- a body that fits fills its size
body_size : (version moment size : ℕ) (b : LogBody) → (body version moment size).fits b ≡ true → length (body_bytes b) ≡ size
unfolding body body_form body_bytes step step_head
body_size version moment size (bodies.Text t) fits = eqb-true (length t) size fits
body_size version moment size (bodies.Step stream upto at delta) fits =
    let x : StepBody = ((stream, (upto, at)), (delta.removed, delta.added)) in
    let f = and_parts ((step version moment).fits x) (eqb (length ((step version moment).spelled x)) size) fits in
    eqb-true (length ((step version moment).spelled x)) size f.1

-- ---- items

item_head_spells : (version least : ℕ) → SpellsOnce (item_head version least)
unfolding item_head
item_head_spells version least =
    let n32 = number_spells w32 wide32 in
    let n64 = number_spells w64 wide64 in
    let session = checked_spells (number w32) (λ s. leb s SESSIONS) n32 in
    let moment = checked_spells (number w64) (λ m. leb least m && leb m LAST_TIMESTAMP) n64 in
    let own = checked_spells (number w64) (λ v. eqb v version && leb v LAST_VERSION) n64 in
    let ends = pair_spells session_field (number w32) session n32 in
    let moments = pair_spells (moment_field least) (pair session_field (number w32)) moment ends in
    let versions = pair_spells (version_field version) (pair (moment_field least) (pair session_field (number w32))) own moments in
    pair_spells (number w32) (pair (version_field version) (pair (moment_field least) (pair session_field (number w32)))) n32 versions

item_back : (version least : ℕ) (a : ItemHead × LogBody) → ((item_head version least).fits a.0 && (body a.0.1.0 a.0.1.1.0 a.0.0).fits a.1) ≡ true → item_parts (item_of a) ≡ Some a
item_back version least a fits =
    let h = a.0 in
    let f = and_parts ((item_head version least).fits h) ((body h.1.0 h.1.1.0 h.0).fits a.1) fits in
    ap (λ (n : ℕ). Some ((n, (h.1.0, (h.1.1.0, (h.1.1.1.0, h.1.1.1.1)))), a.1)) (body_size h.1.0 h.1.1.0 h.0 a.1 f.1)

item_only : (a : ItemHead × LogBody) (i : LogItem) → item_parts i ≡ Some a → item_of a ≡ i
item_only a i e = ap item_of (sym (some_is (head_of i, i.body) a e))

pub item_spells : (version least : ℕ) → SpellsOnce (item version least)
unfolding item
item_spells version least =
    made_spells (followed (item_head version least) (λ h. body h.1.0 h.1.1.0 h.0)) item_of item_parts (item_back version least) item_only
    (followed_spells (item_head version least) (λ h. body h.1.0 h.1.1.0 h.0) (item_head_spells version least) (λ h. body_spells h.1.0 h.1.1.0 h.0))

-- the bytes of an item, whatever stands before it
body_bytes_are : (version moment size : ℕ) (b : LogBody) → (body version moment size).spelled b ≡ to_le_bytes w8 (body_kind b) ++ body_bytes b
unfolding body body_form body_bytes step step_head
body_bytes_are version moment size (bodies.Text t) = refl
body_bytes_are version moment size (bodies.Step stream upto at delta) = refl

pub item_bytes_are : (version least : ℕ) (i : LogItem) → (item version least).spelled i ≡ item_bytes i
unfolding item item_head item_bytes
item_bytes_are version least i =
    ap (λ (l : List ℕ). (item_head version least).spelled (head_of i) ++ l) (body_bytes_are i.version i.moment (length (body_bytes i.body)) i.body)

-- an item that is read fits and is spelled so
pub item_takes : (version least : ℕ) (bytes : List ℕ) (x : LogItem × List ℕ) → AreBytes bytes → (item version least).read bytes ≡ Ok x → Takes bytes (item_bytes x.0) x.1 × ((item version least).fits x.0 ≡ true)
item_takes version least bytes x are e =
    let t = (item_spells version least).takes bytes x are e in
    (subst (λ (l : List ℕ). Takes bytes l x.1) (item_bytes_are version least x.0) t.0, t.1)

pub item_again : (version least : ℕ) (i : LogItem) (rest : List ℕ) → (item version least).fits i ≡ true → (item version least).read (item_bytes i ++ rest) ≡ Ok (i, rest)
item_again version least i rest fits =
    ap (λ (l : List ℕ). (item version least).read (l ++ rest)) (sym (item_bytes_are version least i)) ∙ (item_spells version least).again i rest fits

-- What is read off what a literal says is what the literal gives.
use Rattle.std.proofs.Common.{◌≡◌, ℕ, ℤ, Bool, true, false, ◌&&◌, ◌||◌, cond, nat_le, List, length, Option, Some, None, is_some, refl, sym, ap, ◌∙◌}
use Rattle.std.specs.Option.{option_map_or, unwrap_or}
use Rattle.td_cols.specs.declared.kinds.Kind.{Kind}
use Rattle.td_cols.specs.declared.kinds.Kind.TheVariants as kind
use Rattle.td_cols.specs.Kinds.{is_in_range}
use Rattle.td_layer.specs.declared.values.Cell.TheVariants as cell
use Rattle.td_model.specs.declared.language.Lit.{Lit}
use Rattle.td_model.specs.declared.language.Lit.TheVariants as lit
use Rattle.td_times.specs.Stamps.{timestamp_of}
use Rattle.td_verdict.specs.Names.{is_time}
use Rattle.td_verdict.specs.Values.{is_truth, is_text, width_of, number_at, text_at, is_null, suits, fits, value_of, value_or_null, tag_from, tag_of}
use Rattle.td_fields.specs.declared.literals.Said.TheVariants as said
use Rattle.td_fields.specs.Said.{said_from, said_at, is_suited, is_null_said, is_fit, number_said, value_said, text_cell, cell_from}

-- ---- by whether it is NULL, the number and the text

suited_by : (b : Bool) (n : Option ℤ) (t : Option (List ℕ)) → is_suited (cond b said.Null (said_from n t)) ≡ (b || is_some n || is_some t)
suited_by true n t = refl
suited_by false (Some n) t = refl
suited_by false None (Some t) = refl
suited_by false None None = refl

pub suits_read : (k : Kind) (moment : ℕ) (l : Lit) → is_suited (said_at k moment l) ≡ suits k moment l
suits_read k moment l = suited_by (is_null l) (number_at k moment l) (text_at k l)

pub null_read : (k : Kind) (moment : ℕ) (l : Lit) → is_null_said (said_at k moment l) ≡ is_null l
null_read k moment l = by (is_null l) (number_at k moment l) (text_at k l)
  where
    by : (b : Bool) (n : Option ℤ) (t : Option (List ℕ)) → is_null_said (cond b said.Null (said_from n t)) ≡ b
    by true n t = refl
    by false (Some n) t = refl
    by false None (Some t) = refl
    by false None None = refl

-- NULL says neither a number nor a text, and nothing says both
no_number : (k : Kind) (moment : ℕ) (l : Lit) → is_null l ≡ true → number_at k moment l ≡ None
no_number k moment lit.Null h = refl
no_number k moment lit.True h = absurd (cc)
no_number k moment lit.False h = absurd (cc)
no_number k moment lit.Now h = absurd (cc)
no_number k moment (lit.Num n) h = absurd (cc)
no_number k moment (lit.Str text) h = absurd (cc)

no_text : (k : Kind) (l : Lit) → is_null l ≡ true → text_at k l ≡ None
no_text k lit.Null h = refl
no_text k lit.True h = refl
no_text k lit.False h = refl
no_text k lit.Now h = refl
no_text k (lit.Num n) h = refl
no_text k (lit.Str text) h = absurd (cc)

number_by : (b : Bool) (n : Option ℤ) (t : Option (List ℕ)) → (b ≡ true → n ≡ None) → number_said (cond b said.Null (said_from n t)) ≡ n
number_by true n t h = sym (h refl)
number_by false (Some n) t h = refl
number_by false None (Some t) h = refl
number_by false None None h = refl

pub number_read : (k : Kind) (moment : ℕ) (l : Lit) → number_said (said_at k moment l) ≡ number_at k moment l
number_read k moment l = number_by (is_null l) (number_at k moment l) (text_at k l) (no_number k moment l)

pub value_read : (k : Kind) (moment : ℕ) (l : Lit) → value_said (said_at k moment l) ≡ value_of k moment l
value_read k moment l = ap value_or_null (number_read k moment l)

-- a literal says a number where the kind is one of numbers, and a text where it is one of texts
pub one_kind : (k : Kind) (moment : ℕ) (l : Lit) (n : ℤ) → number_at k moment l ≡ Some n → is_text k ≡ false
one_kind k moment l n h = by k l h
  where
    time_text : (k : Kind) (text : List ℕ) → cond (is_time k) (timestamp_of text) None ≡ Some n → is_text k ≡ false
    time_text kind.Bool text h = refl
    time_text kind.I8 text h = refl
    time_text kind.I16 text h = refl
    time_text kind.I32 text h = refl
    time_text kind.I64 text h = refl
    time_text kind.U8 text h = refl
    time_text kind.U16 text h = refl
    time_text kind.U32 text h = refl
    time_text kind.U64 text h = refl
    time_text kind.Time text h = refl
    time_text kind.Wide text h = refl
    time_text (kind.Text w) text h = absurd (cc)

    now_text : (k : Kind) (m : ℤ) → cond (is_time k) (Some m) None ≡ Some n → is_text k ≡ false
    now_text kind.Bool m h = refl
    now_text kind.I8 m h = refl
    now_text kind.I16 m h = refl
    now_text kind.I32 m h = refl
    now_text kind.I64 m h = refl
    now_text kind.U8 m h = refl
    now_text kind.U16 m h = refl
    now_text kind.U32 m h = refl
    now_text kind.U64 m h = refl
    now_text kind.Time m h = refl
    now_text kind.Wide m h = refl
    now_text (kind.Text w) m h = absurd (cc)

    truth_text : (k : Kind) (m : ℤ) → cond (is_truth k) (Some m) None ≡ Some n → is_text k ≡ false
    truth_text kind.Bool m h = refl
    truth_text kind.I8 m h = refl
    truth_text kind.I16 m h = refl
    truth_text kind.I32 m h = refl
    truth_text kind.I64 m h = refl
    truth_text kind.U8 m h = refl
    truth_text kind.U16 m h = refl
    truth_text kind.U32 m h = refl
    truth_text kind.U64 m h = refl
    truth_text kind.Time m h = refl
    truth_text kind.Wide m h = refl
    truth_text (kind.Text w) m h = absurd (cc)

    plain_text : (b : Bool) (m : ℤ) → cond b None (Some m) ≡ Some n → b ≡ false
    plain_text true m h = absurd (cc)
    plain_text false m h = refl

    by : (k : Kind) (l : Lit) → number_at k moment l ≡ Some n → is_text k ≡ false
    by k lit.Null h = absurd (cc)
    by k lit.True h = truth_text k _ h
    by k lit.False h = truth_text k _ h
    by k lit.Now h = now_text k _ h
    by k (lit.Num m) h = plain_text (is_text k) m h
    by k (lit.Str text) h = time_text k text h

pub text_kind : (k : Kind) (l : Lit) → is_text k ≡ false → text_at k l ≡ None
text_kind k lit.Null h = refl
text_kind k lit.True h = refl
text_kind k lit.False h = refl
text_kind k lit.Now h = refl
text_kind k (lit.Num n) h = refl
text_kind k (lit.Str text) h = ap (λ b. cond b (Some text) None) h

and_true : (b : Bool) → b ≡ (b && true)
and_true true = refl
and_true false = refl

fit_by : (k : Kind) (b : Bool) (n : Option ℤ) (t : Option (List ℕ)) → (b ≡ true → n ≡ None) → (b ≡ true → t ≡ None) → ((m : ℤ) → n ≡ Some m → t ≡ None)
    → is_fit k (cond b said.Null (said_from n t)) ≡ (option_map_or (is_in_range k) n true && option_map_or (λ text. nat_le (length text) (unwrap_or (width_of k) 0)) t true)
fit_by k true n t none empty alone = sym (λ i. option_map_or (is_in_range k) (none refl i) true && option_map_or (λ text. nat_le (length text) (unwrap_or (width_of k) 0)) (empty refl i) true)
fit_by k false (Some n) t none empty alone = and_true (is_in_range k n) ∙ ap (λ o. is_in_range k n && option_map_or (λ text. nat_le (length text) (unwrap_or (width_of k) 0)) o true) (sym (alone n refl))
fit_by k false None (Some t) none empty alone = refl
fit_by k false None None none empty alone = refl

pub fits_read : (k : Kind) (moment : ℕ) (l : Lit) → is_fit k (said_at k moment l) ≡ fits k moment l
fits_read k moment l =
    fit_by k (is_null l) (number_at k moment l) (text_at k l) (no_number k moment l) (no_text k l)
    (λ m e. text_kind k l (one_kind k moment l m e))

-- the cell of a tag
text_is : (k : Kind) (l : Lit) (t : List ℕ) → text_at k l ≡ Some t → text_cell l ≡ cell.Str t
text_is k lit.Null t h = absurd (cc)
text_is k lit.True t h = absurd (cc)
text_is k lit.False t h = absurd (cc)
text_is k lit.Now t h = absurd (cc)
text_is k (lit.Num n) t h = absurd (cc)
text_is k (lit.Str text) t h = by (is_text k) h
  where
    by : (b : Bool) → cond b (Some text) None ≡ Some t → cell.Str text ≡ cell.Str t
    by true h = cc
    by false h = absurd (cc)

cell_by : (k : Kind) (l : Lit) (b : Bool) (n : Option ℤ) (t : Option (List ℕ)) → (b ≡ true → n ≡ None) → (b ≡ true → t ≡ None) → ((text : List ℕ) → t ≡ Some text → text_cell l ≡ cell.Str text)
    → cell_from k l (cond b said.Null (said_from n t)) ≡ tag_from k n t
cell_by k l true n t none empty same = ap (λ o. tag_from k None o) (sym (empty refl)) ∙ ap (λ o. tag_from k o t) (sym (none refl))
cell_by k l false (Some n) t none empty same = refl
cell_by k l false None (Some text) none empty same = same text refl
cell_by k l false None None none empty same = refl

pub cell_read : (k : Kind) (moment : ℕ) (l : Lit) → cell_from k l (said_at k moment l) ≡ tag_of k moment l
cell_read k moment l = cell_by k l (is_null l) (number_at k moment l) (text_at k l) (no_number k moment l) (no_text k l) (text_is k l)

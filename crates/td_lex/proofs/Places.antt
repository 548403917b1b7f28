-- Where tokens stand, and texts cut and joined where tokens end.
use Rattle.std.proofs.Common.{◌≡◌, ℕ, ◌+◌, ◌-◌, ◌<◌, Bool, true, false, ◌==◌, List, [], ◌∷◌, ◌++◌, length, take, get_or, refl, sym, ap, subst, ◌∙◌, arith, append_assoc, length-append}
use Rattle.std.specs.Prelude.{slice_range}
use Rattle.std.specs.List.{list_all}
use Rattle.std.proofs.Math.Seq.{take-append_seam, drop-append_seam}
use Rattle.std.proofs.lemmas.Bool.Decides.{nat_tests}
use Rattle.std.proofs.lemmas.List.{append-nil}
use Rattle.td_lex.specs.declared.kinds.Token.{Token}
use Rattle.td_lex.specs.declared.kinds.Token.TheVariants.{Word, Num, Dur, Str, Sym, Le, Ge, Ne}
use Rattle.td_lex.specs.declared.kinds.Spanned.{Spanned}
use Rattle.td_lex.specs.Tokens.{is_blank, is_word_byte, is_quote, goes_on, BeginsNot, IsToken, Ends, Reads, IsTokens}
use Rattle.td_lex.specs.Laws.{AreSpans, alone, moved}
use Rattle.td_lex.proofs.Again.{some_bytes}
use Rattle.td_lex.proofs.Readings.{after_gap}

-- the spans
not_empty : (token : Token) (word : List ℕ) → IsToken word token → 0 < length word
not_empty token [] h = absurd (some_bytes token h)
not_empty token (b ∷ bs) h = omega arith

slice_is : (front word after : List ℕ) (i j : ℕ) → i ≡ length front → j ≡ i + length word → slice_range (front ++ (word ++ after)) i j ≡ word
slice_is front word after i j h k =
    let size : j - i ≡ length word = omega arith in
    rw (size, h, drop-append_seam front (word ++ after)) (take-append_seam word after)

pub are_spans : (ts : List Spanned) (at : ℕ) (front text last : List ℕ) → length front ≡ at → Reads at text ts last → AreSpans (front ++ text) at ts
are_spans [] at front text last h k = tt
are_spans (t ∷ ts) at front text last h (gap, word, after, all, is, stands, from, to, more) =
    let some = not_empty t.token word stands.1 in
    let whole : front ++ text ≡ (front ++ gap) ++ (word ++ after) = ap (λ x. front ++ x) is ∙ sym (append_assoc front gap (word ++ after)) in
    let sizes : length (front ++ text) ≡ length front + (length gap + (length word + length after)) = omega (arith, ap length whole, length-append (front ++ gap) (word ++ after), length-append front gap, length-append word after) in
    let slice : slice_range (front ++ text) t.at t.end ≡ word = ap (λ x. slice_range x t.at t.end) whole ∙ slice_is (front ++ gap) word after t.at t.end (omega (arith, from, h, length-append front gap)) to in
    let next : front ++ text ≡ (front ++ (gap ++ word)) ++ after = whole ∙ sym (append_assoc (front ++ gap) word after) ∙ ap (λ x. x ++ after) (append_assoc front gap word) in
    let place : length (front ++ (gap ++ word)) ≡ t.end = omega (arith, from, to, h, length-append front (gap ++ word), length-append gap word) in
    (omega (arith, from), omega (arith, to), omega (arith, from, to, h), subst (λ x. IsToken x t.token) (sym slice) stands.1, subst (λ x. AreSpans x t.end ts) (sym next) (are_spans ts t.end (front ++ (gap ++ word)) after last place more))

-- the end of a text ends each token
ends_at_end : (token : Token) (word : List ℕ) → Ends token word []
ends_at_end (Word name) word = tt
ends_at_end (Num n) word = tt
ends_at_end (Dur count unit) word = tt
ends_at_end (Str content) word = tt
ends_at_end (Sym b) word = tt
ends_at_end Le word = tt
ends_at_end Ge word = tt
ends_at_end Ne word = tt

pub one_token : (text : List ℕ) (token : Token) → IsToken text token → IsTokens text (alone token (length text))
one_token text token h = ([], text, [], refl, sym (append-nil text), (refl, h, ends_at_end token text), omega arith, omega arith, ([], refl, refl))

-- what ends a token in a longer text ends it in its front
begins_front : (p : ℕ → Bool) (front behind : List ℕ) → BeginsNot p (front ++ behind) → BeginsNot p front
begins_front p [] behind h = tt
begins_front p (b ∷ front) behind h = h

ends_in_front : (token : Token) (word front behind : List ℕ) → Ends token word (front ++ behind) → Ends token word front
ends_in_front (Word name) word front behind h = begins_front is_word_byte front behind h
ends_in_front (Num n) word front behind h = begins_front is_word_byte front behind h
ends_in_front (Dur count unit) word front behind h = begins_front is_word_byte front behind h
ends_in_front (Str content) word front behind h = begins_front (λ b. b == get_or word 0 0) front behind h
ends_in_front (Sym b) word front behind h = begins_front (goes_on b) front behind h
ends_in_front Le word front behind h = tt
ends_in_front Ge word front behind h = tt
ends_in_front Ne word front behind h = tt

cut_from : (ts us : List Spanned) (t : Spanned) (at : ℕ) (text rest : List ℕ) → Reads at text (ts ++ t ∷ us) rest → (front : List ℕ) × (behind : List ℕ) × (text ≡ front ++ behind) × (at + length front ≡ t.end) × Reads at front (ts ++ t ∷ []) []
cut_from [] us t at text rest (gap, word, after, all, is, stands, from, to, more) = (
  gap ++ word,
  after,
  is ∙ sym (append_assoc gap word after),
  omega (arith, from, to, length-append gap word),
  (gap, word, [], all, ap (λ w. gap ++ w) (sym (append-nil word)), (refl, stands.1, ends_at_end t.token word), from, to, ([], refl, refl)),
)
cut_from (s ∷ ts) us t at text rest (gap, word, after, all, is, stands, from, to, more) =
    let (front, behind, parts, place, reads) = cut_from ts us t s.end after rest more in (
      gap ++ (word ++ front),
      behind,
      is ∙ ap (λ x. gap ++ (word ++ x)) parts ∙ ap (λ x. gap ++ x) (sym (append_assoc word front behind)) ∙ sym (append_assoc gap (word ++ front) behind),
      omega (arith, from, to, place, length-append gap (word ++ front), length-append word front),
      (gap, word, front, all, refl, (refl, stands.1, ends_in_front s.token word front behind (subst (Ends s.token word) parts stands.2)), from, to, reads),
    )

pub cut_at_a_token : (text rest : List ℕ) (ts us : List Spanned) (t : Spanned) → Reads 0 text (ts ++ t ∷ us) rest → IsTokens (take t.end text) (ts ++ t ∷ [])
cut_at_a_token text rest ts us t h =
    let (front, behind, parts, place, reads) = cut_from ts us t 0 text rest h in
    let size : t.end ≡ length front = omega (arith, place) in
    subst (λ x. IsTokens x (ts ++ t ∷ [])) (sym (ap (λ x. take t.end x) parts ∙ ap (λ n. take n (front ++ behind)) size ∙ take-append_seam front behind)) reads

-- what stands before a place that reading comes to
front_from : (ts : List Spanned) (at : ℕ) (text rest : List ℕ) → Reads at text ts rest → (front : List ℕ) × (text ≡ front ++ rest) × Reads at front ts []
front_from [] at text rest (gap, all, is) = (gap, is, (gap, all, sym (append-nil gap)))
front_from (t ∷ ts) at text rest (gap, word, after, all, is, stands, from, to, more) =
    let (front, parts, reads) = front_from ts t.end after rest more in (
      gap ++ (word ++ front),
      is ∙ ap (λ x. gap ++ (word ++ x)) parts ∙ ap (λ x. gap ++ x) (sym (append_assoc word front rest)) ∙ sym (append_assoc gap (word ++ front) rest),
      (gap, word, front, all, refl, (refl, stands.1, ends_in_front t.token word front rest (subst (Ends t.token word) parts stands.2)), from, to, reads),
    )

pub cut_before_the_rest : (text rest : List ℕ) (ts : List Spanned) (at : ℕ) → Reads 0 text ts rest → at + length rest ≡ length text → IsTokens (take at text) ts
cut_before_the_rest text rest ts at h place =
    let (front, parts, reads) = front_from ts 0 text rest h in
    let size : at ≡ length front = omega (arith, place, ap length parts, length-append front rest) in
    subst (λ x. IsTokens x ts) (sym (ap (λ x. take at x) parts ∙ ap (λ n. take n (front ++ rest)) size ∙ take-append_seam front rest)) reads

-- a blank ends each token
blank_is_no_byte : (b : ℕ) → is_blank b ≡ true → is_word_byte b ≡ false
blank_is_no_byte b h = grind (arith, nat_tests)

blank_is_no_quote : (b q : ℕ) → is_blank b ≡ true → is_quote q ≡ true → (b == q) ≡ false
blank_is_no_quote b q h k = grind (arith, nat_tests)

blank_goes_not_on : (s b : ℕ) → is_blank b ≡ true → goes_on s b ≡ false
blank_goes_not_on s b h = grind (arith, nat_tests)

blank_ends : (token : Token) (word : List ℕ) (b : ℕ) (text : List ℕ) → is_blank b ≡ true → IsToken word token → Ends token word (b ∷ text)
blank_ends (Word name) word b text h k = blank_is_no_byte b h
blank_ends (Num n) word b text h k = blank_is_no_byte b h
blank_ends (Dur count unit) word b text h k = blank_is_no_byte b h
blank_ends (Str content) word b text h (q, quote, is, _, _) = ap (λ w. b == get_or w 0 0) is ∙ blank_is_no_quote b q h quote
blank_ends (Sym s) word b text h k = blank_goes_not_on s b h
blank_ends Le word b text h k = tt
blank_ends Ge word b text h k = tt
blank_ends Ne word b text h k = tt

ends_before : (token : Token) (word after : List ℕ) (b : ℕ) (text : List ℕ) → is_blank b ≡ true → IsToken word token → Ends token word after → Ends token word (after ++ b ∷ text)
ends_before token word [] b text h k e = blank_ends token word b text h k
ends_before (Word name) word (c ∷ cs) b text h k e = e
ends_before (Num n) word (c ∷ cs) b text h k e = e
ends_before (Dur count unit) word (c ∷ cs) b text h k e = e
ends_before (Str content) word (c ∷ cs) b text h k e = e
ends_before (Sym s) word (c ∷ cs) b text h k e = e
ends_before Le word (c ∷ cs) b text h k e = tt
ends_before Ge word (c ∷ cs) b text h k e = tt
ends_before Ne word (c ∷ cs) b text h k e = tt

join_from : (ts us : List Spanned) (at : ℕ) (front : List ℕ) (b : ℕ) (text last : List ℕ) → is_blank b ≡ true → Reads at front ts [] → Reads (at + length front) (b ∷ text) us last → Reads at (front ++ b ∷ text) (ts ++ us) last
join_from [] us at front b text last h (gap, all, is) k =
    let same : front ≡ gap = is ∙ append-nil gap in
    after_gap at front (b ∷ text) us last (subst (λ g. list_all is_blank g ≡ true) (sym same) all) k
join_from (t ∷ ts) us at front b text last h (gap, word, after, all, is, stands, from, to, more) k =
    let place : at + length front ≡ t.end + length after = omega (arith, from, to, ap length is, length-append gap (word ++ after), length-append word after) in (
      gap,
      word,
      after ++ b ∷ text,
      all,
      ap (λ x. x ++ b ∷ text) is ∙ append_assoc gap (word ++ after) (b ∷ text) ∙ ap (λ x. gap ++ x) (append_assoc word after (b ∷ text)),
      (refl, stands.1, ends_before t.token word after b text h stands.1 stands.2),
      from,
      to,
      join_from ts us t.end after b text last h more (subst (λ n. Reads n (b ∷ text) us last) place k),
    )

moved_reads : (us : List Spanned) (k at : ℕ) (text last : List ℕ) → Reads at text us last → Reads (k + at) text (moved k us) last
moved_reads [] k at text last h = h
moved_reads (u ∷ us) k at text last (gap, word, after, all, is, stands, from, to, more) = (gap, word, after, all, is, stands, omega (arith, from), omega (arith, to), moved_reads us k u.end after last more)

pub joined_by_a_blank : (front text : List ℕ) (b : ℕ) (ts us : List Spanned) → is_blank b ≡ true → IsTokens front ts → IsTokens text us → IsTokens (front ++ b ∷ text) (ts ++ moved (length front + 1) us)
joined_by_a_blank front text b ts us h x y =
    let all : list_all is_blank (b ∷ []) ≡ true = rw h refl in
    let place : (length front + 1) + 0 ≡ (0 + length front) + length (b ∷ []) = omega arith in
    join_from ts (moved (length front + 1) us) 0 front b text [] h x (
    after_gap (0 + length front) (b ∷ []) text (moved (length front + 1) us) [] all (
    subst (λ n. Reads n text (moved (length front + 1) us) []) place (moved_reads us (length front + 1) 0 text [] y)))

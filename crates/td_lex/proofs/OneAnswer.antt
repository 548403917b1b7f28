-- A text has one answer.
use Rattle.std.proofs.Common.{◌≡◌, ◌≢◌, ℕ, ◌+◌, true, false, List, [], ◌∷◌, ◌++◌, length, Result, Ok, Err, ◌⊎◌, inl, inr, refl, sym, ap, subst, ◌∙◌, arith}
use Rattle.std.specs.List.{list_all}
use Rattle.std.proofs.lemmas.List.{append_cancel_right}
use Rattle.td_lex.specs.declared.kinds.Token.{Token}
use Rattle.td_lex.specs.declared.kinds.Spanned.{Spanned}
use Rattle.td_lex.specs.declared.kinds.LexFault.{LexFault}
use Rattle.td_lex.specs.declared.kinds.LexFault.TheVariants.{BadToken, TooWide, NoMemory}
use Rattle.td_lex.specs.declared.kinds.Stop.TheVariants.{NoForm}
use Rattle.td_lex.specs.Tokens.{is_blank, BeginsNot, Stands, Reads, WideFirst, Answers}
use Rattle.td_lex.specs.Laws.{IsFront, Stops}
use Rattle.td_lex.specs.Lexing.{Reading, token_of}
use Rattle.td_lex.proofs.Fronts.{both}
use Rattle.td_lex.proofs.Again.{stands_again, wide_again, blank_again, some_bytes, some_wide}
use Rattle.td_lex.proofs.Readings.{found}

-- no token is read here, and no blank stands here
record Halts (text : List ℕ) : Type 0 where
  apart : BeginsNot is_blank text
  none : (token : Token) (after : List ℕ) → token_of text ≢ Ok (token, after)

not_blank : (text : List ℕ) → token_of text ≢ Err NoForm → BeginsNot is_blank text
not_blank [] h = tt
not_blank (b ∷ bs) h = elim (is_blank b) as (λ t. is_blank b ≡ t → t ≡ false) [
  | true ↦ λ e. absurd (h (blank_again b bs e))
  | false ↦ λ e. refl
] refl

at_token : (token : Token) (word after : List ℕ) → Stands token (word ++ after) word after → BeginsNot is_blank (word ++ after)
at_token token word after h = let is = stands_again token (word ++ after) word after h in not_blank (word ++ after) (λ e. let other : token_of (word ++ after) ≡ Err NoForm = e in cc)

at_end : Halts []
at_end = record { apart = tt; none = λ token after e. let f = found [] token after e in no_text token f.0 after f.1 }
  where
    no_text : (token : Token) (word after : List ℕ) → Stands token [] word after → ⊥
    no_text token [] after h = some_bytes token h.1
    no_text token (b ∷ bs) after h = let e = h.0 in cc

halts : (text : List ℕ) → Stops text → Halts text
halts [] h = at_end
halts (b ∷ bs) (inl e) = cc
halts (b ∷ bs) (inr (inl h)) = record { apart = h.apart; none = λ token after e. let f = found (b ∷ bs) token after e in h.none token f.0 after f.1 }
halts (b ∷ bs) (inr (inr (word, after, h))) =
    let text : List ℕ = b ∷ bs in
    let is = wide_again text word after h in
    record { apart = not_blank text (λ e. cc); none = λ token rest e. cc }

-- what follows the blanks at the front is one text
same_gap : (gap other xs ys : List ℕ) → list_all is_blank gap ≡ true → list_all is_blank other ≡ true → BeginsNot is_blank xs → BeginsNot is_blank ys → gap ++ xs ≡ other ++ ys → (gap ≡ other) × (xs ≡ ys)
same_gap [] [] xs ys h k x y e = (refl, e)
same_gap [] (b ∷ other) xs ys h k x y e = let f = both (is_blank b) (list_all is_blank other) k in let first : BeginsNot is_blank (b ∷ (other ++ ys)) = subst (BeginsNot is_blank) e x in cc
same_gap (b ∷ gap) [] xs ys h k x y e = let f = both (is_blank b) (list_all is_blank gap) h in let first : BeginsNot is_blank (b ∷ (gap ++ xs)) = subst (BeginsNot is_blank) (sym e) y in cc
same_gap (b ∷ gap) (c ∷ other) xs ys h k x y e =
    let f = both (is_blank b) (list_all is_blank gap) h in
    let g = both (is_blank c) (list_all is_blank other) k in
    let first : b ≡ c = cc in
    let rest : gap ++ xs ≡ other ++ ys = cc in
    let more = same_gap gap other xs ys f.1 g.1 x y rest in
    (rw (first, more.0) refl, more.1)

same_spanned : (t u : Spanned) → t.token ≡ u.token → t.at ≡ u.at → t.end ≡ u.end → t ≡ u
same_spanned t u a b c =
    let one : Spanned = record { token = t.token; at = t.at; end = t.end } in
    let other : Spanned = record { token = u.token; at = u.at; end = u.end } in
    let same : one ≡ other = rw (a, b, c) refl in
    same

same_read : (p q : Token × List ℕ) → (let r : Reading = Ok p in r) ≡ Ok q → p ≡ q
same_read p q h = cc

-- two readings from one place have one first token, and go on from one place
record Heads (t u : Spanned) (ts us : List Spanned) (rest last : List ℕ) : Type 0 where
  same : t ≡ u
  text : List ℕ
  one : Reads t.end text ts rest
  other : Reads t.end text us last

heads : (at : ℕ) (text : List ℕ) (t u : Spanned) (ts us : List Spanned) (rest last : List ℕ) → Reads at text (t ∷ ts) rest → Reads at text (u ∷ us) last → Heads t u ts us rest last
heads at text t u ts us rest last (gap, word, after, all, is, stands, from, to, more) (other, term, behind, every, same, stood, since, until, further) =
    let e = same_gap gap other (word ++ after) (term ++ behind) all every (at_token t.token word after stands) (at_token u.token term behind stood) (sym is ∙ same) in
    let first : token_of (word ++ after) ≡ Ok (t.token, after) = stands_again t.token (word ++ after) word after stands in
    let second : token_of (term ++ behind) ≡ Ok (u.token, behind) = stands_again u.token (term ++ behind) term behind stood in
    let one : Token × List ℕ = (t.token, after) in
    let other_one : Token × List ℕ = (u.token, behind) in
    let pairs : one ≡ other_one = same_read one other_one (sym first ∙ ap token_of e.1 ∙ second) in
    let tokens : t.token ≡ u.token = ap (λ (p : Token × List ℕ). p.0) pairs in
    let rests : after ≡ behind = ap (λ (p : Token × List ℕ). p.1) pairs in
    let words : word ≡ term = append_cancel_right word term after (e.1 ∙ ap (λ r. term ++ r) (sym rests)) in
    let places : t.at ≡ u.at = omega (arith, from, since, ap length e.0) in
    let ends : t.end ≡ u.end = omega (arith, to, until, ap length words) in
    record {
      same = same_spanned t u tokens places ends;
      text = after;
      one = more;
      other = subst (λ n. Reads n after us last) (sym ends) (subst (λ r. Reads u.end r us last) (sym rests) further);
    }

-- where reading halts, no further token is read
no_first : (at : ℕ) (text : List ℕ) (t : Spanned) (ts : List Spanned) (rest last : List ℕ) → Reads at text (t ∷ ts) rest → Reads at text [] last → Halts last → ⊥
no_first at text t ts rest last (gap, word, after, all, is, stands, _, _, _) (other, every, same) h =
    let e = (same_gap gap other (word ++ after) last all every (at_token t.token word after stands) h.apart (sym is ∙ same)).1 in
    h.none t.token after (ap token_of (sym e) ∙ stands_again t.token (word ++ after) word after stands)

one_more : (t u : Spanned) (ts us : List Spanned) → t ≡ u → IsFront ts us → IsFront (t ∷ ts) (u ∷ us)
one_more t u ts us same (back, e) = (back, ap (λ v. v ∷ us) (sym same) ∙ ap (λ vs. t ∷ vs) e)

pub one_front : (ts us : List Spanned) (at : ℕ) (text rest last : List ℕ) → Reads at text ts rest → Reads at text us last → IsFront ts us ⊎ IsFront us ts
one_front [] us at text rest last h k = inl (us, refl)
one_front (t ∷ ts) [] at text rest last h k = inr (t ∷ ts, refl)
one_front (t ∷ ts) (u ∷ us) at text rest last h k =
    let p = heads at text t u ts us rest last h k in
    elim (one_front ts us t.end p.text rest last p.one p.other) [ inl f ↦ inl (one_more t u ts us p.same f) | inr f ↦ inr (one_more u t us ts (sym p.same) f) ]

read_to_a_stop : (ts us : List Spanned) (at : ℕ) (text rest last : List ℕ) → Reads at text ts rest → Reads at text us last → Halts last → IsFront ts us
read_to_a_stop [] us at text rest last h k x = (us, refl)
read_to_a_stop (t ∷ ts) [] at text rest last h k x = absurd (no_first at text t ts rest last h k x)
read_to_a_stop (t ∷ ts) (u ∷ us) at text rest last h k x =
    let p = heads at text t u ts us rest last h k in
    one_more t u ts us p.same (read_to_a_stop ts us t.end p.text rest last p.one p.other x)

pub to_a_stop : (at : ℕ) (text rest last : List ℕ) (ts us : List Spanned) → Reads at text ts rest → Reads at text us last → Stops last → IsFront ts us
to_a_stop at text rest last ts us h k x = read_to_a_stop ts us at text rest last h k (halts last x)

one_reading : (ts us : List Spanned) (at : ℕ) (text rest last : List ℕ) → Reads at text ts rest → Reads at text us last → Halts rest → Halts last → (ts ≡ us) × (rest ≡ last)
one_reading [] [] at text rest last (gap, all, is) (other, every, same) x y = (refl, (same_gap gap other rest last all every x.apart y.apart (sym is ∙ same)).1)
one_reading [] (u ∷ us) at text rest last h k x y = absurd (no_first at text u us last rest k h x)
one_reading (t ∷ ts) [] at text rest last h k x y = absurd (no_first at text t ts rest last h k y)
one_reading (t ∷ ts) (u ∷ us) at text rest last h k x y =
    let p = heads at text t u ts us rest last h k in
    let rest_of = one_reading ts us t.end p.text rest last p.one p.other x y in
    (rw (p.same, rest_of.0) refl, rest_of.1)

same_place : (at place : ℕ) (text rest last : List ℕ) → rest ≡ last → at + length rest ≡ length text → place + length last ≡ length text → at ≡ place
same_place at place text rest last e a b = omega (arith, ap length e)

no_wide : ¬ (WideFirst [])
no_wide ([], after, h) = some_wide h.1
no_wide (b ∷ bs, after, h) = let e = h.0 in cc

pub one_answer : (text : List ℕ) (a b : Result (List Spanned) LexFault) → a ≢ Err NoMemory → b ≢ Err NoMemory → Answers text a → Answers text b → a ≡ b
one_answer text (Ok ts) (Ok us) x y h k = ap (λ (vs : List Spanned). Ok vs) (one_reading ts us 0 text [] [] h k at_end at_end).0
one_answer text (Ok ts) (Err (BadToken at)) x y h (us, rest, reads, _, none) = absurd (none.some (sym (one_reading ts us 0 text [] rest h reads at_end (halts rest (inr (inl none)))).1))
one_answer text (Ok ts) (Err (TooWide at)) x y h (us, rest, reads, _, wide) = absurd (no_wide (subst WideFirst (sym (one_reading ts us 0 text [] rest h reads at_end (halts rest (inr (inr wide)))).1) wide))
one_answer text (Err (BadToken at)) (Ok us) x y (ts, rest, reads, _, none) k = absurd (none.some (one_reading ts us 0 text rest [] reads k (halts rest (inr (inl none))) at_end).1)
one_answer text (Err (TooWide at)) (Ok us) x y (ts, rest, reads, _, wide) k = absurd (no_wide (subst WideFirst (one_reading ts us 0 text rest [] reads k (halts rest (inr (inr wide))) at_end).1 wide))
one_answer text (Err (BadToken at)) (Err (BadToken place)) x y (ts, rest, reads, a, none) (us, last, again, b, other) =
    ap (λ (n : ℕ). Err (BadToken n)) (same_place at place text rest last (one_reading ts us 0 text rest last reads again (halts rest (inr (inl none))) (halts last (inr (inl other)))).1 a b)
one_answer text (Err (TooWide at)) (Err (TooWide place)) x y (ts, rest, reads, a, wide) (us, last, again, b, other) =
    ap (λ (n : ℕ). Err (TooWide n)) (same_place at place text rest last (one_reading ts us 0 text rest last reads again (halts rest (inr (inr wide))) (halts last (inr (inr other)))).1 a b)
one_answer text (Err (BadToken at)) (Err (TooWide place)) x y (ts, rest, reads, a, none) (us, last, again, b, wide) =
    let e = (one_reading ts us 0 text rest last reads again (halts rest (inr (inl none))) (halts last (inr (inr wide)))).1 in
    let (word, after, stands) = subst WideFirst (sym e) wide in
    absurd (none.not_wide word after stands)
one_answer text (Err (TooWide at)) (Err (BadToken place)) x y (ts, rest, reads, a, wide) (us, last, again, b, none) =
    let e = (one_reading ts us 0 text rest last reads again (halts rest (inr (inr wide))) (halts last (inr (inl none)))).1 in
    let (word, after, stands) = subst WideFirst e wide in
    absurd (none.not_wide word after stands)
one_answer text (Err NoMemory) b x y h k = absurd (x refl)
one_answer text (Ok ts) (Err NoMemory) x y h k = absurd (y refl)
one_answer text (Err (BadToken at)) (Err NoMemory) x y h k = absurd (y refl)
one_answer text (Err (TooWide at)) (Err NoMemory) x y h k = absurd (y refl)

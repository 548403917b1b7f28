-- Reading a text token by token, and what is answered of it.
use Rattle.std.proofs.Common.{◌≡◌, ◌≢◌, ℕ, ◌+◌, ◌-◌, ◌<◌, ◌≤◌, true, false, ◌==◌, List, [], ◌∷◌, ◌++◌, length, take, drop, Some, Ok, Err, refl, sym, ap, subst, ◌∙◌, arith, append_assoc, length-append}
use Rattle.std.specs.List.{prefix_len, list_all}
use Rattle.std.proofs.lemmas.List.{take-append-drop, append-nil}
use Rattle.td_lex.specs.declared.kinds.Token.{Token}
use Rattle.td_lex.specs.declared.kinds.Spanned.{Spanned}
use Rattle.td_lex.specs.declared.kinds.Stop.{Stop}
use Rattle.td_lex.specs.declared.kinds.Stop.TheVariants.{NoForm, Wide, NoMemory}
use Rattle.td_lex.specs.declared.kinds.LexFault.{LexFault}
use Rattle.td_lex.specs.declared.kinds.LexFault.TheVariants.{BadToken, TooWide}
use Rattle.td_lex.specs.declared.kinds.LexFault.TheVariants as fault
use Rattle.td_lex.specs.Tokens.{is_blank, BeginsNot, Stands, Reads, IsTokens, NoToken, WideFirst, Answers}
use Rattle.td_lex.specs.Laws.{StopsAt, Lexes}
use Rattle.td_lex.specs.Lexing.{Reading, Fails, token_of}
use Rattle.td_lex.proofs.Fronts.{all_append, front_all, rest_not}
use Rattle.td_lex.proofs.Tells.{Tells, token_tells}
use Rattle.td_lex.proofs.Again.{stands_again, wide_again, some_bytes}

-- blanks before what is read
pub after_gap : (at : ℕ) (gap text : List ℕ) (ts : List Spanned) (last : List ℕ) → list_all is_blank gap ≡ true → Reads (at + length gap) text ts last → Reads at (gap ++ text) ts last
after_gap at gap text [] last h (more, all, is) = (gap ++ more, all_append is_blank gap more h all, ap (λ t. gap ++ t) is ∙ sym (append_assoc gap more last))
after_gap at gap text (t ∷ ts) last h (more, word, after, all, is, stands, from, to, rest) = (
  gap ++ more,
  word,
  after,
  all_append is_blank gap more h all,
  ap (λ t. gap ++ t) is ∙ sym (append_assoc gap more (word ++ after)),
  stands,
  omega (arith, from, length-append gap more),
  to,
  rest,
)

pub blanks_before : (text rest : List ℕ) → rest ≡ drop (prefix_len is_blank text) text → text ≡ take (prefix_len is_blank text) text ++ rest
blanks_before text rest h = sym (take-append-drop (prefix_len is_blank text) text) ∙ ap (λ t. take (prefix_len is_blank text) text ++ t) (sym h)

pub begins_apart : (text rest : List ℕ) → rest ≡ drop (prefix_len is_blank text) text → BeginsNot is_blank rest
begins_apart text rest h = subst (BeginsNot is_blank) (sym h) (rest_not is_blank text)

pub not_longer : (text rest : List ℕ) → rest ≡ drop (prefix_len is_blank text) text → length rest ≤ length text
not_longer text rest h = let all = ap length (blanks_before text rest h) in omega (arith, all, length-append (take (prefix_len is_blank text) text) rest)

-- what is read behind the blanks is read with them
pub from_start : (at : ℕ) (text rest : List ℕ) (ts : List Spanned) (last : List ℕ) → rest ≡ drop (prefix_len is_blank text) text → Reads ((at + length text) - length rest) rest ts last → Reads at text ts last
from_start at text rest ts last h k =
    let gap : List ℕ = take (prefix_len is_blank text) text in
    let parts = blanks_before text rest h in
    let place : (at + length text) - length rest ≡ at + length gap = omega (arith, ap length parts, length-append gap rest) in
    subst (λ t. Reads at t ts last) (sym parts) (after_gap at gap rest ts last (front_all is_blank text) (subst (λ n. Reads n rest ts last) place k))

pub first : (text rest : List ℕ) (none : List Spanned) → none ≡ [] → rest ≡ drop (prefix_len is_blank text) text → (ts : List Spanned) (last : List ℕ) → Reads (length text - length rest) rest ts last → Reads 0 text (none ++ ts) last
first text rest none empty h ts last k =
    let place : length text - length rest ≡ (0 + length text) - length rest = omega arith in
    rw empty (from_start 0 text rest ts last h (subst (λ n. Reads n rest ts last) place k))

pub not_empty : (xs : List ℕ) → (length xs == 0) ≡ false → xs ≢ []
not_empty [] h e = cc
not_empty (x ∷ xs) h e = cc

-- the token that reading finds
abbrev Found : List ℕ → Token → List ℕ → Type 0
Found text token after = (word : List ℕ) × Stands token text word after

pub found : (text : List ℕ) (token : Token) (after : List ℕ) → token_of text ≡ Ok (token, after) → Found text token after
found text token after h = subst (Tells text) h (token_tells text)

pub wide : (text : List ℕ) → token_of text ≡ Err Wide → WideFirst text
wide text h = subst (Tells text) h (token_tells text)

stands_shorter : (text : List ℕ) (token : Token) (word after : List ℕ) → Stands token text word after → length after < length text
stands_shorter text token [] after h = absurd (some_bytes token h.1)
stands_shorter text token (b ∷ bs) after h = omega (arith, ap length h.0, length-append (b ∷ bs) after)

pub shorter : (text : List ℕ) (token : Token) (after : List ℕ) → token_of text ≡ Ok (token, after) → length after < length text
shorter text token after h = let f = found text token after h in stands_shorter text token f.0 after f.1

-- one token more
pub step : (text rest after next : List ℕ) (before now : List Spanned) (s : Spanned) → token_of rest ≡ Ok (s.token, after) → length rest ≤ length text
    → s.at ≡ length text - length rest → s.end ≡ length text - length after → next ≡ drop (prefix_len is_blank after) after → now ≡ before ++ s ∷ []
    → ((ts : List Spanned) (last : List ℕ) → Reads (length text - length rest) rest ts last → Reads 0 text (before ++ ts) last)
    → (ts : List Spanned) (last : List ℕ) → Reads (length text - length next) next ts last → Reads 0 text (now ++ ts) last
step text rest after next before now s is within from to skip pushed so_far ts last h =
    let f = found rest s.token after is in
    let word : List ℕ = f.0 in
    let sizes : length rest ≡ length word + length after = ap length f.1.0 ∙ length-append word after in
    let place : length text - length next ≡ (s.end + length after) - length next = omega arith in
    let more : Reads s.end after ts last = from_start s.end after next ts last skip (subst (λ n. Reads n next ts last) place h) in
    let ends_at : s.end ≡ s.at + length word = omega arith in
    let begins_at : s.at ≡ (length text - length rest) + 0 = omega arith in
    rw (pushed, append_assoc before (s ∷ []) ts) (so_far (s ∷ ts) last ([], word, after, refl, f.1.0, (refl, f.1.1, f.1.2), begins_at, ends_at, more))

-- the end of the text
pub all_read : (text rest : List ℕ) (ts : List Spanned) → length rest ≡ 0 → ((us : List Spanned) (last : List ℕ) → Reads (length text - length rest) rest us last → Reads 0 text (ts ++ us) last) → IsTokens text ts
all_read text [] ts h so_far = subst (λ us. Reads 0 text us []) (append-nil ts) (so_far [] [] ([], refl, refl))
all_read text (b ∷ bs) ts h so_far = absurd (omega arith)

-- the first failure
pub no_token : (rest : List ℕ) → rest ≢ [] → BeginsNot is_blank rest → token_of rest ≡ Err NoForm → NoToken rest
no_token rest some apart is = record {
  some = some;
  apart = apart;
  none = λ token word after h. let other = stands_again token rest word after h in cc;
  not_wide = λ word after h. let other = wide_again rest word after h in cc;
}

pub stops : (F : List ℕ → Type 0) (text rest : List ℕ) (ts : List Spanned) (at : ℕ) → at ≡ length text - length rest → length rest ≤ length text → ((us : List Spanned) (last : List ℕ) → Reads (length text - length rest) rest us last → Reads 0 text (ts ++ us) last) → F rest → StopsAt F text ts at
stops F text rest ts at is within so_far h = (rest, subst (λ us. Reads 0 text us rest) (append-nil ts) (so_far [] rest ([], refl, refl)), omega arith, h)

-- what is answered, from what is read
pub answers : (text : List ℕ) (ts : List Spanned) (why : LexFault) → Lexes text ts (Some why) → Answers text (Err why)
answers text ts (BadToken at) (rest, reads, count, none) = (ts, rest, reads, count, none)
answers text ts (TooWide at) (rest, reads, count, wide) = (ts, rest, reads, count, wide)
answers text ts fault.NoMemory h = tt

-- why no token was read
pub no_form : (stop : Stop) (read : Reading) → stop ≡ NoForm → Fails stop read → read ≡ Err NoForm
no_form NoForm read e h = h
no_form Wide read e h = cc
no_form NoMemory read e h = cc

pub too_wide : (stop : Stop) (read : Reading) → stop ≡ Wide → Fails stop read → read ≡ Err Wide
too_wide NoForm read e h = cc
too_wide Wide read e h = h
too_wide NoMemory read e h = cc

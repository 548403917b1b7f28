-- The statement lines so far, and their numbers.
use Rattle.std.proofs.Common.{◌≡◌, ◌≢◌, ℕ, ◌+◌, ◌-◌, ◌≤◌, ◌<◌, true, false, cond, ◌==◌, List, [], ◌∷◌, ◌++◌, length, get_or, slice_set, refl, sym, ap, subst, ◌∙◌, arith}
use Rattle.std.specs.List.{count_by, slice_index}
use Rattle.std.proofs.lemmas.Bool.Decides.{nat_tests}
use Rattle.std.proofs.lemmas.List.{append_assoc, length_push, length-set, get_or-set_same, get_or-set_other}
use Rattle.std.proofs.lemmas.List.Sums.{count_by-le-length, sum_by-cons, sum_by_push}
use Rattle.td_script.specs.declared.lines.Line.{Line}
use Rattle.td_script.specs.declared.numbering.Numbering.{Numbering}
use Rattle.td_script.specs.Script.{LineKind, Empty, Comment, Phase, Statement, count_of, lines_from, Numbered}
use Rattle.td_script.specs.Reading.{step, AreNone, HasCount}

-- a count after one more statement
counted_same : (s : ℕ) (sessions : List ℕ) → count_of s (s ∷ sessions) ≡ count_of s sessions + 1
counted_same s sessions = grind (arith, nat_tests, sum_by-cons (λ x. cond (x == s) 1 0) s sessions)

counted_other : (s t : ℕ) (sessions : List ℕ) → t ≢ s → count_of s (t ∷ sessions) ≡ count_of s sessions
counted_other s t sessions other =
    let test : (t == s) ≡ false = grind (arith, nat_tests) in
    sum_by-cons (λ x. cond (x == s) 1 0) t sessions ∙ rw test (omega arith)

-- What stands after lines of these kinds: their statement lines, whatever follows, and the counts.
pub record Told (kinds : List LineKind) (n : Numbering) : Type 0 where
  pub sessions : List ℕ
  pub told : (rest : List LineKind) → lines_from 1 [] (kinds ++ rest) ≡ n.lines ++ lines_from n.phase sessions rest
  pub counted : (s : ℕ) → 1 ≤ s → s ≤ 64 → get_or n.counts (s - 1) 0 ≡ count_of s sessions
  pub wide : length n.counts ≡ 64
  pub few_sessions : length sessions ≤ length kinds
  pub few_phases : n.phase ≤ length kinds + 1
  pub few_lines : length n.lines ≤ length kinds

pub told_nothing : (n : Numbering) → n.phase ≡ 1 → AreNone n.counts → n.lines ≡ [] → Told [] n
told_nothing n phase counts lines = record {
  sessions = [];
  told = λ rest. rw (phase, lines) refl;
  counted = λ s some few. counts.1 (s - 1) (omega (arith, counts.0));
  wide = counts.0;
  few_sessions = omega arith;
  few_phases = omega arith;
  few_lines = rw lines (omega arith);
}

-- one more statement's counts
counts_more : (counts : List ℕ) (sessions : List ℕ) (s : ℕ) → length counts ≡ 64 → 1 ≤ s → s ≤ 64 → ((t : ℕ) → 1 ≤ t → t ≤ 64 → get_or counts (t - 1) 0 ≡ count_of t sessions) → (t : ℕ) → 1 ≤ t → t ≤ 64 → get_or (slice_set counts (s - 1) (slice_index counts (s - 1) + 1)) (t - 1) 0 ≡ count_of t (s ∷ sessions)
counts_more counts sessions s wide some few counted t low high = elim (s == t) as (λ b. (s == t) ≡ b → get_or (slice_set counts (s - 1) (slice_index counts (s - 1) + 1)) (t - 1) 0 ≡ count_of t (s ∷ sessions)) [
  | true ↦ λ e.
      let same : s ≡ t = grind (arith, nat_tests) in
      let inside : s - 1 < length counts = omega arith in
      subst (λ x. get_or (slice_set counts (s - 1) (slice_index counts (s - 1) + 1)) (x - 1) 0 ≡ count_of x (s ∷ sessions)) same
      (get_or-set_same counts (s - 1) (slice_index counts (s - 1) + 1) 0 inside ∙ ap (λ x. x + 1) (counted s some few) ∙ sym (counted_same s sessions))
  | false ↦ λ e.
      let apart : s ≢ t = λ x. grind (arith, nat_tests) in
      get_or-set_other counts (s - 1) (t - 1) (slice_index counts (s - 1) + 1) 0 (λ x. apart (omega arith)) ∙ counted t low high ∙ sym (counted_other t s sessions apart)
] refl

pub told_more : (kinds : List LineKind) (n : Numbering) (k : LineKind) → HasCount k → Told kinds n → Told (kinds ++ k ∷ []) (step n k)
told_more kinds n Empty h t = record {
  sessions = t.sessions;
  told = λ rest. ap (lines_from 1 []) (append_assoc kinds (Empty ∷ []) rest) ∙ t.told (Empty ∷ rest);
  counted = t.counted;
  wide = t.wide;
  few_sessions = omega (arith, length_push kinds Empty, t.few_sessions);
  few_phases = omega (arith, length_push kinds Empty, t.few_phases);
  few_lines = omega (arith, length_push kinds Empty, t.few_lines);
}
told_more kinds n Comment h t = record {
  sessions = t.sessions;
  told = λ rest. ap (lines_from 1 []) (append_assoc kinds (Comment ∷ []) rest) ∙ t.told (Comment ∷ rest);
  counted = t.counted;
  wide = t.wide;
  few_sessions = omega (arith, length_push kinds Comment, t.few_sessions);
  few_phases = omega (arith, length_push kinds Comment, t.few_phases);
  few_lines = omega (arith, length_push kinds Comment, t.few_lines);
}
told_more kinds n Phase h t = record {
  sessions = t.sessions;
  told = λ rest. ap (lines_from 1 []) (append_assoc kinds (Phase ∷ []) rest) ∙ t.told (Phase ∷ rest);
  counted = t.counted;
  wide = t.wide;
  few_sessions = omega (arith, length_push kinds Phase, t.few_sessions);
  few_phases = omega (arith, length_push kinds Phase, t.few_phases);
  few_lines = omega (arith, length_push kinds Phase, t.few_lines);
}
told_more kinds n (Statement s text) h t =
    let line : ℕ → Line = λ (o : ℕ). record { phase = n.phase; session = s; ordinal = o; text = text } in
    let ordinal : count_of s t.sessions + 1 ≡ slice_index n.counts (s - 1) + 1 = ap (λ x. x + 1) (sym (t.counted s h.0 h.1)) in
    record {
      sessions = s ∷ t.sessions;
      told = λ rest. ap (lines_from 1 []) (append_assoc kinds (Statement s text ∷ []) rest) ∙ t.told (Statement s text ∷ rest)
          ∙ ap (λ o. n.lines ++ line o ∷ lines_from n.phase (s ∷ t.sessions) rest) ordinal
          ∙ sym (append_assoc n.lines (line (slice_index n.counts (s - 1) + 1) ∷ []) (lines_from n.phase (s ∷ t.sessions) rest));
      counted = counts_more n.counts t.sessions s t.wide h.0 h.1 t.counted;
      wide = length-set n.counts (s - 1) (slice_index n.counts (s - 1) + 1) ∙ t.wide;
      few_sessions = omega (arith, length_push kinds (Statement s text), t.few_sessions);
      few_phases = omega (arith, length_push kinds (Statement s text), t.few_phases);
      few_lines = omega (arith, length_push kinds (Statement s text), t.few_lines, length_push n.lines (line (slice_index n.counts (s - 1) + 1)));
    }

-- no count is greater than the number of lines
pub small_count : (kinds : List LineKind) (n : Numbering) → Told kinds n → (i : ℕ) → i < length n.counts → get_or n.counts i 0 ≤ length kinds
small_count kinds n t i inside =
    let at : i + 1 - 1 ≡ i = omega arith in
    let is : get_or n.counts i 0 ≡ count_of (i + 1) t.sessions = ap (λ x. get_or n.counts x 0) (sym at) ∙ t.counted (i + 1) (omega arith) (omega (arith, t.wide)) in
    omega (arith, is, count_by-le-length (λ x. x == i + 1) t.sessions, t.few_sessions)

-- ---- numbered

abbrev pub AllHaveCounts : List LineKind → Type 0
AllHaveCounts [] = Unit {0}
AllHaveCounts (k ∷ kinds) = HasCount k × AllHaveCounts kinds

-- the statements of these lines are of these sessions
abbrev Count : List Line → List ℕ → Type 0
Count before sessions = (s : ℕ) → count_by (λ m. m.session == s) before ≡ count_of s sessions

count_more : (before : List Line) (l : Line) (sessions : List ℕ) → Count before sessions → Count (before ++ l ∷ []) (l.session ∷ sessions)
count_more before l sessions h s =
    sum_by_push (λ m. cond (m.session == s) 1 0) before l ∙ ap (λ x. x + cond (l.session == s) 1 0) (h s)
    ∙ (let e : count_of s sessions + cond (l.session == s) 1 0 ≡ cond (l.session == s) 1 0 + count_of s sessions = omega arith in e)
    ∙ sym (sum_by-cons (λ x. cond (x == s) 1 0) l.session sessions)

pub numbered_from : (phase : ℕ) (sessions : List ℕ) (before : List Line) (kinds : List LineKind) → AllHaveCounts kinds → Count before sessions → Numbered before (lines_from phase sessions kinds)
numbered_from phase sessions before [] h c = tt
numbered_from phase sessions before (Empty ∷ kinds) h c = numbered_from phase sessions before kinds h.1 c
numbered_from phase sessions before (Comment ∷ kinds) h c = numbered_from phase sessions before kinds h.1 c
numbered_from phase sessions before (Phase ∷ kinds) h c = numbered_from (phase + 1) sessions before kinds h.1 c
numbered_from phase sessions before (Statement s text ∷ kinds) h c =
    let l : Line = record { phase = phase; session = s; ordinal = count_of s sessions + 1; text = text } in
    (h.0.0, h.0.1, ap (λ x. x + 1) (sym (c s)), numbered_from phase (s ∷ sessions) (before ++ l ∷ []) kinds h.1 (count_more before l sessions c))

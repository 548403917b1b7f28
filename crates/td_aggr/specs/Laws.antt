-- Why merging tallies is associative, has a unit, and gives the aggregates of the rows that were tallied.
use Rattle.std.proofs.Common.{◌≡◌, ℕ, suc, ℤ, Bool, true, false, cond, List, [], ◌∷◌, ◌++◌, length, Option, Some, None, refl, sym, ap, ◌∙◌, arith}
use Rattle.std.specs.Int.{int_min, int_max}
use Rattle.std.proofs.lemmas.Int.{ints, clamps}
use Rattle.std.proofs.lemmas.Bool.Decides.{nat_tests}
use Rattle.td_layer.specs.declared.values.Key.{Key}
use Rattle.td_layer.specs.declared.values.Value.{Value}
use Rattle.td_layer.specs.declared.values.Value.TheVariants as value
use Rattle.td_layer.specs.declared.values.Func.{Func}
use Rattle.td_layer.specs.declared.values.Func.TheVariants.{Count, Sum, Min, Max, Avg, First, Last, Spread}
use Rattle.td_aggr.specs.Aggregates.{is_before, not_null, numbers, sum_of, least, greatest, earliest, latest, aggregate_of_noted, aggregate}
use Rattle.td_aggr.specs.declared.tally.Tally.{Tally}
use Rattle.td_aggr.specs.Tallies.{Mark, lesser, greater, earlier, later, empty_tally, tally_of_row, tally_of, merged, shown}

-- ---- two tallies with equal fields are equal
abbrev made_of : ℕ → ℕ → ℤ → Value → Value → Option Mark → Option Mark → Tally
made_of rows count sum min max first last =
    record { rows = rows; count = count; sum = sum; min = min; max = max; first = first; last = last }

pub same_tally : (a b : Tally) → a.rows ≡ b.rows → a.count ≡ b.count → a.sum ≡ b.sum → a.min ≡ b.min → a.max ≡ b.max
    → a.first ≡ b.first → a.last ≡ b.last → a ≡ b
same_tally a b p q r s t u v =
    let e : made_of a.rows a.count a.sum a.min a.max a.first a.last
    ≡ made_of b.rows b.count b.sum b.min b.max b.first b.last = cc in e

-- ---- each field's own operation
pub lesser-null : (a : Value) → lesser a value.Null ≡ a
lesser-null value.Null = refl
lesser-null (value.Num n) = refl

pub greater-null : (a : Value) → greater a value.Null ≡ a
greater-null value.Null = refl
greater-null (value.Num n) = refl

earlier-none : (a : Option Mark) → earlier a None ≡ a
earlier-none None = refl
earlier-none (Some m) = refl

later-none : (a : Option Mark) → later a None ≡ a
later-none None = refl
later-none (Some m) = refl

int_min-assoc : (a b c : ℤ) → int_min (int_min a b) c ≡ int_min a (int_min b c)
int_min-assoc a b c = omega (arith, ints, clamps)

int_max-assoc : (a b c : ℤ) → int_max (int_max a b) c ≡ int_max a (int_max b c)
int_max-assoc a b c = omega (arith, ints, clamps)

lesser-assoc : (a b c : Value) → lesser (lesser a b) c ≡ lesser a (lesser b c)
lesser-assoc value.Null b c = refl
lesser-assoc (value.Num l) value.Null c = refl
lesser-assoc (value.Num l) (value.Num m) value.Null = refl
lesser-assoc (value.Num l) (value.Num m) (value.Num n) = ap value.Num (int_min-assoc l m n)

greater-assoc : (a b c : Value) → greater (greater a b) c ≡ greater a (greater b c)
greater-assoc value.Null b c = refl
greater-assoc (value.Num l) value.Null c = refl
greater-assoc (value.Num l) (value.Num m) value.Null = refl
greater-assoc (value.Num l) (value.Num m) (value.Num n) = ap value.Num (int_max-assoc l m n)

-- ---- the order of rows
before-chain : (a b c : Key) → is_before a b ≡ true → is_before b c ≡ true → is_before a c ≡ true
before-chain a b c p q = grind (arith, nat_tests)

not_before-chain : (a b c : Key) → is_before a b ≡ false → is_before b c ≡ false → is_before a c ≡ false
not_before-chain a b c p q = grind (arith, nat_tests)

earlier-assoc : (a b c : Option Mark) → earlier (earlier a b) c ≡ earlier a (earlier b c)
earlier-assoc None b c = refl
earlier-assoc (Some l) None c = refl
earlier-assoc (Some l) (Some m) None = refl
earlier-assoc (Some l) (Some m) (Some n) = ap Some (grind (arith, before-chain, not_before-chain))

later-assoc : (a b c : Option Mark) → later (later a b) c ≡ later a (later b c)
later-assoc None b c = refl
later-assoc (Some l) None c = refl
later-assoc (Some l) (Some m) None = refl
later-assoc (Some l) (Some m) (Some n) = ap Some (grind (arith, before-chain, not_before-chain))

-- ---- merging
pub unit_left : (a : Tally) → merged empty_tally a ≡ a
unit_left a = same_tally (merged empty_tally a) a (omega arith) (omega arith) (omega (arith, ints)) refl refl refl refl

pub unit_right : (a : Tally) → merged a empty_tally ≡ a
unit_right a =
    same_tally (merged a empty_tally) a (omega arith) (omega arith) (omega (arith, ints)) (lesser-null a.min)
    (greater-null a.max) (earlier-none a.first) (later-none a.last)

pub associative : (a b c : Tally) → merged (merged a b) c ≡ merged a (merged b c)
associative a b c =
    same_tally (merged (merged a b) c) (merged a (merged b c)) (omega arith) (omega arith) (omega (arith, ints))
    (lesser-assoc a.min b.min c.min) (greater-assoc a.max b.max c.max) (earlier-assoc a.first b.first c.first)
    (later-assoc a.last b.last c.last)

pub of_no_rows : tally_of [] ≡ empty_tally
of_no_rows = refl

pub of_one_row : (v : Value) (at : Key) → tally_of ((at, v) ∷ []) ≡ tally_of_row v at
of_one_row v at = unit_right (tally_of_row v at)

pub of_joined_rows : (xs ys : List (Key × Value)) → tally_of (xs ++ ys) ≡ merged (tally_of xs) (tally_of ys)
of_joined_rows [] ys = sym (unit_left (tally_of ys))
of_joined_rows (x ∷ xs) ys =
    ap (merged (tally_of_row x.1 x.0)) (of_joined_rows xs ys)
    ∙ sym (associative (tally_of_row x.1 x.0) (tally_of xs) (tally_of ys))

-- ---- what a tally of rows has in its fields, by the rows that aren't NULL
abbrev mark_of : Key × ℤ → Mark
mark_of p = (p.0.ts, p.0.table, p.1)

-- the tally of so many rows, of which these aren't NULL
abbrev tally_of_noted : ℕ → List (Key × ℤ) → Tally
tally_of_noted rows [] = record empty_tally { rows = rows }
tally_of_noted rows (p ∷ ps) = record {
  rows = rows;
  count = length (p ∷ ps);
  sum = sum_of (numbers (p ∷ ps));
  min = value.Num (least p.1 (numbers ps));
  max = value.Num (greatest p.1 (numbers ps));
  first = Some (mark_of (earliest p ps));
  last = Some (mark_of (latest p ps));
}

mark_of-cond : (t : Bool) (p q : Key × ℤ) → cond t (mark_of p) (mark_of q) ≡ mark_of (cond t p q)
mark_of-cond true p q = refl
mark_of-cond false p q = refl

one_null_more : (at : Key) (n : ℕ) (ps : List (Key × ℤ))
    → merged (tally_of_row value.Null at) (tally_of_noted n ps) ≡ tally_of_noted (suc n) ps
one_null_more at n [] =
    same_tally (merged (tally_of_row value.Null at) (tally_of_noted n [])) (tally_of_noted (suc n) []) (omega arith)
    refl refl refl refl refl refl
one_null_more at n (p ∷ ps) =
    same_tally (merged (tally_of_row value.Null at) (tally_of_noted n (p ∷ ps))) (tally_of_noted (suc n) (p ∷ ps))
    (omega arith) (omega arith) (omega (arith, ints)) refl refl refl refl

one_number_more : (p : Key × ℤ) (n : ℕ) (ps : List (Key × ℤ))
    → merged (tally_of_row (value.Num p.1) p.0) (tally_of_noted n ps) ≡ tally_of_noted (suc n) (p ∷ ps)
one_number_more p n [] =
    same_tally (merged (tally_of_row (value.Num p.1) p.0) (tally_of_noted n [])) (tally_of_noted (suc n) (p ∷ []))
    (omega arith) refl refl refl refl refl refl
one_number_more p n (q ∷ ps) =
    same_tally (merged (tally_of_row (value.Num p.1) p.0) (tally_of_noted n (q ∷ ps)))
    (tally_of_noted (suc n) (p ∷ q ∷ ps)) (omega arith) (omega arith) refl refl refl
    (ap Some (mark_of-cond (is_before (earliest q ps).0 p.0) (earliest q ps) p))
    (ap Some (mark_of-cond (is_before (latest q ps).0 p.0) p (latest q ps)))

tally_of_is : (rows : List (Key × Value)) → tally_of rows ≡ tally_of_noted (length rows) (not_null rows)
tally_of_is [] = refl
tally_of_is ((at, value.Null) ∷ rows) =
    ap (merged (tally_of_row value.Null at)) (tally_of_is rows) ∙ one_null_more at (length rows) (not_null rows)
tally_of_is ((at, value.Num n) ∷ rows) =
    ap (merged (tally_of_row (value.Num n) at)) (tally_of_is rows)
    ∙ one_number_more (at, n) (length rows) (not_null rows)

shown_of_noted : (f : Func) (n : ℕ) (ps : List (Key × ℤ)) → shown (tally_of_noted n ps) f ≡ aggregate_of_noted f ps
shown_of_noted Count n [] = refl
shown_of_noted Sum n [] = refl
shown_of_noted Min n [] = refl
shown_of_noted Max n [] = refl
shown_of_noted Avg n [] = refl
shown_of_noted First n [] = refl
shown_of_noted Last n [] = refl
shown_of_noted Spread n [] = refl
shown_of_noted Count n (p ∷ ps) = refl
shown_of_noted Sum n (p ∷ ps) = grind (arith, nat_tests)
shown_of_noted Min n (p ∷ ps) = refl
shown_of_noted Max n (p ∷ ps) = refl
shown_of_noted Avg n (p ∷ ps) = grind (arith, nat_tests)
shown_of_noted First n (p ∷ ps) = refl
shown_of_noted Last n (p ∷ ps) = refl
shown_of_noted Spread n (p ∷ ps) = refl

pub shows_aggregates : (f : Func) (rows : List (Key × Value)) → shown (tally_of rows) f ≡ aggregate f rows
shows_aggregates f rows =
    ap (λ (t : Tally). shown t f) (tally_of_is rows) ∙ shown_of_noted f (length rows) (not_null rows)

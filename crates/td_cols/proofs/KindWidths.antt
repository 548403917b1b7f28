-- How many bytes the numbers of a kind take.
use Rattle.std.proofs.Common.{ℕ, ◌<◌, ◌≤◌, lit<, lit≤, ℤ, pos, negsuc, arith}
use Rattle.std.specs.Prelude.{IsTrue}
use Rattle.std.proofs.lemmas.Bool.Decides.{nat_tests}
use Rattle.td_cols.specs.declared.kinds.Kind.{Kind}
use Rattle.td_cols.specs.declared.kinds.Kind.TheVariants.{Bool as Truth, I8, I16, I32, I64, U8, U16, U32, U64, Time, Wide, Text}
use Rattle.td_cols.specs.Kinds.{kind_width, kind_least, kind_most, is_in_range}

pub kind_width_few : (kind : Kind) → kind_width kind ≤ 16
unfolding kind_width
kind_width_few Truth = lit≤ tt
kind_width_few I8 = lit≤ tt
kind_width_few I16 = lit≤ tt
kind_width_few I32 = lit≤ tt
kind_width_few I64 = lit≤ tt
kind_width_few U8 = lit≤ tt
kind_width_few U16 = lit≤ tt
kind_width_few U32 = lit≤ tt
kind_width_few U64 = lit≤ tt
kind_width_few Time = lit≤ tt
kind_width_few Wide = lit≤ tt
kind_width_few (Text n) = lit≤ tt

-- no number of a text is in range
text_has_none : (n : ℕ) (v : ℤ) → IsTrue (is_in_range (Text n) v) → ⊥
unfolding is_in_range kind_least kind_most
text_has_none n (pos k) fits = grind (arith, nat_tests)
text_has_none n (negsuc k) fits = cc

-- a kind with a number in range takes bytes
pub kind_width_some : (kind : Kind) (v : ℤ) → IsTrue (is_in_range kind v) → 0 < kind_width kind
unfolding kind_width
kind_width_some Truth v fits = lit< tt
kind_width_some I8 v fits = lit< tt
kind_width_some I16 v fits = lit< tt
kind_width_some I32 v fits = lit< tt
kind_width_some I64 v fits = lit< tt
kind_width_some U8 v fits = lit< tt
kind_width_some U16 v fits = lit< tt
kind_width_some U32 v fits = lit< tt
kind_width_some U64 v fits = lit< tt
kind_width_some Time v fits = lit< tt
kind_width_some Wide v fits = lit< tt
kind_width_some (Text n) v fits = absurd (text_has_none n v fits)

-- Worked refusals and acceptances, checked by computing, in the catalog that these make:
--
--     CREATE STABLE meters (ts TIMESTAMP, voltage INT) TAGS (location BINARY(64), groupid INT)
--     CREATE TABLE d1001 USING meters TAGS ('a', 2)
--     CREATE TABLE e (ts TIMESTAMP, a TINYINT, b BIGINT UNSIGNED)
use Rattle.std.specs.Prelude.{◌≡◌, ℕ, pos, negsuc, List, [], ◌∷◌, Some, None, refl}
use lib.Chars.{codes}
use Rattle.td_cols.specs.declared.kinds.Kind.{Kind}
use Rattle.td_cols.specs.declared.kinds.Kind.TheVariants.{I8, I32, U64, Time, Wide, Text}
use Rattle.td_cols.specs.Kinds.{is_in_range, kind_least, kind_most}
use Rattle.td_layer.specs.declared.values.Value.TheVariants as value
use Rattle.td_layer.specs.declared.values.Cell.TheVariants as cell
use Rattle.td_model.specs.declared.catalog.Column.{Column}
use Rattle.td_model.specs.declared.language.Lit.{Lit}
use Rattle.td_model.specs.declared.language.Lit.TheVariants as lit
use Rattle.td_model.specs.declared.language.Stmt.{Stmt}
use Rattle.td_model.specs.declared.language.Stmt.TheVariants as stmt
use Rattle.td_model.specs.declared.history.What.TheVariants as what
use Rattle.td_model.specs.declared.history.Verdict.{Verdict}
use Rattle.td_model.specs.declared.history.Verdict.TheVariants.{Accept, Refuse}
use Rattle.td_model.specs.declared.report.Cause.TheVariants.{UnknownStable, NotAStable, NotATable, NeedsTags, NameTaken, NeedsTime, UnknownColumn, Arity, TypeMismatch, OutOfRange, BeforeEdge, UnknownStream}
use Rattle.td_model.specs.Catalog.{Catalog}
use Rattle.td_times.specs.Stamps.{timestamp_of, date_of, digits_at}
use Rattle.td_verdict.specs.Writes.{write_verdict}

abbrev column : List ℕ → Kind → Column
column name kind = record { name = name; kind = kind }

abbrev meters : Catalog
meters = record {
  stables = record { name = codes "meters"; schema = record { columns = column (codes "ts") Time ∷ column (codes "voltage") I32 ∷ []; tags = column (codes "location") (Text 64) ∷ column (codes "groupid") I32 ∷ [] } } ∷ [];
  tables = record { name = codes "d1001"; parent = Some 1; columns = []; tags = cell.Str (codes "a") ∷ cell.Num (pos 2) ∷ [] }
      ∷ record { name = codes "e"; parent = None; columns = column (codes "ts") Time ∷ column (codes "a") I8 ∷ column (codes "b") U64 ∷ []; tags = [] } ∷ [];
  streams = [];
  next_stream = 1;
}

-- at edge 0 and a moment
abbrev met : Stmt → Verdict
met q = write_verdict q meters 0 2000000000000

abbrev insert : List ℕ → List (List Lit) → Stmt
insert table groups = stmt.Insert table None groups

abbrev num : ℕ → Lit
num n = lit.Num (pos n)

into_a_supertable : met (insert (codes "meters") ((num 1 ∷ num 2 ∷ []) ∷ [])) ≡ Refuse NotATable
into_a_supertable = refl

using_a_table : met (stmt.MakeSub (codes "x") (codes "d1001") (lit.Str (codes "a") ∷ num 1 ∷ [])) ≡ Refuse NotAStable
using_a_table = refl

using_nothing : met (stmt.MakeSub (codes "d1001") (codes "nosuch") (num 1 ∷ [])) ≡ Refuse UnknownStable
using_nothing = refl

a_taken_name : met (stmt.MakeSub (codes "d1001") (codes "meters") (num 1 ∷ [])) ≡ Refuse NameTaken
a_taken_name = refl

a_tag_is_missing : met (stmt.MakeSub (codes "x") (codes "meters") (num 1 ∷ [])) ≡ Refuse Arity
a_tag_is_missing = refl

a_number_at_a_text : met (stmt.MakeSub (codes "x") (codes "meters") (num 1 ∷ num 2 ∷ [])) ≡ Refuse (TypeMismatch (codes "location"))
unfolding is_in_range kind_least kind_most
a_number_at_a_text = refl

a_subtable : met (stmt.MakeSub (codes "x") (codes "meters") (lit.Str (codes "a") ∷ num 1 ∷ [])) ≡ Accept (what.MakeSub (codes "x") 1 (cell.Str (codes "a") ∷ cell.Num (pos 1) ∷ [])) 0
unfolding is_in_range kind_least kind_most
a_subtable = refl

no_tags : met (stmt.MakeStable (codes "x") (column (codes "ts") Time ∷ []) None) ≡ Refuse NeedsTags
no_tags = refl

no_timestamp : met (stmt.MakeTable (codes "x") (column (codes "v") I32 ∷ [])) ≡ Refuse NeedsTime
no_timestamp = refl

a_wide_text : met (stmt.MakeStable (codes "x") (column (codes "ts") Time ∷ []) (Some (column (codes "g") (Text 4097) ∷ []))) ≡ Refuse (OutOfRange (codes "g"))
a_wide_text = refl

-- no column is a text or has sums of 128 bits, and no tag has such sums
a_column_of_texts : met (stmt.MakeTable (codes "x") (column (codes "ts") Time ∷ column (codes "g") (Text 8) ∷ [])) ≡ Refuse (OutOfRange (codes "g"))
a_column_of_texts = refl

a_column_of_sums : met (stmt.MakeTable (codes "x") (column (codes "ts") Time ∷ column (codes "v") Wide ∷ [])) ≡ Refuse (OutOfRange (codes "v"))
a_column_of_sums = refl

a_tag_of_sums : met (stmt.MakeStable (codes "x") (column (codes "ts") Time ∷ []) (Some (column (codes "g") Wide ∷ []))) ≡ Refuse (OutOfRange (codes "g"))
a_tag_of_sums = refl

the_first_column_is_missing : met (stmt.Insert (codes "d1001") (Some (codes "voltage" ∷ [])) ((num 1 ∷ []) ∷ [])) ≡ Refuse NeedsTime
the_first_column_is_missing = refl

an_unknown_column : met (stmt.Insert (codes "d1001") (Some (codes "ts" ∷ codes "volts" ∷ [])) ((num 1 ∷ num 2 ∷ []) ∷ [])) ≡ Refuse UnknownColumn
an_unknown_column = refl

the_ends_of_types : met (insert (codes "e") ((num 1 ∷ num 127 ∷ num 18446744073709551615 ∷ []) ∷ []))
    ≡ Accept (what.Put (record { key = record { table = 2; ts = 1 }; cells = Some (value.Num (pos 127)) ∷ Some (value.Num (pos 18446744073709551615)) ∷ [] } ∷ [])) 1
unfolding is_in_range kind_least kind_most
the_ends_of_types = refl

above_a_tinyint : met (insert (codes "e") ((num 2 ∷ num 128 ∷ num 0 ∷ []) ∷ [])) ≡ Refuse (OutOfRange (codes "a"))
unfolding is_in_range kind_least kind_most
above_a_tinyint = refl

above_a_bigint : met (insert (codes "e") ((num 3 ∷ num 0 ∷ num 18446744073709551616 ∷ []) ∷ [])) ≡ Refuse (OutOfRange (codes "b"))
unfolding is_in_range kind_least kind_most
above_a_bigint = refl

-- a list in another order, with NULL, and a column that isn't named
a_part_of_a_row : met (stmt.Insert (codes "e") (Some (codes "b" ∷ codes "ts" ∷ [])) ((lit.Null ∷ lit.Now ∷ []) ∷ []))
    ≡ Accept (what.Put (record { key = record { table = 2; ts = 2000000000000 }; cells = None ∷ Some value.Null ∷ [] } ∷ [])) 1
unfolding is_in_range kind_least kind_most
a_part_of_a_row = refl

no_timestamp_given : met (stmt.Insert (codes "e") (Some (codes "ts" ∷ [])) ((lit.Null ∷ []) ∷ [])) ≡ Refuse (OutOfRange (codes "ts"))
unfolding is_in_range kind_least kind_most
no_timestamp_given = refl

-- a literal of the second group that doesn't suit goes before one of the first that is out of range
a_mismatch_goes_first : met (insert (codes "e") ((num 1 ∷ num 128 ∷ num 0 ∷ []) ∷ (num 1 ∷ lit.True ∷ num 0 ∷ []) ∷ [])) ≡ Refuse (TypeMismatch (codes "a"))
unfolding is_in_range kind_least kind_most
a_mismatch_goes_first = refl

a_text_at_a_timestamp : met (stmt.Insert (codes "e") (Some (codes "ts" ∷ [])) ((lit.Str (codes "yesterday") ∷ []) ∷ [])) ≡ Refuse (TypeMismatch (codes "ts"))
unfolding is_in_range kind_least kind_most timestamp_of date_of digits_at
a_text_at_a_timestamp = refl

before_the_edge : write_verdict (stmt.Insert (codes "e") (Some (codes "ts" ∷ [])) ((num 1683935999999 ∷ []) ∷ [])) meters 1949 0 ≡ Refuse (BeforeEdge 1949)
unfolding is_in_range kind_least kind_most
before_the_edge = refl

at_the_edge : write_verdict (stmt.Insert (codes "e") (Some (codes "ts" ∷ [])) ((num 1683936000000 ∷ []) ∷ [])) meters 1949 0
    ≡ Accept (what.Put (record { key = record { table = 2; ts = 1683936000000 }; cells = None ∷ None ∷ [] } ∷ [])) 1
unfolding is_in_range kind_least kind_most
at_the_edge = refl

a_cut : met (stmt.Delete (codes "e") (codes "ts") (lit.Num (negsuc 4)) (num 7)) ≡ Accept (what.Cut 2 0 7) 0
a_cut = refl

an_empty_cut : met (stmt.Delete (codes "e") (codes "ts") (num 9) (num 7)) ≡ Accept (what.Cut 2 1 0) 0
an_empty_cut = refl

a_cut_by_another_column : met (stmt.Delete (codes "e") (codes "a") (num 9) (num 7)) ≡ Refuse NeedsTime
a_cut_by_another_column = refl

trimmed : met stmt.Trim ≡ Accept (what.Edge 1949) 0
trimmed = refl

trimmed_early : write_verdict stmt.Trim meters 7 1000 ≡ Accept (what.Edge 7) 0
trimmed_early = refl

no_stream : met (stmt.DropStream (codes "s")) ≡ Refuse UnknownStream
no_stream = refl

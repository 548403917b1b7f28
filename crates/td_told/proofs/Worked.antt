-- A worked script, checked by computing:
--
--     1: SELECT * FROM t                            refused at 0: no table
--     1: CREATE TABLE t (ts TIMESTAMP, v INT)       accepted as version 1, at the clock's first reading
--     1: INSERT INTO t VALUES (5, 2147483648)       refused at 1, at the second reading: v is out of range
--     2: INSERT INTO t VALUES (5, 7)                accepted as version 2; the third reading falls, and the moment stays
--     1: CREATE TABLE t (ts TIMESTAMP, v INT)       refused at 2: the name is taken
--     ----
--     2: SELECT * FROM t                            answered at 2: one row, 5 and 7
--     2: COMMIT                                     refused at 2: not built
use Rattle.std.specs.Prelude.{◌≡◌, ◌⊎◌, ◌≤◌, ◌<◌, ℕ, zero, suc, ℤ, pos, negsuc, true, List, [], ◌∷◌, map, Some, None, slice_get, refl}
use Rattle.std.proofs.Common.{arith, inl, inr, subst, cond, false, ◌==◌}
use lib.Chars.{codes}
use Rattle.td_layer.specs.declared.values.Value.TheVariants as value
use Rattle.td_layer.specs.declared.values.Cell.TheVariants.{Num}
use Rattle.td_model.specs.declared.language.Lit.TheVariants as lit
use Rattle.td_model.specs.declared.language.OrderBy.TheVariants as order
use Rattle.td_model.specs.declared.language.WindowDef.TheVariants as window
use Rattle.td_model.specs.declared.language.Stmt.{Stmt}
use Rattle.td_model.specs.declared.language.Stmt.TheVariants as stmt
use Rattle.td_model.specs.declared.history.What.TheVariants as what
use Rattle.td_model.specs.declared.history.Entry.{Entry}
use Rattle.td_model.specs.declared.history.Verdict.TheVariants.{Accept, Pass, Refuse}
use Rattle.td_model.specs.declared.report.Cause.TheVariants.{Syntax, OptionNotBuilt, Stopped, TooManyVersions, UnknownTable, NameTaken, OutOfRange}
use Rattle.td_model.specs.declared.report.Reply.{Reply}
use Rattle.td_model.specs.declared.report.Reply.TheVariants as reply
use Rattle.td_model.specs.declared.report.Mark.TheVariants as mark
use Rattle.td_model.specs.declared.report.JournalLine.{JournalLine}
use Rattle.td_model.specs.declared.report.Report.{Report}
use Rattle.td_model.specs.State.{State, empty_state, after}
use Rattle.td_cols.specs.declared.kinds.Kind.TheVariants.{I32, Time}
use Rattle.td_cols.specs.Kinds.{is_in_range, kind_least, kind_most}
use Rattle.td_told.specs.Asked.{Asked}
use Rattle.td_told.specs.Verdict.{verdict, answer}
use Rattle.td_told.specs.Times.{reading, without_halts}
use Rattle.td_told.specs.Numbers.{Replied, number, AreFronts}
use Rattle.td_told.specs.Journal.{Rising, lines_of, halt_at}
use Rattle.td_told.specs.Replies.{reply_line}
use Rattle.td_told.specs.Told.{ToldInOrder}
use Rattle.td_told.proofs.Orders.{session_numbers, phase_numbers}
use Rattle.std.proofs.lemmas.Bool.Decides.{eqb_tells}

-- the statements
abbrev select_all : Stmt
select_all = stmt.Select (record { star = true; items = []; source = codes "t"; conds = []; parts = []; window = window.Whole; order = order.Plain; skip = pos 0; limit = None })

abbrev make : Stmt
make = stmt.MakeTable (codes "t") (record { name = codes "ts"; kind = Time } ∷ record { name = codes "v"; kind = I32 } ∷ [])

abbrev insert : ℤ → ℤ → Stmt
insert ts v = stmt.Insert (codes "t") None ((lit.Num ts ∷ lit.Num v ∷ []) ∷ [])

-- the entries
abbrev made : Entry
made = record { session = 1; ordinal = 2; moment = 2000000000000; what = what.MakeTable (codes "t") (record { name = codes "ts"; kind = Time } ∷ record { name = codes "v"; kind = I32 } ∷ []) }

abbrev put_at : ℕ → ℤ → ℕ → Entry
put_at ts v moment = record { session = 2; ordinal = 1; moment = moment; what = what.Put (record { key = record { table = 1; ts = ts }; cells = Some (value.Num v) ∷ [] } ∷ []) }

abbrev put_seven : Entry
put_seven = put_at 5 (pos 7) 2000000000002

-- verdicts, in the empty state and after the table was made
pub select_before : verdict select_all empty_state [] 0 ≡ Refuse UnknownTable
select_before = refl

pub no_statement : verdict (stmt.Wrong (Syntax 22)) empty_state [] 0 ≡ Refuse (Syntax 22)
no_statement = refl

pub not_built : verdict stmt.Commit empty_state [] 0 ≡ Refuse OptionNotBuilt
not_built = refl

pub no_timestamp : verdict (insert (negsuc 0) (pos 7)) (after empty_state (made ∷ [])) [] 0 ≡ Refuse (OutOfRange (codes "ts"))
unfolding is_in_range kind_least kind_most
no_timestamp = refl

-- after a halt a write is refused, whatever it says, and a query isn't; a form that isn't built comes before
abbrev after_halt : State
after_halt = after empty_state (made ∷ halt_at 2000000000001 ∷ [])

pub stopped : verdict make after_halt [] 2000000000002 ≡ Refuse (Stopped 2)
stopped = refl

pub still_answered : verdict select_all after_halt [] 0 ≡ Pass
still_answered = refl

pub still_not_built : verdict (stmt.Step (codes "s")) after_halt [] 0 ≡ Refuse OptionNotBuilt
still_not_built = refl

-- a write is taken up to version 281474976710653, and none from the next version on
abbrev at_version : ℕ → State
at_version version = record empty_state { version = version }

pub last_taken : verdict make (at_version 281474976710653) [] 0 ≡ Accept made.what 0
last_taken = refl

pub too_many : verdict make (at_version 281474976710654) [] 0 ≡ Refuse TooManyVersions
too_many = refl

pub stopped_first : verdict make (record (at_version 281474976710654) { halt = Some 7 }) [] 0 ≡ Refuse (Stopped 7)
stopped_first = refl

-- a timestamp that comes again updates its row, and rows come in the order of their timestamps
pub updated : answer select_all (after empty_state (made ∷ put_seven ∷ put_at 5 (pos 8) 2000000000003 ∷ put_at 3 (negsuc 0) 2000000000004 ∷ [])) ≡ (Num (pos 3) ∷ Num (negsuc 0) ∷ []) ∷ (Num (pos 5) ∷ Num (pos 8) ∷ []) ∷ []
updated = refl

-- the row that was updated keeps its birth, and the greatest timestamp never falls
pub kept : (after empty_state (made ∷ put_seven ∷ put_at 5 (pos 8) 2000000000003 ∷ [])).rows ≡ (record { table = 1; ts = 5 }, record { birth = record { born = 2000000000002 }; values = value.Num (pos 8) ∷ [] }) ∷ []
kept = refl

pub latest : (after empty_state (made ∷ put_seven ∷ put_at 3 (pos 1) 2000000000003 ∷ [])).table_latest ≡ Some 5 ∷ []
latest = refl

-- the script, its replies and its report
abbrev asked : ℕ → ℕ → ℕ → Stmt → Asked
asked phase session ordinal q = record { phase = phase; session = session; ordinal = ordinal; stmt = q }

abbrev replied : Asked → Reply → Replied
replied a r = record { asked = a; reply = r }

abbrev replies : List Replied
replies =
    replied (asked 1 1 1 select_all) (reply.Refused 0 UnknownTable)
    ∷ replied (asked 1 1 2 make) (reply.Accepted 1)
    ∷ replied (asked 1 1 3 (insert (pos 5) (pos 2147483648))) (reply.Refused 1 (OutOfRange (codes "v")))
    ∷ replied (asked 1 2 1 (insert (pos 5) (pos 7))) (reply.AcceptedRows 2 1)
    ∷ replied (asked 1 1 4 make) (reply.Refused 2 NameTaken)
    ∷ replied (asked 2 2 2 select_all) (reply.Answer 2 (codes "ts" ∷ codes "v" ∷ []) ((Num (pos 5) ∷ Num (pos 7) ∷ []) ∷ []))
    ∷ replied (asked 2 2 3 stmt.Commit) (reply.Refused 2 OptionNotBuilt)
    ∷ []

abbrev script : List Asked
script = map (λ (p : Replied). p.asked) replies

abbrev listed_as : ℕ → ℕ → ℕ → ℕ → JournalLine
listed_as version session n moment = record { version = version; session = session; ordinal = n; moment = moment; mark = mark.Plain }

abbrev its_report : Report
its_report = record {
  base = 0;
  replies = map reply_line replies;
  streams = [];
  journal = listed_as 1 1 2 2000000000000 ∷ listed_as 2 2 1 2000000000002 ∷ [];
}

abbrev history : List Entry
history = made ∷ put_seven ∷ []

abbrev readings : List ℕ
readings = 2000000000000 ∷ 2000000000002 ∷ 2000000000001 ∷ 2000000000005 ∷ []

in_order : AreFronts 0 (map number replies)
in_order = (refl, (refl, (refl, (refl, (refl, (refl, (refl, tt)))))))

-- the lines of session 1 and those of session 2
rises : (session : ℕ) → 0 < session → Rising 0 (lines_of session its_report.journal)
rises session some = elim (eqb_tells 1 session) [
  | inl one ↦ rw (one.0, other session one.1) (omega arith, tt)
  | inr none ↦ rw none.0 (elim (2 == session) as (λ b. Rising 0 (cond b (listed_as 2 2 1 2000000000002 ∷ []) [])) [ true ↦ (omega arith, tt) | false ↦ tt ])
] where
  other : (session : ℕ) → 1 ≡ session → (2 == session) ≡ false
  other session e = subst (λ s. (2 == s) ≡ false) e refl

-- the first entry has the first reading, and the second one the second, which the third doesn't reach
late : (k : ℕ) (e : Entry) → slice_get (without_halts history) k ≡ Some e → (i : ℕ) → i ≤ k → reading readings i ≤ e.moment
late zero e is zero l = let same : made ≡ e = cc in subst (λ (x : Entry). 2000000000000 ≤ x.moment) same (omega arith)
late zero e is (suc i) l = absurd (omega arith)
late (suc zero) e is zero l = let same : put_seven ≡ e = cc in subst (λ (x : Entry). 2000000000000 ≤ x.moment) same (omega arith)
late (suc zero) e is (suc zero) l = let same : put_seven ≡ e = cc in subst (λ (x : Entry). 2000000000002 ≤ x.moment) same (omega arith)
late (suc zero) e is (suc (suc i)) l = absurd (omega arith)
late (suc (suc k)) e is i l = cc

among : (k : ℕ) (e : Entry) → slice_get history k ≡ Some e → (e.moment ≡ 0) ⊎ ((i : ℕ) × (e.moment ≡ reading readings i))
among zero e is = let same : made ≡ e = cc in subst (λ (x : Entry). (x.moment ≡ 0) ⊎ ((i : ℕ) × (x.moment ≡ reading readings i))) same (inr (0, refl))
among (suc zero) e is = let same : put_seven ≡ e = cc in subst (λ (x : Entry). (x.moment ≡ 0) ⊎ ((i : ℕ) × (x.moment ≡ reading readings i))) same (inr (1, refl))
among (suc (suc k)) e is = cc

-- the report tells the run of the lines
pub told : ToldInOrder empty_state (Some readings) script its_report
unfolding is_in_range kind_least kind_most
told = record {
  told = record {
    base = refl;
    versions = (refl, (refl, tt));
    entries = history;
    history = (omega arith, refl, (omega arith, refl, tt));
    replied = replies;
    replies = record { statements_are = refl; replies_are = refl };
    answers = (
      record { is_prefix = (omega arith, omega arith); moment = 0; not_before = omega arith; most = omega arith; judged = refl },
      (
        (refl, what.MakeTable (codes "t") (record { name = codes "ts"; kind = Time } ∷ record { name = codes "v"; kind = I32 } ∷ []), 0, record { line = listed_as 1 1 2 2000000000000; after_base = omega arith; listed = refl; version_is = refl; session_is = refl; ordinal_is = refl; accepted = refl }),
        (
          record { is_prefix = (omega arith, omega arith); moment = 2000000000002; not_before = omega arith; most = omega arith; judged = refl },
          (
            (refl, what.Put (record { key = record { table = 1; ts = 5 }; cells = Some (value.Num (pos 7)) ∷ [] } ∷ []), record { line = listed_as 2 2 1 2000000000002; after_base = omega arith; listed = refl; version_is = refl; session_is = refl; ordinal_is = refl; accepted = refl }),
            (
              record { is_prefix = (omega arith, omega arith); moment = 2000000000005; not_before = omega arith; most = omega arith; judged = refl },
              (
                (refl, record { is_prefix = (omega arith, omega arith); moment = 2000000000005; not_before = omega arith; most = omega arith; judged = refl }, refl, refl),
                (
                  record { is_prefix = (omega arith, omega arith); moment = 2000000000005; not_before = omega arith; most = omega arith; judged = refl },
                  tt,
                ),
              ),
            ),
          ),
        ),
      ),
    );
    own_lines = ((λ some. (reply.Accepted 1, (1, omega arith, refl), refl)), ((λ some. (reply.AcceptedRows 2 1, (3, omega arith, refl), refl)), tt));
    one_each = rises;
    one_halt = omega arith;
    numbers = λ session. session_numbers session 0 0 replies (omega arith) in_order;
    phases = phase_numbers 0 0 0 0 replies (omega arith) (omega arith) in_order;
    streams = refl;
    moments = record { late = late; among = among };
  };
  own_entries = refl;
  halts = refl;
  in_order = in_order;
}

-- Each state that texts make of the empty one gives replies that can be printed.
use Rattle.std.proofs.Common.{◌≡◌, ℕ, ◌+◌, List, [], ◌∷◌, inl, refl, sym, arith}
use Rattle.std.proofs.lemmas.List.Elements.{All-nil}
use Rattle.td_model.specs.declared.history.Verdict.TheVariants.{Accept}
use Rattle.td_model.specs.declared.history.What.{What}
use Rattle.td_model.specs.declared.language.Stmt.{Stmt}
use Rattle.td_model.specs.Printable.{IsCount}
use Rattle.td_model.specs.State.{State, empty_state, step}
use Rattle.td_parse.specs.Statements.{IsAnswer}
use Rattle.td_bind.proofs.Steps.{history_sound}
use Rattle.td_told.specs.Turn.{by_verdict, entry_at}
use Rattle.td_told.specs.Verdict.{verdict}
use Rattle.td_printed.specs.Names.{IsPrintableState}
use Rattle.td_printed.proofs.Texts.{answer_has_words}
use Rattle.td_printed.proofs.Kept.{entry_keeps}
use Rattle.td_printed.proofs.Counted.{turn_counted}
use Rattle.td_printed.proofs.Histories.{write_of}

pub empty_printable : IsPrintableState empty_state
empty_printable =
    record {
      sound = record {
        catalog = record {
          names = refl;
          stables = All-nil _;
          tables = All-nil _;
          count = omega arith;
          streams = omega arith;
          next = omega arith;
        };
        rows = All-nil _;
        edge = All-nil _;
      };
      words = record { stables = tt; tables = tt; streams = tt };
      counted = record { version = omega arith; edge = omega arith; halt = tt; rows = omega arith };
    }

pub entry_printable : (text : List ℕ) (q : Stmt) (s : State) (session ordinal moment : ℕ) (w : What) (rows : ℕ)
    → IsAnswer text q → IsPrintableState s → IsCount moment → verdict q s [] moment ≡ Accept w rows
    → IsPrintableState (step (s ∷ []) (entry_at session ordinal moment w))
entry_printable text q s session ordinal moment w rows parsed is count judged =
    record {
      sound = history_sound s (entry_at session ordinal moment w ∷ []) is.sound
          (inl (q, rows, write_of q s moment w rows judged), tt);
      words = entry_keeps q s [] moment w rows (s ∷ []) (record s { version = s.version + 1; moment = moment })
          (answer_has_words text q parsed) is.words refl judged;
      counted = turn_counted q s (by_verdict (Accept w rows)) session ordinal moment is.counted count (sym judged);
    }

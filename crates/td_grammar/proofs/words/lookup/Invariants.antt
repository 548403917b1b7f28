use Rattle.std.proofs.Common.{◌≡◌, drop}
use Rattle.td_grammar.specs.Kinds.{lookup, table_of}
use Rattle.td_grammar.proofs.words.lookup.Given as goal

-- the entries that are left have the answer
abbrev pub invariant-loop-entry : goal.invariant-loop-entry
invariant-loop-entry l = lookup (table_of (drop l.entry-index l.table)) l.text l.other ≡ lookup (table_of l.table) l.text l.other

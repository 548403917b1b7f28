-- The replies of a turn on a core.
use Rattle.std.specs.Prelude.{◌≡◌, ◌⊎◌, ℕ, [], if◌then◌else◌}
use Rattle.td_model.specs.declared.language.Query.{Query}
use Rattle.td_model.specs.declared.language.Stmt.{Stmt}
use Rattle.td_model.specs.declared.language.Stmt.TheVariants as stmt
use Rattle.td_model.specs.declared.report.Reply.{Reply}
use Rattle.td_model.specs.declared.report.Reply.TheVariants as reply
use Rattle.td_model.specs.State.{State}
use Rattle.td_core.specs.declared.submit.Submitted.{Submitted}
use Rattle.td_core.specs.declared.submit.Submitted.TheVariants as submitted
use Rattle.td_told.specs.Replies.{is_insert, is_trim}
use Rattle.td_told.specs.Turn.{by_verdict, reply_of}
use Rattle.td_told.specs.Verdict.{verdict}

-- the reply to a statement that is accepted: an INSERT has its count of rows, a TRIM the edge
abbrev pub accepted_as : Stmt → ℕ → ℕ → ℕ → Reply
accepted_as q version rows edge =
    if is_trim q then reply.AcceptedEdge version edge
    else if is_insert q then reply.AcceptedRows version rows
    else reply.Accepted version

-- The reply to a statement that was submitted. Full doesn't come, since there is no memtable so far.
abbrev pub submit_reply : Stmt → Submitted → Reply
submit_reply q (submitted.Accepted version rows edge) = accepted_as q version rows edge
submit_reply q (submitted.Refused cause prefix) = reply.Refused prefix cause
submit_reply q (submitted.StoreFault halt) = reply.StoreFaultHalt halt
submit_reply q (submitted.Full held) = reply.NoMemory
submit_reply q submitted.NoMemory = reply.NoMemory

-- The reply to a statement that is no write: that of its verdict in the state, or want of memory. The moment has no
-- part in it.
abbrev pub IsReadReply : Stmt → State → Reply → Type 0
IsReadReply q s r = (r ≡ reply_of q (by_verdict (verdict q s [] 0)) s) ⊎ (r ≡ reply.NoMemory)

abbrev pub IsQueryReply : Query → State → Reply → Type 0
IsQueryReply q s r = IsReadReply (stmt.Select q) s r

use Rattle.td_top.proofs.turns.query_reply.Given as goal

-- the steps are counted on the ledger of the blank
abbrev pub ghosts-pinned_reply : goal.ghosts-pinned_reply
ghosts-pinned_reply g a = record { name = a.blank.name; parts = a.blank.parts }

use Rattle.td_file_cases.proofs.main.Given as goal

abbrev pub ghosts-shown_all : goal.ghosts-shown_all
ghosts-shown_all a = record { name = a.blank.name; parts = a.blank.parts }

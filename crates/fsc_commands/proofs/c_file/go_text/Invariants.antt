use Rattle.fsc_commands.proofs.c_file.go_text.Given as goal

abbrev pub ghosts-go_lent : goal.ghosts-go_lent
ghosts-go_lent g a = record { name = a.files.ghost_name }

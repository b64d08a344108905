use Rattle.crossbeam_utils.specs.Seq.{cell_view}
use Rattle.bench_pact.specs.Agree.{after}
use Rattle.bench_pact.proofs.note.Given as goal

abbrev pub ghosts-write : goal.ghosts-write
ghosts-write g a = record { deeds = after a._act.now (cell_view a.mine.now).deeds }

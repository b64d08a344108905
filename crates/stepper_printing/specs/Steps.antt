-- What may be done next, as a text.
use Rattle.std.specs.Prelude.{◌≡◌, ℕ, List, [], ◌∷◌, ◌++◌, length, codes}
use Rattle.std.specs.Fmt.{decimal}
use Rattle.ids.specs.Names.{message_text}
use Rattle.ids.specs.declared.names.VatNo.{VatNo}
use Rattle.kernele.specs.Tree.{Name}
use Rattle.book_agenda.specs.declared.agenda.Step.{Step}
use Rattle.book_agenda.specs.declared.agenda.Move.TheVariants as move
use Rattle.book_agenda.specs.declared.agenda.Step.TheVariants as step
use Rattle.world_cells.specs.World.{World}
use Rattle.ids.specs.declared.cells.CellKey.TheVariants as key
use Rattle.stepper_printing.specs.Listing.{learn_text}
use Rattle.stepper_printing.specs.Show.{ByBirth, name_of, line_feed}

-- the command that does it
abbrev pub step_text : List (VatNo × Name) → Step → List ℕ
step_text vats (step.Move (move.Arrive m)) = codes "arrive " ++ message_text m
step_text vats (step.Move (move.Forward m)) = codes "forward " ++ message_text m
step_text vats (step.Turn m) = codes "turn " ++ message_text m
step_text vats (step.Move (move.Learn v p)) = learn_text (name_of vats v) p

-- a line for each
abbrev pub step_lines : List (VatNo × Name) → List Step → List ℕ
step_lines vats [] = []
step_lines vats (s ∷ ss) = step_text vats s ++ (line_feed ++ step_lines vats ss)

-- enabled COUNT, and then the lines
abbrev pub enabled_text : List (VatNo × Name) → List Step → List ℕ
enabled_text vats ss = codes "enabled " ++ (decimal (length ss) ++ (line_feed ++ step_lines vats ss))

-- the text names vats as the world does
pub record ShowsEnabled (w : World) (ss : List Step) (text : List ℕ) : Type 0 where
  pub vats : List (VatNo × Name)
  pub vats_listed : ByBirth (λ x. w (key.Name x)) vats
  pub whole : text ≡ enabled_text vats ss

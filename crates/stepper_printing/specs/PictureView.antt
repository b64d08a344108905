-- The text of a sorted world.
use Rattle.std.specs.Prelude.{◌≡◌, ℕ, List, [], ◌∷◌, ◌++◌, Option, Some, None}
use Rattle.ids.specs.declared.names.VatNo.{VatNo}
use Rattle.kernele.specs.Tree.{Name}
use Rattle.heap.specs.declared.state.Contents.{Contents}
use Rattle.world_cells.specs.World.{World, vat_state}
use Rattle.stepper_printing.specs.Show.{noun_lines, slot_lines, object_lines, view_lines, fence_lines, vat_line, message_lines, board_lines, StateLines}
use Rattle.stepper_printing.specs.ShowView.{nouns_in, slots_in, objects_in, views_in, fences_in, messages_in, board_in}
use Rattle.stepper_printing.specs.declared.picture.VatHome.{VatHome}
use Rattle.stepper_printing.specs.declared.picture.Picture.{Picture}

-- the lines of what a vat's state holds
abbrev pub contents_text : Contents → List ℕ
contents_text c = noun_lines (nouns_in c.nouns) ++ (slot_lines (slots_in c.slots) ++ (object_lines (objects_in c.objects) ++ (view_lines (views_in c.views) ++ fence_lines (fences_in c.fences))))

-- there are none of a vat without a state
abbrev pub held_text : Option Contents → List ℕ
held_text None = []
held_text (Some c) = contents_text c

abbrev pub home_text : VatHome → List ℕ
home_text h = vat_line h.number h.name ++ held_text h.held

abbrev pub homes_text : List VatHome → List ℕ
homes_text [] = []
homes_text (h ∷ hs) = home_text h ++ homes_text hs

-- the vats, the messages and what was published
abbrev pub picture_text : Picture → List ℕ
picture_text p = homes_text p.homes.items ++ (message_lines p.vats.entries (messages_in p.messages) ++ board_lines (board_in p.board))

-- this is the vat of a number and a name, with what it holds in a world
pub record IsHome (w : World) (v : VatNo) (x : Name) (h : VatHome) : Type 0 where
  pub number : h.number ≡ v
  pub name : h.name ≡ x
  pub lines : StateLines (vat_state w v) (held_text h.held)

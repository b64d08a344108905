use Rattle.std.proofs.Common.{refl}
use Rattle.world_cells.specs.View.{world_of}
use Rattle.stepper_printing.proofs.Listings.{by_birth_along}
use Rattle.stepper_printing.proofs.Pictures.{messages_listed, board_listed}
use Rattle.stepper_printing.proofs.picture.Picture.new.Goals as goal

pub returns : goal.returns
returns c = record {
  vats = c.in_ok-vats.vats.entries;
  vats_listed = by_birth_along _ _ c.in_ok-vats.vats.entries c.in_ok-names.ensures c.in_ok-vats.ensures;
  messages = _;
  messages_listed = messages_listed (world_of c.args.world.now) c.in_ok-messages.messages c.in_ok-messages.ensures c.in_order.ensures;
  board = _;
  board_listed = board_listed (world_of c.args.world.now) c.in_ok-board.board c.in_ok-board.ensures c.in_order-2.ensures;
  lines = _;
  vat_lines = c.in_ok-homes.ensures;
  whole = refl;
}

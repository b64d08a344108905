-- What stands in the cells of one kind, in the order of their keys.
use Rattle.std.specs.Prelude.{Option}
use Rattle.std.specs.Option.{option_map}
use Rattle.std.specs.Ordering.{nat_cmp}
use Rattle.std.specs.Cmp.Lexicographic.{slice_cmp}
use Rattle.std.specs.BTreeMap.{BTreeMap, get}
use Rattle.ids.specs.Cells.{message_cmp, promise_cmp}
use Rattle.ids.specs.declared.names.MsgId.{MsgId}
use Rattle.ids.specs.declared.names.PromId.{PromId}
use Rattle.kernele.specs.Tree.{Name}
use Rattle.world_cells.specs.World.{Content, vat, message, published}
use Rattle.post.specs.MessageView.{vat_of, message_of, published_of}
use Rattle.post.specs.declared.message.Message.{Message}
use Rattle.post.specs.declared.published.Published.{Published}
use Rattle.post.specs.declared.vat.Vat.{Vat}

abbrev pub names_in : BTreeMap Name Vat → Name → Option Content
names_in names x = option_map (λ v. vat (vat_of v)) (get (slice_cmp nat_cmp) names x)

abbrev pub messages_in : BTreeMap MsgId Message → MsgId → Option Content
messages_in messages m = option_map (λ g. message (message_of g)) (get message_cmp messages m)

abbrev pub board_in : BTreeMap PromId Published → PromId → Option Content
board_in board p = option_map (λ p. published (published_of p)) (get promise_cmp board p)

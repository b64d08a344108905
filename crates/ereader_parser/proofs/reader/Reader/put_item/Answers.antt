use Rattle.ereader_parser.proofs.Parts.{puts_item}
use Rattle.ereader_parser.proofs.reader.Reader.put_item.Goals as goal

pub returns : goal.returns
returns c = puts_item c.separator.result c.args.self.now c.separator.new.self c.args.items.now.items c.args.item c.push.new.self.items c.in_ok-push.ensures.items c.separator.ensures.gives

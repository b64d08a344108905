use Rattle.std.proofs.Common.{[]}
use Rattle.eval_rules.specs.Locals.{locals_after}
use Rattle.eval_rules.specs.View.{opened_of}
use Rattle.turn.proofs.delivery.begin.Goals as goal

pub returns : goal.returns
returns c =
    λ i. record {
      nouns = locals_after [] (c.new-2.ensures.items i);
      own_scope = c.defines_tops.ensures i;
      state = c.new.ensures.state i;
      left = c.args.budget;
      event = (c.new.ensures.counts i).event;
      vat = (c.new.ensures.counts i).vat;
      began = c.new.ensures.began i;
      slots = (c.new.ensures.counts i).slots;
      objects = (c.new.ensures.counts i).objects;
      ejectors = 0;
      opened = opened_of (c.new-4.ensures.items i);
      touched = c.new.ensures.touched i;
      written = c.new.ensures.written i;
      out = c.new-5.ensures i;
    }

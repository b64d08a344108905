use Rattle.std.proofs.Common.{sym, ap, ◌∙◌, ◌++◌, append-nil}
use Rattle.values.specs.View.{val_of}
use Rattle.refs.proofs.Way.{own_end, shared_is, on_ok}
use Rattle.refs.proofs.ends.end_of.Goals as goal

pub returns-in-None : goal.returns-in-None
returns-in-None g c =
    let w = own_end (g.R.Resolve.resolutions c.args.map.now) (val_of c.args.value.now) c.in-None.ensures in
    record {
      end = shared_is c.share.result (val_of c.args.value.now) _ (sym w.1) c.share.ensures;
      through = on_ok c.share.result (sym (append-nil c.args.through.now.items) ∙ ap (λ ps. c.args.through.now.items ++ ps) (sym w.0));
    }

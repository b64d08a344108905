use Rattle.code.proofs.Indexed.{put_none, put_more, put_all}
use Rattle.code.proofs.index.index_all.Goals as goal

pub loop-method-init : goal.loop-method-init
loop-method-init c = λ verb count. put_none c.args.methods.now c.in_ok-positions.positions verb count c.in_ok-positions.ensures.empty

pub loop-method-preserved : goal.loop-method-preserved
loop-method-preserved c =
    λ verb count. put_more _ c.in-Some.before.now c.in-Some.method.now c.loop-method.positions c.put.new.positions verb count _ c.in-Some.ensures.cases.0 c.in_ok-put.ensures (c.loop-method.invariant verb count)

pub returns : goal.returns
returns c = λ verb count. put_all _ c.loop-method.positions verb count _ c.in_default.ensures.cases (c.loop-method.invariant verb count)

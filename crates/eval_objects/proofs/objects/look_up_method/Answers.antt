use Rattle.std.proofs.Common.{rules}
use Rattle.eval_objects.proofs.Methods.{index_gives, position_within, found_for, nowhere_for}
use Rattle.eval_objects.proofs.objects.look_up_method.Goals as goal

pub bounds-methods-position : goal.bounds-methods-position
bounds-methods-position c =
    position_within c.args.methods.now c.args.verb.now c.args.count _
    (index_gives c.args.methods.now c.args.index.now c.args.verb.now c.args.count _ _ c.requires c.in_ok-position.ensures c.in-Some.is)

pub offset_bounds-methods-position : goal.offset_bounds-methods-position
offset_bounds-methods-position c =
    let within = position_within c.args.methods.now c.args.verb.now c.args.count _
    (index_gives c.args.methods.now c.args.index.now c.args.verb.now c.args.count _ _ c.requires c.in_ok-position.ensures c.in-Some.is)
    in
    search rules

pub returns-in-Some : goal.returns-in-Some
returns-in-Some c =
    found_for c.args.methods.now c.args.verb.now c.args.count _ _
    (index_gives c.args.methods.now c.args.index.now c.args.verb.now c.args.count _ _ c.requires c.in_ok-position.ensures c.in-Some.is) c.index-methods-position.is

pub returns-in-None : goal.returns-in-None
returns-in-None c =
    nowhere_for c.args.methods.now c.args.verb.now c.args.count
    (index_gives c.args.methods.now c.args.index.now c.args.verb.now c.args.count _ _ c.requires c.in_ok-position.ensures c.in-None.is)

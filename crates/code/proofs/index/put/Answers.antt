use Rattle.std.proofs.Common.{◌≡◌, ◌∙◌, Some, length, rules, subst}
use Rattle.std.specs.HashMap.{Updates}
use Rattle.code.specs.Index.{same_key, key_of}
use Rattle.code.proofs.index.put.Goals as goal

pub returns : goal.returns
returns c =
    let count : c.len-count.result ≡ length c.args.method.now.parameters.value.items = search rules in
    subst (λ k. Updates same_key c.args.positions.now c.insert.new.self k (Some c.args.position)) (λ i. key_of ((c.new-verb.ensures ∙ c.in_ok-share.ensures) i) (count i)) c.in_ok-insert.ensures.updates

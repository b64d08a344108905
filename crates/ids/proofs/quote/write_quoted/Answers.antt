use Rattle.std.proofs.Common.{ap, ◌∙◌, ◌++◌}
use Rattle.std.specs.Prelude.{string_bytes}
use Rattle.std.specs.List.{flat_map}
use lib.Utf8.{encode}
use Rattle.std.proofs.lemmas.Iterator.{YieldsList-from_chars}
use Rattle.std.proofs.lemmas.Iterator.Consumers.{YieldsList-end}
use Rattle.ids.specs.Quoted.{quoted_byte}
use Rattle.ids.proofs.Quoting.{quoted_more, all_characters, between_marks, after_last}
use Rattle.ids.proofs.quote.write_quoted.Goals as goal

pub loop-character-preserved : goal.loop-character-preserved
loop-character-preserved c = quoted_more _ _ _ c.loop-character.yielded c.in-Some.character c.loop-character.invariant c.in_ok-write_quoted_character.ensures

pub returns : goal.returns
unfolding encode
returns c =
    let t = YieldsList-end (YieldsList-from_chars c.args.text.now c.utf8.text cc) c.loop-character.yielded _ c.loop-character.yielded_by _ _ c.in-None.is c.next.ensures.steps in
    let e = c.loop-character.invariant ∙ ap (λ bs. string_bytes c.push.new.self ++ flat_map quoted_byte bs) (all_characters c.args.text.now _ c.utf8.text t.0) in
    after_last c.push-2.result _ _ _ _ c.push-2.ensures.bytes (between_marks (string_bytes c.args.out.now) (string_bytes c.push.new.self) (string_bytes c.loop-character.out) c.args.text.now c.in_ok-push.ensures.bytes e)

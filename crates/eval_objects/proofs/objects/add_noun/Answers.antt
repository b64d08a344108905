use Rattle.std.proofs.Common.{rules}
use Rattle.eval_rules.proofs.Locals.{nouns_of-push}
use Rattle.eval_objects.proofs.objects.add_noun.Goals as goal

pub returns : goal.returns
returns c = rw (c.in_ok-push.ensures.items, nouns_of-push) (search rules)

use Rattle.history_consequences.proofs.Members.{in_all}
use Rattle.history_consequences.proofs.Writers.{sound_last}
use Rattle.history_consequences.proofs.Heirs.{one_heir, on_chain, overtakes_turned}
use Rattle.history_consequences.proofs.heirs_are_one.Goals as goal

pub returns : goal.returns
returns g d = let s = g.S.Undoable.subject in let laws = g.S.Undoable.laws in record {
  one = λ es h t sound v. in_all _ es (λ f i. in_all _ es (λ k j. one_heir s laws t v es h.distinct h.chained (sound_last s laws t es h.chained sound) f k i j));
  chain = λ es h t sound k. in_all _ es (λ f i. on_chain s laws k t es h.distinct h.chained (sound_last s laws t es h.chained sound) f i);
  either = λ es h. in_all _ es (λ f i. in_all _ es (λ e j. overtakes_turned s laws es h.chained f e i j));
}

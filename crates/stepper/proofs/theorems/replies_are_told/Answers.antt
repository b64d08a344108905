use Rattle.std.proofs.Common.{rules}
use Rattle.book.specs.Good.{runs_none}
use Rattle.stepper.proofs.Inputs.{inputs_have_one_text, whole_ones_are_all}
use Rattle.stepper.proofs.OneAnswer.{one_answer, one_birth}
use Rattle.stepper.proofs.theorems.replies_are_told.Goals as goal

pub returns : goal.returns
returns c = record {
  begins = record { distinct = tt; drawn = tt; older = tt; sound = tt; footprints = ∣ runs_none ∣₁; base = search rules; settled = tt; within = search rules };
  answers = one_answer;
  births = one_birth;
  inputs = inputs_have_one_text;
  whole = whole_ones_are_all;
}

use Rattle.ereader.proofs.Answered.{one_reading}
use Rattle.ereader.proofs.Limits.{read_is_spelled, reads_within_limits, reads_itself, reads_again}
use Rattle.ereader.proofs.theorems.reading_is_lawful.Goals as goal

pub returns : goal.returns
returns c = record {
  one_reading = one_reading;
  read_is_spelled = read_is_spelled;
  reads_within_limits = reads_within_limits;
  reads_itself = reads_itself;
  reads_again = reads_again;
}

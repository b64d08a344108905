use Rattle.bench_work.proofs.Working.{given_back_work, if_ok, if_err}
use Rattle.bench_work.proofs.errand.ErrandWorkplace.give.Goals as goal

pub returns-clause-work : goal.returns-clause-work
returns-clause-work g c =
    given_back_work (λ x. x.1) c.give.result c.args.ticket c.args.seat.now c.give.new.seat (if_ok c.give.result (λ e h. h.2) c.give.ensures.ok) (if_err c.give.result (λ x h. h.1) c.give.ensures.err)

use Rattle.std.proofs.Common.{[], ◌∷◌, sym, ap, ◌∙◌}
use Rattle.turn.specs.declared.ticket.Ran.{Ran}
use Rattle.bench.specs.SharedBook.{Held}
use Rattle.bench_work.proofs.Alone.{stays_open}
use Rattle.bench_work.proofs.work.settle.Goals as goal

pub let_go-requires-in_default : goal.let_go-requires-in_default
let_go-requires-in_default g c =
    let err = c.in-Err.ensures.err in
    let stays = err.1 ∙ stays_open c.in-Err.fault c.args.ticket.carried.event c.args.seat c.in_default.not-Stale in
    let alone = ap (λ (s : Held). s.deeds.tickets) stays ∙ c.requires.tickets in record {
      tickets = alone ∙ ap (λ (r : Ran). r.carried.event ∷ []) (sym (c.ran.ensures ∙ err.0));
      work = c.in-Err.ensures.work c.requires.work;
    }

-- What a delivery does from where its turn begins.
use Rattle.std.proofs.Common.{◌≡◌, ℕ, List, [], false, sym, subst}
use Rattle.code.specs.Frames.{fits_all}
use Rattle.code.specs.declared.code.Code.{Code}
use Rattle.eval_rules.specs.Fits.{all_fit_at}
use Rattle.ids.specs.declared.names.EventName.{EventName}
use Rattle.ids.specs.declared.names.VatNo.{VatNo}
use Rattle.heap.specs.State.{State, frame_of}
use Rattle.eval_rules.specs.At.{At}
use Rattle.eval_rules.specs.Outcomes.{End}
use Rattle.post.specs.Delivery.{Delivery, opening, asked, sent, waiting}
use Rattle.turn_deliveries.specs.Turn.{Found, start, Begins, opens, asks, calls, waits}
use Rattle.turn.specs.Runs.{Does, is_opening}

begins : (d : Delivery) {f : Found} {e : EventName} {v : VatNo} {s : State} {n : ℕ} {o : End} {b : At} → Does d f (start (is_opening d) e v s n) o b → Begins d f e v s n o b
begins (opening earlier ts) r = opens r
begins (asked ts) r = asks r
begins (sent c) r = calls r
begins (waiting w) r = waits r

pub begins_at : (d : Delivery) {f : Found} {e : EventName} {v : VatNo} {s : State} {n : ℕ} {a : At} {o : End} {b : At} → a ≡ start (is_opening d) e v s n → Does d f a o b → Begins d f e v s n o b
begins_at d {f = f} {o = o} {b = b} is r = begins d (subst (λ a. Does d f a o b) is r)

-- a question fits where there are no names
pub question_fits : (a : At) {ds es : List Code} → a.own_scope ≡ false → a.nouns ≡ [] → ds ≡ es → fits_all false [] es → all_fit_at a ds
question_fits a {ds = ds} own bare same h =
    subst (λ q. fits_all q (frame_of a.nouns) ds) (sym own) (subst (λ ns. fits_all false (frame_of ns) ds) (sym bare) (subst (fits_all false []) (sym same) h))

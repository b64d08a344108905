-- The orders of the sets of an agenda are total, and tell their items apart.
use Rattle.std.proofs.Common.{◌≡◌, Bool, true, false, ◌&&◌, refl, ap, ap₂, ◌∙◌}
use Rattle.std.specs.Cmp.{IsTotalOrder}
use Rattle.std.specs.Ordering.{is_eq, ordering_then}
use Rattle.std.specs.declared.cmp.Ordering.{Ordering}
use Rattle.std.specs.declared.cmp.Ordering.TheVariants.{Less, Equal, Greater}
use Rattle.std.proofs.lemmas.Bool.{and_parts}
use Rattle.std.proofs.lemmas.Cmp.{then_total, on_total, nat_cmp_total, eq_by_cmp_equiv, tied_itself}
use Rattle.std.proofs.lemmas.Map.Lookups.{CmpEqualImpliesEq, exact_pairs}
use Rattle.ids.proofs.Keys.{exact_vats, exact_promises}
use Rattle.ids.specs.Cells.{message_cmp, promise_cmp, vat_cmp}
use Rattle.ids.specs.KeyLaws.{exact_message, exact_promise, exact_vat}
use Rattle.ids.specs.declared.names.VatNo.{VatNo}
use Rattle.ids.specs.declared.names.MsgId.{MsgId}
use Rattle.ids.specs.declared.names.PromId.{PromId}
use Rattle.book_agenda.specs.Waiting.{ready_cmp}
use Rattle.book_agenda.specs.Ways.{cue_cmp}
use Rattle.book_agenda.specs.AgendaView.{open_cmp, known_cmp, watcher_cmp}
use Rattle.book_agenda.specs.contracts.ways.CuePartialEq.TheImpl as cue_test
use Rattle.book_agenda.specs.contracts.ways.CueOrd.TheImpl.Laws.{total-law, matches_eq-law}
use Rattle.book_agenda.specs.declared.ways.Cue.{Cue}
use Rattle.book_agenda.specs.declared.ways.Cue.TheVariants as cue
use Rattle.book_agenda.specs.declared.waiting.Ready.{Ready}
use Rattle.book_agenda.specs.declared.agenda.Watcher.{Watcher}
use Rattle.book_agenda.specs.declared.agenda.Open.{Open}
use Rattle.book_agenda.specs.declared.agenda.Known.{Known}

pub vat_total : IsTotalOrder vat_cmp
vat_total = on_total (λ (v : VatNo). v.0.0) nat_cmp_total

pub message_total : IsTotalOrder message_cmp
message_total = then_total (on_total (λ (m : MsgId). m.event.0) nat_cmp_total) (on_total (λ (m : MsgId). m.index) nat_cmp_total)

pub promise_total : IsTotalOrder promise_cmp
promise_total = then_total (on_total (λ (p : PromId). p.event.0) nat_cmp_total) (then_total (on_total (λ (p : PromId). p.index) nat_cmp_total) (on_total (λ (p : PromId). p.home) vat_total))

pub open_total : IsTotalOrder open_cmp
open_total = then_total (on_total (λ (o : Open). o.promise) promise_total) (on_total (λ (o : Open). o.vat) vat_total)

pub known_total : IsTotalOrder known_cmp
known_total = then_total (on_total (λ (k : Known). k.vat) vat_total) (on_total (λ (k : Known). k.promise) promise_total)

pub ready_total : IsTotalOrder ready_cmp
ready_total = then_total (on_total (λ (r : Ready). r.vat) vat_total) (on_total (λ (r : Ready). r.message) message_total)

-- ---- cells that tell how messages wait

pub cue_total : IsTotalOrder cue_cmp
cue_total = total-law

-- the program's test of two of them, which finds them equal only if they are one
abbrev pub same_cue : Cue → Cue → Bool
same_cue a b = (cue_test.ghosts).eq a b

exact_test : (a b : Cue) → same_cue a b ≡ true → a ≡ b
exact_test (cue.Message m) (cue.Message n) h = ap cue.Message (exact_message m n h)
exact_test (cue.View v p) (cue.View w q) h = let t = and_parts _ _ h in ap₂ cue.View (exact_vat v w t.0) (exact_promise p q t.1)
exact_test (cue.Board p) (cue.Board q) h = ap cue.Board (exact_promise p q h)
exact_test _ _ h = cc

pub cues_agree : (a b : Cue) → same_cue a b ≡ is_eq (cue_cmp a b)
cues_agree a b = matches_eq-law a b

pub exact_cues : CmpEqualImpliesEq cue_cmp
exact_cues a b h = exact_test a b (matches_eq-law a b ∙ ap is_eq h)

pub cue_self : (c : Cue) → is_eq (cue_cmp c c) ≡ true
cue_self c = ap is_eq (tied_itself cue_total c)

pub watcher_total : IsTotalOrder watcher_cmp
watcher_total = then_total (on_total (λ (x : Watcher). x.cue) cue_total) (on_total (λ (x : Watcher). x.message) message_total)

pub exact_known : CmpEqualImpliesEq known_cmp
exact_known a b h = ap (λ (p : VatNo × PromId). let k : Known = record { vat = p.0; promise = p.1 } in k) (exact_pairs vat_cmp promise_cmp exact_vats exact_promises (a.vat, a.promise) (b.vat, b.promise) h)

-- two things that are the same are so either way round
pub turned : {K : Type 0} {R : K → K → Ordering} → IsTotalOrder R → (x y : K) → is_eq (R x y) ≡ is_eq (R y x)
turned o x y = (eq_by_cmp_equiv o).symm x y

-- what is the same by two orders, one after the other, is the same by both
pub then_both : (a b : Ordering) → is_eq (ordering_then a b) ≡ (is_eq a && is_eq b)
then_both Less b = refl
then_both Equal b = refl
then_both Greater b = refl

pub and_turned : (a b : Bool) → (a && b) ≡ (b && a)
and_turned true true = refl
and_turned true false = refl
and_turned false true = refl
and_turned false false = refl

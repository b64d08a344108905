use Rattle.std.proofs.Common.{◌≡◌, ◌∙◌, Some, None, ap, sym, subst}
use Rattle.std.proofs.lemmas.Result.{IfOk-weaker, IfErr-weaker, on_ok_weaker, on_err_weaker}
use Rattle.kernele.specs.Tree.{Name}
use Rattle.post.specs.MessageView.{vat_of}
use Rattle.world_cells.specs.Events.{learn}
use Rattle.world_cells.specs.World.{vat_in, vat_named}
use Rattle.event.specs.Events.{Foot}
use Rattle.book_agenda.specs.Agendas.{KnownAs, can_learn}
use Rattle.book_refusals.specs.Fault.{Tells}
use Rattle.book_refusals.specs.declared.fault.BookFault.TheVariants as fault
use Rattle.book.specs.Books.{Book}
use Rattle.book.specs.BookView.{book_of, swaps_of}
use Rattle.book.specs.Calls.{EntersNext}
use Rattle.book.specs.Learning.{TellsNamed}
use Rattle.book.specs.Refusals.{learning_refusal}
use Rattle.book.proofs.Counting.{counts_from}
use Rattle.book.proofs.Learnings.{tells_nameless, tells_unknown, tells_known, learns_known}
use Rattle.book.proofs.book.Book.learn_named.Goals as goal

pub returns-in-None-clause-err : goal.returns-in-None-clause-err
returns-in-None-clause-err c =
    let b = book_of c.args.self.now in
    let x = c.args.name.now in
    let none : vat_named b.world x ≡ None = ap vat_in (sym c.in-None.ensures) in
    subst (λ (y : Name). TellsNamed (fault.NoVat y) b x c.args.event c.args.index) (sym c.in_ok-share-in-None.ensures) (tells_nameless b x c.args.event c.args.index none)

pub returns-in-None-2-clause-err : goal.returns-in-None-2-clause-err
returns-in-None-2-clause-err c =
    let b = book_of c.args.self.now in
    let x = c.args.name.now in
    let v = vat_of c.in-Some.vat.now in
    let named : vat_named b.world x ≡ Some v = ap vat_in (sym c.in-Some.ensures) in
    tells_unknown b x c.args.event c.args.index v named (subst (KnownAs (can_learn b.world) v.number c.args.event c.args.index) c.in-None-2.is c.in_ok-promise.ensures.known)

pub returns-in-Some-2-clause-err : goal.returns-in-Some-2-clause-err
returns-in-Some-2-clause-err c =
    let b = book_of c.args.self.now in
    let x = c.args.name.now in
    let v = vat_of c.in-Some.vat.now in
    let named : vat_named b.world x ≡ Some v = ap vat_in (sym c.in-Some.ensures) in
    let p = c.in-Some-2.promise in
    let known : KnownAs (can_learn b.world) v.number c.args.event c.args.index (Some p) = subst (KnownAs (can_learn b.world) v.number c.args.event c.args.index) c.in-Some-2.is c.in_ok-promise.ensures.known in
    IfErr-weaker c.learn_at.result _ _ (λ f h. tells_known b x c.args.event c.args.index v named p known f (subst (λ (o : Book). Tells f (learning_refusal o v.number p)) c.in_ok-promise.ensures.same h)) c.learn_at.ensures.err

pub returns-in-Some-2-clause-ok : goal.returns-in-Some-2-clause-ok
returns-in-Some-2-clause-ok c =
    let b = book_of c.args.self.now in
    let x = c.args.name.now in
    let v = vat_of c.in-Some.vat.now in
    let named : vat_named b.world x ≡ Some v = ap vat_in (sym c.in-Some.ensures) in
    let p = c.in-Some-2.promise in
    let known : KnownAs (can_learn b.world) v.number c.args.event c.args.index (Some p) = subst (KnownAs (can_learn b.world) v.number c.args.event c.args.index) c.in-Some-2.is c.in_ok-promise.ensures.known in
    let now = book_of c.learn_at.new.self in
    IfOk-weaker c.learn_at.result _ _ (λ e h.
    let k = subst (λ (o : Book). (learning_refusal o v.number p ≡ None) × ((f : Foot) × EntersNext (record { name = e; act = learn v.number p }) f 0 o now)) c.in_ok-promise.ensures.same h in
    learns_known b x c.args.event c.args.index v named p known e now k.0 k.1.0 k.1.1) c.learn_at.ensures.ok

pub returns-in-Some-2-clause-counted : goal.returns-in-Some-2-clause-counted
returns-in-Some-2-clause-counted c =
    let s = c.args.self.now in
    let mid = c.known_as.new.self in
    let now = c.learn_at.new.self in
    let same = ap (λ (b : Book). b.journal) c.in_ok-promise.ensures.same in
    on_ok_weaker c.learn_at.result (counts_from (book_of s).journal (book_of mid).journal (book_of now).journal (swaps_of s) (swaps_of mid) (swaps_of now) same c.known_as.ensures.counted) c.learn_at.ensures.counted

pub returns-in-Some-2-clause-none : goal.returns-in-Some-2-clause-none
returns-in-Some-2-clause-none c = on_err_weaker c.learn_at.result (λ e. e ∙ c.known_as.ensures.counted) c.learn_at.ensures.none

use Rattle.std.proofs.Common.{◌≡◌, true, length, refl, arith}
use Rattle.std.proofs.lemmas.Grind.{common_steps}
use Rattle.std.proofs.lemmas.List.{nil_from_length}
use Rattle.book_agenda.proofs.Noting.{told_keeps, watched_at, watched_none}
use Rattle.book_agenda.proofs.agenda.Agenda.watch.Goals as goal

pub returns-then-is_empty : goal.returns-then-is_empty
returns-then-is_empty c =
    let none : length c.args.cues.items ≡ 0 = first_of (grind (arith, c.is_empty.ensures, c.if-is_empty.true, c.args.cues.ok.0), grind (arith, common_steps, c.is_empty.ensures, c.if-is_empty.true, c.args.cues.ok.0)) in
    watched_none c.args.name c.args.cues.items _ _ (nil_from_length c.args.cues.items none) c.in_ok-unwatch.ensures

pub returns : goal.returns
returns c = watched_at c.args.name c.args.cues _ _ _ c.in_ok-unwatch.ensures (told_keeps c.args.name c.as_slice.result.now c.args.cues.items true _ _ c.as_slice.ensures.value c.in_ok-keep_each.ensures) (λ n. c.in_ok-insert.ensures.updates.0 n) refl refl refl

use Rattle.std.proofs.Common.{◌≡◌, ap, refl, subst, ◌∙◌, List, [], ℕ, nat_eq, arith}
use Rattle.std.specs.Prelude.{IfOk}
use Rattle.std.proofs.lemmas.Result.{err_from_is_err_and}
use Rattle.stepper_commands.specs.Scripts.{fault_in, unless}
use Rattle.stepper_commands.specs.ScriptView.{with_line}
use Rattle.stepper_streams.proofs.Giving.{gives_none}
use Rattle.stepper.proofs.Scripting.{scripted_none, scripted_more, scripted_all, scripted_short, scripted_stops, grown_by}
use Rattle.stepper.proofs.input.take_script.Goals as goal

pub lines-init : goal.lines-init
lines-init g c = record {
  text = [];
  scripted = scripted_none g.R.Read.remaining g.W.Write.contents c.args.lines c.args.source.now c.args.sink.now _ _ c.requires.sound (gives_none g.W.Write.contents c.args.sink.now) c.new-joined.ensures.fault refl;
  is = c.new-joined.ensures.text;
  uncut = c.requires.open;
}

pub lines-preserved : goal.lines-preserved
lines-preserved g c =
    let line = c.in-Some.line in
    let text = c.lines.invariant.text in
    let counted = rw c.in-Some.is at c.in_ok-line.ensures.counted in
    record {
      text = with_line c.text_of.result (nat_eq c.lines.taken 0) text;
      scripted = scripted_more g.R.Read.remaining g.W.Write.contents c.args.lines c.args.source.now c.lines.source c.next_line.new.source c.args.sink.now c.lines.sink c.next_line.new.sink line c.lines.taken
          c.lines.joined.fault _ text _ c.text_of.result c.lines.invariant.scripted c.lines-test.true (rw c.in-Some.is at c.in_ok-line.ensures.line) c.in_ok-line.ensures.none_refused counted.0 c.in_ok-line.ensures.gives
          (subst (λ (l : List ℕ). IfOk c.text_of.result (λ t. t.now ≡ l)) c.as_slice.ensures.value c.text_of.ensures.ok) (c.text_of.ensures.fault ∙ ap (λ (l : List ℕ). fault_in l line.is_long) c.as_slice.ensures.value)
          c.add.ensures.fault (grown_by c.text_of.result (nat_eq c.lines.taken 0) text);
      is = c.add.ensures.text text c.lines.invariant.is;
      uncut = c.in_ok-line.ensures.uncut;
    }

pub returns-in-None : goal.returns-in-None
returns-in-None g c =
    let counted = rw c.in-None.is at c.in_ok-line.ensures.counted in
    record {
      script = _;
      takes = scripted_short g.R.Read.remaining g.W.Write.contents c.args.lines c.args.source.now c.lines.source c.next_line.new.source c.args.sink.now c.lines.sink c.next_line.new.sink c.lines.taken _ _
          c.lines.invariant.scripted c.lines-test.true (rw c.in-None.is at c.in_ok-line.ensures.line) c.in_ok-line.ensures.none_refused counted c.in_ok-line.ensures.gives;
      is = refl;
      uncut = c.in_ok-line.ensures.uncut;
    }

pub returns-in_err-line : goal.returns-in_err-line
returns-in_err-line g c =
    let p = err_from_is_err_and c.from_residual.result c.from_residual.ensures.1 in
    rw (p.1, p.2) (scripted_stops g.R.Read.remaining g.W.Write.contents c.args.lines c.args.source.now c.lines.source c.next_line.new.source c.args.sink.now c.lines.sink c.next_line.new.sink c.lines.taken _ _
    c.lines.invariant.scripted c.lines-test.true _ c.in_err-line.ensures.err)

pub returns : goal.returns
returns g c = record {
  script = unless c.lines.joined.fault c.lines.invariant.text;
  takes = scripted_all g.R.Read.remaining g.W.Write.contents c.args.lines c.args.source.now c.lines.source c.args.sink.now c.lines.sink c.lines.taken _ _ _ c.lines.invariant.scripted (omega arith) refl;
  is = c.finish.ensures c.lines.invariant.text c.lines.invariant.is;
  uncut = c.lines.invariant.uncut;
}

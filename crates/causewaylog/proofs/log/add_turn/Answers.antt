use Rattle.std.proofs.Common.{◌≡◌, ◌+◌, List, [], ◌∷◌, ◌++◌, drop, map, sym, ap, ◌∙◌, arith}
use Rattle.std.proofs.lemmas.Grind.{common_steps}
use Rattle.std.proofs.lemmas.List.{map-append}
use Rattle.eval_rules.specs.OutboxView.{note_of}
use Rattle.eval_rules.specs.declared.outbox.Note.{Note}
use Rattle.serde_json.specs.Data.{Data}
use Rattle.serde_json.specs.View.{view}
use Rattle.causewaylog.specs.Facts.{anchor, note_fact, record_at}
use Rattle.causewaylog.specs.Log.{records_from}
use Rattle.causewaylog.proofs.Recording.{added_before}
use Rattle.causewaylog.proofs.log.add_turn.Goals as goal

pub loop-index-preserved : goal.loop-index-preserved
loop-index-preserved c =
    let x = c.args.loop_name.now in
    let n = c.args.turn in
    let i = c.loop-index.index in
    let notes = c.args.notes.now in
    let note = c.index-notes-index.result in
    let old = map view c.loop-index.records.items in
    let one : Data = record_at (anchor x n (i + 1)) (note_fact (note_of note)) in
    let dropped : drop i notes ≡ note ∷ drop (i + 1) notes = grind (arith, common_steps) in
    let made : map view c.push-in-loop-index.new.self.items ≡ old ++ one ∷ [] =
    ap (map view) c.in_ok-push-2.ensures.items ∙ map-append view c.loop-index.records.items (c.in_ok-of_note.field-0 ∷ [])
    ∙ ap (λ (d : Data). old ++ d ∷ []) (c.in_ok-of_note.ensures ∙ ap (λ (p : Data). record_at p (note_fact (note_of note))) c.in_ok-next.ensures) in
    added_before old (map view c.push-in-loop-index.new.self.items) (one ∷ []) (records_from x n (i + 1 + 1) (map note_fact (map note_of (drop (i + 1) notes)))) made
    ∙ ap (λ (ns : List Note). old ++ records_from x n (i + 1) (map note_fact (map note_of ns))) (sym dropped) ∙ c.loop-index.invariant

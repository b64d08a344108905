use Rattle.std.proofs.Common.{refl, sym, ap, ◌∙◌}
use Rattle.std.proofs.lemmas.Result.{err_from_is_err_and}
use Rattle.kernele_scopes.specs.Scope.{own_names_in}
use Rattle.code.specs.View.{trees_of_codes}
use Rattle.world_cells.specs.View.{world_of}
use Rattle.event.specs.Events.{birth_foot, births}
use Rattle.event.proofs.Noted.{quietly}
use Rattle.world.proofs.Impossible.{tells_unnamed}
use Rattle.world.proofs.step.effects_of_birth.Goals as goal

pub returns-clause-ok : goal.returns-clause-ok
returns-clause-ok c =
    let n = c.in_ok-vats.ensures.ok in (
      birth_foot c.args.event c.args.name.now c.args.earlier.now n.vats (trees_of_codes c.args.script.now.items.value.items),
      record {
        does = ∣ quietly (births n.vats (sym c.in-None.ensures) n.named) refl _ c.in_ok-birth_effects.ensures.quiet ∣₁;
        brings = c.in_ok-birth_effects.ensures.brings n.vats (n.numbered ∙ sym c.as_slice.ensures.value) (c.in_ok-tops.ensures ∙ ap own_names_in c.in_ok-program.ensures);
      },
    )

pub returns-in_err-vats-clause-err : goal.returns-in_err-vats-clause-err
returns-in_err-vats-clause-err c =
    let p = err_from_is_err_and c.from_residual.result c.from_residual.ensures.1 in
    rw (p.1, p.2) (tells_unnamed c.in_err-vats.field-0.0 c.args.event c.args.name.now c.args.earlier.now (trees_of_codes c.args.script.now.items.value.items) (world_of c.args.world.now) c.in_err-vats.ensures.err)

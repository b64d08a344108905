use Rattle.std.proofs.Common.{[], ◌∷◌, rules, ◌∙◌, ap, sym}
use Rattle.crossbeam_utils.specs.Seq.{cell_view}
use Rattle.bench_pact.specs.Agree.{keeper_of, holder_of}
use Rattle.bench_pact.proofs.Moves.{spares, parts_as, takes_in_as, writes_as, both_known, after_write}
use Rattle.bench_pact.proofs.write.Goals as goal

pub split_pass-spare-requires : goal.split_pass-spare-requires
split_pass-spare-requires g c = (search rules, (search rules, (c.requires.cell.0, spares _ _)))

pub join_pass-requires : goal.join_pass-requires
join_pass-requires g c =
    let s = c.split_pass-spare.ensures in
    let same = c.replace-theirs.ensures.value in
    let kept = s.kept.1 ∙ c.requires.view.0 in (
      search rules,
      (
        search rules,
        (
          (s.kept.0.0 ∙ c.requires.cell.0, ap (λ p. p.table_id) same ∙ c.requires.cell.1 ∙ sym s.kept.0.0, ap (λ p. p.me.1) same ∙ c.requires.cell.2),
          takes_in_as _ _ _ _ _ _ _ kept (ap cell_view same ∙ c.requires.view.1),
        ),
      ),
    )

pub swap_as-requires : goal.swap_as-requires
swap_as-requires g c =
    let s = c.split_pass-spare.ensures in
    let kept = s.kept.1 ∙ c.requires.view.0 in
    let theirs = ap cell_view c.replace-theirs.ensures.value ∙ c.requires.view.1 in
    let j = c.join_pass.ensures in
    (search rules, (search rules, (j.0.0 ∙ s.kept.0.0 ∙ c.requires.cell.0, writes_as _ _ _ _ _ _ (0 ∷ []) (both_known _ _ _ _ _ _ kept theirs j.1))))

pub split_pass-requires : goal.split_pass-requires
split_pass-requires g c =
    let s = c.split_pass-spare.ensures in
    let kept = s.kept.1 ∙ c.requires.view.0 in
    let theirs = ap cell_view c.replace-theirs.ensures.value ∙ c.requires.view.1 in
    let j = c.join_pass.ensures in
    let w = c.swap_as.ensures in
    let written = after_write _ _ _ _ _ _ (both_known _ _ _ _ _ _ kept theirs j.1) w.rule in
    (search rules, (search rules, (w.cell.0 ∙ j.0.0 ∙ s.kept.0.0 ∙ c.requires.cell.0, parts_as _ _ _ _ _ written.0)))

pub returns-clause-tokens : goal.returns-clause-tokens
returns-clause-tokens g c =
    let s = c.split_pass-spare.ensures in
    let j = c.join_pass.ensures in
    let w = c.swap_as.ensures in
    let t = c.split_pass.ensures in
    let table = w.cell.0 ∙ j.0.0 ∙ s.kept.0.0 in
    (t.kept.0.0 ∙ table, t.given.0 ∙ table ∙ sym c.requires.cell.1, t.given.2)

pub returns-clause-agreed : goal.returns-clause-agreed
returns-clause-agreed g c =
    let kept = c.split_pass-spare.ensures.kept.1 ∙ c.requires.view.0 in
    let theirs = ap cell_view c.replace-theirs.ensures.value ∙ c.requires.view.1 in
    (after_write _ _ _ _ _ _ (both_known _ _ _ _ _ _ kept theirs c.join_pass.ensures.1) c.swap_as.ensures.rule).1

pub returns-clause-keeper : goal.returns-clause-keeper
returns-clause-keeper g c =
    let kept = c.split_pass-spare.ensures.kept.1 ∙ c.requires.view.0 in
    let theirs = ap cell_view c.replace-theirs.ensures.value ∙ c.requires.view.1 in
    c.split_pass.ensures.kept.1 ∙ ap keeper_of (after_write _ _ _ _ _ _ (both_known _ _ _ _ _ _ kept theirs c.join_pass.ensures.1) c.swap_as.ensures.rule).0

pub returns-clause-holder : goal.returns-clause-holder
returns-clause-holder g c =
    let kept = c.split_pass-spare.ensures.kept.1 ∙ c.requires.view.0 in
    let theirs = ap cell_view c.replace-theirs.ensures.value ∙ c.requires.view.1 in
    c.split_pass.ensures.given.1 ∙ ap holder_of (after_write _ _ _ _ _ _ (both_known _ _ _ _ _ _ kept theirs c.join_pass.ensures.1) c.swap_as.ensures.rule).0

use Rattle.std.proofs.Common.{rules, ◌≡◌, [], length, sym, ◌∙◌, subst, arith, refl, eqb, eqb-true, true, ℕ, List, ◌∷◌}
use Rattle.std.proofs.lemmas.Result.{err_from_is_err_and}
use Rattle.etoken.specs.Cutting.{Blanks}
use Rattle.etoken.specs.Tokens.{tokens_long}
use Rattle.etoken.proofs.Shorter.{blanks_le, spells_less}
use Rattle.etoken.proofs.Progress.{progress_put, progress_ends, progress_blames, progress_refuses}
use Rattle.etoken.proofs.tokens.tokens.Goals as goal

pub returns-then-text-gt-MAX_BYTES : goal.returns-then-text-gt-MAX_BYTES
returns-then-text-gt-MAX_BYTES c = tokens_long c.if-text-gt-MAX_BYTES.true

-- there is nothing where the length is 0
nothing : (a : List ℕ) → eqb (length a) 0 ≡ true → a ≡ []
nothing [] h = refl
nothing (x ∷ a) h = absurd (omega (arith, eqb-true (length (x ∷ a)) 0 h))

pub returns-then-is_empty : goal.returns-then-is_empty
returns-then-is_empty c =
    let none = nothing c.blanks-broken.result.1.now (sym c.is_empty.ensures ∙ c.if-is_empty.true) in
    progress_ends c.more.invariant.so_far c.if-text-gt-MAX_BYTES.false c.more.output.in_limit (subst (Blanks c.more.rest.now c.blanks-broken.result.0) none c.blanks-broken.ensures)

pub returns-in_err-token : goal.returns-in_err-token
returns-in_err-token c =
    let p = err_from_is_err_and c.from_residual-in_err-token.result c.from_residual-in_err-token.ensures.1 in
    rw (p.1, p.2) (progress_blames c.more.invariant.so_far c.in_err-token.field-0.0 c.if-text-gt-MAX_BYTES.false c.more.output.in_limit c.blanks-broken.ensures c.in_err-token.ensures)

pub returns-in_err-add : goal.returns-in_err-add
returns-in_err-add c =
    let p = err_from_is_err_and c.from_residual-in_err-add.result c.from_residual-in_err-add.ensures.1 in
    rw (p.1, p.2) (progress_refuses
    (progress_put c.more.invariant.so_far c.blanks-broken.result.0 c.blanks-broken.result.1.now c.in_ok-token.behind.now c.in_ok-token.token c.offset-offset.result c.blanks-broken.ensures c.in_ok-token.ensures c.offset-offset.ensures refl refl refl)
    c.in_err-add.field-0.0 c.if-text-gt-MAX_BYTES.false c.in_err-add.ensures.err)

pub more-smaller : goal.more-smaller
more-smaller c = omega (arith, spells_less c.in_ok-token.ensures, blanks_le c.blanks-broken.ensures)

pub more-preserved : goal.more-preserved
more-preserved c = record {
  is_text = search rules;
  so_far = progress_put c.more.invariant.so_far c.blanks-broken.result.0 c.blanks-broken.result.1.now c.in_ok-token.behind.now c.in_ok-token.token c.offset-offset.result c.blanks-broken.ensures c.in_ok-token.ensures c.offset-offset.ensures
      c.in_ok-add.ensures.tokens c.in_ok-add.ensures.brackets c.in_ok-add.ensures.ended;
}

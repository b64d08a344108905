use Rattle.std.proofs.Common.{sym, ◌∙◌, subst, codes}
use Rattle.std.proofs.lemmas.Bool.{false≢true}
use Rattle.std.proofs.lemmas.Slice.Eq.{bytes_eq-Decides}
use Rattle.etoken.specs.declared.token.Token.TheVariants as token
use Rattle.etoken.specs.Bytes.{is_word_byte, Longest}
use Rattle.etoken.specs.Spelling.{Spells, spells_underscore, spells_reserved, spells_name}
use Rattle.etoken.proofs.lexer.Lexer.word.Goals as goal
use Rattle.etoken.proofs.lexer.Lexer.word.Goals.{in-Some, in-None+in_ok-new-in-None}

pub returns-then-eq : goal.returns-then-eq
returns-then-eq c =
    let same = (bytes_eq-Decides c.word.result.0.now (codes "_")).0 (sym c.eq.ensures ∙ c.if-eq.true) in
    spells_underscore (record { letter = c.requires; longest = subst (λ w. Longest is_word_byte c.args.rest.now w c.word.result.1.now) same c.word.ensures })

pub returns : goal.returns
returns c = elim c.match-reserved.branch [
  | in-Some w ↦ subst (λ t. Spells c.args.rest.now t c.word.result.1.now) (sym w.token-is) (spells_reserved (record { letter = c.requires; longest = c.word.ensures }) (sym c.reserved.ensures ∙ w.in-Some.is))
  | in-None+in_ok-new-in-None w ↦ subst (λ t. Spells c.args.rest.now t c.word.result.1.now) (sym w.token-is)
      (subst (λ t. Spells c.args.rest.now (token.Name t) c.word.result.1.now) (sym w.in_ok-new-in-None.ensures)
      (spells_name (record { letter = c.requires; longest = c.word.ensures }) (sym c.reserved.ensures ∙ w.in-None.is)
      (λ same. false≢true (sym (sym c.eq.ensures ∙ c.if-eq.false) ∙ (bytes_eq-Decides c.word.result.0.now (codes "_")).1 same))))
]

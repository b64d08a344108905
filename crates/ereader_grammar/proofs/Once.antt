-- A text spells one program.
use Rattle.std.proofs.Common.{◌≡◌, ℕ, List, ap, subst}
use Rattle.etoken.specs.declared.token.Token.{Token}
use Rattle.etoken.specs.Breaks.{with_breaks}
use Rattle.etoken.proofs.Answered.{one_cut}
use Rattle.kernele.specs.Tree.{Trees}
use Rattle.kernele.specs.Spelling.{spelling}
use Rattle.ereader_grammar.specs.Grammar.{Program}
use Rattle.ereader_grammar.specs.Spelled.{CutInto, cut_into, SpelledBy, AreSpellable}
use Rattle.ereader_grammar.specs.View.{plain}
use Rattle.ereader_grammar.proofs.Complete.{one_program}
use Rattle.ereader_grammar.proofs.Retold.{spells_itself}

-- a text is cut into one list of tokens
cut_once : {text : List ℕ} {xs ys : List Token} → CutInto text xs → CutInto text ys → xs ≡ ys
cut_once (cut_into cuts ended) (cut_into others stops) = ap (λ ps. plain (with_breaks ps)) (one_cut cuts ended others stops)

-- a text spells one program at most
pub spelled_once : (text : List ℕ) (ts us : Trees) → SpelledBy text ts → SpelledBy text us → ts ≡ us
spelled_once text ts us (xs, cut, program) (ys, other, second) = one_program ys ts us (subst (λ l. Program l ts) (cut_once cut other) program) second

-- two programs have two canonical spellings
pub own_spelling : (ts us : Trees) → AreSpellable ts → AreSpellable us → spelling ts ≡ spelling us → ts ≡ us
own_spelling ts us h k e = spelled_once (spelling us) ts us (subst (λ text. SpelledBy text ts) e (spells_itself ts h)) (spells_itself us k)

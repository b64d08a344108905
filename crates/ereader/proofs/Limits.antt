-- Texts within the limits.
use Rattle.std.proofs.Common.{◌≤◌, ℕ, List, length, Ok, subst}
use Rattle.etoken.specs.declared.token.Token.{Token}
use Rattle.etoken.specs.declared.token.Placed.{Placed}
use Rattle.etoken.specs.Breaks.{with_breaks}
use Rattle.etoken.specs.Tokens.{Tokens, tokens_all}
use Rattle.kernele.specs.Tree.{Trees}
use Rattle.kernele.specs.Spelling.{spelling}
use Rattle.ereader.specs.Brackets.{IsTooDeep}
use Rattle.ereader_grammar.specs.Grammar.{Program}
use Rattle.ereader_grammar.specs.Spelled.{CutInto, cut_into, SpelledBy, AreSpellable}
use Rattle.ereader.specs.Laws.{IsWithinLimits}
use Rattle.ereader.specs.Texts.{ReadAs, read_program}
use Rattle.ereader_grammar.specs.View.{plain}
use Rattle.ereader_grammar.specs.Written.{program_tokens}
use Rattle.ereader_parser.proofs.Views.{length-plain}
use Rattle.ereader_grammar.proofs.Spelled.{spelled}
use Rattle.ereader_grammar.proofs.Retold.{cuts_itself}
use Rattle.ereader_grammar.proofs.Spellable.{spellable}

-- the tokens of a text, without their places
tokens_cut : {text : List ℕ} {tokens : List Placed} → Tokens text (Ok tokens) → CutInto text (plain tokens)
tokens_cut (tokens_all short cuts ended few) = cut_into cuts ended

-- what reading gives is what the text spells
pub read_is_spelled : (text : List ℕ) (ts : Trees) → ReadAs text (Ok ts) → SpelledBy text ts
read_is_spelled text _ (read_program {tokens = tokens} t shallow program) = (plain tokens, tokens_cut t, program)

-- what a text within the limits spells is what reading gives
pub reads_within_limits : (text : List ℕ) (tokens : List Token) (ts : Trees) → CutInto text tokens → Program tokens ts
    → length text ≤ 65536 → length tokens ≤ 16384 → ¬ IsTooDeep tokens → ReadAs text (Ok ts)
reads_within_limits text _ ts (cut_into {ps = ps} cuts ended) program short few shallow =
    let P : ℕ → Type 0 = λ n. n ≤ 16384 in
    read_program (tokens_all short cuts ended (subst P (length-plain (with_breaks ps)) few)) shallow program

-- the canonical spelling of a program within the limits is read as that program
pub reads_itself : (ts : Trees) → AreSpellable ts → IsWithinLimits ts → ReadAs (spelling ts) (Ok ts)
reads_itself ts h limits = reads_within_limits (spelling ts) (program_tokens ts) ts (cuts_itself ts h) (spelled ts) limits.short limits.few limits.shallow

-- so a program that was read is read again
pub reads_again : (text : List ℕ) (ts : Trees) → ReadAs text (Ok ts) → IsWithinLimits ts → ReadAs (spelling ts) (Ok ts)
reads_again text ts h = reads_itself ts (spellable text ts (read_is_spelled text ts h))

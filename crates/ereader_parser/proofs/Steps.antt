-- What the reader gives by what it gives behind a first part, and where a turn of a loop stops.
use Rattle.std.proofs.Common.{◌≡◌, List, false, Option, Some, Result, Ok, Err, sym, ap, ◌∙◌}
use Rattle.std.specs.declared.alloc.Global.{Global}
use Rattle.std.specs.declared.sync.Arc.{Arc}
use Rattle.etoken.specs.declared.token.Token.{Token}
use Rattle.etoken.specs.declared.token.Sign as signs
use Rattle.kernele.specs.declared.tree.Expr.{Expr}
use Rattle.kernele.specs.Tree.{Name, Tree, Trees}
use Rattle.etoken.specs.declared.breaks.Bracket.{Bracket}
use Rattle.ereader_signs.specs.declared.operator.CallSign.{CallSign}
use Rattle.ereader_signs.specs.declared.operator.Operator.{Operator}
use Rattle.ereader_signs.specs.Signs.{link_of, closer}
use Rattle.ereader_forms.specs.Forms.{linked}
use Rattle.ereader_grammar.specs.Reading.{Read, ◌>>=◌, rest_of, front, operand_next, Within, args_at, verb_at, postfix_next, is_block_end, separator_at, expr_at, block_next}
use Rattle.ereader_grammar.proofs.Turns.{Turns}
use Rattle.ereader_grammar.proofs.Steps.{operand_fail, postfix_fail, block_part_fail}
use Rattle.ereader_signs.specs.declared.stop.ReadStop.{ReadStop}
use Rattle.ereader_signs.specs.declared.stop.ReadStop.TheVariants as stop
use Rattle.ereader_parser.specs.declared.reader.Reader.{Reader}
use Rattle.ereader_parser.specs.View.{left_of, Fails, Gives, GivesShared}

-- what is read behind a first part is what is read of the whole
pub gives_behind : (r : Result Expr ReadStop) (old between new : Reader) (whole part : List Token → Read Tree) → whole (left_of old) ≡ part (left_of between) → Gives r between new part → Gives r old new whole
gives_behind (Ok e) old between new whole part h g = h ∙ g
gives_behind (Err stop.Unexpected) old between new whole part h g = h ∙ g
gives_behind (Err stop.Memory) old between new whole part h g = tt

pub gives_shared_behind : (r : Result (Arc Expr Global) ReadStop) (old between new : Reader) (whole part : List Token → Read Tree) → whole (left_of old) ≡ part (left_of between) → GivesShared r between new part → GivesShared r old new whole
gives_shared_behind (Ok e) old between new whole part h g = h ∙ g
gives_shared_behind (Err stop.Unexpected) old between new whole part h g = h ∙ g
gives_shared_behind (Err stop.Memory) old between new whole part h g = tt

module _ (of : signs.Sign → Option Operator) (part : List Token → Read Tree) where
  pub operand_fails : (e : ReadStop) {read : Read Tree} {t : Tree} {a : List Token} (b : List Token) {o : Operator}
      → Turns (operand_next of part) read t a → front of a ≡ Some o → b ≡ rest_of a → Fails e (part b) → Fails e read
  operand_fails stop.Unexpected b c e k g = operand_fail of part b c e k g
  operand_fails stop.Memory b c e k g = tt

module _ (within : Within) where
  pub args_fail : (e : ReadStop) {read : Read Tree} {t : Tree} {a : List Token} (b : List Token) {l : CallSign} {v : Name} {r : List Token} {bracket : Bracket}
      → Turns (postfix_next within) read t a → front link_of a ≡ Some l → b ≡ rest_of a → verb_at l b ≡ Some (v, r) → bracket ≡ closer l → Fails e (args_at within bracket r) → Fails e read
  args_fail stop.Unexpected {t = t} b {l = l} {v = v} {r = r} c e k g h f =
      postfix_fail within b c e k
      (ap (λ y. y >>= λ w. args_at within (closer l) w.1 >>= λ x. Some (linked l t w.0 x.0, x.1)) g
      ∙ ap (λ y. y >>= λ x. Some (linked l t v x.0, x.1)) (ap (λ z. args_at within z r) (sym h) ∙ f))
  args_fail stop.Memory b c e k g h f = tt

  pub verb_fails : (e : ReadStop) {read : Read Tree} {t : Tree} {a : List Token} (b : List Token) {l : CallSign} → Turns (postfix_next within) read t a → front link_of a ≡ Some l → b ≡ rest_of a → Fails e (verb_at l b) → Fails e read
  verb_fails stop.Unexpected {t = t} b {l = l} c e k g = postfix_fail within b c e k (ap (λ y. y >>= λ w. args_at within (closer l) w.1 >>= λ x. Some (linked l t w.0 x.0, x.1)) g)
  verb_fails stop.Memory b c e k g = tt

  pub block_part_fails : (e : ReadStop) {read : Read Trees} {ts : Trees} (u : Tree) {a : List Token} (b : List Token)
      → Turns (block_next within) read ts a → is_block_end a ≡ false → expr_at within a ≡ Some (u, b) → Fails e (separator_at b) → Fails e read
  block_part_fails stop.Unexpected u b c e g s = block_part_fail within u b c e g s
  block_part_fails stop.Memory u b c e g s = tt

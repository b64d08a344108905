-- Which program the language gives a text, whatever the text's size.
use Rattle.std.specs.Prelude.{◌≡◌, ℕ, ℤ, pos, negsuc, ◌<◌, ◌^◌, Bool, true, List, [], ◌∷◌, length}
use Rattle.etoken.specs.declared.token.Token.{Token}
use Rattle.etoken.specs.Cutting.{Blanks, Piece, Cuts}
use Rattle.etoken.specs.Breaks.{with_breaks}
use Rattle.etoken.specs.Names.{is_name}
use Rattle.kernele.specs.declared.tree.Pattern.{Pattern}
use Rattle.kernele.specs.declared.tree.Pattern.TheVariants as pattern
use Rattle.kernele.specs.Tree.{Name, Tree, null_tree, bool_tree, int_tree, text_tree, noun, define, variable, assign, call, list_tree, same_tree, define_list, hide, if_tree, while_tree, for_tree, try_tree, primitive, object_tree, escape_tree, send, when_tree, when_catch_tree, new_promise, Trees, none, and_then, Methods, no_methods, and_method}
use Rattle.ereader_grammar.specs.Grammar.{Program}
use Rattle.ereader_grammar.specs.View.{plain}

-- the text is cut to its end into these tokens, with the semicolons that line breaks give
pub data CutInto (text : List ℕ) : List Token → Type 0 where
  cut_into : {ps : List Piece} {r : List ℕ} {broken : Bool} → Cuts (length text) text ps r → Blanks r broken [] → CutInto text (plain (with_breaks ps))

-- the tokens of the text spell this program
abbrev pub SpelledBy : List ℕ → Trees → Type 0
SpelledBy text ts = (tokens : List Token) × CutInto text tokens × Program tokens ts

-- a name of the language
abbrev pub IsName : Name → Type 0
IsName x = is_name x ≡ true

-- an integer that has a literal: from 0 to 2 ^ 63 - 1
abbrev pub HasLiteral : ℤ → Type 0
HasLiteral (pos n) = n < 2 ^ 63
HasLiteral (negsuc n) = ⊥

-- a definition binds a name of the language, or none
abbrev pub BindsName : Pattern → Type 0
BindsName (pattern.Name x) = IsName x
BindsName pattern.Ignore = Unit {0}

-- each of them does
abbrev pub BindNames : List Pattern → Type 0
BindNames [] = Unit {0}
BindNames (p ∷ ps) = BindsName p × BindNames ps

-- each noun, verb and each name that a tree defines, binds or assigns is a name of the language, and each integer has a literal
abbrev mutual
  pub IsSpellable : Tree → Type 0
  IsSpellable null_tree = Unit {0}
  IsSpellable (bool_tree b) = Unit {0}
  IsSpellable (int_tree z) = HasLiteral z
  IsSpellable (text_tree s) = Unit {0}
  IsSpellable (noun x) = IsName x
  IsSpellable (define p e) = BindsName p × IsSpellable e
  IsSpellable (variable x e) = IsName x × IsSpellable e
  IsSpellable (assign x e) = IsName x × IsSpellable e
  IsSpellable (call r verb args) = IsSpellable r × IsName verb × AreSpellable args
  IsSpellable (list_tree items) = AreSpellable items
  IsSpellable (same_tree l r) = IsSpellable l × IsSpellable r
  IsSpellable (define_list ps e) = BindNames ps × IsSpellable e
  IsSpellable (hide body) = AreSpellable body
  IsSpellable (if_tree c first second) = IsSpellable c × AreSpellable first × AreSpellable second
  IsSpellable (while_tree c body) = IsSpellable c × AreSpellable body
  IsSpellable (for_tree p e body) = BindsName p × IsSpellable e × AreSpellable body
  IsSpellable (try_tree body p handler) = AreSpellable body × BindsName p × AreSpellable handler
  IsSpellable (primitive q e) = IsSpellable e
  IsSpellable (object_tree p ms) = BindsName p × AreSpellableMethods ms
  IsSpellable (escape_tree x body) = IsName x × AreSpellable body
  IsSpellable (send r verb args) = IsSpellable r × IsName verb × AreSpellable args
  IsSpellable (when_tree e body) = IsSpellable e × AreSpellable body
  IsSpellable (when_catch_tree e body p handler) = IsSpellable e × AreSpellable body × BindsName p × AreSpellable handler
  IsSpellable new_promise = Unit {0}

  pub AreSpellableMethods : Methods → Type 0
  AreSpellableMethods no_methods = Unit {0}
  AreSpellableMethods (and_method verb ps body ms) = IsName verb × BindNames ps × AreSpellable body × AreSpellableMethods ms

  pub AreSpellable : Trees → Type 0
  AreSpellable none = Unit {0}
  AreSpellable (and_then t ts) = IsSpellable t × AreSpellable ts

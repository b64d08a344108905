-- The tokens of the canonical spelling.
use Rattle.std.specs.Prelude.{Bool, true, false, not, List, [], ◌∷◌, map, codes}
use Rattle.etoken.specs.declared.token.Token.{Token}
use Rattle.etoken.specs.declared.token.Token.TheVariants as token
use Rattle.etoken.specs.declared.token.Reserved as words
use Rattle.etoken.specs.declared.token.Reserved.TheVariants as word
use Rattle.etoken.specs.declared.token.Sign.TheVariants as sign
use Rattle.kernele.specs.declared.tree.Pattern.{Pattern}
use Rattle.kernele.specs.declared.tree.Pattern.TheVariants as pattern
use Rattle.kernele.specs.declared.tree.Primitive.TheVariants as primitives
use Rattle.ereader_grammar.specs.Grammar.{dot, comma, semicolon, becomes, open_round, close_round, open_square, close_square, open_curly, close_curly, send_to, arrow, underscore}
use Rattle.kernele.specs.Spelling.{needs_brackets, is_bare_receiver}
use Rattle.kernele.specs.Tree.{Name, Tree, null_tree, bool_tree, int_tree, text_tree, noun, define, variable, assign, call, list_tree, same_tree, define_list, hide, if_tree, while_tree, for_tree, try_tree, primitive, object_tree, escape_tree, send, when_tree, when_catch_tree, new_promise, Trees, none, and_then, Methods, no_methods, and_method}

-- tokens put before others
abbrev pub Before : Type 0
Before = List Token → List Token

-- each behind a separator
abbrev pub led_by : Token → List Before → Before
led_by separator [] r = r
led_by separator (w ∷ ws) r = separator ∷ w (led_by separator ws r)

-- with a separator between them
abbrev pub between : Token → List Before → Before
between separator [] r = r
between separator (w ∷ ws) r = w (led_by separator ws r)

-- in round brackets, where they are wanted
abbrev pub bracketed : Bool → Before → Before
bracketed true w r = open_round ∷ w (close_round ∷ r)
bracketed false w r = w r

-- what a definition binds
abbrev pub bound : Pattern → Token
bound (pattern.Name x) = token.Name x
bound pattern.Ignore = underscore

-- what a definition of a list binds
abbrev pub bound_in : Pattern → Before
bound_in p r = bound p ∷ r

-- a block in its braces
abbrev pub in_braces : List Before → Before
in_braces ws r = open_curly ∷ between semicolon ws (close_curly ∷ r)

-- a method: its verb, its parameters, and its block
abbrev pub taking : Name → List Pattern → List Before → Before
taking verb ps ws r = token.Word word.Method ∷ token.Name verb ∷ open_round ∷ between comma (map bound_in ps) (close_round ∷ in_braces ws r)

abbrev pub truth_word : Bool → words.Reserved
truth_word true = word.True
truth_word false = word.False

abbrev mutual
  -- a tree, as an item of a block
  pub written : Tree → Before
  written null_tree r = token.Word word.Null ∷ r
  written (bool_tree b) r = token.Word (truth_word b) ∷ r
  written (int_tree z) r = token.Int z ∷ r
  written (text_tree s) r = token.Text s ∷ r
  written (noun x) r = token.Name x ∷ r
  written (define p e) r =
      token.Word word.Def ∷ bound p ∷ becomes ∷ bracketed (needs_brackets e) (written e) r
  written (variable x e) r =
      token.Word word.Var ∷ token.Name x ∷ becomes ∷ bracketed (needs_brackets e) (written e) r
  written (assign x e) r =
      token.Name x ∷ becomes ∷ bracketed (needs_brackets e) (written e) r
  written (call t verb ts) r =
      bracketed (not (is_bare_receiver t)) (written t)
      (dot ∷ token.Name verb ∷ open_round ∷ between comma (written_parts ts) (close_round ∷ r))
  written (list_tree ts) r =
      open_square ∷ between comma (written_parts ts) (close_square ∷ r)
  written (same_tree t u) r =
      open_round ∷ bracketed (needs_brackets t) (written t)
      (token.Sign sign.Equal ∷ bracketed (needs_brackets u) (written u) (close_round ∷ r))
  written (define_list ps e) r =
      token.Word word.Def ∷ open_square ∷ between comma (map bound_in ps)
      (close_square ∷ becomes ∷ bracketed (needs_brackets e) (written e) r)
  written (hide body) r = in_braces (written_items body) r
  written (if_tree c first second) r =
      token.Word word.If ∷ open_round ∷ bracketed (needs_brackets c) (written c)
      (close_round ∷ in_braces (written_items first) (token.Word word.Else ∷ in_braces (written_items second) r))
  written (while_tree c body) r =
      token.Word word.While ∷ open_round ∷ bracketed (needs_brackets c) (written c) (close_round ∷ in_braces (written_items body) r)
  written (for_tree p e body) r =
      token.Word word.For ∷ bound p ∷ token.Word word.In ∷ bracketed (needs_brackets e) (written e) (in_braces (written_items body) r)
  written (try_tree body p handler) r =
      token.Word word.Try ∷ in_braces (written_items body) (token.Word word.Catch ∷ bound p ∷ in_braces (written_items handler) r)
  written (primitive primitives.Throw e) r =
      token.Word word.Throw ∷ open_round ∷ bracketed (needs_brackets e) (written e) (close_round ∷ r)
  written (object_tree p ms) r = token.Word word.Def ∷ bound p ∷ open_curly ∷ written_methods ms (close_curly ∷ r)
  written (escape_tree x body) r = token.Word word.Escape ∷ token.Name x ∷ in_braces (written_items body) r
  written (send t verb ts) r =
      bracketed (not (is_bare_receiver t)) (written t)
      (send_to ∷ token.Name verb ∷ open_round ∷ between comma (written_parts ts) (close_round ∷ r))
  written (when_tree e body) r =
      token.Word word.When ∷ open_round ∷ bracketed (needs_brackets e) (written e) (close_round ∷ arrow ∷ in_braces (written_items body) r)
  written (when_catch_tree e body p handler) r =
      token.Word word.When ∷ open_round ∷ bracketed (needs_brackets e) (written e)
      (close_round ∷ arrow ∷ in_braces (written_items body) (token.Word word.Catch ∷ bound p ∷ in_braces (written_items handler) r))
  written new_promise r = token.Word word.Ref ∷ dot ∷ token.Name (codes "promise") ∷ open_round ∷ close_round ∷ r
  written (primitive primitives.BreakRef e) r =
      token.Word word.Ref ∷ dot ∷ token.Name (codes "broken") ∷ open_round ∷ bracketed (needs_brackets e) (written e) (close_round ∷ r)
  written (primitive primitives.StateRef e) r =
      token.Word word.Ref ∷ dot ∷ token.Name (codes "state") ∷ open_round ∷ bracketed (needs_brackets e) (written e) (close_round ∷ r)

  -- the methods of an object
  pub written_methods : Methods → Before
  written_methods no_methods r = r
  written_methods (and_method verb ps body ms) r = taking verb ps (written_items body) (written_methods ms r)

  -- arguments, or the items of a list
  pub written_parts : Trees → List Before
  written_parts none = []
  written_parts (and_then t ts) = bracketed (needs_brackets t) (written t) ∷ written_parts ts

  -- the items of a block
  pub written_items : Trees → List Before
  written_items none = []
  written_items (and_then t ts) = written t ∷ written_items ts

-- a program
abbrev pub program_tokens : Trees → List Token
program_tokens ts = between semicolon (written_items ts) []

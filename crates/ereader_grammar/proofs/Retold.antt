-- The canonical spelling is cut into the tokens of the canonical spelling.
use Rattle.std.proofs.Common.{◌≡◌, ℕ, Bool, true, false, not, List, [], ◌∷◌, ◌++◌, map, sym, refl, subst, append_assoc, append-nil, codes}
use Rattle.etoken.specs.declared.token.Token.{Token}
use Rattle.etoken.specs.declared.token.Token.TheVariants as token
use Rattle.etoken.specs.declared.token.Reserved.TheVariants as word
use Rattle.etoken.specs.declared.token.Sign.TheVariants as sign
use Rattle.etoken.specs.Cutting.{blanks_none}
use Rattle.kernele.specs.declared.tree.Pattern.{Pattern}
use Rattle.kernele.specs.declared.tree.Pattern.TheVariants as pattern
use Rattle.kernele.specs.Tree.{Name, Tree, null_tree, bool_tree, int_tree, text_tree, noun, define, variable, assign, call, list_tree, same_tree, define_list, hide, if_tree, while_tree, for_tree, try_tree, primitive, object_tree, escape_tree, send, when_tree, when_catch_tree, new_promise, Trees, none, and_then, Methods, no_methods, and_method}
use Rattle.kernele.specs.Spelling as text
use Rattle.kernele.specs.Spelling.{spelled, spelled_parts, spelled_items, spelled_methods, spelling, needs_brackets, as_part, as_receiver, is_bare_receiver, bound_name}
use Rattle.kernele.specs.declared.tree.Primitive.TheVariants as primitives
use Rattle.ereader_grammar.specs.Written.{Before, led_by, between, bracketed, bound, bound_in, in_braces, taking, written, written_parts, written_items, written_methods, program_tokens}
use Rattle.ereader_grammar.specs.Spelled.{CutInto, SpelledBy, BindsName, BindNames, IsName, IsSpellable, AreSpellable, AreSpellableMethods}
use Rattle.ereader_grammar.proofs.Plainly.{InLine, in_line_end, cut_in_line, spaced, open_round_at, close_round_at, open_square_at, close_square_at, open_curly_at, close_curly_at, comma_at, semicolon_at, dot_at, becomes_at, equal_at, send_to_at, arrow_at, Ends, reserved_at, underscore_at, name_at, int_at, text_at}
use Rattle.ereader_grammar.proofs.Spelled as tokens

-- the bytes are cut into these tokens, before whatever does not lengthen the last of them
abbrev Stands : List ℕ → Before → Type 0
Stands bs w = (r : List ℕ) (us : List Token) → Ends r → InLine r us → InLine (bs ++ r) (w us)

-- a receiver is put in brackets where it is wanted
as_receiver-is : (t : Tree) (s : List ℕ) → as_receiver t s ≡ text.bracketed (not (is_bare_receiver t)) s
as_receiver-is null_tree s = refl
as_receiver-is (bool_tree b) s = refl
as_receiver-is (int_tree z) s = refl
as_receiver-is (text_tree t) s = refl
as_receiver-is (noun x) s = refl
as_receiver-is (define p e) s = refl
as_receiver-is (variable x e) s = refl
as_receiver-is (assign x e) s = refl
as_receiver-is (call t verb ts) s = refl
as_receiver-is (list_tree ts) s = refl
as_receiver-is (same_tree t u) s = refl
as_receiver-is (define_list ps e) s = refl
as_receiver-is (hide body) s = refl
as_receiver-is (if_tree c first second) s = refl
as_receiver-is (while_tree c body) s = refl
as_receiver-is (for_tree p e body) s = refl
as_receiver-is (try_tree body p handler) s = refl
as_receiver-is (primitive q e) s = refl
as_receiver-is (object_tree p ms) s = refl
as_receiver-is (escape_tree x body) s = refl
as_receiver-is (send r verb args) s = refl
as_receiver-is (when_tree e body) s = refl
as_receiver-is (when_catch_tree e body p handler) s = refl
as_receiver-is new_promise s = refl

-- what stands, in brackets where they are wanted
in_brackets : (wanted : Bool) (bs : List ℕ) (w : Before) → Stands bs w → Stands (text.bracketed wanted bs) (bracketed wanted w)
in_brackets true bs w h = λ r us ends rest.
    open_round_at (subst (λ l. InLine l (w (token.Sign sign.CloseRound ∷ us))) (sym (append_assoc bs (41 ∷ []) r)) (h (41 ∷ r) (token.Sign sign.CloseRound ∷ us) refl (close_round_at rest)))
in_brackets false bs w h = h

-- a part of another tree
part : (t : Tree) → Stands (spelled t) (written t) → Stands (as_part t (spelled t)) (bracketed (needs_brackets t) (written t))
part t h = in_brackets (needs_brackets t) (spelled t) (written t) h

-- a receiver
receiver : (t : Tree) → Stands (spelled t) (written t) → Stands (as_receiver t (spelled t)) (bracketed (not (is_bare_receiver t)) (written t))
receiver t h = subst (λ l. Stands l (bracketed (not (is_bare_receiver t)) (written t))) (sym (as_receiver-is t (spelled t))) (in_brackets (not (is_bare_receiver t)) (spelled t) (written t) h)

-- two, one behind the other
in_turn : (cs bs : List ℕ) (v w : Before) → Stands cs v → Stands bs w → ((r : List ℕ) → Ends r → Ends (bs ++ r)) → Stands (cs ++ bs) (λ us. v (w us))
in_turn cs bs v w g h go = λ r us ends rest.
    subst (λ l. InLine l (v (w us))) (sym (append_assoc cs bs r)) (g (bs ++ r) (w us) (go r ends) (h r us ends rest))

-- `true` and `false`
truth_at : (b : Bool) → Stands (spelled (bool_tree b)) (written (bool_tree b))
truth_at true = λ r us ends rest. reserved_at (codes "true") word.True refl refl refl ends rest
truth_at false = λ r us ends rest. reserved_at (codes "false") word.False refl refl refl ends rest

-- what a definition binds
bound_at : (p : Pattern) → BindsName p → {r : List ℕ} {us : List Token} → Ends r → InLine r us → InLine (bound_name p ++ r) (bound p ∷ us)
bound_at (pattern.Name x) h ends rest = name_at x h ends rest
bound_at pattern.Ignore h ends rest = underscore_at ends rest

-- the bytes of a definition, with what is behind them
define-bytes : (x e r : List ℕ) → (codes "def " ++ x ++ codes " := " ++ e) ++ r ≡ codes "def" ++ (32 ∷ (x ++ (32 ∷ 58 ∷ 61 ∷ 32 ∷ (e ++ r))))
define-bytes x e r = simp append_assoc

-- of a variable
variable-bytes : (x e r : List ℕ) → (codes "var " ++ x ++ codes " := " ++ e) ++ r ≡ codes "var" ++ (32 ∷ (x ++ (32 ∷ 58 ∷ 61 ∷ 32 ∷ (e ++ r))))
variable-bytes x e r = simp append_assoc

-- of an assignment
assign-bytes : (x e r : List ℕ) → (x ++ codes " := " ++ e) ++ r ≡ x ++ (32 ∷ 58 ∷ 61 ∷ 32 ∷ (e ++ r))
assign-bytes x e r = simp append_assoc

-- of a call
call-bytes : (t verb args r : List ℕ) → (t ++ codes "." ++ (verb ++ codes "(" ++ args ++ codes ")")) ++ r ≡ t ++ (46 ∷ (verb ++ (40 ∷ (args ++ (41 ∷ r)))))
call-bytes t verb args r = simp append_assoc

-- of a list
list-bytes : (items r : List ℕ) → (codes "[" ++ items ++ codes "]") ++ r ≡ 91 ∷ (items ++ (93 ∷ r))
list-bytes items r = simp append_assoc

-- of a comparison
same-bytes : (t u r : List ℕ) → (codes "(" ++ t ++ codes " == " ++ u ++ codes ")") ++ r ≡ 40 ∷ (t ++ (32 ∷ 61 ∷ 61 ∷ 32 ∷ (u ++ (41 ∷ r))))
same-bytes t u r = simp append_assoc

-- of a definition of a list
define_list-bytes : (ps e r : List ℕ) → (codes "def [" ++ ps ++ codes "] := " ++ e) ++ r ≡ codes "def" ++ (32 ∷ 91 ∷ (ps ++ (93 ∷ 32 ∷ 58 ∷ 61 ∷ 32 ∷ (e ++ r))))
define_list-bytes ps e r = simp append_assoc

-- of a choice
if-bytes : (c p q r : List ℕ) → (codes "if (" ++ c ++ codes ") " ++ p ++ codes " else " ++ q) ++ r ≡ codes "if" ++ (32 ∷ 40 ∷ (c ++ (41 ∷ 32 ∷ (p ++ (32 ∷ (codes "else" ++ (32 ∷ (q ++ r))))))))
if-bytes c p q r = simp append_assoc

-- of a loop on a condition
while-bytes : (c p r : List ℕ) → (codes "while (" ++ c ++ codes ") " ++ p) ++ r ≡ codes "while" ++ (32 ∷ 40 ∷ (c ++ (41 ∷ 32 ∷ (p ++ r))))
while-bytes c p r = simp append_assoc

-- of a loop on a list
for-bytes : (x e p r : List ℕ) → (codes "for " ++ x ++ codes " in " ++ e ++ codes " " ++ p) ++ r ≡ codes "for" ++ (32 ∷ (x ++ (32 ∷ (codes "in" ++ (32 ∷ (e ++ (32 ∷ (p ++ r))))))))
for-bytes x e p r = simp append_assoc

-- of a body and its handler
try-bytes : (p x q r : List ℕ) → (codes "try " ++ p ++ codes " catch " ++ x ++ codes " " ++ q) ++ r ≡ codes "try" ++ (32 ∷ (p ++ (32 ∷ (codes "catch" ++ (32 ∷ (x ++ (32 ∷ (q ++ r))))))))
try-bytes p x q r = simp append_assoc

-- of a throw
throw-bytes : (e r : List ℕ) → (codes "throw(" ++ e ++ codes ")") ++ r ≡ codes "throw" ++ (40 ∷ (e ++ (41 ∷ r)))
throw-bytes e r = simp append_assoc

-- of an object
object-bytes : (x ms r : List ℕ) → (codes "def " ++ x ++ codes " " ++ ms) ++ r ≡ codes "def" ++ (32 ∷ (x ++ (32 ∷ (ms ++ r))))
object-bytes x ms r = simp append_assoc

-- of an escape
escape-bytes : (x p r : List ℕ) → (codes "escape " ++ x ++ codes " " ++ p) ++ r ≡ codes "escape" ++ (32 ∷ (x ++ (32 ∷ (p ++ r))))
escape-bytes x p r = simp append_assoc

-- of a send
send-bytes : (t verb args r : List ℕ) → (t ++ codes " <- " ++ (verb ++ codes "(" ++ args ++ codes ")")) ++ r ≡ t ++ (32 ∷ 60 ∷ 45 ∷ 32 ∷ (verb ++ (40 ∷ (args ++ (41 ∷ r)))))
send-bytes t verb args r = simp append_assoc

-- of a value and the block that waits for it
when-bytes : (e p r : List ℕ) → (codes "when (" ++ e ++ codes ") -> " ++ p) ++ r ≡ codes "when" ++ (32 ∷ 40 ∷ (e ++ (41 ∷ 32 ∷ 45 ∷ 62 ∷ 32 ∷ (p ++ r))))
when-bytes e p r = simp append_assoc

-- of these and a handler
when_catch-bytes : (e p x q r : List ℕ) → (codes "when (" ++ e ++ codes ") -> " ++ p ++ codes " catch " ++ x ++ codes " " ++ q) ++ r
    ≡ codes "when" ++ (32 ∷ 40 ∷ (e ++ (41 ∷ 32 ∷ 45 ∷ 62 ∷ 32 ∷ (p ++ (32 ∷ (codes "catch" ++ (32 ∷ (x ++ (32 ∷ (q ++ r))))))))))
when_catch-bytes e p x q r = simp append_assoc

-- of a broken reference
broken-bytes : (e r : List ℕ) → (codes "Ref.broken(" ++ e ++ codes ")") ++ r ≡ codes "Ref" ++ (46 ∷ (codes "broken" ++ (40 ∷ (e ++ (41 ∷ r)))))
broken-bytes e r = simp append_assoc

-- of the state of a reference
state-bytes : (e r : List ℕ) → (codes "Ref.state(" ++ e ++ codes ")") ++ r ≡ codes "Ref" ++ (46 ∷ (codes "state" ++ (40 ∷ (e ++ (41 ∷ r)))))
state-bytes e r = simp append_assoc

-- of a method
method-bytes : (verb ps p r : List ℕ) → (codes "method " ++ (verb ++ codes "(" ++ ps ++ codes ")") ++ codes " " ++ p) ++ r ≡ codes "method" ++ (32 ∷ (verb ++ (40 ∷ (ps ++ (41 ∷ 32 ∷ (p ++ r))))))
method-bytes verb ps p r = simp append_assoc

-- of a block in its braces
braces-bytes : (s r : List ℕ) → (codes "{ " ++ s ++ codes " }") ++ r ≡ 123 ∷ 32 ∷ (s ++ (32 ∷ 125 ∷ r))
braces-bytes s r = simp append_assoc

-- further patterns, each behind a comma
abbrev led_patterns : List Pattern → List ℕ
led_patterns ps = text.led_by (codes ", ") (map bound_name ps)

led_patterns-ends : (ps : List Pattern) (r : List ℕ) → Ends r → Ends (led_patterns ps ++ r)
led_patterns-ends [] r ends = ends
led_patterns-ends (p ∷ ps) r ends = refl

more_patterns : (ps : List Pattern) → BindNames ps → Stands (led_patterns ps) (led_by (token.Sign sign.Comma) (map bound_in ps))
more_patterns [] h = λ r us ends rest. rest
more_patterns (p ∷ ps) h = λ r us ends rest.
    comma_at (spaced (in_turn (bound_name p) (led_patterns ps) (bound_in p) (led_by (token.Sign sign.Comma) (map bound_in ps)) (λ r us ends rest. bound_at p h.0 ends rest) (more_patterns ps h.1) (led_patterns-ends ps) r us ends rest))

-- the patterns of a list
patterns_stand : (ps : List Pattern) → BindNames ps → Stands (text.joined (codes ", ") (map bound_name ps)) (between (token.Sign sign.Comma) (map bound_in ps))
patterns_stand [] h = λ r us ends rest. rest
patterns_stand (p ∷ ps) h = in_turn (bound_name p) (led_patterns ps) (bound_in p) (led_by (token.Sign sign.Comma) (map bound_in ps)) (λ r us ends rest. bound_at p h.0 ends rest) (more_patterns ps h.1) (led_patterns-ends ps)

-- items, each behind a semicolon
abbrev led_items : Trees → List ℕ
led_items ts = text.led_by (codes "; ") (spelled_items ts)

-- a semicolon lengthens no word
led_items-ends : (ts : Trees) (r : List ℕ) → Ends r → Ends (led_items ts ++ r)
led_items-ends none r ends = ends
led_items-ends (and_then t ts) r ends = refl

-- the items stand: each behind a semicolon, with semicolons between them
abbrev StandItems : Trees → Type 0
StandItems ts = Stands (led_items ts) (led_by (token.Sign sign.Semicolon) (written_items ts)) × Stands (spelling ts) (between (token.Sign sign.Semicolon) (written_items ts))

-- a block in its braces
block_stands : (ts : Trees) → StandItems ts → Stands (text.in_braces (spelled_items ts)) (in_braces (written_items ts))
block_stands none h = λ r us ends rest. open_curly_at (spaced (close_curly_at rest))
block_stands (and_then t ts) h = λ r us ends rest.
    subst (λ l. InLine l (in_braces (written_items (and_then t ts)) us)) (sym (braces-bytes (spelling (and_then t ts)) r))
    (open_curly_at (spaced (h.1 (32 ∷ 125 ∷ r) _ refl (spaced (close_curly_at rest)))))

-- methods, each behind a space
abbrev led_methods : Methods → List ℕ
led_methods ms = text.led_by (codes " ") (spelled_methods ms)

-- a space lengthens no word
led_methods-ends : (ms : Methods) (r : List ℕ) → Ends r → Ends (led_methods ms ++ r)
led_methods-ends no_methods r ends = ends
led_methods-ends (and_method verb ps body ms) r ends = refl

-- the methods stand: each behind a space, and with spaces between them
abbrev StandMethods : Methods → Type 0
StandMethods ms = Stands (led_methods ms) (written_methods ms) × Stands (text.joined (codes " ") (spelled_methods ms)) (written_methods ms)

-- a method
method_stands : (verb : Name) (ps : List Pattern) (body : Trees) → IsName verb → BindNames ps → StandItems body → Stands (text.method_text verb ps (spelled_items body)) (taking verb ps (written_items body))
method_stands verb ps body h k items = λ r us ends rest.
    subst (λ l. InLine l (taking verb ps (written_items body) us)) (sym (method-bytes verb (text.joined (codes ", ") (map bound_name ps)) (text.in_braces (spelled_items body)) r))
    (reserved_at (codes "method") word.Method refl refl refl refl (spaced (name_at verb h refl (open_round_at (patterns_stand ps k _ _ refl (close_round_at (spaced (block_stands body items r us ends rest))))))))

-- the methods of an object in its braces
members_stand : (ms : Methods) → StandMethods ms → Stands (text.methods_in_braces (spelled_methods ms)) (λ us. token.Sign sign.OpenCurly ∷ written_methods ms (token.Sign sign.CloseCurly ∷ us))
members_stand no_methods h = λ r us ends rest. open_curly_at (spaced (close_curly_at rest))
members_stand (and_method verb ps body ms) h = λ r us ends rest.
    subst (λ l. InLine l (token.Sign sign.OpenCurly ∷ written_methods (and_method verb ps body ms) (token.Sign sign.CloseCurly ∷ us))) (sym (braces-bytes (text.joined (codes " ") (spelled_methods (and_method verb ps body ms))) r))
    (open_curly_at (spaced (h.1 (32 ∷ 125 ∷ r) _ refl (spaced (close_curly_at rest)))))

-- parts, each behind a comma
abbrev led : Trees → List ℕ
led ts = text.led_by (codes ", ") (spelled_parts ts)

-- a comma lengthens no word
led-ends : (ts : Trees) (r : List ℕ) → Ends r → Ends (led ts ++ r)
led-ends none r ends = ends
led-ends (and_then t ts) r ends = refl

-- the parts stand: each behind a comma, and with commas between them
abbrev StandAll : Trees → Type 0
StandAll ts = Stands (led ts) (led_by (token.Sign sign.Comma) (written_parts ts)) × Stands (text.joined (codes ", ") (spelled_parts ts)) (between (token.Sign sign.Comma) (written_parts ts))

mutual
  -- each tree stands
  stands : (t : Tree) → IsSpellable t → Stands (spelled t) (written t)
  stands null_tree h = λ r us ends rest. reserved_at (codes "null") word.Null refl refl refl ends rest
  stands (bool_tree b) h = truth_at b
  stands (int_tree z) h = λ r us ends rest. int_at z h ends rest
  stands (text_tree s) h = λ r us ends rest. text_at s rest
  stands (noun x) h = λ r us ends rest. name_at x h ends rest
  stands (define p e) h = λ r us ends rest.
      subst (λ l. InLine l (written (define p e) us)) (sym (define-bytes (bound_name p) (as_part e (spelled e)) r))
      (reserved_at (codes "def") word.Def refl refl refl refl (spaced (bound_at p h.0 refl (spaced (becomes_at (spaced (part e (stands e h.1) r us ends rest)))))))
  stands (variable x e) h = λ r us ends rest.
      subst (λ l. InLine l (written (variable x e) us)) (sym (variable-bytes x (as_part e (spelled e)) r))
      (reserved_at (codes "var") word.Var refl refl refl refl (spaced (name_at x h.0 refl (spaced (becomes_at (spaced (part e (stands e h.1) r us ends rest)))))))
  stands (assign x e) h = λ r us ends rest.
      subst (λ l. InLine l (written (assign x e) us)) (sym (assign-bytes x (as_part e (spelled e)) r))
      (name_at x h.0 refl (spaced (becomes_at (spaced (part e (stands e h.1) r us ends rest)))))
  stands (call t verb ts) h = λ r us ends rest.
      subst (λ l. InLine l (written (call t verb ts) us)) (sym (call-bytes (as_receiver t (spelled t)) verb (text.joined (codes ", ") (spelled_parts ts)) r))
      (receiver t (stands t h.0) _ _ refl (dot_at (name_at verb h.1 refl (open_round_at ((stand_all ts h.2).1 (41 ∷ r) _ refl (close_round_at rest))))))
  stands (list_tree ts) h = λ r us ends rest.
      subst (λ l. InLine l (written (list_tree ts) us)) (sym (list-bytes (text.joined (codes ", ") (spelled_parts ts)) r))
      (open_square_at ((stand_all ts h).1 (93 ∷ r) _ refl (close_square_at rest)))
  stands (same_tree t u) h = λ r us ends rest.
      subst (λ l. InLine l (written (same_tree t u) us)) (sym (same-bytes (as_part t (spelled t)) (as_part u (spelled u)) r))
      (open_round_at (part t (stands t h.0) _ _ refl (spaced (equal_at (spaced (part u (stands u h.1) (41 ∷ r) _ refl (close_round_at rest)))))))
  stands (define_list ps e) h = λ r us ends rest.
      subst (λ l. InLine l (written (define_list ps e) us)) (sym (define_list-bytes (text.joined (codes ", ") (map bound_name ps)) (as_part e (spelled e)) r))
      (reserved_at (codes "def") word.Def refl refl refl refl (spaced (open_square_at (patterns_stand ps h.0 _ _ refl (close_square_at (spaced (becomes_at (spaced (part e (stands e h.1) r us ends rest)))))))))
  stands (hide body) h = block_stands body (stand_items body h)
  stands (if_tree c first second) h = λ r us ends rest.
      subst (λ l. InLine l (written (if_tree c first second) us)) (sym (if-bytes (as_part c (spelled c)) (text.in_braces (spelled_items first)) (text.in_braces (spelled_items second)) r))
      (reserved_at (codes "if") word.If refl refl refl refl (spaced (open_round_at (part c (stands c h.0) _ _ refl (close_round_at (spaced
      (block_stands first (stand_items first h.1) _ _ refl (spaced (reserved_at (codes "else") word.Else refl refl refl refl (spaced (block_stands second (stand_items second h.2) r us ends rest)))))))))))
  stands (while_tree c body) h = λ r us ends rest.
      subst (λ l. InLine l (written (while_tree c body) us)) (sym (while-bytes (as_part c (spelled c)) (text.in_braces (spelled_items body)) r))
      (reserved_at (codes "while") word.While refl refl refl refl (spaced (open_round_at (part c (stands c h.0) _ _ refl (close_round_at (spaced (block_stands body (stand_items body h.1) r us ends rest)))))))
  stands (for_tree p e body) h = λ r us ends rest.
      subst (λ l. InLine l (written (for_tree p e body) us)) (sym (for-bytes (bound_name p) (as_part e (spelled e)) (text.in_braces (spelled_items body)) r))
      (reserved_at (codes "for") word.For refl refl refl refl (spaced (bound_at p h.0 refl (spaced (reserved_at (codes "in") word.In refl refl refl refl (spaced
      (part e (stands e h.1) _ _ refl (spaced (block_stands body (stand_items body h.2) r us ends rest)))))))))
  stands (try_tree body p handler) h = λ r us ends rest.
      subst (λ l. InLine l (written (try_tree body p handler) us)) (sym (try-bytes (text.in_braces (spelled_items body)) (bound_name p) (text.in_braces (spelled_items handler)) r))
      (reserved_at (codes "try") word.Try refl refl refl refl (spaced (block_stands body (stand_items body h.0) _ _ refl (spaced (reserved_at (codes "catch") word.Catch refl refl refl refl (spaced
      (bound_at p h.1 refl (spaced (block_stands handler (stand_items handler h.2) r us ends rest)))))))))
  stands (primitive primitives.Throw e) h = λ r us ends rest.
      subst (λ l. InLine l (written (primitive primitives.Throw e) us)) (sym (throw-bytes (as_part e (spelled e)) r))
      (reserved_at (codes "throw") word.Throw refl refl refl refl (open_round_at (part e (stands e h) _ _ refl (close_round_at rest))))
  stands (object_tree p ms) h = λ r us ends rest.
      subst (λ l. InLine l (written (object_tree p ms) us)) (sym (object-bytes (bound_name p) (text.methods_in_braces (spelled_methods ms)) r))
      (reserved_at (codes "def") word.Def refl refl refl refl (spaced (bound_at p h.0 refl (spaced (members_stand ms (stand_methods ms h.1) r us ends rest)))))
  stands (escape_tree x body) h = λ r us ends rest.
      subst (λ l. InLine l (written (escape_tree x body) us)) (sym (escape-bytes x (text.in_braces (spelled_items body)) r))
      (reserved_at (codes "escape") word.Escape refl refl refl refl (spaced (name_at x h.0 refl (spaced (block_stands body (stand_items body h.1) r us ends rest)))))
  stands (send t verb ts) h = λ r us ends rest.
      subst (λ l. InLine l (written (send t verb ts) us)) (sym (send-bytes (as_receiver t (spelled t)) verb (text.joined (codes ", ") (spelled_parts ts)) r))
      (receiver t (stands t h.0) _ _ refl (spaced (send_to_at (spaced (name_at verb h.1 refl (open_round_at ((stand_all ts h.2).1 (41 ∷ r) _ refl (close_round_at rest))))))))
  stands (when_tree e body) h = λ r us ends rest.
      subst (λ l. InLine l (written (when_tree e body) us)) (sym (when-bytes (as_part e (spelled e)) (text.in_braces (spelled_items body)) r))
      (reserved_at (codes "when") word.When refl refl refl refl (spaced (open_round_at (part e (stands e h.0) _ _ refl (close_round_at (spaced (arrow_at (spaced (block_stands body (stand_items body h.1) r us ends rest)))))))))
  stands (when_catch_tree e body p handler) h = λ r us ends rest.
      subst (λ l. InLine l (written (when_catch_tree e body p handler) us)) (sym (when_catch-bytes (as_part e (spelled e)) (text.in_braces (spelled_items body)) (bound_name p) (text.in_braces (spelled_items handler)) r))
      (reserved_at (codes "when") word.When refl refl refl refl (spaced (open_round_at (part e (stands e h.0) _ _ refl (close_round_at (spaced (arrow_at (spaced
      (block_stands body (stand_items body h.1) _ _ refl (spaced (reserved_at (codes "catch") word.Catch refl refl refl refl (spaced
      (bound_at p h.2 refl (spaced (block_stands handler (stand_items handler h.3) r us ends rest)))))))))))))))
  stands new_promise h = λ r us ends rest. reserved_at (codes "Ref") word.Ref refl refl refl refl (dot_at (name_at (codes "promise") refl refl (open_round_at (close_round_at rest))))
  stands (primitive primitives.BreakRef e) h = λ r us ends rest.
      subst (λ l. InLine l (written (primitive primitives.BreakRef e) us)) (sym (broken-bytes (as_part e (spelled e)) r))
      (reserved_at (codes "Ref") word.Ref refl refl refl refl (dot_at (name_at (codes "broken") refl refl (open_round_at (part e (stands e h) _ _ refl (close_round_at rest))))))
  stands (primitive primitives.StateRef e) h = λ r us ends rest.
      subst (λ l. InLine l (written (primitive primitives.StateRef e) us)) (sym (state-bytes (as_part e (spelled e)) r))
      (reserved_at (codes "Ref") word.Ref refl refl refl refl (dot_at (name_at (codes "state") refl refl (open_round_at (part e (stands e h) _ _ refl (close_round_at rest))))))

  -- so do all the methods
  stand_methods : (ms : Methods) → AreSpellableMethods ms → StandMethods ms
  stand_methods no_methods h = (λ r us ends rest. rest, λ r us ends rest. rest)
  stand_methods (and_method verb ps body ms) h =
      let whole = in_turn (text.method_text verb ps (spelled_items body)) (led_methods ms) (taking verb ps (written_items body)) (written_methods ms) (method_stands verb ps body h.0 h.1 (stand_items body h.2)) (stand_methods ms h.3).0 (led_methods-ends ms) in
      (λ r us ends rest. spaced (whole r us ends rest), whole)

  -- so do all the parts
  stand_all : (ts : Trees) → AreSpellable ts → StandAll ts
  stand_all none h = (λ r us ends rest. rest, λ r us ends rest. rest)
  stand_all (and_then t ts) h =
      let whole = in_turn (as_part t (spelled t)) (led ts) (bracketed (needs_brackets t) (written t)) (led_by (token.Sign sign.Comma) (written_parts ts)) (part t (stands t h.0)) (stand_all ts h.1).0 (led-ends ts) in
      (λ r us ends rest. comma_at (spaced (whole r us ends rest)), whole)

  -- and all the items
  stand_items : (ts : Trees) → AreSpellable ts → StandItems ts
  stand_items none h = (λ r us ends rest. rest, λ r us ends rest. rest)
  stand_items (and_then t ts) h =
      let whole = in_turn (spelled t) (led_items ts) (written t) (led_by (token.Sign sign.Semicolon) (written_items ts)) (stands t h.0) (stand_items ts h.1).0 (led_items-ends ts) in
      (λ r us ends rest. semicolon_at (spaced (whole r us ends rest)), whole)

-- the canonical spelling is cut into the tokens of the canonical spelling
pub cuts_itself : (ts : Trees) → AreSpellable ts → CutInto (spelling ts) (program_tokens ts)
cuts_itself ts h = cut_in_line (subst (λ l. InLine l (program_tokens ts)) (append-nil (spelling ts)) ((stand_items ts h).1 [] [] refl (in_line_end (blanks_none refl))))

-- the canonical spelling of a program spells that program
pub spells_itself : (ts : Trees) → AreSpellable ts → SpelledBy (spelling ts) ts
spells_itself ts h = (program_tokens ts, cuts_itself ts h, tokens.spelled ts)

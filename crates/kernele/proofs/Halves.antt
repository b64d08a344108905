-- What a tree begins with and the rest of it are its spelling.
use Rattle.std.proofs.Common.{◌≡◌, List, ℕ, ◌++◌, map, codes, refl, ap, sym, ◌∙◌, append_assoc, append-nil}
use Rattle.kernele.specs.Tree.{Tree, null_tree, bool_tree, int_tree, text_tree, noun, define, variable, assign, call, list_tree, same_tree, define_list, hide, if_tree, while_tree, for_tree, try_tree, primitive, object_tree, escape_tree, send, when_tree, when_catch_tree, new_promise}
use Rattle.kernele.specs.Spelling.{joined, bound_name, as_part, as_receiver, message, in_braces, methods_in_braces, spelled, spelled_parts, spelled_items, spelled_methods}
use Rattle.kernele.specs.Halves.{beginning, rest_of}

two : (a b c : List ℕ) → a ++ (b ++ c) ≡ a ++ b ++ c
two a b c = sym (append_assoc a b c)

three : (a b c d : List ℕ) → a ++ (b ++ c ++ d) ≡ a ++ b ++ c ++ d
three a b c d = two a (b ++ c) d ∙ ap (λ s. s ++ d) (two a b c)

four : (a b c d e : List ℕ) → a ++ (b ++ c ++ d ++ e) ≡ a ++ b ++ c ++ d ++ e
four a b c d e = two a (b ++ c ++ d) e ∙ ap (λ s. s ++ e) (three a b c d)

six : (a b c d e f g : List ℕ) → a ++ (b ++ c ++ d ++ e ++ f ++ g) ≡ a ++ b ++ c ++ d ++ e ++ f ++ g
six a b c d e f g = two a (b ++ c ++ d ++ e ++ f) g ∙ ap (λ s. s ++ g) (two a (b ++ c ++ d ++ e) f ∙ ap (λ s. s ++ f) (four a b c d e))

halves : (t : Tree) → beginning t ++ rest_of t ≡ spelled t
halves null_tree = refl
halves (bool_tree b) = append-nil (spelled (bool_tree b))
halves (int_tree z) = append-nil (spelled (int_tree z))
halves (text_tree s) = append-nil (spelled (text_tree s))
halves (noun x) = append-nil x
halves (define p e) = two (codes "def " ++ bound_name p) (codes " := ") (as_part e (spelled e))
halves (variable x e) = two (codes "var " ++ x) (codes " := ") (as_part e (spelled e))
halves (assign x e) = two x (codes " := ") (as_part e (spelled e))
halves (call r verb args) = two (as_receiver r (spelled r)) (codes ".") (message verb (spelled_parts args))
halves (list_tree items) = append-nil (spelled (list_tree items))
halves (same_tree l r) = three (codes "(" ++ as_part l (spelled l)) (codes " == ") (as_part r (spelled r)) (codes ")")
halves (define_list ps e) = two (codes "def [" ++ joined (codes ", ") (map bound_name ps)) (codes "] := ") (as_part e (spelled e))
halves (hide body) = append-nil (spelled (hide body))
halves (if_tree c first second) = four (codes "if (" ++ as_part c (spelled c)) (codes ") ") (in_braces (spelled_items first)) (codes " else ") (in_braces (spelled_items second))
halves (while_tree c body) = two (codes "while (" ++ as_part c (spelled c)) (codes ") ") (in_braces (spelled_items body))
halves (for_tree p e body) = four (codes "for " ++ bound_name p) (codes " in ") (as_part e (spelled e)) (codes " ") (in_braces (spelled_items body))
halves (try_tree body p handler) = four (codes "try " ++ in_braces (spelled_items body)) (codes " catch ") (bound_name p) (codes " ") (in_braces (spelled_items handler))
halves (primitive q e) = refl
halves (object_tree p ms) = two (codes "def " ++ bound_name p) (codes " ") (methods_in_braces (spelled_methods ms))
halves (escape_tree x body) = two (codes "escape " ++ x) (codes " ") (in_braces (spelled_items body))
halves (send r verb args) = two (as_receiver r (spelled r)) (codes " <- ") (message verb (spelled_parts args))
halves (when_tree e body) = two (codes "when (" ++ as_part e (spelled e)) (codes ") -> ") (in_braces (spelled_items body))
halves (when_catch_tree e body p handler) = six (codes "when (" ++ as_part e (spelled e)) (codes ") -> ") (in_braces (spelled_items body)) (codes " catch ") (bound_name p) (codes " ") (in_braces (spelled_items handler))
halves new_promise = append-nil (codes "Ref.promise()")

-- the two behind what was written before
pub written_in_two : (was : List ℕ) (t : Tree) → was ++ beginning t ++ rest_of t ≡ was ++ spelled t
written_in_two was t = append_assoc was (beginning t) (rest_of t) ∙ ap (λ s. was ++ s) (halves t)

-- What names stand for, line after line, and programs in their own names.
use Rattle.std.proofs.Common.{◌≡◌, ◌==◌, ℕ, true, false, List, [], ◌∷◌, ◌++◌, length, map, Option, Some, None, codes, string_bytes, refl, sym, ap, ◌∙◌, append_assoc, append-nil, arith}
use Rattle.std.specs.Option.{option_map}
use Rattle.std.specs.declared.alloc.Global.{Global}
use Rattle.std.specs.declared.vec.Vec.{Vec}
use Rattle.ids.specs.declared.names.PromId.{PromId}
use Rattle.heap.specs.State.{Nouns}
use Rattle.heap.specs.View.{bind_of, nouns_after, nouns_of, object_of}
use Rattle.heap.specs.declared.made.Made.{Made}
use Rattle.heap.specs.declared.made.Made.TheVariants as made_of
use Rattle.heap.specs.declared.made.Plain.{Plain}
use Rattle.heap.specs.declared.state.Noun.{Noun}
use Rattle.code.specs.View.{trees_of_codes, methods_of_codes}
use Rattle.code.specs.declared.code.Code.{Code}
use Rattle.code.specs.declared.code.MethodCode.{MethodCode}
use Rattle.kernele.specs.Spelling.{bound_name, in_braces, message, spelled_items, spelling}
use Rattle.kernele.specs.Tree.{Trees, none, and_then}
use Rattle.stepper_questions.specs.Deliveries.{captured_line, captured_lines, program_line}
use Rattle.stepper_questions.specs.DeliveriesView.{spelled_if_any, word_line, braced}
use Rattle.stepper_questions.specs.Objects.{inside_lines, method_lines}
use Rattle.stepper_questions.specs.ObjectView.{captured_in, told_method_line, told_method_lines}
use Rattle.stepper_questions.specs.declared.object.ToldMethod.{ToldMethod}

-- the items behind a pointer, read as a slice
pub read_items : {A : Type 0} (xs : List A) (v w : Vec A Global) → xs ≡ v.items → v ≡ w → xs ≡ w.items
read_items {A = A} xs v w e f = e ∙ ap (λ (u : Vec A Global). u.items) f

pub none_left : {A : Type 0} (xs : List A) → length xs ≡ 0 → xs ≡ []
none_left [] h = refl
none_left (x ∷ xs) h = absurd (omega (arith, h))

-- the lines of names, the oldest first
abbrev pub nouns_lines : List Noun → List ℕ
nouns_lines [] = []
nouns_lines (n ∷ ns) = captured_line (n.name, bind_of n.binding) ++ nouns_lines ns

captured_after : (known : Nouns) (ns : List Noun) → captured_lines (nouns_after known ns) ≡ captured_lines known ++ nouns_lines ns
captured_after known [] = sym (append-nil (captured_lines known))
captured_after known (n ∷ ns) =
    captured_after ((n.name, bind_of n.binding) ∷ known) ns
    ∙ append_assoc (captured_lines known) (captured_line (n.name, bind_of n.binding)) (nouns_lines ns)

-- THE LEMMA: they are those of the names, the newest first
pub all_captured : (ns : List Noun) → nouns_lines ns ≡ captured_lines (nouns_of ns)
all_captured ns = sym (captured_after [] ns)

-- ---- programs, empty ones and others

none_spelled : (xs : List Code) → (length xs == 0) ≡ true → None ≡ spelled_if_any (trees_of_codes xs)
none_spelled [] empty = refl
none_spelled (x ∷ xs) empty = absurd (grind (arith, empty))

some_spelled : (xs : List Code) → (length xs == 0) ≡ false → Some (spelling (trees_of_codes xs)) ≡ spelled_if_any (trees_of_codes xs)
some_spelled [] some = absurd (cc)
some_spelled (x ∷ xs) some = refl

-- of code that is read as a slice
pub spelled_none : (xs read : List Code) → read ≡ xs → (length read == 0) ≡ true → None ≡ spelled_if_any (trees_of_codes xs)
spelled_none xs read same empty = none_spelled read empty ∙ ap (λ (ys : List Code). spelled_if_any (trees_of_codes ys)) same

pub spelled_some : (xs read : List Code) (text : List ℕ) → read ≡ xs → (length read == 0) ≡ false → text ≡ spelling (trees_of_codes xs) → Some text ≡ spelled_if_any (trees_of_codes xs)
spelled_some xs read text same some is =
    ap Some (is ∙ ap (λ (ys : List Code). spelling (trees_of_codes ys)) (sym same)) ∙ some_spelled read some ∙ ap (λ (ys : List Code). spelled_if_any (trees_of_codes ys)) same

line_of_trees : (word : List ℕ) (ts : Trees) → word_line word (spelled_if_any ts) ≡ program_line word ts
line_of_trees word none = refl
line_of_trees word (and_then t ts) = refl

block_of_trees : (ts : Trees) → braced (spelled_if_any ts) ≡ in_braces (spelled_items ts)
block_of_trees none = refl
block_of_trees (and_then t ts) = refl

-- the line of a program, and a block, from its spelling
pub program_spelled : (word : List ℕ) (text : Option (List ℕ)) (ts : Trees) → text ≡ spelled_if_any ts → word_line word text ≡ program_line word ts
program_spelled word text ts is = ap (word_line word) is ∙ line_of_trees word ts

pub block_spelled : (text : Option (List ℕ)) (ts : Trees) → text ≡ spelled_if_any ts → braced text ≡ in_braces (spelled_items ts)
block_spelled text ts is = ap braced is ∙ block_of_trees ts

-- ---- methods

told_lines-append : (ms : List ToldMethod) (m : ToldMethod) → told_method_lines (ms ++ m ∷ []) ≡ told_method_lines ms ++ told_method_line m
told_lines-append [] m = append-nil (told_method_line m)
told_lines-append (n ∷ ms) m = ap (λ t. told_method_line n ++ t) (told_lines-append ms m) ∙ sym (append_assoc (told_method_line n) (told_method_lines ms) (told_method_line m))

-- the line of a method, and others behind it
one_method : (m : ToldMethod) (rest : List MethodCode) → option_map string_bytes m.body ≡ spelled_if_any (trees_of_codes m.method.now.body.value.items)
    → told_method_line m ++ method_lines (methods_of_codes rest) ≡ method_lines (methods_of_codes (m.method.now ∷ rest))
one_method m rest is =
    let call = message m.method.now.verb (map bound_name m.method.now.parameters.value.items) in
    let others = method_lines (methods_of_codes rest) in
    ap (λ t. codes " method " ++ t) (append_assoc (call ++ codes " " ++ braced (option_map string_bytes m.body)) (10 ∷ []) others)
    ∙ ap (λ b. codes " method " ++ ((call ++ codes " " ++ b) ++ (10 ∷ others))) (block_spelled (option_map string_bytes m.body) (trees_of_codes m.method.now.body.value.items) is)

-- one method more
pub methods_more : (ms now : List ToldMethod) (m : ToldMethod) (rest : List MethodCode) → now ≡ ms ++ m ∷ [] → option_map string_bytes m.body ≡ spelled_if_any (trees_of_codes m.method.now.body.value.items)
    → told_method_lines now ++ method_lines (methods_of_codes rest) ≡ told_method_lines ms ++ method_lines (methods_of_codes (m.method.now ∷ rest))
methods_more ms now m rest pushed is =
    ap (λ ns. told_method_lines ns ++ method_lines (methods_of_codes rest)) pushed
    ∙ ap (λ t. t ++ method_lines (methods_of_codes rest)) (told_lines-append ms m)
    ∙ append_assoc (told_method_lines ms) (told_method_line m) (method_lines (methods_of_codes rest))
    ∙ ap (λ t. told_method_lines ms ++ t) (one_method m rest is)

-- ---- what is inside an object

-- what an object captured, and its methods behind it
pub inside_plain : (o : Made) (p : Plain) → o ≡ made_of.Plain p → (ms : List MethodCode) → ms ≡ p.methods.value.items → (told : List ℕ) → told ≡ method_lines (methods_of_codes ms)
    → captured_in (object_of o) ++ told ≡ inside_lines (object_of o)
inside_plain o p is ms same told lines =
    ap (λ x. captured_in (object_of x) ++ told) is
    ∙ ap (λ t. captured_lines (nouns_of p.captured.value.items) ++ t) (lines ∙ ap (λ ns. method_lines (methods_of_codes ns)) same)
    ∙ sym (ap (λ x. inside_lines (object_of x)) is)

-- a resolver has neither
pub inside_resolver : (o : Made) (p : PromId) → o ≡ made_of.Resolver p → (ms : List ToldMethod) → ms ≡ [] → captured_in (object_of o) ++ told_method_lines ms ≡ inside_lines (object_of o)
inside_resolver o p is ms empty = ap (λ x. captured_in (object_of x) ++ told_method_lines ms) is ∙ ap told_method_lines empty ∙ sym (ap (λ x. inside_lines (object_of x)) is)

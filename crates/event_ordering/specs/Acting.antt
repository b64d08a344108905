-- The acts of an evaluation, by which the order of messages is said: what is sent, what leaves in arguments and in what is published, and
-- what is joined. The newest stands first.
use Rattle.std.specs.Prelude.{Bool, true, false, ◌||◌, ℕ, List, [], ◌∷◌, ◌++◌, Option, Some, None}
use Rattle.ids.specs.declared.names.MsgId.{MsgId}
use Rattle.ids.specs.declared.names.PromId.{PromId}
use Rattle.ids.specs.declared.reference.Reference.{Reference}
use Rattle.ids.specs.declared.reference.Reference.TheVariants as reference
use Rattle.eorder.specs.Places.{Carrier, argument, published}
use Rattle.eorder.specs.Acts.{Act, sent, left, joined}
use Rattle.kernele.specs.Tree.{Tree, Trees}
use Rattle.kernele.specs.declared.tree.Pattern.{Pattern}
use Rattle.values.specs.Data.{Val, Vals}
use Rattle.sends.specs.Vats.{reference_in, references, references_in, each_once}
use Rattle.sends.specs.Making.{Making, refused, makes, Sent, Published}
use Rattle.eval_rules.specs.Outbox.{is_published, Outbox}
use Rattle.eval_rules.specs.At.{At}
use Rattle.eval_rules.specs.Doings.{given_by, next_message, send_of}
use Rattle.eval_rules.specs.Outcomes.{End, Gather, values, halted}
use Rattle.eval_rules.specs.Rules.{called, Ends, at_budget, at_depth, at_node, Runs, run_null, run_bool, run_int, run_text, run_noun, run_define, run_variable, run_assign, run_call_receiver, run_call_gives, run_call_enters, run_call_uses, run_send_receiver, run_send, run_list, run_same_left, run_same, run_define_list, run_hide, run_primitive, run_if_goes, run_if_ends, run_while_again, run_while_halts, run_while_done, run_while_ends, run_for, run_for_ends, run_try, run_try_caught, run_object, run_escape, run_when, run_when_catch, run_new_promise, Needs, needs, Args, args_none, args_next, args_halt, Items, items_none, items_next, items_halt, Block, in_block, Taking, in_taking, Each, each_none, each_next, each_halt}

-- references leave in a carrier, from the left
abbrev pub left_in : Carrier → List Reference → List Act
left_in c [] = []
left_in c (r ∷ rs) = left_in c rs ++ left r c ∷ []

-- each once
abbrev pub leaving_in : Carrier → List Reference → List Act
leaving_in c rs = left_in c (each_once [] rs)

-- a message is sent on a target, if that is a reference
abbrev pub sent_on : MsgId → Option Reference → List Act
sent_on m None = []
sent_on m (Some t) = sent m t ∷ []

-- a message is sent, and then the references in its arguments leave in it
abbrev pub message_acts : MsgId → Making Sent → List Act
message_acts m (refused why) = []
message_acts m (makes s) = leaving_in (argument m) (references_in s.arguments) ++ sent_on m (reference_in s.target)

abbrev pub send_acts : Val → Gather → At → List Act
send_acts v (values vs) a = message_acts (next_message a) (given_by (send_of v vs a) a)
send_acts v (halted h) a = []

-- a promise is entered as what its value settles to, if that is a reference
abbrev pub joined_to : PromId → Option Reference → List Act
joined_to p None = []
joined_to p (Some t) = joined (reference.Promise p) t ∷ []

-- references leave in what is published first
abbrev pub left_unless : Bool → PromId → Val → List Act
left_unless true p v = []
left_unless false p v = leaving_in (published p) (references v)

-- some promises were published before the turn: what is published for them again does not count
module _ (before : PromId → Bool) where
  -- what is published leaves, unless the promise was published before, and then its promise is entered
  abbrev pub published_acts : PromId → Published → Outbox → List Act
  published_acts p b out = joined_to p b.joined ++ left_unless (before p || is_published p out.publications) p b.value

  abbrev pub resolver_acts : PromId → Making Published → Outbox → List Act
  resolver_acts p (refused why) out = []
  resolver_acts p (makes b) out = published_acts p b out

  abbrev mutual
    -- of a tree
    pub acts : {k : ℕ} {t : Tree} {a b : At} {o : End} → Ends k t a o b → List Act
    acts (at_budget h) = []
    acts (at_depth h g) = []
    acts (at_node h g r) = acts_below r

    -- behind a node that runs
    pub acts_below : {k : ℕ} {t : Tree} {a b : At} {o : End} → Runs k t a o b → List Act
    acts_below run_null = []
    acts_below run_bool = []
    acts_below run_int = []
    acts_below run_text = []
    acts_below run_noun = []
    acts_below (run_define r) = acts r
    acts_below (run_variable r) = acts r
    acts_below (run_assign r) = acts r
    acts_below (run_call_receiver r) = acts r
    acts_below (run_call_gives r u e) = acts_of_args u ++ acts r
    acts_below (run_call_enters r u e q) = acts_of_items q ++ (acts_of_args u ++ acts r)
    acts_below (run_call_uses {verb = verb} {c = c} {v = v} {g = g} {p = p} {d = d} r u e) = resolver_acts p (given_by d (called v verb g c)) (called v verb g c).out ++ (acts_of_args u ++ acts r)
    acts_below (run_send_receiver r) = acts r
    acts_below (run_send {c = c} {v = v} {g = g} r u) = send_acts v g c ++ (acts_of_args u ++ acts r)
    acts_below (run_list u) = acts_of_args u
    acts_below (run_same_left r) = acts r
    acts_below (run_same r u) = acts u ++ acts r
    acts_below (run_define_list r) = acts r
    acts_below (run_hide q) = acts_of_block q
    acts_below (run_primitive r) = acts_of_datum r
    acts_below (run_if_goes r e q) = acts_of_block q ++ acts_of_datum r
    acts_below (run_if_ends r e) = acts_of_datum r
    acts_below (run_while_again r e q w) = acts_below w ++ (acts_of_block q ++ acts_of_datum r)
    acts_below (run_while_halts r e q) = acts_of_block q ++ acts_of_datum r
    acts_below (run_while_done r e) = acts_of_datum r
    acts_below (run_while_ends r e) = acts_of_datum r
    acts_below (run_for r e q) = acts_of_each q ++ acts_of_datum r
    acts_below (run_for_ends r e) = acts_of_datum r
    acts_below (run_try q e) = acts_of_block q
    acts_below (run_try_caught q e w) = acts_of_taking w ++ acts_of_block q
    acts_below run_object = []
    acts_below (run_escape q) = acts_of_taking q
    acts_below (run_when r) = acts r
    acts_below (run_when_catch r) = acts r
    acts_below run_new_promise = []

    pub acts_of_datum : {k : ℕ} {t : Tree} {a b : At} {o : End} → Needs k t a o b → List Act
    acts_of_datum (needs r) = acts r

    pub acts_of_args : {k : ℕ} {ts : Trees} {a b : At} {g : Gather} → Args k ts a g b → List Act
    acts_of_args args_none = []
    acts_of_args (args_next r u) = acts_of_args u ++ acts r
    acts_of_args (args_halt r) = acts r

    pub acts_of_items : {k : ℕ} {v : Val} {ts : Trees} {a b : At} {o : End} → Items k v ts a o b → List Act
    acts_of_items items_none = []
    acts_of_items (items_next r u) = acts_of_items u ++ acts r
    acts_of_items (items_halt r) = acts r

    pub acts_of_block : {k : ℕ} {ts : Trees} {a b : At} {o : End} → Block k ts a o b → List Act
    acts_of_block (in_block r) = acts_of_items r

    pub acts_of_taking : {k : ℕ} {p : Pattern} {v : Val} {ts : Trees} {a b : At} {o : End} → Taking k p v ts a o b → List Act
    acts_of_taking (in_taking r) = acts_of_items r

    pub acts_of_each : {k : ℕ} {p : Pattern} {ts : Trees} {vs : Vals} {a b : At} {o : End} → Each k p ts vs a o b → List Act
    acts_of_each each_none = []
    acts_of_each (each_next r u) = acts_of_each u ++ acts_of_taking r
    acts_of_each (each_halt r) = acts_of_taking r

-- What is told of a message, from what the program has of it.
use Rattle.std.specs.Prelude.{ℕ, List, [], ◌∷◌, ◌++◌, Option, Some, None, codes, string_bytes}
use Rattle.std.specs.Option.{option_map}
use Rattle.kernele.specs.Spelling.{bound_name, spelling}
use Rattle.kernele.specs.Tree.{Trees, none, and_then}
use Rattle.values.specs.Shown.{shown}
use Rattle.values.specs.View.{val_of}
use Rattle.heap.specs.View.{nouns_of}
use Rattle.post.specs.Delivery.{sent}
use Rattle.post.specs.DeliveryView.{call_of}
use Rattle.post.specs.MessageView.{message_of}
use Rattle.world_cells.specs.World.{message}
use Rattle.stepper_printing.specs.Show.{message_line, names_text}
use Rattle.stepper_questions.specs.Deliveries.{captured_lines, delivery_lines}
use Rattle.stepper_questions.specs.declared.message.Caught.{Caught}
use Rattle.stepper_questions.specs.declared.message.ToldWhen.{ToldWhen}
use Rattle.stepper_questions.specs.declared.message.Delivered.{Delivered}
use Rattle.stepper_questions.specs.declared.message.Delivered.TheVariants as delivered
use Rattle.stepper_questions.specs.declared.message.ToldMessage.{ToldMessage}

-- the spelling of a program that is not empty
abbrev pub spelled_if_any : Trees → Option (List ℕ)
spelled_if_any none = None
spelled_if_any (and_then t ts) = Some (spelling (and_then t ts))

-- a line of a word, and of a program if there is one
abbrev pub word_line : List ℕ → Option (List ℕ) → List ℕ
word_line word None = word ++ (10 ∷ [])
word_line word (Some program) = word ++ (codes " " ++ (program ++ (10 ∷ [])))

-- a block in its braces
abbrev pub braced : Option (List ℕ) → List ℕ
braced None = codes "{ }"
braced (Some program) = codes "{ " ++ program ++ codes " }"

abbrev pub caught_text : Option Caught → List ℕ
caught_text None = []
caught_text (Some c) = codes " catch " ++ (bound_name c.pattern.now ++ (codes " " ++ braced (option_map string_bytes c.block)))

abbrev pub waiting_text : ToldWhen → List ℕ
waiting_text w =
    codes " when " ++ (shown (val_of w.when.now.value) ++ (codes " -> " ++ (braced (option_map string_bytes w.block) ++ (caught_text w.caught ++ (10 ∷ captured_lines (nouns_of w.when.now.captured.value.items))))))

abbrev pub delivered_text : Delivered → List ℕ
delivered_text (delivered.Opening script) = word_line (codes " opening") (option_map string_bytes script)
delivered_text (delivered.Asked question) = word_line (codes " asked") (option_map string_bytes question)
delivered_text (delivered.Sent call) = delivery_lines (sent (call_of call.now))
delivered_text (delivered.Waiting w) = waiting_text w

abbrev pub told_message_text : ToldMessage → List ℕ
told_message_text t = message_line t.vats.entries (t.name, message (message_of t.message.now)) ++ (codes " after" ++ (names_text (message_of t.message.now).after ++ (10 ∷ delivered_text t.delivered)))

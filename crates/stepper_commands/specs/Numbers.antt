-- Numbers, and names of messages, promises, objects and events, in a command.
use Rattle.std.specs.Prelude.{ℕ, ◌+◌, ◌-◌, ◌*◌, ◌^◌, List, [], ◌∷◌, Bool, not, length, ◌&&◌, ◌==◌, nat_lt, cond, Option, Some, None}
use Rattle.std.specs.Option.{option_map, option_and_then}
use Rattle.std.specs.Char.{is_ascii_digit}
use Rattle.std.specs.List.{list_all, before_first, after_first}
use Rattle.ids.specs.declared.names.EventName.{EventName}
use Rattle.ids.specs.declared.names.MsgId.{MsgId}
use Rattle.stepper_commands.specs.Words.{words_in}
use Rattle.stepper_commands.specs.declared.numbers.ObjectName.{ObjectName}
use Rattle.stepper_commands.specs.declared.numbers.PromiseName.{PromiseName}

-- decimal digits, one at least
abbrev pub is_numeral : List ℕ → Bool
is_numeral word = not (length word == 0) && list_all is_ascii_digit word

-- the number that digits spell, behind those that spell n
abbrev pub numeral_from : ℕ → List ℕ → ℕ
numeral_from n [] = n
numeral_from n (b ∷ bs) = numeral_from (10 * n + (b - 48)) bs

abbrev pub within : ℕ → Option ℕ
within n = cond (nat_lt n (2 ^ 32)) (Some n) None

-- a number of at most 4,294,967,295, leading zeros allowed
abbrev pub number_of : List ℕ → Option ℕ
number_of word = cond (is_numeral word) (within (numeral_from 0 word)) None

-- what stands behind a tag in front
abbrev pub behind_tag : ℕ → List ℕ → Option (List ℕ)
behind_tag tag [] = None
behind_tag tag (b ∷ bs) = cond (b == tag) (Some bs) None

-- the number in a name such as e7 or m0
abbrev pub tagged : ℕ → List ℕ → Option ℕ
tagged tag word = option_and_then number_of (behind_tag tag word)

abbrev pub is_dot : ℕ → Bool
is_dot b = b == 46

abbrev pub message_from : Option ℕ → Option ℕ → Option MsgId
message_from None i = None
message_from (Some e) None = None
message_from (Some e) (Some i) = Some (record { event = record { 0 = e }; index = i })

-- a message's name, such as e7.m0
abbrev pub message_named : List ℕ → Option MsgId
message_named word = message_from (tagged 101 (before_first is_dot word)) (tagged 109 (after_first is_dot word))

abbrev pub promise_from : Option ℕ → Option ℕ → Option PromiseName
promise_from None i = None
promise_from (Some e) None = None
promise_from (Some e) (Some i) = Some (record { event = record { 0 = e }; index = i })

-- a promise's name, such as e8.p1
abbrev pub promise_named : List ℕ → Option PromiseName
promise_named word = promise_from (tagged 101 (before_first is_dot word)) (tagged 112 (after_first is_dot word))

abbrev pub object_from : Option ℕ → Option ℕ → Option ObjectName
object_from None i = None
object_from (Some e) None = None
object_from (Some e) (Some i) = Some (record { event = record { 0 = e }; index = i })

-- an object's name, such as e2.o0
abbrev pub object_named : List ℕ → Option ObjectName
object_named word = object_from (tagged 101 (before_first is_dot word)) (tagged 111 (after_first is_dot word))

-- an event's name, such as e7
abbrev pub event_named : List ℕ → Option EventName
event_named word = option_map (λ n. record { 0 = n }) (tagged 101 word)

-- the events that words name, each of them one
abbrev pub events_named : List (List ℕ) → Option (List EventName)
events_named [] = Some []
events_named (word ∷ words) = option_and_then (λ e. option_map (λ es. e ∷ es) (events_named words)) (event_named word)

abbrev pub one_or_more : List (List ℕ) → Option (List EventName)
one_or_more [] = None
one_or_more (word ∷ words) = events_named (word ∷ words)

abbrev pub listed : Option (List EventName) → List EventName
listed None = []
listed (Some es) = es

-- the events that the words of a text name, where they are one or more and all are names
abbrev pub events_in : List ℕ → List EventName
events_in text = listed (one_or_more (words_in text))

-- What the program's results stand for.
use Rattle.std.specs.Prelude.{◌+◌}
use Rattle.heap.specs.Drafts.{Counts}
use Rattle.sends.specs.Making.{Refusal, problem, turn_too_large, Making, refused, makes, Published, Sent}
use Rattle.values.specs.View.{val_of, vals_of}
use Rattle.sends.specs.declared.publishing.Resolution.{Resolution as Out}
use Rattle.sends.specs.declared.sending.Sending.{Sending}
use Rattle.sends.specs.declared.refusing.Refusal.{Refusal as Why}
use Rattle.sends.specs.declared.refusing.Refusal.TheVariants as why
use Rattle.sends.specs.declared.refusing.Making.{Making as Made}
use Rattle.sends.specs.declared.refusing.Making.TheVariants as made

-- what was published
abbrev pub published_of : Out → Published
published_of b = record { value = val_of b.value; fences = b.fences; joined = b.joined }

-- what was sent
abbrev pub sent_of : Sending → Sent
sent_of s = record { target = val_of s.target; arguments = vals_of s.arguments.items; fences = s.fences; after = s.after; result = s.result }

-- why nothing was made
abbrev pub refusal_of : Why → Refusal
refusal_of (why.Problem words) = problem words
refusal_of why.TurnTooLarge = turn_too_large

-- what was made, where it stands for this
abbrev pub making_of : {A R : Type 0} → (A → R) → Made A → Making R
making_of f (made.Refused w) = refused (refusal_of w)
making_of f (made.Makes a) = makes (f a)

-- what a turn has made where it made a resolver, too
abbrev pub and_resolver : {A : Type 0} → Made A → Counts → Counts
and_resolver (made.Refused w) n = n
and_resolver (made.Makes a) n = record n { objects = n.objects + 1 }

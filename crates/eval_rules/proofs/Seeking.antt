-- What only reads changes nothing but the cells touched.
use Rattle.std.proofs.Common.{◌≡◌, List, [], ◌∷◌, Option, Some, None, refl, ap, ◌∙◌}
use Rattle.ids.specs.declared.names.SlotId.{SlotId}
use Rattle.kernele.specs.Tree.{Name}
use Rattle.heap.specs.State.{Bind, lookup, frame_of}
use Rattle.eval_rules.specs.At.{At}
use Rattle.eval_rules.specs.Rules.{sought, sought_slot, sought_in, seeking, slot_read, noun_read, Capture, captured, missing, and_captured, all_sought}

-- a place is another one, with other cells touched
abbrev pub Reads : At → At → Type 0
Reads a b = b ≡ record a { touched = b.touched }

pub reads_both : (a b c : At) → Reads a b → Reads b c → Reads a c
reads_both a b c g h = h ∙ ap (λ (z : At). record z { touched = c.touched }) g

sought_reads : (x : Name) (m : Option Bind) (a : At) → Reads a (sought_in x m a)
sought_reads x (Some b) a = refl
sought_reads x None a = refl

pub seeking_reads : (x : Name) (a : At) → Reads a (seeking x a)
seeking_reads x a = sought_reads x (lookup a.nouns x) a

-- a name stands for the same once it was sought, in the same frame
pub sought_again : (x : Name) (a b : At) → b ≡ seeking x a → sought x b ≡ sought x a
sought_again x a b e = ap (sought x) (e ∙ seeking_reads x a)

pub frame_again : (x : Name) (a b : At) → b ≡ seeking x a → frame_of b.nouns ≡ frame_of a.nouns
frame_again x a b e = ap (λ z. frame_of z.nouns) (e ∙ seeking_reads x a)

slot_reads : (i : Option SlotId) (a : At) → Reads a (slot_read i a)
slot_reads (Some i) a = refl
slot_reads None a = refl

pub noun_reads : (x : Name) (a : At) → Reads a (noun_read x a)
noun_reads x a = reads_both a (seeking x a) (noun_read x a) (seeking_reads x a) (slot_reads (sought_slot x a) (seeking x a))

pub captures_read : (c : Capture) (xs : List Name) (a : At) → Reads a (all_sought c xs a)
captures_read c [] a = refl
captures_read (captured ns) (x ∷ xs) a =
    let c : Capture = and_captured (captured ns) x (sought x a) in
    reads_both a (seeking x a) (all_sought c xs (seeking x a)) (seeking_reads x a) (captures_read c xs (seeking x a))
captures_read (missing y) (x ∷ xs) a = refl

-- What a noun gives, once its name was sought.
use Rattle.std.proofs.Common.{◌≡◌, Some, None, sym, ap, ◌∙◌}
use Rattle.ids.specs.declared.names.SlotId.{SlotId}
use Rattle.kernele.specs.Tree.{Name}
use Rattle.values.specs.Data.{Val}
use Rattle.heap.specs.State.{fixed, slot, slot_cell, read}
use Rattle.eval_rules.specs.At.{At}
use Rattle.eval_rules.specs.Outcomes.{End, value}
use Rattle.eval_rules.specs.Rules.{reached, sought, seeking, slot_in, slot_read, noun_read, noun_end, held_end, undefined_noun}
use Rattle.eval_rules.proofs.Seeking.{seeking_reads, sought_again}

-- an end and a place are those of a noun
abbrev pub OfNoun : Name → At → End → At → Type 0
OfNoun x a o b = (o ≡ noun_end a.state x (sought x a)) × (b ≡ noun_read x a)

-- of one that has a value
pub of_fixed : (x : Name) (a b : At) (v w : Val) → b ≡ seeking x a → Some (fixed v) ≡ sought x b → w ≡ v → OfNoun x a (value w) b
of_fixed x a b v w e h p =
    let m : sought x a ≡ Some (fixed v) = sym (h ∙ sought_again x a b e) in
    (ap value p ∙ sym (ap (noun_end a.state x) m), e ∙ sym (ap (λ m. slot_read (slot_in m) (seeking x a)) m))

-- of one that stands for a slot
pub of_slot : (x : Name) (a b c : At) (i : SlotId) (o : End) → b ≡ seeking x a → Some (slot i) ≡ sought x b → o ≡ held_end x (read b.state (slot_cell i)) → c ≡ reached (slot_cell i) b → OfNoun x a o c
of_slot x a b c i o e h p g =
    let m : sought x a ≡ Some (slot i) = sym (h ∙ sought_again x a b e) in (
      p ∙ ap (λ (z : At). held_end x (read z.state (slot_cell i))) (e ∙ seeking_reads x a) ∙ sym (ap (noun_end a.state x) m),
      g ∙ ap (reached (slot_cell i)) e ∙ sym (ap (λ m. slot_read (slot_in m) (seeking x a)) m),
    )

-- of one that stands for nothing
pub of_none : (x : Name) (a b : At) (o : End) → b ≡ seeking x a → None ≡ sought x b → o ≡ undefined_noun x → OfNoun x a o b
of_none x a b o e h p =
    let m : sought x a ≡ None = sym (h ∙ sought_again x a b e) in
    (p ∙ sym (ap (noun_end a.state x) m), e ∙ sym (ap (λ m. slot_read (slot_in m) (seeking x a)) m))

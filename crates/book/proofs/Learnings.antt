-- What a vat that is named learns of a promise, and why it does not.
use Rattle.std.proofs.Common.{◌≡◌, ℕ, Option, Some, None, refl, ap, ◌∙◌}
use Rattle.ids.specs.declared.names.EventName.{EventName}
use Rattle.ids.specs.declared.names.PromId.{PromId}
use Rattle.kernele.specs.Tree.{Name}
use Rattle.post.specs.Messages.{Vat}
use Rattle.world_cells.specs.Events.{learn}
use Rattle.world_cells.specs.World.{vat_named}
use Rattle.event.specs.Events.{Foot}
use Rattle.book_agenda.specs.Agendas.{KnownAs, can_learn}
use Rattle.book_refusals.specs.Fault.{Tells}
use Rattle.book_refusals.specs.Refusals.{Refusal, no_vat, nothing_to_learn}
use Rattle.book_refusals.specs.declared.fault.BookFault.{BookFault}
use Rattle.book_refusals.specs.declared.fault.BookFault.TheVariants as fault
use Rattle.book.specs.Books.{Book}
use Rattle.book.specs.Calls.{EntersNext}
use Rattle.book.specs.Learning.{LearnsNamed, nothing_named, not_entered, TellsNamed}
use Rattle.book.specs.Refusals.{learn_refusal, learn_refusal_by, learning_refusal}
use Rattle.book.proofs.Admitting.{cannot_learn}

module _ (b : Book) (x : Name) where
  pub nameless : (p : PromId) → vat_named b.world x ≡ None → learn_refusal b x p ≡ Some (no_vat x)
  nameless p none = ap (λ (o : Option Vat). learn_refusal_by o b x p) none

  pub named_learning : (v : Vat) (p : PromId) → vat_named b.world x ≡ Some v → learn_refusal b x p ≡ learning_refusal b v.number p
  named_learning v p named = ap (λ (o : Option Vat). learn_refusal_by o b x p) named

  module _ (event : EventName) (index : ℕ) where
    -- no such vat, or no memory
    pub tells_nameless : vat_named b.world x ≡ None → TellsNamed (fault.NoVat x) b x event index
    tells_nameless none = record { refusal = Some (no_vat x); tells = refl; refuses = λ r is. nothing_named (λ p n. nameless p none ∙ is) }

    pub tells_memory : TellsNamed fault.Memory b x event index
    tells_memory = record { refusal = None; tells = tt; refuses = λ r is. absurd (none_some r is) }
      where
        none_some : (r : Refusal) → None ≡ Some r → ⊥
        none_some r e = cc

    module _ (v : Vat) (named : vat_named b.world x ≡ Some v) where
      -- none of the promises can be learnt of
      pub tells_unknown : KnownAs (can_learn b.world) v.number event index None → TellsNamed fault.NothingToLearn b x event index
      tells_unknown none = record {
        refusal = Some nothing_to_learn;
        tells = refl;
        refuses = λ r is. nothing_named (λ p n. named_learning v p named ∙ cannot_learn b v.number p (none p n.0 n.1) ∙ is);
      }

      -- one can be, and is entered or not
      module _ (p : PromId) (known : KnownAs (can_learn b.world) v.number event index (Some p)) where
        pub tells_known : (f : BookFault) → Tells f (learning_refusal b v.number p) → TellsNamed f b x event index
        tells_known f h = record { refusal = learning_refusal b v.number p; tells = h; refuses = λ r is. not_entered v p named (known.0, known.1) known.2 is }

        pub learns_known : (e : EventName) (now : Book) → learning_refusal b v.number p ≡ None → (f : Foot) → EntersNext (record { name = e; act = learn v.number p }) f 0 b now → LearnsNamed x event index e b now
        learns_known e now ok f enters = record {
          vat = v;
          named = named;
          promise = p;
          numbered = (known.0, known.1);
          accepted = ok;
          is_first = λ q n can. known.3 q n.0 n.1 can;
          foot = f;
          enters = enters;
        }

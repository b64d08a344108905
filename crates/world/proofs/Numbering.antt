-- The messages that an event makes, from a place on.
use Rattle.std.proofs.Common.{◌≡◌, ℕ, ◌+◌, ◌<◌, ◌≤◌, List, [], ◌∷◌, length, get_or, drop, None, sym, subst, arith}
use Rattle.std.proofs.lemmas.List.{drop_all, drop_more}
use Rattle.ids.specs.declared.names.EventName.{EventName}
use Rattle.ids.specs.declared.names.MsgId.{MsgId}
use Rattle.ids.specs.declared.cells.CellKey.TheVariants as key
use Rattle.post.specs.Messages.{Message}
use Rattle.world_cells.specs.World.{World}
use Rattle.event.specs.Events.{AreNew, letters_from}

-- all of them are new just where those are that are left from a place on
pub record Left (w : World) (e : EventName) (ls : List (MsgId × Message)) (i : ℕ) : Type 0 where
  pub on : AreNew w (letters_from e i (drop i ls)) → AreNew w (letters_from e 0 ls)
  pub back : AreNew w (letters_from e 0 ls) → AreNew w (letters_from e i (drop i ls))

pub left_start : (w : World) (e : EventName) (ls : List (MsgId × Message)) → Left w e ls 0
left_start w e ls = record { on = λ h. h; back = λ h. h }

-- the one at a place, and those behind it
dropped : {X : Type 0} (xs : List X) (i : ℕ) → i < length xs → (x : X) × (drop i xs ≡ x ∷ drop (i + 1) xs)
dropped [] i h = absurd (omega arith)
dropped (x ∷ xs) i h = (get_or (x ∷ xs) i x, drop_more (x ∷ xs) i x h)

module _ (w : World) (e : EventName) (ls : List (MsgId × Message)) (i : ℕ) (h : i < length ls) (l : Left w e ls i) where
  -- one that is new
  pub left_more : w (key.Msg (record { event = e; index = i })) ≡ None → Left w e ls (i + 1)
  left_more new =
      let p = dropped ls i h in
      record {
        on = λ a. l.on (subst (λ (xs : List (MsgId × Message)). AreNew w (letters_from e i xs)) (sym p.1) (new, a));
        back = λ a. (subst (λ (xs : List (MsgId × Message)). AreNew w (letters_from e i xs)) p.1 (l.back a)).1;
      }

  -- one that is not new
  pub left_never : (w (key.Msg (record { event = e; index = i })) ≡ None → ⊥) → AreNew w (letters_from e 0 ls) → ⊥
  left_never old a =
      let p = dropped ls i h in
      old (subst (λ (xs : List (MsgId × Message)). AreNew w (letters_from e i xs)) p.1 (l.back a)).0

-- behind the last one
pub left_end : (w : World) (e : EventName) (ls : List (MsgId × Message)) (i : ℕ) → length ls ≤ i → Left w e ls i → AreNew w (letters_from e 0 ls)
left_end w e ls i h l = l.on (subst (λ (xs : List (MsgId × Message)). AreNew w (letters_from e i xs)) (sym (drop_all i ls h)) tt)

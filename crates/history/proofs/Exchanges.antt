-- A record that is exchanged with a state.
use Rattle.std.proofs.Common.{◌≡◌, ℕ, Bool, true, false, cond, List, [], ◌∷◌, Option, Some, None, unwrap_or, option_map, is_some, ◌∙◌, refl, sym, ap, ap₂}
use Rattle.std.proofs.lemmas.Bool.{false≢true}
use Rattle.history.specs.Subject.{Subject, Laws, Foot, found, new, after}
use Rattle.history.specs.Records.{Seen, State, Record, contents, hold, swap_state, swap_record, Apart, Fits, Writes, record_of, held}
use Rattle.history.proofs.Writing.{at_after, same_turned}

pub is_some-map : {A B : Type 0} (f : A → B) (o : Option A) → is_some (option_map f o) ≡ is_some o
is_some-map f None = refl
is_some-map f (Some x) = refl

some_chosen : {X : Type 0} (o : Option X) (b : Bool) (x d : X) → is_some o ≡ b → unwrap_or o x ≡ cond b (unwrap_or o d) x
some_chosen None b x d h = ap (λ c. cond c d x) h
some_chosen (Some y) b x d h = ap (λ c. cond c y x) h

some_kept : {X : Type 0} (o : Option X) (b : Bool) (x d : X) → is_some o ≡ b → unwrap_or (cond (is_some o) (Some x) None) d ≡ cond b x (unwrap_or o d)
some_kept None b x d h = rw (← h)
some_kept (Some y) b x d h = rw (← h)

some_same : {X : Type 0} (o : Option X) (x : X) → is_some (cond (is_some o) (Some x) None) ≡ is_some o
some_same None x = refl
some_same (Some y) x = refl

module _ (s : Subject) (l : Laws s) where
  -- the state after an exchange: what the record had, and elsewhere what it was
  pub seen_swap : (r : Record s) (w : State s) (k : s.Key) → Apart s r → swap_state s r w k ≡ unwrap_or (found s r k) (w k)
  seen_swap [] w k h = refl
  seen_swap (p ∷ ps) w k (h, hs) = seen_swap ps (hold s w p.0 p.1) k hs ∙ first (s.same p.0 k) refl
    where
      first : (b : Bool) → s.same p.0 k ≡ b → unwrap_or (found s ps k) (cond b p.1 (w k)) ≡ unwrap_or (cond b (Some p.1) (found s ps k)) (w k)
      first true e = ap (λ z. unwrap_or z p.1) (ap (found s ps) (sym (l.same_exact p.0 k e)) ∙ h)
      first false e = refl

  -- the record after it: what was in the state
  found_swap : (r : Record s) (w : State s) (k : s.Key) → Apart s r → found s (swap_record s r w) k ≡ cond (is_some (found s r k)) (Some (w k)) None
  found_swap [] w k h = refl
  found_swap (p ∷ ps) w k (h, hs) = first (s.same p.0 k) refl (found_swap ps (hold s w p.0 p.1) k hs)
    where
      first : (b : Bool) → s.same p.0 k ≡ b → found s (swap_record s ps (hold s w p.0 p.1)) k ≡ cond (is_some (found s ps k)) (Some (cond (s.same p.0 k) p.1 (w k))) None
          → cond b (Some (w p.0)) (found s (swap_record s ps (hold s w p.0 p.1)) k) ≡ cond (is_some (cond b (Some p.1) (found s ps k))) (Some (w k)) None
      first true e ih = ap (λ q. Some (w q)) (l.same_exact p.0 k e)
      first false e ih = rw e at ih

  apart_swap : (r : Record s) (w : State s) → Apart s r → Apart s (swap_record s r w)
  apart_swap [] w h = tt
  apart_swap (p ∷ ps) w (h, hs) = (found_swap ps (hold s w p.0 p.1) p.0 hs ∙ ap (λ z. cond (is_some z) (Some (hold s w p.0 p.1 p.0)) None) h, apart_swap ps (hold s w p.0 p.1) hs)

  -- the same of a record that fits, by what the footprint writes
  pub seen_exchange : (f : Foot s) (w : State s) (r : Record s) → Fits s f r → (k : s.Key) → swap_state s r w k ≡ cond (is_some (new s f k)) (held s r k) (w k)
  seen_exchange f w r h k = seen_swap r w k h.apart ∙ some_chosen (found s r k) _ (w k) _ (h.cells k)

  pub held_exchange : (f : Foot s) (w : State s) (r : Record s) → Fits s f r → (k : s.Key) → held s (swap_record s r w) k ≡ cond (is_some (new s f k)) (w k) (held s r k)
  held_exchange f w r h k = ap (λ z. unwrap_or z (None, None)) (found_swap r w k h.apart) ∙ some_kept (found s r k) _ (w k) _ (h.cells k)

  pub fits_exchange : (f : Foot s) (w : State s) (r : Record s) → Fits s f r → Fits s f (swap_record s r w)
  fits_exchange f w r h = record { cells = λ k. ap is_some (found_swap r w k h.apart) ∙ some_same (found s r k) (w k) ∙ h.cells k; apart = apart_swap r w h.apart }

  -- a record of what is written fits
  pub writes_fit : {n : ℕ} {f : Foot s} {p : Record s} → Writes s n f p → Fits s f p
  writes_fit {n = n} {f = f} h = record { cells = λ k. ap is_some (h.cells k) ∙ is_some-map {B = Seen s} (λ v. (Some v, Some n)) (new s f k); apart = h.apart }

  -- once it is exchanged, the contents are those after the event
  pub contents_after : (n : ℕ) (f : Foot s) (p : Record s) (w : State s) → Writes s n f p → contents s (swap_state s p w) ≡ after s f (contents s w)
  contents_after n f p w h = λ i k. (ap (λ (x : Seen s). x.0) (seen_swap p w k h.apart ∙ ap (λ o. unwrap_or o (w k)) (h.cells k)) ∙ content (new s f k) (w k) ∙ sym (at_after s f (contents s w) k)) i
    where
      content : (o : Option s.Content) (x : Seen s) → (unwrap_or (option_map {U = Seen s} (λ v. (Some v, Some n)) o) x).0 ≡ unwrap_or (option_map (λ v. Some v) o) x.0
      content None x = refl
      content (Some v) x = refl

  -- the writes of a footprint, as a record
  writes_found : (n : ℕ) (ps : List (s.Key × s.Content)) (k : s.Key) → found s (record_of s n ps) k ≡ option_map (λ v. (Some v, Some n)) (found s ps k)
  writes_found n [] k = refl
  writes_found n (p ∷ ps) k = first (s.same p.0 k) (writes_found n ps k)
    where
      first : (b : Bool) → found s (record_of s n ps) k ≡ option_map (λ v. (Some v, Some n)) (found s ps k)
          → ◌≡◌ {A = Option (Seen s)} (cond b (Some (Some p.1, Some n)) (found s (record_of s n ps) k)) (option_map (λ v. (Some v, Some n)) (cond b (Some p.1) (found s ps k)))
      first true ih = refl
      first false ih = ih

  pub writes_recorded : (n : ℕ) (f : Foot s) → Apart s (record_of s n f.writes) → Writes s n f (record_of s n f.writes)
  writes_recorded n f h = record { cells = writes_found n f.writes; apart = h }

-- twice
module _ (s : Subject) (l : Laws s) where
  hold_commutes : (w : State s) (a b : s.Key) (x y : Seen s) → s.same a b ≡ false → hold s (hold s w a x) b y ≡ hold s (hold s w b y) a x
  hold_commutes w a b x y apart = λ i k. turned k (s.same b k) (s.same a k) refl refl i
    where
      turned : (k : s.Key) (p q : Bool) → s.same b k ≡ p → s.same a k ≡ q → cond p y (cond q x (w k)) ≡ cond q x (cond p y (w k))
      turned k true true e f = absurd (false≢true (sym apart ∙ ap (s.same a) (l.same_exact b k e) ∙ f))
      turned k true false e f = refl
      turned k false q e f = refl

  not_turned : (a b : s.Key) → s.same a b ≡ false → s.same b a ≡ false
  not_turned a b h = by (s.same b a) refl
    where
      by : (c : Bool) → s.same b a ≡ c → c ≡ false
      by true e = absurd (false≢true (sym h ∙ same_turned s l b a e))
      by false e = refl

  -- what a list without a cell says of its first item and of the rest
  not_first : (b : Bool) (o : Option (Seen s)) (x : Seen s) → cond b (Some x) o ≡ None → b ≡ false
  not_first true o x h = cc
  not_first false o x h = refl

  not_rest : (b : Bool) (o : Option (Seen s)) (x : Seen s) → cond b (Some x) o ≡ None → o ≡ None
  not_rest true o x h = cc
  not_rest false o x h = h

  -- a cell that a record has not stays out of its exchange
  hold_beside : (ps : Record s) (w : State s) (k : s.Key) (x : Seen s) → found s ps k ≡ None → hold s (swap_state s ps w) k x ≡ swap_state s ps (hold s w k x)
  hold_beside [] w k x h = refl
  hold_beside (p ∷ ps) w k x h =
      hold_beside ps (hold s w p.0 p.1) k x (not_rest (s.same p.0 k) _ p.1 h) ∙ ap (swap_state s ps) (hold_commutes w p.0 k p.1 x (not_first (s.same p.0 k) _ p.1 h))

  record_beside : (ps : Record s) (w : State s) (k : s.Key) (x : Seen s) → found s ps k ≡ None → swap_record s ps (hold s w k x) ≡ swap_record s ps w
  record_beside [] w k x h = refl
  record_beside (p ∷ ps) w k x h =
      let apart = not_first (s.same p.0 k) _ p.1 h in
      let first : hold s w k x p.0 ≡ w p.0 = ap (λ b. cond b x (w p.0)) (not_turned p.0 k apart) in
      let rest : swap_record s ps (hold s (hold s w k x) p.0 p.1) ≡ swap_record s ps (hold s w p.0 p.1) = ap (swap_record s ps) (sym (hold_commutes w p.0 k p.1 x apart)) ∙ record_beside ps (hold s w p.0 p.1) k x (not_rest (s.same p.0 k) _ p.1 h) in
      λ i. (p.0, first i) ∷ rest i

  hold_again : (w : State s) (k : s.Key) (x : Seen s) → hold s (hold s w k x) k (w k) ≡ w
  hold_again w k x = λ i q. back q (s.same k q) refl i
    where
      back : (q : s.Key) (b : Bool) → s.same k q ≡ b → cond b (w k) (cond b x (w q)) ≡ w q
      back q true e = ap w (l.same_exact k q e)
      back q false e = refl

  -- after the first item is exchanged for the second time, the rest is as if it had never been
  twice_rest : (p : s.Key × Seen s) (ps : Record s) (w : State s) → found s ps p.0 ≡ None → hold s (swap_state s ps (hold s w p.0 p.1)) p.0 (w p.0) ≡ swap_state s ps w
  twice_rest p ps w h = hold_beside ps (hold s w p.0 p.1) p.0 (w p.0) h ∙ ap (swap_state s ps) (hold_again w p.0 p.1)

  pub twice_state : (p : Record s) (w : State s) → Apart s p → swap_state s (swap_record s p w) (swap_state s p w) ≡ w
  twice_state [] w h = refl
  twice_state (p ∷ ps) w (h, hs) = ap₂ (swap_state s) (record_beside ps w p.0 p.1 h) (twice_rest p ps w h) ∙ twice_state ps w hs

  pub twice_record : (p : Record s) (w : State s) → Apart s p → swap_record s (swap_record s p w) (swap_state s p w) ≡ p
  twice_record [] w h = refl
  twice_record (p ∷ ps) w (h, hs) =
      let first : swap_state s ps (hold s w p.0 p.1) p.0 ≡ p.1 = seen_swap s l ps (hold s w p.0 p.1) p.0 hs ∙ ap (λ o. unwrap_or o (hold s w p.0 p.1 p.0)) h ∙ ap (λ b. cond b p.1 (w p.0)) (l.same_self p.0) in
      let rest : swap_record s (swap_record s ps (hold s w p.0 p.1)) (hold s (swap_state s ps (hold s w p.0 p.1)) p.0 (w p.0)) ≡ ps =
      ap₂ (swap_record s) (record_beside ps w p.0 p.1 h) (twice_rest p ps w h) ∙ twice_record ps w hs in
      λ i. (p.0, first i) ∷ rest i

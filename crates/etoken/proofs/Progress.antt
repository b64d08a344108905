-- How far a text is cut.
use Rattle.std.proofs.Common.{◌≡◌, sym, refl, ap, ◌∙◌, subst, ℕ, ◌<◌, ◌≤◌, Bool, false, List, [], ◌∷◌, ◌++◌, length, append_assoc, append-nil, arith, Ok, Err, ◌⊎◌, inl, inr}
use Rattle.etoken.specs.declared.token.Placed.{Placed}
use Rattle.etoken.specs.declared.token.Token.{Token}
use Rattle.etoken.specs.declared.breaks.Bracket.{Bracket}
use Rattle.etoken.specs.declared.fault.TokenFault.{TokenFault}
use Rattle.etoken.specs.declared.fault.TokenFault.TheVariants as fault
use Rattle.etoken.specs.Spelling.{Spells, Spoils, Blames, offset_of}
use Rattle.etoken.specs.Cutting.{Blanks, Piece, piece_at, Cuts, cuts_none, cuts_more}
use Rattle.etoken.specs.Breaks.{with_break, with_breaks_in, with_breaks, behind, may_end}
use Rattle.etoken.specs.Tokens.{Tokens, Answers, tokens_all, tokens_fault, tokens_many}

-- the tokens of the text before the rest: what is put out for them, and what their brackets and their end do to the tokens of the rest
pub record Progress (text : List ℕ) (out : List Placed) (brackets : List Bracket) (ended : Bool) (rest : List ℕ) : Type 0 where
  pub done : List Piece
  pub cut : (ps : List Piece) (r : List ℕ) → Cuts (length text) rest ps r → Cuts (length text) text (done ++ ps) r
  pub put_out : (ps : List Piece) → with_breaks (done ++ ps) ≡ out ++ with_breaks_in brackets ended ps

-- nothing is cut yet
pub progress_begins : (text : List ℕ) → Progress text [] [] false text
progress_begins text = record { done = []; cut = λ ps r h. h; put_out = λ ps. refl }

module _ {text : List ℕ} {out : List Placed} {brackets : List Bracket} {ended : Bool} {rest : List ℕ} (so_far : Progress text out brackets ended rest) where
  -- one more token
  pub progress_more : (broken : Bool) (front after : List ℕ) (t : Token) → Blanks rest broken front → Spells front t after
      → Progress text (out ++ with_break brackets ended (piece_at (length text) broken t front)) (behind t brackets) (may_end t) after
  progress_more broken front after t blanks spells =
      let p : Piece = piece_at (length text) broken t front in
      record {
        done = so_far.done ++ p ∷ [];
        cut = λ ps r h. subst (λ l. Cuts (length text) text l r) (sym (append_assoc so_far.done (p ∷ []) ps)) (so_far.cut (p ∷ ps) r (cuts_more blanks spells h));
        put_out = λ ps. ap with_breaks (append_assoc so_far.done (p ∷ []) ps) ∙ so_far.put_out (p ∷ ps)
            ∙ sym (append_assoc out (with_break brackets ended p) (with_breaks_in (behind t brackets) (may_end t) ps));
      }

  -- what is put out is what the tokens so far give
  all_out : with_breaks (so_far.done ++ []) ≡ out
  all_out = so_far.put_out [] ∙ append-nil out

  -- the text ends
  pub progress_ends : {broken : Bool} → length text ≤ 65536 → length out ≤ 16384 → Blanks rest broken [] → Tokens text (Ok out)
  progress_ends short few blanks =
      subst (λ l. Tokens text (Ok l)) all_out (tokens_all short (so_far.cut [] rest cuts_none) blanks (omega (arith, ap length all_out)))

  -- a bad token stands in front
  pub progress_fails : {broken : Bool} {front : List ℕ} {f : TokenFault} → length text ≤ 65536 → length out ≤ 16384 → Blanks rest broken front → Spoils (length text) front f → Tokens text (Err f)
  progress_fails short few blanks spoils = tokens_fault short (so_far.cut [] rest cuts_none) blanks spoils (omega (arith, ap length all_out))

  -- there are too many tokens
  pub progress_stops : length text ≤ 65536 → 16384 < length out → Tokens text (Err fault.TooLong)
  progress_stops short many = tokens_many short (so_far.cut [] rest cuts_none) (omega (arith, ap length all_out))

  -- the fault of the token in front is the text's
  pub progress_blames : {broken : Bool} {front : List ℕ} (f : TokenFault) → length text ≤ 65536 → length out ≤ 16384 → Blanks rest broken front → Blames (length text) front f → Answers text (Err f)
  progress_blames (fault.BadCharacter o) short few blanks blame = progress_fails short few blanks blame
  progress_blames (fault.UnclosedText o) short few blanks blame = progress_fails short few blanks blame
  progress_blames (fault.BadEscape o) short few blanks blame = progress_fails short few blanks blame
  progress_blames (fault.IntegerTooLarge o) short few blanks blame = progress_fails short few blanks blame
  progress_blames fault.TooLong short few blanks blame = progress_fails short few blanks blame
  progress_blames fault.Memory short few blanks blame = tt

  -- one more token is too many, or memory ran out
  pub progress_refuses : (f : TokenFault) → length text ≤ 65536 → (f ≡ fault.Memory) ⊎ ((f ≡ fault.TooLong) × (16384 < length out)) → Answers text (Err f)
  progress_refuses f short (inl e) = subst (λ g. Answers text (Err g)) (sym e) tt
  progress_refuses f short (inr e) = subst (λ g. Answers text (Err g)) (sym e.0) (progress_stops short e.1)

  -- one more token, with what is put out for it
  pub progress_put : {put : List Placed} {open_now : List Bracket} {ends : Bool} (broken : Bool) (front after : List ℕ) (t : Token) (offset : ℕ) → Blanks rest broken front → Spells front t after → offset ≡ offset_of (length text) front
      → put ≡ out ++ with_break brackets ended (record { broken = broken; placed = record { token = t; offset = offset } }) → open_now ≡ behind t brackets → ends ≡ may_end t → Progress text put open_now ends after
  progress_put {put} {open_now} {ends} broken front after t offset blanks spells place output opens end =
      let whole = output ∙ ap (λ o. out ++ with_break brackets ended (record { broken = broken; placed = record { token = t; offset = o } })) place in
      subst (λ o. Progress text o open_now ends after) (sym whole)
      (subst (λ b. Progress text (out ++ with_break brackets ended (piece_at (length text) broken t front)) b ends after) (sym opens)
      (subst (λ e. Progress text (out ++ with_break brackets ended (piece_at (length text) broken t front)) (behind t brackets) e after) (sym end)
      (progress_more broken front after t blanks spells)))

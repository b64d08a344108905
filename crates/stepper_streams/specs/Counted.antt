-- What a clause reads of a reader or a writer whose failed calls are counted.
use Rattle.std.specs.Prelude.{◌≡◌, ℕ, ◌+◌, ◌%◌, ◌^◌, Result, MatchResult}
use Rattle.stepper_streams.specs.declared.counted.Counted.{Counted}

-- how many calls failed, modulo 2^64
abbrev pub failures : {T : Type 0} → Counted T → ℕ
failures c = c.failures

abbrev pub inner : {T : Type 0} → Counted T → T
inner c = c.inner

-- one call more failed
abbrev pub IsOneMore : ℕ → ℕ → Type 0
IsOneMore old new = new ≡ (old + 1) % 2 ^ 64

-- a call is counted where it failed, and only there
abbrev pub Counts : {A E : Type 0} → ℕ → ℕ → Result A E → Type 0
Counts old new r = MatchResult r (λ _. new ≡ old) (λ _. IsOneMore old new)

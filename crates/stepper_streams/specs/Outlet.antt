-- What was given to a writer, and what of it went out.
use Rattle.std.specs.Prelude.{◌≡◌, ℕ, Bool, true, false, List, [], ◌++◌, Option}
use Rattle.std.specs.Io.KnownBytes.{Appends}
use Rattle.stepper_streams.specs.Counted.{inner, failures, IsOneMore}
use Rattle.stepper_streams.specs.declared.outlet.Outlet.{Outlet}

-- what was given and did not go out yet
abbrev pub waiting : {W : Type 0} → Outlet W → List ℕ
waiting o = o.waiting.items

abbrev pub writer : {W : Type 0} → Outlet W → W
writer o = inner o.sink

-- how many writes failed, modulo 2^64
abbrev pub writes_failed : {W : Type 0} → Outlet W → ℕ
writes_failed o = failures o.sink

-- a write failed, and what is given now is lost
abbrev pub is_cut : {W : Type 0} → Outlet W → Bool
is_cut o = o.is_cut

-- the writer took a beginning of these bytes
pub record TakesSome (old new : Option (List ℕ)) (bytes : List ℕ) : Type 0 where
  pub front : List ℕ
  pub back : List ℕ
  pub out : Appends old new front
  pub whole : bytes ≡ front ++ back

module _ {W : Type 0} (contents : W → Option (List ℕ)) where
  -- these bytes are given behind what waits: a beginning of all that went out, and the rest waits
  pub record Gives (old new : Outlet W) (bytes : List ℕ) : Type 0 where
    pub front : List ℕ
    pub out : Appends (contents (writer old)) (contents (writer new)) front
    pub whole : waiting old ++ bytes ≡ front ++ waiting new
    pub none_failed : writes_failed new ≡ writes_failed old

  -- a write failed: of what waited, and these bytes behind it, a beginning went out, and the rest is lost
  pub record IsCutShort (old new : Outlet W) (bytes : List ℕ) : Type 0 where
    pub some : TakesSome (contents (writer old)) (contents (writer new)) (waiting old ++ bytes)
    pub none_waits : waiting new ≡ []
    pub one_failed : IsOneMore (writes_failed old) (writes_failed new)

  -- these bytes are given, or a write fails and cuts the outlet; where it was cut before nothing is done
  pub record Tells (old new : Outlet W) (bytes : List ℕ) : Type 0 where
    pub all : is_cut old ≡ false → is_cut new ≡ false → Gives old new bytes
    pub some : is_cut old ≡ false → is_cut new ≡ true → IsCutShort old new bytes
    pub none : is_cut old ≡ true → new ≡ old

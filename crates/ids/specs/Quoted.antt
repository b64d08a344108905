-- How a text is written, between quotation marks.
use Rattle.std.specs.Prelude.{ℕ, List, [], ◌∷◌, ◌++◌, ◌==◌, cond}
use Rattle.std.specs.List.{flat_map}

-- `"`, `\`, line feed, tab and carriage return behind a `\`, every other byte as it is
abbrev pub quoted_byte : ℕ → List ℕ
quoted_byte b =
    cond (b == 34) (92 ∷ 34 ∷ []) (cond (b == 92) (92 ∷ 92 ∷ []) (cond (b == 10) (92 ∷ 110 ∷ [])
    (cond (b == 9) (92 ∷ 116 ∷ []) (cond (b == 13) (92 ∷ 114 ∷ []) (b ∷ [])))))

abbrev pub quoted : List ℕ → List ℕ
quoted s = 34 ∷ (flat_map quoted_byte s ++ 34 ∷ [])

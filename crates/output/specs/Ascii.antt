-- A quoted text as the list of its characters' codes, so that definitions can show a format's own words.
use Rattle.std.specs.Prelude.{List, [], ◌∷◌, ℕ}
use Prim.Native.Char.{code}
use Prim.Native.String.{String, [] as none, ◌∷◌ as ◌before◌}

abbrev pub ascii : String → List ℕ
ascii none = []
ascii (◌before◌ c s) = code c ∷ ascii s

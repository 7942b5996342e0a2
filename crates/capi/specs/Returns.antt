-- What a function of the C interface does with an exporter's outcome.
use Rattle.std.specs.Prelude.{◌≡◌, Bool, cond, List, ℕ}
use Rattle.outcome.specs.Outcome.{Outcome, answer, left}

-- It returns the number, 0 for a text, stores the value that comes with it, and leaves the buffer as the outcome says.
pub record Returns (o : Outcome) (r : ℕ) (value : ℕ) (before after : List ℕ) : Type 0 where
  pub returned : r ≡ (answer o).number
  pub stored : value ≡ (answer o).value
  pub buffer : after ≡ left o before

-- A yes or no as C has it: 1 or 0.
abbrev pub flag : Bool → ℕ
flag b = cond b 1 0

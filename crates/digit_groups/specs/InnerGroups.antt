-- Digits in groups. No format is defined by it.
use Rattle.std.specs.Prelude.{List, ℕ, ◌+◌, ◌*◌}
use Rattle.output.specs.Pieces.{pieces}
use Rattle.digits.specs.Run.{run}
use Rattle.digit_groups.specs.declared.groups.DigitGroups.{DigitGroups}

-- The digits of group k.
abbrev pub group_of : DigitGroups → ℕ → List ℕ
group_of g k = run g.image.bytes.now g.image.len g.width.bits (g.from.0 + k * (g.size * g.width.bits)) g.size

-- n groups from group k on, each with the text that it is written as.
abbrev pub groups_from : (ℕ → List ℕ → List ℕ) → DigitGroups → ℕ → ℕ → List ℕ
groups_from text g k n = pieces (λ j. text (k + j) (group_of g (k + j))) n

-- The first n groups.
abbrev pub groups_text : (ℕ → List ℕ → List ℕ) → DigitGroups → ℕ → List ℕ
groups_text text g n = pieces (λ k. text k (group_of g k)) n

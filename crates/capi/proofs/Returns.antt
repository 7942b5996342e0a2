-- What an exporter promises is what the function over it returns and stores.
-- Assumes nothing.
use mathlib.Core.Path.{◌≡◌, ap, ◌∙◌}
use mathlib.Core.List.{List}
use Prim.Native.Nat.{ℕ}
use Rattle.std.specs.Prelude.{Result}
use Rattle.outcome.specs.declared.Refusal.{Refusal}
use Rattle.outcome.specs.Outcome.{Outcome, Answer, answer_of, Exports}
use Rattle.capi.specs.Returns.{Returns}

pub gives : {o : Outcome} {e : Result ℕ Refusal} {before after : List ℕ} {r v : ℕ}
    → Exports o e before after → (r ≡ (answer_of e).number) × (v ≡ (answer_of e).value) → Returns o r v before after
gives p q =
    record {
      returned = q.0 ∙ ap (λ (a : Answer). a.number) p.answered;
      stored = q.1 ∙ ap (λ (a : Answer). a.value) p.answered;
      buffer = p.buffer;
    }

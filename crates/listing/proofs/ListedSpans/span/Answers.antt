-- `listing::ListedSpans::span` meets its contract: an offset that is there has not the number of an absent one.
-- Assumes nothing.
use mathlib.Core.Path.{sym, ◌∙◌}
use Rattle.ordering.proofs.Numbered.{offset_there}
use Rattle.listing.proofs.ListedSpans.span.Goals as goal

pub invariant_of-result : goal.invariant_of-result
invariant_of-result c = record { there = λ x e. offset_there _ _ (sym c.offset_of.ensures ∙ e) }
